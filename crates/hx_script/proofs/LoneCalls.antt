-- What a line gives apart from a script is what it gives behind a session's calls.
use Rattle.std.proofs.Common.{◌≡◌, ◌≢◌, ℕ, ◌+◌, ◌*◌, ◌<◌, ◌≤◌, true, List, [], ◌∷◌, ◌++◌, length, Option, Some, None}
use Rattle.std.proofs.Common.{Result, Ok, Err, refl, sym, ap, ◌∙◌, subst, arith}
use Rattle.std.specs.Prelude.{nat_lt}
use Rattle.std.proofs.lemmas.Bool.{lt-ltb}
use Rattle.hx_lex.specs.Letters.{IsWord}
use Rattle.hx_lex.specs.Lines.{tokens_of}
use Rattle.hx_types.specs.declared.calls.Op.{Op}
use Rattle.hx_types.specs.declared.limits.TheConstants.{MOST_CALLS, MOST_SESSIONS}
use Rattle.hx_types.specs.declared.spaces.Space.{Space}
use Rattle.hx_types.specs.Spaces.{ArePart, Fits, IsSpace}
use Rattle.hx_types.specs.Subspaces.{region_count, sizes_sum}
use Rattle.hx_script.specs.declared.draft.Draft.{Draft}
use Rattle.hx_script.specs.declared.draft.Section.{Section}
use Rattle.hx_script.specs.declared.draft.Section.TheVariants as sections
use Rattle.hx_script.specs.declared.errors.Reason.{Reason}
use Rattle.hx_script.specs.declared.errors.Reason.TheVariants.{Order, Limit}
use Rattle.hx_script.specs.declared.keyword.Heading.{Heading}
use Rattle.hx_script.specs.declared.keyword.Heading.TheVariants as headings
use Rattle.hx_script.specs.declared.keyword.Keyword.{Keyword}
use Rattle.hx_script.specs.declared.keyword.Keyword.TheVariants as keywords
use Rattle.hx_script.specs.Calls.{call}
use Rattle.hx_script.specs.Grammar.{session_line, steps_line, push_to_last, call_line, heading_line, line_for, command, toks_from, line_of_toks, line_of}
use Rattle.hx_script.specs.Keywords.{keyword_of}
use Rattle.hx_script.specs.LoneCalls.{call_by, lone_call, op_of_toks, op_of_line, TakesCalls, with_call}
use Rattle.hx_script.specs.Readers.{on_ok, word}
use Rattle.hx_script.specs.Toks.{Tok, Word, Number, Text, Sign}
use Rattle.hx_script.proofs.FittingCalls.{yields_call}
use Rattle.hx_script.proofs.SoundTexts.{toks_sound}
use Rattle.hx_script.proofs.Takes.{on_ok_ok, ok_is}
use Rattle.hx_script.proofs.Yields.{AllToks, Yields, Any, yields_then, yields_give, yields_refuse, yields_check, yields_word, yields_number_in, yields_end}

-- ---- it fits the space

some_regions : (space : Space) → IsSpace space → 0 < region_count space
some_regions space is = some space.key_parts (sizes_sum space.subspaces) is.key_parts
  where
    some : (p q : ℕ) → ArePart p → 0 < p * 1 + q
    some p q part = omega (arith, part.0)

yields_by : (space : Space) (k : Option Keyword) → IsSpace space → Yields (call_by space k) (Fits space)
yields_by space (Some (keywords.Call w)) is = yields_call space (region_count space) w refl (some_regions space is)
yields_by space (Some (keywords.Heading h)) is = yields_refuse Order
yields_by space (Some (keywords.Step w)) is = yields_refuse Order
yields_by space None is = yields_refuse Order

yields_lone : (space : Space) → IsSpace space → Yields (lone_call space) (Fits space)
unfolding lone_call
yields_lone space is = yields_then IsWord yields_word (λ w i. yields_by space (keyword_of w) is)

pub lone_fits : (space : Space) (line : List ℕ) (op : Op) → IsSpace space → op_of_line space line ≡ Ok op → Fits space op
lone_fits space line op is e =
    let o = on_ok_ok (toks_from line (tokens_of line)) (op_of_toks space) op e in
    let x = on_ok_ok (lone_call space o.0) (λ (y : Op × List Tok). Ok y.0) op o.2 in
    subst (Fits space) (ok_is x.0.0 op x.2) ((yields_lone space is).at o.0 x.0 (toks_sound line (tokens_of line) o.0 refl o.1) x.1).0

-- ---- a call is read by both

line_takes : (n : ℕ) (d : Draft) (k : Option Keyword) (ts : List Tok) (x : Op × List Tok) → TakesCalls d
    → call_by d.space k ts ≡ Ok x → line_for n d sections.Calls k ts ≡ Ok (with_call d x.0, x.1)
unfolding call_line
line_takes n d (Some (keywords.Call w)) ts x t e = rw (lt-ltb d.calls MOST_CALLS t.room, t.regions, e) refl
line_takes n d (Some (keywords.Heading h)) ts x t e = absurd cc
line_takes n d (Some (keywords.Step w)) ts x t e = absurd cc
line_takes n d None ts x t e = absurd cc

command_takes : (n : ℕ) (d : Draft) (ts : List Tok) (x : Op × List Tok) → TakesCalls d → lone_call d.space ts ≡ Ok x
    → command n d ts ≡ Ok (with_call d x.0, x.1)
unfolding lone_call command
command_takes n d ts x t e =
    let o = on_ok_ok (word ts) (λ (y : List ℕ × List Tok). call_by d.space (keyword_of y.0) y.1) x e in
    rw o.1 (subst (λ (s : Section). line_for n d s (keyword_of o.0.0) o.0.1 ≡ Ok (with_call d x.0, x.1))
    (sym t.section) (line_takes n d (keyword_of o.0.0) o.0.1 x t o.2))

nothing_called : (space : Space) → lone_call space [] ≡ Err Order
unfolding lone_call
nothing_called space = refl

pub toks_take : (n : ℕ) (d : Draft) (ts : List Tok) (op : Op) → TakesCalls d → op_of_toks d.space ts ≡ Ok op → line_of_toks n d ts ≡ Ok (with_call d op)
toks_take n d [] op t e = absurd (let f : op_of_toks d.space [] ≡ Err Order = rw (nothing_called d.space) refl in cc)
toks_take n d (u ∷ ts) op t e =
    let x = on_ok_ok (lone_call d.space (u ∷ ts)) (λ (y : Op × List Tok). Ok y.0) op e in
    rw (command_takes n d (u ∷ ts) x.0 t x.1, ok_is x.0.0 op x.2) refl

pub line_takes_call : (n : ℕ) (d : Draft) (line : List ℕ) (op : Op) → TakesCalls d → op_of_line d.space line ≡ Ok op → line_of n d line ≡ Ok (with_call d op)
line_takes_call n d line op t e =
    let o = on_ok_ok (toks_from line (tokens_of line)) (op_of_toks d.space) op e in
    rw o.1 (toks_take n d o.0 op t o.2)

-- ---- a fault of a call is told by both

abbrev failed : {A : Type 0} → Reason → Result A Reason
failed r = Err r

same_fault : {A : Type 0} (q r : Reason) → failed {A = A} q ≡ Err r → q ≡ r
same_fault q r e = cc

err_of : {A B : Type 0} (read : Result A Reason) (f : A → B) (r : Reason) → on_ok read (λ x. Ok (f x)) ≡ Err r → read ≡ Err r
err_of (Ok x) f r e = absurd cc
err_of (Err q) f r e = ap (λ (p : Reason). failed p) (same_fault q r e)

line_fails : (n : ℕ) (d : Draft) (k : Option Keyword) (ts : List Tok) (r : Reason) → TakesCalls d → r ≢ Order
    → call_by d.space k ts ≡ Err r → line_for n d sections.Calls k ts ≡ Err r
unfolding call_line
line_fails n d (Some (keywords.Call w)) ts r t other e = rw (lt-ltb d.calls MOST_CALLS t.room, t.regions, e) refl
line_fails n d (Some (keywords.Heading h)) ts r t other e = absurd (other (sym (same_fault {A = Op × List Tok} Order r e)))
line_fails n d (Some (keywords.Step w)) ts r t other e = absurd (other (sym (same_fault {A = Op × List Tok} Order r e)))
line_fails n d None ts r t other e = absurd (other (sym (same_fault {A = Op × List Tok} Order r e)))

command_fails : (n : ℕ) (d : Draft) (ts : List Tok) (r : Reason) → TakesCalls d → r ≢ Order → lone_call d.space ts ≡ Err r → command n d ts ≡ Err r
unfolding lone_call command
command_fails n d [] r t other e = absurd (other (sym (same_fault {A = Op × List Tok} Order r e)))
command_fails n d (Word w ∷ ts) r t other e = subst (λ (s : Section). line_for n d s (keyword_of w) ts ≡ Err r)
    (sym t.section) (line_fails n d (keyword_of w) ts r t other e)
command_fails n d (Number m ∷ ts) r t other e = absurd (other (sym (same_fault {A = Op × List Tok} Order r e)))
command_fails n d (Text b ∷ ts) r t other e = absurd (other (sym (same_fault {A = Op × List Tok} Order r e)))
command_fails n d (Sign b ∷ ts) r t other e = absurd (other (sym (same_fault {A = Op × List Tok} Order r e)))

toks_fail : (n : ℕ) (d : Draft) (ts : List Tok) (r : Reason) → TakesCalls d → r ≢ Order → op_of_toks d.space ts ≡ Err r → line_of_toks n d ts ≡ Err r
toks_fail n d [] r t other e = absurd (other (let f : failed {A = Op} Order ≡ Err r = rw (nothing_called d.space) at e in sym (same_fault Order r f)))
toks_fail n d (u ∷ ts) r t other e = rw (command_fails n d (u ∷ ts) r t other (err_of (lone_call d.space (u ∷ ts)) (λ (y : Op × List Tok). y.0) r e)) refl

pub line_refuses_call : (n : ℕ) (d : Draft) (line : List ℕ) (r : Reason) → TakesCalls d → r ≢ Order → op_of_line d.space line ≡ Err r → line_of n d line ≡ Err r
line_refuses_call n d line r t other e = by_toks (toks_from line (tokens_of line)) e
  where
    by_toks : (read : Result (List Tok) Reason) → on_ok read (op_of_toks d.space) ≡ Err r → on_ok read (line_of_toks n d) ≡ Err r
    by_toks (Ok ts) e = toks_fail n d ts r t other e
    by_toks (Err q) e = ap (λ (p : Reason). failed p) (same_fault q r e)

-- ---- nothing else adds a call

abbrev KeepsCount : ℕ → Draft → Type 0
KeepsCount calls d = d.calls ≡ calls

yields_session : (d : Draft) → Yields (session_line d) (KeepsCount d.calls)
unfolding session_line
yields_session d = yields_then (λ u. nat_lt (length d.sessions) MOST_SESSIONS ≡ true)
    (yields_check (nat_lt (length d.sessions) MOST_SESSIONS) Limit)
    (λ u room. yields_then (λ n. (length d.sessions + 1 ≤ n) × (n ≤ length d.sessions + 1))
    (yields_number_in (length d.sessions + 1) (length d.sessions + 1))
    (λ n h. yields_then Any yields_end (λ u t. yields_give
    (record d { section = sections.Calls; sessions = d.sessions ++ [] ∷ [] }) refl)))

yields_steps : (d : Draft) → Yields (steps_line d) (KeepsCount d.calls)
unfolding steps_line
yields_steps d = yields_then Any yields_end (λ u t. yields_give (record d { section = sections.Steps }) refl)

yields_heading : (d : Draft) (h : Heading) → Yields (heading_line d sections.Calls h) (KeepsCount d.calls)
yields_heading d headings.Hx = yields_refuse Order
yields_heading d headings.Space = yields_refuse Order
yields_heading d headings.Key = yields_refuse Order
yields_heading d headings.String = yields_refuse Order
yields_heading d headings.Int = yields_refuse Order
yields_heading d headings.Subspace = yields_refuse Order
yields_heading d headings.Servers = yields_refuse Order
yields_heading d headings.Tolerate = yields_refuse Order
yields_heading d headings.Session = yields_session d
yields_heading d headings.Steps = yields_steps d

first_is : {A : Type 0} (x y : A) (xs ys : List A) → x ∷ xs ≡ y ∷ ys → x ≡ y
first_is x y xs ys e = cc

rest_is : {A : Type 0} (x y : A) (xs ys : List A) → x ∷ xs ≡ y ∷ ys → xs ≡ ys
rest_is x y xs ys e = cc

push_is : {A : Type 0} (xs : List A) (x y : A) → xs ++ x ∷ [] ≡ xs ++ y ∷ [] → x ≡ y
push_is [] x y e = first_is x y [] [] e
push_is (z ∷ xs) x y e = push_is xs x y (rest_is z z (xs ++ x ∷ []) (xs ++ y ∷ []) e)

-- the last list isn't empty, so its last item is the one that was put there
last_is : {A : Type 0} (lists : List (List A)) (x y : A) → 0 < length lists → push_to_last lists x ≡ push_to_last lists y → x ≡ y
last_is [] x y some e = absurd (omega arith)
last_is (xs ∷ []) x y some e = push_is xs x y (first_is (xs ++ x ∷ []) (xs ++ y ∷ []) [] [] e)
last_is (xs ∷ ys ∷ rest) x y some e = last_is (ys ∷ rest) x y (omega arith) (rest_is xs xs (push_to_last (ys ∷ rest) x) (push_to_last (ys ∷ rest) y) e)

one_call : (d : Draft) (op added : Op) → 0 < length d.sessions → with_call d op ≡ with_call d added → op ≡ added
one_call d op added some e = last_is d.sessions op added some (ap (λ (x : Draft). x.sessions) e)

one_more : (d : Draft) (op : Op) → d ≡ with_call d op → ⊥
one_more d op e = let k : d.calls ≡ d.calls + 1 = ap (λ (x : Draft). x.calls) e in omega (arith, k)

abbrev gave : Draft × List Tok → Result (Draft × List Tok) Reason
gave x = Ok x

-- the call that a line added, with the tokens behind it
record Added (d : Draft) (op : Op) (k : Option Keyword) (ts : List Tok) : Type 0 where
  rest : List Tok
  read : call_by d.space k ts ≡ Ok (op, rest)

line_adds : (n : ℕ) (d : Draft) (k : Option Keyword) (ts : List Tok) (op : Op) (x : Draft × List Tok) → TakesCalls d
    → 0 < length d.sessions → AllToks ts → line_for n d sections.Calls k ts ≡ Ok x → x.0 ≡ with_call d op → Added d op k ts
unfolding call_line
line_adds n d (Some (keywords.Call w)) ts op x t some all e f =
    let g : on_ok (call d.space d.regions w ts) (λ (y : Op × List Tok). gave (with_call d y.0, y.1)) ≡ Ok x = rw (lt-ltb d.calls MOST_CALLS t.room) at e in
    let o = on_ok_ok (call d.space d.regions w ts) (λ (y : Op × List Tok). gave (with_call d y.0, y.1)) x g in
    let made : with_call d o.0.0 ≡ with_call d op = ap (λ (y : Draft × List Tok). y.0) (ok_is (with_call d o.0.0, o.0.1) x o.2) ∙ f in
    let same : o.0.0 ≡ op = one_call d o.0.0 op some made in
    record {
      rest = o.0.1;
      read = subst (λ (r : ℕ). call d.space r w ts ≡ Ok (op, o.0.1)) t.regions (subst (λ (y : Op). call d.space d.regions w ts ≡ Ok (y, o.0.1)) same o.1);
    }
line_adds n d (Some (keywords.Heading h)) ts op x t some all e f =
    let k : x.0.calls ≡ d.calls = ((yields_heading d h).at ts x all e).0 in
    let m : x.0.calls ≡ d.calls + 1 = ap (λ (y : Draft). y.calls) f in
    absurd (omega (arith, k, m))
line_adds n d (Some (keywords.Step w)) ts op x t some all e f = absurd cc
line_adds n d None ts op x t some all e f = absurd cc

toks_add : (n : ℕ) (d : Draft) (ts : List Tok) (op : Op) → TakesCalls d → 0 < length d.sessions → AllToks ts
    → line_of_toks n d ts ≡ Ok (with_call d op) → op_of_toks d.space ts ≡ Ok op
unfolding command lone_call
toks_add n d [] op t some all e = absurd (one_more d op (ok_is d (with_call d op) e))
toks_add n d (u ∷ ts) op t some all e =
    let o = on_ok_ok (command n d (u ∷ ts)) (λ (x : Draft × List Tok). Ok x.0) (with_call d op) e in
    let p = on_ok_ok (word (u ∷ ts)) (λ (y : List ℕ × List Tok). line_for n d d.section (keyword_of y.0) y.1) o.0 o.1 in
    let left : AllToks p.0.1 = (yields_word.at (u ∷ ts) p.0 all p.1).1 in
    let read : line_for n d sections.Calls (keyword_of p.0.0) p.0.1 ≡ Ok o.0 =
    subst (λ (s : Section). line_for n d s (keyword_of p.0.0) p.0.1 ≡ Ok o.0) t.section p.2 in
    let a = line_adds n d (keyword_of p.0.0) p.0.1 op o.0 t some left read (ok_is o.0.0 (with_call d op) o.2) in
    rw (p.1, a.read) refl

pub line_adds_call : (n : ℕ) (d : Draft) (line : List ℕ) (op : Op) → TakesCalls d → 0 < length d.sessions
    → line_of n d line ≡ Ok (with_call d op) → op_of_line d.space line ≡ Ok op
line_adds_call n d line op t some e =
    let o = on_ok_ok (toks_from line (tokens_of line)) (line_of_toks n d) (with_call d op) e in
    rw o.1 (toks_add n d o.0 op t some (toks_sound line (tokens_of line) o.0 refl o.1) o.2)
