-- The lines of a run's calls are lines of a report, and ascend.
use Rattle.hx_law_lemmas.proofs.Lemmas.Vocabulary.{[], All, and_from, Answer, ap, append-nil, append_assoc, arith, begin_of, below, Bool, CallEnd, Caller}
use Rattle.hx_law_lemmas.proofs.Lemmas.Vocabulary.{callers_of, calls_of, cond, Entry, eq-eqb, eqb, false, Fits, flat_map, inl, inr, is_doubt, is_some, IsIn}
use Rattle.hx_law_lemmas.proofs.Lemmas.Vocabulary.{IsRun, IsScript, length, List, list_of, lt-ltb, ltb, map, map-append, no_version, None, not, note_of_end}
use Rattle.hx_law_lemmas.proofs.Lemmas.Vocabulary.{numbered, Op, Option, option_map, or_left, or_right, record_at, record_of, refl, Script, Search, Some, subst}
use Rattle.hx_law_lemmas.proofs.Lemmas.Vocabulary.{suc, sum_by-cons, sym, true, Version, when_some, zero, ℕ, ◌&&◌, ◌++◌, ◌+◌, ◌<◌, ◌^◌, ◌∙◌, ◌∷◌, ◌≡◌, ◌≤◌}
use Rattle.std.specs.Prelude.{sum_by}
use Rattle.hx_law_texts.specs.Sayable.{CallIsSayable, IsSayableScript}
use Rattle.hx_law_lemmas.proofs.Lemmas.{Pairwise, all-of, in-below, in-flat_map, in-map, in-slice_get, pairwise-append, BeganAt, EndedAt, began_at, ended_at}
use Rattle.hx_law_searches.proofs.Lemmas.{runs_fit}
use Rattle.hx_report_lines.specs.declared.calls.CallLine.{CallLine}
use Rattle.hx_report_lines.specs.Values.{Ascends, AscendsFrom, IsCallOf, IsCaller, MaybeAnswerOf, MaybeIs64, VersionBy, VersionFits, caller_below, has_end}
use Rattle.hx_report_lines.specs.Values.{names_version}
use Rattle.hx_law_audit.proofs.RunAnswers.{answer_good, op_good}
use Rattle.hx_law_audit.proofs.RunEnds.{ends_sound}
use Rattle.hx_law_audit.proofs.RunLines.{IsLineOf, call_line, call_lines, line_in, op_in, sure, version_by, version_of}
use Rattle.hx_law_audit.proofs.RunNotes.{began_called}

-- ---- numbers

began_low : (t : List Entry) (c : Caller) (n : ℕ) → BeganAt t c n → n ≤ length t
began_low [] c n h = absurd h
began_low (x ∷ older) c n (inl h) = let e = h.2 in omega (arith, e)
began_low (x ∷ older) c n (inr h) = let l = began_low older c n h in omega (arith, l)

ended_low : (t : List Entry) (c : Caller) (v : Version) (a : Answer) (n : ℕ) → EndedAt t c v a n → n ≤ length t
ended_low [] c v a n h = absurd h
ended_low (x ∷ older) c v a n (inl h) = let e = h.2 in omega (arith, e)
ended_low (x ∷ older) c v a n (inr h) = let l = ended_low older c v a n h in omega (arith, l)

in_sum : (sessions : List (List Op)) (calls : List Op) → IsIn calls sessions → length calls ≤ sum_by (λ (l : List Op). length l) sessions
in_sum [] calls i = absurd i
in_sum (x ∷ sessions) calls (inl e) = let q = ap (λ (l : List Op). length l) e in
    let d = sum_by-cons (λ (l : List Op). length l) x sessions in omega (arith, q, d)
in_sum (x ∷ sessions) calls (inr i) = let r = in_sum sessions calls i in let d = sum_by-cons (λ (l : List Op). length l) x sessions in omega (arith, r, d)

-- the callers of a session
abbrev of_session : Script → ℕ → List Caller
of_session script u = map (λ n. record { session = record { 0 = u + 1 }; number = n + 1 }) (below (length (calls_of script (record { 0 = u + 1 }))))

calls_few : (script : Script) → IsScript script → (u : ℕ) → length (calls_of script (record { 0 = u + 1 })) ≤ 16384
calls_few script valid u = by (numbered script.sessions (u + 1)) refl
  where
    some_in : (n : ℕ) (calls : List Op) → numbered script.sessions n ≡ Some calls → IsIn calls script.sessions
    some_in zero calls e = absurd (cc)
    some_in (suc n) calls e = in-slice_get script.sessions n calls e

    by : (o : Option (List Op)) → numbered script.sessions (u + 1) ≡ o → length (when_some o [] (λ (calls : List Op). calls)) ≤ 16384
    by None e = omega arith
    by (Some calls) e = let l = in_sum script.sessions calls (some_in (u + 1) calls e) in let m = valid.few_calls in omega (arith, l, m)

pub caller_small : (script : Script) → IsScript script → (c : Caller) → IsIn c (callers_of script) → IsCaller c
caller_small script valid c i =
    let f = in-flat_map (of_session script) (below (length script.sessions)) c i in
    let m = in-map (λ n. record { session = record { 0 = f.0 + 1 }; number = n + 1 }) (below (length (calls_of script (record { 0 = f.0 + 1 })))) c f.2 in
    let u = in-below (length script.sessions) f.0 f.1 in
    let n = in-below (length (calls_of script (record { 0 = f.0 + 1 }))) m.0 m.1 in
    let few = calls_few script valid f.0 in
    let sessions = valid.sessions in
    subst IsCaller (sym m.2)
    (record {
      session = (omega arith, (let l : f.0 + 1 ≤ 16 = omega (arith, u, sessions) in small (f.0 + 1) (omega (arith, l))));
      number = (omega arith, (let l : m.0 + 1 ≤ 16384 = omega (arith, n, few) in small (m.0 + 1) l));
    })
  where
    small : (k : ℕ) → k ≤ 16384 → k < 2 ^ 32
    small k l = omega (arith, l)

-- ---- order

abbrev IsBelow : Caller → Caller → Type 0
IsBelow a b = caller_below a b ≡ true

lower_session : (a b : Caller) → a.session.0 < b.session.0 → IsBelow a b
lower_session a b l = or_left (ltb a.session.0 b.session.0) (eqb a.session.0 b.session.0 && ltb a.number b.number) (lt-ltb a.session.0 b.session.0 l)

lower_number : (a b : Caller) → a.session.0 ≡ b.session.0 → a.number < b.number → IsBelow a b
lower_number a b e l =
    or_right (ltb a.session.0 b.session.0) (eqb a.session.0 b.session.0 && ltb a.number b.number)
    (and_from (eqb a.session.0 b.session.0) (ltb a.number b.number) (eq-eqb a.session.0 b.session.0 e) (lt-ltb a.number b.number l))

flat_more : {A B : Type 0} (f : A → List B) (xs : List A) (y : A) → flat_map f (xs ++ y ∷ []) ≡ flat_map f xs ++ f y
flat_more f [] y = append-nil (f y)
flat_more f (x ∷ xs) y = ap (λ l. f x ++ l) (flat_more f xs y) ∙ sym (append_assoc (f x) (flat_map f xs) (f y))

session_ascends : (u m : ℕ) → Pairwise IsBelow (map (λ n. record { session = record { 0 = u + 1 }; number = n + 1 }) (below m))
session_ascends u zero = tt
session_ascends u (suc m) =
    subst (Pairwise IsBelow) (sym (map-append at (below m) (m ∷ [])))
    (pairwise-append IsBelow (map at (below m)) (at m ∷ []) (session_ascends u m) ((λ x i. absurd i), tt)
    (λ z x i j. elim j [
      | inl e ↦ (let k = in-map at (below m) z i in let b = in-below m k.0 k.1 in
          subst (IsBelow z) (sym e) (subst (λ (w : Caller). IsBelow w (at m)) (sym k.2) (lower_number (at k.0) (at m) refl (omega (arith, b)))))
      | inr k ↦ absurd k
    ]))
  where
    at : ℕ → Caller
    at n = record { session = record { 0 = u + 1 }; number = n + 1 }

all_ascend : (script : Script) (k : ℕ) → Pairwise IsBelow (flat_map (of_session script) (below k))
all_ascend script zero = tt
all_ascend script (suc k) =
    subst (Pairwise IsBelow) (sym (flat_more (of_session script) (below k) k))
    (pairwise-append IsBelow (flat_map (of_session script) (below k)) (of_session script k) (all_ascend script k)
    (session_ascends k (length (calls_of script (record { 0 = k + 1 }))))
    (λ z x i j. (let f = in-flat_map (of_session script) (below k) z i in
    let m = in-map (λ n. record { session = record { 0 = f.0 + 1 }; number = n + 1 }) (below (length (calls_of script (record { 0 = f.0 + 1 })))) z f.2 in
    let n = in-map (λ n. record { session = record { 0 = k + 1 }; number = n + 1 }) (below (length (calls_of script (record { 0 = k + 1 })))) x j in
    let b = in-below k f.0 f.1 in
    let p = ap (λ (w : Caller). w.session.0) m.2 in
    let q = ap (λ (w : Caller). w.session.0) n.2 in
    lower_session z x (omega (arith, b, p, q)))))

-- the callers of lines are some of these
abbrev lines_of : Script → List Entry → List Caller → List CallLine
lines_of script trace cs = map (call_line script) (flat_map (record_of trace) cs)

abbrev caller_of : CallLine → Caller
caller_of l = l.caller

caller_among : (script : Script) (trace : List Entry) (cs : List Caller) (c : Caller) → IsIn c (map caller_of (lines_of script trace cs)) → IsIn c cs
caller_among script trace [] c i = absurd i
caller_among script trace (d ∷ cs) c i = by (λ j. caller_among script trace cs c j) (begin_of d trace) i
  where
    by : (IsIn c (map caller_of (lines_of script trace cs)) → IsIn c cs) → (o : Option ℕ)
        → IsIn c (map caller_of (map (call_line script) (list_of (option_map (record_at d trace) o) ++ flat_map (record_of trace) cs))) → IsIn c (d ∷ cs)
    by later None j = inr (later j)
    by later (Some n) (inl e) = inl e
    by later (Some n) (inr j) = inr (later j)

lines_ascend : (script : Script) (trace : List Entry) (cs : List Caller) → Pairwise IsBelow cs → Pairwise IsBelow (map caller_of (lines_of script trace cs))
lines_ascend script trace [] h = tt
lines_ascend script trace (d ∷ cs) h = by (lines_ascend script trace cs h.1) (begin_of d trace)
  where
    by : Pairwise IsBelow (map caller_of (lines_of script trace cs)) → (o : Option ℕ)
        → Pairwise IsBelow (map caller_of (map (call_line script) (list_of (option_map (record_at d trace) o) ++ flat_map (record_of trace) cs)))
    by later None = later
    by later (Some n) = ((λ x i. h.0 x (caller_among script trace cs x i)), later)

-- who stands below all that follow stands below the next
pub ascends_from : {A : Type 0} (below : A → A → Bool) (last : Option A) (xs : List A)
    → ((m : A) → last ≡ Some m → (x : A) → IsIn x xs → below m x ≡ true) → Pairwise (λ a b. below a b ≡ true) xs
    → AscendsFrom below last xs
ascends_from below last [] from h = tt
ascends_from below None (x ∷ xs) from h = (
  refl,
  ascends_from below (Some x) xs (λ m e y i. let q : x ≡ m = cc in subst (λ k. below k y ≡ true) q (h.0 y i)) h.1,
)
ascends_from below (Some m) (x ∷ xs) from h = (
  from m refl x (inl refl),
  ascends_from below (Some x) xs (λ k e y i. let q : x ≡ k = cc in subst (λ j. below j y ≡ true) q (h.0 y i)) h.1,
)

pub calls_ascend : (script : Script) (trace : List Entry) → Ascends caller_below (map (λ (l : CallLine). l.caller) (call_lines script trace))
calls_ascend script trace =
    ascends_from caller_below None (map caller_of (call_lines script trace)) (λ m e. absurd (cc))
    (lines_ascend script trace (callers_of script) (all_ascend script (length script.sessions)))

-- ---- each line

module _ (script : Script) (valid : IsScript script) (said : IsSayableScript script) (trace : List Entry)
    (run : IsRun script trace) (few : length trace + 1 < 2 ^ 64) where
  -- what stands of an end
  ended_is : (c : Caller) (o : Option CallEnd) → note_of_end c trace ≡ o
      → MaybeIs64 (option_map (λ (e : CallEnd). e.entry) (when_some o None sure))
      × (is_some (option_map (λ (e : CallEnd). e.entry) (when_some o None sure)) ≡ has_end (option_map (λ (e : CallEnd). e.answer) o))
      × VersionFits (option_map (λ (e : CallEnd). e.answer) o)
      (version_of (option_map (λ (e : CallEnd). e.answer) o) (when_some o no_version (λ (e : CallEnd). e.version)))
      × MaybeAnswerOf script.space (option_map (λ (e : CallEnd). e.answer) o)
  ended_is c None q = (tt, refl, refl, tt)
  ended_is c (Some e) q =
      let h = ended_at c trace e q in
      let s = ends_sound script valid trace run c e.version e.answer e.entry h in
      let v = s.2.0 in
      let n = ended_low trace c e.version e.answer e.entry h in (
        small e (is_doubt e.answer) (omega (arith, n, few)),
        ends e (is_doubt e.answer),
        version e (names_version e.answer) (omega (arith, v, few)),
        answer_good script valid said trace run few c e.version e.answer e.entry h,
      )
    where
      small : (e : CallEnd) (b : Bool) → e.entry < 2 ^ 64 → MaybeIs64 (option_map (λ (x : CallEnd). x.entry) (cond b None (Some e)))
      small e true l = tt
      small e false l = l

      ends : (e : CallEnd) (b : Bool) → is_some (option_map (λ (x : CallEnd). x.entry) (cond b None (Some e))) ≡ not b
      ends e true = refl
      ends e false = refl

      version : (e : CallEnd) (b : Bool) → e.version.0 < 2 ^ 64 → VersionBy b (version_by b e.version)
      version e true l = l
      version e false l = refl

  line_good : (l : CallLine) → IsLineOf script trace l → IsCallOf script.space l
  line_good l of =
      let c = of.caller in
      let n = of.entry in
      let called = began_called script trace (runs_fit script valid trace run) c n (began_at c trace n of.began) in
      let good = op_good script valid said trace run c called.0 called.1 in
      let same : called.0 ≡ op_in script c = sym (ap (λ o. when_some o (Search []) (λ (op : Op). op)) called.1) in
      let low = began_low trace c n (began_at c trace n of.began) in
      let end = ended_is c (note_of_end c trace) refl in
      subst (IsCallOf script.space) (sym of.is)
      (record {
        caller = caller_small script valid c of.known;
        begin = omega (arith, low, few);
        end = end.0;
        ended = end.1;
        op = subst (Fits script.space) same good.0;
        said = subst CallIsSayable same good.1;
        version = end.2;
        answer = end.3;
      })

  pub calls_good : All (IsCallOf script.space) (call_lines script trace)
  calls_good = all-of (IsCallOf script.space) (call_lines script trace) (λ l i. line_good l (line_in script trace l i))
