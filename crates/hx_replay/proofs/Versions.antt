-- A text that is the script of one space says version 1.
use Rattle.std.proofs.Common.{◌≡◌, ◌≤◌, ◌∙◌, ◌+◌, ◌&&◌, ℕ, pos, negsuc, Bool, true, false, cond, List, [], ◌∷◌, Option, Some, None, refl, ap, arith}
use Rattle.std.specs.Prelude.{Result, Ok, Err, codes, nat_le}
use Rattle.std.specs.Str.{bytes_eq}
use Rattle.std.proofs.lemmas.Bool.{leb-true}
use Rattle.hx_lex.specs.Lines.{tokens_of}
use Rattle.hx_model.specs.Types.{Script}
use Rattle.hx_script.specs.declared.draft.Draft.{Draft}
use Rattle.hx_script.specs.declared.draft.Section.TheVariants as sections
use Rattle.hx_script.specs.declared.errors.Reason.{Reason}
use Rattle.hx_script.specs.declared.errors.Reason.TheVariants.{Bounds}
use Rattle.hx_script.specs.declared.errors.ScriptError.{ScriptError}
use Rattle.hx_script.specs.declared.keyword.CallWord.{CallWord}
use Rattle.hx_script.specs.declared.keyword.Heading.{Heading}
use Rattle.hx_script.specs.declared.keyword.Heading.TheVariants as headings
use Rattle.hx_script.specs.declared.keyword.Keyword.{Keyword}
use Rattle.hx_script.specs.declared.keyword.Keyword.TheVariants as keywords
use Rattle.hx_script.specs.declared.keyword.StepWord.{StepWord}
use Rattle.hx_script.specs.BundleTexts.{version_by, version_from, version_line, version_of}
use Rattle.hx_script.specs.Grammar.{command, hx_line, line_for, line_of_toks, toks_from}
use Rattle.hx_script.specs.Keywords.{call_word_of, heading_of, keyword_of, or_call, or_heading, or_step, step_word_of}
use Rattle.hx_script.specs.Readers.{check, end, give, number_in, on_ok}
use Rattle.hx_script.specs.Texts.{at_line, empty_draft, lines_of, read_lines, script_of}
use Rattle.hx_script.specs.Toks.{Tok, Word, Number, Text, Sign}

-- ---- the line behind its first word
and_parts : (a b : Bool) → (a && b) ≡ true → (a ≡ true) × (b ≡ true)
and_parts true b e = (refl, e)
and_parts false b e = absurd (cc)

only_one : (m : ℕ) → (nat_le 1 m && nat_le m 1) ≡ true → m ≡ 1
only_one m e =
    let parts = and_parts (nat_le 1 m) (nat_le m 1) e in
    let low : 1 ≤ m = leb-true 1 m parts.0 in
    let high : m ≤ 1 = leb-true m 1 parts.1 in
    omega (arith, low, high)

-- what stands behind a number that was read
nothing_left : (ts : List Tok) (d : Draft) (x : Draft × List Tok) → on_ok (end ts) (λ u. give d u.1) ≡ Ok x → ts ≡ []
nothing_left [] d x e = refl
nothing_left (t ∷ ts) d x e = absurd (cc)

by_test : (b : Bool) (m : ℕ) (ts : List Tok) (d : Draft) (x : Draft × List Tok) → (b ≡ true → m ≡ 1)
    → on_ok (on_ok (check b Bounds ts) (λ w. give m w.1)) (λ y. on_ok (end y.1) (λ u. give d u.1)) ≡ Ok x → Number (pos m) ∷ ts ≡ Number (pos 1) ∷ []
by_test true m ts d x one e =
    let none = nothing_left ts d x e in
    ap (λ (l : List Tok). Number (pos m) ∷ l) none ∙ ap (λ (n : ℕ). Number (pos n) ∷ []) (one refl)
by_test false m ts d x one e = absurd (cc)

shape : (ts : List Tok) (x : Draft × List Tok) → hx_line empty_draft ts ≡ Ok x → ts ≡ Number (pos 1) ∷ []
unfolding hx_line number_in
shape [] x e = absurd (cc)
shape (Word w ∷ ts) x e = absurd (cc)
shape (Number (pos m) ∷ ts) x e = by_test (nat_le 1 m && nat_le m 1) m ts (record empty_draft { section = sections.Naming }) x (only_one m) e
shape (Number (negsuc m) ∷ ts) x e = absurd (cc)
shape (Text t ∷ ts) x e = absurd (cc)
shape (Sign s ∷ ts) x e = absurd (cc)

-- ---- its first word
no_hx : (a b c d e f g h i : Bool)
    → cond a (Some headings.Space) (cond b (Some headings.Key) (cond c (Some headings.String) (cond d (Some headings.Int) (cond e (Some headings.Subspace)
    (cond f (Some headings.Servers) (cond g (Some headings.Tolerate)
    (cond h (Some headings.Session) (cond i (Some headings.Steps) None)))))))) ≡ Some headings.Hx → ⊥
no_hx true b c d e f g h i is = absurd (cc)
no_hx false true c d e f g h i is = absurd (cc)
no_hx false false true d e f g h i is = absurd (cc)
no_hx false false false true e f g h i is = absurd (cc)
no_hx false false false false true f g h i is = absurd (cc)
no_hx false false false false false true g h i is = absurd (cc)
no_hx false false false false false false true h i is = absurd (cc)
no_hx false false false false false false false true i is = absurd (cc)
no_hx false false false false false false false false true is = absurd (cc)
no_hx false false false false false false false false false is = absurd (cc)

heading_hx : (w : List ℕ) → heading_of w ≡ Some headings.Hx → bytes_eq w (codes "hx") ≡ true
heading_hx w is = by (bytes_eq w (codes "hx")) refl is
  where
    rest : Option Heading
    rest =
        cond (bytes_eq w (codes "space")) (Some headings.Space)
        (cond (bytes_eq w (codes "key")) (Some headings.Key) (cond (bytes_eq w (codes "string")) (Some headings.String)
        (cond (bytes_eq w (codes "int")) (Some headings.Int)
        (cond (bytes_eq w (codes "subspace")) (Some headings.Subspace)
        (cond (bytes_eq w (codes "servers")) (Some headings.Servers)
        (cond (bytes_eq w (codes "tolerate")) (Some headings.Tolerate)
        (cond (bytes_eq w (codes "session")) (Some headings.Session) (cond (bytes_eq w (codes "steps")) (Some headings.Steps) None))))))))

    by : (b : Bool) → bytes_eq w (codes "hx") ≡ b → cond b (Some headings.Hx) rest ≡ Some headings.Hx → bytes_eq w (codes "hx") ≡ true
    by true same e = same
    by false same e =
        absurd (no_hx (bytes_eq w (codes "space")) (bytes_eq w (codes "key")) (bytes_eq w (codes "string"))
        (bytes_eq w (codes "int")) (bytes_eq w (codes "subspace"))
        (bytes_eq w (codes "servers")) (bytes_eq w (codes "tolerate")) (bytes_eq w (codes "session")) (bytes_eq w (codes "steps")) e)

same_heading : (h : Heading) → Some (keywords.Heading h) ≡ Some (keywords.Heading headings.Hx) → h ≡ headings.Hx
same_heading h e = cc

no_other_word : (c : Option CallWord) (s : Option StepWord) → or_call c (or_step s) ≡ Some (keywords.Heading headings.Hx) → ⊥
no_other_word (Some c) s e = absurd (cc)
no_other_word None (Some s) e = absurd (cc)
no_other_word None None e = absurd (cc)

keyword_hx : (w : List ℕ) → keyword_of w ≡ Some (keywords.Heading headings.Hx) → bytes_eq w (codes "hx") ≡ true
keyword_hx w is = by (heading_of w) refl is
  where
    by : (o : Option Heading) → heading_of w ≡ o → or_heading o (or_call (call_word_of w) (or_step (step_word_of w)))
        ≡ Some (keywords.Heading headings.Hx) → bytes_eq w (codes "hx") ≡ true
    by (Some h) same e = heading_hx w (same ∙ ap (λ (x : Heading). Some x) (same_heading h e))
    by None same e = absurd (no_other_word (call_word_of w) (step_word_of w) e)

-- the first line is that of `hx`
pub record IsFirstLine (n : ℕ) (k : Option Keyword) (ts : List Tok) (x : Draft × List Tok) : Type 0 where
  pub keyword : k ≡ Some (keywords.Heading headings.Hx)
  pub line : hx_line empty_draft ts ≡ Ok x

first_line : (n : ℕ) (k : Option Keyword) (ts : List Tok) (x : Draft × List Tok) → line_for n empty_draft sections.Start k ts ≡ Ok x → IsFirstLine n k ts x
first_line n None ts x e = absurd (cc)
first_line n (Some (keywords.Call c)) ts x e = absurd (cc)
first_line n (Some (keywords.Step s)) ts x e = absurd (cc)
first_line n (Some (keywords.Heading headings.Hx)) ts x e = record { keyword = refl; line = e }
first_line n (Some (keywords.Heading headings.Space)) ts x e = absurd (cc)
first_line n (Some (keywords.Heading headings.Key)) ts x e = absurd (cc)
first_line n (Some (keywords.Heading headings.String)) ts x e = absurd (cc)
first_line n (Some (keywords.Heading headings.Int)) ts x e = absurd (cc)
first_line n (Some (keywords.Heading headings.Subspace)) ts x e = absurd (cc)
first_line n (Some (keywords.Heading headings.Servers)) ts x e = absurd (cc)
first_line n (Some (keywords.Heading headings.Tolerate)) ts x e = absurd (cc)
first_line n (Some (keywords.Heading headings.Session)) ts x e = absurd (cc)
first_line n (Some (keywords.Heading headings.Steps)) ts x e = absurd (cc)

reads_one : (w : List ℕ) → bytes_eq w (codes "hx") ≡ true → version_line (Word w ∷ Number (pos 1) ∷ []) ≡ Ok (1, [])
unfolding version_line number_in
reads_one w is = rw is refl

tells_one : (n : ℕ) (t : Tok) (ts : List Tok) (x : Draft × List Tok) → command n empty_draft (t ∷ ts) ≡ Ok x → version_line (t ∷ ts) ≡ Ok (1, [])
unfolding command
tells_one n (Word w) ts x e =
    let first = first_line n (keyword_of w) ts x e in
    ap (λ (l : List Tok). version_line (Word w ∷ l)) (shape ts x first.line) ∙ reads_one w (keyword_hx w first.keyword)
tells_one n (Number m) ts x e = absurd (cc)
tells_one n (Text t) ts x e = absurd (cc)
tells_one n (Sign s) ts x e = absurd (cc)

-- ---- the text
module _ (n : ℕ) (later : Draft → Result Script ScriptError) (s : Script) where
  by_line : (r : Result (Draft × List Tok) Reason) → at_line n (on_ok r (λ x. Ok x.0)) later ≡ Ok s → (x : Draft × List Tok) × (r ≡ Ok x)
  by_line (Ok x) e = (x, refl)
  by_line (Err r) e = absurd (cc)

  by_toks : (r : Result (List Tok) Reason) (version : Result ℕ ScriptError)
      → (later empty_draft ≡ Ok s → version ≡ Ok 1) → at_line n (on_ok r (line_of_toks n empty_draft)) later ≡ Ok s
      → version_by n r version ≡ Ok 1
  by_toks (Ok []) version ih e = ih e
  by_toks (Ok (t ∷ ts)) version ih e =
      let came = by_line (command n empty_draft (t ∷ ts)) e in
      rw (tells_one n t ts came.0 came.1) refl
  by_toks (Err r) version ih e = absurd (cc)

says_one : (n : ℕ) (lines : List (List ℕ)) (s : Script) → read_lines n empty_draft lines ≡ Ok s → version_from n lines ≡ Ok 1
unfolding read_lines version_from
says_one n [] s e = absurd (cc)
says_one n (l ∷ lines) s e =
    by_toks (n + 1) (λ d. read_lines (n + 1) d lines) s (toks_from l (tokens_of l)) (version_from (n + 1) lines) (λ h. says_one (n + 1) lines s h) e

pub script_is_of_version_1 : (text : List ℕ) (s : Script) → script_of text ≡ Ok s → version_of text ≡ Ok 1
script_is_of_version_1 text s e = says_one 0 (lines_of text) s e
