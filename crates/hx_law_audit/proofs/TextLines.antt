-- Texts of whole lines: which they are, how many, and where each stands in the text of a report.
use Rattle.std.proofs.Common.{◌≡◌, ℕ, zero, suc, ◌+◌, ◌<◌, List, [], ◌∷◌, ◌++◌, map, length, Some, refl, sym, ap, subst, ◌∙◌, arith}
use Rattle.std.specs.Prelude.{slice_get}
use Rattle.std.specs.List.{All, flat_map}
use Rattle.std.proofs.lemmas.List.{append_assoc, append-nil, length-append}
use Rattle.std.proofs.lemmas.List.Concat.{flat_map-append}
use Rattle.std.proofs.lemmas.List.Elements.{All-append, All-cons, All-head, All-nil, All-tail}
use Rattle.hx_report_lines.specs.Printed.{text_of}
use Rattle.hx_report_lines.specs.Unread.{report_lines}
use Rattle.hx_report_lines.specs.Values.{ReportValue}
use Rattle.hx_report_lines.proofs.Lemmas.{IsOneLine, lines_join, with_newline}

-- ---- lists

-- behind a list stands what the other one has
got_behind : {A : Type 0} (xs ys : List A) (k : ℕ) → slice_get (xs ++ ys) (length xs + k) ≡ slice_get ys k
got_behind [] ys k = let e : 0 + k ≡ k = omega arith in ap (slice_get ys) e
got_behind (x ∷ xs) ys k =
    let e : suc (length xs) + k ≡ suc (length xs + k) = omega arith in
    ap (slice_get (x ∷ (xs ++ ys))) e ∙ got_behind xs ys k

-- within a list stands what it has
got_within : {A : Type 0} (xs ys : List A) (k : ℕ) → k < length xs → slice_get (xs ++ ys) k ≡ slice_get xs k
got_within [] ys k lt = absurd (omega (arith, lt))
got_within (x ∷ xs) ys zero lt = refl
got_within (x ∷ xs) ys (suc k) lt = got_within xs ys k (omega (arith, lt))

-- a place of a list has something
pub got_some : {A : Type 0} (xs : List A) (k : ℕ) → k < length xs → (x : A) × (slice_get xs k ≡ Some x)
got_some [] k lt = absurd (omega (arith, lt))
got_some (x ∷ xs) zero lt = (x, refl)
got_some (x ∷ xs) (suc k) lt = got_some xs k (omega (arith, lt))

-- ---- texts of lines

-- the text is that of these lines, with a newline after each
pub record AreLines (ls : List (List ℕ)) (text : List ℕ) : Type 0 where
  pub cut : text ≡ flat_map with_newline ls
  pub one : All IsOneLine ls

no_lines : AreLines [] []
no_lines = record { cut = refl; one = All-nil IsOneLine }

pub one_line : (line text : List ℕ) → text ≡ with_newline line → IsOneLine line → AreLines (line ∷ []) text
one_line line text cut one = record { cut = cut ∙ sym (append-nil (with_newline line)); one = All-cons IsOneLine line [] one (All-nil IsOneLine) }

pub both_lines : (ls ms : List (List ℕ)) (a b : List ℕ) → AreLines ls a → AreLines ms b → AreLines (ls ++ ms) (a ++ b)
both_lines ls ms a b x y = record {
  cut = ap (λ t. t ++ b) x.cut ∙ ap (λ t. flat_map with_newline ls ++ t) y.cut ∙ sym (flat_map-append with_newline ls ms);
  one = All-append IsOneLine ls ms x.one y.one;
}

-- where each of some things is printed on a line of its own
pub each_lines : {A : Type 0} (f line : A → List ℕ) (P : A → Type 0) → ((x : A) → P x → AreLines (line x ∷ []) (f x))
    → (xs : List A) → All P xs → AreLines (map line xs) (flat_map f xs)
each_lines {A} f line P each [] all = no_lines
each_lines {A} f line P each (x ∷ xs) all =
    both_lines (line x ∷ []) (map line xs) (f x) (flat_map f xs) (each x (All-head P x xs all)) (each_lines f line P each xs (All-tail P x xs all))

-- ---- so many lines

-- the text has so many lines, each with its newline
pub record HasLines (n : ℕ) (text : List ℕ) : Type 0 where
  pub lines : List (List ℕ)
  pub are : AreLines lines text
  pub count : length lines ≡ n

pub has_none : HasLines 0 []
has_none = record { lines = []; are = no_lines; count = refl }

pub has_one : (line text : List ℕ) → text ≡ with_newline line → IsOneLine line → HasLines 1 text
has_one line text cut one = record { lines = line ∷ []; are = one_line line text cut one; count = refl }

pub has_both : (n m : ℕ) (a b : List ℕ) → HasLines n a → HasLines m b → HasLines (n + m) (a ++ b)
has_both n m a b x y = record {
  lines = x.lines ++ y.lines;
  are = both_lines x.lines y.lines a b x.are y.are;
  count = length-append x.lines y.lines ∙ ap (λ k. k + length y.lines) x.count ∙ ap (λ k. n + k) y.count;
}

pub has_as : (n m : ℕ) (text : List ℕ) → n ≡ m → HasLines n text → HasLines m text
has_as n m text same has = subst (λ k. HasLines k text) same has

-- one line for each of some things
pub has_each : {A : Type 0} (f : A → List ℕ) (P : A → Type 0) → ((x : A) → P x → HasLines 1 (f x)) → (xs : List A)
    → All P xs → HasLines (length xs) (flat_map f xs)
has_each {A} f P each [] all = has_none
has_each {A} f P each (x ∷ xs) all =
    has_as (1 + length xs) (length (x ∷ xs)) (f x ++ flat_map f xs) (omega arith)
    (has_both 1 (length xs) (f x) (flat_map f xs) (each x (All-head P x xs all)) (has_each f P each xs (All-tail P x xs all)))

-- ---- the lines of a report

-- a report's text that begins with these lines
first_lines : (r : ReportValue) (ls : List (List ℕ)) (rest : List ℕ) → flat_map with_newline ls ++ rest ≡ text_of r
    → All IsOneLine ls → (more : List (List ℕ)) × (report_lines r ≡ ls ++ more)
first_lines r ls rest same one = (_, rw same at (lines_join ls rest one))

-- where the text of these lines stands behind so many lines, the line at each place is the one that has that many more
pub line_behind : (r : ReportValue) (n : ℕ) (front text rest : List ℕ) (ls : List (List ℕ)) → text_of r ≡ front ++ (text ++ rest)
    → HasLines n front → AreLines ls text → (place : ℕ) → place < length ls
    → slice_get (report_lines r) (n + place) ≡ slice_get ls place
line_behind r n front text rest ls same before are place lt =
    let both = both_lines before.lines ls front text before.are are in
    let f = first_lines r (before.lines ++ ls) rest
    (ap (λ t. t ++ rest) (sym both.cut) ∙ append_assoc front text rest ∙ sym same) both.one in
    let fewer : n + place < length (before.lines ++ ls) = omega (arith, lt, before.count, length-append before.lines ls) in
    let at : n + place ≡ length before.lines + place = ap (λ k. k + place) (sym before.count) in
    ap (λ xs. slice_get xs (n + place)) f.1
    ∙ got_within (before.lines ++ ls) f.0 (n + place) fewer
    ∙ ap (slice_get (before.lines ++ ls)) at
    ∙ got_behind before.lines ls place
