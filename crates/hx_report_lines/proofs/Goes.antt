-- Lines that are all read, one after the other.
use Rattle.std.proofs.Common.{◌≡◌, ℕ, ◌+◌, ◌<◌, Bool, true, false, cond, ◌&&◌, List, [], ◌∷◌, ◌++◌, length}
use Rattle.std.proofs.Common.{Option, None, Some, Ok, Err, refl, sym, ap, subst, ◌∙◌, arith}
use Rattle.std.specs.List.{All, flat_map}
use Rattle.std.proofs.lemmas.List.{append-nil}
use Rattle.std.proofs.lemmas.List.Concat.{flat_map-append}
use Rattle.std.proofs.lemmas.List.Elements.{All-append, All-cons, All-nil}
use Rattle.hx_script.specs.Texts.{lines_of}
use Rattle.hx_report_lines.specs.declared.drafts.Draft.{Draft}
use Rattle.hx_report_lines.specs.declared.drafts.Section.TheVariants as sections
use Rattle.hx_report_lines.specs.Drafts.{after_line, is_over, on_draft, read_lines, settled}
use Rattle.hx_report_lines.specs.Readers.{on_some}
use Rattle.hx_report_lines.proofs.Cuts.{lines_join}
use Rattle.hx_report_lines.proofs.DraftsRead.{IsOneLine}
use Rattle.hx_report_lines.proofs.TextsRead.{with_newline}

-- the draft after these lines, where each may come next
abbrev pub taken : Draft → List (List ℕ) → Option Draft
taken d [] = Some d
taken d (l ∷ ls) = on_some (after_line d l) (λ e. taken e ls)

pub taken_then : (d m : Draft) (front rest : List (List ℕ)) → taken d front ≡ Some m → taken d (front ++ rest) ≡ taken m rest
taken_then d m [] rest h = ap (λ (x : Draft). taken x rest) (let q : d ≡ m = cc in q)
taken_then d m (l ∷ front) rest h = by (after_line d l) h (λ e. taken_then e m front rest)
  where
    by : (o : Option Draft) → on_some o (λ e. taken e front) ≡ Some m
        → ((e : Draft) → taken e front ≡ Some m → taken e (front ++ rest) ≡ taken m rest)
        → on_some o (λ e. taken e (front ++ rest)) ≡ taken m rest
    by None f k = absurd cc
    by (Some e) f k = k e f

-- the first of lines that are all read are read
pub taken_front : (d e : Draft) (front rest : List (List ℕ)) → taken d (front ++ rest) ≡ Some e → (m : Draft) × (taken d front ≡ Some m)
taken_front d e [] rest h = (d, refl)
taken_front d e (l ∷ front) rest h = by (after_line d l) h (λ m. taken_front m e front rest)
  where
    by : (o : Option Draft) → on_some o (λ m. taken m (front ++ rest)) ≡ Some e
        → ((m : Draft) → taken m (front ++ rest) ≡ Some e → (x : Draft) × (taken m front ≡ Some x)) → (x : Draft)
        × (on_some o (λ m. taken m front) ≡ Some x)
    by None f k = absurd cc
    by (Some m) f k = k m f

-- reading goes on behind them
pub reads_past : (whole : Bool) (n : ℕ) (d e : Draft) (front rest : List (List ℕ)) → taken d front ≡ Some e
    → read_lines whole n d (front ++ rest) ≡ read_lines whole (n + length front) e rest
unfolding read_lines
reads_past whole n d e [] rest h =
    let none : n ≡ n + length {A = List ℕ} [] = omega arith in
    ap (λ (x : Draft). read_lines whole n x rest) (let q : d ≡ e = cc in q) ∙ ap (λ m. read_lines whole m e rest) none
reads_past whole n d e (l ∷ front) rest h = by (after_line d l) h (λ m. reads_past whole (n + 1) m e front rest)
  where
    more : n + 1 + length front ≡ n + length (l ∷ front)
    more = omega arith

    by : (o : Option Draft) → on_some o (λ m. taken m front) ≡ Some e
        → ((m : Draft) → taken m front ≡ Some e → read_lines whole (n + 1) m (front ++ rest)
        ≡ read_lines whole (n + 1 + length front) e rest)
        → on_draft o (n + 1) (λ m. read_lines whole (n + 1) m (front ++ rest)) ≡ read_lines whole (n + length (l ∷ front)) e rest
    by None f k = absurd cc
    by (Some m) f k = k m f ∙ ap (λ x. read_lines whole x e rest) more

-- a line that is refused stands behind those that were read
pub errs_later : (whole : Bool) (n line : ℕ) (d : Draft) (ls : List (List ℕ)) → read_lines whole n d ls ≡ Err line → n < line
unfolding read_lines
errs_later whole n line d [] h = by (is_over d.section && whole) h
  where
    by : (b : Bool) → cond b (Ok d) (Err (n + 1)) ≡ Err line → n < line
    by true f = absurd cc
    by false f = let q : n + 1 ≡ line = cc in omega (arith, q)
errs_later whole n line d (l ∷ ls) h = by (after_line d l) h (λ m. errs_later whole (n + 1) line m ls)
  where
    by : (o : Option Draft) → on_draft o (n + 1) (λ m. read_lines whole (n + 1) m ls) ≡ Err line
        → ((m : Draft) → read_lines whole (n + 1) m ls ≡ Err line → n + 1 < line) → n < line
    by None f k = let q : n + 1 ≡ line = cc in omega (arith, q)
    by (Some m) f k = let q = k m f in omega (arith, q)

-- ---- texts of whole lines

-- a text of whole lines that leads from a draft to another
pub record Steps (d : Draft) (text : List ℕ) (e : Draft) : Type 0 where
  pub lines : List (List ℕ)
  pub cut : text ≡ flat_map with_newline lines
  pub one : All IsOneLine lines
  pub read : taken d lines ≡ Some e

pub no_step : (d : Draft) → Steps d [] d
no_step d = record { lines = []; cut = refl; one = All-nil IsOneLine; read = refl }

pub one_step : (d e : Draft) (line : List ℕ) → IsOneLine line → after_line d line ≡ Some e → Steps d (with_newline line) e
one_step d e line one h = record {
  lines = line ∷ [];
  cut = sym (append-nil (with_newline line));
  one = All-cons IsOneLine line [] one (All-nil IsOneLine);
  read = ap (λ o. on_some o (λ m. taken m [])) h;
}

pub steps_then : (d m e : Draft) (a b : List ℕ) → Steps d a m → Steps m b e → Steps d (a ++ b) e
steps_then d m e a b x y = record {
  lines = x.lines ++ y.lines;
  cut = ap (λ t. t ++ b) x.cut ∙ ap (λ t. flat_map with_newline x.lines ++ t) y.cut ∙ sym (flat_map-append with_newline x.lines y.lines);
  one = All-append IsOneLine x.lines y.lines x.one y.one;
  read = taken_then d m x.lines y.lines x.read ∙ y.read;
}

-- the lines of such a text are read
pub steps_lines : (d e : Draft) (text : List ℕ) → Steps d text e → taken d (lines_of text) ≡ Some e
steps_lines d e text s =
    let same : lines_of text ≡ s.lines = ap lines_of (s.cut ∙ sym (append-nil (flat_map with_newline s.lines)))
    ∙ lines_join s.lines [] s.one ∙ append-nil s.lines in
    ap (taken d) same ∙ s.read

-- ---- within a block

-- within a block, with what is pending put into it the draft is that one
pub record Stands (d e : Draft) : Type 0 where
  pub section : d.section ≡ sections.Body
  pub settles : settled d ≡ Some e

-- a text of whole lines that leads to where the draft is that one
pub record Goes (d : Draft) (text : List ℕ) (e : Draft) : Type 0 where
  pub to : Draft
  pub steps : Steps d text to
  pub stands : Stands to e

pub goes_nowhere : (d e : Draft) → Stands d e → Goes d [] e
goes_nowhere d e s = record { to = d; steps = no_step d; stands = s }

pub goes_then : (d m e : Draft) (a b : List ℕ) → Goes d a m → ((x : Draft) → Stands x m → Goes x b e) → Goes d (a ++ b) e
goes_then d m e a b g more =
    let h = more g.to g.stands in
    record { to = h.to; steps = steps_then d g.to h.to a b g.steps h.steps; stands = h.stands }

pub goes_as : (d e : Draft) (a b : List ℕ) → a ≡ b → Goes d a e → Goes d b e
goes_as d e a b same g = subst (λ t. Goes d t e) same g
