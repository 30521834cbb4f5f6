-- Rows of a finished search, one after another.
use Rattle.std.proofs.Common.{◌≡◌, ℕ, suc, ◌+◌, List, Option, None, Some, sym, ap, ◌∙◌, subst, arith}
use Rattle.std.specs.List.{slice_get}
use Rattle.std.specs.Option.{IfSome}
use Rattle.hx_model.specs.Types.{Row}
use Rattle.hx_model.specs.Searching.{FinishedSearch}
use Rattle.hx_report_lines.specs.declared.blocks.Block.{Block}
use Rattle.hx_report_lines.specs.declared.calls.CallLine.{CallLine}
use Rattle.hx_audit.specs.Clauses.{IsRowOf, IsTrueAt, row_above}
use Rattle.hx_audit.specs.Told.{account_of, search_told}
use Rattle.hx_audit.specs.Walking.{IsFirstNot}

-- the row above the next place
pub row_after : (rows : List Row) (place : ℕ) → row_above rows (place + 1) ≡ slice_get rows place
row_after rows place = let e : place + 1 ≡ suc place = omega arith in ap (row_above rows) e

-- each row of these is true of the search
abbrev TrueIn : Block → FinishedSearch → List Row → ℕ → Type 0
TrueIn b s rows place = IfSome (slice_get rows place) (IsRowOf (account_of b) s (row_above rows place))

-- what is said of a search's rows is said of its call
pub rows_told_true : (b : Block) (l : CallLine) (s : FinishedSearch) (rows : List Row) (r : Option ℕ)
    → search_told l ≡ Some s → rows ≡ s.rows → IsFirstNot (TrueIn b s rows) r → IsFirstNot (IsTrueAt b l) r
rows_told_true b l s rows r e q f = by r (subst (λ (ys : List Row). IsFirstNot (TrueIn b s ys) r) q f)
  where
    told : (place : ℕ) → TrueIn b s s.rows place → IsTrueAt b l place
    told place h t z = let w : Some s ≡ Some t = sym e ∙ z in let one : s ≡ t = cc in subst (λ (u : FinishedSearch). TrueIn b u u.rows place) one h

    by : (o : Option ℕ) → IsFirstNot (TrueIn b s s.rows) o → IsFirstNot (IsTrueAt b l) o
    by None g = λ place. told place (g place)
    by (Some n) g = (λ h. g.0 (h s e), λ k less. told k (g.1 k less))

-- a call that is no finished search has no rows to be true
pub no_rows : (b : Block) (l : CallLine) → search_told l ≡ None → IsFirstNot (IsTrueAt b l) None
no_rows b l e place s z = absurd (let w : None ≡ Some s = sym e ∙ z in cc)
