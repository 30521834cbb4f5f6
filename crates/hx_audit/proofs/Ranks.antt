-- The clauses in their order.
use Rattle.std.proofs.Common.{◌≡◌, ℕ, ◌+◌, ◌<◌, ◌⊎◌, inl, inr, Option, None, Some, refl, sym, subst, arith}
use Rattle.std.proofs.lemmas.Bool.{cases_eq}
use Rattle.hx_report_lines.specs.Values.{ReportValue}
use Rattle.hx_audit.specs.declared.verdicts.Clause.{Clause}
use Rattle.hx_audit.specs.declared.verdicts.Clause.TheVariants as clauses
use Rattle.hx_audit.specs.Verdicts.{IsKept, rank_of}

-- clauses of one rank are one
pub same_rank : (c d : Clause) → rank_of c ≡ rank_of d → c ≡ d
same_rank clauses.Foreign clauses.Foreign e = refl
same_rank clauses.Foreign clauses.Legal e = absurd (omega (arith, e))
same_rank clauses.Foreign clauses.Missing e = absurd (omega (arith, e))
same_rank clauses.Foreign clauses.Order e = absurd (omega (arith, e))
same_rank clauses.Foreign clauses.Whole e = absurd (omega (arith, e))
same_rank clauses.Foreign clauses.True e = absurd (omega (arith, e))
same_rank clauses.Legal clauses.Foreign e = absurd (omega (arith, e))
same_rank clauses.Legal clauses.Legal e = refl
same_rank clauses.Legal clauses.Missing e = absurd (omega (arith, e))
same_rank clauses.Legal clauses.Order e = absurd (omega (arith, e))
same_rank clauses.Legal clauses.Whole e = absurd (omega (arith, e))
same_rank clauses.Legal clauses.True e = absurd (omega (arith, e))
same_rank clauses.Missing clauses.Foreign e = absurd (omega (arith, e))
same_rank clauses.Missing clauses.Legal e = absurd (omega (arith, e))
same_rank clauses.Missing clauses.Missing e = refl
same_rank clauses.Missing clauses.Order e = absurd (omega (arith, e))
same_rank clauses.Missing clauses.Whole e = absurd (omega (arith, e))
same_rank clauses.Missing clauses.True e = absurd (omega (arith, e))
same_rank clauses.Order clauses.Foreign e = absurd (omega (arith, e))
same_rank clauses.Order clauses.Legal e = absurd (omega (arith, e))
same_rank clauses.Order clauses.Missing e = absurd (omega (arith, e))
same_rank clauses.Order clauses.Order e = refl
same_rank clauses.Order clauses.Whole e = absurd (omega (arith, e))
same_rank clauses.Order clauses.True e = absurd (omega (arith, e))
same_rank clauses.Whole clauses.Foreign e = absurd (omega (arith, e))
same_rank clauses.Whole clauses.Legal e = absurd (omega (arith, e))
same_rank clauses.Whole clauses.Missing e = absurd (omega (arith, e))
same_rank clauses.Whole clauses.Order e = absurd (omega (arith, e))
same_rank clauses.Whole clauses.Whole e = refl
same_rank clauses.Whole clauses.True e = absurd (omega (arith, e))
same_rank clauses.True clauses.Foreign e = absurd (omega (arith, e))
same_rank clauses.True clauses.Legal e = absurd (omega (arith, e))
same_rank clauses.True clauses.Missing e = absurd (omega (arith, e))
same_rank clauses.True clauses.Order e = absurd (omega (arith, e))
same_rank clauses.True clauses.Whole e = absurd (omega (arith, e))
same_rank clauses.True clauses.True e = refl

highest : (c : Clause) → rank_of c < 6
highest clauses.Foreign = omega arith
highest clauses.Legal = omega arith
highest clauses.Missing = omega arith
highest clauses.Order = omega arith
highest clauses.Whole = omega arith
highest clauses.True = omega arith

-- one more clause is kept
pub more_ranks : (r : ReportValue) (c next : Clause) → rank_of next ≡ rank_of c + 1
    → ((other : Clause) → rank_of other < rank_of c → IsKept r other) → IsKept r c → (other : Clause)
    → rank_of other < rank_of next → IsKept r other
more_ranks r c next e earlier kept other less = by (cases_eq (rank_of other) (rank_of c))
  where
    by : (rank_of other ≡ rank_of c) ⊎ (rank_of other ≡ rank_of c → ⊥) → IsKept r other
    by (inl q) = subst (IsKept r) (sym (same_rank other c q)) kept
    by (inr apart) = earlier other (omega (arith, e, less, apart))

-- all clauses are kept
pub all_ranks : (r : ReportValue) (c : Clause) → rank_of c ≡ 5
    → ((other : Clause) → rank_of other < rank_of c → IsKept r other) → IsKept r c → (other : Clause) → IsKept r other
all_ranks r c e earlier kept other = by (cases_eq (rank_of other) (rank_of c))
  where
    by : (rank_of other ≡ rank_of c) ⊎ (rank_of other ≡ rank_of c → ⊥) → IsKept r other
    by (inl q) = subst (IsKept r) (sym (same_rank other c q)) kept
    by (inr apart) = earlier other (let h = highest other in omega (arith, e, h, apart))

-- what is no number is none
pub none_of : (o : Option ℕ) → ((n : ℕ) → o ≡ Some n → ⊥) → o ≡ None
none_of None other = refl
none_of (Some n) other = absurd (other n refl)
