-- A report has one verdict.
use Rattle.hx_law_lemmas.proofs.Lemmas.Vocabulary.{cases_order, inl, inr, refl, subst, ℕ, ◌≡◌}
use Rattle.hx_report_lines.specs.Values.{ReportValue}
use Rattle.hx_audit.specs.declared.verdicts.Clause.{Clause}
use Rattle.hx_audit.specs.declared.verdicts.Verdict.TheVariants as verdicts
use Rattle.hx_audit.specs.Verdicts.{IsBrokenAt, IsFirstBroken, IsKept, rank_of}
use Rattle.hx_audit.proofs.Lemmas.{same_rank}
use Rattle.hx_law_audit.specs.Meaning.{VerdictsAreUnique}

-- what is kept is broken nowhere
kept_not_broken : (r : ReportValue) (clause : Clause) (line : ℕ) → IsKept r clause → IsBrokenAt r line clause → ⊥
kept_not_broken r clause line kept b = b.broken (kept b.piece b.stands b.place)

one_line : (r : ReportValue) (clause : Clause) (m n : ℕ) → IsFirstBroken r m clause → IsFirstBroken r n clause → m ≡ n
one_line r clause m n v w = elim (cases_order m n) [
  | inl e ↦ e
  | inr (inl l) ↦ absurd (w.lowest m l v.broken)
  | inr (inr l) ↦ absurd (v.lowest n l w.broken)
]

one_clause : (r : ReportValue) (c d : Clause) (m n : ℕ) → IsFirstBroken r m c → IsFirstBroken r n d → c ≡ d
one_clause r c d m n v w = elim (cases_order (rank_of c) (rank_of d)) [
  | inl e ↦ same_rank c d e
  | inr (inl l) ↦ absurd (kept_not_broken r c m (w.earlier c l) v.broken)
  | inr (inr l) ↦ absurd (kept_not_broken r d n (v.earlier d l) w.broken)
]

pub verdicts_unique : VerdictsAreUnique
verdicts_unique r verdicts.Yes verdicts.Yes v w = refl
verdicts_unique r verdicts.Yes (verdicts.No n d) v w = absurd (kept_not_broken r d n (v d) w.broken)
verdicts_unique r (verdicts.No m c) verdicts.Yes v w = absurd (kept_not_broken r c m (w c) v.broken)
verdicts_unique r (verdicts.No m c) (verdicts.No n d) v w =
    let q = one_clause r c d m n v w in
    let p = one_line r d m n (subst (IsFirstBroken r m) q v) w in
    λ i. verdicts.No (p i) (q i)
