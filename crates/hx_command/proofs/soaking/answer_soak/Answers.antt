-- The fates are those of the run, or none.
use Rattle.std.proofs.Common.{inl, inr, sym}
use Rattle.hx_command.proofs.Handing.{first_same, none_at}
use Rattle.hx_command.proofs.soaking.answer_soak.Goals as goal

pub returns-in-Ok-clause-risen : goal.returns-in-Ok-clause-risen
returns-in-Ok-clause-risen g c trace first =
    elim c.sum_run.ensures.kept [
      | inl same ↦ λ i f h t p q r. rw (first_same _ _ trace same.2 first, sym c.never.ensures)
          (c.in-Ok.ensures.risen i f h t p (rw same.0 at q) (rw same.1 at r))
      | inr none ↦ λ i f h t p q r. absurd (none_at _ i h none q)
    ]
