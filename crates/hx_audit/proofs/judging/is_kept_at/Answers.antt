use Rattle.std.proofs.Common.{sym, subst}
use Rattle.hx_audit.specs.declared.verdicts.Clause.{Clause}
use Rattle.hx_audit.specs.Latest.{AllFall, AreLatestFor}
use Rattle.hx_audit.proofs.Begun.{all_fall}
use Rattle.hx_audit.proofs.judging.is_kept_at.Goals as goal

pub is_whole-requires : goal.is_whole-requires
is_whole-requires c =
    subst AllFall (sym c.as_slice.ensures.value)
    (all_fall c.args.block.now c.args.notes.now.latest.items
    (subst (λ (clause : Clause). AreLatestFor clause c.args.block.now c.args.notes.now.latest.items) c.in-Whole.is
    c.requires.notes.latest))
