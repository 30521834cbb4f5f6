use Rattle.std.proofs.Common.{◌∙◌, ap}
use Rattle.std.specs.Cmp.Lexicographic.{slice_cmp}
use Rattle.std.specs.Ordering.{nat_cmp}
use Rattle.hx_model.specs.Types.{Row}
use Rattle.hx_types.proofs.Lemmas.{apart-cmp}
use Rattle.hx_session.proofs.merging.compare_keys.Goals as goal

pub returns-then-one-other : goal.returns-then-one-other
returns-then-one-other c =
    c.cmp.ensures ∙ apart-cmp _ _ _ _ c.one.invariant c.other.invariant c.if-one-other.true
    ∙ ap (λ (r : Row). slice_cmp nat_cmp r.key c.other.inside.row.now.key) c.one.view_is
    ∙ ap (λ (r : Row). slice_cmp nat_cmp c.args.one.now.key r.key) c.other.view_is
