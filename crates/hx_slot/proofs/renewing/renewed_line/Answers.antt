use Rattle.std.proofs.Common.{◌≡◌, ◌+◌, false, List, take, subst, sym, refl}
use Rattle.std.specs.List.{AllByRecursion}
use Rattle.hx_slot.specs.Acks.{AreSameUpdates}
use Rattle.hx_slot.specs.declared.updates.AcceptedUpdate.{AcceptedUpdate}
use Rattle.hx_slot.proofs.Renewed.{same-next, unmarked-push}
use Rattle.hx_slot.proofs.renewing.renewed_line.Goals as goal

pub loop-taken-preserved : goal.loop-taken-preserved
loop-taken-preserved c =
    let x : AcceptedUpdate = c.taken-item.result in
    let y : AcceptedUpdate = record { update = c.in_ok-copy.field-0; keeps = x.keeps; acknowledged = false } in
    subst (λ (ys : List AcceptedUpdate). AreSameUpdates (take (c.loop-taken.taken-index + 1) c.args.line.now) ys
    × AllByRecursion (λ (t : AcceptedUpdate). t.acknowledged ≡ false) ys) (sym c.in_ok-push.ensures.items) (
      same-next c.args.line.now c.loop-taken.copy.items c.loop-taken.taken-index x y c.loop-taken-test.true
          c.taken-item.is c.loop-taken.invariant.0 c.in_ok-copy.ensures refl,
      unmarked-push c.loop-taken.copy.items y c.loop-taken.invariant.1 refl,
    )
