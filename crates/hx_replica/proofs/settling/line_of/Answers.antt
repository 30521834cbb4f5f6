use Rattle.std.proofs.Common.{◌≡◌, ◌++◌, ◌+◌, sym, subst, List, take}
use Rattle.std.specs.Borrow.{Bor}
use Rattle.std.specs.List.{All}
use Rattle.std.proofs.lemmas.List.Elements.{All-push}
use Rattle.hx_model.specs.Types.{Update}
use Rattle.hx_model.specs.Slots.{pending_of}
use Rattle.hx_replica.specs.Outputs.{IsHere, seen}
use Rattle.hx_replica.proofs.Turns.{all_at, at_item, seen_more}
use Rattle.hx_replica.proofs.settling.line_of.Goals as goal

pub loop-update-preserved : goal.loop-update-preserved
loop-update-preserved c =
    subst (λ (line : List (Bor Update)). (seen line ≡ pending_of c.args.slot.now.state
    ++ seen (take (c.loop-update.update-index + 1) c.args.taken.now)) × All (IsHere c.args.slot.now.region) line)
    (sym c.in_ok-push.ensures.items) (
      seen_more c.loop-update.line.items c.update-item.result
          (pending_of c.args.slot.now.state) c.args.taken.now c.loop-update.update-index c.loop-update.invariant.0
          (at_item c.args.taken.now c.loop-update.update-index c.update-item.result c.loop-update-test.true c.update-item.is),
      All-push (IsHere c.args.slot.now.region) c.loop-update.line.items c.update-item.result c.loop-update.invariant.1
          (all_at (IsHere c.args.slot.now.region) c.args.taken.now c.loop-update.update-index c.update-item.result
          c.loop-update-test.true c.update-item.is c.requires),
    )
