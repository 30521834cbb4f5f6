use Rattle.std.proofs.Common.{◌≡◌, sym, subst, List, take, ◌+◌}
use Rattle.std.specs.Borrow.{Bor}
use Rattle.std.specs.List.{All}
use Rattle.std.proofs.lemmas.List.Elements.{All-push}
use Rattle.hx_model.specs.Types.{Update}
use Rattle.hx_model.specs.Slots.{pending_of}
use Rattle.hx_replica.specs.Outputs.{IsHere, seen}
use Rattle.hx_replica.proofs.Turns.{seen_next}
use Rattle.hx_replica.proofs.settling.pending_line.Goals as goal

pub loop-i-preserved : goal.loop-i-preserved
loop-i-preserved c =
    subst (λ (line : List (Bor Update)). (seen line ≡ take (c.loop-i.i + 1) (pending_of c.args.slot.now.state))
    × All (IsHere c.args.slot.now.region) line) (sym c.in_ok-push-in-Some.ensures.items) (
      seen_next c.loop-i.line.items c.in-Some.update (pending_of c.args.slot.now.state) c.loop-i.i c.loop-i.invariant.0 (sym c.in-Some.ensures.pending),
      All-push (IsHere c.args.slot.now.region) c.loop-i.line.items c.in-Some.update c.loop-i.invariant.1
          (record { placed = c.in-Some.ensures.place; few = c.in-Some.ensures.few }),
    )
