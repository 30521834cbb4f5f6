use Rattle.std.proofs.Common.{ℕ, ◌≡◌, ◌+◌}
use Rattle.hx_mail.specs.declared.views.Mailed.{Mailed}
use Rattle.hx_outbox.specs.Floors.{AreGoodOn}
use Rattle.hx_outbox.specs.Outboxes.{kept_weight, out_weight, IsOutbox, MorePut}
use Rattle.hx_outbox.proofs.outboxes.put_kept.Given as goal

abbrev pub invariant-loop-round : goal.invariant-loop-round
invariant-loop-round g l =
    IsOutbox l.floor.boxes.now l.out
    × (l.out.index ≡ l.initial.out.index)
    × MorePut l.initial.out.ports.items l.out.ports.items
    × ((h : Mailed → ℕ) → out_weight h l.out.ports.items + kept_weight h l.kept.items
    ≡ out_weight h l.initial.out.ports.items + kept_weight h l.initial.kept.items)
    × AreGoodOn l.floor l.kept.items
