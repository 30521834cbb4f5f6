use Rattle.std.proofs.Common.{◌≡◌, ◌+◌, ◌*◌, ◌≤◌, ◌++◌, length, List}
use Rattle.std.specs.VecDeque.{deque_len, deque_capacity}
use Rattle.hx_types.specs.declared.messages.Post.{Post}
use Rattle.hx_fate.specs.States.{MayRepeat}
use Rattle.hx_outbox.specs.Floors.{AreGoodOn}
use Rattle.hx_outbox.specs.Outboxes.{kept_weight, out_weight, IsOutbox, MorePut}
use Rattle.hx_outbox.specs.Offers.{named, IsOffered, IsTotal}
use Rattle.hx_outbox.proofs.offers.offer_all.Given as goal

-- these were offered, and the rest is left
abbrev pub invariant-loop-place : goal.invariant-loop-place
invariant-loop-place g l =
    (done : List Post)
    × (l.seat ≡ l.initial.seat)
    × IsOutbox l.floor.boxes.now l.out
    × (l.out.index ≡ l.initial.out.index)
    × MorePut l.initial.out.ports.items l.out.ports.items
    × (AreGoodOn l.floor l.initial.kept.items → AreGoodOn l.floor l.kept.items)
    × (deque_capacity l.kept ≡ deque_capacity l.initial.kept)
    × (deque_len l.kept ≤ deque_len l.initial.kept + 2 * l.place)
    × (out_weight (λ m. 1) l.out.ports.items + kept_weight (λ m. 1) l.kept.items
    ≤ out_weight (λ m. 1) l.initial.out.ports.items + kept_weight (λ m. 1) l.initial.kept.items + 2 * l.place)
    × (l.totals.posts ≡ l.initial.totals.posts + l.place)
    × IsTotal l.totals
    × (l.place ≡ length done)
    × (done ++ l.firsts.items ≡ l.initial.firsts.items)
    × (MayRepeat ((g.dyn-1.0.entry l.fate.vtable).1.state l.fate.value) → l.seconds.items ≡ l.firsts.items)
    × IsOffered (λ h. out_weight h l.initial.out.ports.items + kept_weight h l.initial.kept.items)
    (λ h. out_weight h l.out.ports.items + kept_weight h l.kept.items) l.initial.totals l.totals
    ((g.dyn-1.0.entry l.initial.fate.vtable).1.state l.initial.fate.value)
    ((g.dyn-1.0.entry l.fate.vtable).1.state l.fate.value)
    (named l.entry 0 done)
