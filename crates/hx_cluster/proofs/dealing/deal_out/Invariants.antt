use Rattle.std.proofs.Common.{◌≡◌, ◌++◌, length, map, take}
use Rattle.hx_cluster.specs.Dealt.{AtEach, AreNewDesks, IsNewOutbox}
use Rattle.hx_cluster.proofs.dealing.deal_out.Given as goal

abbrev pub invariant-loop-seat : goal.invariant-loop-seat
invariant-loop-seat l =
    (l.place ≡ length l.yielded)
    × (map (λ x. x.0) l.yielded ++ l.seat-iterator.a.rest.items ≡ l.fn.seats.items)
    × (map (λ x. x.1) l.yielded ++ l.seat-iterator.b.rest.items ≡ l.fn.ports.items)
    × AtEach (λ i d. AreNewDesks l.setup.script.now l.setup.clock.now l.setup.boxes.now l.setup.workers l.place i d.items) l.desks.items
    × (length l.desks.items ≡ l.setup.workers)
    × AtEach (IsNewOutbox (take l.place l.setup.boxes.now)) l.outs.items
    × (length l.outs.items ≡ l.setup.workers)
