use Rattle.std.proofs.Common.{◌≡◌, length}
use Rattle.hx_cluster.specs.Dealt.{AtEach, AreNewDesks}
use Rattle.hx_cluster.proofs.seating.new_desks.Given as goal

abbrev pub invariant-loop-driver : goal.invariant-loop-driver
invariant-loop-driver l =
    AtEach (λ i d. AreNewDesks l.setup.script.now l.setup.clock.now l.setup.boxes.now l.setup.workers 0 i d.items)
    l.desks.items × (length l.desks.items ≡ l._driver)
