use Rattle.std.proofs.Common.{◌≡◌, map}
use Rattle.hx_types.specs.Words.{below}
use Rattle.hx_outbox.specs.Places.{names_for}
use Rattle.hx_cluster.specs.Actors.{actor_at}
use Rattle.hx_cluster.specs.Opened.{ArePortsOf}
use Rattle.hx_cluster.proofs.opening.open_boxes.Given as goal

abbrev pub invariant-loop-place : goal.invariant-loop-place
invariant-loop-place g l =
    (map (λ b. b.names) l.boxes.items ≡ map (λ k. names_for l.fn.script l.fn.clock (actor_at l.fn.script.space k)) (below l.place))
    × ArePortsOf l.fn.workers l.boxes.items l.ports.items
