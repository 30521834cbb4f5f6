use Rattle.std.proofs.Common.{◌+◌, ◌++◌, ◌≤◌, List, append_assoc, append-nil, ap, arith, drop, length, sym, ◌∙◌}
use Rattle.std.specs.List.{flat_map}
use Rattle.std.proofs.lemmas.List.{drop_all}
use Rattle.hx_model.specs.Types.{Post, Update}
use Rattle.hx_model.specs.Slots.{pending_of}
use Rattle.hx_replica.specs.Adopting.{doubt_of}
use Rattle.hx_replica.specs.Outputs.{context_seen}
use Rattle.hx_replica.proofs.Walking.{drop_at, none_within}
use Rattle.hx_replica.proofs.doubting.doubt_from.Goals as goal

pub unreachable-requires : goal.unreachable-requires
unreachable-requires c = none_within (pending_of c.args.slot.now.state) c.loop-i.i c.in-None.ensures.pending
    (omega (arith, c.loop-i-test.true, c.pending_count-i-end.ensures))

pub loop-i-preserved : goal.loop-i-preserved
loop-i-preserved c =
    let f = doubt_of (context_seen c.args.context.now) c.args.first c.args.region in
    let us = pending_of c.args.slot.now.state in
    let rest = flat_map f (drop (c.loop-i.i + 1) us) in
    ap (λ (ps : List Post). ps ++ rest) (c.in_ok-doubt_one-in-Some.ensures ∙ ap (λ (u : Update). c.loop-i.posts ++ f u) c.deref.ensures)
    ∙ append_assoc c.loop-i.posts (f c.in-Some.update.now) rest
    ∙ ap (λ (l : List Update). c.loop-i.posts ++ flat_map f l) (sym (drop_at us c.loop-i.i c.in-Some.update.now (sym c.in-Some.ensures.pending)))
    ∙ c.loop-i.invariant

pub returns : goal.returns
returns c =
    let f = doubt_of (context_seen c.args.context.now) c.args.first c.args.region in
    let us = pending_of c.args.slot.now.state in
    let past : length us ≤ c.loop-i.i = omega (arith, c.loop-i-test.false, c.pending_count-i-end.ensures) in
    sym (append-nil c.loop-i.posts) ∙ ap (λ (l : List Update). c.loop-i.posts ++ flat_map f l) (sym (drop_all c.loop-i.i us past)) ∙ c.loop-i.invariant
