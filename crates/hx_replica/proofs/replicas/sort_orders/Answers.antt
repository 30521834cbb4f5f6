use Rattle.std.proofs.Common.{◌≡◌, ◌<◌, List, ap, arith, get_or, length, set, true, ◌∙◌}
use Rattle.hx_store.specs.Stores.{StoreState}
use Rattle.hx_replica.specs.declared.replicas.Replica.{Replica}
use Rattle.hx_replica.proofs.Ordered.{all_ordered, one_ordered}
use Rattle.hx_replica.proofs.replicas.sort_orders.Goals as goal

pub loop-place-preserved : goal.loop-place-preserved
loop-place-preserved c =
    let rs = c.args.replicas.now.items in
    let place = c.loop-place.place in
    let y = c.index_mut.result.now in
    let s = c.sort_order.ensures in
    let whole : c.sort_order.new.self ≡ record y.store { ordered = true } =
    (
    λ j. record { region = s.region j; keeps_marks = s.marks j; attributes = s.attributes j; states = s.states j; rooms = s.rooms j; ordered = s.ordered j }
    ) in
    let put : StoreState → Replica = λ x. record { region = y.region; installed = y.installed; store = x } in
    let count = c.len-place-end.ensures in
    let within : place < length rs = omega (arith, c.loop-place-test.true, count) in
    ap (λ (l : List Replica). set l place (put c.sort_order.new.self)) c.loop-place.invariant
    ∙ one_ordered place rs y (put c.sort_order.new.self) within
    (c.index_mut.ensures.value ∙ ap (λ (l : List Replica). get_or l place y) c.loop-place.invariant) (ap put whole)

pub returns : goal.returns
returns c =
    c.loop-place.invariant
    ∙ all_ordered c.loop-place.place c.args.replicas.now.items (let count = c.len-place-end.ensures in omega (arith, count, c.loop-place-test.false))
