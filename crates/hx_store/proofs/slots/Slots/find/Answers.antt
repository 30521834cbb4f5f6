use Rattle.std.proofs.Common.{arith, is_some, sym, ◌∙◌}
use Rattle.hx_index.specs.Orders.{stands_in}
use Rattle.hx_index.specs.Sides.{matches_at}
use Rattle.hx_store.specs.Slots.{rows_in}
use Rattle.hx_store.proofs.Fresh.{index-seen, least-seen, most-seen, rows-seen}
use Rattle.hx_store.proofs.Walking.{match-some, narrower}
use Rattle.hx_store.proofs.slots.Slots.find.Goals as goal

pub put_in_order-requires-clause-order : goal.put_in_order-requires-clause-order
put_in_order-requires-clause-order c =
    let seen = rows-seen c.self.view_is c.requires.fresh in
    let es = c.args.self.now.entries in
    narrower es (λ i. is_some (rows_in es i)) (stands_in c.in_ok-ids.ids.items) c.args.order.now c.requires.order
    (
    λ i t. match-some (rows_in es) c.args.terms.now i
    (sym (c.in_ok-ids.ensures.matching i ∙ (λ k. matches_at (seen k) c.args.terms.now i)) ∙ t)
    )

pub returns-in_err-ids-clause-index : goal.returns-in_err-ids-clause-index
returns-in_err-ids-clause-index c = index-seen c.self.view_is c.requires.fresh c.find.ensures.index

pub returns-in_err-ids-clause-looks : goal.returns-in_err-ids-clause-looks
returns-in_err-ids-clause-looks c =
    let most = c.find.ensures.looks in
    let same = most-seen c.self.view_is c.requires.fresh c.args.terms.now in
    omega (arith, most, same)

pub returns-clause-matching : goal.returns-clause-matching
returns-clause-matching c =
    let seen = rows-seen c.self.view_is c.requires.fresh in
    λ i. c.in_ok-put_in_order.ensures.same i ∙ c.in_ok-ids.ensures.matching i ∙ (λ k. matches_at (seen k) c.args.terms.now i)

pub returns-clause-index : goal.returns-clause-index
returns-clause-index c = index-seen c.self.view_is c.requires.fresh c.find.ensures.index

pub returns-clause-looks : goal.returns-clause-looks
returns-clause-looks c =
    let most = c.find.ensures.looks in
    let same = most-seen c.self.view_is c.requires.fresh c.args.terms.now in
    omega (arith, most, same)

pub returns-clause-each : goal.returns-clause-each
returns-clause-each c =
    let same = least-seen c.self.view_is c.requires.fresh c.args.terms.now in
    λ l. let more = c.in_ok-ids.ensures.each l in omega (arith, more, same)
