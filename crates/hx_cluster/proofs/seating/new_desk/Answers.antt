use Rattle.std.proofs.Common.{rules, ◌≡◌, ◌+◌, replicate}
use Rattle.hx_cluster.proofs.Deals.{desk-new}
use Rattle.hx_cluster.proofs.seating.new_desk.Goals as goal

pub returns-clause-desk : goal.returns-clause-desk
returns-clause-desk c =
    let zeros : c.in_ok-heard.heard.items ≡ replicate (c.args.setup.now.workers + 1) 0 =
    c.in_ok-heard.ensures.items_if_clones_equal (λ y h. search (rules, h)) in
    desk-new c.args.setup.now.script.now c.args.setup.now.clock.now c.args.setup.now.boxes.now
    c.args.setup.now.workers _ c.requires.actor c.requires.seat c.in_ok-start.ensures c.requires.inbox.0
    c.requires.inbox.1 c.new.ensures.items c.new-2.ensures.items zeros
