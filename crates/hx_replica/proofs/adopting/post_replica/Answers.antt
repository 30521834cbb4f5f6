use Rattle.std.proofs.Common.{sym, ◌∙◌}
use Rattle.std.proofs.lemmas.Result.{on_ok_weaker}
use Rattle.hx_replica.proofs.Adopted.{active_posts, idle_posts}
use Rattle.hx_replica.proofs.adopting.post_replica.Goals as goal

pub returns-then-not-is_active : goal.returns-then-not-is_active
returns-then-not-is_active c =
    let context = c.args.context.now in
    idle_posts context.space.now context.config.now context.server c.args.replica.now c.args.posts.now (sym c.is_active.ensures ∙ c.if-not-is_active.true)

pub returns : goal.returns
returns c =
    let context = c.args.context.now in
    on_ok_weaker c.post_ready.result
    (λ e. active_posts context.space.now context.config.now context.server context.region c.args.replica.now
    c.args.posts.now c.snap.new.posts c.post_slots.new.posts c.post_ready.new.posts
    (sym c.is_active.ensures ∙ c.if-not-is_active.false) c.requires.region c.in_ok-snap.ensures c.in_ok-post_slots.ensures e)
    c.post_ready.ensures
