use Rattle.std.proofs.Common.{◌≡◌, ◌++◌, sym, subst}
use Rattle.std.proofs.lemmas.Result.{IfOk-weaker, on_ok_weaker}
use Rattle.hx_model.specs.Types.{Op}
use Rattle.hx_model.specs.SessionSteps.{send}
use Rattle.hx_session.specs.Changes.{Makes, sender_seen}
use Rattle.hx_session.proofs.sending.send.Goals as goal

pub returns-in-Stop-clause-change : goal.returns-in-Stop-clause-change
returns-in-Stop-clause-change c =
    IfOk-weaker c.to_coordinator.result _ _
    (
    λ change e. λ calls parts. subst
    (λ (op : Op). Makes (sender_seen c.args.sender.now calls parts)
    (send c.args.sender.now.space.now (sender_seen c.args.sender.now calls parts) op) change)
    (sym c.in-Stop.is) (e calls parts)
    )
    c.to_coordinator.ensures.change

pub returns-in-Stop-clause-posts : goal.returns-in-Stop-clause-posts
returns-in-Stop-clause-posts c =
    on_ok_weaker c.to_coordinator.result
    (
    λ e. λ calls parts. subst
    (λ (op : Op). c.to_coordinator.new.posts ≡ c.args.posts.now ++
    (send c.args.sender.now.space.now (sender_seen c.args.sender.now calls parts) op).posts)
    (sym c.in-Stop.is) (e calls parts)
    )
    c.to_coordinator.ensures.posts

pub returns-in-Add-clause-change : goal.returns-in-Add-clause-change
returns-in-Add-clause-change c =
    IfOk-weaker c.to_coordinator-in-Add.result _ _
    (
    λ change e. λ calls parts. subst
    (λ (op : Op). Makes (sender_seen c.args.sender.now calls parts)
    (send c.args.sender.now.space.now (sender_seen c.args.sender.now calls parts) op) change)
    (sym c.in-Add.is) (e calls parts)
    )
    c.to_coordinator-in-Add.ensures.change

pub returns-in-Add-clause-posts : goal.returns-in-Add-clause-posts
returns-in-Add-clause-posts c =
    on_ok_weaker c.to_coordinator-in-Add.result
    (
    λ e. λ calls parts. subst
    (λ (op : Op). c.to_coordinator-in-Add.new.posts ≡ c.args.posts.now ++
    (send c.args.sender.now.space.now (sender_seen c.args.sender.now calls parts) op).posts)
    (sym c.in-Add.is) (e calls parts)
    )
    c.to_coordinator-in-Add.ensures.posts
