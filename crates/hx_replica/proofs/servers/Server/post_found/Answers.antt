use Rattle.std.proofs.Common.{◌++◌, List, ap, append-nil, sym, ◌∙◌}
use Rattle.std.proofs.lemmas.Result.{on_ok_weaker}
use Rattle.hx_model.specs.Types.{Config, Post}
use Rattle.hx_types.specs.Configs.{lists_ready}
use Rattle.hx_replica.proofs.Searching.{not_ready, ready}
use Rattle.hx_replica.proofs.servers.Server.post_found.Goals as goal

pub returns-then-not-lists_ready-clause-posts : goal.returns-then-not-lists_ready-clause-posts
returns-then-not-lists_ready-clause-posts c =
    let i = c.self.inside in
    let v = c.args.self.now in
    sym (append-nil c.args.posts.now)
    ∙ ap (λ (ps : List Post). c.args.posts.now ++ ps)
    (sym (not_ready i v c.args.from c.args.epoch c.args.number c.args.region c.args.terms.now c.in-Some.place c.self.view_is c.in-Some.ensures
    (ap (λ (k : Config). lists_ready k c.args.region i.id) (sym c.deref.ensures) ∙ sym c.lists_ready.ensures ∙ c.if-not-lists_ready.true)))

pub returns-clause-posts : goal.returns-clause-posts
returns-clause-posts c =
    let i = c.self.inside in
    let v = c.args.self.now in
    on_ok_weaker c.push.result
    (
    λ pushed. pushed
    ∙ ap (λ (ps : List Post). c.args.posts.now ++ ps)
    (sym (ready i v c.args.from c.args.epoch c.args.number c.args.region c.args.terms.now c.in-Some.place c.self.view_is c.in-Some.ensures c.in_ok-rows.rows
    c.in_ok-rows.ensures.rows (ap (λ (k : Config). lists_ready k c.args.region i.id) (sym c.deref.ensures) ∙ sym c.lists_ready.ensures ∙
    c.if-not-lists_ready.false)))
    )
    c.push.ensures.ok
