use Rattle.std.proofs.Common.{◌++◌, List, ap, append_assoc, refl, ◌∙◌}
use Rattle.std.specs.Borrow.{Bor}
use Rattle.std.proofs.lemmas.Result.{on_ok_weaker}
use Rattle.std.specs.List.{flat_map}
use Rattle.hx_model.specs.Types.{Post, Update, Version}
use Rattle.hx_model.specs.ServerSteps.{passed_on}
use Rattle.hx_replica.specs.Outputs.{tail_version, settled_among, context_seen, told_of}
use Rattle.hx_replica.proofs.Offers.{acceptance}
use Rattle.hx_replica.proofs.Planning.{always}
use Rattle.hx_replica.proofs.accepting.take_all.Goals as goal

pub returns-clause-posts : goal.returns-clause-posts
returns-clause-posts c =
    let context = context_seen c.args.context.now in
    let s = c.args.slot.now.state in
    let passed : List Post = flat_map (λ (b : Bor Update). passed_on context b.now) c.args.updates.now in
    let told : List Version → List Post = λ vs. flat_map (λ (b : Bor Update). told_of context b.now) (settled_among s.acked vs c.args.line.now) in
    let vs : List Version = c.post_updates.new.tail_versions.items in
    let is = acceptance context s c.args.update.now c.args.updates.now c.args.line.now vs (passed ++ told vs) c.requires.coming.above
    c.requires.taken c.requires.new
    (c.in_ok-post_updates.ensures.tail_versions ∙ ap
    (λ (xs : List Version). xs ++ flat_map (λ (b : Bor Update). tail_version context b.now) c.args.updates.now) c.requires.none)
    c.requires.line refl in
    on_ok_weaker c.post_commits.result
    (
    λ e. e ∙ ap (λ (xs : List Version). c.post_updates.new.posts ++ told xs) c.as_slice.ensures.value
    ∙ ap (λ (ps : List Post). ps ++ told vs) c.in_ok-post_updates.ensures.posts
    ∙ append_assoc c.args.posts.now passed (told vs)
    ∙ ap (λ (ps : List Post). c.args.posts.now ++ ps) is.posts_are
    )
    c.post_commits.ensures

pub returns-clause-ends : goal.returns-clause-ends
returns-clause-ends c =
    let context = context_seen c.args.context.now in
    let s = c.args.slot.now.state in
    let vs : List Version = c.post_updates.new.tail_versions.items in
    always c.post_commits.result
    (
    acceptance context s c.args.update.now c.args.updates.now c.args.line.now vs _ c.requires.coming.above
    c.requires.taken c.requires.new
    (c.in_ok-post_updates.ensures.tail_versions ∙ ap
    (λ (xs : List Version). xs ++ flat_map (λ (b : Bor Update). tail_version context b.now) c.args.updates.now) c.requires.none)
    c.requires.line refl
    ).ends
