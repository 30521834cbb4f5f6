use Rattle.std.proofs.Common.{◌≡◌, ◌++◌, List, ap, append-nil, append_assoc, arith, sym, true, ◌∙◌}
use Rattle.hx_model.specs.Types.{Post, Update, Version}
use Rattle.hx_types.specs.Words.{provided}
use Rattle.hx_model.specs.ServerSteps.{passed_on}
use Rattle.hx_model.specs.Slots.{follows, top_of}
use Rattle.hx_replica.specs.Outputs.{context_seen, settles, tail_version, told_of}
use Rattle.hx_replica.proofs.Offers.{taken_alone}
use Rattle.hx_replica.proofs.accepting.accepted_alone.Goals as goal

pub returns-in_ok-post_commit_at-clause-posts : goal.returns-in_ok-post_commit_at-clause-posts
returns-in_ok-post_commit_at-clause-posts c =
    let context = context_seen c.args.context.now in
    let s = c.args.slot.now.state in
    let u : Update = c.args.update.now in
    let old : List Post = c.args.posts.now in
    let passed : List Post = passed_on context u in
    let vs : List Version = c.post_update_at.new.tail_versions.items in
    let ends : vs ≡ tail_version context u =
    c.in_ok-post_update_at.ensures.tail_versions ∙ ap (λ (xs : List Version). xs ++ tail_version context u) c.requires.none in
    let settled : c.is_settled.result ≡ settles s.acked vs u.version =
    c.is_settled.ensures ∙ ap (λ (xs : List Version). settles s.acked xs c.deref-2.result.now.version) c.as_slice.ensures.value
    ∙ ap (λ (x : Update). settles s.acked vs x.version) c.deref-2.ensures in
    let in_turn : follows context.region (top_of s) u ≡ true =
    ap (follows context.region (top_of s)) (sym c.deref.ensures) ∙ sym c.is_in_turn.ensures ∙ c.if-not-is_in_turn.false in
    let low = c.requires.coming.floor in
    let high = c.requires.coming.above in
    let is = taken_alone context s c.args.update vs c.requires.coming.above c.requires.pending c.requires.early
    (record { placed = c.requires.coming.placed; few = c.requires.coming.few; above = omega (arith, low, high) }) in_turn ends in
    c.in_ok-post_commit_at.ensures
    ∙ ap (λ (x : Update). c.post_update_at.new.posts ++ told_of context x) c.deref-then-is_settled.ensures
    ∙ ap (λ (ps : List Post). ps ++ told_of context u) c.in_ok-post_update_at.ensures.posts
    ∙ append_assoc old passed (told_of context u)
    ∙ ap (λ (ps : List Post). old ++ ps) (sym (ap (λ t. passed ++ provided t (told_of context u)) (sym settled ∙ c.if-is_settled.true)) ∙ is.posts_are)

pub returns-else-is_settled-clause-posts : goal.returns-else-is_settled-clause-posts
returns-else-is_settled-clause-posts c =
    let context = context_seen c.args.context.now in
    let s = c.args.slot.now.state in
    let u : Update = c.args.update.now in
    let old : List Post = c.args.posts.now in
    let passed : List Post = passed_on context u in
    let vs : List Version = c.post_update_at.new.tail_versions.items in
    let ends : vs ≡ tail_version context u =
    c.in_ok-post_update_at.ensures.tail_versions ∙ ap (λ (xs : List Version). xs ++ tail_version context u) c.requires.none in
    let settled : c.is_settled.result ≡ settles s.acked vs u.version =
    c.is_settled.ensures ∙ ap (λ (xs : List Version). settles s.acked xs c.deref-2.result.now.version) c.as_slice.ensures.value
    ∙ ap (λ (x : Update). settles s.acked vs x.version) c.deref-2.ensures in
    let in_turn : follows context.region (top_of s) u ≡ true =
    ap (follows context.region (top_of s)) (sym c.deref.ensures) ∙ sym c.is_in_turn.ensures ∙ c.if-not-is_in_turn.false in
    let low = c.requires.coming.floor in
    let high = c.requires.coming.above in
    let is = taken_alone context s c.args.update vs c.requires.coming.above c.requires.pending c.requires.early
    (record { placed = c.requires.coming.placed; few = c.requires.coming.few; above = omega (arith, low, high) }) in_turn ends in
    c.in_ok-post_update_at.ensures.posts
    ∙ ap (λ (ps : List Post). old ++ ps) (sym (append-nil passed)
    ∙ sym (ap (λ t. passed ++ provided t (told_of context u)) (sym settled ∙ c.if-is_settled.false)) ∙ is.posts_are)
