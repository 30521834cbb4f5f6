use Rattle.std.proofs.Common.{◌≡◌, ◌++◌, true, Some, ap, map, slice_get, subst, sym, ◌∙◌}
use Rattle.std.specs.Option.{option_map}
use Rattle.hx_model.specs.Types.{Config}
use Rattle.hx_law_folds.specs.Folding.{folded, folded_server}
use Rattle.hx_model.specs.Hearing.{hears_snap}
use Rattle.hx_model.specs.ServerSteps.{Replica as ReplicaState, ServerStep, installed_slots, ready_post, replica_for, snapped}
use Rattle.hx_replica.specs.declared.prepared.Change.TheVariants as a_change
use Rattle.hx_replica.specs.Invariant.{value_of}
use Rattle.hx_replica.specs.Plans.{IsChange}
use Rattle.hx_replica.specs.Servers.{ServerValue}
use Rattle.hx_replica.specs.Ticking.{standing}
use Rattle.hx_replica.proofs.Planning.{nothing_more, stays}
use Rattle.hx_replica.proofs.Snapped.{IsTakenBy, join_change, join_posts, ready_step, taken_by, unheard, unheard_step}
use Rattle.hx_replica.proofs.servers.Server.on_snapshot.Goals as goal

pub returns-then-index-clause-posts : goal.returns-then-index-clause-posts
returns-then-index-clause-posts c =
    let i = c.self.inside in
    let g = c.args.region in
    let snapshot = c.args.snapshot.now in
    let pending = c.args.pending.now in
    let taken : IsTakenBy (value_of i) g c.in-Some.number c.index.result.now =
    taken_by i g c.in-Some.number c.index.result.now c.index.ensures
    (subst (λ (v : ServerValue). Some (slice_get v.state.replicas c.in-Some.number) ≡ option_map (λ (r : ReplicaState). Some r)
    (replica_for v.state g)) (sym c.self.view_is) c.in-Some.ensures) in
    let hears : hears_snap i.config g i.id c.args.from ≡ true =
    ap (λ (k : Config). hears_snap k g i.id c.args.from) (sym c.deref.ensures) ∙ sym c.hears_snap.ensures ∙ c.if-not-hears_snap.false in
    subst (λ (v : ServerValue). c.post_ready.new.posts ≡ c.args.posts.now ++ (snapped v.space v.state c.args.from snapshot pending
    (replica_for v.state g)).posts) c.self.view_is
    (
    c.in_ok-post_ready.ensures ∙ ap (λ (k : Config). c.args.posts.now ++ ready_post (standing k i.id) g) c.deref-2.ensures
    ∙ ap (λ (t : ServerStep). c.args.posts.now ++ t.posts)
    (sym (ready_step (value_of i) c.args.from g snapshot pending c.in-Some.number c.index.result.now taken hears c.if-index.true))
    )

pub returns-then-index-clause-change : goal.returns-then-index-clause-change
returns-then-index-clause-change c =
    let i = c.self.inside in
    let g = c.args.region in
    let snapshot = c.args.snapshot.now in
    let pending = c.args.pending.now in
    let taken : IsTakenBy (value_of i) g c.in-Some.number c.index.result.now =
    taken_by i g c.in-Some.number c.index.result.now c.index.ensures
    (subst (λ (v : ServerValue). Some (slice_get v.state.replicas c.in-Some.number) ≡ option_map (λ (r : ReplicaState). Some r)
    (replica_for v.state g)) (sym c.self.view_is) c.in-Some.ensures) in
    let hears : hears_snap i.config g i.id c.args.from ≡ true =
    ap (λ (k : Config). hears_snap k g i.id c.args.from) (sym c.deref.ensures) ∙ sym c.hears_snap.ensures ∙ c.if-not-hears_snap.false in
    subst (λ (v : ServerValue). folded_server (snapped v.space v.state c.args.from snapshot pending (replica_for v.state g)).state ≡ v.state)
    c.self.view_is
    (stays (value_of i) (snapped i.space (value_of i).state c.args.from snapshot pending (replica_for (value_of i).state g))
    (subst (λ (v : ServerValue). folded_server v.state ≡ v.state) (sym c.self.view_is) c.requires.bare)
    (ap (λ (t : ServerStep). t.state) (ready_step (value_of i) c.args.from g snapshot pending c.in-Some.number c.index.result.now taken hears c.if-index.true)))

pub returns-clause-posts : goal.returns-clause-posts
returns-clause-posts c =
    let i = c.self.inside in
    let g = c.args.region in
    let snapshot = c.args.snapshot.now in
    let pending = c.args.pending.now in
    let taken : IsTakenBy (value_of i) g c.in-Some.number c.index.result.now =
    taken_by i g c.in-Some.number c.index.result.now c.index.ensures
    (subst (λ (v : ServerValue). Some (slice_get v.state.replicas c.in-Some.number) ≡ option_map (λ (r : ReplicaState). Some r)
    (replica_for v.state g)) (sym c.self.view_is) c.in-Some.ensures) in
    let hears : hears_snap i.config g i.id c.args.from ≡ true =
    ap (λ (k : Config). hears_snap k g i.id c.args.from) (sym c.deref.ensures) ∙ sym c.hears_snap.ensures ∙ c.if-not-hears_snap.false in
    let slots = λ (k : Config). installed_slots (record { space = i.space; config = k; server = i.id; region = g }) snapshot pending in
    subst (λ (v : ServerValue). c.installed.new.posts ≡ c.args.posts.now ++ (snapped v.space v.state c.args.from snapshot pending
    (replica_for v.state g)).posts) c.self.view_is
    (
    join_posts (value_of i) c.args.from g snapshot pending c.in-Some.number c.index.result.now taken hears
    c.args.posts.now c.installed.new.posts c.if-index.false
    (c.in-Ok.ensures.posts ∙ ap (λ (k : Config). (c.args.posts.now ++ (slots k).posts) ++ ready_post (standing k i.id) g) c.deref-2.ensures)
    )

pub returns-clause-change : goal.returns-clause-change
returns-clause-change c =
    let i = c.self.inside in
    let g = c.args.region in
    let snapshot = c.args.snapshot.now in
    let pending = c.args.pending.now in
    let taken : IsTakenBy (value_of i) g c.in-Some.number c.index.result.now =
    taken_by i g c.in-Some.number c.index.result.now c.index.ensures
    (subst (λ (v : ServerValue). Some (slice_get v.state.replicas c.in-Some.number) ≡ option_map (λ (r : ReplicaState). Some r)
    (replica_for v.state g)) (sym c.self.view_is) c.in-Some.ensures) in
    let hears : hears_snap i.config g i.id c.args.from ≡ true =
    ap (λ (k : Config). hears_snap k g i.id c.args.from) (sym c.deref.ensures) ∙ sym c.hears_snap.ensures ∙ c.if-not-hears_snap.false in
    let slots = λ (k : Config). installed_slots (record { space = i.space; config = k; server = i.id; region = g }) snapshot pending in
    subst (λ (v : ServerValue). IsChange v (snapped v.space v.state c.args.from snapshot pending (replica_for v.state g)).state
    (a_change.Join c.in-Some.number c.in-Ok-joined_replica.replica)) c.self.view_is
    (
    join_change (value_of i) c.args.from g snapshot pending c.in-Some.number c.index.result.now taken hears c.in-Ok.store c.in-Ok-joined_replica.replica
    (subst (λ (v : ServerValue). folded_server v.state ≡ v.state) (sym c.self.view_is) c.requires.bare) c.if-index.false
    c.in-Ok.ensures.region c.in-Ok.ensures.marks
    (c.in-Ok.ensures.states ∙ ap (λ (k : Config). map (folded g) (slots k).states) c.deref-2.ensures)
    c.in-Ok-joined_replica.ensures
    )

pub returns-then-not-hears_snap-clause-posts : goal.returns-then-not-hears_snap-clause-posts
returns-then-not-hears_snap-clause-posts c =
    let i = c.self.inside in
    let g = c.args.region in
    let v = c.args.self.now in
    nothing_more c.args.posts.now _ (ap (λ (t : ServerStep). t.posts) (unheard_step v c.args.from g c.args.snapshot.now c.args.pending.now
    (unheard i v c.args.from g c.self.view_is (ap (λ (k : Config). hears_snap k g i.id c.args.from)
    (sym c.deref.ensures) ∙ sym c.hears_snap.ensures ∙ c.if-not-hears_snap.true))))

pub returns-then-not-hears_snap-clause-change : goal.returns-then-not-hears_snap-clause-change
returns-then-not-hears_snap-clause-change c =
    let i = c.self.inside in
    let g = c.args.region in
    let v = c.args.self.now in
    stays v (snapped v.space v.state c.args.from c.args.snapshot.now c.args.pending.now (replica_for v.state g)) c.requires.bare
    (ap (λ (t : ServerStep). t.state) (unheard_step v c.args.from g c.args.snapshot.now c.args.pending.now
    (unheard i v c.args.from g c.self.view_is (ap (λ (k : Config). hears_snap k g i.id c.args.from)
    (sym c.deref.ensures) ∙ sym c.hears_snap.ensures ∙ c.if-not-hears_snap.true))))
