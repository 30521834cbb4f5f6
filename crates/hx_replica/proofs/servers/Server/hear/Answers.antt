use Rattle.std.proofs.Common.{◌≡◌, ◌++◌, IfOk, OnOk, List, ap, refl, subst, sym, ◌∙◌}
use Rattle.hx_model.specs.Types.{Kept, Op, Update}
use Rattle.hx_law_folds.specs.Folding.{folded_server}
use Rattle.hx_model.specs.ServerSteps.{ServerStep, acked, asked, called_by, if_installed, message_step, replica_for, snapped, updated}
use Rattle.hx_replica.specs.Installing.{IsSnapshot}
use Rattle.hx_replica.specs.Plans.{IsChange}
use Rattle.hx_replica.specs.Servers.{ServerValue}
use Rattle.hx_replica.proofs.Asking.{update_taken}
use Rattle.hx_replica.proofs.Bareness.{bare_seen}
use Rattle.hx_replica.proofs.Naming.{message_named}
use Rattle.hx_replica.proofs.Planning.{acked_quiet, asked_quiet, change_made, install_quiet, nothing_more, notes_made}
use Rattle.hx_replica.proofs.Planning.{posts_made, posts_met, quiet_made, snapped_quiet, unmoved_by, updated_quiet}
use Rattle.hx_replica.proofs.Roomy.{all_same}
use Rattle.hx_replica.proofs.Snapped.{config_taken, snapshot_taken}
use Rattle.hx_replica.proofs.Sounding.{message_sound}
use Rattle.hx_replica.proofs.servers.Server.hear.Goals as goal

pub halt-requires : goal.halt-requires
halt-requires c = bare_seen c.self.inside c.args.self.now c.self.view_is c.self.invariant

pub on_ack-requires : goal.on_ack-requires
on_ack-requires c = record { bare = bare_seen c.self.inside c.args.self.now c.self.view_is c.self.invariant }

pub on_ask-requires : goal.on_ask-requires
on_ask-requires c = record { bare = bare_seen c.self.inside c.args.self.now c.self.view_is c.self.invariant }

pub on_call-requires-clause-bare : goal.on_call-requires-clause-bare
on_call-requires-clause-bare c = bare_seen c.self.inside c.args.self.now c.self.view_is c.self.invariant

pub on_update-requires-clause-bare : goal.on_update-requires-clause-bare
on_update-requires-clause-bare c = bare_seen c.self.inside c.args.self.now c.self.view_is c.self.invariant

pub on_snapshot-requires-clause-bare : goal.on_snapshot-requires-clause-bare
on_snapshot-requires-clause-bare c = bare_seen c.self.inside c.args.self.now c.self.view_is c.self.invariant

pub on_install-requires-clause-bare : goal.on_install-requires-clause-bare
on_install-requires-clause-bare c = bare_seen c.self.inside c.args.self.now c.self.view_is c.self.invariant

pub on_call-requires-clause-small : goal.on_call-requires-clause-small
on_call-requires-clause-small c = c.requires.can.small

pub on_update-requires-clause-placed : goal.on_update-requires-clause-placed
on_update-requires-clause-placed c = (update_taken c.args.self.now c.args.from c.args.message.now c.in-Update.epoch
    c.in-Update.region c.in-Update.update c.requires c.in-Update.is).placed

pub on_update-requires-clause-few : goal.on_update-requires-clause-few
on_update-requires-clause-few c = (update_taken c.args.self.now c.args.from c.args.message.now c.in-Update.epoch
    c.in-Update.region c.in-Update.update c.requires c.in-Update.is).few

pub on_update-requires-clause-after : goal.on_update-requires-clause-after
on_update-requires-clause-after c = (update_taken c.args.self.now c.args.from c.args.message.now c.in-Update.epoch
    c.in-Update.region c.in-Update.update c.requires c.in-Update.is).after

pub on_install-requires-clause-config : goal.on_install-requires-clause-config
on_install-requires-clause-config c = config_taken c.args.self.now c.args.from c.args.message.now c.in-Install.config c.requires c.in-Install.is

pub on_snapshot-requires-clause-snapshot : goal.on_snapshot-requires-clause-snapshot
on_snapshot-requires-clause-snapshot c =
    subst (λ (snapshot : List Kept). IsSnapshot c.in-Snap.region snapshot c.deref-in-Snap-2.result.now) (sym c.deref-in-Snap.ensures)
    (
    subst (IsSnapshot c.in-Snap.region c.in-Snap.snapshot) (sym c.deref-in-Snap-2.ensures)
    (snapshot_taken c.args.self.now c.args.from c.args.message.now c.in-Snap.epoch c.in-Snap.region c.in-Snap.snapshot c.in-Snap.pending c.requires
    c.in-Snap.is)
    )

pub returns-in_ok-meet-in-Update-clause-posts : goal.returns-in_ok-meet-in-Update-clause-posts
returns-in_ok-meet-in-Update-clause-posts c =
    let v = c.args.self.now in
    posts_met v c.args.from c.args.message.now _ c.in-Update.is c.on_update.result c.in-Update.epoch
    (updated v.space v.state c.args.from c.in-Update.update (if_installed (replica_for v.state c.in-Update.region)))
    c.args.posts.now c.meet-in-Update.new.posts c.on_update.new.posts refl
    c.in_ok-meet-in-Update.ensures c.on_update.ensures.posts

pub returns-in_ok-meet-in-Update-clause-notes : goal.returns-in_ok-meet-in-Update-clause-notes
returns-in_ok-meet-in-Update-clause-notes c =
    let v = c.args.self.now in
    quiet_made v c.args.from c.args.message.now _ c.in-Update.is c.on_update.result c.args.notes.now
    (updated_quiet v.space v.state c.args.from c.in-Update.update (if_installed (replica_for v.state c.in-Update.region)))

pub returns-in_ok-meet-in-Update-clause-change : goal.returns-in_ok-meet-in-Update-clause-change
returns-in_ok-meet-in-Update-clause-change c = change_made c.args.self.now c.args.from c.args.message.now _
    c.in-Update.is c.on_update.new.self c.on_update.result c.on_update.ensures.change

pub returns-in_ok-meet-in-Ack-clause-posts : goal.returns-in_ok-meet-in-Ack-clause-posts
returns-in_ok-meet-in-Ack-clause-posts c =
    let v = c.args.self.now in
    posts_met v c.args.from c.args.message.now _ c.in-Ack.is c.on_ack.result c.in-Ack.epoch
    (acked v.space v.state c.args.from c.in-Ack.key c.in-Ack.version.0 c.in-Ack.by
    (if_installed (replica_for v.state c.in-Ack.region))) c.args.posts.now c.meet-in-Ack.new.posts c.on_ack.new.posts refl
    c.in_ok-meet-in-Ack.ensures c.on_ack.ensures.posts

pub returns-in_ok-meet-in-Ack-clause-notes : goal.returns-in_ok-meet-in-Ack-clause-notes
returns-in_ok-meet-in-Ack-clause-notes c =
    let v = c.args.self.now in
    quiet_made v c.args.from c.args.message.now _ c.in-Ack.is c.on_ack.result c.args.notes.now
    (acked_quiet v.space v.state c.args.from c.in-Ack.key c.in-Ack.version.0 c.in-Ack.by (if_installed (replica_for v.state c.in-Ack.region)))

pub returns-in_ok-meet-in-Ack-clause-change : goal.returns-in_ok-meet-in-Ack-clause-change
returns-in_ok-meet-in-Ack-clause-change c = change_made c.args.self.now c.args.from c.args.message.now _ c.in-Ack.is
    c.on_ack.new.self c.on_ack.result c.on_ack.ensures.change

pub returns-in_ok-meet-in-Ask-clause-posts : goal.returns-in_ok-meet-in-Ask-clause-posts
returns-in_ok-meet-in-Ask-clause-posts c =
    let v = c.args.self.now in
    posts_met v c.args.from c.args.message.now _ c.in-Ask.is c.on_ask.result c.in-Ask.epoch
    (asked v.state c.args.from c.in-Ask.epoch c.in-Ask.number c.in-Ask.terms
    (if_installed (replica_for v.state c.in-Ask.region))) c.args.posts.now c.meet-in-Ask.new.posts c.on_ask.new.posts refl
    c.in_ok-meet-in-Ask.ensures c.on_ask.ensures.posts

pub returns-in_ok-meet-in-Ask-clause-notes : goal.returns-in_ok-meet-in-Ask-clause-notes
returns-in_ok-meet-in-Ask-clause-notes c =
    let v = c.args.self.now in
    quiet_made v c.args.from c.args.message.now _ c.in-Ask.is c.on_ask.result c.args.notes.now
    (asked_quiet v.state c.args.from c.in-Ask.epoch c.in-Ask.number c.in-Ask.terms (if_installed (replica_for v.state c.in-Ask.region)))

pub returns-in_ok-meet-in-Ask-clause-change : goal.returns-in_ok-meet-in-Ask-clause-change
returns-in_ok-meet-in-Ask-clause-change c = change_made c.args.self.now c.args.from c.args.message.now _ c.in-Ask.is
    c.on_ask.new.self c.on_ask.result c.on_ask.ensures.change

pub returns-in_ok-meet-in-Call-clause-posts : goal.returns-in_ok-meet-in-Call-clause-posts
returns-in_ok-meet-in-Call-clause-posts c =
    let v = c.args.self.now in
    posts_met v c.args.from c.args.message.now _ c.in-Call.is c.on_call.result c.in-Call.epoch
    (called_by v.space v.state c.args.from c.in-Call.number c.in-Call.op) c.args.posts.now c.meet.new.posts
    c.on_call.new.posts refl c.in_ok-meet-in-Call.ensures
    (subst (λ (op : Op). OnOk c.on_call.result (c.on_call.new.posts ≡ c.meet.new.posts
    ++ (called_by v.space v.state c.args.from c.in-Call.number op).posts)) c.deref.ensures
    c.on_call.ensures.posts)

pub returns-in_ok-meet-in-Call-clause-notes : goal.returns-in_ok-meet-in-Call-clause-notes
returns-in_ok-meet-in-Call-clause-notes c =
    let v = c.args.self.now in
    notes_made v c.args.from c.args.message.now _ c.in-Call.is c.on_call.result c.args.notes.now c.on_call.new.notes
    (subst (λ (op : Op). OnOk c.on_call.result (c.on_call.new.notes ≡ c.args.notes.now
    ++ (called_by v.space v.state c.args.from c.in-Call.number op).notes)) c.deref.ensures
    c.on_call.ensures.notes)

pub returns-in_ok-meet-in-Call-clause-change : goal.returns-in_ok-meet-in-Call-clause-change
returns-in_ok-meet-in-Call-clause-change c =
    let v = c.args.self.now in
    change_made v c.args.from c.args.message.now _ c.in-Call.is c.on_call.new.self c.on_call.result
    (subst (λ (op : Op). IfOk c.on_call.result (IsChange c.on_call.new.self (called_by v.space v.state c.args.from c.in-Call.number op).state)) c.deref.ensures
    c.on_call.ensures.change)

pub returns-in_ok-meet-in-Snap-clause-posts : goal.returns-in_ok-meet-in-Snap-clause-posts
returns-in_ok-meet-in-Snap-clause-posts c =
    let v = c.args.self.now in
    let Made : List Kept → List Update → Type 0 =
    λ snapshot pending. OnOk c.on_snapshot.result (c.on_snapshot.new.posts ≡ c.meet-in-Snap.new.posts ++ (snapped v.space v.state c.args.from snapshot pending
    (replica_for v.state c.in-Snap.region)).posts) in
    posts_met v c.args.from c.args.message.now _ c.in-Snap.is c.on_snapshot.result c.in-Snap.epoch
    (snapped v.space v.state c.args.from c.in-Snap.snapshot c.in-Snap.pending (replica_for v.state c.in-Snap.region)) c.args.posts.now c.meet-in-Snap.new.posts
    c.on_snapshot.new.posts refl c.in_ok-meet-in-Snap.ensures
    (
    subst (λ (snapshot : List Kept). Made snapshot c.in-Snap.pending) c.deref-in-Snap.ensures
    (subst (Made c.deref-in-Snap.result.now) c.deref-in-Snap-2.ensures c.on_snapshot.ensures.posts)
    )

pub returns-in_ok-meet-in-Snap-clause-notes : goal.returns-in_ok-meet-in-Snap-clause-notes
returns-in_ok-meet-in-Snap-clause-notes c =
    let v = c.args.self.now in
    quiet_made v c.args.from c.args.message.now _ c.in-Snap.is c.on_snapshot.result c.args.notes.now
    (snapped_quiet v.space v.state c.args.from c.in-Snap.snapshot c.in-Snap.pending (replica_for v.state c.in-Snap.region))

pub returns-in_ok-meet-in-Snap-clause-change : goal.returns-in_ok-meet-in-Snap-clause-change
returns-in_ok-meet-in-Snap-clause-change c =
    let v = c.args.self.now in
    let Made : List Kept → List Update → Type 0 =
    λ snapshot pending. IfOk c.on_snapshot.result (IsChange v
    (snapped v.space v.state c.args.from snapshot pending (replica_for v.state c.in-Snap.region)).state) in
    change_made v c.args.from c.args.message.now _ c.in-Snap.is v c.on_snapshot.result
    (
    subst (λ (snapshot : List Kept). Made snapshot c.in-Snap.pending) c.deref-in-Snap.ensures
    (subst (Made c.deref-in-Snap.result.now) c.deref-in-Snap-2.ensures c.on_snapshot.ensures.change)
    )

pub returns-in-Install-clause-posts : goal.returns-in-Install-clause-posts
returns-in-Install-clause-posts c = posts_made c.args.self.now c.args.from c.args.message.now _ c.in-Install.is
    c.on_install.result c.args.posts.now c.on_install.new.posts c.on_install.ensures.posts

pub returns-in-Install-clause-notes : goal.returns-in-Install-clause-notes
returns-in-Install-clause-notes c =
    quiet_made c.args.self.now c.args.from c.args.message.now _ c.in-Install.is c.on_install.result c.args.notes.now
    (install_quiet c.args.self.now.space c.args.self.now.state c.in-Install.config)

pub returns-in-Install-clause-change : goal.returns-in-Install-clause-change
returns-in-Install-clause-change c =
    let v = c.args.self.now in
    subst (λ (x : ServerValue). IfOk c.on_install.result
    (IsChange x (message_step v.space v.state c.args.from c.args.message.now).state)) (sym c.on_install.ensures.stays)
    (change_made v c.args.from c.args.message.now _ c.in-Install.is v c.on_install.result c.on_install.ensures.change)

pub returns-in-Die-clause-posts : goal.returns-in-Die-clause-posts
returns-in-Die-clause-posts c = posts_made c.args.self.now c.args.from c.args.message.now _ c.in-Die.is c.halt.result
    c.args.posts.now c.halt.new.posts c.halt.ensures.posts

pub returns-in-Die-clause-notes : goal.returns-in-Die-clause-notes
returns-in-Die-clause-notes c = quiet_made c.args.self.now c.args.from c.args.message.now _ c.in-Die.is c.halt.result c.args.notes.now refl

pub returns-in-Die-clause-change : goal.returns-in-Die-clause-change
returns-in-Die-clause-change c = change_made c.args.self.now c.args.from c.args.message.now _ c.in-Die.is c.args.self.now c.halt.result c.halt.ensures.change

pub returns-in_default : goal.returns-in_default
returns-in_default c =
    let v = c.args.self.now in
    let n = c.in_default in
    let none = unmoved_by v.space v.state c.args.from c.args.message.now
    (λ epoch number op e. n.not-Call epoch number op e) (λ epoch g u e. n.not-Update epoch g u e)
    (λ epoch g by key version e. n.not-Ack epoch g by key version e)
    (λ epoch number g terms e. n.not-Ask epoch number g terms e) (λ config e. n.not-Install config e)
    (λ e. n.not-Die e) (λ epoch g snapshot pending e. n.not-Snap epoch g snapshot pending e) in
    record {
      posts = nothing_more c.args.posts.now _ (ap (λ (t : ServerStep). t.posts) none);
      notes = nothing_more c.args.notes.now _ (ap (λ (t : ServerStep). t.notes) none);
      change = ap (λ (t : ServerStep). folded_server t.state) none ∙ bare_seen c.self.inside v c.self.view_is c.self.invariant;
      named = message_named v c.args.from c.args.message.now c.requires;
      sound = message_sound v c.args.from c.args.message.now c.requires;
      rooms = all_same v.rooms v.rooms refl;
      space = refl;
      state = refl;
    }

pub returns-in_err-meet-in-Call-clause-named : goal.returns-in_err-meet-in-Call-clause-named
returns-in_err-meet-in-Call-clause-named c = message_named c.args.self.now c.args.from c.args.message.now c.requires

pub returns-in_err-meet-in-Call-clause-sound : goal.returns-in_err-meet-in-Call-clause-sound
returns-in_err-meet-in-Call-clause-sound c = message_sound c.args.self.now c.args.from c.args.message.now c.requires

pub returns-in_ok-meet-in-Call-clause-named : goal.returns-in_ok-meet-in-Call-clause-named
returns-in_ok-meet-in-Call-clause-named c = message_named c.args.self.now c.args.from c.args.message.now c.requires

pub returns-in_ok-meet-in-Call-clause-sound : goal.returns-in_ok-meet-in-Call-clause-sound
returns-in_ok-meet-in-Call-clause-sound c = message_sound c.args.self.now c.args.from c.args.message.now c.requires

pub returns-in_err-meet-in-Update-clause-named : goal.returns-in_err-meet-in-Update-clause-named
returns-in_err-meet-in-Update-clause-named c = message_named c.args.self.now c.args.from c.args.message.now c.requires

pub returns-in_err-meet-in-Update-clause-sound : goal.returns-in_err-meet-in-Update-clause-sound
returns-in_err-meet-in-Update-clause-sound c = message_sound c.args.self.now c.args.from c.args.message.now c.requires

pub returns-in_ok-meet-in-Update-clause-named : goal.returns-in_ok-meet-in-Update-clause-named
returns-in_ok-meet-in-Update-clause-named c = message_named c.args.self.now c.args.from c.args.message.now c.requires

pub returns-in_ok-meet-in-Update-clause-sound : goal.returns-in_ok-meet-in-Update-clause-sound
returns-in_ok-meet-in-Update-clause-sound c = message_sound c.args.self.now c.args.from c.args.message.now c.requires

pub returns-in_err-meet-in-Ack-clause-named : goal.returns-in_err-meet-in-Ack-clause-named
returns-in_err-meet-in-Ack-clause-named c = message_named c.args.self.now c.args.from c.args.message.now c.requires

pub returns-in_err-meet-in-Ack-clause-sound : goal.returns-in_err-meet-in-Ack-clause-sound
returns-in_err-meet-in-Ack-clause-sound c = message_sound c.args.self.now c.args.from c.args.message.now c.requires

pub returns-in_ok-meet-in-Ack-clause-named : goal.returns-in_ok-meet-in-Ack-clause-named
returns-in_ok-meet-in-Ack-clause-named c = message_named c.args.self.now c.args.from c.args.message.now c.requires

pub returns-in_ok-meet-in-Ack-clause-sound : goal.returns-in_ok-meet-in-Ack-clause-sound
returns-in_ok-meet-in-Ack-clause-sound c = message_sound c.args.self.now c.args.from c.args.message.now c.requires

pub returns-in_err-meet-in-Ask-clause-named : goal.returns-in_err-meet-in-Ask-clause-named
returns-in_err-meet-in-Ask-clause-named c = message_named c.args.self.now c.args.from c.args.message.now c.requires

pub returns-in_err-meet-in-Ask-clause-sound : goal.returns-in_err-meet-in-Ask-clause-sound
returns-in_err-meet-in-Ask-clause-sound c = message_sound c.args.self.now c.args.from c.args.message.now c.requires

pub returns-in_ok-meet-in-Ask-clause-named : goal.returns-in_ok-meet-in-Ask-clause-named
returns-in_ok-meet-in-Ask-clause-named c = message_named c.args.self.now c.args.from c.args.message.now c.requires

pub returns-in_ok-meet-in-Ask-clause-sound : goal.returns-in_ok-meet-in-Ask-clause-sound
returns-in_ok-meet-in-Ask-clause-sound c = message_sound c.args.self.now c.args.from c.args.message.now c.requires

pub returns-in_err-meet-in-Snap-clause-named : goal.returns-in_err-meet-in-Snap-clause-named
returns-in_err-meet-in-Snap-clause-named c = message_named c.args.self.now c.args.from c.args.message.now c.requires

pub returns-in_err-meet-in-Snap-clause-sound : goal.returns-in_err-meet-in-Snap-clause-sound
returns-in_err-meet-in-Snap-clause-sound c = message_sound c.args.self.now c.args.from c.args.message.now c.requires

pub returns-in_ok-meet-in-Snap-clause-named : goal.returns-in_ok-meet-in-Snap-clause-named
returns-in_ok-meet-in-Snap-clause-named c = message_named c.args.self.now c.args.from c.args.message.now c.requires

pub returns-in_ok-meet-in-Snap-clause-sound : goal.returns-in_ok-meet-in-Snap-clause-sound
returns-in_ok-meet-in-Snap-clause-sound c = message_sound c.args.self.now c.args.from c.args.message.now c.requires

pub returns-in-Install-clause-named : goal.returns-in-Install-clause-named
returns-in-Install-clause-named c = message_named c.args.self.now c.args.from c.args.message.now c.requires

pub returns-in-Install-clause-sound : goal.returns-in-Install-clause-sound
returns-in-Install-clause-sound c = message_sound c.args.self.now c.args.from c.args.message.now c.requires

pub returns-in-Die-clause-named : goal.returns-in-Die-clause-named
returns-in-Die-clause-named c = message_named c.args.self.now c.args.from c.args.message.now c.requires

pub returns-in-Die-clause-sound : goal.returns-in-Die-clause-sound
returns-in-Die-clause-sound c = message_sound c.args.self.now c.args.from c.args.message.now c.requires
