-- What the laws on posts under way and on whom replicas hear give of a run of overlapping configurations, of which all is computed.
use Rattle.std.specs.Prelude.{◌≤◌, List, [], ◌∷◌, None, Some}
use Rattle.std.proofs.Common.{◌≡◌, true, false, inl, inr, refl, ap, sym, subst, ◌∙◌, arith}
use Rattle.std.proofs.lemmas.Bool.{false≢true}
use Rattle.hx_model.specs.Types.{Coordinator, Post, Server, ServerId, Update, Version}
use Rattle.hx_types.specs.declared.messages.Message.TheVariants as a_message
use Rattle.hx_types.specs.Configs.{lists}
use Rattle.hx_types.specs.Words.{IsIn, post}
use Rattle.hx_model.specs.Hearing.{hears_ack, hears_update}
use Rattle.hx_model.specs.Histories.{line_of}
use Rattle.hx_model.specs.Neighbours.{place_number}
use Rattle.hx_model.specs.Runs.{coordinator_of, server_of}
use Rattle.hx_model.specs.ServerSteps.{ServerState}
use Rattle.hx_model.specs.Slots.{has_place, top_of}
use Rattle.hx_model.proofs.Lemmas.{epoch, first_update, region, replica, second_update, server, shop, the_key, version}
use Rattle.hx_law_chains.specs.Chains.{AckStands, HearsNeighbour, IsDropped, IsHeld, MayHave, MayHearAck, MayHearUpdate, StandsEarlier, UpdateStands}
use Rattle.hx_law_chains.proofs.Lemmas.{runs_hear_neighbours, runs_posts_stand}
use Rattle.hx_tests.proofs.OverlapRun.{ack, adopting, its_ack, its_last, its_leader, its_line, its_meeting, its_run, its_script, its_update}
use Rattle.hx_tests.proofs.OverlapRun.{last_slot, leader_slot, meeting, newest, old, resent, resent_name, script, trace, update}

-- ---- what the laws ask for

-- server 1 and server 3 have the old configuration
first_may : MayHave script trace (server 1) old
first_may = record { server = refl; running = refl; issued = refl; later = omega arith }

third_may : MayHave script trace (server 3) old
third_may = record { server = refl; running = refl; issued = refl; later = omega arith }

-- by it they hear server 2
third_hears : hears_update old second_update (place_number (region 1) second_update.places) (server 3) (Server (server 2)) ≡ true
third_hears = refl

first_hears : hears_ack old first_update (place_number (region 0) first_update.places) (server 1) (Server (server 2)) (region 0) ≡ true
first_hears = refl

-- so they may hear what it sent
third_may_hear : MayHearUpdate script trace (Server (server 2)) (region 1) (server 3) second_update
third_may_hear = record { config = old; may = third_may; listed = refl; heard = third_hears }

first_may_hear : MayHearAck script trace (Server (server 2)) (region 0) (region 0) (server 1) first_update
first_may_hear = record { config = old; may = first_may; listed = refl; heard = first_hears }

-- by the newest they don't
third_hears_later : hears_update newest second_update (place_number (region 1) second_update.places) (server 3) (Server (server 2)) ≡ false
third_hears_later = refl

first_hears_later : hears_ack newest first_update (place_number (region 0) first_update.places) (server 1) (Server (server 2)) (region 0) ≡ false
first_hears_later = refl

-- they hold the key in the regions of its chain
leader_is_held : IsHeld script trace the_key (region 0) (server 1) leader_slot
leader_is_held = inl (replica 0 (leader_slot ∷ []), inl (record { server = refl; running = refl; installed = its_leader }), refl)

last_is_held : IsHeld script trace the_key (region 1) (server 3) last_slot
last_is_held = inl (replica 1 (last_slot ∷ []), inl (record { server = refl; running = refl; installed = its_last }), refl)

-- by the newest configuration server 1 stands before server 3 in the chains of both updates
first_stands_earlier : StandsEarlier (coordinator_of script trace).config first_update (region 0) (server 1) (region 1) (server 3)
first_stands_earlier = inl (omega arith)

second_stands_earlier : StandsEarlier (coordinator_of script trace).config second_update (region 0) (server 1) (region 1) (server 3)
second_stands_earlier = inl (omega arith)

-- of the key's updates version 1 is red and version 2 is blue
pub is_red : (u : Update) → IsIn u (second_update ∷ first_update ∷ []) → u.version ≡ version 1 → u ≡ first_update
is_red u (inl e) v = absurd (let n : 2 ≡ 1 = ap (λ (w : Update). w.version.0) (sym e) ∙ ap (λ (w : Version). w.0) v in omega (arith, n))
is_red u (inr (inl e)) v = e
is_red u (inr (inr i)) v = absurd i

pub is_blue : (u : Update) → IsIn u (second_update ∷ first_update ∷ []) → u.version ≡ version 2 → u ≡ second_update
is_blue u (inl e) v = e
is_blue u (inr (inl e)) v = absurd (let n : 1 ≡ 2 = ap (λ (w : Update). w.version.0) (sym e) ∙ ap (λ (w : Version). w.0) v in omega (arith, n))
is_blue u (inr (inr i)) v = absurd i

-- ---- by the law on posts under way

-- the update of the server that is left out stands
update_stands : UpdateStands script trace (Server (server 2)) (epoch 1) (region 1) (server 3) second_update
update_stands = runs_posts_stand script its_script trace its_run (Server (server 2)) (server 3) update its_update

-- in the key's line
blue_stands : IsIn second_update (line_of the_key trace)
blue_stands = update_stands.stands third_may_hear

-- the newest configuration lists server 3 there
third_is_listed : lists newest (region 1) (server 3) ≡ true
third_is_listed = update_stands.listed third_may_hear

-- and the leader has accepted it, who is before server 3 by the newest configuration
leader_has_blue : 2 ≤ top_of leader_slot
leader_has_blue = update_stands.accepted third_may_hear (region 0) (server 1) leader_slot refl leader_is_held second_stands_earlier

-- its sender is server 2
sender_is : server 2 ≡ update_stands.sent.server
sender_is = (let e = update_stands.sent.from_is in cc)

-- the acknowledgement of that server stands too
ack_stands : AckStands script trace (Server (server 2)) (epoch 1) (region 0) (region 0) (server 1) the_key (version 1)
ack_stands = runs_posts_stand script its_script trace its_run (Server (server 2)) (server 1) ack its_ack

-- it is of red
of_red : first_update ≡ ack_stands.update
of_red = sym (is_red ack_stands.update (subst (λ (line : List Update). IsIn ack_stands.update line) its_line ack_stands.stands) ack_stands.version)

-- which the leader has accepted
leader_has_red : 1 ≤ top_of leader_slot
leader_has_red =
    subst (λ (u : Update). u.version.0 ≤ top_of leader_slot) (sym of_red)
    (ack_stands.accepted (region 0) (server 1) (subst (λ (u : Update). has_place (region 0) u ≡ true) of_red refl) leader_slot leader_is_held)

-- and server 3 has committed it, who is after the leader by the newest configuration
last_has_red : 1 ≤ last_slot.floor
last_has_red =
    subst (λ (u : Update). u.version.0 ≤ last_slot.floor) (sym of_red)
    (ack_stands.committed (subst (λ (u : Update). MayHearAck script trace (Server (server 2)) (region 0) (region 0) (server 1) u) of_red first_may_hear)
    (region 1) (server 3) last_slot (subst (λ (u : Update). has_place (region 1) u ≡ true) of_red refl) last_is_held
    (subst (λ (u : Update). StandsEarlier (coordinator_of script trace).config u (region 0) (server 1) (region 1) (server 3)) of_red first_stands_earlier))

-- an update that stands in no line wouldn't do
abbrev pub unassigned : Update
unassigned = record second_update { version = version 3 }

pub not_in_line : IsIn unassigned (second_update ∷ first_update ∷ []) → ⊥
not_in_line (inl e) = absurd (let n : 3 ≡ 2 = ap (λ (w : Update). w.version.0) e in omega (arith, n))
not_in_line (inr (inl e)) = absurd (let n : 3 ≡ 1 = ap (λ (w : Update). w.version.0) e in omega (arith, n))
not_in_line (inr (inr i)) = i

not_unassigned : ¬ UpdateStands script trace (Server (server 2)) (epoch 1) (region 1) (server 3) unassigned
not_unassigned = λ p. not_in_line (subst (λ (line : List Update). IsIn unassigned line) its_line
    (p.stands (record { config = old; may = third_may; listed = refl; heard = refl })))

-- nor red at a region that it doesn't go through
not_elsewhere : ¬ UpdateStands script trace (Server (server 2)) (epoch 1) (region 2) (server 3) first_update
not_elsewhere = λ p. false≢true p.placed

-- nor an update of an epoch that its sender never knew
not_of_later : ¬ UpdateStands script trace (Server (server 2)) (epoch 2) (region 1) (server 3) second_update
not_of_later = λ p.
    let from_second : p.sent.server ≡ server 2 = (let e = p.sent.from_is in cc) in
    let n : 2 ≤ 1 = subst (λ (s : ServerId). 2 ≤ (server_of script s trace).config.epoch.0) from_second p.sent.no_later in
    absurd (omega (arith, n))

-- nor would an acknowledgement of blue, which server 3 hasn't accepted
not_of_blue : ¬ AckStands script trace (Server (server 2)) (epoch 1) (region 0) (region 0) (server 1) the_key (version 2)
not_of_blue = λ p.
    let of_blue : second_update ≡ p.update = sym (is_blue p.update (subst (λ (line : List Update). IsIn p.update line) its_line p.stands) p.version) in
    let n : 2 ≤ top_of last_slot = subst (λ (u : Update). u.version.0 ≤ top_of last_slot) (sym of_blue)
    (p.accepted (region 1) (server 3) (subst (λ (u : Update). has_place (region 1) u ≡ true) of_blue refl) last_slot last_is_held) in
    absurd (omega (arith, n))

-- ---- by the law on whom replicas hear: server 3 drops what server 1 sends it by the newest configuration, and asks for that

abbrev before : ServerState
before = server_of script (server 3) adopting

abbrev poll : Post
poll = post (Server (server 3)) Coordinator (a_message.Poll (epoch 1))

-- it is its neighbour by the newest one alone
not_heard : hears_update before.config second_update (place_number (region 1) second_update.places) (server 3) (Server (server 1)) ≡ false
not_heard = refl

heard_later : hears_update newest second_update (place_number (region 1) second_update.places) (server 3) (Server (server 1)) ≡ true
heard_later = refl

-- it is heard or dropped, and so dropped
is_dropped : IsDropped before (server_of script (server 3) (meeting ∷ adopting)) (epoch 2) meeting.outputs
is_dropped = elim (runs_hear_neighbours script its_script meeting adopting its_meeting (server 3) refl resent_name (Server (server 1)) resent refl) [
  | inl h ↦ absurd (false≢true (sym not_heard ∙ h.2))
  | inr d ↦ d
]

-- nothing of the server changes
it_stays : server_of script (server 3) (meeting ∷ adopting) ≡ before
it_stays = is_dropped.state

-- and it posts a Poll and nothing else
it_asks : meeting.outputs ≡ poll ∷ []
it_asks = is_dropped.posted

-- a drop without the Poll wouldn't do
not_silent : ¬ HearsNeighbour shop (server 3) before before [] (Server (server 1)) resent
not_silent (inl h) = false≢true (sym not_heard ∙ h.2)
not_silent (inr d) = absurd (let e : [] ≡ poll ∷ [] = d.posted in cc)

-- nor one after which the server isn't as it was
not_changed : ¬ HearsNeighbour shop (server 3) before (record before { halted = true }) (poll ∷ []) (Server (server 1)) resent
not_changed (inl h) = false≢true (sym not_heard ∙ h.2)
not_changed (inr d) = false≢true (sym (ap (λ (s : ServerState). s.halted) d.state))

-- nor does a server take an update for a region of which it has no replica, though it comes from the last member of the place before
abbrev stranger : ServerState
stranger = server_of script (server 1) trace

stranger_hears : hears_update stranger.config first_update (place_number (region 1) first_update.places) (server 1) (Server (server 2)) ≡ true
stranger_hears = refl

not_without_replica : ¬ HearsNeighbour shop (server 1) stranger (record stranger { halted = true }) []
    (Server (server 2)) (a_message.Update (epoch 1) (region 1) first_update)
not_without_replica (inl h) = absurd (let e : None ≡ Some h.0 = h.1 in cc)
not_without_replica (inr d) = false≢true (sym (ap (λ (s : ServerState). s.halted) d.state))
