-- The table of a server's steps, row by row: snapshots, halts, ticks and configurations.
use Rattle.std.specs.Prelude.{◌≡◌, ℕ, Bool, true, false, List, [], ◌∷◌, map, codes, None, Some}
use Rattle.hx_model.specs.Types.{Config, Halt, Input, Kept, Post, Tick, Update}
use Rattle.hx_types.specs.declared.calls.Answer.TheVariants as an_answer
use Rattle.hx_types.specs.declared.messages.Message.TheVariants as a_message
use Rattle.hx_model.specs.Slots.{KeyState}
use Rattle.hx_model.specs.ServerSteps.{Replica, ServerState, ServerStep, server_step}
use Rattle.std.proofs.Common.{refl}
use Rattle.hx_model.proofs.SmallSpace.{between, blue, caller, configured, epoch, first_update, from_coordinator}
use Rattle.hx_model.proofs.SmallSpace.{from_server, from_session, ignoring, joining, key_slot, mark, not_installed}
use Rattle.hx_model.proofs.SmallSpace.{other_slot, place, ready, red, region, replica, row, running, second_update}
use Rattle.hx_model.proofs.SmallSpace.{server, shop, slot_of, stepping, the_key, third_update, to_coordinator}
use Rattle.hx_model.proofs.SmallSpace.{to_session, touch, version, whole}

abbrev step : ServerState → Input → ServerStep
step s input = server_step shop s input

-- ---- Snap

-- server 3 joins region 0, and server 2 is the last ready member
abbrev joins_key_region : ℕ → Config
joins_key_region e =
    configured e (1 ∷ 2 ∷ 3 ∷ []) ((ready 1 ∷ ready 2 ∷ joining 3 ∷ []) ∷ (ready 2 ∷ ready 3 ∷ []) ∷ (ready 3 ∷ ready 1 ∷ []) ∷ [])

abbrev joiner : Replica → ServerState
joiner r = running 3 (joins_key_region 2) (r ∷ replica 1 [] ∷ replica 2 [] ∷ [])

-- the state after version 1
abbrev kept : Kept
kept =
    record {
      key = the_key;
      floor = version 1;
      object = Some (row the_key 1 red);
      marks = mark 1 1 1 an_answer.Done ∷ [];
      touches = touch 0 1 ∷ touch 1 1 ∷ [];
    }

abbrev on_base : Kept → List Update → ℕ → KeyState
on_base base accepted floor = record { marks = true; base = base; accepted = accepted; floor = floor; acked = []; early = [] }

-- the snapshot is installed, the pending update is accepted and sent on, and the joiner is ready
installed :
    step (joiner (not_installed 0)) (from_server 2 (a_message.Snap (epoch 2) (region 0) (kept ∷ []) (second_update ∷ [])))
    ≡ stepping (joiner (replica 0 (on_base kept (second_update ∷ []) 1 ∷ [])))
    (
    between 3 2 (a_message.Update (epoch 2) (region 1) second_update)
    ∷ to_coordinator 3 (a_message.Ready (epoch 2) (region 0))
    ∷ []
    )
installed = refl

-- pending updates of several keys, in byte order of keys
abbrev of_key : List ℕ → Update → Update
of_key key u = record u { key = key }

abbrev first_of : List ℕ → Update
first_of key = of_key key first_update

abbrev taken_first : List ℕ → KeyState
taken_first key = slot_of key true (first_of key ∷ []) 0 [] []

installed_by_keys :
    step (joiner (not_installed 0))
    (from_server 2 (a_message.Snap (epoch 2) (region 0) (kept ∷ []) (first_of (codes "b") ∷ second_update ∷ third_update ∷ first_of (codes "c") ∷ [])))
    ≡ stepping (joiner (replica 0 (on_base kept (third_update ∷ second_update ∷ []) 1 ∷ taken_first (codes "b") ∷ taken_first (codes "c") ∷ [])))
    (
    between 3 2 (a_message.Update (epoch 2) (region 1) second_update)
    ∷ between 3 3 (a_message.Update (epoch 2) (region 2) third_update)
    ∷ between 3 2 (a_message.Update (epoch 2) (region 1) (first_of (codes "b")))
    ∷ between 3 2 (a_message.Update (epoch 2) (region 1) (first_of (codes "c")))
    ∷ to_coordinator 3 (a_message.Ready (epoch 2) (region 0))
    ∷ []
    )
installed_by_keys = refl

-- a pending update that the snapshot has is known
installed_known :
    step (joiner (not_installed 0)) (from_server 2 (a_message.Snap (epoch 2) (region 0) (kept ∷ []) (first_update ∷ [])))
    ≡ stepping (joiner (replica 0 (on_base kept [] 1 ∷ []))) (to_coordinator 3 (a_message.Ready (epoch 2) (region 0)) ∷ [])
installed_known = refl

-- where the chain ends at the joiner, it acknowledges and commits; outside the key subspace no marks and touches are kept
abbrev joins_high_region : Config
joins_high_region =
    configured 2 (1 ∷ 2 ∷ 3 ∷ []) ((ready 1 ∷ ready 2 ∷ []) ∷ (ready 2 ∷ ready 3 ∷ []) ∷ (ready 3 ∷ ready 1 ∷ joining 2 ∷ []) ∷ [])

abbrev high_joiner : Replica → ServerState
high_joiner r = running 2 joins_high_region (replica 0 [] ∷ replica 1 [] ∷ r ∷ [])

abbrev high_kept : Kept
high_kept =
    record {
      key = codes "b";
      floor = version 4;
      object = Some (row (codes "b") 4 blue);
      marks = mark 1 1 1 an_answer.Done ∷ [];
      touches = touch 2 4 ∷ [];
    }

abbrev high_base : KeyState
high_base = record (on_base (record high_kept { marks = []; touches = [] }) [] 4) { marks = false }

installed_at_the_end :
    step (high_joiner (not_installed 2)) (from_server 1 (a_message.Snap (epoch 2) (region 2) (high_kept ∷ []) (second_update ∷ [])))
    ≡ stepping (high_joiner (replica 2 (other_slot (second_update ∷ []) 2 [] [] ∷ high_base ∷ [])))
    (
    between 2 1 (a_message.Ack (epoch 2) (region 2) (region 2) the_key (version 2))
    ∷ to_coordinator 2 (a_message.Ready (epoch 2) (region 2))
    ∷ []
    )
installed_at_the_end = refl

-- a member that is listed as ready installs it too, and says nothing of it
installed_as_ready :
    step (running 2 whole (not_installed 0 ∷ replica 1 [] ∷ [])) (from_server 1 (a_message.Snap (epoch 2) (region 0) (kept ∷ []) []))
    ≡ ignoring (running 2 whole (replica 0 (on_base kept [] 1 ∷ []) ∷ replica 1 [] ∷ []))
installed_as_ready = refl

-- installed before: nothing but that it is ready
installed_before :
    step (joiner (replica 0 (key_slot (first_update ∷ []) 1 [] [] ∷ []))) (from_server 2 (a_message.Snap (epoch 2) (region 0) (kept ∷ []) (second_update ∷ [])))
    ≡ stepping (joiner (replica 0 (key_slot (first_update ∷ []) 1 [] [] ∷ []))) (to_coordinator 3 (a_message.Ready (epoch 2) (region 0)) ∷ [])
installed_before = refl

-- a member that is ready says nothing
abbrev second : ServerState
second = running 2 whole (replica 0 [] ∷ replica 1 [] ∷ [])

ready_before : step second (from_server 1 (a_message.Snap (epoch 2) (region 0) (kept ∷ []) (second_update ∷ []))) ≡ ignoring second
ready_before = refl

-- a snapshot of another epoch is taken too; what is posted has the server's own, and of a higher one it asks first
abbrev snapshots : ℕ → ℕ → Input
snapshots s e = from_server s (a_message.Snap (epoch e) (region 0) (kept ∷ []) (second_update ∷ []))

abbrev polls : ℕ → Post
polls s = to_coordinator s (a_message.Poll (epoch 2))

abbrev installed_joiner : ServerState
installed_joiner = joiner (replica 0 (on_base kept (second_update ∷ []) 1 ∷ []))

installed_of_other_epochs :
    map (λ (e : ℕ). step (joiner (not_installed 0)) (snapshots 2 e)) (1 ∷ 3 ∷ [])
    ≡ stepping installed_joiner
    (between 3 2 (a_message.Update (epoch 2) (region 1) second_update) ∷ to_coordinator 3 (a_message.Ready (epoch 2) (region 0)) ∷ [])
    ∷ stepping installed_joiner
    (polls 3 ∷ between 3 2 (a_message.Update (epoch 2) (region 1) second_update) ∷ to_coordinator 3 (a_message.Ready (epoch 2) (region 0)) ∷ [])
    ∷ []
installed_of_other_epochs = refl

ready_of_other_epochs :
    map (λ (e : ℕ). step installed_joiner (snapshots 2 e)) (1 ∷ 3 ∷ [])
    ≡ stepping installed_joiner (to_coordinator 3 (a_message.Ready (epoch 2) (region 0)) ∷ [])
    ∷ stepping installed_joiner (polls 3 ∷ to_coordinator 3 (a_message.Ready (epoch 2) (region 0)) ∷ [])
    ∷ []
ready_of_other_epochs = refl

-- only the member directly before is heard: from the first of three, from the joiner itself or from a session it is dropped
unheard_by_a_joiner :
    map (step (joiner (not_installed 0))) (snapshots 1 2 ∷ snapshots 3 2 ∷ from_session 2 (a_message.Snap (epoch 2) (region 0) (kept ∷ []) []) ∷ [])
    ≡ ignoring (joiner (not_installed 0)) ∷ ignoring (joiner (not_installed 0)) ∷ ignoring (joiner (not_installed 0)) ∷ []
unheard_by_a_joiner = refl

unheard_by_an_installed_joiner :
    map (step installed_joiner) (snapshots 1 2 ∷ snapshots 1 3 ∷ []) ≡ ignoring installed_joiner ∷ stepping installed_joiner (polls 3 ∷ []) ∷ []
unheard_by_an_installed_joiner = refl

-- nobody stands before the first
unheard_by_the_first :
    map (λ (s : ℕ). step (running 1 whole (replica 0 [] ∷ replica 2 [] ∷ [])) (snapshots s 2)) (1 ∷ 2 ∷ 3 ∷ [])
    ≡ ignoring (running 1 whole (replica 0 [] ∷ replica 2 [] ∷ []))
    ∷ ignoring (running 1 whole (replica 0 [] ∷ replica 2 [] ∷ []))
    ∷ ignoring (running 1 whole (replica 0 [] ∷ replica 2 [] ∷ []))
    ∷ []
unheard_by_the_first = refl

-- ---- Die, Halt

dies : step second (from_coordinator a_message.Die) ≡ stepping (record second { halted = true }) (to_coordinator 2 a_message.Gone ∷ [])
dies = refl

halts : step second Halt ≡ stepping (record second { halted = true }) (to_coordinator 2 a_message.Gone ∷ [])
halts = refl

-- replicas stay as they are, and it doesn't halt twice
abbrev holding : Bool → ServerState
holding halted =
    record (running 2 whole (replica 0 (key_slot (second_update ∷ first_update ∷ []) 0 (2 ∷ []) (third_update ∷ []) ∷ []) ∷ replica 1 [] ∷ [])) {
      halted = halted;
    }

halts_as_it_is :
    map (step (holding false)) (Halt ∷ from_coordinator a_message.Die ∷ [])
    ≡ stepping (holding true) (to_coordinator 2 a_message.Gone ∷ []) ∷ stepping (holding true) (to_coordinator 2 a_message.Gone ∷ []) ∷ []
halts_as_it_is = refl

halts_once : map (step (holding true)) (Halt ∷ from_coordinator a_message.Die ∷ []) ≡ ignoring (holding true) ∷ ignoring (holding true) ∷ []
halts_once = refl

-- ---- Tick: where anything is posted, the newest configuration is asked for last

-- what is pending is sent again, by region, key and version; what is committed or early isn't
abbrev busy_second : ServerState
busy_second =
    running 2 whole
    (
    replica 0
    (
    key_slot (third_update ∷ second_update ∷ first_update ∷ []) 1 (3 ∷ []) []
    ∷ slot_of (codes "b") true (of_key (codes "b") first_update ∷ []) 0 [] (of_key (codes "b") third_update ∷ [])
    ∷ []
    )
    ∷ replica 1 (other_slot (second_update ∷ first_update ∷ []) 0 [] [] ∷ [])
    ∷ []
    )

pending_tick :
    step busy_second Tick
    ≡ stepping busy_second
    (
    between 2 2 (a_message.Update (epoch 2) (region 1) second_update)
    ∷ between 2 3 (a_message.Update (epoch 2) (region 2) third_update)
    ∷ between 2 2 (a_message.Update (epoch 2) (region 1) (of_key (codes "b") first_update))
    ∷ between 2 3 (a_message.Update (epoch 2) (region 1) first_update)
    ∷ between 2 3 (a_message.Update (epoch 2) (region 1) second_update)
    ∷ polls 2
    ∷ []
    )
pending_tick = refl

-- where the chain ends nothing is sent
abbrev last_of_chain : ServerState
last_of_chain = running 3 whole (replica 1 (other_slot (first_update ∷ []) 0 [] [] ∷ []) ∷ replica 2 [] ∷ [])

idle_tick : step last_of_chain Tick ≡ ignoring last_of_chain
idle_tick = refl

-- the sender posts what is committed and what is pending to the joiner, and the pending updates to the next replica, which is the joiner's
abbrev sender : ServerState
sender =
    running 2 (joins_key_region 2)
    (
    replica 0 (key_slot (second_update ∷ first_update ∷ []) 1 [] [] ∷ slot_of (codes "b") true (of_key (codes "b") first_update ∷ []) 0 [] [] ∷ [])
    ∷ replica 1 []
    ∷ []
    )

sender_tick :
    step sender Tick
    ≡ stepping sender
    (
    between 2 3 (a_message.Snap (epoch 2) (region 0) (kept ∷ []) (second_update ∷ of_key (codes "b") first_update ∷ []))
    ∷ between 2 3 (a_message.Update (epoch 2) (region 0) second_update)
    ∷ between 2 3 (a_message.Update (epoch 2) (region 0) (of_key (codes "b") first_update))
    ∷ polls 2
    ∷ []
    )
sender_tick = refl

-- only the last ready member is the sender
abbrev first_of_three : ServerState
first_of_three = running 1 (joins_key_region 2) (replica 0 [] ∷ replica 2 [] ∷ [])

no_sender_tick : step first_of_three Tick ≡ ignoring first_of_three
no_sender_tick = refl

-- a member that isn't ready stands between two that are
abbrev two_join : Config
two_join = configured 2 (1 ∷ 2 ∷ 3 ∷ []) ((ready 1 ∷ joining 2 ∷ ready 3 ∷ joining 4 ∷ []) ∷ [] ∷ [] ∷ [])

last_ready_sends :
    step (running 3 two_join (replica 0 [] ∷ [])) Tick
    ≡ stepping (running 3 two_join (replica 0 [] ∷ [])) (between 3 4 (a_message.Snap (epoch 2) (region 0) [] []) ∷ polls 3 ∷ [])
last_ready_sends = refl

earlier_ready_does_not : step (running 1 two_join (replica 0 [] ∷ [])) Tick ≡ ignoring (running 1 two_join (replica 0 [] ∷ []))
earlier_ready_does_not = refl

-- an installed joiner says that it is ready, and sends on
joiner_tick :
    step (joiner (replica 0 (key_slot (first_update ∷ []) 0 [] [] ∷ []))) Tick
    ≡ stepping (joiner (replica 0 (key_slot (first_update ∷ []) 0 [] [] ∷ [])))
    (
    between 3 2 (a_message.Update (epoch 2) (region 1) first_update)
    ∷ to_coordinator 3 (a_message.Ready (epoch 2) (region 0))
    ∷ polls 3
    ∷ []
    )
joiner_tick = refl

-- one region after another, and one question for all
abbrev busy_joiner : ServerState
busy_joiner =
    running 3 (joins_key_region 2)
    (
    replica 0 (key_slot (first_update ∷ []) 0 [] [] ∷ [])
    ∷ replica 1 []
    ∷ replica 2 (other_slot (second_update ∷ []) 0 [] [] ∷ [])
    ∷ []
    )

busy_joiner_tick :
    step busy_joiner Tick
    ≡ stepping busy_joiner
    (
    between 3 2 (a_message.Update (epoch 2) (region 1) first_update)
    ∷ to_coordinator 3 (a_message.Ready (epoch 2) (region 0))
    ∷ between 3 1 (a_message.Update (epoch 2) (region 2) second_update)
    ∷ polls 3
    ∷ []
    )
busy_joiner_tick = refl

-- a joiner with nothing to send says that it is ready, and asks
ready_tick :
    step (joiner (replica 0 [])) Tick ≡ stepping (joiner (replica 0 [])) (to_coordinator 3 (a_message.Ready (epoch 2) (region 0)) ∷ polls 3 ∷ [])
ready_tick = refl

not_installed_tick : step (joiner (not_installed 0)) Tick ≡ ignoring (joiner (not_installed 0))
not_installed_tick = refl

-- a lost region is silent
abbrev lost_key_region : ℕ → Config
lost_key_region e = configured e (2 ∷ 3 ∷ []) ((joining 2 ∷ []) ∷ (ready 2 ∷ ready 3 ∷ []) ∷ (ready 3 ∷ []) ∷ [])

abbrev of_lost_region : ServerState
of_lost_region = running 2 (lost_key_region 2) (replica 0 (key_slot (first_update ∷ []) 0 [] [] ∷ []) ∷ replica 1 [] ∷ [])

lost_region_tick : step of_lost_region Tick ≡ ignoring of_lost_region
lost_region_tick = refl

-- the other regions of its server aren't
abbrev beside_lost_region : ServerState
beside_lost_region =
    running 2 (lost_key_region 2)
    (replica 0 (key_slot (first_update ∷ []) 0 [] [] ∷ []) ∷ replica 1 (other_slot (first_update ∷ []) 0 [] [] ∷ []) ∷ [])

beside_lost_region_tick :
    step beside_lost_region Tick ≡ stepping beside_lost_region (between 2 3 (a_message.Update (epoch 2) (region 1) first_update) ∷ polls 2 ∷ [])
beside_lost_region_tick = refl

-- what is pending before a lost region isn't sent, so nothing is asked
abbrev before_lost_region : ServerState
before_lost_region =
    running 2 (configured 2 (1 ∷ 2 ∷ []) ((ready 1 ∷ ready 2 ∷ []) ∷ [] ∷ (ready 1 ∷ []) ∷ []))
    (replica 0 (key_slot (first_update ∷ []) 0 [] [] ∷ []) ∷ [])

before_lost_region_tick : step before_lost_region Tick ≡ ignoring before_lost_region
before_lost_region_tick = refl

-- ---- Install

abbrev installs : Config → Input
installs config = from_coordinator (a_message.Install config)

own_epoch_is_ignored : step (holding false) (installs whole) ≡ ignoring (holding false)
own_epoch_is_ignored = refl

lower_epoch_is_ignored : step (holding false) (installs (lost_key_region 1)) ≡ ignoring (holding false)
lower_epoch_is_ignored = refl

-- a newly listed region has a replica that isn't installed; a region where it isn't listed any more has none
abbrev moved_config : Config
moved_config = configured 3 (1 ∷ 2 ∷ 3 ∷ []) ((ready 1 ∷ ready 2 ∷ []) ∷ (ready 3 ∷ []) ∷ (ready 3 ∷ ready 1 ∷ joining 2 ∷ []) ∷ [])

adopted : step second (installs moved_config) ≡ ignoring (running 2 moved_config (replica 0 [] ∷ not_installed 2 ∷ []))
adopted = refl

-- epochs may be left out
adopted_later :
    step second (installs (record moved_config { epoch = epoch 7 }))
    ≡ ignoring (running 2 (record moved_config { epoch = epoch 7 }) (replica 0 [] ∷ not_installed 2 ∷ []))
adopted_later = refl

-- a replica that stays keeps whether it is installed
still_not_installed :
    step (joiner (not_installed 0)) (installs (joins_key_region 3))
    ≡ ignoring (running 3 (joins_key_region 3) (not_installed 0 ∷ replica 1 [] ∷ replica 2 [] ∷ []))
still_not_installed = refl

-- acknowledgements and early updates are forgotten, and what is pending is sent again
abbrev whole_next : Config
whole_next = record whole { epoch = epoch 3 }

forgets_and_sends_again :
    step (running 2 whole (replica 0 (key_slot (second_update ∷ first_update ∷ []) 0 (2 ∷ []) (third_update ∷ []) ∷ []) ∷ replica 1 [] ∷ []))
    (installs whole_next)
    ≡ stepping (running 2 whole_next (replica 0 (key_slot (second_update ∷ first_update ∷ []) 0 [] [] ∷ []) ∷ replica 1 [] ∷ []))
    (
    between 2 2 (a_message.Update (epoch 3) (region 1) first_update)
    ∷ between 2 2 (a_message.Update (epoch 3) (region 1) second_update)
    ∷ []
    )
forgets_and_sends_again = refl

-- one region after another, key by key
forgets_and_sends_by_regions :
    step busy_second (installs whole_next)
    ≡ stepping
    (
    running 2 whole_next
    (
    replica 0
    (
    key_slot (third_update ∷ second_update ∷ first_update ∷ []) 1 [] []
    ∷ slot_of (codes "b") true (of_key (codes "b") first_update ∷ []) 0 [] []
    ∷ []
    )
    ∷ replica 1 (other_slot (second_update ∷ first_update ∷ []) 0 [] [] ∷ [])
    ∷ []
    )
    )
    (
    between 2 2 (a_message.Update (epoch 3) (region 1) second_update)
    ∷ between 2 3 (a_message.Update (epoch 3) (region 2) third_update)
    ∷ between 2 2 (a_message.Update (epoch 3) (region 1) (of_key (codes "b") first_update))
    ∷ between 2 3 (a_message.Update (epoch 3) (region 1) first_update)
    ∷ between 2 3 (a_message.Update (epoch 3) (region 1) second_update)
    ∷ []
    )
forgets_and_sends_by_regions = refl

-- so they are in a lost region, which is silent
forgets_in_a_lost_region :
    step (running 2 whole (replica 0 (key_slot (second_update ∷ first_update ∷ []) 0 (2 ∷ []) (third_update ∷ []) ∷ []) ∷ replica 1 [] ∷ []))
    (installs (lost_key_region 3))
    ≡ ignoring (running 2 (lost_key_region 3) (replica 0 (key_slot (second_update ∷ first_update ∷ []) 0 [] [] ∷ []) ∷ replica 1 [] ∷ []))
forgets_in_a_lost_region = refl

-- where the chain ends now, it acknowledges, commits and tells the replica before
abbrev shorter : Config
shorter = configured 3 (1 ∷ 2 ∷ []) ((ready 1 ∷ ready 2 ∷ []) ∷ (ready 2 ∷ []) ∷ (ready 1 ∷ []) ∷ [])

commits_at_the_end :
    step (running 2 whole (replica 0 [] ∷ replica 1 (other_slot (first_update ∷ []) 0 [] [] ∷ []) ∷ [])) (installs shorter)
    ≡ stepping (running 2 shorter (replica 0 [] ∷ replica 1 (other_slot (first_update ∷ []) 1 [] [] ∷ []) ∷ []))
    (between 2 2 (a_message.Ack (epoch 3) (region 0) (region 1) the_key (version 1)) ∷ [])
commits_at_the_end = refl

-- the new leader of a chain of one replica answers
abbrev alone : Config
alone = configured 3 (2 ∷ []) ((ready 2 ∷ []) ∷ (ready 2 ∷ []) ∷ [] ∷ [])

abbrev missed : ℕ → ℕ → Update
missed v number =
    record {
      key = the_key;
      version = version v;
      caller = caller 1 number;
      answer = an_answer.NotFound;
      changes = false;
      object = None;
      places = place 0 0 false ∷ [];
    }

answers_alone :
    step (running 2 whole (replica 0 (key_slot (missed 1 1 ∷ []) 0 [] [] ∷ []) ∷ replica 1 [] ∷ [])) (installs alone)
    ≡ stepping (running 2 alone (replica 0 (key_slot (missed 1 1 ∷ []) 1 [] [] ∷ []) ∷ replica 1 [] ∷ []))
    (to_session 2 1 (a_message.Reply 1 (version 1) an_answer.NotFound) ∷ [])
answers_alone = refl

-- the leader doubts what is pending from the first version on that has a place in a lost region, after it sent what can be sent
abbrev high_lost : Config
high_lost = configured 3 (1 ∷ 2 ∷ 3 ∷ []) ((ready 1 ∷ ready 2 ∷ []) ∷ (ready 2 ∷ []) ∷ (joining 1 ∷ []) ∷ [])

doubted_from_the_stuck_one :
    step (running 1 whole (replica 0 (key_slot (third_update ∷ second_update ∷ first_update ∷ []) 0 [] [] ∷ []) ∷ replica 2 [] ∷ [])) (installs high_lost)
    ≡ stepping (running 1 high_lost (replica 0 (key_slot (third_update ∷ second_update ∷ first_update ∷ []) 0 [] [] ∷ []) ∷ replica 2 [] ∷ []))
    (
    between 1 2 (a_message.Update (epoch 3) (region 0) first_update)
    ∷ between 1 2 (a_message.Update (epoch 3) (region 0) second_update)
    ∷ between 1 2 (a_message.Update (epoch 3) (region 0) third_update)
    ∷ to_session 1 2 (a_message.Reply 1 (version 2) (an_answer.Doubt (region 2) (epoch 3)))
    ∷ to_session 1 1 (a_message.Reply 2 (version 3) (an_answer.Doubt (region 2) (epoch 3)))
    ∷ []
    )
doubted_from_the_stuck_one = refl

-- only the leader doubts
follower_doubts_nothing :
    step (running 2 whole (replica 0 (key_slot (second_update ∷ first_update ∷ []) 1 [] [] ∷ []) ∷ replica 1 [] ∷ [])) (installs high_lost)
    ≡ stepping (running 2 high_lost (replica 0 (key_slot (second_update ∷ first_update ∷ []) 1 [] [] ∷ []) ∷ replica 1 [] ∷ []))
    (between 2 2 (a_message.Update (epoch 3) (region 1) second_update) ∷ [])
follower_doubts_nothing = refl

-- the sender posts a snapshot first; each key is sent whole before the next one
sends_to_the_new_joiner :
    step (record sender { config = whole }) (installs (joins_key_region 3))
    ≡ stepping (record sender { config = joins_key_region 3 })
    (
    between 2 3 (a_message.Snap (epoch 3) (region 0) (kept ∷ []) (second_update ∷ of_key (codes "b") first_update ∷ []))
    ∷ between 2 3 (a_message.Update (epoch 3) (region 0) second_update)
    ∷ between 2 3 (a_message.Update (epoch 3) (region 0) (of_key (codes "b") first_update))
    ∷ []
    )
sends_to_the_new_joiner = refl

-- an installed joiner that is still not ready says so last
joiner_is_ready_again :
    step (joiner (replica 0 (key_slot (first_update ∷ []) 0 [] [] ∷ []))) (installs (joins_key_region 3))
    ≡ stepping (running 3 (joins_key_region 3) (replica 0 (key_slot (first_update ∷ []) 0 [] [] ∷ []) ∷ replica 1 [] ∷ replica 2 [] ∷ []))
    (
    between 3 2 (a_message.Update (epoch 3) (region 1) first_update)
    ∷ to_coordinator 3 (a_message.Ready (epoch 3) (region 0))
    ∷ []
    )
joiner_is_ready_again = refl

-- ---- any other message

others_do_nothing :
    map (step second)
    (
    from_server 1 (a_message.Reply 1 (version 1) an_answer.Done)
    ∷ from_server 1 (a_message.Found (epoch 2) 1 (region 0) [])
    ∷ from_coordinator (a_message.Seal (epoch 2))
    ∷ from_server 1 (a_message.Sealed (epoch 2))
    ∷ from_server 1 a_message.Gone
    ∷ from_session 1 (a_message.StopServer 1 (server 2))
    ∷ from_session 1 (a_message.AddReplica 1 (server 2) (region 0))
    ∷ from_coordinator (a_message.Outcome 1 (an_answer.Issued (epoch 2)))
    ∷ from_server 1 (a_message.Ready (epoch 2) (region 0))
    ∷ from_session 1 (a_message.Poll (epoch 1))
    ∷ []
    )
    ≡ ignoring second ∷ ignoring second ∷ ignoring second ∷ ignoring second ∷ ignoring second ∷ ignoring second ∷ ignoring second
    ∷ ignoring second ∷ ignoring second ∷ ignoring second ∷ []
others_do_nothing = refl

-- whatever their epoch
others_of_a_higher_epoch_do_nothing :
    map (step second)
    (
    from_server 1 (a_message.Found (epoch 3) 1 (region 0) [])
    ∷ from_coordinator (a_message.Seal (epoch 3))
    ∷ from_server 1 (a_message.Sealed (epoch 3))
    ∷ from_coordinator (a_message.Outcome 1 (an_answer.Issued (epoch 3)))
    ∷ from_server 1 (a_message.Ready (epoch 3) (region 0))
    ∷ from_session 1 (a_message.Poll (epoch 3))
    ∷ []
    )
    ≡ ignoring second ∷ ignoring second ∷ ignoring second ∷ ignoring second ∷ ignoring second ∷ ignoring second ∷ []
others_of_a_higher_epoch_do_nothing = refl
