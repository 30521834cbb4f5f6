-- The table of a server's steps, row by row, on a small space.
use Rattle.std.specs.Prelude.{◌≡◌, ℕ, true, false, List, [], ◌∷◌, ◌++◌, map, codes, None, Some}
use Rattle.hx_model.specs.Types.{Config, Del, Equal, Get, Halt, Input, Kept, Op, Post, Tick, Update}
use Rattle.hx_types.specs.declared.values.Value.TheVariants as a_value
use Rattle.hx_types.specs.declared.calls.Answer.TheVariants as an_answer
use Rattle.hx_types.specs.declared.messages.Message.TheVariants as a_message
use Rattle.hx_types.specs.declared.traces.Note.TheVariants as a_note
use Rattle.hx_model.specs.Slots.{KeyState}
use Rattle.hx_model.specs.ServerSteps.{ServerState, ServerStep, server_step}
use Rattle.std.proofs.Common.{refl}
use Rattle.hx_model.proofs.SmallSpace.{between, blue, caller, colored, configured, epoch, first_update}
use Rattle.hx_model.proofs.SmallSpace.{from_coordinator, from_server, from_session, ignoring, joining, key_slot, mark}
use Rattle.hx_model.proofs.SmallSpace.{not_installed, other_slot, place, put_color, ready, red, region, replica, row}
use Rattle.hx_model.proofs.SmallSpace.{running, second_update, shop, slot_of, stepping, the_key, third_update}
use Rattle.hx_model.proofs.SmallSpace.{to_coordinator, to_session, touch, version, whole}

abbrev step : ServerState → Input → ServerStep
step s input = server_step shop s input

-- ---- who takes messages

-- server 1 leads region 0, server 2 follows it there and is first in region 1, server 3 follows it there and is first in region 2
abbrev leader : KeyState → ServerState
leader slot = running 1 whole (replica 0 (slot ∷ []) ∷ replica 2 [] ∷ [])

abbrev second : KeyState → KeyState → ServerState
second slot other = running 2 whole (replica 0 (slot ∷ []) ∷ replica 1 (other ∷ []) ∷ [])

abbrev third : KeyState → KeyState → ServerState
third low high = running 3 whole (replica 1 (low ∷ []) ∷ replica 2 (high ∷ []) ∷ [])

abbrev fresh : KeyState
fresh = key_slot [] 0 [] []

abbrev bare : KeyState
bare = other_slot [] 0 [] []

abbrev empty_leader : ServerState
empty_leader = running 1 whole (replica 0 [] ∷ replica 2 [] ∷ [])

abbrev empty_second : ServerState
empty_second = running 2 whole (replica 0 [] ∷ replica 1 [] ∷ [])

abbrev pending_leader : ServerState
pending_leader = leader (key_slot (first_update ∷ []) 0 [] [])

-- server 3 joins region 0
abbrev joiner_config : Config
joiner_config =
    configured 2 (1 ∷ 2 ∷ 3 ∷ []) ((ready 1 ∷ ready 2 ∷ joining 3 ∷ []) ∷ (ready 2 ∷ ready 3 ∷ []) ∷ (ready 3 ∷ ready 1 ∷ []) ∷ [])

abbrev waiting_joiner : ServerState
waiting_joiner = running 3 joiner_config (not_installed 0 ∷ replica 1 [] ∷ replica 2 [] ∷ [])

abbrev installed_joiner : KeyState → ServerState
installed_joiner slot = running 3 joiner_config (replica 0 (slot ∷ []) ∷ replica 1 [] ∷ replica 2 [] ∷ [])

-- a call, an update, an acknowledgement, a question and a snapshot of an epoch, for region 0
abbrev call_of : ℕ → Input
call_of e = from_session 1 (a_message.Call (epoch e) 1 (Get the_key))

abbrev update_of : ℕ → ℕ → Input
update_of s e = from_server s (a_message.Update (epoch e) (region 0) first_update)

abbrev ack_of : ℕ → ℕ → ℕ → Input
ack_of s by e = from_server s (a_message.Ack (epoch e) (region 0) (region by) the_key (version 1))

abbrev question_of : ℕ → Input
question_of e = from_session 1 (a_message.Ask (epoch e) 1 (region 0) [])

abbrev snapshot_of : ℕ → ℕ → Input
snapshot_of s e = from_server s (a_message.Snap (epoch e) (region 0) [] (first_update ∷ []))

-- each of the five messages at a server that takes it
abbrev takes : ℕ → List ServerStep
takes e =
    step pending_leader (call_of e)
    ∷ step empty_second (update_of 1 e)
    ∷ step pending_leader (ack_of 2 0 e)
    ∷ step pending_leader (question_of e)
    ∷ step waiting_joiner (snapshot_of 2 e)
    ∷ []

-- what comes of them after these posts of each server; what is posted has the server's own epoch, and an answer that of the question
abbrev taken_after : (ℕ → List Post) → ℕ → List ServerStep
taken_after posts e =
    stepping pending_leader (posts 1 ++ to_session 1 1 (a_message.Reply 1 (version 0) an_answer.NotFound) ∷ [])
    ∷ stepping (running 2 whole (replica 0 (key_slot (first_update ∷ []) 0 [] [] ∷ []) ∷ replica 1 [] ∷ []))
    (posts 2 ++ between 2 2 (a_message.Update (epoch 2) (region 1) first_update) ∷ [])
    ∷ stepping (leader (key_slot (first_update ∷ []) 1 [] [])) (posts 1 ++ to_session 1 1 (a_message.Reply 1 (version 1) an_answer.Done) ∷ [])
    ∷ stepping pending_leader (posts 1 ++ to_session 1 1 (a_message.Found (epoch e) 1 (region 0) []) ∷ [])
    ∷ stepping (installed_joiner (key_slot (first_update ∷ []) 0 [] []))
    (posts 3 ++ between 3 2 (a_message.Update (epoch 2) (region 1) first_update) ∷ to_coordinator 3 (a_message.Ready (epoch 2) (region 0)) ∷ [])
    ∷ []

abbrev no_posts : ℕ → List Post
no_posts s = []

abbrev polls : ℕ → List Post
polls s = to_coordinator s (a_message.Poll (epoch 2)) ∷ []

own_epoch_is_taken : takes 2 ≡ taken_after no_posts 2
own_epoch_is_taken = refl

lower_epoch_is_taken : takes 1 ≡ taken_after no_posts 1
lower_epoch_is_taken = refl

-- a higher epoch is taken too, and the newest configuration is asked for first
higher_epoch_asks_first : takes 3 ≡ taken_after polls 3
higher_epoch_asks_first = refl

-- all five at one server
abbrev five_of : ℕ → List Input
five_of e = call_of e ∷ update_of 1 e ∷ ack_of 2 1 e ∷ question_of e ∷ snapshot_of 2 e ∷ []

abbrev steps_of : ServerState → List Input → List ServerStep
steps_of s inputs = map (step s) inputs

abbrev ignores : ServerState → List ServerStep
ignores s = ignoring s ∷ ignoring s ∷ ignoring s ∷ ignoring s ∷ ignoring s ∷ []

-- what is dropped asks all the same
abbrev only_polls : ServerState → List ServerStep
only_polls s = let asks = stepping s (polls s.id.0) in asks ∷ asks ∷ asks ∷ asks ∷ asks ∷ []

abbrev no_replica : ServerState
no_replica = running 3 whole (replica 1 [] ∷ replica 2 [] ∷ [])

no_replica_takes_nothing :
    map (λ (e : ℕ). steps_of no_replica (five_of e)) (1 ∷ 2 ∷ 3 ∷ [])
    ≡ ignores no_replica ∷ ignores no_replica ∷ only_polls no_replica ∷ []
no_replica_takes_nothing = refl

-- region 0 has no ready member
abbrev key_region_lost : Config
key_region_lost = configured 2 (2 ∷ 3 ∷ []) ((joining 2 ∷ []) ∷ (ready 2 ∷ ready 3 ∷ []) ∷ (ready 3 ∷ []) ∷ [])

abbrev of_lost_region : ServerState
of_lost_region = running 2 key_region_lost (replica 0 (key_slot (first_update ∷ []) 0 [] [] ∷ []) ∷ replica 1 [] ∷ [])

lost_region_takes_nothing :
    map (λ (e : ℕ). steps_of of_lost_region (five_of e)) (1 ∷ 2 ∷ 3 ∷ [])
    ≡ ignores of_lost_region ∷ ignores of_lost_region ∷ only_polls of_lost_region ∷ []
lost_region_takes_nothing = refl

abbrev joiner_of_lost_region : ServerState
joiner_of_lost_region = running 3 (configured 2 (2 ∷ 3 ∷ []) ((joining 2 ∷ joining 3 ∷ []) ∷ [] ∷ [] ∷ [])) (not_installed 0 ∷ [])

lost_region_installs_nothing :
    map (λ (e : ℕ). step joiner_of_lost_region (snapshot_of 2 e)) (2 ∷ 3 ∷ [])
    ≡ ignoring joiner_of_lost_region ∷ stepping joiner_of_lost_region (polls 3) ∷ []
lost_region_installs_nothing = refl

-- a replica that isn't installed takes nothing but a snapshot
not_installed_takes_no_update :
    map (λ (e : ℕ). step waiting_joiner (update_of 2 e)) (2 ∷ 3 ∷ []) ≡ ignoring waiting_joiner ∷ stepping waiting_joiner (polls 3) ∷ []
not_installed_takes_no_update = refl

abbrev holding_joiner : ServerState
holding_joiner =
    running 3 joiner_config
    (record (replica 0 (key_slot (first_update ∷ []) 0 [] [] ∷ [])) { installed = false } ∷ replica 1 [] ∷ replica 2 [] ∷ [])

not_installed_takes_no_ack :
    map (λ (e : ℕ). step holding_joiner (ack_of 2 1 e)) (2 ∷ 3 ∷ []) ≡ ignoring holding_joiner ∷ stepping holding_joiner (polls 3) ∷ []
not_installed_takes_no_ack = refl

abbrev not_installed_but_ready : ServerState
not_installed_but_ready = running 3 whole (not_installed 1 ∷ replica 2 [] ∷ [])

not_installed_answers_no_question :
    map (λ (e : ℕ). step not_installed_but_ready (from_session 1 (a_message.Ask (epoch e) 1 (region 1) []))) (2 ∷ 3 ∷ [])
    ≡ ignoring not_installed_but_ready ∷ stepping not_installed_but_ready (polls 3) ∷ []
not_installed_answers_no_question = refl

-- nor does it ask
halted_takes_no_step :
    steps_of (record pending_leader { halted = true })
    (Tick ∷ Halt ∷ from_coordinator a_message.Die ∷ call_of 3 ∷ from_coordinator (a_message.Install (record whole { epoch = epoch 3 })) ∷ [])
    ≡ ignores (record pending_leader { halted = true })
halted_takes_no_step = refl

halted_hears_nothing : steps_of (record pending_leader { halted = true }) (five_of 3) ≡ ignores (record pending_leader { halted = true })
halted_hears_nothing = refl

-- ---- Call of a get

abbrev red_then_blue : KeyState
red_then_blue = key_slot (second_update ∷ first_update ∷ []) 1 [] []

get_finds_the_committed_object :
    step (leader red_then_blue) (from_session 3 (a_message.Call (epoch 2) 4 (Get the_key)))
    ≡ stepping (leader red_then_blue) (to_session 1 3 (a_message.Reply 4 (version 1) (an_answer.Found (colored red))) ∷ [])
get_finds_the_committed_object = refl

get_finds_nothing :
    step empty_leader (from_session 3 (a_message.Call (epoch 2) 4 (Get the_key)))
    ≡ stepping (leader fresh) (to_session 1 3 (a_message.Reply 4 (version 0) an_answer.NotFound) ∷ [])
get_finds_nothing = refl

get_finds_nothing_after_a_delete :
    step (leader (key_slot (third_update ∷ second_update ∷ first_update ∷ []) 3 [] [])) (from_session 3 (a_message.Call (epoch 2) 4 (Get the_key)))
    ≡ stepping (leader (key_slot (third_update ∷ second_update ∷ first_update ∷ []) 3 [] []))
    (to_session 1 3 (a_message.Reply 4 (version 3) an_answer.NotFound) ∷ [])
get_finds_nothing_after_a_delete = refl

-- a get asks nothing of marks: session 1 has a newer write
get_asks_no_mark :
    step (leader (key_slot (first_update ∷ []) 1 [] [])) (from_session 1 (a_message.Call (epoch 2) 0 (Get the_key)))
    ≡ stepping (leader (key_slot (first_update ∷ []) 1 [] [])) (to_session 1 1 (a_message.Reply 0 (version 1) (an_answer.Found (colored red))) ∷ [])
get_asks_no_mark = refl

only_the_leader_answers_a_get :
    step (second (key_slot (first_update ∷ []) 1 [] []) bare) (from_session 3 (a_message.Call (epoch 2) 4 (Get the_key)))
    ≡ ignoring (second (key_slot (first_update ∷ []) 1 [] []) bare)
only_the_leader_answers_a_get = refl

-- and asks where the call has a higher epoch, a get or a write
follower_asks :
    map (step (second fresh bare)) (call_of 3 ∷ from_session 1 (a_message.Call (epoch 3) 1 (put_color red)) ∷ [])
    ≡ stepping (second fresh bare) (polls 2) ∷ stepping (second fresh bare) (polls 2) ∷ []
follower_asks = refl

-- ---- Call of a write

abbrev calls : ℕ → ℕ → Op → Input
calls u number op = from_session u (a_message.Call (epoch 2) number op)

only_the_leader_takes_a_write : step (second fresh bare) (calls 1 1 (put_color red)) ≡ ignoring (second fresh bare)
only_the_leader_takes_a_write = refl

-- the first write: noted, accepted, and sent to the next replica
assigned_first :
    step empty_leader (calls 1 1 (put_color red))
    ≡ record {
      state = leader (key_slot (first_update ∷ []) 0 [] []);
      posts = between 1 2 (a_message.Update (epoch 2) (region 0) first_update) ∷ [];
      notes = a_note.Assigned first_update ∷ [];
    }
assigned_first = refl

-- the next one: on the latest object, with the places of the old object and the new
assigned_second :
    step (leader (key_slot (first_update ∷ []) 0 [] [])) (calls 2 1 (put_color blue))
    ≡ record {
      state = leader (key_slot (second_update ∷ first_update ∷ []) 0 [] []);
      posts = between 1 2 (a_message.Update (epoch 2) (region 0) second_update) ∷ [];
      notes = a_note.Assigned second_update ∷ [];
    }
assigned_second = refl

assigned_third :
    step (leader red_then_blue) (calls 1 2 (Del the_key))
    ≡ record {
      state = leader (key_slot (third_update ∷ second_update ∷ first_update ∷ []) 1 [] []);
      posts = between 1 2 (a_message.Update (epoch 2) (region 0) third_update) ∷ [];
      notes = a_note.Assigned third_update ∷ [];
    }
assigned_third = refl

-- what changes nothing goes through the key region alone
abbrev missed : Update
missed =
    record {
      key = the_key;
      version = version 1;
      caller = caller 1 1;
      answer = an_answer.NotFound;
      changes = false;
      object = None;
      places = place 0 0 false ∷ [];
    }

abbrev one_server : Config
one_server = configured 2 (1 ∷ []) ((ready 1 ∷ []) ∷ (ready 1 ∷ []) ∷ [] ∷ [])

abbrev alone : KeyState → ServerState
alone slot = running 1 one_server (replica 0 (slot ∷ []) ∷ replica 1 [] ∷ [])

-- a chain of one replica: acknowledged, committed and answered at once
assigned_and_answered :
    step (alone fresh) (calls 1 1 (Del the_key))
    ≡ record {
      state = alone (key_slot (missed ∷ []) 1 [] []);
      posts = to_session 1 1 (a_message.Reply 1 (version 1) an_answer.NotFound) ∷ [];
      notes = a_note.Assigned missed ∷ [];
    }
assigned_and_answered = refl

-- a place of the effect is lost: refused, and nothing changes; the new object's region counts
abbrev refused : Update
refused =
    record {
      key = the_key;
      version = version 2;
      caller = caller 2 1;
      answer = an_answer.Refused (region 2) (epoch 2);
      changes = false;
      object = Some (colored red);
      places = place 0 1 true ∷ [];
    }

assigned_refused :
    step (alone (key_slot (first_update ∷ []) 1 [] [])) (calls 2 1 (put_color blue))
    ≡ record {
      state = alone (key_slot (refused ∷ first_update ∷ []) 2 [] []);
      posts = to_session 1 2 (a_message.Reply 1 (version 2) (an_answer.Refused (region 2) (epoch 2))) ∷ [];
      notes = a_note.Assigned refused ∷ [];
    }
assigned_refused = refl

-- old: session 1 has a write of a higher number
old_is_ignored :
    step (leader (key_slot (third_update ∷ second_update ∷ first_update ∷ []) 3 [] [])) (calls 1 1 (put_color red))
    ≡ ignoring (leader (key_slot (third_update ∷ second_update ∷ first_update ∷ []) 3 [] []))
old_is_ignored = refl

old_is_ignored_while_pending :
    step (leader (key_slot (third_update ∷ second_update ∷ first_update ∷ []) 0 [] [])) (calls 1 1 (put_color red))
    ≡ ignoring (leader (key_slot (third_update ∷ second_update ∷ first_update ∷ []) 0 [] []))
old_is_ignored_while_pending = refl

-- again: the version and the answer of then
again_is_answered :
    step (leader red_then_blue) (calls 1 1 (put_color red))
    ≡ stepping (leader red_then_blue) (to_session 1 1 (a_message.Reply 1 (version 1) an_answer.Done) ∷ [])
again_is_answered = refl

-- marks of an installed snapshot count too
abbrev marked : Kept
marked = record { key = the_key; floor = version 7; object = None; marks = mark 1 3 5 an_answer.CmpFail ∷ []; touches = touch 0 7 ∷ [] }

abbrev based : KeyState
based = record { marks = true; base = marked; accepted = []; floor = 7; acked = []; early = [] }

again_by_the_snapshot :
    step (leader based) (calls 1 3 (put_color red))
    ≡ stepping (leader based) (to_session 1 1 (a_message.Reply 3 (version 5) an_answer.CmpFail) ∷ [])
again_by_the_snapshot = refl

old_by_the_snapshot : step (leader based) (calls 1 2 (put_color red)) ≡ ignoring (leader based)
old_by_the_snapshot = refl

-- wait: pending and not stuck
waiting_is_silent : step (leader red_then_blue) (calls 2 1 (put_color blue)) ≡ ignoring (leader red_then_blue)
waiting_is_silent = refl

-- wait: region 2 is lost, and version 2 has a place there
abbrev high_lost : Config
high_lost = configured 2 (1 ∷ 2 ∷ []) ((ready 1 ∷ ready 2 ∷ []) ∷ (ready 2 ∷ []) ∷ (joining 1 ∷ []) ∷ [])

abbrev stuck_leader : List Update → ServerState
stuck_leader accepted = running 1 high_lost (replica 0 (key_slot accepted 0 [] [] ∷ []) ∷ [])

waiting_is_doubted :
    step (stuck_leader (third_update ∷ second_update ∷ first_update ∷ [])) (calls 2 1 (put_color blue))
    ≡ stepping (stuck_leader (third_update ∷ second_update ∷ first_update ∷ []))
    (to_session 1 2 (a_message.Reply 1 (version 2) (an_answer.Doubt (region 2) (epoch 2))) ∷ [])
waiting_is_doubted = refl

-- so is a later version
later_is_doubted :
    step (stuck_leader (third_update ∷ second_update ∷ first_update ∷ [])) (calls 1 2 (Del the_key))
    ≡ stepping (stuck_leader (third_update ∷ second_update ∷ first_update ∷ []))
    (to_session 1 1 (a_message.Reply 2 (version 3) (an_answer.Doubt (region 2) (epoch 2))) ∷ [])
later_is_doubted = refl

-- but no earlier one: version 1 isn't stuck
earlier_is_silent :
    step (stuck_leader (second_update ∷ first_update ∷ [])) (calls 1 1 (put_color red))
    ≡ ignoring (stuck_leader (second_update ∷ first_update ∷ []))
earlier_is_silent = refl

-- stuck: a new write behind a stuck one, with version 0
new_is_stuck :
    step (stuck_leader (second_update ∷ first_update ∷ [])) (calls 3 1 (put_color red))
    ≡ stepping (stuck_leader (second_update ∷ first_update ∷ [])) (to_session 1 3 (a_message.Reply 1 (version 0) (an_answer.Doubt (region 2) (epoch 2))) ∷ [])
new_is_stuck = refl

-- only sessions call
servers_do_not_call : step empty_leader (from_server 2 (a_message.Call (epoch 2) 1 (put_color red))) ≡ ignoring empty_leader
servers_do_not_call = refl

-- a call of a higher epoch is decided in the server's own, after it asked
doubted_in_its_own_epoch :
    step (stuck_leader (second_update ∷ first_update ∷ [])) (from_session 2 (a_message.Call (epoch 3) 1 (put_color blue)))
    ≡ stepping (stuck_leader (second_update ∷ first_update ∷ []))
    (to_coordinator 1 (a_message.Poll (epoch 2)) ∷ to_session 1 2 (a_message.Reply 1 (version 2) (an_answer.Doubt (region 2) (epoch 2))) ∷ [])
doubted_in_its_own_epoch = refl

assigned_in_its_own_epoch :
    step empty_leader (from_session 1 (a_message.Call (epoch 3) 1 (put_color red)))
    ≡ record {
      state = leader (key_slot (first_update ∷ []) 0 [] []);
      posts = to_coordinator 1 (a_message.Poll (epoch 2)) ∷ between 1 2 (a_message.Update (epoch 2) (region 0) first_update) ∷ [];
      notes = a_note.Assigned first_update ∷ [];
    }
assigned_in_its_own_epoch = refl

-- ---- Update

abbrev updates : ℕ → ℕ → Update → Input
updates s g u = from_server s (a_message.Update (epoch 2) (region g) u)

-- the last member of the key region sends it to the first of the next place
accepted_and_sent :
    step empty_second (updates 1 0 first_update)
    ≡ stepping (running 2 whole (replica 0 (key_slot (first_update ∷ []) 0 [] [] ∷ []) ∷ replica 1 [] ∷ []))
    (between 2 2 (a_message.Update (epoch 2) (region 1) first_update) ∷ [])
accepted_and_sent = refl

-- the last of the chain acknowledges, commits, and tells the replica before it
accepted_and_committed :
    step (running 3 whole (replica 1 [] ∷ replica 2 [] ∷ [])) (updates 2 1 first_update)
    ≡ stepping (running 3 whole (replica 1 (other_slot (first_update ∷ []) 1 [] [] ∷ []) ∷ replica 2 [] ∷ []))
    (between 3 2 (a_message.Ack (epoch 2) (region 1) (region 1) the_key (version 1)) ∷ [])
accepted_and_committed = refl

-- what came early follows, in order; what goes on is sent before what ends is acknowledged
accepted_with_early :
    step (third (other_slot [] 0 [] (second_update ∷ [])) bare) (updates 2 1 first_update)
    ≡ stepping (third (other_slot (second_update ∷ first_update ∷ []) 1 [] []) bare)
    (
    between 3 3 (a_message.Update (epoch 2) (region 2) second_update)
    ∷ between 3 2 (a_message.Ack (epoch 2) (region 1) (region 1) the_key (version 1))
    ∷ []
    )
accepted_with_early = refl

-- two that came early, in the order of their turns
accepted_with_two_early :
    step (second (key_slot [] 0 [] (third_update ∷ second_update ∷ [])) bare) (updates 1 0 first_update)
    ≡ stepping (second (key_slot (third_update ∷ second_update ∷ first_update ∷ []) 0 [] []) bare)
    (
    between 2 2 (a_message.Update (epoch 2) (region 1) first_update)
    ∷ between 2 2 (a_message.Update (epoch 2) (region 1) second_update)
    ∷ between 2 3 (a_message.Update (epoch 2) (region 2) third_update)
    ∷ []
    )
accepted_with_two_early = refl

-- the next region is lost: pending, and nothing is sent
accepted_and_blocked :
    step (running 2 high_lost (replica 0 [] ∷ replica 1 (other_slot (first_update ∷ []) 1 [] [] ∷ []) ∷ [])) (updates 2 1 second_update)
    ≡ ignoring (running 2 high_lost (replica 0 [] ∷ replica 1 (other_slot (second_update ∷ first_update ∷ []) 1 [] [] ∷ []) ∷ []))
accepted_and_blocked = refl

known_and_committed :
    step (second (key_slot (first_update ∷ []) 1 [] []) bare) (updates 1 0 first_update)
    ≡ stepping (second (key_slot (first_update ∷ []) 1 [] []) bare) (between 2 1 (a_message.Ack (epoch 2) (region 0) (region 0) the_key (version 1)) ∷ [])
known_and_committed = refl

known_and_pending :
    step (second (key_slot (first_update ∷ []) 0 [] []) bare) (updates 1 0 first_update)
    ≡ ignoring (second (key_slot (first_update ∷ []) 0 [] []) bare)
known_and_pending = refl

-- a base makes a version known too
known_by_the_snapshot :
    step (running 2 whole (replica 0 (based ∷ []) ∷ [])) (updates 1 0 first_update)
    ≡ stepping (running 2 whole (replica 0 (based ∷ []) ∷ [])) (between 2 1 (a_message.Ack (epoch 2) (region 0) (region 0) the_key (version 1)) ∷ [])
known_by_the_snapshot = refl

too_early :
    step empty_second (updates 1 0 second_update)
    ≡ ignoring (running 2 whole (replica 0 (key_slot [] 0 [] (second_update ∷ []) ∷ []) ∷ replica 1 [] ∷ []))
too_early = refl

early_twice :
    step (second (key_slot [] 0 [] (second_update ∷ [])) bare) (updates 1 0 second_update)
    ≡ ignoring (second (key_slot [] 0 [] (second_update ∷ [])) bare)
early_twice = refl

-- the turn is told by the version before in this region: version 3 comes after 2 in region 2
early_in_another_region : step (third bare bare) (updates 2 2 third_update) ≡ ignoring (third bare (other_slot [] 0 [] (third_update ∷ [])))
early_in_another_region = refl

-- ---- Update that isn't heard: known, next or early, it is dropped

-- the leader has no replica before it
leader_hears_no_update :
    map (λ (s : ℕ). step (leader (key_slot (first_update ∷ []) 1 [] [])) (updates s 0 first_update)) (1 ∷ 2 ∷ 3 ∷ [])
    ≡ ignoring (leader (key_slot (first_update ∷ []) 1 [] [])) ∷ ignoring (leader (key_slot (first_update ∷ []) 1 [] []))
    ∷ ignoring (leader (key_slot (first_update ∷ []) 1 [] [])) ∷ []
leader_hears_no_update = refl

-- nor does a replica behind a lost region
abbrev after_lost : KeyState → ServerState
after_lost slot = running 2 key_region_lost (replica 1 (slot ∷ []) ∷ [])

none_is_heard_behind_a_lost_region :
    map (λ (s : ℕ). step (after_lost (other_slot (first_update ∷ []) 1 [] [])) (updates s 1 first_update)) (1 ∷ 2 ∷ 3 ∷ [])
    ≡ ignoring (after_lost (other_slot (first_update ∷ []) 1 [] [])) ∷ ignoring (after_lost (other_slot (first_update ∷ []) 1 [] []))
    ∷ ignoring (after_lost (other_slot (first_update ∷ []) 1 [] [])) ∷ []
none_is_heard_behind_a_lost_region = refl

-- only the replica before is heard
next_update_of_a_stranger :
    map (λ (s : ℕ). step empty_second (updates s 0 first_update)) (2 ∷ 3 ∷ []) ≡ ignoring empty_second ∷ ignoring empty_second ∷ []
next_update_of_a_stranger = refl

known_update_of_a_stranger :
    step (second (key_slot (first_update ∷ []) 1 [] []) bare) (updates 3 0 first_update) ≡ ignoring (second (key_slot (first_update ∷ []) 1 [] []) bare)
known_update_of_a_stranger = refl

early_update_of_a_stranger : step empty_second (updates 3 0 second_update) ≡ ignoring empty_second
early_update_of_a_stranger = refl

-- the first of a region hears the last of the region before, and not the first of it
update_from_the_wrong_end : step (second fresh bare) (updates 1 1 first_update) ≡ ignoring (second fresh bare)
update_from_the_wrong_end = refl

update_of_no_server :
    step empty_second (from_session 1 (a_message.Update (epoch 2) (region 0) first_update)) ≡ ignoring empty_second
update_of_no_server = refl

stranger_of_a_higher_epoch :
    step empty_second (from_server 3 (a_message.Update (epoch 3) (region 0) first_update)) ≡ stepping empty_second (polls 2)
stranger_of_a_higher_epoch = refl

-- ---- Ack

abbrev acks : ℕ → ℕ → ℕ → ℕ → Input
acks s by g v = from_server s (a_message.Ack (epoch 2) (region g) (region by) the_key (version v))

committed_and_told :
    step (second (key_slot (first_update ∷ []) 0 [] []) bare) (acks 2 1 0 1)
    ≡ stepping (second (key_slot (first_update ∷ []) 1 [] []) bare) (between 2 1 (a_message.Ack (epoch 2) (region 0) (region 0) the_key (version 1)) ∷ [])
committed_and_told = refl

committed_and_answered :
    step pending_leader (acks 2 0 0 1)
    ≡ stepping (leader (key_slot (first_update ∷ []) 1 [] [])) (to_session 1 1 (a_message.Reply 1 (version 1) an_answer.Done) ∷ [])
committed_and_answered = refl

-- from one place to the region of the place before
committed_across_places :
    step (second fresh (other_slot (first_update ∷ []) 0 [] [])) (acks 3 1 1 1)
    ≡ stepping (second fresh (other_slot (first_update ∷ []) 1 [] [])) (between 2 2 (a_message.Ack (epoch 2) (region 0) (region 1) the_key (version 1)) ∷ [])
committed_across_places = refl

committed_behind_a_lost_region :
    step (after_lost (other_slot (first_update ∷ []) 0 [] [])) (acks 3 1 1 1)
    ≡ ignoring (after_lost (other_slot (first_update ∷ []) 1 [] []))
committed_behind_a_lost_region = refl

kept_behind_a_lower_version :
    step (leader (key_slot (second_update ∷ first_update ∷ []) 0 [] [])) (acks 2 0 0 2)
    ≡ ignoring (leader (key_slot (second_update ∷ first_update ∷ []) 0 (2 ∷ []) []))
kept_behind_a_lower_version = refl

both_committed :
    step (leader (key_slot (second_update ∷ first_update ∷ []) 0 (2 ∷ []) [])) (acks 2 0 0 1)
    ≡ stepping (leader (key_slot (second_update ∷ first_update ∷ []) 2 [] []))
    (
    to_session 1 1 (a_message.Reply 1 (version 1) an_answer.Done)
    ∷ to_session 1 2 (a_message.Reply 1 (version 2) an_answer.Done)
    ∷ []
    )
both_committed = refl

-- commits go on only as far as versions are acknowledged
first_committed_alone :
    step (leader (key_slot (third_update ∷ second_update ∷ first_update ∷ []) 0 (3 ∷ []) [])) (acks 2 0 0 1)
    ≡ stepping (leader (key_slot (third_update ∷ second_update ∷ first_update ∷ []) 1 (3 ∷ []) []))
    (to_session 1 1 (a_message.Reply 1 (version 1) an_answer.Done) ∷ [])
first_committed_alone = refl

unknown_version : step pending_leader (acks 2 0 0 5) ≡ ignoring pending_leader
unknown_version = refl

committed_version : step (leader (key_slot (first_update ∷ []) 1 [] [])) (acks 2 0 0 1) ≡ ignoring (leader (key_slot (first_update ∷ []) 1 [] []))
committed_version = refl

-- ---- Ack that isn't heard: it is dropped

-- only the replica after is heard
ack_of_a_stranger :
    map (λ (s : ℕ). step pending_leader (acks s 0 0 1)) (1 ∷ 3 ∷ []) ≡ ignoring pending_leader ∷ ignoring pending_leader ∷ []
ack_of_a_stranger = refl

-- server 2 is the next of server 1 in region 0, and its replica of region 1 isn't
ack_of_another_region : step pending_leader (acks 2 1 0 1) ≡ ignoring pending_leader
ack_of_another_region = refl

-- the next of server 2 in region 0 is its own replica of region 1, and not that of region 0
ack_of_its_own_replica :
    step (second (key_slot (first_update ∷ []) 0 [] []) bare) (acks 2 0 0 1) ≡ ignoring (second (key_slot (first_update ∷ []) 0 [] []) bare)
ack_of_its_own_replica = refl

-- nobody is heard where the chain ends, nor where the region after is lost
ack_at_the_end :
    map (λ (s : ℕ). step (third (other_slot (first_update ∷ []) 0 [] []) bare) (acks s 1 1 1)) (1 ∷ 2 ∷ 3 ∷ [])
    ≡ ignoring (third (other_slot (first_update ∷ []) 0 [] []) bare) ∷ ignoring (third (other_slot (first_update ∷ []) 0 [] []) bare)
    ∷ ignoring (third (other_slot (first_update ∷ []) 0 [] []) bare) ∷ []
ack_at_the_end = refl

abbrev before_lost : ServerState
before_lost = running 2 high_lost (replica 0 [] ∷ replica 1 (other_slot (second_update ∷ first_update ∷ []) 1 [] [] ∷ []) ∷ [])

ack_from_a_lost_region : step before_lost (acks 1 2 1 2) ≡ ignoring before_lost
ack_from_a_lost_region = refl

ack_of_no_server :
    step pending_leader (from_session 2 (a_message.Ack (epoch 2) (region 0) (region 0) the_key (version 1))) ≡ ignoring pending_leader
ack_of_no_server = refl

unheard_acks_of_a_higher_epoch :
    map (step pending_leader) (ack_of 3 0 3 ∷ ack_of 2 1 3 ∷ from_server 2 (a_message.Ack (epoch 3) (region 0) (region 0) the_key (version 5)) ∷ [])
    ≡ stepping pending_leader (polls 1) ∷ stepping pending_leader (polls 1) ∷ stepping pending_leader (polls 1) ∷ []
unheard_acks_of_a_higher_epoch = refl

-- ---- Ask

abbrev other_key : List ℕ
other_key = codes "b"

abbrev third_key : List ℕ
third_key = codes "c"

-- the key a is red and pending to be blue, b is red, c was never committed
abbrev updated_key : List ℕ → Update
updated_key key = record first_update { key = key }

abbrev of_three_keys : ServerState
of_three_keys =
    running 2 whole
    (
    replica 0 []
    ∷ replica 1
    (
    other_slot (second_update ∷ first_update ∷ []) 1 [] []
    ∷ slot_of other_key false (updated_key other_key ∷ []) 1 [] []
    ∷ slot_of third_key false (updated_key third_key ∷ []) 0 [] []
    ∷ []
    )
    ∷ []
    )

abbrev asks : ℕ → List ℕ → Input
asks g color = from_session 2 (a_message.Ask (epoch 2) 6 (region g) (Equal 1 (a_value.Text color) ∷ []))

asked_and_found :
    step of_three_keys (asks 1 red)
    ≡ stepping of_three_keys (to_session 2 2 (a_message.Found (epoch 2) 6 (region 1) (row the_key 1 red ∷ row other_key 1 red ∷ [])) ∷ [])
asked_and_found = refl

asked_for_what_is_pending : step of_three_keys (asks 1 blue) ≡ stepping of_three_keys (to_session 2 2 (a_message.Found (epoch 2) 6 (region 1) []) ∷ [])
asked_for_what_is_pending = refl

-- an object that left the region isn't found there, and one that came is
asked_where_it_left :
    step (third (other_slot (second_update ∷ first_update ∷ []) 2 [] []) (other_slot (second_update ∷ []) 2 [] []))
    (from_session 2 (a_message.Ask (epoch 2) 6 (region 1) []))
    ≡ stepping (third (other_slot (second_update ∷ first_update ∷ []) 2 [] []) (other_slot (second_update ∷ []) 2 [] []))
    (to_session 3 2 (a_message.Found (epoch 2) 6 (region 1) []) ∷ [])
asked_where_it_left = refl

asked_where_it_came :
    step (third (other_slot (second_update ∷ first_update ∷ []) 2 [] []) (other_slot (second_update ∷ []) 2 [] []))
    (from_session 2 (a_message.Ask (epoch 2) 6 (region 2) []))
    ≡ stepping (third (other_slot (second_update ∷ first_update ∷ []) 2 [] []) (other_slot (second_update ∷ []) 2 [] []))
    (to_session 3 2 (a_message.Found (epoch 2) 6 (region 2) (row the_key 2 blue ∷ [])) ∷ [])
asked_where_it_came = refl

-- a ready member answers, first or not
asked_behind_the_first :
    step (third (other_slot (first_update ∷ []) 1 [] []) bare) (from_session 2 (a_message.Ask (epoch 2) 6 (region 1) []))
    ≡ stepping (third (other_slot (first_update ∷ []) 1 [] []) bare) (to_session 3 2 (a_message.Found (epoch 2) 6 (region 1) (row the_key 1 red ∷ [])) ∷ [])
asked_behind_the_first = refl

-- a joiner doesn't, though it is installed
joiner_answers_no_question :
    step (installed_joiner (key_slot (first_update ∷ []) 1 [] [])) (from_session 2 (a_message.Ask (epoch 2) 6 (region 0) []))
    ≡ ignoring (installed_joiner (key_slot (first_update ∷ []) 1 [] []))
joiner_answers_no_question = refl

-- nor one of a higher epoch, but it asks
joiner_asks :
    step (installed_joiner (key_slot (first_update ∷ []) 1 [] [])) (from_session 2 (a_message.Ask (epoch 3) 6 (region 0) []))
    ≡ stepping (installed_joiner (key_slot (first_update ∷ []) 1 [] [])) (polls 3)
joiner_asks = refl
