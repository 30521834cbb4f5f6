-- The table of a session's steps, row by row, on a small space.
use Rattle.std.specs.Prelude.{◌≡◌, ℕ, true, false, List, [], ◌∷◌, map, codes, None, Some}
use Rattle.hx_model.specs.Types.{Add, Answer, Config, Cput, Del, Get, Halt, Input, Op, Post, Row, Search, Stop, Tick}
use Rattle.hx_types.specs.declared.values.Value.TheVariants as a_value
use Rattle.hx_types.specs.declared.calls.Answer.TheVariants as an_answer
use Rattle.hx_types.specs.declared.messages.Message.TheVariants as a_message
use Rattle.hx_types.specs.declared.traces.Note.TheVariants as a_note
use Rattle.hx_model.specs.SessionSteps.{Part, SessionState, SessionStep, session_step}
use Rattle.std.proofs.Common.{refl}
use Rattle.hx_model.proofs.SmallSpace.{blue, by_session, by_session_to_coordinator, configured, epoch, first_update}
use Rattle.hx_model.proofs.SmallSpace.{from_coordinator, from_server, from_session, put_color, ready, red, region, row}
use Rattle.hx_model.proofs.SmallSpace.{server, session, shop, the_key, version, whole}

-- session 1 has one call of each kind
abbrev compare : Op
compare = Cput the_key (record { attribute = 1; value = a_value.Text red } ∷ []) (record { attribute = 1; value = a_value.Text blue } ∷ [])

abbrev all_calls : List Op
all_calls = put_color red ∷ Get the_key ∷ Del the_key ∷ compare ∷ Search [] ∷ Stop (server 2) ∷ Add (server 3) (region 0) ∷ []

-- so many calls were begun, and none is under way
abbrev idle : ℕ → SessionState
idle begun = record { id = session 1; calls = all_calls; config = whole; begun = begun; under_way = false; sent = false; parts = [] }

-- the call of this number is under way, and was sent
abbrev waiting : ℕ → SessionState
waiting begun = record (idle begun) { under_way = true; sent = true }

abbrev step : SessionState → Input → SessionStep
step s input = session_step shop s input

abbrev stepping : SessionState → List Post → SessionStep
stepping s posts = record { state = s; posts = posts; notes = [] }

abbrev ignoring : SessionState → SessionStep
ignoring s = stepping s []

abbrev begins : ℕ → SessionState → List Post → SessionStep
begins number s posts = record { state = s; posts = posts; notes = a_note.Began number ∷ [] }

abbrev ends : SessionState → ℕ → ℕ → Answer → SessionStep
ends s number v answer = record { state = record s { under_way = false; parts = [] }; posts = []; notes = a_note.Ended number (version v) answer ∷ [] }

abbrev calls : ℕ → Op → Post
calls number op = by_session 1 1 (a_message.Call (epoch 2) number op)

abbrev polls : Post
polls = by_session_to_coordinator 1 (a_message.Poll (epoch 2))

-- a search of everything asks both regions of the declared subspace, or region 0 alone where that is fewer
abbrev asked : ℕ → Part
asked g = record { region = region g; rows = None }

abbrev answered : ℕ → List Row → Part
answered g rows = record { region = region g; rows = Some rows }

-- ---- Tick: the next call

begins_each_key_call :
    map (λ begun. step (idle begun) Tick) (0 ∷ 1 ∷ 2 ∷ 3 ∷ [])
    ≡ begins 1 (waiting 1) (calls 1 (put_color red) ∷ [])
    ∷ begins 2 (waiting 2) (calls 2 (Get the_key) ∷ [])
    ∷ begins 3 (waiting 3) (calls 3 (Del the_key) ∷ [])
    ∷ begins 4 (waiting 4) (calls 4 compare ∷ [])
    ∷ []
begins_each_key_call = refl

-- one region has everything, so the key's is asked
begins_a_search : step (idle 4) Tick ≡ begins 5 (record (idle 5) { under_way = true; parts = asked 0 ∷ [] })
    (by_session 1 1 (a_message.Ask (epoch 2) 5 (region 0) []) ∷ [])
begins_a_search = refl

begins_an_administrative_call :
    map (λ begun. step (idle begun) Tick) (5 ∷ 6 ∷ [])
    ≡ begins 6 (record (idle 6) { under_way = true }) (by_session_to_coordinator 1 (a_message.StopServer 6 (server 2)) ∷ [])
    ∷ begins 7 (record (idle 7) { under_way = true }) (by_session_to_coordinator 1 (a_message.AddReplica 7 (server 3) (region 0)) ∷ [])
    ∷ []
begins_an_administrative_call = refl

none_is_left : step (idle 7) Tick ≡ ignoring (idle 7)
none_is_left = refl

-- ---- Send: a region without a ready member

abbrev key_region_lost : Config
key_region_lost = configured 2 (2 ∷ 3 ∷ []) ([] ∷ (ready 2 ∷ ready 3 ∷ []) ∷ (ready 3 ∷ []) ∷ [])

-- never sent: refused, a write and a get; whether the call before was sent doesn't matter
refused_at_once :
    map (λ begun. step (record (idle begun) { config = key_region_lost; sent = true }) Tick) (0 ∷ 1 ∷ 2 ∷ 3 ∷ [])
    ≡ record (ends (record (idle 1) { config = key_region_lost }) 1 0 (an_answer.Refused (region 0) (epoch 2)))
    { notes = a_note.Began 1 ∷ a_note.Ended 1 (version 0) (an_answer.Refused (region 0) (epoch 2)) ∷ [] }
    ∷ record (ends (record (idle 2) { config = key_region_lost }) 2 0 (an_answer.Refused (region 0) (epoch 2)))
    { notes = a_note.Began 2 ∷ a_note.Ended 2 (version 0) (an_answer.Refused (region 0) (epoch 2)) ∷ [] }
    ∷ record (ends (record (idle 3) { config = key_region_lost }) 3 0 (an_answer.Refused (region 0) (epoch 2)))
    { notes = a_note.Began 3 ∷ a_note.Ended 3 (version 0) (an_answer.Refused (region 0) (epoch 2)) ∷ [] }
    ∷ record (ends (record (idle 4) { config = key_region_lost }) 4 0 (an_answer.Refused (region 0) (epoch 2)))
    { notes = a_note.Began 4 ∷ a_note.Ended 4 (version 0) (an_answer.Refused (region 0) (epoch 2)) ∷ [] }
    ∷ []
refused_at_once = refl

-- sent before: a write is in doubt, a get is refused; and no configuration is asked for
lost_after_it_was_sent :
    map (λ begun. step (record (waiting begun) { config = key_region_lost }) Tick) (1 ∷ 2 ∷ 3 ∷ 4 ∷ [])
    ≡ ends (record (waiting 1) { config = key_region_lost }) 1 0 (an_answer.Doubt (region 0) (epoch 2))
    ∷ ends (record (waiting 2) { config = key_region_lost }) 2 0 (an_answer.Refused (region 0) (epoch 2))
    ∷ ends (record (waiting 3) { config = key_region_lost }) 3 0 (an_answer.Doubt (region 0) (epoch 2))
    ∷ ends (record (waiting 4) { config = key_region_lost }) 4 0 (an_answer.Doubt (region 0) (epoch 2))
    ∷ []
lost_after_it_was_sent = refl

-- a search is refused with the lost region of the key subspace where every subspace has a lost one
abbrev all_lost : Config
all_lost = configured 2 (2 ∷ []) ([] ∷ [] ∷ (ready 2 ∷ []) ∷ [])

search_is_refused :
    step (record (waiting 5) { config = all_lost; parts = asked 0 ∷ [] }) Tick
    ≡ ends (record (waiting 5) { config = all_lost }) 5 0 (an_answer.Refused (region 0) (epoch 2))
search_is_refused = refl

-- ---- Tick: the call under way is sent again, and the newest configuration is asked for

sends_again :
    map (λ begun. step (waiting begun) Tick) (1 ∷ 2 ∷ [])
    ≡ stepping (waiting 1) (calls 1 (put_color red) ∷ polls ∷ [])
    ∷ stepping (waiting 2) (calls 2 (Get the_key) ∷ polls ∷ [])
    ∷ []
sends_again = refl

-- the parts of a search are forgotten
searches_again :
    step (record (waiting 5) { parts = answered 1 [] ∷ asked 2 ∷ [] }) Tick
    ≡ stepping (record (waiting 5) { parts = asked 0 ∷ [] }) (by_session 1 1 (a_message.Ask (epoch 2) 5 (region 0) []) ∷ polls ∷ [])
searches_again = refl

administers_again :
    map (λ begun. step (waiting begun) Tick) (6 ∷ 7 ∷ [])
    ≡ stepping (waiting 6) (by_session_to_coordinator 1 (a_message.StopServer 6 (server 2)) ∷ polls ∷ [])
    ∷ stepping (waiting 7) (by_session_to_coordinator 1 (a_message.AddReplica 7 (server 3) (region 0)) ∷ polls ∷ [])
    ∷ []
administers_again = refl

-- ---- a search of two regions: region 0 is lost, so the declared subspace is asked, each region at its first member

searches_two_regions :
    step (record (idle 4) { config = key_region_lost }) Tick
    ≡ begins 5 (record (idle 5) { config = key_region_lost; under_way = true; parts = asked 1 ∷ asked 2 ∷ [] })
    (
    by_session 1 2 (a_message.Ask (epoch 2) 5 (region 1) [])
    ∷ by_session 1 3 (a_message.Ask (epoch 2) 5 (region 2) [])
    ∷ []
    )
searches_two_regions = refl

-- ---- Reply

ends_with_its_reply :
    map (λ begun. step (waiting begun) (from_server 1 (a_message.Reply begun (version 7) an_answer.Done))) (1 ∷ 2 ∷ 3 ∷ 4 ∷ [])
    ≡ ends (waiting 1) 1 7 an_answer.Done ∷ ends (waiting 2) 2 7 an_answer.Done ∷ ends (waiting 3) 3 7 an_answer.Done ∷ ends (waiting 4) 4 7 an_answer.Done ∷ []
ends_with_its_reply = refl

reply_to_another_call :
    map (step (waiting 2)) (from_server 1 (a_message.Reply 1 (version 7) an_answer.Done) ∷ from_server 1 (a_message.Reply 3 (version 7) an_answer.Done) ∷ [])
    ≡ ignoring (waiting 2) ∷ ignoring (waiting 2) ∷ []
reply_to_another_call = refl

reply_after_the_end : step (idle 2) (from_server 1 (a_message.Reply 2 (version 7) an_answer.Done)) ≡ ignoring (idle 2)
reply_after_the_end = refl

reply_to_no_key_call :
    map (λ begun. step (waiting begun) (from_server 1 (a_message.Reply begun (version 7) an_answer.Done))) (5 ∷ 6 ∷ 7 ∷ [])
    ≡ ignoring (waiting 5) ∷ ignoring (waiting 6) ∷ ignoring (waiting 7) ∷ []
reply_to_no_key_call = refl

-- ---- Found

abbrev searching : List Part → SessionState
searching parts = record (waiting 5) { parts = parts }

abbrev found : ℕ → ℕ → ℕ → List Row → Input
found e number g rows = from_server 2 (a_message.Found (epoch e) number (region g) rows)

keeps_a_part :
    step (searching (asked 1 ∷ asked 2 ∷ [])) (found 2 5 2 (row (codes "b") 4 blue ∷ []))
    ≡ ignoring (searching (asked 1 ∷ answered 2 (row (codes "b") 4 blue ∷ []) ∷ []))
keeps_a_part = refl

-- of each key the row with the highest version, from whichever region, in byte order of keys
ends_with_all_parts :
    step (searching (answered 1 (row (codes "b") 3 red ∷ row (codes "c") 9 red ∷ []) ∷ asked 2 ∷ []))
    (found 2 5 2 (row (codes "a") 1 blue ∷ row (codes "b") 4 blue ∷ row (codes "c") 2 blue ∷ []))
    ≡ ends (searching []) 5 0 (an_answer.Rows (row (codes "a") 1 blue ∷ row (codes "b") 4 blue ∷ row (codes "c") 9 red ∷ []))
ends_with_all_parts = refl

found_of_another_call :
    map (step (searching (asked 1 ∷ asked 2 ∷ []))) (found 2 4 2 [] ∷ found 2 6 2 [] ∷ [])
    ≡ ignoring (searching (asked 1 ∷ asked 2 ∷ [])) ∷ ignoring (searching (asked 1 ∷ asked 2 ∷ [])) ∷ []
found_of_another_call = refl

found_of_another_epoch :
    map (step (searching (asked 1 ∷ asked 2 ∷ []))) (found 1 5 2 [] ∷ found 3 5 2 [] ∷ [])
    ≡ ignoring (searching (asked 1 ∷ asked 2 ∷ [])) ∷ ignoring (searching (asked 1 ∷ asked 2 ∷ [])) ∷ []
found_of_another_epoch = refl

found_where_nothing_was_asked : step (searching (asked 1 ∷ asked 2 ∷ [])) (found 2 5 0 []) ≡ ignoring (searching (asked 1 ∷ asked 2 ∷ []))
found_where_nothing_was_asked = refl

found_twice :
    step (searching (answered 1 (row (codes "b") 3 red ∷ []) ∷ asked 2 ∷ [])) (found 2 5 1 [])
    ≡ ignoring (searching (answered 1 (row (codes "b") 3 red ∷ []) ∷ asked 2 ∷ []))
found_twice = refl

found_after_the_end : step (record (idle 5) { parts = asked 1 ∷ [] }) (found 2 5 1 []) ≡ ignoring (record (idle 5) { parts = asked 1 ∷ [] })
found_after_the_end = refl

found_for_no_search : step (record (waiting 2) { parts = asked 1 ∷ [] }) (found 2 2 1 []) ≡ ignoring (record (waiting 2) { parts = asked 1 ∷ [] })
found_for_no_search = refl

-- ---- Outcome

ends_with_its_outcome :
    map (λ begun. step (waiting begun) (from_coordinator (a_message.Outcome begun (an_answer.Issued (epoch 3))))) (6 ∷ 7 ∷ [])
    ≡ ends (waiting 6) 6 0 (an_answer.Issued (epoch 3)) ∷ ends (waiting 7) 7 0 (an_answer.Issued (epoch 3)) ∷ []
ends_with_its_outcome = refl

outcome_of_another_call :
    map (step (waiting 6)) (from_coordinator (a_message.Outcome 5 (an_answer.Issued (epoch 3))) ∷ from_coordinator
    (a_message.Outcome 7 (an_answer.Issued (epoch 3))) ∷ [])
    ≡ ignoring (waiting 6) ∷ ignoring (waiting 6) ∷ []
outcome_of_another_call = refl

outcome_after_the_end : step (idle 6) (from_coordinator (a_message.Outcome 6 (an_answer.Issued (epoch 3)))) ≡ ignoring (idle 6)
outcome_after_the_end = refl

outcome_for_no_administrative_call :
    map (λ begun. step (waiting begun) (from_coordinator (a_message.Outcome begun (an_answer.Issued (epoch 3))))) (1 ∷ 2 ∷ 5 ∷ [])
    ≡ ignoring (waiting 1) ∷ ignoring (waiting 2) ∷ ignoring (waiting 5) ∷ []
outcome_for_no_administrative_call = refl

-- ---- Install

-- server 2 leads region 0 in epoch 3
abbrev next : Config
next = configured 3 (2 ∷ 3 ∷ []) ((ready 2 ∷ []) ∷ (ready 2 ∷ ready 3 ∷ []) ∷ (ready 3 ∷ []) ∷ [])

abbrev installs : Config → Input
installs config = from_coordinator (a_message.Install config)

abbrev in_next : SessionState → SessionState
in_next s = record s { config = next }

sends_a_key_call_anew :
    map (λ begun. step (waiting begun) (installs next)) (1 ∷ 2 ∷ [])
    ≡ stepping (in_next (waiting 1)) (by_session 1 2 (a_message.Call (epoch 3) 1 (put_color red)) ∷ [])
    ∷ stepping (in_next (waiting 2)) (by_session 1 2 (a_message.Call (epoch 3) 2 (Get the_key)) ∷ [])
    ∷ []
sends_a_key_call_anew = refl

abbrev key_region_lost_next : Config
key_region_lost_next = record key_region_lost { epoch = epoch 3 }

doubts_a_sent_write : step (waiting 1) (installs key_region_lost_next)
    ≡ ends (record (waiting 1) { config = key_region_lost_next }) 1 0 (an_answer.Doubt (region 0) (epoch 3))
doubts_a_sent_write = refl

searches_anew :
    step (searching (answered 1 [] ∷ asked 2 ∷ [])) (installs next)
    ≡ stepping (in_next (searching (asked 0 ∷ []))) (by_session 1 2 (a_message.Ask (epoch 3) 5 (region 0) []) ∷ [])
searches_anew = refl

administers_no_more :
    map (λ begun. step (waiting begun) (installs next)) (6 ∷ 7 ∷ [])
    ≡ ignoring (in_next (waiting 6)) ∷ ignoring (in_next (waiting 7)) ∷ []
administers_no_more = refl

adopts_while_idle : step (idle 2) (installs next) ≡ ignoring (in_next (idle 2))
adopts_while_idle = refl

no_higher_epoch_is_ignored :
    map (step (waiting 1)) (installs (record next { epoch = epoch 2 }) ∷ installs (record next { epoch = epoch 1 }) ∷ [])
    ≡ ignoring (waiting 1) ∷ ignoring (waiting 1) ∷ []
no_higher_epoch_is_ignored = refl

-- ---- any other

others_do_nothing :
    map (step (waiting 1))
    (
    Halt
    ∷ from_session 1 (a_message.Call (epoch 2) 1 (Get the_key))
    ∷ from_server 1 (a_message.Update (epoch 2) (region 0) first_update)
    ∷ from_server 1 (a_message.Ack (epoch 2) (region 0) (region 0) the_key (version 1))
    ∷ from_session 1 (a_message.Ask (epoch 2) 1 (region 0) [])
    ∷ from_coordinator (a_message.Seal (epoch 2))
    ∷ from_server 1 (a_message.Sealed (epoch 2))
    ∷ from_coordinator a_message.Die
    ∷ from_server 1 a_message.Gone
    ∷ from_session 1 (a_message.StopServer 1 (server 1))
    ∷ from_session 1 (a_message.AddReplica 1 (server 1) (region 0))
    ∷ from_server 1 (a_message.Snap (epoch 2) (region 0) [] [])
    ∷ from_server 1 (a_message.Ready (epoch 2) (region 0))
    ∷ from_session 1 (a_message.Poll (epoch 1))
    ∷ []
    )
    ≡ ignoring (waiting 1) ∷ ignoring (waiting 1) ∷ ignoring (waiting 1) ∷ ignoring (waiting 1) ∷ ignoring
    (waiting 1) ∷ ignoring (waiting 1) ∷ ignoring (waiting 1) ∷ ignoring (waiting 1) ∷ ignoring
    (waiting 1) ∷ ignoring (waiting 1) ∷ ignoring (waiting 1) ∷ ignoring (waiting 1) ∷ ignoring
    (waiting 1) ∷ ignoring (waiting 1) ∷ []
others_do_nothing = refl
