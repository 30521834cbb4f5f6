-- The table of the coordinator's steps, row by row, on a small space.
use Rattle.std.specs.Prelude.{◌≡◌, ℕ, List, [], ◌∷◌, ◌++◌, map, Option, None, Some}
use Rattle.hx_model.specs.Types.{Answer, Config, Get, Halt, Input, Member, Op, Post, Stop, Tick}
use Rattle.hx_types.specs.declared.calls.Answer.TheVariants as an_answer
use Rattle.hx_types.specs.declared.messages.Message.TheVariants as a_message
use Rattle.hx_types.specs.declared.traces.Note.TheVariants as a_note
use Rattle.hx_model.specs.CoordinatorSteps.{CoordinatorState, CoordinatorStep, Newest, Task, coordinator_step}
use Rattle.std.proofs.Common.{refl}
use Rattle.hx_model.proofs.SmallSpace.{by_coordinator, by_coordinator_to_session, caller, configured, epoch}
use Rattle.hx_model.proofs.SmallSpace.{first_update, from_server, from_session, joining, ready, region, server}
use Rattle.hx_model.proofs.SmallSpace.{session, the_key, version, whole}

abbrev idle : CoordinatorState
idle = record { config = whole; todo = []; newest = []; sessions = 2 }

abbrev task : ℕ → ℕ → Op → Task
task u number op = record { caller = caller u number; op = op }

abbrev newest : ℕ → ℕ → Option Answer → Newest
newest u number answer = record { session = session u; number = number; answer = answer }

abbrev stop : ℕ → Op
stop s = Stop (server s)

abbrev stepping : CoordinatorState → List Post → CoordinatorStep
stepping c posts = record { state = c; posts = posts; notes = [] }

abbrev ignoring : CoordinatorState → CoordinatorStep
ignoring c = stepping c []

-- a call of session 1 with number 5
abbrev stop_call : ℕ → Input
stop_call s = from_session 1 (a_message.StopServer 5 (server s))

abbrev add_call : ℕ → ℕ → Input
add_call s g = from_session 1 (a_message.AddReplica 5 (server s) (region g))

abbrev outcome : Answer → Post
outcome answer = by_coordinator_to_session 1 (a_message.Outcome 5 answer)

-- a configuration goes to these servers and to both sessions
abbrev installs : Config → List ℕ → List Post
installs config servers =
    map (λ (s : ℕ). by_coordinator s (a_message.Install config)) servers
    ++ by_coordinator_to_session 1 (a_message.Install config) ∷ by_coordinator_to_session 2 (a_message.Install config) ∷ []

-- ---- numbers

lower_number_is_ignored :
    map (coordinator_step (record idle { newest = newest 1 6 (Some (an_answer.Stopped (epoch 1))) ∷ [] })) (stop_call 3 ∷ add_call 3 0 ∷ [])
    ≡ ignoring (record idle { newest = newest 1 6 (Some (an_answer.Stopped (epoch 1))) ∷ [] })
    ∷ ignoring (record idle { newest = newest 1 6 (Some (an_answer.Stopped (epoch 1))) ∷ [] })
    ∷ []
lower_number_is_ignored = refl

same_number_is_answered_again :
    map (coordinator_step (record idle { newest = newest 1 5 (Some (an_answer.Stopped (epoch 1))) ∷ [] })) (stop_call 3 ∷ add_call 3 0 ∷ [])
    ≡ stepping (record idle { newest = newest 1 5 (Some (an_answer.Stopped (epoch 1))) ∷ [] }) (outcome (an_answer.Stopped (epoch 1)) ∷ [])
    ∷ stepping (record idle { newest = newest 1 5 (Some (an_answer.Stopped (epoch 1))) ∷ [] }) (outcome (an_answer.Stopped (epoch 1)) ∷ [])
    ∷ []
same_number_is_answered_again = refl

same_number_waits :
    map (coordinator_step (record idle { newest = newest 1 5 None ∷ [] })) (stop_call 3 ∷ add_call 3 0 ∷ [])
    ≡ ignoring (record idle { newest = newest 1 5 None ∷ [] })
    ∷ ignoring (record idle { newest = newest 1 5 None ∷ [] })
    ∷ []
same_number_waits = refl

-- numbers are those of the session
number_of_another_session :
    coordinator_step (record idle { newest = newest 2 9 None ∷ newest 1 4 None ∷ [] }) (stop_call 3)
    ≡ stepping (record idle { newest = newest 2 9 None ∷ newest 1 5 None ∷ []; todo = task 1 5 (stop 3) ∷ [] }) (by_coordinator 3 a_message.Die ∷ [])
number_of_another_session = refl

only_sessions_call :
    map (coordinator_step idle) (from_server 1 (a_message.StopServer 5 (server 3)) ∷ from_server 1 (a_message.AddReplica 5 (server 3) (region 0)) ∷ [])
    ≡ ignoring idle ∷ ignoring idle ∷ []
only_sessions_call = refl

-- ---- Stop

stop_of_no_server :
    coordinator_step idle (stop_call 4)
    ≡ stepping (record idle { newest = newest 1 5 (Some (an_answer.Stopped (epoch 2))) ∷ [] }) (outcome (an_answer.Stopped (epoch 2)) ∷ [])
stop_of_no_server = refl

stop_of_a_server :
    coordinator_step (record idle { todo = task 2 1 (stop 2) ∷ [] }) (stop_call 3)
    ≡ stepping (record idle { newest = newest 1 5 None ∷ []; todo = task 2 1 (stop 2) ∷ task 1 5 (stop 3) ∷ [] }) (by_coordinator 3 a_message.Die ∷ [])
stop_of_a_server = refl

-- a server may be stopped by several, and is told each time
stop_of_a_server_again :
    coordinator_step (record idle { todo = task 2 1 (stop 3) ∷ []; newest = newest 2 1 None ∷ [] }) (stop_call 3)
    ≡ stepping (record idle { todo = task 2 1 (stop 3) ∷ task 1 5 (stop 3) ∷ []; newest = newest 2 1 None ∷ newest 1 5 None ∷ [] })
    (by_coordinator 3 a_message.Die ∷ [])
stop_of_a_server_again = refl

-- the number is the session's newest from then on
stop_after_an_answered_one :
    coordinator_step (record idle { newest = newest 1 4 (Some (an_answer.Issued (epoch 2))) ∷ [] }) (stop_call 3)
    ≡ stepping (record idle { newest = newest 1 5 None ∷ []; todo = task 1 5 (stop 3) ∷ [] }) (by_coordinator 3 a_message.Die ∷ [])
stop_after_an_answered_one = refl

-- ---- Add, judged in this order

abbrev regions : List (List Member) → CoordinatorState
regions lists = record idle { config = configured 2 (1 ∷ 2 ∷ 3 ∷ []) lists }

abbrev refuses : CoordinatorState → Answer → CoordinatorStep
refuses c answer = stepping (record c { newest = newest 1 5 (Some answer) ∷ [] }) (outcome answer ∷ [])

add_of_no_server :
    coordinator_step (regions ((ready 4 ∷ joining 2 ∷ []) ∷ [])) (add_call 4 0)
    ≡ refuses (regions ((ready 4 ∷ joining 2 ∷ []) ∷ [])) (an_answer.Stopped (epoch 2))
add_of_no_server = refl

add_of_no_server_to_a_lost_region : coordinator_step (regions ([] ∷ [])) (add_call 4 0) ≡ refuses (regions ([] ∷ [])) (an_answer.Stopped (epoch 2))
add_of_no_server_to_a_lost_region = refl

add_to_a_lost_region : coordinator_step (regions ((joining 3 ∷ []) ∷ [])) (add_call 3 0) ≡ refuses (regions ((joining 3 ∷ []) ∷ [])) (an_answer.Lost (epoch 2))
add_to_a_lost_region = refl

add_of_a_member :
    coordinator_step (regions ((ready 1 ∷ ready 3 ∷ joining 2 ∷ []) ∷ [])) (add_call 3 0)
    ≡ refuses (regions ((ready 1 ∷ ready 3 ∷ joining 2 ∷ []) ∷ [])) (an_answer.Member (epoch 2))
add_of_a_member = refl

add_behind_a_joiner :
    coordinator_step (regions ((ready 1 ∷ joining 2 ∷ []) ∷ [])) (add_call 3 0)
    ≡ refuses (regions ((ready 1 ∷ joining 2 ∷ []) ∷ [])) (an_answer.Joining (epoch 2))
add_behind_a_joiner = refl

add_of_a_joiner :
    coordinator_step (regions ((ready 1 ∷ joining 3 ∷ []) ∷ [])) (add_call 3 0)
    ≡ refuses (regions ((ready 1 ∷ joining 3 ∷ []) ∷ [])) (an_answer.Joining (epoch 2))
add_of_a_joiner = refl

-- a region that the space doesn't have has no ready member
add_to_no_region : coordinator_step idle (add_call 3 7) ≡ refuses idle (an_answer.Lost (epoch 2))
add_to_no_region = refl

-- ---- Add that can be done: one configuration, with the joiner at the end of its list

abbrev before : Config
before = configured 3 (1 ∷ 2 ∷ 3 ∷ []) ((ready 1 ∷ ready 2 ∷ joining 3 ∷ []) ∷ (ready 2 ∷ ready 3 ∷ []) ∷ (ready 3 ∷ ready 1 ∷ []) ∷ [])

add_issues :
    coordinator_step idle (add_call 3 0)
    ≡ record {
      state = record idle { config = before; newest = newest 1 5 (Some (an_answer.Issued (epoch 3))) ∷ [] };
      posts = installs before (1 ∷ 2 ∷ 3 ∷ []) ++ outcome (an_answer.Issued (epoch 3)) ∷ [];
      notes = a_note.Issued before ∷ [];
    }
add_issues = refl

-- Stops that wait are left as they are, and so are other sessions' calls
abbrev waiting : CoordinatorState
waiting = record idle { todo = task 2 1 (stop 3) ∷ task 1 4 (stop 2) ∷ []; newest = newest 2 1 None ∷ newest 1 4 None ∷ [] }

add_while_stops_wait :
    coordinator_step waiting (add_call 3 0)
    ≡ record {
      state = record waiting { config = before; newest = newest 2 1 None ∷ newest 1 5 (Some (an_answer.Issued (epoch 3))) ∷ [] };
      posts = installs before (1 ∷ 2 ∷ 3 ∷ []) ++ outcome (an_answer.Issued (epoch 3)) ∷ [];
      notes = a_note.Issued before ∷ [];
    }
add_while_stops_wait = refl

-- a joiner in one region doesn't keep another region from having one
abbrev with_joiner : CoordinatorState
with_joiner = record idle { config = before }

abbrev two_joiners : Config
two_joiners =
    configured 4 (1 ∷ 2 ∷ 3 ∷ []) ((ready 1 ∷ ready 2 ∷ joining 3 ∷ []) ∷ (ready 2 ∷ ready 3 ∷ joining 1 ∷ []) ∷ (ready 3 ∷ ready 1 ∷ []) ∷ [])

add_beside_a_joiner :
    coordinator_step with_joiner (add_call 1 1)
    ≡ record {
      state = record with_joiner { config = two_joiners; newest = newest 1 5 (Some (an_answer.Issued (epoch 4))) ∷ [] };
      posts = installs two_joiners (1 ∷ 2 ∷ 3 ∷ []) ++ outcome (an_answer.Issued (epoch 4)) ∷ [];
      notes = a_note.Issued two_joiners ∷ [];
    }
add_beside_a_joiner = refl

-- the next Add of the region is judged by the configuration that was issued
add_after_an_add :
    coordinator_step with_joiner (add_call 3 0) ≡ refuses with_joiner (an_answer.Joining (epoch 3))
add_after_an_add = refl

-- the answer of then is told again, and nothing is issued again
add_again :
    coordinator_step (record with_joiner { newest = newest 1 5 (Some (an_answer.Issued (epoch 3))) ∷ [] }) (add_call 3 0)
    ≡ stepping (record with_joiner { newest = newest 1 5 (Some (an_answer.Issued (epoch 3))) ∷ [] }) (outcome (an_answer.Issued (epoch 3)) ∷ [])
add_again = refl

-- ---- Gone: one configuration without the server

abbrev without_two : Config
without_two = configured 3 (1 ∷ 3 ∷ []) ((ready 1 ∷ []) ∷ (ready 3 ∷ []) ∷ (ready 3 ∷ ready 1 ∷ []) ∷ [])

gone_issues :
    coordinator_step idle (from_server 2 a_message.Gone)
    ≡ record { state = record idle { config = without_two }; posts = installs without_two (1 ∷ 3 ∷ []); notes = a_note.Issued without_two ∷ [] }
gone_issues = refl

-- who is out already does nothing
gone_again : coordinator_step (record idle { config = without_two }) (from_server 2 a_message.Gone) ≡ ignoring (record idle { config = without_two })
gone_again = refl

gone_of_no_server : coordinator_step idle (from_server 4 a_message.Gone) ≡ ignoring idle
gone_of_no_server = refl

-- a second one is a configuration of its own; a region without a ready member is lost
abbrev without_two_and_three : Config
without_two_and_three = configured 4 (1 ∷ []) ((ready 1 ∷ []) ∷ [] ∷ (ready 1 ∷ []) ∷ [])

gone_after_another :
    coordinator_step (record idle { config = without_two }) (from_server 3 a_message.Gone)
    ≡ record {
      state = record idle { config = without_two_and_three };
      posts = installs without_two_and_three (1 ∷ []);
      notes = a_note.Issued without_two_and_three ∷ [];
    }
gone_after_another = refl

-- the last one
abbrev nobody : Config
nobody = configured 5 [] ([] ∷ [] ∷ [] ∷ [])

gone_of_the_last :
    coordinator_step (record idle { config = without_two_and_three }) (from_server 1 a_message.Gone)
    ≡ record { state = record idle { config = nobody }; posts = installs nobody []; notes = a_note.Issued nobody ∷ [] }
gone_of_the_last = refl

-- a joiner that is gone, and a region whose joiner is left alone
abbrev without_joiner : Config
without_joiner = configured 4 (1 ∷ 2 ∷ []) ((ready 1 ∷ ready 2 ∷ []) ∷ (ready 2 ∷ []) ∷ (ready 1 ∷ []) ∷ [])

gone_joiner :
    coordinator_step with_joiner (from_server 3 a_message.Gone)
    ≡ record { state = record idle { config = without_joiner }; posts = installs without_joiner (1 ∷ 2 ∷ []); notes = a_note.Issued without_joiner ∷ [] }
gone_joiner = refl

abbrev joiner_alone : Config
joiner_alone = configured 3 (3 ∷ []) ((joining 3 ∷ []) ∷ [])

gone_before_the_joiner :
    coordinator_step (record idle { config = configured 2 (1 ∷ 3 ∷ []) ((ready 1 ∷ joining 3 ∷ []) ∷ []) }) (from_server 1 a_message.Gone)
    ≡ record { state = record idle { config = joiner_alone }; posts = installs joiner_alone (3 ∷ []); notes = a_note.Issued joiner_alone ∷ [] }
gone_before_the_joiner = refl

-- each Stop of the server is answered in order of arrival, and the others wait on
abbrev stopping : CoordinatorState
stopping =
    record idle {
      todo = task 1 5 (stop 2) ∷ task 2 3 (stop 3) ∷ task 2 4 (stop 2) ∷ [];
      newest = newest 1 5 None ∷ newest 2 4 None ∷ [];
    }

gone_answers_its_stops :
    coordinator_step stopping (from_server 2 a_message.Gone)
    ≡ record {
      state =
          record {
            config = without_two;
            todo = task 2 3 (stop 3) ∷ [];
            newest = newest 1 5 (Some (an_answer.Issued (epoch 3))) ∷ newest 2 4 (Some (an_answer.Issued (epoch 3))) ∷ [];
            sessions = 2;
          };
      posts =
          installs without_two (1 ∷ 3 ∷ [])
          ++ by_coordinator_to_session 1 (a_message.Outcome 5 (an_answer.Issued (epoch 3)))
          ∷ by_coordinator_to_session 2 (a_message.Outcome 4 (an_answer.Issued (epoch 3)))
          ∷ [];
      notes = a_note.Issued without_two ∷ [];
    }
gone_answers_its_stops = refl

-- an older call is answered while its session's newest one waits: the newest keeps no answer
abbrev older_waits : CoordinatorState
older_waits = record idle { todo = task 1 3 (stop 2) ∷ task 1 5 (stop 3) ∷ []; newest = newest 1 5 None ∷ [] }

newest_number_stays :
    coordinator_step older_waits (from_server 2 a_message.Gone)
    ≡ record {
      state = record idle { config = without_two; todo = task 1 5 (stop 3) ∷ []; newest = newest 1 5 None ∷ [] };
      posts = installs without_two (1 ∷ 3 ∷ []) ++ by_coordinator_to_session 1 (a_message.Outcome 3 (an_answer.Issued (epoch 3))) ∷ [];
      notes = a_note.Issued without_two ∷ [];
    }
newest_number_stays = refl

-- and an answer that the newest has stays
newest_answer_stays :
    coordinator_step (record older_waits { todo = task 1 3 (stop 2) ∷ []; newest = newest 1 5 (Some (an_answer.Lost (epoch 1))) ∷ [] })
    (from_server 2 a_message.Gone)
    ≡ record {
      state = record idle { config = without_two; newest = newest 1 5 (Some (an_answer.Lost (epoch 1))) ∷ [] };
      posts = installs without_two (1 ∷ 3 ∷ []) ++ by_coordinator_to_session 1 (a_message.Outcome 3 (an_answer.Issued (epoch 3))) ∷ [];
      notes = a_note.Issued without_two ∷ [];
    }
newest_answer_stays = refl

-- a server that nobody stopped is gone all the same, and a stop of another server isn't answered
gone_of_another :
    coordinator_step (record idle { todo = task 1 5 (stop 3) ∷ []; newest = newest 1 5 None ∷ [] }) (from_server 2 a_message.Gone)
    ≡ record {
      state = record idle { config = without_two; todo = task 1 5 (stop 3) ∷ []; newest = newest 1 5 None ∷ [] };
      posts = installs without_two (1 ∷ 3 ∷ []);
      notes = a_note.Issued without_two ∷ [];
    }
gone_of_another = refl

-- a stop of who is out is answered at once
stop_of_who_is_out :
    coordinator_step (record idle { config = without_two }) (stop_call 2) ≡ refuses (record idle { config = without_two }) (an_answer.Stopped (epoch 3))
stop_of_who_is_out = refl

add_of_who_is_out :
    coordinator_step (record idle { config = without_two }) (add_call 2 0) ≡ refuses (record idle { config = without_two }) (an_answer.Stopped (epoch 3))
add_of_who_is_out = refl

-- ---- Ready: one configuration in which the joiner is ready

abbrev after : Config
after = configured 4 (1 ∷ 2 ∷ 3 ∷ []) ((ready 1 ∷ ready 2 ∷ ready 3 ∷ []) ∷ (ready 2 ∷ ready 3 ∷ []) ∷ (ready 3 ∷ ready 1 ∷ []) ∷ [])

-- of whatever epoch
ready_issues :
    map (λ (e : ℕ). coordinator_step with_joiner (from_server 3 (a_message.Ready (epoch e) (region 0)))) (2 ∷ 3 ∷ 4 ∷ [])
    ≡ record { state = record idle { config = after }; posts = installs after (1 ∷ 2 ∷ 3 ∷ []); notes = a_note.Issued after ∷ [] }
    ∷ record { state = record idle { config = after }; posts = installs after (1 ∷ 2 ∷ 3 ∷ []); notes = a_note.Issued after ∷ [] }
    ∷ record { state = record idle { config = after }; posts = installs after (1 ∷ 2 ∷ 3 ∷ []); notes = a_note.Issued after ∷ [] }
    ∷ []
ready_issues = refl

-- in its region alone, and nothing that waits is answered
abbrev after_of_two : Config
after_of_two =
    configured 5 (1 ∷ 2 ∷ 3 ∷ []) ((ready 1 ∷ ready 2 ∷ joining 3 ∷ []) ∷ (ready 2 ∷ ready 3 ∷ ready 1 ∷ []) ∷ (ready 3 ∷ ready 1 ∷ []) ∷ [])

ready_of_one_of_two :
    coordinator_step (record waiting { config = two_joiners }) (from_server 1 (a_message.Ready (epoch 4) (region 1)))
    ≡ record { state = record waiting { config = after_of_two }; posts = installs after_of_two (1 ∷ 2 ∷ 3 ∷ []); notes = a_note.Issued after_of_two ∷ [] }
ready_of_one_of_two = refl

ready_again :
    coordinator_step (record idle { config = after }) (from_server 3 (a_message.Ready (epoch 3) (region 0)))
    ≡ ignoring (record idle { config = after })
ready_again = refl

ready_before : coordinator_step with_joiner (from_server 2 (a_message.Ready (epoch 3) (region 0))) ≡ ignoring with_joiner
ready_before = refl

ready_in_another_region : coordinator_step with_joiner (from_server 3 (a_message.Ready (epoch 3) (region 1))) ≡ ignoring with_joiner
ready_in_another_region = refl

ready_and_not_listed : coordinator_step with_joiner (from_server 1 (a_message.Ready (epoch 3) (region 1))) ≡ ignoring with_joiner
ready_and_not_listed = refl

ready_of_who_is_out :
    coordinator_step (record idle { config = without_joiner }) (from_server 3 (a_message.Ready (epoch 3) (region 0)))
    ≡ ignoring (record idle { config = without_joiner })
ready_of_who_is_out = refl

ready_in_a_lost_region :
    coordinator_step (regions ((joining 3 ∷ []) ∷ [])) (from_server 3 (a_message.Ready (epoch 2) (region 0)))
    ≡ ignoring (regions ((joining 3 ∷ []) ∷ []))
ready_in_a_lost_region = refl

-- ---- Poll

poll_of_a_lower_epoch :
    coordinator_step idle (from_session 2 (a_message.Poll (epoch 1)))
    ≡ stepping idle (by_coordinator_to_session 2 (a_message.Install whole) ∷ [])
poll_of_a_lower_epoch = refl

-- a server asks too, also one that is out
poll_of_a_server :
    map (coordinator_step (record idle { config = without_two })) (from_server 3 (a_message.Poll (epoch 2)) ∷ from_server 2 (a_message.Poll (epoch 1)) ∷ [])
    ≡ stepping (record idle { config = without_two }) (by_coordinator 3 (a_message.Install without_two) ∷ [])
    ∷ stepping (record idle { config = without_two }) (by_coordinator 2 (a_message.Install without_two) ∷ [])
    ∷ []
poll_of_a_server = refl

poll_of_its_epoch :
    map (coordinator_step idle)
    (from_session 2 (a_message.Poll (epoch 2)) ∷ from_session 2 (a_message.Poll (epoch 3)) ∷ from_server 3 (a_message.Poll (epoch 2)) ∷ [])
    ≡ ignoring idle ∷ ignoring idle ∷ ignoring idle ∷ []
poll_of_its_epoch = refl

-- ---- Tick

stops_tick :
    coordinator_step (record idle { todo = task 1 1 (stop 3) ∷ task 2 1 (stop 1) ∷ [] }) Tick
    ≡ stepping (record idle { todo = task 1 1 (stop 3) ∷ task 2 1 (stop 1) ∷ [] }) (by_coordinator 3 a_message.Die ∷ by_coordinator 1 a_message.Die ∷ [])
stops_tick = refl

-- two Stops of one server are two
same_stops_tick :
    coordinator_step (record idle { todo = task 1 1 (stop 3) ∷ task 2 1 (stop 3) ∷ [] }) Tick
    ≡ stepping (record idle { todo = task 1 1 (stop 3) ∷ task 2 1 (stop 3) ∷ [] }) (by_coordinator 3 a_message.Die ∷ by_coordinator 3 a_message.Die ∷ [])
same_stops_tick = refl

idle_tick : coordinator_step idle Tick ≡ ignoring idle
idle_tick = refl

-- a joiner: the last ready member, which sends, and then the joiner are told the configuration
joiner_tick :
    coordinator_step with_joiner Tick ≡ stepping with_joiner (by_coordinator 2 (a_message.Install before) ∷ by_coordinator 3 (a_message.Install before) ∷ [])
joiner_tick = refl

-- the Stops first, then the regions in order
joiners_tick :
    coordinator_step (record waiting { config = two_joiners }) Tick
    ≡ stepping (record waiting { config = two_joiners })
    (
    by_coordinator 3 a_message.Die
    ∷ by_coordinator 2 a_message.Die
    ∷ by_coordinator 2 (a_message.Install two_joiners)
    ∷ by_coordinator 3 (a_message.Install two_joiners)
    ∷ by_coordinator 3 (a_message.Install two_joiners)
    ∷ by_coordinator 1 (a_message.Install two_joiners)
    ∷ []
    )
joiners_tick = refl

-- a lost region's joiner is told nothing, and neither is an empty region's
lost_joiner_tick : coordinator_step (regions ((joining 3 ∷ []) ∷ [] ∷ [])) Tick ≡ ignoring (regions ((joining 3 ∷ []) ∷ [] ∷ []))
lost_joiner_tick = refl

-- ---- any other

others_do_nothing :
    map (coordinator_step idle)
    (
    Halt
    ∷ from_session 1 (a_message.Call (epoch 2) 1 (Get the_key))
    ∷ from_server 1 (a_message.Reply 1 (version 1) an_answer.Done)
    ∷ from_server 1 (a_message.Update (epoch 2) (region 0) first_update)
    ∷ from_server 1 (a_message.Ack (epoch 2) (region 0) (region 0) the_key (version 1))
    ∷ from_session 1 (a_message.Ask (epoch 2) 1 (region 0) [])
    ∷ from_server 1 (a_message.Found (epoch 2) 1 (region 0) [])
    ∷ from_server 1 (a_message.Seal (epoch 2))
    ∷ from_server 1 (a_message.Install without_two)
    ∷ from_server 1 a_message.Die
    ∷ from_server 1 (a_message.Outcome 1 an_answer.Done)
    ∷ from_server 1 (a_message.Snap (epoch 2) (region 0) [] [])
    ∷ from_server 1 (a_message.Sealed (epoch 1))
    ∷ from_session 1 a_message.Gone
    ∷ from_session 1 (a_message.Ready (epoch 2) (region 0))
    ∷ []
    )
    ≡ ignoring idle ∷ ignoring idle ∷ ignoring idle ∷ ignoring idle ∷ ignoring idle ∷ ignoring idle ∷ ignoring idle ∷ ignoring idle
    ∷ ignoring idle ∷ ignoring idle ∷ ignoring idle ∷ ignoring idle ∷ ignoring idle ∷ ignoring idle ∷ ignoring idle ∷ []
others_do_nothing = refl
