-- What the law on what replicas keep for later gives of an early update and of an acknowledged version, in a run of which all is computed.
use Rattle.std.specs.Prelude.{◌≤◌, List, [], ◌∷◌, length}
use Rattle.std.proofs.Common.{◌≡◌, true, inl, inr, is_some, refl, sym, subst, arith}
use Rattle.hx_model.specs.Types.{Entry, Step, Update}
use Rattle.hx_types.specs.Words.{IsIn}
use Rattle.hx_model.specs.Histories.{line_of}
use Rattle.hx_model.specs.Neighbours.{next_of, place_number}
use Rattle.hx_model.specs.Runs.{IsRun, coordinator_of, server_of}
use Rattle.hx_model.specs.Schedule.{stepped}
use Rattle.hx_model.specs.ServerSteps.{if_installed, replica_of}
use Rattle.hx_model.specs.Slots.{KeyState, has_place, top_of}
use Rattle.hx_model.proofs.Lemmas.{first_update, key_slot, other_slot, region, replica, second_update, server, the_key}
use Rattle.hx_law_chains.specs.Chains.{AcknowledgedStands, EarlyStands, GoesOnInstalled, IsHeld, IsUp, StandsEarlier}
use Rattle.hx_law_chains.proofs.Lemmas.{runs_keep_what_stands}
use Rattle.hx_tests.proofs.OverlapRows.{is_blue, not_in_line, unassigned}
use Rattle.hx_tests.proofs.OverlapRun.{its_script, script}
use Rattle.hx_tests.proofs.SnapshotRun.{call_by, deliver}
use Rattle.hx_tests.proofs.Stepped.{go_on, stepped_run}

-- red and blue are assigned, and blue comes to server 2 before red
abbrev early_steps : List Step
early_steps = call_by 1 ∷ deliver 1 0 ∷ call_by 2 ∷ deliver 3 0 ∷ deliver 4 0 ∷ []

abbrev early_trace : List Entry
early_trace = stepped script [] early_steps

-- then both go down their chains, and server 2 is told that blue is committed before it is told so of red
abbrev later_steps : List Step
later_steps =
    deliver 2 0 ∷ deliver 6 0 ∷ deliver 6 1 ∷ deliver 7 0 ∷ deliver 8 0 ∷ deliver 10 0 ∷ deliver 11 0 ∷ deliver 12 0 ∷ deliver 13 0
    ∷ deliver 14 0 ∷ []

abbrev trace : List Entry
trace = stepped script early_trace later_steps

its_length : length trace ≡ 15
its_length = refl

go_on_to_early : go_on script [] early_steps ≡ true
go_on_to_early = refl

go_on_to_later : go_on script early_trace later_steps ≡ true
go_on_to_later = refl

its_early_run : IsRun script early_trace
its_early_run = stepped_run script [] tt early_steps go_on_to_early

its_run : IsRun script trace
its_run = stepped_run script early_trace its_early_run later_steps go_on_to_later

-- ---- an early update

-- server 2 has accepted nothing, and keeps blue
abbrev early_slot : KeyState
early_slot = key_slot [] 0 [] (second_update ∷ [])

early_is_up : IsUp script early_trace (region 0) (server 2) (replica 0 (early_slot ∷ []))
early_is_up = record { server = refl; running = refl; installed = refl }

-- the leader has accepted both
abbrev leader_slot : KeyState
leader_slot = key_slot (second_update ∷ first_update ∷ []) 0 [] []

leader_is_held : IsHeld script early_trace the_key (region 0) (server 1) leader_slot
leader_is_held = inl (replica 0 (leader_slot ∷ []), inl (record { server = refl; running = refl; installed = refl }), refl)

leader_stands_earlier : StandsEarlier (coordinator_of script early_trace).config second_update (region 0) (server 1) (region 0) (server 2)
leader_stands_earlier = inr (refl, inl (refl, inl refl))

-- by the law blue stands
early_stands : EarlyStands script early_trace the_key (region 0) (server 2) second_update
early_stands = (runs_keep_what_stands script its_script early_trace its_early_run (region 0) (server 2) (replica 0 (early_slot ∷ [])) early_is_up the_key).0
    second_update (inl refl)

blue_stands : IsIn second_update (line_of the_key early_trace)
blue_stands = early_stands.stands

-- and the leader has accepted it
leader_has_blue : 2 ≤ top_of leader_slot
leader_has_blue = early_stands.accepted (region 0) (server 1) leader_slot refl leader_is_held leader_stands_earlier

-- an update that stands in no line wouldn't do
its_early_line : line_of the_key early_trace ≡ second_update ∷ first_update ∷ []
its_early_line = refl

not_unassigned : ¬ EarlyStands script early_trace the_key (region 0) (server 2) unassigned
not_unassigned = λ p. not_in_line (subst (λ (line : List Update). IsIn unassigned line) its_early_line p.stands)

-- nor a leader that keeps one
not_at_leader : ¬ EarlyStands script early_trace the_key (region 0) (server 1) second_update
not_at_leader = λ p. p.follows refl refl

-- ---- an acknowledged version

-- in the region of red server 2 has accepted both, and blue is acknowledged
abbrev kept_slot : KeyState
kept_slot = other_slot (second_update ∷ first_update ∷ []) 0 (2 ∷ []) []

kept_is_up : IsUp script trace (region 1) (server 2) (replica 1 (kept_slot ∷ []))
kept_is_up = record { server = refl; running = refl; installed = refl }

-- server 3 has committed both there
abbrev last_slot : KeyState
last_slot = other_slot (second_update ∷ first_update ∷ []) 2 [] []

last_is_held : IsHeld script trace the_key (region 1) (server 3) last_slot
last_is_held = inl (replica 1 (last_slot ∷ []), inl (record { server = refl; running = refl; installed = refl }), refl)

last_stands_later : StandsEarlier (coordinator_of script trace).config second_update (region 1) (server 2) (region 1) (server 3)
last_stands_later = inr (refl, inl (refl, inl refl))

-- by the law version 2 stands
acknowledged : AcknowledgedStands script trace the_key (region 1) (server 2) kept_slot 2
acknowledged = (runs_keep_what_stands script its_script trace its_run (region 1) (server 2) (replica 1 (kept_slot ∷ [])) kept_is_up the_key).1 2 (inl refl)

-- it is of blue
its_line : line_of the_key trace ≡ second_update ∷ first_update ∷ []
its_line = refl

of_blue : second_update ≡ acknowledged.update
of_blue = (let v = acknowledged.version in sym (is_blue acknowledged.update
    (subst (λ (line : List Update). IsIn acknowledged.update line) its_line acknowledged.stands) (λ j. record { 0 = v j })))

-- which server 3 has committed, who is after server 2
last_has_blue : 2 ≤ last_slot.floor
last_has_blue =
    subst (λ (u : Update). u.version.0 ≤ last_slot.floor) (sym of_blue)
    (acknowledged.committed (region 1) (server 3) last_slot (subst (λ (u : Update). has_place (region 1) u ≡ true) of_blue refl) last_is_held
    (subst (λ (u : Update). StandsEarlier (coordinator_of script trace).config u (region 1) (server 2) (region 1) (server 3)) of_blue last_stands_later))

-- and its chain goes on there, at an installed replica
goes_on_there : is_some (if_installed (replica_of (region 1) (server_of script (server 3) trace).replicas)) ≡ true
goes_on_there =
    subst (λ (u : Update). GoesOnInstalled script trace u.places
    (next_of (server_of script (server 2) trace).config u.places (place_number (region 1) u.places) (server 2))) (sym of_blue) acknowledged.next

-- version 1 wouldn't do as one of a slot that hasn't accepted it
abbrev empty_slot : KeyState
empty_slot = other_slot [] 0 [] []

not_unaccepted : ¬ AcknowledgedStands script trace the_key (region 1) (server 2) empty_slot 1
not_unaccepted = λ p. (let n : 1 ≤ 0 = p.here in absurd (omega (arith, n)))
