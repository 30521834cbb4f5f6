-- Where every session ended, each call has ended.
use Rattle.std.proofs.Common.{◌≡◌, ℕ, zero, suc, ◌<◌, ◌≤◌, Bool, true, false, nat_le, nat_lt, List, [], ◌∷◌, length}
use Rattle.std.proofs.Common.{Option, Some, None, slice_get, refl, ap, sym, ◌∙◌, arith, true≢false}
use Rattle.std.specs.Prelude.{not, ◌&&◌, is_some, IsSome}
use Rattle.std.proofs.lemmas.Bool.{and_from, le-leb, lt-ltb}
use Rattle.atomic_table.specs.Seated.{TableId}
use Rattle.hx_model.specs.Types.{Caller, Op, Script, Session, SessionId}
use Rattle.hx_types.specs.Fitting.{call_of, numbered}
use Rattle.hx_types.specs.Words.{when_some}
use Rattle.hx_model.specs.Histories.{note_of_end}
use Rattle.hx_model.specs.Runs.{is_actor, session_of}
use Rattle.hx_model.specs.Schedule.{is_idle}
use Rattle.hx_clock.specs.declared.parts.Stamped.{Stamped}
use Rattle.hx_clock.proofs.Lemmas.{each_in}
use Rattle.hx_law_threads.specs.Own.{own_entries, past_of}
use Rattle.hx_law_threads.specs.Calls.{IsDone}
use Rattle.hx_law_threads.specs.Merged.{parts_in, ActorPart, AreWholeParts, IsMerged}
use Rattle.hx_law_threads.proofs.Lemmas.{in_map, merged_run, done_ended, by_own}
use Rattle.hx_machine.specs.Machines.{has_ended}
use Rattle.hx_mail.specs.Boxes.{Boxed}
use Rattle.hx_driver.specs.Desks.{entries_before}
use Rattle.hx_driver.specs.declared.crews.Crew.{Crew}
use Rattle.hx_law_drivers.specs.Crews.{desks_of, part_of, parts_of}
use Rattle.hx_law_drivers.specs.Laws.{HaveRun}
use Rattle.hx_law_drivers.specs.Rests.{HasEnded, HaveAllEnded}
use Rattle.hx_law_drivers.proofs.Paced.{actors_now, own_parts}
use Rattle.hx_law_drivers.proofs.Seen.{past_is_before}

none_at : (number : ℕ) → numbered {A = Op} [] number ≡ None
none_at zero = refl
none_at (suc n) = refl

none_is : (o : Option Op) → o ≡ None → IsSome o → ⊥
none_is None e h = true≢false (sym h)
none_is (Some x) e h = absurd (cc)

session_below : (sessions : List (List Op)) (n : ℕ) → IsSome (slice_get sessions n) → n < length sessions
session_below [] n h = absurd (true≢false (sym h))
session_below (x ∷ sessions) zero h = omega arith
session_below (x ∷ sessions) (suc n) h = let r = session_below sessions n h in omega (arith, r)

-- who has a call is a session of the script
has_calls : (sessions : List (List Op)) (n number : ℕ)
    → IsSome (numbered (when_some (numbered sessions n) [] (λ (calls : List Op). calls)) number) → (0 < n) × (n ≤ length sessions)
has_calls sessions zero number h = absurd (none_is (numbered [] number) (none_at number) h)
has_calls sessions (suc n) number h = by (slice_get sessions n) refl h
  where
    by : (o : Option (List Op)) → slice_get sessions n ≡ o
        → IsSome (numbered (when_some o [] (λ (calls : List Op). calls)) number) → (0 < suc n) × (suc n ≤ length sessions)
    by None e i = absurd (none_is (numbered [] number) (none_at number) i)
    by (Some calls) e i = let r = session_below sessions n (ap is_some e) in (omega arith, omega (arith, r))

session_known : (script : Script) (c : Caller) → IsSome (call_of script c) → is_actor script (Session c.session) ≡ true
session_known script c h =
    let p = has_calls script.sessions c.session.0 c.number h in
    and_from (nat_lt 0 c.session.0) (nat_le c.session.0 (length script.sessions)) (lt-ltb 0 c.session.0 p.0) (le-leb c.session.0 (length script.sessions) p.1)

ended_parts : (a b : Bool) → (not a && not b) ≡ true → (a ≡ false) × ((not a && b) ≡ false)
ended_parts true b e = absurd (true≢false (sym e))
ended_parts false true e = absurd (true≢false (sym e))
ended_parts false false e = (refl, refl)

module _ (script : Script) (clock : TableId) (boxes : List Boxed) (w : ℕ) (start now : List Crew) (run : HaveRun script clock boxes w start now)
    (merged : List Stamped) (whole : AreWholeParts (parts_in (parts_of now))) (is : IsMerged (parts_in (parts_of now)) merged) where
  pub calls_end : HaveAllEnded script now → (c : Caller) → IsSome (call_of script c) → IsSome (note_of_end c (past_of merged))
  calls_end all c h =
      let u : SessionId = c.session in
      let made = merged_run script (parts_of now) merged (own_parts script clock boxes w start now run) whole is in
      let d = (actors_now script clock boxes w start now run).all (Session u) (session_known script c h) in
      let own : own_entries d.0.actor (past_of merged) ≡ past_of d.0.part.items =
      each_in (λ (p : ActorPart). own_entries p.actor (past_of merged) ≡ past_of p.part) (parts_of now)
      (part_of d.0) made.own (in_map part_of (desks_of now) d.0 d.1) in
      let state : session_of script u (past_of merged) ≡ session_of script u (entries_before d.0.part.items) =
      sym ((by_own script (past_of merged)).session u) ∙ ap (λ a. session_of script u (own_entries a (past_of merged))) (sym d.2)
      ∙ ap (session_of script u) (own ∙ sym (past_is_before d.0.part.items)) in
      let ended : has_ended script (entries_before d.0.part.items) (Session u) ≡ true =
      ap (has_ended script (entries_before d.0.part.items)) (sym d.2)
      ∙ each_in (HasEnded script) (desks_of now) d.0 all d.1 in
      let s = session_of script u (entries_before d.0.part.items) in
      let parts = ended_parts s.under_way (nat_lt s.begun (length s.calls)) ended in
      let done : IsDone script (past_of merged) u =
      record { none_under_way = ap (λ x. x.under_way) state ∙ parts.0; none_left = ap is_idle state ∙ parts.1 } in
      done_ended script (past_of merged) made.run u done c.number h
