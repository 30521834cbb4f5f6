-- The trace of a run of drivers is paced by the cuts of its course.
use Rattle.std.proofs.Common.{◌≡◌, ℕ, zero, suc, ◌≤◌, Bool, true, false, List, [], ◌∷◌, ◌++◌, map, length, Some}
use Rattle.std.proofs.Common.{slice_get, option_map, refl, ap, sym, subst, ◌∙◌, arith, true≢false}
use Rattle.std.specs.Prelude.{not, ◌&&◌}
use Rattle.std.specs.List.{AllByRecursion, IsDistinct}
use Rattle.atomic_table.specs.Seated.{TableId}
use Rattle.hx_model.specs.Types.{Actor, Coordinator, Entry, Script, Server, Session, SessionId}
use Rattle.hx_types.specs.Words.{same_actor, when_some, IsIn}
use Rattle.hx_model.specs.Runs.{session_of, IsRun}
use Rattle.hx_model.specs.Schedule.{entries_of}
use Rattle.hx_clock.specs.declared.parts.Stamped.{Stamped}
use Rattle.hx_clock.proofs.Lemmas.{each_all, each_in, each_map}
use Rattle.hx_law_threads.specs.Own.{own_entries, past_of, IsOwn}
use Rattle.hx_law_threads.specs.Merged.{parts_in, ActorPart, AreOwnParts, AreWholeParts, IsMerged, IsOwnPart}
use Rattle.hx_law_threads.specs.Cuts.{is_idle_actor, is_retry, is_waiting, open_at, whole_of, Cut, HasCallUnderWay}
use Rattle.hx_law_threads.specs.Laws.{entry_in, IsReadInPart}
use Rattle.hx_law_threads.specs.Pacing.{earlier, AreRepeatedAtMost, IsPacedBy, IsPaced, IsPacedToEnd, WaitersRetry}
use Rattle.hx_law_threads.specs.PartPacing.{past_at, PartsFollow, TellPace}
use Rattle.hx_law_threads.proofs.Lemmas.{in_map, parts_tell, read_in_parts, retriers_waited, merged_run, count-own}
use Rattle.hx_machine.specs.Machines.{has_ended}
use Rattle.hx_mail.specs.declared.views.Sent.{Sent}
use Rattle.hx_mail.specs.Boxes.{Boxed}
use Rattle.hx_outbox.specs.Zipped.{Both}
use Rattle.hx_driver.specs.declared.desks.Desk.{Desk}
use Rattle.hx_driver.specs.Desks.{entries_before, told, IsLater}
use Rattle.hx_driver.specs.Inboxes.{ins_of}
use Rattle.hx_driver.specs.Told.{told_by}
use Rattle.hx_driver.specs.declared.crews.Crew.{Crew}
use Rattle.hx_driver.specs.Crews.{IsCrew, IsDeskOf}
use Rattle.hx_driver.specs.Slices.{IsLaterCrew}
use Rattle.hx_law_drivers.specs.Courses.{IsCourse, IsCutAt}
use Rattle.hx_law_drivers.specs.Crews.{cut_of, desks_of, doubled_by, lost_by, part_of, parts_of, HaveAllActors}
use Rattle.hx_law_drivers.specs.Laws.{HaveRun, IsDue}
use Rattle.hx_law_drivers.specs.Rests.{AreAtRest, IsRested}
use Rattle.hx_law_drivers.proofs.Lists.{bools_same, both_and, both_back, both_in, both_self, each_of_map, each_two, of_flat, prefix_take}
use Rattle.hx_law_drivers.proofs.Desks.{actors_later, actors_of_parts, all_parts, crew_self, entries_of_desk, have_cut}
use Rattle.hx_law_drivers.proofs.Desks.{later_desks, lost_before, AreCalm, AreLater}
use Rattle.hx_law_drivers.proofs.Courses.{cuts_are, cuts_later, cuts_rise, cuts_since, earlier_retry, retries_follow, start_later, waiters_retry, RetriesNext}
use Rattle.hx_law_drivers.proofs.Longer.{named_on, paced_on, seen_on}
use Rattle.hx_law_drivers.proofs.Seen.{found_before, length_past, past_is_before, seen_before, seen_now, IsSeen}
use Rattle.hx_law_drivers.proofs.Opens.{few_open}
use Rattle.hx_law_drivers.proofs.Repeats.{repeats_few, repeats_on}

under_way : (a b : Bool) → (not a && not b) ≡ false → (not a && b) ≡ false → a ≡ true
under_way true b e f = refl
under_way false true e f = absurd (true≢false f)
under_way false false e f = absurd (true≢false e)

-- a session that isn't idle and hasn't ended has a call under way
session_goes : (script : Script) (past : List Entry) (a : Actor) → has_ended script past a ≡ false → is_idle_actor script past a ≡ false
    → (u : SessionId) × (a ≡ Session u) × ((session_of script u past).under_way ≡ true)
session_goes script past Coordinator e f = absurd (true≢false e)
session_goes script past (Server s) e f = absurd (true≢false e)
session_goes script past (Session u) e f = (u, refl, under_way (session_of script u past).under_way _ e f)

-- an entry of a part has its stamp
entry_stamped : (part : List Stamped) (n : ℕ) (x : Entry) → entry_in part n ≡ Some x → (z : Stamped) × (slice_get part n ≡ Some z) × (z.entry ≡ x)
entry_stamped [] n x e = absurd (cc)
entry_stamped (z ∷ part) zero x e = let same : z.entry ≡ x = cc in (z, refl, same)
entry_stamped (z ∷ part) (suc n) x e = entry_stamped part n x e

module _ (script : Script) (clock : TableId) (boxes : List Boxed) (w : ℕ) where
  -- what each actor made is its own
  own_part : (crews : List Crew) → AllByRecursion (IsCrew script clock boxes w) crews → (d : Desk) → IsIn d (desks_of crews) → IsOwnPart script (part_of d)
  own_part crews k d i =
      let c = of_flat (λ (x : Crew). x.desks.items) crews d i in
      let desk = (each_in (IsDeskOf script clock boxes w c.0) c.0.desks.items d
      (each_in (IsCrew script clock boxes w) crews c.0 k c.1).desks c.2).broken.desk in
      (desk.exists, subst (IsOwn script d.actor) (past_is_before d.part.items) desk.own)

  module _ (start now : List Crew) (run : HaveRun script clock boxes w start now) where
    pub actors_now : HaveAllActors script now
    actors_now = actors_later script start now (start_later script clock boxes w start run.cuts now run.course) run.actors

    pub own_parts : AreOwnParts script (parts_of now)
    own_parts = record {
      own = each_of_map part_of (IsOwnPart script) (desks_of now)
          (each_all (λ (d : Desk). IsOwnPart script (part_of d)) (desks_of now) (λ d i. own_part now run.crews d i));
      apart = subst (IsDistinct same_actor) (sym (actors_of_parts (desks_of now))) actors_now.apart;
    }

    module _ (merged : List Stamped) (whole : AreWholeParts (parts_in (parts_of now))) (is : IsMerged (parts_in (parts_of now)) merged) where
      abbrev trace : List Entry
      trace = past_of merged

      tells : TellPace script (parts_of now) trace
      tells = parts_tell script (parts_of now) merged own_parts whole is

      -- an earlier moment
      record IsMoment (k : List Crew) : Type 0 where
        pub cut : IsCutAt script clock boxes w k
        pub later : AreLater k now
        pub actors : HaveAllActors script k

      moments : AllByRecursion IsMoment run.cuts
      moments =
          each_all IsMoment run.cuts
          (λ k i.
          let later = each_in (λ (c : List Crew). AreLater c now) run.cuts k (cuts_later script clock boxes w start run.cuts now run.course) i in
          let since = each_in (λ (c : List Crew). AreLater start c) run.cuts k (cuts_since script clock boxes w start run.cuts now run.course) i in
          record {
            cut = each_in (IsCutAt script clock boxes w) run.cuts k
                (cuts_are script clock boxes w start run.cuts now run.course) i;
            later = later;
            actors = actors_later script start k since run.actors;
          })

      -- what holds at each moment holds of its cut
      at_moments : (P : Cut → Type 0) → ((k : List Crew) → IsMoment k → P (cut_of k)) → AllByRecursion P (map cut_of run.cuts)
      at_moments P f = each_of_map cut_of P run.cuts (each_map IsMoment (λ (k : List Crew). P (cut_of k)) run.cuts (λ k i m. f k m) moments)

      within_moment : (k : List Crew) → IsMoment k → (a : Actor) → cut_of k a ≤ entries_of a trace
      within_moment k m = tells.within (cut_of k) (have_cut k now m.later m.actors.apart)

      call_moment : (k : List Crew) → IsMoment k → HasCallUnderWay trace (cut_of k)
      call_moment k m =
          let d = m.cut.goes_on in
          let rested = each_in (IsRested script k) (desks_of k) d.0 m.cut.rest.rested d.1 in
          let u = session_goes script (entries_before d.0.part.items) d.0.actor d.2 rested.idle in
          let e = both_in IsLater (desks_of k) (desks_of now) d.0 (later_desks k now m.later) d.1 in
          let same : past_at (cut_of k) (part_of e.0) ≡ entries_before d.0.part.items =
          ap past_of (prefix_take d.0.part.items e.0.part.items (cut_of k e.0.actor) e.2.part
          (ap (cut_of k) e.2.actor ∙ entries_of_desk (desks_of k) d.0 m.actors.apart d.1))
          ∙ sym (past_is_before d.0.part.items) in
          tells.calls (cut_of k) (
            part_of e.0,
            in_map part_of (desks_of now) e.0 e.1,
            (u.0, e.2.actor ∙ u.1, ap (λ l. (session_of script u.0 l).under_way) same ∙ u.2),
          )

      open_moment : (k : List Crew) → IsMoment k → length (open_at script (cut_of k) trace) ≤ lost_by now
      open_moment k m =
          let few = few_open script clock boxes w run.boxes_are k now m.cut.crews_are m.cut.rest m.later run.order m.actors trace (cut_of k)
          (seen_before script now merged own_parts whole is k m.later m.actors.apart) (found_before script now merged own_parts whole is k m.later) in
          omega (arith, few, lost_before k now m.later)

      follow : PartsFollow (parts_of now) (map cut_of run.cuts)
      follow =
          each_of_map part_of
          (λ (p : ActorPart). (n : ℕ) (x : Entry) → entry_in p.part n ≡ Some x → is_retry x ≡ true → (cut : Cut)
          × IsIn cut (map cut_of run.cuts) × (cut p.actor ≡ n)) (desks_of now)
          (each_all (λ (e : Desk). (n : ℕ) (x : Entry) → entry_in e.part.items n ≡ Some x → is_retry x ≡ true
          → (cut : Cut) × IsIn cut (map cut_of run.cuts) × (cut e.actor ≡ n)) (desks_of now)
          (λ e i n x at retry.
          let z = entry_stamped e.part.items n x at in
          let r = retries_follow script clock boxes w start run.cuts now run.new run.course e i n z.0 z.1 (ap is_retry z.2 ∙ retry) in
          let m = each_in IsMoment run.cuts r.0 moments r.1 in
          (cut_of r.0, in_map cut_of run.cuts r.0 r.1, ap (cut_of r.0) r.2.2 ∙ entries_of_desk (desks_of r.0) r.2.0 m.actors.apart r.2.1 ∙ r.2.3)))

      -- after a moment those retry who waited there, if those who waited do
      waiters_moment : (k : List Crew) → IsMoment k → Both (RetriesNext script) (desks_of k) (desks_of now) → WaitersRetry script trace (cut_of k)
      waiters_moment k m next =
          tells.waiters (cut_of k) (all_parts script now actors_now)
          (each_of_map part_of
          (λ (p : ActorPart). when_some (entry_in p.part (cut_of k p.actor)) false is_retry ≡ is_waiting script (past_at (cut_of k) p) p.actor) (desks_of now)
          (each_all (λ (e : Desk). when_some (entry_in e.part.items (cut_of k e.actor)) false is_retry
          ≡ is_waiting script (past_at (cut_of k) (part_of e)) e.actor) (desks_of now) (λ e i. waits_or_not e i)))
        where
          waits_or_not : (e : Desk) → IsIn e (desks_of now)
              → when_some (entry_in e.part.items (cut_of k e.actor)) false is_retry
              ≡ is_waiting script (past_at (cut_of k) (part_of e)) e.actor
          waits_or_not e i =
              let n : ℕ = cut_of k e.actor in
              let d = both_back (λ d e. IsLater d e × RetriesNext script d e) (desks_of k) (desks_of now) e
              (both_and IsLater (RetriesNext script) (desks_of k) (desks_of now) (later_desks k now m.later) next) i in
              let count : n ≡ length d.0.part.items = ap (cut_of k) d.2.0.actor ∙ entries_of_desk (desks_of k) d.0 m.actors.apart d.1 in
              let same : past_at (cut_of k) (part_of e) ≡ entries_before d.0.part.items =
              ap past_of (prefix_take d.0.part.items e.part.items n d.2.0.part count) ∙ sym (past_is_before d.0.part.items) in
              let made = merged_run script (parts_of now) merged own_parts whole is in
              let read = each_in (IsReadInPart trace) (parts_of now) (part_of e)
              (read_in_parts (parts_of now) trace made.own) (in_map part_of (desks_of now) e i) in
              bools_same (when_some (entry_in e.part.items n) false is_retry) (is_waiting script (past_at (cut_of k) (part_of e)) e.actor)
              (λ t. ap (λ l. is_waiting script l e.actor) (sym (read.own n))
              ∙ retriers_waited script trace made.run (cut_of k) e.actor
              (ap (λ o. when_some o false is_retry) (read.next n) ∙ t))
              (λ t.
              let x = d.2.1 (ap (λ a. is_waiting script (entries_before d.0.part.items) a) (sym d.2.0.actor)
              ∙ ap (λ l. is_waiting script l e.actor) (sym same) ∙ t) in
              ap (λ j. when_some (entry_in e.part.items j) false is_retry) count
              ∙ ap (λ o. when_some (option_map (λ (z : Stamped). z.entry) o) false is_retry) x.1 ∙ x.2)

      -- after each cut but the last one, and after the last one too where no driver met a fault
      earlier_waiters : (cuts : List (List Crew)) → IsCourse script clock boxes w start cuts now
          → AllByRecursion IsMoment cuts → AllByRecursion (WaitersRetry script trace) (earlier (map cut_of cuts))
      earlier_waiters [] h m = tt
      earlier_waiters (cut ∷ older) h m =
          each_of_map cut_of (WaitersRetry script trace) older
          (each_two IsMoment (λ (k : List Crew). Both (RetriesNext script) (desks_of k) (desks_of now))
          (λ (k : List Crew). WaitersRetry script trace (cut_of k)) waiters_moment older m.1
          (earlier_retry script clock boxes w start cut older now h))

      all_waiters : AreCalm now → AllByRecursion (WaitersRetry script trace) (map cut_of run.cuts)
      all_waiters calm =
          each_of_map cut_of (WaitersRetry script trace) run.cuts
          (each_two IsMoment (λ (k : List Crew). Both (RetriesNext script) (desks_of k) (desks_of now))
          (λ (k : List Crew). WaitersRetry script trace (cut_of k)) waiters_moment run.cuts moments
          (waiters_retry script clock boxes w start run.cuts now run.course calm))

      paced_by : IsPacedBy script trace (lost_by now) (map cut_of run.cuts)
      paced_by = record {
        within = at_moments (λ (cut : Cut). (a : Actor) → cut a ≤ entries_of a trace) within_moment;
        rising = cuts_rise script clock boxes w start run.cuts now run.course;
        retries = tells.retries (map cut_of run.cuts) follow;
        waiters = earlier_waiters run.cuts run.course moments;
        calls = at_moments (HasCallUnderWay trace) call_moment;
        few_open = at_moments (λ (cut : Cut). length (open_at script cut trace) ≤ lost_by now) open_moment;
      }

      seen_end : IsSeen trace (whole_of trace) (desks_of now)
      seen_end = seen_now script now merged own_parts whole is

      repeated : AreRepeatedAtMost trace (doubled_by now)
      repeated = repeats_few script clock boxes w now run.crews run.once trace seen_end

      -- with one more entry of a desk's actor, of what was taken for it: no retry, or one that is due
      module _ (x : Entry) (run_on : IsRun script (x ∷ trace)) (d : Desk) (is_desk : IsIn d (desks_of now)) (actor : x.actor ≡ d.actor)
          (took : told d.part.items ++ told_by d.actor x.input ≡ map (λ (s : Sent). s.mailed) (ins_of d.inbox)) where
        open_on : (k : List Crew) → IsMoment k → length (open_at script (cut_of k) (x ∷ trace)) ≤ lost_by now
        open_on k m =
            let few = few_open script clock boxes w run.boxes_are k now m.cut.crews_are m.cut.rest m.later run.order m.actors (x ∷ trace) (cut_of k)
            (seen_on x trace (cut_of k) (desks_of k) (within_moment k m) (seen_before script now merged own_parts whole is k m.later m.actors.apart))
            (λ e j mail l. named_on x trace mail.id mail.post (found_before script now merged own_parts whole is k m.later e j mail l)) in
            omega (arith, few, lost_before k now m.later)

        due_cut : IsDue run.cuts d → (cut : Cut) × IsIn cut (map cut_of run.cuts) × (cut x.actor ≡ entries_of x.actor trace)
        due_cut k =
            let m = each_in IsMoment run.cuts k.0 moments k.1 in
            let made = merged_run script (parts_of now) merged own_parts whole is in
            let own : own_entries d.actor trace ≡ past_of d.part.items =
            each_in (λ (p : ActorPart). own_entries p.actor trace ≡ past_of p.part) (parts_of now)
            (part_of d) made.own (in_map part_of (desks_of now) d is_desk) in
            let count : entries_of x.actor trace ≡ length d.part.items =
            ap (λ a. entries_of a trace) actor ∙ count-own d.actor trace ∙ ap length own ∙ length_past d.part.items in (
              cut_of k.0,
              in_map cut_of run.cuts k.0 k.1,
              ap (cut_of k.0) (actor ∙ k.2.2) ∙ entries_of_desk (desks_of k.0) k.2.0 m.actors.apart k.2.1 ∙ k.2.3 ∙ sym count,
            )

        pub paced_further : (is_retry x ≡ true → IsDue run.cuts d) → IsPaced script (x ∷ trace) (lost_by now) (doubled_by now)
        paced_further due = record {
          cuts = map cut_of run.cuts;
          paced = paced_on x trace script run_on (lost_by now) (map cut_of run.cuts) paced_by (λ t. due_cut (due t))
              (at_moments (λ (cut : Cut). length (open_at script cut (x ∷ trace)) ≤ lost_by now) open_on);
          repeated = repeats_on script clock boxes w now run.crews run.once trace seen_end x d is_desk took;
        }

      pub paced : IsPaced script trace (lost_by now) (doubled_by now)
      paced = record { cuts = map cut_of run.cuts; paced = paced_by; repeated = repeated }

      pub paced_to_end : AreAtRest script now → IsPacedToEnd script trace (lost_by now) (doubled_by now)
      paced_to_end rest =
          let same : AreLater now now = both_self IsLaterCrew crew_self now in
          record {
            cuts = map cut_of run.cuts;
            paced = paced_by;
            waiters = all_waiters rest.calm;
            few_open = few_open script clock boxes w run.boxes_are now now run.crews rest same run.order actors_now
                trace (whole_of trace) seen_end (found_before script now merged own_parts whole is now same);
            repeated = repeated;
          }
