-- What was taken was made by an entry of the trace, and so the trace goes on with an entry that delivers it.
use Rattle.std.proofs.Common.{◌≡◌, ◌≢◌, ℕ, ◌≤◌, inl, Bool, true, List, ◌∷◌, map, Some, refl, ap, sym, subst, ◌∙◌, arith}
use Rattle.std.specs.List.{AllByRecursion}
use Rattle.atomic_table.specs.Seated.{TableId}
use Rattle.hx_model.specs.Types.{Actor, Deliver, Entry, Halt, Input, Script, Tick}
use Rattle.hx_types.specs.Words.{post, IsIn}
use Rattle.hx_model.specs.Runs.{entry_of, has_halted, made_of, post_named, IsStep, MayTake}
use Rattle.hx_clock.specs.declared.parts.Stamped.{Stamped}
use Rattle.hx_clock.specs.Views.{total}
use Rattle.hx_clock.proofs.Lemmas.{each_in, in_right}
use Rattle.hx_law_threads.specs.Own.{own_entries, past_of}
use Rattle.hx_law_threads.specs.Pacing.{IsPaced}
use Rattle.hx_law_threads.specs.Merged.{parts_in, ActorPart, AreWholeParts, IsMerged}
use Rattle.hx_law_threads.proofs.Lemmas.{merged_run, in_map, halted_own, made_own}
use Rattle.hx_mail.specs.declared.views.Mailed.{Mailed}
use Rattle.hx_mail.specs.declared.views.Sent.{Sent}
use Rattle.hx_mail.specs.Boxes.{Boxed}
use Rattle.hx_mail.specs.Ports.{mailed as with_name}
use Rattle.hx_outbox.specs.Outboxes.{out_weight}
use Rattle.hx_driver.specs.declared.desks.Desk.{Desk}
use Rattle.hx_driver.specs.Desks.{entries_before, made_by, told}
use Rattle.hx_driver.specs.Inboxes.{ins_of}
use Rattle.hx_driver.specs.Told.{told_by}
use Rattle.hx_driver.specs.Turns.{HasMoreToMake}
use Rattle.hx_driver.specs.declared.crews.Crew.{Crew}
use Rattle.hx_driver.specs.Crews.{IsCrew, IsDeskOf}
use Rattle.hx_driver.specs.Slices.{IsLaterCrew}
use Rattle.hx_law_drivers.specs.Crews.{desks_of, doubled_by, lost_by, part_of, parts_of}
use Rattle.hx_law_drivers.specs.Joined.{put_total, taken_weight, AreOnce}
use Rattle.hx_law_drivers.specs.Laws.{HaveRun, IsDue, MayComeNext}
use Rattle.hx_law_drivers.proofs.Lists.{both_self, in_flat, of_flat, total_least, total_some}
use Rattle.hx_law_drivers.proofs.Desks.{crew_self, AreLater}
use Rattle.hx_law_drivers.proofs.Opens.{put_counts}
use Rattle.hx_law_drivers.proofs.Paced.{own_parts, paced_further}
use Rattle.hx_law_drivers.proofs.Same.{mailed}
use Rattle.hx_law_drivers.proofs.Seen.{found_before, past_is_before}

-- 1 for this post under this name, and 0 for any other
abbrev pub counts : {P : Type 0} → Dec P → ℕ
counts (yes p) = 1
counts (no n) = 0

abbrev pub of_it : Mailed → Mailed → ℕ
of_it m x = counts (mailed x m)

pub itself : (m : Mailed) → of_it m m ≡ 1
itself m = by (mailed m m)
  where
    by : (d : Dec (m ≡ m)) → counts d ≡ 1
    by (yes p) = refl
    by (no n) = absurd (n refl)

pub is_it : (m x : Mailed) → 1 ≤ of_it m x → x ≡ m
is_it m x = by (mailed x m)
  where
    by : (d : Dec (x ≡ m)) → 1 ≤ counts d → x ≡ m
    by (yes p) le = p
    by (no n) le = absurd (omega (arith, le))

module _ (script : Script) (clock : TableId) (boxes : List Boxed) (w : ℕ) where
  -- what was taken some actor made
  taken_made : (now : List Crew) → AllByRecursion (IsCrew script clock boxes w) now → AreOnce now → (d : Desk)
      → IsIn d (desks_of now) → (m : Mailed) → IsIn m (map (λ (s : Sent). s.mailed) (ins_of d.inbox))
      → (e : Desk) × IsIn e (desks_of now) × IsIn m (made_by e.part.items)
  taken_made now crews once d i m j =
      let h : Mailed → ℕ = of_it m in
      let here : 1 ≤ total h (map (λ (s : Sent). s.mailed) (ins_of d.inbox)) =
      omega (arith, itself m, total_least h (map (λ (s : Sent). s.mailed) (ins_of d.inbox)) m j) in
      let taken : 1 ≤ taken_weight h now = omega (
        arith,
        here,
        total_least (λ (x : Desk). total h (map (λ (s : Sent). s.mailed) (ins_of x.inbox))) (desks_of now) d i,
      ) in
      let put : 1 ≤ put_total h now = omega (arith, taken, once h) in
      let c = total_some (λ (x : Crew). out_weight h x.out.ports.items) now put in
      let e = put_counts c.0 (each_in (IsCrew script clock boxes w) now c.0 crews c.1).booked h c.2 in
      (e.0, in_flat (λ (x : Crew). x.desks.items) now c.0 e.0 c.1 e.1, subst (λ x. IsIn x (made_by e.0.part.items)) (is_it m e.2.0 e.2.2) e.2.1)

may_take : (trace : List Entry) (a : Actor) (input : Input) → input ≢ Halt
    → ((m : Mailed) → IsIn m (told_by a input) → post_named m.id trace ≡ Some m.post) → MayTake trace a input
may_take trace a Tick n found = tt
may_take trace a Halt n found = absurd (n refl)
may_take trace a (Deliver id from message) n found = found (with_name id (post from a message)) (inl refl)

module _ (script : Script) (clock : TableId) (boxes : List Boxed) (w : ℕ) (start now : List Crew) (run : HaveRun script clock boxes w start now)
    (merged : List Stamped) (whole : AreWholeParts (parts_in (parts_of now))) (is : IsMerged (parts_in (parts_of now)) merged) where
  abbrev trace : List Entry
  trace = past_of merged

  -- what was taken is found in the trace
  taken_found : (d : Desk) → IsIn d (desks_of now) → (m : Mailed) → IsIn m (map (λ (s : Sent). s.mailed) (ins_of d.inbox)) → post_named m.id trace ≡ Some m.post
  taken_found d i m j =
      let e = taken_made script clock boxes w now run.crews run.once d i m j in
      let same : AreLater now now = both_self IsLaterCrew crew_self now in
      found_before script now merged (own_parts script clock boxes w start now run) whole is now same e.0 e.1 m e.2

  pub next_entry : (d : Desk) → IsIn d (desks_of now) → (retry : Bool) → HasMoreToMake script retry d
      → (x : Entry) × MayComeNext script trace d x × ((retry ≡ true → IsDue run.cuts d) → IsPaced script (x ∷ trace) (lost_by now) (doubled_by now))
  next_entry d i retry more =
      let a : Actor = d.actor in
      let input : Input = more.input in
      let made = merged_run script (parts_of now) merged (own_parts script clock boxes w start now run) whole is in
      let own : own_entries a trace ≡ past_of d.part.items =
      each_in (λ (p : ActorPart). own_entries p.actor trace ≡ past_of p.part) (parts_of now) (part_of d) made.own
      (in_map part_of (desks_of now) d i) in
      let same : own_entries a trace ≡ entries_before d.part.items = own ∙ sym (past_is_before d.part.items) in
      let c = of_flat (λ (x : Crew). x.desks.items) now d i in
      let desk = (each_in (IsDeskOf script clock boxes w c.0) c.0.desks.items d
      (each_in (IsCrew script clock boxes w) now c.0 run.crews c.1).desks c.2).broken.desk in
      let step : IsStep script trace (entry_of a input (made_of script (entries_before d.part.items) a input)) =
      record {
        actor = desk.exists;
        running = sym (halted_own script trace a) ∙ ap (λ l. has_halted script l a) same ∙ more.running;
        input = may_take trace a input more.no_halt
            (λ m j. taken_found d i m (subst (IsIn m) more.told (in_right m (told d.part.items) (told_by a input) j)));
        made = sym (made_own script trace a input) ∙ ap (λ l. made_of script l a input) same;
        enough = more.enough;
      } in
      let x : Entry = entry_of a input (made_of script (entries_before d.part.items) a input) in (
        x,
        record { actor = refl; no_halt = more.no_halt; told = more.told; run = (step, made.run) },
        λ due. paced_further script clock boxes w start now run merged whole is x (step, made.run) d i refl more.told (λ t. due (sym more.retries ∙ t)),
      )
