-- The trace of a run of drivers shows what is at the desks.
use Rattle.std.proofs.Common.{◌≡◌, ◌≢◌, ℕ, inl, inr, List, [], ◌∷◌, ap, sym, subst, ◌∙◌}
use Rattle.std.specs.Prelude.{length, reverse}
use Rattle.hx_types.specs.Words.{IsIn}
use Rattle.atomic_table.specs.Seated.{TableId}
use Rattle.hx_model.specs.Types.{Actor, Entry, Halt, Input, Script}
use Rattle.hx_clock.specs.declared.parts.Stamped.{Stamped}
use Rattle.hx_clock.proofs.Lemmas.{each_all, each_in}
use Rattle.hx_law_threads.specs.Feeding.{IsFed, IsFedBy}
use Rattle.hx_law_threads.specs.Own.{own_entries, past_of}
use Rattle.hx_law_threads.specs.Merged.{parts_in, ActorPart, AreWholeParts, IsMerged}
use Rattle.hx_law_threads.proofs.Lemmas.{in_map, in_reverse, of_map, merged_run, of_parts, count-own}
use Rattle.hx_mail.specs.Boxes.{Boxed}
use Rattle.hx_driver.specs.declared.desks.Desk.{Desk}
use Rattle.hx_driver.specs.declared.crews.Crew.{Crew}
use Rattle.hx_driver.specs.Crews.{IsCrew, IsDeskOf}
use Rattle.hx_law_drivers.specs.Crews.{desks_of, part_of, parts_of}
use Rattle.hx_law_drivers.specs.Laws.{HaveRun, ShowsDesks}
use Rattle.hx_law_drivers.proofs.Lists.{of_flat}
use Rattle.hx_law_drivers.proofs.Paced.{own_parts}
use Rattle.hx_law_drivers.proofs.Seen.{length_past}

fed_in : (script : Script) (xs : List Stamped) (z : Stamped) → IsFed script xs → IsIn z xs → IsFedBy script z.stamp.0 z.entry.actor z.entry.input
fed_in script [] z h i = absurd i
fed_in script (x ∷ xs) z h (inl e) = subst (λ (y : Stamped). IsFedBy script y.stamp.0 y.entry.actor y.entry.input) (sym e) h.1
fed_in script (x ∷ xs) z h (inr i) = fed_in script xs z h.2 i

-- no driver halts an actor
no_halt : (script : Script) (n : ℕ) (a : Actor) (input : Input) → IsFedBy script n a input → input ≢ Halt
no_halt script n a input h e = subst (IsFedBy script n a) e h

module _ (script : Script) (clock : TableId) (boxes : List Boxed) (w : ℕ) (start now : List Crew) (run : HaveRun script clock boxes w start now)
    (merged : List Stamped) (whole : AreWholeParts (parts_in (parts_of now))) (is : IsMerged (parts_in (parts_of now)) merged) where
  no_halts : (x : Entry) → IsIn x (past_of merged) → x.input ≢ Halt
  no_halts x i =
      let z = of_parts (parts_in (parts_of now)) merged is x i in
      let part = of_flat (λ (p : List Stamped). p) (parts_in (parts_of now)) z.0 z.1 in
      let p = of_map (λ (p : ActorPart). p.part) (parts_of now) part.0 part.1 in
      let d = of_map part_of (desks_of now) p.0 p.1 in
      let c = of_flat (λ (y : Crew). y.desks.items) now d.0 d.1 in
      let desk = (each_in (IsDeskOf script clock boxes w c.0) c.0.desks.items d.0
      (each_in (IsCrew script clock boxes w) now c.0 run.crews c.1).desks c.2).broken.desk in
      let same : part.0 ≡ d.0.part.items = p.2 ∙ ap (λ (q : ActorPart). q.part) d.2 in
      let fed = fed_in script (reverse d.0.part.items) z.0 desk.fed (in_reverse d.0.part.items z.0 (subst (IsIn z.0) same part.2)) in
      subst (λ (y : Entry). y.input ≢ Halt) (sym z.2) (no_halt script z.0.stamp.0 z.0.entry.actor z.0.entry.input fed)

  pub shows_desks : ShowsDesks script now (past_of merged)
  shows_desks =
      let made = merged_run script (parts_of now) merged (own_parts script clock boxes w start now run) whole is in
      let own : (d : Desk) → IsIn d (desks_of now) → own_entries d.actor (past_of merged) ≡ past_of d.part.items =
      λ d i. each_in (λ (p : ActorPart). own_entries p.actor (past_of merged) ≡ past_of p.part) (parts_of now)
      (part_of d) made.own (in_map part_of (desks_of now) d i) in
      record {
        run = made.run;
        no_halts = each_all (λ (x : Entry). x.input ≢ Halt) (past_of merged) no_halts;
        own = own;
        counts = λ d i. count-own d.actor (past_of merged) ∙ ap length (own d i) ∙ length_past d.part.items;
      }
