-- What drivers put are posts that their actors made, each at most twice.
use Rattle.std.proofs.Common.{◌≡◌, ℕ, zero, suc, ◌*◌, ◌≤◌, inl, inr, List, [], ◌∷◌, map, ap, sym, subst, ◌∙◌, arith}
use Rattle.std.specs.Prelude.{reverse}
use Rattle.std.specs.List.{AllByRecursion}
use Rattle.atomic_table.specs.Seated.{TableId}
use Rattle.hx_model.specs.Types.{Actor, Entry, PostId, Script}
use Rattle.hx_types.specs.Words.{IsIn}
use Rattle.hx_model.specs.Runs.{entry_at}
use Rattle.hx_model.specs.Schedule.{same_name}
use Rattle.hx_clock.specs.declared.parts.Stamped.{Stamped}
use Rattle.hx_clock.specs.Parts.{all_of}
use Rattle.hx_clock.specs.Views.{one, total}
use Rattle.hx_clock.proofs.Lemmas.{each_in}
use Rattle.hx_law_threads.specs.Own.{past_of, IsOwn}
use Rattle.hx_law_threads.specs.Merged.{parts_in, ActorPart, AreWholeParts, IsMerged}
use Rattle.hx_law_threads.specs.Cuts.{posted_at, times_named, whole_of}
use Rattle.hx_law_threads.proofs.Lemmas.{in_map, in_permuted, in_reverse, are_counted, past_is, named_once}
use Rattle.hx_law_threads.proofs.Lemmas.{entry_found, times_total}
use Rattle.hx_mail.specs.declared.views.Mailed.{Mailed}
use Rattle.hx_mail.specs.Boxes.{Boxed}
use Rattle.hx_outbox.specs.Offers.{put_weight, IsFair, Offer}
use Rattle.hx_driver.specs.declared.desks.Desk.{Desk}
use Rattle.hx_driver.specs.Desks.{entries_before, made_by}
use Rattle.hx_driver.specs.declared.crews.Crew.{Crew}
use Rattle.hx_driver.specs.Crews.{IsCrew, IsDeskOf}
use Rattle.hx_law_drivers.specs.Crews.{desks_of, part_of, parts_of}
use Rattle.hx_law_drivers.specs.Joined.{outs_at}
use Rattle.hx_law_drivers.specs.Laws.{ArePostsBy, HaveRun, IsPostBy}
use Rattle.hx_law_drivers.proofs.Lists.{in_flat, total_least, total_of_flat, total_of_map}
use Rattle.hx_law_drivers.proofs.Next.{is_it, itself, of_it}
use Rattle.hx_law_drivers.proofs.Opens.{outs_least, put_counts}
use Rattle.hx_law_drivers.proofs.Paced.{own_parts}
use Rattle.hx_law_drivers.proofs.Seen.{by_name, made_in_part, seen_now, seen_posted}

-- an entry of an actor's part is the actor's
own_actor : (script : Script) (a : Actor) (xs : List Entry) (x : Entry) → IsOwn script a xs → IsIn x xs → x.actor ≡ a
own_actor script a [] x o i = absurd i
own_actor script a (y ∷ xs) x o (inl e) = ap (λ (z : Entry). z.actor) e ∙ o.0.actor
own_actor script a (y ∷ xs) x o (inr i) = own_actor script a xs x o.1 i

pub part_actor : (script : Script) (a : Actor) (part : List Stamped) (z : Stamped) → IsOwn script a (entries_before part) → IsIn z part → z.entry.actor ≡ a
part_actor script a part z o i = own_actor script a (entries_before part) z.entry o (in_map (λ (x : Stamped). x.entry) (reverse part) z (in_reverse part z i))

-- what was put weighs at most twice what was offered
put_most : (h : Mailed → ℕ) (os : List Offer) → AllByRecursion IsFair os → put_weight h os ≤ 2 * total (λ (o : Offer). h o.mailed) os
put_most h [] f = omega arith
put_most h (o ∷ os) f = omega (arith, most o.times (h o.mailed) f.0.few, put_most h os f.1)
  where
    most : (k x : ℕ) → k ≤ 2 → k * x ≤ 2 * x
    most zero x le = omega arith
    most (suc zero) x le = omega arith
    most (suc (suc zero)) x le = omega arith
    most (suc (suc (suc k))) x le = absurd (omega (arith, le))

module _ (script : Script) (clock : TableId) (boxes : List Boxed) (w : ℕ) (start now : List Crew) (run : HaveRun script clock boxes w start now)
    (merged : List Stamped) (whole : AreWholeParts (parts_in (parts_of now))) (is : IsMerged (parts_in (parts_of now)) merged) where
  abbrev trace : List Entry
  trace = past_of merged

  crew_of : (c : Crew) → IsIn c now → IsCrew script clock boxes w c
  crew_of c i = each_in (IsCrew script clock boxes w) now c run.crews i

  in_merged : (c : Crew) → IsIn c now → (d : Desk) → IsIn d c.desks.items → (z : Stamped) → IsIn z d.part.items → IsIn z merged
  in_merged c i d j z k =
      let desk : IsIn d (desks_of now) = in_flat (λ (x : Crew). x.desks.items) now c d i j in
      in_permuted (all_of (parts_in (parts_of now))) merged z is.all
      (in_flat (λ (part : List Stamped). part) (parts_in (parts_of now)) d.part.items z
      (in_map (λ (p : ActorPart). p.part) (parts_of now) (part_of d) (in_map part_of (desks_of now) d desk)) k)

  -- an actor of the driver made it
  posted_by : (c : Crew) → IsIn c now → (n : ℕ) (m : Mailed) → IsIn m (outs_at n c.out.ports.items) → IsPostBy c trace m
  posted_by c i n m j =
      let h : Mailed → ℕ = of_it m in
      let ps = c.out.ports.items in
      let e = put_counts c (crew_of c i).booked h (omega (arith, itself m, total_least h (outs_at n ps) m j, outs_least h n ps)) in
      let z = made_in_part e.0.part.items m (subst (λ x. IsIn x (made_by e.0.part.items)) (is_it m e.2.0 e.2.2) e.2.1) in
      let desk = (each_in (IsDeskOf script clock boxes w c) c.desks.items e.0 (crew_of c i).desks e.1).broken.desk in
      record {
        desk = e.0;
        is = e.1;
        entry = z.0.entry;
        actor = part_actor script e.0.actor e.0.part.items z.0 desk.own z.1;
        made = ap (entry_at m.id.entry) (past_is merged)
            ∙ entry_found (reverse merged) z.0 m.id.entry (are_counted (parts_in (parts_of now)) merged whole is)
            (in_reverse merged z.0 (in_merged c i e.0 e.1 z.0 z.1)) (sym z.2.0);
        post = z.2.1;
      }

  -- a name is made once, and offered once, and so put at most twice
  at_most_twice : (c : Crew) → IsIn c now → (n : ℕ) (id : PostId) → times_named id (map (λ (m : Mailed). m.id) (outs_at n c.out.ports.items)) ≤ 2
  at_most_twice c i n id =
      let g : PostId → ℕ = λ x. one (same_name x id) in
      let h : Mailed → ℕ = by_name g in
      let ps = c.out.ports.items in
      let b = (crew_of c i).booked in
      let os = b.offered.offers in
      let f : Desk → ℕ = λ d. total h (made_by d.part.items) in
      let here = times_total id (map (λ (m : Mailed). m.id) (outs_at n ps)) ∙ total_of_map (λ (m : Mailed). m.id) g (outs_at n ps) in
      let offered : total h b.posts ≡ total (λ (o : Offer). h o.mailed) os = ap (total h) (sym b.offered.are) ∙ total_of_map (λ (o : Offer). o.mailed) h os in
      let posted : times_named id (posted_at (whole_of trace) trace) ≡ total f (desks_of now) =
      times_total id (posted_at (whole_of trace) trace)
      ∙ seen_posted trace (whole_of trace) (desks_of now)
      (seen_now script now merged (own_parts script clock boxes w start now run) whole is) g in
      omega (
        arith,
        here,
        outs_least h n ps,
        b.offered.put h,
        put_most h os b.offered.fair,
        offered,
        b.made h,
        total_least (λ (x : Crew). total f x.desks.items) now c i,
        total_of_flat (λ (x : Crew). x.desks.items) f now,
        posted,
        named_once (whole_of trace) trace id,
      )

  pub puts_posted : (c : Crew) → IsIn c now → (n : ℕ) → ArePostsBy c trace (outs_at n c.out.ports.items)
  puts_posted c i n = record { each = posted_by c i n; twice = at_most_twice c i n }
