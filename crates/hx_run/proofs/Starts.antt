-- From new drivers to what is left of them.
use Rattle.std.proofs.Common.{◌≡◌, ℕ, zero, suc, ◌+◌, ◌%◌, inl, inr, ⊎_elim, eqb, List, [], ◌∷◌, ◌++◌, map, take}
use Rattle.std.proofs.Common.{length, slice_get, Option, Some, None, refl, ap, sym, subst, ◌∙◌, arith}
use Rattle.std.specs.List.{AllByRecursion, IsDistinct}
use Rattle.std.proofs.lemmas.Bool.{eqb-true}
use Rattle.std.proofs.Math.Seq.{take-append_seam}
use Rattle.atomic_table.specs.Seated.{TableId}
use Rattle.hx_types.specs.declared.ids.Actor.{Actor}
use Rattle.hx_types.specs.declared.traces.Script.{Script}
use Rattle.hx_types.specs.Fitting.{IsScript}
use Rattle.hx_types.specs.Words.{same_actor, IsIn}
use Rattle.hx_clock.proofs.Lemmas.{each_all, each_in, each_map}
use Rattle.hx_law_threads.proofs.Lemmas.{in_append, in_map, map_append, of_filter}
use Rattle.hx_mail.specs.Boxes.{Boxed}
use Rattle.hx_fate.specs.declared.fates.FateState.{FateState}
use Rattle.hx_outbox.specs.Places.{place_of, AreBoxes}
use Rattle.hx_outbox.specs.Zipped.{Both}
use Rattle.hx_driver.specs.declared.desks.Desk.{Desk}
use Rattle.hx_driver.specs.declared.faults.Fault.{Fault}
use Rattle.hx_driver.specs.Desks.{IsLater}
use Rattle.hx_driver.specs.declared.crews.Crew.{Crew}
use Rattle.hx_driver.specs.Crews.{IsCrew, IsPosted}
use Rattle.hx_driver.specs.Slices.{IsLaterCrew}
use Rattle.hx_law_drivers.specs.Crews.{desks_of, AreNumbered, HaveAllActors}
use Rattle.hx_law_drivers.specs.Courses.{IsCourse, IsSliced}
use Rattle.hx_law_drivers.specs.Joined.{AreInOrder, AreOnce}
use Rattle.hx_cluster.specs.Clusters.{actors_dealt, AreNewCrews, IsNewCrew}
use Rattle.hx_cluster.specs.Everyone.{actors_of}
use Rattle.hx_run.specs.Closed.{AreClosed, HasPosted}
use Rattle.hx_run.specs.Rounds.{AreOver, StayCrews}
use Rattle.hx_run.proofs.Counted.{AreDealtFrom}
use Rattle.hx_run.proofs.Courses.{crew-trans, stay-each}
use Rattle.hx_run.proofs.Zipped.{both-map, both-trans, some-same}

sliced-later : (script : Script) (xs ys : List Crew) → Both (IsSliced script) xs ys → Both IsLaterCrew xs ys
sliced-later script xs ys h = both-map (IsSliced script) IsLaterCrew (λ x y k. k.later) xs ys h

pub course-later : (script : Script) (clock : TableId) (boxes : List Boxed) (w : ℕ) (start : List Crew)
    (cuts : List (List Crew)) (now : List Crew) → IsCourse script clock boxes w start cuts now → Both IsLaterCrew start now
course-later script clock boxes w start [] now h = sliced-later script start now h
course-later script clock boxes w start (cut ∷ older) now h =
    both-trans IsLaterCrew crew-trans start h.2.0 now
    (both-trans IsLaterCrew crew-trans start cut h.2.0
    (course-later script clock boxes w start older cut h.1) h.2.1.later) (sliced-later script h.2.0 now h.2.2)

index-same : (xs ys : List Crew) → Both IsLaterCrew xs ys → map (λ (c : Crew). c.out.index) ys ≡ map (λ (c : Crew). c.out.index) xs
index-same [] [] h = refl
index-same [] (y ∷ ys) h = absurd h
index-same (x ∷ xs) [] h = absurd h
index-same (x ∷ xs) (y ∷ ys) h = ap (λ n. n ∷ map (λ (c : Crew). c.out.index) ys) h.0.index ∙ ap (λ l. x.out.index ∷ l) (index-same xs ys h.1)

desk-actors : (ds es : List Desk) → Both IsLater ds es → map (λ (d : Desk). d.actor) es ≡ map (λ (d : Desk). d.actor) ds
desk-actors [] [] h = refl
desk-actors [] (e ∷ es) h = absurd h
desk-actors (d ∷ ds) [] h = absurd h
desk-actors (d ∷ ds) (e ∷ es) h = ap (λ a. a ∷ map (λ (d : Desk). d.actor) es) h.0.actor ∙ ap (λ l. d.actor ∷ l) (desk-actors ds es h.1)

crew-actors : (xs ys : List Crew) → Both IsLaterCrew xs ys → map (λ (d : Desk). d.actor) (desks_of ys) ≡ map (λ (d : Desk). d.actor) (desks_of xs)
crew-actors [] [] h = refl
crew-actors [] (y ∷ ys) h = absurd h
crew-actors (x ∷ xs) [] h = absurd h
crew-actors (x ∷ xs) (y ∷ ys) h =
    map_append (λ (d : Desk). d.actor) y.desks.items (desks_of ys)
    ∙ ap (λ l. l ++ map (λ (d : Desk). d.actor) (desks_of ys)) (desk-actors x.desks.items y.desks.items h.0.desks)
    ∙ ap (λ l. map (λ (d : Desk). d.actor) x.desks.items ++ l) (crew-actors xs ys h.1) ∙ sym (map_append (λ (d : Desk). d.actor) x.desks.items (desks_of xs))

-- an actor of some desk is at a desk of the later ones
of-actors : (ds : List Desk) (a : Actor) → IsIn a (map (λ (d : Desk). d.actor) ds) → (d : Desk) × IsIn d ds × (d.actor ≡ a)
of-actors [] a i = absurd i
of-actors (d ∷ ds) a (inl e) = (d, inl refl, sym e)
of-actors (d ∷ ds) a (inr i) = let r = of-actors ds a i in (r.0, inr r.1, r.2)

pub later-actors : (script : Script) (xs ys : List Crew) → Both IsLaterCrew xs ys → HaveAllActors script xs → HaveAllActors script ys
later-actors script xs ys h k = record {
  all = λ a e.
      let d = k.all a e in
      of-actors (desks_of ys) a (subst (IsIn a) (sym (crew-actors xs ys h))
      (subst (λ b. IsIn b (map (λ (d : Desk). d.actor) (desks_of xs))) d.2
      (in_map (λ (d : Desk). d.actor) (desks_of xs) d.0 d.1)));
  apart = subst (IsDistinct same_actor) (sym (crew-actors xs ys h)) k.apart;
}

pub later-numbered : (w : ℕ) (xs ys : List Crew) → Both IsLaterCrew xs ys → AreNumbered w xs → AreNumbered w ys
later-numbered w xs ys h k = index-same xs ys h ∙ k

dealt-desks : (script : Script) (w n : ℕ) (ds : List Desk) → map (λ (d : Desk). d.actor) ds ≡ actors_dealt script w n
    → AllByRecursion (λ (d : Desk). place_of script.space d.actor % w ≡ n) ds
dealt-desks script w n ds e =
    each_all (λ (d : Desk). place_of script.space d.actor % w ≡ n) ds
    (λ d i. eqb-true (place_of script.space d.actor % w) n
    (of_filter (λ (a : Actor). eqb (place_of script.space a % w) n) (actors_of script) d.actor
    (subst (IsIn d.actor) e (in_map (λ (d : Desk). d.actor) ds d i))).1)

pub later-dealt : (script : Script) (w n : ℕ) (xs ys : List Crew) → Both IsLaterCrew xs ys
    → ((i : ℕ) (c : Crew) → slice_get xs i ≡ Some c
    → map (λ (d : Desk). d.actor) c.desks.items ≡ actors_dealt script w (n + i)) → AreDealtFrom script w n ys
later-dealt script w n [] [] h k = 0
later-dealt script w n [] (y ∷ ys) h k = absurd h
later-dealt script w n (x ∷ xs) [] h k = absurd h
later-dealt script w n (x ∷ xs) (y ∷ ys) h k =
    let zero-n : n + 0 ≡ n = omega arith in (
      dealt-desks script w n y.desks.items (desk-actors x.desks.items y.desks.items h.0.desks ∙ k 0 x refl ∙ ap (actors_dealt script w) zero-n),
      later-dealt script w (suc n) xs ys h.1 (λ i c g. k (suc i) c g ∙ ap (actors_dealt script w) (let e : n + suc i ≡ suc n + i = omega arith in e)),
    )

new-parts : (crews : List Crew) → AllByRecursion IsNewCrew crews → (d : Desk) → IsIn d (desks_of crews) → d.part.items ≡ []
new-parts [] h d i = absurd i
new-parts (c ∷ crews) h d i =
    ⊎_elim (λ (j : IsIn d c.desks.items). (each_in
    (λ (d : Desk). (d.part.items ≡ []) × (d.kept.items ≡ [])) c.desks.items d h.0.desks j).0)
    (λ (j : IsIn d (desks_of crews)). new-parts crews h.1 d j)
    (in_append c.desks.items (desks_of crews) d i)

module _ (script : Script) (clock : TableId) (boxes : List Boxed) (w : ℕ) (start now : List Crew) (new : AreNewCrews script clock boxes w start)
    (course : (w : ℕ) → AllByRecursion (IsCrew script clock boxes w) start → (cuts : List (List Crew)) × IsCourse script clock boxes w start cuts now) where
  pub ran-later : Both IsLaterCrew start now
  ran-later = let k = course w new.crews_are in course-later script clock boxes w start k.0 now k.1

  pub are-closed : (fault : Option Fault) → IsScript script → AreBoxes script clock boxes
      → StayCrews script clock boxes start now → AreOver script now fault → AreInOrder script now → AreOnce now
      → AreClosed script clock w start now fault
  are-closed fault valid are stay over order once =
      let k = course w new.crews_are in
      record {
        boxes = boxes;
        new = new;
        run = record {
          valid = valid;
          boxes_are = are;
          new = new-parts start new.new;
          calm = each_map IsNewCrew (λ (c : Crew). c.fault ≡ None) start (λ c i k. k.fault) new.new;
          actors = new.actors;
          numbered = new.numbered;
          cuts = k.0;
          course = k.1;
          crews = stay-each script clock boxes w start now stay new.crews_are;
          order = order;
          once = once;
        };
        over = over;
      }

-- ---- fates
module _ {D X : Type 0} (crew : D → Crew) (fate : D → X) (state : X → FateState) where
  at-both : (olds news : List D) → Both (λ d d'. IsPosted (crew d) (crew d') (state (fate d)) (state (fate d'))) olds
      news → AllByRecursion IsNewCrew (map crew olds)
      → (i : ℕ) (g : X) (c : Crew) → slice_get (map fate news) i ≡ Some g → slice_get (map crew news) i ≡ Some c
      → (d : D) × (slice_get olds i ≡ Some d) × IsNewCrew (crew d) × IsPosted (crew d) c (state (fate d)) (state g)
  at-both [] [] h k i g c p q = absurd cc
  at-both [] (y ∷ news) h k i g c p q = absurd h
  at-both (x ∷ olds) [] h k i g c p q = absurd h
  at-both (x ∷ olds) (y ∷ news) h k zero g c p q = (
    x,
    refl,
    k.0,
    subst (λ u. IsPosted (crew x) u (state (fate x)) (state g)) (some-same (crew y) c q)
        (subst (λ u. IsPosted (crew x) (crew y) (state (fate x)) (state u)) (some-same (fate y) g p) h.0),
  )
  at-both (x ∷ olds) (y ∷ news) h k (suc i) g c p q = at-both olds news h.1 k.1 i g c p q

  pub posted-at : (olds news : List D) (fates gs : List X)
      → Both (λ d d'. IsPosted (crew d) (crew d') (state (fate d)) (state (fate d'))) olds news
      → AllByRecursion IsNewCrew (map crew olds)
      → ((i : ℕ) (d : D) (f : X) → slice_get olds i ≡ Some d → slice_get fates i ≡ Some f → state (fate d) ≡ state f) → gs ≡ map fate news
      → (i : ℕ) (f g : X) (c : Crew) → slice_get fates i ≡ Some f → slice_get gs i ≡ Some g
      → slice_get (map crew news) i ≡ Some c → HasPosted c (state f) (state g)
  posted-at olds news fates gs h k same e i f g c p q r =
      let b = at-both olds news h k i g c (subst (λ l. slice_get l i ≡ Some g) e q) r in
      record { start = crew b.0; new = b.2; posted = subst (λ u. IsPosted (crew b.0) c u (state g)) (same i b.0 f b.1 p) b.3 }

-- a slice that was lent and came back
pub cut-same : {D : Type 0} (n : ℕ) (ws rest : List D) → length ws ≡ n → take n (ws ++ rest) ≡ ws
cut-same n ws rest e = ap (λ j. take j (ws ++ rest)) (sym e) ∙ take-append_seam ws rest
