-- What drivers that ran to their end answer.
use Rattle.std.proofs.Common.{◌≡◌, ℕ, ◌+◌, ◌<◌, ◌≤◌, List, [], ◌∷◌, map, length, slice_get, Option, Some, refl, ap, sym, subst, ◌∙◌, arith}
use Rattle.std.specs.List.{AllByRecursion}
use Rattle.atomic_table.specs.Seated.{TableId}
use Rattle.hx_types.specs.declared.ids.Actor.{Actor}
use Rattle.hx_types.specs.declared.totals.Totals.{Totals}
use Rattle.hx_types.specs.declared.traces.Entry.{Entry}
use Rattle.hx_types.specs.declared.traces.Script.{Script}
use Rattle.hx_types.specs.Fitting.{IsScript}
use Rattle.hx_clock.specs.declared.parts.Stamped.{Stamped}
use Rattle.hx_clock.specs.Seats.{Seated}
use Rattle.hx_law_threads.specs.Merged.{parts_in, AreWholeParts, HasStampsAsPlaces, IsMerged}
use Rattle.hx_mail.specs.Boxes.{Boxed, Ported}
use Rattle.hx_fate.specs.declared.fates.FateState.{FateState}
use Rattle.hx_outbox.specs.Places.{AreBoxes}
use Rattle.hx_outbox.specs.Zipped.{Both}
use Rattle.hx_outbox.proofs.Lemmas.{map-length}
use Rattle.hx_driver.specs.declared.faults.Fault.{Fault}
use Rattle.hx_driver.specs.declared.crews.Crew.{Crew}
use Rattle.hx_driver.specs.Crews.{IsCrew, IsPosted}
use Rattle.hx_driver.specs.Slices.{IsLaterCrew}
use Rattle.hx_law_drivers.specs.Crews.{parts_of, AreNumbered, HaveAllActors}
use Rattle.hx_law_drivers.specs.Courses.{IsCourse}
use Rattle.hx_law_drivers.specs.Joined.{AreInOrder, AreOnce}
use Rattle.hx_law_drivers.specs.Laws.{EndedRunsEndCalls, PartsAreOwn, PutsArePosts, RestedRunsArePacedToEnd, RunsArePaced, TracesGoOn, WornActorsAreDue}
use Rattle.hx_cluster.specs.Clusters.{actors_dealt, AreNewCrews}
use Rattle.hx_cluster.specs.Everyone.{actors_of}
use Rattle.hx_gather.specs.declared.gathering.SeatedPart.{SeatedPart}
use Rattle.hx_gather.specs.Gathered as gathered
use Rattle.hx_gather.specs.Gathered.{part_by, parts_by, CountsAll, IsDrawn}
use Rattle.hx_run.specs.Closed.{fault_of, worn_in, AreClosed, HasPosted, IsLeft}
use Rattle.hx_run.specs.Ran.{lowest_of, HasRisen, HaveMetWorn, IsRan}
use Rattle.hx_run.specs.Rounds.{AreOver, StayCrews}
use Rattle.hx_run.proofs.Counted.{AreDealtFrom}
use Rattle.hx_run.proofs.Courses.{stay-each}
use Rattle.hx_run.proofs.Leaving.{have-indexes, how-many, map-map}
use Rattle.hx_run.proofs.Starts.{are-closed, course-later, later-actors, later-dealt, later-numbered, posted-at, ran-later}
use Rattle.hx_run.proofs.Traces.{has-risen, have-met, is-ran, lowest-told}

-- ---- before the ports are joined
module _ {D : Type 0} (f : D → Crew) (script : Script) (clock : TableId) (boxes : List Boxed) (w : ℕ)
    (xs lent news after : List D) (lends : lent ≡ xs) (stays : after ≡ news)
    (new : AreNewCrews script clock boxes w (map f xs)) (stay : StayCrews script clock boxes (map f lent) (map f news))
    (course : (w : ℕ) → AllByRecursion (IsCrew script clock boxes w) (map f lent) → (cuts : List (List Crew))
    × IsCourse script clock boxes w (map f lent) cuts (map f news)) where
  from-lent : StayCrews script clock boxes (map f xs) (map f news)
  from-lent = subst (λ l. StayCrews script clock boxes (map f l) (map f news)) lends stay

  pub the-course : (w : ℕ) → AllByRecursion (IsCrew script clock boxes w) (map f xs) → (cuts : List (List Crew))
      × IsCourse script clock boxes w (map f xs) cuts (map f news)
  the-course =
      subst (λ l. (w : ℕ) → AllByRecursion (IsCrew script clock boxes w) (map f l) → (cuts : List (List Crew))
      × IsCourse script clock boxes w (map f l) cuts (map f news)) lends course

  pub crews-need : 1 ≤ w → (w : ℕ) × (1 ≤ w) × AreNumbered w (map f after) × AllByRecursion (IsCrew script clock boxes w) (map f after)
  crews-need some = (
    w,
    some,
    subst (λ l. AreNumbered w (map f l)) (sym stays)
        (later-numbered w (map f xs) (map f news) (ran-later script clock boxes w (map f xs)
        (map f news) new the-course) new.numbered),
    subst (λ l. AllByRecursion (IsCrew script clock boxes w) (map f l)) (sym stays)
        (stay-each script clock boxes w (map f xs) (map f news) from-lent new.crews_are),
  )

  pub actors-need : HaveAllActors script (map f after)
  actors-need = subst (λ l. HaveAllActors script (map f l)) (sym stays)
      (later-actors script (map f xs) (map f news) (ran-later script clock boxes w (map f xs)
      (map f news) new the-course) new.actors)

  pub closed-of : (fault : Option Fault) → IsScript script → AreBoxes script clock boxes
      → AreOver script (map f news) fault → AreInOrder script (map f after) → AreOnce (map f after)
      → AreClosed script clock w (map f xs) (map f news) fault
  closed-of fault valid are over order once =
      are-closed script clock boxes w (map f xs) (map f news) new the-course fault valid are from-lent over
      (subst (λ l. AreInOrder script (map f l)) stays order) (subst (λ l. AreOnce (map f l)) stays once)

  pub left-same : (actors : List SeatedPart) (totals : List Totals) (ports : List Ported)
      → IsLeft script clock (map f after) actors totals ports → IsLeft script clock (map f news) actors totals ports
  left-same actors totals ports h = subst (λ l. IsLeft script clock (map f l) actors totals ports) stays h

  pub how-long : {X : Type 0} (g : D → X) (gs : List X) → gs ≡ map g after → length news ≡ length lent → length gs ≡ w
  how-long g gs e long =
      let n = (have-indexes w (map f xs) new.numbered).0 in
      let m : length (map (λ (c : Crew). c.out) (map f xs)) ≡ length xs = map-length (λ (c : Crew). c.out) (map f xs) ∙ map-length f xs in
      ap length e ∙ map-length g after ∙ ap length stays ∙ long ∙ ap length lends ∙ sym m ∙ n

  pub all-met : {X : Type 0} (g : Crew → X) (xs' : List D) (ms : List X) → ms ≡ map (λ (d : D). g (f d)) xs' → xs' ≡ news → ms ≡ map g (map f news)
  all-met g xs' ms e same = e ∙ sym (map-map g f xs') ∙ ap (λ l. map g (map f l)) same

  pub all-posted : {X : Type 0} (fate : D → X) (state : X → FateState) (fates gs : List X)
      → Both (λ d d'. IsPosted (f d) (f d') (state (fate d)) (state (fate d'))) lent news
      → ((i : ℕ) (d : D) (u : X) → slice_get xs i ≡ Some d → slice_get fates i ≡ Some u → state (fate d) ≡ state u) → gs ≡ map fate after
      → (i : ℕ) (u v : X) (c : Crew) → slice_get fates i ≡ Some u → slice_get gs i ≡ Some v
      → slice_get (map f news) i ≡ Some c → HasPosted c (state u) (state v)
  all-posted fate state fates gs h same e =
      posted-at f fate state xs news fates gs (subst
      (λ l. Both (λ d d'. IsPosted (f d) (f d') (state (fate d)) (state (fate d'))) l news) lends h) new.new same
      (e ∙ ap (map fate) stays)

-- the crews of a slice that was lent
pub lent-crews : {D : Type 0} (f : D → Crew) (script : Script) (clock : TableId) (boxes : List Boxed) (w : ℕ)
    (xs lent : List D) → lent ≡ xs → AreNewCrews script clock boxes w (map f xs) → (w : ℕ)
    × AllByRecursion (IsCrew script clock boxes w) (map f lent)
lent-crews f script clock boxes w xs lent e new = (w, subst (λ l. AllByRecursion (IsCrew script clock boxes w) (map f l)) (sym e) new.crews_are)

-- ---- after the parts are gathered
same-parts : (actors : List SeatedPart) → parts_in (parts_by actors) ≡ gathered.parts_of actors
same-parts [] = refl
same-parts (p ∷ actors) = ap (λ l. p.part ∷ l) (same-parts actors)

module _ (script : Script) (clock : TableId) (w : ℕ) (start now : List Crew) (fault : Option Fault) (closed : AreClosed script clock w start now fault)
    (own : PartsAreOwn) (paced : RunsArePaced) (rested : RestedRunsArePacedToEnd) (ended : EndedRunsEndCalls)
    (goes-on : TracesGoOn) (worns : WornActorsAreDue) (puts : PutsArePosts)
    (actors : List SeatedPart) (totals : List Totals) (ports : List Ported) (left : IsLeft script clock now actors totals ports)
    (trace : List Entry) (made : (merged : List Stamped) × IsMerged (gathered.parts_of actors) merged
    × HasStampsAsPlaces merged × (trace ≡ map (λ (x : Stamped). x.entry) merged))
    (whole : AreWholeParts (gathered.parts_of actors)) where
  the-parts : gathered.parts_of actors ≡ parts_in (parts_of now)
  the-parts = sym (same-parts actors) ∙ ap parts_in left.parts

  is-whole : AreWholeParts (parts_in (parts_of now))
  is-whole = subst AreWholeParts the-parts whole

  is-merged : IsMerged (parts_in (parts_of now)) made.0
  is-merged = subst (λ l. IsMerged l made.0) the-parts made.1

  later : Both IsLaterCrew start now
  later = course-later script clock closed.boxes w start closed.run.cuts now closed.run.course

  dealt : AreDealtFrom script w 0 now
  dealt = later-dealt script w 0 start now later (λ i c g. closed.new.dealt i c g ∙ ap (actors_dealt script w) (let e : i ≡ 0 + i = omega arith in e))

  numbered : AreNumbered w now
  numbered = later-numbered w start now later closed.new.numbered

  many : length now ≡ w
  many = sym (map-length (λ (c : Crew). c.out) now) ∙ (have-indexes w now numbered).0

  pub ran-of : (seat : Seated) → seat.clock ≡ clock → IsDrawn seat.view trace → (worn : Option Actor)
      → fault ≡ fault_of worn → IsRan script w trace seat totals ports worn
  ran-of seat same drawn worn e =
      is-ran script clock w start now fault closed own paced rested ended goes-on worns puts trace made.0 is-whole
      is-merged made.3 totals left.totals_are dealt numbered many seat same drawn worn e ports left.ports_are

  pub met-of : (seat : Seated) → seat.clock ≡ clock → (met : List (Option Actor))
      → met ≡ map (λ (c : Crew). worn_in c.fault) now → HaveMetWorn script w seat.clock trace totals ports met
  met-of seat same met e =
      have-met script clock w start now fault closed own paced rested ended goes-on worns puts trace made.0 is-whole
      is-merged made.3 totals left.totals_are dealt numbered many seat same met e ports left.ports_are

  pub lowest-of : (worn : Option Actor) → fault ≡ fault_of worn → (met : List (Option Actor))
      → met ≡ map (λ (c : Crew). worn_in c.fault) now → worn ≡ lowest_of met
  lowest-of worn e met is =
      lowest-told script clock w start now fault closed own paced rested ended goes-on worns puts trace made.0
      is-whole is-merged made.3 totals left.totals_are dealt numbered many worn e met is

  pub risen-of : (i : ℕ) (t : Totals) (f f' : FateState) → ((c : Crew) → slice_get now i ≡ Some c → HasPosted c f f')
      → slice_get totals i ≡ Some t → HasRisen script w trace i t f f'
  risen-of i t f f' posted g = has-risen script clock w start now fault closed own paced rested ended goes-on worns
      puts trace made.0 is-whole is-merged made.3 totals left.totals_are dealt numbered many i t f f' posted g

-- as many actors are counted as there are
pub left-counts : (script : Script) (n k : ℕ) → n ≡ 1 + script.space.servers + length script.sessions → k < n → k < length (actors_of script)
left-counts script n k e lt = omega (arith, how-many script, e, lt)
