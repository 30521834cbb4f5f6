-- What the rounds keep: the course so far, and what each driver posted.
use Rattle.std.proofs.Common.{◌≡◌, ℕ, zero, suc, ◌+◌, ◌<◌, ◌≤◌, ◌⊎◌, ⊎_elim, inl, inr, true, false, List, [], ◌∷◌}
use Rattle.std.proofs.Common.{◌++◌, map, length, slice_get, slice_index_or, slice_set, Option, Some, None, refl, ap}
use Rattle.std.proofs.Common.{sym, subst, ◌∙◌, arith}
use Rattle.std.specs.List.{AllByRecursion}
use Rattle.std.specs.Option.{is_some}
use Rattle.std.proofs.lemmas.Bool.{true≢false}
use Rattle.atomic_table.specs.Seated.{TableId}
use Rattle.hx_types.specs.declared.traces.Script.{Script}
use Rattle.hx_clock.specs.declared.parts.Stamped.{Stamped}
use Rattle.hx_clock.proofs.Lemmas.{get-front, total-append}
use Rattle.hx_law_threads.specs.Cuts.{is_retry}
use Rattle.hx_mail.specs.Boxes.{Boxed}
use Rattle.hx_fate.specs.declared.fates.FateState.{FateState}
use Rattle.hx_outbox.specs.Zipped.{Both}
use Rattle.hx_outbox.proofs.Lemmas.{begins-refl, begins-trans, more-refl, more-trans, offered-both, offered-none}
use Rattle.hx_driver.specs.declared.desks.Desk.{Desk}
use Rattle.hx_driver.specs.declared.faults.Fault.{Fault}
use Rattle.hx_driver.specs.declared.faults.Fault.TheVariants.{Memory, Worn}
use Rattle.hx_driver.specs.Desks.{HasNoRetry, HasRetried, IsLater}
use Rattle.hx_driver.specs.declared.crews.Crew.{Crew}
use Rattle.hx_driver.specs.Crews.{weight_in, HasFault, HasWorn, IsCrew, IsDeskOf, IsPosted}
use Rattle.hx_driver.specs.Slices.{HasFaultSince, HaveNoRetry, HaveRetried, IsLaterCrew, MayHaveRetried}
use Rattle.hx_law_drivers.specs.Courses.{AreRetried, AreSliced, IsCourse, IsSliced}
use Rattle.hx_law_drivers.specs.Rests.{AreAtRest, SomeGoesOn}
use Rattle.hx_run.specs.Rounds.{Advance, HasMachine, HaveMachines, StayCrews, StaysCrew}
use Rattle.hx_run.proofs.Zipped.{both-each, both-put-map, both-refl, both-trans}

pub later-refl : (d : Desk) → IsLater d d
later-refl d = record { actor = refl; part = begins-refl d.part.items; ins = begins-refl _ }

pub later-trans : (d e f : Desk) → IsLater d e → IsLater e f → IsLater d f
later-trans d e f a b = record {
  actor = b.actor ∙ a.actor;
  part = begins-trans d.part.items e.part.items f.part.items a.part b.part;
  ins = begins-trans _ _ _ a.ins b.ins;
}

pub crew-refl : (c : Crew) → IsLaterCrew c c
crew-refl c = record {
  index = refl;
  put = more-refl c.out.ports.items;
  desks = both-refl IsLater later-refl c.desks.items;
  calm = λ e. e;
  stays = λ fault e. refl;
  lose = omega arith;
  twice = omega arith;
}

pub crew-trans : (c d e : Crew) → IsLaterCrew c d → IsLaterCrew d e → IsLaterCrew c e
crew-trans c d e a b =
    let al = a.lose in
    let bl = b.lose in
    let aw = a.twice in
    let bw = b.twice in
    record {
      index = b.index ∙ a.index;
      put = more-trans c.out.ports.items d.out.ports.items e.out.ports.items a.put b.put;
      desks = both-trans IsLater later-trans c.desks.items d.desks.items e.desks.items a.desks b.desks;
      calm = λ h. a.calm (b.calm h);
      stays = λ fault h. let same = a.stays fault h in b.stays fault (ap (λ (x : Crew). x.fault) same ∙ h) ∙ same;
      lose = omega (arith, al, bl);
      twice = omega (arith, aw, bw);
    }

pub get-some : {A : Type 0} (xs : List A) (n : ℕ) → n < length xs → (x : A) × (slice_get xs n ≡ Some x)
get-some [] n lt = absurd (omega (arith, lt))
get-some (x ∷ xs) zero lt = (x, refl)
get-some (x ∷ xs) (suc n) lt = get-some xs n (omega (arith, lt))

pub below-or-not : (n m : ℕ) → (n < m) ⊎ (m ≤ n)
below-or-not zero zero = inr (omega arith)
below-or-not zero (suc m) = inl (omega arith)
below-or-not (suc n) zero = inr (omega arith)
below-or-not (suc n) (suc m) = ⊎_elim (λ (h : n < m). inl (omega (arith, h))) (λ (h : m ≤ n). inr (omega (arith, h))) (below-or-not n m)

no-retry-refl : (d : Desk) → HasNoRetry d d
no-retry-refl d n x le e = past d.part.items n x le e
  where
    past : (xs : List Stamped) (n : ℕ) (x : Stamped) → length xs ≤ n → slice_get xs n ≡ Some x → is_retry x.entry ≡ false
    past [] n x le e = absurd cc
    past (y ∷ xs) zero x le e = absurd (omega (arith, le))
    past (y ∷ xs) (suc n) x le e = past xs n x (omega (arith, le)) e

no-retry-trans : (d e f : Desk) → HasNoRetry d e → IsLater e f → HasNoRetry e f → HasNoRetry d f
no-retry-trans d e f a l b n x le g =
    ⊎_elim
    (λ (lt : n < length e.part.items).
    let z = get-some e.part.items n lt in
    let k : slice_get f.part.items n ≡ Some z.0 = subst (λ w. slice_get w n ≡ Some z.0) l.part.1 (get-front e.part.items l.part.0 n z.0 z.1) in
    let same : z.0 ≡ x = some-same z.0 x (sym k ∙ g) in
    subst (λ w. is_retry w.entry ≡ false) same (a n z.0 le z.1))
    (λ (ge : length e.part.items ≤ n). b n x ge g) (below-or-not n (length e.part.items))
  where
    some-same : (u v : Stamped) → Some u ≡ Some v → u ≡ v
    some-same u v e = cc

desks-no-retry : (ds es fs : List Desk) → Both HasNoRetry ds es → Both IsLater es fs → Both HasNoRetry es fs → Both HasNoRetry ds fs
desks-no-retry [] [] [] a l b = tt
desks-no-retry [] [] (f ∷ fs) a l b = absurd b
desks-no-retry [] (e ∷ es) fs a l b = absurd a
desks-no-retry (d ∷ ds) [] fs a l b = absurd a
desks-no-retry (d ∷ ds) (e ∷ es) [] a l b = absurd b
desks-no-retry (d ∷ ds) (e ∷ es) (f ∷ fs) a l b = (no-retry-trans d e f a.0 l.0 b.0, desks-no-retry ds es fs a.1 l.1 b.1)

-- after a fault nothing changes
fault-stays : (script : Script) (c d : Crew) → IsLaterCrew c d → HasFault script false c → (c.fault ≡ None → HasFault script false d) → HasFault script false d
fault-stays script c d later fault calm =
    ⊎_elim calm
    (λ (h : (c.fault ≡ Some Memory) ⊎ HasWorn script false c).
    ⊎_elim (λ (e : c.fault ≡ Some Memory). subst (HasFault script false) (sym (later.stays Memory e)) fault)
    (λ (k : HasWorn script false c). subst (HasFault script false) (sym (later.stays (Worn k.desk.actor) k.fault)) fault) h) fault

none-retried-refl : (script : Script) (c : Crew) → HaveNoRetry script c c
none-retried-refl script c = record { desks = both-refl HasNoRetry no-retry-refl c.desks.items; fault = λ e. inl e }

none-retried-trans : (script : Script) (c d e : Crew) → HaveNoRetry script c d → IsLaterCrew d e → HaveNoRetry script d e → HaveNoRetry script c e
none-retried-trans script c d e a later b = record {
  desks = desks-no-retry c.desks.items d.desks.items e.desks.items a.desks later.desks b.desks;
  fault = λ n. fault-stays script d e later (a.fault n) b.fault;
}

module _ (script : Script) where
  sliced-refl : (c : Crew) → IsSliced script c c
  sliced-refl c = record { later = crew-refl c; retries = none-retried-refl script c }

  sliced-trans : (c d e : Crew) → IsSliced script c d → IsSliced script d e → IsSliced script c e
  sliced-trans c d e a b = record { later = crew-trans c d e a.later b.later; retries = none-retried-trans script c d e a.retries b.later b.retries }

  pub are-sliced-refl : (crews : List Crew) → AreSliced script crews crews
  are-sliced-refl crews = both-refl (IsSliced script) sliced-refl crews

  pub are-sliced-trans : (xs ys zs : List Crew) → AreSliced script xs ys → AreSliced script ys zs → AreSliced script xs zs
  are-sliced-trans xs ys zs h k = both-trans (IsSliced script) sliced-trans xs ys zs h k

-- what each driver posted
pub posted-refl : (c : Crew) (f : FateState) → IsPosted c c f f
posted-refl c f = record { posts = []; offered = offered-none _ _ c.totals f (λ h. refl); made = λ h. omega arith }

pub posted-trans : (c d e : Crew) (f g h : FateState) → IsPosted c d f g → IsPosted d e g h → IsPosted c e f h
posted-trans c d e f g h a b = record {
  posts = a.posts ++ b.posts;
  offered = offered-both (λ k. weight_in k c.out c.desks.items) (λ k. weight_in k d.out d.desks.items)
      (λ k. weight_in k e.out e.desks.items) c.totals d.totals e.totals f g h a.posts b.posts a.offered b.offered;
  made = λ k. omega (arith, a.made k, b.made k, total-append k a.posts b.posts);
}

-- crews stay what they are
pub stay-refl : (script : Script) (clock : TableId) (boxes : List Boxed) (crews : List Crew) → StayCrews script clock boxes crews crews
stay-refl script clock boxes crews = both-refl (StaysCrew script clock boxes) (λ c w h. h) crews

pub stay-trans : (script : Script) (clock : TableId) (boxes : List Boxed) (xs ys zs : List Crew)
    → StayCrews script clock boxes xs ys → StayCrews script clock boxes ys zs → StayCrews script clock boxes xs zs
stay-trans script clock boxes xs ys zs h k = both-trans (StaysCrew script clock boxes) (λ x y z a b w i. b w (a w i)) xs ys zs h k

pub stay-each : (script : Script) (clock : TableId) (boxes : List Boxed) (w : ℕ) (xs ys : List Crew) → StayCrews script clock boxes xs ys
    → AllByRecursion (IsCrew script clock boxes w) xs → AllByRecursion (IsCrew script clock boxes w) ys
stay-each script clock boxes w xs ys h e = both-each (StaysCrew script clock boxes) (IsCrew script clock boxes w)
    (IsCrew script clock boxes w) (λ x y s i. s w i) xs ys h e

-- the actors of crews have the states of their entries
crew-machines : (script : Script) (clock : TableId) (boxes : List Boxed) (w : ℕ) (c : Crew) → IsCrew script clock boxes w c → HaveMachines script c
crew-machines script clock boxes w c h = each-desk c.desks.items h.desks
  where
    each-desk : (ds : List Desk) → AllByRecursion (IsDeskOf script clock boxes w c) ds → AllByRecursion (HasMachine script) ds
    each-desk [] k = tt
    each-desk (d ∷ ds) k = (k.0.broken.desk.machine, each-desk ds k.1)

pub have-machines : (script : Script) (clock : TableId) (boxes : List Boxed) (w : ℕ) (crews : List Crew)
    → AllByRecursion (IsCrew script clock boxes w) crews → AllByRecursion (HaveMachines script) crews
have-machines script clock boxes w [] h = tt
have-machines script clock boxes w (c ∷ crews) h = (crew-machines script clock boxes w c h.0, have-machines script clock boxes w crews h.1)

module _ (script : Script) (clock : TableId) (boxes : List Boxed) (w : ℕ) where
  pub course-slice : (start : List Crew) (cuts : List (List Crew)) (now later : List Crew)
      → IsCourse script clock boxes w start cuts now → AreSliced script now later → IsCourse script clock boxes w start cuts later
  course-slice start [] now later h k = are-sliced-trans script start now later h k
  course-slice start (cut ∷ cuts) now later h k = (h.0, h.1, (h.2.0, h.2.1, are-sliced-trans script h.2.0 now later h.2.2 k))

  -- one more round
  pub course-on : (start now later : List Crew) → AllByRecursion (IsCrew script clock boxes w) now
      → ((cuts : List (List Crew)) × IsCourse script clock boxes w start cuts now) → Advance script now later
      → (cuts : List (List Crew)) × IsCourse script clock boxes w start cuts later
  course-on start now later crews h k =
      ⊎_elim (λ (a : AreSliced script now later). (h.0, course-slice start h.0 now later h.1 a))
      (λ (b : AreAtRest script now × SomeGoesOn script now × AreRetried script now later).
      (now ∷ h.0, (record { crews_are = crews; rest = b.0; goes_on = b.1 }, h.1, (later, b.2, are-sliced-refl script later)))) k

-- a round of retries, of which the first k drivers had theirs without a fault
pub record HasRetriedWell (script : Script) (c c' : Crew) : Type 0 where
  pub later : IsLaterCrew c c'
  pub retried : HaveRetried script c c'
  pub calm : c'.fault ≡ None

abbrev pub RetriedTo : Script → ℕ → List Crew → List Crew → Type 0
RetriedTo script k [] [] = ℕ
RetriedTo script k [] (d ∷ ds) = ⊥
RetriedTo script k (c ∷ cs) [] = ⊥
RetriedTo script zero (c ∷ cs) (d ∷ ds) = (d ≡ c) × RetriedTo script zero cs ds
RetriedTo script (suc k) (c ∷ cs) (d ∷ ds) = HasRetriedWell script c d × RetriedTo script k cs ds

pub retried-none : (script : Script) (cs : List Crew) → RetriedTo script 0 cs cs
retried-none script [] = 0
retried-none script (c ∷ cs) = (refl, retried-none script cs)

-- one more driver retried
retried-suc : {D : Type 0} (f : D → Crew) (script : Script) (k : ℕ) (cs : List Crew) (ds : List D) (d y : D) → RetriedTo script k cs (map f ds) → k < length ds
    → IsLaterCrew (f (slice_index_or ds k d)) (f y) → HaveRetried script (f (slice_index_or ds k d)) (f y)
    → (f y).fault ≡ None → RetriedTo script (suc k) cs (map f (slice_set ds k y))
retried-suc f script k [] [] d y h lt l r g = absurd (omega (arith, lt))
retried-suc f script k [] (x ∷ ds) d y h lt l r g = absurd h
retried-suc f script k (x ∷ cs) [] d y h lt l r g = absurd h
retried-suc f script zero (x ∷ cs) (u ∷ ds) d y h lt l r g =
    (record { later = subst (λ v. IsLaterCrew v (f y)) h.0 l; retried = subst (λ v. HaveRetried script v (f y)) h.0 r; calm = g }, h.1)
retried-suc f script (suc k) (x ∷ cs) (u ∷ ds) d y h lt l r g = (h.0, retried-suc f script k cs ds d y h.1 (omega (arith, lt)) l r g)

pub retried-next : {D : Type 0} (f : D → Crew) (script : Script) (k : ℕ) (cs : List Crew) (ds : List D) (d y : D)
    → RetriedTo script k cs (map f ds) → k < length ds
    → IsLaterCrew (f (slice_index_or ds k d)) (f y) → HaveRetried script (f (slice_index_or ds k d)) (f y)
    → (f y).fault ≡ None → RetriedTo script (k + 1) cs (map f (slice_set ds k y))
retried-next f script k cs ds d y h lt l r g =
    let e : suc k ≡ k + 1 = omega arith in
    subst (λ n. RetriedTo script n cs (map f (slice_set ds k y))) e (retried-suc f script k cs ds d y h lt l r g)

may-retry : (script : Script) (d : Desk) → MayHaveRetried script d d
may-retry script d = inr refl

-- all had theirs
pub all-retried : (script : Script) (k : ℕ) (cs ds : List Crew) → length ds ≤ k → RetriedTo script k cs ds → AreRetried script cs ds
all-retried script k cs ds le h = record { later = later k cs ds le h; calm = λ e. calm k cs ds le h; some = some k cs ds le h; fault = fault k cs ds le h }
  where
    later : (k : ℕ) (cs ds : List Crew) → length ds ≤ k → RetriedTo script k cs ds → Both IsLaterCrew cs ds
    later k [] [] le h = tt
    later k [] (d ∷ ds) le h = absurd h
    later k (c ∷ cs) [] le h = absurd h
    later zero (c ∷ cs) (d ∷ ds) le h = absurd (omega (arith, le))
    later (suc k) (c ∷ cs) (d ∷ ds) le h = (h.0.later, later k cs ds (omega (arith, le)) h.1)

    calm : (k : ℕ) (cs ds : List Crew) → length ds ≤ k → RetriedTo script k cs ds
        → Both (λ (c c' : Crew). Both (HasRetried script) c.desks.items c'.desks.items) cs ds
    calm k [] [] le h = tt
    calm k [] (d ∷ ds) le h = absurd h
    calm k (c ∷ cs) [] le h = absurd h
    calm zero (c ∷ cs) (d ∷ ds) le h = absurd (omega (arith, le))
    calm (suc k) (c ∷ cs) (d ∷ ds) le h = (h.0.retried.calm h.0.calm, calm k cs ds (omega (arith, le)) h.1)

    some : (k : ℕ) (cs ds : List Crew) → length ds ≤ k → RetriedTo script k cs ds
        → Both (λ (c c' : Crew). Both (MayHaveRetried script) c.desks.items c'.desks.items) cs ds
    some k [] [] le h = tt
    some k [] (d ∷ ds) le h = absurd h
    some k (c ∷ cs) [] le h = absurd h
    some zero (c ∷ cs) (d ∷ ds) le h = absurd (omega (arith, le))
    some (suc k) (c ∷ cs) (d ∷ ds) le h = (h.0.retried.some, some k cs ds (omega (arith, le)) h.1)

    fault : (k : ℕ) (cs ds : List Crew) → length ds ≤ k → RetriedTo script k cs ds
        → Both (λ (c c' : Crew). c.fault ≡ None → HasFaultSince script c.desks.items c') cs ds
    fault k [] [] le h = tt
    fault k [] (d ∷ ds) le h = absurd h
    fault k (c ∷ cs) [] le h = absurd h
    fault zero (c ∷ cs) (d ∷ ds) le h = absurd (omega (arith, le))
    fault (suc k) (c ∷ cs) (d ∷ ds) le h = (h.0.retried.fault, fault k cs ds (omega (arith, le)) h.1)

-- the driver of number k met a fault
pub retried-part : {D : Type 0} (f : D → Crew) (script : Script) (k : ℕ) (cs : List Crew) (ds : List D) (d y : D)
    → RetriedTo script k cs (map f ds) → k < length ds
    → IsLaterCrew (f (slice_index_or ds k d)) (f y) → HaveRetried script (f (slice_index_or ds k d)) (f y)
    → ((f y).fault ≡ None → ⊥) → AreRetried script cs (map f (slice_set ds k y))
retried-part {D} f script k cs ds d y h lt l r g =
    record {
      later = later k cs ds h lt l;
      calm = λ a. absurd (faulty k ds lt a);
      some = some k cs ds h lt r.some;
      fault = fault k cs ds h lt r.fault;
    }
  where
    faulty : (k : ℕ) (ds : List D) → k < length ds → AllByRecursion (λ (x : Crew). x.fault ≡ None) (map f (slice_set ds k y)) → ⊥
    faulty k [] lt a = omega (arith, lt)
    faulty zero (u ∷ ds) lt a = g a.0
    faulty (suc k) (u ∷ ds) lt a = faulty k ds (omega (arith, lt)) a.1

    same-later : (cs : List Crew) (ds : List D) → RetriedTo script 0 cs (map f ds) → Both IsLaterCrew cs (map f ds)
    same-later [] [] h = tt
    same-later [] (u ∷ ds) h = absurd h
    same-later (x ∷ cs) [] h = absurd h
    same-later (x ∷ cs) (u ∷ ds) h = (subst (λ v. IsLaterCrew x v) (sym h.0) (crew-refl x), same-later cs ds h.1)

    later : (k : ℕ) (cs : List Crew) (ds : List D) → RetriedTo script k cs (map f ds) → k < length ds
        → IsLaterCrew (f (slice_index_or ds k d)) (f y) → Both IsLaterCrew cs (map f (slice_set ds k y))
    later k [] [] h lt l = absurd (omega (arith, lt))
    later k [] (u ∷ ds) h lt l = absurd h
    later k (x ∷ cs) [] h lt l = absurd h
    later zero (x ∷ cs) (u ∷ ds) h lt l = (subst (λ v. IsLaterCrew v (f y)) h.0 l, same-later cs ds h.1)
    later (suc k) (x ∷ cs) (u ∷ ds) h lt l = (h.0.later, later k cs ds h.1 (omega (arith, lt)) l)

    same-some : (cs : List Crew) (ds : List D) → RetriedTo script 0 cs (map f ds)
        → Both (λ (u v : Crew). Both (MayHaveRetried script) u.desks.items v.desks.items) cs (map f ds)
    same-some [] [] h = tt
    same-some [] (u ∷ ds) h = absurd h
    same-some (x ∷ cs) [] h = absurd h
    same-some (x ∷ cs) (u ∷ ds) h = (
      subst (λ (v : Crew). Both (MayHaveRetried script) x.desks.items v.desks.items) (sym h.0)
          (both-refl (MayHaveRetried script) (may-retry script) x.desks.items),
      same-some cs ds h.1,
    )

    some : (k : ℕ) (cs : List Crew) (ds : List D) → RetriedTo script k cs (map f ds) → k < length ds
        → Both (MayHaveRetried script) (f (slice_index_or ds k d)).desks.items (f y).desks.items
        → Both (λ (u v : Crew). Both (MayHaveRetried script) u.desks.items v.desks.items) cs (map f (slice_set ds k y))
    some k [] [] h lt m = absurd (omega (arith, lt))
    some k [] (u ∷ ds) h lt m = absurd h
    some k (x ∷ cs) [] h lt m = absurd h
    some zero (x ∷ cs) (u ∷ ds) h lt m = (subst (λ (v : Crew). Both (MayHaveRetried script) v.desks.items (f y).desks.items) h.0 m, same-some cs ds h.1)
    some (suc k) (x ∷ cs) (u ∷ ds) h lt m = (h.0.retried.some, some k cs ds h.1 (omega (arith, lt)) m)

    same-fault : (cs : List Crew) (ds : List D) → RetriedTo script 0 cs (map f ds)
        → Both (λ (u v : Crew). u.fault ≡ None → HasFaultSince script u.desks.items v) cs (map f ds)
    same-fault [] [] h = tt
    same-fault [] (u ∷ ds) h = absurd h
    same-fault (x ∷ cs) [] h = absurd h
    same-fault (x ∷ cs) (u ∷ ds) h = ((λ e. inl (ap (λ (v : Crew). v.fault) h.0 ∙ e)), same-fault cs ds h.1)

    fault : (k : ℕ) (cs : List Crew) (ds : List D) → RetriedTo script k cs (map f ds) → k < length ds
        → ((f (slice_index_or ds k d)).fault ≡ None → HasFaultSince script (f (slice_index_or ds k d)).desks.items (f y))
        → Both (λ (u v : Crew). u.fault ≡ None → HasFaultSince script u.desks.items v) cs (map f (slice_set ds k y))
    fault k [] [] h lt m = absurd (omega (arith, lt))
    fault k [] (u ∷ ds) h lt m = absurd h
    fault k (x ∷ cs) [] h lt m = absurd h
    fault zero (x ∷ cs) (u ∷ ds) h lt m = (subst (λ (v : Crew). v.fault ≡ None → HasFaultSince script v.desks.items (f y)) h.0 m, same-fault cs ds h.1)
    fault (suc k) (x ∷ cs) (u ∷ ds) h lt m = (h.0.retried.fault, fault k cs ds h.1 (omega (arith, lt)) m)

-- the crews after a retry of one of them stay crews
pub stay-next : {D : Type 0} (f : D → Crew) (script : Script) (clock : TableId) (boxes : List Boxed) (cs : List Crew)
    (ds : List D) (k : ℕ) (d y : D) → StayCrews script clock boxes cs (map f ds)
    → StaysCrew script clock boxes (f (slice_index_or ds k d)) (f y) → StayCrews script clock boxes cs (map f (slice_set ds k y))
stay-next f script clock boxes cs ds k d y h s =
    stay-trans script clock boxes cs (map f ds) (map f (slice_set ds k y)) h (both-put-map f (StaysCrew script clock boxes) (λ c w i. i) ds k d y s)

-- whether a fault was met
pub no-fault : (o : Option Fault) → is_some o ≡ false → o ≡ None
no-fault None e = refl
no-fault (Some f) e = absurd (true≢false e)

pub some-fault : (o : Option Fault) → is_some o ≡ true → o ≡ None → ⊥
some-fault None e n = true≢false (sym e)
some-fault (Some f) e n = cc

-- drivers that didn't change kept their course
pub course-same : {D : Type 0} (f : D → Crew) (script : Script) (clock : TableId) (boxes : List Boxed) (w : ℕ) (start : List Crew) (xs ys : List D) → ys ≡ xs
    → ((cuts : List (List Crew)) × IsCourse script clock boxes w start cuts (map f xs)) → (cuts : List (List Crew))
    × IsCourse script clock boxes w start cuts (map f ys)
course-same f script clock boxes w start xs ys e k = subst (λ l. (cuts : List (List Crew)) × IsCourse script clock boxes w start cuts (map f l)) (sym e) k
