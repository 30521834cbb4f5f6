-- What a course tells: the crews at its cuts are earlier ones, and each retry comes first after a cut.
use Rattle.std.proofs.Common.{◌≡◌, ℕ, ◌+◌, ◌<◌, ◌≤◌, ◌⊎◌, inl, inr, ⊎_elim, true, false, List, [], ◌∷◌, map, length}
use Rattle.std.proofs.Common.{Option, Some, None, slice_get, refl, ap, sym, subst, ◌∙◌, arith, length-append}
use Rattle.std.proofs.Common.{true≢false}
use Rattle.std.specs.List.{AllByRecursion}
use Rattle.atomic_table.specs.Seated.{TableId}
use Rattle.hx_model.specs.Types.{Actor, Script}
use Rattle.hx_types.specs.Words.{IsIn}
use Rattle.hx_clock.specs.declared.parts.Stamped.{Stamped}
use Rattle.hx_clock.proofs.Lemmas.{each_in, each_map, get-below}
use Rattle.hx_law_threads.specs.Cuts.{is_retry, is_waiting}
use Rattle.hx_law_threads.specs.Pacing.{AreRising}
use Rattle.hx_mail.specs.Boxes.{Boxed}
use Rattle.hx_outbox.specs.Zipped.{Both}
use Rattle.hx_driver.specs.declared.desks.Desk.{Desk}
use Rattle.hx_driver.specs.declared.faults.Fault.{Fault}
use Rattle.hx_driver.specs.declared.faults.Fault.TheVariants.{Memory, Worn}
use Rattle.hx_driver.specs.Desks.{entries_before, HasNoRetry, HasRetried, IsLater}
use Rattle.hx_driver.specs.declared.crews.Crew.{Crew}
use Rattle.hx_driver.specs.Crews.{HasFault, HasWorn}
use Rattle.hx_driver.specs.Slices.{HasFaultSince, HasWornSince, IsLaterCrew, MayHaveRetried}
use Rattle.hx_law_drivers.specs.Courses.{AreSliced, IsCourse, IsCutAt, AreRetried, IsSliced}
use Rattle.hx_law_drivers.specs.Crews.{cut_of, desks_of}
use Rattle.hx_law_drivers.specs.Laws.{IsWornAt}
use Rattle.hx_law_drivers.proofs.Lists.{both_and, both_back, both_map, both_then, bool_cases, in_flat, lt_or_le, prefix_get, snoc_get}
use Rattle.hx_law_drivers.proofs.Desks.{calm_before, fewer_before, later_crews, later_desks, of_desks, AreCalm, AreLater}

-- the only worn actor of a fault is the one that it names
worn_same : (o : Option Fault) (a b : Actor) → o ≡ Some (Worn a) → o ≡ Some (Worn b) → a ≡ b
worn_same o a b e k = cc

not_none : (o : Option Fault) (a : Actor) → o ≡ Some (Worn a) → o ≡ None → ⊥
not_none o a e k = cc

not_memory : (o : Option Fault) (a : Actor) → o ≡ Some (Worn a) → o ≡ Some Memory → ⊥
not_memory o a e k = cc

module _ (script : Script) where
  sliced_later : (xs ys : List Crew) → AreSliced script xs ys → AreLater xs ys
  sliced_later xs ys h = both_map (IsSliced script) IsLaterCrew (λ x y k. k.later) xs ys h

  sliced_desks : (xs ys : List Crew) → AreSliced script xs ys → Both HasNoRetry (desks_of xs) (desks_of ys)
  sliced_desks xs ys h = of_desks (IsSliced script) HasNoRetry (λ x y k. k.retries.desks) xs ys h

  retried_desks : (xs ys : List Crew) → AreRetried script xs ys → Both (MayHaveRetried script) (desks_of xs) (desks_of ys)
  retried_desks xs ys h = of_desks (λ (c c' : Crew). Both (MayHaveRetried script) c.desks.items c'.desks.items)
      (MayHaveRetried script) (λ x y k. k) xs ys h.some

  calm_retried : (xs ys : List Crew) → AreRetried script xs ys → AreCalm ys → Both (HasRetried script) (desks_of xs) (desks_of ys)
  calm_retried xs ys h calm = of_desks (λ (c c' : Crew). Both (HasRetried script) c.desks.items c'.desks.items)
      (HasRetried script) (λ x y k. k) xs ys (h.calm calm)

  -- the same desk before slices, and before a retry
  sliced_back : (xs ys : List Crew) (e : Desk) → AreSliced script xs ys → IsIn e (desks_of ys) → (d : Desk)
      × IsIn d (desks_of xs) × (IsLater d e × HasNoRetry d e)
  sliced_back xs ys e h i =
      both_back (λ d e. IsLater d e × HasNoRetry d e) (desks_of xs) (desks_of ys) e
      (both_and IsLater HasNoRetry (desks_of xs) (desks_of ys) (later_desks xs ys (sliced_later xs ys h)) (sliced_desks xs ys h)) i

  retried_back : (xs ys : List Crew) (e : Desk) → AreRetried script xs ys → IsIn e (desks_of ys) → (d : Desk)
      × IsIn d (desks_of xs) × (IsLater d e × MayHaveRetried script d e)
  retried_back xs ys e h i =
      both_back (λ d e. IsLater d e × MayHaveRetried script d e) (desks_of xs) (desks_of ys) e
      (both_and IsLater (MayHaveRetried script) (desks_of xs) (desks_of ys) (later_desks xs ys h.later) (retried_desks xs ys h)) i

  -- a retry adds at most one entry
  one_more : (d m : Desk) → MayHaveRetried script d m → length m.part.items ≤ length d.part.items + 1
  one_more d m (inr same) = omega (arith, ap length same)
  one_more d m (inl retried) =
      ⊎_elim
      (λ (t : is_waiting script (entries_before d.part.items) d.actor ≡ true). let x = retried.waiting t in
      omega (arith, ap length x.2, length-append d.part.items (x.0 ∷ [])))
      (λ (t : is_waiting script (entries_before d.part.items) d.actor ≡ false). omega
      (arith, ap length (retried.other t))) (bool_cases (is_waiting script (entries_before d.part.items) d.actor))

  -- if the actor waited, its next entry is a retry
  abbrev pub RetriesNext : Desk → Desk → Type 0
  RetriesNext d e =
      is_waiting script (entries_before d.part.items) d.actor ≡ true → (x : Stamped)
      × (slice_get e.part.items (length d.part.items) ≡ Some x) × (is_retry x.entry ≡ true)

  next_retried : (d m e : Desk) → HasRetried script d m → IsLater m e → RetriesNext d e
  next_retried d m e retried later t =
      let x = retried.waiting t in
      let long : length d.part.items < length m.part.items = omega (arith, ap length x.2, length-append d.part.items (x.0 ∷ [])) in (
        x.0,
        prefix_get m.part.items e.part.items (length d.part.items) later.part long
            ∙ ap (λ l. slice_get l (length d.part.items)) x.2 ∙ snoc_get d.part.items x.0,
        x.1,
      )

  next_later : (d m e : Desk) → RetriesNext d m → IsLater m e → RetriesNext d e
  next_later d m e next later t =
      let x = next t in
      (x.0, prefix_get m.part.items e.part.items (length d.part.items) later.part (get-below m.part.items (length d.part.items) x.0 x.1) ∙ x.1, x.2)

  module _ (clock : TableId) (boxes : List Boxed) (w : ℕ) where
    -- the crews at a cut are those before the next one
    pub cut_later : (start cut : List Crew) (older : List (List Crew)) (now : List Crew)
        → IsCourse script clock boxes w start (cut ∷ older) now → AreLater cut now
    cut_later start cut older now h = later_crews cut h.2.0 now h.2.1.later (sliced_later h.2.0 now h.2.2)

    pub start_later : (start : List Crew) (cuts : List (List Crew)) (now : List Crew) → IsCourse script clock boxes w start cuts now → AreLater start now
    start_later start [] now h = sliced_later start now h
    start_later start (cut ∷ older) now h = later_crews start cut now (start_later start older cut h.1) (cut_later start cut older now h)

    pub cuts_later : (start : List Crew) (cuts : List (List Crew)) (now : List Crew)
        → IsCourse script clock boxes w start cuts now → AllByRecursion (λ (cut : List Crew). AreLater cut now) cuts
    cuts_later start [] now h = tt
    cuts_later start (cut ∷ older) now h =
        let l = cut_later start cut older now h in (
          l,
          each_map (λ (k : List Crew). AreLater k cut) (λ (k : List Crew). AreLater k now) older
              (λ k i b. later_crews k cut now b l) (cuts_later start older cut h.1),
        )

    pub cuts_since : (start : List Crew) (cuts : List (List Crew)) (now : List Crew)
        → IsCourse script clock boxes w start cuts now → AllByRecursion (λ (cut : List Crew). AreLater start cut) cuts
    cuts_since start [] now h = tt
    cuts_since start (cut ∷ older) now h = (start_later start older cut h.1, cuts_since start older cut h.1)

    pub cuts_are : (start : List Crew) (cuts : List (List Crew)) (now : List Crew)
        → IsCourse script clock boxes w start cuts now → AllByRecursion (IsCutAt script clock boxes w) cuts
    cuts_are start [] now h = tt
    cuts_are start (cut ∷ older) now h = (h.0, cuts_are start older cut h.1)

    pub cuts_rise : (start : List Crew) (cuts : List (List Crew)) (now : List Crew) → IsCourse script clock boxes w start cuts now → AreRising (map cut_of cuts)
    cuts_rise start [] now h = tt
    cuts_rise start (cut ∷ []) now h = tt
    cuts_rise start (cut ∷ before ∷ older) now h = (
      (λ a. fewer_before (desks_of before) (desks_of cut)
          (later_desks before cut (cut_later start before older cut h.1)) a),
      cuts_rise start (before ∷ older) cut h.1,
    )

    next_on : (k cut now : List Crew) → AreLater cut now → Both RetriesNext (desks_of k) (desks_of cut) → Both RetriesNext (desks_of k) (desks_of now)
    next_on k cut now l b = both_then RetriesNext IsLater RetriesNext next_later (desks_of k) (desks_of cut) (desks_of now) b (later_desks cut now l)

    -- after the cuts of a course those retry next who waited there, if no driver met a fault by its end
    pub waiters_retry : (start : List Crew) (cuts : List (List Crew)) (now : List Crew) → IsCourse script clock boxes w start cuts now → AreCalm now
        → AllByRecursion (λ (cut : List Crew). Both RetriesNext (desks_of cut) (desks_of now)) cuts
    waiters_retry start [] now h calm = tt
    waiters_retry start (cut ∷ older) now h calm =
        let mid = h.2.0 in
        let on = sliced_later mid now h.2.2 in
        let here = both_then (HasRetried script) IsLater RetriesNext next_retried (desks_of cut) (desks_of mid)
        (desks_of now) (calm_retried cut mid h.2.1 (calm_before mid now on calm)) (later_desks mid now on) in (
          here,
          each_map (λ (k : List Crew). Both RetriesNext (desks_of k) (desks_of cut)) (λ (k : List Crew). Both RetriesNext (desks_of k) (desks_of now)) older
              (λ k i b. next_on k cut now (cut_later start cut older now h) b) (waiters_retry start older cut h.1 h.0.rest.calm),
        )

    -- and after each cut but the last one in any case
    pub earlier_retry : (start cut : List Crew) (older : List (List Crew)) (now : List Crew) → IsCourse script clock boxes w start (cut ∷ older) now
        → AllByRecursion (λ (k : List Crew). Both RetriesNext (desks_of k) (desks_of now)) older
    earlier_retry start cut older now h =
        each_map (λ (k : List Crew). Both RetriesNext (desks_of k) (desks_of cut)) (λ (k : List Crew). Both RetriesNext (desks_of k) (desks_of now)) older
        (λ k i b. next_on k cut now (cut_later start cut older now h) b) (waiters_retry start older cut h.1 h.0.rest.calm)

    -- each retry is its actor's first entry after a cut
    pub retries_follow : (start : List Crew) (cuts : List (List Crew)) (now : List Crew) → ((d : Desk) → IsIn d (desks_of start) → d.part.items ≡ [])
        → IsCourse script clock boxes w start cuts now → (e : Desk) → IsIn e (desks_of now) → (n : ℕ) (x : Stamped)
        → slice_get e.part.items n ≡ Some x → is_retry x.entry ≡ true
        → (cut : List Crew) × IsIn cut cuts × ((d : Desk) × IsIn d (desks_of cut) × (e.actor ≡ d.actor) × (length d.part.items ≡ n))
    retries_follow start [] now new h e i n x at retry =
        let b = sliced_back start now e h i in
        absurd (true≢false (sym retry ∙ b.2.1 n x (subst (λ l. length l ≤ n) (sym (new b.0 b.1)) (omega arith)) at))
    retries_follow start (cut ∷ older) now new h e i n x at retry =
        let mid = h.2.0 in
        let m = sliced_back mid now e h.2.2 i in
        let d = retried_back cut mid m.0 h.2.1 m.1 in
        let same : e.actor ≡ d.0.actor = m.2.0.actor ∙ d.2.0.actor in
        ⊎_elim
        (λ (lt : n < length m.0.part.items).
        let in_mid : slice_get m.0.part.items n ≡ Some x = sym (prefix_get m.0.part.items e.part.items n m.2.0.part lt) ∙ at in
        ⊎_elim
        (λ (before : n < length d.0.part.items).
        let r = retries_follow start older cut new h.1 d.0 d.1 n x (sym (prefix_get d.0.part.items m.0.part.items n d.2.0.part before) ∙ in_mid) retry in
        (r.0, inr r.1, (r.2.0, r.2.1, same ∙ r.2.2, r.2.3)))
        (λ (ge : length d.0.part.items ≤ n). (
          cut,
          inl refl,
          (d.0, d.1, same, omega (arith, ge, lt, one_more d.0 m.0 d.2.1)),
        )) (lt_or_le n (length d.0.part.items)))
        (λ (ge : length m.0.part.items ≤ n). absurd (true≢false (sym retry ∙ m.2.1 n x ge at))) (lt_or_le n (length m.0.part.items))

    -- an actor that is worn after a turn has no retry to make
    worn_in_turn : (cuts : List (List Crew)) (c : Crew) (a : Actor) → HasFault script false c → c.fault ≡ Some (Worn a) → IsWornAt script cuts c a
    worn_in_turn cuts c a h e =
        ⊎_elim (λ (n : c.fault ≡ None). absurd (not_none c.fault a e n))
        (λ (r : (c.fault ≡ Some Memory) ⊎ HasWorn script false c).
        ⊎_elim (λ (m : c.fault ≡ Some Memory). absurd (not_memory c.fault a e m))
        (λ (k : HasWorn script false c). record {
          desk = k.desk;
          is = k.is;
          actor = worn_same c.fault k.desk.actor a k.fault e;
          most = k.most;
          retry = false;
          more = k.more;
          due = λ t. absurd (true≢false (sym t));
        }) r) h

    -- one that is worn after a retry has that retry to make
    worn_in_retry : (cut : List Crew) (older : List (List Crew)) (before c : Crew) (a : Actor) → IsIn before cut
        → HasWornSince script before.desks.items c → c.fault ≡ Some (Worn a)
        → IsWornAt script (cut ∷ older) c a
    worn_in_retry cut older before c a i k e = record {
      desk = k.worn.desk;
      is = k.worn.is;
      actor = worn_same c.fault k.worn.desk.actor a k.worn.fault e;
      most = k.worn.most;
      retry = true;
      more = k.worn.more;
      due = λ t. (cut, inl refl, (k.desk, in_flat (λ (x : Crew). x.desks.items) cut before k.desk i k.was, k.actor, ap length (sym k.part)));
    }

    -- an actor that is worn at the end of a course has a retry to make only where it made nothing since a cut
    pub worn_due : (start : List Crew) (cuts : List (List Crew)) (now : List Crew) → AreCalm start → IsCourse script clock boxes w start cuts now
        → (c : Crew) → IsIn c now → (a : Actor) → c.fault ≡ Some (Worn a) → IsWornAt script cuts c a
    worn_due start [] now calm h c i a e =
        let b = both_back (IsSliced script) start now c h i in
        worn_in_turn [] c a (b.2.retries.fault (each_in (λ (x : Crew). x.fault ≡ None) start b.0 calm b.1)) e
    worn_due start (cut ∷ older) now calm h c i a e =
        let mid = h.2.0 in
        let m = both_back (IsSliced script) mid now c h.2.2 i in
        let d = both_back (λ (x y : Crew). x.fault ≡ None → HasFaultSince script x.desks.items y) cut mid m.0 h.2.1.fault m.1 in
        let since = d.2 (each_in (λ (x : Crew). x.fault ≡ None) cut d.0 h.0.rest.calm d.1) in
        ⊎_elim (λ (n : m.0.fault ≡ None). worn_in_turn (cut ∷ older) c a (m.2.retries.fault n) e)
        (λ (r : (m.0.fault ≡ Some Memory) ⊎ HasWornSince script d.0.desks.items m.0).
        ⊎_elim (λ (k : m.0.fault ≡ Some Memory). absurd (not_memory c.fault a e (ap (λ (x : Crew). x.fault) (m.2.later.stays Memory k) ∙ k)))
        (λ (k : HasWornSince script d.0.desks.items m.0).
        let same : c ≡ m.0 = m.2.later.stays (Worn k.worn.desk.actor) k.worn.fault in
        subst (λ (x : Crew). IsWornAt script (cut ∷ older) x a) (sym same)
        (worn_in_retry cut older d.0 m.0 a d.1 k (ap (λ (x : Crew). x.fault) (sym same) ∙ e))) r) since
