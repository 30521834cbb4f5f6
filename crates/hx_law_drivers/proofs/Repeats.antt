-- What was delivered was put, and what was put was offered: so few posts are delivered twice.
use Rattle.std.proofs.Common.{◌≡◌, ◌≢◌, ℕ, ◌+◌, ◌*◌, ◌≤◌, ⊎_elim, true, false, eqb, List, [], ◌∷◌, ◌++◌, map, length, refl, ap, sym, subst, ◌∙◌, arith}
use Rattle.std.specs.List.{AllByRecursion}
use Rattle.std.proofs.lemmas.Bool.Decides.{eqb_tells}
use Rattle.atomic_table.specs.Seated.{TableId}
use Rattle.hx_model.specs.Types.{Entry, PostId, Script}
use Rattle.hx_types.specs.Words.{IsIn}
use Rattle.hx_model.specs.Schedule.{names_from}
use Rattle.hx_clock.specs.Views.{one, total}
use Rattle.hx_clock.proofs.Lemmas.{each_all, each_append, each_in, each_map, total-append}
use Rattle.hx_law_threads.specs.Counting.{weight_delivered, weight_made}
use Rattle.hx_law_threads.specs.Cuts.{whole_of}
use Rattle.hx_law_threads.specs.Offers.{put_times, NoMoreCame, Offer as NamedOffer}
use Rattle.hx_law_threads.specs.Pacing.{AreRepeatedAtMost}
use Rattle.hx_law_threads.proofs.Lemmas.{repeats_put, posts_weigh}
use Rattle.hx_mail.specs.declared.views.Mailed.{Mailed}
use Rattle.hx_mail.specs.declared.views.Sent.{Sent}
use Rattle.hx_mail.specs.Boxes.{Boxed}
use Rattle.hx_outbox.specs.Offers.{count_of, IsFair, Offer}
use Rattle.hx_driver.specs.declared.desks.Desk.{Desk}
use Rattle.hx_driver.specs.Inboxes.{ins_of}
use Rattle.hx_driver.specs.Desks.{made_by, told}
use Rattle.hx_driver.specs.Told.{told_by}
use Rattle.hx_driver.specs.declared.crews.Crew.{Crew}
use Rattle.hx_driver.specs.Crews.{made_weight, IsCrew, IsDeskOf}
use Rattle.hx_law_drivers.specs.Crews.{desks_of, doubled_by}
use Rattle.hx_law_drivers.specs.Joined.{put_total, taken_weight, AreOnce}
use Rattle.hx_law_drivers.proofs.Lists.{each_of_map, of_flat, total_of_flat, total_of_map, total_under, total_under_by}
use Rattle.hx_law_drivers.proofs.Longer.{one_more_added}
use Rattle.hx_law_drivers.proofs.Seen.{by_name, seen_delivered, seen_posted, told_one, IsSeen}

-- an offer, by the name of its post
abbrev by_its_name : Offer → NamedOffer
by_its_name o = record { post = o.mailed.id; times = o.times }

eqb_swap : (a b : ℕ) → one (eqb a b) ≡ one (eqb b a)
eqb_swap a b =
    ⊎_elim
    (λ (h : (eqb a b ≡ true) × (a ≡ b)). ⊎_elim (λ (k : (eqb b a ≡ true) × (b ≡ a)). ap one (h.0 ∙ sym k.0))
    (λ (k : (eqb b a ≡ false) × (b ≢ a)). absurd (k.1 (sym h.1))) (eqb_tells b a))
    (λ (h : (eqb a b ≡ false) × (a ≢ b)). ⊎_elim (λ (k : (eqb b a ≡ true) × (b ≡ a)). absurd (h.1 (sym k.1)))
    (λ (k : (eqb b a ≡ false) × (b ≢ a)). ap one (h.0 ∙ sym k.0)) (eqb_tells b a))
    (eqb_tells a b)

counted : (os : List Offer) → put_times 2 (map by_its_name os) ≡ count_of 2 os
counted [] = refl
counted (o ∷ os) = omega (arith, eqb_swap o.times 2, counted os)

-- what was posted and not put
abbrev not_put : PostId → NamedOffer
not_put id = record { post = id; times = 0 }

not_doubled : (ids : List PostId) → put_times 2 (map not_put ids) ≡ 0
not_doubled [] = refl
not_doubled (id ∷ ids) = omega (arith, not_doubled ids)

module _ (script : Script) (clock : TableId) (boxes : List Boxed) (w : ℕ) where
  -- all that the crews offered
  offers_of : (crews : List Crew) → AllByRecursion (IsCrew script clock boxes w) crews → List NamedOffer
  offers_of [] h = []
  offers_of (c ∷ crews) h = map by_its_name h.0.booked.offered.offers ++ offers_of crews h.1

  offers_weigh : (h : PostId → ℕ) (crews : List Crew) (k : AllByRecursion (IsCrew script clock boxes w) crews)
      → total (λ (o : NamedOffer). h o.post) (offers_of crews k) ≡ total (λ (c : Crew). made_weight (by_name h) c.desks.items) crews
  unfolding offers_of
  offers_weigh h [] k = refl
  offers_weigh h (c ∷ crews) k =
      let b = k.0.booked in
      let os = b.offered.offers in
      omega (
        arith,
        total-append (λ (o : NamedOffer). h o.post) (map by_its_name os) (offers_of crews k.1),
        total_of_map by_its_name (λ (o : NamedOffer). h o.post) os,
        total_of_map (λ (o : Offer). o.mailed) (by_name h) os,
        ap (total (by_name h)) b.offered.are,
        b.made (by_name h),
        offers_weigh h crews k.1,
      )

  offers_twice : (crews : List Crew) (k : AllByRecursion (IsCrew script clock boxes w) crews)
      → AllByRecursion (λ (o : NamedOffer). o.times ≤ 2) (offers_of crews k)
  unfolding offers_of
  offers_twice [] k = tt
  offers_twice (c ∷ crews) k =
      let b = k.0.booked.offered in
      each_append (λ (o : NamedOffer). o.times ≤ 2) (map by_its_name b.offers) (offers_of crews k.1)
      (each_of_map by_its_name (λ (o : NamedOffer). o.times ≤ 2) b.offers
      (each_map IsFair (λ (o : Offer). o.times ≤ 2) b.offers (λ o i f. f.few) b.fair)) (offers_twice crews k.1)

  offers_put : (h : PostId → ℕ) (crews : List Crew) (k : AllByRecursion (IsCrew script clock boxes w) crews)
      → put_total (by_name h) crews ≤ total (λ (o : NamedOffer). o.times * h o.post) (offers_of crews k)
  unfolding offers_of
  offers_put h [] k = omega arith
  offers_put h (c ∷ crews) k =
      let b = k.0.booked.offered in
      omega (
        arith,
        total-append (λ (o : NamedOffer). o.times * h o.post) (map by_its_name b.offers) (offers_of crews k.1),
        total_of_map by_its_name (λ (o : NamedOffer). o.times * h o.post) b.offers,
        b.put (by_name h),
        offers_put h crews k.1,
      )

  offers_doubled : (crews : List Crew) (k : AllByRecursion (IsCrew script clock boxes w) crews) → put_times 2 (offers_of crews k) ≡ doubled_by crews
  unfolding offers_of
  offers_doubled [] k = refl
  offers_doubled (c ∷ crews) k =
      let b = k.0.booked.offered in
      let twice = b.twice in
      omega (
        arith,
        total-append (λ (o : NamedOffer). one (eqb o.times 2)) (map by_its_name b.offers) (offers_of crews k.1),
        counted b.offers,
        twice,
        offers_doubled crews k.1,
      )

  -- what a desk was told it took
  told_of : (h : Mailed → ℕ) (crews : List Crew) → AllByRecursion (IsCrew script clock boxes w) crews → (d : Desk) → IsIn d (desks_of crews)
      → total h (told d.part.items) ≤ total h (map (λ (s : Sent). s.mailed) (ins_of d.inbox))
  told_of h crews k d i =
      let c = of_flat (λ (x : Crew). x.desks.items) crews d i in
      let b = (each_in (IsDeskOf script clock boxes w c.0) c.0.desks.items d (each_in (IsCrew script clock boxes w) crews c.0 k c.1).desks c.2).broken in
      omega (arith, ap (total h) b.desk.told, total-append h (told d.part.items) b.rest)

  told_taken : (h : Mailed → ℕ) (crews : List Crew) → AllByRecursion (IsCrew script clock boxes w) crews
      → total (λ (d : Desk). total h (told d.part.items)) (desks_of crews) ≤ taken_weight h crews
  told_taken h crews k =
      total_under (λ (d : Desk). total h (told d.part.items))
      (λ (d : Desk). total h (map (λ (s : Sent). s.mailed) (ins_of d.inbox))) (desks_of crews) (told_of h crews k)

  -- and with it what one more entry of a desk's actor delivers
  told_more : (h : Mailed → ℕ) (crews : List Crew) → AllByRecursion (IsCrew script clock boxes w) crews → (d : Desk)
      → IsIn d (desks_of crews) → (ms : List Mailed)
      → told d.part.items ++ ms ≡ map (λ (s : Sent). s.mailed) (ins_of d.inbox)
      → total (λ (d : Desk). total h (told d.part.items)) (desks_of crews) + total h ms ≤ taken_weight h crews
  told_more h crews k d i ms took =
      total_under_by (λ (d : Desk). total h (told d.part.items))
      (λ (d : Desk). total h (map (λ (s : Sent). s.mailed) (ins_of d.inbox))) (total h ms) (desks_of crews) d i
      (told_of h crews k)
      (omega (arith, ap (total h) took, total-append h (told d.part.items) ms))

  pub repeats_few : (now : List Crew) → AllByRecursion (IsCrew script clock boxes w) now → AreOnce now
      → (trace : List Entry) → IsSeen trace (whole_of trace) (desks_of now) → AreRepeatedAtMost trace (doubled_by now)
  repeats_few now k once trace seen =
      let offers = offers_of now k in
      let came : NoMoreCame trace offers =
      record {
        offered = λ h.
            seen_posted trace (whole_of trace) (desks_of now) seen h
            ∙ total_of_flat (λ (c : Crew). c.desks.items)
            (λ (d : Desk). total (by_name h) (made_by d.part.items)) now ∙ sym (offers_weigh h now k);
        twice = offers_twice now k;
        came = λ h. omega (
          arith,
          seen_delivered trace (whole_of trace) (desks_of now) seen h,
          told_taken (by_name h) now k,
          once (by_name h),
          offers_put h now k,
        );
      } in
      subst (AreRepeatedAtMost trace) (offers_doubled now k) (repeats_put trace offers came)

  -- with one more entry of a desk's actor, of what was taken for it, no more posts come twice; what it posts nobody put yet
  pub repeats_on : (now : List Crew) → AllByRecursion (IsCrew script clock boxes w) now → AreOnce now
      → (trace : List Entry) → IsSeen trace (whole_of trace) (desks_of now)
      → (x : Entry) (d : Desk) → IsIn d (desks_of now)
      → told d.part.items ++ told_by d.actor x.input ≡ map (λ (s : Sent). s.mailed) (ins_of d.inbox)
      → AreRepeatedAtMost (x ∷ trace) (doubled_by now)
  repeats_on now k once trace seen x d i took =
      let offers = offers_of now k in
      let ids = names_from (length trace + 1) 0 x.outputs in
      let rest = map not_put ids in
      let whole = whole_of (x ∷ trace) in
      let came : NoMoreCame (x ∷ trace) (offers ++ rest) =
      record {
        offered = λ h.
            omega (
              arith,
              (posts_weigh h whole (x ∷ trace)).made,
              one_more_added x trace (weight_made h),
              (posts_weigh h (whole_of trace) trace).made,
              seen_posted trace (whole_of trace) (desks_of now) seen h,
              total_of_flat (λ (c : Crew). c.desks.items) (λ (d : Desk). total (by_name h) (made_by d.part.items)) now,
              offers_weigh h now k,
              total-append (λ (o : NamedOffer). h o.post) offers rest,
              total_of_map not_put (λ (o : NamedOffer). h o.post) ids,
            );
        twice = each_append (λ (o : NamedOffer). o.times ≤ 2) offers rest (offers_twice now k)
            (each_of_map not_put (λ (o : NamedOffer). o.times ≤ 2) ids
            (each_all (λ (id : PostId). 0 ≤ 2) ids (λ id j. omega arith)));
        came = λ h.
            omega (
              arith,
              (posts_weigh h whole (x ∷ trace)).delivered,
              one_more_added x trace (weight_delivered h),
              (posts_weigh h (whole_of trace) trace).delivered,
              seen_delivered trace (whole_of trace) (desks_of now) seen h,
              told_one h d.actor x.input,
              told_more (by_name h) now k d i (told_by d.actor x.input) took,
              once (by_name h),
              offers_put h now k,
              total-append (λ (o : NamedOffer). o.times * h o.post) offers rest,
            );
      } in
      let doubled : put_times 2 (offers ++ rest) ≡ doubled_by now =
      omega (arith, total-append (λ (o : NamedOffer). one (eqb o.times 2)) offers rest, not_doubled ids, offers_doubled now k) in
      subst (AreRepeatedAtMost (x ∷ trace)) doubled (repeats_put (x ∷ trace) (offers ++ rest) came)
