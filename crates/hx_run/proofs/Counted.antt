-- What each driver's actors posted, counted in the merged trace.
use Rattle.std.proofs.Common.{◌≡◌, ◌≢◌, ℕ, zero, suc, ◌+◌, ◌%◌, ◌<◌, inl, inr, Bool, true, false, cond, List, [], ◌∷◌}
use Rattle.std.proofs.Common.{map, slice_get, Some, refl, ap, sym, subst, ◌∙◌, arith}
use Rattle.std.specs.Prelude.{reverse}
use Rattle.std.specs.List.{AllByRecursion}
use Rattle.std.proofs.lemmas.Bool.{eq-eqb}
use Rattle.hx_types.specs.declared.ids.Actor.{Actor}
use Rattle.hx_types.specs.declared.messages.Post.{Post}
use Rattle.hx_types.specs.declared.totals.Totals.{Totals}
use Rattle.hx_types.specs.declared.traces.Entry.{Entry}
use Rattle.hx_types.specs.declared.traces.Script.{Script}
use Rattle.hx_types.specs.Words.{IsIn}
use Rattle.hx_clock.specs.declared.parts.Stamped.{Stamped}
use Rattle.hx_clock.specs.Parts.{all_of}
use Rattle.hx_clock.specs.Views.{one, total}
use Rattle.hx_clock.proofs.Lemmas.{total-append}
use Rattle.hx_law_threads.specs.Merged.{parts_in, IsMerged}
use Rattle.hx_law_threads.specs.Own.{IsOwn}
use Rattle.hx_law_threads.proofs.Lemmas.{in_map, in_reverse, total_same}
use Rattle.hx_mail.specs.declared.views.Mailed.{Mailed}
use Rattle.hx_fate.specs.declared.fates.FateState.{FateState}
use Rattle.hx_outbox.specs.Offers.{asked_of, count_of, named, raised_by, Offer}
use Rattle.hx_outbox.specs.Places.{place_of}
use Rattle.hx_outbox.proofs.Lemmas.{total-one, offered-long}
use Rattle.hx_driver.specs.declared.desks.Desk.{Desk}
use Rattle.hx_driver.specs.Desks.{entries_before, made_by}
use Rattle.hx_driver.specs.declared.crews.Crew.{Crew}
use Rattle.hx_driver.specs.Crews.{made_weight, no_totals, IsBooked}
use Rattle.hx_law_drivers.specs.Crews.{desks_of, part_of, parts_of}
use Rattle.hx_run.specs.Closed.{HasPosted}
use Rattle.hx_run.specs.Ran.{is_any, is_asked, is_dealt, posts_by, HasRisen}
use Rattle.hx_run.proofs.Leaving.{total-map}
use Rattle.hx_run.proofs.Onces.{total-perm}
use Rattle.hx_run.proofs.Zipped.{no-eq, some-same}

own-actor : (script : Script) (a : Actor) (xs : List Entry) (x : Entry) → IsOwn script a xs → IsIn x xs → x.actor ≡ a
own-actor script a [] x o i = absurd i
own-actor script a (y ∷ xs) x o (inl e) = ap (λ (z : Entry). z.actor) e ∙ o.0.actor
own-actor script a (y ∷ xs) x o (inr i) = own-actor script a xs x o.1 i

-- an entry of an actor's part is the actor's
pub part-actor : (script : Script) (a : Actor) (part : List Stamped) (z : Stamped) → IsOwn script a (entries_before part) → IsIn z part → z.entry.actor ≡ a
part-actor script a part z o i = own-actor script a (entries_before part) z.entry o (in_map (λ (x : Stamped). x.entry) (reverse part) z (in_reverse part z i))

-- what entries count for, part by part
all-total : (f : Stamped → ℕ) (ds : List Desk) → total f (all_of (parts_in (map part_of ds))) ≡ total (λ (d : Desk). total f d.part.items) ds
all-total f [] = refl
all-total f (d ∷ ds) = omega (arith, total-append f d.part.items (all_of (parts_in (map part_of ds))), all-total f ds)

flat-total : (f : Desk → ℕ) (crews : List Crew) → total f (desks_of crews) ≡ total (λ (c : Crew). total f c.desks.items) crews
flat-total f [] = refl
flat-total f (c ∷ crews) = omega (arith, total-append f c.desks.items (desks_of crews), flat-total f crews)

zero-total : {A : Type 0} (f : A → ℕ) (xs : List A) → ((x : A) → IsIn x xs → f x ≡ 0) → total f xs ≡ 0
zero-total f [] h = refl
zero-total f (x ∷ xs) h = omega (arith, h x (inl refl), zero-total f xs (λ y i. h y (inr i)))

module _ (script : Script) (w : ℕ) where
  abbrev residue : Desk → ℕ
  residue d = place_of script.space d.actor % w

  -- the actors of the crews from number n on are theirs
  abbrev pub AreDealtFrom : ℕ → List Crew → Type 0
  AreDealtFrom n [] = ℕ
  AreDealtFrom n (c ∷ crews) = AllByRecursion (λ (d : Desk). residue d ≡ n) c.desks.items × AreDealtFrom (suc n) crews

  module _ (i : ℕ) (f : Desk → ℕ) where
    abbrev counted_one : Desk → ℕ
    counted_one d = cond (is_dealt script w i d.actor) (f d) 0

    all-one : (ds : List Desk) → AllByRecursion (λ (d : Desk). residue d ≡ i) ds → total counted_one ds ≡ total f ds
    all-one [] h = refl
    all-one (d ∷ ds) h = omega (arith, ap (λ b. cond b (f d) 0) (eq-eqb (residue d) i h.0), all-one ds h.1)

    none-one : (n : ℕ) (ds : List Desk) → n ≢ i → AllByRecursion (λ (d : Desk). residue d ≡ n) ds → total counted_one ds ≡ 0
    none-one n [] ne h = refl
    none-one n (d ∷ ds) ne h = omega (arith, ap (λ b. cond b (f d) 0) (no-eq (residue d) i (λ e. ne (sym h.0 ∙ e))), none-one n ds ne h.1)

    none-later : (n : ℕ) (crews : List Crew) → i < n → AreDealtFrom n crews → total (λ (c : Crew). total counted_one c.desks.items) crews ≡ 0
    none-later n [] lt h = refl
    none-later n (c ∷ crews) lt h = omega (
      arith,
      none-one n c.desks.items (λ e. absurd (omega (arith, e, lt))) h.0,
      none-later (suc n) crews (omega (arith, lt)) h.1,
    )

    pick : (k n : ℕ) (crews : List Crew) (c : Crew) → n + k ≡ i → AreDealtFrom n crews → slice_get crews k ≡ Some c
        → total (λ (c : Crew). total counted_one c.desks.items) crews ≡ total f c.desks.items
    pick k n [] c e h g = absurd cc
    pick zero n (x ∷ crews) c e h g =
        let same : x ≡ c = some-same x c g in
        let n-i : n ≡ i = omega (arith, e) in
        let here : total counted_one x.desks.items ≡ total f x.desks.items =
        all-one x.desks.items (subst (λ m. AllByRecursion (λ (d : Desk). residue d ≡ m) x.desks.items) n-i h.0) in
        omega (arith, here, none-later (suc n) crews (omega (arith, n-i)) h.1, ap (λ (y : Crew). total f y.desks.items) same)
    pick (suc k) n (x ∷ crews) c e h g =
        omega (arith, none-one n x.desks.items (λ z. absurd (omega (arith, z, e))) h.0, pick k (suc n) crews c (omega (arith, e)) h.1 g)

  -- how many posts an actor's entries made of which the test holds
  abbrev pub worth : (Post → Bool) → Desk → ℕ
  worth test d = total (λ (x : Stamped). total (λ (p : Post). one (test p)) x.entry.outputs) d.part.items

  abbrev IsOwnDesk : Desk → Type 0
  IsOwnDesk d = IsOwn script d.actor (entries_before d.part.items)

  desk-worth : (test : Post → Bool) (i : ℕ) (d : Desk) → IsOwnDesk d
      → total (λ (x : Stamped). cond (is_dealt script w i x.entry.actor)
      (total (λ (p : Post). one (test p)) x.entry.outputs) 0) d.part.items ≡ counted_one i (worth test) d
  desk-worth test i d o = by (is_dealt script w i d.actor) d.part.items (λ z j. ap (is_dealt script w i) (part-actor script d.actor d.part.items z o j))
    where
      by : (b : Bool) (xs : List Stamped) → ((z : Stamped) → IsIn z xs → is_dealt script w i z.entry.actor ≡ b)
          → total (λ (x : Stamped). cond (is_dealt script w i x.entry.actor)
          (total (λ (p : Post). one (test p)) x.entry.outputs) 0) xs
          ≡ cond b (total (λ (x : Stamped). total (λ (p : Post). one (test p)) x.entry.outputs) xs) 0
      by true xs h = total_same _ _ xs (λ z j. ap (λ b. cond b (total (λ (p : Post). one (test p)) z.entry.outputs) 0) (h z j))
      by false xs h = zero-total _ xs (λ z j. ap (λ b. cond b (total (λ (p : Post). one (test p)) z.entry.outputs) 0) (h z j))

  desks-worth : (test : Post → Bool) (i : ℕ) (ds : List Desk) → AllByRecursion IsOwnDesk ds
      → total (λ (d : Desk). total (λ (x : Stamped). cond (is_dealt script w i x.entry.actor)
      (total (λ (p : Post). one (test p)) x.entry.outputs) 0) d.part.items) ds ≡ total (counted_one i (worth test)) ds
  desks-worth test i [] h = refl
  desks-worth test i (d ∷ ds) h = omega (arith, desk-worth test i d h.0, desks-worth test i ds h.1)

  -- the posts of driver i's actors in the trace are those of its crew
  pub posts-of-crew : (test : Post → Bool) (crews : List Crew) (merged : List Stamped) (trace : List Entry)
      → IsMerged (parts_in (parts_of crews)) merged → trace ≡ map (λ (x : Stamped). x.entry) merged
      → AllByRecursion IsOwnDesk (desks_of crews) → AreDealtFrom 0 crews → (i : ℕ) (c : Crew) → slice_get crews i ≡ Some c
      → posts_by test script w i trace ≡ total (worth test) c.desks.items
  posts-of-crew test crews merged trace is e own dealt i c g =
      let f = λ (x : Entry). cond (is_dealt script w i x.actor) (total (λ (p : Post). one (test p)) x.outputs) 0 in
      let h = λ (x : Stamped). f x.entry in
      ap (total f) e ∙ total-map f (λ (x : Stamped). x.entry) merged
      ∙ total-perm h (all_of (parts_in (parts_of crews))) merged is.all ∙ all-total h (desks_of crews)
      ∙ desks-worth test i (desks_of crews) own ∙ flat-total (counted_one i (worth test)) crews ∙ pick i (worth test) i 0 crews c (omega arith) dealt g

  named-worth : (test : Post → Bool) (entry place : ℕ) (ps : List Post)
      → total (λ (m : Mailed). one (test m.post)) (named entry place ps) ≡ total (λ (p : Post). one (test p)) ps
  named-worth test entry place [] = refl
  named-worth test entry place (p ∷ ps) = omega (arith, named-worth test entry (suc place) ps)

  part-worth : (test : Post → Bool) (xs : List Stamped)
      → total (λ (m : Mailed). one (test m.post)) (made_by xs)
      ≡ total (λ (x : Stamped). total (λ (p : Post). one (test p)) x.entry.outputs) xs
  part-worth test [] = refl
  part-worth test (x ∷ xs) =
      omega (
        arith,
        total-append (λ (m : Mailed). one (test m.post)) (named (x.stamp.0 + 1) 0 x.entry.outputs)
            (made_by xs),
        named-worth test (x.stamp.0 + 1) 0 x.entry.outputs,
        part-worth test xs,
      )

  -- what a crew made
  pub made-worth : (test : Post → Bool) (ds : List Desk) → made_weight (λ (m : Mailed). one (test m.post)) ds ≡ total (worth test) ds
  made-worth test [] = refl
  made-worth test (d ∷ ds) = omega (arith, part-worth test d.part.items, made-worth test ds)

  -- the totals count each post once
  pub booked-posts : (c : Crew) → IsBooked c → c.totals.posts ≡ total (worth is_any) c.desks.items
  booked-posts c b =
      let o = b.offered in
      let n = offered-long _ _ no_totals c.totals b.before b.after b.posts o in
      let p = o.posts in
      omega (arith, p, n, total-one b.posts, b.made (λ x. 1), made-worth is_any c.desks.items)

  new-made : (h : Mailed → ℕ) (ds : List Desk) → AllByRecursion (λ (d : Desk). (d.part.items ≡ []) × (d.kept.items ≡ [])) ds → made_weight h ds ≡ 0
  new-made h [] e = refl
  new-made h (d ∷ ds) e = omega (arith, ap (λ l. total h (made_by l)) e.0.0, new-made h ds e.1)

  asked-total : (os : List Offer) → asked_of os ≡ total (λ (m : Mailed). one (is_asked m.post)) (map (λ (o : Offer). o.mailed) os)
  asked-total [] = refl
  asked-total (o ∷ os) = omega (arith, asked-total os)

  -- a fate's counts rose by what its crew posted
  pub posted-risen : (trace : List Entry) (i : ℕ) (c : Crew) (f f' : FateState)
      → posts_by is_asked script w i trace ≡ total (worth is_asked) c.desks.items → HasPosted c f f'
      → HasRisen script w trace i c.totals f f'
  posted-risen trace i c f f' e h =
      let k = h.posted in
      let o = k.offered in
      let lose : c.totals.lose ≡ count_of 0 o.offers = o.lose ∙ ap (λ (t : Totals). t.lose + count_of 0 o.offers) h.new.totals ∙ zeros (count_of 0 o.offers) in
      let twice : c.totals.twice ≡ count_of 2 o.offers =
      o.twice ∙ ap (λ (t : Totals). t.twice + count_of 2 o.offers) h.new.totals ∙ zeros (count_of 2 o.offers) in
      let g = λ (m : Mailed). one (is_asked m.post) in
      let asked : asked_of o.offers ≡ posts_by is_asked script w i trace =
      omega (arith, asked-total o.offers, ap (total g) o.are, k.made g, new-made g h.start.desks.items h.new.desks, made-worth is_asked c.desks.items, e) in
      record {
        chosen = o.chosen ∙ ap (λ n. raised_by n f.chosen) asked;
        lost = o.lost ∙ ap (λ n. raised_by n f.lost) (sym lose);
        doubled = o.doubled ∙ ap (λ n. raised_by n f.doubled) (sym twice);
        tuning = o.tuning;
      }
    where
      zeros : (n : ℕ) → 0 + n ≡ n
      zeros n = omega arith
