-- Where drivers are at rest, what was put was delivered, or came to a halted server: so what is open was lost.
use Rattle.std.proofs.Common.{◌≡◌, ℕ, zero, suc, ◌+◌, ◌-◌, ◌*◌, ◌<◌, ◌≤◌, inl, inr, ⊎_elim, Bool, true, false, cond}
use Rattle.std.proofs.Common.{eqb, List, [], ◌∷◌, map, length, Some, None, slice_get, slice_index_or, refl, ap, sym}
use Rattle.std.proofs.Common.{subst, ◌∙◌, arith}
use Rattle.std.specs.Prelude.{◌&&◌, nat_le, nat_lt}
use Rattle.std.specs.List.{AllByRecursion}
use Rattle.std.proofs.lemmas.Bool.{and_from, and_parts, eqb-true, le-leb, leb-true, lt-ltb, ltb-true}
use mathlib.Core.List.{IsPrefix}
use Rattle.atomic_table.specs.Seated.{TableId}
use Rattle.hx_model.specs.Types.{Actor, Coordinator, Entry, Post, PostId, Script, Server, Session}
use Rattle.hx_types.specs.Words.{same_actor, when_some, IsIn}
use Rattle.hx_model.specs.Runs.{has_halted, is_actor, post_named}
use Rattle.hx_model.specs.Schedule.{same_name}
use Rattle.hx_clock.specs.Views.{one, total}
use Rattle.hx_clock.proofs.Lemmas.{each_in}
use Rattle.hx_law_threads.specs.Cuts.{delivered_at, is_to_halted, open_at, own_at, posted_at, Cut}
use Rattle.hx_law_threads.proofs.Lemmas.{same_actor_is, same_as_itself, in_append, open_counted, same_self}
use Rattle.hx_mail.specs.declared.views.BoxNames.{BoxNames}
use Rattle.hx_mail.specs.declared.views.Mailed.{Mailed}
use Rattle.hx_mail.specs.declared.views.Sent.{Sent}
use Rattle.hx_mail.specs.Boxes.{Boxed, Ported}
use Rattle.hx_mail.specs.Ports.{put_by}
use Rattle.hx_mail.proofs.Lemmas.{put_by-append}
use Rattle.hx_outbox.specs.Zipped.{Both}
use Rattle.hx_outbox.specs.Places.{place_of, AreBoxes, Exists}
use Rattle.hx_outbox.specs.Outboxes.{counts_of, kept_weight, out_weight, outs_of, IsOutPort, MorePut}
use Rattle.hx_outbox.specs.Offers.{count_of, put_weight, Offer}
use Rattle.hx_outbox.proofs.Lemmas.{begins-trans, both-long}
use Rattle.hx_driver.specs.declared.desks.Desk.{Desk}
use Rattle.hx_driver.specs.Inboxes.{ins_of, IsHeardFrom}
use Rattle.hx_driver.specs.Desks.{entries_before, made_by, told, IsLater, IsWholeDesk}
use Rattle.hx_driver.specs.declared.crews.Crew.{Crew}
use Rattle.hx_driver.specs.Crews.{made_weight, IsBooked, IsCrew, IsDeskOf}
use Rattle.hx_driver.specs.Slices.{IsLaterCrew}
use Rattle.hx_law_drivers.specs.Crews.{desks_of, lost_by, HaveAllActors}
use Rattle.hx_law_drivers.specs.Joined.{outs_at, AreInOrder, IsInOrderOf}
use Rattle.hx_law_drivers.specs.Rests.{AreAtRest, HasHeard, IsRested}
use Rattle.hx_law_drivers.proofs.Lists.{both_in, bool_cases, in_flat, lt_or_le, of_flat, prefix_same, total_least}
use Rattle.hx_law_drivers.proofs.Lists.{total_nothing, total_of_flat, total_of_map, total_some, total_under}
use Rattle.hx_law_drivers.proofs.Desks.{later_desks, AreLater}
use Rattle.hx_law_drivers.proofs.Seen.{past_is_before, seen_delivered, seen_posted, IsSeen}

-- the counts of what was heard, and of what was put
heard_at : (k : ℕ) (ns : List ℕ) (ins : List Sent) (i n : ℕ) → IsHeardFrom k ns ins → slice_get ns i ≡ Some n → n ≡ length (put_by (k + i) ins)
heard_at k [] ins i n h e = absurd (cc)
heard_at k (m ∷ ns) ins zero n h e =
    let same : m ≡ n = cc in
    let at : k ≡ k + 0 = omega arith in
    sym same ∙ h.0 ∙ ap (λ j. length (put_by j ins)) at
heard_at k (m ∷ ns) ins (suc i) n h e =
    let at : suc k + i ≡ k + suc i = omega arith in
    heard_at (suc k) ns ins i n h.1 e ∙ ap (λ j. length (put_by j ins)) at

sent_at : (ps : List Ported) (i n : ℕ) → slice_get (counts_of ps) i ≡ Some n → n ≡ length (outs_at i ps)
sent_at [] i n e = absurd (cc)
sent_at (p ∷ ps) zero n e = let same : length (outs_of p) ≡ n = cc in sym same
sent_at (p ∷ ps) (suc i) n e = sent_at ps i n e

-- prefixes of what was put and taken
put_begins : (k : ℕ) (xs ys : List Sent) → IsPrefix xs ys → IsPrefix (put_by k xs) (put_by k ys)
put_begins k xs ys h = (put_by k h.0, sym (put_by-append k xs h.0) ∙ ap (put_by k) h.1)

outs_more : (n : ℕ) (ps qs : List Ported) → MorePut ps qs → IsPrefix (outs_at n ps) (outs_at n qs)
outs_more n [] [] h = ([], refl)
outs_more n [] (q ∷ qs) h = absurd h
outs_more n (p ∷ ps) [] h = absurd h
outs_more zero (p ∷ ps) (q ∷ qs) h = h.0
outs_more (suc n) (p ∷ ps) (q ∷ qs) h = outs_more n ps qs h.1

put_in_case : (b : Bool) (p m : Mailed) (xs ys : List Mailed) → (IsIn m xs → IsIn m ys) → IsIn m (cond b (p ∷ xs) xs) → IsIn m (p ∷ ys)
put_in_case true p m xs ys f (inl e) = inl e
put_in_case true p m xs ys f (inr i) = inr (f i)
put_in_case false p m xs ys f i = inr (f i)

put_in : (k : ℕ) (ins : List Sent) (m : Mailed) → IsIn m (put_by k ins) → IsIn m (map (λ (s : Sent). s.mailed) ins)
put_in k [] m i = absurd i
put_in k (s ∷ ins) m i = put_in_case (eqb k s.port) s.mailed m (put_by k ins) (map (λ (x : Sent). x.mailed) ins) (put_in k ins m) i

outs_nothing : (h : Mailed → ℕ) (ps : List Ported) → ((n : ℕ) → n < length ps → total h (outs_at n ps) ≡ 0) → out_weight h ps ≡ 0
outs_nothing h [] f = refl
outs_nothing h (p ∷ ps) f = omega (arith, f 0 (omega arith), outs_nothing h ps (λ n lt. f (suc n) (omega (arith, lt))))

pub outs_least : (h : Mailed → ℕ) (n : ℕ) (ps : List Ported) → total h (outs_at n ps) ≤ out_weight h ps
outs_least h n [] = omega arith
outs_least h zero (p ∷ ps) = omega arith
outs_least h (suc n) (p ∷ ps) = omega (arith, outs_least h n ps)

-- what is put in a box is for its owner
pub outs_owned : (j n : ℕ) (boxes : List Boxed) (ps : List Ported) (m : Mailed) → Both (IsOutPort j) boxes ps → IsIn m (outs_at n ps)
    → (box : Boxed) × (box ≡ slice_index_or boxes n box) × (m.post.to ≡ box.names.owner)
outs_owned j n [] [] m h i = absurd i
outs_owned j n [] (p ∷ ps) m h i = absurd h
outs_owned j n (b ∷ boxes) [] m h i = absurd h
outs_owned j zero (b ∷ boxes) (p ∷ ps) m h i = (b, refl, each_in (λ (x : Mailed). x.post.to ≡ b.names.owner) (outs_of p) m h.0.addressed i)
outs_owned j (suc n) (b ∷ boxes) (p ∷ ps) m h i = outs_owned j n boxes ps m h.1 i

-- an actor of the script exists, and each place is that of one
actor_exists : (script : Script) (a : Actor) → is_actor script a ≡ true → Exists script a
actor_exists script Coordinator h = tt
actor_exists script (Server s) h = let p = and_parts (nat_lt 0 s.0) (nat_le s.0 script.space.servers) h in
    (ltb-true 0 s.0 p.0, leb-true s.0 script.space.servers p.1)
actor_exists script (Session u) h = let p = and_parts (nat_lt 0 u.0) (nat_le u.0 (length script.sessions)) h in
    (ltb-true 0 u.0 p.0, leb-true u.0 (length script.sessions) p.1)

actor_at : (script : Script) (n : ℕ) → n < 1 + script.space.servers + length script.sessions → (a : Actor)
    × (is_actor script a ≡ true) × (place_of script.space a ≡ n)
actor_at script zero lt = (Coordinator, refl, refl)
actor_at script (suc n) lt =
    ⊎_elim
    (λ (h : n < script.space.servers). (
      Server (record { 0 = suc n }),
      and_from (nat_lt 0 (suc n)) (nat_le (suc n) script.space.servers) (lt-ltb 0 (suc n) (omega arith))
          (le-leb (suc n) script.space.servers (omega (arith, h))),
      refl,
    ))
    (λ (h : script.space.servers ≤ n).
    let k : ℕ = suc n - script.space.servers in
    let sum : script.space.servers + k ≡ suc n = omega (arith, h) in (
      Session (record { 0 = k }),
      and_from (nat_lt 0 k) (nat_le k (length script.sessions))
          (lt-ltb 0 k (omega (arith, sum, h))) (le-leb k (length script.sessions) (omega (arith, sum, lt))),
      sum,
    ))
    (lt_or_le n script.space.servers)

-- offers: what was put at all was offered, and of what wasn't put all was lost
offered_some : (h : Mailed → ℕ) (os : List Offer) → 1 ≤ put_weight h os → 1 ≤ total (λ (o : Offer). h o.mailed) os
offered_some h [] le = absurd (omega (arith, le))
offered_some h (o ∷ os) le =
    ⊎_elim (λ (e : 0 < h o.mailed). omega (arith, e))
    (λ (e : h o.mailed ≤ 0).
    let none : h o.mailed ≡ 0 = omega (arith, e) in
    let here : o.times * h o.mailed ≡ 0 = ap (λ k. o.times * k) none ∙ omega arith in
    omega (arith, offered_some h os (omega (arith, le, here)))) (lt_or_le 0 (h o.mailed))

lost_one : (times : ℕ) (b : Bool) → times * one b ≡ 0 → one b ≤ one (eqb 0 times)
lost_one zero true e = omega arith
lost_one zero false e = omega arith
lost_one (suc times) true e = absurd (omega (arith, e))
lost_one (suc times) false e = omega arith

lost_all : (test : Mailed → Bool) (os : List Offer) → put_weight (λ m. one (test m)) os ≡ 0 → total (λ (o : Offer). one (test o.mailed)) os ≤ count_of 0 os
lost_all test [] e = omega arith
lost_all test (o ∷ os) e =
    let product : ℕ = o.times * one (test o.mailed) in
    let rest : ℕ = put_weight (λ m. one (test m)) os in
    omega (arith, lost_one o.times (test o.mailed) (first product rest e), lost_all test os (second product rest e))
  where
    first : (a b : ℕ) → a + b ≡ 0 → a ≡ 0
    first a b q = omega (arith, q)

    second : (a b : ℕ) → a + b ≡ 0 → b ≡ 0
    second a b q = omega (arith, q)

name_is : (a b : PostId) → same_name a b ≡ true → a ≡ b
name_is a b e =
    let p = and_parts (eqb a.entry b.entry) (eqb a.place b.place) e in
    let entry = eqb-true a.entry b.entry p.0 in
    let place = eqb-true a.place b.place p.1 in
    λ i. record { entry = entry i; place = place i }

one_true : (b : Bool) → 1 ≤ one b → b ≡ true
one_true true le = refl
one_true false le = absurd (omega (arith, le))

desk_in : (crews : List Crew) (d : Desk) → IsIn d (desks_of crews) → (c : Crew) × IsIn c crews × IsIn d c.desks.items
desk_in crews d i = of_flat (λ (c : Crew). c.desks.items) crews d i

-- where something that a crew put counts, something counts that one of its actors made
pub put_counts : (c : Crew) → IsBooked c → (h : Mailed → ℕ) → 1 ≤ out_weight h c.out.ports.items
    → (d : Desk) × IsIn d c.desks.items × ((x : Mailed) × IsIn x (made_by d.part.items) × (1 ≤ h x))
put_counts c booked h some =
    let b = booked.offered in
    let put : 1 ≤ put_weight h b.offers = omega (arith, some, b.put h) in
    let posts : total h booked.posts ≡ total (λ (o : Offer). h o.mailed) b.offers =
    ap (total h) (sym b.are) ∙ total_of_map (λ (o : Offer). o.mailed) h b.offers in
    let made : 1 ≤ made_weight h c.desks.items = omega (arith, offered_some h b.offers put, posts, booked.made h) in
    let d = total_some (λ (d : Desk). total h (made_by d.part.items)) c.desks.items made in
    (d.0, d.1, total_some h (made_by d.0.part.items) d.2)

-- what a crew put is of the name and for the receiver of a post that one of its actors made
put_was_made : (c : Crew) → IsBooked c → (m : Mailed) (n : ℕ) → IsIn m (outs_at n c.out.ports.items)
    → (d : Desk) × IsIn d c.desks.items × ((x : Mailed) × IsIn x (made_by d.part.items) × (x.id ≡ m.id) × (x.post.to ≡ m.post.to))
put_was_made c booked m n i =
    let h : Mailed → ℕ = λ x. one (same_name x.id m.id && same_actor x.post.to m.post.to) in
    let self : h m ≡ 1 = ap one (and_from (same_name m.id m.id) (same_actor m.post.to m.post.to) (same_self m.id) (same_as_itself m.post.to)) in
    let d = put_counts c booked h (omega (arith, self, total_least h (outs_at n c.out.ports.items) m i, outs_least h n c.out.ports.items)) in
    let x = d.2 in
    let both = and_parts (same_name x.0.id m.id) (same_actor x.0.post.to m.post.to)
    (one_true (same_name x.0.id m.id && same_actor x.0.post.to m.post.to) x.2) in
    (d.0, d.1, (x.0, x.1, name_is x.0.id m.id both.0, same_actor_is x.0.post.to m.post.to both.1))

module _ (script : Script) (clock : TableId) (boxes : List Boxed) (w : ℕ) (boxes_are : AreBoxes script clock boxes)
    (cut now : List Crew) (crews : AllByRecursion (IsCrew script clock boxes w) cut)
    (rest : AreAtRest script cut) (later : AreLater cut now) (order : AreInOrder script now) (actors : HaveAllActors script cut) where
  crew_of : (c : Crew) → IsIn c cut → IsCrew script clock boxes w c
  crew_of c i = each_in (IsCrew script clock boxes w) cut c crews i

  whole_desk : (d : Desk) → IsIn d (desks_of cut) → IsWholeDesk script clock boxes w d
  whole_desk d j =
      let c = desk_in cut d j in
      (each_in (IsDeskOf script clock boxes w c.0) c.0.desks.items d (crew_of c.0 c.1).desks c.2).whole
      (each_in (λ (x : Crew). x.fault ≡ None) cut c.0 rest.calm c.1)

  -- all that a driver put for an actor was taken
  took : (c : Crew) (d : Desk) → IsIn c cut → IsIn d (desks_of cut)
      → put_by (c.out.index + 1) (ins_of d.inbox) ≡ outs_at (place_of script.space d.actor) c.out.ports.items
  took c d i j =
      let key : ℕ = c.out.index + 1 in
      let place : ℕ = place_of script.space d.actor in
      let k = both_in IsLaterCrew cut now c later i in
      let e = both_in IsLater (desks_of cut) (desks_of now) d (later_desks cut now later) j in
      let o = each_in (IsInOrderOf script e.0) now k.0 (each_in (λ (x : Desk). AllByRecursion (IsInOrderOf script x) now) (desks_of now) e.0 order e.1) k.1 in
      let named : IsPrefix (put_by key (ins_of e.0.inbox)) (outs_at (place_of script.space e.0.actor) k.0.out.ports.items) =
      subst (λ n. IsPrefix (put_by (n + 1) (ins_of e.0.inbox)) (outs_at (place_of script.space e.0.actor) k.0.out.ports.items)) k.2.index o in
      let placed : IsPrefix (put_by key (ins_of e.0.inbox)) (outs_at place k.0.out.ports.items) =
      subst (λ a. IsPrefix (put_by key (ins_of e.0.inbox)) (outs_at (place_of script.space a) k.0.out.ports.items)) e.2.actor named in
      let heard = each_in (HasHeard script d) cut c (each_in (IsRested script cut) (desks_of cut) d rest.rested j).heard i in
      let a = heard_at 0 d.heard.items (ins_of d.inbox) key heard.count (whole_desk d j).desk.heard.1 heard.heard in
      let b = sent_at c.out.ports.items place heard.count (ap (λ l. slice_get l place) (sym (crew_of c i).out.counted) ∙ heard.sent) in
      let z : key ≡ 0 + key = omega arith in
      prefix_same (put_by key (ins_of d.inbox)) (outs_at place c.out.ports.items) (outs_at place k.0.out.ports.items)
      (begins-trans (put_by key (ins_of d.inbox)) (put_by key (ins_of e.0.inbox)) (outs_at place k.0.out.ports.items)
      (put_begins key (ins_of d.inbox) (ins_of e.0.inbox) e.2.ins) placed)
      (outs_more place c.out.ports.items k.0.out.ports.items k.2.put) (ap (λ n. length (put_by n (ins_of d.inbox))) z ∙ sym a ∙ b)

  -- what was put for an actor is addressed to it
  put_for : (c : Crew) (d : Desk) → IsIn c cut → IsIn d (desks_of cut) → (m : Mailed)
      → IsIn m (outs_at (place_of script.space d.actor) c.out.ports.items) → m.post.to ≡ d.actor
  put_for c d i j m at =
      let owned = outs_owned c.out.index (place_of script.space d.actor) boxes c.out.ports.items m (crew_of c i).out.ports at in
      owned.2 ∙ ap (λ (n : BoxNames). n.owner) (boxes_are.each d.actor (actor_exists script d.actor (whole_desk d j).desk.exists) owned.0 owned.1)

  module _ (trace : List Entry) (k : Cut) (seen : IsSeen trace k (desks_of cut))
      (found : (d : Desk) → IsIn d (desks_of cut) → (m : Mailed) → IsIn m (made_by d.part.items) → post_named m.id trace ≡ Some m.post) where
    -- what was put for a halted server is to a halted one by the trace
    to_halted : (c : Crew) (d : Desk) → IsIn c cut → IsIn d (desks_of cut) → (m : Mailed) → IsIn m (outs_at (place_of script.space d.actor) c.out.ports.items)
        → has_halted script (entries_before d.part.items) d.actor ≡ true → is_to_halted script k trace m.id ≡ true
    to_halted c d i j m at halted =
        let made = put_was_made c (crew_of c i).booked m (place_of script.space d.actor) at in
        let x = made.2 in
        let named : post_named m.id trace ≡ Some x.0.post =
        ap (λ id. post_named id trace) (sym x.2) ∙ found made.0 (in_flat (λ (y : Crew). y.desks.items) cut c made.0 i made.1) x.0 x.1 in
        let to : x.0.post.to ≡ d.actor = x.3 ∙ put_for c d i j m at in
        ap (λ o. when_some o false (λ (p : Post). has_halted script (own_at k trace p.to) p.to)) named
        ∙ ap (λ a. has_halted script (own_at k trace a) a) to
        ∙ ap (λ l. has_halted script l d.actor) (seen.own d j ∙ sym (past_is_before d.part.items)) ∙ halted

    module _ (test : PostId → Bool) (none : (id : PostId) → IsIn id (delivered_at k trace) → test id ≡ false)
        (halted : (id : PostId) → is_to_halted script k trace id ≡ true → test id ≡ false) where
      abbrev weight : Mailed → ℕ
      weight m = one (test m.id)

      told_none : (d : Desk) → IsIn d (desks_of cut) → total weight (told d.part.items) ≡ 0
      told_none d j =
          let all : total (λ (x : Desk). total weight (told x.part.items)) (desks_of cut) ≡ 0 =
          sym (seen_delivered trace k (desks_of cut) seen (λ id. one (test id)))
          ∙ total_nothing (λ id. one (test id)) (delivered_at k trace) (λ id i. ap one (none id i)) in
          omega (arith, all, total_least (λ (x : Desk). total weight (told x.part.items)) (desks_of cut) d j)

      put_none : (c : Crew) (d : Desk) → IsIn c cut → IsIn d (desks_of cut) → (m : Mailed)
          → IsIn m (outs_at (place_of script.space d.actor) c.out.ports.items) → weight m ≡ 0
      put_none c d i j m at =
          let whole = whole_desk d j in
          let taken = put_in (c.out.index + 1) (ins_of d.inbox) m (subst (IsIn m) (sym (took c d i j)) at) in
          ⊎_elim (λ (t : IsIn m (told d.part.items)). omega (arith, told_none d j, total_least weight (told d.part.items) m t))
          (λ (r : IsIn m whole.rest).
          ⊎_elim (λ (e : has_halted script (entries_before d.part.items) d.actor ≡ true). ap one (halted m.id (to_halted c d i j m at e)))
          (λ (e : has_halted script (entries_before d.part.items) d.actor ≡ false). absurd
          (subst (IsIn m) (whole.delivered e) r)) (bool_cases (has_halted script (entries_before d.part.items) d.actor)))
          (in_append (told d.part.items) whole.rest m (subst (IsIn m) (sym whole.desk.told) taken))

      outs_none : (c : Crew) → IsIn c cut → out_weight weight c.out.ports.items ≡ 0
      outs_none c i =
          outs_nothing weight c.out.ports.items
          (λ n lt.
          total_nothing weight (outs_at n c.out.ports.items)
          (λ m at.
          let long = both-long (IsOutPort c.out.index) boxes c.out.ports.items (crew_of c i).out.ports in
          let a = actor_at script n (let count = boxes_are.count in omega (arith, lt, long, count)) in
          let d = actors.all a.0 a.1 in
          put_none c d.0 i d.1 m (subst (λ p. IsIn m (outs_at p c.out.ports.items)) (sym a.2 ∙ ap (place_of script.space) (sym d.2)) at)))

      kept_none : (c : Crew) → IsIn c cut → total (λ (d : Desk). kept_weight weight d.kept.items) c.desks.items ≡ 0
      kept_none c i =
          total_nothing (λ (d : Desk). kept_weight weight d.kept.items) c.desks.items
          (λ d j. ap (kept_weight weight) (each_in (IsRested script cut) (desks_of cut) d rest.rested (in_flat (λ (y : Crew). y.desks.items) cut c d i j)).kept)

      made_few : (c : Crew) → IsIn c cut → made_weight weight c.desks.items ≤ c.totals.lose
      made_few c i =
          let booked = (crew_of c i).booked in
          let b = booked.offered in
          let put : put_weight weight b.offers ≡ 0 = omega (arith, b.put weight, outs_none c i, kept_none c i) in
          let posts : total weight booked.posts ≡ total (λ (o : Offer). weight o.mailed) b.offers =
          ap (total weight) (sym b.are) ∙ total_of_map (λ (o : Offer). o.mailed) weight b.offers in
          let lose = b.lose in
          omega (arith, lost_all (λ m. test m.id) b.offers put, booked.made weight, posts, lose)

      all_few : total (λ id. one (test id)) (posted_at k trace) ≤ lost_by cut
      all_few =
          omega (
            arith,
            seen_posted trace k (desks_of cut) seen (λ id. one (test id)),
            total_of_flat (λ (c : Crew). c.desks.items) (λ (d : Desk). total weight (made_by d.part.items)) cut,
            total_under (λ (c : Crew). made_weight weight c.desks.items) (λ (c : Crew). c.totals.lose) cut made_few,
          )

    -- no more are open than were lost
    pub few_open : length (open_at script k trace) ≤ lost_by cut
    few_open = open_counted script k trace (lost_by cut) (λ test none halted. all_few test none halted)
