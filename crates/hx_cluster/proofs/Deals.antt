-- Outboxes, desks and crews that grow while boxes are dealt out.
use Rattle.std.proofs.Common.{◌≡◌, ◌≢◌, ℕ, zero, suc, ◌+◌, ◌<◌, ◌≤◌, ◌%◌, inl, ⊎_elim, Bool, true, false, cond, eqb}
use Rattle.std.proofs.Common.{List, [], ◌∷◌, ◌++◌, map, length, replicate, slice_index_or, slice_set, None, refl, ap}
use Rattle.std.proofs.Common.{sym, subst, ◌∙◌, arith, append-nil, length-append}
use Rattle.std.specs.List.{AllByRecursion, filter}
use Rattle.std.proofs.lemmas.Bool.{cond_both}
use Rattle.std.proofs.lemmas.Bool.Decides.{eqb_tells}
use Rattle.std.proofs.lemmas.List.{map-append, length-replicate}
use Rattle.std.proofs.lemmas.List.Elements.{filter-append}
use Rattle.atomic_table.specs.Seated.{TableId}
use Rattle.hx_types.specs.declared.ids.Actor.{Actor}
use Rattle.hx_types.specs.declared.limits.TheConstants.{MOST_ACTORS}
use Rattle.hx_types.specs.declared.spaces.Space.{Space}
use Rattle.hx_types.specs.declared.traces.Script.{Script}
use Rattle.hx_types.specs.Fitting.{IsScript}
use Rattle.hx_types.specs.Words.{below}
use Rattle.hx_model.specs.Runs.{is_actor}
use Rattle.hx_clock.specs.Views.{total, Owns}
use Rattle.hx_law_threads.specs.Own.{IsOwn}
use Rattle.hx_law_threads.specs.Feeding.{IsFed}
use Rattle.hx_machine.specs.Machines.{IsMachine}
use Rattle.hx_law_drivers.specs.Crews.{AreNumbered}
use Rattle.hx_clock.proofs.Lemmas.{each_append}
use Rattle.hx_mail.specs.declared.views.Mailed.{Mailed}
use Rattle.hx_mail.specs.declared.views.Sent.{Sent}
use Rattle.hx_mail.specs.Boxes.{Boxed, Ported}
use Rattle.hx_outbox.specs.declared.outboxes.Outbox.{Outbox}
use Rattle.hx_outbox.specs.Outboxes.{AreGood, counts_of, kept_weight, out_weight, outs_of, IsOutPort}
use Rattle.hx_outbox.specs.Places.{place_of}
use Rattle.hx_outbox.specs.Zipped.{Both}
use Rattle.hx_fate.specs.States.{untouched}
use Rattle.hx_outbox.specs.Offers.{IsOffered, IsTotal}
use Rattle.hx_outbox.proofs.Lemmas.{map-length, offered-none}
use Rattle.hx_driver.specs.declared.desks.Desk.{Desk}
use Rattle.hx_driver.specs.Desks.{entries_before, made_by, past_of, told}
use Rattle.hx_driver.specs.Inboxes.{HasInPort, IsHeardFrom, ins_of}
use Rattle.hx_driver.specs.declared.crews.Crew.{Crew}
use Rattle.hx_driver.specs.Crews.{made_weight, no_totals, weight_in, IsBooked, IsCrew, IsDeskOf}
use Rattle.hx_cluster.specs.Clusters.{actors_dealt, AreNewCrews, IsNewCrew, IsNewSeat}
use Rattle.hx_cluster.specs.Everyone.{actors_of}
use Rattle.hx_cluster.specs.Actors.{actor_at, first_actors, first_dealt}
use Rattle.hx_cluster.specs.Dealt.{AreNewDesks, AtEach, IsNewDesk, IsNewOutbox}
use Rattle.hx_cluster.specs.Opened.{AreOutPortsFrom}
use Rattle.hx_cluster.proofs.AtEach.{at_each_read, at_each_set, at_each_snoc}
use Rattle.hx_cluster.proofs.Boxing.{below-long}
use Rattle.hx_cluster.proofs.ByPlace.{all-first, all-length, first-length, place-at}
use Rattle.hx_cluster.proofs.Everyone.{eqb-same, everyone}
use Rattle.hx_cluster.proofs.Opens.{both-snoc}

-- the first n drivers have their ports at one more box
pub record IsPartly (n : ℕ) (boxes : List Boxed) (box : Boxed) (i : ℕ) (o : Outbox) : Type 0 where
  pub more : i < n → IsNewOutbox (boxes ++ box ∷ []) i o
  pub before : n ≤ i → IsNewOutbox boxes i o

-- a driver's outbox with one more port
pub outbox-more : (boxes : List Boxed) (box : Boxed) (i : ℕ) (o o' : Outbox) (p : Ported) → IsNewOutbox boxes i o → IsOutPort i box p → outs_of p ≡ []
    → o'.index ≡ o.index → o'.ports.items ≡ o.ports.items ++ p ∷ [] → o'.sent.items ≡ o.sent.items ++ 0 ∷ [] → IsNewOutbox (boxes ++ box ∷ []) i o'
outbox-more boxes box i o o' p h is e index ports sent = record {
  index = index ∙ h.index;
  outbox = record {
    ports = subst (λ l. Both (IsOutPort o'.index) (boxes ++ box ∷ []) l) (sym ports)
        (subst (λ k. Both (IsOutPort k) (boxes ++ box ∷ []) (o.ports.items ++ p ∷ [])) (sym index)
        (both-snoc (IsOutPort o.index) boxes o.ports.items box p h.outbox.ports (subst (λ k. IsOutPort k box p) (sym h.index) is)));
    counted = sent ∙ ap (λ l. l ++ 0 ∷ []) h.outbox.counted
        ∙ ap (λ us. counts_of o.ports.items ++ length us ∷ []) (sym e)
        ∙ sym (map-append (λ (q : Ported). length (outs_of q)) o.ports.items (p ∷ []))
        ∙ ap counts_of (sym ports);
  };
  new = subst (AllByRecursion (λ (q : Ported). outs_of q ≡ [])) (sym ports) (each_append (λ (q : Ported). outs_of q ≡ []) o.ports.items (p ∷ []) h.new (e, tt));
}

-- one driver more has its port
pub partly-more : (boxes : List Boxed) (box : Boxed) (n : ℕ) (outs : List Outbox) (o o' : Outbox) (p : Ported)
    → AtEach (IsPartly n boxes box) outs → n < length outs → o ≡ slice_index_or outs n o → IsOutPort n box p → outs_of p ≡ []
    → o'.index ≡ o.index → o'.ports.items ≡ o.ports.items ++ p ∷ [] → o'.sent.items ≡ o.sent.items ++ 0 ∷ []
    → AtEach (IsPartly (n + 1) boxes box) (slice_set outs n o')
partly-more boxes box n outs o o' p h lt at is e index ports sent =
    let before : IsPartly n boxes box n o = at_each_read (IsPartly n boxes box) outs n o h lt at in
    at_each_set (IsPartly n boxes box) (IsPartly (n + 1) boxes box) outs n o' h
    (record { more = λ lt. outbox-more boxes box n o o' p (before.before (omega arith)) is e index ports sent; before = λ le. absurd (omega (arith, le)) })
    (λ j x ne q. record { more = λ lt. q.more (omega (arith, lt, ne)); before = λ le. q.before (omega (arith, le)) })

-- the port of a place among those of a box
pub out-at : (j : ℕ) (box : Boxed) (qs : List Ported) (p : Ported) (rest all : List Ported) → qs ++ p ∷ rest ≡ all
    → AreOutPortsFrom j box all → IsOutPort (j + length qs) box p × (outs_of p ≡ [])
out-at j box qs p rest all e h = go j qs (subst (AreOutPortsFrom j box) (sym e) h)
  where
    go : (k : ℕ) (ps : List Ported) → AreOutPortsFrom k box (ps ++ p ∷ rest) → IsOutPort (k + length ps) box p × (outs_of p ≡ [])
    go k [] g = let z : k ≡ k + 0 = omega arith in (subst (λ n. IsOutPort n box p) z g.0, g.1)
    go k (q ∷ ps) g = let z : suc k + length ps ≡ k + length (q ∷ ps) = omega arith in let r = go (suc k) ps g.2 in (subst (λ n. IsOutPort n box p) z r.0, r.1)

pub no-outbox : (i : ℕ) (o : Outbox) → o.index ≡ i → o.ports.items ≡ [] → o.sent.items ≡ [] → IsNewOutbox [] i o
no-outbox i o index ports sent = record {
  index = index;
  outbox = record { ports = subst (λ l. Both (IsOutPort o.index) [] l) (sym ports) tt; counted = sent ∙ ap counts_of (sym ports) };
  new = subst (AllByRecursion (λ (q : Ported). outs_of q ≡ [])) (sym ports) tt;
}

no-weight : (h : Mailed → ℕ) (ps : List Ported) → AllByRecursion (λ (q : Ported). outs_of q ≡ []) ps → out_weight h ps ≡ 0
no-weight h [] n = refl
no-weight h (p ∷ ps) n = let a = ap (total h) n.0 in let b = no-weight h ps n.1 in omega (arith, a, b)

-- one more actor belongs to the driver of its place
test-place : (space : Space) (w i k : ℕ) → eqb (place_of space (actor_at space k) % w) i ≡ eqb (k % w) i
test-place space w i k = ap (λ n. eqb (n % w) i) (place-at space k)

dealt-more : (space : Space) (w i k : ℕ) → first_dealt space w i (suc k) ≡ first_dealt space w i k ++ cond (eqb (k % w) i) (actor_at space k ∷ []) []
dealt-more space w i k =
    let test : Actor → Bool = λ (a : Actor). eqb (place_of space a % w) i in
    ap (filter test) (map-append (actor_at space) (below k) (k ∷ []))
    ∙ filter-append test (first_actors space k) (actor_at space k ∷ [])
    ∙ ap (λ b. first_dealt space w i k ++ cond b (actor_at space k ∷ []) []) (test-place space w i k)

eqb-apart : (j k : ℕ) → j ≢ k → eqb j k ≡ false
eqb-apart j k n = ⊎_elim (λ (h : (eqb j k ≡ true) × (j ≡ k)). absurd (n h.1)) (λ (h : (eqb j k ≡ false) × (j ≢ k)). h.0) (eqb_tells j k)

next : (k : ℕ) → k + 1 ≡ suc k
next k = omega arith

-- the driver of a place has one actor more, and the others have none
pub dealt-here : (space : Space) (w k : ℕ) → first_dealt space w (k % w) (k + 1) ≡ first_dealt space w (k % w) k ++ actor_at space k ∷ []
dealt-here space w k =
    ap (first_dealt space w (k % w)) (next k) ∙ dealt-more space w (k % w) k
    ∙ ap (λ b. first_dealt space w (k % w) k ++ cond b (actor_at space k ∷ []) []) (eqb-same (k % w))

pub dealt-there : (space : Space) (w i k : ℕ) → i ≢ k % w → first_dealt space w i (k + 1) ≡ first_dealt space w i k
dealt-there space w i k n =
    ap (first_dealt space w i) (next k) ∙ dealt-more space w i k
    ∙ ap (λ b. first_dealt space w i k ++ cond b (actor_at space k ∷ []) [])
    (eqb-apart (k % w) i (λ e. n (sym e))) ∙ append-nil (first_dealt space w i k)

filter-short : {A : Type 0} (test : A → Bool) (xs : List A) → length (filter test xs) ≤ length xs
filter-short test [] = omega arith
filter-short test (x ∷ xs) =
    let r = filter-short test xs in
    cond_both (test x) (x ∷ filter test xs) (filter test xs) (λ l. length l ≤ suc (length xs)) (λ t. omega (arith, r)) (λ f. omega (arith, r))

pub dealt-short : (space : Space) (w i k : ℕ) → length (first_dealt space w i k) ≤ k
dealt-short space w i k = let a = filter-short (λ (a : Actor). eqb (place_of space a % w) i) (first_actors space k) in
    let b = first-length space k in omega (arith, a, b)

-- all actors of a driver
pub dealt-all : (script : Script) (w i n : ℕ) → n ≡ 1 + script.space.servers + length script.sessions → first_dealt script.space w i n ≡ actors_dealt script w i
dealt-all script w i n e = ap (first_dealt script.space w i) e ∙ ap (filter (λ (a : Actor). eqb (place_of script.space a % w) i)) (all-first script)

module _ (script : Script) (clock : TableId) (boxes : List Boxed) (w : ℕ) where
  pub no-desks : (i : ℕ) (ds : List Desk) → ds ≡ [] → AreNewDesks script clock boxes w 0 i ds
  no-desks i ds e = subst (AreNewDesks script clock boxes w 0 i) (sym e) (record { each = tt; actors = refl })

  pub desks-more : (k : ℕ) (ds ds' : List Desk) (d : Desk) → AreNewDesks script clock boxes w k (k % w) ds
      → IsNewDesk script clock boxes w d → d.actor ≡ actor_at script.space k → ds' ≡ ds ++ d ∷ []
      → AreNewDesks script clock boxes w (k + 1) (k % w) ds'
  desks-more k ds ds' d h n a e = record {
    each = subst (AllByRecursion (IsNewDesk script clock boxes w)) (sym e) (each_append (IsNewDesk script clock boxes w) ds (d ∷ []) h.each (n, tt));
    actors = ap (map (λ (x : Desk). x.actor)) e ∙ map-append (λ (x : Desk). x.actor) ds (d ∷ []) ∙ ap (λ l. l ++ d.actor ∷ []) h.actors
        ∙ ap (λ x. first_dealt script.space w (k % w) k ++ x ∷ []) a ∙ sym (dealt-here script.space w k);
  }

  pub desks-same : (k i : ℕ) (ds : List Desk) → i ≢ k % w → AreNewDesks script clock boxes w k i ds → AreNewDesks script clock boxes w (k + 1) i ds
  desks-same k i ds n h = record { each = h.each; actors = h.actors ∙ sym (dealt-there script.space w i k n) }

  -- a desk at which nothing was done is one
  pub desk-new : (d : Desk) → is_actor script d.actor ≡ true → IsNewSeat clock (place_of script.space d.actor) d.seat
      → IsMachine script d.actor [] d.machine → HasInPort w boxes (place_of script.space d.actor) d.inbox → ins_of d.inbox ≡ []
      → d.part.items ≡ [] → d.kept.items ≡ [] → d.heard.items ≡ replicate (w + 1) 0 → IsNewDesk script clock boxes w d
  desk-new d exists seat machine inbox ins part kept heard = record {
    whole = record {
      rest = [];
      desk = record {
        exists = exists;
        seat = (seat.0, subst (λ l. Owns d.seat.view (place_of script.space d.actor) l) (sym part) seat.1);
        machine = subst (λ l. IsMachine script d.actor (entries_before l) d.machine) (sym part) machine;
        own = subst (λ l. IsOwn script d.actor (entries_before l)) (sym part) tt;
        fed = subst (λ l. IsFed script (past_of l)) (sym part) tt;
        inbox = inbox;
        heard = (
          ap length heard ∙ length-replicate (w + 1) 0,
          subst (IsHeardFrom 0 d.heard.items) (sym ins) (subst (λ ns. IsHeardFrom 0 ns []) (sym heard) (heard-none (w + 1) 0)),
        );
        told = ap (λ l. told l ++ []) part ∙ sym (ap (map (λ (s : Sent). s.mailed)) ins);
        kept = subst (AreGood script clock) (sym kept) tt;
        few = let n = ap length part in omega (arith, n);
      };
      delivered = λ e. refl;
    };
    part = part;
    kept = kept;
  }
    where
      heard-none : (m j : ℕ) → IsHeardFrom j (replicate m 0) []
      heard-none zero j = tt
      heard-none (suc m) j = (refl, heard-none m (suc j))

  -- a crew that has done nothing is one
  kept-none : (h : Mailed → ℕ) (ds : List Desk) → AllByRecursion (IsNewDesk script clock boxes w) ds
      → (total (λ (d : Desk). kept_weight h d.kept.items) ds ≡ 0) × (made_weight h ds ≡ 0)
  kept-none h [] n = (refl, refl)
  kept-none h (d ∷ ds) n =
      let r = kept-none h ds n.1 in
      let a = ap (kept_weight h) n.0.kept in let b = ap (λ l. total h (made_by l)) n.0.part in (omega (arith, a, r.0), omega (arith, b, r.1))

  desks-of : (c : Crew) (ds : List Desk) → AllByRecursion (IsNewDesk script clock boxes w) ds → AllByRecursion (IsDeskOf script clock boxes w c) ds
  desks-of c [] n = tt
  desks-of c (d ∷ ds) n = (record { broken = record { rest = n.0.whole.rest; desk = n.0.whole.desk }; whole = λ e. n.0.whole }, desks-of c ds n.1)

  news-of : (ds : List Desk) → AllByRecursion (IsNewDesk script clock boxes w) ds → AllByRecursion (λ (d : Desk). (d.part.items ≡ []) × (d.kept.items ≡ [])) ds
  news-of [] n = tt
  news-of (d ∷ ds) n = ((n.0.part, n.0.kept), news-of ds n.1)

  booked-new : (i : ℕ) (c : Crew) → IsNewOutbox boxes i c.out
      → AllByRecursion (IsNewDesk script clock boxes w) c.desks.items → c.totals ≡ no_totals → IsBooked c
  booked-new i c o n t = record {
    posts = [];
    before = untouched;
    after = untouched;
    offered = subst (λ s. IsOffered (λ h. 0) (λ h. weight_in h c.out c.desks.items) no_totals s untouched untouched []) (sym t)
        (offered-none (λ h. 0) (λ h. weight_in h c.out c.desks.items) no_totals untouched
        (λ h. let a = no-weight h c.out.ports.items o.new in let b = (kept-none h c.desks.items n).0 in omega (arith, a, b)));
    made = λ h. sym (kept-none h c.desks.items n).1;
    few = let a = (kept-none (λ m. 1) c.desks.items n).1 in omega (arith, a);
  }

  pub crew-new : (i : ℕ) (c : Crew) → IsNewOutbox boxes i c.out
      → AllByRecursion (IsNewDesk script clock boxes w) c.desks.items → length c.desks.items ≤ MOST_ACTORS
      → c.totals ≡ no_totals → c.fault ≡ None
      → IsCrew script clock boxes w c × IsNewCrew c
  crew-new i c o n few t f = (
    record {
      out = o.outbox;
      desks = desks-of c c.desks.items n;
      many = few;
      booked = booked-new i c o n t;
      total = subst IsTotal (sym t) refl;
      fault = (false, inl f);
    },
    record { desks = news-of c.desks.items n; totals = t; fault = f },
  )

  -- the crews of the first drivers
  pub record AreCrewsSoFar (crews : List Crew) : Type 0 where
    pub crews_are : AllByRecursion (IsCrew script clock boxes w) crews
    pub numbered : map (λ (c : Crew). c.out.index) crews ≡ below (length crews)
    pub dealt : AtEach (λ (i : ℕ) (c : Crew). map (λ (d : Desk). d.actor) c.desks.items ≡ actors_dealt script w i) crews
    pub new : AllByRecursion IsNewCrew crews

  -- one crew more
  pub crews-more : IsScript script → (n : ℕ) (crews crews' : List Crew) (c : Crew) → AreCrewsSoFar crews
      → crews' ≡ crews ++ c ∷ [] → n ≡ length (actors_of script)
      → IsNewOutbox boxes (length crews) c.out → AreNewDesks script clock boxes w n (length crews) c.desks.items
      → c.totals ≡ no_totals → c.fault ≡ None → AreCrewsSoFar crews'
  crews-more valid n crews crews' c h e many out desks t f =
      let all : n ≡ 1 + script.space.servers + length script.sessions = many ∙ all-length script in
      let few : n ≤ MOST_ACTORS = let a = valid.space.servers.1 in let b = valid.sessions in omega (arith, all, a, b) in
      let short : length c.desks.items ≤ MOST_ACTORS =
      let a = dealt-short script.space w (length crews) n in let b = ap length desks.actors in
      let d = map-length (λ (x : Desk). x.actor) c.desks.items in omega (arith, a, b, d, few) in
      let new = crew-new (length crews) c out desks.each short t f in
      subst AreCrewsSoFar (sym e) (record {
        crews_are = each_append (IsCrew script clock boxes w) crews (c ∷ []) h.crews_are (new.0, tt);
        numbered = map-append (λ (x : Crew). x.out.index) crews (c ∷ []) ∙ ap (λ l. l ++ c.out.index ∷ []) h.numbered
            ∙ ap (λ i. below (length crews) ++ i ∷ []) out.index
            ∙ ap below (let z : suc (length crews) ≡ length (crews ++ c ∷ []) = let a = length-append crews (c ∷ []) in omega (arith, a) in z);
        dealt = at_each_snoc (λ (i : ℕ) (x : Crew). map (λ (d : Desk). d.actor) x.desks.items
            ≡ actors_dealt script w i) crews c h.dealt (desks.actors ∙ dealt-all script w (length crews) n all);
        new = each_append IsNewCrew crews (c ∷ []) h.new (new.1, tt);
      })

  pub crews-all : (crews : List Crew) → AreCrewsSoFar crews → length crews ≡ w → 1 ≤ w → AreNewCrews script clock boxes w crews
  crews-all crews h many some = record {
    crews_are = h.crews_are;
    numbered = h.numbered ∙ ap below many;
    dealt = h.dealt;
    actors = everyone script w crews many some h.dealt;
    new = h.new;
  }

-- how many crews there are
pub crews-long : (w : ℕ) (crews : List Crew) → AreNumbered w crews → length crews ≡ w
crews-long w crews h = sym (map-length (λ (c : Crew). c.out.index) crews) ∙ ap length h ∙ below-long w
