-- What a trace of drivers that ran to their end tells.
use Rattle.std.proofs.Common.{◌≡◌, ◌≢◌, ℕ, zero, suc, ◌+◌, ◌≤◌, ⊎_elim, inl, inr, Bool, true, false, cond, List, []}
use Rattle.std.proofs.Common.{◌∷◌, ◌++◌, map, length, slice_get, Option, Some, None, refl, ap, sym, subst, ◌∙◌, arith}
use Rattle.std.proofs.Common.{append_assoc, append-nil, length-append}
use Rattle.std.specs.Prelude.{reverse}
use Rattle.std.specs.List.{flat_map, filter, AllByRecursion}
use Rattle.std.proofs.lemmas.Bool.{true≢false}
use Rattle.std.proofs.lemmas.List.Sorted.{IsPermutation-sym}
use mathlib.Core.List.{IsPrefix}
use Rattle.atomic_table.specs.Seated.{TableId}
use Rattle.hx_types.specs.declared.ids.Actor.{Actor}
use Rattle.hx_types.specs.declared.limits.TheConstants.{MOST_ENTRIES}
use Rattle.hx_types.specs.declared.totals.Totals.{Totals}
use Rattle.hx_types.specs.declared.traces.Entry.{Entry}
use Rattle.hx_types.specs.declared.traces.Input.{Input}
use Rattle.hx_types.specs.declared.traces.Script.{Script}
use Rattle.hx_types.specs.declared.traces.Input.TheVariants.{Tick, Halt, Deliver}
use Rattle.hx_types.specs.Words.{first_some, same_actor, IsIn}
use Rattle.hx_model.specs.Runs.{entry_at, is_actor, IsRun}
use Rattle.hx_model.specs.Schedule.{entries_of}
use Rattle.hx_clock.specs.declared.parts.Stamped.{Stamped}
use Rattle.hx_clock.specs.Parts.{all_of}
use Rattle.hx_clock.specs.Seats.{Seated}
use Rattle.hx_clock.specs.Views.{total}
use Rattle.hx_clock.proofs.Lemmas.{each_all, each_in, each_map}
use Rattle.hx_law_threads.specs.Own.{own_entries, past_of, IsOwn}
use Rattle.hx_law_threads.specs.Merged.{parts_in, ActorPart, AreOwnParts, AreWholeParts, IsMerged}
use Rattle.hx_law_threads.specs.Laws.{IsRunOfParts}
use Rattle.hx_law_threads.specs.Pacing.{IsPaced, IsPacedToEnd}
use Rattle.hx_law_threads.proofs.Lemmas.{same_actor_is, in_append, in_permuted, in_map, in_reverse, of_map, reverse_cons, reverse_snoc, merged_run, count-own}
use Rattle.hx_law_threads.specs.Feeding.{IsFed, IsFedBy}
use Rattle.hx_mail.specs.declared.views.Sent.{Sent}
use Rattle.hx_mail.specs.Boxes.{Boxed, Ported}
use Rattle.hx_fate.specs.declared.fates.FateState.{FateState}
use Rattle.hx_outbox.specs.Zipped.{Both}
use Rattle.hx_outbox.proofs.Lemmas.{map-length}
use Rattle.hx_driver.specs.declared.desks.Desk.{Desk}
use Rattle.hx_driver.specs.declared.faults.Fault.{Fault}
use Rattle.hx_driver.specs.declared.faults.Fault.TheVariants.{Memory, Worn}
use Rattle.hx_driver.specs.Desks.{entries_before, told}
use Rattle.hx_driver.specs.Told.{told_by}
use Rattle.hx_driver.specs.Inboxes.{ins_of}
use Rattle.hx_driver.specs.declared.crews.Crew.{Crew}
use Rattle.hx_driver.specs.Crews.{IsCrew}
use Rattle.hx_law_drivers.specs.Crews.{desks_of, doubled_by, lost_by, part_of, parts_of, AreNumbered}
use Rattle.hx_law_drivers.specs.Joined.{outs_at}
use Rattle.hx_law_drivers.specs.Laws.{ArePostsBy, EndedRunsEndCalls, HaveRun, IsTraceOf, IsWornAt, MayComeNext}
use Rattle.hx_law_drivers.specs.Laws.{PartsAreOwn, PutsArePosts, RestedRunsArePacedToEnd, RunsArePaced, TracesGoOn}
use Rattle.hx_law_drivers.specs.Laws.{WornActorsAreDue}
use Rattle.hx_law_drivers.proofs.Lemmas.{one_desk, actors_now}
use Rattle.hx_cluster.specs.Everyone.{actors_of}
use Rattle.hx_gather.specs.Gathered.{IsDrawn}
use Rattle.hx_run.specs.Closed.{fault_of, worn_in, AreClosed, HasPosted, IsFirstPort}
use Rattle.hx_run.specs.Ran.{delivered_to, doubled_in, is_any, is_asked, is_dealt, is_halt, lost_in, lowest_of}
use Rattle.hx_run.specs.Ran.{posts_by, taken_under, ArePortsOfActors, AreTotalsOf, HasEnd, HasNoHalts, HasOneMore}
use Rattle.hx_run.specs.Ran.{HasRisen, HaveMetWorn, IsPortOfActor, IsRan, IsTotalOf, IsWorn}
use Rattle.hx_run.specs.Rounds.{first_fault}
use Rattle.hx_run.proofs.Counted.{booked-posts, part-actor, posted-risen, posts-of-crew, worth, AreDealtFrom}
use Rattle.hx_run.proofs.Leaving.{all-desks, total-map, IsSome as IsADesk}
use Rattle.hx_run.proofs.Putting.{dealt-at, entry-stays, puts-for}
use Rattle.hx_run.proofs.Zipped.{both-map, in-flat, some-same}

-- ---- inputs
not-halt : (script : Script) (n : ℕ) (a : Actor) (input : Input) → IsFedBy script n a input → is_halt input ≡ false
not-halt script n a Tick h = refl
not-halt script n a Halt h = absurd h
not-halt script n a (Deliver id from message) h = refl

fed-halt : (script : Script) (xs : List Stamped) (z : Stamped) → IsFed script xs → IsIn z xs → is_halt z.entry.input ≡ false
fed-halt script [] z f i = absurd i
fed-halt script (x ∷ xs) z f (inl e) = ap (λ (y : Stamped). is_halt y.entry.input) e ∙ not-halt script x.stamp.0 x.entry.actor x.entry.input f.1
fed-halt script (x ∷ xs) z f (inr i) = fed-halt script xs z f.2 i

in-parts : (ds : List Desk) (z : Stamped) → IsIn z (all_of (parts_in (map part_of ds))) → (d : Desk) × IsIn d ds × IsIn z d.part.items
in-parts [] z i = absurd i
in-parts (d ∷ ds) z i =
    ⊎_elim (λ (j : IsIn z d.part.items). (d, inl refl, j))
    (λ (j : IsIn z (all_of (parts_in (map part_of ds)))). let r = in-parts ds z j in
    (r.0, inr r.1, r.2)) (in_append d.part.items (all_of (parts_in (map part_of ds))) z i)

-- ---- an actor's entries in a trace and in its reverse
filter-append : {A : Type 0} (test : A → Bool) (xs ys : List A) → filter test (xs ++ ys) ≡ filter test xs ++ filter test ys
filter-append test [] ys = refl
filter-append test (x ∷ xs) ys = by (test x) (filter-append test xs ys)
  where
    by : (b : Bool) → filter test (xs ++ ys) ≡ filter test xs ++ filter test ys
        → cond b (x ∷ filter test (xs ++ ys)) (filter test (xs ++ ys)) ≡ cond b (x ∷ filter test xs) (filter test xs)
        ++ filter test ys
    by true e = ap (λ l. x ∷ l) e
    by false e = e

filter-reverse : {A : Type 0} (test : A → Bool) (xs : List A) → filter test (reverse xs) ≡ reverse (filter test xs)
filter-reverse test [] = refl
filter-reverse test (x ∷ xs) = ap (filter test) (reverse_cons x xs) ∙ filter-append test (reverse xs) (x ∷ [])
    ∙ ap (λ l. l ++ filter test (x ∷ [])) (filter-reverse test xs) ∙ by (test x)
  where
    by : (b : Bool) → reverse (filter test xs) ++ cond b (x ∷ []) [] ≡ reverse (cond b (x ∷ filter test xs) (filter test xs))
    by true = sym (reverse_cons x (filter test xs))
    by false = append-nil (reverse (filter test xs))

reverse-twice : {A : Type 0} (xs : List A) → reverse (reverse xs) ≡ xs
reverse-twice [] = refl
reverse-twice (x ∷ xs) = ap reverse (reverse_cons x xs) ∙ reverse_snoc x (reverse xs) ∙ ap (λ l. x ∷ l) (reverse-twice xs)

flat-filter : {A B : Type 0} (test : A → Bool) (f : A → List B) (xs : List A) → flat_map (λ x. cond (test x) (f x) []) xs ≡ flat_map f (filter test xs)
flat-filter test f [] = refl
flat-filter test f (x ∷ xs) = by (test x) (flat-filter test f xs)
  where
    by : (b : Bool) → flat_map (λ x. cond (test x) (f x) []) xs ≡ flat_map f (filter test xs)
        → cond b (f x) [] ++ flat_map (λ x. cond (test x) (f x) []) xs ≡ flat_map f (cond b (x ∷ filter test xs) (filter test xs))
    by true e = ap (λ l. f x ++ l) e
    by false e = e

told-flat : (a : Actor) (part : List Stamped) → ((z : Stamped) → IsIn z part → z.entry.actor ≡ a)
    → flat_map (λ (x : Entry). told_by a x.input) (map (λ (x : Stamped). x.entry) part) ≡ told part
told-flat a [] h = refl
told-flat a (x ∷ part) h =
    ap (λ b. told_by b x.entry.input ++ flat_map (λ (y : Entry). told_by a y.input)
    (map (λ (y : Stamped). y.entry) part)) (sym (h x (inl refl)))
    ∙ ap (λ l. told_by x.entry.actor x.entry.input ++ l) (told-flat a part (λ z i. h z (inr i)))

-- who is no actor of the script makes no entry
no-others : (script : Script) (a : Actor) → is_actor script a ≡ false → (xs : List Entry) → IsRun script xs → entries_of a xs ≡ 0
no-others script a e [] run = refl
no-others script a e (x ∷ older) run = by (same_actor x.actor a) refl (no-others script a e older run.1)
  where
    by : (b : Bool) → same_actor x.actor a ≡ b → entries_of a older ≡ 0 → cond b (entries_of a older + 1) (entries_of a older) ≡ 0
    by true same none = absurd (true≢false (sym run.0.actor ∙ ap (is_actor script) (same_actor_is x.actor a same) ∙ e))
    by false same none = none

length-reverse : {A : Type 0} (xs : List A) → length (reverse xs) ≡ length xs
length-reverse [] = refl
length-reverse (x ∷ xs) = omega (arith, ap length (reverse_cons x xs), length-append (reverse xs) (x ∷ []), length-reverse xs)

get-map : {A B : Type 0} (f : A → B) (xs : List A) (i : ℕ) (y : B) → slice_get (map f xs) i ≡ Some y → (x : A) × (slice_get xs i ≡ Some x) × (f x ≡ y)
get-map f [] i y e = absurd cc
get-map f (x ∷ xs) zero y e = (x, refl, some-same (f x) y e)
get-map f (x ∷ xs) (suc i) y e = get-map f xs i y e

get-in : {A : Type 0} (xs : List A) (i : ℕ) (x : A) → slice_get xs i ≡ Some x → IsIn x xs
get-in [] i x e = absurd cc
get-in (y ∷ xs) zero x e = inl (sym (some-same y x e))
get-in (y ∷ xs) (suc i) x e = inr (get-in xs i x e)

-- ---- faults
first-in : (crews : List Crew) (f : Fault) → first_fault crews ≡ Some f → (c : Crew) × IsIn c crews × (c.fault ≡ Some f)
first-in [] f e = absurd cc
first-in (c ∷ crews) f e = by c.fault refl e (λ q. first-in crews f q)
  where
    by : (o : Option Fault) → o ≡ c.fault → first_some o (first_fault crews) ≡ Some f
        → (first_fault crews ≡ Some f → (d : Crew) × IsIn d crews × (d.fault ≡ Some f)) → (d : Crew)
        × IsIn d (c ∷ crews) × (d.fault ≡ Some f)
    by None p q k = let r = k q in (r.0, inr r.1, r.2)
    by (Some g) p q k = (c, inl refl, sym p ∙ q)

desk-in : (crews : List Crew) (c : Crew) (d : Desk) → IsIn c crews → IsIn d c.desks.items → IsIn d (desks_of crews)
desk-in crews c d i j = in-flat (λ (k : Crew). k.desks.items) crews c d i j

worn-fault : (o : Option Fault) (a : Actor) → worn_in o ≡ Some a → o ≡ Some (Worn a)
worn-fault None a e = absurd cc
worn-fault (Some Memory) a e = absurd cc
worn-fault (Some (Worn b)) a e = ap (λ (x : Actor). Some (Worn x)) (some-same b a e)

-- of several worn actors the first fault is that of the lowest driver
lowest-worn : (crews : List Crew) (worn : Option Actor) → first_fault crews ≡ fault_of worn → worn ≡ lowest_of (map (λ (c : Crew). worn_in c.fault) crews)
lowest-worn [] None e = refl
lowest-worn [] (Some a) e = absurd cc
lowest-worn (c ∷ crews) worn e = by c.fault worn e (lowest-worn crews worn)
  where
    by : (o : Option Fault) (worn : Option Actor) → first_some o (first_fault crews) ≡ fault_of worn
        → (first_fault crews ≡ fault_of worn → worn ≡ lowest_of (map (λ (c : Crew). worn_in c.fault) crews))
        → worn ≡ first_some (worn_in o) (lowest_of (map (λ (c : Crew). worn_in c.fault) crews))
    by None worn q k = k q
    by (Some Memory) None q k = absurd cc
    by (Some Memory) (Some a) q k = absurd cc
    by (Some (Worn b)) None q k = absurd cc
    by (Some (Worn b)) (Some a) q k = cc

-- ---- one more entry
no-halt : (input : Input) → input ≢ Halt → is_halt input ≡ false
no-halt Tick n = refl
no-halt Halt n = absurd (n refl)
no-halt (Deliver id from message) n = refl

delivered-next : (a : Actor) (trace : List Entry) (x : Entry)
    → delivered_to a (trace ++ x ∷ []) ≡ delivered_to a trace ++ cond (same_actor x.actor a) (told_by a x.input) []
delivered-next a [] x = append-nil (cond (same_actor x.actor a) (told_by a x.input) [])
delivered-next a (y ∷ trace) x =
    let here = cond (same_actor y.actor a) (told_by a y.input) [] in
    ap (λ l. here ++ l) (delivered-next a trace x) ∙ sym (append_assoc here (delivered_to a trace) (cond (same_actor x.actor a) (told_by a x.input) []))

module _ (script : Script) (clock : TableId) (w : ℕ) (start now : List Crew) (fault : Option Fault) (closed : AreClosed script clock w start now fault)
    (own : PartsAreOwn) (paced : RunsArePaced) (rested : RestedRunsArePacedToEnd) (ended : EndedRunsEndCalls)
    (goes-on : TracesGoOn) (worns : WornActorsAreDue) (puts : PutsArePosts)
    (trace : List Entry) (merged : List Stamped) (whole : AreWholeParts (parts_in (parts_of now)))
    (is : IsMerged (parts_in (parts_of now)) merged) (made : trace ≡ map (λ (x : Stamped). x.entry) merged)
    (totals : List Totals) (totals-are : totals ≡ map (λ (c : Crew). c.totals) now)
    (dealt : AreDealtFrom script w 0 now) (numbered : AreNumbered w now) (many : length now ≡ w) where
  abbrev boxes : List Boxed
  boxes = closed.boxes

  run-is : HaveRun script clock boxes w start now
  run-is = closed.run

  back : reverse trace ≡ past_of merged
  back = ap reverse made

  traced : IsTraceOf now (reverse trace)
  traced = record { merged = merged; whole = whole; is = is; trace_is = back }

  owned : AreOwnParts script (parts_of now)
  owned = own script clock boxes w start now run-is

  runs : IsRunOfParts script (parts_of now) merged
  runs = merged_run script (parts_of now) merged owned whole is

  desks : AllByRecursion (IsADesk script clock boxes w) (desks_of now)
  desks = all-desks script clock boxes w now run-is.crews

  desk-of : (d : Desk) → IsIn d (desks_of now) → IsADesk script clock boxes w d
  desk-of d i = each_in (IsADesk script clock boxes w) (desks_of now) d desks i

  own-of : (d : Desk) → IsIn d (desks_of now) → own_entries d.actor (reverse trace) ≡ past_of d.part.items
  own-of d i = ap (own_entries d.actor) back ∙ each_in
      (λ (p : ActorPart). own_entries p.actor (past_of merged) ≡ past_of p.part) (parts_of now) (part_of d) runs.own
      (in_map part_of (desks_of now) d i)

  desk-count : (d : Desk) → IsIn d (desks_of now) → entries_of d.actor (reverse trace) ≡ length d.part.items
  desk-count d i =
      count-own d.actor (reverse trace) ∙ ap length (own-of d i)
      ∙ length-reverse (map (λ (x : Stamped). x.entry) d.part.items) ∙ map-length (λ (x : Stamped). x.entry) d.part.items

  few-entries : (a : Actor) → entries_of a (reverse trace) ≤ MOST_ENTRIES
  few-entries a = by (is_actor script a) refl
    where
      by : (b : Bool) → is_actor script a ≡ b → entries_of a (reverse trace) ≤ MOST_ENTRIES
      by true e =
          let d = (actors_now script clock boxes w start now run-is).all a e in
          let few = (desk-of d.0 d.1).1.few in
          subst (λ b. entries_of b (reverse trace) ≤ MOST_ENTRIES) d.2 (omega (arith, desk-count d.0 d.1, few))
      by false e = omega (arith, no-others script a e (reverse trace) (subst (IsRun script) (sym back) runs.run))

  no-halts : HasNoHalts trace
  no-halts = each_all (λ (x : Entry). is_halt x.input ≡ false) trace (λ x i. halts x (subst (IsIn x) made i))
    where
      halts : (x : Entry) → IsIn x (map (λ (z : Stamped). z.entry) merged) → is_halt x.input ≡ false
      halts x i =
          let z = of_map (λ (z : Stamped). z.entry) merged x i in
          let d = in-parts (desks_of now) z.0 (in_permuted merged (all_of (parts_in (parts_of now))) z.0 (IsPermutation-sym _ _ is.all) z.1) in
          ap (λ (y : Entry). is_halt y.input) z.2 ∙ fed-halt script (reverse d.0.part.items) z.0 (desk-of d.0 d.1).1.fed (in_reverse d.0.part.items z.0 d.2)

  lost-is : lost_by now ≡ lost_in totals
  lost-is = sym (total-map (λ (t : Totals). t.lose) (λ (c : Crew). c.totals) now) ∙ ap (total (λ (t : Totals). t.lose)) (sym totals-are)

  doubled-is : doubled_by now ≡ doubled_in totals
  doubled-is = sym (total-map (λ (t : Totals). t.twice) (λ (c : Crew). c.totals) now) ∙ ap (total (λ (t : Totals). t.twice)) (sym totals-are)

  -- what the actor's entries deliver is what its desk was told
  came : (a : Actor) (d : Desk) → IsIn d (desks_of now) → d.actor ≡ a → delivered_to a trace ≡ told d.part.items
  came a d i e =
      let mine : own_entries a trace ≡ map (λ (x : Stamped). x.entry) d.part.items =
      sym (reverse-twice (own_entries a trace)) ∙ ap reverse (sym (filter-reverse (λ (x : Entry). same_actor x.actor a) trace))
      ∙ ap reverse (subst (λ b. own_entries b (reverse trace) ≡ past_of d.part.items) e (own-of d i))
      ∙ reverse-twice (map (λ (x : Stamped). x.entry) d.part.items) in
      flat-filter (λ (x : Entry). same_actor x.actor a) (λ (x : Entry). told_by a x.input) trace ∙ ap (flat_map (λ (x : Entry). told_by a x.input)) mine
      ∙ told-flat a d.part.items (λ z j. part-actor script d.actor d.part.items z (desk-of d i).1.own j ∙ e)

  posted : (c : Crew) → IsIn c now → (n : ℕ) → ArePostsBy c (reverse trace) (outs_at n c.out.ports.items)
  posted c i n = puts script clock boxes w start now run-is (reverse trace) traced c i n

  port-of : (more : List Entry) → ((n : ℕ) (e : Entry) → entry_at n (reverse trace) ≡ Some e → entry_at n (reverse more) ≡ Some e)
      → (a : Actor) (p : Ported) → IsFirstPort clock now a p
      → IsPrefix (delivered_to a more) (map (λ (s : Sent). s.mailed) (taken_under 0 p.view.lists))
      → IsPortOfActor script w clock more a p
  port-of more stays a p h begins = record {
    names = h.names;
    of_box = h.of_box;
    owner = h.owner;
    of_clock = h.of_clock;
    all = h.all;
    put = λ b i. puts-for script w now numbered dealt trace more posted stays a b (h.put b i);
    alone = h.alone;
    delivered = begins;
    order = h.order;
    once = h.once;
  }

  port-begins : (a : Actor) (p : Ported) → IsFirstPort clock now a p
      → IsPrefix (delivered_to a trace) (map (λ (s : Sent). s.mailed) (taken_under 0 p.view.lists))
  port-begins a p h = let d = desk-of h.desk h.is in
      (d.0, ap (λ l. l ++ d.0) (came a h.desk h.is h.actor) ∙ d.1.told ∙ ap (map (λ (s : Sent). s.mailed)) (sym h.taken))

  port-one : (a : Actor) (p : Ported) → IsFirstPort clock now a p → IsPortOfActor script w clock trace a p
  port-one a p h = port-of trace (λ n e g. g) a p h (port-begins a p h)

  -- with one more entry of a desk's actor
  port-next : (d : Desk) → IsIn d (desks_of now) → (x : Entry) → MayComeNext script (reverse trace) d x
      → (a : Actor) (p : Ported) → IsFirstPort clock now a p → IsPortOfActor script w clock (trace ++ x ∷ []) a p
  port-next d i x next a p h = port-of (trace ++ x ∷ []) (entry-stays trace x) a p h
      (subst (λ l. IsPrefix l (map (λ (s : Sent). s.mailed) (taken_under 0 p.view.lists)))
      (sym (delivered-next a trace x)) (by (same_actor x.actor a) refl))
    where
      by : (b : Bool) → same_actor x.actor a ≡ b → IsPrefix (delivered_to a trace ++ cond b (told_by a x.input) [])
          (map (λ (s : Sent). s.mailed) (taken_under 0 p.view.lists))
      by false e = subst (λ l. IsPrefix l (map (λ (s : Sent). s.mailed) (taken_under 0 p.view.lists)))
          (sym (append-nil (delivered_to a trace))) (port-begins a p h)
      by true e =
          let same : h.desk ≡ d = one_desk (desks_of now) h.desk d
          (actors_now script clock boxes w start now run-is).apart h.is i
          (h.actor ∙ sym (same_actor_is x.actor a e) ∙ next.actor) in
          let all : told h.desk.part.items ++ told_by h.desk.actor x.input ≡ map (λ (s : Sent). s.mailed) (ins_of h.desk.inbox) =
          subst (λ (k : Desk). told k.part.items ++ told_by k.actor x.input ≡ map (λ (s : Sent). s.mailed) (ins_of k.inbox)) (sym same) next.told in (
            [],
            append-nil (delivered_to a trace ++ told_by a x.input) ∙ ap (λ l. l ++ told_by a x.input) (came a h.desk h.is h.actor)
                ∙ ap (λ b. told h.desk.part.items ++ told_by b x.input) (sym h.actor) ∙ all ∙ ap (map (λ (s : Sent). s.mailed)) (sym h.taken),
          )

  -- an actor that a driver met worn
  module _ (c : Crew) (is-in : IsIn c now) (a : Actor) (is-worn : c.fault ≡ Some (Worn a)) where
    the-worn : IsWornAt script run-is.cuts c a
    the-worn = worns script clock boxes w start now run-is c is-in a is-worn

    in-desks : IsIn the-worn.desk (desks_of now)
    in-desks = desk-in now c the-worn.desk is-in the-worn.is

    worn-count : entries_of a (reverse trace) ≡ MOST_ENTRIES
    worn-count = subst (λ b. entries_of b (reverse trace) ≡ MOST_ENTRIES) the-worn.actor (desk-count the-worn.desk in-desks ∙ the-worn.most)

    worn-more : (ports : List Ported) → Both (IsFirstPort clock now) (actors_of script) ports → HasOneMore script w clock trace totals ports a
    worn-more ports p =
        let d : Desk = the-worn.desk in
        let next = goes-on script clock boxes w start now run-is d in-desks the-worn.retry the-worn.more (reverse trace) traced in
        record {
          entry = next.0;
          actor = next.1.actor ∙ the-worn.actor;
          no_halt = no-halt next.0.input next.1.no_halt;
          run = next.1.run;
          paced =
              subst (λ n. IsPaced script (next.0 ∷ reverse trace) n (doubled_in totals)) lost-is
              (subst (λ n. IsPaced script (next.0 ∷ reverse trace) (lost_by now) n) doubled-is (next.2 the-worn.due));
          ports_are = both-map (IsFirstPort clock now) (IsPortOfActor script w clock (trace ++ next.0 ∷ []))
              (port-next d in-desks next.0 next.1) (actors_of script) ports p;
        }

    worn-is : (ports : List Ported) → Both (IsFirstPort clock now) (actors_of script) ports → IsWorn script w clock trace totals ports a
    worn-is ports p = (worn-count, worn-more ports p)

  ends : (worn : Option Actor) → fault ≡ fault_of worn → (ports : List Ported)
      → Both (IsFirstPort clock now) (actors_of script) ports → HasEnd script w clock trace totals ports worn
  ends None e ports p = (
    ended script clock boxes w start now run-is (closed.over.ended e) (reverse trace) traced,
    subst (λ n. IsPacedToEnd script (reverse trace) n (doubled_in totals)) lost-is
        (subst (λ n. IsPacedToEnd script (reverse trace) (lost_by now) n) doubled-is
        (rested script clock boxes w start now run-is (closed.over.rest e) (reverse trace) traced)),
  )
  ends (Some a) e ports p =
      let c = first-in now (Worn a) (sym closed.over.first ∙ e) in (
        worn-is c.0 c.1 a c.2 ports p,
        subst (λ n. IsPaced script (reverse trace) n (doubled_in totals)) lost-is
            (subst (λ n. IsPaced script (reverse trace) (lost_by now) n) doubled-is
            (paced script clock boxes w start now run-is (reverse trace) traced)),
      )

  own-desks : AllByRecursion (λ (d : Desk). IsOwn script d.actor (entries_before d.part.items)) (desks_of now)
  own-desks = each_map (IsADesk script clock boxes w) (λ (d : Desk). IsOwn script d.actor (entries_before d.part.items)) (desks_of now) (λ d i k. k.1.own) desks

  crew-posts : (test : _) (i : ℕ) (c : Crew) → slice_get now i ≡ Some c → posts_by test script w i trace ≡ total (worth script w test) c.desks.items
  crew-posts test i c g = posts-of-crew script w test now merged trace is made own-desks dealt i c g

  total-one : (i : ℕ) (t : Totals) → slice_get totals i ≡ Some t → IsTotalOf script w trace i t
  total-one i t g =
      let c = get-map (λ (c : Crew). c.totals) now i t (subst (λ l. slice_get l i ≡ Some t) totals-are g) in
      let k = each_in (IsCrew script clock boxes w) now c.0 run-is.crews (get-in now i c.0 c.1) in
      subst (IsTotalOf script w trace i) c.2 (record { sum = k.total; posts = booked-posts script w c.0 k.booked ∙ sym (crew-posts is_any i c.0 c.1) })

  all-totals : AreTotalsOf script w trace totals
  all-totals = record { count = ap length totals-are ∙ map-length (λ (c : Crew). c.totals) now ∙ many; each = total-one }

  pub is-ran : (seat : Seated) → seat.clock ≡ clock → IsDrawn seat.view trace → (worn : Option Actor) → fault ≡ fault_of worn
      → (ports : List Ported) → Both (IsFirstPort clock now) (actors_of script) ports → IsRan script w trace seat totals ports worn
  is-ran seat same drawn worn e ports p = record {
    run = subst (IsRun script) (sym back) runs.run;
    no_halts = no-halts;
    few = few-entries;
    drawn = drawn;
    end = subst (λ k. HasEnd script w k trace totals ports worn) (sym same) (ends worn e ports p);
    totals_are = all-totals;
    ports_are = subst (λ k. ArePortsOfActors script w k trace ports) (sym same)
        (both-map (IsFirstPort clock now) (IsPortOfActor script w clock trace) port-one (actors_of script) ports p);
  }

  pub has-risen : (i : ℕ) (t : Totals) (f f' : FateState) → ((c : Crew) → slice_get now i ≡ Some c → HasPosted c f f')
      → slice_get totals i ≡ Some t → HasRisen script w trace i t f f'
  has-risen i t f f' posted g =
      let c = get-map (λ (c : Crew). c.totals) now i t (subst (λ l. slice_get l i ≡ Some t) totals-are g) in
      subst (λ u. HasRisen script w trace i u f f') c.2 (posted-risen script w trace i c.0 f f' (crew-posts is_asked i c.0 c.1) (posted c.0 c.1))

  -- ---- what each driver met
  met-one : (ports : List Ported) → Both (IsFirstPort clock now) (actors_of script) ports → (i : ℕ) (a : Actor)
      → slice_get (map (λ (c : Crew). worn_in c.fault) now) i ≡ Some (Some a) → (is_dealt script w i a ≡ true)
      × IsWorn script w clock trace totals ports a
  met-one ports p i a g =
      let c = get-map (λ (c : Crew). worn_in c.fault) now i (Some a) g in
      let k = get-in now i c.0 c.1 in
      let is-worn : c.0.fault ≡ Some (Worn a) = worn-fault c.0.fault a c.2 in
      let d = the-worn c.0 k a is-worn in
      (ap (is_dealt script w i) (sym d.actor) ∙ dealt-at script w now c.0 dealt i c.1 d.desk d.is, worn-is c.0 k a is-worn ports p)

  pub have-met : (seat : Seated) → seat.clock ≡ clock → (met : List (Option Actor))
      → met ≡ map (λ (c : Crew). worn_in c.fault) now → (ports : List Ported)
      → Both (IsFirstPort clock now) (actors_of script) ports
      → HaveMetWorn script w seat.clock trace totals ports met
  have-met seat same met e ports p = subst (λ k. HaveMetWorn script w k trace totals ports met) (sym same) (record {
    count = ap length e ∙ map-length (λ (c : Crew). worn_in c.fault) now ∙ many;
    each = λ i a g. met-one ports p i a (subst (λ l. slice_get l i ≡ Some (Some a)) e g);
  })

  pub lowest-told : (worn : Option Actor) → fault ≡ fault_of worn → (met : List (Option Actor))
      → met ≡ map (λ (c : Crew). worn_in c.fault) now → worn ≡ lowest_of met
  lowest-told worn e met is = lowest-worn now worn (sym closed.over.first ∙ e) ∙ ap lowest_of (sym is)
