-- The parts of all actors, merged, are a run.
use Rattle.std.specs.List.{IsDistinct}
use Rattle.hx_law_lemmas.proofs.Lemmas.Vocabulary.{[], Actor, AllByRecursion, ap, arith, Bool, cond, cond_both, Deliver, Entry, false, filter, Halt, has_halted}
use Rattle.hx_law_lemmas.proofs.Lemmas.Vocabulary.{inl, Input, inr, is_actor, IsIn, IsPermutation-sym, IsRun, IsStep, IsStrictlyIncreasing, List, made_of, map}
use Rattle.hx_law_lemmas.proofs.Lemmas.Vocabulary.{MayTake, Post, post_named, PostId, refl, reverse, same_actor, Script, Some, subst, sym, Tick, true}
use Rattle.hx_law_lemmas.proofs.Lemmas.Vocabulary.{true≢false, ℕ, ∥∥₁_elim, ∥∥₁_map, ⊎_elim, ◌<◌, ◌∙◌, ◌∷◌, ◌≡◌, ◌≤◌}
use Rattle.hx_law_lemmas.proofs.Lemmas.{map-in, in-map}
use Rattle.hx_clock.specs.declared.parts.Stamped.{Stamped}
use Rattle.hx_clock.specs.Parts.{all_of, stamps_of, DeliveryMeets, InputMeets, IsPostedBefore, Posted}
use Rattle.hx_clock.proofs.Lemmas.{each_all, each_in, in_left, in_right, meets_more}
use Rattle.hx_law_threads.specs.Own.{own_entries, past_of, IsOwn, IsOwnStep, MayHalt}
use Rattle.hx_law_threads.specs.Merged.{actors_in, parts_in, ActorPart, AreOwnParts, AreWholeParts, IsMerged, IsOwnPart}
use Rattle.hx_law_threads.specs.Laws.{IsRunOfParts}
use Rattle.hx_law_threads.proofs.Actors.{same_actor_is, same_as_itself}
use Rattle.hx_law_threads.proofs.States.{halted_own, made_own}
use Rattle.hx_law_threads.proofs.Lists.{falls, filter_falls, in_append, in_filter, in_permuted, in_reverse, map_reverse, of_filter, of_reverse}
use Rattle.hx_law_threads.proofs.Lists.{same_falling}
use Rattle.hx_law_threads.proofs.Sets.{posts_set}
use Rattle.hx_law_threads.proofs.Places.{are_counted, counted_below, entries, post_found, AreCounted}

-- the entries of an actor
abbrev pub mine : Actor → List Stamped → List Stamped
mine a ms = filter (λ (x : Stamped). same_actor x.entry.actor a) ms

own-case : (b : Bool) (x : Stamped) (es : List Entry) (ms : List Stamped) → es ≡ entries ms → cond b (x.entry ∷ es) es ≡ entries (cond b (x ∷ ms) ms)
own-case true x es ms e = ap (λ l. x.entry ∷ l) e
own-case false x es ms e = e

pub own_mine : (a : Actor) (ms : List Stamped) → own_entries a (entries ms) ≡ entries (mine a ms)
own_mine a [] = refl
own_mine a (x ∷ ms) = own-case (same_actor x.entry.actor a) x (own_entries a (entries ms)) (mine a ms) (own_mine a ms)

pub past_is : (part : List Stamped) → past_of part ≡ entries (reverse part)
past_is part = sym (map_reverse (λ (x : Stamped). x.entry) part)

-- what is known of merged parts, newest first, up to an entry
pub record AreSteps (script : Script) (whole : List ActorPart) (ms : List Stamped) : Type 0 where
  pub counted : AreCounted ms
  pub own : (p : ActorPart) → IsIn p whole → IsOwn script p.actor (entries (mine p.actor ms))
  pub known : (z : Stamped) → IsIn z ms → (p : ActorPart) × IsIn p whole × (z.entry.actor ≡ p.actor)
  pub caused : (z : Stamped) → IsIn z ms → DeliveryMeets (IsPostedBefore ms z.stamp.0) z.entry

-- a post of an entry with a smaller stamp is one of an older entry
posted_older : (x : Stamped) (older : List Stamped) (n : ℕ) (id : PostId) (p : Post) → n ≤ x.stamp.0
    → IsPostedBefore (x ∷ older) n id p → IsPostedBefore older n id p
posted_older x older n id p le h =
    ∥∥₁_map h
    (λ (y : (z : Stamped) × IsIn z (x ∷ older) × (z.stamp.0 < n) × Posted z id p).
    (y.0, ⊎_elim (λ (e : y.0 ≡ x). absurd (omega (arith, le, y.2, ap (λ (z : Stamped). z.stamp.0) e))) (λ (j : IsIn y.0 older). j) y.1, y.2, y.3))

older_steps : (script : Script) (whole : List ActorPart) (x : Stamped) (older : List Stamped) → AreSteps script whole (x ∷ older) → AreSteps script whole older
older_steps script whole x older s = record {
  counted = s.counted.1;
  own = λ p i.
      cond_both (same_actor x.entry.actor p.actor) (x ∷ mine p.actor older) (mine p.actor older)
      (λ l. IsOwn script p.actor (entries l) → IsOwn script p.actor (entries (mine p.actor older))) (λ t h. h.1) (λ t h. h) (s.own p i);
  known = λ z i. s.known z (inr i);
  caused = λ z i.
      meets_more z.entry _ _
      (λ id p h. posted_older x older z.stamp.0 id p (omega (arith, counted_below older z s.counted.1 i, s.counted.0)) h) (s.caused z (inr i));
}

may_take : (older : List Entry) (a : Actor) (input : Input) → MayHalt a input
    → InputMeets (λ id p. post_named id older ≡ Some p) a input → MayTake older a input
may_take older a Tick h m = tt
may_take older a Halt h m = h
may_take older a (Deliver id from message) h m = m

module _ (script : Script) (whole : List ActorPart) (actors : (p : ActorPart) → IsIn p whole → is_actor script p.actor ≡ true) where
  first_step : (x : Stamped) (older : List Stamped) → AreSteps script whole (x ∷ older) → IsStep script (entries older) x.entry
  first_step x older s =
      let k = s.known x (inl refl) in
      let a : Actor = k.0.actor in
      let who : x.entry.actor ≡ a = k.2 in
      let here : same_actor x.entry.actor a ≡ true = ap (λ b. same_actor b a) who ∙ same_as_itself a in
      let own : IsOwn script a (entries (x ∷ mine a older)) =
      subst (λ b. IsOwn script a (entries (cond b (x ∷ mine a older) (mine a older)))) here (s.own k.0 k.1) in
      let step : IsOwnStep script a (own_entries a (entries older)) x.entry = subst (λ l. IsOwnStep script a l x.entry) (sym (own_mine a older)) own.0 in
      let found = meets_more x.entry _ (λ id p. post_named id (entries older) ≡ Some p)
      (λ id p h.
      ∥∥₁_elim (posted_older x older x.stamp.0 id p (omega arith) h) (posts_set _ _)
      (λ (y : (z : Stamped) × IsIn z older × (z.stamp.0 < x.stamp.0) × Posted z id p). post_found older y.0 id p s.counted.1 y.1 y.3))
      (s.caused x (inl refl)) in
      record {
        actor = ap (is_actor script) who ∙ actors k.0 k.1;
        running = ap (has_halted script (entries older)) who ∙ sym (halted_own script (entries older) a) ∙ step.running;
        input = may_take (entries older) x.entry.actor x.entry.input (subst (λ (b : Actor). MayHalt b x.entry.input) (sym who) step.input) found;
        made = ap (λ (b : Actor). made_of script (entries older) b x.entry.input) who ∙ sym (made_own script (entries older) a x.entry.input) ∙ step.made;
        enough = step.enough;
      }

  steps_run : (ms : List Stamped) → AreSteps script whole ms → IsRun script (entries ms)
  steps_run [] s = tt
  steps_run (x ∷ older) s = (first_step x older s, steps_run older (older_steps script whole x older s))

-- an entry of all parts is one of a part
in_all : (whole : List ActorPart) (z : Stamped) → IsIn z (all_of (parts_in whole)) → (p : ActorPart) × IsIn p whole × IsIn z p.part
in_all [] z i = absurd i
in_all (p ∷ whole) z i =
    ⊎_elim (λ (j : IsIn z p.part). (p, inl refl, j)) (λ (j : IsIn z (all_of (parts_in whole))). let r = in_all whole z j in (r.0, inr r.1, r.2))
    (in_append p.part (all_of (parts_in whole)) z i)

all_in : (whole : List ActorPart) (p : ActorPart) (z : Stamped) → IsIn p whole → IsIn z p.part → IsIn z (all_of (parts_in whole))
all_in [] p z i j = absurd i
all_in (q ∷ whole) p z (inl e) j = in_left z q.part (all_of (parts_in whole)) (subst (λ (r : ActorPart). IsIn z r.part) e j)
all_in (q ∷ whole) p z (inr i) j = in_right z q.part (all_of (parts_in whole)) (all_in whole p z i j)

-- the entries of a part are the actor's
by_actor : (script : Script) (a : Actor) (ms : List Stamped) (z : Stamped) → IsOwn script a (entries ms) → IsIn z ms → z.entry.actor ≡ a
by_actor script a [] z o i = absurd i
by_actor script a (x ∷ ms) z o (inl e) = ap (λ (y : Stamped). y.entry.actor) e ∙ o.0.actor
by_actor script a (x ∷ ms) z o (inr i) = by_actor script a ms z o.1 i

apart : (r q : ActorPart) (whole : List ActorPart) → AllByRecursion (λ a. same_actor r.actor a ≡ false) (actors_in whole) → IsIn q whole → r.actor ≡ q.actor → ⊥
apart r q whole d j e =
    true≢false (sym (ap (same_actor r.actor) (sym e) ∙ same_as_itself r.actor)
    ∙ each_in (λ a. same_actor r.actor a ≡ false) (actors_in whole) q.actor d (map-in (λ (o : ActorPart). o.actor) whole q j))

-- each actor has one part
one_part : (whole : List ActorPart) (p q : ActorPart) → IsDistinct same_actor (actors_in whole) → IsIn p whole → IsIn q whole → p.actor ≡ q.actor → p ≡ q
unfolding IsDistinct
one_part [] p q d i j e = absurd i
one_part (r ∷ whole) p q d (inl s) (inl t) e = s ∙ sym t
one_part (r ∷ whole) p q d (inl s) (inr j) e = absurd (apart r q whole d.0 j (ap (λ (o : ActorPart). o.actor) (sym s) ∙ e))
one_part (r ∷ whole) p q d (inr i) (inl t) e = absurd (apart r p whole d.0 i (ap (λ (o : ActorPart). o.actor) (sym t) ∙ sym e))
one_part (r ∷ whole) p q d (inr i) (inr j) e = one_part whole p q d.1 i j e

module _ (script : Script) (whole : List ActorPart) (merged : List Stamped) (o : AreOwnParts script whole)
    (w : AreWholeParts (parts_in whole)) (m : IsMerged (parts_in whole) merged) where
  into : (z : Stamped) → IsIn z (all_of (parts_in whole)) → IsIn z (reverse merged)
  into z i = in_reverse merged z (in_permuted _ _ z m.all i)

  back : (z : Stamped) → IsIn z (reverse merged) → IsIn z (all_of (parts_in whole))
  back z i = in_permuted _ _ z (IsPermutation-sym _ _ m.all) (of_reverse merged z i)

  own_of_part : (p : ActorPart) → IsIn p whole → IsOwn script p.actor (entries (reverse p.part))
  own_of_part p i = subst (IsOwn script p.actor) (past_is p.part) (each_in (IsOwnPart script) whole p o.own i).1

  actor_in : (p : ActorPart) (z : Stamped) → IsIn p whole → IsIn z p.part → z.entry.actor ≡ p.actor
  actor_in p z i j = by_actor script p.actor (reverse p.part) z (own_of_part p i) (in_reverse p.part z j)

  pub mine_is : (p : ActorPart) → IsIn p whole → mine p.actor (reverse merged) ≡ reverse p.part
  mine_is p i =
      same_falling (λ (x : Stamped). x.stamp.0) (mine p.actor (reverse merged)) (reverse p.part)
      (filter_falls (λ (x : Stamped). x.stamp.0) (λ (x : Stamped). same_actor x.entry.actor p.actor) (reverse merged)
      (falls (λ (x : Stamped). x.stamp.0) merged m.by_stamp))
      (falls (λ (x : Stamped). x.stamp.0) p.part
      (each_in (λ part. IsStrictlyIncreasing (stamps_of part)) (parts_in whole) p.part w.causal.ascend (map-in (λ (q : ActorPart). q.part) whole p i)))
      (λ z j.
      let f = of_filter (λ (x : Stamped). same_actor x.entry.actor p.actor) (reverse merged) z j in
      let a = in_all whole z (back z f.0) in
      let same : a.0 ≡ p = one_part whole a.0 p o.apart a.1 i (sym (actor_in a.0 z a.1 a.2) ∙ same_actor_is z.entry.actor p.actor f.1) in
      in_reverse p.part z (subst (λ (q : ActorPart). IsIn z q.part) same a.2))
      (λ z j.
      let k = of_reverse p.part z j in
      in_filter (λ (x : Stamped). same_actor x.entry.actor p.actor) (reverse merged) z (into z (all_in whole p z i k))
      (ap (λ b. same_actor b p.actor) (actor_in p z i k) ∙ same_as_itself p.actor))

  posted_in : (n : ℕ) (id : PostId) (p : Post) → IsPostedBefore (all_of (parts_in whole)) n id p → IsPostedBefore (reverse merged) n id p
  posted_in n id p h =
      ∥∥₁_map h (λ (y : (x : Stamped) × IsIn x (all_of (parts_in whole)) × (x.stamp.0 < n) × Posted x id p). (y.0, into y.0 y.1, y.2, y.3))

  pub all_steps : AreSteps script whole (reverse merged)
  all_steps = record {
    counted = are_counted (parts_in whole) merged w m;
    own = λ p i. subst (λ l. IsOwn script p.actor (entries l)) (sym (mine_is p i)) (own_of_part p i);
    known = λ z i. let a = in_all whole z (back z i) in (a.0, a.1, actor_in a.0 z a.1 a.2);
    caused = λ z i.
        meets_more z.entry _ _
        (λ id p h. posted_in z.stamp.0 id p h)
        (each_in (λ (x : Stamped). DeliveryMeets (IsPostedBefore (all_of (parts_in whole)) x.stamp.0) x.entry)
        (all_of (parts_in whole)) z w.causal.caused (back z i));
  }

  pub merged_run : IsRunOfParts script whole merged
  merged_run = record {
    run = subst (IsRun script) (sym (past_is merged))
        (steps_run script whole (λ p i. (each_in (IsOwnPart script) whole p o.own i).0) (reverse merged) all_steps);
    own = each_all (λ (p : ActorPart). own_entries p.actor (past_of merged) ≡ past_of p.part) whole
        (λ p i. ap (own_entries p.actor) (past_is merged) ∙ own_mine p.actor (reverse merged) ∙ ap entries (mine_is p i) ∙ sym (past_is p.part));
  }

-- an entry of the trace is one of a part
pub of_parts : (parts : List (List Stamped)) (merged : List Stamped) → IsMerged parts merged → (x : Entry) → IsIn x (past_of merged)
    → (z : Stamped) × IsIn z (all_of parts) × (x ≡ z.entry)
of_parts parts merged m x i =
    let r = in-map (λ (z : Stamped). z.entry) merged x (of_reverse (map (λ (z : Stamped). z.entry) merged) x i) in
    (r.0, in_permuted merged (all_of parts) r.0 (IsPermutation-sym _ _ m.all) r.1, r.2)

-- its posts are found by their names
pub posts_found : (parts : List (List Stamped)) (merged : List Stamped) → AreWholeParts parts → IsMerged parts merged
    → (z : Stamped) (id : PostId) (p : Post) → IsIn z (all_of parts) → Posted z id p → post_named id (past_of merged) ≡ Some p
posts_found parts merged w m z id p i posted =
    ap (post_named id) (past_is merged) ∙ post_found (reverse merged) z id p (are_counted parts merged w m)
    (in_reverse merged z (in_permuted _ _ z m.all i)) posted
