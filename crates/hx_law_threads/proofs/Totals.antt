-- The entries of a cut, counted part by part.
use Rattle.std.specs.List.{IsDistinct}
use Rattle.hx_law_lemmas.proofs.Lemmas.Vocabulary.{[], Actor, ap, arith, Bool, cond, cond_both, entries_of, Entry, false, inl, inr, IsIn, le-ltb, length}
use Rattle.hx_law_lemmas.proofs.Lemmas.Vocabulary.{length-append, List, lt-ltb, ltb-false, ltb-true, nat_lt, refl, reverse, same_actor, Script, subst, suc, sym}
use Rattle.hx_law_lemmas.proofs.Lemmas.Vocabulary.{take, true, true≢false, zero, ℕ, ◌++◌, ◌+◌, ◌∙◌, ◌∷◌, ◌≡◌}
use Rattle.hx_law_lemmas.proofs.Lemmas.{map-in}
use Rattle.hx_clock.specs.declared.parts.Stamped.{Stamped}
use Rattle.hx_clock.specs.Views.{total}
use Rattle.hx_clock.proofs.Lemmas.{each_in}
use Rattle.hx_law_threads.specs.Own.{past_of}
use Rattle.hx_law_threads.specs.Merged.{actors_in, parts_in, ActorPart, AreOwnParts, AreWholeParts, IsMerged}
use Rattle.hx_law_threads.specs.Cuts.{Cut}
use Rattle.hx_law_threads.specs.Counting.{total_at, total_of_parts, total_over}
use Rattle.hx_law_threads.proofs.Actors.{same_actor_is, same_as_itself}
use Rattle.hx_law_threads.proofs.Lists.{reverse_cons}
use Rattle.hx_law_threads.proofs.Places.{are_counted, entries, length-entries, AreCounted}
use Rattle.hx_law_threads.proofs.Runs.{all_steps, mine, mine_is, past_is, AreSteps}

module _ (f : ℕ → Entry → ℕ) where
  -- what an entry counts for
  abbrev worth : Stamped → ℕ
  worth x = f (x.stamp.0 + 1) x.entry

  -- the first n entries of an actor, newest first
  abbrev total_own : ℕ → List Stamped → ℕ
  total_own n [] = 0
  total_own n (x ∷ older) = total_own n older + cond (nat_lt (length older) n) (worth x) 0

  -- the entries of a cut
  abbrev total_cut : Cut → List Stamped → ℕ
  total_cut cut [] = 0
  total_cut cut (x ∷ older) = total_cut cut older + cond (nat_lt (length (mine x.entry.actor older)) (cut x.entry.actor)) (worth x) 0

count-mine : (a : Actor) (ms : List Stamped) → entries_of a (entries ms) ≡ length (mine a ms)
count-mine a [] = refl
count-mine a (x ∷ ms) = by (same_actor x.entry.actor a) (count-mine a ms)
  where
    by : (b : Bool) → entries_of a (entries ms) ≡ length (mine a ms)
        → cond b (entries_of a (entries ms) + 1) (entries_of a (entries ms)) ≡ length (cond b (x ∷ mine a ms) (mine a ms))
    by true e = omega (arith, e)
    by false e = e

trace_total : (f : ℕ → Entry → ℕ) (cut : Cut) (ms : List Stamped) → AreCounted ms → total_at f cut (entries ms) ≡ total_cut f cut ms
trace_total f cut [] c = refl
trace_total f cut (x ∷ ms) c =
    let number : length (entries ms) + 1 ≡ x.stamp.0 + 1 = omega (arith, length-entries ms, c.0) in
    ap (λ n. total_at f cut (entries ms) + cond (nat_lt n (cut x.entry.actor)) (f (length (entries ms) + 1) x.entry) 0) (count-mine x.entry.actor ms)
    ∙ ap (λ n. total_at f cut (entries ms) + cond (nat_lt (length (mine x.entry.actor ms)) (cut x.entry.actor)) (f n x.entry) 0) number
    ∙ ap (λ t. t + cond (nat_lt (length (mine x.entry.actor ms)) (cut x.entry.actor)) (worth f x) 0) (trace_total f cut ms c.1)

pub total_same : {A : Type 0} (g h : A → ℕ) (xs : List A) → ((x : A) → IsIn x xs → g x ≡ h x) → total g xs ≡ total h xs
total_same g h [] e = refl
total_same g h (x ∷ xs) e = omega (arith, e x (inl refl), total_same g h xs (λ y i. e y (inr i)))

-- one of the items counts more
total_more : (g h : ActorPart → ℕ) (w : ℕ) (whole : List ActorPart) (p : ActorPart) → IsDistinct same_actor (actors_in whole) → IsIn p whole → g p ≡ h p + w
    → ((q : ActorPart) → IsIn q whole → same_actor p.actor q.actor ≡ false → g q ≡ h q)
    → ((q : ActorPart) → IsIn q whole → same_actor q.actor p.actor ≡ false → g q ≡ h q)
    → total g whole ≡ total h whole + w
unfolding IsDistinct
total_more g h w [] p d i more left right = absurd i
total_more g h w (q ∷ whole) p d (inl e) more left right =
    let rest : total g whole ≡ total h whole =
    total_same g h whole
    (λ r j. left r (inr j) (ap (λ (z : ActorPart). same_actor z.actor r.actor) e
    ∙ each_in (λ a. same_actor q.actor a ≡ false) (actors_in whole) r.actor d.0
    (map-in (λ (z : ActorPart). z.actor) whole r j))) in
    let here : g q ≡ h q + w = subst (λ z. g z ≡ h z + w) e more in
    omega (arith, rest, here)
total_more g h w (q ∷ whole) p d (inr i) more left right =
    let here : g q ≡ h q = right q (inl refl) (each_in (λ a. same_actor q.actor a ≡ false)
    (actors_in whole) p.actor d.0 (map-in (λ (z : ActorPart). z.actor) whole p i)) in
    let rest = total_more g h w whole p d.1 i more (λ r j. left r (inr j)) (λ r j. right r (inr j)) in
    omega (arith, rest, here)

total_none : {A : Type 0} (xs : List A) → total (λ (x : A). 0) xs ≡ 0
total_none [] = refl
total_none (x ∷ xs) = omega (arith, total_none xs)

parts_total : (f : ℕ → Entry → ℕ) (cut : Cut) (whole : List ActorPart) → IsDistinct same_actor (actors_in whole) → (ms : List Stamped)
    → ((z : Stamped) → IsIn z ms → (p : ActorPart) × IsIn p whole × (z.entry.actor ≡ p.actor))
    → total_cut f cut ms ≡ total (λ (p : ActorPart). total_own f (cut p.actor) (mine p.actor ms)) whole
parts_total f cut whole d [] known = sym (total_none whole)
parts_total f cut whole d (x ∷ ms) known =
    let k = known x (inl refl) in
    let w : ℕ = cond (nat_lt (length (mine x.entry.actor ms)) (cut x.entry.actor)) (worth f x) 0 in
    let rest = parts_total f cut whole d ms (λ z i. known z (inr i)) in
    let more =
    total_more (λ (p : ActorPart). total_own f (cut p.actor) (mine p.actor (x ∷ ms)))
    (λ (p : ActorPart). total_own f (cut p.actor) (mine p.actor ms)) w whole k.0 d k.1
    (ap (λ b. total_own f (cut k.0.actor) (cond b (x ∷ mine k.0.actor ms) (mine k.0.actor ms)))
    (ap (λ a. same_actor a k.0.actor) k.2 ∙ same_as_itself k.0.actor)
    ∙ ap (λ (a : Actor). total_own f (cut k.0.actor) (mine k.0.actor ms) + cond (nat_lt (length (mine a ms)) (cut a)) (worth f x) 0) (sym k.2))
    (λ q i e. ap (λ b. total_own f (cut q.actor) (cond b (x ∷ mine q.actor ms) (mine q.actor ms))) (ap (λ a. same_actor a q.actor) k.2 ∙ e))
    (λ q i e. ap (λ b. total_own f (cut q.actor) (cond b (x ∷ mine q.actor ms) (mine q.actor ms))) (flipped x.entry.actor k.0.actor q.actor k.2 e)) in
    ap (λ t. t + w) rest ∙ sym more
  where
    flipped : (a b c : Actor) → a ≡ b → same_actor c b ≡ false → same_actor a c ≡ false
    flipped a b c e off = by (same_actor a c) refl
      where
        by : (v : Bool) → same_actor a c ≡ v → same_actor a c ≡ false
        by false t = t
        by true t = absurd (true≢false (sym (ap (λ z. same_actor z b) (sym (same_actor_is a c t) ∙ e) ∙ same_as_itself b) ∙ off))

module _ (f : ℕ → Entry → ℕ) where
  own_none : (ms : List Stamped) → total_own f 0 ms ≡ 0
  own_none [] = refl
  own_none (x ∷ ms) =
      cond_both (nat_lt (length ms) 0) (worth f x) 0 (λ w. total_own f 0 ms + w ≡ 0)
      (λ t. absurd (omega (arith, ltb-true (length ms) 0 t))) (λ t. omega (arith, own_none ms))

  next-lt : (a n : ℕ) → nat_lt (suc a) (suc n) ≡ nat_lt a n
  next-lt a n =
      cond_both (nat_lt a n) true false (λ b. nat_lt (suc a) (suc n) ≡ b) (λ t. lt-ltb (suc a) (suc n) (omega (arith, ltb-true a n t)))
      (λ t. le-ltb (suc a) (suc n) (omega (arith, ltb-false a n t)))
      ∙ same (nat_lt a n)
    where
      same : (b : Bool) → cond b true false ≡ b
      same true = refl
      same false = refl

  -- the oldest entry comes first
  own_first : (n : ℕ) (ms : List Stamped) (x : Stamped) → total_own f (suc n) (ms ++ x ∷ []) ≡ worth f x + total_own f n ms
  own_first n [] x = ap (λ b. 0 + cond b (worth f x) 0) (lt-ltb 0 (suc n) (omega arith)) ∙ omega arith
  own_first n (y ∷ ms) x =
      let long : length (ms ++ x ∷ []) ≡ suc (length ms) = omega (arith, length-append ms (x ∷ [])) in
      let rest = own_first n ms x in
      ap (λ k. total_own f (suc n) (ms ++ x ∷ []) + cond (nat_lt k (suc n)) (worth f y) 0) long
      ∙ ap (λ b. total_own f (suc n) (ms ++ x ∷ []) + cond b (worth f y) 0) (next-lt (length ms) n)
      ∙ omega (arith, rest)

  own_total : (n : ℕ) (part : List Stamped) → total_own f n (reverse part) ≡ total_over f (take n part)
  own_total zero part = own_none (reverse part)
  own_total (suc n) [] = refl
  own_total (suc n) (x ∷ part) = ap (total_own f (suc n)) (reverse_cons x part) ∙ own_first n (reverse part) x ∙ ap (λ t. worth f x + t) (own_total n part)

pub cuts_add_up : (script : Script) (whole : List ActorPart) (merged : List Stamped) → AreOwnParts script whole
    → AreWholeParts (parts_in whole) → IsMerged (parts_in whole) merged
    → (f : ℕ → Entry → ℕ) (cut : Cut) → total_at f cut (past_of merged) ≡ total_of_parts f cut whole
cuts_add_up script whole merged o w m f cut =
    let steps : AreSteps script whole (reverse merged) = all_steps script whole merged o w m in
    ap (total_at f cut) (past_is merged) ∙ trace_total f cut (reverse merged)
    (are_counted (parts_in whole) merged w m) ∙ parts_total f cut whole o.apart (reverse merged) steps.known
    ∙ total_same (λ (p : ActorPart). total_own f (cut p.actor) (mine p.actor (reverse merged)))
    (λ (p : ActorPart). total_over f (take (cut p.actor) p.part)) whole
    (λ p i. ap (total_own f (cut p.actor)) (mine_is script whole merged o w m p i) ∙ own_total f (cut p.actor) p.part)
