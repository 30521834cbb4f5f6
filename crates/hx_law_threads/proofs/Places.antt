-- Merged whole parts: each entry stands at the place of its stamp, and its posts are found by its number.
use Rattle.hx_law_lemmas.proofs.Lemmas.Vocabulary.{[], ap, arith, below, cond_both, Entry, entry_at, eq-eqb, eqb, eqb-true, inl, inr, IsIn, IsPermutation}
use Rattle.hx_law_lemmas.proofs.Lemmas.Vocabulary.{IsPermutation-map, IsPermutation-sym, IsStrictlyIncreasing, length, length-append, List, map, map-id, None}
use Rattle.hx_law_lemmas.proofs.Lemmas.Vocabulary.{Post, post_named, PostId, refl, reverse, reverse-reverse, Some, subst, suc, sym, true≢false, when_some, zero}
use Rattle.hx_law_lemmas.proofs.Lemmas.Vocabulary.{ℕ, ⊤, ◌+◌, ◌<◌, ◌∙◌, ◌∷◌, ◌≡◌}
use Rattle.std.proofs.Common.{slice_get}
use Rattle.hx_clock.specs.declared.parts.Stamped.{Stamped}
use Rattle.hx_clock.specs.Parts.{all_of, stamps_of, HasStampsBelow, Posted}
use Rattle.hx_law_threads.specs.Merged.{AreWholeParts, HasStampsAsPlaces, IsMerged}
use Rattle.hx_law_threads.proofs.Lists.{below_falls, falls, in_permuted, in_reverse, map_reverse, of_reverse, reverse_snoc, same_falling}

abbrev pub entries : List Stamped → List Entry
entries ms = map (λ (x : Stamped). x.entry) ms

-- each stamp is the number of older entries
abbrev pub AreCounted : List Stamped → Type 0
AreCounted [] = ⊤
AreCounted (x ∷ older) = (x.stamp.0 ≡ length older) × AreCounted older

pub length-entries : (ms : List Stamped) → length (entries ms) ≡ length ms
length-entries [] = refl
length-entries (x ∷ ms) = omega (arith, length-entries ms)

pub counted_below : (ms : List Stamped) (z : Stamped) → AreCounted ms → IsIn z ms → z.stamp.0 < length ms
counted_below [] z c i = absurd i
counted_below (x ∷ ms) z c (inl e) = omega (arith, ap (λ (y : Stamped). y.stamp.0) e, c.0)
counted_below (x ∷ ms) z c (inr i) = let r = counted_below ms z c.1 i in omega (arith, r)

-- the entry of a stamp has the next number
pub entry_found : (ms : List Stamped) (z : Stamped) (n : ℕ) → AreCounted ms → IsIn z ms → n ≡ z.stamp.0 + 1 → entry_at n (entries ms) ≡ Some z.entry
entry_found [] z n c i e = absurd i
entry_found (x ∷ ms) z n c (inl s) e =
    cond_both (eqb n (length (entries ms) + 1)) (Some x.entry) (entry_at n (entries ms)) (λ o. o ≡ Some z.entry)
    (λ t. ap (λ (y : Stamped). Some y.entry) (sym s))
    (λ t. absurd (true≢false (sym (eq-eqb n (length (entries ms) + 1) (omega (arith, e, ap (λ (y : Stamped). y.stamp.0) s, c.0, length-entries ms))) ∙ t)))
entry_found (x ∷ ms) z n c (inr i) e =
    cond_both (eqb n (length (entries ms) + 1)) (Some x.entry) (entry_at n (entries ms)) (λ o. o ≡ Some z.entry)
    (λ t. absurd (omega (arith, eqb-true n (length (entries ms) + 1) t, e, counted_below ms z c.1 i, length-entries ms)))
    (λ t. entry_found ms z n c.1 i e)

pub post_found : (ms : List Stamped) (z : Stamped) (id : PostId) (p : Post) → AreCounted ms → IsIn z ms → Posted z id p → post_named id (entries ms) ≡ Some p
post_found ms z id p c i posted =
    ap (λ o. when_some o None (λ (x : Entry). slice_get x.outputs id.place)) (entry_found ms z id.entry c i (sym posted.0)) ∙ posted.1

counted_from : (n : ℕ) (ms : List Stamped) → stamps_of ms ≡ reverse (below n) → AreCounted ms × (length ms ≡ n)
counted_from zero [] e = (tt, refl)
counted_from zero (x ∷ ms) e = absurd (cc)
counted_from (suc n) [] e = absurd (omega (arith, ap length (e ∙ reverse_snoc n (below n))))
counted_from (suc n) (x ∷ ms) e =
    let same : stamps_of (x ∷ ms) ≡ n ∷ reverse (below n) = e ∙ reverse_snoc n (below n) in
    let r = counted_from n ms (cc) in
    let here : x.stamp.0 ≡ n = cc in
    ((omega (arith, here, r.1), r.0), omega (arith, r.1))

-- the stamps in reverse are the numbers in reverse
reversed_stamps : (parts : List (List Stamped)) (merged : List Stamped) (n : ℕ) → HasStampsBelow n parts
    → IsMerged parts merged → reverse (stamps_of merged) ≡ reverse (below n)
reversed_stamps parts merged n drawn m =
    let perm : IsPermutation (stamps_of (all_of parts)) (stamps_of merged) = IsPermutation-map _ _ _ m.all in
    same_falling (λ (k : ℕ). k) (reverse (stamps_of merged)) (reverse (below n))
    (falls (λ (k : ℕ). k) (stamps_of merged) (subst IsStrictlyIncreasing (sym (map-id (stamps_of merged))) m.by_stamp)) (below_falls n)
    (λ k i. in_reverse (below n) k (in_permuted _ _ k (IsPermutation-sym _ _ drawn)
    (in_permuted _ _ k (IsPermutation-sym _ _ perm) (of_reverse (stamps_of merged) k i))))
    (λ k i. in_reverse (stamps_of merged) k (in_permuted _ _ k perm (in_permuted _ _ k drawn (of_reverse (below n) k i))))

pub are_counted : (parts : List (List Stamped)) (merged : List Stamped) → AreWholeParts parts → IsMerged parts merged → AreCounted (reverse merged)
are_counted parts merged w m =
    (counted_from w.drawn (reverse merged) (map_reverse (λ (x : Stamped). x.stamp.0) merged ∙ reversed_stamps parts merged w.drawn w.stamps m)).0

length-stamps : (ms : List Stamped) → length (stamps_of ms) ≡ length ms
length-stamps [] = refl
length-stamps (x ∷ ms) = omega (arith, length-stamps ms)

pub length-below : (n : ℕ) → length (below n) ≡ n
length-below zero = refl
length-below (suc n) = omega (arith, length-append (below n) (n ∷ []), length-below n)

pub stamps_are_places : (parts : List (List Stamped)) (merged : List Stamped) → AreWholeParts parts → IsMerged parts merged → HasStampsAsPlaces merged
stamps_are_places parts merged w m =
    let same : stamps_of merged ≡ below w.drawn =
    sym (reverse-reverse (stamps_of merged)) ∙ ap reverse (reversed_stamps parts merged w.drawn w.stamps m) ∙ reverse-reverse (below w.drawn) in
    let long : w.drawn ≡ length merged = sym (length-below w.drawn) ∙ ap length (sym same) ∙ length-stamps merged in
    same ∙ ap below long
