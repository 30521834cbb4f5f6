-- The first entries of an actor, and its next one, are those of its part.
use Rattle.hx_law_lemmas.proofs.Lemmas.Vocabulary.{[], AllByRecursion, ap, arith, cond, cond_both, Entry, entry_at, eq-eqb, eqb, eqb-true, length}
use Rattle.hx_law_lemmas.proofs.Lemmas.Vocabulary.{length-append, List, ltb-false, ltb-true, map, nat_lt, None, refl, reverse, Some, suc, sym, take, true≢false}
use Rattle.hx_law_lemmas.proofs.Lemmas.Vocabulary.{zero, ℕ, ◌++◌, ◌+◌, ◌∙◌, ◌∷◌, ◌≡◌, ◌≤◌}
use Rattle.hx_clock.specs.declared.parts.Stamped.{Stamped}
use Rattle.hx_clock.proofs.Lemmas.{each_all, each_in}
use Rattle.hx_law_threads.specs.Own.{own_entries, past_of}
use Rattle.hx_law_threads.specs.Merged.{ActorPart, HasOwnParts}
use Rattle.hx_law_threads.specs.Cuts.{first_entries}
use Rattle.hx_law_threads.specs.Laws.{entry_in, IsReadInPart}
use Rattle.hx_law_threads.proofs.Lists.{reverse_cons}
use Rattle.hx_law_threads.proofs.Retries.{first_all, first_fewer}

none_first : (xs : List Entry) → first_entries 0 xs ≡ []
none_first [] = refl
none_first (x ∷ xs) = first_fewer 0 x xs (omega arith) ∙ none_first xs

-- the oldest entry is the first
first_snoc : (n : ℕ) (xs : List Entry) (x : Entry) → first_entries (suc n) (xs ++ x ∷ []) ≡ first_entries n xs ++ x ∷ []
first_snoc n [] x = first_all (suc n) (x ∷ []) (omega arith)
first_snoc n (y ∷ xs) x =
    let long : length (xs ++ x ∷ []) ≡ suc (length xs) = omega (arith, length-append xs (x ∷ [])) in
    cond_both (nat_lt (length xs) n) (y ∷ xs) (first_entries n xs) (λ l. first_entries (suc n) (y ∷ (xs ++ x ∷ [])) ≡ l ++ x ∷ [])
    (λ t. first_all (suc n) (y ∷ (xs ++ x ∷ [])) (let lt = ltb-true (length xs) n t in omega (arith, lt, long)))
    (λ t. first_fewer (suc n) y (xs ++ x ∷ []) (let ge = ltb-false (length xs) n t in omega (arith, ge, long)) ∙ first_snoc n xs x)

pub first_of_part : (n : ℕ) (part : List Stamped) → first_entries n (past_of part) ≡ past_of (take n part)
first_of_part zero part = none_first (past_of part)
first_of_part (suc n) [] = refl
first_of_part (suc n) (x ∷ part) =
    let older = map (λ (y : Stamped). y.entry) part in
    ap (first_entries (suc n)) (reverse_cons x.entry older) ∙ first_snoc n (reverse older) x.entry ∙ ap (λ l. l ++ x.entry ∷ []) (first_of_part n part)
    ∙ sym (reverse_cons x.entry (map (λ (y : Stamped). y.entry) (take n part)))

-- the number 1 is that of the oldest, and each other one that of the list without it, plus 1
oldest_at : (n : ℕ) (xs : List Entry) (x : Entry) → n ≡ 1 → entry_at n (xs ++ x ∷ []) ≡ Some x
oldest_at n [] x e =
    cond_both (eqb n (0 + 1)) (Some x) None (λ o. o ≡ Some x) (λ t. refl) (λ t. absurd (true≢false (sym (eq-eqb n 1 e) ∙ t)))
oldest_at n (y ∷ xs) x e =
    cond_both (eqb n (length (xs ++ x ∷ []) + 1)) (Some y) (entry_at n (xs ++ x ∷ [])) (λ o. o ≡ Some x)
    (λ t. absurd (omega (arith, e, eqb-true n (length (xs ++ x ∷ []) + 1) t, length-append xs (x ∷ [])))) (λ t. oldest_at n xs x e)

later_at : (n m : ℕ) (xs : List Entry) (x : Entry) → n ≡ m + 1 → 1 ≤ m → entry_at n (xs ++ x ∷ []) ≡ entry_at m xs
later_at n m [] x e le =
    cond_both (eqb n (0 + 1)) (Some x) None (λ o. o ≡ None) (λ t. absurd (omega (arith, e, le, eqb-true n 1 t))) (λ t. refl)
later_at n m (y ∷ xs) x e le =
    let long : length (xs ++ x ∷ []) ≡ length xs + 1 = length-append xs (x ∷ []) in
    cond_both (eqb m (length xs + 1)) (Some y) (entry_at m xs) (λ o. entry_at n (y ∷ (xs ++ x ∷ [])) ≡ o)
    (λ t. ap (λ b. cond b (Some y) (entry_at n (xs ++ x ∷ []))) (eq-eqb n (length (xs ++ x ∷ []) + 1) (omega (arith, e, long, eqb-true m (length xs + 1) t))))
    (λ t.
    cond_both (eqb n (length (xs ++ x ∷ []) + 1)) (Some y) (entry_at n (xs ++ x ∷ [])) (λ o. o ≡ entry_at m xs)
    (λ r. absurd (true≢false (sym (eq-eqb m (length xs + 1) (omega (arith, e, long, eqb-true n (length (xs ++ x ∷ []) + 1) r))) ∙ t)))
    (λ r. later_at n m xs x e le))

pub entry_of_part : (n m : ℕ) (part : List Stamped) → m ≡ n + 1 → entry_at m (past_of part) ≡ entry_in part n
entry_of_part n m [] e = refl
entry_of_part zero m (x ∷ part) e =
    let older = map (λ (y : Stamped). y.entry) part in
    ap (entry_at m) (reverse_cons x.entry older) ∙ oldest_at m (reverse older) x.entry (omega (arith, e))
entry_of_part (suc n) m (x ∷ part) e =
    let older = map (λ (y : Stamped). y.entry) part in
    ap (entry_at m) (reverse_cons x.entry older) ∙ later_at m (n + 1) (reverse older) x.entry (omega (arith, e))
    (omega arith) ∙ entry_of_part n (n + 1) part refl

pub read_in_parts : (whole : List ActorPart) (trace : List Entry) → HasOwnParts whole trace → AllByRecursion (IsReadInPart trace) whole
read_in_parts whole trace own =
    each_all (IsReadInPart trace) whole
    (λ p i.
    let same = each_in (λ (q : ActorPart). own_entries q.actor trace ≡ past_of q.part) whole p own i in
    record {
      own = λ n. ap (first_entries n) same ∙ first_of_part n p.part;
      next = λ n. ap (entry_at (n + 1)) same ∙ entry_of_part n (n + 1) p.part refl;
    })
