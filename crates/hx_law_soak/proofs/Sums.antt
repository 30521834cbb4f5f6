-- What all callers of a generated script add up to is what all turns do.
use Rattle.hx_law_lemmas.proofs.Lemmas.Vocabulary.{[], add-one, ap, append-nil, arith, below, Bool, Caller, callers_of, calls_of, cond, count_by, eqb-true}
use Rattle.hx_law_lemmas.proofs.Lemmas.Vocabulary.{false, flat_map, length, length-append, length-map, List, map, Op, refl, suc, sum_by, sum_by-append}
use Rattle.hx_law_lemmas.proofs.Lemmas.Vocabulary.{sum_by-cons, sum_by_push, sym, true, zero, ℕ, ◌%◌, ◌++◌, ◌+◌, ◌/◌, ◌<◌, ◌==◌, ◌∙◌, ◌∷◌, ◌≡◌}
use Rattle.hx_soak.specs.Calling.{call_drawn}
use Rattle.hx_soak.specs.Drawing.{draw_of}
use Rattle.hx_soak.specs.Soaking.{script_drawn, session_at, turns_of}
use Rattle.hx_soak.proofs.Lemmas.{one_more}
use Rattle.hx_law_soak.proofs.Turns.{caller_at, calls-of, dealt_out}

-- a count over lists joined is the sum of counts
pub count-joined : {A B : Type 0} (p : B → Bool) (f : A → List B) (xs : List A) → count_by p (flat_map f xs) ≡ sum_by (λ (x : A). count_by p (f x)) xs
count-joined p f [] = refl
count-joined p f (x ∷ xs) = sum_by-append (λ y. cond (p y) 1 0) (f x) (flat_map f xs)
    ∙ ap (λ k. count_by p (f x) + k) (count-joined p f xs) ∙ sym (sum_by-cons (λ y. count_by p (f y)) x xs)

-- so is a sum over them
sum-joined : {A B : Type 0} (w : B → ℕ) (f : A → List B) (xs : List A) → sum_by w (flat_map f xs) ≡ sum_by (λ (x : A). sum_by w (f x)) xs
sum-joined w f [] = refl
sum-joined w f (x ∷ xs) = sum_by-append w (f x) (flat_map f xs) ∙ ap (λ k. sum_by w (f x) + k) (sum-joined w f xs)
    ∙ sym (sum_by-cons (λ y. sum_by w (f y)) x xs)

sum-mapped : {A B : Type 0} (w : B → ℕ) (f : A → B) (xs : List A) → sum_by w (map f xs) ≡ sum_by (λ (x : A). w (f x)) xs
sum-mapped w f [] = refl
sum-mapped w f (x ∷ xs) = sum_by-cons w (f x) (map f xs) ∙ ap (λ k. w (f x) + k) (sum-mapped w f xs) ∙ sym (sum_by-cons (λ y. w (f y)) x xs)

module _ (w : Caller → ℕ) where
  abbrev term : ℕ → ℕ → ℕ
  term u n = w (record { session = record { 0 = u + 1 }; number = n + 1 })

  -- what so many calls of a session add up to
  abbrev dealt : ℕ → ℕ → ℕ
  dealt calls u = sum_by (term u) (below (length (turns_of calls (u + 1))))

  -- one more turn
  more : (n u : ℕ) → u < 4 → dealt (suc n) u ≡ dealt n u + cond (session_at n == u + 1) (term u (n / 4)) 0
  more n u l = ap (λ (ts : List ℕ). sum_by (term u) (below (length ts))) (one_more (u + 1) n) ∙ by (session_at n == u + 1) refl
    where
      ts : List ℕ
      ts = turns_of n (u + 1)

      by : (b : Bool) → (session_at n == u + 1) ≡ b
          → sum_by (term u) (below (length (ts ++ cond b (n ∷ []) [])))
          ≡ sum_by (term u) (below (length ts)) + cond b (term u (n / 4)) 0
      by false t = ap (λ (l : List ℕ). sum_by (term u) (below (length l))) (append-nil ts) ∙ omega arith
      by true t =
          let own : n % 4 + 1 ≡ u + 1 = eqb-true (session_at n) (u + 1) t in
          let d = dealt_out n u l in
          let low = d.low in
          let high = d.high in
          let here : length ts ≡ n / 4 = omega (arith, own, low, high, l) in
          ap (λ k. sum_by (term u) (below k)) (length-append ts (n ∷ []) ∙ add-one (length ts))
          ∙ sum_by_push (term u) (below (length ts)) (length ts)
          ∙ ap (λ k. sum_by (term u) (below (length ts)) + term u k) here

  -- it is the turn of one of four
  of-four : (d q : ℕ) → d < 4 → cond (d + 1 == 1) (term 0 q) 0 + cond (d + 1 == 2) (term 1 q) 0 + cond (d + 1 == 3)
      (term 2 q) 0 + cond (d + 1 == 4) (term 3 q) 0 ≡ term d q
  of-four zero q l = omega arith
  of-four (suc zero) q l = omega arith
  of-four (suc (suc zero)) q l = omega arith
  of-four (suc (suc (suc zero))) q l = omega arith
  of-four (suc (suc (suc (suc d)))) q l = absurd (omega (arith, l))

  all-dealt : (n : ℕ) → dealt n 0 + dealt n 1 + dealt n 2 + dealt n 3 ≡ sum_by (λ turn. w (caller_at turn)) (below n)
  all-dealt zero = refl
  all-dealt (suc n) =
      let a = more n 0 (omega arith) in
      let b = more n 1 (omega arith) in
      let c = more n 2 (omega arith) in
      let e = more n 3 (omega arith) in
      let before = all-dealt n in
      let here = of-four (n % 4) (n / 4) (omega arith) in
      let sum = sum_by_push (λ turn. w (caller_at turn)) (below n) n in
      omega (arith, a, b, c, e, before, here, sum)

  -- what all callers add up to
  pub all-callers : (seed calls : ℕ) → sum_by w (callers_of (script_drawn seed calls)) ≡ sum_by (λ turn. w (caller_at turn)) (below calls)
  all-callers seed calls =
      sum-joined w callers (below 4)
      ∙ joined (own 0 (omega arith)) (own 1 (omega arith)) (own 2 (omega arith)) (own 3 (omega arith))
      ∙ all-dealt calls
    where
      callers : ℕ → List Caller
      callers u = map (λ n. record { session = record { 0 = u + 1 }; number = n + 1 })
          (below (length (calls_of (script_drawn seed calls) (record { 0 = u + 1 }))))

      own : (u : ℕ) → u < 4 → sum_by w (callers u) ≡ dealt calls u
      own u l =
          sum-mapped w (λ n. record { session = record { 0 = u + 1 }; number = n + 1 })
          (below (length (calls_of (script_drawn seed calls) (record { 0 = u + 1 }))))
          ∙ ap (λ k. sum_by (term u) (below k))
          (
          ap (λ n. length (calls_of (script_drawn seed calls) (record { 0 = n }))) (add-one u)
          ∙ ap (λ (ops : List Op). length ops) (calls-of seed calls u l)
          ∙ length-map (turns_of calls (u + 1)) (λ turn. call_drawn (u + 1) (draw_of seed turn))
          )

      joined : sum_by w (callers 0) ≡ dealt calls 0 → sum_by w (callers 1) ≡ dealt calls 1
          → sum_by w (callers 2) ≡ dealt calls 2 → sum_by w (callers 3) ≡ dealt calls 3
          → sum_by (λ u. sum_by w (callers u)) (below 4) ≡ dealt calls 0 + dealt calls 1 + dealt calls 2 + dealt calls 3
      joined a b c e =
          let h : sum_by (λ u. sum_by w (callers u)) (below 4)
          ≡ 0 + sum_by w (callers 0) + sum_by w (callers 1) + sum_by w (callers 2) + sum_by w (callers 3) = refl in
          omega (arith, h, a, b, c, e)
