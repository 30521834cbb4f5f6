-- Which call of which session a turn is, and which turn each call of a generated script.
use Rattle.hx_law_lemmas.proofs.Lemmas.Vocabulary.{[], add-one, ap, append-nil, arith, call_of, Caller, calls_of, cases_lt, cond_both, eq-eqb, eqb-true}
use Rattle.hx_law_lemmas.proofs.Lemmas.Vocabulary.{false≢true, inl, inr, length, length-append, List, None, numbered, Op, Option, option_map, refl}
use Rattle.hx_law_lemmas.proofs.Lemmas.Vocabulary.{slice_get-map, Some, subst, suc, sym, zero, ℕ, ◌%◌, ◌*◌, ◌++◌, ◌+◌, ◌/◌, ◌<◌, ◌==◌, ◌∙◌, ◌∷◌, ◌≡◌, ◌≤◌}
use Rattle.std.proofs.Common.{slice_get}
use Rattle.hx_soak.specs.Calling.{call_drawn}
use Rattle.hx_soak.specs.Drawing.{draw_of}
use Rattle.hx_soak.specs.Soaking.{calls_drawn, script_drawn, session_at, turns_of}
use Rattle.hx_soak.proofs.Lemmas.{one_more}
use Rattle.hx_law_soak.specs.Sequence.{op_at}

-- the caller of a turn
abbrev pub caller_at : ℕ → Caller
caller_at turn = record { session = record { 0 = turn % 4 + 1 }; number = turn / 4 + 1 }

-- callers stand in the order of their turns by this number, which is 5 above the turn
abbrev pub rank : Caller → ℕ
rank c = c.number * 4 + c.session.0

pub rank-at : (turn : ℕ) → rank (caller_at turn) ≡ turn + 5
rank-at turn = omega arith

-- ---- the turns of a session

-- how many turns of so many are a session's, and which
pub record Dealt (ts : List ℕ) (calls u : ℕ) : Type 0 where
  pub low : calls ≤ length ts * 4 + u
  pub high : length ts * 4 + u < calls + 4
  pub each : (k : ℕ) → k < length ts → slice_get ts k ≡ Some (k * 4 + u)

get-left : {A : Type 0} (xs ys : List A) (k : ℕ) → k < length xs → slice_get (xs ++ ys) k ≡ slice_get xs k
get-left [] ys k l = absurd (omega (arith, l))
get-left (x ∷ xs) ys zero l = refl
get-left (x ∷ xs) ys (suc k) l = get-left xs ys k (omega (arith, l))

get-last : {A : Type 0} (xs : List A) (y : A) → slice_get (xs ++ y ∷ []) (length xs) ≡ Some y
get-last [] y = refl
get-last (x ∷ xs) y = get-last xs y

-- a turn of the session
dealt-more : (ts : List ℕ) (n u : ℕ) → u < 4 → n % 4 ≡ u → Dealt ts n u → Dealt (ts ++ n ∷ []) (suc n) u
dealt-more ts n u l e d =
    let low = d.low in
    let high = d.high in
    let here : length ts * 4 + u ≡ n = omega (arith, low, high, e, l) in
    let more : length (ts ++ n ∷ []) ≡ length ts + 1 = length-append ts (n ∷ []) in
    record {
      low = omega (arith, here, more);
      high = omega (arith, here, more);
      each = λ k h. elim (cases_lt k (length ts)) [
        | inl m ↦ get-left ts (n ∷ []) k m ∙ d.each k m
        | inr m ↦ (let q : k ≡ length ts = omega (arith, m, h, more) in
            ap (slice_get (ts ++ n ∷ [])) q ∙ get-last ts n ∙ ap Some (let r : n ≡ k * 4 + u = omega (arith, q, here) in r))
      ];
    }

-- a turn of another session
dealt-other : (ts : List ℕ) (n u : ℕ) → u < 4 → (n % 4 ≡ u → ⊥) → Dealt ts n u → Dealt ts (suc n) u
dealt-other ts n u l e d =
    let low = d.low in
    let high = d.high in
    let differs : (n ≡ length ts * 4 + u) → ⊥ = (λ q. e (omega (arith, q, l))) in
    elim (cases_lt n (length ts * 4 + u)) [
      | inl m ↦ record { low = omega (arith, m); high = omega (arith, high); each = d.each }
      | inr m ↦ absurd (differs (omega (arith, low, m)))
    ]

pub dealt_out : (calls u : ℕ) → u < 4 → Dealt (turns_of calls (u + 1)) calls u
dealt_out zero u l = record { low = omega arith; high = omega (arith, l); each = λ k h. absurd (omega (arith, h)) }
dealt_out (suc n) u l =
    subst (λ (ts : List ℕ). Dealt ts (suc n) u) (sym (one_more (u + 1) n))
    (
    cond_both (session_at n == u + 1) (n ∷ []) [] (λ (more : List ℕ). Dealt (turns_of n (u + 1) ++ more) (suc n) u)
    (λ t. let q : n % 4 + 1 ≡ u + 1 = eqb-true (session_at n) (u + 1) t in dealt-more (turns_of n (u + 1)) n u l (omega (arith, q)) (dealt_out n u l))
    (λ t. subst (λ (ts : List ℕ). Dealt ts (suc n) u) (sym (append-nil (turns_of n (u + 1))))
    (dealt-other (turns_of n (u + 1)) n u l (λ q. false≢true
    (sym t ∙ eq-eqb (session_at n) (u + 1) (ap (λ k. k + 1) q))) (dealt_out n u l)))
    )

-- ---- turns and callers

-- the calls of a session by its number from 0
pub calls-of : (seed calls u : ℕ) → u < 4 → calls_of (script_drawn seed calls) (record { 0 = suc u }) ≡ calls_drawn seed calls (u + 1)
calls-of seed calls zero l = refl
calls-of seed calls (suc zero) l = refl
calls-of seed calls (suc (suc zero)) l = refl
calls-of seed calls (suc (suc (suc zero))) l = refl
calls-of seed calls (suc (suc (suc (suc u)))) l = absurd (omega (arith, l))

-- no other session has calls
no-calls : (seed calls u : ℕ) → 4 ≤ u → calls_of (script_drawn seed calls) (record { 0 = suc u }) ≡ []
no-calls seed calls zero l = absurd (omega (arith, l))
no-calls seed calls (suc zero) l = absurd (omega (arith, l))
no-calls seed calls (suc (suc zero)) l = absurd (omega (arith, l))
no-calls seed calls (suc (suc (suc zero))) l = absurd (omega (arith, l))
no-calls seed calls (suc (suc (suc (suc u)))) l = refl

-- a call of a session
pub drawn : (seed calls u k : ℕ) → u < 4 → slice_get (calls_drawn seed calls (u + 1)) k
    ≡ option_map (λ turn. call_drawn (u + 1) (draw_of seed turn)) (slice_get (turns_of calls (u + 1)) k)
drawn seed calls u k l = slice_get-map (λ turn. call_drawn (u + 1) (draw_of seed turn)) (turns_of calls (u + 1)) k

-- a turn's call is its caller's
pub called-at : (seed calls turn : ℕ) → turn < calls → call_of (script_drawn seed calls) (caller_at turn) ≡ Some (op_at seed turn)
called-at seed calls turn l =
    let u = turn % 4 in
    let k = turn / 4 in
    let small : u < 4 = omega arith in
    let d = dealt_out calls u small in
    let low = d.low in
    let there : k < length (turns_of calls (u + 1)) = omega (arith, low, l) in
    let turn-is : k * 4 + u ≡ turn = omega arith in
    ap (λ n. call_of (script_drawn seed calls) (record { session = record { 0 = n }; number = k + 1 })) (add-one u)
    ∙ ap (λ n. call_of (script_drawn seed calls) (record { session = record { 0 = suc u }; number = n })) (add-one k)
    ∙ ap (λ (ops : List Op). slice_get ops k) (calls-of seed calls u small)
    ∙ drawn seed calls u k small
    ∙ ap (option_map (λ t. call_drawn (u + 1) (draw_of seed t))) (d.each k there ∙ ap Some turn-is)

-- where a caller's call stands among the turns
pub record IsTurn (seed calls : ℕ) (c : Caller) (op : Op) : Type 0 where
  pub turn : ℕ
  pub below : turn < calls
  pub caller : c ≡ caller_at turn
  pub op_is : op ≡ op_at seed turn

pub turn-of : (seed calls : ℕ) (c : Caller) (op : Op) → call_of (script_drawn seed calls) c ≡ Some op → IsTurn seed calls c op
turn-of seed calls c op e = by c.session.0 refl c.number refl e
  where
    none : (n : ℕ) → numbered [] n ≡ Some op → ⊥
    none zero q = cc
    none (suc n) q = cc

    by : (s : ℕ) → c.session.0 ≡ s → (n : ℕ) → c.number ≡ n
        → numbered (calls_of (script_drawn seed calls) (record { 0 = s })) n ≡ Some op → IsTurn seed calls c op
    by zero p n q h = absurd (none n h)
    by (suc u) p zero q h = absurd (cc)
    by (suc u) p (suc k) q h = elim (cases_lt u 4) [
      | inr m ↦ absurd (none (suc k) (ap (λ (ops : List Op). slice_get ops k) (sym (no-calls seed calls u m)) ∙ h))
      | inl m ↦ at m (slice_get (turns_of calls (u + 1)) k) refl
          (sym (drawn seed calls u k m) ∙ ap (λ (ops : List Op). slice_get ops k) (sym (calls-of seed calls u m)) ∙ h)
    ]
      where
        length-of : (ts : List ℕ) (k t : ℕ) → slice_get ts k ≡ Some t → k < length ts
        length-of [] k t e = absurd (cc)
        length-of (x ∷ ts) zero t e = omega arith
        length-of (x ∷ ts) (suc k) t e = let r = length-of ts k t e in omega (arith, r)

        at : u < 4 → (o : Option ℕ) → slice_get (turns_of calls (u + 1)) k ≡ o
            → option_map (λ turn. call_drawn (u + 1) (draw_of seed turn)) o ≡ Some op → IsTurn seed calls c op
        at m None r h = absurd (cc)
        at m (Some t) r h =
            let d = dealt_out calls u m in
            let l = length-of (turns_of calls (u + 1)) k t r in
            let same : Some t ≡ Some (k * 4 + u) = sym r ∙ d.each k l in
            let is : t ≡ k * 4 + u = cc in
            let high = d.high in
            let session : c.session.0 ≡ t % 4 + 1 = omega (arith, p, is, m) in
            let number : c.number ≡ t / 4 + 1 = omega (arith, q, is, m) in
            let u-is : u + 1 ≡ t % 4 + 1 = omega (arith, is, m) in
            let op-is : call_drawn (u + 1) (draw_of seed t) ≡ op = cc in
            record {
              turn = t;
              below = omega (arith, is, high, l);
              caller = λ i. record { session = record { 0 = session i }; number = number i };
              op_is = sym op-is ∙ ap (λ n. call_drawn n (draw_of seed t)) u-is;
            }
