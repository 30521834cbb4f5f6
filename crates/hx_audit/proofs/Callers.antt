-- The order of callers: by session, and within one by number.
use Rattle.std.proofs.Common.{◌≡◌, ◌<◌, ◌⊎◌, inl, inr, true, false, ◌&&◌, eqb, ltb, ap, ◌∙◌, arith}
use Rattle.std.proofs.lemmas.Bool.{and_from, and_parts, eq-eqb, eqb-true, false_from_ne_true, lt-ltb, ltb-true, or_cases, or_left, or_right}
use Rattle.hx_model.specs.Types.{Caller}
use Rattle.hx_report_lines.specs.Values.{caller_below}
use Rattle.hx_audit.specs.Told.{same_caller}

abbrev IsBelow : Caller → Caller → Type 0
IsBelow a b = (a.session.0 < b.session.0) ⊎ ((a.session.0 ≡ b.session.0) × (a.number < b.number))

told : (a b : Caller) → caller_below a b ≡ true → IsBelow a b
told a b e = elim (or_cases (ltb a.session.0 b.session.0) (eqb a.session.0 b.session.0 && ltb a.number b.number) e) [
  | inl l ↦ inl (ltb-true a.session.0 b.session.0 l)
  | inr r ↦ (let p = and_parts (eqb a.session.0 b.session.0) (ltb a.number b.number) r in
      inr (eqb-true a.session.0 b.session.0 p.0, ltb-true a.number b.number p.1))
]

tells : (a b : Caller) → IsBelow a b → caller_below a b ≡ true
tells a b (inl l) = or_left (ltb a.session.0 b.session.0) (eqb a.session.0 b.session.0 && ltb a.number b.number) (lt-ltb a.session.0 b.session.0 l)
tells a b (inr (e, l)) =
    or_right (ltb a.session.0 b.session.0) (eqb a.session.0 b.session.0 && ltb a.number b.number)
    (and_from (eqb a.session.0 b.session.0) (ltb a.number b.number) (eq-eqb a.session.0 b.session.0 e) (lt-ltb a.number b.number l))

pub caller_trans : (a b c : Caller) → caller_below a b ≡ true → caller_below b c ≡ true → caller_below a c ≡ true
caller_trans a b c e f = tells a c (by (told a b e) (told b c f))
  where
    by : IsBelow a b → IsBelow b c → IsBelow a c
    by (inl l) (inl m) = inl (omega (arith, l, m))
    by (inl l) (inr (q, m)) = inl (omega (arith, l, q))
    by (inr (p, l)) (inl m) = inl (omega (arith, p, m))
    by (inr (p, l)) (inr (q, m)) = inr (p ∙ q, omega (arith, l, m))

-- the parts of one caller are those of the other
same_parts : (a b : Caller) → same_caller a b ≡ true → (a.session.0 ≡ b.session.0) × (a.number ≡ b.number)
same_parts a b e = let p = and_parts (eqb a.session.0 b.session.0) (eqb a.number b.number) e in
    (eqb-true a.session.0 b.session.0 p.0, eqb-true a.number b.number p.1)

pub one_caller : (a b : Caller) → same_caller a b ≡ true → a ≡ b
one_caller a b e = let p = same_parts a b e in λ i. record { session = record { 0 = p.0 i }; number = p.1 i }

pub same_self : (a b : Caller) → a ≡ b → same_caller a b ≡ true
same_self a b e = and_from (eqb a.session.0 b.session.0) (eqb a.number b.number)
    (eq-eqb a.session.0 b.session.0 (ap (λ (c : Caller). c.session.0) e))
    (eq-eqb a.number b.number (ap (λ (c : Caller). c.number) e))

pub caller_differs : (a b : Caller) → caller_below a b ≡ true → same_caller a b ≡ false
caller_differs a b e = false_from_ne_true (same_caller a b) (λ s. by (told a b e) (same_parts a b s))
  where
    by : IsBelow a b → (a.session.0 ≡ b.session.0) × (a.number ≡ b.number) → ⊥
    by (inl l) p = let q = p.0 in omega (arith, l, q)
    by (inr (e, l)) p = let q = p.1 in omega (arith, l, q)
