-- Drains: the entries that the schedule makes one after another.
use Rattle.std.proofs.Common.{◌≡◌, ℕ, zero, suc, ◌+◌, ◌-◌, ◌≤◌, false, Option, None, refl, sym, ap, ◌∙◌, subst, arith, add-one, add-zero}
use Rattle.hx_world.specs.declared.ends.Drained.TheVariants.{Quiet}
use Rattle.hx_world.proofs.Lemmas.{none_there}
use Rattle.hx_spaces.specs.Courses.{Course, Turn, next_turn, scheduled, with_turn}
use Rattle.hx_spaces.specs.Draining.{Drains, Takes}

pub scheduled_more : (c : Course) (n : ℕ) → scheduled c (n + 1) ≡ with_turn (scheduled c n) (next_turn (scheduled c n))
scheduled_more c n = rw add-one refl

-- a quiet schedule stays
scheduled-stays : (c : Course) (n k : ℕ) → next_turn (scheduled c n) ≡ None → scheduled c (n + k) ≡ scheduled c n
scheduled-stays c n zero quiet = rw add-zero refl
scheduled-stays c n (suc k) quiet =
    let more : n + suc k ≡ suc (n + k) = omega arith in
    let before = scheduled-stays c n k quiet in
    ap (λ m. scheduled c m) more
    ∙ ap (λ (b : Course). with_turn b (next_turn b)) before
    ∙ ap (λ (o : Option Turn). with_turn (scheduled c n) o) quiet

-- a turn that wasn't there
pub stays_none : (turn : Option Turn) (old new : Course) → Takes turn old new false → (turn ≡ None) × (new ≡ old)
stays_none turn old new t =
    let none = none_there turn (sym t.told) in
    (none, t.course ∙ ap (λ (o : Option Turn). with_turn old o) none)

-- a drain that finds no next entry is quiet
pub quiet_drains : (start old new : Course) (n i : ℕ) → i ≤ n → old ≡ scheduled start i → Takes (next_turn old) old new false → Drains n start new Quiet
quiet_drains start old new n i within here a =
    let t = stays_none (next_turn old) old new a in
    let quiet : next_turn (scheduled start i) ≡ None = subst (λ (c : Course). next_turn c ≡ None) here t.0 in
    let same : scheduled start (i + (n - i)) ≡ scheduled start i = scheduled-stays start i (n - i) quiet in
    let all : i + (n - i) ≡ n = omega arith in
    record {
      course = t.1 ∙ here ∙ sym same ∙ ap (λ m. scheduled start m) all;
      ends = subst (λ (c : Course). next_turn c ≡ None) (sym t.1) t.0;
    }

-- ---- a delivery or a begin
