-- Drains: the entries that the schedule makes one after another.
use Rattle.std.proofs.Common.{◌≡◌, ℕ, zero, suc, ◌+◌, ◌-◌, ◌≤◌, false, List, Option, Some, None, refl, sym, ◌∙◌, arith, add-one, add-zero}
use Rattle.std.specs.Prelude.{is_some}
use Rattle.hx_model.specs.Types.{Entry, Script}
use Rattle.hx_model.specs.Schedule.{next_entry, scheduled, with_entry}
use Rattle.hx_world.specs.declared.ends.Drained.TheVariants.{Quiet}
use Rattle.hx_world.specs.Worlds.{Advances, Drains}

pub none_there : {A : Type 0} (o : Option A) → is_some o ≡ false → o ≡ None
none_there None e = refl
none_there (Some x) e = cc

pub scheduled_more : (script : Script) (t : List Entry) (n : ℕ)
    → scheduled script t (n + 1) ≡ with_entry (scheduled script t n) (next_entry script (scheduled script t n))
scheduled_more script t n = rw add-one refl

-- a quiet schedule stays
scheduled_stays : (script : Script) (t : List Entry) (n k : ℕ) → next_entry script (scheduled script t n) ≡ None
    → scheduled script t (n + k) ≡ scheduled script t n
scheduled_stays script t n zero quiet = rw add-zero refl
scheduled_stays script t n (suc k) quiet =
    let more : n + suc k ≡ suc (n + k) = omega arith in
    let before = scheduled_stays script t n k quiet in
    rw (more, before, quiet) refl

stays_none : (script : Script) (old new : List Entry) → Advances script old new false → (next_entry script old ≡ None) × (new ≡ old)
stays_none script old new a =
    let none = none_there (next_entry script old) (sym a.told) in
    (none, rw none at a.trace)

-- a drain that finds no next entry is quiet
pub quiet_drains : (script : Script) (start old new : List Entry) (n i : ℕ) → i ≤ n → old ≡ scheduled script start i
    → Advances script old new false → Drains script n start new Quiet
quiet_drains script start old new n i within here a =
    let t = stays_none script old new a in
    let quiet : next_entry script (scheduled script start i) ≡ None = rw (← here) t.0 in
    let same : scheduled script start (i + (n - i)) ≡ scheduled script start i = scheduled_stays script start i (n - i) quiet in
    let all : i + (n - i) ≡ n = omega arith in
    record {
      trace = t.1 ∙ (here ∙ sym (rw all at same));
      ends = rw t.1 t.0;
    }
