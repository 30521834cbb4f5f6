-- A reader or a writer of std, beside a count of its errors.
use Rattle.std.specs.Prelude.{ℕ}

-- what it reads or writes through, and how often that answered an error
pub record Adapted (R : Type 0) : Type 0 where
  pub inner : R
  pub faults : ℕ

-- one that answered no error yet
abbrev pub adapted : {R : Type 0} → R → Adapted R
adapted through = record { inner = through; faults = 0 }
