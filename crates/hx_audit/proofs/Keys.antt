-- Keys of histories.
use Rattle.std.proofs.Common.{◌≡◌, ℕ, true, List}
use Rattle.hx_types.specs.Words.{same_text}
use Rattle.hx_model.proofs.Lemmas.{eq_of_same_text}

pub one_key : (a b : List ℕ) → same_text a b ≡ true → a ≡ b
one_key = eq_of_same_text
