-- Two proofs that a post is the one looked for are the same.
use Rattle.hx_law_lemmas.proofs.Lemmas.Vocabulary.{Bool-set, Option, Post, ℕ_set, ℤ_set}
use Rattle.std.proofs.Math.Option as an_option
use mathlib.Core.Sum.{⊎_set}
use mathlib.Core.List.{is_set}

pub posts_set : IsSet (Option Post)
posts_set = hlevel (ℕ_set, Bool-set, ℤ_set, an_option.is_set, is_set, ⊎_set)
