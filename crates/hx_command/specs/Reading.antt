-- Why a text that was read to its end is no script.
use Rattle.std.specs.Prelude.{ℕ, List, ⊤}
use Rattle.hx_replay.specs.declared.outcomes.Outcome.{Outcome}
use Rattle.hx_replay.specs.declared.outcomes.Outcome.TheVariants as an_outcome
use Rattle.hx_command.specs.Threads.{Language}

abbrev pub IsTextStop : {A : Type 0} → Language A → List ℕ → Outcome → Type 0
IsTextStop language text an_outcome.Fine = ⊥
IsTextStop language text an_outcome.Usage = ⊥
IsTextStop language text (an_outcome.Refused line reason) = language.refuses text line reason
IsTextStop language text an_outcome.TooLarge = ⊥
IsTextStop language text an_outcome.ReadFault = ⊥
IsTextStop language text an_outcome.WriteFault = ⊥
IsTextStop language text an_outcome.Memory = ⊤
IsTextStop language text (an_outcome.Worn a) = ⊥
IsTextStop language text (an_outcome.Wrong line clause) = ⊥
