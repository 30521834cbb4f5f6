-- Folding commutes with moves.
use Rattle.hx_law_folds.proofs.Folds.{folded-moved, folded-twice}
use Rattle.hx_law_folds.proofs.Slots.{slot-folded}
use Rattle.hx_law_folds.proofs.moves_fold.Goals as goal

pub returns : goal.returns
returns c = record { twice = folded-twice; moves = folded-moved; slot = slot-folded }
