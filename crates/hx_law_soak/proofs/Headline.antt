-- The law on soaks.
use Rattle.hx_law_lemmas.proofs.Lemmas.Vocabulary.{ap, ◌∙◌}
use Rattle.hx_soak.specs.Soaking.{soak}
use Rattle.hx_soak.specs.Tallying.{Tally}
use Rattle.hx_soak.specs.Summing.{tally_text}
use Rattle.hx_law_soak.specs.Soaks.{SoaksSumUpInOrder}
use Rattle.hx_law_soak.proofs.Tallies.{tallies-same}

-- the summary is that of the calls taken one after the other
pub sums_up : SoaksSumUpInOrder
sums_up seed calls trace finished bytes s = s.text ∙ ap (λ (t : Tally). tally_text soak t) (tallies-same seed calls trace finished s.listed s.histories)
