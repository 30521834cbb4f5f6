use Rattle.std.proofs.Common.{◌+◌, ℕ, List, ap, length, ◌∙◌}
use Rattle.hx_index.proofs.Lemmas.{length-repeat}
use Rattle.hx_store.proofs.indexed.Indexed.new.Goals as goal

pub returns-clause-attributes : goal.returns-clause-attributes
returns-clause-attributes c = ap (λ (os : List (List ℕ)). length os) c.in_ok-index.ensures.orders ∙ length-repeat (c.args.attributes + 1)
