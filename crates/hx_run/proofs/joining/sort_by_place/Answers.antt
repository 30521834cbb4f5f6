use Rattle.std.proofs.Common.{rules}
use Rattle.std.proofs.lemmas.List.Sorted.{IsNonDecreasingBy-from_sort_by_key}
use Rattle.hx_run.specs.Joined.{place_at}
use Rattle.hx_run.proofs.joining.sort_by_place.Goals as goal

pub returns-clause-sorted : goal.returns-clause-sorted
returns-clause-sorted c = IsNonDecreasingBy-from_sort_by_key (place_at c.args.script.now) _ c.in_ok-sort_by_key.ensures.sorted (λ a r q k. search rules)
