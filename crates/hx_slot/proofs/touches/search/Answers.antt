use Rattle.std.proofs.Common.{rules}
use Rattle.std.proofs.lemmas.List.Sorted.{answers_always}
use Rattle.hx_model.specs.Types.{Touch}
use Rattle.hx_slot.proofs.Regions.{searched_region}
use Rattle.hx_slot.proofs.touches.search.Goals as goal

pub returns-clause-place : goal.returns-clause-place
returns-clause-place c =
    let facts = c.binary_search_by_key.ensures in
    let found = facts.position (λ (t : Touch). t.region.0) (answers_always _ _ _ (λ f a r g called. search rules)) in
    searched_region c.args.region.0 c.args.touches.now c.binary_search_by_key.result c.requires facts.bound found
