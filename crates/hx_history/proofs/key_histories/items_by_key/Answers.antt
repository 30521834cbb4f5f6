use Rattle.std.proofs.Common.{ℕ, List, [], map, reverse, ap, ◌∙◌}
use Rattle.std.specs.Option.{option_map_or}
use Rattle.hx_history.specs.Listed.{history_view}
use Rattle.hx_history.proofs.Listing.{are_histories, at_end}
use Rattle.hx_history.proofs.key_histories.items_by_key.Goals as goal

pub returns : goal.returns
returns c =
    λ trace view.
    at_end c.args.script.now (λ g. g.items) (reverse trace) (map history_view c.loop-key.listed.items) c.loop-key.key-iterator c.into_iter-key-iterator.result
    c.sort_keys.new.self.entries c.in-None.ensures.steps.0 (c.into_iter-key-iterator.ensures.into_iter_gives ∙ c.iter-key-items.ensures.rest)
    c.loop-key.invariant
    (
    are_histories c.args.script.now (λ g. g.items) trace c.args.events.now c.sort_keys.new.self.entries view
    (λ (q : List ℕ). ap (λ found. option_map_or (λ g. g.items) found [])
    (c.in_ok-sort_keys.ensures.reordered.2 (record { ref_ptr = (0, 0); now = q })) ∙ c.in_ok-groups.ensures q)
    c.in_ok-sort_keys.ensures.sorted c.in_ok-sort_keys.ensures.unique
    )
