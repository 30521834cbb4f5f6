use Rattle.std.proofs.Common.{rules, ◌≡◌, [], List, IfOk, ap, map, sym, subst, ◌∙◌}
use Rattle.std.specs.Cmp.Lexicographic.{slice_cmp}
use Rattle.std.specs.List.Sorted.{IsSortedByKey}
use Rattle.std.specs.Ordering.{nat_cmp}
use Rattle.hx_model.specs.Types.{Row}
use Rattle.hx_model.specs.SessionSteps.{rows_joined, with_part}
use Rattle.hx_session.specs.Changes.{part_seen}
use Rattle.hx_session.specs.Joined.{row_key}
use Rattle.hx_session.proofs.Joining.{in_turn-from, joined-in_turn, merged-at_once, sorted-from}
use Rattle.hx_session.proofs.merging.merged.Goals as goal

pub picked-requires : goal.picked-requires
picked-requires c =
    subst (IsSortedByKey row_key (slice_cmp nat_cmp)) (sym c.as_slice.ensures.value)
    (sorted-from c.sort_by.new.self.items c.in_ok-sort_by.ensures.sorted (λ a r f' called. search rules))

pub returns : goal.returns
returns c =
    subst (λ (rows : List Row). IfOk c.picked.result (λ picked. picked ≡ rows))
    (
    ap (λ (lent : List Row). rows_joined lent []) c.as_slice.ensures.value
    ∙ joined-in_turn c.in_ok-rows.rows.items c.sort_by.new.self.items
    (in_turn-from c.in_ok-rows.rows.items c.sort_by.new.self.items c.sort_by.ensures.stable (λ a r f' called. search rules)) []
    ∙ ap (λ (rows : List Row). rows_joined rows []) c.in_ok-rows.ensures
    ∙ merged-at_once (map (with_part c.args.region c.args.found.now) (map part_seen c.args.parts.now))
    )
    c.picked.ensures
