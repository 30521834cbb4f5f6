use Rattle.std.proofs.Common.{rules, ◌≡◌, ◌∙◌, List, ap, false, sym, subst}
use Rattle.std.specs.Prelude.{Option, slice_get}
use Rattle.std.proofs.lemmas.List.Sorted.{IsPartitionPoint-from_clause}
use Rattle.hx_model.specs.Types.{PostId}
use Rattle.hx_model.specs.Schedule.{same_name}
use Rattle.hx_types.specs.Words.{when_some}
use Rattle.hx_world.specs.Names.{AreAscending, is_before, names_but}
use Rattle.hx_world.proofs.Removing.{absent, drop_removed, lower_first, removed, stands_there}
use Rattle.hx_world.proofs.waiting.Queue.take_by_halving.Goals as goal

pub returns-then-is_name-clause-items : goal.returns-then-is_name-clause-items
returns-then-is_name-clause-items c =
    let at =
    ap (λ (o : Option PostId). when_some o false (λ (x : PostId). same_name x c.args.id)) (sym c.name_at.ensures)
    ∙ sym c.is_name.ensures ∙ c.if-is_name.true in
    let here = stands_there c.args.self.now.items c.args.id c.partition_point-place.result at in
    let gone = removed c.args.self.now.items c.args.id c.partition_point-place.result c.requires here in
    let left = drop_removed c.self.inside.list.items c.self.inside.taken c.partition_point-place.result in
    search (rules, gone, left)

pub returns-else-is_name-clause-items : goal.returns-else-is_name-clause-items
returns-else-is_name-clause-items c =
    let other =
    ap (λ (o : Option PostId). when_some o false (λ (x : PostId). same_name x c.args.id)) (sym c.name_at.ensures)
    ∙ sym c.is_name.ensures ∙ c.if-is_name.false in
    let up = subst AreAscending (sym c.names.ensures) c.requires in
    let point =
    IsPartitionPoint-from_clause (λ (y : PostId). is_before y c.args.id) _ _ c.partition_point-place.ensures.partitioned
    (lower_first c.names.result.now c.args.id up) (λ a r q k. search rules) in
    let away =
    subst (λ (l : List PostId). when_some (slice_get l c.partition_point-place.result) false (λ (x : PostId). same_name x c.args.id) ≡ false)
    (sym c.names.ensures) other in
    let none = absent c.names.result.now c.args.id _ up point.0 point.1 away in
    let here = subst (λ (l : List PostId). l ≡ names_but c.args.id l) c.names.ensures none in
    search (rules, here)
