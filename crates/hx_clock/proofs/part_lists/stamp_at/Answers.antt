use Rattle.std.proofs.Common.{ap, arith, sym}
use Rattle.std.specs.Option.{option_map}
use Rattle.hx_clock.specs.declared.parts.Stamped.{Stamped}
use Rattle.hx_clock.proofs.Filed.{entry_of_head, length_entries}
use Rattle.hx_clock.proofs.part_lists.stamp_at.Goals as goal

pub head_at-requires : goal.head_at-requires
head_at-requires c =
    let l = c.args.lists.now in
    omega (arith, c.requires, length_entries l.posts.items l.notes.items l.deliveries.items l.heads.items)

pub returns : goal.returns
returns c =
    let l = c.args.lists.now in
    let at = entry_of_head l.posts.items l.notes.items l.deliveries.items l.heads.items c.args.place c.head_at.result c.head_at.ensures in
    sym (ap (option_map (λ (x : Stamped). x.stamp)) at)
