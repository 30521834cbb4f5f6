use Rattle.std.proofs.Common.{◌≤◌, ◌∙◌, Some, ap, arith, length, subst, sym}
use Rattle.std.specs.Option.{option_map}
use Rattle.std.specs.Prelude.{slice_range}
use Rattle.hx_clock.specs.declared.parts.Stamped.{Stamped}
use Rattle.hx_clock.proofs.Filed.{entry_of_head, head_in, length_entries}
use Rattle.hx_clock.proofs.part_lists.posts_at.Goals as goal

pub head_at-head-requires : goal.head_at-head-requires
head_at-head-requires c =
    let l = c.args.lists.now in
    omega (arith, c.requires.there, length_entries l.posts.items l.notes.items l.deliveries.items l.heads.items)

pub posts_end-requires : goal.posts_end-requires
posts_end-requires c =
    let l = c.args.lists.now in
    omega (arith, c.requires.there, length_entries l.posts.items l.notes.items l.deliveries.items l.heads.items)

pub run_of-requires-clause-order : goal.run_of-requires-clause-order
run_of-requires-clause-order c =
    let l = c.args.lists.now in
    let h = c.head_at-head.result in
    let w = head_in _ _ _ l.heads.items c.args.place h c.requires.whole c.head_at-head.ensures in
    subst (λ n. h.posts ≤ n) (sym c.posts_end.ensures) w.posts_order

pub run_of-requires-clause-within : goal.run_of-requires-clause-within
run_of-requires-clause-within c =
    let l = c.args.lists.now in
    let w = head_in _ _ _ l.heads.items c.args.place c.head_at-head.result c.requires.whole c.head_at-head.ensures in
    omega (arith, w.posts_within, c.posts_end.ensures, ap length c.as_slice.ensures.value)

pub returns : goal.returns
returns c =
    let l = c.args.lists.now in
    let h = c.head_at-head.result in
    let at = entry_of_head l.posts.items l.notes.items l.deliveries.items l.heads.items c.args.place h c.head_at-head.ensures in
    ap (λ xs. Some xs) (c.run_of.ensures ∙ (λ i. slice_range (c.as_slice.ensures.value i) h.posts (c.posts_end.ensures i)))
    ∙ sym (ap (option_map (λ (x : Stamped). x.entry.outputs)) at)
