use Rattle.std.proofs.Common.{◌∙◌, Some, ap, arith, sym}
use Rattle.std.specs.Option.{option_map}
use Rattle.hx_clock.specs.declared.parts.Stamped.{Stamped}
use Rattle.hx_clock.proofs.Filed.{entry_of_head, length_entries, some_same}
use Rattle.hx_clock.proofs.part_lists.entry_at.Goals as goal

pub head_at-head-requires : goal.head_at-head-requires
head_at-head-requires c =
    let l = c.args.lists.now in
    omega (arith, c.requires.there, length_entries l.posts.items l.notes.items l.deliveries.items l.heads.items)

pub returns : goal.returns
returns c =
    let l = c.args.lists.now in
    let h = c.head_at-head.result in
    let at = entry_of_head l.posts.items l.notes.items l.deliveries.items l.heads.items c.args.place h c.head_at-head.ensures in
    let posts = some_same _ _ (c.posts_at.ensures ∙ ap (option_map (λ (x : Stamped). x.entry.outputs)) at) in
    let notes = some_same _ _ (c.notes_at.ensures ∙ ap (option_map (λ (x : Stamped). x.entry.notes)) at) in
    (λ i. Some (record { actor = h.actor; input = c.input_of.ensures i; outputs = posts i; notes = notes i }))
    ∙ sym (ap (option_map (λ (x : Stamped). x.entry)) at)
