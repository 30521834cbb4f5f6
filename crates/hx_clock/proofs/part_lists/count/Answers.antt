use Rattle.std.proofs.Common.{◌∙◌, sym}
use Rattle.hx_clock.proofs.Filed.{length_entries}
use Rattle.hx_clock.proofs.part_lists.count.Goals as goal

pub returns-clause-entries : goal.returns-clause-entries
returns-clause-entries c =
    let l = c.args.lists.now in
    c.len.ensures ∙ l.heads.ok.0 ∙ sym (length_entries l.posts.items l.notes.items l.deliveries.items l.heads.items)
