use Rattle.std.proofs.Common.{map}
use Rattle.hx_trace.specs.Lists.{entries_by}
use Rattle.hx_trace.specs.Places.{placed}
use Rattle.hx_trace.proofs.filing.append_whole.Goals as goal
use Rattle.hx_trace.proofs.Longer.{last_after, whole_more}

pub returns-clause-whole : goal.returns-clause-whole
returns-clause-whole c =
    let l = c.args.lists.now in
    let more = whole_more l.posts.items l.notes.items l.wholes.items _ l.heads.items _ _ c.args.entry
    c.requires.whole.heads c.push_reserved.ensures.items c.push_reserved-2.ensures.items c.head_of_whole-head.ensures in
    record { places = c.requires.whole.places; heads = more.heads; few_posts = c.requires.whole.few_posts; few_notes = c.requires.whole.few_notes }

pub returns-clause-entries : goal.returns-clause-entries
returns-clause-entries c =
    let l = c.args.lists.now in
    let more = whole_more l.posts.items l.notes.items l.wholes.items _ l.heads.items _ _ c.args.entry
    c.requires.whole.heads c.push_reserved.ensures.items c.push_reserved-2.ensures.items c.head_of_whole-head.ensures in
    last_after (map (placed l.parts.items) l.places.items) (entries_by l.posts.items l.notes.items l.wholes.items l.heads.items) _ _ more.entries
