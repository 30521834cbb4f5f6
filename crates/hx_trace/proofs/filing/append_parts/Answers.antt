use Rattle.std.proofs.Common.{◌≡◌, ◌∙◌, arith, length, length-append, map}
use Rattle.hx_trace.specs.Lists.{entries_by}
use Rattle.hx_trace.specs.Places.{placed}
use Rattle.hx_trace.proofs.filing.append_parts.Goals as goal
use Rattle.hx_trace.proofs.Longer.{last_after, parts_more}

pub returns-clause-whole : goal.returns-clause-whole
returns-clause-whole c =
    let l = c.args.lists.now in
    let p : c.len.result ≡ length l.posts.items = c.len.ensures ∙ l.posts.ok.0 in
    let n : c.len-2.result ≡ length l.notes.items = c.len-2.ensures ∙ l.notes.ok.0 in
    let more = parts_more l.posts.items c.args.outputs.now _ l.notes.items c.args.notes.now _ l.wholes.items
    l.heads.items _ _ c.requires.whole.heads c.move_to.ensures.vector c.move_to-2.ensures.vector
    c.push_reserved.ensures.items p n c.requires.input c.requires.filed in
    record {
      places = c.requires.whole.places;
      heads = more.heads;
      few_posts = rw c.move_to.ensures.vector (omega (arith, length-append l.posts.items c.args.outputs.now, c.requires.room.few_posts));
      few_notes = rw c.move_to-2.ensures.vector (omega (arith, length-append l.notes.items c.args.notes.now, c.requires.room.few_notes));
    }

pub returns-clause-entries : goal.returns-clause-entries
returns-clause-entries c =
    let l = c.args.lists.now in
    let p : c.len.result ≡ length l.posts.items = c.len.ensures ∙ l.posts.ok.0 in
    let n : c.len-2.result ≡ length l.notes.items = c.len-2.ensures ∙ l.notes.ok.0 in
    let more = parts_more l.posts.items c.args.outputs.now _ l.notes.items c.args.notes.now _ l.wholes.items
    l.heads.items _ _ c.requires.whole.heads c.move_to.ensures.vector c.move_to-2.ensures.vector
    c.push_reserved.ensures.items p n c.requires.input c.requires.filed in
    last_after (map (placed l.parts.items) l.places.items) (entries_by l.posts.items l.notes.items l.wholes.items l.heads.items) _ _ more.entries
