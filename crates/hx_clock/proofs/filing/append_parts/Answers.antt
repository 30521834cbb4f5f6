use Rattle.std.proofs.Common.{◌≡◌, ◌∙◌, length}
use Rattle.hx_clock.proofs.Filed.{filed}
use Rattle.hx_clock.proofs.filing.append_parts.Goals as goal

pub returns-clause-whole : goal.returns-clause-whole
returns-clause-whole c =
    let l = c.args.lists.now in
    let p : c.len.result ≡ length l.posts.items = c.len.ensures ∙ l.posts.ok.0 in
    let n : c.len-2.result ≡ length l.notes.items = c.len-2.ensures ∙ l.notes.ok.0 in
    (filed l.posts.items c.args.posts.now l.notes.items c.args.notes.now l.deliveries.items l.heads.items _ _ _ _ _
    c.args.input c.requires.whole c.move_to.ensures.vector c.move_to-2.ensures.vector
    c.file_input.ensures.deliveries c.push_reserved.ensures.items p n c.file_input.ensures.within c.file_input.ensures.input).whole

pub returns-clause-entries : goal.returns-clause-entries
returns-clause-entries c =
    let l = c.args.lists.now in
    let p : c.len.result ≡ length l.posts.items = c.len.ensures ∙ l.posts.ok.0 in
    let n : c.len-2.result ≡ length l.notes.items = c.len-2.ensures ∙ l.notes.ok.0 in
    (filed l.posts.items c.args.posts.now l.notes.items c.args.notes.now l.deliveries.items l.heads.items _ _ _ _ _
    c.args.input c.requires.whole c.move_to.ensures.vector c.move_to-2.ensures.vector
    c.file_input.ensures.deliveries c.push_reserved.ensures.items p n c.file_input.ensures.within c.file_input.ensures.input).entries
