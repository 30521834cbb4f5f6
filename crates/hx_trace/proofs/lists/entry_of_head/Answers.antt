use Rattle.std.proofs.Common.{◌≡◌, ◌∙◌, None, Some, ap, length, slice_get, subst, sym}
use Rattle.std.specs.Option.{option_copied}
use Rattle.hx_trace.specs.Lists.{IsHeadIn, entry_by}
use Rattle.hx_trace.proofs.Longer.{entry_at_head, head_in, no_entry_at}
use Rattle.hx_trace.proofs.Naming.{get_within}
use Rattle.hx_trace.proofs.lists.entry_of_head.Goals as goal

pub returns-in_err-head : goal.returns-in_err-head
returns-in_err-head c =
    let l = c.args.lists.now in
    let is : slice_get l.heads.items c.args.place ≡ None = sym c.head_at.ensures ∙ ap option_copied c.in_err-head.was in
    rw c.from_residual.ensures (sym (no_entry_at l.posts.items l.notes.items l.wholes.items l.heads.items c.args.place is))

pub next_of-requires : goal.next_of-requires
next_of-requires c = get_within c.args.lists.now.heads.items c.args.place c.in_ok-head.head.now (sym c.head_at.ensures ∙ ap option_copied c.in_ok-head.was)

pub entry_of-requires : goal.entry_of-requires
entry_of-requires c =
    let l = c.args.lists.now in
    let is : slice_get l.heads.items c.args.place ≡ Some c.in_ok-head.head.now = sym c.head_at.ensures ∙ ap option_copied c.in_ok-head.was in
    subst (IsHeadIn (length l.posts.items) (length l.notes.items) (length l.wholes.items) c.in_ok-head.head.now) (sym c.next_of.ensures)
    (head_in _ _ _ l.heads.items c.args.place c.in_ok-head.head.now c.requires.heads is)

pub returns : goal.returns
returns c =
    let l = c.args.lists.now in
    let is : slice_get l.heads.items c.args.place ≡ Some c.in_ok-head.head.now = sym c.head_at.ensures ∙ ap option_copied c.in_ok-head.was in
    ap (λ e. Some e) (c.entry_of.ensures ∙ ap (entry_by l.posts.items l.notes.items l.wholes.items c.in_ok-head.head.now) c.next_of.ensures)
    ∙ sym (entry_at_head l.posts.items l.notes.items l.wholes.items l.heads.items c.args.place c.in_ok-head.head.now is)
