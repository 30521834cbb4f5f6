use Rattle.std.proofs.Common.{◌≡◌, ◌∙◌, None, Some, ap, length, slice_get, subst, suc, sym}
use Rattle.std.specs.Option.{option_copied, option_map}
use Rattle.std.specs.Prelude.{slice_range}
use Rattle.hx_model.specs.Types.{Entry}
use Rattle.hx_types.specs.Words.{when_some}
use Rattle.hx_trace.specs.Lists.{IsHeadIn, filed_by, posts_from, whole_by}
use Rattle.hx_trace.proofs.Longer.{entry_at_head, head_in, no_entry_at}
use Rattle.hx_trace.proofs.Naming.{get_within}
use Rattle.hx_trace.proofs.lists.posts_of_head.Goals as goal

pub returns-in_err-head : goal.returns-in_err-head
returns-in_err-head c =
    let l = c.args.lists.now in
    let is : slice_get l.heads.items c.args.place ≡ None = sym c.head_at.ensures ∙ ap option_copied c.in_err-head.was in
    rw c.from_residual.ensures (sym (ap (option_map (λ (e : Entry). e.outputs))
    (no_entry_at l.posts.items l.notes.items l.wholes.items l.heads.items c.args.place is)))

pub next_of-requires : goal.next_of-requires
next_of-requires c = get_within c.args.lists.now.heads.items c.args.place c.in_ok-head.head.now (sym c.head_at.ensures ∙ ap option_copied c.in_ok-head.was)

pub posts_of-requires : goal.posts_of-requires
posts_of-requires c =
    let l = c.args.lists.now in
    let is : slice_get l.heads.items c.args.place ≡ Some c.in_ok-head.head.now = sym c.head_at.ensures ∙ ap option_copied c.in_ok-head.was in
    subst (IsHeadIn (length l.posts.items) (length l.notes.items) (length l.wholes.items) c.in_ok-head.head.now) (sym c.next_of.ensures)
    (head_in _ _ _ l.heads.items c.args.place c.in_ok-head.head.now c.requires.heads is)

pub returns-in-Some : goal.returns-in-Some
returns-in-Some c =
    let l = c.args.lists.now in
    let h = c.in_ok-head.head.now in
    let is : slice_get l.heads.items c.args.place ≡ Some h = sym c.head_at.ensures ∙ ap option_copied c.in_ok-head.was in
    let whole : whole_by l.wholes.items h.input ≡ Some c.in-Some.whole.now = sym c.whole_of.ensures ∙ ap option_copied c.in-Some.is in
    ap (λ ps. Some ps) c.as_slice.ensures
    ∙ sym (ap (option_map (λ (e : Entry). e.outputs)) (entry_at_head l.posts.items l.notes.items l.wholes.items l.heads.items c.args.place h is)
    ∙ ap (λ o. Some (when_some o (filed_by l.posts.items l.notes.items h (slice_get l.heads.items (suc c.args.place))) (λ e. e)).outputs) whole)

pub returns-in-None : goal.returns-in-None
returns-in-None c =
    let l = c.args.lists.now in
    let h = c.in_ok-head.head.now in
    let is : slice_get l.heads.items c.args.place ≡ Some h = sym c.head_at.ensures ∙ ap option_copied c.in_ok-head.was in
    let none : whole_by l.wholes.items h.input ≡ None = sym c.whole_of.ensures ∙ ap option_copied c.in-None.is in
    ap (λ ps. Some ps) (c.posts_of.ensures ∙ ap (λ o. slice_range l.posts.items h.posts (posts_from (length l.posts.items) o)) c.next_of.ensures)
    ∙ sym (ap (option_map (λ (e : Entry). e.outputs)) (entry_at_head l.posts.items l.notes.items l.wholes.items l.heads.items c.args.place h is)
    ∙ ap (λ o. Some (when_some o (filed_by l.posts.items l.notes.items h (slice_get l.heads.items (suc c.args.place))) (λ e. e)).outputs) none)
