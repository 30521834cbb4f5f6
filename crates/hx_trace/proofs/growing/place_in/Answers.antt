use Rattle.std.proofs.Common.{◌≡◌, Some, ap, length, sym, ◌∙◌}
use Rattle.hx_trace.specs.Lists.{posts_from}
use Rattle.std.specs.Option.{option_copied}
use Rattle.std.specs.Prelude.{slice_get}
use Rattle.hx_trace.proofs.Naming.{filed_place, unkept}
use Rattle.hx_trace.proofs.growing.place_in.Goals as goal

pub returns-in_default : goal.returns-in_default
returns-in_default c =
    let l = c.args.lists.now in
    let is : slice_get l.heads.items c.in_ok-place.place ≡ Some c.in_ok-head.head.now = sym c.head_at.ensures ∙ ap option_copied c.in_ok-head.was in
    let none = unkept l.wholes.items c.in_ok-head.head.now.input c.in_default.not-Whole in
    let at = filed_place l c.args.id c.len.result c.in_ok-number.number c.in_ok-place.place c.in_ok-head.head.now
    c.requires (c.len.ensures ∙ l.places.ok.0) c.in_ok-number.ensures c.in_ok-place.ensures is none
    c.posts_end.result (c.posts_end.ensures ∙ ap (posts_from (length l.posts.items)) c.next_of.ensures)
    c.place_among.result c.place_among.ensures in
    record { within = at.within; post = at.post }
