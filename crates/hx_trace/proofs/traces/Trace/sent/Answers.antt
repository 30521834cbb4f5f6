use Rattle.std.proofs.Common.{◌≡◌, ◌-◌, Some, None, slice_get, ap, sym, ◌∙◌}
use Rattle.std.specs.Option.{option_copied, option_map}
use Rattle.hx_model.specs.Types.{Entry}
use Rattle.hx_trace.proofs.Naming.{post_at, post_in, unnumbered}
use Rattle.hx_trace.proofs.traces.Trace.sent.Goals as goal

pub returns-in_err-place : goal.returns-in_err-place
returns-in_err-place c = rw c.from_residual.ensures (sym (unnumbered c.args.self.now c.args.id (λ h. c.in_err-place.ensures h)))

pub returns-in_err-posts : goal.returns-in_err-posts
returns-in_err-posts c =
    let t = c.args.self.now in
    let none : None ≡ option_map (λ (x : Entry). x.outputs) (slice_get t (c.args.id.entry - 1)) =
    ap option_copied (sym c.in_err-posts.was) ∙ c.posts_at.ensures
    ∙ ap (λ es. option_map (λ (x : Entry). x.outputs) (slice_get es c.in_ok-place.place))
    (c.lists.ensures.entries ∙ c.self.view_is)
    ∙ ap (λ i. option_map (λ (x : Entry). x.outputs) (slice_get t i)) c.in_ok-place.ensures.1 in
    rw c.from_residual-in_err-posts.ensures (post_in (slice_get t (c.args.id.entry - 1)) None c.args.id.place none
    ∙ sym (post_at t c.args.id c.in_ok-place.ensures.0))

pub returns : goal.returns
returns c =
    let t = c.args.self.now in
    let is : Some c.in_ok-posts.posts.now ≡ option_map (λ (x : Entry). x.outputs) (slice_get t (c.args.id.entry - 1)) =
    ap option_copied (sym c.in_ok-posts.was) ∙ c.posts_at.ensures
    ∙ ap (λ es. option_map (λ (x : Entry). x.outputs) (slice_get es c.in_ok-place.place))
    (c.lists.ensures.entries ∙ c.self.view_is)
    ∙ ap (λ i. option_map (λ (x : Entry). x.outputs) (slice_get t i)) c.in_ok-place.ensures.1 in
    c.post_at.ensures ∙ post_in (slice_get t (c.args.id.entry - 1)) (Some c.in_ok-posts.posts.now) c.args.id.place is
    ∙ sym (post_at t c.args.id c.in_ok-place.ensures.0)
