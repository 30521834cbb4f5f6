-- The newer of the accepted updates' mark and the base's.
use Rattle.std.proofs.Common.{ℕ, ◌≡◌, ◌≤◌, List, Option, None, ◌∙◌, ap, subst, sym}
use Rattle.std.specs.Option.{IfSome, option_copied}
use Rattle.hx_model.specs.Types.{Answer, Mark, Version}
use Rattle.hx_model.specs.Slots.{mark_among, mark_of, top_of}
use Rattle.hx_slot.specs.declared.updates.AcceptedUpdate.{AcceptedUpdate}
use Rattle.hx_slot.specs.States.{SlotState, call_at, call_seen}
use Rattle.hx_slot.specs.MarksAndTouches.{newer_of, newest_over}
use Rattle.hx_slot.proofs.Lean.{mark-below, mark-seen}
use Rattle.hx_slot.proofs.slots.Slot.mark.Goals as goal

pub returns-clause-mark : goal.returns-clause-mark
returns-clause-mark c =
    let kept = subst (λ (s : SlotState). s.state.marks ≡ _) (sym c.self.view_is) c.requires in
    let newest = c.newest_of-newest.ensures ∙ ap (λ (line : List AcceptedUpdate). newest_over c.args.session None line) c.as_slice.ensures.value in
    let base = c.mark_of.ensures ∙ ap (mark_among c.args.session) c.as_slice-2.ensures.value in
    subst (λ (s : SlotState). call_seen c.newer.result ≡ call_at (mark_of c.args.session s.state)) c.self.view_is
    (
    c.newer.ensures
    ∙ ap (λ (o : Option Mark). call_at (newer_of o (option_copied c.mark_of.result))) newest
    ∙ ap (λ (o : Option Mark). call_at (newer_of (newest_over c.args.session None c.self.inside.accepted.items) o)) base
    ∙ ap call_at (mark-seen c.self.inside c.self.invariant kept c.args.session)
    )

pub returns-clause-below : goal.returns-clause-below
returns-clause-below c =
    let below =
    subst (λ (s : SlotState). IfSome (call_at (mark_of c.args.session s.state)) (λ (call : ℕ × Version × Answer). call.1.0 ≤ top_of s.state)) c.self.view_is
    (mark-below c.self.inside c.self.invariant c.args.session)
    in
    subst (λ (o : Option (ℕ × Version × Answer)). IfSome o (λ call. call.1.0 ≤ top_of c.args.self.now.state)) (sym (returns-clause-mark c)) below
