use Rattle.std.proofs.Common.{List, ◌∙◌, ap, drop, sym}
use Rattle.std.specs.List.{list_any}
use Rattle.hx_model.specs.Slots.{ack_answer}
use Rattle.hx_slot.specs.declared.updates.AcceptedUpdate.{AcceptedUpdate}
use Rattle.hx_slot.specs.Acks.{front_with, is_of_version, is_waiting_below}
use Rattle.hx_slot.specs.Invariant.{seen}
use Rattle.hx_slot.specs.States.{SlotState, committed_count}
use Rattle.hx_slot.proofs.Lean.{pending-version, waits-seen, would-count}
use Rattle.hx_slot.proofs.Settling.{ack-commits, ack-kept, ack-unknown}
use Rattle.hx_slot.proofs.slots.Slot.would_commit.Goals as goal

pub returns-then-not-has_update : goal.returns-then-not-has_update
returns-then-not-has_update c =
    let a = c.self.inside in
    let v = c.args.version.0 in
    let rest = c.rest_of-pending.ensures ∙ ap (drop a.committed) c.as_slice.ensures.value in
    let no = sym (pending-version a c.self.invariant v)
    ∙ sym (c.if-not-has_update.ensures ∙ ap (λ (ts : List AcceptedUpdate). list_any (is_of_version v) ts) rest) in
    ap committed_count (ack-unknown (seen a).state v no) ∙ ap (λ (s : SlotState). committed_count (ack_answer s.state v)) c.self.view_is

pub returns-then-waits_below : goal.returns-then-waits_below
returns-then-waits_below c =
    let a = c.self.inside in
    let v = c.args.version.0 in
    let rest = c.rest_of-pending.ensures ∙ ap (drop a.committed) c.as_slice.ensures.value in
    let yes = sym (pending-version a c.self.invariant v)
    ∙ sym (c.if-not-has_update.ensures ∙ ap (λ (ts : List AcceptedUpdate). list_any (is_of_version v) ts) rest) in
    let waits = sym (waits-seen a c.self.invariant v)
    ∙ sym (c.if-waits_below.ensures ∙ ap (λ (ts : List AcceptedUpdate). list_any (is_waiting_below v) ts) rest) in
    ap committed_count (ack-kept (seen a).state v yes waits) ∙ ap (λ (s : SlotState). committed_count (ack_answer s.state v)) c.self.view_is

pub returns : goal.returns
returns c =
    let a = c.self.inside in
    let v = c.args.version.0 in
    let rest = c.rest_of-pending.ensures ∙ ap (drop a.committed) c.as_slice.ensures.value in
    let yes = sym (pending-version a c.self.invariant v)
    ∙ sym (c.if-not-has_update.ensures ∙ ap (λ (ts : List AcceptedUpdate). list_any (is_of_version v) ts) rest) in
    let waits = sym (waits-seen a c.self.invariant v)
    ∙ sym (c.if-waits_below.ensures ∙ ap (λ (ts : List AcceptedUpdate). list_any (is_waiting_below v) ts) rest) in
    ap committed_count
    (
    ack-commits (seen a).state v c.acknowledged_with.result yes waits
    (c.acknowledged_with.ensures.front ∙ ap (front_with v) rest ∙ sym (would-count a c.self.invariant v))
    )
    ∙ ap (λ (s : SlotState). committed_count (ack_answer s.state v)) c.self.view_is
