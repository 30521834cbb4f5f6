-- What a slot is read by gives the folds of its state.
use Rattle.std.proofs.Common.{◌≡◌, ℕ, ◌-◌, ◌<◌, ◌≤◌, [], map, take, length, Option, Some, None, ap, sym, ◌∙◌, arith}
use Rattle.std.specs.List.{AllByRecursion}
use Rattle.std.specs.Option.{IfSome}
use Rattle.std.proofs.lemmas.List.{length-drop, length-map}
use Rattle.hx_model.specs.Types.{Answer, Mark, RegionId, SessionId, Update, Version}
use Rattle.hx_model.specs.Places.{touched_in}
use Rattle.hx_model.specs.Slots.{kept_row, latest_of, mark_among, mark_of, object_in, object_of, pending_of, top_of, touches_of}
use Rattle.hx_slot.specs.declared.slots.Slot.TheInside.{Inside}
use Rattle.hx_slot.specs.Updates.{IsPlaced, last_version, newest_first, row_over}
use Rattle.hx_slot.specs.declared.updates.AcceptedUpdate.{AcceptedUpdate}
use Rattle.hx_slot.specs.Invariant.{IsSlot, pending_in, whole}
use Rattle.hx_slot.specs.States.{HasFewPlaces, IsPlacedIn, call_at}
use Rattle.hx_slot.specs.MarksAndTouches.{newer_of, newest_over, touched_over}
use Rattle.hx_slot.proofs.Newer.{mark-over, newest-marks}
use Rattle.hx_slot.proofs.Newest.{by_recursion-drop, by_recursion-take, few-placed, kept_row-newest_first}
use Rattle.hx_slot.proofs.Newest.{newest_first-upto, pending-ascends, pending-between, pending-line, placed-within}
use Rattle.hx_slot.proofs.Newest.{top-pending, top_above-newest_first, update_of, upto-line}
use Rattle.hx_slot.proofs.Regions.{UpdatesUpTo, touched-over}

pub top-seen : (a : Inside) → last_version a.base.floor.0 a.accepted.items ≡ top_of (whole a).state
top-seen a = sym (top_above-newest_first a.base.floor.0 [] a.accepted.items)

pub latest-seen : (a : Inside) → IsSlot a → object_in (row_over a.base.object a.accepted.items) ≡ latest_of a.region (whole a).state
latest-seen a h = ap object_in (sym (kept_row-newest_first a.region a.base.object [] a.accepted.items h.line.placed))

pub object-seen : (a : Inside) → IsSlot a → row_over a.base.object (take a.committed a.accepted.items) ≡ object_of a.region (whole a).state
object-seen a h =
    sym
    (
    ap (kept_row a.region a.base.object) (upto-line h.line)
    ∙ kept_row-newest_first a.region a.base.object [] (take a.committed a.accepted.items)
    (by_recursion-take (λ (t : AcceptedUpdate). IsPlaced a.region t.update t.keeps) a.committed a.accepted.items
    h.line.placed)
    )

pub pending-seen : (a : Inside) → IsSlot a → map update_of (pending_in a) ≡ pending_of (whole a).state
pending-seen a h = sym (pending-line h.line)

pub count-seen : (a : Inside) → IsSlot a → length a.accepted.items - a.committed ≡ length (pending_of (whole a).state)
count-seen a h = sym (ap length (pending-line h.line) ∙ length-map (pending_in a) update_of ∙ length-drop a.committed a.accepted.items)

-- the versions of what is pending, and its places
pub versions-seen : (a : Inside) → IsSlot a → AllByRecursion
    (λ (u : Update). (a.floor.0 < u.version.0) × (u.version.0 ≤ top_of (whole a).state)) (map update_of (pending_in a))
versions-seen a h =
    let e = top-seen a in
    let q = top-pending h.line in
    pending-between a.floor.0 (top_of (whole a).state) a.floor.0 (pending_in a) (omega arith) (pending-ascends h.line) (omega (arith, e, q))

pub places-seen : (a : Inside) → IsSlot a → AllByRecursion (IsPlacedIn a.region) (map update_of (pending_in a))
places-seen a h = placed-within a.region (pending_in a)
    (by_recursion-drop (λ (t : AcceptedUpdate). IsPlaced a.region t.update t.keeps) a.committed a.accepted.items h.line.placed)

pub few-seen : (a : Inside) → IsSlot a → AllByRecursion HasFewPlaces (map update_of (pending_in a))
few-seen a h = few-placed a.region (pending_in a)
    (by_recursion-drop (λ (t : AcceptedUpdate). IsPlaced a.region t.update t.keeps) a.committed a.accepted.items h.line.placed)

-- nothing of the slot is above its top
pub updates-upto : (a : Inside) → IsSlot a → UpdatesUpTo (top_of (whole a).state) (newest_first [] a.accepted.items)
updates-upto a h =
    let e = top-seen a in newest_first-upto (top_of (whole a).state) [] a.accepted.items a.base.floor.0 tt h.line.ascends (omega (arith, e))

pub touched-seen : (a : Inside) (g : RegionId) → touched_over g (touched_in g a.base.touches.items) a.accepted.items ≡ touched_in g (touches_of (whole a).state)
touched-seen a g = touched-over g a.base.touches.items [] a.accepted.items

pub mark-seen : (a : Inside) → IsSlot a → (session : SessionId)
    → newer_of (newest_over session None a.accepted.items) (mark_among session a.base.marks.items)
    ≡ mark_of session (whole a).state
mark-seen a h session =
    ap (λ (o : Option Mark). newer_of o (mark_among session a.base.marks.items)) (newest-marks session [] [] a.accepted.items tt)
    ∙ mark-over session a.base.marks.items (newest_first [] a.accepted.items) h.base.sessions_ascend

pub if_call : (v : ℕ) (o : Option Mark) → IfSome o (λ (m : Mark). m.version.0 ≤ v) → IfSome (call_at o) (λ (c : ℕ × Version × Answer). c.1.0 ≤ v)
if_call v None h = tt
if_call v (Some m) h = h
