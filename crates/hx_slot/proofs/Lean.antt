-- The slot as contracts see it, without its past: what is known of it with its past holds of it too.
use Rattle.hx_model.specs.Lines.{upto}
use Rattle.std.proofs.Common.{◌≡◌, ℕ, ◌-◌, ◌+◌, ◌<◌, ◌≤◌, true, false, List, [], ◌∷◌, ◌++◌, Vec, map, length, take}
use Rattle.std.proofs.Common.{get_or, set, None, refl, ap, sym, ◌∙◌, subst, arith, not, eqb, leb, ltb}
use Rattle.std.specs.List.{All, AllByRecursion, filter, list_any, remove}
use Rattle.std.specs.Option.{IfSome}
use Rattle.std.specs.declared.alloc.Global.{Global}
use Rattle.std.proofs.lemmas.Bool.{cond_both, cond-false, lt-leb}
use Rattle.std.proofs.lemmas.List.Elements.{All-from_recursion, recursion_from_All, All-weaker}
use Rattle.hx_model.specs.Types.{Answer, Kept, Mark, RegionId, SessionId, Touch, Update, Version}
use Rattle.hx_types.specs.Words.{provided}
use Rattle.hx_model.specs.Places.{touched_in}
use Rattle.hx_model.specs.Slots.{Acknowledge, Forget, Hold, KeyState, Move, Take, acknowledged, is_pending, kept_of}
use Rattle.hx_model.specs.Slots.{kept_row, latest_of, mark_among, mark_of, marks_after, moved, moved_all, object_in}
use Rattle.hx_model.specs.Slots.{object_of, pending_of, settled, top_above, top_of, touches_after, touches_of}
use Rattle.hx_model.specs.Slots.{waits_below}
use Rattle.hx_law_folds.specs.Folding.{Descends, IsSlotOf, ShowSame, above, folded}
use Rattle.hx_law_folds.proofs.Lemmas.{folded-twice, kept-folded, mark-folded, touches-folded, acknowledged-settled, alike-folded, alike-show, settled-same}
use Rattle.hx_law_folds.proofs.Lemmas.{alike-moved_all, settled-fit, slot-folded, AllFit}
use Rattle.hx_slot.specs.declared.updates.PlacedUpdate.{PlacedUpdate}
use Rattle.hx_slot.specs.declared.ack_order.AckOrder.{AckOrder}
use Rattle.hx_slot.specs.declared.updates.AcceptedUpdate.{AcceptedUpdate}
use Rattle.hx_slot.specs.declared.slots.Slot.TheInside.{Inside}
use Rattle.hx_slot.specs.declared.bases.Base.{Base}
use Rattle.hx_slot.specs.Acks.{AreSameUpdates, front_acked, front_with, is_of_version, is_waiting_below}
use Rattle.hx_slot.specs.Updates.{Ascends, last_version, newest_first, row_over}
use Rattle.hx_slot.specs.Invariant.{IsSlot, pending_in, seen, whole}
use Rattle.hx_slot.specs.States.{IsOrderly, call_at}
use Rattle.hx_slot.specs.Bases.{IsCopied}
use Rattle.hx_slot.specs.MarksAndTouches.{marks_over, newer_of, newest_over, touched_over, touches_over}
use Rattle.hx_slot.proofs.Accepting as accepting
use Rattle.hx_slot.proofs.Acking.{with_ack}
use Rattle.hx_slot.proofs.Carrying as carrying
use Rattle.hx_slot.proofs.Newer.{mark_among-upto, marks_after-upto}
use Rattle.hx_slot.proofs.Newest.{floor-top, top_above-newest_first, update_of, upto-line}
use Rattle.hx_slot.proofs.Reading as reading
use Rattle.hx_slot.proofs.Regions.{TouchesUpTo, UpdatesUpTo, touched-upto, touches_after-upto}
use Rattle.hx_slot.proofs.Renewed as renewing
use Rattle.hx_slot.proofs.Settling as settling
use Rattle.hx_slot.proofs.Turns.{later-held}

-- a slot's line is one of a slot
descends-newest : (b w : ℕ) (o : List Update) (ts : List AcceptedUpdate) → Descends b o → top_above b o ≤ w → Ascends w ts → Descends b (newest_first o ts)
descends-newest b w o [] h l a = h
descends-newest b w o (t ∷ rest) h l a = let n = a.0 in descends-newest b t.update.version.0 (t.update ∷ o) rest (omega (arith, l, n), h) (omega arith) a.1

pub slot-whole : (a : Inside) → IsSlot a → IsSlotOf a.region (whole a).state
slot-whole a h = record {
  descends = descends-newest a.base.floor.0 a.base.floor.0 [] a.accepted.items tt (omega arith) h.line.ascends;
  floor = ap (top_above a.base.floor.0) (upto-line h.line) ∙ top_above-newest_first a.base.floor.0 [] (take a.committed a.accepted.items) ∙ sym h.line.floor_is;
  early = later-held a.region a.early.items h.early;
}

-- it shows the same
pub shown : (a : Inside) → IsSlot a → ShowSame a.region (seen a).state (whole a).state
shown a h = let w = slot-whole a h in alike-show a.region (seen a).state (whole a).state
    (slot-folded a.region (whole a).state w) w (alike-folded a.region (whole a).state)

pub top-lean : (a : Inside) → IsSlot a → top_of (whole a).state ≡ top_of (seen a).state
top-lean a h = sym (shown a h).top

pub top-seen : (a : Inside) → IsSlot a → last_version a.base.floor.0 a.accepted.items ≡ top_of (seen a).state
top-seen a h = reading.top-seen a ∙ top-lean a h

pub floor-seen : (a : Inside) → IsSlot a → a.floor.0 ≤ top_of (seen a).state
floor-seen a h = let l = floor-top h.line in let e = top-lean a h in omega (arith, l, e)

pub latest-seen : (a : Inside) → IsSlot a → object_in (row_over a.base.object a.accepted.items) ≡ latest_of a.region (seen a).state
latest-seen a h = reading.latest-seen a h ∙ sym (shown a h).latest

pub object-seen : (a : Inside) → IsSlot a → row_over a.base.object (take a.committed a.accepted.items) ≡ object_of a.region (seen a).state
object-seen a h = reading.object-seen a h ∙ sym (shown a h).object

pub pending-seen : (a : Inside) → IsSlot a → map update_of (pending_in a) ≡ pending_of (seen a).state
pending-seen a h = reading.pending-seen a h ∙ sym (shown a h).pending

pub count-seen : (a : Inside) → IsSlot a → length a.accepted.items - a.committed ≡ length (pending_of (seen a).state)
count-seen a h = reading.count-seen a h ∙ sym (ap length (shown a h).pending)

pub versions-seen : (a : Inside) → IsSlot a → AllByRecursion
    (λ (u : Update). (a.floor.0 < u.version.0) × (u.version.0 ≤ top_of (seen a).state)) (map update_of (pending_in a))
versions-seen a h = subst (λ n. AllByRecursion (λ (u : Update). (a.floor.0 < u.version.0) × (u.version.0 ≤ n))
    (map update_of (pending_in a))) (top-lean a h) (reading.versions-seen a h)

pub touched-seen : (a : Inside) → a.keeps_marks ≡ true → (g : RegionId)
    → touched_over g (touched_in g a.base.touches.items) a.accepted.items ≡ touched_in g (touches_of (seen a).state)
touched-seen a m g = reading.touched-seen a g ∙ ap (touched_in g) (sym (touches-folded a.region (whole a).state m))

pub mark-seen : (a : Inside) → IsSlot a → a.keeps_marks ≡ true → (session : SessionId)
    → newer_of (newest_over session None a.accepted.items) (mark_among session a.base.marks.items)
    ≡ mark_of session (seen a).state
mark-seen a h m session = reading.mark-seen a h session ∙ sym (mark-folded a.region (whole a).state m session)

-- nothing of it is above its top
all-above : (P : Update → Type 0) (v : ℕ) (us : List Update) → AllByRecursion P us → AllByRecursion P (above v us)
all-above P v [] h = tt
all-above P v (u ∷ us) h = cond_both (leb u.version.0 v) [] (u ∷ above v us) (AllByRecursion P) (λ e. tt) (λ e. (h.0, all-above P v us h.1))

newer-upto : (a : Inside) → IsSlot a → UpdatesUpTo (top_of (seen a).state) (seen a).state.accepted
newer-upto a h = all-above (λ (u : Update). u.version.0 ≤ top_of (seen a).state) a.floor.0 (whole a).state.accepted
    (subst (λ n. UpdatesUpTo n (whole a).state.accepted) (top-lean a h) (reading.updates-upto a h))

touches-upto : (a : Inside) → IsSlot a → TouchesUpTo (top_of (seen a).state) (touches_of (seen a).state)
touches-upto a h =
    let f = floor-seen a h in
    let o = carrying.kept-orderly a h in
    touches_after-upto (top_of (seen a).state) (seen a).state.base.touches (seen a).state.accepted
    (recursion_from_All (λ (t : Touch). t.version.0 ≤ top_of (seen a).state) (seen a).state.base.touches
    (All-weaker (λ (t : Touch). t.version.0 ≤ a.floor.0) (λ (t : Touch). t.version.0 ≤ top_of (seen a).state)
    (λ t l. omega (arith, f)) (seen a).state.base.touches o.touches))
    (newer-upto a h)

pub touches-below : (a : Inside) → IsSlot a → All (λ (t : Touch). t.version.0 ≤ top_of (seen a).state) (touches_of (seen a).state)
touches-below a h = All-from_recursion (λ (t : Touch). t.version.0 ≤ top_of (seen a).state) (touches_of (seen a).state) (touches-upto a h)

pub touched-below : (a : Inside) → IsSlot a → (g : RegionId) → touched_in g (touches_of (seen a).state) ≤ top_of (seen a).state
touched-below a h g = touched-upto (top_of (seen a).state) g (touches_of (seen a).state) (touches-upto a h)

pub mark-below : (a : Inside) → IsSlot a → (session : SessionId)
    → IfSome (call_at (mark_of session (seen a).state)) (λ (c : ℕ × Version × Answer). c.1.0 ≤ top_of (seen a).state)
mark-below a h session =
    let f = floor-seen a h in
    let o = carrying.kept-orderly a h in
    reading.if_call (top_of (seen a).state) (mark_of session (seen a).state)
    (
    mark_among-upto (top_of (seen a).state) session _
    (
    marks_after-upto (top_of (seen a).state) (seen a).state.base.marks (seen a).state.accepted
    (recursion_from_All (λ (m : Mark). m.version.0 ≤ top_of (seen a).state) (seen a).state.base.marks
    (All-weaker (λ (m : Mark). m.version.0 ≤ a.floor.0) (λ (m : Mark). m.version.0 ≤ top_of (seen a).state)
    (λ m l. omega (arith, f)) (seen a).state.base.marks o.marks))
    (newer-upto a h)
    )
    )

-- the committed state
pub marks-seen : (a : Inside) → IsSlot a → provided a.keeps_marks
    (marks_over a.base.marks.items (take a.committed a.accepted.items)) ≡ (kept_of a.region (seen a).state).marks
marks-seen a h = carrying.marks-seen a h ∙ sym (ap (λ (k : Kept). k.marks) (kept-folded a.region (whole a).state))

pub touches-seen : (a : Inside) → IsSlot a → provided a.keeps_marks
    (touches_over a.base.touches.items (take a.committed a.accepted.items)) ≡ (kept_of a.region (seen a).state).touches
touches-seen a h = carrying.touches-seen a h ∙ sym (ap (λ (k : Kept). k.touches) (kept-folded a.region (whole a).state))

pub kept-orderly : (a : Inside) → IsSlot a → IsOrderly (kept_of a.region (seen a).state)
kept-orderly a h = subst IsOrderly (sym (kept-folded a.region (whole a).state)) (carrying.kept-orderly a h)

pub base-kept : (a : Inside) → IsSlot a → a.committed ≡ 0
    → record {
      key = a.key;
      floor = a.floor;
      object = a.base.object;
      marks = a.base.marks.items;
      touches = a.base.touches.items;
    } ≡ kept_of a.region (seen a).state
base-kept a h e = carrying.base-kept a h e ∙ sym (kept-folded a.region (whole a).state)

-- acknowledgements
pub settled-count : (a : Inside) → IsSlot a → length (settled (seen a).state) ≡ front_acked (pending_in a)
settled-count a h = ap length (settled-same a.region (seen a).state (whole a).state (shown a h)) ∙ settling.settled-count a h

pub would-count : (a : Inside) → IsSlot a → (v : ℕ) → length (settled (moved (Acknowledge v) (seen a).state)) ≡ front_with v (pending_in a)
would-count a h v =
    let w = slot-whole a h in
    ap length (acknowledged-settled a.region (seen a).state (whole a).state (slot-folded a.region (whole a).state w) w
    (alike-folded a.region (whole a).state) v) ∙ settling.would-count a h v

pub pending-version : (a : Inside) → IsSlot a → (v : ℕ) → list_any (is_of_version v) (pending_in a) ≡ is_pending v (seen a).state
pending-version a h v = settling.pending-version a h v ∙ sym (ap (list_any (λ (u : Update). eqb u.version.0 v)) (shown a h).pending)

pub waits-seen : (a : Inside) → IsSlot a → (v : ℕ)
    → list_any (is_waiting_below v) (pending_in a) ≡ waits_below (seen a).state.acked v (pending_of (seen a).state)
waits-seen a h v = settling.waits-any (a.acked.versions) v (pending_in a) h.acked.marked ∙ ap (waits_below (a.acked.versions) v) (pending-seen a h)

-- what is settled is committed, and goes into the base
pub settled-state : (a : Inside) (n : ℕ) (floor : Version) (acked : AckOrder) → IsSlot a
    → n ≡ front_acked (pending_in a) → floor.0 ≡ last_version a.floor.0 (take n (pending_in a))
    → acked.versions ≡ filter (ltb floor.0) a.acked.versions
    → (seen (record a { committed = a.committed + n; floor = floor; acked = acked })).state
    ≡ folded a.region (moved_all (settled (seen a).state) (seen a).state)
settled-state a n floor acked h e f items =
    let w = slot-whole a h in
    let k = slot-folded a.region (whole a).state w in
    let same = settled-same a.region (seen a).state (whole a).state (shown a h) in
    ap (folded a.region) (settling.settled-state a n floor acked h e f items)
    ∙ sym
    (
    alike-moved_all a.region (settled (seen a).state) (seen a).state (whole a).state
    (alike-folded a.region (whole a).state) (settled-fit a.region (seen a).state k)
    (subst (AllFit a.region (whole a).state) (sym same) (settled-fit a.region (whole a).state w))
    ∙ ap (λ (ms : List Move). folded a.region (moved_all ms (whole a).state)) same
    )

pub acknowledged-state : (a : Inside) (i : ℕ) (t : AcceptedUpdate) (accepted : Vec AcceptedUpdate Global)
    (acked : AckOrder) → i < length (pending_in a) → t ≡ get_or (pending_in a) i t
    → accepted.items ≡ set a.accepted.items (a.committed + i) (record t { acknowledged = true })
    → acked.versions ≡ with_ack t.update.version.0 (a.acked.versions)
    → (seen (record a { accepted = accepted; acked = acked })).state ≡ moved (Acknowledge t.update.version.0) (seen a).state
acknowledged-state a i t accepted acked l e items acks = ap (folded a.region) (settling.acknowledged-state a i t accepted acked l e items acks)

pub forgotten-state : (a : Inside) (accepted : Vec AcceptedUpdate Global) (acked : AckOrder)
    (early : Vec PlacedUpdate Global) → AreSameUpdates a.accepted.items accepted.items → acked.versions ≡ [] → early.items ≡ []
    → (seen (record a { accepted = accepted; acked = acked; early = early })).state ≡ moved Forget (seen a).state
forgotten-state a accepted acked early same none_acked none_early =
    ap (folded a.region) (settling.forgotten-state a accepted acked early same none_acked none_early)

pub renewed-state : (a : Inside) (key : List ℕ) (base : Base) (accepted : Vec AcceptedUpdate Global)
    (acked : AckOrder) (early : Vec PlacedUpdate Global) → key ≡ a.key → IsCopied a.base base
    → AreSameUpdates a.accepted.items accepted.items → acked.versions ≡ [] → early.items ≡ []
    → (seen (record a { key = key; base = base; accepted = accepted; acked = acked; early = early; spare = 0 })).state ≡ moved Forget (seen a).state
renewed-state a key base accepted acked early same_key copied same none_acked none_early =
    ap (folded a.region) (renewing.renewed-state a key base accepted acked early same_key copied same none_acked none_early)

-- a taken update above the floor stays above it
take-folded : (g : RegionId) (s : KeyState) (u : Update) → s.floor < u.version.0 → folded g (moved (Take u) s) ≡ moved (Take u) (folded g s)
take-folded g s u l =
    let e = cond-false (leb u.version.0 s.floor) (u ∷ s.accepted) (upto s.floor s.accepted) (lt-leb u.version.0 s.floor l) in
    let rest = cond-false (leb u.version.0 s.floor) [] (u ∷ above s.floor s.accepted) (lt-leb u.version.0 s.floor l) in
    λ j. record {
      marks = s.marks;
      base = record {
        key = s.base.key;
        floor = record { 0 = s.floor };
        object = kept_row g s.base.object (e j);
        marks = provided s.marks (marks_after s.base.marks (e j));
        touches = provided s.marks (touches_after s.base.touches (e j));
      };
      accepted = rest j;
      floor = s.floor;
      acked = s.acked;
      early = (moved (Take u) s).early;
    }

pub accepted-state : (a : Inside) (t : AcceptedUpdate) (accepted : Vec AcceptedUpdate Global)
    (early : Vec PlacedUpdate Global) (spare : ℕ) → a.floor.0 < t.update.version.0
    → accepted.items ≡ a.accepted.items ++ t ∷ [] → early.items ≡ filter (λ (p : PlacedUpdate). not (eqb p.update.version.0 t.update.version.0)) a.early.items
    → (seen (record a { accepted = accepted; early = early; spare = spare })).state ≡ moved (Take t.update) (seen a).state
accepted-state a t accepted early spare above items kept =
    ap (folded a.region) (accepting.accepted-state a t accepted early spare items kept) ∙ take-folded a.region (whole a).state t.update above

pub held-state : (a : Inside) (p : PlacedUpdate) (early : Vec PlacedUpdate Global) (spare : ℕ)
    → early.items ≡ filter (λ (q : PlacedUpdate). not (eqb q.update.version.0 p.update.version.0)) a.early.items ++ p ∷ []
    → (seen (record a { early = early; spare = spare })).state ≡ moved (Hold p.update) (seen a).state
held-state a p early spare items = ap (folded a.region) (accepting.held-state a p early spare items)

pub removed-state : (a : Inside) (i : ℕ) (p : PlacedUpdate) (early : Vec PlacedUpdate Global) (spare : ℕ)
    → i < length a.early.items → p ≡ get_or a.early.items i p → early.items ≡ remove a.early.items i
    → moved (Take p.update) (seen (record a { early = early; spare = spare })).state ≡ moved (Take p.update) (seen a).state
removed-state a i p early spare l e items =
    let old = accepting.removed-state a i p early spare l e items in
    λ j. record (moved (Take p.update) (seen a).state) { early = (old j).early }

-- an acknowledgement of what isn't pending changes nothing
pub ack-none : (g : RegionId) (s : KeyState) (v : ℕ) → folded g s ≡ s → is_pending v s ≡ false → s ≡ folded g (moved_all (acknowledged s v) s)
ack-none g s v bare e = sym bare ∙ ap (λ (ms : List Move). folded g (moved_all ms s))
    (sym (ap (λ b. provided b (Acknowledge v ∷ provided (not (waits_below s.acked v (pending_of s)))
    (settled (moved (Acknowledge v) s)))) e))

-- one behind a lower update that waits commits nothing
pub ack-waiting : (g : RegionId) (s new : KeyState) (v : ℕ) → folded g s ≡ s → is_pending v s ≡ true
    → waits_below s.acked v (pending_of s) ≡ true → new ≡ moved (Acknowledge v) s
    → new ≡ folded g (moved_all (acknowledged s v) s)
ack-waiting g s new v bare e w n =
    n ∙ ap (moved (Acknowledge v)) (sym bare)
    ∙ ap (λ (ms : List Move). folded g (moved_all ms s))
    (
    sym (ap (λ b. provided b (Acknowledge v ∷ provided (not (waits_below s.acked v (pending_of s)))
    (settled (moved (Acknowledge v) s)))) e ∙ ap (λ b. Acknowledge v ∷ provided (not b)
    (settled (moved (Acknowledge v) s))) w)
    )

-- and any other of what is pending commits what can be
pub ack-settling : (g h : RegionId) (s m new : KeyState) (v : ℕ) → is_pending v s ≡ true
    → waits_below s.acked v (pending_of s) ≡ false → m ≡ moved (Acknowledge v) s → h ≡ g
    → new ≡ folded h (moved_all (settled m) m)
    → new ≡ folded g (moved_all (acknowledged s v) s)
ack-settling g h s m new v e w q r n =
    n ∙ (λ j. folded (r j) (moved_all (settled (q j)) (q j)))
    ∙ ap (λ (ms : List Move). folded g (moved_all ms s))
    (
    sym (ap (λ b. provided b (Acknowledge v ∷ provided (not (waits_below s.acked v (pending_of s)))
    (settled (moved (Acknowledge v) s)))) e ∙ ap (λ b. Acknowledge v ∷ provided (not b)
    (settled (moved (Acknowledge v) s))) w)
    )

-- what contracts see has no past
pub seen-bare : (a : Inside) → folded a.region (seen a).state ≡ (seen a).state
seen-bare a = folded-twice a.region (whole a).state

-- where nothing can be committed, nothing changes
no-moves : (ms : List Move) → length ms ≡ 0 → ms ≡ []
no-moves [] e = refl
no-moves (m ∷ ms) e = absurd (omega (arith, e))

pub nothing-settled : (g : RegionId) (s : KeyState) → folded g s ≡ s → length (settled s) ≡ 0 → s ≡ folded g (moved_all (settled s) s)
nothing-settled g s bare none = sym bare ∙ ap (λ (ms : List Move). folded g (moved_all ms s)) (sym (no-moves (settled s) none))
