-- A slot with more room.
use Rattle.std.proofs.Common.{◌≡◌, ℕ, Bool, List, [], Vec, drop, ap, sym, ◌∙◌, subst}
use Rattle.std.specs.List.{AllByRecursion}
use Rattle.std.specs.declared.alloc.Global.{Global}
use Rattle.hx_model.specs.Types.{Version}
use Rattle.hx_types.specs.Words.{provided}
use Rattle.hx_slot.specs.declared.updates.PlacedUpdate.{PlacedUpdate}
use Rattle.hx_slot.specs.declared.updates.AcceptedUpdate.{AcceptedUpdate}
use Rattle.hx_slot.specs.declared.slots.Slot.TheInside.{Inside}
use Rattle.hx_slot.specs.declared.bases.Base.{Base}
use Rattle.hx_slot.specs.Updates.{IsHeld}
use Rattle.hx_slot.specs.Acks.{AreAcked}
use Rattle.hx_slot.specs.Bases.{IsCopied, IsWidened, kept_in}
use Rattle.hx_slot.specs.Invariant.{HasRoom, IsLine, IsSlot}
use Rattle.hx_slot.specs.Rooms.{IsGrown}
use Rattle.hx_slot.specs.States.{IsOrderly}

-- the same state is in order
pub same-kept : (key : List ℕ) (old new : Base) → IsCopied old new → kept_in key new ≡ kept_in key old
same-kept key old new e =
    let f = e.floor in
    let o = e.object in
    let m = e.marks in
    let t = e.touches in
    λ j. record { key = key; floor = f j; object = o j; marks = m j; touches = t j }

pub same-provided : {A : Type 0} (b : Bool) (old new : List A) → new ≡ old → provided b old ≡ old → provided b new ≡ new
same-provided b old new e h = ap (provided b) e ∙ h ∙ sym e

pub widened-copied : (old new : Base) → IsWidened old new → IsCopied old new
widened-copied old new w = record { floor = w.floor; object = w.object; marks = w.marks.items; touches = w.touches.items }

-- the slot with the same entries and more room
pub refitted-slot : (a : Inside) (accepted : Vec AcceptedUpdate Global) (early : Vec PlacedUpdate Global) (base : Base) (spare : ℕ)
    → IsSlot a → IsGrown a.accepted accepted → IsGrown a.early early → IsWidened a.base base
    → HasRoom (record a { accepted = accepted; early = early; base = base; spare = spare })
    → IsSlot (record a { accepted = accepted; early = early; base = base; spare = spare })
refitted-slot a accepted early base spare h more held wider room =
    let same = same-kept a.key a.base base (widened-copied a.base base wider) in
    record {
      line = subst (λ (n : ℕ). IsLine a.region n accepted.items a.committed a.floor.0)
          (sym (ap (λ (v : Version). v.0) wider.floor))
          (subst (λ (ts : List AcceptedUpdate). IsLine a.region a.base.floor.0 ts a.committed a.floor.0) (sym more.items) h.line);
      base = subst IsOrderly (sym same) h.base;
      bare = same-provided a.keeps_marks a.base.marks.items base.marks.items wider.marks.items h.bare;
      untouched = same-provided a.keeps_marks a.base.touches.items base.touches.items wider.touches.items h.untouched;
      acked = subst (λ (ts : List AcceptedUpdate). AreAcked a.acked.versions (drop a.committed ts)) (sym more.items) h.acked;
      early = subst (AllByRecursion (IsHeld a.region)) (sym held.items) h.early;
      room = room;
    }
