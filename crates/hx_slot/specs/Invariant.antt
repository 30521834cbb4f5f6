-- What a slot keeps, and what contracts see of it.
use Rattle.std.specs.Prelude.{◌≡◌, ℕ, ◌+◌, ◌^◌, ◌<◌, ◌≤◌, List, [], map, length, take, drop, vec_capacity, vec_len}
use Rattle.std.specs.List.{AllByRecursion}
use Rattle.hx_model.specs.Types.{RegionId, Update}
use Rattle.hx_types.specs.Words.{provided}
use Rattle.hx_law_folds.specs.Folding.{folded}
use Rattle.hx_slot.specs.declared.updates.PlacedUpdate.{PlacedUpdate}
use Rattle.hx_slot.specs.declared.updates.AcceptedUpdate.{AcceptedUpdate}
use Rattle.hx_slot.specs.declared.slots.Slot.TheInside.{Inside}
use Rattle.hx_slot.specs.Acks.{AreAcked}
use Rattle.hx_slot.specs.Bases.{kept_in}
use Rattle.hx_slot.specs.Updates.{Ascends, IsHeld, IsPlaced, last_version, newest_first}
use Rattle.hx_slot.specs.States.{IsOrderly, SlotState}

abbrev pub updates_of : List PlacedUpdate → List Update
updates_of early = map (λ (p : PlacedUpdate). p.update) early

-- the slot with its whole past
abbrev pub whole : Inside → SlotState
whole a =
    record {
      region = a.region;
      state = record {
        marks = a.keeps_marks;
        base = kept_in a.key a.base;
        accepted = newest_first [] a.accepted.items;
        floor = a.floor.0;
        acked = a.acked.versions;
        early = updates_of a.early.items;
      };
      spare = a.spare;
      held = a.committed;
    }

-- the slot as contracts see it: without its past
abbrev pub seen : Inside → SlotState
seen a = record { region = a.region; state = folded a.region (whole a).state; spare = a.spare; held = a.committed }

-- versions ascend from that of the base, each update has its place, and the first ones are committed
pub record IsLine (g : RegionId) (base : ℕ) (accepted : List AcceptedUpdate) (committed floor : ℕ) : Type 0 where
  pub ascends : Ascends base accepted
  pub placed : AllByRecursion (λ (t : AcceptedUpdate). IsPlaced g t.update t.keeps) accepted
  pub within : committed ≤ length accepted
  pub floor_is : floor ≡ last_version base (take committed accepted)

abbrev pub pending_in : Inside → List AcceptedUpdate
pending_in a = drop a.committed a.accepted.items

-- how many updates may still be accepted before more room is made
abbrev pub coming : Inside → ℕ
coming a = vec_len a.early + a.spare

-- there is room for the updates that may still come
pub record HasRoom (a : Inside) : Type 0 where
  pub accepted : vec_len a.accepted + coming a ≤ vec_capacity a.accepted
  pub early : coming a ≤ vec_capacity a.early
  pub few : vec_len a.accepted + coming a + 1 < 2 ^ 32

pub record IsSlot (a : Inside) : Type 0 where
  pub line : IsLine a.region a.base.floor.0 a.accepted.items a.committed a.floor.0
  pub base : IsOrderly (kept_in a.key a.base)
  pub bare : provided a.keeps_marks a.base.marks.items ≡ a.base.marks.items
  pub untouched : provided a.keeps_marks a.base.touches.items ≡ a.base.touches.items
  pub acked : AreAcked (a.acked.versions) (pending_in a)
  pub early : AllByRecursion (IsHeld a.region) a.early.items
  pub room : HasRoom a
