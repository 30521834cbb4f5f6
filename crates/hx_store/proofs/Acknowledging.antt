-- Versions are acknowledged one after another.
use Rattle.std.proofs.Common.{◌≡◌, ℕ, ◌+◌, ◌<◌, ◌≤◌, true, List, [], ◌∷◌, drop, length, get_or, ap, sym, ◌∙◌, subst, arith, add-one, drop-cons}
use Rattle.std.proofs.lemmas.List.{drop_all}
use Rattle.std.proofs.lemmas.List.Elements.{All-head, All-tail}
use Rattle.hx_model.specs.Types.{Version}
use Rattle.hx_model.specs.Slots.{Acknowledge, KeyState, is_pending, moved, moved_all}
use Rattle.hx_slot.specs.States.{SlotState}
use Rattle.hx_store.specs.Stores.{ArePending, acknowledging}

-- the first versions were acknowledged, and the rest are pending
pub record IsSoFar (rest versions : List Version) (old new : SlotState) : Type 0 where
  pub pending : ArePending new.state rest
  pub state : moved_all (acknowledging rest) new.state ≡ moved_all (acknowledging versions) old.state
  pub region : new.region ≡ old.region
  pub spare : old.spare ≤ new.spare

-- one more
pub next : (v : Version) (rest versions : List Version) (old before after : SlotState) → IsSoFar (v ∷ rest) versions old before
    → after.state ≡ moved (Acknowledge v.0) before.state → after.region ≡ before.region → before.spare ≤ after.spare → IsSoFar rest versions old after
next v rest versions old before after so state region spare = record {
  pending = subst (λ (s : KeyState). ArePending s rest) (sym state) (All-tail (λ (w : Version). is_pending w.0 before.state ≡ true) v rest so.pending);
  state = ap (λ (s : KeyState). moved_all (acknowledging rest) s) state ∙ so.state;
  region = region ∙ so.region;
  spare = (let a = so.spare in omega (arith, a, spare));
}

-- the version whose turn it is stands first among the rest
pub at_turn : (versions : List Version) (i : ℕ) (d : Version) (old before : SlotState) → i < length versions
    → IsSoFar (drop i versions) versions old before → IsSoFar (get_or versions i d ∷ drop (i + 1) versions) versions old before
at_turn versions i d old before within so =
    subst (λ (n : ℕ). IsSoFar (get_or versions i d ∷ drop n versions) versions old before) (sym (add-one i))
    (subst (λ (rest : List Version). IsSoFar rest versions old before) (drop-cons versions i d within) so)

-- it is pending
pub turn_pending : (v : Version) (rest versions : List Version) (old before : SlotState)
    → IsSoFar (v ∷ rest) versions old before → is_pending v.0 before.state ≡ true
turn_pending v rest versions old before so = All-head (λ (w : Version). is_pending w.0 before.state ≡ true) v rest so.pending

-- in the end all were
pub at_end : (versions : List Version) (i : ℕ) (old new : SlotState) → length versions ≤ i
    → IsSoFar (drop i versions) versions old new → IsSoFar [] versions old new
at_end versions i old new past so = subst (λ (rest : List Version). IsSoFar rest versions old new) (drop_all i versions past) so
