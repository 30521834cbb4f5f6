-- The acknowledgements of pending updates.
use Rattle.std.specs.Prelude.{◌≡◌, ℕ, zero, suc, ⊤, Bool, true, not, nat_lt, ◌&&◌, ◌||◌, List, [], ◌∷◌, if◌then◌else◌, ◌==◌}
use Rattle.std.specs.List.{AllByRecursion, list_any}
use Rattle.hx_slot.specs.declared.updates.AcceptedUpdate.{AcceptedUpdate}

abbrev pub is_of_version : ℕ → AcceptedUpdate → Bool
is_of_version v t = t.update.version.0 == v

-- an acknowledged update of the version
abbrev pub is_acknowledged_as : ℕ → AcceptedUpdate → Bool
is_acknowledged_as v t = t.acknowledged && is_of_version v t

-- an update of a lower version that isn't acknowledged
abbrev pub is_waiting_below : ℕ → AcceptedUpdate → Bool
is_waiting_below v t = nat_lt t.update.version.0 v && not t.acknowledged

-- acknowledged is what is pending and is marked so
pub record AreAcked (acked : List ℕ) (pending : List AcceptedUpdate) : Type 0 where
  pub marked : AllByRecursion (λ (t : AcceptedUpdate). t.acknowledged ≡ list_any (λ v. v == t.update.version.0) acked) pending
  pub known : AllByRecursion (λ v. list_any (is_of_version v) pending ≡ true) acked

-- how many updates at the front are acknowledged
abbrev pub front_acked : List AcceptedUpdate → ℕ
front_acked [] = zero
front_acked (t ∷ rest) = if t.acknowledged then suc (front_acked rest) else zero

-- and how many would be with that of a version
abbrev pub front_with : ℕ → List AcceptedUpdate → ℕ
front_with v [] = zero
front_with v (t ∷ rest) = if t.acknowledged || is_of_version v t then suc (front_with v rest) else zero

-- the same updates at the same places
abbrev pub AreSameUpdates : List AcceptedUpdate → List AcceptedUpdate → Type 0
AreSameUpdates [] [] = ⊤
AreSameUpdates [] (y ∷ ys) = ⊥
AreSameUpdates (x ∷ xs) [] = ⊥
AreSameUpdates (x ∷ xs) (y ∷ ys) = (y.update ≡ x.update) × (y.keeps ≡ x.keeps) × AreSameUpdates xs ys
