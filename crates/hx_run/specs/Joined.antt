-- Actors whose boxes' ports are joined.
use Rattle.std.specs.Prelude.{ℕ, zero, suc, ◌≡◌, ◌+◌, ◌<◌, ◌≤◌, ◌⊎◌, List, [], ◌∷◌, ◌++◌, map, length, slice_index_or, Some, ⊤}
use Rattle.std.specs.List.{AllByRecursion}
use mathlib.Core.List.{IsPrefix}
use Rattle.hx_types.specs.declared.traces.Script.{Script}
use Rattle.hx_types.specs.Words.{IsIn}
use Rattle.hx_clock.specs.Views.{total}
use Rattle.hx_mail.specs.declared.views.Mailed.{Mailed}
use Rattle.hx_mail.specs.declared.views.PortLists.{PortLists}
use Rattle.hx_mail.specs.Boxes.{Boxed, Ported, IsPortOf}
use Rattle.hx_mail.specs.Ports.{lists_of, port, put_by, IsInOrder, IsOnce}
use Rattle.hx_outbox.specs.declared.outboxes.Outbox.{Outbox}
use Rattle.hx_outbox.specs.Outboxes.{out_weight, IsOutbox}
use Rattle.hx_outbox.specs.Places.{place_of}
use Rattle.hx_run.specs.declared.joining.OwnedPort.{OwnedPort}
use Rattle.hx_driver.specs.Inboxes.{ins_of}
use Rattle.hx_law_drivers.specs.Joined.{outs_at}

-- the place of the actor's box
abbrev pub place_at : Script → OwnedPort → ℕ
place_at script d = place_of script.space d.actor

-- the lists of the drivers' ports of the box at this place, those of the last driver first
abbrev pub joined_lists : ℕ → List Outbox → List PortLists
joined_lists n [] = []
joined_lists n (o ∷ outs) = joined_lists n outs ++ lists_of (o.index + 1) (outs_at n o.ports.items) [] ∷ []

-- the first port of the actor's box took in these drivers' ports of the box
pub record IsJoined (script : Script) (w : ℕ) (boxes : List Boxed) (outs : List Outbox) (d : OwnedPort) : Type 0 where
  pub place : place_at script d < length boxes
  pub inbox : (box : Boxed) → box ≡ slice_index_or boxes (place_at script d) box → IsPortOf box d.inbox
      × (d.inbox.view ≡ port 0 (Some box.names) (lists_of 0 [] (ins_of d.inbox) ∷ joined_lists (place_at script d) outs) (Some w))
  pub order : (outs ≡ []) ⊎ IsInOrder d.inbox.view
  pub once : (outs ≡ []) ⊎ IsOnce d.inbox.view

-- the same actor and all that was taken, but for what the first port of its box knows of others
pub record IsKeptPort (p p' : OwnedPort) : Type 0 where
  pub actor : p'.actor ≡ p.actor
  pub ins : ins_of p'.inbox ≡ ins_of p.inbox

-- the actors are those of the places n, n + 1 and so on
abbrev pub AreInPlaces : Script → ℕ → List OwnedPort → Type 0
AreInPlaces script n [] = ⊤
AreInPlaces script n (d ∷ ds) = (place_at script d ≡ n) × AreInPlaces script (suc n) ds

-- of what each driver put for the actor, what was taken for it is, in order, a prefix
abbrev pub TookInOrder : Script → List Outbox → OwnedPort → Type 0
TookInOrder script outs d = AllByRecursion (λ (o : Outbox). IsPrefix (put_by (o.index + 1) (ins_of d.inbox)) (outs_at (place_at script d) o.ports.items)) outs

-- each number below w is that of a driver
abbrev pub HaveIndexes : ℕ → List Outbox → Type 0
HaveIndexes w outs = (k : ℕ) → k < w → (o : Outbox) × IsIn o outs × (o.index ≡ k)

-- the first k actors' ports took in these drivers' ports, and the others one driver's more
abbrev pub AreJoinedFrom : Script → ℕ → List Boxed → List Outbox → Outbox → ℕ → List OwnedPort → Type 0
AreJoinedFrom script w boxes outs o k [] = ⊤
AreJoinedFrom script w boxes outs o zero (d ∷ ds) = IsJoined script w boxes (o ∷ outs) d × AreJoinedFrom script w boxes outs o zero ds
AreJoinedFrom script w boxes outs o (suc k) (d ∷ ds) = IsJoined script w boxes outs d × AreJoinedFrom script w boxes outs o k ds

-- these are the first ports of a driver, whose others are joined
pub record IsRestOf (boxes : List Boxed) (out o : Outbox) : Type 0 where
  pub rest : List Ported
  pub all : out.ports.items ++ rest ≡ o.ports.items
  pub whole : IsOutbox boxes o
  pub index : out.index ≡ o.index

-- h of all that was taken for the actors is at most h of all that was put
abbrev pub TookOnce : List Outbox → List OwnedPort → Type 0
TookOnce outs ds =
    (h : Mailed → ℕ) → total (λ (d : OwnedPort). total h (map (λ s. s.mailed) (ins_of d.inbox))) ds ≤ total (λ (o : Outbox). out_weight h o.ports.items) outs
