-- Whom a server hears, by its own configuration: an update from the replica before, an acknowledgement from the replica after.
use Rattle.std.proofs.Common.{◌≡◌, ℕ, true, List, refl, ap}
use Rattle.std.proofs.lemmas.Bool.{and_parts, eqb-true, false≢true}
use Rattle.hx_model.specs.Types.{Actor, At, Blocked, Coordinator, End, Hop, Place, RegionId, Server, ServerId, Session}
use Rattle.hx_types.specs.Words.{same_region, same_server}
use Rattle.hx_model.specs.Hearing.{goes_to, goes_to_at}
use Rattle.hx_model.specs.Neighbours.{region_at}
use Rattle.hx_law_lemmas.proofs.Lemmas.{server-same}

-- a hop that goes to an actor goes to a server
pub heard-from : (from : Actor) (hop : Hop) → goes_to from hop ≡ true → (x : ServerId) × (n : ℕ) × (from ≡ Server x) × (hop ≡ At x n)
heard-from Coordinator hop t = absurd (false≢true t)
heard-from (Session u) hop t = absurd (false≢true t)
heard-from (Server x) (At s n) t = (x, n, refl, ap (λ (y : ServerId). At y n) (server-same s x t))
heard-from (Server x) End t = absurd (false≢true t)
heard-from (Server x) (Blocked g) t = absurd (false≢true t)

-- and one at a place of a region
pub heard-at : (places : List Place) (by : RegionId) (from : Actor) (hop : Hop) → goes_to_at places by from hop ≡ true
    → (x : ServerId) × (n : ℕ) × (from ≡ Server x) × (hop ≡ At x n) × (region_at places n ≡ by)
heard-at places by Coordinator hop t = absurd (false≢true t)
heard-at places by (Session u) hop t = absurd (false≢true t)
heard-at places by (Server x) (At s n) t =
    let a = and_parts (same_server s x) (same_region (region_at places n) by) t in
    let e = eqb-true (region_at places n).0 by.0 a.1 in
    (x, n, refl, ap (λ (y : ServerId). At y n) (server-same s x a.0), λ j. record { 0 = e j })
heard-at places by (Server x) End t = absurd (false≢true t)
heard-at places by (Server x) (Blocked g) t = absurd (false≢true t)
