-- What joining needs of drivers that are taken apart, and gives.
use Rattle.std.proofs.Common.{◌≡◌, ℕ, ◌<◌, ◌≤◌, List, [], map, length, ap, sym, subst, ◌∙◌, arith}
use Rattle.std.specs.Prelude.{IsPermutation}
use Rattle.std.specs.List.{AllByRecursion}
use Rattle.std.specs.List.Sorted.{IsNonDecreasingBy}
use Rattle.atomic_table.specs.Seated.{TableId}
use Rattle.hx_types.specs.declared.totals.Totals.{Totals}
use Rattle.hx_types.specs.declared.traces.Script.{Script}
use Rattle.hx_mail.specs.Boxes.{Boxed, Ported}
use Rattle.hx_outbox.specs.declared.outboxes.Outbox.{Outbox}
use Rattle.hx_outbox.specs.Outboxes.{IsOutbox}
use Rattle.hx_outbox.specs.Places.{AreBoxes}
use Rattle.hx_outbox.specs.Zipped.{Both}
use Rattle.hx_driver.specs.declared.crews.Crew.{Crew}
use Rattle.hx_driver.specs.Crews.{IsCrew}
use Rattle.hx_law_drivers.specs.Crews.{desks_of, AreNumbered, HaveAllActors}
use Rattle.hx_law_drivers.specs.Joined.{AreInOrder, AreOnce}
use Rattle.hx_gather.specs.declared.gathering.SeatedPart.{SeatedPart}
use Rattle.hx_run.specs.declared.joining.OwnedPort.{OwnedPort}
use Rattle.hx_run.specs.Closed.{seated_of, owned_port_of, IsLeft}
use Rattle.hx_run.specs.Joined.{place_at, AreInPlaces, HaveIndexes, IsJoined, IsKeptPort, TookInOrder, TookOnce}
use Rattle.hx_run.proofs.Leaving.{are-in-order, are-once, have-indexes, is-left, outboxes, sorted-places, sorted-ready}

module _ (script : Script) (clock : TableId) (boxes : List Boxed) (w : ℕ) where
  pub joins-need : (crews : List Crew) → 1 ≤ w → AreNumbered w crews
      → AllByRecursion (IsCrew script clock boxes w) crews → (outs : List Outbox) → outs ≡ map (λ (c : Crew). c.out) crews
      → AllByRecursion (IsOutbox boxes) outs × HaveIndexes (length outs) outs × (0 < length outs)
  joins-need crews some numbered h outs e =
      let i = have-indexes w crews numbered in
      let n : length outs ≡ w = ap length e ∙ i.0 in (
        subst (AllByRecursion (IsOutbox boxes)) (sym e) (outboxes script clock boxes w crews h),
        subst (λ k. HaveIndexes k outs) (sym n) (subst (HaveIndexes w) (sym e) i.1),
        omega (arith, n, some),
      )

  perm-of : (crews : List Crew) (owned_ports sorted : List OwnedPort)
      → owned_ports ≡ map owned_port_of (desks_of crews) → IsPermutation owned_ports sorted
      → IsPermutation (map owned_port_of (desks_of crews)) sorted
  perm-of crews owned_ports sorted e p = subst (λ l. IsPermutation l sorted) e p

  pub places-need : AreBoxes script clock boxes → (crews : List Crew)
      → AllByRecursion (IsCrew script clock boxes w) crews → HaveAllActors script crews
      → (owned_ports sorted : List OwnedPort) → owned_ports ≡ map owned_port_of (desks_of crews)
      → IsPermutation owned_ports sorted
      → IsNonDecreasingBy (place_at script) sorted → AreInPlaces script 0 sorted × (length sorted ≡ length boxes)
  places-need are crews h all owned_ports sorted e p up = sorted-places script clock boxes w are crews h all sorted (perm-of crews owned_ports sorted e p) up

  pub ports-need : AreBoxes script clock boxes → (crews : List Crew) → AreNumbered w crews
      → AllByRecursion (IsCrew script clock boxes w) crews → (owned_ports sorted : List OwnedPort)
      → owned_ports ≡ map owned_port_of (desks_of crews) → IsPermutation owned_ports sorted
      → (outs : List Outbox) → outs ≡ map (λ (c : Crew). c.out) crews → AllByRecursion (IsJoined script (length outs) boxes []) sorted
  ports-need are crews numbered h owned_ports sorted e p outs eo =
      let n : length outs ≡ w = ap length eo ∙ (have-indexes w crews numbered).0 in
      subst (λ k. AllByRecursion (IsJoined script k boxes []) sorted) (sym n)
      (sorted-ready script clock boxes w are crews h sorted (perm-of crews owned_ports sorted e p))

  pub left-of : AreBoxes script clock boxes → (crews : List Crew) → 1 ≤ w → AreNumbered w crews
      → AllByRecursion (IsCrew script clock boxes w) crews → HaveAllActors script crews → (actors : List SeatedPart)
      → actors ≡ map seated_of (desks_of crews)
      → (totals : List Totals) → totals ≡ map (λ (c : Crew). c.totals) crews
      → (owned_ports sorted joined : List OwnedPort) → owned_ports ≡ map owned_port_of (desks_of crews)
      → IsPermutation owned_ports sorted → IsNonDecreasingBy (place_at script) sorted
      → (outs : List Outbox) → outs ≡ map (λ (c : Crew). c.out) crews → Both IsKeptPort sorted joined
      → AllByRecursion (IsJoined script (length outs) boxes outs) joined → (ports : List Ported)
      → ports ≡ map (λ (t : OwnedPort). t.inbox) joined
      → IsLeft script clock crews actors totals ports
  left-of are crews some numbered h all actors ea totals et owned_ports sorted joined e p up outs eo kept joins ports ep =
      let q = perm-of crews owned_ports sorted e p in
      let pl = sorted-places script clock boxes w are crews h all sorted q up in
      let n : length outs ≡ w = ap length eo ∙ (have-indexes w crews numbered).0 in
      let j : AllByRecursion (IsJoined script w boxes (map (λ (c : Crew). c.out) crews)) joined =
      subst (λ l. AllByRecursion (IsJoined script w boxes l) joined) eo (subst (λ k. AllByRecursion (IsJoined script k boxes outs) joined) n joins) in
      is-left script clock boxes w are crews h all some numbered actors ea totals et sorted joined q pl.0 pl.1 kept j ports ep

  pub order-of : (crews : List Crew) (owned_ports sorted : List OwnedPort)
      → owned_ports ≡ map owned_port_of (desks_of crews) → IsPermutation owned_ports sorted → (outs : List Outbox)
      → outs ≡ map (λ (c : Crew). c.out) crews → AllByRecursion (TookInOrder script outs) sorted
      → AreInOrder script crews
  order-of crews owned_ports sorted e p outs eo h =
      are-in-order script clock boxes w crews sorted (perm-of crews owned_ports sorted e p)
      (subst (λ l. AllByRecursion (TookInOrder script l) sorted) eo h)

  pub once-of : (crews : List Crew) (owned_ports sorted : List OwnedPort)
      → owned_ports ≡ map owned_port_of (desks_of crews) → IsPermutation owned_ports sorted → (outs : List Outbox)
      → outs ≡ map (λ (c : Crew). c.out) crews → TookOnce outs sorted → AreOnce crews
  once-of crews owned_ports sorted e p outs eo h =
      are-once script clock boxes w crews sorted (perm-of crews owned_ports sorted e p) (subst (λ l. TookOnce l sorted) eo h)
