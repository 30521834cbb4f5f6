-- The rule of a box: one list of all that was put, of which what was taken is the front and what the box holds the rest.
use Rattle.std.specs.Prelude.{ℕ, ◌≡◌, ◌+◌, ◌<◌, nat_lt, cond, eqb, List, [], ◌∷◌, ◌++◌, map, length, Option, Some, None}
use Rattle.std.specs.List.{AllByRecursion}
use mathlib.Core.Option.{some}
use lib.ListN.{get_elem?}
use Rattle.hx_clock.specs.Rule.{counts}
use Rattle.hx_clock.specs.Views.{one, total}
use Rattle.hx_mail.specs.declared.envelopes.Letter.{Letter}
use Rattle.hx_mail.specs.declared.views.BoxNames.{BoxNames}
use Rattle.hx_mail.specs.declared.views.PortView.{PortView}
use Rattle.hx_mail.specs.declared.views.Sent.{Sent}
use Rattle.hx_mail.specs.Boxes.{IsFor}
use Rattle.hx_mail.specs.Ports.{put_by, sent_of, times}

-- a post that was taken, and the name under which it was
pub record TakenBy : Type 0 where
  pub port : ℕ
  pub sent : Sent

abbrev pub taken_under : ℕ → Sent → TakenBy
taken_under k s = record { port = k; sent = s }

-- what was taken under the name k
abbrev pub taken_by : ℕ → List TakenBy → List Sent
taken_by k [] = []
taken_by k (t ∷ rest) = cond (eqb k t.port) (t.sent ∷ taken_by k rest) (taken_by k rest)

abbrev pub all_sent : List TakenBy → List Sent
all_sent out = map (λ t. t.sent) out

-- a view fits the names of the box, all that was put and taken, and the number of ports
pub record Fits (of_box : Option BoxNames) (log : List Sent) (out : List TakenBy) (ports : ℕ) (v : PortView) : Type 0 where
  pub put : AllByRecursion (λ b. b.put ≡ put_by b.name log) v.lists
  pub taken : AllByRecursion (λ b. b.taken ≡ taken_by b.name out) v.lists
  pub number : (n : ℕ) → v.splits ≡ Some n → (n + 1 ≡ ports) × (v.of_box ≡ of_box)
  pub named : (n : BoxNames) → v.of_box ≡ Some n → of_box ≡ Some n

-- the rule
pub record IsKept (items : List Letter) (views : List PortView) : Type 0 where
  -- the names of the box, all that was taken, all that was put, both oldest first, and the number of ports
  pub of_box : Option BoxNames
  pub out : List TakenBy
  pub log : List Sent
  pub ports : ℕ
  -- what was taken and what the box holds is what was put
  pub log_is : log ≡ all_sent out ++ map sent_of items
  -- each was put and taken under the name of a port
  pub log_within : AllByRecursion (λ s. s.port < ports) log
  pub out_within : AllByRecursion (λ t. t.port < ports) out
  -- each name is carried by one view, once, and no view carries another
  pub carried_once : (k : ℕ) → total (λ v. times k v.lists) views ≡ one (nat_lt k ports)
  -- one view has a count
  pub counted_once : total (λ v. counts v.splits) views ≡ 1
  -- the box holds nothing before it has its names, and then nothing that isn't for its owner
  pub unnamed : of_box ≡ None → items ≡ []
  pub sound : (n : BoxNames) → of_box ≡ Some n → AllByRecursion (IsFor n) items
  pub fits : (place : ℕ) (v : PortView) → get_elem? views place ≡ some v → Fits of_box log out ports v

-- the box can hold these items where a port has this view
abbrev pub CanHold : PortView → List Letter → Type 0
CanHold v items = (views : List PortView) × (place : ℕ) × IsKept items views × (get_elem? views place ≡ some v)

-- at a moment at which the port had this view the box held n letters
abbrev pub HasHeld : PortView → ℕ → Type 0
HasHeld v n = (items : List Letter) × (length items ≡ n) × CanHold v items
