-- What the ports of all boxes tell, once all ports of each are joined into its first one.
use Rattle.std.specs.Prelude.{ℕ, zero, suc, ◌+◌, ◌≤◌, List, [], ◌∷◌, map}
use Rattle.std.specs.List.{AllByRecursion}
use mathlib.Core.List.{IsPrefix}
use Rattle.hx_model.specs.Types.{Script}
use Rattle.hx_clock.specs.Views.{total}
use Rattle.hx_mail.specs.declared.views.Mailed.{Mailed}
use Rattle.hx_mail.specs.Boxes.{Ported}
use Rattle.hx_mail.specs.Ports.{put_by}
use Rattle.hx_outbox.specs.Outboxes.{out_weight, outs_of}
use Rattle.hx_outbox.specs.Places.{place_of}
use Rattle.hx_driver.specs.declared.desks.Desk.{Desk}
use Rattle.hx_driver.specs.Inboxes.{ins_of}
use Rattle.hx_driver.specs.declared.crews.Crew.{Crew}
use Rattle.hx_law_drivers.specs.Crews.{desks_of}

-- what was put under the port of this place
abbrev pub outs_at : ℕ → List Ported → List Mailed
outs_at n [] = []
outs_at zero (p ∷ rest) = outs_of p
outs_at (suc n) (p ∷ rest) = outs_at n rest

-- of what the driver put for the actor, what was taken for it is, in order, a prefix
abbrev pub IsInOrderOf : Script → Desk → Crew → Type 0
IsInOrderOf script d c = IsPrefix (put_by (c.out.index + 1) (ins_of d.inbox)) (outs_at (place_of script.space d.actor) c.out.ports.items)

abbrev pub AreInOrder : Script → List Crew → Type 0
AreInOrder script crews = AllByRecursion (λ (d : Desk). AllByRecursion (IsInOrderOf script d) crews) (desks_of crews)

-- h of all that was taken, and of all that was put
abbrev pub taken_weight : (Mailed → ℕ) → List Crew → ℕ
taken_weight h crews = total (λ (d : Desk). total h (map (λ s. s.mailed) (ins_of d.inbox))) (desks_of crews)

abbrev pub put_total : (Mailed → ℕ) → List Crew → ℕ
put_total h crews = total (λ (c : Crew). out_weight h c.out.ports.items) crews

-- each put was taken at most once, and nothing else was taken, however posts are weighed
abbrev pub AreOnce : List Crew → Type 0
AreOnce crews = (h : Mailed → ℕ) → taken_weight h crews ≤ put_total h crews
