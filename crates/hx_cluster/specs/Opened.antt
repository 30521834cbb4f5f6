-- The ports of boxes that were just made: each has a first port, which was split once for each driver.
use Rattle.std.specs.Prelude.{ℕ, zero, suc, ◌≡◌, List, [], ◌∷◌, length}
use Rattle.hx_mail.specs.Boxes.{Boxed, Ported}
use Rattle.hx_outbox.specs.Zipped.{Both}
use Rattle.hx_outbox.specs.Outboxes.{IsOutPort, outs_of}
use Rattle.hx_driver.specs.Inboxes.{IsInPort, ins_of}
use Rattle.hx_cluster.specs.declared.opening.BoxPorts.{BoxPorts}

-- the ports of the drivers from j on
abbrev pub AreOutPortsFrom : ℕ → Boxed → List Ported → Type 0
AreOutPortsFrom j box [] = zero ≡ zero
AreOutPortsFrom j box (p ∷ rest) = IsOutPort j box p × (outs_of p ≡ []) × AreOutPortsFrom (suc j) box rest

pub record AreNewPorts (w : ℕ) (box : Boxed) (p : BoxPorts) : Type 0 where
  pub first : IsInPort w box p.first × (ins_of p.first ≡ [])
  pub others : AreOutPortsFrom 0 box p.others.items
  pub count : length p.others.items ≡ w

abbrev pub ArePortsOf : ℕ → List Boxed → List BoxPorts → Type 0
ArePortsOf w boxes ports = Both (AreNewPorts w) boxes ports
