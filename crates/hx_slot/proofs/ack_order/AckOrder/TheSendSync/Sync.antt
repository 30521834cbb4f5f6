-- And threads may share it.
use denote.Param.Send.{IsSync, part_keyless}
use Rattle.hx_slot.specs.contracts.ack_order.AckOrder.{the_row}
use Rattle.hx_slot.proofs.ack_order.AckOrder.TheSendSync.Send.{send}

pub sync : IsSync the_row
sync = record { shared = λ x b o κ q. part_keyless the_row send q x b o }
