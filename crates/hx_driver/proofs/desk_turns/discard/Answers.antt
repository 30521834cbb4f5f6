use Rattle.std.proofs.Common.{◌∙◌, sym, ap}
use Rattle.std.specs.Prelude.{nat_lt}
use Rattle.std.specs.List.{list_all}
use Rattle.hx_driver.proofs.Heard.{counted}
use Rattle.hx_driver.proofs.Same.{broken-of, taken-broken}
use Rattle.hx_driver.proofs.desk_turns.discard.Goals as goal

pub receive-requires-clause-room : goal.receive-requires-clause-room
receive-requires-clause-room g c =
    counted c.args.desk.now.heard.items (ap (list_all (λ n. nat_lt n 18446744073709551615))
    (sym c.as_slice.ensures.value) ∙ sym c.can_count.ensures ∙ c.if-can_count.true)

pub returns-then-can_count-clause-desk : goal.returns-then-can_count-clause-desk
returns-then-can_count-clause-desk g c w rest h = taken-broken _ _ _ w rest c.args.desk.now c.receive.new.desk c.receive.result h c.receive.ensures.desk

pub returns-else-can_count-clause-desk : goal.returns-else-can_count-clause-desk
returns-else-can_count-clause-desk g c w rest h = broken-of _ _ _ w rest c.args.desk.now h
