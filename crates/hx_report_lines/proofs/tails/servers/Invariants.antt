use Rattle.std.proofs.Common.{◌≡◌, map, take}
use Rattle.hx_model.specs.Types.{ServerId}
use Rattle.hx_report_lines.proofs.tails.servers.Given as goal

abbrev pub invariant-loop-number : goal.invariant-loop-number
invariant-loop-number l = l.servers.items ≡ map (λ n. let s : ServerId = record { 0 = n } in s) (take l.number-index l.numbers)
