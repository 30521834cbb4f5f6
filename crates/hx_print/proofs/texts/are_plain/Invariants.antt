use Rattle.std.proofs.Common.{◌≡◌, take}
use Rattle.std.specs.List.{list_all}
use Rattle.hx_print.specs.Plain.{is_plain}
use Rattle.hx_print.proofs.texts.are_plain.Given as goal

abbrev pub invariant-loop-byte : goal.invariant-loop-byte
invariant-loop-byte l = l.are ≡ list_all is_plain (take l.byte-index l.bytes)
