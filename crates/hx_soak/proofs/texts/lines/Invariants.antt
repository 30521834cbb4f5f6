use Rattle.std.proofs.Common.{◌≡◌, map, take}
use Rattle.hx_soak.specs.Present.{key_object}
use Rattle.hx_soak.specs.Summing.{object_lines}
use Rattle.hx_soak.proofs.texts.lines.Given as goal

abbrev pub invariant-loop-present : goal.invariant-loop-present
invariant-loop-present l = l.out.items ≡ object_lines l.space (map key_object (take l.present-index l.objects))
