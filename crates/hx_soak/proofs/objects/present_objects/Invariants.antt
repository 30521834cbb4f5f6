use Rattle.std.proofs.Common.{◌≡◌, map, take}
use Rattle.hx_soak.specs.Present.{key_object}
use Rattle.hx_soak.specs.Tallying.{objects_of}
use Rattle.hx_soak.proofs.objects.present_objects.Given as goal

abbrev pub invariant-loop-history : goal.invariant-loop-history
invariant-loop-history l = map key_object l.made.items ≡ objects_of (take l.history-index l.histories)
