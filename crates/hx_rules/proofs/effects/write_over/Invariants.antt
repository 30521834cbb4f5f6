use Rattle.std.proofs.Common.{◌≡◌, drop}
use Rattle.hx_types.specs.Effects.{written}
use Rattle.hx_rules.proofs.effects.write_over.Given as goal

abbrev pub invariant-loop-set : goal.invariant-loop-set
invariant-loop-set l = written l.object (drop l.set-index l.sets) ≡ written l.initial.object l.sets
