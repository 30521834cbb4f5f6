use Rattle.std.proofs.Common.{◌≡◌, ◌++◌, map}
use Rattle.std.specs.Slice.Iter.{iter_rest}
use Rattle.hx_types.specs.Effects.{default_of, defaults}
use Rattle.hx_types.specs.declared.spaces.Attribute.{Attribute}
use Rattle.hx_rules.proofs.effects.default_object.Given as goal

abbrev pub invariant-loop-attribute : goal.invariant-loop-attribute
invariant-loop-attribute l =
    l.values.items ++ map (λ (a : Attribute). default_of a.kind) (iter_rest l.attribute-iterator) ≡ defaults l.space
