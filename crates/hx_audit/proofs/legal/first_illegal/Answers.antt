use Rattle.std.proofs.Common.{List, reverse, take, subst, ◌∙◌}
use Rattle.std.specs.List.{slice_get}
use Rattle.std.specs.Option.{IfSome}
use Rattle.hx_model.specs.Types.{Item}
use Rattle.hx_model.specs.Legal.{IsEffect, object_now}
use Rattle.hx_audit.specs.Walking.{IsFirstNot}
use Rattle.hx_audit.proofs.Effects.{faults}
use Rattle.hx_audit.proofs.legal.first_illegal.Goals as goal

pub returns : goal.returns
returns c =
    subst (λ (items : List Item). IsFirstNot (λ place. IfSome (slice_get items place)
    (IsEffect c.args.space.now (object_now (reverse (take place items))))) c.first_fault.result)
    (c.deref.ensures.value ∙ c.in_ok-items.ensures)
    (faults c.args.space.now c.deref.result.now c.first_fault.result c.first_fault.ensures.none c.first_fault.ensures.first)
