-- What stood there, the subspaces before, and this one.
use Rattle.std.proofs.Common.{◌++◌, List, map, ap, ◌∙◌, arith}
use Rattle.std.specs.Option.{option_copied}
use Rattle.hx_model.specs.Types.{Place}
use Rattle.hx_model.specs.Slots.{touches_of}
use Rattle.hx_chain.specs.Crossing.{crossed, place_for}
use Rattle.hx_chain.proofs.Subspaces.{places_next}
use Rattle.hx_chain.proofs.placing.add_declared.Goals as goal

pub loop-s-preserved : goal.loop-s-preserved
loop-s-preserved c =
    let a = c.args in
    let touches = touches_of a.slot.now.state in
    let before = c.region_of-before in
    let after = c.region_of-after in
    record {
      exact =
          c.in_ok-add_between.ensures.exact
          ∙ ap (λ (others : List Place). others ++ map (place_for after.result touches) (crossed before.result after.result)) c.loop-s.invariant.exact
          ∙ places_next a.map.now a.key.now (option_copied a.old)
          (option_copied a.new) touches a.places.now c.loop-s.s before.result after.result
          (omega arith) before.ensures after.ensures;
      after = c.in_ok-add_between.ensures.after;
      few = omega (arith, c.in_ok-add_between.ensures.few, c.loop-s.invariant.few);
    }
