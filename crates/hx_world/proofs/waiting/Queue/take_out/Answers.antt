use Rattle.std.proofs.Common.{◌∙◌, ap, false, sym}
use Rattle.std.specs.Prelude.{Option}
use Rattle.hx_model.specs.Types.{PostId}
use Rattle.hx_model.specs.Schedule.{same_name}
use Rattle.hx_types.specs.Words.{when_some}
use Rattle.hx_world.proofs.Removing.{removed_first}
use Rattle.hx_world.proofs.waiting.Queue.take_out.Goals as goal

pub returns-then-is_name-clause-items : goal.returns-then-is_name-clause-items
returns-then-is_name-clause-items c =
    removed_first c.args.self.now.items c.pop.new.self.items c.args.id c.requires
    (
    ap (λ (o : Option PostId). when_some o false (λ (x : PostId). same_name x c.args.id)) (sym c.lowest.ensures)
    ∙ sym c.is_name.ensures ∙ c.if-is_name.true
    )
    c.pop.ensures.rest
