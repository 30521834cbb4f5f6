use Rattle.std.proofs.Common.{subst}
use Rattle.std.proofs.lemmas.Result.{IfOk-weaker}
use Rattle.hx_model.specs.CoordinatorSteps.{adds, judged}
use Rattle.hx_coord.specs.declared.calls.Coming.TheVariants.{Old, Again, New}
use Rattle.hx_coord.specs.Changes.{standing}
use Rattle.hx_coord.specs.Numbers.{Comes}
use Rattle.hx_coord.proofs.Steps.{again_made, called, rested_made}
use Rattle.hx_coord.proofs.calls.add_replica.Goals as goal

pub returns-in-Old : goal.returns-in-Old
returns-in-Old c =
    let new = adds (standing c.args.config.now c.args.agenda) c.args.caller c.args.server c.args.region
    (judged c.args.config.now c.args.server c.args.region) in
    called c.args.config.now c.args.agenda c.args.caller new Old c.no_output.result
    (subst (Comes c.args.agenda.newest c.args.caller) c.in-Old.is c.in_ok-compare_number.ensures)
    (rested_made c.args.config.now c.args.agenda c.no_output.result c.no_output.ensures)

pub returns-in-Again : goal.returns-in-Again
returns-in-Again c =
    let new = adds (standing c.args.config.now c.args.agenda) c.args.caller c.args.server c.args.region
    (judged c.args.config.now c.args.server c.args.region) in
    IfOk-weaker c.answer_again.result _ _
    (
    λ made e. called c.args.config.now c.args.agenda c.args.caller new (Again c.in-Again.known) made
    (subst (Comes c.args.agenda.newest c.args.caller) c.in-Again.is c.in_ok-compare_number.ensures)
    (again_made c.args.config.now c.args.agenda c.args.caller c.in-Again.known made e)
    )
    c.answer_again.ensures

pub returns-in-New : goal.returns-in-New
returns-in-New c =
    let new = adds (standing c.args.config.now c.args.agenda) c.args.caller c.args.server c.args.region
    (judged c.args.config.now c.args.server c.args.region) in
    IfOk-weaker c.add.result _ _
    (
    λ made h. called c.args.config.now c.args.agenda c.args.caller new New made
    (subst (Comes c.args.agenda.newest c.args.caller) c.in-New.is c.in_ok-compare_number.ensures)
    h
    )
    c.add.ensures
