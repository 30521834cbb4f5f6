use Rattle.std.proofs.Common.{ap, sym, ◌∙◌}
use Rattle.std.proofs.lemmas.Result.{IfOk-weaker}
use Rattle.hx_model.specs.Types.{Space}
use Rattle.hx_model.specs.Planning.{plan_of}
use Rattle.hx_session.proofs.Sent.{asked_makes}
use Rattle.hx_session.proofs.sending.search.Goals as goal

pub returns-in-Regions-clause-change : goal.returns-in-Regions-clause-change
returns-in-Regions-clause-change c =
    IfOk-weaker c.ask_regions.result _ _
    (
    λ change e. λ calls parts. asked_makes c.args.sender.now c.args.terms.now c.in-Regions.subspace c.in-Regions.regions _
    (ap (λ (x : Space). plan_of x c.args.sender.now.config.now c.args.terms.now) (sym c.requires) ∙ sym c.in_ok-regions.ensures.exact
    ∙ c.in-Regions.is) calls parts change e
    )
    c.ask_regions.ensures.change
