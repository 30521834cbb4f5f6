use Rattle.std.proofs.Common.{ap, sym, ◌∙◌}
use Rattle.hx_model.specs.ServerSteps.{asked, if_installed, replica_for}
use Rattle.hx_replica.specs.Servers.{ServerValue}
use Rattle.hx_replica.proofs.Planning.{asked_state, stays}
use Rattle.hx_replica.proofs.servers.Server.on_ask.Goals as goal

pub returns-clause-change : goal.returns-clause-change
returns-clause-change c =
    let v = c.args.self.now in
    let found = if_installed (replica_for v.state c.args.region) in
    stays v (asked v.state c.args.from c.args.epoch c.args.number c.args.terms.now found) c.requires.bare
    (asked_state v.state c.args.from c.args.epoch c.args.number c.args.terms.now found)
    ∙ sym (ap (λ (x : ServerValue). x.state) c.post_found.ensures.stays)
