-- What the outcome tells.
use Rattle.std.proofs.Common.{reverse, subst}
use Rattle.hx_service.specs.Services.{Calls, IsDrained, ServiceState}
use Rattle.hx_service.proofs.Outcomes.{full-exact, grows, unanswered-exact}
use Rattle.hx_service.proofs.services.Service.call.Goals as goal

pub returns-clause-full : goal.returns-clause-full
returns-clause-full c =
    full-exact c.args.self.now c.args.session c.args.op c.make_call.new.world c.make_call.result
    (subst (λ (w : ServiceState). Calls w c.args.session c.args.op c.make_call.new.world c.make_call.result) c.self.view_is c.make_call.ensures.calls)

pub returns-clause-unanswered : goal.returns-clause-unanswered
returns-clause-unanswered c number =
    unanswered-exact c.args.self.now c.args.session c.args.op c.make_call.new.world c.requires.session c.make_call.result
    (subst (λ (w : ServiceState). Calls w c.args.session c.args.op c.make_call.new.world c.make_call.result) c.self.view_is c.make_call.ensures.calls) number

pub returns-clause-grows : goal.returns-clause-grows
returns-clause-grows c =
    grows c.args.self.now c.args.session c.args.op c.make_call.new.world c.requires.session c.make_call.result
    (subst (λ (w : ServiceState). Calls w c.args.session c.args.op c.make_call.new.world c.make_call.result) c.self.view_is c.make_call.ensures.calls)
    (subst (λ (w : ServiceState). IsDrained c.make_call.new.world.script (reverse w.trace)
    (reverse c.make_call.new.world.trace)) c.self.view_is c.make_call.ensures.drained)
