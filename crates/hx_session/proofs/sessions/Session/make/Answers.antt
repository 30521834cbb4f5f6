use Rattle.hx_session.proofs.Order.{applied_in_order}
use Rattle.hx_session.proofs.sessions.Session.make.Goals as goal

pub invariant_of-self : goal.invariant_of-self
invariant_of-self c =
    applied_in_order c.self.inside c.args.self.now c.args.change c.apply.new.config c.apply.new.parts c.self.view_is
    c.self.invariant c.apply.ensures.config c.apply.ensures.parts c.requires
