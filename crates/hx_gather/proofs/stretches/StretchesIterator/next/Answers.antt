use Rattle.std.proofs.Common.{ap, sym, length, ◌∙◌, arith, refl}
use Rattle.hx_gather.proofs.Stretched.{taken_next}
use Rattle.hx_gather.proofs.stretches.StretchesIterator.next.Goals as goal

pub returns-clause-steps : goal.returns-clause-steps
returns-clause-steps c =
    sym c.self.view_is
    ∙ taken_next c.self.inside.place c.self.inside.at _ c.count_following.result c.self.inside.part.now
    c.stamp-stamp.result c.stamp-stamp.ensures c.count_following.ensures.count refl

pub returns-clause-goes : goal.returns-clause-goes
returns-clause-goes c =
    let steps = returns-clause-steps c in
    let fewer = ap length steps in
    record { on = λ f. (tt, tt, omega (arith, fewer)); keeps = tt; rests = λ f. tt }
