use Rattle.hx_spaces.proofs.Deliveries.{err-rests}
use Rattle.hx_spaces.proofs.Keeping.{short-set}
use Rattle.hx_spaces.proofs.Places.{get-index, within}
use Rattle.hx_spaces.proofs.StepsTaken.{not_stepped, stepped_at}
use Rattle.hx_spaces.proofs.stepping.step_at.Goals as goal

pub returns-clause-ok : goal.returns-clause-ok
returns-clause-ok c =
    stepped_at c.args.worlds.now.items c.args.space c.index_mut.result.now c.step.new.self c.args.step.now c.step.result
    (get-index c.args.worlds.now.items c.args.space c.index_mut.result.now
    (within c.args.worlds.now.items c.args.space c.requires.world c.requires.stands) c.index_mut.ensures.value)
    c.step.ensures.script c.step.ensures.ok

pub returns-clause-refused : goal.returns-clause-refused
returns-clause-refused c =
    not_stepped c.args.worlds.now.items c.args.space c.index_mut.result.now c.args.step.now c.step.result
    (get-index c.args.worlds.now.items c.args.space c.index_mut.result.now
    (within c.args.worlds.now.items c.args.space c.requires.world c.requires.stands) c.index_mut.ensures.value)
    c.step.ensures.refused

pub returns-clause-same : goal.returns-clause-same
returns-clause-same c =
    err-rests c.args.worlds.now.items c.args.space c.index_mut.result.now c.step.new.self c.step.result
    (get-index c.args.worlds.now.items c.args.space c.index_mut.result.now
    (within c.args.worlds.now.items c.args.space c.requires.world c.requires.stands) c.index_mut.ensures.value)
    c.step.ensures.script c.step.ensures.err

pub returns-clause-short : goal.returns-clause-short
returns-clause-short c all = short-set c.args.worlds.now.items c.args.space c.step.new.self c.step.ensures.most all
