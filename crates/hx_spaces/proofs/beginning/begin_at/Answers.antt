use Rattle.hx_spaces.proofs.Deliveries.{err-rests}
use Rattle.hx_spaces.proofs.NextCalls.{began_at, not_begun}
use Rattle.hx_spaces.proofs.Keeping.{short-set}
use Rattle.hx_spaces.proofs.Places.{get-index, within}
use Rattle.hx_spaces.proofs.beginning.begin_at.Goals as goal

pub returns-clause-begins : goal.returns-clause-begins
returns-clause-begins c =
    began_at c.args.worlds.now.items c.args.space c.args.place c.index_mut.result.now c.begin.new.self c.begin.result
    (get-index c.args.worlds.now.items c.args.space c.index_mut.result.now
    (within c.args.worlds.now.items c.args.space c.requires.can.world c.requires.can.stands) c.index_mut.ensures.value)
    c.begin.ensures.script c.begin.ensures.begins

pub returns-clause-fails : goal.returns-clause-fails
returns-clause-fails c =
    not_begun c.args.worlds.now.items c.args.space c.args.place c.index_mut.result.now c.begin.result
    (get-index c.args.worlds.now.items c.args.space c.index_mut.result.now
    (within c.args.worlds.now.items c.args.space c.requires.can.world c.requires.can.stands) c.index_mut.ensures.value)
    c.begin.ensures.fails

pub returns-clause-same : goal.returns-clause-same
returns-clause-same c =
    err-rests c.args.worlds.now.items c.args.space c.index_mut.result.now c.begin.new.self c.begin.result
    (get-index c.args.worlds.now.items c.args.space c.index_mut.result.now
    (within c.args.worlds.now.items c.args.space c.requires.can.world c.requires.can.stands) c.index_mut.ensures.value)
    c.begin.ensures.script c.begin.ensures.err

pub returns-clause-short : goal.returns-clause-short
returns-clause-short c all = short-set c.args.worlds.now.items c.args.space c.begin.new.self c.begin.ensures.most all
