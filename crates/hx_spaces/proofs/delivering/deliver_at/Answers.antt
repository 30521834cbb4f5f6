use Rattle.hx_spaces.proofs.Places.{get-index}
use Rattle.hx_spaces.proofs.Keeping.{short-set}
use Rattle.hx_spaces.proofs.Deliveries.{err-fails, err-rests, ok-delivers, ok-rests}
use Rattle.hx_spaces.proofs.delivering.deliver_at.Goals as goal

pub returns-clause-delivers : goal.returns-clause-delivers
returns-clause-delivers c =
    ok-delivers c.args.worlds.now.items c.args.place c.index_mut.result.now c.deliver_next.new.self c.deliver_next.result
    (get-index c.args.worlds.now.items c.args.place c.index_mut.result.now c.requires c.index_mut.ensures.value)
    c.deliver_next.ensures.script c.deliver_next.ensures.delivers

pub returns-clause-rests : goal.returns-clause-rests
returns-clause-rests c =
    ok-rests c.args.worlds.now.items c.args.place c.index_mut.result.now c.deliver_next.new.self c.deliver_next.result
    (get-index c.args.worlds.now.items c.args.place c.index_mut.result.now c.requires c.index_mut.ensures.value)
    c.deliver_next.ensures.script c.deliver_next.ensures.delivers

pub returns-clause-fails : goal.returns-clause-fails
returns-clause-fails c =
    err-fails c.args.worlds.now.items c.args.place c.index_mut.result.now c.deliver_next.result
    (get-index c.args.worlds.now.items c.args.place c.index_mut.result.now c.requires c.index_mut.ensures.value)
    c.deliver_next.ensures.fails

pub returns-clause-same : goal.returns-clause-same
returns-clause-same c =
    err-rests c.args.worlds.now.items c.args.place c.index_mut.result.now c.deliver_next.new.self c.deliver_next.result
    (get-index c.args.worlds.now.items c.args.place c.index_mut.result.now c.requires c.index_mut.ensures.value)
    c.deliver_next.ensures.script c.deliver_next.ensures.err

pub returns-clause-short : goal.returns-clause-short
returns-clause-short c all = short-set c.args.worlds.now.items c.args.place c.deliver_next.new.self c.deliver_next.ensures.most all
