use Rattle.hx_driver.proofs.Booking.{has-room}
use Rattle.hx_driver.proofs.Going.{failed-at, goes-calm, goes-failed, moved-at}
use Rattle.hx_driver.proofs.moves.move_calmly.Goals as goal

pub make_move-moved-requires-clause-room : goal.make_move-moved-requires-clause-room
make_move-moved-requires-clause-room g c =
    has-room _ _ _ c.requires.crew.0 c.args.crew.now c.args.at c.index_mut.result.now c.requires.crew.1 c.requires.at c.index_mut.ensures.value

pub returns-in-Ok-clause-on : goal.returns-in-Ok-clause-on
returns-in-Ok-clause-on g c =
    let m = c.make_move-moved in
    goes-calm _ _ _ c.args.crew.now c.args.at c.index_mut.result.now m.new.desk m.new.out m.new.totals _ _ m.ensures.turn.0
    c.requires.at c.index_mut.ensures.value m.ensures.turn.1 c.requires.calm c.in-Ok.ensures.desk

pub returns-in-Ok-clause-moved : goal.returns-in-Ok-clause-moved
returns-in-Ok-clause-moved g c =
    let m = c.make_move-moved in
    moved-at _ c.args.floor.now.clock.now _ c.args.crew.now c.args.at c.index_mut.result.now m.new.desk m.new.out m.new.totals _ _ m.ensures.turn.0
    c.requires.at c.index_mut.ensures.value m.ensures.turn.1 c.requires.calm c.args.to c.in-Ok.ensures.moved

pub returns-in-Err-clause-on : goal.returns-in-Err-clause-on
returns-in-Err-clause-on g c =
    let m = c.make_move-moved in
    goes-failed _ _ _ c.args.crew.now c.args.at c.index_mut.result.now m.new.desk m.new.out m.new.totals _ _ m.ensures.turn.0
    c.requires.at c.index_mut.ensures.value m.ensures.turn.1 c.requires.calm c.args.to c.in-Err.fault c.in-Err.ensures.moved c.in-Err.ensures.desk

pub returns-in-Err-clause-moved : goal.returns-in-Err-clause-moved
returns-in-Err-clause-moved g c =
    let m = c.make_move-moved in
    failed-at _ c.args.floor.now.clock.now _ c.args.crew.now c.args.at c.index_mut.result.now m.new.desk m.new.out m.new.totals _ _ m.ensures.turn.0
    c.requires.at c.index_mut.ensures.value m.ensures.turn.1 c.requires.calm c.args.to c.in-Err.fault c.in-Err.ensures.moved
