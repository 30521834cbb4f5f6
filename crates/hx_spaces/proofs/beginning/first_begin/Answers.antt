use Rattle.std.proofs.Common.{map, sym, arith}
use Rattle.hx_spaces.specs.Courses.{newest}
use Rattle.hx_spaces.proofs.NextCalls.{begin_here, begin_on}
use Rattle.hx_spaces.proofs.beginning.first_begin.Goals as goal

pub returns-in-Some : goal.returns-in-Some
returns-in-Some c =
    let within = c.loop-place-test.true in
    let count = c.requires.counted.sessions in
    sym (begin_here c.args.bundle.now (map newest c.args.worlds.now) c.loop-place.place c.in-Some.space
    (omega (arith, within, count)) c.loop-place.invariant (sym c.in-Some.ensures))

pub loop-place-preserved : goal.loop-place-preserved
loop-place-preserved c =
    let within = c.loop-place-test.true in
    let count = c.requires.counted.sessions in
    begin_on c.args.bundle.now (map newest c.args.worlds.now) c.loop-place.place
    (omega (arith, within, count)) c.loop-place.invariant (sym c.in_default.ensures)
