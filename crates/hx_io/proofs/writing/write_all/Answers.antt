use Rattle.std.proofs.Common.{◌-◌, ◌≤◌, arith, length, drop, length-drop}
use Rattle.std.proofs.KnownBytes.{Appends-trans}
use Rattle.std.proofs.Math.Seq.{take-add}
use Rattle.std.proofs.lemmas.List.{take_all}
use Rattle.hx_io.proofs.writing.write_all.Goals as goal

pub loop-written-preserved : goal.loop-written-preserved
loop-written-preserved g c =
    let rest = drop c.loop-written.written c.args.bytes.now in
    let size = length c.args.bytes.now - c.loop-written.written in
    let short : length rest ≤ size = omega (arith, length-drop c.loop-written.written c.args.bytes.now) in
    let bytes = rw (take_all size rest short) at c.in-Ok.ensures.bytes in
    let bound = rw (take_all size rest short) at c.in-Ok.ensures.bound in
    record {
      within = omega (arith, bound, length-drop c.loop-written.written c.args.bytes.now);
      appended = rw (take-add c.loop-written.written c.in-Ok.count c.args.bytes.now) (Appends-trans _ _ _ _ _ c.loop-written.invariant.appended bytes);
      later = omega (arith, c.in-Ok.ensures.cause.later);
    }
