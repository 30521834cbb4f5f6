use Rattle.std.proofs.Common.{arith}
use Rattle.std.proofs.lemmas.Result.{err_from_is_err_and}
use Rattle.hx_io.proofs.Fronts.{consumes_more}
use Rattle.hx_io.proofs.reading.read_all.Goals as goal

pub returns-then-count-room-clause-prefix : goal.returns-then-count-room-clause-prefix
returns-then-count-room-clause-prefix g c =
    let taken = consumes_more _ _ _ c.loop-count.bytes.items c.read_up_to.new.buf c.in-Ok.count
    (omega (arith, c.in-Ok.ensures.bound, c.read_up_to.auto.buf)) c.loop-count.invariant.consumed c.in-Ok.ensures.bytes.0 in
    (taken.0, taken.1, omega (arith, taken.2, c.in-Ok.ensures.bound))

pub returns-then-count-room-clause-large : goal.returns-then-count-room-clause-large
returns-then-count-room-clause-large g c =
    let taken = consumes_more _ _ _ c.loop-count.bytes.items c.read_up_to.new.buf c.in-Ok.count
    (omega (arith, c.in-Ok.ensures.bound, c.read_up_to.auto.buf)) c.loop-count.invariant.consumed c.in-Ok.ensures.bytes.0 in
    λ _. (taken.0, taken.1, omega (arith, taken.2, c.in-Ok.ensures.bound))

pub returns-in_err-extend_from_slice-clause-prefix : goal.returns-in_err-extend_from_slice-clause-prefix
returns-in_err-extend_from_slice-clause-prefix g c =
    let taken = consumes_more _ _ _ c.loop-count.bytes.items c.read_up_to.new.buf c.in-Ok.count
    (omega (arith, c.in-Ok.ensures.bound, c.read_up_to.auto.buf)) c.loop-count.invariant.consumed c.in-Ok.ensures.bytes.0 in
    let failed = err_from_is_err_and c.from_residual.result c.from_residual.ensures.1 in
    rw failed.1 (taken.0, taken.1, omega (arith, taken.2))
