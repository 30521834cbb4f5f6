-- The put fits, and once it was answered the next can be made.
use Rattle.std.proofs.Common.{arith}
use Rattle.hx_service.proofs.Puts.{fits-here, made-ok, may-ok}
use Rattle.hx_service.proofs.Tests.{few-values}
use Rattle.hx_service.proofs.putting.put_row.Goals as goal

pub put_of-requires : goal.put_of-requires
put_of-requires c = let few = few-values c.args.service.now.script.space c.args.row.now c.requires.row c.trace.ensures.valid.space in omega (arith, few)

pub call-called-requires-clause-fits : goal.call-called-requires-clause-fits
call-called-requires-clause-fits c = fits-here c.args.service.now c.args.session c.args.sets.now c.requires.may
    c.args.row.now c.requires.row c.in-Ok.op c.in-Ok.ensures

pub returns-clause-made : goal.returns-clause-made
returns-clause-made c =
    made-ok c.args.service.now c.args.session c.args.sets.now c.call-called.new.self c.in-Ok.op c.args.row.now c.in-Ok.ensures c.requires.may
    c.call-called.ensures.grows c.call-called.result c.call-called.ensures.calls

pub returns-clause-may : goal.returns-clause-may
returns-clause-may c =
    may-ok c.args.service.now c.args.session c.args.sets.now c.call-called.new.self c.in-Ok.op c.requires.may
    c.call-called.ensures.grows c.trace-2.ensures.run c.call-called.result c.call-called.ensures.calls
