use Rattle.std.proofs.Common.{◌==◌, ap, sym, ◌∙◌, arith}
use Rattle.std.specs.List.{list_any}
use Rattle.hx_model.specs.Types.{Update, Version}
use Rattle.hx_model.specs.Slots.{pending_of}
use Rattle.hx_replica.proofs.Committing.{all_ended, none_ended, one_ended}
use Rattle.hx_replica.proofs.Walking.{none_within}
use Rattle.hx_replica.proofs.settling.ended_count.Goals as goal

pub returns-then-not-is_among : goal.returns-then-not-is_among
returns-then-not-is_among c =
    let us = pending_of c.args.slot.now.state in
    let tail_versions = c.args.tail_versions.now in
    none_ended tail_versions us c.loop-i.i c.in-Some.update.now (sym c.in-Some.ensures.pending)
    (ap (λ (u : Update). list_any (λ (v : Version). v.0 == u.version.0) tail_versions) (sym c.deref.ensures)
    ∙ sym c.is_among.ensures ∙ c.if-not-is_among.true) c.loop-i.invariant

pub unreachable-requires : goal.unreachable-requires
unreachable-requires c = none_within (pending_of c.args.slot.now.state) c.loop-i.i c.in-None.ensures.pending
    (omega (arith, c.loop-i-test.true, c.pending_count-count.ensures))

pub loop-i-preserved : goal.loop-i-preserved
loop-i-preserved c =
    let us = pending_of c.args.slot.now.state in
    let tail_versions = c.args.tail_versions.now in
    one_ended tail_versions us c.loop-i.i c.in-Some.update.now (sym c.in-Some.ensures.pending)
    (ap (λ (u : Update). list_any (λ (v : Version). v.0 == u.version.0) tail_versions) (sym c.deref.ensures)
    ∙ sym c.is_among.ensures ∙ c.if-not-is_among.false) c.loop-i.invariant

pub returns : goal.returns
returns c = all_ended c.args.tail_versions.now (pending_of c.args.slot.now.state) c.loop-i.i
    c.pending_count-count.result c.pending_count-count.ensures
    (omega (arith, c.loop-i-test.false)) c.loop-i.auto.i-end c.loop-i.invariant
