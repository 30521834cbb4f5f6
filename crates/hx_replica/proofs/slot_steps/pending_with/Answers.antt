use Rattle.std.proofs.Common.{ap, sym, ◌∙◌, arith}
use Rattle.std.proofs.lemmas.Bool.{eq-eqb, ne_eqb}
use Rattle.hx_model.specs.Slots.{pending_of}
use Rattle.hx_replica.proofs.Acked.{found_at, found_later, has_number}
use Rattle.hx_replica.proofs.Walking.{none_within}
use Rattle.hx_replica.proofs.slot_steps.pending_with.Goals as goal

pub returns-then-deref-version-clause-pending : goal.returns-then-deref-version-clause-pending
returns-then-deref-version-clause-pending c =
    found_at c.args.version.0 (pending_of c.args.slot.now.state) c.loop-i.i c.in-Some.update.now (sym c.in-Some.ensures.pending)
    (ap (has_number c.args.version.0) (sym c.deref.ensures) ∙ eq-eqb c.deref.result.now.version.0 c.args.version.0 c.if-deref-version.true) c.loop-i.invariant

pub unreachable-requires : goal.unreachable-requires
unreachable-requires c = none_within (pending_of c.args.slot.now.state) c.loop-i.i c.in-None.ensures.pending
    (omega (arith, c.loop-i-test.true, c.pending_count-i-end.ensures))

pub loop-i-preserved : goal.loop-i-preserved
loop-i-preserved c =
    found_later c.args.version.0 (pending_of c.args.slot.now.state) c.loop-i.i c.in-Some.update.now (sym c.in-Some.ensures.pending)
    (ap (has_number c.args.version.0) (sym c.deref.ensures) ∙ ne_eqb c.deref.result.now.version.0 c.args.version.0 c.if-deref-version.false) c.loop-i.invariant
