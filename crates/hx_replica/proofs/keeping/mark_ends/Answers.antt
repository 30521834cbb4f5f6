use Rattle.std.proofs.Common.{◌<◌, ap, arith, length, refl, subst, sym, ◌∙◌}
use Rattle.hx_replica.specs.Adopting.{changed_at, marked_end}
use Rattle.hx_replica.specs.Outputs.{context_seen}
use Rattle.hx_replica.proofs.Kept.{all_marked_ends, changed_length, changed_not, marked_upto, one_marked}
use Rattle.hx_replica.proofs.Roomy.{kept_self, kept_twice}
use Rattle.hx_replica.proofs.keeping.mark_ends.Goals as goal

pub loop-k-init : goal.loop-k-init
loop-k-init c = record {
  region = refl;
  marks = refl;
  states = sym (changed_not c.args.i c.args.store.now.states);
  rooms = kept_self c.args.store.now.rooms;
  ordered = c.requires.ordered;
}

pub mark_end-requires-clause-number : goal.mark_end-requires-clause-number
mark_end-requires-clause-number c =
    let n = ap length c.loop-k.invariant.states ∙ changed_length (marked_upto (context_seen c.args.context.now) c.loop-k.k) c.args.i c.args.store.now.states in
    subst (λ m. c.args.i < m) (sym n) c.requires.number

pub loop-k-preserved : goal.loop-k-preserved
loop-k-preserved c = record {
  region = c.mark_end.ensures.region ∙ c.loop-k.invariant.region;
  marks = c.mark_end.ensures.marks ∙ c.loop-k.invariant.marks;
  states = c.mark_end.ensures.states ∙ ap (changed_at (marked_end (context_seen c.args.context.now) c.loop-k.k) c.args.i) c.loop-k.invariant.states
      ∙ one_marked (context_seen c.args.context.now) c.loop-k.k c.args.i c.args.store.now.states
      (subst (λ m. c.loop-k.k < m) c.pending_count-k-end.ensures c.loop-k-test.true);
  rooms = kept_twice c.args.store.now.rooms c.loop-k.store.rooms c.mark_end.new.store.rooms c.loop-k.invariant.rooms c.mark_end.ensures.rooms;
  ordered = c.mark_end.ensures.ordered;
}

pub returns-clause-states : goal.returns-clause-states
returns-clause-states c =
    c.loop-k.invariant.states
    ∙ all_marked_ends (context_seen c.args.context.now) c.loop-k.k c.args.i c.args.store.now.states
    (let e = c.pending_count-k-end.ensures in omega (arith, e, c.loop-k-test.false))
