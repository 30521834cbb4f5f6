use Rattle.std.proofs.Common.{[], ◌∷◌, ap, sym, ◌∙◌}
use Rattle.hx_types.specs.Words.{list_of}
use Rattle.hx_replica.specs.Outputs.{context_seen}
use Rattle.hx_replica.proofs.Kept.{changed_not, marked_as, none_listed, pending_end}
use Rattle.hx_replica.proofs.keeping.mark_end.Goals as goal

pub mark_acknowledged-requires-clause-pending : goal.mark_acknowledged-requires-clause-pending
mark_acknowledged-requires-clause-pending c = pending_end
    (context_seen c.args.context.now) c.args.store.now.states c.args.i c.args.k c.in-Some.version
    (ap list_of (sym c.in-Some.is) ∙ c.end_at.ensures)

pub returns-in-Some-clause-states : goal.returns-in-Some-clause-states
returns-in-Some-clause-states c =
    c.mark_acknowledged.ensures.states ∙ marked_as
    (context_seen c.args.context.now) c.args.store.now.states c.args.i c.args.k (c.in-Some.version ∷ [])
    (ap list_of (sym c.in-Some.is) ∙ c.end_at.ensures)

pub returns-in_default-clause-states : goal.returns-in_default-clause-states
returns-in_default-clause-states c =
    sym (changed_not c.args.i c.args.store.now.states)
    ∙ marked_as (context_seen c.args.context.now) c.args.store.now.states c.args.i c.args.k []
    (sym (none_listed c.end_at.result c.in_default.not-Some) ∙ c.end_at.ensures)
