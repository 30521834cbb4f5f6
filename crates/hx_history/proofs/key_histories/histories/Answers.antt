use Rattle.std.proofs.Common.{map, ap, ◌∙◌}
use Rattle.hx_history.specs.Events.{event_view}
use Rattle.hx_history.proofs.key_histories.histories.Goals as goal

pub returns : goal.returns
returns c = c.in_ok-listed.ensures c.args.trace.now (ap (map event_view) c.deref.ensures.value ∙ c.in_ok-all.ensures)
