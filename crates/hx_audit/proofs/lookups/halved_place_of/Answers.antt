use Rattle.std.proofs.Common.{true, false, None, sym, ◌∙◌}
use Rattle.hx_report_lines.specs.declared.calls.CallLine.{CallLine}
use Rattle.hx_report_lines.specs.Values.{caller_below}
use Rattle.hx_audit.specs.Told.{same_caller}
use Rattle.hx_audit.proofs.Callers.{caller_differs, caller_trans, one_caller}
use Rattle.hx_audit.proofs.Halving.{at_point}
use Rattle.hx_audit.proofs.lookups.halved_place_of.Goals as goal

pub returns-then-is_call_of : goal.returns-then-is_call_of
returns-then-is_call_of c =
    sym (at_point (λ (l : CallLine). l.caller) caller_below same_caller caller_trans caller_differs one_caller None
    c.args.calls.now c.requires c.args.caller c.lower_calls-place.result c.lower_calls-place.ensures.low
    c.lower_calls-place.ensures.high true (sym c.is_call_of.ensures ∙ c.if-is_call_of.true))

pub returns-else-is_call_of : goal.returns-else-is_call_of
returns-else-is_call_of c =
    sym (at_point (λ (l : CallLine). l.caller) caller_below same_caller caller_trans caller_differs one_caller None
    c.args.calls.now c.requires c.args.caller c.lower_calls-place.result c.lower_calls-place.ensures.low
    c.lower_calls-place.ensures.high false (sym c.is_call_of.ensures ∙ c.if-is_call_of.false))
