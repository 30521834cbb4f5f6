use Rattle.std.proofs.Common.{None, sym, ◌∙◌}
use Rattle.hx_report_lines.specs.declared.calls.CallLine.{CallLine}
use Rattle.hx_report_lines.specs.Values.{caller_below}
use Rattle.hx_audit.specs.Told.{same_caller}
use Rattle.hx_audit.proofs.Callers.{caller_differs, caller_trans, one_caller}
use Rattle.hx_audit.proofs.Halving.{at_any}
use Rattle.hx_audit.proofs.lookups.place_of.Goals as goal

pub returns-then-is_call_of : goal.returns-then-is_call_of
returns-then-is_call_of c =
    sym (at_any (λ (l : CallLine). l.caller) caller_below same_caller caller_trans caller_differs one_caller None
    c.args.calls.now c.requires c.args.caller _ (sym c.is_call_of.ensures ∙ c.if-is_call_of.true))
