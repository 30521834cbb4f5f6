use Rattle.std.proofs.Common.{None, sym, ap, ◌∙◌}
use Rattle.std.specs.List.{slice_get}
use Rattle.hx_types.specs.Words.{when_some}
use Rattle.hx_report_lines.specs.declared.calls.CallLine.{CallLine}
use Rattle.hx_audit.specs.Told.{same_caller}
use Rattle.hx_audit.proofs.Halving.{found_at_place}
use Rattle.hx_audit.proofs.lookups.call_of.Goals as goal

pub returns-in-Some : goal.returns-in-Some
returns-in-Some c =
    c.line_at.ensures ∙ sym (found_at_place (λ (l : CallLine). same_caller l.caller c.args.caller) c.args.calls.now
    ∙ ap (λ o. when_some o None (slice_get c.args.calls.now)) (sym c.place_of.ensures ∙ c.in-Some.is))

pub returns-in-None : goal.returns-in-None
returns-in-None c =
    sym (found_at_place (λ (l : CallLine). same_caller l.caller c.args.caller) c.args.calls.now
    ∙ ap (λ o. when_some o None (slice_get c.args.calls.now)) (sym c.place_of.ensures ∙ c.in-None.is))
