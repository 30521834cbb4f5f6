use Rattle.std.proofs.Common.{ℕ, List, ◌++◌, ap, ◌∙◌}
use Rattle.hx_report.specs.Reporting.{epoch_line}
use Rattle.hx_report.proofs.NoneIssued.{only_first}
use Rattle.hx_report.proofs.epochs.put_epochs.Goals as goal

pub returns-else-has_issued : goal.returns-else-has_issued
returns-else-has_issued c =
    c.in_ok-put_epoch.ensures
    ∙ ap (λ (line : List ℕ). c.args.out.now.items ++ line)
    (ap epoch_line c.in_ok-first_config.ensures ∙ only_first c.args.script.now c.args.trace.now (c.requires.issued c.if-has_issued.false))
