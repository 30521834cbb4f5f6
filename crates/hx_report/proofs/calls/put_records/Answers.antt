use Rattle.std.proofs.Common.{append-nil, sym}
use Rattle.hx_report.proofs.calls.put_records.Goals as goal

pub loop-call-init : goal.loop-call-init
loop-call-init c = record { lines = sym (append-nil c.args.out.now.items); printed = c.no_printed_rows-printed.ensures c.args.script.now.space }
