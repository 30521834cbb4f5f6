use Rattle.std.proofs.Common.{◌∙◌}
use Rattle.hx_report.specs.Reporting.{note_lines}
use Rattle.hx_report.proofs.Appending.{one_more}
use Rattle.hx_report.proofs.epochs.put_notes.Goals as goal

pub loop-note-preserved : goal.loop-note-preserved
loop-note-preserved c =
    c.in_ok-put_note.ensures
    ∙ one_more note_lines c.loop-note.out.items c.args.out.now.items c.args.notes.now c.loop-note.note-index
    c.note-item.result c.loop-note.invariant c.loop-note-test.true c.note-item.is
