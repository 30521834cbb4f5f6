use Rattle.hx_history.proofs.Issuing.{issued_here}
use Rattle.hx_history.proofs.walking.has_issued.Goals as goal

pub returns-in-Issued : goal.returns-in-Issued
returns-in-Issued c = issued_here c.args.notes.now c.loop-note.note-index c.note-item.result c.in-Issued.config
    c.loop-note-test.true c.note-item.is c.in-Issued.is
