use Rattle.hx_report_lines.specs.Drafts.{value_of}
use Rattle.hx_report_lines.proofs.TextsRead.{reads_its_text}
use Rattle.hx_report_lines.proofs.reading.read_report.Goals as goal

pub returns-clause-total : goal.returns-clause-total
returns-clause-total c never =
    absurd (never (value_of c.in_ok-draft.draft) c.in_ok-draft.ensures.valid (reads_its_text c.args.text.now c.in_ok-draft.draft c.in_ok-draft.ensures.value))
