use Rattle.std.proofs.Common.{◌≡◌, ◌≤◌, ◌+◌, length}
use Rattle.hx_script.specs.Texts.{lines_of}
use Rattle.hx_report_lines.specs.Drafts.{draft_of, ends_whole, read_lines}
use Rattle.hx_report_lines.proofs.DraftsRead.{IsGood}
use Rattle.hx_report_lines.proofs.reading.draft_of.Given as goal

abbrev pub invariant-lines : goal.invariant-lines
invariant-lines l = record {
  room : l.number + length l.rest ≤ length l.text;
  good : IsGood l.draft;
  so_far : read_lines (ends_whole l.text) l.number l.draft (lines_of l.rest) ≡ draft_of l.text;
}

abbrev pub decreases-lines : goal.decreases-lines
decreases-lines l = length l.rest
