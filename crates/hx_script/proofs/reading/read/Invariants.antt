use Rattle.std.proofs.Common.{◌≡◌, ◌≤◌, ◌+◌, length}
use Rattle.hx_script.specs.Texts.{read_lines, lines_of, script_of}
use Rattle.hx_script.proofs.Sections.{Sound}
use Rattle.hx_script.proofs.reading.read.Given as goal

abbrev pub invariant-lines : goal.invariant-lines
invariant-lines l = record {
  room : l.number + length l.rest ≤ length l.text;
  sound : Sound l.draft;
  so_far : read_lines l.number l.draft (lines_of l.rest) ≡ script_of l.text;
}

abbrev pub decreases-lines : goal.decreases-lines
decreases-lines l = length l.rest
