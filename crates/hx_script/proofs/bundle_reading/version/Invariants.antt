use Rattle.std.proofs.Common.{◌≡◌, ◌≤◌, ◌+◌, length}
use Rattle.hx_script.specs.BundleTexts.{version_from, version_of}
use Rattle.hx_script.specs.Texts.{lines_of}
use Rattle.hx_script.proofs.bundle_reading.version.Given as goal

abbrev pub invariant-lines : goal.invariant-lines
invariant-lines l = record {
  room : l.number + length l.rest ≤ length l.text;
  so_far : version_from l.number (lines_of l.rest) ≡ version_of l.text;
}

abbrev pub decreases-lines : goal.decreases-lines
decreases-lines l = length l.rest
