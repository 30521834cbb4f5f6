use Rattle.std.proofs.Common.{◌≡◌, ◌≤◌, ◌+◌, length}
use Rattle.hx_script.specs.BundleTexts.{read_bundle_lines, read_second}
use Rattle.hx_script.specs.Texts.{lines_of}
use Rattle.hx_script.proofs.SoundBundles.{BundleSound}
use Rattle.hx_script.proofs.bundle_reading.read_spaces.Given as goal

abbrev pub invariant-lines : goal.invariant-lines
invariant-lines l = record {
  room : l.number + length l.rest ≤ length l.text;
  sound : BundleSound l.draft;
  so_far : read_bundle_lines l.number l.draft (lines_of l.rest) ≡ read_second l.text;
}

abbrev pub decreases-lines : goal.decreases-lines
decreases-lines l = length l.rest
