use Rattle.std.proofs.Common.{◌≡◌, ◌+◌, length}
use Rattle.hx_report_lines.specs.declared.cursor.Place.TheVariants.{Outside}
use Rattle.hx_report_lines.specs.Readers.{outside_from}
use Rattle.hx_report_lines.proofs.cursor.outside_len.Given as goal

abbrev pub invariant-bytes : goal.invariant-bytes
invariant-bytes l = record {
  within : l.len + length l.left ≡ length l.bytes;
  so_far : l.len + outside_from l.stop l.place l.left ≡ outside_from l.stop Outside l.bytes;
}

abbrev pub decreases-bytes : goal.decreases-bytes
decreases-bytes l = length l.left
