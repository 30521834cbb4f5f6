use Rattle.std.proofs.Common.{◌≡◌, ◌+◌, Ok, sym, ◌∙◌, arith}
use Rattle.hx_script.specs.BundleGrammar.{bundle_line_of}
use Rattle.hx_script.proofs.BundleLines.{bundle_reads_on}
use Rattle.hx_script.proofs.BundleValid.{bundle_line_kept}
use Rattle.hx_script.proofs.bundle_reading.read_spaces.Goals as goal

pub lines-preserved : goal.lines-preserved
lines-preserved c =
    let ok : bundle_line_of (c.lines.number + 1) c.lines.draft c.first_line.result.0.now ≡ Ok c.read_line.new.self = c.in_default.ensures in
    record {
      room = omega (arith, c.lines.invariant.room, c.first_line.ensures.shorter);
      sound = bundle_line_kept (c.lines.number + 1) c.lines.draft c.first_line.result.0.now c.read_line.new.self c.lines.invariant.sound ok;
      so_far = sym (bundle_reads_on c.lines.number c.lines.draft c.lines.rest.now c.first_line.result.0.now
          c.first_line.result.1.now c.read_line.new.self c.first_line.ensures.lines ok) ∙ c.lines.invariant.so_far;
    }
