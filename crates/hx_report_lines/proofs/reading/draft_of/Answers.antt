use Rattle.std.proofs.Common.{◌≡◌, Some, sym, ◌∙◌, arith}
use Rattle.hx_report_lines.specs.Drafts.{after_line, ends_whole}
use Rattle.hx_report_lines.proofs.DraftsRead.{good_more}
use Rattle.hx_report_lines.proofs.LinesRead.{one_line, reads_on}
use Rattle.hx_report_lines.proofs.reading.draft_of.Goals as goal

pub lines-preserved : goal.lines-preserved
lines-preserved c =
    let ok : after_line c.lines.draft c.first_line.result.0.now ≡ Some c.read_line.new.self = c.in_default.ensures in
    record {
      room = omega (arith, c.lines.invariant.room, c.first_line.ensures.shorter);
      good = good_more c.lines.draft c.read_line.new.self c.first_line.result.0.now
          (one_line c.lines.rest.now c.first_line.result.0.now c.first_line.result.1.now c.first_line.ensures.lines)
          c.lines.invariant.good ok;
      so_far = sym (reads_on (ends_whole c.args.text.now) c.lines.number c.lines.draft c.lines.rest.now
          c.first_line.result.0.now c.first_line.result.1.now c.read_line.new.self c.first_line.ensures.lines ok)
          ∙ c.lines.invariant.so_far;
    }
