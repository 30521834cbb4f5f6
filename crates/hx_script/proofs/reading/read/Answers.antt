use Rattle.std.proofs.Common.{◌≡◌, ◌+◌, Ok, sym, ◌∙◌, arith}
use Rattle.hx_script.specs.Grammar.{line_of}
use Rattle.hx_script.proofs.Lines.{reads_on}
use Rattle.hx_script.proofs.SoundTexts.{line_kept}
use Rattle.hx_script.proofs.reading.read.Goals as goal

pub lines-preserved : goal.lines-preserved
lines-preserved c =
    let ok : line_of (c.lines.number + 1) c.lines.draft c.first_line.result.0.now ≡ Ok c.read_line.new.self = c.in_default.ensures in
    record {
      room = omega (arith, c.lines.invariant.room, c.first_line.ensures.shorter);
      sound = line_kept (c.lines.number + 1) c.lines.draft c.first_line.result.0.now c.read_line.new.self c.lines.invariant.sound ok;
      so_far = sym (reads_on c.lines.number c.lines.draft c.lines.rest.now c.first_line.result.0.now
          c.first_line.result.1.now c.read_line.new.self c.first_line.ensures.lines ok) ∙ c.lines.invariant.so_far;
    }
