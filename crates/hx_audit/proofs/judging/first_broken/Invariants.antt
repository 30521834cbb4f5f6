use Rattle.std.proofs.Common.{ℕ, length, Option}
use Rattle.std.specs.List.{All}
use Rattle.hx_report_lines.specs.Values.{IsBlock}
use Rattle.hx_audit.specs.Verdicts.{blocks_from}
use Rattle.hx_audit.specs.Walking.{IsFirstOf}
use Rattle.hx_audit.proofs.judging.first_broken.Given as goal

abbrev pub invariant-loop-block : goal.invariant-loop-block
invariant-loop-block l = record {
  walk : (r : Option ℕ) → IsFirstOf l.clause (blocks_from l.line l.rest) r → IsFirstOf l.clause (blocks_from 2 l.blocks) r;
  valid : All IsBlock l.rest;
}

abbrev pub decreases-loop-block : goal.decreases-loop-block
decreases-loop-block l = length l.rest
