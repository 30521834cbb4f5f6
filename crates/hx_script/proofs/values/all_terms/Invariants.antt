use Rattle.std.proofs.Common.{◌≡◌, length}
use Rattle.hx_script.specs.declared.line.Until.TheVariants as until
use Rattle.hx_script.specs.Readers.{repeat}
use Rattle.hx_script.specs.Values.{one_more_term, all_terms}
use Rattle.hx_script.proofs.values.all_terms.Given as goal

abbrev pub invariant-terms : goal.invariant-terms
invariant-terms l = repeat until.End (one_more_term l.space) l.terms l.line ≡ all_terms l.space l.initial.line

abbrev pub decreases-terms : goal.decreases-terms
decreases-terms l = length l.line
