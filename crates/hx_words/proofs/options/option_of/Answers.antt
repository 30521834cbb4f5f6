-- The option of a name and a value.
use Rattle.std.proofs.Common.{rules}
use Rattle.hx_words.proofs.Words.{only}
use Rattle.hx_words.proofs.options.option_of.Goals as goal

pub returns-in_ok-number_within : goal.returns-in_ok-number_within
returns-in_ok-number_within c option =
    let said = (c.number_within.ensures c.in_ok-number_within.field-0).0 c.in_ok-number_within.was in
    only _ _ _ (search rules) (said.1, said.2) option

pub returns-in_ok-number_within-2 : goal.returns-in_ok-number_within-2
returns-in_ok-number_within-2 c option =
    let said = (c.number_within-then-eq-2.ensures c.in_ok-number_within-2.field-0).0 c.in_ok-number_within-2.was in
    only _ _ _ (search rules) said.2 option

pub returns-in_ok-number_within-3 : goal.returns-in_ok-number_within-3
returns-in_ok-number_within-3 c option =
    let said = (c.number_within-then-eq-3.ensures c.in_ok-number_within-3.field-0).0 c.in_ok-number_within-3.was in
    only _ _ _ (search rules) said.2 option
