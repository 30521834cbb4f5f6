-- What is read is a valid script.
use Rattle.hx_command.proofs.reading.script_of.Goals as goal

pub returns-clause-valid : goal.returns-clause-valid
returns-clause-valid c = c.scripts_are_valid.ensures c.args.text.now c.in_ok-script.script c.in_ok-script.ensures
