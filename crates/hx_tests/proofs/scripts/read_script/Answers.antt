-- What is read is a valid script.
use Rattle.hx_tests.proofs.scripts.read_script.Goals as goal

pub returns : goal.returns
returns c = c.scripts_are_valid.ensures c.as_bytes.result.now c.in_ok-script.script c.in_ok-script.ensures
