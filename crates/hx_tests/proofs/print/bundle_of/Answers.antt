-- What is read is a valid bundle.
use Rattle.hx_tests.proofs.print.bundle_of.Goals as goal

pub returns : goal.returns
returns c = c.bundles_are_valid.ensures c.as_bytes.result.now c.in_ok-bundle.bundle c.in_ok-bundle.ensures
