use Rattle.hx_law_texts.proofs.Vocabulary.{bundle_sound}
use Rattle.hx_law_texts.proofs.BundleOnly.{only_those_bundles}
use Rattle.hx_law_texts.proofs.BundleTold.{bundle_told}
use Rattle.hx_law_texts.proofs.BundleWhole.{bundle_reads_back}
use Rattle.hx_law_texts.proofs.laws.bundle_prints_are_read_back.Goals as goal

pub returns-clause-sayable : goal.returns-clause-sayable
returns-clause-sayable c = bundle_reads_back

pub returns-clause-no_other : goal.returns-clause-no_other
returns-clause-no_other c = only_those_bundles

pub returns-clause-read : goal.returns-clause-read
returns-clause-read c = λ text b e. bundle_reads_back b (bundle_sound text b e) (bundle_told text b e)

pub returns-clause-said : goal.returns-clause-said
returns-clause-said c = bundle_told
