-- Each part of the law is a lemma.
use Rattle.hx_region.proofs.MetTerms.{matches_are_met}
use Rattle.hx_region.proofs.Subspaces as lemma
use Rattle.hx_region.proofs.laws.regions_are_shared_out.Goals as goal

pub returns : goal.returns
returns c = record {
  covered = lemma.covered c.args._space.now;
  disjoint = lemma.disjoint c.args._space.now;
  within = lemma.within c.args._space.now;
  places = lemma.places_belong c.args._space.now c.requires;
  met = matches_are_met c.args._space.now c.requires;
}
