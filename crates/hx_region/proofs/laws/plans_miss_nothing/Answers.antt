-- Each part of the law is a lemma.
use Rattle.hx_region.proofs.Planned as lemma
use Rattle.hx_region.proofs.laws.plans_miss_nothing.Goals as goal

pub returns : goal.returns
returns c = record {
  asked = lemma.asked c.args._space.now c.args._config.now c.args._terms.now;
  matches = lemma.all_asked c.args._space.now c.args._config.now c.args._terms.now c.requires;
  fewest = lemma.fewest c.args._space.now c.args._config.now c.args._terms.now;
  lost = lemma.lost c.args._space.now c.args._config.now c.args._terms.now;
  lowest = lemma.lowest c.args._space.now c.args._config.now c.args._terms.now;
}
