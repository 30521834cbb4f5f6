use Rattle.std.proofs.Common.{◌∙◌}
use Rattle.hx_store.specs.Invariant.{key_in}
use Rattle.hx_types.proofs.Lemmas.{apart-cmp}
use Rattle.hx_store.proofs.slots.Slots.compare_keys.Goals as goal

pub returns-then-first-second : goal.returns-then-first-second
returns-then-first-second c =
    let es = c.args.self.now.entries in
    let first = c.prefix_at-first in
    let second = c.prefix_at-second in
    c.cmp.ensures
    ∙ apart-cmp (key_in es c.args.one) (key_in es c.args.other) first.result second.result first.ensures second.ensures c.if-first-second.true
