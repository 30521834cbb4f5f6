use Rattle.std.proofs.Common.{◌∙◌, arith, get_or}
use Rattle.hx_store.specs.Invariant.{key_in}
use Rattle.hx_store.proofs.Prefixes.{prefix-there}
use Rattle.hx_store.proofs.SlotAt.{key-seen}
use Rattle.hx_store.proofs.slots.Slots.prefix_at.Goals as goal

pub returns-in-Some : goal.returns-in-Some
returns-in-Some c =
    let key = key_in c.args.self.now.entries c.args.place in
    prefix-there key c.self.inside.keys.entries c.self.inside.prefixes.items c.args.place c.in-Some.prefix.now c.self.invariant.first
    (key-seen c.self.invariant c.self.view_is c.args.place)
    (c.in-Some.ensures.lookup.4 (omega arith) 0 ∙ (λ k. get_or (c.deref.ensures.value k) c.args.place 0))

pub returns-in-None : goal.returns-in-None
returns-in-None c =
    let key = key_in c.args.self.now.entries c.args.place in
    prefix-there key c.self.inside.keys.entries c.self.inside.prefixes.items c.args.place 0 c.self.invariant.first
    (key-seen c.self.invariant c.self.view_is c.args.place)
    (c.in-None.ensures.lookup.4 (omega arith) 0 ∙ (λ k. get_or (c.deref.ensures.value k) c.args.place 0))
