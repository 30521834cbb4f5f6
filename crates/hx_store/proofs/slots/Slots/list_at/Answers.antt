use Rattle.std.proofs.Common.{arith, true, ◌∙◌}
use Rattle.hx_store.specs.Invariant.{is_listed}
use Rattle.hx_store.proofs.Entries.{key-length, value-there}
use Rattle.hx_store.proofs.Prefixes.{set-prefix}
use Rattle.hx_store.proofs.SlotAt.{listed-set, some-slot, stored-seen, within-slots}
use Rattle.hx_store.proofs.slots.Slots.list_at.Goals as goal

pub unreachable-requires : goal.unreachable-requires
unreachable-requires c =
    let within = within-slots c.self.invariant c.self.view_is c.args.place c.requires in
    let count = c.self.invariant.count in
    value-there c.self.inside.keys.entries c.args.place (omega (arith, within, count)) c.in-None.ensures.value

pub invariant_of-self : goal.invariant_of-self
invariant_of-self c = record {
  count = key-length c.self.inside.keys.entries c.args.place true ∙ c.self.invariant.count;
  first = set-prefix c.self.inside.keys.entries c.self.inside.prefixes.items c.args.place true c.self.invariant.first;
  kept = c.self.invariant.kept;
}

pub returns-clause-listed : goal.returns-clause-listed
returns-clause-listed c =
    let at = some-slot c.self.invariant c.self.view_is c.args.place c.requires in
    record {
      before = record { slot = at.0; listed = is_listed c.args.self.now.entries c.args.place };
      found = stored-seen c.self.invariant c.self.view_is c.args.place at.1;
      set = listed-set c.self.invariant c.self.view_is c.args.place true at.1;
    }
