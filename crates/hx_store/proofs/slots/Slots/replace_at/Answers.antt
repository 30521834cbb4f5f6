use Rattle.std.proofs.Common.{ap, arith, length, ◌∙◌}
use Rattle.hx_index.specs.Orders.{IndexState}
use Rattle.hx_store.specs.Slots.{SlotsState}
use Rattle.hx_store.specs.Invariant.{is_listed}
use Rattle.hx_store.proofs.SlotAt.{put-stale, set-seen, some-slot, stored-seen, within-slots}
use Rattle.hx_store.proofs.slots.Slots.replace_at.Goals as goal

pub index_mut-requires : goal.index_mut-requires
index_mut-requires c =
    let within = within-slots c.self.invariant c.self.view_is c.args.place c.requires in
    let ok = c.self.inside.slots.ok.0 in
    omega (arith, within, ok)

pub invariant_of-self : goal.invariant_of-self
invariant_of-self c =
    put-stale c.self.invariant c.self.view_is c.args.place c.requires c.args.slot c.mark_stale.new.self c.mark_stale.ensures.rows
    c.mark_stale.ensures.stale

pub returns-clause-replaced : goal.returns-clause-replaced
returns-clause-replaced c =
    let at = some-slot c.self.invariant c.self.view_is c.args.place c.requires in
    record {
      before = record { slot = at.0; listed = is_listed c.args.self.now.entries c.args.place };
      found = stored-seen c.self.invariant c.self.view_is c.args.place at.1;
      set = set-seen c.self.invariant c.self.view_is c.args.place c.args.slot;
    }

pub returns-clause-attributes : goal.returns-clause-attributes
returns-clause-attributes c =
    ap (λ (x : IndexState). length x.orders) c.mark_stale.ensures.index ∙ ap (λ (s : SlotsState). length s.index.orders) c.self.view_is
