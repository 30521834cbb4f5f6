use Rattle.std.proofs.Common.{◌≡◌, ◌<◌, false, arith, get_or-set_same, length, refl, subst, sym}
use Rattle.std.proofs.lemmas.List.Elements.{AllWithin-more, AllWithin-set}
use Rattle.hx_slot.specs.declared.updates.AcceptedUpdate.{AcceptedUpdate}
use Rattle.hx_slot.proofs.SameUpdates.{same-refl, same-set, same-trans}
use Rattle.hx_slot.proofs.acks.forget_acks.Goals as goal

pub loop-place-init : goal.loop-place-init
loop-place-init c = record { same = same-refl c.args.accepted.now.items; forgotten = λ k d a b. absurd (omega arith); len = refl; capacity = refl }

pub loop-place-preserved : goal.loop-place-preserved
loop-place-preserved c =
    let xs = c.loop-place.accepted.items in
    let i = c.loop-place.place in
    let t : AcceptedUpdate = record { update = c.index_mut.result.now.update; keeps = c.index_mut.result.now.keeps; acknowledged = false } in
    let ok = c.loop-place.accepted.ok.0 in
    let len = c.loop-place.invariant.len in
    let end = c.len-place-end.ensures in
    let test = c.loop-place-test.true in
    let within : i < length xs = omega (arith, ok, len, end, test) in
    record {
      same = same-trans c.args.accepted.now.items xs _ c.loop-place.invariant.same
          (same-set xs i c.index_mut.result.now false within c.index_mut.ensures.value);
      forgotten = AllWithin-more (λ (t : AcceptedUpdate). t.acknowledged ≡ false) _ c.args.from i
          (AllWithin-set (λ (t : AcceptedUpdate). t.acknowledged ≡ false) xs c.args.from i i t within refl c.loop-place.invariant.forgotten)
          (λ d. subst (λ (x : AcceptedUpdate). x.acknowledged ≡ false) (sym (get_or-set_same xs i t d within)) refl);
      len = c.loop-place.invariant.len;
      capacity = c.loop-place.invariant.capacity;
    }
