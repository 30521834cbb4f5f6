use Rattle.std.proofs.Common.{◌≡◌, Bool, ap, sym, ◌∙◌}
use Rattle.hx_types.specs.Subspaces.{is_key_region}
use Rattle.hx_model.specs.Slots.{Forget, moved, new_state}
use Rattle.hx_store.specs.Stores.{state_at}
use Rattle.hx_replica.proofs.Invariant.{no_slot}
use Rattle.hx_replica.proofs.installing.slot_of.Goals as goal

pub returns-in_ok-copy-in-None-clause-state : goal.returns-in_ok-copy-in-None-clause-state
returns-in_ok-copy-in-None-clause-state c =
    let key = c.args.key.now in
    let b = is_key_region c.args.context.now.space.now c.args.context.now.region in
    let empty : state_at c.args.store.now key ≡ new_state b key =
    no_slot c.args.store.now.keeps_marks key c.args.store.now.states (sym c.in-None.ensures.found)
    ∙ ap (λ (k : Bool). new_state k key) c.requires.marks in
    c.new.ensures.state ∙ ap (new_state b) c.in_ok-copy-in-None.ensures ∙ sym (ap (moved Forget) empty)
