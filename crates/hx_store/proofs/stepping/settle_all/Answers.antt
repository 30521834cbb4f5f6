use Rattle.std.proofs.Common.{ap, sym, ◌∙◌}
use Rattle.hx_model.specs.Types.{RegionId}
use Rattle.hx_law_folds.specs.Folding.{folded}
use Rattle.hx_model.specs.Slots.{KeyState, moved_all, settled}
use Rattle.hx_model.proofs.Lemmas.{moved_all-++}
use Rattle.hx_store.specs.Stores.{acknowledging}
use Rattle.hx_store.proofs.stepping.settle_all.Goals as goal

pub returns-clause-state : goal.returns-clause-state
returns-clause-state c =
    let s : KeyState = c.args.slot.now.state in
    let ends = acknowledging c.args.versions.now in
    let now = c.acknowledge_all.new.slot.state in
    c.settle.ensures.state
    ∙ ap (λ (g : RegionId). folded g (moved_all (settled now) now)) c.acknowledge_all.ensures.region
    ∙ ap (λ (x : KeyState). folded c.args.slot.now.region (moved_all (settled x) x)) c.acknowledge_all.ensures.state
    ∙ ap (folded c.args.slot.now.region) (sym (moved_all-++ ends (settled (moved_all ends s)) s))
