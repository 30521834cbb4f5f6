use Rattle.std.proofs.Common.{◌≡◌, Bool, ap, map, subst, sym, ◌∙◌}
use Rattle.std.specs.List.{AllByRecursion}
use Rattle.hx_types.specs.Subspaces.{is_key_region}
use Rattle.hx_model.specs.ServerSteps.{state_from}
use Rattle.hx_model.specs.Slots.{KeyState}
use Rattle.hx_law_folds.specs.Folding.{TextsAscend}
use Rattle.hx_law_folds.proofs.Lemmas.{keys-ascend}
use Rattle.hx_replica.specs.Installing.{IsFresh, texts}
use Rattle.hx_replica.proofs.Joined.{from_marked, snapshot_fresh}
use Rattle.hx_replica.proofs.installing.install_all.Goals as goal

pub join_all-requires-clause-fresh : goal.join_all-requires-clause-fresh
join_all-requires-clause-fresh c =
    subst (AllByRecursion (IsFresh c.args.context.now.region)) (sym c.in_ok-install.ensures.states)
    (snapshot_fresh c.args.context.now.region c.args.store.now.keeps_marks c.args.snapshot.now)

pub join_all-requires-clause-kinds : goal.join_all-requires-clause-kinds
join_all-requires-clause-kinds c =
    let b = is_key_region c.args.context.now.space.now c.args.context.now.region in
    subst (AllByRecursion (λ (t : KeyState). t.marks ≡ b))
    (ap (λ (k : Bool). map (state_from k) c.args.snapshot.now) (sym c.requires.marks)
    ∙ sym c.in_ok-install.ensures.states) (from_marked b c.args.snapshot.now)

pub join_all-requires-clause-keys : goal.join_all-requires-clause-keys
join_all-requires-clause-keys c = subst TextsAscend (sym (ap texts c.as_slice.ensures.value ∙ c.in_ok-keys.ensures)) (keys-ascend c.args.pending.now)
