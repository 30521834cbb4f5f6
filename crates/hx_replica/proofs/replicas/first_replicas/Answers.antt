use Rattle.std.proofs.Common.{◌++◌, ◌∷◌, [], Global, Vec, true, ap, sym, ◌∙◌}
use Rattle.hx_model.specs.Types.{RegionId}
use Rattle.hx_types.specs.Configs.{lists}
use Rattle.hx_store.specs.Stores.{StoreState}
use Rattle.hx_replica.specs.declared.replicas.Replica.{Replica}
use Rattle.hx_replica.specs.Replicas.{first_replica}
use Rattle.hx_replica.proofs.Starting.{with_more, without_more}
use Rattle.hx_replica.proofs.replicas.first_replicas.Goals.{else-lists, then-lists+in_ok-store+in_ok-push}
use Rattle.hx_replica.proofs.replicas.first_replicas.Goals as goal

pub loop-number-preserved : goal.loop-number-preserved
loop-number-preserved c = elim c.if-lists.branch [
  | then-lists+in_ok-store+in_ok-push w ↦ ap (λ (v : Vec Replica Global). v.items) w.replicas-is
      ∙ w.in_ok-push.ensures.items
      ∙ ap (λ (s : StoreState). c.loop-number.replicas.items
      ++ (record { region = record { 0 = c.loop-number.number }; installed = true; store = s }) ∷ []) w.in_ok-store.ensures
      ∙ with_more (first_replica c.args.space.now) (λ (g : RegionId). lists c.args.config.now g c.args.server)
      c.loop-number.number c.loop-number.replicas.items c.loop-number.invariant (sym c.lists.ensures ∙ w.if-lists.true)
  | else-lists w ↦ ap (λ (v : Vec Replica Global). v.items) w.replicas-is
      ∙ without_more (first_replica c.args.space.now)
      (λ (g : RegionId). lists c.args.config.now g c.args.server) c.loop-number.number
      c.loop-number.replicas.items c.loop-number.invariant (sym c.lists.ensures ∙ w.if-lists.false)
]
