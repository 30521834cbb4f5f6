-- The plan is followed from the start.
use Rattle.std.proofs.Common.{sym, ap, ◌∙◌, subst}
use Rattle.hx_model.specs.Types.{Script}
use Rattle.hx_types.specs.Fitting.{IsScript}
use Rattle.hx_world.specs.Worlds.{WorldState}
use Rattle.hx_law_growing.specs.Growing.{GrowsTo}
use Rattle.hx_service.proofs.Empty.{empty-grows}
use Rattle.hx_service.proofs.rosters.Roster.new.Goals as goal

pub invariant_of-result : goal.invariant_of-result
invariant_of-result g c = (
  c.in_ok-plan.ensures ∙ c.requires.plan,
  record {
    valid = subst IsScript c.requires.plan c.requires.valid;
    grows = subst (λ (s : Script). GrowsTo s g.C.Charter.script) (sym (ap (λ (w : WorldState). w.script) c.in_ok-service.ensures))
        (subst (GrowsTo _) c.requires.plan (empty-grows c.args.script.now));
  },
)
