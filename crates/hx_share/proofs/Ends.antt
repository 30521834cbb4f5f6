-- How callers end.
use Rattle.std.proofs.Common.{◌≡◌, List, Option, Some, None, sym, subst, reverse}
use Rattle.hx_types.specs.declared.ids.Actor.{Actor}
use Rattle.hx_types.specs.declared.traces.Entry.{Entry}
use Rattle.hx_types.specs.declared.traces.Script.{Script}
use Rattle.hx_model.specs.Runs.{IsRun}
use Rattle.hx_model.specs.Schedule.{IsQuiet}
use Rattle.hx_law_growing.specs.Growing.{GrowsTo}
use Rattle.hx_service.specs.Services.{ServiceState}
use Rattle.hx_share.specs.Sharing.{EndsSharing}
use Rattle.hx_world.specs.declared.ends.DrainError.{DrainError}
use Rattle.hx_world.specs.declared.ends.DrainError.TheVariants.{Worn}
use Rattle.hx_world.specs.Worlds.{Fails}

module _ (script : Script) (left made : ServiceState) (trace : List Entry) (worn : Option Actor) (same : made ≡ left) (taken : trace ≡ made.trace) where
  -- nothing is left to do
  pub quiet : worn ≡ None → IsQuiet script (reverse left.trace) → EndsSharing script (reverse trace) worn
  quiet none q =
      subst (λ (o : Option Actor). EndsSharing script (reverse trace) o) (sym none)
      (subst (λ (t : List Entry). IsQuiet script (reverse t)) (sym taken) (subst (λ (s : ServiceState). IsQuiet script (reverse s.trace)) (sym same) q))

  -- an actor is worn
  pub worn-out : (e : DrainError) (a : Actor) → worn ≡ Some a → e ≡ Worn a → GrowsTo made.script script → IsRun made.script (reverse trace)
      → Fails left.script (reverse left.trace) e → EndsSharing script (reverse trace) worn
  worn-out e a is at grows run fails =
      let here = subst (λ (s : ServiceState). Fails s.script (reverse s.trace) (Worn a)) (sym same) (subst (Fails left.script (reverse left.trace)) at fails) in
      subst (λ (o : Option Actor). EndsSharing script (reverse trace) o) (sym is)
      (record {
        made = made.script;
        grows = grows;
        run = run;
        worn_out = subst (λ (t : List Entry). Fails made.script (reverse t) (Worn a)) (sym taken) here;
      })
