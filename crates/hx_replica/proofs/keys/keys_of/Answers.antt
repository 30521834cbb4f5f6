use Rattle.std.proofs.Common.{List, ℕ, ap, sym, ◌∙◌}
use Rattle.std.specs.Borrow.{Bor}
use Rattle.hx_model.specs.Types.{Update}
use Rattle.hx_model.specs.ServerSteps.{with_key}
use Rattle.hx_replica.specs.Installing.{texts}
use Rattle.hx_replica.proofs.KeyOrder.{put_keys, put_none, put_one}
use Rattle.hx_replica.proofs.keys.keys_of.Goals as goal

pub updates-init : goal.updates-init
updates-init c =
    ap (λ (l : List Update). put_keys l (texts c.new-keys.result.items)) c.as_slice-rest.ensures
    ∙ ap (λ (ks : List (Bor (List ℕ))). put_keys c.args.updates.now (texts ks)) c.new-keys.ensures.items
    ∙ put_none c.args.updates.now

pub updates-preserved : goal.updates-preserved
updates-preserved c =
    let ks = texts c.updates.keys.items in
    ap (put_keys c.in-Some.before.now) (c.in_ok-add_key.ensures ∙ ap (λ (u : Update). with_key u.key ks) c.deref.ensures)
    ∙ sym (put_one c.in-Some.before.now c.in-Some.update.now ks)
    ∙ ap (λ (l : List Update). put_keys l ks) (sym c.in-Some.ensures.cases.0)
    ∙ c.updates.invariant
