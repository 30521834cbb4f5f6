-- How far the session is tells it.
use Rattle.std.proofs.Common.{◌-◌, Some, length, reverse, sym, ap, ◌∙◌}
use Rattle.std.proofs.lemmas.Bool.{ltb-true}
use Rattle.std.proofs.lemmas.Option.{slice_get-get_or}
use Rattle.hx_types.specs.Fitting.{calls_of}
use Rattle.hx_service.proofs.Free.{free-at}
use Rattle.hx_service.proofs.progress.is_free.Goals as goal

pub returns : goal.returns
returns c =
    let at = ap (λ p. Some p) c.in-Some.ensures.lookup.1
    ∙ sym (slice_get-get_or c.args.progress.now (c.args.session.0 - 1) _ (ltb-true _ _ (sym c.in-Some.ensures.lookup.0))) in
    let told = free-at c.args.world.now.script (reverse c.args.world.now.trace) c.trace-trace.ensures.run
    c.args.progress.now c.requires.progress c.args.session c.requires.session
    c.in-Some.own.now at (length c.calls-calls.result.now) (ap length (c.calls-calls.ensures ∙ ap (λ s. calls_of s c.args.session) c.script.ensures)) in
    (λ r. told.0 (sym c.is_resting.ensures ∙ r), λ r. c.is_resting.ensures ∙ told.1 r)
