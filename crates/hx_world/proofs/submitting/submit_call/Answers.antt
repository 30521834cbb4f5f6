use Rattle.std.proofs.Common.{◌+◌, ◌∙◌, ap, length, List}
use Rattle.hx_model.specs.Types.{Op}
use Rattle.hx_world.proofs.Submitted.{few_own, fits_session, session_calls, world_with_call}
use Rattle.hx_world.proofs.submitting.submit_call.Goals as goal

pub extend_script-requires-clause-fits : goal.extend_script-requires-clause-fits
extend_script-requires-clause-fits c =
    fits_session c.args.inside.now.script c.args.inside.now.actors c.args.inside.now.log c.requires.world c.args.session c.requires.actor
    c.index_mut-counted.result.now c.index_mut-counted.ensures.value c.args.op c.requires.fits

pub extend_script-requires-clause-few : goal.extend_script-requires-clause-few
extend_script-requires-clause-few c =
    few_own c.args.inside.now.script c.args.inside.now.actors c.args.inside.now.log c.requires.world c.args.session c.requires.actor
    c.index_mut-counted.result.now c.index_mut-counted.ensures.value c.args.op
    c.runs_grow.ensures c.states_grow.ensures c.calls_grow.ensures.grows c.requires.few

pub returns-clause-world : goal.returns-clause-world
returns-clause-world c =
    world_with_call c.args.inside.now.script c.args.inside.now.actors c.args.inside.now.log c.requires.world c.args.session c.requires.actor
    c.index_mut-counted.result.now c.index_mut-counted.ensures.value c.args.op c.runs_grow.ensures c.states_grow.ensures c.calls_grow.ensures.grows
    c.calls_grow.ensures.valid c.posts_of_runs_are_sound.ensures.posts c.posts_of_runs_are_sound.ensures.versions c.posts_of_runs_are_sound.ensures.epochs
    c.requires.fits c.requires.few c.extend_script.new.script c.in_ok-number.ensures.script c.extend_script.new.counted c.in_ok-number.ensures.called

pub returns-clause-number : goal.returns-clause-number
returns-clause-number c =
    c.in_ok-number.ensures.number
    ∙ ap (λ (l : List Op). length l + 1)
    (session_calls c.args.inside.now.script c.args.inside.now.actors c.args.inside.now.log c.requires.world c.args.session c.requires.actor
    c.index_mut-counted.result.now c.index_mut-counted.ensures.value c.args.op c.runs_grow.ensures c.states_grow.ensures c.calls_grow.ensures.grows)
