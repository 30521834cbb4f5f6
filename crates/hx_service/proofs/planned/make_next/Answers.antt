-- The next call of the plan fits, finds room, and keeps to the plan.
use Rattle.std.proofs.Common.{◌≡◌, ◌≤◌, ◌<◌, Ok, Err, Some, inr, length, refl, sym, ap, ◌∙◌, subst, arith}
use Rattle.hx_model.specs.Types.{Script}
use Rattle.hx_types.specs.declared.limits.TheConstants.{MOST_CALLS}
use Rattle.hx_types.specs.Fitting.{calls_of}
use Rattle.hx_types.specs.Spaces.{Fits}
use Rattle.hx_law_growing.specs.Growing.{calls_in}
use Rattle.hx_law_growing.proofs.Lemmas.{few_calls_of}
use Rattle.hx_service.specs.declared.errors.ServiceError.TheVariants as an_error
use Rattle.hx_service.proofs.Plans.{actor-of, few-planned, follows-on, none-left, planned-fits, planned-is}
use Rattle.hx_service.proofs.planned.make_next.Goals as goal

pub overflow_cast-caller : goal.overflow_cast-caller
overflow_cast-caller c =
    let l : length c.calls-made.result.now ≡ length (calls_of c.args.service.now.script c.args.session) =
    ap length (c.calls-made.ensures ∙ ap (λ (s : Script). calls_of s c.args.session) c.script.ensures.script) in
    let b = few_calls_of c.args.service.now.script c.args.session
    (actor-of c.args.service.now.script c.args.plan.now c.requires.follows.grows c.args.session c.requires.session) in
    let m : calls_in c.args.service.now.script ≤ MOST_CALLS = c.script.ensures.valid.few_calls in
    omega (arith, l, b, m)

pub overflow_add-caller : goal.overflow_add-caller
overflow_add-caller c =
    let l : length c.calls-made.result.now ≡ length (calls_of c.args.service.now.script c.args.session) =
    ap length (c.calls-made.ensures ∙ ap (λ (s : Script). calls_of s c.args.session) c.script.ensures.script) in
    let b = few_calls_of c.args.service.now.script c.args.session
    (actor-of c.args.service.now.script c.args.plan.now c.requires.follows.grows c.args.session c.requires.session) in
    let m : calls_in c.args.service.now.script ≤ MOST_CALLS = c.script.ensures.valid.few_calls in
    omega (arith, l, b, m)

pub returns-in_default-clause-nexts : goal.returns-in_default-clause-nexts
returns-in_default-clause-nexts c = (
  inr (none-left c.args.service.now.script c.args.plan.now c.requires.follows.grows c.args.session
      (planned-is c.args.service.now.script c.script.result.now c.args.plan.now c.calls-made.result.now c.args.session
      _ c.calls-made.ensures c.script.ensures.script c.in_default.ensures)),
  refl,
)

pub returns-in_default-copy-clause-nexts : goal.returns-in_default-copy-clause-nexts
returns-in_default-copy-clause-nexts c = (
  c.in-Some.op.now,
  record {
    free = c.free.ensures.0 c.if-not-free.false;
    planned = (planned-is c.args.service.now.script c.script.result.now c.args.plan.now c.calls-made.result.now
        c.args.session _ c.calls-made.ensures c.script.ensures.script c.in-Some.ensures);
  },
  inr (refl, refl),
)

pub call-requires-2-clause-fits : goal.call-requires-2-clause-fits
call-requires-2-clause-fits c =
    subst (Fits c.args.service.now.script.space) (sym c.in-Ok.ensures)
    (planned-fits c.args.service.now.script c.args.plan.now c.requires.follows c.args.session c.in-Some.op.now
    c.requires.session (planned-is c.args.service.now.script c.script.result.now c.args.plan.now
    c.calls-made.result.now c.args.session _ c.calls-made.ensures c.script.ensures.script c.in-Some.ensures))

pub returns-in-Ok-call-clause-follows : goal.returns-in-Ok-call-clause-follows
returns-in-Ok-call-clause-follows c =
    follows-on c.args.service.now c.call-2.new.self c.args.plan.now c.requires.follows c.args.session c.in-Ok.op
    (actor-of c.args.service.now.script c.args.plan.now c.requires.follows.grows c.args.session c.requires.session)
    ((planned-is c.args.service.now.script c.script.result.now c.args.plan.now c.calls-made.result.now c.args.session
    _ c.calls-made.ensures c.script.ensures.script c.in-Some.ensures) ∙ ap (λ o. Some o) (sym c.in-Ok.ensures))
    (Ok c.in-Ok-call.receipt) c.in-Ok-call.ensures.calls

pub returns-in-Err-clause-follows : goal.returns-in-Err-clause-follows
returns-in-Err-clause-follows c =
    follows-on c.args.service.now c.call-2.new.self c.args.plan.now c.requires.follows c.args.session c.in-Ok.op
    (actor-of c.args.service.now.script c.args.plan.now c.requires.follows.grows c.args.session c.requires.session)
    ((planned-is c.args.service.now.script c.script.result.now c.args.plan.now c.calls-made.result.now c.args.session
    _ c.calls-made.ensures c.script.ensures.script c.in-Some.ensures) ∙ ap (λ o. Some o) (sym c.in-Ok.ensures))
    (Err c.in-Err.error) c.in-Err.ensures.calls

pub returns-in-Err-clause-not_full : goal.returns-in-Err-clause-not_full
returns-in-Err-clause-not_full c e =
    let few : calls_in c.args.service.now.script < MOST_CALLS =
    few-planned c.args.service.now.script c.args.plan.now c.requires.follows c.args.session c.in-Some.op.now
    (actor-of c.args.service.now.script c.args.plan.now c.requires.follows.grows c.args.session c.requires.session)
    (planned-is c.args.service.now.script c.script.result.now c.args.plan.now c.calls-made.result.now
    c.args.session _ c.calls-made.ensures c.script.ensures.script c.in-Some.ensures) in
    let full : c.in-Err.error ≡ an_error.Full = cc in
    let most : calls_in c.args.service.now.script ≡ MOST_CALLS = c.in-Err.ensures.full.0 (λ i. Err (full i)) in
    omega (arith, few, most)
