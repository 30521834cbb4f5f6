-- The call was submitted and the world drained.
use Rattle.std.proofs.Common.{◌≡◌, inr, length, refl, reverse, sym, ap, ◌∙◌, subst, arith}
use Rattle.std.specs.Prelude.{IsSome}
use Rattle.hx_model.specs.Histories.{note_of_end}
use Rattle.hx_service.specs.Receipts.{receipts_of}
use Rattle.hx_service.specs.Reading.{receipt_seen}
use Rattle.hx_service.specs.Booking.{booked_as}
use Rattle.hx_service.proofs.Answered.{IsMade, answered, mapped, not-fewer, unanswered}
use Rattle.hx_service.proofs.calling.make_call.Goals as goal

pub receipt_for-requires-clause-before : goal.receipt_for-requires-clause-before
receipt_for-requires-clause-before c =
    let l = ap length c.requires.serving.booked_is ∙ mapped booked_as (receipts_of (reverse c.args.world.now.trace)) in
    let k = ap length c.settle.ensures.serving.booked_is ∙ mapped booked_as (receipts_of (reverse c.settle.new.world.trace)) in
    let v = ap length c.as_slice.ensures.value in
    let few = not-fewer c.submit.new.self.script c.args.world.now.trace c.submit.new.self.trace
    c.settle.new.world.trace c.in-Ok.ensures.trace c.settle.ensures.drained in
    omega (arith, l, k, v, few)

pub returns-in-None-clause-calls : goal.returns-in-None-clause-calls
returns-in-None-clause-calls c =
    let before : c.len-before.result ≡ length (receipts_of (reverse c.args.world.now.trace)) =
    (let l = ap length c.requires.serving.booked_is
    ∙ mapped booked_as (receipts_of (reverse c.args.world.now.trace)) in omega (arith, l)) in
    let made : IsMade c.args.world.now c.submit.new.self c.settle.new.world c.args.session c.args.op = record {
      actor = c.requires.session;
      free = c.requires.free;
      run_old = c.is_full.ensures.run;
      run_new = c.receipt_for.ensures.run;
      grow = c.calls_grow.ensures.grows;
      submitted = c.in-Ok.ensures.script;
      same = c.in-Ok.ensures.trace;
      script = c.settle.ensures.script;
      drained = c.settle.ensures.drained;
    } in (
      unanswered c.args.world.now c.submit.new.self c.settle.new.world c.args.session c.args.op made
          c.len-before.result c.in-Ok.number before c.in-Ok.ensures.number c.in-None.ensures.none c.in_default.ensures.quiet,
      c.is_full.ensures.few c.if-is_full.false,
    )

pub returns-in-Ok-copied-clause-calls : goal.returns-in-Ok-copied-clause-calls
returns-in-Ok-copied-clause-calls c =
    let before : c.len-before.result ≡ length (receipts_of (reverse c.args.world.now.trace)) =
    (let l = ap length c.requires.serving.booked_is
    ∙ mapped booked_as (receipts_of (reverse c.args.world.now.trace)) in omega (arith, l)) in
    let made : IsMade c.args.world.now c.submit.new.self c.settle.new.world c.args.session c.args.op = record {
      actor = c.requires.session;
      free = c.requires.free;
      run_old = c.is_full.ensures.run;
      run_new = c.receipt_for.ensures.run;
      grow = c.calls_grow.ensures.grows;
      submitted = c.in-Ok.ensures.script;
      same = c.in-Ok.ensures.trace;
      script = c.settle.ensures.script;
      drained = c.settle.ensures.drained;
    } in
    let a = answered c.args.world.now c.submit.new.self c.settle.new.world c.args.session c.args.op made
    c.len-before.result c.in-Ok.number (receipt_seen c.in-Some.receipt) before c.in-Ok.ensures.number
    c.in-Some.ensures.found.0 c.in-Some.ensures.found.1 c.in_default.ensures.quiet in
    (rw c.in-Ok-copied.ensures a, c.is_full.ensures.few c.if-is_full.false)

pub returns-in-Err-copied-clause-calls : goal.returns-in-Err-copied-clause-calls
returns-in-Err-copied-clause-calls c =
    let before : c.len-before.result ≡ length (receipts_of (reverse c.args.world.now.trace)) =
    (let l = ap length c.requires.serving.booked_is
    ∙ mapped booked_as (receipts_of (reverse c.args.world.now.trace)) in omega (arith, l)) in
    let made : IsMade c.args.world.now c.submit.new.self c.settle.new.world c.args.session c.args.op = record {
      actor = c.requires.session;
      free = c.requires.free;
      run_old = c.is_full.ensures.run;
      run_new = c.receipt_for.ensures.run;
      grow = c.calls_grow.ensures.grows;
      submitted = c.in-Ok.ensures.script;
      same = c.in-Ok.ensures.trace;
      script = c.settle.ensures.script;
      drained = c.settle.ensures.drained;
    } in
    let a = answered c.args.world.now c.submit.new.self c.settle.new.world c.args.session c.args.op made
    c.len-before.result c.in-Ok.number (receipt_seen c.in-Some.receipt) before c.in-Ok.ensures.number
    c.in-Some.ensures.found.0 c.in-Some.ensures.found.1 c.in_default.ensures.quiet in
    record {
      few = c.is_full.ensures.few c.if-is_full.false;
      left = inr (a.submitted, inr (subst IsSome (sym (ap (λ k. note_of_end k (reverse c.settle.new.world.trace)) (sym a.caller) ∙ a.receipt.ended)) refl));
    }
