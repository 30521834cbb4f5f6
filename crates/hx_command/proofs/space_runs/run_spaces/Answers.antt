-- One more space was run: to its end, or until an actor was worn.
use Rattle.std.proofs.Common.{◌+◌, map, subst, sym, take}
use Rattle.hx_fate.specs.States.{tuned}
use Rattle.hx_run.specs.Ran.{HasRisen}
use Rattle.hx_command.specs.Threads.{AreRan, RanAll}
use Rattle.hx_command.specs.HandedBack.{space_run}
use Rattle.hx_command.proofs.Running.{AllRise, left_next, ran_count, ran_more, ran_stopped, rise_more, still_ran}
use Rattle.hx_command.proofs.space_runs.run_spaces.Goals as goal

pub returns-then-is_some-clause-ran : goal.returns-then-is_some-clause-ran
returns-then-is_some-clause-ran g c =
    let w = c.args.threading.workers in
    subst (λ l. AreRan w c.args.scripts.now (map space_run l) c.in_ok-ran.ran.worn) (sym c.in_ok-push.ensures.items)
    (ran_stopped space_run w c.in_ok-ran.ran.worn c.args.scripts.now c.loop-script.runs.items c.script-item.result
    c.in_ok-ran.ran c.loop-script.script-index c.loop-script-test.true c.script-item.is
    c.loop-script.invariant.ran c.in_ok-ran.ensures.ran (sym c.if-is_some.ensures))

pub returns-then-is_some-clause-risen : goal.returns-then-is_some-clause-risen
returns-then-is_some-clause-risen g c =
    let w = c.args.threading.workers in
    let i = c.loop-script.invariant in
    subst (λ l. AllRise space_run (λ r. r.fates.items) w
    (λ s trace j t f b. HasRisen s c.args.threading.workers trace j t
    (tuned c.args.threading.tuning ((goal.Fate-dyn g (f.vtable, f.value)).state f.value))
    ((goal.Fate-dyn g (b.vtable, b.value)).state b.value)) c.args.fates.items c.args.scripts.now l)
    (sym c.in_ok-push.ensures.items)
    (rise_more space_run (λ r. r.fates.items) w (λ s trace j t f b. HasRisen s c.args.threading.workers trace j t
    (tuned c.args.threading.tuning ((goal.Fate-dyn g (f.vtable, f.value)).state f.value))
    ((goal.Fate-dyn g (b.vtable, b.value)).state b.value)) c.args.fates.items c.loop-script.fates.items
    c.args.scripts.now c.loop-script.runs.items c.script-item.result c.in_ok-ran.ran c.loop-script.script-index
    c.loop-script-test.true c.script-item.is (ran_count space_run w c.args.scripts.now c.loop-script.runs.items
    c.loop-script.script-index c.loop-script.auto.script-index-end i.ran) i.left i.risen c.in_ok-ran.ensures.risen)

pub loop-script-preserved : goal.loop-script-preserved
loop-script-preserved g c =
    let w = c.args.threading.workers in
    let i = c.loop-script.invariant in
    record {
      ran = subst (λ l. RanAll w (take (c.loop-script.script-index + 1) c.args.scripts.now) (map space_run l)) (sym c.in_ok-push.ensures.items)
          (ran_more space_run w c.args.scripts.now c.loop-script.runs.items c.script-item.result c.in_ok-ran.ran
          c.loop-script.script-index c.loop-script-test.true c.script-item.is
          i.ran (still_ran space_run w c.script-item.result c.in_ok-ran.ran c.in_ok-ran.ran.worn (sym c.if-is_some.ensures) c.in_ok-ran.ensures.ran));
      left = left_next c.loop-script.fates.items c.run_next.new.fates.items c.args.fates.items c.loop-script.script-index w i.left c.in_ok-ran.ensures.fates;
      risen = subst (λ l. AllRise space_run (λ r. r.fates.items) w
          (λ s trace j t f b. HasRisen s c.args.threading.workers trace j t
          (tuned c.args.threading.tuning ((goal.Fate-dyn g (f.vtable, f.value)).state f.value))
          ((goal.Fate-dyn g (b.vtable, b.value)).state b.value)) c.args.fates.items c.args.scripts.now l)
          (sym c.in_ok-push.ensures.items)
          (rise_more space_run (λ r. r.fates.items) w (λ s trace j t f b. HasRisen s c.args.threading.workers trace j
          t (tuned c.args.threading.tuning ((goal.Fate-dyn g (f.vtable, f.value)).state f.value))
          ((goal.Fate-dyn g (b.vtable, b.value)).state b.value)) c.args.fates.items c.loop-script.fates.items
          c.args.scripts.now c.loop-script.runs.items c.script-item.result c.in_ok-ran.ran c.loop-script.script-index
          c.loop-script-test.true c.script-item.is (ran_count space_run w c.args.scripts.now c.loop-script.runs.items
          c.loop-script.script-index c.loop-script.auto.script-index-end i.ran) i.left i.risen c.in_ok-ran.ensures.risen);
    }
