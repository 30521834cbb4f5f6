use Rattle.std.proofs.Common.{rules, List, subst, ◌∙◌}
use Rattle.std.specs.Prelude.{reverse}
use Rattle.hx_world.specs.declared.sessions.CountedSession.{CountedSession}
use Rattle.hx_world.specs.Idle.{IsFirstIdle, IsNoneIdle}
use Rattle.hx_world.specs.Nexts.{DeliversNext}
use Rattle.hx_world.proofs.Delivering.{begin_fails_next, begin_idle, begin_there, begun_next, delivers_next, fails_next, rests_after}
use Rattle.hx_world.proofs.schedule.make_next.Goals as goal

pub returns-in_default-clause-advances : goal.returns-in_default-clause-advances
returns-in_default-clause-advances c =
    let same = c.in_ok-deliver_first.ensures.rests c.if-branch.false in
    let none = (subst (DeliversNext c.args.inside.now.script (reverse c.args.inside.now.log.trace)
    (reverse c.deliver_first.new.inside.log.trace)) c.if-branch.false c.in_ok-deliver_first.ensures.delivers).0 in
    rests_after c.args.inside.now.script c.deliver_first.new.inside.script c.args.inside.now.log.trace
    c.deliver_first.new.inside.log.trace c.deliver_first.new.inside.actors.sessions.items
    c.deliver_first.ensures.script same none c.deliver_first.ensures.world.sessions_are
    (subst (λ (l : List CountedSession). IsNoneIdle l) c.as_slice.ensures.value c.in_default.ensures)

pub begin-requires-clause-session : goal.begin-requires-clause-session
begin-requires-clause-session c =
    let same = c.in_ok-deliver_first.ensures.rests c.if-branch.false in
    let none = (subst (DeliversNext c.args.inside.now.script (reverse c.args.inside.now.log.trace)
    (reverse c.deliver_first.new.inside.log.trace)) c.if-branch.false c.in_ok-deliver_first.ensures.delivers).0 in
    begin_there c.args.inside.now.script c.deliver_first.new.inside.script c.args.inside.now.log.trace
    c.deliver_first.new.inside.log.trace c.deliver_first.new.inside.actors.sessions.items
    c.deliver_first.ensures.script same none c.deliver_first.ensures.world.sessions_are c.in-Some.place
    (subst (λ (l : List CountedSession). IsFirstIdle l c.in-Some.place) c.as_slice.ensures.value c.in-Some.ensures)

pub begin-requires-clause-idle : goal.begin-requires-clause-idle
begin-requires-clause-idle c =
    let same = c.in_ok-deliver_first.ensures.rests c.if-branch.false in
    let none = (subst (DeliversNext c.args.inside.now.script (reverse c.args.inside.now.log.trace)
    (reverse c.deliver_first.new.inside.log.trace)) c.if-branch.false c.in_ok-deliver_first.ensures.delivers).0 in
    begin_idle c.args.inside.now.script c.deliver_first.new.inside.script c.args.inside.now.log.trace
    c.deliver_first.new.inside.log.trace c.deliver_first.new.inside.actors.sessions.items
    c.deliver_first.ensures.script same none c.deliver_first.ensures.world.sessions_are c.in-Some.place
    (subst (λ (l : List CountedSession). IsFirstIdle l c.in-Some.place) c.as_slice.ensures.value c.in-Some.ensures)

pub returns-in_err-begin-clause-fails : goal.returns-in_err-begin-clause-fails
returns-in_err-begin-clause-fails c =
    let same = c.in_ok-deliver_first.ensures.rests c.if-branch.false in
    let none = (subst (DeliversNext c.args.inside.now.script (reverse c.args.inside.now.log.trace)
    (reverse c.deliver_first.new.inside.log.trace)) c.if-branch.false c.in_ok-deliver_first.ensures.delivers).0 in
    let why =
    begin_fails_next c.args.inside.now.script c.deliver_first.new.inside.script c.args.inside.now.log.trace
    c.deliver_first.new.inside.log.trace c.deliver_first.new.inside.actors.sessions.items
    c.deliver_first.ensures.script same none c.deliver_first.ensures.world.sessions_are c.in-Some.place
    (subst (λ (l : List CountedSession). IsFirstIdle l c.in-Some.place) c.as_slice.ensures.value c.in-Some.ensures)
    c.in_err-begin.field-0.0 c.in_err-begin.ensures.fails in
    search (rules, why)

pub returns-in_err-begin-clause-err : goal.returns-in_err-begin-clause-err
returns-in_err-begin-clause-err c =
    let same = c.in_err-begin.ensures.err ∙ c.in_ok-deliver_first.ensures.rests c.if-branch.false in
    search (rules, same)

pub returns-clause-advances : goal.returns-clause-advances
returns-clause-advances c =
    let same = c.in_ok-deliver_first.ensures.rests c.if-branch.false in
    let none = (subst (DeliversNext c.args.inside.now.script (reverse c.args.inside.now.log.trace)
    (reverse c.deliver_first.new.inside.log.trace)) c.if-branch.false c.in_ok-deliver_first.ensures.delivers).0 in
    begun_next c.args.inside.now.script c.deliver_first.new.inside.script c.args.inside.now.log.trace
    c.deliver_first.new.inside.log.trace c.deliver_first.new.inside.actors.sessions.items
    c.deliver_first.ensures.script same none c.deliver_first.ensures.world.sessions_are c.in-Some.place
    (subst (λ (l : List CountedSession). IsFirstIdle l c.in-Some.place) c.as_slice.ensures.value c.in-Some.ensures)
    (reverse c.begin.new.inside.log.trace) c.in_ok-begin.ensures.begins

pub returns-then-branch-clause-advances : goal.returns-then-branch-clause-advances
returns-then-branch-clause-advances c =
    delivers_next c.args.inside.now.script (reverse c.args.inside.now.log.trace) (reverse c.deliver_first.new.inside.log.trace)
    (subst (DeliversNext c.args.inside.now.script (reverse c.args.inside.now.log.trace)
    (reverse c.deliver_first.new.inside.log.trace)) c.if-branch.true c.in_ok-deliver_first.ensures.delivers)

pub returns-in_err-deliver_first-clause-fails : goal.returns-in_err-deliver_first-clause-fails
returns-in_err-deliver_first-clause-fails c =
    let why = fails_next c.args.inside.now.script (reverse c.args.inside.now.log.trace) c.in_err-deliver_first.field-0.0 c.in_err-deliver_first.ensures.fails in
    search (rules, why)
