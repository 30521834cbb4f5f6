use Rattle.std.proofs.Common.{rules}
use Rattle.std.specs.Prelude.{reverse}
use Rattle.hx_world.proofs.Scheduling.{begin_fails, begins}
use Rattle.hx_world.proofs.schedule.begin.Goals as goal

pub returns-in_err-session_turn-clause-fails : goal.returns-in_err-session_turn-clause-fails
returns-in_err-session_turn-clause-fails c =
    let why = begin_fails c.args.inside.now.script
    (reverse c.args.inside.now.log.trace) c.args.session c.in_err-session_turn.field-0.0 c.in_err-session_turn.ensures.turn in
    search (rules, why)

pub returns-clause-begins : goal.returns-clause-begins
returns-clause-begins c =
    begins c.args.inside.now.script (reverse c.args.inside.now.log.trace) c.args.session
    (reverse c.session_turn.new.inside.log.trace) c.in_ok-session_turn.field-0 c.requires.idle
    c.in_ok-session_turn.ensures.turn
