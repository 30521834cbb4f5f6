use Rattle.std.proofs.lemmas.List.{nil_from_length}
use Rattle.hx_print.proofs.Turning.{turn_empty, turn_taken}
use Rattle.hx_print.proofs.bundles.put_turn.Goals as goal

pub returns-in-None : goal.returns-in-None
returns-in-None c = turn_empty c.args.spaces.now c.args.place c.args.hands.now.items c.index-hand.result.now
    c.args.out.now.items c.requires c.index-hand.ensures (nil_from_length c.index-hand.result.now.now c.in-None.ensures.cases)

pub returns-in_ok-put_call_in-in-Some : goal.returns-in_ok-put_call_in-in-Some
returns-in_ok-put_call_in-in-Some c =
    turn_taken c.args.spaces.now c.args.place c.args.hands.now.items c.index-hand.result.now c.in-Some.rest
    c.in-Some.op.now c.args.out.now.items c.put_call_in.new.out.items c.requires c.index-hand.ensures
    c.in-Some.ensures.cases.0 c.in_ok-put_call_in-in-Some.ensures
