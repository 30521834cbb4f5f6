-- What is told of a call, by its words.
use Rattle.std.proofs.Common.{inr}
use Rattle.hx_command.specs.HandedBack.{handed_back}
use Rattle.hx_command.proofs.Wording.{nothing_told}
use Rattle.hx_command.proofs.program.called.Goals as goal

pub returns-in_default-clause-told : goal.returns-in_default-clause-told
returns-in_default-clause-told g c = nothing_told c.args.words.now _ _

pub returns-in_default-push-clause-told : goal.returns-in_default-push-clause-told
returns-in_default-push-clause-told g c = nothing_told c.args.words.now _ _

pub returns-clause-told : goal.returns-clause-told
returns-clause-told g c =
    let ended = c.hyperstore-done.ensures in
    let result = c.hyperstore-done.result in
    record {
      h = handed_back result;
      alone = λ unthreaded. inr (ended.alone unthreaded);
      run = λ command says. let r = ended.run command says in (r.0, r.1);
      decided = ended.decided;
      soak = λ command says. (ended.soak command says).0;
      soaked = ended.soaked;
      share = ended.share;
      share_decided = ended.share_decided;
    }
