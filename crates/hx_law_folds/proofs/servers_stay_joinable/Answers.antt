-- The slots of a server can be sent to a joiner.
use Rattle.hx_law_folds.proofs.Vocabulary.{is_key_region}
use Rattle.hx_law_folds.proofs.Joinable.{can-join, joinable-stays, keys-differ, sent-ascends, sent-floors, start-joinable}
use Rattle.hx_law_folds.proofs.Sound.{sound-joins}
use Rattle.hx_law_folds.proofs.servers_stay_joinable.Goals as goal

pub returns : goal.returns
returns c = record {
  start = start-joinable;
  stay = joinable-stays;
  sound = sound-joins;
  send = λ space r h. record {
    slots = can-join r.region (is_key_region space r.region) r.states h.slots;
    differ = keys-differ r.states h.ascend;
    floors = sent-floors r.region r.states;
    ascend = sent-ascends r.region r.states h.ascend;
  };
}
