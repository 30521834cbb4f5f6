-- A slot shows, answers and decides the same without its past.
use Rattle.hx_law_folds.proofs.Vocabulary.{folded, IsSlotOf, KeyState, RegionId}
use Rattle.hx_law_folds.specs.Laws.{AnswerSame}
use Rattle.hx_law_folds.proofs.Deciding.{decide-same}
use Rattle.hx_law_folds.proofs.Shown.{ack-same, acknowledged-same, alike-folded, alike-show, is_pending-same, offer-same, offered-same, settled-same}
use Rattle.hx_law_folds.proofs.Shown.{stuck-same}
use Rattle.hx_law_folds.proofs.Slots.{slot-folded}
use Rattle.hx_law_folds.proofs.folds_show_same.Goals as goal

answers : (g : RegionId) (s : KeyState) → IsSlotOf g s → AnswerSame g (folded g s) s
answers g s h =
    let t = folded g s in
    let k = slot-folded g s h in
    let e = alike-folded g s in
    let a = alike-show g t s k h e in
    record {
      offered = offered-same g t s a;
      offer = offer-same g t s a;
      pending = is_pending-same g t s a;
      settled = settled-same g t s a;
      acknowledged = acknowledged-same g t s k h e;
      ack = ack-same g t s k h e;
      stuck = stuck-same g t s a;
      decides = λ m space config caller op. decide-same space config g t s m a caller op;
    }

pub returns : goal.returns
returns c = record { shows = λ g s h. alike-show g (folded g s) s (slot-folded g s h) h (alike-folded g s); answers = answers }
