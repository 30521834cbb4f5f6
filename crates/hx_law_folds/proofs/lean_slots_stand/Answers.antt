-- What a slot without a past shows, answers and does is that of each slot for which it stands.
use Rattle.hx_law_folds.proofs.Vocabulary.{KeyState, RegionId, StandsFor, ◌∙◌}
use Rattle.hx_law_folds.specs.Laws.{Stand}
use Rattle.hx_law_folds.proofs.Deciding.{decide-same}
use Rattle.hx_law_folds.proofs.Shown.{ack-same, acknowledged-same, alike-show, is_pending-same, offer-same, offered-same, settled-same, stuck-same}
use Rattle.hx_law_folds.proofs.Standing.{lean-alike, lean-bare, lean-slot, stands-acknowledged, stands-forgotten, stands-marked, stands-offered, stands-settled}
use Rattle.hx_law_folds.proofs.lean_slots_stand.Goals as goal

stand : (g : RegionId) (v s : KeyState) → StandsFor g v s → Stand g v s
stand g v s h =
    let k = lean-slot g v s h in
    let e = lean-alike g v s h in
    let a = alike-show g v s k h.slot e in
    record {
      bare = lean-bare g v s h;
      slot = k;
      shows = a;
      answers = record {
        offered = offered-same g v s a;
        offer = offer-same g v s a;
        pending = is_pending-same g v s a;
        settled = settled-same g v s a;
        acknowledged = acknowledged-same g v s k h.slot e;
        ack = ack-same g v s k h.slot e;
        stuck = stuck-same g v s a;
        decides = λ m space config caller op. decide-same space config g v s (a.keeps ∙ m) a caller op;
      };
      offers = stands-offered g v s h;
      marks = stands-marked g v s h;
      settles = stands-settled g v s h;
      acknowledges = stands-acknowledged g v s h;
      forgets = stands-forgotten g v s h;
    }

pub returns : goal.returns
returns c = stand
