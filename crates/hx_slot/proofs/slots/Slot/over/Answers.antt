use Rattle.std.proofs.Common.{[], ◌∙◌}
use Rattle.hx_law_folds.proofs.Lemmas.{bare-folded}
use Rattle.hx_law_folds.specs.Folding.{folded}
use Rattle.hx_slot.specs.Updates.{newest_first}
use Rattle.hx_slot.specs.Invariant.{updates_of}
use Rattle.hx_slot.proofs.slots.Slot.over.Goals as goal

pub returns-clause-state : goal.returns-clause-state
returns-clause-state c =
    (λ j. folded c.args.region (record {
      marks = c.args.keeps_marks;
      base = record {
        key = c.args.base.key;
        floor = c.args.base.floor;
        object = c.args.base.object;
        marks = c.into_vec.ensures j;
        touches = c.into_vec-2.ensures j;
      };
      accepted = newest_first [] (c.new.ensures.items j);
      floor = c.args.base.floor.0;
      acked = c.new-2.ensures j;
      early = updates_of (c.new-3.ensures.items j);
    }))
    ∙ bare-folded c.args.region _ c.requires.bare
