use Rattle.std.proofs.Common.{Bool, ℕ, List, sym, subst}
use Rattle.hx_law_folds.specs.Folding.{KeysAscend}
use Rattle.hx_store.specs.Stores.{KeepsRoomsBut, has_kept}
use Rattle.hx_store.proofs.Installing.{but-kept, kept-but, keys-kept, made-ascend}
use Rattle.hx_store.proofs.stores.Store.install.Goals as goal

pub put_all-requires-clause-ascend : goal.put_all-requires-clause-ascend
put_all-requires-clause-ascend c =
    subst KeysAscend (sym c.in_ok-slots.ensures.slots) (made-ascend c.args.self.now.keeps_marks c.args.snapshot.now c.requires.ascend)

pub returns-in_err-slots-clause-others : goal.returns-in_err-slots-clause-others
returns-in_err-slots-clause-others c = kept-but (has_kept c.args.snapshot.now) c.args.self.now.rooms c.slots_of.new.self.rooms c.slots_of.ensures.rooms

pub returns-clause-others : goal.returns-clause-others
returns-clause-others c =
    but-kept (has_kept c.args.snapshot.now) c.args.self.now.rooms c.slots_of.new.self.rooms c.put_all.new.self.rooms c.slots_of.ensures.rooms
    (
    subst (λ (free : List ℕ → Bool). KeepsRoomsBut free c.slots_of.new.self.rooms c.put_all.new.self.rooms)
    (keys-kept c.args.self.now.keeps_marks c.args.snapshot.now c.in_ok-slots.slots.items c.in_ok-slots.ensures.slots)
    c.put_all.ensures.others
    )
