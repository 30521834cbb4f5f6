use Rattle.std.proofs.Common.{ℕ, Bool, false, List, Option, ap, sym, ◌∙◌}
use Rattle.hx_types.specs.Words.{when_some}
use Rattle.hx_store.proofs.SlotAt.{listed-seen}
use Rattle.hx_store.proofs.slots.Slots.is_listed.Goals as goal

pub returns-in-Some : goal.returns-in-Some
returns-in-Some c =
    ap (λ (o : Option (List ℕ × Bool)). when_some o false (λ (k : List ℕ × Bool). k.1)) c.in-Some.ensures.entry
    ∙ sym (listed-seen c.self.invariant c.self.view_is c.args.place)

pub returns-in-None : goal.returns-in-None
returns-in-None c =
    ap (λ (o : Option (List ℕ × Bool)). when_some o false (λ (k : List ℕ × Bool). k.1)) c.in-None.ensures.entry
    ∙ sym (listed-seen c.self.invariant c.self.view_is c.args.place)
