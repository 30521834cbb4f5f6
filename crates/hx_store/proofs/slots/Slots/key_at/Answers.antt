use Rattle.std.proofs.Common.{ℕ, Bool, List, [], Option, ap, sym, ◌∙◌}
use Rattle.hx_types.specs.Words.{when_some}
use Rattle.hx_store.proofs.SlotAt.{key-seen}
use Rattle.hx_store.proofs.slots.Slots.key_at.Goals as goal

pub returns-in-Some : goal.returns-in-Some
returns-in-Some c =
    c.as_str.ensures
    ∙ ap (λ (o : Option (List ℕ × Bool)). when_some o [] (λ (k : List ℕ × Bool). k.0)) c.in-Some.ensures.entry
    ∙ sym (key-seen c.self.invariant c.self.view_is c.args.place)

pub returns-in-None : goal.returns-in-None
returns-in-None c =
    ap (λ (o : Option (List ℕ × Bool)). when_some o [] (λ (k : List ℕ × Bool). k.0)) c.in-None.ensures.entry
    ∙ sym (key-seen c.self.invariant c.self.view_is c.args.place)
