use Rattle.std.proofs.Common.{◌∙◌}
use Rattle.std.specs.List.{flat_map}
use Rattle.hx_types.specs.Words.{list_of}
use Rattle.hx_index.proofs.Lemmas.{if-ok}
use Rattle.hx_store.proofs.Fresh.{rows-seen}
use Rattle.hx_store.proofs.slots.Slots.rows.Goals as goal

pub returns : goal.returns
returns c =
    let seen = rows-seen c.self.view_is c.requires in
    if-ok c.rows.result (λ rows h. h ∙ (λ k. flat_map (λ i. list_of (seen k i)) c.args.places.now)) c.rows.ensures
