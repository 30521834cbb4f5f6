-- An index that is up to date is that of the slots that contracts see: `view` is what they see.
use Rattle.std.proofs.Common.{◌≡◌, ℕ, List, Option, ap, ◌∙◌, subst}
use Rattle.hx_model.specs.Types.{Row, Term}
use Rattle.hx_index.specs.Orders.{IndexState, IsIndexOf, count_of, rows_at}
use Rattle.hx_index.specs.Searches.{least_run, most_looks}
use Rattle.hx_store.specs.Slots.{IsFresh, SlotsState, rows_in}

module _ {old now : SlotsState} (view : old ≡ now) (fresh : IsFresh now) where
  pub rows-seen : rows_at old.rows ≡ rows_in now.entries
  rows-seen = ap (λ (s : SlotsState). rows_at s.rows) view ∙ fresh

  same : old.index ≡ now.index
  same = ap (λ (s : SlotsState). s.index) view

  pub index-seen : IsIndexOf (rows_at old.rows) old.index → IsIndexOf (rows_in now.entries) now.index
  index-seen h =
      subst (λ (rows : ℕ → Option Row). IsIndexOf rows now.index) rows-seen
      (subst (λ (x : IndexState). IsIndexOf (rows_at old.rows) x) same h)

  pub most-seen : (terms : List Term) → most_looks old.index (rows_at old.rows) terms ≡ most_looks now.index (rows_in now.entries) terms
  most-seen terms = λ k. most_looks (same k) (rows-seen k) terms

  pub least-seen : (terms : List Term)
      → least_run old.index (rows_at old.rows) (count_of old.index) terms ≡ least_run now.index (rows_in now.entries) (count_of now.index) terms
  least-seen terms = λ k. least_run (same k) (rows-seen k) (count_of (same k)) terms
