-- Which calls stand in the history of their key with the answer with which they ended, told by their places.
use Rattle.std.specs.Prelude.{◌≡◌, ◌↔◌, ℕ, Bool, true, ◌⊎◌, ⊤, List, slice_get, IsTrue, IsSomeAnd, Some}
use Rattle.std.specs.Option.{option_map}
use Rattle.hx_model.specs.Histories.{CallEnd}
use Rattle.hx_report_lines.specs.declared.blocks.Block.{Block}
use Rattle.hx_report_lines.specs.declared.calls.CallLine.{CallLine}
use Rattle.hx_report_lines.specs.declared.histories.HistoryLines.{HistoryLines}
use Rattle.hx_report_lines.specs.declared.histories.ItemLine.{ItemLine}
use Rattle.hx_audit.specs.declared.verdicts.Clause.{Clause}
use Rattle.hx_audit.specs.declared.verdicts.Clause.TheVariants as clauses
use Rattle.hx_audit.specs.Clauses.{is_on}
use Rattle.hx_audit.specs.Told.{answer_told, end_told}
use Rattle.hx_audit.specs.Walking.{HasIn, place_at}

-- the call ended with the answer of the item
abbrev pub EndedAs : CallLine → ItemLine → Type 0
EndedAs l x = option_map (λ (e : CallEnd). e.answer) (end_told l) ≡ Some (answer_told x.word x.object)

-- the call at the place is on the key, and ended with the answer of the item
abbrev pub IsEndedAt : List CallLine → ℕ → List ℕ → ItemLine → Type 0
IsEndedAt calls place key x = IsSomeAnd (slice_get calls place) (λ (l : CallLine). (is_on key l.op ≡ true) × EndedAs l x)

-- the item is of this call, which is on the key and ended with the item's answer
abbrev pub IsItemAt : List CallLine → List ℕ → ℕ → ItemLine → Type 0
IsItemAt calls key place x = (place_at calls x.caller ≡ Some place) × IsEndedAt calls place key x

-- such an item stands in one of the histories
abbrev pub StandsIn : List CallLine → List HistoryLines → ℕ → Type 0
StandsIn calls histories place = HasIn (λ (h : HistoryLines). HasIn (IsItemAt calls h.key place) h.items) histories

-- the places for which P holds are marked too
abbrev pub MarksMore : (ℕ → Bool) → (ℕ → Bool) → (ℕ → Type 0) → Type 0
MarksMore old new P = (place : ℕ) → IsTrue (new place) ↔ (IsTrue (old place) ⊎ P place)

-- the calls that stand in their histories are marked
abbrev pub AreStanding : Block → (ℕ → Bool) → Type 0
AreStanding b marked = (place : ℕ) → IsTrue (marked place) ↔ StandsIn b.calls b.histories place

-- the same where the clause asks for it
abbrev pub AreMarkedFor : Clause → Block → (ℕ → Bool) → Type 0
AreMarkedFor clauses.Missing b marked = AreStanding b marked
AreMarkedFor other b marked = ⊤
