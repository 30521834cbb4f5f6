-- Moves of a slot leave its key and kind; acknowledgements leave what is pending.
use Rattle.std.proofs.Common.{◌≡◌, ℕ, List, [], ◌∷◌, ◌++◌, refl, ap, sym, ◌∙◌}
use Rattle.hx_model.specs.Types.{Kept, RegionId, Update, Version}
use Rattle.hx_law_folds.specs.Folding.{folded}
use Rattle.hx_model.specs.Slots.{Acknowledge, Commit, Forget, Hold, KeyState, Move, Take, moved, moved_all, offered, settled}
use Rattle.hx_model.proofs.Lemmas.{moved_all-++}
use Rattle.hx_store.specs.Stores.{accepted, acknowledging}

pub moved_parts : (m : Move) (s : KeyState) → ((moved m s).base ≡ s.base) × ((moved m s).marks ≡ s.marks)
moved_parts (Take u) s = (refl, refl)
moved_parts (Hold u) s = (refl, refl)
moved_parts (Acknowledge v) s = (refl, refl)
moved_parts (Commit u) s = (refl, refl)
moved_parts Forget s = (refl, refl)

pub moved_all_parts : (ms : List Move) (s : KeyState) → ((moved_all ms s).base ≡ s.base) × ((moved_all ms s).marks ≡ s.marks)
moved_all_parts [] s = (refl, refl)
moved_all_parts (m ∷ ms) s =
    let rest = moved_all_parts ms (moved m s) in
    let first = moved_parts m s in (rest.0 ∙ first.0, rest.1 ∙ first.1)

pub keeps_folded : (moves : RegionId → KeyState → List Move) (g : RegionId) (s : KeyState)
    → ((folded g (moved_all (moves g s) s)).base.key ≡ s.base.key) × ((folded g (moved_all (moves g s) s)).marks ≡ s.marks)
keeps_folded moves g s = let parts = moved_all_parts (moves g s) s in (ap (λ (k : Kept). k.key) parts.0, parts.1)

pub keeps_forgotten : (g : RegionId) (s : KeyState) → ((moved Forget s).base.key ≡ s.base.key) × ((moved Forget s).marks ≡ s.marks)
keeps_forgotten g s = (refl, refl)

pub keeps_marked : (v : ℕ) (g : RegionId) (s : KeyState) → ((moved (Acknowledge v) s).base.key ≡ s.base.key) × ((moved (Acknowledge v) s).marks ≡ s.marks)
keeps_marked v g s = (refl, refl)

-- an offer, acknowledgements and commits one after another
pub accepted_moves : (g h : RegionId) (s : KeyState) (u : Update) (ends : List Version) (a b c : KeyState)
    → a ≡ moved_all (offered g s u) s → b ≡ moved_all (acknowledging ends) a → c ≡ folded h (moved_all (settled b) b)
    → h ≡ g → c ≡ folded g (moved_all (accepted g s u ends) s)
accepted_moves g h s u ends a b c first second third same =
    let moves = offered g s u ++ acknowledging ends in
    let before : b ≡ moved_all moves s = second ∙ ap (moved_all (acknowledging ends)) first ∙ sym (moved_all-++ (offered g s u) (acknowledging ends) s) in
    third ∙ ap (λ (r : RegionId). folded r (moved_all (settled b) b)) same
    ∙ ap (λ (x : KeyState). folded g (moved_all (settled x) x)) before
    ∙ ap (folded g) (sym (moved_all-++ moves (settled (moved_all moves s)) s))
