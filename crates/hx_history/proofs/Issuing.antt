-- The configurations that a trace says were issued, one entry further.
use Rattle.std.proofs.Common.{◌≡◌, ◌↔◌, ℕ, ◌+◌, ◌<◌, Bool, true, false, ◌||◌, List, [], ◌∷◌, ◌++◌, get_or, length}
use Rattle.std.proofs.Common.{take, refl, ap, sym, subst, ◌∙◌, append-nil, arith}
use Rattle.std.proofs.lemmas.List.{flat_map_more, take_more}
use Rattle.std.proofs.lemmas.List.Folds.{length-flat_map-take}
use Rattle.std.specs.List.{flat_map}
use Rattle.hx_model.specs.Types.{Config, Entry, Note}
use Rattle.hx_types.specs.declared.traces.Note.TheVariants as a_note
use Rattle.hx_history.specs.Issued.{issued_by, issued_in}

-- the next entry's configurations come behind those of the entries before
issued_next : (trace : List Entry) (i : ℕ) (x : Entry) → i < length trace → x ≡ get_or trace i x
    → issued_in (take (i + 1) trace) ≡ issued_in (take i trace) ++ flat_map issued_by x.notes
issued_next trace i x within read =
    let more : take (i + 1) trace ≡ take i trace ++ x ∷ [] = take_more trace i x within ∙ ap (λ (y : Entry). take i trace ++ y ∷ []) (sym read) in
    ap issued_in more ∙ sym (flat_map_more (λ (y : Entry). flat_map issued_by y.notes) [] (take i trace) x)

-- two lists have nothing together only where neither has
both_empty : (xs ys : List Config) → xs ++ ys ≡ [] → (xs ≡ []) × (ys ≡ [])
both_empty [] ys e = (refl, e)
both_empty (x ∷ xs) ys e = absurd (cc)

-- both are false where one or the other is
neither : (a b : Bool) → (a || b) ≡ false → (a ≡ false) × (b ≡ false)
neither true b e = absurd (cc)
neither false b e = (refl, e)

-- none was issued with the next entry exactly where none was before, and it says of none
pub issued_more : (trace : List Entry) (i : ℕ) (x : Entry) → i < length trace → x ≡ get_or trace i x
    → (a b : Bool) → (a ≡ false) ↔ (issued_in (take i trace) ≡ []) → (b ≡ false) ↔ (flat_map issued_by x.notes ≡ [])
    → ((a || b) ≡ false) ↔ (issued_in (take (i + 1) trace) ≡ [])
issued_more trace i x within read a b before here =
    let next = issued_next trace i x within read in (
      λ none. let both = neither a b none in
          next ∙ ap (λ (cs : List Config). cs ++ flat_map issued_by x.notes) (before.0 both.0) ∙ here.0 both.1,
      λ none. let both = both_empty _ _ (sym next ∙ none) in
          ap (λ c. c || b) (before.1 both.0) ∙ here.1 both.1,
    )

-- and where the next entry has no notes exactly where none was before
pub issued_as_before : (trace : List Entry) (i : ℕ) (x : Entry) → i < length trace → x ≡ get_or trace i x → x.notes ≡ []
    → (a : Bool) → (a ≡ false) ↔ (issued_in (take i trace) ≡ []) → (a ≡ false) ↔ (issued_in (take (i + 1) trace) ≡ [])
issued_as_before trace i x within read silent a before =
    let same : issued_in (take (i + 1) trace) ≡ issued_in (take i trace) =
    issued_next trace i x within read ∙ ap (λ (ns : List Note). issued_in (take i trace) ++ flat_map issued_by ns)
    silent ∙ append-nil (issued_in (take i trace)) in
    subst (λ (cs : List Config). (a ≡ false) ↔ (cs ≡ [])) (sym same) before

-- where a note says that one was issued, not none was
pub issued_here : (notes : List Note) (i : ℕ) (note : Note) (config : Config) → i < length notes → note ≡ get_or notes i note → note ≡ a_note.Issued config
    → (true ≡ false) ↔ (flat_map issued_by notes ≡ [])
issued_here notes i note config within read is =
    let one : length (issued_by (get_or notes i note)) ≡ 1 = ap (λ (n : Note). length (issued_by n)) (sym read ∙ is) in
    let some : flat_map issued_by notes ≡ [] → true ≡ false = λ none.
    let all : length (flat_map issued_by notes) ≡ 0 = ap length none in
    absurd (omega (arith, one, all, length-flat_map-take issued_by notes i note within)) in
    (λ e. absurd (cc), some)
