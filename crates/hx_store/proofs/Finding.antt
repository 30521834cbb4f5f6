-- What a look-up of a key says of its place.
use Rattle.std.proofs.Common.{◌≡◌, ℕ, false, ◌||◌, List, [], ◌∷◌, Option, None, Some, IfNone, IfSome, refl, ap, sym, ◌∙◌, arith, get_or, position, is_some}
use Rattle.std.specs.List.{list_any}
use Rattle.std.specs.Map.{keys_of, lookup}
use Rattle.std.proofs.lemmas.Bool.{cond_both, cond-false, false≢true, false_from_ne_true, or_left, or_right}
use Rattle.std.proofs.lemmas.List.Quantifiers.{position-Some}
use Rattle.std.proofs.lemmas.Option.{same_Some, slice_get-get_or}
use Rattle.hx_types.proofs.Lemmas.{same_text-symm}
use Rattle.hx_types.specs.Words.{same_text, when_some}
use Rattle.hx_model.proofs.Lemmas.{eq_of_same_text}
use Rattle.hx_store.specs.Invariant.{key_in}
use Rattle.hx_store.specs.Slots.{Entry}
use Rattle.hx_store.proofs.Lists.{at-map, at-within, length-of-map}

abbrev first : Entry → List ℕ
first e = e.0

-- the place that is found is of the key
pub place-key : (key : List ℕ) (es : List Entry) (o : Option ℕ) → o ≡ position (same_text key) (keys_of es) → IfSome o (λ p. key_in es p ≡ key)
place-key key es None e = tt
place-key key es (Some p) e =
    let found = position-Some (same_text key) (keys_of es) p [] (sym e) in
    let count = length-of-map first es in
    let within = found.0 in
    let at = at-within es p (omega (arith, count, within)) in
    let read : get_or (keys_of es) p [] ≡ at.0.0 =
    same_Some (get_or (keys_of es) p []) at.0.0 (sym (slice_get-get_or (keys_of es) p [] within)
    ∙ at-map first es p at.0 at.1) in
    ap (λ (q : Option Entry). when_some q [] first) at.1 ∙ sym read ∙ sym (eq_of_same_text key (get_or (keys_of es) p []) found.1)

none-any : (key : List ℕ) (es : List Entry) → is_some (lookup (same_text key) es) ≡ false → list_any (λ (e : Entry). same_text e.0 key) es ≡ false
none-any key [] e = refl
none-any key (x ∷ es) e =
    cond_both (same_text key x.0) (Some x.1) (lookup (same_text key) es)
    (λ (o : Option _). is_some o ≡ false → list_any (λ (e : Entry). same_text e.0 key) (x ∷ es) ≡ false)
    (λ t f. absurd (false≢true (sym f)))
    (λ t f. (λ j. (same_text-symm x.0 key ∙ t) j || none-any key es f j))
    e

-- and where none is found the key has none
pub place-none : (key : List ℕ) (es : List Entry) (o : Option ℕ) → is_some o ≡ is_some (lookup (same_text key) es)
    → IfNone o (list_any (λ (e : Entry). same_text e.0 key) es ≡ false)
place-none key es None e = none-any key es (sym e)
place-none key es (Some p) e = tt

-- nor is it found then
pub none-lookup : (key : List ℕ) (es : List Entry) → list_any (λ (e : Entry). same_text e.0 key) es ≡ false → lookup (same_text key) es ≡ None
none-lookup key [] e = refl
none-lookup key (x ∷ es) e =
    cond-false (same_text key x.0) (Some x.1) (lookup (same_text key) es)
    (same_text-symm key x.0 ∙ false_from_ne_true (same_text x.0 key)
    (λ t. false≢true (sym e ∙ or_left (same_text x.0 key) _ t)))
    ∙ none-lookup key es (false_from_ne_true (list_any (λ (y : Entry). same_text y.0 key) es) (λ t. false≢true (sym e ∙ or_right (same_text x.0 key) _ t)))
