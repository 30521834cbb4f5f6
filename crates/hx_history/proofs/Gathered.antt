-- The records of a table's spans are those of the begun calls.
use Rattle.std.proofs.Common.{◌≡◌, ℕ, zero, suc, ◌+◌, ◌<◌, List, [], ◌∷◌, ◌++◌, Option, Some, None, map, length, take, refl, sym, ap, ◌∙◌, arith}
use Rattle.std.proofs.Math.Logic.{⊎_elim}
use Rattle.std.proofs.lemmas.List.{append-nil, length-map, take_all}
use Rattle.std.proofs.lemmas.List.Concat.{flat_map-append}
use Rattle.std.proofs.lemmas.List.Folds.{flat_map-map}
use Rattle.std.proofs.lemmas.Option.{slice_get_cases}
use Rattle.std.specs.List.{flat_map}
use Rattle.std.specs.Option.{option_map}
use Rattle.std.specs.Prelude.{slice_get}
use Rattle.hx_model.specs.Types.{Caller, Entry, Op, Script}
use Rattle.hx_types.specs.Words.{below, list_of, when_some}
use Rattle.hx_types.specs.Fitting.{call_of, calls_of, numbered}
use Rattle.hx_model.specs.Histories.{callers_of}
use Rattle.hx_history.specs.declared.call_notes.CallNotes.{CallNotes}
use Rattle.hx_history.specs.Calls.{CallSpan, notes_of, shape, span_in, span_of}

take_slice : {A : Type 0} (xs : List A) (n : ℕ) → take (suc n) xs ≡ take n xs ++ list_of (slice_get xs n)
take_slice [] zero = refl
take_slice [] (suc n) = refl
take_slice (x ∷ xs) zero = refl
take_slice (x ∷ xs) (suc n) = ap (λ ys. x ∷ ys) (take_slice xs n)

flat_map_of_one : {A B : Type 0} (f : A → List B) (o : Option A) → flat_map f (list_of o) ≡ when_some o [] f
flat_map_of_one f None = refl
flat_map_of_one f (Some x) = append-nil (f x)

-- pieces of a list by places
by_places : {A B : Type 0} (f : A → List B) (xs : List A) (n : ℕ) → flat_map f (take n xs) ≡ flat_map (λ i. when_some (slice_get xs i) [] f) (below n)
by_places f xs zero = refl
by_places f xs (suc n) =
    let piece : ℕ → List _ = λ i. when_some (slice_get xs i) [] f in
    ap (flat_map f) (take_slice xs n) ∙ flat_map-append f (take n xs) (list_of (slice_get xs n))
    ∙ ap (λ ys. ys ++ flat_map f (list_of (slice_get xs n))) (by_places f xs n)
    ∙ ap (λ ys. flat_map piece (below n) ++ ys) (flat_map_of_one f (slice_get xs n) ∙ sym (append-nil (piece n)))
    ∙ sym (flat_map-append piece (below n) (n ∷ []))

by_all_places : {A B : Type 0} (f : A → List B) (xs : List A) → flat_map f xs ≡ flat_map (λ i. when_some (slice_get xs i) [] f) (below (length xs))
by_all_places f xs = ap (flat_map f) (sym (take_all (length xs) xs (omega arith))) ∙ by_places f xs (length xs)

same_pieces : {B : Type 0} (f g : ℕ → List B) (n : ℕ) → ((i : ℕ) → i < n → f i ≡ g i) → flat_map f (below n) ≡ flat_map g (below n)
same_pieces f g zero same = refl
same_pieces f g (suc n) same =
    flat_map-append f (below n) (n ∷ []) ∙ ap (λ ys. ys ++ (f n ++ [])) (same_pieces f g n (λ i within. same i (omega arith)))
    ∙ ap (λ ys. flat_map g (below n) ++ (ys ++ [])) (same n (omega arith)) ∙ sym (flat_map-append g (below n) (n ∷ []))

flat_map-flat_map : {A B C : Type 0} (f : B → List C) (g : A → List B) (xs : List A) → flat_map f (flat_map g xs) ≡ flat_map (λ x. flat_map f (g x)) xs
flat_map-flat_map f g [] = refl
flat_map-flat_map f g (x ∷ xs) = flat_map-append f (g x) (flat_map g xs) ∙ ap (λ ys. flat_map f (g x) ++ ys) (flat_map-flat_map f g xs)

numbered_next : {A : Type 0} (xs : List A) (n : ℕ) → numbered xs (n + 1) ≡ slice_get xs n
numbered_next xs n = let e : n + 1 ≡ suc n = omega arith in ap (numbered xs) e

same_notes : (span : CallSpan) (notes : CallSpan) (call : Option Op) → Some span ≡ option_map (λ (op : Op). notes) call → span ≡ notes
same_notes span notes None same = cc
same_notes span notes (Some op) same = cc

lengths : {A : Type 0} (xss : List (List A)) (u : ℕ) → slice_get (shape xss) u ≡ option_map (λ (r : List A). length r) (slice_get xss u)
lengths [] u = refl
lengths (xs ∷ xss) zero = refl
lengths (xs ∷ xss) (suc u) = lengths xss u

apart : {A : Type 0} (x : A) → Some x ≡ None → ⊥
apart x same = cc

module _ {B : Type 0} (by : CallSpan → List B) (wanted : Caller → List B) (script : Script) (trace : List Entry) (table : List (List CallNotes))
    (same_of : (c : Caller) → by (notes_of c trace) ≡ wanted c)
    (spans : (c : Caller) → span_in table c ≡ option_map (λ (op : Op). notes_of c trace) (call_of script c))
    (as_script : shape table ≡ shape script.sessions) where
  abbrev gathered : CallNotes → List B
  gathered s = by (span_of s)

  abbrev caller : ℕ → ℕ → Caller
  caller u n = record { session = record { 0 = u + 1 }; number = n + 1 }

  -- what is gathered at a place of a row
  notes_are : (u n : ℕ) (row : List CallNotes) → slice_get table u ≡ Some row → n < length row
      → when_some (slice_get row n) [] gathered ≡ wanted (caller u n)
  notes_are u n row at within = by_notes (slice_get row n) refl
    where
      found : option_map span_of (slice_get row n) ≡ option_map (λ (op : Op). notes_of (caller u n) trace) (call_of script (caller u n))
      found =
          ap (option_map span_of) (sym (numbered_next row n))
          ∙ ap (λ o. when_some o None (λ (r : List CallNotes). option_map span_of (numbered r (n + 1)))) (sym (numbered_next table u ∙ at))
          ∙ spans (caller u n)

      by_notes : (o : Option CallNotes) → slice_get row n ≡ o → when_some o [] gathered ≡ wanted (caller u n)
      by_notes None none =
          ⊎_elim (λ some. absurd (apart some.0 (sym some.2 ∙ none))) (λ past. absurd (omega (arith, past.0))) (slice_get_cases row n).1
      by_notes (Some s) some =
          ap by
          (same_notes (span_of s) (notes_of (caller u n) trace) (call_of script (caller u n)) (ap (option_map span_of) (sym some) ∙ found))
          ∙ same_of (caller u n)

  -- the rows that the sessions and the table have at a place
  row_is : (u : ℕ) → when_some (slice_get table u) [] (flat_map gathered)
      ≡ flat_map wanted (map (λ (n : ℕ). caller u n) (below (length (calls_of script (record { 0 = u + 1 })))))
  row_is u =
      by_row (slice_get table u) (slice_get script.sessions u) refl (sym (lengths table u) ∙ ap (λ ns. slice_get ns u) as_script ∙ lengths script.sessions u)
      ∙ ap (λ o. flat_map wanted (map (λ (n : ℕ). caller u n)
      (below (length (when_some o [] (λ (calls : List Op). calls)))))) (sym (numbered_next script.sessions u))
    where
      by_row : (row : Option (List CallNotes)) (calls : Option (List Op)) → slice_get table u ≡ row
          → option_map (λ (r : List CallNotes). length r) row ≡ option_map (λ (r : List Op). length r) calls
          → when_some row [] (flat_map gathered)
          ≡ flat_map wanted (map (λ (n : ℕ). caller u n) (below (length (when_some calls [] (λ (calls : List Op). calls)))))
      by_row None None at same = refl
      by_row None (Some calls) at same = cc
      by_row (Some row) None at same = cc
      by_row (Some row) (Some calls) at same =
          let long : length row ≡ length calls = cc in
          by_all_places gathered row
          ∙ same_pieces (λ n. when_some (slice_get row n) [] gathered) (λ n. wanted (caller u n)) (length row) (λ n within. notes_are u n row at within)
          ∙ ap (λ (k : ℕ). flat_map (λ n. wanted (caller u n)) (below k)) long
          ∙ sym (flat_map-map wanted (λ (n : ℕ). caller u n) (below (length calls)))

  pub gathered_are : flat_map (flat_map gathered) table ≡ flat_map wanted (callers_of script)
  gathered_are =
      let count : length table ≡ length script.sessions =
      sym (length-map table (λ (r : List CallNotes). length r)) ∙ ap length as_script ∙ length-map script.sessions (λ (r : List Op). length r) in
      by_all_places (flat_map gathered) table
      ∙ same_pieces (λ u. when_some (slice_get table u) [] (flat_map gathered))
      (λ u. flat_map wanted (map (λ (n : ℕ). caller u n) (below (length (calls_of script (record { 0 = u + 1 })))))) (length table) (λ u within. row_is u)
      ∙ ap (λ (k : ℕ). flat_map (λ u. flat_map wanted (map (λ (n : ℕ). caller u n) (below (length (calls_of script (record { 0 = u + 1 })))))) (below k)) count
      ∙ sym (flat_map-flat_map wanted (λ u. map (λ (n : ℕ). caller u n)
      (below (length (calls_of script (record { 0 = u + 1 }))))) (below (length script.sessions)))
