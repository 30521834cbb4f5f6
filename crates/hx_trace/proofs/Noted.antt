-- What a walk over the entries with notes meets: for crates that read traces.
use Rattle.std.proofs.Common.{◌≡◌, ℕ, zero, suc, ◌<◌, List, [], ◌∷◌, Option, None, Some, length, get_or, refl, sym, arith}
use Rattle.std.proofs.lemmas.Option.{get_or_from_slice_get}
use Rattle.std.specs.Prelude.{slice_get}
use Rattle.hx_model.specs.Types.{Entry, Note}
use Rattle.hx_trace.specs.Entries.{if_noted, with_notes}

some_notes : (ns : List Note) (e x : Entry) → Some x ≡ with_notes ns e → Some x ≡ Some e
some_notes [] e x h = absurd (cc)
some_notes (n ∷ ns) e x h = h

no_notes : (ns : List Note) (e : Entry) → None ≡ with_notes ns e → ns ≡ []
no_notes [] e h = refl
no_notes (n ∷ ns) e h = absurd (cc)

noted_here : (o : Option Entry) (x : Entry) → Some x ≡ if_noted o → Some x ≡ o
noted_here None x h = h
noted_here (Some e) x h = some_notes e.notes e x h

-- an entry with notes is the one at its place
pub noted_at : (xs : List Entry) (i : ℕ) (x : Entry) → Some x ≡ if_noted (slice_get xs i) → x ≡ get_or xs i x
noted_at xs i x h = sym (get_or_from_slice_get xs i x x (sym (noted_here (slice_get xs i) x h)))

unnoted : (xs : List Entry) (i : ℕ) → i < length xs → None ≡ if_noted (slice_get xs i) → (x : Entry) × (slice_get xs i ≡ Some x) × (x.notes ≡ [])
unnoted [] i within h = absurd (omega (arith, within))
unnoted (x ∷ xs) zero within h = (x, refl, no_notes x.notes x h)
unnoted (x ∷ xs) (suc i) within h = unnoted xs i (omega (arith, within)) h

-- where there is no entry with notes, the one at the place has none
pub unnoted_at : (xs : List Entry) (i : ℕ) → i < length xs → None ≡ if_noted (slice_get xs i) → (x : Entry) × (x ≡ get_or xs i x) × (x.notes ≡ [])
unnoted_at xs i within h = let u = unnoted xs i within h in (u.0, sym (get_or_from_slice_get xs i u.0 u.0 u.1), u.2)
