-- Among writes whose versions don't fall, a version belongs to the place of its rank alone.
use Rattle.std.proofs.Common.{◌≡◌, ◌≢◌, ℕ, zero, suc, ◌+◌, ◌<◌, ◌≤◌, Bool, true, false, ◌&&◌, List, [], ◌∷◌, ◌++◌}
use Rattle.std.proofs.Common.{Option, Some, None, map, length, get_or, set, take, cond, refl, sym, ap, subst, ◌∙◌}
use Rattle.std.proofs.Common.{arith}
use Rattle.std.proofs.lemmas.List.{append-nil}
use Rattle.std.proofs.lemmas.List.Elements.{filter_more}
use Rattle.std.proofs.Math.Logic.{⊎_elim}
use Rattle.std.proofs.lemmas.Bool.{cases_eq, cases_lt, false_from_ne_true, le-leb, lt-leb, lt-ltb, le-ltb}
use Rattle.std.proofs.lemmas.Bool.Decides.{Decides-eqb}
use Rattle.std.proofs.lemmas.Option.{slice_get-get_or, slice_get_past}
use Rattle.std.specs.Borrow.{Bor}
use Rattle.std.specs.List.{AllWithin, filter}
use Rattle.std.specs.Option.{option_map}
use Rattle.std.specs.Prelude.{◌==◌, nat_le, nat_lt, slice_get, unwrap_or}
use Rattle.hx_model.specs.Types.{Update, Value}
use Rattle.hx_model.specs.Histories.{in_place}
use Rattle.hx_types.specs.declared.calls.Answer.TheVariants.{NotFound}
use Rattle.hx_history.specs.declared.events.Read.{Read}
use Rattle.hx_history.specs.Events.{ReadEnd, is_in_place, item_on, low_at, placed, read_view, version_at, version_in}
use Rattle.hx_history.proofs.Lists.{map_filter}
use Rattle.hx_history.proofs.Rows.{slice_get-set_other, slice_get-set_same}

version_in-within : (writes : List (Bor Update)) (p : ℕ) (d : Bor Update) → p < length writes → version_in writes p ≡ Some (version_at (get_or writes p d))
version_in-within writes p d within = ap (option_map version_at) (slice_get-get_or writes p d within)

from_low : (low : ℕ) (high : Option ℕ) (v : ℕ) → low ≤ v → ((h : ℕ) → high ≡ Some h → v < h) → in_place low high v ≡ true
from_low low None v from below = le-leb low v from
from_low low (Some h) v from below = ap (λ b. b && nat_lt v h) (le-leb low v from) ∙ lt-ltb v h (below h refl)

under_low : (low : ℕ) (high : Option ℕ) (v : ℕ) → v < low → in_place low high v ≡ false
under_low low None v under = lt-leb low v under
under_low low (Some h) v under = ap (λ b. b && nat_lt v h) (lt-leb low v under)

over_high : (low h v : ℕ) → h ≤ v → in_place low (Some h) v ≡ false
over_high low h v over = ap (λ b. nat_le low v && b) (le-ltb v h over) ∙ by_test (nat_le low v)
  where
    by_test : (b : Bool) → b && false ≡ false
    by_test true = refl
    by_test false = refl

some_same : {A : Type 0} {x y : A} → Some x ≡ Some y → x ≡ y
some_same same = cc

slice_get-map : {A B : Type 0} (f : A → B) (xs : List A) (i : ℕ) → slice_get (map f xs) i ≡ option_map f (slice_get xs i)
slice_get-map f [] i = refl
slice_get-map f (x ∷ xs) zero = refl
slice_get-map f (x ∷ xs) (suc i) = slice_get-map f xs i

module _ (writes : List (Bor Update)) (d : Bor Update) (v rank : ℕ) (bound : rank ≤ length writes)
    (below : AllWithin (λ (u : Bor Update). version_at u ≤ v) writes 0 rank)
    (above : AllWithin (λ (u : Bor Update). v < version_at u) writes rank (length writes)) where
  low_within : (p : ℕ) → p < length writes → low_at writes (suc p) ≡ version_at (get_or writes p d)
  low_within p within = ap (λ o. unwrap_or o 0) (version_in-within writes p d within)

  low_from : (p : ℕ) → p ≤ rank → low_at writes p ≤ v
  low_from zero at = omega arith
  low_from (suc p) at = let low = low_within p (omega arith) in omega (arith, low, below p d (omega arith) (omega arith))

  high_above : (h : ℕ) → version_in writes rank ≡ Some h → v < h
  high_above h at =
      ⊎_elim
      (
      λ (within : rank < length writes).
      let same : h ≡ version_at (get_or writes rank d) = cc (version_in-within writes rank d within) in
      omega (arith, same, above rank d (omega arith) within)
      )
      (λ (past : length writes ≤ rank). absurd (none (sym (ap (option_map version_at) (slice_get_past writes rank past)) ∙ at)))
      (cases_lt rank (length writes))
    where
      none : None ≡ Some h → ⊥
      none same = cc

  pub place_is : (p : ℕ) → p ≤ length writes → in_place (low_at writes p) (version_in writes p) v ≡ (p == rank)
  place_is p within =
      ⊎_elim (λ (same : p ≡ rank). here same ∙ sym ((Decides-eqb p rank).1 same))
      (
      λ (other : p ≢ rank).
      ⊎_elim (λ (less : p < rank). lower less ∙ sym (apart other)) (λ (more : rank ≤ p). upper p within (omega arith) ∙ sym (apart other)) (cases_lt p rank)
      )
      (cases_eq p rank)
    where
      here : p ≡ rank → in_place (low_at writes p) (version_in writes p) v ≡ true
      here same =
          from_low (low_at writes p) (version_in writes p) v (low_from p (omega arith)) (λ h at. high_above h (ap (version_in writes) (sym same) ∙ at))

      lower : p < rank → in_place (low_at writes p) (version_in writes p) v ≡ false
      lower less =
          ap (λ o. in_place (low_at writes p) o v) (version_in-within writes p d (omega arith))
          ∙ over_high (low_at writes p) (version_at (get_or writes p d)) v (below p d (omega arith) less)

      apart : p ≢ rank → (p == rank) ≡ false
      apart other = false_from_ne_true (p == rank) (λ same. other ((Decides-eqb p rank).0 same))

      upper : (p : ℕ) → p ≤ length writes → rank < p → in_place (low_at writes p) (version_in writes p) v ≡ false
      upper zero within more = absurd (omega arith)
      upper (suc p) within more =
          let low = low_within p (omega arith) in
          under_low (low_at writes (suc p)) (version_in writes (suc p)) v (omega (arith, low, above p d (omega arith) (omega arith)))

-- a stand-in past the end of a list
no_update : Bor Update
no_update =
    record {
      ref_ptr = (0, 0);
      now = record {
        key = [];
        version = record { 0 = 0 };
        caller = record { session = record { 0 = 0 }; number = 0 };
        answer = NotFound;
        changes = false;
        object = None;
        places = [];
      };
    }

filter_one_more : (p : Read → Bool) (reads : List Read) (i : ℕ) (r : Read) → i < length reads → r ≡ get_or reads i r → (b : Bool) → p r ≡ b
    → filter p (take (i + 1) reads) ≡ filter p (take i reads) ++ cond b (r ∷ []) []
filter_one_more p reads i r within read b same =
    filter_more p reads i r within ∙ ap (λ (x : Read). filter p (take i reads) ++ cond (p x) (x ∷ []) []) (sym read)
    ∙ ap (λ t. filter p (take i reads) ++ cond t (r ∷ []) []) same

-- one more get goes to the place of its rank, and the other places stay
module _ {V : Type 0} (gets : V → List Read) (places : List V) (writes : List (Bor Update)) (reads : List Read) (i rank : ℕ) (r : Read) (old new : V)
    (len : length places ≡ length writes + 1) (within : i < length reads) (read : r ≡ get_or reads i r) (bound : rank ≤ length writes)
    (below : AllWithin (λ (u : Bor Update). version_at u ≤ r.version.0) writes 0 rank)
    (above : AllWithin (λ (u : Bor Update). r.version.0 < version_at u) writes rank (length writes))
    (was : old ≡ get_or places rank old) (is : gets new ≡ gets old ++ r ∷ [])
    (each : (p : ℕ) → p ≤ length writes → slice_get (map gets places) p ≡ Some (filter (is_in_place writes p) (take i reads))) where
  filed_here : rank ≤ length writes → slice_get (map gets (set places rank new)) rank ≡ Some (filter (is_in_place writes rank) (take (i + 1) reads))
  filed_here at =
      let inside : rank < length places = omega (arith, len) in
      let here : is_in_place writes rank r ≡ true =
      place_is writes no_update r.version.0 rank bound below above rank bound ∙ (Decides-eqb rank rank).1 refl in
      let before : gets old ≡ filter (is_in_place writes rank) (take i reads) =
      some_same (sym (slice_get-map gets places rank
      ∙ ap (option_map gets) (slice_get-get_or places rank old inside ∙ ap (λ v. Some v) (sym was))) ∙ each rank at) in
      slice_get-map gets (set places rank new) rank ∙ ap (option_map gets) (slice_get-set_same places rank new inside)
      ∙ ap (λ xs. Some xs) (is ∙ ap (λ xs. xs ++ r ∷ []) before ∙ sym (filter_one_more (is_in_place writes rank) reads i r within read true here))

  filed_other : (p : ℕ) → p ≤ length writes → p ≢ rank
      → slice_get (map gets (set places rank new)) p ≡ Some (filter (is_in_place writes p) (take (i + 1) reads))
  filed_other p at other =
      let there : is_in_place writes p r ≡ false =
      place_is writes no_update r.version.0 rank bound below above p at ∙ false_from_ne_true (p == rank) (λ same. other ((Decides-eqb p rank).0 same)) in
      slice_get-map gets (set places rank new) p ∙ ap (option_map gets) (slice_get-set_other places rank p new other) ∙ sym (slice_get-map gets places p)
      ∙ each p at ∙ ap (λ xs. Some xs) (sym (append-nil (filter (is_in_place writes p) (take i reads)))
      ∙ sym (filter_one_more (is_in_place writes p) reads i r within read false there))

  pub filed : (p : ℕ) → p ≤ length writes → slice_get (map gets (set places rank new)) p ≡ Some (filter (is_in_place writes p) (take (i + 1) reads))
  filed p at =
      ⊎_elim
      (
      λ (same : p ≡ rank).
      let P : ℕ → Type 0 = λ q. slice_get (map gets (set places rank new)) q ≡ Some (filter (is_in_place writes q) (take (i + 1) reads)) in
      subst P (sym same) (filed_here bound)
      )
      (λ (other : p ≢ rank). filed_other p at other) (cases_eq p rank)

-- the items of the gets of a place
pub placed_from : {V : Type 0} (gets : V → List Read) (places : List V) (writes : List (Bor Update))
    (reads : List Read) (p : ℕ) (v : V) (object : Option (List Value))
    → v ≡ get_or places p v → p < length places → slice_get (map gets places) p ≡ Some (filter (is_in_place writes p) reads)
    → map (item_on object) (map read_view (gets v)) ≡ placed (low_at writes p) (version_in writes p) object (map read_view reads)
placed_from gets places writes reads p v object read within each =
    let here : gets v ≡ filter (is_in_place writes p) reads =
    some_same (sym (slice_get-map gets places p ∙ ap (option_map gets) (slice_get-get_or places p v within ∙ ap (λ w. Some w) (sym read))) ∙ each) in
    ap (λ rs. map (item_on object) (map read_view rs)) here
    ∙ ap (map (item_on object)) (map_filter read_view (λ (r : ReadEnd). in_place (low_at writes p) (version_in writes p) r.version.0) reads)

-- the same of the place after a write
pub placed_after : {V : Type 0} (gets : V → List Read) (places : List V) (writes : List (Bor Update)) (reads : List Read) (i : ℕ) (v : V) (x : Bor Update)
    → v ≡ get_or places (i + 1) v → length places ≡ length writes + 1 → i < length writes → x ≡ get_or writes i x
    → ((p : ℕ) → p ≤ length writes → slice_get (map gets places) p ≡ Some (filter (is_in_place writes p) reads))
    → map (item_on x.now.object) (map read_view (gets v)) ≡ placed x.now.version.0 (version_in writes (i + 1)) x.now.object (map read_view reads)
placed_after gets places writes reads i v x read len within is each =
    let next : i + 1 ≡ suc i = omega arith in
    let low : low_at writes (suc i) ≡ version_at x =
    ap (λ o. unwrap_or o 0) (version_in-within writes i x within) ∙ ap version_at (sym is) in
    placed_from gets places writes reads (i + 1) v x.now.object read (omega (arith, len)) (each (i + 1) (omega arith))
    ∙ ap (λ (n : ℕ). placed n (version_in writes (i + 1)) x.now.object (map read_view reads)) (ap (low_at writes) next ∙ low)
