-- What atomic operations do to an object, by computing.
use Rattle.std.specs.Prelude.{◌≡◌, ℕ, true, false, List, [], ◌∷◌, ℤ, pos, negsuc, None, Some, codes}
use Rattle.hx_model.specs.Types.{Answer, Atomic, Edit, EditKind, Effect}
use Rattle.hx_types.specs.declared.values.EditKind.TheVariants as an_edit
use Rattle.hx_types.specs.declared.values.Value.TheVariants as a_value
use Rattle.hx_types.specs.declared.calls.Answer.TheVariants as an_answer
use Rattle.hx_types.specs.Effects.{effect_of}
use Rattle.hx_model.proofs.Examples.{book, books, text_a}
use Rattle.std.proofs.Common.{refl}

-- the second attribute, a number
abbrev pub of_year : EditKind → ℤ → Edit
of_year what by = record { what = what; attribute = 2; value = a_value.Int by }

-- the first attribute, a text
abbrev pub of_genre : List ℕ → Edit
of_genre by = record { what = an_edit.Append; attribute = 1; value = a_value.Text by }

abbrev pub done : List ℕ → ℤ → Effect
done genre year = record { object = Some (book genre year); answer = an_answer.Done; changes = true }

abbrev pub stays : List ℕ → ℤ → Answer → Effect
stays genre year answer = record { object = Some (book genre year); answer = answer; changes = false }

abbrev pub greatest : ℤ
greatest = pos 9223372036854775807

abbrev pub least : ℤ
least = negsuc 9223372036854775807

abbrev pub edited_once : List ℕ → ℤ → Edit → Effect
edited_once genre year e = effect_of books (Some (book genre year)) (Atomic text_a (e ∷ []))

absent : effect_of books None (Atomic text_a (of_year an_edit.Add (pos 1) ∷ [])) ≡ record { object = None; answer = an_answer.NotFound; changes = false }
absent = refl

add_one : edited_once (codes "b") (pos 1999) (of_year an_edit.Add (pos 1)) ≡ done (codes "b") (pos 2000)
add_one = refl

add_below_nothing : edited_once (codes "b") (pos 1) (of_year an_edit.Add (negsuc 1)) ≡ done (codes "b") (negsuc 0)
add_below_nothing = refl

-- a sum outside the attribute's range is kept; one that is no number of 64 bits isn't made
add_out_of_range : edited_once (codes "b") (pos 2099) (of_year an_edit.Add (pos 1)) ≡ done (codes "b") (pos 2100)
add_out_of_range = refl

add_to_greatest : edited_once (codes "b") greatest (of_year an_edit.Add (pos 1)) ≡ stays (codes "b") greatest an_answer.Overflow
add_to_greatest = refl

add_to_reach_greatest : edited_once (codes "b") (pos 9223372036854775806) (of_year an_edit.Add (pos 1)) ≡ done (codes "b") greatest
add_to_reach_greatest = refl

add_below_least : edited_once (codes "b") least (of_year an_edit.Add (negsuc 0)) ≡ stays (codes "b") least an_answer.Overflow
add_below_least = refl

-- an addition of nothing is a change
add_nothing : edited_once (codes "b") (pos 1999) (of_year an_edit.Add (pos 0)) ≡ done (codes "b") (pos 1999)
add_nothing = refl

min_lower : edited_once (codes "b") (pos 1999) (of_year an_edit.Min (negsuc 4)) ≡ done (codes "b") (negsuc 4)
min_lower = refl

min_higher : edited_once (codes "b") (pos 1999) (of_year an_edit.Min (pos 2000)) ≡ done (codes "b") (pos 1999)
min_higher = refl

max_higher : edited_once (codes "b") (pos 1999) (of_year an_edit.Max (pos 2000)) ≡ done (codes "b") (pos 2000)
max_higher = refl

max_lower : edited_once (codes "b") (pos 1999) (of_year an_edit.Max (negsuc 4)) ≡ done (codes "b") (pos 1999)
max_lower = refl

append_behind : edited_once (codes "b") (pos 1999) (of_genre (codes "cd")) ≡ done (codes "bcd") (pos 1999)
append_behind = refl

both : effect_of books (Some (book (codes "b") (pos 1999))) (Atomic text_a (of_year an_edit.Add (pos 1) ∷ of_genre (codes "c") ∷ [])) ≡ done (codes "bc") (pos 2000)
both = refl

-- where one edit has no result none is made
all_or_none : effect_of books (Some (book (codes "b") greatest))
    (Atomic text_a (of_genre (codes "c") ∷ of_year an_edit.Add (pos 1) ∷ [])) ≡ stays (codes "b") greatest an_answer.Overflow
all_or_none = refl

-- what isn't of the edit's kind stays
number_to_a_text : edited_once (codes "b") (pos 1999) (record { what = an_edit.Append; attribute = 2; value = a_value.Text (codes "c") }) ≡ done (codes "b") (pos 1999)
number_to_a_text = refl
