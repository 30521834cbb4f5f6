-- Which regions and objects a search meets, and that an answer of refusal stands in no history, by computing.
use Rattle.std.specs.Prelude.{◌≡◌, ℕ, true, false, List, [], ◌∷◌, filter, map, pos, codes}
use Rattle.hx_model.specs.Types.{Entry, Equal, Get, Range, RegionId, Script, Space, Term}
use Rattle.hx_types.specs.declared.calls.Answer.TheVariants as an_answer
use Rattle.hx_types.specs.declared.values.Value.TheVariants as a_value
use Rattle.hx_model.specs.Histories.{history_of}
use Rattle.hx_model.specs.Matching.{matches}
use Rattle.hx_model.specs.Regions.{meets, regions_of}
use Rattle.std.proofs.Common.{refl}
use Rattle.hx_model.proofs.Examples.{book, books, int_axis, text_a}
use Rattle.hx_model.proofs.SmallSpace.{epoch, red, region}
use Rattle.hx_model.proofs.HandMade.{assigned, began, called, ended, put_color, put_item, the_key}

-- a range has both its ends
abbrev pub between : ℕ → ℕ → List Term
between low high = Range 2 (pos low) (pos high) ∷ []

upper_end : matches (between 1990 2000) text_a (book (codes "b") (pos 2000)) ≡ true
upper_end = refl

lower_end : matches (between 2000 2010) text_a (book (codes "b") (pos 2000)) ≡ true
lower_end = refl

above : matches (between 1990 1999) text_a (book (codes "b") (pos 2000)) ≡ false
above = refl

below : matches (between 2001 2010) text_a (book (codes "b") (pos 2000)) ≡ false
below = refl

-- one subspace of two axes: the year in two parts, slowest, and the genre in three
abbrev pub by_both : Space
by_both = record books { subspaces = (int_axis 2 2 ∷ int_axis 1 3 ∷ []) ∷ [] }

abbrev pub met : List Term → List RegionId
met terms = filter (λ (g : RegionId). meets by_both g terms) (regions_of by_both 1)

-- of regions 2 to 7 the first three are of the lower years
lower_years : met (between 1900 1950) ≡ map region (2 ∷ 3 ∷ 4 ∷ [])
lower_years = refl

upper_years : met (between 2000 2050) ≡ map region (5 ∷ 6 ∷ 7 ∷ [])
upper_years = refl

-- the empty text falls into the second of three parts
a_genre : met (Equal 1 (a_value.Text []) ∷ []) ≡ map region (3 ∷ 6 ∷ [])
a_genre = refl

-- a get that was refused stands in no history
abbrev script : Script
script = called ((put_color red ∷ []) ∷ (Get the_key ∷ []) ∷ [])

abbrev refused_get : List Entry
refused_get = ended 2 1 1 (an_answer.Refused (region 0) (epoch 2)) ∷ began 2 1 ∷ ended 1 1 1 an_answer.Done ∷ assigned 1 1 1 red ∷ began 1 1 ∷ []

no_item : history_of script the_key refused_get ≡ put_item 1 1 1 red ∷ []
no_item = refl
