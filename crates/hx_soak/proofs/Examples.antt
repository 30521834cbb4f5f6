-- The definitions on worked examples; the draws of seed 1234567 are those that are published of SplitMix64.
use Rattle.std.proofs.Common.{◌≡◌, [], ◌∷◌, refl}
use Rattle.std.specs.Prelude.{codes, pos}
use Rattle.std.specs.Fmt.{digits}
use Rattle.hx_model.specs.Types.{Cput, Del, Put, Range, Search}
use Rattle.hx_types.specs.declared.values.Value.TheVariants as a_value
use Rattle.hx_soak.specs.Drawing.{draw_of}
use Rattle.hx_soak.specs.Soaking.{calls_drawn, script_drawn, soak}

first_of_0 : draw_of 0 0 ≡ 0xe220a8397b1dcdaf
first_of_0 = refl

first_published : draw_of 1234567 0 ≡ 6457827717110365317
first_published = refl

second_published : draw_of 1234567 1 ≡ 3203168211198807973
second_published = refl

third_published : draw_of 1234567 2 ≡ 9817491932198370423
third_published = refl

fifth_published : draw_of 1234567 4 ≡ 16408922859458223821
fifth_published = refl

-- the script of seed 0 with one call
one_call : script_drawn 0 1 ≡ record { space = soak; sessions = (Del (codes "s1k47") ∷ []) ∷ [] ∷ [] ∷ [] ∷ []; steps = [] }
unfolding digits
one_call = refl

-- session 2 of seed 7: its turns of 9 are 1 and 5
two_of_seven : calls_drawn 7 9 2 ≡
    Cput (codes "s2k28") (record { attribute = 1; value = a_value.Text (codes "c0") } ∷ []) (record { attribute = 2; value = a_value.Int (pos 44) } ∷ [])
    ∷ Put (codes "s2k17") (record { attribute = 1; value = a_value.Text (codes "c2") } ∷ record { attribute = 2; value = a_value.Int (pos 83) } ∷ [])
    ∷ []
unfolding digits
two_of_seven = refl

-- session 1 of seed 7: its turns are 0, 4 and 8
one_of_seven : calls_drawn 7 9 1 ≡
    Del (codes "s1k23")
    ∷ Put (codes "s1k26") (record { attribute = 1; value = a_value.Text (codes "c2") } ∷ record { attribute = 2; value = a_value.Int (pos 458) } ∷ [])
    ∷ Search (Range 2 (pos 865) (pos 964) ∷ [])
    ∷ []
unfolding digits
one_of_seven = refl
