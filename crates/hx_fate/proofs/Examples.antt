-- The definitions on worked examples; the draws of seed 1234567 are those that are published of SplitMix64.
use Rattle.std.proofs.Common.{◌≡◌, [], ◌∷◌, map, refl}
use Rattle.hx_fate.specs.declared.fates.Choice.TheVariants.{Deliver, Lose, Twice}
use Rattle.hx_fate.specs.declared.fates.Tuning.{Tuning}
use Rattle.hx_fate.specs.States.{never}
use Rattle.hx_fate.specs.Choices.{choice_at, choice_drawn, draw_of}

first_published : draw_of 1234567 0 ≡ 6457827717110365317
first_published = refl

second_published : draw_of 1234567 1 ≡ 3203168211198807973
second_published = refl

fifth_published : draw_of 1234567 4 ≡ 16408922859458223821
fifth_published = refl

abbrev third_and_second : Tuning
third_and_second = record { lose_every = 3; repeat_every = 2 }

-- every third is lost, and of the others every second repeated
by_number : map (choice_at third_and_second) (1 ∷ 2 ∷ 3 ∷ 4 ∷ 5 ∷ 6 ∷ []) ≡ Deliver ∷ Twice ∷ Lose ∷ Twice ∷ Deliver ∷ Lose ∷ []
by_number = refl

-- the seed of driver 1 of seed 7
seed_of_driver : draw_of 7 1 ≡ 309689372594955804
seed_of_driver = refl

-- its first choices: one of three is lost, and of the others one of two repeated
by_draw : map (λ n. choice_drawn third_and_second (draw_of (draw_of 7 1) n)) (0 ∷ 1 ∷ 2 ∷ 3 ∷ 4 ∷ 5 ∷ 6 ∷ 7 ∷ [])
    ≡ Lose ∷ Lose ∷ Deliver ∷ Lose ∷ Deliver ∷ Lose ∷ Lose ∷ Deliver ∷ []
by_draw = refl

-- periods of 0: nothing is lost or repeated, whatever is drawn
by_no_draw : map (choice_drawn never) (0 ∷ 6 ∷ 2 ∷ []) ≡ Deliver ∷ Deliver ∷ Deliver ∷ []
by_no_draw = refl
