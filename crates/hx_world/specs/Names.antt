-- The names of posts in ascending order, and whose receivers haven't halted.
use Rattle.std.specs.Prelude.{◌≡◌, Bool, true, false, not, ◌&&◌, ◌||◌, List, [], ◌∷◌, nat_lt, ◌==◌, ⊤}
use Rattle.std.specs.List.{filter}
use Rattle.hx_model.specs.Types.{Entry, Post, PostId, Script}
use Rattle.hx_types.specs.Words.{IsIn, when_some}
use Rattle.hx_model.specs.Runs.{has_halted, post_named}
use Rattle.hx_model.specs.Schedule.{same_name}

-- a name is lower: of an earlier entry, or at an earlier place of the same
abbrev pub is_before : PostId → PostId → Bool
is_before a b = nat_lt a.entry b.entry || ((a.entry == b.entry) && nat_lt a.place b.place)

-- each name is lower than those after it
abbrev pub AreAscending : List PostId → Type 0
AreAscending [] = ⊤
AreAscending (x ∷ rest) = ((y : PostId) → IsIn y rest → is_before x y ≡ true) × AreAscending rest

-- the names but this one
abbrev pub names_but : PostId → List PostId → List PostId
names_but id names = filter (λ (x : PostId). not (same_name x id)) names

-- the post of the name was sent to an actor that hasn't halted
abbrev pub can_receive : Script → List Entry → PostId → Bool
can_receive script trace id = when_some (post_named id trace) false (λ (p : Post). not (has_halted script trace p.to))
