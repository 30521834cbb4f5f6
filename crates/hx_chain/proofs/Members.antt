-- The last of a list of members.
use Rattle.std.proofs.Common.{◌≡◌, ◌-◌, List, [], ◌∷◌, length, Option, Some, None, refl, ap, ◌∙◌, sub-one}
use Rattle.std.specs.List.{slice_get}
use Rattle.std.specs.Option.{option_map}
use Rattle.hx_model.specs.Types.{Member, ServerId}
use Rattle.hx_model.specs.Neighbours.{last_member}

last_of : (found : Option ServerId) (m : Member) (rest : List Member)
    → option_map (λ (x : Member). x.server) (slice_get (m ∷ rest) (length rest)) ≡ last_member found (m ∷ rest)
last_of found m [] = refl
last_of found m (n ∷ rest) = last_of (Some m.server) n rest

-- the member at the end is the last
pub last_server : (members : List Member) (m : Member) → Some m ≡ slice_get members (length members - 1) → Some m.server ≡ last_member None members
last_server [] m e = cc
last_server (first ∷ rest) m e =
    ap (option_map (λ (x : Member). x.server)) (e ∙ ap (slice_get (first ∷ rest)) (sub-one (length (first ∷ rest)))) ∙ last_of None first rest
