-- The neighbours of a server are members of its configuration: where these are known, so are those.
use Rattle.std.proofs.Common.{ℕ, ◌+◌, ◌-◌, inl, inr, List, [], ◌∷◌, Option, Some, None, refl}
use Rattle.std.specs.Prelude.{⊤}
use Rattle.std.specs.List.{slice_get}
use Rattle.std.specs.Option.{option_map}
use Rattle.std.proofs.lemmas.Bool.{cond_both}
use Rattle.hx_model.specs.Types.{Actor, At, Blocked, Config, End, Hop, Member, Place, RegionId, Server, ServerId}
use Rattle.hx_types.specs.Configs.{any_ready, head_of, is_lost, joiner_for, joiner_in, members_of}
use Rattle.hx_types.specs.Words.{IsIn, first_of_list, same_server, when_some}
use Rattle.hx_model.specs.Neighbours.{enters, enters_last, hop_at, last_member, member_after, member_before, members_at, next_of, preceding_place, prev_of}
use Rattle.hx_law_lemmas.proofs.Lemmas.{when_some_both}

module _ (Known : Actor → Type 0) where
  abbrev AreKnown : List Member → Type 0
  AreKnown members = (m : Member) → IsIn m members → Known (Server m.server)

  -- each member of each region is known
  abbrev pub KnowsMembers : Config → Type 0
  KnowsMembers config = (g : RegionId) → AreKnown (members_of config g)

  -- the server is known, if there is one
  abbrev pub IsMaybeKnown : Option ServerId → Type 0
  IsMaybeKnown None = ⊤
  IsMaybeKnown (Some s) = Known (Server s)

  -- the server to which the hop goes is known, if there is one
  abbrev pub GoesToKnown : Hop → Type 0
  GoesToKnown (At s place) = Known (Server s)
  GoesToKnown End = ⊤
  GoesToKnown (Blocked g) = ⊤

  rest-known : (m : Member) (rest : List Member) → AreKnown (m ∷ rest) → AreKnown rest
  rest-known m rest h x i = h x (inr i)

  first-known : (members : List Member) → AreKnown members → IsMaybeKnown (option_map (λ (m : Member). m.server) (first_of_list members))
  first-known [] h = tt
  first-known (m ∷ rest) h = h m (inl refl)

  after-known : (s : ServerId) (members : List Member) → AreKnown members → IsMaybeKnown (member_after s members)
  after-known s [] h = tt
  after-known s (m ∷ rest) h =
      cond_both (same_server m.server s) (option_map (λ (x : Member). x.server) (first_of_list rest)) (member_after s rest) IsMaybeKnown
      (λ t. first-known rest (rest-known m rest h))
      (λ t. after-known s rest (rest-known m rest h))

  before-known : (found : Option ServerId) (s : ServerId) (members : List Member) → IsMaybeKnown found
      → AreKnown members → IsMaybeKnown (member_before found s members)
  before-known found s [] f h = tt
  before-known found s (m ∷ rest) f h =
      cond_both (same_server m.server s) found (member_before (Some m.server) s rest) IsMaybeKnown
      (λ t. f)
      (λ t. before-known (Some m.server) s rest (h m (inl refl)) (rest-known m rest h))

  last-known : (found : Option ServerId) (members : List Member) → IsMaybeKnown found → AreKnown members → IsMaybeKnown (last_member found members)
  last-known found [] f h = f
  last-known found (m ∷ rest) f h = last-known (Some m.server) rest (h m (inl refl)) (rest-known m rest h)

  joiner-in : (s : ServerId) (members : List Member) → AreKnown members → IsMaybeKnown (joiner_in s members)
  joiner-in s [] h = tt
  joiner-in s (m ∷ rest) h =
      cond_both (any_ready rest) (joiner_in s rest) _ IsMaybeKnown
      (λ t. joiner-in s rest (rest-known m rest h))
      (λ t. cond_both _ (option_map (λ (x : Member). x.server) (first_of_list rest)) None IsMaybeKnown (λ q. first-known rest (rest-known m rest h)) (λ q. tt))

  module _ (config : Config) (knows : KnowsMembers config) where
    pub joiner-known : (g : RegionId) (s : ServerId) → IsMaybeKnown (joiner_for config g s)
    joiner-known g s = joiner-in s (members_of config g) (knows g)

    head-known : (g : RegionId) → IsMaybeKnown (head_of config g)
    head-known g = by (members_of config g) (knows g)
      where
        by : (members : List Member) → AreKnown members → IsMaybeKnown (when_some (first_of_list members) None (λ (m : Member). Some m.server))
        by [] h = tt
        by (m ∷ rest) h = h m (inl refl)

    hop-known : (place : ℕ) (o : Option ServerId) → IsMaybeKnown o → GoesToKnown (hop_at place o)
    hop-known place None h = tt
    hop-known place (Some s) h = h

    enters-known : (place : ℕ) (o : Option Place) → GoesToKnown (enters config place o)
    enters-known place None = tt
    enters-known place (Some p) =
        cond_both (is_lost config p.region) (Blocked p.region) (hop_at place (head_of config p.region)) GoesToKnown
        (λ t. tt)
        (λ t. hop-known place (head_of config p.region) (head-known p.region))

    enters_last-known : (place : ℕ) (o : Option Place) → GoesToKnown (enters_last config place o)
    enters_last-known place None = tt
    enters_last-known place (Some p) =
        cond_both (is_lost config p.region) (Blocked p.region) (hop_at place (last_member None (members_of config p.region))) GoesToKnown
        (λ t. tt)
        (λ t. hop-known place (last_member None (members_of config p.region)) (last-known None (members_of config p.region) tt (knows p.region)))

    at-place : (places : List Place) (place : ℕ) → AreKnown (members_at config places place)
    at-place places place = when_some_both (slice_get places place) []
        (λ (p : Place). members_of config p.region) AreKnown (λ e m i. absurd i) (λ (p : Place) e. knows p.region)

    here-or : (place : ℕ) (o : Option ServerId) (other : Hop) → IsMaybeKnown o → GoesToKnown other
        → GoesToKnown (when_some o other (λ (x : ServerId). At x place))
    here-or place None other h k = k
    here-or place (Some x) other h k = h

    pub next-known : (places : List Place) (place : ℕ) (s : ServerId) → GoesToKnown (next_of config places place s)
    next-known places place s =
        here-or place (member_after s (members_at config places place)) (enters config (place + 1) (slice_get places (place + 1)))
        (after-known s (members_at config places place) (at-place places place))
        (enters-known (place + 1) (slice_get places (place + 1)))

    pub prev-known : (places : List Place) (place : ℕ) (s : ServerId) → GoesToKnown (prev_of config places place s)
    prev-known places place s =
        here-or place (member_before None s (members_at config places place)) (enters_last config (place - 1) (preceding_place places place))
        (before-known None s (members_at config places place) tt (at-place places place))
        (enters_last-known (place - 1) (preceding_place places place))
