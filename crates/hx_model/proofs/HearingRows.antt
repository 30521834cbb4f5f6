-- Whom a replica hears, position by position, on a small space.
use Rattle.std.specs.Prelude.{◌≡◌, ℕ, Bool, true, false, List, [], ◌∷◌, map}
use Rattle.hx_model.specs.Types.{Actor, Config, Coordinator, Server, Session, Update}
use Rattle.hx_model.specs.Hearing.{hears_ack, hears_snap, hears_update}
use Rattle.std.proofs.Common.{refl}
use Rattle.hx_model.proofs.SmallSpace.{configured, first_update, joining, ready, region, second_update, server, session, third_update, whole}

-- who may send: servers 1 to 4, of which the last is no server of the configurations, and who never is heard
abbrev servers : List Actor
servers = Server (server 1) ∷ Server (server 2) ∷ Server (server 3) ∷ Server (server 4) ∷ []

abbrev others : List Actor
others = Coordinator ∷ Session (session 1) ∷ Session (session 2) ∷ Session (session 3) ∷ []

abbrev nobody : List Bool
nobody = false ∷ false ∷ false ∷ false ∷ []

abbrev only_1 : List Bool
only_1 = true ∷ false ∷ false ∷ false ∷ []

abbrev only_2 : List Bool
only_2 = false ∷ true ∷ false ∷ false ∷ []

abbrev only_3 : List Bool
only_3 = false ∷ false ∷ true ∷ false ∷ []

-- from whom a server takes an update at a place of its chain
abbrev updates : Config → Update → ℕ → ℕ → List Bool
updates config u place s = map (hears_update config u place (server s)) servers

-- from whom it takes an acknowledgement, by region of the sender's replica
abbrev acks_by : Config → Update → ℕ → ℕ → ℕ → List Bool
acks_by config u place s by = map (λ (from : Actor). hears_ack config u place (server s) from (region by)) servers

abbrev acks : Config → Update → ℕ → ℕ → List (List Bool)
acks config u place s = map (acks_by config u place s) (0 ∷ 1 ∷ 2 ∷ [])

-- from whom it takes a snapshot of a region
abbrev snaps : Config → ℕ → ℕ → List Bool
snaps config g s = map (hears_snap config (region g) (server s)) servers

-- ---- updates: the chain of this one is server 1 and 2 in region 0, 2 and 3 in region 1, 3 and 1 in region 2

first_hears_no_update : updates whole second_update 0 1 ≡ nobody
first_hears_no_update = refl

second_hears_the_first : updates whole second_update 0 2 ≡ only_1
second_hears_the_first = refl

-- the first of a region hears the last of the place before, here itself
update_across_a_border : updates whole second_update 1 2 ≡ only_2
update_across_a_border = refl

within_the_second_place : updates whole second_update 1 3 ≡ only_2
within_the_second_place = refl

across_the_second_border : updates whole second_update 2 3 ≡ only_3
across_the_second_border = refl

last_hears_the_one_before : updates whole second_update 2 1 ≡ only_3
last_hears_the_one_before = refl

-- an update that leaves out region 1 comes from the place before by its own list
update_over_a_region : updates whole third_update 1 3 ≡ only_2
update_over_a_region = refl

-- no session and no coordinator
updates_of_others :
    map (hears_update whole second_update 0 (server 2)) others ≡ nobody
updates_of_others = refl

-- after its last place there is still its last border, and then nobody
update_past_the_places : updates whole first_update 2 1 ≡ only_3
update_past_the_places = refl

update_far_past_the_places : updates whole first_update 3 1 ≡ nobody
update_far_past_the_places = refl

-- a server that is no member of the place hears as one before its first member does
stranger_at_the_first_place : updates whole second_update 0 3 ≡ nobody
stranger_at_the_first_place = refl

stranger_at_a_later_place : updates whole second_update 1 1 ≡ only_2
stranger_at_a_later_place = refl

-- ---- acknowledgements

first_hears_the_second : acks whole second_update 0 1 ≡ only_2 ∷ nobody ∷ nobody ∷ []
first_hears_the_second = refl

-- the last of a region hears the first of the place after, by that region alone: server 2 stands in both
ack_across_a_border : acks whole second_update 0 2 ≡ nobody ∷ only_2 ∷ nobody ∷ []
ack_across_a_border = refl

ack_within_the_second_place : acks whole second_update 1 2 ≡ nobody ∷ only_3 ∷ nobody ∷ []
ack_within_the_second_place = refl

ack_across_the_second_border : acks whole second_update 1 3 ≡ nobody ∷ nobody ∷ only_3 ∷ []
ack_across_the_second_border = refl

ack_within_the_last_place : acks whole second_update 2 3 ≡ nobody ∷ nobody ∷ only_1 ∷ []
ack_within_the_last_place = refl

last_hears_no_ack : acks whole second_update 2 1 ≡ nobody ∷ nobody ∷ nobody ∷ []
last_hears_no_ack = refl

-- the chain of another update ends in region 1
last_of_a_shorter_chain : acks whole first_update 1 3 ≡ nobody ∷ nobody ∷ nobody ∷ []
last_of_a_shorter_chain = refl

ack_over_a_region : acks whole third_update 0 2 ≡ nobody ∷ nobody ∷ only_3 ∷ []
ack_over_a_region = refl

acks_of_others :
    map (λ (from : Actor). hears_ack whole second_update 0 (server 1) from (region 0)) others ≡ nobody
acks_of_others = refl

-- a server that is no member of the place hears as one after its last member does
ack_of_a_stranger : acks whole second_update 0 3 ≡ nobody ∷ only_2 ∷ nobody ∷ []
ack_of_a_stranger = refl

stranger_at_the_last_place : acks whole second_update 2 2 ≡ nobody ∷ nobody ∷ nobody ∷ []
stranger_at_the_last_place = refl

-- ---- snapshots

second_hears_a_snapshot : snaps whole 0 2 ≡ only_1
second_hears_a_snapshot = refl

first_hears_no_snapshot : snaps whole 0 1 ≡ nobody
first_hears_no_snapshot = refl

-- no member, and no such region
stranger_hears_no_snapshot : map (snaps whole 0) (3 ∷ 4 ∷ []) ≡ nobody ∷ nobody ∷ []
stranger_hears_no_snapshot = refl

no_snapshot_of_no_region : map (snaps whole 7) (1 ∷ 2 ∷ 3 ∷ []) ≡ nobody ∷ nobody ∷ nobody ∷ []
no_snapshot_of_no_region = refl

snapshots_of_others : map (hears_snap whole (region 0) (server 2)) others ≡ nobody
snapshots_of_others = refl

-- ---- joiners stand in the chain, and ready members are no others

abbrev with_joiner : Config
with_joiner =
    configured 2 (1 ∷ 2 ∷ 3 ∷ []) ((ready 1 ∷ ready 2 ∷ joining 3 ∷ []) ∷ (ready 2 ∷ ready 3 ∷ []) ∷ (ready 3 ∷ ready 1 ∷ []) ∷ [])

joiner_hears_the_last_ready_one : (updates with_joiner second_update 0 3 ∷ snaps with_joiner 0 3 ∷ []) ≡ only_2 ∷ only_2 ∷ []
joiner_hears_the_last_ready_one = refl

last_ready_one_hears_the_joiner : acks with_joiner second_update 0 2 ≡ only_3 ∷ nobody ∷ nobody ∷ []
last_ready_one_hears_the_joiner = refl

-- the border moves with it
update_from_the_joiner : updates with_joiner second_update 1 2 ≡ only_3
update_from_the_joiner = refl

joiner_hears_the_next_place : acks with_joiner second_update 0 3 ≡ nobody ∷ only_2 ∷ nobody ∷ []
joiner_hears_the_next_place = refl

-- ---- a lost region: nobody is heard across its borders

abbrev low_lost : Config
low_lost = configured 2 (1 ∷ 2 ∷ 3 ∷ []) ((ready 1 ∷ ready 2 ∷ []) ∷ (joining 2 ∷ []) ∷ (ready 3 ∷ ready 1 ∷ []) ∷ [])

no_ack_from_a_lost_region : acks low_lost second_update 0 2 ≡ nobody ∷ nobody ∷ nobody ∷ []
no_ack_from_a_lost_region = refl

no_update_from_a_lost_region : updates low_lost second_update 2 3 ≡ nobody
no_update_from_a_lost_region = refl

-- within the other regions all stays, and so it does for updates without a place in it
beside_a_lost_region : (updates low_lost second_update 0 2 ∷ updates low_lost second_update 2 1 ∷ []) ≡ only_1 ∷ only_3 ∷ []
beside_a_lost_region = refl

over_a_lost_region : updates low_lost third_update 1 3 ≡ only_2
over_a_lost_region = refl
