-- What a seat carries and knows, and how each kind of atomic step changes it.
use Rattle.std.specs.Prelude.{ℕ, ◌≡◌, ◌+◌, ◌<◌, ◌≤◌, ◌⊎◌, Bool, cond, eqb, nat_lt, List, [], ◌∷◌, ◌++◌, map, length, Option, Some, None}
use Rattle.hx_types.specs.declared.messages.Post.{Post}
use Rattle.hx_types.specs.declared.messages.PostId.{PostId}
use Rattle.hx_types.specs.Words.{IsIn}
use Rattle.hx_clock.specs.declared.parts.Stamped.{Stamped}
use Rattle.hx_clock.specs.declared.view.NumberedPart.{NumberedPart}
use Rattle.hx_clock.specs.declared.view.View.{View}
use Rattle.hx_clock.specs.Parts.{Posted}

abbrev pub numbered : ℕ → List Stamped → NumberedPart
numbered k part = record { number = k; entries = part }

abbrev pub view_of : List NumberedPart → List NumberedPart → Option ℕ → View
view_of carried known count = record { carried = carried; known = known; count = count }

-- a view that carries and knows nothing and has no count
abbrev pub nothing : View
nothing = view_of [] [] None

-- the first view: no actor is enrolled
abbrev pub counting : View
counting = view_of [] [] (Some 0)

-- an entry of one of these parts
abbrev pub IsAmong : List NumberedPart → Stamped → Type 0
IsAmong parts x = (p : NumberedPart) × IsIn p parts × IsIn x p.entries

-- an entry that the view carries
abbrev pub Carries : View → Stamped → Type 0
Carries v x = IsAmong v.carried x

-- an entry that the view carries or knows
abbrev pub Has : View → Stamped → Type 0
Has v x = Carries v x ⊎ IsAmong v.known x

-- the view has an entry that made this post
abbrev pub Knows : View → PostId → Post → Type 0
Knows v id p = ∥ ((x : Stamped) × Has v x × Posted x id p) ∥₁

-- the view carries this number, with this part, and no other
abbrev pub Owns : View → ℕ → List Stamped → Type 0
Owns v k part = v.carried ≡ numbered k part ∷ []

-- the stamp is above each that the view has
abbrev pub IsAfter : ℕ → View → Type 0
IsAfter n v = (x : Stamped) → Has v x → x.stamp.0 < n

-- 1 where it is so, and 0 where not
abbrev pub one : Bool → ℕ
one b = cond b 1 0

-- f of each item, added up
abbrev pub total : {A : Type 0} → (A → ℕ) → List A → ℕ
total f [] = 0
total f (x ∷ xs) = f x + total f xs

-- how many of the parts have the number k
abbrev pub times : ℕ → List NumberedPart → ℕ
times k parts = total (λ p. one (eqb k p.number)) parts

-- of two parts the longer
abbrev pub longer : List Stamped → List Stamped → List Stamped
longer xs ys = cond (nat_lt (length xs) (length ys)) ys xs

-- what is known of the number k: the longest of its parts, or nothing
abbrev pub known_part : ℕ → List NumberedPart → List Stamped
known_part k [] = []
known_part k (p ∷ ps) = longer (cond (eqb k p.number) p.entries []) (known_part k ps)

-- the parts that a view carries
abbrev pub parts_of : View → List (List Stamped)
parts_of v = map (λ p. p.entries) v.carried

-- the view has the count and carries each number that was drawn
abbrev pub IsWhole : View → Type 0
IsWhole v = (n : ℕ) × (v.count ≡ Some n) × ((k : ℕ) → k < n → 1 ≤ times k v.carried)

-- act: the entry is appended to the part that the view carries
abbrev pub appended : Stamped → NumberedPart → NumberedPart
appended x p = numbered p.number (p.entries ++ x ∷ [])

abbrev pub acted : Stamped → View → View
acted x v = view_of (map (appended x) v.carried) v.known v.count

-- enrol: the view carries the number n, with an empty part, and counts it
abbrev pub enrolling : ℕ → View → View
enrolling n v = view_of (numbered n [] ∷ v.carried) v.known (Some (n + 1))

-- hand: a new view carries that number, and the other carries it no longer
abbrev pub front_of : List NumberedPart → List NumberedPart
front_of [] = []
front_of (p ∷ ps) = p ∷ []

abbrev pub rest_of : List NumberedPart → List NumberedPart
rest_of [] = []
rest_of (p ∷ ps) = ps

abbrev pub handing : View → View
handing v = view_of (rest_of v.carried) v.known v.count

abbrev pub handed : View → View
handed v = view_of (front_of v.carried) v.known None

-- enrol and hand together: the counting view counts one more, and the new view carries the number n and knows what the other knows
abbrev pub enrolled_as : ℕ → View → View
enrolled_as n v = view_of v.carried v.known (Some (n + 1))

abbrev pub handed_to : ℕ → View → View
handed_to n v = view_of (numbered n [] ∷ []) v.known None

-- split: a new view carries no number, has no count, and knows what the other carries or knows
abbrev pub told : View → View
told v = view_of [] (v.carried ++ v.known) None

-- join: a view carries and knows what both did, and has the count if either had it
abbrev pub either_count : Option ℕ → Option ℕ → Option ℕ
either_count (Some n) c = Some n
either_count None c = c

abbrev pub joined : View → View → View
joined v w = view_of (v.carried ++ w.carried) (v.known ++ w.known) (either_count v.count w.count)
