-- What a port knows, and how each call of a box changes it.
use Rattle.std.specs.Prelude.{ℕ, ◌≡◌, ◌≢◌, ◌+◌, ◌<◌, ◌≤◌, cond, eqb, List, [], ◌∷◌, ◌++◌, map, flat_map, IsPermutation, Option, Some, None}
use mathlib.Core.List.{IsPrefix}
use Rattle.hx_types.specs.declared.messages.Post.{Post}
use Rattle.hx_types.specs.declared.messages.PostId.{PostId}
use Rattle.hx_types.specs.Words.{IsIn}
use Rattle.hx_clock.specs.Views.{either_count, one, total}
use Rattle.hx_mail.specs.declared.envelopes.Envelope.{Envelope}
use Rattle.hx_mail.specs.declared.envelopes.Letter.{Letter}
use Rattle.hx_mail.specs.declared.views.BoxNames.{BoxNames}
use Rattle.hx_mail.specs.declared.views.Mailed.{Mailed}
use Rattle.hx_mail.specs.declared.views.PortLists.{PortLists}
use Rattle.hx_mail.specs.declared.views.PortView.{PortView}
use Rattle.hx_mail.specs.declared.views.Sent.{Sent}

abbrev pub mailed : PostId → Post → Mailed
mailed id post = record { id = id; post = post }

abbrev pub mailed_of : Envelope → Mailed
mailed_of e = mailed e.id e.post

abbrev pub sent : ℕ → Mailed → Sent
sent k m = record { port = k; mailed = m }

abbrev pub sent_of : Letter → Sent
sent_of l = sent l.port (mailed_of l.envelope)

abbrev pub lists_of : ℕ → List Mailed → List Sent → PortLists
lists_of k put taken = record { name = k; put = put; taken = taken }

abbrev pub port : ℕ → Option BoxNames → List PortLists → Option ℕ → PortView
port own of_box lists splits = record { own = own; of_box = of_box; lists = lists; splits = splits }

-- a port that carries no name
abbrev pub spent_port : PortView
spent_port = port 0 None [] None

-- the first port of a box
abbrev pub first_port : Option BoxNames → PortView
first_port of_box = port 0 of_box (lists_of 0 [] [] ∷ []) (Some 0)

-- how many of the lists are of the name k
abbrev pub times : ℕ → List PortLists → ℕ
times k lists = total (λ b. one (eqb k b.name)) lists

-- the port carries the name k
abbrev pub CarriesName : ℕ → PortView → Type 0
CarriesName k v = 1 ≤ times k v.lists

-- put: the post is appended to what was put under the port's own name
abbrev pub put_in : ℕ → Mailed → PortLists → PortLists
put_in own m b = cond (eqb own b.name) (lists_of b.name (b.put ++ m ∷ []) b.taken) b

abbrev pub after_put : Mailed → PortView → PortView
after_put m v = port v.own v.of_box (map (put_in v.own m) v.lists) v.splits

-- take: the post is appended to what was taken under the port's own name
abbrev pub take_in : ℕ → Sent → PortLists → PortLists
take_in own s b = cond (eqb own b.name) (lists_of b.name b.put (b.taken ++ s ∷ [])) b

abbrev pub after_take : Sent → PortView → PortView
after_take s v = port v.own v.of_box (map (take_in v.own s) v.lists) v.splits

-- split: the first port counts one more, and that count is the name of the new port, whose lists are empty
abbrev pub next_name : Option ℕ → ℕ
next_name None = 0
next_name (Some n) = n + 1

abbrev pub splitting : PortView → PortView
splitting v = port v.own v.of_box v.lists (Some (next_name v.splits))

abbrev pub split_off : PortView → PortView
split_off v = port (next_name v.splits) v.of_box (lists_of (next_name v.splits) [] [] ∷ []) None

-- join: the port carries the names of both, with their lists
abbrev pub joined_port : PortView → PortView → PortView
joined_port v w = port v.own v.of_box (v.lists ++ w.lists) (either_count v.splits w.splits)

-- the posts that were put under the name k, of some that were sent
abbrev pub put_by : ℕ → List Sent → List Mailed
put_by k [] = []
put_by k (s ∷ rest) = cond (eqb k s.port) (s.mailed ∷ put_by k rest) (put_by k rest)

-- the port carries the names of all ports of its box
abbrev pub CarriesAll : PortView → Type 0
CarriesAll v = (n : ℕ) × (v.splits ≡ Some n) × ((k : ℕ) → k < n + 1 → CarriesName k v)

-- nothing was taken under another of its names
abbrev pub TookAlone : ℕ → PortView → Type 0
TookAlone k v = (b : PortLists) → IsIn b v.lists → b.name ≢ k → b.taken ≡ []

-- where one name alone took, what it took of each name is, in order, a prefix of what was put under that name
abbrev pub IsInOrder : PortView → Type 0
IsInOrder v =
    CarriesAll v
    → (taker : PortLists) → IsIn taker v.lists → TookAlone taker.name v
    → (putter : PortLists) → IsIn putter v.lists → IsPrefix (put_by putter.name taker.taken) putter.put

-- all that was put, and all that was taken, under any name
abbrev pub all_put : List PortLists → List Sent
all_put lists = flat_map (λ b. map (sent b.name) b.put) lists

abbrev pub all_taken : List PortLists → List Sent
all_taken lists = flat_map (λ b. b.taken) lists

-- each put was taken at most once, and nothing else was taken
abbrev pub IsOnce : PortView → Type 0
IsOnce v = CarriesAll v → (rest : List Sent) × IsPermutation (all_put v.lists) (all_taken v.lists ++ rest)
