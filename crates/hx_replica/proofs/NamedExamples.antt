-- Whom a server knows that gets a search at the start, and posts that name somebody else.
use Rattle.std.proofs.Common.{◌≡◌, ℕ, inl, inr, List, [], ◌∷◌, refl, ap, arith}
use Rattle.hx_model.specs.Types.{Actor, Coordinator, Post, Server, Session}
use Rattle.hx_types.specs.declared.messages.Message.TheVariants.{Found, StopServer}
use Rattle.hx_types.specs.Posted.{NameOnly, NamesOnly, actors_of_message}
use Rattle.hx_types.specs.Words.{IsIn, post}
use Rattle.hx_model.specs.ServerSteps.{server_at_start}
use Rattle.hx_law_lemmas.proofs.Lemmas.{all-in}
use Rattle.hx_replica.specs.Examples.{ask_of, first, small}
use Rattle.hx_replica.specs.Named.{known_to}

-- the coordinator, the one server of the configuration, the same as the member of its region, and the session that searches
abbrev known : List Actor
known = Coordinator ∷ Server first ∷ Server first ∷ Session (record { 0 = 1 }) ∷ []

known_is : known_to (server_at_start small first) ask_of ≡ known
known_is = refl

named : (p : Post) (a : Actor) → IsIn a (p.to ∷ actors_of_message p.message) → NameOnly known (p ∷ []) → IsIn a known
named p a i h = all-in (λ (x : Actor). IsIn x known) (p.to ∷ actors_of_message p.message) a (all-in (NamesOnly known) (p ∷ []) p h (inl refl)) i

abbrev number : Actor → ℕ
number Coordinator = 0
number (Server s) = s.0
number (Session u) = u.0

-- what is found goes to no session but the one that searches
another-session : NameOnly known (post (Server first) (Session (record { 0 = 2 })) (Found (record { 0 = 1 }) 1 (record { 0 = 0 }) []) ∷ []) → ⊥
another-session h = elim (named _ (Session (record { 0 = 2 })) (inl refl) h) [
  | inl e ↦ absurd (cc)
  | inr (inl e) ↦ absurd (cc)
  | inr (inr (inl e)) ↦ absurd (cc)
  | inr (inr (inr (inl e))) ↦ (let n : 2 ≡ 1 = ap number e in omega (arith, n))
  | inr (inr (inr (inr i))) ↦ absurd i
]

-- nothing that is posted names a server that the configuration doesn't
another-server : NameOnly known (post (Server first) Coordinator (StopServer 1 (record { 0 = 2 })) ∷ []) → ⊥
another-server h = elim (named _ (Server (record { 0 = 2 })) (inr (inl refl)) h) [
  | inl e ↦ absurd (cc)
  | inr (inl e) ↦ (let n : 2 ≡ 1 = ap number e in omega (arith, n))
  | inr (inr (inl e)) ↦ (let n : 2 ≡ 1 = ap number e in omega (arith, n))
  | inr (inr (inr (inl e))) ↦ absurd (cc)
  | inr (inr (inr (inr i))) ↦ absurd i
]
