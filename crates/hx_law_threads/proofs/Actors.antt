-- When two actors are the same.
use Rattle.hx_law_lemmas.proofs.Lemmas.Vocabulary.{Actor, Coordinator, eq-eqb, eqb-true, refl, same_actor, Server, Session, true, ◌≡◌}

pub same_actor_is : (a b : Actor) → same_actor a b ≡ true → a ≡ b
same_actor_is Coordinator Coordinator e = refl
same_actor_is Coordinator (Server s) e = cc
same_actor_is Coordinator (Session u) e = cc
same_actor_is (Server r) Coordinator e = cc
same_actor_is (Server r) (Server s) e = let same = eqb-true r.0 s.0 e in λ i. Server (record { 0 = same i })
same_actor_is (Server r) (Session u) e = cc
same_actor_is (Session v) Coordinator e = cc
same_actor_is (Session v) (Server s) e = cc
same_actor_is (Session v) (Session u) e = let same = eqb-true v.0 u.0 e in λ i. Session (record { 0 = same i })

pub same_as_itself : (a : Actor) → same_actor a a ≡ true
same_as_itself Coordinator = refl
same_as_itself (Server s) = eq-eqb s.0 s.0 refl
same_as_itself (Session u) = eq-eqb u.0 u.0 refl
