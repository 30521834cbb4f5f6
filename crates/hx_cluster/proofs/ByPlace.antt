-- The actors of a script and the places of their boxes.
use Rattle.std.proofs.Common.{◌≡◌, ℕ, zero, suc, ◌+◌, ◌-◌, ◌<◌, ◌≤◌, Bool, true, false, [], ◌∷◌, ◌++◌, map, length}
use Rattle.std.proofs.Common.{refl, ap, sym, ◌∙◌, arith, append-nil, append_assoc, length-append}
use Rattle.std.specs.Prelude.{nat_le, nat_lt, ◌&&◌}
use Rattle.std.proofs.lemmas.Bool.{cond_both, false≢true}
use Rattle.std.proofs.lemmas.Bool.Decides.{nat_tests}
use Rattle.std.proofs.lemmas.List.{map-append}
use Rattle.hx_types.specs.declared.ids.Actor.{Actor}
use Rattle.hx_types.specs.declared.ids.Actor.TheVariants.{Coordinator, Server, Session}
use Rattle.hx_types.specs.declared.spaces.Space.{Space}
use Rattle.hx_types.specs.declared.traces.Script.{Script}
use Rattle.hx_types.specs.Words.{below}
use Rattle.hx_model.specs.Runs.{is_actor}
use Rattle.hx_outbox.specs.Places.{place_of, Exists}
use Rattle.hx_cluster.specs.Everyone.{actors_of}
use Rattle.hx_cluster.specs.Actors.{actor_at, first_actors}

not-le : (m n : ℕ) → nat_le m n ≡ false → n < m
not-le m n e = grind (arith, nat_tests)

is-le : (m n : ℕ) → nat_le m n ≡ true → m ≤ n
is-le m n e = grind (arith, nat_tests)

-- the place of the actor of a place
pub place-at : (space : Space) (k : ℕ) → place_of space (actor_at space k) ≡ k
place-at space zero = refl
place-at space (suc n) =
    cond_both (nat_le (suc n) space.servers) (Server (record { 0 = suc n })) (Session (record { 0 = suc n - space.servers }))
    (λ (a : Actor). place_of space a ≡ suc n)
    (λ t. refl)
    (λ f. let lt = not-le (suc n) space.servers f in omega (arith, lt))

server-at : (space : Space) (k : ℕ) → 0 < k → k ≤ space.servers → actor_at space k ≡ Server (record { 0 = k })
server-at space zero h le = absurd (omega (arith, h))
server-at space (suc n) h le =
    cond_both (nat_le (suc n) space.servers) (Server (record { 0 = suc n })) (Session (record { 0 = suc n - space.servers }))
    (λ (a : Actor). a ≡ Server (record { 0 = suc n }))
    (λ t. refl)
    (λ f. let lt = not-le (suc n) space.servers f in absurd (omega (arith, lt, le)))

session-at : (space : Space) (k u : ℕ) → k ≡ space.servers + u → 0 < u → actor_at space k ≡ Session (record { 0 = u })
session-at space zero u e h = absurd (omega (arith, e, h))
session-at space (suc n) u e h =
    cond_both (nat_le (suc n) space.servers) (Server (record { 0 = suc n })) (Session (record { 0 = suc n - space.servers }))
    (λ (a : Actor). a ≡ Session (record { 0 = u }))
    (λ t. let le = is-le (suc n) space.servers t in absurd (omega (arith, le, e, h)))
    (λ f. let m : suc n - space.servers ≡ u = omega (arith, e) in ap (λ k. Session (record { 0 = k })) m)

-- the actor of the place of an actor
pub at-place : (script : Script) (a : Actor) → Exists script a → actor_at script.space (place_of script.space a) ≡ a
at-place script Coordinator h = refl
at-place script (Server s) h = server-at script.space s.0 h.0 h.1
at-place script (Session u) h = session-at script.space (script.space.servers + u.0) u.0 refl h.0

-- numbers below a sum
pub map-below : {A : Type 0} (f : ℕ → A) (m n : ℕ) → map f (below (m + n)) ≡ map f (below m) ++ map (λ k. f (m + k)) (below n)
map-below f m zero = let e : m + 0 ≡ m = omega arith in ap (λ k. map f (below k)) e ∙ sym (append-nil (map f (below m)))
map-below f m (suc n) =
    let e : m + suc n ≡ suc (m + n) = omega arith in
    ap (λ k. map f (below k)) e
    ∙ map-append f (below (m + n)) ((m + n) ∷ [])
    ∙ ap (λ l. l ++ f (m + n) ∷ []) (map-below f m n)
    ∙ append_assoc (map f (below m)) (map (λ k. f (m + k)) (below n)) (f (m + n) ∷ [])
    ∙ ap (λ l. map f (below m) ++ l) (sym (map-append (λ k. f (m + k)) (below n) (n ∷ [])))

same-below : {A : Type 0} (f g : ℕ → A) (n : ℕ) → ((k : ℕ) → k < n → f k ≡ g k) → map f (below n) ≡ map g (below n)
same-below f g zero e = refl
same-below f g (suc n) e =
    map-append f (below n) (n ∷ [])
    ∙ ap (λ l. l ++ f n ∷ []) (same-below f g n (λ k lt. e k (omega (arith, lt))))
    ∙ ap (λ y. map g (below n) ++ y ∷ []) (e n (omega arith))
    ∙ sym (map-append g (below n) (n ∷ []))

-- all actors by their places
pub all-first : (script : Script) → first_actors script.space (1 + script.space.servers + length script.sessions) ≡ actors_of script
all-first script =
    let space = script.space in
    let s = space.servers in
    let u = length script.sessions in
    let f : ℕ → Actor = actor_at space in
    let servers : map (λ k. f (1 + k)) (below s) ≡ map (λ n. Server (record { 0 = n + 1 })) (below s) =
    same-below (λ k. f (1 + k)) (λ n. Server (record { 0 = n + 1 })) s
    (λ k lt. server-at space (1 + k) (omega arith) (omega (arith, lt)) ∙ ap (λ n. Server (record { 0 = n })) (one-more k)) in
    let sessions : map (λ k. f (1 + s + k)) (below u) ≡ map (λ n. Session (record { 0 = n + 1 })) (below u) =
    same-below (λ k. f (1 + s + k)) (λ n. Session (record { 0 = n + 1 })) u (λ k lt. session-at space (1 + s + k) (k + 1) (omega arith) (omega arith)) in
    map-below f (1 + s) u
    ∙ ap (λ l. l ++ map (λ k. f (1 + s + k)) (below u)) (map-below f 1 s)
    ∙ ap (λ l. Coordinator ∷ l ++ map (λ k. f (1 + s + k)) (below u)) servers
    ∙ ap (λ l. Coordinator ∷ map (λ n. Server (record { 0 = n + 1 })) (below s) ++ l) sessions
  where
    one-more : (k : ℕ) → 1 + k ≡ k + 1
    one-more k = omega arith

pub first-length : (space : Space) (k : ℕ) → length (first_actors space k) ≡ k
first-length space zero = refl
first-length space (suc k) =
    ap length (map-append (actor_at space) (below k) (k ∷ []))
    ∙ length-append (first_actors space k) (actor_at space k ∷ []) ∙ (let e = first-length space k in omega (arith, e))

pub all-length : (script : Script) → length (actors_of script) ≡ 1 + script.space.servers + length script.sessions
all-length script = ap length (sym (all-first script)) ∙ first-length script.space _

is-below : (m n : ℕ) → nat_lt m n ≡ true → m < n
is-below m n e = grind (arith, nat_tests)

both-true : (a b : Bool) → (a && b) ≡ true → (a ≡ true) × (b ≡ true)
both-true true b e = (refl, e)
both-true false b e = absurd (false≢true e)

pub exists-is : (script : Script) (a : Actor) → is_actor script a ≡ true → Exists script a
exists-is script Coordinator e = tt
exists-is script (Server s) e = let h = both-true (nat_lt 0 s.0) (nat_le s.0 script.space.servers) e in (is-below 0 s.0 h.0, is-le s.0 script.space.servers h.1)
exists-is script (Session u) e = let h = both-true (nat_lt 0 u.0) (nat_le u.0 (length script.sessions)) e in
    (is-below 0 u.0 h.0, is-le u.0 (length script.sessions) h.1)
