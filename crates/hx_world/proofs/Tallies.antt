-- How many entries a trace has, where no actor has made too many.
use Rattle.std.proofs.Common.{◌≡◌, ℕ, zero, suc, ◌+◌, ◌-◌, ◌*◌, ◌<◌, ◌≤◌, inl, inr, true, List, [], ◌∷◌, length, refl, ap, ◌∙◌, subst, arith, leb, ltb}
use Rattle.std.specs.Prelude.{reverse}
use Rattle.std.proofs.lemmas.Bool.{cond_both, and_parts, ltb-true, leb-true, eq-eqb, cases_eq}
use Rattle.std.proofs.lemmas.List.{length-reverse}
use Rattle.hx_model.specs.Types.{Actor, Coordinator, Entry, Script, Server, Session}
use Rattle.hx_types.specs.Fitting.{IsScript}
use Rattle.hx_types.specs.Words.{same_actor}
use Rattle.hx_model.specs.Runs.{IsRun, is_actor}
use Rattle.hx_model.specs.Schedule.{entries_of}
use Rattle.hx_world.specs.Invariant.{server_at, session_at}
use Rattle.hx_world.specs.Worlds.{HasFewEntries, most_entries}

pub sum_to : ℕ → (ℕ → ℕ) → ℕ
sum_to zero f = 0
sum_to (suc n) f = sum_to n f + f n

sum_least : (n : ℕ) (f g : ℕ → ℕ) → ((i : ℕ) → f i ≤ g i) → sum_to n f ≤ sum_to n g
unfolding sum_to
sum_least zero f g h = omega arith
sum_least (suc n) f g h = let r = sum_least n f g h in let k = h n in omega (arith, r, k)

pub sum_more : (n : ℕ) (f g : ℕ → ℕ) → ((i : ℕ) → f i ≤ g i) → (i : ℕ) → i < n → f i + 1 ≤ g i → sum_to n f + 1 ≤ sum_to n g
unfolding sum_to
sum_more zero f g h i within more = absurd (omega arith)
sum_more (suc n) f g h i within more =
    elim (cases_eq i n) [
      | inl e ↦ (let r = sum_least n f g h in let k : f n + 1 ≤ g n = subst (λ j. f j + 1 ≤ g j) e more in omega (arith, r, k))
      | inr e ↦ (let r = sum_more n f g h i (let below : i < n = omega (arith, within, e) in below) more in let k = h n in omega (arith, r, k))
    ]

pub sum_most : (n most : ℕ) (f : ℕ → ℕ) → ((i : ℕ) → i < n → f i ≤ most) → sum_to n f ≤ n * most
unfolding sum_to
sum_most zero most f h = omega arith
sum_most (suc n) most f h =
    let r = sum_most n most f (λ i p. h i (let below : i < suc n = omega (arith, p) in below)) in
    let k = h n (let last : n < suc n = omega arith in last) in
    omega (arith, r, k)

-- the entries of the actors together
tally : Script → List Entry → ℕ
tally script t =
    entries_of Coordinator t + sum_to script.space.servers (λ i. entries_of (Server (server_at i)) t) + sum_to
    (length script.sessions) (λ i. entries_of (Session (session_at i)) t)

one_more : (a : Actor) (x : Entry) (older : List Entry) → entries_of a older ≤ entries_of a (x ∷ older)
one_more a x older =
    cond_both (same_actor x.actor a) (entries_of a older + 1) (entries_of a older) (λ n. entries_of a older ≤ n) (λ e. omega arith) (λ e. omega arith)

counted : (a : Actor) (x : Entry) (older : List Entry) → same_actor x.actor a ≡ true → entries_of a older + 1 ≤ entries_of a (x ∷ older)
counted a x older e = rw e (omega arith)

tally_more : (script : Script) (x : Entry) (older : List Entry) (a : Actor) → x.actor ≡ a → is_actor script a ≡ true
    → tally script older + 1 ≤ tally script (x ∷ older)
unfolding tally
tally_more script x older Coordinator e h =
    let more = counted Coordinator x older (ap (λ (a : Actor). same_actor a Coordinator) e) in
    let servers = sum_least script.space.servers (λ i. entries_of (Server (server_at i)) older)
    (λ i. entries_of (Server (server_at i)) (x ∷ older)) (λ i. one_more (Server (server_at i)) x older) in
    let sessions = sum_least (length script.sessions) (λ i. entries_of (Session (session_at i)) older)
    (λ i. entries_of (Session (session_at i)) (x ∷ older)) (λ i. one_more (Session (session_at i)) x older) in
    omega (arith, more, servers, sessions)
tally_more script x older (Server s) e h =
    let parts = and_parts (ltb 0 s.0) (leb s.0 script.space.servers) h in
    let low : 0 < s.0 = ltb-true 0 s.0 parts.0 in
    let high : s.0 ≤ script.space.servers = leb-true s.0 script.space.servers parts.1 in
    let place : s.0 ≡ (s.0 - 1) + 1 = omega (arith, low) in
    let here : same_actor x.actor (Server (server_at (s.0 - 1))) ≡ true =
    ap (λ (a : Actor). same_actor a (Server (server_at (s.0 - 1)))) e ∙ eq-eqb s.0 ((s.0 - 1) + 1) place in
    let others = one_more Coordinator x older in
    let servers = sum_more script.space.servers (λ i. entries_of (Server (server_at i)) older)
    (λ i. entries_of (Server (server_at i)) (x ∷ older)) (λ i. one_more (Server (server_at i)) x older)
    (s.0 - 1) (omega (arith, low, high)) (counted (Server (server_at (s.0 - 1))) x older here) in
    let sessions = sum_least (length script.sessions) (λ i. entries_of (Session (session_at i)) older)
    (λ i. entries_of (Session (session_at i)) (x ∷ older)) (λ i. one_more (Session (session_at i)) x older) in
    omega (arith, others, servers, sessions)
tally_more script x older (Session u) e h =
    let parts = and_parts (ltb 0 u.0) (leb u.0 (length script.sessions)) h in
    let low : 0 < u.0 = ltb-true 0 u.0 parts.0 in
    let high : u.0 ≤ length script.sessions = leb-true u.0 (length script.sessions) parts.1 in
    let place : u.0 ≡ (u.0 - 1) + 1 = omega (arith, low) in
    let here : same_actor x.actor (Session (session_at (u.0 - 1))) ≡ true =
    ap (λ (a : Actor). same_actor a (Session (session_at (u.0 - 1)))) e ∙ eq-eqb u.0 ((u.0 - 1) + 1) place in
    let others = one_more Coordinator x older in
    let servers = sum_least script.space.servers (λ i. entries_of (Server (server_at i)) older)
    (λ i. entries_of (Server (server_at i)) (x ∷ older)) (λ i. one_more (Server (server_at i)) x older) in
    let sessions = sum_more (length script.sessions) (λ i. entries_of (Session (session_at i)) older)
    (λ i. entries_of (Session (session_at i)) (x ∷ older)) (λ i. one_more (Session (session_at i)) x older)
    (u.0 - 1) (omega (arith, low, high)) (counted (Session (session_at (u.0 - 1))) x older here) in
    omega (arith, others, servers, sessions)

-- each entry is one of the script's actors
tally_all : (script : Script) (t : List Entry) → IsRun script t → length t ≤ tally script t
unfolding tally
tally_all script [] run = omega arith
tally_all script (x ∷ older) run =
    let r = tally_all script older run.1 in
    let more : tally script older + 1 ≤ tally script (x ∷ older) = tally_more script x older x.actor refl run.0.actor in
    omega (arith, r, more)

-- no world makes more entries
pub few_in_all : (script : Script) (t : List Entry) → IsScript script → IsRun script t → HasFewEntries t → length t ≤ most_entries
unfolding tally
few_in_all script t valid run few =
    let all = tally_all script t run in
    let coordinator = few Coordinator in
    let servers = sum_most script.space.servers 1048576 (λ i. entries_of (Server (server_at i)) t) (λ i p. few (Server (server_at i))) in
    let sessions = sum_most (length script.sessions) 1048576 (λ i. entries_of (Session (session_at i)) t) (λ i p. few (Session (session_at i))) in
    omega (arith, all, coordinator, servers, sessions, valid.sessions, valid.space.servers.1)

-- the same of a trace that stands oldest first
pub few_entries : (script : Script) (trace : List Entry) → IsScript script → IsRun script (reverse trace)
    → HasFewEntries (reverse trace) → length trace ≤ most_entries
few_entries script trace valid run few =
    let all = few_in_all script (reverse trace) valid run few in omega (arith, all, length-reverse trace)
