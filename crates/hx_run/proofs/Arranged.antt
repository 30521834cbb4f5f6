-- Actors in the order of their boxes.
use Rattle.std.proofs.Common.{◌≡◌, ℕ, zero, suc, ◌+◌, ◌-◌, ◌<◌, ◌≤◌, ⊎_elim, inl, inr, true, false, List, [], ◌∷◌, map}
use Rattle.std.proofs.Common.{length, slice_index_or, ltb, leb, refl, ap, sym, subst, ◌∙◌, arith}
use Rattle.std.specs.List.{AllByRecursion, IsDistinct}
use Rattle.std.specs.List.Sorted.{IsNonDecreasingBy}
use Rattle.std.specs.Prelude.{⊤}
use Rattle.std.proofs.lemmas.Bool.{and_from, and_parts, leb-true, le-leb, ltb-true, lt-ltb, true≢false}
use Rattle.std.proofs.lemmas.Map.Keys.{IsDistinct-head, IsDistinct-tail}
use Rattle.hx_types.specs.declared.ids.Actor.{Actor}
use Rattle.hx_types.specs.declared.ids.Actor.TheVariants.{Coordinator, Server, Session}
use Rattle.hx_types.specs.declared.ids.ServerId.{ServerId}
use Rattle.hx_types.specs.declared.ids.SessionId.{SessionId}
use Rattle.hx_types.specs.declared.traces.Script.{Script}
use Rattle.hx_types.specs.Words.{same_actor, IsIn}
use Rattle.hx_model.specs.Runs.{is_actor}
use Rattle.hx_law_threads.proofs.Lemmas.{same_as_itself}
use Rattle.hx_outbox.specs.Places.{place_of, Exists}
use Rattle.hx_run.specs.declared.joining.OwnedPort.{OwnedPort}
use Rattle.hx_run.specs.Joined.{place_at, AreInPlaces}
use Rattle.hx_run.proofs.Courses.{below-or-not}

pub actor-exists : (script : Script) (a : Actor) → is_actor script a ≡ true → Exists script a
actor-exists script Coordinator e = tt
actor-exists script (Server s) e = let a = and_parts (ltb 0 s.0) (leb s.0 script.space.servers) e in (ltb-true 0 s.0 a.0, leb-true s.0 script.space.servers a.1)
actor-exists script (Session u) e = let a = and_parts (ltb 0 u.0) (leb u.0 (length script.sessions)) e in
    (ltb-true 0 u.0 a.0, leb-true u.0 (length script.sessions) a.1)

pub is-actor : (script : Script) (a : Actor) → Exists script a → is_actor script a ≡ true
is-actor script Coordinator h = refl
is-actor script (Server s) h = and_from (ltb 0 s.0) (leb s.0 script.space.servers) (lt-ltb 0 s.0 h.0) (le-leb s.0 script.space.servers h.1)
is-actor script (Session u) h = and_from (ltb 0 u.0) (leb u.0 (length script.sessions)) (lt-ltb 0 u.0 h.0) (le-leb u.0 (length script.sessions) h.1)

-- actors at one place are one
same-server : (s t : ServerId) → s.0 ≡ t.0 → s ≡ t
same-server s t e = ap (λ (n : ℕ). record { 0 = n }) e

same-session : (u v : SessionId) → u.0 ≡ v.0 → u ≡ v
same-session u v e = ap (λ (n : ℕ). record { 0 = n }) e

pub place-apart : (script : Script) (a b : Actor) → Exists script a → Exists script b → place_of script.space a ≡ place_of script.space b → a ≡ b
place-apart script Coordinator Coordinator h k e = refl
place-apart script Coordinator (Server t) h k e = absurd (omega (arith, e, k.0))
place-apart script Coordinator (Session v) h k e = absurd (omega (arith, e, k.0))
place-apart script (Server s) Coordinator h k e = absurd (omega (arith, e, h.0))
place-apart script (Server s) (Server t) h k e = ap (λ (x : ServerId). Server x) (same-server s t e)
place-apart script (Server s) (Session v) h k e = absurd (omega (arith, e, h.1, k.0))
place-apart script (Session u) Coordinator h k e = absurd (omega (arith, e, h.0))
place-apart script (Session u) (Server t) h k e = absurd (omega (arith, e, k.1, h.0))
place-apart script (Session u) (Session v) h k e = ap (λ (x : SessionId). Session x) (same-session u v (omega (arith, e)))

-- each place is that of an actor
pub actor-at : (script : Script) (k : ℕ) → k < 1 + script.space.servers + length script.sessions → (a : Actor) × Exists script a × (place_of script.space a ≡ k)
actor-at script zero lt = (Coordinator, tt, refl)
actor-at script (suc k) lt =
    ⊎_elim
    (λ (h : k < script.space.servers). (Server (record { 0 = suc k }), (omega arith, omega (arith, h)), refl))
    (λ (h : script.space.servers ≤ k). later (suc k - script.space.servers) (omega (arith, h)) (omega (arith, h)) (omega (arith, h, lt)))
    (below-or-not k script.space.servers)
  where
    later : (n : ℕ) → script.space.servers + n ≡ suc k → 0 < n → n ≤ length script.sessions → (a : Actor) × Exists script a × (place_of script.space a ≡ suc k)
    later n e some le = (Session (record { 0 = n }), (some, le), e)

module _ (script : Script) where
  abbrev pub AreRising : ℕ → List OwnedPort → Type 0
  AreRising k [] = ⊤
  AreRising k (t ∷ ts) = (k ≤ place_at script t) × AreRising (suc (place_at script t)) ts

  above : (k : ℕ) (ts : List OwnedPort) (u : OwnedPort) → AreRising k ts → IsIn u ts → k ≤ place_at script u
  above k [] u r i = absurd i
  above k (t ∷ ts) u r (inl e) = omega (arith, r.0, ap (place_at script) e)
  above k (t ∷ ts) u r (inr i) = omega (arith, r.0, above (suc (place_at script t)) ts u r.1 i)

  -- rising places that leave none out below n are all of these
  pub filled : (n k : ℕ) (ts : List OwnedPort) → k ≤ n → AreRising k ts
      → ((t : OwnedPort) → IsIn t ts → place_at script t < n)
      → ((j : ℕ) → k ≤ j → j < n → (t : OwnedPort) × IsIn t ts × (place_at script t ≡ j))
      → AreInPlaces script k ts × (k + length ts ≡ n)
  filled n k [] le r lt has = (tt, ⊎_elim (λ (h : k < n). absurd (has k (omega arith) h).1) (λ (h : n ≤ k). omega (arith, h, le)) (below-or-not k n))
  filled n k (t ∷ ts) le r lt has =
      let p = lt t (inl refl) in
      let h = has k (omega arith) (omega (arith, p, r.0)) in
      let here : place_at script t ≡ k =
      ⊎_elim (λ (e : h.0 ≡ t). ap (place_at script) (sym e) ∙ h.2)
      (λ (i : IsIn h.0 ts). absurd (omega (arith, above (suc (place_at script t)) ts h.0 r.1 i, r.0, h.2))) h.1 in
      let rest =
      filled n (suc k) ts (omega (arith, p, here)) (subst (λ j. AreRising (suc j) ts) here r.1) (λ u i. lt u (inr i))
      (λ j kj jn.
      let u = has j (omega (arith, kj)) jn in
      ⊎_elim (λ (e : u.0 ≡ t). absurd (omega (arith, ap (place_at script) e, u.2, here, kj))) (λ (i : IsIn u.0 ts). (u.0, i, u.2)) u.1) in
      ((here, rest.0), omega (arith, rest.1))

  -- places that don't fall, of actors that differ, rise
  pub rises : (k : ℕ) (ts : List OwnedPort) → ((d : OwnedPort) → 0 < length ts
      → k ≤ place_at script (slice_index_or ts 0 d)) → IsNonDecreasingBy (place_at script) ts
      → AllByRecursion (λ (t : OwnedPort). Exists script t.actor) ts → IsDistinct same_actor (map (λ (t : OwnedPort). t.actor) ts) → AreRising k ts
  rises k [] low up real apart = tt
  rises k (t ∷ []) low up real apart = (low t (omega arith), tt)
  rises k (t ∷ u ∷ ts) low up real apart =
      let le : place_at script t ≤ place_at script u = up 0 1 t (omega arith) (omega arith) in
      let differ : same_actor t.actor u.actor ≡ false = (IsDistinct-head same_actor t.actor (u.actor ∷ map (λ (x : OwnedPort). x.actor) ts) apart).0 in (
        low t (omega arith),
        rises (suc (place_at script t)) (u ∷ ts)
            (λ d some.
            ⊎_elim (λ (h : place_at script t < place_at script u). omega (arith, h))
            (λ (h : place_at script u ≤ place_at script t).
            let same : t.actor ≡ u.actor = place-apart script t.actor u.actor real.0 real.1.0 (omega (arith, le, h)) in
            absurd (true≢false (sym (same_as_itself t.actor) ∙ ap (same_actor t.actor) same ∙ differ)))
            (below-or-not (place_at script t) (place_at script u)))
            (λ i j d ij lt. up (suc i) (suc j) d (omega (arith, ij)) (omega (arith, lt))) real.1
            (IsDistinct-tail same_actor t.actor (u.actor ∷ map (λ (x : OwnedPort). x.actor) ts) apart),
      )
