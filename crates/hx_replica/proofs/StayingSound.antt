-- A server's step leaves it sound, where it and its input are.
use Rattle.std.proofs.Common.{◌≡◌, ℕ, ◌+◌, ◌<◌, ◌≤◌, List, [], ◌∷◌, length, map, true, inl, inr, refl, sym, ◌∙◌, subst, arith, leb}
use Rattle.std.specs.List.{AllByRecursion}
use Rattle.std.proofs.lemmas.Bool.{cond_both, false≢true, le-leb}
use Rattle.hx_model.specs.Types.{Input, RegionId, ServerId, Space, Update}
use Rattle.hx_types.specs.Configs.{first_config, lists}
use Rattle.hx_types.specs.Words.{IsIn, below, text_below}
use Rattle.hx_types.specs.Spaces.{IsRegionOf, IsServerOf, IsSpace}
use Rattle.hx_model.specs.ServerSteps.{Replica, ServerState, listed_regions, server_at_start, server_step}
use Rattle.hx_model.specs.Slots.{KeyState, top_above}
use Rattle.hx_law_folds.specs.Folding.{Descends, KeysAscend, above, folded, folded_replica, folded_server}
use Rattle.hx_law_lemmas.proofs.Lemmas.{in-below, in-filter, in-map}
use Rattle.hx_law_lemmas.proofs.Lemmas as law_lemmas
use Rattle.hx_law_posts.proofs.Lemmas as law_posts
use Rattle.hx_law_posts.proofs.Lemmas.{first-of_space, kept_of-sound, server-good}
use Rattle.hx_replica.specs.Servers.{ServerValue}
use Rattle.hx_replica.specs.Sound.{IsSoundAt, IsSoundInput, IsSoundReplica, IsSoundServer, IsSoundSlot}
use Rattle.hx_replica.proofs.Sounding.{given, server}

-- the updates above a version descend to it
below_next : (b v : ℕ) (u : Update) (us : List Update) → top_above b us < u.version.0 → v < u.version.0 → top_above v (above v us) < u.version.0
below_next b v u [] l m = m
below_next b v u (w ∷ ws) l m = cond_both (leb w.version.0 v) [] (w ∷ above v ws) (λ (xs : List Update). top_above v xs < u.version.0) (λ t. m) (λ f. l)

descends_above : (b v : ℕ) (us : List Update) → law_posts.Descends b us → Descends v (above v us)
descends_above b v [] h = tt
descends_above b v (u ∷ us) h =
    cond_both (leb u.version.0 v) [] (u ∷ above v us) (Descends v)
    (λ t. tt)
    (
    λ f. let no : u.version.0 ≤ v → ⊥ = λ l. false≢true (sym f ∙ le-leb u.version.0 v l) in
    (below_next b v u us h.0 (omega (arith, no)), descends_above b v us h.1)
    )

in_above : (v : ℕ) (us : List Update) (x : Update) → IsIn x (above v us) → IsIn x us
in_above v [] x = λ i. i
in_above v (u ∷ us) x =
    cond_both (leb u.version.0 v) [] (u ∷ above v us) (λ (xs : List Update). IsIn x xs → IsIn x (u ∷ us)) (λ t i. absurd i)
    (λ f i. elim i [ inl e ↦ inl e | inr j ↦ inr (in_above v us x j) ])

module _ (space : Space) (sessions n : ℕ) where
  at : (g : RegionId) (u : Update) → law_posts.IsSoundAt space sessions n g u → IsSoundAt space sessions n g u
  at g u h = record { sound = h.sound; version = h.version; place = h.place }

  -- a slot without its past
  slot : (g : RegionId) (t : KeyState) → law_posts.IsSoundSlot space sessions n g t → IsSoundSlot space sessions n g (folded g t)
  slot g t h = record {
    base = kept_of-sound space sessions n g t h;
    descends = descends_above t.base.floor.0 t.floor t.accepted h.ordered.descends;
    from_base = omega arith;
    floor = h.floor;
    accepted = λ u i. at g u (h.accepted u (in_above t.floor t.accepted u i));
    early = λ u i. at g u (h.early u i);
  }

  each : (g : RegionId) (x : KeyState) (ys : List KeyState)
      → ((y : KeyState) → IsIn y ys → text_below x.base.key y.base.key ≡ true)
      → AllByRecursion (λ (t : KeyState). text_below x.base.key t.base.key ≡ true) (map (folded g) ys)
  each g x [] f = tt
  each g x (y ∷ ys) f = (f y (inl refl), each g x ys (λ z i. f z (inr i)))

  ascend : (g : RegionId) (xs : List KeyState) → law_lemmas.Ascend law_lemmas.state_key xs → KeysAscend (map (folded g) xs)
  ascend g [] h = tt
  ascend g (x ∷ xs) h = (each g x xs h.0, ascend g xs h.1)

  replica : (r : Replica) → law_posts.IsSoundReplica space sessions n r → IsSoundReplica space sessions n (folded_replica r)
  replica r h = record {
    region = h.region;
    slots = λ t i. (let from = in-map (folded r.region) r.states t i in
        subst (IsSoundSlot space sessions n r.region) (sym from.2) (slot r.region from.0 (h.slots from.0 from.1)));
    ascend = ascend r.region r.states h.ascend;
  }

  replicas : (s : ServerState) → ((r : Replica) → IsIn r s.replicas → law_posts.IsSoundReplica space sessions n r)
      → (r : Replica) → IsIn r (folded_server s).replicas → IsSoundReplica space sessions n r
  replicas s h r i = (let from = in-map folded_replica s.replicas r i in
      subst (IsSoundReplica space sessions n) (sym from.2) (replica from.0 (h from.0 from.1)))

-- what the step leaves
pub stays_sound : (space : Space) (sessions n : ℕ) (s : ServerState) (input : Input)
    → IsSoundServer space sessions n s → IsSoundInput space sessions n s.id input
    → IsSoundServer space sessions (n + 1) (folded_server (server_step space s input).state)
stays_sound space sessions n s input h k =
    let now = server space sessions n s h in
    let later = law_posts.server-up space sessions n (n + 1) (omega arith) s.id s now in
    let relies : law_posts.Relies space sessions (n + 1) s.id s = record { valid = h.valid; exists = h.exists; sound = later } in
    let next = (server-good space sessions (n + 1) s.id s relies n now (omega arith) input (given space sessions n s input k)).state in
    record {
      valid = h.valid;
      exists = subst (IsServerOf space) (sym next.id) h.exists;
      config = next.config.of_space;
      epoch = next.config.epoch;
      replicas = replicas space sessions (n + 1) (server_step space s input).state next.replicas;
    }

-- what it holds at the start
pub starts_sound : (space : Space) (s : ServerId) → IsSpace space → IsServerOf space s → (sessions : ℕ)
    → IsSoundServer space sessions 0 (server_at_start space s)
starts_sound space s valid exists sessions = record {
  valid = valid;
  exists = exists;
  config = first-of_space space valid;
  epoch = omega arith;
  replicas = λ r i. (
      let m = in-map (λ (g : RegionId). record { region = g; installed = true; states = [] }) (listed_regions (first_config space) s) r i in
      let f = in-filter (λ (g : RegionId). lists (first_config space) g s) _ m.0 m.1 in
      let k = in-map (λ n. record { 0 = n }) (below (length (first_config space).regions)) m.0 f.0 in
      let b = in-below (length (first_config space).regions) k.0 k.1 in
      let c = (first-of_space space valid).count in
      subst (IsSoundReplica space sessions 0) (sym m.2)
      (record { region = subst (IsRegionOf space) (sym k.2) (omega (arith, b, c)); slots = λ t j. absurd j; ascend = tt })
      );
}

pub server_sound : (space : Space) (s : ServerId) (v : ServerValue) → IsSpace space → IsServerOf space s
    → v.space ≡ space → v.state ≡ server_at_start space s → (sessions : ℕ) → IsSoundServer v.space sessions 0 v.state
server_sound space s v valid exists at is sessions =
    subst (λ (x : Space). IsSoundServer x sessions 0 v.state) (sym at)
    (subst (IsSoundServer space sessions 0) (sym is) (starts_sound space s valid exists sessions))
