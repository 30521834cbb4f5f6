-- A server's replicas: those of the regions in which its configuration lists it, each once, empty where not installed; what changes of them keeps this.
use Rattle.hx_law_lemmas.proofs.Lemmas.Vocabulary.{[], adopted, adopted_replica, adopted_state, ap, Bool, cond, cond_both, Config, context_of, false}
use Rattle.hx_law_lemmas.proofs.Lemmas.Vocabulary.{first_config, if_installed, inl, inr, is_active, is_lost, IsIn, KeyState, List, listed_regions, lists, map}
use Rattle.hx_law_lemmas.proofs.Lemmas.Vocabulary.{None, Option, refl, RegionId, Replica, replica_for, replica_of, replica_or_new, server_at_start, ServerId}
use Rattle.hx_law_lemmas.proofs.Lemmas.Vocabulary.{ServerState, Some, Space, subst, sym, true, when_some, with_config, with_replica, ◌∙◌, ◌≡◌}
use Rattle.hx_law_lemmas.proofs.Lemmas.{in-map, in-with_replica, replica-found, replica-here, replica-other, which-region, Once, listed-apart, listed-only}
use Rattle.hx_law_lemmas.proofs.Lemmas.{listed-there, made-found, made-in, made-once, mapped-found, mapped-from, mapped-once, once-replaced}
use Rattle.hx_law_epochs.proofs.Facts.{Installed}

-- a server's replicas are those of the regions in which its configuration lists it, each once; one that isn't installed is empty
pub record Shaped (s : ServerId) (st : ServerState) : Type 0 where
  pub id : st.id ≡ s
  pub there : (g : RegionId) → lists st.config g s ≡ true → (r : Replica) × (replica_of g st.replicas ≡ Some r)
  pub only : (g : RegionId) (r : Replica) → replica_of g st.replicas ≡ Some r → lists st.config g s ≡ true
  pub once : Once st.replicas
  pub empty : (r : Replica) → IsIn r st.replicas → r.installed ≡ false → r.states ≡ []

-- at the start all are installed and empty
module _ (space : Space) (s : ServerId) where
  -- the replica of a region
  abbrev new : RegionId → Replica
  new g = record { region = g; installed = true; states = [] }

  pub start-shaped : Shaped s (server_at_start space s)
  start-shaped = record {
    id = refl;
    there = λ g t. (new g, made-found new (λ h. refl) g (listed_regions (first_config space) s) (listed-there (first_config space) g s t));
    only = λ g r e. listed-only (first_config space) g s (made-in new (λ h. refl) g (listed_regions (first_config space) s) r e);
    once = made-once new (λ h. refl) (listed_regions (first_config space) s) (listed-apart (first_config space) s);
    empty = λ r i e. (let m = in-map new (listed_regions (first_config space) s) r i in ap (λ (x : Replica). x.states) m.2);
  }

  pub start-installed : (g : RegionId) → lists (first_config space) g s ≡ true → Installed (server_at_start space s) g
  start-installed g t = record {
    replica = new g;
    found = made-found new (λ h. refl) g (listed_regions (first_config space) s) (listed-there (first_config space) g s t);
    installed = refl;
  }

-- where a replica takes messages, it is found, and its region isn't lost
pub record Takes (st : ServerState) (g : RegionId) (r : Replica) : Type 0 where
  pub found : replica_of g st.replicas ≡ Some r
  pub not_lost : is_lost st.config g ≡ false

pub replica_for-is : (st : ServerState) (g : RegionId) (r : Replica) → replica_for st g ≡ Some r → Takes st g r
replica_for-is st g r = by (is_lost st.config g) refl
  where
    by : (b : Bool) → is_lost st.config g ≡ b → cond b None (replica_of g st.replicas) ≡ Some r → Takes st g r
    by true t e = absurd (cc)
    by false t e = record { found = e; not_lost = t }

pub installed-is : (o : Option Replica) (r : Replica) → if_installed o ≡ Some r → (o ≡ Some r) × (r.installed ≡ true)
installed-is None r = λ e. absurd (cc)
installed-is (Some x) r =
    cond_both x.installed (Some x) None (λ o. o ≡ Some r → (Some x ≡ Some r) × (r.installed ≡ true))
    (λ t e. (e, (let q : x ≡ r = cc in sym (ap (λ (y : Replica). y.installed) q) ∙ t)))
    (λ t e. absurd (cc))

-- ---- one replica replaced by another of the same region

module _ (s : ServerId) (st : ServerState) (shaped : Shaped s st) (r x : Replica) (found : replica_of x.region st.replicas ≡ Some r) where
  -- the server with it
  abbrev changed : ServerState
  changed = record st { replicas = with_replica x st.replicas }

  pub replaced-shaped : (x.installed ≡ false → x.states ≡ []) → Shaped s changed
  replaced-shaped empty = record {
    id = shaped.id;
    there = λ g t. elim (which-region x.region g) [
      | inl q ↦ (x, replica-here g x st.replicas r q (subst (λ (h : RegionId). replica_of h st.replicas ≡ Some r) q found))
      | inr n ↦ (let k = shaped.there g t in (k.0, replica-other g x st.replicas n ∙ k.1))
    ];
    only = λ g y e. elim (which-region x.region g) [
      | inl q ↦ shaped.only g r (subst (λ (h : RegionId). replica_of h st.replicas ≡ Some r) q found)
      | inr n ↦ shaped.only g y (sym (replica-other g x st.replicas n) ∙ e)
    ];
    once = once-replaced x st.replicas shaped.once;
    empty = λ y i. elim (in-with_replica x st.replicas y i) [
      | inl e ↦ subst (λ (z : Replica). z.installed ≡ false → z.states ≡ []) (sym e) empty
      | inr j ↦ shaped.empty y j
    ];
  }

  pub replaced-installed : (r.installed ≡ true → x.installed ≡ true) → (g : RegionId) → Installed st g → Installed changed g
  replaced-installed up g i = elim (which-region x.region g) [
    | inl q ↦ (let f : replica_of g st.replicas ≡ Some r = subst (λ (h : RegionId). replica_of h st.replicas ≡ Some r) q found in
        record { replica = x; found = replica-here g x st.replicas r q f; installed = up (same i.replica i.found f i.installed) })
    | inr n ↦ record { replica = i.replica; found = replica-other g x st.replicas n ∙ i.found; installed = i.installed }
  ]
    where
      same : (y : Replica) → replica_of g st.replicas ≡ Some y → replica_of g st.replicas ≡ Some r → y.installed ≡ true → r.installed ≡ true
      same y e f t = let p : Some y ≡ Some r = sym e ∙ f in let q : y ≡ r = cc in sym (ap (λ (z : Replica). z.installed) q) ∙ t

-- ---- a configuration is adopted

module _ (space : Space) (s : ServerId) (st : ServerState) (shaped : Shaped s st) (config : Config) where
  -- the server with the configuration
  abbrev mid : ServerState
  mid = with_config st config

  -- and once it has adopted it
  abbrev done : ServerState
  done = (adopted space mid).state

  -- the replica of before, or a new one, is of its region
  kept-region : (g : RegionId) → (replica_or_new st.replicas g).region ≡ g
  kept-region g = by (replica_of g st.replicas) refl
    where
      by : (o : Option Replica) → replica_of g st.replicas ≡ o
          → (when_some o (record { region = g; installed = false; states = [] }) (λ (r : Replica). r)).region ≡ g
      by None e = refl
      by (Some r) e = (replica-found g st.replicas r e).1

  -- and empty where not installed
  kept-empty : (g : RegionId) → (replica_or_new st.replicas g).installed ≡ false → (replica_or_new st.replicas g).states ≡ []
  kept-empty g = by (replica_of g st.replicas) refl
    where
      by : (o : Option Replica) → replica_of g st.replicas ≡ o
          → (when_some o (record { region = g; installed = false; states = [] }) (λ (r : Replica). r)).installed
          ≡ false → (when_some o (record { region = g; installed = false; states = [] }) (λ (r : Replica). r)).states ≡ []
      by None e t = refl
      by (Some r) e t = shaped.empty r (replica-found g st.replicas r e).0 t

  -- each region in which the configuration lists the server is found
  mid-there : (g : RegionId) → lists config g s ≡ true → replica_of g mid.replicas ≡ Some (replica_or_new st.replicas g)
  mid-there g t = made-found (replica_or_new st.replicas) kept-region g (listed_regions config st.id)
      (listed-there config g st.id (subst (λ (x : ServerId). lists config g x ≡ true) (sym shaped.id) t))

  pub mid-shaped : Shaped s mid
  mid-shaped = record {
    id = shaped.id;
    there = λ g t. (replica_or_new st.replicas g, mid-there g t);
    only = λ g r e. subst (λ (x : ServerId). lists config g x ≡ true) shaped.id
        (listed-only config g st.id (made-in (replica_or_new st.replicas) kept-region g (listed_regions config st.id) r e));
    once = made-once (replica_or_new st.replicas) kept-region (listed_regions config st.id) (listed-apart config st.id);
    empty = λ r i. (let m = in-map (replica_or_new st.replicas) (listed_regions config st.id) r i in
        subst (λ (x : Replica). x.installed ≡ false → x.states ≡ []) (sym m.2) (kept-empty m.0));
  }

  pub mid-installed : (g : RegionId) → lists config g s ≡ true → Installed st g → Installed mid g
  mid-installed g t i = record {
    replica = i.replica;
    found = mid-there g t ∙ ap (λ (o : Option Replica). Some
        (when_some o (record { region = g; installed = false; states = [] }) (λ (r : Replica). r))) i.found;
    installed = i.installed;
  }

  pub done-shaped : Shaped s done
  done-shaped = record {
    id = shaped.id;
    there = λ g t. (let k = mid-shaped.there g t in
        (adopted_replica space mid k.0, mapped-found (adopted_replica space mid) (λ r. refl) g mid.replicas k.0 k.1));
    only = λ g r e. (let k = mapped-from (adopted_replica space mid) (λ r. refl) g mid.replicas r e in mid-shaped.only g k.0 k.1);
    once = mapped-once (adopted_replica space mid) (λ r. refl) mid.replicas mid-shaped.once;
    empty = λ r i. (let m = in-map (adopted_replica space mid) mid.replicas r i in
        subst (λ (x : Replica). x.installed ≡ false → x.states ≡ []) (sym m.2)
        (λ t. ap (λ (l : List KeyState). map (adopted_state (context_of space mid m.0.region) (is_active mid.config m.0)) l) (mid-shaped.empty m.0 m.1 t)));
  }

  -- what was installed and is still listed stays installed
  pub done-installed : (g : RegionId) → Installed mid g → Installed done g
  done-installed g i = record {
    replica = adopted_replica space mid i.replica;
    found = mapped-found (adopted_replica space mid) (λ r. refl) g mid.replicas i.replica i.found;
    installed = i.installed;
  }
