-- What a hop to the next or the previous position says of the lists of its configuration: whether
-- it stays in the region, or goes on to the region of the neighbouring place.
use Rattle.std.proofs.Common.{◌≡◌, ℕ, zero, suc, ◌+◌, ◌-◌, ◌<◌, ◌⊎◌, inl, inr, List, length, Option, None, Some, refl, sym, ap, ◌∙◌, subst, arith, cond}
use Rattle.std.specs.List.{slice_get}
use Rattle.std.proofs.lemmas.Bool.{cond_both}
use Rattle.hx_model.specs.Types.{At, Blocked, Config, Place, RegionId, ServerId}
use Rattle.hx_types.specs.Configs.{head_of, is_lost, members_of}
use Rattle.hx_types.specs.Words.{IsIn}
use Rattle.hx_model.specs.Neighbours.{enters, enters_last, hop_at, last_member, member_after, member_before, next_of, place_number, preceding_place, prev_of}
use Rattle.hx_model.specs.Neighbours.{region_at}
use Rattle.hx_law_lemmas.proofs.Lemmas.{Apart, Differ, after-before, after-last, after-order, before-in, first-listed, head-order, in-listed, last-server}
use Rattle.hx_law_lemmas.proofs.Lemmas.{number-is, region-is, get-below}
use Rattle.hx_law_epochs.proofs.Lemmas.{HasPlace, next-across, next-within, place-at, prev-across, prev-within}
use Rattle.hx_law_epochs.specs.Epochs.{order}

-- the hop from (g, s) to (h, y): to the next member of the region, or from its last member to the first one of the next place's region
pub record Within (c : Config) (g : RegionId) (s : ServerId) (h : RegionId) (y : ServerId) : Type 0 where
  pub same : h ≡ g
  pub after : member_after s (members_of c g) ≡ Some y

pub record Across (c : Config) (places : List Place) (g : RegionId) (s : ServerId) (h : RegionId) (y : ServerId) : Type 0 where
  pub up : place_number h places ≡ place_number g places + 1
  pub has_place : HasPlace places h
  pub first_in : IsIn s (order c g)
  pub last : member_after s (members_of c g) ≡ None
  pub head : head_of c h ≡ Some y

-- one of the two
abbrev pub Hops : Config → List Place → RegionId → ServerId → RegionId → ServerId → Type 0
Hops c places g s h y = Within c g s h y ⊎ Across c places g s h y

-- entering a place that isn't lost, at this member
entered_at : (c : Config) (k : ℕ) (q : Place) (o : Option ServerId) (y : ServerId) (n : ℕ) → cond (is_lost c q.region) (Blocked q.region) (hop_at k o) ≡ At y n
    → (k ≡ n) × (o ≡ Some y)
entered_at c k q o y n =
    cond_both (is_lost c q.region) (Blocked q.region) (hop_at k o) (λ h. h ≡ At y n → (k ≡ n) × (o ≡ Some y))
    (λ t e. absurd (cc))
    (λ t. hop o)
  where
    hop : (o : Option ServerId) → hop_at k o ≡ At y n → (k ≡ n) × (o ≡ Some y)
    hop None e = absurd (cc)
    hop (Some x) e = (cc, (let q : x ≡ y = cc in ap Some q))

-- at its first
entered : (c : Config) (k : ℕ) (o : Option Place) (y : ServerId) (n : ℕ) → enters c k o ≡ At y n → (k ≡ n)
    × ((q : Place) × (o ≡ Some q) × (head_of c q.region ≡ Some y))
entered c k None y n = λ e. absurd (cc)
entered c k (Some q) y n = λ e. (let r = entered_at c k q (head_of c q.region) y n e in (r.0, (q, refl, r.1)))

-- or at its last
entered_last : (c : Config) (k : ℕ) (o : Option Place) (y : ServerId) (n : ℕ) → enters_last c k o ≡ At y n → (k ≡ n)
    × ((q : Place) × (o ≡ Some q) × (last_member None (members_of c q.region) ≡ Some y))
entered_last c k None y n = λ e. absurd (cc)
entered_last c k (Some q) y n = λ e. (let r = entered_at c k q (last_member None (members_of c q.region)) y n e in (r.0, (q, refl, r.1)))

-- whoever a hop leaves is listed
pub hops-first : (c : Config) (differ : (g : RegionId) → Differ (members_of c g)) (places : List Place) (g : RegionId) (s : ServerId) (h : RegionId)
    (y : ServerId) → Hops c places g s h y → IsIn s (order c g)
hops-first c differ places g s h y (inl a) = (before-in s y (order c g) (after-order s y (members_of c g) (differ g) a.after).0).0
hops-first c differ places g s h y (inr a) = a.first_in

-- and whom it goes to
pub hops-second : (c : Config) (differ : (g : RegionId) → Differ (members_of c g)) (places : List Place) (g : RegionId) (s : ServerId) (h : RegionId)
    (y : ServerId) → Hops c places g s h y → IsIn y (order c h)
hops-second c differ places g s h y (inl a) = subst (λ (r : RegionId). IsIn y (order c r)) (sym a.same)
    (before-in s y (order c g) (after-order s y (members_of c g) (differ g) a.after).0).1
hops-second c differ places g s h y (inr a) = (head-order c h y a.head).0

module _ (c : Config) (places : List Place) (apart : Apart places) (differ : (g : RegionId) → Differ (members_of c g)) where
  -- a region with a place of a number is the region of that place
  region-number : (g : RegionId) → HasPlace places g → region_at places (place_number g places) ≡ g
  region-number g l = let p = place-at places g l in region-is places (place_number g places) p.0 p.1 ∙ p.2

  -- the next position
  pub next-hops : (g : RegionId) → HasPlace places g → (s : ServerId) → IsIn s (order c g) → (y : ServerId) (n : ℕ)
      → next_of c places (place_number g places) s ≡ At y n → Hops c places g s (region_at places n) y
  next-hops g l s i y n e = by (member_after s (members_of c g)) refl
    where
      across : member_after s (members_of c g) ≡ None → (place_number g places + 1 ≡ n)
          × ((q : Place) × (slice_get places (place_number g places + 1) ≡ Some q) × (head_of c q.region ≡ Some y))
          → Hops c places g s (region_at places n) y
      across m (u, (q, f, h)) =
          let num : place_number q.region places ≡ place_number g places + 1 = number-is places (place_number g places + 1) q apart f in
          let r : region_at places n ≡ q.region = ap (region_at places) (sym u) ∙ region-is places (place_number g places + 1) q f in
          inr (record {
            up = ap (λ (x : RegionId). place_number x places) r ∙ num;
            has_place = subst (HasPlace places) (sym r) (subst (λ j. j < length places) (sym num) (get-below places (place_number g places + 1) q f));
            first_in = i;
            last = m;
            head = ap (head_of c) r ∙ h;
          })

      by : (o : Option ServerId) → member_after s (members_of c g) ≡ o → Hops c places g s (region_at places n) y
      by None m = across m (entered c (place_number g places + 1) (slice_get places (place_number g places + 1)) y n
          (sym (next-across c places apart differ g l s m) ∙ e))
      by (Some x) m =
          let q : At x (place_number g places) ≡ At y n = sym (next-within c places apart differ g l s x m) ∙ e in
          let z : x ≡ y = cc in
          let k : place_number g places ≡ n = cc in
          inl (record { same = ap (region_at places) (sym k) ∙ region-number g l; after = m ∙ ap Some z })

  -- the previous position: the hop from it
  pub prev-hops : (g : RegionId) → HasPlace places g → (s : ServerId) → IsIn s (order c g) → (y : ServerId) (n : ℕ)
      → prev_of c places (place_number g places) s ≡ At y n → Hops c places (region_at places n) y g s
  prev-hops g l s i y n e = by (member_before None s (members_of c g)) refl
    where
      across : (k : ℕ) → place_number g places ≡ suc k → member_before None s (members_of c g) ≡ None
          → (suc k - 1 ≡ n) × ((q : Place) × (slice_get places k ≡ Some q) × (last_member None (members_of c q.region) ≡ Some y))
          → Hops c places (region_at places n) y g s
      across k at m (u, (q, f, h)) =
          let num : place_number q.region places ≡ k = number-is places k q apart f in
          let up : k ≡ n = omega (arith, u) in
          let r : region_at places n ≡ q.region = ap (region_at places) (sym up) ∙ region-is places k q f in
          let n1 : place_number (region_at places n) places ≡ k = ap (λ (x : RegionId). place_number x places) r ∙ num in
          inr (record {
            up = omega (arith, at, n1);
            has_place = l;
            first_in = subst (λ (x : RegionId). IsIn y (order c x)) (sym r) (last-server (members_of c q.region) y h);
            last = ap (λ (x : RegionId). member_after y (members_of c x)) r ∙ after-last (members_of c q.region) y (differ q.region) h;
            head = first-listed c g s (in-listed c g s i) m;
          })

      outside : (k : ℕ) → place_number g places ≡ k → member_before None s (members_of c g) ≡ None
          → enters_last c (k - 1) (preceding_place places k) ≡ At y n → Hops c places (region_at places n) y g s
      outside zero at m q = absurd (cc)
      outside (suc k) at m q = across k at m (entered_last c (suc k - 1) (slice_get places k) y n q)

      by : (o : Option ServerId) → member_before None s (members_of c g) ≡ o → Hops c places (region_at places n) y g s
      by None m = outside (place_number g places) refl m (sym (prev-across c places apart differ g l s m) ∙ e)
      by (Some x) m =
          let q : At x (place_number g places) ≡ At y n = sym (prev-within c places apart differ g l s x m) ∙ e in
          let z : x ≡ y = cc in
          let k : place_number g places ≡ n = cc in
          let r : region_at places n ≡ g = ap (region_at places) (sym k) ∙ region-number g l in
          let a : member_after y (members_of c g) ≡ Some s = after-before s y (members_of c g) (differ g) (m ∙ ap Some z) in
          inl (record { same = sym r; after = ap (λ (h : RegionId). member_after y (members_of c h)) r ∙ a })
