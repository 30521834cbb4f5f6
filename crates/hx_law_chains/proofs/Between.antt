-- Who can stand between two positions that are neighbours in some configuration of the run, by the
-- order of the newest: whoever was listed after the first one was the last of its region; nobody
-- else.
use Rattle.std.proofs.Common.{◌≡◌, ◌<◌, ◌⊎◌, inl, inr, List, None, refl, sym, ◌∙◌, subst, arith}
use Rattle.std.proofs.lemmas.Bool.{cases_order}
use Rattle.hx_model.specs.Types.{Config, Place, RegionId, ServerId}
use Rattle.hx_types.specs.Words.{IsBefore, IsIn}
use Rattle.hx_types.specs.Configs.{members_of}
use Rattle.hx_model.specs.Neighbours.{member_after, place_number}
use Rattle.hx_law_lemmas.proofs.Lemmas.{Apart, Differ, after-order, before-in, before-trans, head-nobody, order-cases}
use Rattle.hx_law_epochs.proofs.Lemmas.{GrownOut, HasPlace, ListsServers, PrecedesInChain, number-region, stands-irreflexive}
use Rattle.hx_law_epochs.specs.Epochs.{order}
use Rattle.hx_law_chains.proofs.Hops.{Hops}

module _ (c n : Config) (grown : GrownOut c n) (listed : ListsServers n) (places : List Place) (apart : Apart places)
    (differ : (g : RegionId) → Differ (members_of c g)) (differ_now : (g : RegionId) → Differ (members_of n g)) where
  -- nobody that a region's last member doesn't know stands after it
  abbrev pub Clear : RegionId → ServerId → ServerId → Type 0
  Clear g s z = member_after s (members_of c g) ≡ None → IsBefore s z (order n g) → ⊥

  -- who stands before the second of two neighbours is the first or stands before it, or was listed after it
  pub none-before : (g : RegionId) (s : ServerId) (h : RegionId) (y : ServerId) → HasPlace places g → IsIn s (order c g) → IsIn y (order c h)
      → IsIn s (order n g) → Hops c places g s h y
      → (k : RegionId) (z : ServerId) → IsIn z (order n k) → (k ≡ g → Clear g s z) → PrecedesInChain n places k z h y → ((k ≡ g) × (z ≡ s))
      ⊎ PrecedesInChain n places k z g s
  none-before g s h y l is iy now (inl w) k z iz clear a = elim a.1 [
    | inl p ↦ inr (l, inl (subst (λ (x : RegionId). place_number k places < place_number x places) w.same p))
    | inr p ↦ (let e : k ≡ g = p.0 ∙ w.same in
        let o = after-order s y (members_of c g) (differ g) w.after in
        let b : IsBefore z y (order n g) = subst (λ (x : RegionId). IsBefore z y (order n x)) e p.1 in
        let i = before-in z y (order n g) b in
        elim (o.1 z (grown.same_order g z y (before-in s y (order c g) o.0).1 b)) [
          | inl q ↦ inl (e, q)
          | inr q ↦ inr (l, inr (e, subst (λ (x : RegionId). IsBefore z s (order n x)) (sym e) (grown.keeps_order g z s (listed g z i.0) (listed g s now) q)))
        ])
  ]
  none-before g s h y l is iy now (inr w) k z iz clear a = elim a.1 [
    | inl p ↦ elim (cases_order (place_number k places) (place_number g places)) [
      | inl e ↦ here (number-region n places apart differ_now k g (omega (arith, l, e)) l e)
      | inr (inl q) ↦ inr (l, inl q)
      | inr (inr q) ↦ absurd (let u = w.up in omega (arith, p, q, u))
    ]
    | inr p ↦ absurd (head-nobody c h y z (differ h) w.head (grown.same_order h z y iy (subst (λ (x : RegionId). IsBefore z y (order n x)) p.0 p.1)))
  ]
    where
      here : k ≡ g → ((k ≡ g) × (z ≡ s)) ⊎ PrecedesInChain n places k z g s
      here e = elim (order-cases z s (order n g) (subst (λ (x : RegionId). IsIn z (order n x)) e iz) now) [
        | inl q ↦ inl (e, q)
        | inr (inl b) ↦ inr (l, inr (e, subst (λ (x : RegionId). IsBefore z s (order n x)) (sym e) b))
        | inr (inr b) ↦ absurd (clear e w.last b)
      ]

  -- who stands after the first of two neighbours is the second or stands after it, or was listed after the first
  pub none-after : (g : RegionId) (s : ServerId) (h : RegionId) (y : ServerId) → HasPlace places h → IsIn s (order c g) → IsIn y (order c h)
      → IsIn y (order n h) → IsIn s (order n g) → Hops c places g s h y
      → (k : RegionId) (z : ServerId) → IsIn z (order n k) → (k ≡ g → Clear g s z) → PrecedesInChain n places g s k z → ((k ≡ h) × (z ≡ y))
      ⊎ PrecedesInChain n places h y k z
  none-after g s h y l is iy now sn (inl w) k z iz clear a = elim a.1 [
    | inl p ↦ inr (a.0, inl (subst (λ (x : RegionId). place_number x places < place_number k places) (sym w.same) p))
    | inr p ↦ (let e : k ≡ h = sym p.0 ∙ sym w.same in
        let o = after-order s y (members_of c g) (differ g) w.after in
        let yg : IsIn y (order n g) = subst (λ (x : RegionId). IsIn y (order n x)) w.same now in
        let zg : IsIn z (order n g) = (before-in s z (order n g) p.1).1 in
        elim (order-cases z y (order n g) zg yg) [
          | inl q ↦ inl (e, q)
          | inr (inr b) ↦ inr (a.0, inr (sym e, subst (λ (x : RegionId). IsBefore y z (order n x)) (sym w.same) b))
          | inr (inl b) ↦ absurd (elim (o.1 z (grown.same_order g z y (before-in s y (order c g) o.0).1 b)) [
            | inl q ↦ alone (subst (λ (x : ServerId). IsBefore s x (order n g)) q p.1)
            | inr q ↦ alone (before-trans s z s (members_of n g) (differ_now g) p.1 (grown.keeps_order g z s (listed g z zg) (listed g s sn) q))
          ])
        ])
  ]
    where
      alone : IsBefore s s (order n g) → ⊥
      alone b = stands-irreflexive n places apart differ_now g s (subst (HasPlace places) w.same l, inr (refl, b))
  none-after g s h y l is iy now sn (inr w) k z iz clear a = elim a.1 [
    | inl p ↦ elim (cases_order (place_number k places) (place_number h places)) [
      | inl e ↦ here (number-region n places apart differ_now k h a.0 l e)
      | inr (inl q) ↦ absurd (let u = w.up in omega (arith, p, q, u))
      | inr (inr q) ↦ inr (a.0, inl q)
    ]
    | inr p ↦ absurd (clear (sym p.0) w.last p.1)
  ]
    where
      here : k ≡ h → ((k ≡ h) × (z ≡ y)) ⊎ PrecedesInChain n places h y k z
      here e = elim (order-cases z y (order n h) (subst (λ (x : RegionId). IsIn z (order n x)) e iz) now) [
        | inl q ↦ inl (e, q)
        | inr (inr b) ↦ inr (a.0, inr (sym e, b))
        | inr (inl b) ↦ absurd (head-nobody c h y z (differ h) w.head (grown.same_order h z y iy b))
      ]
