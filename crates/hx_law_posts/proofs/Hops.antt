-- Neighbours in a configuration of the space are servers of the space, at a place of the update.
use Rattle.hx_law_lemmas.proofs.Lemmas.Vocabulary.{[], ap, arith, At, Blocked, cond_both, Config, enters, enters_last, first_of_list, head_of, Hop, hop_at, inl}
use Rattle.hx_law_lemmas.proofs.Lemmas.Vocabulary.{inr, is_lost, IsConfigOf, IsIn, IsServerOf, last_member, List, Member, member_after, member_before}
use Rattle.hx_law_lemmas.proofs.Lemmas.Vocabulary.{members_at, members_of, next_of, None, Option, option_map, Place, preceding_place, prev_of, refl, RegionId}
use Rattle.hx_law_lemmas.proofs.Lemmas.Vocabulary.{same_server, ServerId, slice_get, Some, Space, subst, suc, sym, when_some, zero, ℕ, ◌+◌, ◌-◌, ◌∙◌, ◌∷◌, ◌≡◌}
use Rattle.hx_law_lemmas.proofs.Lemmas.Vocabulary.{◌⊎◌}
use Rattle.hx_law_lemmas.proofs.Lemmas.{when_some_both}
use Rattle.hx_law_posts.proofs.Configs.{member-server}

-- the member of a list with this server
abbrev IsMember : List Member → ServerId → Type 0
IsMember members s = (m : Member) × IsIn m members × (m.server ≡ s)

-- the first member
first-member : (members : List Member) (s : ServerId) → when_some (first_of_list members) None (λ (m : Member). Some m.server) ≡ Some s → IsMember members s
first-member [] s e = absurd (cc)
first-member (m ∷ rest) s e = (m, inl refl, let q : m.server ≡ s = cc in q)

-- the member after a server
after-member : (s : ServerId) (members : List Member) (x : ServerId) → member_after s members ≡ Some x → IsMember members x
after-member s [] x = λ e. absurd (cc)
after-member s (m ∷ rest) x =
    cond_both (same_server m.server s) (option_map (λ (y : Member). y.server) (first_of_list rest))
    (member_after s rest) (λ o. o ≡ Some x → IsMember (m ∷ rest) x)
    (λ t e. let r = by rest e in (r.0, inr r.1, r.2))
    (λ t e. let r = after-member s rest x e in (r.0, inr r.1, r.2))
  where
    by : (rest : List Member) → option_map (λ (y : Member). y.server) (first_of_list rest) ≡ Some x → IsMember rest x
    by [] e = absurd (cc)
    by (y ∷ ys) e = (y, inl refl, let q : y.server ≡ x = cc in q)

-- the member before a server, or what was found before the list
before-member : (found : Option ServerId) (s : ServerId) (members : List Member) (x : ServerId)
    → member_before found s members ≡ Some x → (found ≡ Some x) ⊎ IsMember members x
before-member found s [] x = λ e. absurd (cc)
before-member found s (m ∷ rest) x =
    cond_both (same_server m.server s) found (member_before (Some m.server) s rest) (λ o. o ≡ Some x → (found ≡ Some x) ⊎ IsMember (m ∷ rest) x)
    (λ t e. inl e)
    (λ t e. elim (before-member (Some m.server) s rest x e) [
      | inl q ↦ inr (m, inl refl, let w : m.server ≡ x = cc in w)
      | inr r ↦ inr (r.0, inr r.1, r.2)
    ])

-- the last member, or what was found before the list
last-member : (found : Option ServerId) (members : List Member) (x : ServerId) → last_member found members ≡ Some x → (found ≡ Some x) ⊎ IsMember members x
last-member found [] x e = inl e
last-member found (m ∷ rest) x e = elim (last-member (Some m.server) rest x e) [
  | inl q ↦ inr (m, inl refl, let w : m.server ≡ x = cc in w)
  | inr r ↦ inr (r.0, inr r.1, r.2)
]

-- a hop to a server of the space, at a place of the list
pub record Reaches (space : Space) (places : List Place) (x : ServerId) (n : ℕ) : Type 0 where
  pub place : Place
  pub at : slice_get places n ≡ Some place
  pub server : IsServerOf space x

module _ (space : Space) (config : Config) (of_space : IsConfigOf space config) where
  -- the server of a member
  server-of : (g : RegionId) (x : ServerId) → IsMember (members_of config g) x → IsServerOf space x
  server-of g x r = subst (IsServerOf space) r.2 (member-server space config of_space g r.0 r.1)

  -- the first member of a region is a server of the space
  pub head-server : (g : RegionId) (x : ServerId) → head_of config g ≡ Some x → IsServerOf space x
  head-server g x e = server-of g x (first-member (members_of config g) x e)

  -- a member at a place
  at-place : (places : List Place) (n : ℕ) (x : ServerId) → IsMember (members_at config places n) x → Reaches space places x n
  at-place places n x =
      when_some_both (slice_get places n) [] (λ (p : Place). members_of config p.region) (λ (l : List Member). IsMember l x → Reaches space places x n)
      (λ e r. absurd r.1)
      (λ (p : Place) e r. record { place = p; at = e; server = server-of p.region x r })

  -- a hop to the first of some members is at the place that was given
  hop-at : (n : ℕ) (o : Option ServerId) (x : ServerId) (m : ℕ) → hop_at n o ≡ At x m → (o ≡ Some x) × (n ≡ m)
  hop-at n None x m e = absurd (cc)
  hop-at n (Some s) x m e = (let q : s ≡ x = cc in ap Some q, cc)

  -- a hop into a place from the front
  enters-reaches : (places : List Place) (n : ℕ) (o : Option Place) → slice_get places n ≡ o → (x : ServerId) (m : ℕ)
      → enters config n o ≡ At x m → Reaches space places x m
  enters-reaches places n None f x m = λ e. absurd (cc)
  enters-reaches places n (Some p) f x m =
      cond_both (is_lost config p.region) (Blocked p.region) (hop_at n (head_of config p.region)) (λ h. h ≡ At x m → Reaches space places x m)
      (λ t e. absurd (cc))
      (λ t e. let h = hop-at n (head_of config p.region) x m e in
      record { place = p; at = ap (slice_get places) (sym h.1) ∙ f; server = head-server p.region x h.0 })

  -- a hop into a place from the back
  enters_last-reaches : (places : List Place) (n : ℕ) (o : Option Place) → slice_get places n ≡ o
      → (x : ServerId) (m : ℕ) → enters_last config n o ≡ At x m → Reaches space places x m
  enters_last-reaches places n None f x m = λ e. absurd (cc)
  enters_last-reaches places n (Some p) f x m =
      cond_both (is_lost config p.region) (Blocked p.region)
      (hop_at n (last_member None (members_of config p.region))) (λ h. h ≡ At x m → Reaches space places x m)
      (λ t e. absurd (cc))
      (
      λ t e. let h = hop-at n (last_member None (members_of config p.region)) x m e in
      elim (last-member None (members_of config p.region) x h.0) [
        | inl q ↦ absurd (cc)
        | inr r ↦ record { place = p; at = ap (slice_get places) (sym h.1) ∙ f; server = server-of p.region x r }
      ]
      )

  -- a hop to a member here, or else another hop
  here-or : (places : List Place) (n : ℕ) (o : Option ServerId) (other : Hop) (x : ServerId) (m : ℕ)
      → ((y : ServerId) → o ≡ Some y → IsMember (members_at config places n) y)
      → (other ≡ At x m → Reaches space places x m)
      → when_some o other (λ (y : ServerId). At y n) ≡ At x m → Reaches space places x m
  here-or places n None other x m f g e = g e
  here-or places n (Some y) other x m f g e =
      let q : y ≡ x = cc in
      let w : n ≡ m = cc in
      subst (λ k. Reaches space places x k) w (subst (λ (z : ServerId). Reaches space places z n) q (at-place places n y (f y refl)))

  -- the next position
  pub next-reaches : (places : List Place) (n : ℕ) (s x : ServerId) (m : ℕ) → next_of config places n s ≡ At x m → Reaches space places x m
  next-reaches places n s x m =
      here-or places n (member_after s (members_at config places n)) (enters config (n + 1) (slice_get places (n + 1))) x m
      (λ y e. after-member s (members_at config places n) y e)
      (enters-reaches places (n + 1) (slice_get places (n + 1)) refl x m)

  -- the position before
  pub prev-reaches : (places : List Place) (n : ℕ) (s x : ServerId) (m : ℕ) → prev_of config places n s ≡ At x m → Reaches space places x m
  prev-reaches places n s x m =
      here-or places n (member_before None s (members_at config places n)) (enters_last config (n - 1) (preceding_place places n)) x m
      (λ y e. elim (before-member None s (members_at config places n) y e) [ inl q ↦ absurd (cc) | inr r ↦ r ])
      (by n)
    where
      by : (n : ℕ) → enters_last config (n - 1) (preceding_place places n) ≡ At x m → Reaches space places x m
      by zero e = absurd (cc)
      by (suc k) e = enters_last-reaches places k (slice_get places k) refl x m
          (subst (λ i. enters_last config i (slice_get places k) ≡ At x m) (let q : suc k - 1 ≡ k = omega arith in q) e)
