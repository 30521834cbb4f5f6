-- Doubts: what is posted of updates that a lost region holds up.
use Rattle.hx_law_lemmas.proofs.Lemmas.Vocabulary.{[], arith, Caller, cond_both, Config, doubt_in, doubts_from, filter, first_lost, inl, inr, is_lost, IsIn}
use Rattle.hx_law_lemmas.proofs.Lemmas.Vocabulary.{IsRegionOf, IsSessionOf, IsSoundPost, KeyState, leader_doubts, leads, leb, List, None, Option, pending_of}
use Rattle.hx_law_lemmas.proofs.Lemmas.Vocabulary.{Place, Post, refl, RegionId, SlotContext, Some, Space, stuck_among, stuck_of, StuckAt, subst, sym, Update}
use Rattle.hx_law_lemmas.proofs.Lemmas.Vocabulary.{Version, waiting_doubt, ℕ, ◌+◌, ◌∷◌, ◌≡◌, ◌≤◌}
use Rattle.hx_types.specs.declared.calls.Answer.TheVariants as an_answer
use Rattle.hx_law_lemmas.proofs.Lemmas.{all-in, in-filter, in-map, in-provided, when_some_both}
use Rattle.hx_law_posts.proofs.Slots.{IsSoundSlot, pending-sound}
use Rattle.hx_law_posts.proofs.SlotPosts.{IsContext, reply-sound}

-- a first lost region is that of a place
pub lost-region : (space : Space) (config : Config) (ps : List Place) (g : RegionId)
    → ((p : Place) → IsIn p ps → IsRegionOf space p.region) → first_lost config ps ≡ Some g → IsRegionOf space g
lost-region space config [] g f = λ e. absurd (cc)
lost-region space config (p ∷ ps) g f =
    cond_both (is_lost config p.region) (Some p.region) (first_lost config ps) (λ o. o ≡ Some g → IsRegionOf space g)
    (λ t e. let q : p.region ≡ g = cc in subst (IsRegionOf space) q (f p (inl refl)))
    (λ t e. lost-region space config ps g (λ x i. f x (inr i)) e)

-- updates are stuck at a region of the space
stuck-among : (space : Space) (config : Config) (us : List Update) (x : StuckAt)
    → ((u : Update) → IsIn u us → (p : Place) → IsIn p u.places → IsRegionOf space p.region)
    → stuck_among config us ≡ Some x → IsRegionOf space x.region
stuck-among space config [] x f = λ e. absurd (cc)
stuck-among space config (u ∷ us) x f =
    when_some_both (first_lost config u.places) (stuck_among config us)
    (λ (g : RegionId). Some (record { version = u.version; region = g })) (λ o. o ≡ Some x → IsRegionOf space x.region)
    (λ q e. stuck-among space config us x (λ w i. f w (inr i)) e)
    (λ g q e. let r : g ≡ x.region = cc in subst (IsRegionOf space) r (lost-region space config u.places g (f u (inl refl)) q))

-- a slot is stuck at a region of the space
pub stuck-region : (space : Space) (sessions n : ℕ) (g : RegionId) (t : KeyState) → IsSoundSlot space sessions n g t
    → (config : Config) (x : StuckAt) → stuck_of config t ≡ Some x → IsRegionOf space x.region
stuck-region space sessions n g t h config x e =
    stuck-among space config (pending_of t) x (λ u i p j. all-in (λ (q : Place). IsRegionOf space q.region) u.places p
    (pending-sound space sessions n g t h u i).sound.of_space.regions j) e

module _ (space : Space) (sessions n : ℕ) (context : SlotContext) (here : IsContext space n context) where
  -- a post of the entry that is sound
  abbrev IsSound : Post → Type 0
  IsSound p = IsSoundPost space sessions n p

  -- a doubt of a region of the space
  pub doubt-sound : (caller : Caller) (version : Version) (g : RegionId) → IsSessionOf sessions caller.session
      → version.0 ≤ n + 1 → IsRegionOf space g → IsSound (doubt_in context caller version g)
  doubt-sound caller version g session l region =
      reply-sound space sessions n context here caller version (an_answer.Doubt g context.config.epoch) session l
      (region, here.config.epoch)

  -- a doubt of a write that waits
  pub waiting-sound : (g : RegionId) (t : KeyState) → IsSoundSlot space sessions n g t → (caller : Caller)
      → IsSessionOf sessions caller.session → (v : Version) → v.0 ≤ n → (p : Post)
      → IsIn p (waiting_doubt context caller v (stuck_of context.config t)) → IsSound p
  waiting-sound g t h caller session v l p = by (stuck_of context.config t) refl
    where
      by : (o : Option StuckAt) → stuck_of context.config t ≡ o → IsIn p (waiting_doubt context caller v o) → IsSound p
      by None e i = absurd i
      by (Some x) e i = elim (in-provided (leb x.version.0 v.0) (doubt_in context caller v x.region ∷ []) p i).1 [
        | inl q ↦ subst IsSound (sym q) (doubt-sound caller v x.region session (omega (arith, l)) (stuck-region space sessions n g t h context.config x e))
        | inr j ↦ absurd j
      ]

  -- the doubts of a leader
  pub leader-sound : (g : RegionId) (t : KeyState) → IsSoundSlot space sessions n g t → (p : Post) → IsIn p (leader_doubts context t) → IsSound p
  leader-sound g t h p i = by (stuck_of context.config t) refl
      (in-provided (leads context.space context.config context.server context.region)
      (doubts_from context t (stuck_of context.config t)) p i).1
    where
      by : (o : Option StuckAt) → stuck_of context.config t ≡ o → IsIn p (doubts_from context t o) → IsSound p
      by None e j = absurd j
      by (Some x) e j =
          let m = in-map (λ (u : Update). doubt_in context u.caller u.version x.region)
          (filter (λ (u : Update). leb x.version.0 u.version.0) (pending_of t)) p j in
          let k = in-filter (λ (u : Update). leb x.version.0 u.version.0) (pending_of t) m.0 m.1 in
          let a = pending-sound space sessions n g t h m.0 k.0 in
          subst IsSound (sym m.2) (doubt-sound m.0.caller m.0.version x.region a.sound.session a.sound.version
          (stuck-region space sessions n g t h context.config x e))
