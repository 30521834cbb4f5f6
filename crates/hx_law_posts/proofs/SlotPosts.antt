-- What a server posts of an update of the space is sound, in every configuration of the space.
use Rattle.hx_law_lemmas.proofs.Lemmas.Vocabulary.{[], ack_to, Acknowledge, Answer, ap, At, Blocked, Bool, Caller, Commit, End, eq-eqb, flat_map, Forget}
use Rattle.hx_law_lemmas.proofs.Lemmas.Vocabulary.{has_place_in, Hold, Hop, inl, inr, IsIn, IsRegionOf, IsServerOf, IsSessionOf, IsSoundAnswer, IsSoundPost}
use Rattle.hx_law_lemmas.proofs.Lemmas.Vocabulary.{IsSoundUpdate, List, list_any, Move, move_posts, next_at, Option, or_left, or_right, Place, place_number}
use Rattle.hx_law_lemmas.proofs.Lemmas.Vocabulary.{Post, prev_at, refl, region_at, RegionId, reply, same_region, ServerId, SlotContext, Space, subst, sym, Take}
use Rattle.hx_law_lemmas.proofs.Lemmas.Vocabulary.{told_to, true, Update, update_to, Version, when_some, ℕ, ◌+◌, ◌∙◌, ◌∷◌, ◌≡◌, ◌≤◌}
use Rattle.hx_law_lemmas.proofs.Lemmas.{all-in, in-flat_map, in-slice_get, AllKnownInLine as AllKnown, KnownInLine as Known}
use Rattle.hx_law_posts.proofs.Bounds.{IsSoundConfig, bounds}
use Rattle.hx_law_posts.proofs.Hops.{Reaches, next-reaches, prev-reaches}

-- a test that holds of an item finds one
pub any-of : {A : Type 0} (test : A → Bool) (xs : List A) (x : A) → IsIn x xs → test x ≡ true → list_any test xs ≡ true
any-of test [] x i t = absurd i
any-of test (y ∷ xs) x (inl e) t = or_left (test y) (list_any test xs) (sym (ap test e) ∙ t)
any-of test (y ∷ xs) x (inr i) t = or_right (test y) (list_any test xs) (any-of test xs x i t)

-- the region of a position that is reached
region-reached : (space : Space) (places : List Place) (x : ServerId) (n : ℕ) (r : Reaches space places x n) → region_at places n ≡ r.place.region
region-reached space places x n r = ap (λ (o : Option Place). when_some o (record { 0 = 0 }) (λ (p : Place). p.region)) r.at

-- the context of a slot: its server and region exist, and its configuration is of the space
pub record IsContext (space : Space) (n : ℕ) (context : SlotContext) : Type 0 where
  pub exists : IsServerOf space context.server
  pub config : IsSoundConfig space n context.config
  pub region : IsRegionOf space context.region

module _ (space : Space) (sessions n : ℕ) (context : SlotContext) (here : IsContext space n context) where
  -- a post of the entry that is sound
  abbrev pub IsSound : Post → Type 0
  IsSound p = IsSoundPost space sessions n p

  -- a reply with a sound answer
  pub reply-sound : (caller : Caller) (version : Version) (answer : Answer) → IsSessionOf sessions caller.session
      → version.0 ≤ n + 1 → IsSoundAnswer (bounds space sessions n) answer → IsSound (reply context caller version answer)
  reply-sound caller version answer session v a = record { from = here.exists; to = session; between = refl; message = (v, a) }

  -- the region of a position is one of the space, and the update has a place there
  reached-region : (u : Update) (x : ServerId) (m : ℕ) → IsSoundUpdate (bounds space sessions n) u
      → Reaches space u.places x m → IsRegionOf space (region_at u.places m)
      × (has_place_in (region_at u.places m) u.places ≡ true)
  reached-region u x m sound r =
      let i = in-slice_get u.places m r.place r.at in
      subst (λ (h : RegionId). IsRegionOf space h × (has_place_in h u.places ≡ true)) (sym (region-reached space u.places x m r)) (
        all-in (λ (p : Place). IsRegionOf space p.region) u.places r.place sound.of_space.regions i,
        any-of (λ (p : Place). same_region p.region r.place.region) u.places r.place i (eq-eqb r.place.region.0 r.place.region.0 refl),
      )

  -- an update to the next replica
  pub update_to-sound : (u : Update) → IsSoundUpdate (bounds space sessions n) u → (p : Post) → IsIn p (update_to context u (next_at context u)) → IsSound p
  update_to-sound u sound p = by (next_at context u) refl
    where
      by : (h : Hop) → next_at context u ≡ h → IsIn p (update_to context u h) → IsSound p
      by (At x m) e i =
          let r = next-reaches space context.config here.config.of_space u.places (place_number context.region u.places) context.server x m e in
          let q = reached-region u x m sound r in
          elim i [
            | inl f ↦ subst IsSound (sym f) (record { from = here.exists; to = r.server; between = refl; message = (here.config.epoch, q.0, sound, q.1) })
            | inr j ↦ absurd j
          ]
      by End e i = absurd i
      by (Blocked h) e i = absurd i

  -- an acknowledgement to the replica before
  ack-at-sound : (u : Update) (x : ServerId) (m : ℕ) → IsSoundUpdate (bounds space sessions n) u
      → prev_at context u ≡ At x m → (p : Post) → IsIn p (ack_to context u (At x m)) → IsSound p
  ack-at-sound u x m sound e p i =
      let r = prev-reaches space context.config here.config.of_space u.places (place_number context.region u.places) context.server x m e in
      let q = reached-region u x m sound r in
      elim i [
        | inl f ↦ subst IsSound (sym f) (record {
          from = here.exists;
          to = r.server;
          between = refl;
          message = (here.config.epoch, q.0, here.region, sound.of_space.key, sound.version);
        })
        | inr j ↦ absurd j
      ]

  pub ack_to-sound : (u : Update) → IsSoundUpdate (bounds space sessions n) u → (p : Post) → IsIn p (ack_to context u (prev_at context u)) → IsSound p
  ack_to-sound u sound p = by (prev_at context u) refl
    where
      by : (h : Hop) → prev_at context u ≡ h → IsIn p (ack_to context u h) → IsSound p
      by (At x m) e i = ack-at-sound u x m sound e p i
      by End e i = absurd i
      by (Blocked h) e i = absurd i

  -- what is posted of a committed update
  told_to-sound : (u : Update) → IsSoundUpdate (bounds space sessions n) u → (p : Post) → IsIn p (told_to context u (prev_at context u)) → IsSound p
  told_to-sound u sound p = by (prev_at context u) refl
    where
      by : (h : Hop) → prev_at context u ≡ h → IsIn p (told_to context u h) → IsSound p
      by (At x m) e i = ack-at-sound u x m sound e p i
      by End e i = elim i [
        | inl f ↦ subst IsSound (sym f) (reply-sound u.caller u.version u.answer sound.session sound.version (sound.of_space.answer, sound.answer))
        | inr j ↦ absurd j
      ]
      by (Blocked h) e i = absurd i

  -- what is posted with moves of sound updates
  pub moves-sound : (us : List Update) → ((u : Update) → IsIn u us → IsSoundUpdate (bounds space sessions n) u)
      → (ms : List Move) → AllKnown us ms → (p : Post) → IsIn p (flat_map (move_posts context) ms) → IsSound p
  moves-sound us sound ms known p i =
      let f = in-flat_map (move_posts context) ms p i in
      by f.0 (known f.0 f.1) f.2
    where
      by : (m : Move) → Known us m → IsIn p (move_posts context m) → IsSound p
      by (Take u) k x = update_to-sound u (sound u k) p x
      by (Hold u) k x = absurd x
      by (Acknowledge v) k x = absurd x
      by (Commit u) k x = told_to-sound u (sound u k) p x
      by Forget k x = absurd x
