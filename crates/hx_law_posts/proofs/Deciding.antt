-- What a leader decides on a write that fits is sound, in every configuration of the space.
use Rattle.hx_law_lemmas.proofs.Lemmas.Vocabulary.{[], AnswerUpTo, arith, assigned, by_mark, Caller, cond_both, Config, decide, Decision, Effect, effect_of}
use Rattle.hx_law_lemmas.proofs.Lemmas.Vocabulary.{eq-eqb, eqb, false, first_lost, Fits, fresh, granted, IsAnswerOf, IsMaybeObjectOf, IsRegionOf, IsSessionOf}
use Rattle.hx_law_lemmas.proofs.Lemmas.Vocabulary.{IsSoundAnswer, IsSpace, key_region, KeyState, latest_of, leb, List, ltb, Mark, mark_of, None, Op, Option}
use Rattle.hx_law_lemmas.proofs.Lemmas.Vocabulary.{or_left, Place, places_of, refl, refusal, RegionId, same_region, Some, Space, stuck_of, StuckAt, subst, sym}
use Rattle.hx_law_lemmas.proofs.Lemmas.Vocabulary.{top_of, touches_of, Update, Value, ℕ, ⊤, ◌+◌, ◌<◌, ◌≡◌, ◌≤◌}
use Rattle.hx_types.specs.declared.outcomes.Decision.TheVariants as a_decision
use Rattle.hx_law_lemmas.proofs.Lemmas.{all-in, when_some_both, effect-sound, ArePlaced, placed}
use Rattle.hx_law_posts.proofs.Bounds.{IsSoundAt, IsSoundConfig, bounds}
use Rattle.hx_law_posts.proofs.Slots.{IsSoundSlot}
use Rattle.hx_law_posts.proofs.Kept.{latest-sound, mark-sound, touches-below}
use Rattle.hx_law_posts.proofs.Doubts.{lost-region, stuck-region}

-- a decision that a leader may make
abbrev pub IsSoundDecision : Space → ℕ → ℕ → RegionId → KeyState → Decision → Type 0
IsSoundDecision space sessions n g t a_decision.Old = ⊤
IsSoundDecision space sessions n g t (a_decision.Again v answer) = (v.0 ≤ n) × IsSoundAnswer (bounds space sessions n) answer
IsSoundDecision space sessions n g t (a_decision.Wait v) = v.0 ≤ n
IsSoundDecision space sessions n g t (a_decision.Stuck h) = IsRegionOf space h
IsSoundDecision space sessions n g t (a_decision.Assign u) = IsSoundAt space sessions n g u × (top_of t < u.version.0)

module _ (space : Space) (valid : IsSpace space) (sessions n : ℕ) (config : Config) (sound_config : IsSoundConfig space n config)
    (t : KeyState) (h : IsSoundSlot space sessions n (key_region space t.base.key) t) (low : top_of t < n)
    (caller : Caller) (session : IsSessionOf sessions caller.session) where
  -- the region of the key
  abbrev region : RegionId
  region = key_region space t.base.key

  -- the latest object
  abbrev old : Option (List Value)
  old = latest_of region t

  -- what is granted through such places
  granted-sound : (e : Effect) → IsMaybeObjectOf space e.object → IsAnswerOf space e.answer → AnswerUpTo (n + 1) e.answer
      → (changes : _) (touches : _) → (new : Option (List Value))
      → ArePlaced space valid t.base.key old new touches (top_of t)
      (places_of space t.base.key old new changes (top_of t) touches)
      → IsSoundAt space sessions n region (granted t caller e (places_of space t.base.key old new changes (top_of t) touches)) × (top_of t < top_of t + 1)
  granted-sound e object answer small changes touches new p = (
    record {
      sound = record {
        of_space = record {
          key = h.base.of_space.key;
          version = omega arith;
          answer = answer;
          object = object;
          begins = p.begins;
          regions = p.regions;
          once = p.once;
          few = p.few;
          after = p.after;
        };
        version = omega (arith, low);
        session = session;
        answer = small;
      };
      version = omega (arith, low);
      place = or_left (same_region region region) _ (eq-eqb region.0 region.0 refl);
    },
    omega arith,
  )

  module _ (op : Op) (fits : Fits space op) where
    -- the effect of the write
    abbrev effect : Effect
    effect = effect_of space old op

    -- the places of the write
    abbrev places : List Place
    places = places_of space t.base.key old effect.object effect.changes (top_of t) (touches_of t)

    -- they are places of an update
    write-placed : ArePlaced space valid t.base.key old effect.object (touches_of t) (top_of t) places
    write-placed = placed space valid t.base.key old effect.object (touches_of t) effect.changes (top_of t) (touches-below space sessions n region t h)

    -- what is assigned
    assigned-sound : IsSoundDecision space sessions n region t (a_decision.Assign (assigned space config region t caller op))
    assigned-sound =
        let e = effect-sound space old op (latest-sound space sessions n region t h) fits in
        when_some_both (first_lost config places) (granted t caller effect places)
        (λ (g : RegionId). let r = refusal space config t old g in granted t caller r.0 r.1)
        (λ (u : Update). IsSoundAt space sessions n region u × (top_of t < u.version.0))
        (λ q. granted-sound effect e.0 e.1 (e.2 (n + 1)) effect.changes (touches_of t) effect.object write-placed)
        (
        λ g q. granted-sound (refusal space config t old g).0 (latest-sound space sessions n region t h)
        (lost-region space config places g (λ p i. all-in (λ (x : Place). IsRegionOf space x.region) places p write-placed.regions i) q) sound_config.epoch
        false [] old (placed space valid t.base.key old old [] false (top_of t) (λ x i. absurd i))
        )

    -- stuck, or assigned
    fresh-sound : IsSoundDecision space sessions n region t (fresh space config region t caller op)
    fresh-sound =
        when_some_both (stuck_of config t) (a_decision.Assign (assigned space config region t caller op))
        (λ (x : StuckAt). a_decision.Stuck x.region) (IsSoundDecision space sessions n region t)
        (λ e. assigned-sound)
        (λ x e. stuck-region-of x e)
      where
        stuck-region-of : (x : StuckAt) → stuck_of config t ≡ Some x → IsRegionOf space x.region
        stuck-region-of x e = stuck-region space sessions n region t h config x e

    -- the decision by the session's mark
    pub decide-sound : IsSoundDecision space sessions n region t (decide space config region t caller op)
    decide-sound =
        by (mark_of caller.session t) refl
      where
        by : (o : Option Mark) → mark_of caller.session t ≡ o → IsSoundDecision space sessions n region t (by_mark space config region t caller op o)
        by None e = fresh-sound
        by (Some m) e =
            let k = mark-sound space sessions n region t h caller.session m e in
            cond_both (ltb caller.number m.number) a_decision.Old _ (IsSoundDecision space sessions n region t) (λ a. tt)
            (
            λ a. cond_both (eqb m.number caller.number) _ (fresh space config region t caller op) (IsSoundDecision space sessions n region t)
            (
            λ b. cond_both (leb m.version.0 t.floor) (a_decision.Again m.version m.answer) (a_decision.Wait m.version)
            (IsSoundDecision space sessions n region t)
            (λ c. (k.version, (k.of_space, k.answer)))
            (λ c. k.version)
            )
            (λ b. fresh-sound)
            )

-- the decision at the region of the key
pub decide-at : (space : Space) (valid : IsSpace space) (sessions n : ℕ) (config : Config)
    → IsSoundConfig space n config → (g : RegionId) (t : KeyState) → key_region space t.base.key ≡ g
    → IsSoundSlot space sessions n g t → top_of t < n → (caller : Caller) → IsSessionOf sessions caller.session
    → (op : Op) → Fits space op → IsSoundDecision space sessions n g t (decide space config g t caller op)
decide-at space valid sessions n config sound_config g t e h low caller session op fits =
    subst (λ (k : RegionId). IsSoundDecision space sessions n k t (decide space config k t caller op)) e
    (decide-sound space valid sessions n config sound_config t
    (subst (λ (k : RegionId). IsSoundSlot space sessions n k t) (sym e) h) low caller session op fits)
