-- A step of one slot: where its sessions and the configuration's members are known, what is posted names known actors alone.
use Rattle.std.proofs.Common.{◌≡◌, ℕ, inl, inr, [], ◌∷◌, Option, Some, None, refl, sym, subst, leb}
use Rattle.std.specs.List.{filter}
use Rattle.std.proofs.lemmas.Bool.{cond_both}
use Rattle.hx_model.specs.Types.{Actor, Caller, Config, Decision, Op, RegionId, Session, Space, Update, Version}
use Rattle.hx_types.specs.declared.outcomes.Decision.TheVariants as a_decision
use Rattle.hx_types.specs.declared.calls.Answer.TheVariants as an_answer
use Rattle.hx_types.specs.Configs.{leads}
use Rattle.hx_types.specs.Effects.{effect_of, is_write}
use Rattle.hx_model.specs.Leading.{StuckAt, assigned, decide, first_lost, granted, refusal, stuck_of}
use Rattle.hx_model.specs.Places.{places_of}
use Rattle.hx_model.specs.ServerSteps.{SlotStep, SlotContext, accepting, ack_step, by_moves, by_posts, call_step}
use Rattle.hx_model.specs.ServerSteps.{decided, doubt_in, doubts_from, get_answer, get_step, known_to, leader_doubts}
use Rattle.hx_model.specs.ServerSteps.{update_step, waiting_doubt, write_step}
use Rattle.hx_model.specs.Slots.{KeyState, acknowledged, latest_of, object_in, object_of, offered, pending_of, top_of, touches_of}
use Rattle.hx_law_lemmas.proofs.Lemmas.{decides, accepting-known-in_line as accepting-known, acknowledged-known-in_line as acknowledged-known}
use Rattle.hx_law_lemmas.proofs.Lemmas.{offered-known-in_line as offered-known, in-filter, when_some_both}
use Rattle.hx_law_posts.proofs.Lemmas.{held-together, together}
use Rattle.hx_replica.proofs.NamedMembers.{KnowsMembers}
use Rattle.hx_replica.proofs.NamedSlots.{AreGood, IsGood, KnowsCaller, KnowsSlot, ack_to-good, mapped-good, moves-good}
use Rattle.hx_replica.proofs.NamedSlots.{none-good, one-good, pending-known, provided-good, reply-good, together-known}

-- an update that is assigned is of its caller
assigned-caller : (space : Space) (config : Config) (g : RegionId) (t : KeyState) (caller : Caller) (op : Op)
    → (assigned space config g t caller op).caller ≡ caller
assigned-caller space config g t caller op =
    let old = latest_of g t in
    let e = effect_of space old op in
    let places = places_of space t.base.key old e.object e.changes (top_of t) (touches_of t) in
    when_some_both (first_lost config places) (granted t caller e places)
    (λ (h : RegionId). let r = refusal space config t old h in granted t caller r.0 r.1) (λ (u : Update). u.caller ≡ caller)
    (λ q. refl)
    (λ h q. refl)

module _ (Known : Actor → Type 0) where
  module _ (context : SlotContext) (members : KnowsMembers Known context.config) (t : KeyState) (h : KnowsSlot Known t) where
    -- what is posted in the step names known actors alone
    abbrev IsGoodStep : SlotStep → Type 0
    IsGoodStep step = AreGood Known step.posts

    doubt-good : (caller : Caller) (version : Version) (g : RegionId) → Known (Session caller.session) → IsGood Known (doubt_in context caller version g)
    doubt-good caller version g known = reply-good Known context caller version (an_answer.Doubt g context.config.epoch) known

    pub leader-good : AreGood Known (leader_doubts context t)
    leader-good = provided-good Known (leads context.space context.config context.server context.region)
        (doubts_from context t (stuck_of context.config t)) (by (stuck_of context.config t))
      where
        by : (o : Option StuckAt) → AreGood Known (doubts_from context t o)
        by None = none-good Known
        by (Some x) =
            let late = filter (λ (u : Update). leb x.version.0 u.version.0) (pending_of t) in
            mapped-good Known (λ (u : Update). doubt_in context u.caller u.version x.region) late
            (λ u i. doubt-good u.caller u.version x.region
            (pending-known Known t h u (in-filter (λ (w : Update). leb x.version.0 w.version.0) (pending_of t) u i).0))

    accept-good : (u : Update) → KnowsCaller Known u → IsGoodStep (by_moves context (accepting context t (offered context.region t u)))
    accept-good u known =
        let us = u ∷ [] in
        let line = together us t in
        let held = held-together us t in
        moves-good Known context members line (together-known Known us
        (λ w j. elim j [ inl e ↦ subst (KnowsCaller Known) (sym e) known | inr k ↦ absurd k ]) t h)
        (accepting context t (offered context.region t u))
        (accepting-known line context t (offered context.region t u) held
        (offered-known line context.region t u held (inl refl)))

    pub update-good : (u : Update) → KnowsCaller Known u → IsGoodStep (update_step context t u)
    update-good u known =
        cond_both (leb u.version.0 (top_of t)) (by_posts (known_to context t u))
        (by_moves context (accepting context t (offered context.region t u))) IsGoodStep
        (λ b. provided-good Known (leb u.version.0 t.floor) _ (ack_to-good Known context members u))
        (λ b. accept-good u known)

    pub ack-good : (v : ℕ) → IsGoodStep (ack_step context t v)
    ack-good v =
        moves-good Known context members (together [] t) (together-known Known [] (λ u i. absurd i) t h) (acknowledged t v)
        (acknowledged-known (together [] t) t v (held-together [] t))

    module _ (caller : Caller) (known : Known (Session caller.session)) where
      waiting-good : (v : Version) (o : Option StuckAt) → AreGood Known (waiting_doubt context caller v o)
      waiting-good v None = none-good Known
      waiting-good v (Some x) = provided-good Known (leb x.version.0 v.0) _ (one-good Known _ (doubt-good caller v x.region known))

      decided-good : (d : Decision) → ((u : Update) → d ≡ a_decision.Assign u → u.caller ≡ caller) → IsGoodStep (decided context t caller d)
      decided-good a_decision.Old f = none-good Known
      decided-good (a_decision.Again v answer) f = one-good Known _ (reply-good Known context caller v answer known)
      decided-good (a_decision.Wait v) f = waiting-good v (stuck_of context.config t)
      decided-good (a_decision.Stuck g) f = one-good Known _ (doubt-good caller (record { 0 = 0 }) g known)
      decided-good (a_decision.Assign u) f = accept-good u (subst (λ (c : Caller). Known (Session c.session)) (sym (f u refl)) known)

      write-good : (op : Op) → IsGoodStep (write_step context t caller op)
      write-good op =
          decided-good (decide context.space context.config context.region t caller op)
          (λ u e. subst (λ (w : Update). w.caller ≡ caller)
          (sym (decides context.space context.config context.region t caller op u e))
          (assigned-caller context.space context.config context.region t caller op))

      pub call-good : (op : Op) → IsGoodStep (call_step context t caller op)
      call-good op =
          cond_both (is_write op) (write_step context t caller op) (get_step context t caller) IsGoodStep
          (λ w. write-good op)
          (λ w. one-good Known _ (reply-good Known context caller (record { 0 = t.floor }) (get_answer (object_in (object_of context.region t))) known))
