-- In every run each call that is refused, or in doubt for its key's region alone, has its cause:
-- the configuration of its session, and whether the call was sent.
use Rattle.hx_law_lemmas.proofs.Lemmas.Vocabulary.{[], Actor, and_from, and_parts, ap, Bool, Caller, carries_call, cases_eq, cond-false, Coordinator, Entry}
use Rattle.hx_law_lemmas.proofs.Lemmas.Vocabulary.{Epoch, eq-eqb, eqb, eqb-true, false, false≢true, inl, Input, inr, IsIn, IsRun, IsScript, List, list_any}
use Rattle.hx_law_lemmas.proofs.Lemmas.Vocabulary.{MayTake, Message, ne_eqb, Op, or_cases, Post, post, posts_of, refl, same_actor, Script, Server, Session}
use Rattle.hx_law_lemmas.proofs.Lemmas.Vocabulary.{session_after, session_of, session_step, SessionId, SessionState, subst, sym, true, was_sent, ℕ, ◌&&◌, ◌||◌}
use Rattle.hx_law_lemmas.proofs.Lemmas.Vocabulary.{◌∙◌, ◌∷◌, ◌≡◌}
use Rattle.hx_types.specs.declared.messages.Message.TheVariants as a_message
use Rattle.hx_law_lemmas.proofs.Lemmas.{SessionDoes, Starts, session-does, any-in, in-append, in_left, in_right, arrived}
use Rattle.hx_law_epochs.proofs.Lemmas.{any-of, IsKnown, epochs-run, session-config}
use Rattle.hx_law_searches.proofs.Lemmas.{step_is}
use Rattle.hx_law_chains.proofs.Lemmas.{named}

-- ---- whether a call was sent

-- the actor is this session
session-is : (a : Actor) (u : SessionId) → same_actor a (Session u) ≡ true → a ≡ Session u
session-is Coordinator u t = absurd (false≢true t)
session-is (Server i) u t = absurd (false≢true t)
session-is (Session v) u t = ap Session (let e = eqb-true v.0 u.0 t in λ j. record { 0 = e j })

same-session : (u : SessionId) → same_actor (Session u) (Session u) ≡ true
same-session u = eq-eqb u.0 u.0 refl

-- a message that carries a call
carried : (number : ℕ) (m : Message) → carries_call number m ≡ true → (epoch : Epoch) × (op : Op) × (m ≡ a_message.Call epoch number op)
carried number (a_message.Call epoch n op) t = (epoch, op, ap (λ k. a_message.Call epoch k op) (eqb-true n number t))
carried number other t = absurd (false≢true t)

-- a Call post of the call
abbrev pub CallPosted : Caller → List Post → Type 0
CallPosted c ps = (to : Actor) × (epoch : Epoch) × (op : Op) × IsIn (post (Session c.session) to (a_message.Call epoch c.number op)) ps

abbrev is_call : Caller → Post → Bool
is_call c p = same_actor p.from (Session c.session) && carries_call c.number p.message

-- is found by the test, and what the test finds is one
sent-found : (c : Caller) (ps : List Post) → list_any (is_call c) ps ≡ true → CallPosted c ps
sent-found c ps t =
    let r = any-in (is_call c) ps t in
    let a = and_parts (same_actor r.0.from (Session c.session)) (carries_call c.number r.0.message) r.2 in
    let m = carried c.number r.0.message a.1 in (
      r.0.to,
      m.0,
      m.1,
      subst (λ (p : Post). IsIn p ps) (let e = session-is r.0.from c.session a.0 in
          λ i. record { from = e i; to = r.0.to; message = m.2 i }) r.1,
    )

found-sent : (c : Caller) (ps : List Post) → CallPosted c ps → list_any (is_call c) ps ≡ true
found-sent c ps (to, epoch, op, i) = any-of (is_call c) ps
    (post (Session c.session) to (a_message.Call epoch c.number op)) i
    (and_from (same_actor (Session c.session) (Session c.session)) (eqb c.number c.number) (same-session c.session)
    (eq-eqb c.number c.number refl))

-- the same of all posts of a trace
pub sent-posted : (c : Caller) (t : List Entry) → was_sent c t ≡ true → CallPosted c (posts_of t)
sent-posted c [] e = absurd (false≢true e)
sent-posted c (x ∷ older) e = elim (or_cases (list_any (is_call c) x.outputs) (was_sent c older) e) [
  | inl h ↦ (let r = sent-found c x.outputs h in (r.0, r.1, r.2, in_left x.outputs (posts_of older) _ r.3))
  | inr h ↦ (let r = sent-posted c older h in (r.0, r.1, r.2, in_right x.outputs (posts_of older) _ r.3))
]

pub posted-sent : (c : Caller) (t : List Entry) → CallPosted c (posts_of t) → was_sent c t ≡ true
posted-sent c [] (to, epoch, op, i) = absurd i
posted-sent c (x ∷ older) (to, epoch, op, i) = elim (in-append x.outputs (posts_of older) _ i) [
  | inl j ↦ here (list_any (is_call c) x.outputs) (found-sent c x.outputs (to, epoch, op, j))
  | inr j ↦ there (list_any (is_call c) x.outputs) (posted-sent c older (to, epoch, op, j))
]
  where
    here : (b : Bool) → b ≡ true → (b || was_sent c older) ≡ true
    here b e = ap (λ d. d || was_sent c older) e

    there : (b : Bool) → was_sent c older ≡ true → (b || was_sent c older) ≡ true
    there true e = refl
    there false e = e

-- a call that its session counts as sent was posted
pub counted-sent : (script : Script) (t : List Entry) → IsRun script t → (u : SessionId)
    → (session_of script u t).sent ≡ true → was_sent (record { session = u; number = (session_of script u t).begun }) t ≡ true
counted-sent script [] run u e = absurd (false≢true e)
counted-sent script (x ∷ older) run u e = by (counted-sent script older run.1 u) x.actor refl
  where
    -- it was sent before
    older-sent : (c : Caller) → was_sent c older ≡ true → was_sent c (x ∷ older) ≡ true
    older-sent c h = let r = sent-posted c older h in posted-sent c (x ∷ older) (r.0, r.1, r.2, in_right x.outputs (posts_of older) _ r.3)

    same : ((session_of script u older).sent ≡ true
        → was_sent (record { session = u; number = (session_of script u older).begun }) older ≡ true)
        → session_of script u (x ∷ older) ≡ session_of script u older
        → was_sent (record { session = u; number = (session_of script u (x ∷ older)).begun }) (x ∷ older) ≡ true
    same prev q =
        subst (λ k. was_sent (record { session = u; number = k }) (x ∷ older) ≡ true) (sym (ap (λ (s : SessionState). s.begun) q))
        (older-sent (record { session = u; number = (session_of script u older).begun }) (prev (sym (ap (λ (s : SessionState). s.sent) q) ∙ e)))

    mine : ((session_of script u older).sent ≡ true
        → was_sent (record { session = u; number = (session_of script u older).begun }) older ≡ true)
        → x.actor ≡ Session u → was_sent (record { session = u; number = (session_of script u (x ∷ older)).begun })
        (x ∷ older) ≡ true
    mine prev acts =
        let does = subst (SessionDoes script.space x.input (session_of script u older))
        (step_is script older x u run.0 acts) (session-does script.space (session_of script u older) x.input) in
        subst (λ k. was_sent (record { session = u; number = k }) (x ∷ older) ≡ true) (sym does.goes.begun)
        (elim (does.goes.sent e) [
          | inl h ↦ before does.mid does.rest does.starts h
          | inr (to, epoch, op, i) ↦ posted-sent (record { session = u; number = does.mid.begun }) (x ∷ older) (
            to,
            epoch,
            op,
            in_left x.outputs (posts_of older) _
                (subst (λ (v : SessionId). IsIn (post (Session v) to (a_message.Call epoch does.mid.begun op))
                x.outputs) (does.id ∙ (named script older u).0) i),
          )
        ])
      where
        before : (mid : SessionState) (rest : _) → Starts (session_of script u older) mid x.notes rest
            → mid.sent ≡ true → was_sent (record { session = u; number = mid.begun }) (x ∷ older) ≡ true
        before mid rest (inl h) w = subst (λ k. was_sent (record { session = u; number = k }) (x ∷ older) ≡ true)
            (sym h.0) (older-sent (record { session = u; number = (session_of script u older).begun }) (prev (sym h.2 ∙ w)))
        before mid rest (inr h) w = absurd (false≢true (sym h.3 ∙ w))

    by : ((session_of script u older).sent ≡ true → was_sent
        (record { session = u; number = (session_of script u older).begun }) older ≡ true) → (a : Actor) → x.actor ≡ a
        → was_sent (record { session = u; number = (session_of script u (x ∷ older)).begun }) (x ∷ older) ≡ true
    by prev Coordinator acts = same prev (ap (λ (a : Actor). session_after script.space u a x.input (session_of script u older)) acts)
    by prev (Server i) acts = same prev (ap (λ (a : Actor). session_after script.space u a x.input (session_of script u older)) acts)
    by prev (Session v) acts = elim (cases_eq v.0 u.0) [
      | inl q ↦ mine prev (acts ∙ ap Session (λ j. record { 0 = q j }))
      | inr n ↦ same prev (ap (λ (a : Actor). session_after script.space u a x.input (session_of script u older)) acts
          ∙ cond-false (eqb v.0 u.0) _ (session_of script u older) (ne_eqb v.0 u.0 n))
    ]

-- ---- the configuration of a session that sends

-- it is known before the entry
pub sender-known : (script : Script) → IsScript script → (older : List Entry) → IsRun script older
    → (u : SessionId) (input : Input) → MayTake older (Session u) input
    → IsKnown script older (session_step script.space (session_of script u older) input).state.config
sender-known script valid older run u input may = elim (session-config script.space (session_of script u older) input) [
  | inl e ↦ subst (IsKnown script older) (sym e) ((epochs-run script valid older run).known.sessions u)
  | inr (id, from, config, e, q, l) ↦ subst (IsKnown script older) (sym q)
      ((epochs-run script valid older run).known.installs (post from (Session u) (a_message.Install config)) config
      (arrived id older (post from (Session u) (a_message.Install config)) (subst (MayTake older (Session u)) e may)) refl)
]
