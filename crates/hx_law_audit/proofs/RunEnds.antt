-- How the calls of a run end: with an answer of the space whose numbers are small, or as a search with rows.
use Rattle.hx_law_lemmas.proofs.Lemmas.Vocabulary.{[], Actor, Answer, ap, arith, below, call_of, Caller, chosen, cond_both, Config, Deliver, Entry, entry_at}
use Rattle.hx_law_lemmas.proofs.Lemmas.Vocabulary.{eqb, eqb-true, find, inl, Input, inr, is_lost, is_rows, is_search, is_write, IsIn, IsRegionOf, IsRun}
use Rattle.hx_law_lemmas.proofs.Lemmas.Vocabulary.{IsScript, IsSoundAnswer, IsSoundMessage, IsSpace, key_region, length, List, lost_answer, lowest_lost, map}
use Rattle.hx_law_lemmas.proofs.Lemmas.Vocabulary.{MayTake, Message, no_version, None, numbered, Op, Option, plan_of, Planned, Post, post, post_named, PostId}
use Rattle.hx_law_lemmas.proofs.Lemmas.Vocabulary.{query_regions, QueryRegions, refl, RegionId, Script, Search, Session, session_of, session_step, SessionId}
use Rattle.hx_law_lemmas.proofs.Lemmas.Vocabulary.{SessionState, SessionStep, Some, Space, subspaces_of, subst, sym, Term, true, Version, when_some, ℕ, ◌&&◌}
use Rattle.hx_law_lemmas.proofs.Lemmas.Vocabulary.{◌+◌, ◌∙◌, ◌∷◌, ◌≡◌, ◌≤◌, ◌⊎◌}
use Rattle.std.specs.Prelude.{slice_get}
use Rattle.hx_types.specs.declared.calls.Answer.TheVariants as an_answer
use Rattle.hx_types.specs.declared.messages.Message.TheVariants as a_message
use Rattle.hx_types.specs.declared.outcomes.Planned.TheVariants as a_plan
use Rattle.hx_types.specs.declared.traces.Note.TheVariants as a_note
use Rattle.hx_law_lemmas.proofs.Lemmas.{EndsBy, SessionDoes, Starts, session-does, query-region, in-find, when_some_both, place-region, EndedAt}
use Rattle.hx_law_posts.proofs.Lemmas.{IsSoundConfig, bounds, sound_answer-up, kept-run, posts_stay_sound}
use Rattle.hx_law_searches.proofs.Lemmas.{step_is}

-- ---- the region that a search isn't planned for

lowest_region : (space : Space) → IsSpace space → (config : Config) (terms : List Term)
    → IsRegionOf space (lowest_lost config (query_regions space terms 0).regions)
lowest_region space valid config terms =
    let rs = (query_regions space terms 0).regions in
    when_some_both (find (is_lost config) rs) (record { 0 = 0 }) (λ (g : RegionId). g) (IsRegionOf space)
    (λ e. let l = place-region space valid 0 [] [] (omega arith) in omega (arith, l))
    (λ g e. query-region space terms 0 (omega arith) g (in-find (is_lost config) rs g e))

abbrev LostIsOf : Space → Planned → Type 0
LostIsOf space (a_plan.Regions subspace regions) = Unit {0}
LostIsOf space (a_plan.Lost g) = IsRegionOf space g

plan_lost : (space : Space) → IsSpace space → (config : Config) (terms : List Term) → LostIsOf space (plan_of space config terms)
plan_lost space valid config terms =
    when_some_both (chosen config None (map (query_regions space terms) (below (length (subspaces_of space)))))
    (a_plan.Lost (lowest_lost config (query_regions space terms 0).regions))
    (λ (q : QueryRegions). a_plan.Regions q.subspace q.regions) (LostIsOf space)
    (λ e. lowest_region space valid config terms)
    (λ q e. tt)

-- ---- the step of a session

-- an answer of the space with small numbers, or that of a search with rows
abbrev pub EndIsSound : Space → ℕ → ℕ → Op → Version → Answer → Type 0
EndIsSound space sessions n op v a = (v.0 ≤ n + 1) × (((is_search op ≡ true) × (is_rows a ≡ true)) ⊎ IsSoundAnswer (bounds space sessions n) a)

module _ (space : Space) (valid : IsSpace space) (sessions n : ℕ) where
  -- each end that is noted is of a call, and sound
  record EndsSound (s : SessionState) (step : SessionStep) : Type 0 where
    pub ends : (k : ℕ) (v : Version) (a : Answer) → IsIn (a_note.Ended k v a) step.notes → (op : Op)
        × (numbered s.calls k ≡ Some op) × EndIsSound space sessions n op v a

  -- a lost region is told with the epoch
  lost-sound : (s : SessionState) → IsSoundConfig space n s.config → (op : Op) (g : RegionId) → IsRegionOf space g
      → EndIsSound space sessions n op no_version (lost_answer s op g)
  lost-sound s config op g region = (
    omega arith,
    cond_both (is_write op && s.sent) (an_answer.Doubt g s.config.epoch) (an_answer.Refused g s.config.epoch)
        (λ (a : Answer). ((is_search op ≡ true) × (is_rows a ≡ true)) ⊎ IsSoundAnswer (bounds space sessions n) a)
        (λ t. inr (region, config.epoch))
        (λ t. inr (region, config.epoch)),
  )

  -- so is each end of a step, where what arrives is sound
  step-sound : (s : SessionState) → IsSoundConfig space n s.config → (input : Input)
      → ((id : PostId) (from : Actor) (m : Message) → input ≡ Deliver id from m → (k : ℕ) × (k ≤ n) × IsSoundMessage (bounds space sessions k) m)
      → EndsSound s (session_step space s input)
  step-sound s config input arrives = record {
    ends = λ number v a i. (let e = does.goes.ends number v a (there number v a does.starts i) in
        let r = how v a e.1 in (
          r.0,
          ap (λ (ops : List Op). numbered ops number) (sym does.calls)
              ∙ ap (numbered does.mid.calls) e.0 ∙ r.1,
          r.2,
        ));
  }
    where
      does : SessionDoes space input s (session_step space s input)
      does = session-does space s input

      there : (number : ℕ) (v : Version) (a : Answer) → Starts s does.mid (session_step space s input).notes does.rest
          → IsIn (a_note.Ended number v a) (session_step space s input).notes → IsIn (a_note.Ended number v a) does.rest
      there number v a (inl (b, c, d, e)) i = subst (λ ns. IsIn (a_note.Ended number v a) ns) e i
      there number v a (inr (b, c, d, f, e)) i = elim (subst (λ ns. IsIn (a_note.Ended number v a) ns) e i) [ inl q ↦ absurd (cc) | inr j ↦ j ]

      known : IsSoundConfig space n does.mid.config
      known = elim does.config [
        | inl e ↦ subst (IsSoundConfig space n) (sym e) config
        | inr (id, from, c, q, e, higher) ↦ (let h = arrives id from (a_message.Install c) q in
            subst (IsSoundConfig space n) (sym e) (record { of_space = h.2.1; epoch = (let low = h.2.0 in let l = h.1 in omega (arith, low, l)) }))
      ]

      how : (v : Version) (a : Answer) → EndsBy space input does.mid v a
          → (op : Op) × (numbered does.mid.calls does.mid.begun ≡ Some op) × EndIsSound space sessions n op v a
      how v a (inl r) = let h = arrives r.id r.from (a_message.Reply does.mid.begun v a) r.input_is in
          let w = h.2.0 in let l = h.1 in (
            r.op,
            r.called,
            (omega (arith, w, l), inr (sound_answer-up space sessions h.0 n l a h.2.1)),
          )
      how v a (inr (inl r)) = (
        r.op,
        r.called,
        subst (λ (w : Version). EndIsSound space sessions n r.op w a) (sym r.version)
            (subst (EndIsSound space sessions n r.op no_version) (sym r.answer)
            (lost-sound does.mid known r.op (key_region space r.key) (place-region space valid 0 r.key [] (omega arith)))),
      )
      how v a (inr (inr (inl r))) = (
        Search r.terms,
        r.called,
        subst (λ (w : Version). EndIsSound space sessions n (Search r.terms) w a) (sym r.version)
            (subst (EndIsSound space sessions n (Search r.terms) no_version) (sym r.answer)
            (omega arith, inr (subst (LostIsOf space) r.plan (plan_lost space valid does.mid.config r.terms), known.epoch))),
      )
      how v a (inr (inr (inr (inl r)))) = (
        Search r.terms,
        r.called,
        subst (λ (w : Version). EndIsSound space sessions n (Search r.terms) w a) (sym r.version) (omega arith, inl (refl, ap is_rows r.answer)),
      )
      how v a (inr (inr (inr (inr r)))) =
          let h = arrives r.id r.from (a_message.Outcome does.mid.begun a) r.input_is in (
            r.op,
            r.called,
            subst (λ (w : Version). EndIsSound space sessions n r.op w a) (sym r.version)
                (omega arith, inr (sound_answer-up space sessions h.0 n h.1 a h.2)),
          )

-- ---- runs

-- a post that is named is of an entry
named_low : (id : PostId) (trace : List Entry) (p : Post) → post_named id trace ≡ Some p → id.entry ≤ length trace
named_low id trace p = by (entry_at id.entry trace) refl
  where
    low : (m : ℕ) (t : List Entry) (x : Entry) → entry_at m t ≡ Some x → m ≤ length t
    low m [] x = λ e. absurd (cc)
    low m (y ∷ older) x =
        cond_both (eqb m (length older + 1)) (Some y) (entry_at m older) (λ o. o ≡ Some x → m ≤ length (y ∷ older))
        (λ t e. let q = eqb-true m (length older + 1) t in omega (arith, q))
        (λ t e. let r = low m older x e in omega (arith, r))

    by : (o : Option Entry) → entry_at id.entry trace ≡ o → when_some o None (λ (x : Entry). slice_get x.outputs id.place) ≡ Some p → id.entry ≤ length trace
    by None f e = absurd (cc)
    by (Some x) f e = low id.entry trace x f

module _ (script : Script) (valid : IsScript script) where
  -- the input of a session's entry
  step_ends : (older : List Entry) → IsRun script older → (u : SessionId) (input : Input)
      → MayTake older (Session u) input → EndsSound script.space valid.space (length script.sessions) (length older)
      (session_of script u older) (session_step script.space (session_of script u older) input)
  step_ends older run u input take =
      step-sound script.space valid.space (length script.sessions) (length older) (session_of script u older)
      ((kept-run script valid older run).own u).config input
      (λ id from m e. let t = subst (MayTake older (Session u)) e take in (
        id.entry,
        named_low id older (post from (Session u) m) t,
        (posts_stay_sound script valid older run id (post from (Session u) m) t).message,
      ))

  -- a call that ended is the script's, and its end sound
  pub ends_sound : (trace : List Entry) → IsRun script trace → (c : Caller) (v : Version) (a : Answer) (k : ℕ) → EndedAt trace c v a k
      → (op : Op) × (call_of script c ≡ Some op) × EndIsSound script.space (length script.sessions) (length trace) op v a
  ends_sound [] run c v a k h = absurd h
  ends_sound (x ∷ older) run c v a k (inr h) =
      let r = ends_sound older run.1 c v a k h in
      let up = sound_answer-up script.space (length script.sessions) (length older) (length (x ∷ older)) (omega arith) a in
      (r.0, r.1, ((let l = r.2.0 in omega (arith, l)), elim r.2.1 [ inl q ↦ inl q | inr q ↦ inr (up q) ]))
  ends_sound (x ∷ older) run c v a k (inl h) =
      let u = c.session in
      let said = step_ends older run.1 u x.input (subst (λ (a : Actor). MayTake older a x.input) h.0 run.0.input) in
      let now = subst (λ (step : SessionStep). EndsSound script.space valid.space (length script.sessions)
      (length older) (session_of script u older) step) (step_is script older x u run.0 h.0) said in
      let r = now.ends c.number v a h.1 in
      let up = sound_answer-up script.space (length script.sessions) (length older) (length (x ∷ older)) (omega arith) a in
      let calls = ((kept-run script valid older run.1).own u).calls in (
        r.0,
        ap (λ (l : List Op). numbered l c.number) (sym calls) ∙ r.1,
        ((let l = r.2.0 in omega (arith, l)), elim r.2.1 [ inl q ↦ inl q | inr q ↦ inr (up q) ]),
      )
