-- Each step of a session posts what is sound, and leaves it with a configuration of the space.
use Rattle.hx_law_lemmas.proofs.Lemmas.Vocabulary.{[], Actor, Add, All, all_parts, Answer, ap, arith, ask_regions, ask_to, Atomic, begin, call_to, calls_of}
use Rattle.hx_law_lemmas.proofs.Lemmas.Vocabulary.{cond_both, Config, Coordinator, Cput, Del, Deliver, end_with_parts, ending, false, Fits, Get, goes_between}
use Rattle.hx_law_lemmas.proofs.Lemmas.Vocabulary.{head_of, inl, Input, inr, is_lost, IsIn, IsRegionOf, IsScript, IsSessionOf, IsSoundMessage, IsSoundPost}
use Rattle.hx_law_lemmas.proofs.Lemmas.Vocabulary.{key_region, length, List, lost_answer, map, Message, no_version, None, numbered, Op, Option, Part, plan_of}
use Rattle.hx_law_lemmas.proofs.Lemmas.Vocabulary.{Planned, Post, post, PostId, Put, refl, RegionId, Script, Search, send, send_to, ServerId, Session}
use Rattle.hx_law_lemmas.proofs.Lemmas.Vocabulary.{session_step, SessionId, SessionState, SessionStep, Some, staying, Stop, subst, suc, sym, Term, TermsFit}
use Rattle.hx_law_lemmas.proofs.Lemmas.Vocabulary.{to_coordinator, true, Version, with_part, with_poll, zero, ℕ, ◌+◌, ◌∙◌, ◌∷◌, ◌≡◌, ◌≤◌}
use Rattle.hx_types.specs.declared.messages.Message.TheVariants as a_message
use Rattle.hx_types.specs.declared.outcomes.Planned.TheVariants as a_plan
use Rattle.hx_law_lemmas.proofs.Lemmas.{session-cases, each-append, each-one, each-provided, all-in, in-flat_map, in-slice_get, when_some_both}
use Rattle.hx_law_lemmas.proofs.Lemmas.{NamesRegions, plan-regions}
use Rattle.hx_law_posts.proofs.Bounds.{IsSoundConfig, bounds, config-up}
use Rattle.hx_law_posts.proofs.Hops.{head-server}

-- each call of a script fits its space
call-fits : (script : Script) → IsScript script → (u : SessionId) (n : ℕ) (op : Op) → numbered (calls_of script u) n ≡ Some op → Fits script.space op
call-fits script valid u n op =
    when_some_both (numbered script.sessions u.0) [] (λ (calls : List Op). calls) (λ (calls : List Op). numbered calls n ≡ Some op → Fits script.space op)
    (λ e. none n)
    (λ (calls : List Op) e f. all-in (Fits script.space) calls op
    (all-in (λ (cs : List Op). All (Fits script.space) cs) script.sessions calls valid.calls
    (numbered-in script.sessions u.0 calls e)) (numbered-in calls n op f))
  where
    none : (n : ℕ) → numbered [] n ≡ Some op → Fits script.space op
    none zero f = absurd (cc)
    none (suc k) f = absurd (cc)

    numbered-in : {A : Type 0} (xs : List A) (n : ℕ) (x : A) → numbered xs n ≡ Some x → IsIn x xs
    numbered-in xs zero x e = absurd (cc)
    numbered-in xs (suc k) x e = in-slice_get xs k x e

-- a session of the script after so many entries, with its own number and calls and a configuration of the space
pub record IsOwn (script : Script) (n : ℕ) (u : SessionId) (st : SessionState) : Type 0 where
  pub id : st.id ≡ u
  pub config : IsSoundConfig script.space n st.config
  pub calls : st.calls ≡ calls_of script u

-- what held after fewer entries holds after more
pub own-up : (script : Script) (m n : ℕ) → m ≤ n → (u : SessionId) (st : SessionState) → IsOwn script m u st → IsOwn script n u st
own-up script m n l u st h = record { id = h.id; config = config-up script.space (length script.sessions) m n l st.config h.config; calls = h.calls }

module _ (script : Script) (valid : IsScript script) (n : ℕ) (u : SessionId) (exists : IsSessionOf (length script.sessions) u) where
  -- a post of the entry that is sound
  abbrev pub IsSound : Post → Type 0
  IsSound p = IsSoundPost script.space (length script.sessions) n p

  -- what a session's step does: it keeps its own, and its posts are sound
  pub record DoesWell (step : SessionStep) : Type 0 where
    pub own : IsOwn script n u step.state
    pub posts : (p : Post) → IsIn p step.posts → IsSound p

  -- nothing happens
  staying-good : (st : SessionState) → IsOwn script n u st → DoesWell (staying st)
  staying-good st k = record { own = k; posts = λ p i. absurd i }

  -- a call ends
  ending-good : (st : SessionState) (version : Version) (answer : Answer) → IsOwn script n u st → DoesWell (ending st version answer)
  ending-good st version answer k = record { own = record { id = k.id; config = k.config; calls = k.calls }; posts = λ p i. absurd i }

  -- a call of the session
  call-good : (st : SessionState) (op : Op) (g : RegionId) → Fits script.space op → IsOwn script n u st → (p : Post)
      → IsIn p (call_to st op (head_of st.config g)) → IsSound p
  call-good st op g fits k p = by (head_of st.config g) refl
    where
      by : (o : Option ServerId) → head_of st.config g ≡ o → IsIn p (call_to st op o) → IsSound p
      by None e i = absurd i
      by (Some x) e (inl q) = subst IsSound (sym q) (record {
        from = subst (IsSessionOf (length script.sessions)) (sym k.id) exists;
        to = head-server script.space st.config k.config.of_space g x e;
        between = refl;
        message = (k.config.epoch, fits);
      })
      by (Some x) e (inr i) = absurd i

  -- a call on a key is sent
  send_to-good : (st : SessionState) (op : Op) (g : RegionId) → Fits script.space op → IsOwn script n u st → DoesWell (send_to st op g)
  send_to-good st op g fits k =
      cond_both (is_lost st.config g) (ending st _ (lost_answer st op g))
      (record { state = record st { sent = true }; posts = call_to st op (head_of st.config g); notes = [] }) DoesWell
      (λ t. ending-good st _ (lost_answer st op g) k)
      (λ t. record { own = record { id = k.id; config = k.config; calls = k.calls }; posts = call-good st op g fits k })

  -- a search asks regions of the space
  ask-good : (st : SessionState) (terms : List Term) (plan : Planned) → NamesRegions script.space plan
      → TermsFit script.space terms → IsOwn script n u st → DoesWell (ask_regions st terms plan)
  ask-good st terms (a_plan.Regions subspace regions) named fits k = record {
    own = record { id = k.id; config = k.config; calls = k.calls };
    posts = λ p i. (let f = in-flat_map (λ (g : RegionId). ask_to st terms g (head_of st.config g)) regions p i in
        by f.0 (named f.0 f.1) p (head_of st.config f.0) refl f.2);
  }
    where
      by : (g : RegionId) → IsRegionOf script.space g → (p : Post) (o : Option ServerId) → head_of st.config g ≡ o → IsIn p (ask_to st terms g o) → IsSound p
      by g region p None e i = absurd i
      by g region p (Some x) e (inl q) = subst IsSound (sym q) (record {
        from = subst (IsSessionOf (length script.sessions)) (sym k.id) exists;
        to = head-server script.space st.config k.config.of_space g x e;
        between = refl;
        message = (k.config.epoch, region, fits);
      })
      by g region p (Some x) e (inr i) = absurd i
  ask-good st terms (a_plan.Lost g) named fits k = ending-good st _ _ k

  -- a post to the coordinator
  coordinator-good : (st : SessionState) (m : Message) → IsOwn script n u st
      → goes_between (Session st.id) Coordinator m ≡ true
      → IsSoundMessage (bounds script.space (length script.sessions) n) m → DoesWell (to_coordinator st m)
  coordinator-good st m k b h = record {
    own = k;
    posts = λ p i. elim i [
      | inl e ↦ subst IsSound (sym e) (record { from = subst (IsSessionOf (length script.sessions)) (sym k.id) exists; to = tt; between = b; message = h })
      | inr j ↦ absurd j
    ];
  }

  -- a call is sent
  send-good : (st : SessionState) (op : Op) → Fits script.space op → IsOwn script n u st → DoesWell (send script.space st op)
  send-good st (Put key sets) fits k = send_to-good st (Put key sets) (key_region script.space key) fits k
  send-good st (Get key) fits k = send_to-good st (Get key) (key_region script.space key) fits k
  send-good st (Del key) fits k = send_to-good st (Del key) (key_region script.space key) fits k
  send-good st (Cput key tests sets) fits k = send_to-good st (Cput key tests sets) (key_region script.space key) fits k
  send-good st (Atomic key edits) fits k = send_to-good st (Atomic key edits) (key_region script.space key) fits k
  send-good st (Search terms) fits k = ask-good st terms (plan_of script.space st.config terms) (plan-regions script.space st.config terms) fits k
  send-good st (Stop server) fits k = coordinator-good st (a_message.StopServer st.begun server) k refl fits
  send-good st (Add server region) fits k = coordinator-good st (a_message.AddReplica st.begun server region) k refl fits

  -- the next call begins
  begin-good : (st : SessionState) (op : Op) → Fits script.space op → IsOwn script n u st → DoesWell (begin script.space st op)
  begin-good st op fits k =
      let t = send-good (record st { begun = st.begun + 1; under_way = true; sent = false; parts = [] }) op fits
      (record { id = k.id; config = k.config; calls = k.calls }) in
      record { own = t.own; posts = t.posts }

  -- the newest configuration is asked for
  poll-good : (step : SessionStep) → DoesWell step → DoesWell (with_poll step)
  poll-good step t = record {
    own = t.own;
    posts = each-append IsSound step.posts _ t.posts
        (each-provided IsSound step.state.under_way (post (Session step.state.id) Coordinator (a_message.Poll step.state.config.epoch) ∷ [])
        (each-one IsSound (post (Session step.state.id) Coordinator (a_message.Poll step.state.config.epoch))
        (record { from = subst (IsSessionOf (length script.sessions)) (sym t.own.id) exists; to = tt; between = refl; message = t.own.config.epoch })));
  }

  -- a call of the session is one of the script
  own-call : (st : SessionState) → IsOwn script n u st → (k : ℕ) (op : Op) → numbered st.calls k ≡ Some op → Fits script.space op
  own-call st own k op e =
      call-fits script valid u k op (sym (ap (λ (calls : List Op). numbered calls k) own.calls) ∙ e)

  -- rows are kept, and may end the call
  found-good : (st : SessionState) (parts : List Part) → IsOwn script n u st → DoesWell (end_with_parts (record st { parts = parts }))
  found-good st parts k =
      let own : IsOwn script n u (record st { parts = parts }) = record { id = k.id; config = k.config; calls = k.calls } in
      cond_both (all_parts parts) (ending (record st { parts = parts }) no_version _)
      (staying (record st { parts = parts })) DoesWell (λ t. ending-good _ no_version _ own) (λ t. staying-good _ own)

  -- each input of a session
  pub session-good : (st : SessionState) → IsOwn script n u st → (input : Input)
      → ((id : PostId) (from : Actor) (m : Message) → input ≡ Deliver id from m → (k : ℕ) × (k ≤ n)
      × IsSoundMessage (bounds script.space (length script.sessions) k) m)
      → DoesWell (session_step script.space st input)
  session-good st k input f = session-cases script.space st input DoesWell (record {
    rests = staying-good st k;
    again = λ op i w c. poll-good (send script.space st op) (send-good st op (own-call st k st.begun op c) k);
    begins = λ op i w c. begin-good st op (own-call st k (st.begun + 1) op c) k;
    replied = λ id from version answer op i w c q. ending-good st version answer k;
    judged = λ id from answer op i w c q. ending-good st no_version answer k;
    found = λ id from epoch g rows op i w c q. found-good st (map (with_part g rows) st.parts) k;
    adopts = λ id from config i l q. staying-good (record st { config = config }) (own id from config i);
    renews = λ id from config op i l w c q. send-good (record st { config = config }) op (own-call st k st.begun op c) (own id from config i);
  })
    where
      own : (id : PostId) (from : Actor) (config : Config) → input ≡ Deliver id from (a_message.Install config)
          → IsOwn script n u (record st { config = config })
      own id from config i =
          let a = f id from (a_message.Install config) i in
          record { id = k.id; config = record { of_space = a.2.1; epoch = (let e = a.2.0 in let l = a.1 in omega (arith, e, l)) }; calls = k.calls }
