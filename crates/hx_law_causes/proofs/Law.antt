-- The law on causes: each end of a call in a run has its cause.
use Rattle.hx_law_lemmas.proofs.Lemmas.Vocabulary.{Actor, Answer, AnsweredCall, ap, arith, Atomic, begin_of, call_of, Caller, cases_Bool, cond_both, Config}
use Rattle.hx_law_lemmas.proofs.Lemmas.Vocabulary.{config_of, Cput, Del, Effect, effect_of, Entry, Epoch, false, false≢true, Get, get_answer, HasCause}
use Rattle.hx_law_lemmas.proofs.Lemmas.Vocabulary.{HasCauses, inl, inr, is_doubt, is_key_call, is_lost, is_refused, is_write, IsDoubtTold, IsGiven, IsIn}
use Rattle.hx_law_lemmas.proofs.Lemmas.Vocabulary.{IsRefusedFor, IsRun, IsScript, key_of, length, line_of, List, MayTake, None, Note, numbered, object_now, Op}
use Rattle.hx_law_lemmas.proofs.Lemmas.Vocabulary.{Option, post, posts_of, Put, refl, refused_place, RegionId, Script, Search, Session, session_of}
use Rattle.hx_law_lemmas.proofs.Lemmas.Vocabulary.{SessionState, Some, Space, subst, sym, Tells, tests_hold, true, Update, upto, Value, Version, was_sent, ℕ, ⊤}
use Rattle.hx_law_lemmas.proofs.Lemmas.Vocabulary.{◌++◌, ◌+◌, ◌-◌, ◌∙◌, ◌∷◌, ◌≡◌, ◌≢◌, ◌⊎◌}
use Rattle.hx_types.specs.declared.calls.Answer.TheVariants as an_answer
use Rattle.hx_types.specs.declared.messages.Message.TheVariants as a_message
use Rattle.hx_types.specs.declared.traces.Note.TheVariants as a_note
use Rattle.hx_law_lemmas.proofs.Lemmas.{Called, EndsBy, Goes, SessionDoes, Starts, session-does, atomic-both, started}
use Rattle.hx_law_lemmas.proofs.Lemmas.{BeganAt, EndedAt, arrived, began_at, ends_now, may_start}
use Rattle.hx_law_chains.proofs.Lemmas.{named}
use Rattle.hx_law_epochs.proofs.Lemmas.{IsKnown}
use Rattle.hx_law_searches.proofs.Lemmas.{calls_kept, step_is, turn_is, facts}
use Rattle.hx_law_causes.proofs.Administered.{OutcomeCause, administers-run}
use Rattle.hx_law_causes.proofs.Answered.{began-once, began-part, ended-part, given-there, rows-found, run-part, the_call}
use Rattle.hx_law_causes.proofs.Causes.{key-lost, outcome-has, plan-lost, same-op}
use Rattle.hx_law_causes.proofs.Refusals.{counted-sent, sender-known, sent-posted}

-- what the law needs of replies that tell of lost regions: a doubt was told by its leader
abbrev pub DoubtsAreTold : Script → Type 0
DoubtsAreTold script =
    (call : AnsweredCall) → call.script ≡ script → IsRun script call.older
    → (from : Actor) (g : RegionId) (epoch : Epoch)
    → IsIn (post from (Session call.caller.session)
    (a_message.Reply call.caller.number call.version (an_answer.Doubt g epoch))) (posts_of call.older)
    → (op : Op) (key : List ℕ) → call_of script call.caller ≡ Some op → key_of op ≡ Some key
    → IsDoubtTold call key g epoch × ((config : Config) × IsKnown script call.older config × (config.epoch ≡ epoch) × (is_lost config g ≡ true))

-- and a refused write has a version, whose effect's first lost place is named
abbrev pub RefusalsAreNamed : Script → Type 0
RefusalsAreNamed script =
    (older : List Entry) → IsRun script older
    → (from : Actor) (c : Caller) (v : Version) (g : RegionId) (epoch : Epoch)
    → IsIn (post from (Session c.session) (a_message.Reply c.number v (an_answer.Refused g epoch))) (posts_of older)
    → (op : Op) (key : List ℕ) → call_of script c ≡ Some op → key_of op ≡ Some key → is_write op ≡ true
    → (config : Config) × IsKnown script older config × (config.epoch ≡ epoch) × (is_lost config g ≡ true) × (v.0 ≢ 0)
    × (refused_place script.space config key op (upto (v.0 - 1) (line_of key older)) ≡ Some g)

-- what an effect answers
abbrev pub Plain : Answer → Type 0
Plain an_answer.Done = ⊤
Plain an_answer.NotFound = ⊤
Plain an_answer.CmpFail = ⊤
Plain an_answer.Overflow = ⊤
Plain an_answer.TooLong = ⊤
Plain (an_answer.Found object) = ⊤
Plain other = ⊥

pub plain-effect : (space : Space) (old : Option (List Value)) (op : Op) → Plain (effect_of space old op).answer
plain-effect space old (Put key sets) = tt
plain-effect space None (Get key) = tt
plain-effect space (Some object) (Get key) = tt
plain-effect space None (Del key) = tt
plain-effect space (Some object) (Del key) = tt
plain-effect space None (Cput key tests sets) = tt
plain-effect space (Some object) (Cput key tests sets) = cond_both (tests_hold object tests) _ _ (λ (e : Effect). Plain e.answer) (λ t. tt) (λ t. tt)
plain-effect space old (Atomic key edits) = atomic-both (λ (e : Effect). Plain e.answer) space old key edits (λ object. tt) tt (λ object. tt) (λ object. tt)
plain-effect space old other = tt

-- a call on a key has one
key-call : (op : Op) → is_key_call op ≡ true → (key : List ℕ) × (key_of op ≡ Some key)
key-call (Put key sets) e = (key, refl)
key-call (Get key) e = (key, refl)
key-call (Del key) e = (key, refl)
key-call (Cput key tests sets) e = (key, refl)
key-call (Atomic key edits) e = (key, refl)
key-call other e = absurd (false≢true e)

-- a get finds an object or none
get-plain : (o : Option (List Value)) (a : Answer) → a ≡ get_answer o → (is_doubt a ≡ false) × (is_refused a ≡ false)
get-plain None a e = (ap is_doubt e, ap is_refused e)
get-plain (Some object) a e = (ap is_doubt e, ap is_refused e)

-- a reply that is refused or in doubt tells of a write
pub tells-write : (line : List Update) (c : Caller) (v : Version) (a : Answer) (op : Op) → Tells line c v a op
    → (is_doubt a ≡ true) ⊎ (is_refused a ≡ true) → is_write op ≡ true
tells-write line c v a op (inl h) w = h.0
tells-write line c v a op (inr (inl h)) w = h.0
tells-write line c v a op (inr (inr h)) w = let p = get-plain _ a h.2 in
    elim w [ inl d ↦ absurd (false≢true (sym p.0 ∙ d)) | inr r ↦ absurd (false≢true (sym p.1 ∙ r)) ]

module _ (script : Script) (valid : IsScript script) (told : DoubtsAreTold script) (refused : RefusalsAreNamed script)
    (trace : List Entry) (run : IsRun script trace) where
  module _ (older : List Entry) (part : IsRun script older) (c : Caller) (op : Op) (n m : ℕ) (v : Version) (called : call_of script c ≡ Some op) where
    -- the call that was answered
    abbrev call : AnsweredCall
    call = the_call script valid trace run older c op n v

    -- a refused write has the place that is named
    named-place : (config : Config) (g : RegionId) (key : List ℕ) → key_of op ≡ Some key → is_write op ≡ true
        → v.0 ≢ 0 → refused_place script.space config key op (upto (v.0 - 1) (line_of key older)) ≡ Some g
        → IsRefusedFor call config g op
    named-place config g key on_key writes some place = by op on_key writes
      where
        of : (k : List ℕ) → Some k ≡ Some key → (v.0 ≢ 0) × (refused_place script.space config k op (upto (v.0 - 1) (line_of k older)) ≡ Some g)
        of k e = let q : key ≡ k = cc in (
          some,
          subst
              (λ (j : List ℕ). refused_place script.space config j op (upto (v.0 - 1) (line_of j older)) ≡ Some g) q place,
        )

        by : (o : Op) → key_of o ≡ Some key → is_write o ≡ true → IsRefusedFor call config g o
        by (Put k sets) e w = inr (of k e)
        by (Del k) e w = inr (of k e)
        by (Cput k tests sets) e w = inr (of k e)
        by (Atomic k edits) e w = inr (of k e)
        by other e w = absurd (false≢true w)

    -- a plain answer is given by the history
    plain-has : (a : Answer) → IsGiven call a → HasCause call a
    plain-has a g = by a g (subst Plain (sym g.given) (plain-effect script.space (object_now g.older) op))
      where
        by : (a : Answer) → IsGiven call a → Plain a → HasCause call a
        by an_answer.Done g p = g
        by an_answer.NotFound g p = g
        by an_answer.CmpFail g p = g
        by an_answer.Overflow g p = g
        by an_answer.TooLong g p = g
        by (an_answer.Found object) g p = g
        by other g p = absurd p

    -- an answer by a reply
    reply-has : (from : Actor) (a : Answer) (key : List ℕ) → key_of op ≡ Some key
        → IsIn (post from (Session c.session) (a_message.Reply c.number v a)) (posts_of older) → EndedAt trace c v a m
        → HasCause call a
    reply-has from a key on_key i h = by a i h ((facts script valid).replies older part from c v a i op key called on_key)
      where
        plain : (a : Answer) → EndedAt trace c v a m → is_doubt a ≡ false → is_refused a ≡ false → HasCause call a
        plain a h d r = plain-has a (given-there script valid trace run older c op key n m v a called on_key h d r)

        by : (a : Answer) → IsIn (post from (Session c.session) (a_message.Reply c.number v a)) (posts_of older)
            → EndedAt trace c v a m → Tells (line_of key older) c v a op → HasCause call a
        by (an_answer.Doubt g epoch) i h t =
            let d = told call refl part from g epoch i op key called on_key in
            record {
              config = d.1.0;
              lost = record { of_epoch = subst (λ (e : Epoch). config_of script e older ≡ Some d.1.0) d.1.2 d.1.1; lost = d.1.3 };
              writes = tells-write (line_of key older) c v (an_answer.Doubt g epoch) op t (inl refl);
              key = key;
              on_key = on_key;
              doubted = inr d.0;
            }
        by (an_answer.Refused g epoch) i h t =
            let w = tells-write (line_of key older) c v (an_answer.Refused g epoch) op t (inr refl) in
            let r = refused older part from c v g epoch i op key called on_key w in
            record {
              config = r.0;
              lost = record { of_epoch = subst (λ (e : Epoch). config_of script e older ≡ Some r.0) r.2 r.1; lost = r.3 };
              refused = named-place r.0 g key on_key w r.4 r.5;
            }
        by other i h t = plain other h refl refl

  module _ (newer older : List Entry) (x : Entry) (c : Caller) (op : Op) (n : ℕ) (v : Version) (a : Answer)
      (stands : trace ≡ newer ++ x ∷ older) (acts : x.actor ≡ Session c.session)
      (ended : IsIn (a_note.Ended c.number v a) x.notes)
      (called : call_of script c ≡ Some op) (began : begin_of c trace ≡ Some n) where
    -- the run up to the entry
    here : IsRun script (x ∷ older)
    here = run-part script newer x older (subst (IsRun script) stands run)

    -- the end in the whole trace
    ended-there : EndedAt trace c v a (length older + 1)
    ended-there = subst (λ (t : List Entry). EndedAt t c v a (length older + 1)) (sym stands) (ended-part newer x older c v a acts ended)

    -- the session before
    abbrev s : SessionState
    s = session_of script c.session older

    -- what its step does
    does : SessionDoes script.space x.input s (record { state = session_of script c.session (x ∷ older); posts = x.outputs; notes = x.notes })
    does = subst (SessionDoes script.space x.input s) (step_is script older x c.session here.0 acts) (session-does script.space s x.input)

    module _ (mid : SessionState) (rest : List Note) (mid_id : mid.id ≡ s.id) (mid_calls : mid.calls ≡ s.calls) (starts : Starts s mid x.notes rest)
        (goes : Goes script.space x.input mid (record { state = session_of script c.session (x ∷ older); posts = x.outputs; notes = rest })) where
      -- how the call ends
      ends : (c.number ≡ mid.begun) × EndsBy script.space x.input mid v a
      ends = goes.ends c.number v a (there starts)
        where
          there : Starts s mid x.notes rest → IsIn (a_note.Ended c.number v a) rest
          there (inl h) = subst (λ (l : List Note). IsIn (a_note.Ended c.number v a) l) h.3 ended
          there (inr h) = elim (subst (λ (l : List Note). IsIn (a_note.Ended c.number v a) l) h.4 ended) [ inl q ↦ absurd (no q) | inr j ↦ j ]
            where
              no : a_note.Ended c.number v a ≡ a_note.Began mid.begun → ⊥
              no q = absurd (cc)

      -- the operation under way is the call's
      op-is : (o : Op) → Called mid o → o ≡ op
      op-is o q = same-op script valid trace run c o op
          (ap (λ (l : List Op). numbered l c.number) (sym (mid_calls ∙ (named script older c.session).1))
          ∙ ap (numbered mid.calls) ends.0 ∙ q) called

      -- its configuration is known
      config-known : IsKnown script older mid.config
      config-known =
          subst (IsKnown script older) goes.config
          (subst (λ (st : SessionState). IsKnown script older st.config) (ap (λ (y : _). y.state) (step_is script older x c.session here.0 acts))
          (sender-known script valid older here.1 c.session x.input (subst (λ (b : Actor). MayTake older b x.input) acts here.0.input)))

      -- what counts as sent was sent
      was : mid.sent ≡ true → was_sent c older ≡ true
      was e = by starts
        where
          by : Starts s mid x.notes rest → was_sent c older ≡ true
          by (inl h) = subst (λ k. was_sent (record { session = c.session; number = k }) older ≡ true)
              (sym h.0 ∙ sym ends.0) (counted-sent script older here.1 c.session (sym h.2 ∙ e))
          by (inr h) = absurd (false≢true (sym h.3 ∙ e))

      -- and what doesn't never was
      never : mid.sent ≡ false → was_sent c older ≡ false
      never e = elim (cases_Bool (was_sent c older)) [ inr f ↦ f | inl t ↦ absurd (by starts (sent-posted c older t)) ]
        where
          by : Starts s mid x.notes rest → (to : Actor) × (epoch : Epoch) × (o : Op)
              × IsIn (post (Session c.session) to (a_message.Call epoch c.number o)) (posts_of older) → ⊥
          by (inr h) (to, epoch, o, i) =
              let calls = calls_kept script (facts script valid) older here.1 in
              let b = (calls.sent c.session to epoch c.number o i).begun in
              let l = (calls.began_low c b.0 b.1).0 in
              let q = ends.0 in let r = h.1 in omega (arith, l, q, r)
          by (inl h) (to, epoch, o, i) =
              let calls = calls_kept script (facts script valid) older here.1 in
              let turn = turn_is script older x c.session here.0 acts in
              let now = ends_now _ _ _ turn c.number v a ended in
              elim (may_start _ _ _ turn) [
                | inl r ↦ (let way = sym r.1 ∙ turn.turn.running _ now.stop_is in
                    let sent = (calls.sent c.session to epoch c.number o i).sent (sym h.0 ∙ sym ends.0) way in
                    false≢true (sym e ∙ h.2 ∙ sent))
                | inr r ↦ goes.begins (started turn.start s).begun (subst (λ (l : List Note). IsIn (a_note.Began (started turn.start s).begun) l) h.3 r.1)
              ]

      -- by each way to end
      has : EndsBy script.space x.input mid v a → HasCause (the_call script valid trace run older c op n v) a
      has (inl r) =
          let o = op-is r.op r.called in
          let key = key-call op (ap is_key_call (sym o) ∙ r.on_key) in
          let i = arrived r.id older (post r.from (Session c.session) (a_message.Reply mid.begun v a))
          (subst (MayTake older (Session c.session)) r.input_is
          (subst (λ (b : Actor). MayTake older b x.input) acts here.0.input)) in
          reply-has older here.1 c op n (length older + 1) v called r.from a key.0 key.1
          (subst (λ k. IsIn (post r.from (Session c.session) (a_message.Reply k v a)) (posts_of older)) (sym ends.0) i) ended-there
      has (inr (inl k)) =
          let o = op-is k.op k.called in
          subst (HasCause (the_call script valid trace run older c op n v)) (sym k.answer)
          (key-lost script valid trace run older c op n v called mid k.op k.key o
          (ap key_of (sym o) ∙ k.on_key) config-known k.lost k.version (λ w. was) (λ w. never))
      has (inr (inr (inl p))) =
          let o = op-is (Search p.terms) p.called in
          subst (HasCause (the_call script valid trace run older c op n v)) (sym p.answer)
          (subst (λ (y : Op). HasCause (the_call script valid trace run older c y n v)
          (an_answer.Refused p.region mid.config.epoch)) o
          (plan-lost script valid trace run older c p.terms n v mid.config p.region config-known p.plan))
      has (inr (inr (inr (inl w)))) =
          let o = op-is (Search w.terms) w.called in
          subst (HasCause (the_call script valid trace run older c op n v)) (sym w.answer)
          (subst (λ (y : Op). HasCause (the_call script valid trace run older c y n v) (an_answer.Rows w.rows)) o
          (rows-found script valid trace run older c w.terms n (length older + 1) v w.rows
          (called ∙ ap Some (sym o)) began (subst (λ (b : Answer). EndedAt trace c v b (length older + 1))
          w.answer ended-there)))
      has (inr (inr (inr (inr w)))) =
          let i = arrived w.id older (post w.from (Session c.session) (a_message.Outcome mid.begun a))
          (subst (MayTake older (Session c.session)) w.input_is
          (subst (λ (b : Actor). MayTake older b x.input) acts here.0.input)) in
          let cause = (administers-run script valid older here.1).outcomes (post w.from (Session c.session) (a_message.Outcome mid.begun a)) i in
          outcome-has script valid trace run older c op n v called a
          (subst (λ k. OutcomeCause script older (record { session = c.session; number = k }) a) (sym ends.0) cause)
          (λ k b. began-once script valid trace run trace run c k n
          (subst (λ (t : List Entry). BeganAt t c k) (sym stands) (began-part newer x older c k b))
          (began_at c trace n began))

    -- the end has its cause
    end-has : HasCause (the_call script valid trace run older c op n v) a
    end-has = has does.mid does.rest does.id does.calls does.starts does.goes (ends does.mid does.rest does.id does.calls does.starts does.goes).1

  pub has-causes : HasCauses script trace
  has-causes newer older x c op n v a stands acts ended called began = end-has newer older x c op n v a stands acts ended called began
