-- Where no configuration of a run has lost a region of the space, no call is refused or in doubt.
use Rattle.hx_law_lemmas.proofs.Lemmas.Vocabulary.{[], Answer, AnsweredCall, ap, begin_of, call_of, Caller, Config, config_of, Entry, Epoch, false, false≢true}
use Rattle.hx_law_lemmas.proofs.Lemmas.Vocabulary.{HasCause, HasCauses, inl, inr, is_doubt, is_refused, IsIn, IsLostIn, IsRegionOf, IsRun, IsScript, IsSome}
use Rattle.hx_law_lemmas.proofs.Lemmas.Vocabulary.{length, List, None, Note, numbered, Op, Option, refl, RegionId, Script, Search, Session, session_of, Some}
use Rattle.hx_law_lemmas.proofs.Lemmas.Vocabulary.{subst, sym, Version, ℕ, ◌++◌, ◌+◌, ◌∙◌, ◌∷◌, ◌≡◌}
use Rattle.hx_types.specs.declared.calls.Answer.TheVariants as an_answer
use Rattle.hx_types.specs.declared.traces.Note.TheVariants as a_note
use Rattle.hx_law_lemmas.proofs.Lemmas.{EndsBy, SessionDoes, Starts, session-does, BeganAt, begin_is, ends_now, may_start}
use Rattle.hx_law_chains.proofs.Lemmas.{named}
use Rattle.hx_law_epochs.proofs.Lemmas.{IsKnown, epochs-run, known-still}
use Rattle.hx_law_searches.proofs.Lemmas.{step_is, turn_is}
use Rattle.hx_law_causes.specs.Causes.{AnswersAll, LosesNothing}
use Rattle.hx_law_causes.proofs.Administered.{administers-run}
use Rattle.hx_law_causes.proofs.Answered.{run-part}
use Rattle.hx_law_causes.proofs.Named.{doubted-real, refused-real}

-- an entry of a trace stands between the newer and the older ones
record Stands (trace : List Entry) (x : Entry) : Type 0 where
  pub newer : List Entry
  pub older : List Entry
  pub stands : trace ≡ newer ++ x ∷ older

stands-in : (trace : List Entry) (x : Entry) → IsIn x trace → Stands trace x
stands-in [] x i = absurd i
stands-in (y ∷ rest) x (inl e) = record { newer = []; older = rest; stands = ap (λ (z : Entry). z ∷ rest) (sym e) }
stands-in (y ∷ rest) x (inr i) = let r = stands-in rest x i in record { newer = y ∷ r.newer; older = r.older; stands = ap (λ (l : List Entry). y ∷ l) r.stands }

-- what is known at some moment is known later
known-later : (script : Script) → IsScript script → (newer older : List Entry) → IsRun script (newer ++ older)
    → (c : Config) → IsKnown script older c → IsKnown script (newer ++ older) c
known-later script valid [] older run c k = k
known-later script valid (y ∷ newer) older run c k =
    known-still script valid (newer ++ older) (epochs-run script valid (newer ++ older) run.1) y run.0 c
    (known-later script valid newer older run.1 c k)

-- what began by an entry began in each longer trace
began-later : (newer : List Entry) (t : List Entry) (c : Caller) (n : ℕ) → BeganAt t c n → BeganAt (newer ++ t) c n
began-later [] t c n h = h
began-later (y ∷ newer) t c n h = inr (began-later newer t c n h)

-- an entry that is found
found-entry : (o : Option ℕ) → IsSome o → (n : ℕ) × (o ≡ Some n)
found-entry None h = absurd (false≢true h)
found-entry (Some n) h = (n, refl)

module _ (script : Script) (valid : IsScript script) where
  -- a call that ends is the script's, and has begun
  ended-call : (x : Entry) (older : List Entry) → IsRun script (x ∷ older) → (c : Caller) (v : Version) (a : Answer)
      → x.actor ≡ Session c.session → IsIn (a_note.Ended c.number v a) x.notes
      → ((op : Op) × (call_of script c ≡ Some op)) × ((n : ℕ) × BeganAt (x ∷ older) c n)
  ended-call x older run c v a acts ended =
      let s = session_of script c.session older in
      let does = subst (SessionDoes script.space x.input s) (step_is script older x c.session run.0 acts) (session-does script.space s x.input) in
      let turn = turn_is script older x c.session run.0 acts in
      let now = ends_now _ _ _ turn c.number v a ended in
      let way = turn.turn.running _ now.stop_is in (
        op-of does,
        elim (may_start _ _ _ turn) [
          | inl r ↦ (let b = (administers-run script valid older run.1).running c.session (sym r.1 ∙ way) in
              (b.0, inr (subst (λ k. BeganAt older (record { session = c.session; number = k }) b.0) (sym r.0 ∙ sym now.number) b.1)))
          | inr r ↦ (length older + 1, inl (acts, subst (λ k. IsIn (a_note.Began k) x.notes) (sym now.number) r.1, refl))
        ],
      )
    where
      op-of : SessionDoes script.space x.input (session_of script c.session older)
          (record { state = session_of script c.session (x ∷ older); posts = x.outputs; notes = x.notes }) → (op : Op)
          × (call_of script c ≡ Some op)
      op-of does = by (does.goes.ends c.number v a (there does.starts))
        where
          called : (op : Op) → c.number ≡ does.mid.begun → numbered does.mid.calls does.mid.begun ≡ Some op → call_of script c ≡ Some op
          called op e q = ap (λ (l : List Op). numbered l c.number) (sym (does.calls ∙ (named script older c.session).1)) ∙ ap (numbered does.mid.calls) e ∙ q

          by : (c.number ≡ does.mid.begun) × EndsBy script.space x.input does.mid v a → (op : Op) × (call_of script c ≡ Some op)
          by (e, inl r) = (r.op, called r.op e r.called)
          by (e, inr (inl r)) = (r.op, called r.op e r.called)
          by (e, inr (inr (inl r))) = (Search r.terms, called (Search r.terms) e r.called)
          by (e, inr (inr (inr (inl r)))) = (Search r.terms, called (Search r.terms) e r.called)
          by (e, inr (inr (inr (inr r)))) = (r.op, called r.op e r.called)

          there : Starts (session_of script c.session older) does.mid x.notes does.rest → IsIn (a_note.Ended c.number v a) does.rest
          there (inl h) = subst (λ (l : List Note). IsIn (a_note.Ended c.number v a) l) h.3 ended
          there (inr h) = elim (subst (λ (l : List Note). IsIn (a_note.Ended c.number v a) l) h.4 ended) [ inl q ↦ absurd (no q) | inr j ↦ j ]
            where
              no : a_note.Ended c.number v a ≡ a_note.Began does.mid.begun → ⊥
              no q = absurd (cc)

  module _ (trace : List Entry) (run : IsRun script trace) (causes : HasCauses script trace) (present : LosesNothing script trace) where
    -- a cause by a lost region of the space is none
    none-lost : (newer : List Entry) (x : Entry) (older : List Entry) → trace ≡ newer ++ x ∷ older
        → (call : AnsweredCall) → call.script ≡ script → call.older ≡ older
        → (config : Config) (g : RegionId) (epoch : Epoch) → IsLostIn call config g epoch → IsRegionOf script.space g → ⊥
    none-lost newer x older stands call s o config g epoch h real =
        let r : IsRun script (newer ++ x ∷ older) = subst (IsRun script) stands run in
        let part = run-part script newer x older r in
        let known : config_of script epoch older ≡ Some config =
        subst (λ (t : List Entry). config_of script epoch t ≡ Some config) o
        (subst (λ (z : Script). config_of z epoch call.older ≡ Some config) s h.of_epoch) in
        let e = ((epochs-run script valid older part.1).known.on.only epoch config known).2 in
        let k : IsKnown script older config = subst (λ (y : Epoch). config_of script y older ≡ Some config) (sym e) known in
        let here : IsKnown script (x ∷ older) config = known-still script valid older (epochs-run script valid older part.1) x part.0 config k in
        let there : IsKnown script trace config = subst (λ (t : List Entry). IsKnown script t config) (sym stands)
        (known-later script valid newer (x ∷ older) r config here) in
        false≢true (sym (present config.epoch config there g real) ∙ h.lost)

    pub answers-all : AnswersAll script trace
    answers-all x i c v a acts ended =
        let st = stands-in trace x i in
        let r : IsRun script (st.newer ++ x ∷ st.older) = subst (IsRun script) st.stands run in
        let part = run-part script st.newer x st.older r in
        let call = ended-call x st.older part c v a acts ended in
        let began = found-entry (begin_of c trace) (begin_is c trace call.1.0
        (subst (λ (t : List Entry). BeganAt t c call.1.0) (sym st.stands)
        (began-later st.newer (x ∷ st.older) c call.1.0 call.1.1))) in
        by st part.1 call.0.0 began.0 a (causes st.newer st.older x c call.0.0 began.0 v a st.stands acts ended call.0.1 began.1)
      where
        by : (st : Stands trace x) → IsRun script st.older → (op : Op) (n : ℕ) (a : Answer)
            → HasCause (record {
              script = script;
              trace = trace;
              older = st.older;
              caller = c;
              op = op;
              begin = n;
              version = v;
            }) a → (is_refused a ≡ false) × (is_doubt a ≡ false)
        by st earlier op n (an_answer.Refused g epoch) h =
            absurd (none-lost st.newer x st.older st.stands
            (record {
              script = script;
              trace = trace;
              older = st.older;
              caller = c;
              op = op;
              begin = n;
              version = v;
            }) refl refl h.config g epoch h.lost
            (refused-real script valid trace st.older earlier c op n v h.config g op h.refused))
        by st earlier op n (an_answer.Doubt g epoch) h =
            absurd (none-lost st.newer x st.older st.stands
            (record {
              script = script;
              trace = trace;
              older = st.older;
              caller = c;
              op = op;
              begin = n;
              version = v;
            }) refl refl h.config g epoch h.lost
            (doubted-real script valid trace st.older earlier c op n v g epoch h))
        by st earlier op n other h = (refl, refl)
