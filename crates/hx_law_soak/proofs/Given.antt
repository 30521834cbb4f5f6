-- In a run in which no server is halted and no call asks for another configuration no call is refused or in doubt, and each search ends with rows.
use Rattle.hx_law_lemmas.proofs.Lemmas.Vocabulary.{[], Add, Answer, AnsweredCall, ap, begin_of, call_of, Caller, Config, Entry, false, false≢true, HasCause}
use Rattle.hx_law_lemmas.proofs.Lemmas.Vocabulary.{inl, inr, is_administrative, is_doubt, is_fulfilled, is_lost, is_refused, is_rows, IsIn, IsRun, IsScript}
use Rattle.hx_law_lemmas.proofs.Lemmas.Vocabulary.{key_of, List, None, Op, refl, RegionId, Script, server_named, ServerId, Session, Some, Stop, subst, sym}
use Rattle.hx_law_lemmas.proofs.Lemmas.Vocabulary.{true, Version, ℕ, ◌++◌, ◌∙◌, ◌∷◌, ◌≡◌}
use Rattle.hx_types.specs.declared.calls.Answer.TheVariants as an_answer
use Rattle.hx_types.specs.declared.traces.Note.TheVariants as a_note
use Rattle.hx_law_lemmas.proofs.Lemmas.{in_right, not-lost, EndedAt}
use Rattle.hx_law_causes.specs.Causes.{LosesNothing}
use Rattle.hx_law_causes.proofs.Lemmas.{runs_answer_all, runs_have_causes}
use Rattle.hx_law_soak.specs.Soaks.{NoHalts}
use Rattle.hx_law_soak.proofs.Quiet.{NoneAdministers, only-first}

-- an end, with the entries after and before it
record Ends (t : List Entry) (c : Caller) (v : Version) (a : Answer) : Type 0 where
  pub newer : List Entry
  pub entry : Entry
  pub older : List Entry
  pub stands : t ≡ newer ++ entry ∷ older
  pub acts : entry.actor ≡ Session c.session
  pub noted : IsIn (a_note.Ended c.number v a) entry.notes

ends-in : (t : List Entry) (c : Caller) (v : Version) (a : Answer) (n : ℕ) → EndedAt t c v a n → Ends t c v a
ends-in [] c v a n h = absurd h
ends-in (x ∷ older) c v a n (inl h) = record { newer = []; entry = x; older = older; stands = refl; acts = h.0; noted = h.1 }
ends-in (x ∷ older) c v a n (inr h) =
    let r = ends-in older c v a n h in
    record { newer = x ∷ r.newer; entry = r.entry; older = r.older; stands = ap (λ (l : List Entry). x ∷ l) r.stands; acts = r.acts; noted = r.noted }

module _ (script : Script) (valid : IsScript script) (none : NoneAdministers script) (trace : List Entry)
    (run : IsRun script trace) (unhalted : NoHalts trace) where
  -- what is asked of an answer: it is neither refused nor in doubt, and a search's has rows
  pub record IsPlain (op : Op) (a : Answer) : Type 0 where
    pub not_refused : is_refused a ≡ false
    pub not_doubt : is_doubt a ≡ false
    pub rows : key_of op ≡ None → is_rows a ≡ true

  -- no region of the space is lost
  loses-nothing : LosesNothing script trace
  loses-nothing epoch config known g real = ap (λ (w : Config). is_lost w g)
      (only-first script valid none trace run unhalted epoch config known) ∙ not-lost script.space g real

  module _ (older : List Entry) (c : Caller) (op : Op) (called : call_of script c ≡ Some op) (n : ℕ) (v : Version) where
    abbrev call : AnsweredCall
    call = record { script = script; trace = trace; older = older; caller = c; op = op; begin = n; version = v }

    plain : (a : Answer) → (is_refused a ≡ false) × (is_doubt a ≡ false) → HasCause call a → IsPlain op a
    plain (an_answer.Refused g epoch) k h = absurd (false≢true (sym k.0))
    plain (an_answer.Doubt g epoch) k h = absurd (false≢true (sym k.1))
    plain an_answer.Done k h = record { not_refused = refl; not_doubt = refl; rows = λ e. absurd (no-key op h.key h.on_key e) }
      where
        no-key : (w : Op) (key : List ℕ) → key_of w ≡ Some key → key_of w ≡ None → ⊥
        no-key w key p q = let r : Some key ≡ None = sym p ∙ q in cc
    plain (an_answer.Rows rows) k h = record { not_refused = refl; not_doubt = refl; rows = λ e. refl }
    plain (an_answer.Issued epoch) k h = absurd (not-issued op (none c op called) h.config h.fulfilled)
      where
        not-issued : (w : Op) → is_administrative w ≡ false → (config : Config) → is_fulfilled w config ≡ true → ⊥
        not-issued (Stop s) a config t = false≢true (sym a)
        not-issued (Add s g) a config t = false≢true (sym a)
        not-issued other a config t = false≢true t
    plain (an_answer.Stopped epoch) k h = absurd (not-named op (none c op called) h.server h.named)
      where
        not-named : (w : Op) → is_administrative w ≡ false → (s : ServerId) → server_named w ≡ Some s → ⊥
        not-named (Stop i) a s t = false≢true (sym a)
        not-named (Add i g) a s t = false≢true (sym a)
        not-named other a s t = cc
    plain (an_answer.Member epoch) k h = absurd (not-add h.server h.region h.adds)
      where
        not-add : (s : ServerId) (g : RegionId) → op ≡ Add s g → ⊥
        not-add s g e = false≢true (sym (none c op called) ∙ ap is_administrative e)
    plain (an_answer.Joining epoch) k h = absurd (false≢true (sym (none c op called) ∙ ap is_administrative h.adds))
    plain (an_answer.Lost epoch) k h = absurd (false≢true (sym (none c op called) ∙ ap is_administrative h.adds))
    plain other k h = record { not_refused = refl; not_doubt = refl; rows = λ e. absurd (let r : Some h.key ≡ None = sym h.on_key ∙ e in cc) }

  -- so is the answer of each call that ended
  pub answers-plain : (c : Caller) (op : Op) → call_of script c ≡ Some op → (begin : ℕ)
      → begin_of c trace ≡ Some begin → (v : Version) (a : Answer) (n : ℕ) → EndedAt trace c v a n → IsPlain op a
  answers-plain c op called begin began v a n h =
      let e = ends-in trace c v a n h in
      let entry : IsIn e.entry trace = subst (IsIn e.entry) (sym e.stands) (in_right e.newer (e.entry ∷ e.older) e.entry (inl refl)) in
      plain e.older c op called begin v a
      (runs_answer_all script valid trace run loses-nothing e.entry entry c v a e.acts e.noted)
      (runs_have_causes script valid trace run e.newer e.older e.entry c op begin v a e.stands e.acts e.noted called began)
