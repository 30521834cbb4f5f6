-- What a session's notes say of its calls: each that begins or ends is one of them, and a search ends with rows or refused.
use Rattle.hx_law_lemmas.proofs.Lemmas.Vocabulary.{Answer, ap, false≢true, inl, Input, inr, is_administrative, is_key_call, is_refused, is_rows, IsIn, key_of}
use Rattle.hx_law_lemmas.proofs.Lemmas.Vocabulary.{List, None, numbered, Op, Search, session_step, SessionState, SessionStep, Some, Space, subst, sym, Term}
use Rattle.hx_law_lemmas.proofs.Lemmas.Vocabulary.{true, Version, ℕ, ◌||◌, ◌∙◌, ◌≡◌}
use Rattle.hx_types.specs.declared.traces.Note.TheVariants as a_note
use Rattle.hx_law_lemmas.proofs.Lemmas.{EndsBy, SessionDoes, Starts, session-does}

-- a search ends with rows or refused
abbrev pub SearchEnds : Op → Answer → Type 0
SearchEnds op answer = (terms : List Term) → op ≡ Search terms → is_rows answer || is_refused answer ≡ true

-- what the notes of a step say
pub record NotesFit (s : SessionState) (step : SessionStep) : Type 0 where
  pub begins : (n : ℕ) → IsIn (a_note.Began n) step.notes → (op : Op) × (numbered s.calls n ≡ Some op)
  pub ends : (n : ℕ) (v : Version) (answer : Answer) → IsIn (a_note.Ended n v answer) step.notes → (op : Op)
      × (numbered s.calls n ≡ Some op) × SearchEnds op answer

-- what isn't a search ends as it will
no-search : (op : Op) (answer : Answer) → ((terms : List Term) → op ≡ Search terms → ⊥) → SearchEnds op answer
no-search op answer n terms e = absurd (n terms e)

-- each input
pub notes-fit : (space : Space) (s : SessionState) (input : Input) → NotesFit s (session_step space s input)
notes-fit space s input = record {
  begins = does.fresh;
  ends = λ n v answer i. (let e = does.goes.ends n v answer (there n v answer does.starts i) in
      let r = how v answer e.1 in (
        r.0,
        ap (λ (l : List Op). numbered l n) (sym does.calls)
            ∙ ap (numbered does.mid.calls) e.0 ∙ r.1,
        r.2,
      ));
}
  where
    does : SessionDoes space input s (session_step space s input)
    does = session-does space s input

    there : (n : ℕ) (v : Version) (answer : Answer) → Starts s does.mid (session_step space s input).notes does.rest
        → IsIn (a_note.Ended n v answer) (session_step space s input).notes → IsIn (a_note.Ended n v answer) does.rest
    there n v answer (inl (a, b, c, e)) i = subst (λ ns. IsIn (a_note.Ended n v answer) ns) e i
    there n v answer (inr (a, b, c, d, e)) i = elim (subst (λ ns. IsIn (a_note.Ended n v answer) ns) e i) [ inl q ↦ absurd (cc) | inr j ↦ j ]

    how : (v : Version) (answer : Answer) → EndsBy space input does.mid v answer → (op : Op)
        × (numbered does.mid.calls does.mid.begun ≡ Some op) × SearchEnds op answer
    how v answer (inl r) = (r.op, r.called, no-search r.op answer (λ terms e. false≢true (sym (ap is_key_call e) ∙ r.on_key)))
    how v answer (inr (inl r)) = (r.op, r.called, no-search r.op answer (λ terms e. let q : None ≡ Some r.key = sym (ap key_of e) ∙ r.on_key in absurd (cc)))
    how v answer (inr (inr (inl r))) = (Search r.terms, r.called, λ terms e. ap (λ (a : Answer). is_rows a || is_refused a) r.answer)
    how v answer (inr (inr (inr (inl r)))) = (Search r.terms, r.called, λ terms e. ap (λ (a : Answer). is_rows a || is_refused a) r.answer)
    how v answer (inr (inr (inr (inr r)))) = (r.op, r.called, no-search r.op answer (λ terms e. false≢true (sym (ap is_administrative e) ∙ r.administers)))
