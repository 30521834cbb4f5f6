-- What the notes of a trace that fits its script say of calls: who began is a caller of the script, and who ended began.
use Rattle.hx_law_lemmas.proofs.Lemmas.Vocabulary.{[], Actor, and_parts, Answer, ap, arith, below, Bool, call_of, Caller, callers_of, calls_of, cases_eq}
use Rattle.hx_law_lemmas.proofs.Lemmas.Vocabulary.{ends_well, Entry, eq-eqb, eqb, eqb-true, false, false≢true, has_begun, has_ended, inl, inr, is_begin_of}
use Rattle.hx_law_lemmas.proofs.Lemmas.Vocabulary.{is_some, IsIn, length, List, map, None, not, Note, note_fits, Noted, noted_in, notes_fit, numbered, Op}
use Rattle.hx_law_lemmas.proofs.Lemmas.Vocabulary.{Option, or_right, refl, reverse, same_actor, Script, Session, Some, subst, suc, sym, TraceFits, true}
use Rattle.hx_law_lemmas.proofs.Lemmas.Vocabulary.{Version, when_some, zero, ℕ, ◌&&◌, ◌++◌, ◌+◌, ◌<◌, ◌∙◌, ◌∷◌, ◌≡◌}
use Rattle.std.specs.Prelude.{slice_get}
use Rattle.hx_types.specs.declared.traces.Note.TheVariants as a_note
use Rattle.hx_law_lemmas.proofs.Lemmas.{get-below, any-in, in-append, in-flat, in-map, in-reverse, in_left, in_right, map-in, of-reverse, BeganAt, EndedAt}
use Rattle.hx_law_lemmas.proofs.Lemmas.{of_session}
use Rattle.hx_law_searches.proofs.Lemmas.{begin-number}

abbrev said : Actor → Note → Noted
said a n = record { actor = a; note = n }

-- the notes of an entry
abbrev now : Entry → List Noted
now x = map (said x.actor) (reverse x.notes)

now_in : (x : Entry) (m : Noted) → IsIn m (now x) → (m.actor ≡ x.actor) × IsIn m.note x.notes
now_in x m i =
    let r = in-map (said x.actor) (reverse x.notes) m i in
    (ap (λ (y : Noted). y.actor) r.2, subst (λ n. IsIn n x.notes) (sym (ap (λ (y : Noted). y.note) r.2)) (of-reverse x.notes r.0 r.1))

in_now : (x : Entry) (n : Note) → IsIn n x.notes → IsIn (said x.actor n) (now x)
in_now x n i = map-in (said x.actor) (reverse x.notes) n (in-reverse x.notes n i)

began_noted : (t : List Entry) (c : Caller) (n : ℕ) → BeganAt t c n → IsIn (said (Session c.session) (a_note.Began c.number)) (noted_in t)
began_noted [] c n b = absurd b
began_noted (x ∷ older) c n (inr b) = in_right (now x) (noted_in older) (said (Session c.session) (a_note.Began c.number)) (began_noted older c n b)
began_noted (x ∷ older) c n (inl b) =
    in_left (now x) (noted_in older) (said (Session c.session) (a_note.Began c.number))
    (subst (λ (a : Actor). IsIn (said a (a_note.Began c.number)) (now x)) b.0 (in_now x (a_note.Began c.number) b.1))

ended_noted : (t : List Entry) (c : Caller) (v : Version) (a : Answer) (n : ℕ) → EndedAt t c v a n
    → IsIn (said (Session c.session) (a_note.Ended c.number v a)) (noted_in t)
ended_noted [] c v a n b = absurd b
ended_noted (x ∷ older) c v a n (inr b) = in_right (now x) (noted_in older) (said (Session c.session) (a_note.Ended c.number v a)) (ended_noted older c v a n b)
ended_noted (x ∷ older) c v a n (inl b) =
    in_left (now x) (noted_in older) (said (Session c.session) (a_note.Ended c.number v a))
    (subst (λ (w : Actor). IsIn (said w (a_note.Ended c.number v a)) (now x)) b.0 (in_now x (a_note.Ended c.number v a) b.1))

-- who was noted as begun began
noted_began : (t : List Entry) (c : Caller) → has_begun c (noted_in t) ≡ true → (n : ℕ) × BeganAt t c n
noted_began t c e = let r = any-in (λ (x : Noted). same_actor x.actor (Session c.session) && is_begin_of c.number x.note) (noted_in t) e in by t r.0 r.1 r.2
  where
    by : (t : List Entry) (m : Noted) → IsIn m (noted_in t)
        → same_actor m.actor (Session c.session) && is_begin_of c.number m.note ≡ true → (n : ℕ) × BeganAt t c n
    by [] m i e = absurd i
    by (x ∷ older) m i e = elim (in-append (now x) (noted_in older) m i) [
      | inr j ↦ (let r = by older m j e in (r.0, inr r.1))
      | inl j ↦ (let p = and_parts (same_actor m.actor (Session c.session)) (is_begin_of c.number m.note) e in let q = now_in x m j in
          (length older + 1, inl (sym q.0 ∙ of_session c.session m.actor p.0, subst (λ n. IsIn n x.notes) (begin-number c m.note p.1) q.1, refl)))
    ]

-- a note fits those before it
record FitsAt (script : Script) (ms : List Noted) (m : Noted) : Type 0 where
  pub older : List Noted
  pub fits : note_fits script older m.actor m.note ≡ true
  pub begun : (c : Caller) → has_begun c older ≡ true → has_begun c ms ≡ true

fits_at : (script : Script) (ms : List Noted) → notes_fit script ms ≡ true → (m : Noted) → IsIn m ms → FitsAt script ms m
fits_at script [] e m i = absurd i
fits_at script (x ∷ older) e m (inl q) =
    let p = and_parts (note_fits script older x.actor x.note) (notes_fit script older) e in
    record {
      older = older;
      fits = ap (λ (y : Noted). note_fits script older y.actor y.note) q ∙ p.0;
      begun = λ c t. or_right (same_actor x.actor (Session c.session) && is_begin_of c.number x.note) (has_begun c older) t;
    }
fits_at script (x ∷ older) e m (inr i) =
    let p = and_parts (note_fits script older x.actor x.note) (notes_fit script older) e in
    let r = fits_at script older p.1 m i in
    record {
      older = r.older;
      fits = r.fits;
      begun = λ c t. or_right (same_actor x.actor (Session c.session) && is_begin_of c.number x.note) (has_begun c older) (r.begun c t);
    }

some_of : {A : Type 0} (o : Option A) → is_some o ≡ true → (x : A) × (o ≡ Some x)
some_of None e = absurd (false≢true e)
some_of (Some x) e = (x, refl)

module _ (script : Script) (trace : List Entry) (fits : TraceFits script trace) where
  -- who began is a caller of the script
  pub began_called : (c : Caller) (n : ℕ) → BeganAt trace c n → (op : Op) × (call_of script c ≡ Some op)
  began_called c n b =
      let f = fits_at script (noted_in trace) fits (said (Session c.session) (a_note.Began c.number)) (began_noted trace c n b) in
      some_of (call_of script c) (and_parts (is_some (call_of script c)) (not (has_begun c f.older)) f.fits).0

  -- who ended began
  pub ended_began : (c : Caller) (v : Version) (a : Answer) (n : ℕ) → EndedAt trace c v a n → (m : ℕ) × BeganAt trace c m
  ended_began c v a n b =
      let f = fits_at script (noted_in trace) fits (said (Session c.session) (a_note.Ended c.number v a)) (ended_noted trace c v a n b) in
      let p = and_parts (when_some (call_of script c) false (λ (op : Op). ends_well op a) && has_begun c f.older) (not (has_ended c f.older)) f.fits in
      noted_began trace c (f.begun c (and_parts (when_some (call_of script c) false (λ (op : Op). ends_well op a)) (has_begun c f.older) p.0).1)

-- ---- the callers of a script

below_in : (n k : ℕ) → k < n → IsIn k (below n)
below_in zero k l = absurd (omega (arith, l))
below_in (suc n) k l = by (λ m. below_in n k m) (eqb k n) refl
  where
    by : (k < n → IsIn k (below n)) → (b : Bool) → eqb k n ≡ b → IsIn k (below n ++ n ∷ [])
    by lower true e = in_right (below n) (n ∷ []) k (inl (eqb-true k n e))
    by lower false e = in_left (below n) (n ∷ []) k
        (lower (let z : (k ≡ n) → ⊥ = λ q. false≢true (sym e ∙ eq-eqb k n q) in
        elim (cases_eq k n) [ inl q ↦ absurd (z q) | inr q ↦ omega (arith, l, q) ]))

-- who has a call is a caller
pub caller_in : (script : Script) (c : Caller) (op : Op) → call_of script c ≡ Some op → IsIn c (callers_of script)
caller_in script c op e = by c.session.0 refl c.number refl e
  where
    calls_some : (u : ℕ) (n : ℕ) → numbered (when_some (slice_get script.sessions u) [] (λ (calls : List Op). calls))
        (suc n) ≡ Some op → u < length script.sessions
    calls_some u n q = at (slice_get script.sessions u) refl q
      where
        at : (o : Option (List Op)) → slice_get script.sessions u ≡ o
            → slice_get (when_some o [] (λ (calls : List Op). calls)) n ≡ Some op → u < length script.sessions
        at None z w = absurd (cc)
        at (Some l) z w = get-below script.sessions u l z

    by : (u : ℕ) → u ≡ c.session.0 → (n : ℕ) → n ≡ c.number → numbered (calls_of script c.session) c.number ≡ Some op → IsIn c (callers_of script)
    by zero p n q z = absurd (let w : numbered (when_some (numbered script.sessions 0) []
        (λ (calls : List Op). calls)) n ≡ Some op = subst
        (λ m. numbered (when_some (numbered script.sessions 0) [] (λ (calls : List Op). calls)) m ≡ Some op) (sym q)
        (subst (λ m. numbered (when_some (numbered script.sessions m) [] (λ (calls : List Op). calls)) c.number
        ≡ Some op) (sym p) z) in none n w)
      where
        none : (n : ℕ) → numbered {A = Op} [] n ≡ Some op → ⊥
        none zero w = cc
        none (suc n) w = cc
    by (suc u) p zero q z = absurd (let w : numbered (calls_of script c.session) 0 ≡ Some op =
        subst (λ m. numbered (calls_of script c.session) m ≡ Some op) (sym q) z in let y : None ≡ Some op = w in cc)
    by (suc u) p (suc n) q z =
        let pu : u + 1 ≡ c.session.0 = omega (arith, p) in
        let qn : n + 1 ≡ c.number = omega (arith, q) in
        let same : record { session = record { 0 = u + 1 }; number = n + 1 } ≡ c = (λ i. record { session = record { 0 = pu i }; number = qn i }) in
        let F : List Op → List Op = λ calls. calls in
        let w : numbered (when_some (numbered script.sessions (suc u)) [] F) (suc n) ≡ Some op =
        subst (λ m. numbered (when_some (numbered script.sessions m) [] F) (suc n) ≡ Some op) (sym p)
        (subst (λ m. numbered (calls_of script c.session) m ≡ Some op) (sym q) z) in
        let su : suc u ≡ u + 1 = omega arith in
        let few : n < length (when_some (numbered script.sessions (u + 1)) [] F) =
        subst (λ m. n < length (when_some (numbered script.sessions m) [] F)) su (get-below (when_some (slice_get script.sessions u) [] F) n op w) in
        subst (λ (d : Caller). IsIn d (callers_of script)) same
        (in-flat (λ u. map (λ n. record { session = record { 0 = u + 1 }; number = n + 1 })
        (below (length (calls_of script (record { 0 = u + 1 }))))) (below (length script.sessions)) u
        (record { session = record { 0 = u + 1 }; number = n + 1 })
        (below_in (length script.sessions) u (calls_some u n w))
        (map-in (λ (m : ℕ). record { session = record { 0 = u + 1 }; number = m + 1 }) (below (length (calls_of script (record { 0 = u + 1 })))) n
        (below_in (length (calls_of script (record { 0 = u + 1 }))) n few)))
