-- Every run fits its script: its calls begin once and end once, as their operations can, and what is assigned is answered so too.
use Rattle.hx_law_lemmas.proofs.Lemmas.Vocabulary.{[], Actor, and_from, and_parts, Answer, ap, assigns_well, Atomic, Bool, call_of, Caller, changed_to, cond}
use Rattle.hx_law_lemmas.proofs.Lemmas.Vocabulary.{cond-true, Coordinator, coordinator_of, Cput, Del, Effect, effect_of, ends_well, Entry, eq-eqb, eqb}
use Rattle.hx_law_lemmas.proofs.Lemmas.Vocabulary.{eqb-true, Facts, false, false≢true, Get, get_answer, has_begun, has_ended, inl, inr, is_begin_of}
use Rattle.hx_law_lemmas.proofs.Lemmas.Vocabulary.{is_cmp_fail, is_done, is_end_of, is_found, is_not_found, is_overflow, is_refused, is_some, is_too_long}
use Rattle.hx_law_lemmas.proofs.Lemmas.Vocabulary.{is_write, IsIn, IsRun, key_of, left_as, length, line_notes, line_object, line_of, List, made_of, map, None}
use Rattle.hx_law_lemmas.proofs.Lemmas.Vocabulary.{not, Note, Noted, noted_in, notes_fit, numbered, Op, Option, or_left, other_note_fits, Output, Put, refl}
use Rattle.hx_law_lemmas.proofs.Lemmas.Vocabulary.{reverse, same_actor, same_session, same_text, same_text_self, Script, Search, Server, server_of, ServerId}
use Rattle.hx_law_lemmas.proofs.Lemmas.Vocabulary.{Session, session_of, SessionId, Some, Space, subst, sym, Tells, tests_hold, true, Update, upto, Value}
use Rattle.hx_law_lemmas.proofs.Lemmas.Vocabulary.{Version, when_some, written, ℕ, ◌&&◌, ◌++◌, ◌+◌, ◌||◌, ◌∙◌, ◌∷◌, ◌≡◌, ◌⊎◌}
use Rattle.hx_types.specs.declared.calls.Answer.TheVariants as an_answer
use Rattle.hx_types.specs.declared.traces.Note.TheVariants as a_note
use Rattle.hx_law_lemmas.proofs.Lemmas.{atomic-both, any-in, in-append, in-map, in-reverse, in_left, in_right, of-reverse, CallStop, began_notes, end_notes}
use Rattle.hx_law_lemmas.proofs.Lemmas.{started, BeganAt, EndedAt, of_session, session_self, SessionTurn, all_notes, update-at}
use Rattle.hx_law_posts.proofs.Lemmas.{any-of}
use Rattle.hx_law_chains.proofs.Lemmas.{Issues, coordinator-plain, named, AnySnapshot, AssignsOne, server-plain}
use Rattle.hx_law_searches.proofs.Calls.{Calls}
use Rattle.hx_law_searches.proofs.CallsKept.{calls_kept, step_is, turn_is}
use Rattle.hx_law_searches.proofs.Items as items
use Rattle.hx_law_searches.proofs.SessionEnds.{NotesFit, SearchEnds, notes-fit}
use Rattle.hx_law_searches.proofs.Times.{not_again}

-- ---- what is assigned

-- a key that an operation names is the one asked for
same_key : (k key : List ℕ) → Some k ≡ Some key → same_text k key ≡ true
same_key k key e = let q : k ≡ key = cc in ap (same_text k) (sym q) ∙ same_text_self k

-- an answer that is another, which is one of some or Refused, or that is Refused itself
one-of : (some : Answer → Bool) (made answer : Answer) → some made || is_refused made ≡ true → (answer ≡ made)
    ⊎ (is_refused answer ≡ true) → some answer || is_refused answer ≡ true
one-of some made answer t (inl same) = ap (λ (a : Answer). some a || is_refused a) same ∙ t
one-of some made answer t (inr refused) = or-last (some answer) (is_refused answer) refused
  where
    or-last : (a b : Bool) → b ≡ true → a || b ≡ true
    or-last true b z = refl
    or-last false b z = z

-- an update of a write is answered as its operation can be, or refused
assigned-well : (space : Space) (old : Option (List Value)) (key : List ℕ) (op : Op) (answer : Answer)
    → is_write op ≡ true → key_of op ≡ Some key → (answer ≡ (effect_of space old op).answer)
    ⊎ (is_refused answer ≡ true) → assigns_well key op answer ≡ true
assigned-well space old key (Put k sets) answer w e h = and_from (same_text k key) _ (same_key k key e) (one-of is_done _ answer refl h)
assigned-well space old key (Del k) answer w e h =
    and_from (same_text k key) _ (same_key k key e)
    (one-of (λ (a : Answer). is_done a || is_not_found a) (effect_of space old (Del k)).answer answer (by old) h)
  where
    by : (old : Option (List Value)) → (let a = (effect_of space old (Del k)).answer in is_done a || is_not_found a || is_refused a) ≡ true
    by None = refl
    by (Some x) = refl
assigned-well space old key (Cput k tests sets) answer w e h =
    and_from (same_text k key) _ (same_key k key e)
    (one-of (λ (a : Answer). is_done a || is_not_found a || is_cmp_fail a) (effect_of space old (Cput k tests sets)).answer answer (by old) h)
  where
    by : (old : Option (List Value)) → (let a = (effect_of space old (Cput k tests sets)).answer in
        is_done a || is_not_found a || is_cmp_fail a || is_refused a) ≡ true
    by None = refl
    by (Some x) = some (tests_hold x tests)
      where
        some : (b : Bool) → (let a = (cond b (changed_to (Some (written x sets)))
            (left_as (Some x) an_answer.CmpFail)).answer in is_done a || is_not_found a || is_cmp_fail a || is_refused a) ≡ true
        some true = refl
        some false = refl
assigned-well space old key (Atomic k edits) answer w e h =
    and_from (same_text k key) _ (same_key k key e)
    (one-of (λ (a : Answer). is_done a || is_not_found a || is_overflow a || is_too_long a) (effect_of space old (Atomic k edits)).answer answer by h)
  where
    by : (let a = (effect_of space old (Atomic k edits)).answer in is_done a || is_not_found a || is_overflow a || is_too_long a || is_refused a) ≡ true
    by = atomic-both (λ (f : Effect). is_done f.answer || is_not_found f.answer || is_overflow f.answer
        || is_too_long f.answer || is_refused f.answer ≡ true) space old k edits
        (λ object. refl) refl (λ object. refl) (λ object. refl)
assigned-well space old key other answer w e h = absurd (false≢true w)

-- ---- begins and ends among the notes

-- a note among those of an entry
abbrev noted-now : Entry → List Noted
noted-now x = map (λ (n : Note). record { actor = x.actor; note = n }) (reverse x.notes)

-- such a note is one of the entry's
now-in : (x : Entry) (m : Noted) → IsIn m (noted-now x) → (m.actor ≡ x.actor) × IsIn m.note x.notes
now-in x m i =
    let r = in-map (λ (n : Note). record { actor = x.actor; note = n }) (reverse x.notes) m i in
    (ap (λ (y : Noted). y.actor) r.2, subst (λ n. IsIn n x.notes) (sym (ap (λ (y : Noted). y.note) r.2)) (of-reverse x.notes r.0 r.1))

-- a begin that is noted began
pub begin-number : (c : Caller) (n : Note) → is_begin_of c.number n ≡ true → n ≡ a_note.Began c.number
begin-number c (a_note.Began k) e = let q = eqb-true k c.number e in ap a_note.Began q
begin-number c other e = absurd (false≢true e)

-- an end that is noted ended
end-number : (c : Caller) (n : Note) → is_end_of c.number n ≡ true → (v : Version) × (a : Answer) × (n ≡ a_note.Ended c.number v a)
end-number c (a_note.Ended k v a) e = let q = eqb-true k c.number e in (v, a, ap (λ m. a_note.Ended m v a) q)
end-number c other e = absurd (false≢true e)

-- who was noted as begun began
has-begun : (t : List Entry) (c : Caller) → has_begun c (noted_in t) ≡ true → (n : ℕ) × BeganAt t c n
has-begun t c e = let r = any-in (λ (x : Noted). same_actor x.actor (Session c.session) && is_begin_of c.number x.note) (noted_in t) e in by t r.0 r.1 r.2
  where
    by : (t : List Entry) (m : Noted) → IsIn m (noted_in t)
        → same_actor m.actor (Session c.session) && is_begin_of c.number m.note ≡ true → (n : ℕ) × BeganAt t c n
    by [] m i e = absurd i
    by (x ∷ older) m i e = elim (in-append (noted-now x) (noted_in older) m i) [
      | inr j ↦ (let r = by older m j e in (r.0, inr r.1))
      | inl j ↦ (let p = and_parts (same_actor m.actor (Session c.session)) (is_begin_of c.number m.note) e in let q = now-in x m j in
          (length older + 1, inl (sym q.0 ∙ of_session c.session m.actor p.0, subst (λ n. IsIn n x.notes) (begin-number c m.note p.1) q.1, refl)))
    ]

-- the note of a begin
abbrev begin-note : Entry → Caller → Noted
begin-note x c = record { actor = x.actor; note = a_note.Began c.number }

-- who began was noted
begun-noted : (t : List Entry) (c : Caller) (n : ℕ) → BeganAt t c n → has_begun c (noted_in t) ≡ true
begun-noted t c n b = let r = there t b in any-of
    (λ (x : Noted). same_actor x.actor (Session c.session) && is_begin_of c.number x.note) (noted_in t) r.0 r.1 r.2
  where
    there : (t : List Entry) → BeganAt t c n → (m : Noted) × IsIn m (noted_in t)
        × (same_actor m.actor (Session c.session) && is_begin_of c.number m.note ≡ true)
    there [] b = absurd b
    there (x ∷ older) (inr b) = let r = there older b in (r.0, in_right (noted-now x) (noted_in older) r.0 r.1, r.2)
    there (x ∷ older) (inl b) = (
      begin-note x c,
      in_left (noted-now x) (noted_in older) (begin-note x c) (mapped x (reverse x.notes) (in-reverse x.notes (a_note.Began c.number) b.1)),
      and_from (same_actor x.actor (Session c.session)) (eqb c.number c.number)
          (ap (λ (a : Actor). same_actor a (Session c.session)) b.0 ∙ session_self c.session) (eq-eqb c.number c.number refl),
    )
      where
        mapped : (x : Entry) (ns : List Note) → IsIn (a_note.Began c.number) ns
            → IsIn (begin-note x c) (map (λ (n : Note). record { actor = x.actor; note = n }) ns)
        mapped x [] i = absurd i
        mapped x (k ∷ ns) (inl e) = inl (λ j. record { actor = x.actor; note = e j })
        mapped x (k ∷ ns) (inr i) = inr (mapped x ns i)

-- who was noted as ended ended
has-ended : (t : List Entry) (c : Caller) → has_ended c (noted_in t) ≡ true → (v : Version) × (a : Answer) × (n : ℕ) × EndedAt t c v a n
has-ended t c e = let r = any-in (λ (x : Noted). same_actor x.actor (Session c.session) && is_end_of c.number x.note) (noted_in t) e in by t r.0 r.1 r.2
  where
    by : (t : List Entry) (m : Noted) → IsIn m (noted_in t)
        → same_actor m.actor (Session c.session) && is_end_of c.number m.note ≡ true → (v : Version) × (a : Answer)
        × (n : ℕ) × EndedAt t c v a n
    by [] m i e = absurd i
    by (x ∷ older) m i e = elim (in-append (noted-now x) (noted_in older) m i) [
      | inr j ↦ (let r = by older m j e in (r.0, r.1, r.2, inr r.3))
      | inl j ↦ (let p = and_parts (same_actor m.actor (Session c.session)) (is_end_of c.number m.note) e in
          let q = now-in x m j in let n = end-number c m.note p.1 in
          (n.0, n.1, length older + 1, inl (sym q.0 ∙ of_session c.session m.actor p.0, subst (λ k. IsIn k x.notes) n.2 q.1, refl)))
    ]

-- what isn't so is false
is-false : (b : Bool) → (b ≡ true → ⊥) → not b ≡ true
is-false true f = absurd (f refl)
is-false false f = refl

module _ (script : Script) (facts : Facts script) (older : List Entry) (x : Entry) (run : IsRun script (x ∷ older)) where
  -- what the run keeps of calls
  calls : Calls script (x ∷ older)
  calls = calls_kept script facts (x ∷ older) run

  -- ---- servers and the coordinator

  -- an assigned update fits
  assigned-fits : (u : Update) → x.notes ≡ a_note.Assigned u ∷ []
      → when_some (call_of script u.caller) false (λ (op : Op). assigns_well u.key op u.answer) ≡ true
  assigned-fits u e =
      let line : line_of u.key (x ∷ older) ≡ u ∷ _ =
      ap (line_notes u.key (line_of u.key older)) e
      ∙ cond-true (same_text u.key u.key) _ (line_of u.key older) (same_text_self u.key) in
      let at = update-at script u.key (line_of u.key (x ∷ older)) u (facts.lines (x ∷ older) run u.key) (subst (λ l. IsIn u l) (sym line) (inl refl)) in
      let l = at.1 in
      ap (λ (o : Option Op). when_some o false (λ (op : Op). assigns_well u.key op u.answer)) l.called
      ∙ assigned-well script.space (line_object at.0) u.key l.op u.answer l.writes l.on_key (elim l.effect [ inl f ↦ inl f.0 | inr f ↦ inr f.0 ])

  -- ---- a session

  module _ (u : SessionId) (acts : x.actor ≡ Session u) where
    -- what the step's notes say
    said : NotesFit (session_of script u older) (record { state = session_of script u (x ∷ older); posts = x.outputs; notes = x.notes })
    said = subst (NotesFit (session_of script u older)) (step_is script older x u run.0 acts) (notes-fit script.space (session_of script u older) x.input)

    -- a call of the session is the script's
    called : (n : ℕ) (op : Op) → numbered (session_of script u older).calls n ≡ Some op → call_of script (record { session = u; number = n }) ≡ Some op
    called n op e = ap (λ (l : List Op). numbered l n) (sym (named script older u).1) ∙ e

    -- a begin fits
    begin-fits : (n : ℕ) → IsIn (a_note.Began n) x.notes
        → is_some (call_of script (record { session = u; number = n }))
        && not (has_begun (record { session = u; number = n }) (noted_in older)) ≡ true
    begin-fits n i =
        let b = said.begins n i in
        and_from (is_some (call_of script (record { session = u; number = n }))) _ (ap (λ (o : Option Op). is_some o) (called n b.0 b.1))
        (is-false (has_begun (record { session = u; number = n }) (noted_in older))
        (λ e. let r = has-begun older (record { session = u; number = n }) e in
        items.not-again script facts older x run (record { session = u; number = n }) r.0 r.1 acts i))

    -- how the call ends fits its operation
    ends-fit : (n : ℕ) (v : Version) (answer : Answer) → IsIn (a_note.Ended n v answer) x.notes
        → when_some (call_of script (record { session = u; number = n })) false (λ (op : Op). ends_well op answer) ≡ true
    ends-fit n v answer i =
        let b = said.ends n v answer i in
        let c = called n b.0 b.1 in
        ap (λ (o : Option Op). when_some o false (λ (op : Op). ends_well op answer)) c ∙ by b.0 c b.2
      where
        or-last : (a b : Bool) → b ≡ true → a || b ≡ true
        or-last true b z = refl
        or-last false b z = z

        got : (o : Option (List Value)) → answer ≡ get_answer o → is_found answer || is_not_found answer || is_refused answer ≡ true
        got None e = ap (λ (a : Answer). is_found a || is_not_found a || is_refused a) e
        got (Some y) e = ap (λ (a : Answer). is_found a || is_not_found a || is_refused a) e

        by : (op : Op) → call_of script (record { session = u; number = n }) ≡ Some op → SearchEnds op answer → ends_well op answer ≡ true
        by (Search terms) c s = s terms refl
        by (Get key) c s = elim (calls.replied (record { session = u; number = n }) v answer (length older + 1) (inl (acts, i, refl)) (Get key) key c refl) [
          | inl r ↦ told (facts.replies (x ∷ older) run r.0 (record { session = u; number = n }) v answer r.1 (Get key) key c refl)
          | inr r ↦ elim r.1 [ inl z ↦ absurd (false≢true z.1) | inr z ↦ or-last (is_found answer || is_not_found answer) (is_refused answer) z.0 ]
        ]
          where
            told : Tells (line_of key (x ∷ older)) (record { session = u; number = n }) v answer (Get key)
                → is_found answer || is_not_found answer || is_refused answer ≡ true
            told (inl h) = absurd (false≢true h.0)
            told (inr (inl h)) = absurd (false≢true h.0)
            told (inr (inr h)) = got (line_object (upto v.0 (line_of key (x ∷ older)))) h.2
        by other c s = refl

    -- the call that ends has not ended before
    ends-once : (n : ℕ) (v : Version) (answer : Answer) → IsIn (a_note.Ended n v answer) x.notes
        → has_ended (record { session = u; number = n }) (noted_in older) ≡ false
    ends-once n v answer i = by (has_ended (record { session = u; number = n }) (noted_in older)) refl
      where
        by : (b : Bool) → has_ended (record { session = u; number = n }) (noted_in older) ≡ b → b ≡ false
        by false e = refl
        by true e = (let r = has-ended older (record { session = u; number = n }) e in
            absurd (not_again script facts older x run (record { session = u; number = n }) v r.0 answer r.1 r.2 acts i r.3))

  -- ---- the notes of an entry

  -- the notes of an actor fit
  abbrev FitsOf : Actor → List Note → Type 0
  FitsOf a ns = notes_fit script (map (λ (n : Note). record { actor = a; note = n }) (reverse ns) ++ noted_in older) ≡ true

  module _ (had : notes_fit script (noted_in older) ≡ true) where
    -- the coordinator's
    of-coordinator : (ns : List Note) → Issues ns → FitsOf Coordinator ns
    of-coordinator ns (inl e) = subst (FitsOf Coordinator) (sym e) had
    of-coordinator ns (inr r) = subst (FitsOf Coordinator) (sym r.1) had

    -- a server's
    of-server : (i : ServerId) → AssignsOne x.notes → FitsOf (Server i) x.notes
    of-server i (inl e) = subst (FitsOf (Server i)) (sym e) had
    of-server i (inr r) = subst (FitsOf (Server i)) (sym r.1)
        (and_from (other_note_fits script (a_note.Assigned r.0)) (notes_fit script (noted_in older)) (assigned-fits r.0 r.1) had)

    -- a session's
    of-session : (u : SessionId) → x.actor ≡ Session u → FitsOf (Session u) x.notes
    of-session u acts = subst (FitsOf (Session u)) (sym (noted turn.start refl turn.turn.stop refl)) (by turn.start refl turn.turn.stop refl)
      where
        turn : SessionTurn x.input (session_of script u older) (record { state = session_of script u (x ∷ older); posts = x.outputs; notes = x.notes })
        turn = turn_is script older x u run.0 acts

        before : Calls script older
        before = calls_kept script facts older run.1

        or-none : (a h : Bool) → h ≡ false → not (a && false || h) ≡ true
        or-none true h e = ap not e
        or-none false h e = ap not e

        -- what is noted
        noted : (b : Bool) → turn.start ≡ b → (o : Option CallStop) → turn.turn.stop ≡ o
            → x.notes ≡ began_notes b ((session_of script u older).begun + 1)
            ++ end_notes (started b (session_of script u older)).begun o
        noted b e o f =
            all_notes x.input (session_of script u older) _ turn
            ∙ ap (λ (k : Bool). began_notes k ((session_of script u older).begun + 1)
            ++ end_notes (started k (session_of script u older)).begun turn.turn.stop) e
            ∙ ap (λ (p : Option CallStop). began_notes b ((session_of script u older).begun + 1) ++ end_notes (started b (session_of script u older)).begun p) f

        by : (b : Bool) → turn.start ≡ b → (o : Option CallStop) → turn.turn.stop ≡ o
            → FitsOf (Session u) (began_notes b ((session_of script u older).begun + 1)
            ++ end_notes (started b (session_of script u older)).begun o)
        by false e None f = had
        by true e None f =
            let n = (session_of script u older).begun + 1 in
            and_from _ (notes_fit script (noted_in older))
            (begin-fits u acts n (subst (λ ns. IsIn (a_note.Began n) ns) (sym (noted true e None f)) (inl refl))) had
        by false e (Some stop) f =
            let n = (session_of script u older).begun in
            let i = subst (λ ns. IsIn (a_note.Ended n stop.version stop.answer) ns) (sym (noted false e (Some stop) f)) (inl refl) in
            let way = ap (λ (k : Bool). (started k (session_of script u older)).under_way) (sym e) ∙ turn.turn.running stop f in
            let began = before.running u way in
            and_from _ (notes_fit script (noted_in older))
            (and_from _ _ (and_from _ _ (ends-fit u acts n stop.version stop.answer i)
            (begun-noted older (record { session = u; number = n }) began.0 began.1))
            (ap not (ends-once u acts n stop.version stop.answer i)))
            had
        by true e (Some stop) f =
            let n = (session_of script u older).begun + 1 in
            let ns = noted true e (Some stop) f in
            let b = subst (λ ns. IsIn (a_note.Began n) ns) (sym ns) (inl refl) in
            let i = subst (λ ns. IsIn (a_note.Ended n stop.version stop.answer) ns) (sym ns) (inr (inl refl)) in
            and_from _ _
            (and_from _ _ (and_from _ _ (ends-fit u acts n stop.version stop.answer i)
            (or_left (same_session u u && eqb n n) _ (and_from (same_session u u) (eqb n n) (eq-eqb u.0 u.0 refl)
            (eq-eqb n n refl))))
            (or-none (same_session u u) (has_ended (record { session = u; number = n }) (noted_in older)) (ends-once u acts n stop.version stop.answer i)))
            (and_from _ (notes_fit script (noted_in older)) (begin-fits u acts n b) had)

-- every run fits
pub run-fits : (script : Script) → Facts script → (t : List Entry) → IsRun script t → notes_fit script (noted_in t) ≡ true
run-fits script facts [] run = refl
run-fits script facts (x ∷ older) run = by (run-fits script facts older run.1) x.actor refl
  where
    made-notes : (a : Actor) → x.actor ≡ a → (made_of script older a x.input).notes ≡ x.notes
    made-notes a e = ap (λ (m : Output). m.notes) (subst
        (λ (b : Actor). made_of script older b x.input ≡ record { posts = x.outputs; notes = x.notes }) e run.0.made)

    by : notes_fit script (noted_in older) ≡ true → (a : Actor) → x.actor ≡ a → FitsOf script facts older x run x.actor x.notes
    by had Coordinator e =
        subst (λ (a : Actor). FitsOf script facts older x run a x.notes) (sym e)
        (of-coordinator script facts older x run had x.notes
        (subst Issues (made-notes Coordinator e) (coordinator-plain (coordinator_of script older) x.input).notes))
    by had (Server i) e =
        subst (λ (a : Actor). FitsOf script facts older x run a x.notes) (sym e)
        (of-server script facts older x run had i (subst AssignsOne (made-notes (Server i) e)
        (server-plain AnySnapshot script.space (server_of script i older) x.input (λ r j. tt) (λ g. tt)).notes))
    by had (Session u) e = subst (λ (a : Actor). FitsOf script facts older x run a x.notes) (sym e) (of-session script facts older x run had u e)
