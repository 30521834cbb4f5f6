-- A session's calls begin and end in its own entries, one after another.
use Rattle.hx_law_lemmas.proofs.Lemmas.Vocabulary.{[], Actor, and_from, ap, arith, begin_of, begins_in, Bool, call_of, CallEnd, calls_of, cond, cond_both}
use Rattle.hx_law_lemmas.proofs.Lemmas.Vocabulary.{Coordinator, ends_in, Entry, eq-eqb, eqb, eqb-true, eqb_tells, false, first_some, inl, inr, is_session}
use Rattle.hx_law_lemmas.proofs.Lemmas.Vocabulary.{IsRun, IsSome, length, List, ltb-false, made_of, nat_lt, None, not, Note, note_of_end, numbered, Option}
use Rattle.hx_law_lemmas.proofs.Lemmas.Vocabulary.{or_left, Output, refl, same_actor, Script, Server, Session, session_after, session_of, session_step}
use Rattle.hx_law_lemmas.proofs.Lemmas.Vocabulary.{SessionId, SessionState, Some, subst, suc, sym, true, true≢false, zero, ℕ, ⊎_elim, ◌&&◌, ◌++◌, ◌+◌, ◌<◌, ◌∙◌}
use Rattle.hx_law_lemmas.proofs.Lemmas.Vocabulary.{◌∷◌, ◌≡◌, ◌≢◌, ◌≤◌, ◌⊎◌}
use Rattle.std.proofs.Common.{slice_get}
use Rattle.hx_types.specs.declared.traces.Note.TheVariants as a_note
use Rattle.hx_law_lemmas.proofs.Lemmas.{CallStop, began_notes, end_notes, goes_on, started, started_same, session_turn, all_notes}
use Rattle.hx_law_threads.specs.Own.{IsOwn}
use Rattle.hx_law_threads.specs.Calls.{caller_of, last_call, IsDone}
use Rattle.hx_law_threads.proofs.Actors.{same_actor_is}

-- the notes of the session's entries are those of its steps
abbrev AreSteps : Script → SessionId → List Entry → Type 0
AreSteps script u [] = Unit {0}
AreSteps script u (x ∷ older) =
    (same_actor x.actor (Session u) ≡ true → x.notes ≡ (session_step script.space (session_of script u older) x.input).notes) × AreSteps script u older

notes_of_made : (script : Script) (u : SessionId) (older : List Entry) (x : Entry)
    → made_of script older (Session u) x.input ≡ record { posts = x.outputs; notes = x.notes }
    → x.notes ≡ (session_step script.space (session_of script u older) x.input).notes
notes_of_made script u older x e = sym (ap (λ (m : Output). m.notes) e)

run_steps : (script : Script) (u : SessionId) (trace : List Entry) → IsRun script trace → AreSteps script u trace
run_steps script u [] r = tt
run_steps script u (x ∷ older) r = (
  (λ t.
      notes_of_made script u older x
      (subst (λ (a : Actor). made_of script older a x.input ≡ record { posts = x.outputs; notes = x.notes }) (same_actor_is x.actor (Session u) t) r.0.made)),
  run_steps script u older r.1,
)

own_steps : (script : Script) (u : SessionId) (own : List Entry) → IsOwn script (Session u) own → AreSteps script u own
own_steps script u [] o = tt
own_steps script u (x ∷ older) o = ((λ t. notes_of_made script u older x o.0.made), own_steps script u older o.1)

-- what is told of a session's calls after a trace
record AreTold (u : SessionId) (s : SessionState) (t : List Entry) : Type 0 where
  pub ended : (m : ℕ) → 1 ≤ m → m ≤ s.begun → ((m < s.begun) ⊎ (s.under_way ≡ false)) → IsSome (note_of_end (caller_of u m) t)
  pub began : (m : ℕ) → 1 ≤ m → m ≤ s.begun → IsSome (begin_of (caller_of u m) t)
  pub none : (m : ℕ) → s.begun < m → note_of_end (caller_of u m) t ≡ None
  pub unended : s.under_way ≡ true → (1 ≤ s.begun) × (note_of_end (caller_of u s.begun) t ≡ None)

-- the end that a turn notes
abbrev stop_at : ℕ → ℕ → ℕ → Option CallStop → Option CallEnd
stop_at entry n m None = None
stop_at entry n m (Some e) = cond (eqb n m) (Some (record { entry = entry; version = e.version; answer = e.answer })) None

ends_noted : (entry m first n : ℕ) (b : Bool) (stop : Option CallStop) → ends_in entry m (began_notes b first ++ end_notes n stop) ≡ stop_at entry n m stop
ends_noted entry m first n false None = refl
ends_noted entry m first n false (Some e) = refl
ends_noted entry m first n true None = refl
ends_noted entry m first n true (Some e) = refl

stop_other : (entry n m : ℕ) (stop : Option CallStop) → n ≢ m → stop_at entry n m stop ≡ None
stop_other entry n m None d = refl
stop_other entry n m (Some e) d =
    cond_both (eqb n m) (Some (record { entry = entry; version = e.version; answer = e.answer })) None (λ o. o ≡ None)
    (λ t. absurd (d (eqb-true n m t))) (λ t. refl)

stop_here : (entry n m : ℕ) (e : CallStop) (other : Option CallEnd) → n ≡ m → IsSome (first_some (stop_at entry n m (Some e)) other)
stop_here entry n m e other same =
    cond_both (eqb n m) (Some (record { entry = entry; version = e.version; answer = e.answer })) None (λ o. IsSome (first_some o other))
    (λ t. refl) (λ t. absurd (true≢false (sym (eq-eqb n m same) ∙ t)))

some_or : (o p : Option CallEnd) → IsSome p → IsSome (first_some o p)
some_or None p h = h
some_or (Some e) p h = refl

module _ (u : SessionId) (x : Entry) (older : List Entry) (mine : same_actor x.actor (Session u) ≡ true) (s s' : SessionState)
    (b : Bool) (stop : Option CallStop) (notes : x.notes ≡ began_notes b (s.begun + 1) ++ end_notes (started b s).begun stop)
    (begun : s'.begun ≡ (started b s).begun) (way : s'.under_way ≡ goes_on stop (started b s).under_way) (told : AreTold u s older) where
  end_is : (m : ℕ) → note_of_end (caller_of u m) (x ∷ older)
      ≡ first_some (stop_at (length older + 1) (started b s).begun m stop) (note_of_end (caller_of u m) older)
  end_is m =
      ap (λ c. cond c (first_some (ends_in (length older + 1) m x.notes) (note_of_end (caller_of u m) older)) (note_of_end (caller_of u m) older)) mine
      ∙ ap (λ l. first_some (ends_in (length older + 1) m l) (note_of_end (caller_of u m) older)) notes
      ∙ ap (λ o. first_some o (note_of_end (caller_of u m) older)) (ends_noted (length older + 1) m (s.begun + 1) (started b s).begun b stop)

  end_kept : (m : ℕ) → IsSome (note_of_end (caller_of u m) older) → IsSome (note_of_end (caller_of u m) (x ∷ older))
  end_kept m h = subst IsSome (sym (end_is m)) (some_or (stop_at (length older + 1) (started b s).begun m stop) (note_of_end (caller_of u m) older) h)

  no_end_yet : (m : ℕ) → (started b s).begun ≢ m → note_of_end (caller_of u m) older ≡ None → note_of_end (caller_of u m) (x ∷ older) ≡ None
  no_end_yet m d e = end_is m ∙ ap (λ o. first_some o (note_of_end (caller_of u m) older)) (stop_other (length older + 1) (started b s).begun m stop d) ∙ e

  begin_kept : (m : ℕ) → IsSome (begin_of (caller_of u m) older) → IsSome (begin_of (caller_of u m) (x ∷ older))
  begin_kept m h =
      cond_both (is_session u x.actor && begins_in m x.notes) (Some (length older + 1))
      (begin_of (caller_of u m) older) (λ (o : Option ℕ). IsSome o) (λ t. refl) (λ t. h)

-- a call begins
begin_new : (u : SessionId) (x : Entry) (older : List Entry) (n m : ℕ) (rest : List Note)
    → same_actor x.actor (Session u) ≡ true → x.notes ≡ a_note.Began n ∷ rest → n ≡ m
    → IsSome (begin_of (caller_of u m) (x ∷ older))
begin_new u x older n m rest mine notes same =
    let found : begins_in m x.notes ≡ true = ap (begins_in m) notes ∙ or_left (eqb n m) (begins_in m rest) (eq-eqb n m same) in
    cond_both (is_session u x.actor && begins_in m x.notes) (Some (length older + 1)) (begin_of (caller_of u m) older) (λ (o : Option ℕ). IsSome o)
    (λ t. refl) (λ t. absurd (true≢false (sym (and_from (is_session u x.actor) (begins_in m x.notes) mine found) ∙ t)))

lower_or : (m n : ℕ) → m ≤ n → (m < n) ⊎ (m ≡ n)
lower_or m n le = ⊎_elim (λ (h : (eqb m n ≡ true) × (m ≡ n)). inr h.1) (λ (h : (eqb m n ≡ false) × (m ≢ n)). inl (omega (arith, le, h.1))) (eqb_tells m n)

told_after : (u : SessionId) (x : Entry) (older : List Entry) → same_actor x.actor (Session u) ≡ true → (s s' : SessionState)
    → (b : Bool) (stop : Option CallStop) → x.notes ≡ began_notes b (s.begun + 1) ++ end_notes (started b s).begun stop
    → s'.begun ≡ (started b s).begun → s'.under_way ≡ goes_on stop (started b s).under_way → (b ≡ true → s.under_way ≡ false)
    → AreTold u s older → AreTold u s' (x ∷ older)
told_after u x older mine s s' false None notes begun way fresh told = record {
  ended = λ m lo hi c.
      end_kept u x older mine s s' false None notes begun way told m
      (told.ended m lo (omega (arith, hi, begun)) (⊎_elim (λ (lt : m < s'.begun). inl (omega (arith, lt, begun)))
      (λ (w : s'.under_way ≡ false). inr (sym way ∙ w)) c));
  began = λ m lo hi. begin_kept u x older mine s s' false None notes begun way told m (told.began m lo (omega (arith, hi, begun)));
  none = λ m lt. no_end_yet u x older mine s s' false None notes begun way told m (λ e. omega (arith, lt, begun, e)) (told.none m (omega (arith, lt, begun)));
  unended = λ w.
      let before = told.unended (sym way ∙ w) in (
        omega (arith, before.0, begun),
        end_is u x older mine s s' false None notes begun way told s'.begun
            ∙ ap (λ m. note_of_end (caller_of u m) older) begun ∙ before.1,
      );
}
told_after u x older mine s s' false (Some e) notes begun way fresh told = record {
  ended = λ m lo hi c.
      ⊎_elim
      (λ (lt : m < s.begun). end_kept u x older mine s s' false (Some e) notes begun way told m (told.ended m lo (omega (arith, lt)) (inl lt)))
      (λ (q : m ≡ s.begun). subst IsSome (sym (end_is u x older mine s s' false (Some e) notes begun way told m))
      (stop_here (length older + 1) s.begun m e (note_of_end (caller_of u m) older) (sym q)))
      (lower_or m s.begun (omega (arith, hi, begun)));
  began = λ m lo hi. begin_kept u x older mine s s' false (Some e) notes begun way told m (told.began m lo (omega (arith, hi, begun)));
  none = λ m lt. no_end_yet u x older mine s s' false (Some e) notes begun way told m
      (λ q. omega (arith, lt, begun, q)) (told.none m (omega (arith, lt, begun)));
  unended = λ w. absurd (true≢false (sym w ∙ way));
}
told_after u x older mine s s' true None notes begun way fresh told = record {
  ended = λ m lo hi c.
      ⊎_elim
      (λ (lt : m < s'.begun). end_kept u x older mine s s' true None notes begun way told m (told.ended m lo (omega (arith, lt, begun)) (inr (fresh refl))))
      (λ (w : s'.under_way ≡ false). absurd (true≢false (sym way ∙ w))) c;
  began = λ m lo hi.
      ⊎_elim (λ (lt : m < s.begun + 1). begin_kept u x older mine s s' true None notes begun way told m (told.began m lo (omega (arith, lt))))
      (λ (q : m ≡ s.begun + 1). begin_new u x older (s.begun + 1) m [] mine notes (sym q)) (lower_or m (s.begun + 1) (omega (arith, hi, begun)));
  none = λ m lt. no_end_yet u x older mine s s' true None notes begun way told m (λ q. omega (arith, lt, begun, q)) (told.none m (omega (arith, lt, begun)));
  unended = λ w. (
    omega (arith, begun),
    end_is u x older mine s s' true None notes begun way told s'.begun ∙ told.none s'.begun (omega (arith, begun)),
  );
}
told_after u x older mine s s' true (Some e) notes begun way fresh told = record {
  ended = λ m lo hi c.
      ⊎_elim
      (λ (lt : m < s.begun + 1). end_kept u x older mine s s' true (Some e) notes begun way told m (told.ended m lo (omega (arith, lt)) (inr (fresh refl))))
      (λ (q : m ≡ s.begun + 1). subst IsSome (sym (end_is u x older mine s s' true (Some e) notes begun way told m))
      (stop_here (length older + 1) (s.begun + 1) m e (note_of_end (caller_of u m) older) (sym q)))
      (lower_or m (s.begun + 1) (omega (arith, hi, begun)));
  began = λ m lo hi.
      ⊎_elim (λ (lt : m < s.begun + 1). begin_kept u x older mine s s' true (Some e) notes begun way told m (told.began m lo (omega (arith, lt))))
      (λ (q : m ≡ s.begun + 1). begin_new u x older (s.begun + 1) m (end_notes (s.begun + 1) (Some e)) mine notes
      (sym q)) (lower_or m (s.begun + 1) (omega (arith, hi, begun)));
  none = λ m lt. no_end_yet u x older mine s s' true (Some e) notes begun way told m
      (λ q. omega (arith, lt, begun, q)) (told.none m (omega (arith, lt, begun)));
  unended = λ w. absurd (true≢false (sym w ∙ way));
}

-- an entry of another leaves the session and what is told of it
session_same : (script : Script) (u : SessionId) (x : Entry) (older : List Entry)
    → same_actor x.actor (Session u) ≡ false → session_of script u (x ∷ older) ≡ session_of script u older
session_same script u x older e = by x.actor e
  where
    by : (a : Actor) → same_actor a (Session u) ≡ false → session_after script.space u a x.input (session_of script u older) ≡ session_of script u older
    by Coordinator q = refl
    by (Server i) q = refl
    by (Session v) q = ap (λ c. cond c (session_step script.space (session_of script u older) x.input).state (session_of script u older)) q

session_next : (script : Script) (u : SessionId) (x : Entry) (older : List Entry) → same_actor x.actor (Session u) ≡ true
    → session_of script u (x ∷ older) ≡ (session_step script.space (session_of script u older) x.input).state
session_next script u x older e = by x.actor e
  where
    by : (a : Actor) → same_actor a (Session u) ≡ true
        → session_after script.space u a x.input (session_of script u older)
        ≡ (session_step script.space (session_of script u older) x.input).state
    by Coordinator q = absurd (cc)
    by (Server i) q = absurd (cc)
    by (Session v) q = ap (λ c. cond c (session_step script.space (session_of script u older) x.input).state (session_of script u older)) q

told_same : (u : SessionId) (s : SessionState) (x : Entry) (older : List Entry)
    → same_actor x.actor (Session u) ≡ false → AreTold u s older → AreTold u s (x ∷ older)
told_same u s x older other told =
    let ends : (m : ℕ) → note_of_end (caller_of u m) (x ∷ older) ≡ note_of_end (caller_of u m) older =
    λ m. ap (λ c. cond c (first_some (ends_in (length older + 1) m x.notes) (note_of_end (caller_of u m) older)) (note_of_end (caller_of u m) older)) other in
    let begins : (m : ℕ) → begin_of (caller_of u m) (x ∷ older) ≡ begin_of (caller_of u m) older =
    λ m. ap (λ c. cond (c && begins_in m x.notes) (Some (length older + 1)) (begin_of (caller_of u m) older)) other in
    record {
      ended = λ m lo hi c. subst IsSome (sym (ends m)) (told.ended m lo hi c);
      began = λ m lo hi. subst (λ (o : Option ℕ). IsSome o) (sym (begins m)) (told.began m lo hi);
      none = λ m lt. ends m ∙ told.none m lt;
      unended = λ w. let before = told.unended w in (before.0, ends s.begun ∙ before.1);
    }

told_step : (script : Script) (u : SessionId) (x : Entry) (older : List Entry)
    → AreTold u (session_of script u older) older × ((session_of script u older).calls ≡ calls_of script u)
    → (same_actor x.actor (Session u) ≡ true → x.notes ≡ (session_step script.space (session_of script u older) x.input).notes)
    → AreTold u (session_of script u (x ∷ older)) (x ∷ older) × ((session_of script u (x ∷ older)).calls ≡ calls_of script u)
told_step script u x older before notes = by (same_actor x.actor (Session u)) refl
  where
    by : (b : Bool) → same_actor x.actor (Session u) ≡ b → AreTold u (session_of script u (x ∷ older)) (x ∷ older)
        × ((session_of script u (x ∷ older)).calls ≡ calls_of script u)
    by false e =
        let same = session_same script u x older e in (
          subst (λ s. AreTold u s (x ∷ older)) (sym same) (told_same u (session_of script u older) x older e before.0),
          ap (λ (s : SessionState). s.calls) same ∙ before.1,
        )
    by true e =
        let s = session_of script u older in
        let step = session_step script.space s x.input in
        let turn = session_turn script.space x.input s in
        let next = session_next script u x older e in (
          subst (λ z. AreTold u z (x ∷ older)) (sym next)
              (told_after u x older e s step.state turn.start turn.turn.stop
              (notes e ∙ all_notes x.input s step turn) turn.turn.begun turn.turn.under_way turn.fresh before.0),
          ap (λ (z : SessionState). z.calls) next ∙ turn.turn.calls ∙ (started_same turn.start s).1 ∙ before.1,
        )

are_told : (script : Script) (u : SessionId) (t : List Entry) → AreSteps script u t
    → AreTold u (session_of script u t) t × ((session_of script u t).calls ≡ calls_of script u)
are_told script u [] h = (
  record {
    ended = λ m lo hi c. absurd (omega (arith, lo, hi));
    began = λ m lo hi. absurd (omega (arith, lo, hi));
    none = λ m lt. refl;
    unended = λ w. absurd (cc);
  },
  refl,
)
are_told script u (x ∷ older) h = told_step script u x older (are_told script u older h.1) h.0

item_below : {A : Type 0} (xs : List A) (k : ℕ) → IsSome (slice_get xs k) → k < length xs
item_below [] k h = absurd (cc)
item_below (x ∷ xs) zero h = omega arith
item_below (x ∷ xs) (suc k) h = let r = item_below xs k h in omega (arith, r)

number_below : {A : Type 0} (xs : List A) (n : ℕ) → IsSome (numbered xs n) → (1 ≤ n) × (n ≤ length xs)
number_below xs zero h = absurd (cc)
number_below xs (suc n) h = let r = item_below xs n h in (omega arith, omega (arith, r))

pub done_ended : (script : Script) (trace : List Entry) → IsRun script trace → (u : SessionId) → IsDone script trace u
    → (number : ℕ) → IsSome (call_of script (caller_of u number))
    → IsSome (note_of_end (caller_of u number) trace)
done_ended script trace run u done number h =
    let told = are_told script u trace (run_steps script u trace run) in
    let s = session_of script u trace in
    let within = number_below (calls_of script u) number h in
    let none : nat_lt s.begun (length s.calls) ≡ false = ap (λ w. not w && nat_lt s.begun (length s.calls)) (sym done.none_under_way) ∙ done.none_left in
    let all : length (calls_of script u) ≤ s.begun = left s.begun (length s.calls) none (ap length told.1) in
    told.0.ended number within.0 (omega (arith, within.1, all)) (inr done.none_under_way)
  where
    left : (n k : ℕ) → nat_lt n k ≡ false → k ≡ length (calls_of script u) → length (calls_of script u) ≤ n
    left n k e same = cond_both (nat_lt n k) zero zero (λ z. length (calls_of script u) ≤ n)
        (λ t. absurd (true≢false (sym t ∙ e))) (λ t. omega (arith, ltb-false n k t, same))

pub under_way_open : (script : Script) (u : SessionId) (own : List Entry) → IsOwn script (Session u) own → (session_of script u own).under_way ≡ true
    → IsSome (begin_of (last_call script u own) own) × (note_of_end (last_call script u own) own ≡ None)
under_way_open script u own o w =
    let told = (are_told script u own (own_steps script u own o)).0 in
    let last = told.unended w in (told.began (session_of script u own).begun last.0 (omega arith), last.1)
