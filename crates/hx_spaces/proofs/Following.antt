-- A session begins a call behind the note with which each call that it began before ended.
use Rattle.std.proofs.Common.{◌≡◌, ◌⊎◌, inl, inr, ℕ, ◌+◌, ◌-◌, Bool, true, false, List, [], ◌∷◌, ◌++◌, length, map, reverse, drop}
use Rattle.std.proofs.Common.{refl, sym, ap, ◌∙◌, subst, arith, eqb, ltb, leb}
use Rattle.std.proofs.lemmas.Bool.{and_parts, cond-true, cond-false, eq-eqb, eqb-true, false≢true, ltb-true}
use Rattle.std.proofs.lemmas.List.{append_assoc, reverse-reverse}
use Rattle.std.specs.Prelude.{IfSome, slice_get, slice_set, Option, Some, None}
use Rattle.std.specs.List.{All}
use Rattle.hx_model.specs.Types.{Actor, Answer, Coordinator, Entry, Note, Script, Server, Session, SessionId, Version}
use Rattle.hx_types.specs.declared.traces.Note.TheVariants as a_note
use Rattle.hx_types.specs.Words.{IsIn, first_of_list, same_session, when_some}
use Rattle.hx_model.specs.Runs.{IsRun, IsStep, is_actor, made_of, Output, session_after, session_of}
use Rattle.hx_model.specs.SessionSteps.{SessionState, session_step}
use Rattle.hx_law_lemmas.proofs.Lemmas.{CallStop, SessionTurn, all_notes, began_notes, begins_now, end_notes, goes_on, session_turn, started}
use Rattle.hx_law_lemmas.proofs.Lemmas.{in-append, map-in, in_right, of-reverse}
use Rattle.hx_world.specs.Worlds.{WorldState}
use Rattle.hx_bundle.specs.declared.bundles.Bundle.{Bundle}
use Rattle.hx_spaces.specs.Begins.{BeginsInTurn, IsSequential, run_before, runs_before}
use Rattle.hx_spaces.specs.Clusters.{IsCourse, IsRunOfSpace, traces_of}
use Rattle.hx_spaces.specs.Courses.{Course, is_busy_in, session_at}
use Rattle.hx_spaces.specs.Following.{AreInOrder, BeginsFollowEnds, EndsAmong, Noted, SpaceEntry, entries_of}
use Rattle.hx_spaces.proofs.OneOrder.{of-append, of-in, of-other, of-reversed, of-same, reversed-at, run-named, spaces-are}
use Rattle.hx_spaces.proofs.Places.{all-at, get-map, get-set, get-set-other, get-set-same}
use Rattle.hx_spaces.proofs.Seats.{none-any}

-- ---- one run, newest entry first

-- one of these entries of the session notes that its call of this number ended
record IsEnded (u : SessionId) (m : ℕ) (entries : List Entry) : Type 0 where
  entry : Entry
  among : IsIn entry entries
  version : Version
  answer : Answer
  actor : entry.actor ≡ Session u
  noted : IsIn (a_note.Ended m version answer) entry.notes

-- the session's call of this number is under way, or one of these entries ended it
abbrev IsSettled : SessionId → ℕ → List Entry → SessionState → Type 0
IsSettled u m entries s = ((s.under_way ≡ true) × (s.begun ≡ m)) ⊎ IsEnded u m entries

module _ (script : Script) (u : SessionId) (older : List Entry) (x : Entry) (step : IsStep script older x) where
  abbrev before : SessionState
  before = session_of script u older

  turn : SessionTurn x.input before (session_step script.space before x.input)
  turn = session_turn script.space x.input before

  own-state : x.actor ≡ Session u → session_of script u (x ∷ older) ≡ (session_step script.space before x.input).state
  own-state a =
      ap (λ (b : Actor). session_after script.space u b x.input before) a
      ∙ cond-true (same_session u u) (session_step script.space before x.input).state before (eq-eqb u.0 u.0 refl)

  own-notes : x.actor ≡ Session u → (session_step script.space before x.input).notes ≡ x.notes
  own-notes a = ap (λ (o : Output). o.notes) (ap (λ (b : Actor). made_of script older b x.input) (sym a) ∙ step.made)

  -- an entry of another actor leaves the session as it was
  own-or-other : (x.actor ≡ Session u) ⊎ (session_of script u (x ∷ older) ≡ before)
  own-or-other = by x.actor refl where
    by : (a : Actor) → x.actor ≡ a → (x.actor ≡ Session u) ⊎ (session_of script u (x ∷ older) ≡ before)
    by Coordinator e = inr (ap (λ (b : Actor). session_after script.space u b x.input before) e)
    by (Server s) e = inr (ap (λ (b : Actor). session_after script.space u b x.input before) e)
    by (Session v) e = same (same_session v u) refl where
      same : (b : Bool) → same_session v u ≡ b → (x.actor ≡ Session u) ⊎ (session_of script u (x ∷ older) ≡ before)
      same true t = let q : v.0 ≡ u.0 = eqb-true v.0 u.0 t in inl (e ∙ ap (λ n. Session (record { 0 = n })) q)
      same false t = inr (
          ap (λ (b : Actor). session_after script.space u b x.input before) e
          ∙ cond-false (same_session v u) (session_step script.space before x.input).state before t)

  -- where the turn ends a call the entry notes it
  ends-here : (m : ℕ) (stop : CallStop) → x.actor ≡ Session u → turn.turn.stop ≡ Some stop → (started turn.start before).begun ≡ m
      → (entries : List Entry) → IsEnded u m (x ∷ entries)
  ends-here m stop a e q entries = record {
    entry = x;
    among = inl refl;
    version = stop.version;
    answer = stop.answer;
    actor = a;
    noted = subst (λ (l : List Note). IsIn (a_note.Ended m stop.version stop.answer) l) (sym (all_notes _ _ _ turn) ∙ own-notes a)
        (in_right (began_notes turn.start (before.begun + 1)) (end_notes (started turn.start before).begun turn.turn.stop) _
        (subst (λ (o : Option CallStop). IsIn (a_note.Ended m stop.version stop.answer) (end_notes (started turn.start before).begun o)) (sym e)
        (inl (ap (λ n. a_note.Ended n stop.version stop.answer) (sym q)))));
  }

  -- what is under way where the turn ends none
  goes-on : (m : ℕ) → x.actor ≡ Session u → turn.turn.stop ≡ None → (started turn.start before).begun ≡ m → (started turn.start before).under_way ≡ true
      → ((session_of script u (x ∷ older)).under_way ≡ true) × ((session_of script u (x ∷ older)).begun ≡ m)
  goes-on m a e q w = (
    ap (λ (s : SessionState). s.under_way) (own-state a) ∙ turn.turn.under_way
        ∙ ap (λ (o : Option CallStop). goes_on o (started turn.start before).under_way) e ∙ w,
    ap (λ (s : SessionState). s.begun) (own-state a) ∙ turn.turn.begun ∙ q,
  )

  settled-by : (m : ℕ) → x.actor ≡ Session u → (started turn.start before).begun ≡ m → (started turn.start before).under_way ≡ true
      → (entries : List Entry) → IsSettled u m (x ∷ entries) (session_of script u (x ∷ older))
  settled-by m a q w entries = by turn.turn.stop refl where
    by : (o : Option CallStop) → turn.turn.stop ≡ o → IsSettled u m (x ∷ entries) (session_of script u (x ∷ older))
    by None e = inl (goes-on m a e q w)
    by (Some stop) e = inr (ends-here m stop a e q entries)

  -- an entry that begins a call
  settled-first : (m : ℕ) → x.actor ≡ Session u → IsIn (a_note.Began m) x.notes → IsSettled u m (x ∷ []) (session_of script u (x ∷ older))
  settled-first m a i =
      let b = begins_now _ _ _ turn m (subst (λ (l : List Note). IsIn (a_note.Began m) l) (sym (own-notes a)) i) in
      settled-by m a (ap (λ s. (started s before).begun) b.1 ∙ sym b.0) (ap (λ s. (started s before).under_way) b.1) []

  -- a further entry
  settled-next : (m : ℕ) (entries : List Entry) → IsSettled u m entries before → IsSettled u m (x ∷ entries) (session_of script u (x ∷ older))
  settled-next m entries (inr e) = inr (record {
    entry = e.entry;
    among = inr e.among;
    version = e.version;
    answer = e.answer;
    actor = e.actor;
    noted = e.noted;
  })
  settled-next m entries (inl (way, number)) = elim own-or-other [
    | inl a ↦ own a turn.start refl
    | inr same ↦ inl (ap (λ (s : SessionState). s.under_way) same ∙ way, ap (λ (s : SessionState). s.begun) same ∙ number)
  ] where
    own : x.actor ≡ Session u → (b : Bool) → turn.start ≡ b → IsSettled u m (x ∷ entries) (session_of script u (x ∷ older))
    own a true e = absurd (false≢true (sym (turn.fresh e) ∙ way))
    own a false e = settled-by m a (ap (λ b. (started b before).begun) e ∙ number) (ap (λ b. (started b before).under_way) e ∙ way) entries

-- a call that began is under way after the run, or ended in it
settled : (script : Script) (u : SessionId) (m : ℕ) (between : List Entry) (x : Entry) (earlier : List Entry) → IsRun script (between ++ (x ∷ earlier))
    → x.actor ≡ Session u → IsIn (a_note.Began m) x.notes → IsSettled u m (between ++ (x ∷ [])) (session_of script u (between ++ (x ∷ earlier)))
settled script u m [] x earlier run a i = settled-first script u earlier x run.0 m a i
settled script u m (y ∷ between) x earlier run a i =
    settled-next script u (between ++ (x ∷ earlier)) y run.0 m (between ++ (x ∷ [])) (settled script u m between x earlier run.1 a i)

-- so it ended where none is under way
ended : (script : Script) (u : SessionId) (m : ℕ) (t between : List Entry) (x : Entry) (earlier : List Entry) → t ≡ between ++ (x ∷ earlier)
    → IsRun script t → (session_of script u t).under_way ≡ false → x.actor ≡ Session u → IsIn (a_note.Began m) x.notes → IsEnded u m (between ++ (x ∷ []))
ended script u m t between x earlier e run free a i =
    elim (settled script u m between x earlier (subst (λ (l : List Entry). IsRun script l) e run) a i) [
      | inl way ↦ absurd (false≢true (sym free ∙ ap (λ (l : List Entry). (session_of script u l).under_way) e ∙ way.0))
      | inr h ↦ h
    ]

-- a session of a run is numbered from 1
session-is : (script : Script) (u : SessionId) → is_actor script (Session u) ≡ true → u ≡ session_at (u.0 - 1)
session-is script u e =
    let low = ltb-true 0 u.0 (and_parts (ltb 0 u.0) (leb u.0 (length script.sessions)) e).0 in
    let same : u.0 ≡ u.0 - 1 + 1 = omega (arith, low) in
    λ i. record { 0 = same i }

-- ---- the runs of all spaces

-- the entries, newest first, are those of the runs
record Show (runs : List WorldState) (entries : List SpaceEntry) : Type 0 where
  each : (k : ℕ) (r : WorldState) → slice_get runs k ≡ Some r → entries_of k entries ≡ r.trace
  run : (k : ℕ) (r : WorldState) → slice_get runs k ≡ Some r → IsRun r.script r.trace
  there : (x : SpaceEntry) → IsIn x entries → (r : WorldState) × (slice_get runs x.space ≡ Some r)

-- the run before its newest entry is one
run-before : (script : Script) (t : List Entry) → IsRun script t → IsRun script (drop 1 t)
run-before script [] h = h
run-before script (x ∷ older) h = h.1

module _ (runs : List WorldState) (x : SpaceEntry) (rest : List SpaceEntry) (s : Show runs (x ∷ rest)) where
  here : (r : WorldState) × (slice_get runs x.space ≡ Some r)
  here = s.there x (inl refl)

  trace-is : here.0.trace ≡ x.entry ∷ entries_of x.space rest
  trace-is = sym (s.each x.space here.0 here.1) ∙ of-same x.space x rest refl

  before-is : runs_before x.space runs ≡ slice_set runs x.space (run_before here.0)
  before-is = ap (λ (o : Option WorldState). when_some o runs (λ (r : WorldState). slice_set runs x.space (run_before r))) here.1

  show-set : Show (slice_set runs x.space (run_before here.0)) rest
  show-set = record {
    each = λ k r h. elim (get-set runs x.space k (run_before here.0) r h) [
      | inl q ↦ ap (λ n. entries_of n rest) q.0 ∙ sym (ap (λ (l : List Entry). drop 1 l) trace-is) ∙ ap (λ (w : WorldState). w.trace) (sym q.1)
      | inr q ↦ sym (of-other k x rest q.0) ∙ s.each k r q.1
    ];
    run = λ k r h. elim (get-set runs x.space k (run_before here.0) r h) [
      | inl q ↦ subst (λ (w : WorldState). IsRun w.script w.trace) (sym q.1) (run-before here.0.script here.0.trace (s.run x.space here.0 here.1))
      | inr q ↦ s.run k r q.1
    ];
    there = λ y i. stands y (s.there y (inr i)) (eqb y.space x.space) refl;
  } where
    stands : (y : SpaceEntry) → ((r : WorldState) × (slice_get runs y.space ≡ Some r)) → (b : Bool) → eqb y.space x.space ≡ b
        → (r : WorldState) × (slice_get (slice_set runs x.space (run_before here.0)) y.space ≡ Some r)
    stands y at true e =
        let q : y.space ≡ x.space = eqb-true y.space x.space e in
        (run_before here.0, ap (λ n. slice_get (slice_set runs x.space (run_before here.0)) n) q ∙ get-set-same runs x.space (run_before here.0) here.0 here.1)
    stands y at false e =
        (at.0, get-set-other runs x.space y.space (run_before here.0) (λ q. false≢true (sym e ∙ eq-eqb y.space x.space q)) ∙ at.1)

  show-before : Show (runs_before x.space runs) rest
  show-before = subst (λ (l : List WorldState). Show l rest) (sym before-is) show-set

  -- where a session begins a call with the newest entry, none of its calls is under way before
  free-before : (bundle : Bundle) (u : SessionId) (n : ℕ) → Noted u (a_note.Began n) x
      → IfSome (slice_get runs x.space) (λ (r : WorldState). IfSome (first_of_list r.trace) (BeginsInTurn bundle (runs_before x.space runs) x.space))
      → is_busy_in u (runs_before x.space runs) ≡ false
  free-before bundle u n b h =
      let first = subst (λ (o : Option WorldState). IfSome o
      (λ (r : WorldState). IfSome (first_of_list r.trace) (BeginsInTurn bundle (runs_before x.space runs) x.space))) here.1 h in
      let in_turn = subst (λ (l : List Entry). IfSome (first_of_list l) (BeginsInTurn bundle (runs_before x.space runs) x.space)) trace-is first in
      let run = subst (λ (l : List Entry). IsRun here.0.script l) trace-is (s.run x.space here.0 here.1) in
      let same = session-is here.0.script u (ap (λ (a : Actor). is_actor here.0.script a) (sym b.actor) ∙ run.0.actor) in
      let its = in_turn (u.0 - 1) (record { actor = b.actor ∙ ap (λ (v : SessionId). Session v) same; number = n; noted = b.noted }) in
      subst (λ (v : SessionId). is_busy_in v (runs_before x.space runs) ≡ false) (sym same) its.free

-- the runs before an entry that begins a call
record FreeBefore (u : SessionId) (entries : List SpaceEntry) : Type 0 where
  runs : List WorldState
  show : Show runs entries
  free : is_busy_in u runs ≡ false

free-at : (bundle : Bundle) (runs : List WorldState) (later : List SpaceEntry) (x : SpaceEntry) (rest : List SpaceEntry) (u : SessionId) (n : ℕ)
    → Show runs (later ++ (x ∷ rest)) → IsSequential bundle runs (map (λ (y : SpaceEntry). y.space) (later ++ (x ∷ rest)))
    → Noted u (a_note.Began n) x → FreeBefore u rest
free-at bundle runs [] x rest u n s h b = record {
  runs = runs_before x.space runs;
  show = show-before runs x rest s;
  free = free-before runs x rest s bundle u n b h.0;
}
free-at bundle runs (y ∷ later) x rest u n s h b =
    free-at bundle (runs_before y.space runs) later x rest u n (show-before runs y (later ++ (x ∷ rest)) s) h.1 b

-- what began before has ended there
ends-before : (u : SessionId) (m : ℕ) (between : List SpaceEntry) (x : SpaceEntry) (earlier : List SpaceEntry) → FreeBefore u (between ++ (x ∷ earlier))
    → Noted u (a_note.Began m) x → EndsAmong u x.space m (between ++ (x ∷ []))
ends-before u m between x earlier f b =
    let at = f.show.there x (in_right between (x ∷ earlier) x (inl refl)) in
    let r = at.0 in
    let trace : r.trace ≡ entries_of x.space between ++ (x.entry ∷ entries_of x.space earlier) =
    sym (f.show.each x.space r at.1) ∙ of-append x.space between (x ∷ earlier)
    ∙ ap (λ (l : List Entry). entries_of x.space between ++ l) (of-same x.space x earlier refl) in
    let free = none-any (λ (w : WorldState). (session_of w.script u w.trace).under_way) f.runs x.space r f.free at.1 in
    let e = ended r.script u m r.trace (entries_of x.space between) x.entry (entries_of x.space earlier) trace
    (f.show.run x.space r at.1) free b.actor b.noted in
    let all : entries_of x.space (between ++ (x ∷ [])) ≡ entries_of x.space between ++ (x.entry ∷ []) =
    of-append x.space between (x ∷ []) ∙ ap (λ (l : List Entry). entries_of x.space between ++ l) (of-same x.space x [] refl) in
    let i = of-in x.space (between ++ (x ∷ [])) e.entry (subst (λ (l : List Entry). IsIn e.entry l) (sym all) e.among) in
    record {
      entry = i.0;
      among = i.1;
      in_space = i.2;
      version = e.version;
      answer = e.answer;
      ended = record {
        actor = ap (λ (y : Entry). y.actor) i.3 ∙ e.actor;
        noted = subst (λ (y : Entry). IsIn (a_note.Ended m e.version e.answer) y.notes) (sym i.3) e.noted;
      };
    }

-- ---- a course, oldest entry first

shown : (c : Course) (entries : List SpaceEntry) → IsCourse c → All IsRunOfSpace c.runs → AreInOrder (traces_of c) (reverse c.order) entries
    → Show c.runs (reverse entries)
shown c entries i runs o = record {
  each = λ k r h. of-reversed k entries
      ∙ ap (λ (l : List Entry). reverse l) (o.each k (reverse r.trace) (get-map (λ (w : WorldState). reverse w.trace) c.runs k r h)) ∙ reverse-reverse r.trace;
  run = λ k r h. (all-at IsRunOfSpace c.runs k r runs h).run;
  there = λ x j. run-named c i x.space (of-reverse c.order x.space
      (subst (λ (l : List ℕ). IsIn x.space l) o.spaces (map-in (λ (y : SpaceEntry). y.space) entries x (of-reverse entries x j))));
}

pub begins-follow-ends : BeginsFollowEnds
begins-follow-ends c entries i runs o u m n earlier between later first second e b d =
    let newest : reverse entries ≡ reverse later ++ (second ∷ (reverse between ++ (first ∷ reverse earlier))) =
    ap (λ (l : List SpaceEntry). reverse l) e ∙ reversed-at earlier first (between ++ (second ∷ later))
    ∙ ap (λ (l : List SpaceEntry). l ++ (first ∷ reverse earlier)) (reversed-at between second later)
    ∙ append_assoc (reverse later) (second ∷ reverse between) (first ∷ reverse earlier) in
    let f = free-at c.bundle c.runs (reverse later) second (reverse between ++ (first ∷ reverse earlier)) u n
    (subst (λ (l : List SpaceEntry). Show c.runs l) newest (shown c entries i runs o))
    (subst (λ (l : List SpaceEntry). IsSequential c.bundle c.runs (map (λ (x : SpaceEntry). x.space) l)) newest
    (subst (λ (l : List ℕ). IsSequential c.bundle c.runs l) (sym (spaces-are c entries o)) i.sequential)) d in
    let g = ends-before u m (reverse between) first (reverse earlier) f b in
    record {
      entry = g.entry;
      among = elim (in-append (reverse between) (first ∷ []) g.entry g.among) [
        | inl j ↦ inr (of-reverse between g.entry j)
        | inr (inl q) ↦ inl q
        | inr (inr j) ↦ absurd j
      ];
      in_space = g.in_space;
      version = g.version;
      answer = g.answer;
      ended = g.ended;
    }
