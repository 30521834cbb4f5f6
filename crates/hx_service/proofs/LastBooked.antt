-- What booking the newest entry of a run leaves.
use Rattle.std.proofs.Common.{◌≡◌, ℕ, ◌+◌, ◌-◌, ◌<◌, ◌≤◌, inl, inr, zero, suc, Bool, true, false, ◌||◌, List, [], ◌∷◌}
use Rattle.std.proofs.Common.{◌++◌, length, map, cond, Option, Some, refl, sym, ap, ◌∙◌, subst, arith, eqb}
use Rattle.std.specs.Prelude.{reverse, slice_get, slice_set, unwrap_or}
use Rattle.std.proofs.lemmas.Bool.{eq-eqb, eqb-true}
use Rattle.std.proofs.lemmas.List.{append-nil, length-reverse, map-append, reverse-append, reverse-reverse}
use Rattle.hx_model.specs.Types.{Actor, Coordinator, Entry, Note, Script, Server, Session, SessionId}
use Rattle.hx_trace.proofs.Lemmas.{get_end}
use Rattle.hx_model.specs.Histories.{begin_of, is_session}
use Rattle.hx_model.specs.Runs.{IsRun, is_actor, session_of}
use Rattle.hx_model.specs.SessionSteps.{SessionState}
use Rattle.hx_law_growing.proofs.Lemmas.{numbered_from_1, same_session}
use Rattle.hx_service.specs.declared.progress.Progress.{Progress}
use Rattle.hx_service.specs.declared.receipts.Booked.{Booked}
use Rattle.hx_service.specs.Booking.{AreProgress, LacksLast, booked_among, booked_as, session_at}
use Rattle.hx_service.specs.Progress.{after_notes, progress_of}
use Rattle.hx_service.specs.Receipts.{caller_of, receipts_among, receipts_now, receipts_of}
use Rattle.hx_service.proofs.Apart.{acts_or, begin-own, now-is, progress-apart, progress-own}
use Rattle.hx_service.proofs.Booked.{keeps, progress-is}
use Rattle.hx_service.proofs.Moves.{Move, move}

-- items of a list of which one was set
set-same : {A : Type 0} (xs : List A) (i : ℕ) (y : A) → i < length xs → slice_get (slice_set xs i y) i ≡ Some y
set-same [] i y lt = absurd (omega (arith, lt))
set-same (x ∷ xs) zero y lt = refl
set-same (x ∷ xs) (suc i) y lt = set-same xs i y (omega (arith, lt))

set-other : {A : Type 0} (xs : List A) (i j : ℕ) (y : A) → (i ≡ j → ⊥) → slice_get (slice_set xs i y) j ≡ slice_get xs j
set-other [] i j y ne = refl
set-other (x ∷ xs) zero zero y ne = absurd (ne refl)
set-other (x ∷ xs) zero (suc j) y ne = refl
set-other (x ∷ xs) (suc i) zero y ne = refl
set-other (x ∷ xs) (suc i) (suc j) y ne = set-other xs i j y (λ e. ne (ap suc e))

set-length : {A : Type 0} (xs : List A) (i : ℕ) (y : A) → length (slice_set xs i y) ≡ length xs
set-length [] i y = refl
set-length (x ∷ xs) zero y = refl
set-length (x ∷ xs) (suc i) y = ap suc (set-length xs i y)

-- the last entry of a trace that stands oldest first
last-at : (seen : List Entry) (x : Entry) (older : List Entry) (n : ℕ) → reverse seen ≡ x ∷ older → n ≡ length seen → slice_get seen (n - 1) ≡ Some x
last-at seen x older n e count =
    let turned : seen ≡ reverse older ++ x ∷ [] = sym (reverse-reverse seen) ∙ ap reverse e ∙ reverse-append (x ∷ []) older in
    let long : length seen ≡ length (reverse older) + 1 = sym (length-reverse seen) ∙ ap length e ∙ (let q = length-reverse older in omega (arith, q)) in
    let place : n - 1 ≡ length (reverse older) = omega (arith, count, long) in
    ap (slice_get seen) place ∙ ap (λ (l : List Entry). slice_get l (length (reverse older))) turned ∙ get_end (reverse older) x

module _ (script : Script) (trace : List Entry) (progress : List Progress) (booked : List Booked) (lacks : LacksLast script (reverse trace) progress booked)
    (run : IsRun script (reverse trace)) (seen : List Entry) (same : seen ≡ trace) (n : ℕ) (count : n ≡ length seen)
    (e : Entry) (found : Some e ≡ slice_get seen (n - 1)) where
  abbrev x : Entry
  x = lacks.last

  abbrev older : List Entry
  older = lacks.older

  ran : IsRun script (x ∷ older)
  ran = subst (IsRun script) lacks.trace_is run

  is-last : e ≡ x
  is-last = let q : Some e ≡ Some x = found ∙ last-at seen x older n (ap reverse same ∙ lacks.trace_is) count in cc

  number : n ≡ length older + 1
  number =
      let q : length (reverse trace) ≡ length (x ∷ older) = ap length lacks.trace_is in
      let r = length-reverse trace in
      let s : length seen ≡ length trace = ap length same in
      omega (arith, count, q, r, s)

  -- another actor's entry books nothing
  module _ (others : (u : SessionId) → e.actor ≡ Session u → ⊥) where
    apart : (u : SessionId) → is_session u x.actor ≡ false
    apart u = elim (acts_or u x.actor) [
      | inl acts ↦ absurd (others u (ap (λ (y : Entry). y.actor) is-last ∙ acts))
      | inr q ↦ q
    ]

    nothing-now : (a : Actor) → ((u : SessionId) → is_session u a ≡ false) → receipts_now (x ∷ older) a x.notes ≡ []
    nothing-now Coordinator f = refl
    nothing-now (Server s) f = refl
    nothing-now (Session u) f = absurd (let q : true ≡ false = sym (eq-eqb u.0 u.0 refl) ∙ f u in cc)

    pub progress-stays : AreProgress (length script.sessions) (reverse trace) progress
    progress-stays =
        subst (λ (t : List Entry). AreProgress (length script.sessions) t progress) (sym lacks.trace_is)
        (record {
          count = lacks.progress_is.count;
          each = λ place lt. lacks.progress_is.each place lt
              ∙ ap (λ (p : Progress). Some p) (sym (progress-apart older x (session_at place) (apart (session_at place))));
        })

    pub booked-stays : booked ≡ map booked_as (receipts_of (reverse trace))
    booked-stays =
        lacks.booked_is
        ∙ ap (map booked_as) (sym (append-nil (receipts_of older))
        ∙ ap (λ l. receipts_of older ++ l) (sym (nothing-now x.actor apart)) ∙ sym (ap receipts_of lacks.trace_is))

  -- a session's entry
  module _ (u : SessionId) (acts : e.actor ≡ Session u) where
    abbrev s : SessionState
    s = session_of script u older

    abbrev t : SessionState
    t = session_of script u (x ∷ older)

    acted : x.actor ≡ Session u
    acted = sym (ap (λ (y : Entry). y.actor) is-last) ∙ acts

    pub there : (0 < u.0) × (u.0 ≤ length script.sessions)
    there = numbered_from_1 script u (subst (λ (a : Actor). is_actor script a ≡ true) acted ran.0.actor)

    pub within : u.0 - 1 < length progress
    within = let a = there.0 in let b : u.0 ≤ length script.sessions = there.1 in let q = lacks.progress_is.count in omega (arith, a, b, q)

    pub few : length e.notes ≤ 2
    few = subst (λ (l : List Note). length l ≤ 2) (ap (λ (y : Entry). y.notes) (sym is-last)) (by (move script older x u ran.0 acted))
      where
        by : Move s t x.notes → length x.notes ≤ 2
        by (inl m) = let q = ap length m.notes_are in omega (arith, q)
        by (inr (inl m)) = let q = ap length m.notes_are in omega (arith, q)
        by (inr (inr (inl m))) = let q = ap length m.notes_are in omega (arith, q)
        by (inr (inr (inr m))) = let q = ap length m.notes_are in omega (arith, q)

    -- the session of this place
    placed : session_at (u.0 - 1) ≡ u
    placed = same_session (session_at (u.0 - 1)) u (let a = there.0 in omega (arith, a))

    -- how far it was
    was : (p : Progress) → slice_get progress (u.0 - 1) ≡ Some p → p ≡ progress_of u older
    was p at =
        let a = there.0 in
        let b : u.0 ≤ length script.sessions = there.1 in
        let q : Some p ≡ Some (progress_of (session_at (u.0 - 1)) older) = sym at ∙ lacks.progress_is.each (u.0 - 1) (omega (arith, a, b)) in
        let r : p ≡ progress_of (session_at (u.0 - 1)) older = cc in
        r ∙ ap (λ (v : SessionId). progress_of v older) placed

    pub progress-now : (p q : Progress) → slice_get progress (u.0 - 1) ≡ Some p → q ≡ after_notes n e.notes p
        → AreProgress (length script.sessions) (reverse trace) (slice_set progress (u.0 - 1) q)
    progress-now p q at after =
        subst (λ (t : List Entry). AreProgress (length script.sessions) t (slice_set progress (u.0 - 1) q)) (sym lacks.trace_is)
        (record { count = set-length progress (u.0 - 1) q ∙ lacks.progress_is.count; each = λ place lt. each place lt (eqb (u.0 - 1) place) refl })
      where
        here : q ≡ progress_of u (x ∷ older)
        here =
            after ∙ ap (λ (m : ℕ). after_notes m e.notes p) number ∙ ap (λ (y : Entry). after_notes (length older + 1) y.notes p) is-last
            ∙ ap (after_notes (length older + 1) x.notes) (was p at) ∙ sym (progress-own older x u x.notes acted refl)

        other : (place : ℕ) → eqb (u.0 - 1) place ≡ false → is_session (session_at place) x.actor ≡ false
        other place ne = elim (acts_or (session_at place) x.actor) [
          | inl z ↦ absurd (let k : Session u ≡ Session (session_at place) = sym acted ∙ z in let w : u ≡ session_at place = cc in
              let v : u.0 ≡ place + 1 = ap (λ (s : SessionId). s.0) w in
              let t : u.0 - 1 ≡ place = omega (arith, v) in let y : true ≡ false = sym (eq-eqb (u.0 - 1) place t) ∙ ne in cc)
          | inr z ↦ z
        ]

        each : (place : ℕ) → place < length script.sessions → (b : Bool) → eqb (u.0 - 1) place ≡ b
            → slice_get (slice_set progress (u.0 - 1) q) place ≡ Some (progress_of (session_at place) (x ∷ older))
        each place lt true f =
            let k : u.0 - 1 ≡ place = eqb-true (u.0 - 1) place f in
            ap (slice_get (slice_set progress (u.0 - 1) q)) (sym k) ∙ set-same progress (u.0 - 1) q within
            ∙ ap (λ (r : Progress). Some r) (here ∙ ap (λ (v : SessionId). progress_of v (x ∷ older)) (sym placed))
            ∙ ap (λ (m : ℕ). Some (progress_of (session_at m) (x ∷ older))) k
        each place lt false f =
            set-other progress (u.0 - 1) place q (λ k. let y : true ≡ false = sym (eq-eqb (u.0 - 1) place k) ∙ f in cc)
            ∙ lacks.progress_is.each place lt
            ∙ ap (λ (r : Progress). Some r) (sym (progress-apart older x (session_at place) (other place f)))

    -- the receipts of the entry as they are booked
    now-booked : map booked_as (receipts_among (x ∷ older) u x.notes) ≡ booked_among u (length older + 1) x.notes (progress_of u older)
    now-booked = by (move script older x u ran.0 acted)
      where
        at : (ns : List Note) → x.notes ≡ ns → map booked_as (receipts_among (x ∷ older) u ns) ≡ booked_among u (length older + 1) ns (progress_of u older)
            → map booked_as (receipts_among (x ∷ older) u x.notes) ≡ booked_among u (length older + 1) x.notes (progress_of u older)
        at ns f g = subst (λ (l : List Note). map booked_as (receipts_among (x ∷ older) u l)
            ≡ booked_among u (length older + 1) l (progress_of u older)) (sym f) g

        single : ℕ → ℕ → ℕ → List Booked
        single k b n = record { caller = caller_of u k; begin = b; end = n } ∷ []

        one : (k b c : ℕ) → b ≡ c → single k b (length (x ∷ older)) ≡ single k c (length older + 1)
        one k b c f = let g : length (x ∷ older) ≡ length older + 1 = omega arith in λ i. single k (f i) (g i)

        way : s.under_way ≡ true → (progress_of u older).under_way ≡ begin_of (caller_of u s.begun) older
        way w = ap (λ (p : Progress). p.under_way) (((keeps script older ran.1).of u).progress ∙ progress-is older u s true s.begun w refl)

        by : Move s t x.notes → map booked_as (receipts_among (x ∷ older) u x.notes) ≡ booked_among u (length older + 1) x.notes (progress_of u older)
        by (inl m) = at [] m.notes_are refl
        by (inr (inl m)) = at _ m.notes_are refl
        by (inr (inr (inl m))) =
            at _ m.notes_are
            (one s.begun (unwrap_or (begin_of (caller_of u s.begun) (x ∷ older)) 0) (unwrap_or (progress_of u older).under_way 0)
            (ap (λ (o : Option ℕ). unwrap_or o 0) (begin-own older x u s.begun _ acted m.notes_are ∙ sym (way m.was))))
        by (inr (inr (inr m))) =
            at _ m.notes_are
            (one (s.begun + 1) (unwrap_or (begin_of (caller_of u (s.begun + 1)) (x ∷ older)) 0) (length older + 1)
            (ap (λ (o : Option ℕ). unwrap_or o 0)
            (begin-own older x u (s.begun + 1) _ acted m.notes_are
            ∙ ap (λ (b : Bool). cond (b || false) (Some (length older + 1))
            (begin_of (caller_of u (s.begun + 1)) older)) (eq-eqb (s.begun + 1) (s.begun + 1) refl))))

    pub booked-now : (p : Progress) (b : List Booked) → slice_get progress (u.0 - 1) ≡ Some p → b ≡ booked ++ booked_among u n e.notes p
        → b ≡ map booked_as (receipts_of (reverse trace))
    booked-now p b at now =
        now ∙ ap (λ (m : ℕ). booked ++ booked_among u m e.notes p) number
        ∙ ap (λ (y : Entry). booked ++ booked_among u (length older + 1) y.notes p) is-last
        ∙ ap (λ (r : Progress). booked ++ booked_among u (length older + 1) x.notes r) (was p at)
        ∙ ap (λ (l : List Booked). booked ++ l) (sym now-booked)
        ∙ ap (λ (l : List Booked). l ++ map booked_as (receipts_among (x ∷ older) u x.notes)) lacks.booked_is
        ∙ sym (map-append booked_as (receipts_of older) (receipts_among (x ∷ older) u x.notes))
        ∙ ap (λ l. map booked_as (receipts_of older ++ l)) (sym (now-is (x ∷ older) x u x.notes acted refl))
        ∙ sym (ap (λ (l : List Entry). map booked_as (receipts_of l)) lacks.trace_is)
