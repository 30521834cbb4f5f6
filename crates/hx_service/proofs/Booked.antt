-- Every run keeps what its receipts tell.
use Rattle.std.proofs.Common.{◌≡◌, ℕ, ◌+◌, ◌-◌, ◌<◌, ◌≤◌, inl, inr, Bool, true, false, ◌||◌, List, [], ◌∷◌, ◌++◌}
use Rattle.std.proofs.Common.{length, map, cond, Option, Some, None, refl, sym, ap, ◌∙◌, subst, arith, eqb}
use Rattle.std.specs.Prelude.{unwrap_or}
use Rattle.std.specs.List.{filter}
use Rattle.std.proofs.lemmas.Bool.{cond-true, eq-eqb, eqb-true, true≢false}
use Rattle.std.proofs.lemmas.List.{append-nil, map-append}
use Rattle.std.proofs.lemmas.List.Elements.{filter-append}
use Rattle.hx_model.specs.Types.{Actor, Answer, Caller, Coordinator, Entry, Note, Script, Server, Session, SessionId, Version}
use Rattle.hx_types.specs.declared.traces.Note.TheVariants as a_note
use Rattle.hx_types.specs.Words.{IsIn, first_some}
use Rattle.hx_model.specs.Runs.{IsRun, IsStep, session_of}
use Rattle.hx_model.specs.SessionSteps.{SessionState}
use Rattle.hx_model.specs.Histories.{CallEnd, begin_of, ends_in, is_session, note_of_end}
use Rattle.hx_law_lemmas.proofs.Lemmas.{CallStop, filter-in, in-append, in_left, in_right, map-in, EndedAt, ended_at}
use Rattle.hx_service.specs.declared.receipts.Receipt.{Receipt}
use Rattle.hx_service.specs.Laws.{RunsAreBooked, ended_count, numbers_to, progress_by}
use Rattle.hx_service.specs.Progress.{after_notes, progress_of}
use Rattle.hx_service.specs.Receipts.{IsReceiptOf, caller_of, is_by, receipt_at, receipts_among, receipts_by, receipts_now, receipts_of}
use Rattle.hx_service.proofs.Apart.{acts_or, begin-apart, begin-own, end-apart, end-own, now-apart, now-is, now-own, progress-apart, progress-own, state-apart}
use Rattle.hx_service.proofs.Moves.{Begins, BeginsAndEnds, Ends, Rests, move}
use Rattle.hx_service.proofs.Numbers.{ended-is, in-numbers, numbers-last, numbers-next}

-- the number of a receipt's call
abbrev pub number_of : Receipt → ℕ
number_of r = r.caller.number

-- what a run keeps of the calls of a session in this state
pub record KeepsOf (trace : List Entry) (u : SessionId) (s : SessionState) : Type 0 where
  pub low : s.under_way ≡ true → 0 < s.begun
  pub begin : s.under_way ≡ true → (b : ℕ) × (begin_of (caller_of u s.begun) trace ≡ Some b)
  pub numbers : map number_of (receipts_by u trace) ≡ numbers_to (ended_count s)
  pub progress : progress_of u trace ≡ progress_by trace u s

-- and of all calls
pub record Keeps (script : Script) (trace : List Entry) : Type 0 where
  pub of : (u : SessionId) → KeepsOf trace u (session_of script u trace)
  pub each : (r : Receipt) → IsIn r (receipts_of trace) → IsReceiptOf trace r

-- numbers that differ
apart : (n m : ℕ) → n < m → eqb m n ≡ false
apart n m lt = by (eqb m n) refl
  where
    by : (b : Bool) → eqb m n ≡ b → b ≡ false
    by true e = absurd (let q : m ≡ n = eqb-true m n e in omega (arith, q, lt))
    by false e = refl

-- how far a session is, by the two parts of its state that tell
pub progress-is : (trace : List Entry) (u : SessionId) (s : SessionState) (b : Bool) (n : ℕ) → s.under_way ≡ b → s.begun ≡ n
    → progress_by trace u s ≡ record { begun = n; under_way = cond b (begin_of (caller_of u n) trace) None }
progress-is trace u s b n e f =
    ap (λ (k : Bool). record { begun = s.begun; under_way = cond k (begin_of (caller_of u s.begun) trace) None }) e
    ∙ ap (λ (m : ℕ). record { begun = m; under_way = cond b (begin_of (caller_of u m) trace) None }) f

module _ (script : Script) (older : List Entry) (x : Entry) (had : Keeps script older) (step : IsStep script older x) where
  abbrev now : List Entry
  now = x ∷ older

  -- the receipts of a session, those of the entry last
  by-parts : (u : SessionId) → map number_of (receipts_by u now) ≡ map number_of (receipts_by u older)
      ++ map number_of (filter (is_by u) (receipts_now now x.actor x.notes))
  by-parts u =
      ap (map number_of) (filter-append (is_by u) (receipts_of older) (receipts_now now x.actor x.notes))
      ∙ map-append number_of (receipts_by u older) (filter (is_by u) (receipts_now now x.actor x.notes))

  -- another actor's entry keeps what is kept of a session
  of-other : (u : SessionId) → is_session u x.actor ≡ false → KeepsOf now u (session_of script u older)
  of-other u e =
      let k = had.of u in
      record {
        low = k.low;
        begin = λ w. let b = k.begin w in (b.0, begin-apart older x (caller_of u (session_of script u older).begun) e ∙ b.1);
        numbers =
            by-parts u ∙ ap (λ (l : List Receipt). map number_of (receipts_by u older) ++ map number_of l) (now-apart now u x.actor x.notes e)
            ∙ append-nil (map number_of (receipts_by u older)) ∙ k.numbers;
        progress =
            progress-apart older x u e ∙ k.progress
            ∙ ap (λ (o : Option ℕ). record { begun = (session_of script u older).begun; under_way = cond (session_of script u older).under_way o None })
            (sym (begin-apart older x (caller_of u (session_of script u older).begun) e));
      }

  module _ (u : SessionId) (acts : x.actor ≡ Session u) where
    abbrev s : SessionState
    s = session_of script u older

    abbrev t : SessionState
    t = session_of script u now

    k : KeepsOf older u s
    k = had.of u

    -- the numbers of the session's receipts, those of these notes last
    numbered : (ns : List Note) → x.notes ≡ ns → map number_of (receipts_by u now) ≡ numbers_to (ended_count s) ++ map number_of (receipts_among now u ns)
    numbered ns e =
        by-parts u ∙ ap (λ (l : List Receipt). map number_of (receipts_by u older) ++ map number_of l) (now-own now x u ns acts e)
        ∙ ap (λ (l : List ℕ). l ++ map number_of (receipts_among now u ns)) k.numbers

    -- how far the session is after these notes
    far : (ns : List Note) → x.notes ≡ ns → progress_of u now ≡ after_notes (length older + 1) ns (progress_by older u s)
    far ns e = progress-own older x u ns acts e ∙ ap (after_notes (length older + 1) ns) k.progress

    none : Rests s t x.notes → KeepsOf now u t
    none m =
        let same : (n : ℕ) → begin_of (caller_of u n) now ≡ begin_of (caller_of u n) older = λ n. begin-own older x u n [] acts m.notes_are in
        record {
          low = λ w. subst (λ n. 0 < n) (sym m.begun) (k.low (sym m.way ∙ w));
          begin = λ w. let b = k.begin (sym m.way ∙ w) in (b.0, ap (λ (n : ℕ). begin_of (caller_of u n) now) m.begun ∙ same s.begun ∙ b.1);
          numbers = numbered [] m.notes_are ∙ append-nil (numbers_to (ended_count s)) ∙ ap numbers_to (sym (ended-is t s.under_way s.begun m.way m.begun));
          progress =
              far [] m.notes_are ∙ ap (λ (o : Option ℕ). record { begun = s.begun; under_way = cond s.under_way o None }) (sym (same s.begun))
              ∙ sym (progress-is now u t s.under_way s.begun m.way m.begun);
        }

    begins : Begins s t x.notes → KeepsOf now u t
    begins m =
        let n : ℕ = s.begun + 1 in
        let here : begin_of (caller_of u (s.begun + 1)) now ≡ Some (length older + 1)
        = begin-own older x u (s.begun + 1) (a_note.Began (s.begun + 1) ∷ []) acts m.notes_are
        ∙ ap (λ (b : Bool). cond (b || false) (Some (length older + 1)) (begin_of (caller_of u (s.begun + 1)) older))
        (eq-eqb (s.begun + 1) (s.begun + 1) refl) in
        let count : ended_count t ≡ ended_count s
        = ended-is t true (s.begun + 1) m.way m.begun ∙ (let q : s.begun + 1 - 1 ≡ s.begun = omega arith in q) ∙ sym (ended-is s false s.begun m.was refl) in
        record {
          low = λ w. subst (λ n. 0 < n) (sym m.begun) (omega arith);
          begin = λ w. (length older + 1, ap (λ (n : ℕ). begin_of (caller_of u n) now) m.begun ∙ here);
          numbers = numbered _ m.notes_are ∙ append-nil (numbers_to (ended_count s)) ∙ ap numbers_to (sym count);
          progress =
              far _ m.notes_are
              ∙ ap (λ (o : Option ℕ). record { begun = s.begun + 1; under_way = o }) (sym here)
              ∙ sym (progress-is now u t true (s.begun + 1) m.way m.begun);
        }

    ends : Ends s t x.notes → KeepsOf now u t
    ends m =
        record {
          low = λ w. absurd (true≢false (sym w ∙ m.way));
          begin = λ w. absurd (true≢false (sym w ∙ m.way));
          numbers =
              numbered _ m.notes_are ∙ ap (λ (n : ℕ). numbers_to n ++ s.begun ∷ []) (ended-is s true s.begun m.was refl)
              ∙ sym (numbers-last s.begun (k.low m.was)) ∙ ap numbers_to (sym (ended-is t false s.begun m.way m.begun));
          progress = far _ m.notes_are ∙ sym (progress-is now u t false s.begun m.way m.begun);
        }

    both : BeginsAndEnds s t x.notes → KeepsOf now u t
    both m =
        record {
          low = λ w. absurd (true≢false (sym w ∙ m.way));
          begin = λ w. absurd (true≢false (sym w ∙ m.way));
          numbers =
              numbered _ m.notes_are ∙ ap (λ (n : ℕ). numbers_to n ++ (s.begun + 1) ∷ []) (ended-is s false s.begun m.was refl)
              ∙ sym (numbers-next s.begun) ∙ ap numbers_to (sym (ended-is t false (s.begun + 1) m.way m.begun));
          progress = far _ m.notes_are ∙ sym (progress-is now u t false (s.begun + 1) m.way m.begun);
        }

    of-own : KeepsOf now u t
    of-own = elim (move script older x u step acts) [
      | inl m ↦ none m
      | inr (inl m) ↦ begins m
      | inr (inr (inl m)) ↦ ends m
      | inr (inr (inr m)) ↦ both m
    ]

  keeps-of : (u : SessionId) → KeepsOf now u (session_of script u now)
  keeps-of u = elim (acts_or u x.actor) [
    | inl acts ↦ of-own u acts
    | inr e ↦ subst (KeepsOf now u) (sym (state-apart script older x u e)) (of-other u e)
  ]

-- a session's receipts are of calls that ended
pub number-low : (trace : List Entry) (u : SessionId) (s : SessionState) → KeepsOf trace u s → (r : Receipt) → IsIn r (receipts_of trace) → is_by u r ≡ true
    → (0 < number_of r) × (number_of r ≤ ended_count s)
number-low trace u s k r i own =
    in-numbers (ended_count s) (number_of r)
    (subst (IsIn (number_of r)) k.numbers (map-in number_of (receipts_by u trace) r (filter-in (is_by u) (receipts_of trace) r i own)))

-- no more have ended than begun, and fewer where one is under way
pub few-ended : (s : SessionState) → (s.under_way ≡ true → 0 < s.begun) → (ended_count s ≤ s.begun) × (s.under_way ≡ true → ended_count s < s.begun)
few-ended s low = by s.under_way refl
  where
    by : (b : Bool) → s.under_way ≡ b → (ended_count s ≤ s.begun) × (s.under_way ≡ true → ended_count s < s.begun)
    by true e = let q = ended-is s true s.begun e refl in let l = low e in (omega (arith, q), λ w. omega (arith, q, l))
    by false e = let q = ended-is s false s.begun e refl in (omega (arith, q), λ w. absurd (true≢false (sym w ∙ e)))

module _ (script : Script) (older : List Entry) (x : Entry) (had : Keeps script older) (step : IsStep script older x) where
  -- a receipt stays one of its call
  stays : (r : Receipt) → IsIn r (receipts_of older) → IsReceiptOf (x ∷ older) r
  stays r i = elim (acts_or r.caller.session x.actor) [
    | inr e ↦ record { began = begin-apart older x r.caller e ∙ (had.each r i).began; ended = end-apart older x r.caller e ∙ (had.each r i).ended }
    | inl acts ↦ acted acts
  ]
    where
      acted : x.actor ≡ Session r.caller.session → IsReceiptOf (x ∷ older) r
      acted acts = elim (move script older x u step acts) [
        | inl m ↦ record { began = begin-own older x u k [] acts m.notes_are ∙ was.began; ended = end-own older x u k [] acts m.notes_are ∙ was.ended }
        | inr (inl m) ↦ record {
          began = begin-own older x u k _ acts m.notes_are
              ∙ ap (λ (b : Bool). cond (b || false) (Some (length older + 1)) (begin_of r.caller older))
              (apart k (s.begun + 1) (omega (arith, high, few))) ∙ was.began;
          ended = end-own older x u k _ acts m.notes_are ∙ was.ended;
        }
        | inr (inr (inl m)) ↦ record {
          began = begin-own older x u k _ acts m.notes_are ∙ was.began;
          ended = end-own older x u k _ acts m.notes_are
              ∙ ap (λ (b : Bool). first_some (cond b (Some
              (record { entry = length older + 1; version = m.stop.version; answer = m.stop.answer })) None)
              (note_of_end r.caller older)) (apart k s.begun (omega (arith, high, fewer m.was))) ∙ was.ended;
        }
        | inr (inr (inr m)) ↦ record {
          began = begin-own older x u k _ acts m.notes_are
              ∙ ap (λ (b : Bool). cond (b || false) (Some (length older + 1)) (begin_of r.caller older))
              (apart k (s.begun + 1) (omega (arith, high, few))) ∙ was.began;
          ended = end-own older x u k _ acts m.notes_are
              ∙ ap (λ (b : Bool). first_some (cond b (Some
              (record { entry = length older + 1; version = m.stop.version; answer = m.stop.answer })) None)
              (note_of_end r.caller older)) (apart k (s.begun + 1) (omega (arith, high, few))) ∙ was.ended;
        }
      ]
        where
          u : SessionId
          u = r.caller.session

          k : ℕ
          k = r.caller.number

          s : SessionState
          s = session_of script u older

          was : IsReceiptOf older r
          was = had.each r i

          high : number_of r ≤ ended_count s
          high = (number-low older u s (had.of u) r i (eq-eqb u.0 u.0 refl)).1

          few : ended_count s ≤ s.begun
          few = (few-ended s (had.of u).low).0

          fewer : s.under_way ≡ true → ended_count s < s.begun
          fewer = (few-ended s (had.of u).low).1

-- the receipt of a call whose begin is known is its record
made : (t : List Entry) (c : Caller) (v : Version) (a : Answer) (b : ℕ) → begin_of c t ≡ Some b
    → note_of_end c t ≡ Some (record { entry = length t; version = v; answer = a }) → IsReceiptOf t (receipt_at t c v a)
made t c v a b e f = record { began = e ∙ sym (ap (λ (o : Option ℕ). Some (unwrap_or o 0)) e); ended = f }

module _ (script : Script) (older : List Entry) (x : Entry) (had : Keeps script older) (step : IsStep script older x) where
  -- the entry's number
  last : length older + 1 ≡ length (x ∷ older)
  last = omega arith

  -- a new receipt is one of its call
  fresh : (r : Receipt) → IsIn r (receipts_now (x ∷ older) x.actor x.notes) → IsReceiptOf (x ∷ older) r
  fresh r = by x.actor refl
    where
      noted : (u : SessionId) (n : ℕ) (stop : CallStop) (ns : List Note) → x.actor ≡ Session u → x.notes ≡ ns
          → ends_in (length older + 1) n ns ≡ Some (record { entry = length older + 1; version = stop.version; answer = stop.answer })
          → note_of_end (caller_of u n) (x ∷ older) ≡ Some (record { entry = length (x ∷ older); version = stop.version; answer = stop.answer })
      noted u n stop ns acts e f =
          end-own older x u n ns acts e ∙ ap (λ (o : Option CallEnd). first_some o (note_of_end (caller_of u n) older)) f
          ∙ ap (λ (m : ℕ). Some (record { entry = m; version = stop.version; answer = stop.answer })) last

      this : (n : ℕ) (stop : CallStop) → ends_in (length older + 1) n (a_note.Ended n stop.version stop.answer ∷ [])
          ≡ Some (record { entry = length older + 1; version = stop.version; answer = stop.answer })
      this n stop = cond-true (eqb n n) (Some (record { entry = length older + 1; version = stop.version; answer = stop.answer })) None (eq-eqb n n refl)

      only : (q : Receipt) → IsReceiptOf (x ∷ older) q → IsIn r (q ∷ []) → IsReceiptOf (x ∷ older) r
      only q k (inl e) = subst (IsReceiptOf (x ∷ older)) (sym e) k
      only q k (inr i) = absurd i

      acted : (u : SessionId) → x.actor ≡ Session u → IsIn r (receipts_among (x ∷ older) u x.notes) → IsReceiptOf (x ∷ older) r
      acted u acts i = elim (move script older x u step acts) [
        | inl m ↦ absurd (subst (λ (l : List Note). IsIn r (receipts_among (x ∷ older) u l)) m.notes_are i)
        | inr (inl m) ↦ absurd (subst (λ (l : List Note). IsIn r (receipts_among (x ∷ older) u l)) m.notes_are i)
        | inr (inr (inl m)) ↦ (let n = (session_of script u older).begun in let b = (had.of u).begin m.was in
            only (receipt_at (x ∷ older) (caller_of u n) m.stop.version m.stop.answer)
            (made (x ∷ older) (caller_of u n) m.stop.version m.stop.answer b.0
            (begin-own older x u n _ acts m.notes_are ∙ b.1) (noted u n m.stop _ acts m.notes_are (this n m.stop)))
            (subst (λ (l : List Note). IsIn r (receipts_among (x ∷ older) u l)) m.notes_are i))
        | inr (inr (inr m)) ↦ (let n = (session_of script u older).begun + 1 in
            only (receipt_at (x ∷ older) (caller_of u n) m.stop.version m.stop.answer)
            (made (x ∷ older) (caller_of u n) m.stop.version m.stop.answer (length older + 1)
            (begin-own older x u n _ acts m.notes_are ∙ ap
            (λ (b : Bool). cond (b || false) (Some (length older + 1)) (begin_of (caller_of u n) older)) (eq-eqb n n refl))
            (noted u n m.stop _ acts m.notes_are (this n m.stop)))
            (subst (λ (l : List Note). IsIn r (receipts_among (x ∷ older) u l)) m.notes_are i))
      ]

      by : (a : Actor) → x.actor ≡ a → IsIn r (receipts_now (x ∷ older) a x.notes) → IsReceiptOf (x ∷ older) r
      by Coordinator acts i = absurd i
      by (Server w) acts i = absurd i
      by (Session u) acts i = acted u acts i

  each-now : (r : Receipt) → IsIn r (receipts_of (x ∷ older)) → IsReceiptOf (x ∷ older) r
  each-now r i = elim (in-append (receipts_of older) (receipts_now (x ∷ older) x.actor x.notes) r i) [
    | inl j ↦ stays script older x had step r j
    | inr j ↦ fresh r j
  ]

-- so does every run
pub keeps : (script : Script) (trace : List Entry) → IsRun script trace → Keeps script trace
keeps script [] run = record {
  of = λ u. record { low = λ w. absurd (true≢false (sym w)); begin = λ w. absurd (true≢false (sym w)); numbers = refl; progress = refl };
  each = λ r i. absurd i;
}
keeps script (x ∷ older) run =
    let had = keeps script older run.1 in
    record { of = keeps-of script older x had run.0; each = each-now script older x had run.0 }

-- an end among notes has its receipt
among-in : (t : List Entry) (u : SessionId) (n : ℕ) (v : Version) (a : Answer) (notes : List Note) → IsIn (a_note.Ended n v a) notes
    → IsIn (receipt_at t (caller_of u n) v a) (receipts_among t u notes)
among-in t u n v a [] i = absurd i
among-in t u n v a (a_note.Ended m w b ∷ rest) (inl e) =
    inl (let p : n ≡ m = cc in let q : v ≡ w = cc in let z : a ≡ b = cc in λ i. receipt_at t (caller_of u (p i)) (q i) (z i))
among-in t u n v a (a_note.Ended m w b ∷ rest) (inr i) = inr (among-in t u n v a rest i)
among-in t u n v a (a_note.Began m ∷ rest) (inr i) = among-in t u n v a rest i
among-in t u n v a (a_note.Assigned update ∷ rest) (inr i) = among-in t u n v a rest i
among-in t u n v a (a_note.Issued config ∷ rest) (inr i) = among-in t u n v a rest i
among-in t u n v a (a_note.Began m ∷ rest) (inl e) = absurd (cc)
among-in t u n v a (a_note.Assigned update ∷ rest) (inl e) = absurd (cc)
among-in t u n v a (a_note.Issued config ∷ rest) (inl e) = absurd (cc)

-- each call that ended has a receipt
pub ended-booked : (t : List Entry) (c : Caller) (v : Version) (a : Answer) (n : ℕ) → EndedAt t c v a n
    → (r : Receipt) × IsIn r (receipts_of t) × (r.caller ≡ c)
ended-booked [] c v a n h = absurd h
ended-booked (x ∷ older) c v a n (inr h) =
    let r = ended-booked older c v a n h in (r.0, in_left (receipts_of older) (receipts_now (x ∷ older) x.actor x.notes) r.0 r.1, r.2)
ended-booked (x ∷ older) c v a n (inl h) =
    let r = receipt_at (x ∷ older) c v a in (
      r,
      in_right (receipts_of older) (receipts_now (x ∷ older) x.actor x.notes) r
          (subst (IsIn r) (sym (now-is (x ∷ older) x c.session x.notes h.0 refl)) (among-in (x ∷ older) c.session c.number v a x.notes h.1)),
      refl,
    )

pub runs_are_booked : RunsAreBooked
runs_are_booked script trace run =
    let k = keeps script trace run in
    record {
      each = k.each;
      numbers = λ u. (k.of u).numbers;
      all = λ c e q. ended-booked trace c e.version e.answer e.entry (ended_at c trace e q);
    }
