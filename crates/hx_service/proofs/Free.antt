-- Which sessions are free.
use Rattle.std.proofs.Common.{◌≡◌, ℕ, ◌-◌, ◌<◌, ◌≤◌, zero, suc, Bool, true, false, List, [], ◌∷◌, length, cond, Option}
use Rattle.std.proofs.Common.{Some, None, refl, sym, ap, ◌∙◌, subst, arith, eqb}
use Rattle.std.specs.Prelude.{IsSome, is_none, slice_get}
use Rattle.std.proofs.lemmas.Bool.{and_from, and_parts, eq-eqb, eqb-true, true≢false}
use Rattle.hx_model.specs.Types.{Actor, Coordinator, Entry, Op, Script, Server, Session, SessionId}
use Rattle.hx_types.specs.Fitting.{calls_of, numbered}
use Rattle.hx_types.specs.Words.{IsIn, same_session}
use Rattle.hx_model.specs.Histories.{CallEnd, note_of_end, begin_of}
use Rattle.hx_model.specs.Runs.{IsRun, session_after, session_of, is_actor}
use Rattle.hx_model.specs.SessionSteps.{SessionState, session_step}
use Rattle.hx_law_growing.proofs.Lemmas.{Within, steps, numbered_from_1, same_session as one_session}
use Rattle.hx_law_lemmas.proofs.Lemmas.{in-filter, in-map, ended_at}
use Rattle.hx_service.specs.declared.progress.Progress.{Progress}
use Rattle.hx_service.specs.Booking.{AreProgress, session_at}
use Rattle.hx_service.specs.Progress.{is_resting, progress_of}
use Rattle.hx_service.specs.Laws.{FreeSessionsRest, IsAtRest, ended_count, numbers_to, progress_by}
use Rattle.hx_service.specs.Receipts.{IsFree, caller_of, is_by, receipts_by, receipts_of}
use Rattle.hx_service.proofs.Booked.{Keeps, KeepsOf, ended-booked, few-ended, keeps, number-low, number_of}
use Rattle.hx_service.proofs.Numbers.{ended-is, numbers-in}

-- a session has the script's calls, and no more of them began
pub within : (script : Script) (u : SessionId) (t : List Entry) → Within (calls_of script u) (session_of script u t)
within script u [] = record { calls_stay = refl; within = omega arith }
within script u (x ∷ older) = by (within script u older) x.actor
  where
    after : Within (calls_of script u) (session_of script u older)
        → Within (calls_of script u) (session_step script.space (session_of script u older) x.input).state
    after before =
        let s = session_of script u older in
        let w = steps script.space s x.input (subst (λ (l : List Op). s.begun ≤ length l) (sym before.calls_stay) before.within) in
        subst (λ (l : List Op). Within l (session_step script.space s x.input).state) before.calls_stay w

    cases : Within (calls_of script u) (session_of script u older) → (b : Bool)
        → Within (calls_of script u) (cond b (session_step script.space (session_of script u older) x.input).state (session_of script u older))
    cases before true = after before
    cases before false = before

    by : Within (calls_of script u) (session_of script u older) → (a : Actor)
        → Within (calls_of script u) (session_after script.space u a x.input (session_of script u older))
    by before Coordinator = before
    by before (Server s) = before
    by before (Session w) = cases before (same_session w u)

-- which numbers a list has
there : {A : Type 0} (xs : List A) (n : ℕ) → 0 < n → n ≤ length xs → IsSome (numbered xs n)
there xs zero low high = absurd (omega (arith, low))
there [] (suc n) low high = absurd (omega (arith, high))
there (x ∷ xs) (suc zero) low high = refl
there (x ∷ xs) (suc (suc n)) low high = there xs (suc n) (omega arith) (omega (arith, high))

-- what has a number is no further than the end
pub number-high : {A : Type 0} (xs : List A) (n : ℕ) → IsSome (numbered xs n) → (0 < n) × (n ≤ length xs)
number-high xs zero h = absurd (true≢false (sym h))
number-high [] (suc n) h = absurd (true≢false (sym h))
number-high (x ∷ xs) (suc zero) h = (omega arith, omega arith)
number-high (x ∷ xs) (suc (suc n)) h = let r = number-high xs (suc n) h in (omega arith, (let q : suc n ≤ length xs = r.1 in omega (arith, q)))

module _ (script : Script) (trace : List Entry) (run : IsRun script trace) (u : SessionId) where
  abbrev s : SessionState
  s = session_of script u trace

  k : Keeps script trace
  k = keeps script trace run

  -- a call that ended is one of those
  pub ended-number : (n : ℕ) → IsSome (note_of_end (caller_of u n) trace) → (0 < n) × (n ≤ ended_count s)
  ended-number n = by (note_of_end (caller_of u n) trace) refl
    where
      by : (o : Option CallEnd) → note_of_end (caller_of u n) trace ≡ o → IsSome o → (0 < n) × (n ≤ ended_count s)
      by None e h = absurd (true≢false (sym h))
      by (Some end) e h =
          let r = ended-booked trace (caller_of u n) end.version end.answer end.entry (ended_at (caller_of u n) trace end e) in
          let own : is_by u r.0 ≡ true = eq-eqb r.0.caller.session.0 u.0 (ap (λ c. c.session.0) r.2) in
          subst (λ (m : ℕ). (0 < m) × (m ≤ ended_count s)) (ap (λ c. c.number) r.2) (number-low trace u s (k.of u) r.0 r.1 own)

  -- and each of those has ended
  pub number-ended : (n : ℕ) → 0 < n → n ≤ ended_count s → IsSome (note_of_end (caller_of u n) trace)
  number-ended n low high =
      let i : IsIn n (numbers_to (ended_count s)) = numbers-in (ended_count s) n low high in
      let r = in-map number_of (receipts_by u trace) n (subst (IsIn n) (sym (k.of u).numbers) i) in
      let f = in-filter (is_by u) (receipts_of trace) r.0 r.1 in
      let own : r.0.caller.session.0 ≡ u.0 = eqb-true r.0.caller.session.0 u.0 f.1 in
      let e : caller_of u n ≡ r.0.caller = λ i. record { session = record { 0 = sym own i }; number = r.2 i } in
      subst IsSome (sym (ap (λ c. note_of_end c trace) e ∙ (k.each r.0 f.0).ended)) refl

  rests : IsFree script trace u → IsAtRest script trace u
  rests free = by s.under_way refl
    where
      most : s.begun ≤ length (calls_of script u)
      most = (within script u trace).within

      reached : length (calls_of script u) ≤ ended_count s
      reached = all (length (calls_of script u)) refl
        where
          all : (n : ℕ) → length (calls_of script u) ≡ n → length (calls_of script u) ≤ ended_count s
          all zero e = omega (arith, e)
          all (suc n) e =
              let r = ended-number (length (calls_of script u))
              (free (length (calls_of script u)) (there (calls_of script u) (length (calls_of script u))
              (omega (arith, e)) (omega arith))) in r.1

      few : (ended_count s ≤ s.begun) × (s.under_way ≡ true → ended_count s < s.begun)
      few = few-ended s (k.of u).low

      by : (b : Bool) → s.under_way ≡ b → IsAtRest script trace u
      by true e = absurd (let l : ended_count s < s.begun = few.1 e in omega (arith, l, most, reached))
      by false e = record { ended = e; begun = (let l : ended_count s ≤ s.begun = few.0 in omega (arith, l, most, reached)) }

  free : IsAtRest script trace u → IsFree script trace u
  free rest n there =
      let h = number-high (calls_of script u) n there in
      let e : ended_count s ≡ s.begun = ended-is s false s.begun rest.ended refl in
      let q : s.begun ≡ length (calls_of script u) = rest.begun in
      number-ended n h.0 (let z : n ≤ length (calls_of script u) = h.1 in omega (arith, z, e, q))

pub free_sessions_rest : FreeSessionsRest
free_sessions_rest script trace run u = (rests script trace run u, free script trace run u)

-- what progress tells of it
pub free-told : (script : Script) (trace : List Entry) → IsRun script trace → (u : SessionId) (p : Progress) (calls : ℕ)
    → p ≡ progress_of u trace → calls ≡ length (calls_of script u)
    → (is_resting p calls ≡ true → IsFree script trace u) × (IsFree script trace u → is_resting p calls ≡ true)
free-told script trace run u p calls e f = (λ r. told r, λ r. tells ((free_sessions_rest script trace run u).0 r))
  where
    told : is_resting p calls ≡ true → IsFree script trace u
    told r = (free_sessions_rest script trace run u).1 (by (session_of script u trace).under_way refl)
      where
        k : KeepsOf trace u (session_of script u trace)
        k = (keeps script trace run).of u

        same : p ≡ progress_by trace u (session_of script u trace)
        same = e ∙ k.progress

        parts : (is_none p.under_way ≡ true) × (eqb p.begun calls ≡ true)
        parts = and_parts (is_none p.under_way) (eqb p.begun calls) r

        by : (b : Bool) → (session_of script u trace).under_way ≡ b → IsAtRest script trace u
        by true w =
            let b = k.begin w in
            let q : p.under_way ≡ Some b.0 = ap (λ (x : Progress). x.under_way) same
            ∙ ap (λ (t : Bool). cond t (begin_of (caller_of u (session_of script u trace).begun) trace) None) w ∙ b.1 in
            absurd (true≢false (sym parts.0 ∙ ap (λ (o : Option ℕ). is_none o) q))
        by false w = record {
          ended = w;
          begun = sym (ap (λ (x : Progress). x.begun) same) ∙ eqb-true p.begun calls parts.1 ∙ f;
        }

    tells : IsAtRest script trace u → is_resting p calls ≡ true
    tells r =
        let same : p ≡ progress_by trace u (session_of script u trace) = e ∙ ((keeps script trace run).of u).progress in
        let way : p.under_way ≡ None = ap (λ (x : Progress). x.under_way) same
        ∙ ap (λ (t : Bool). cond t (begin_of (caller_of u (session_of script u trace).begun) trace) None) r.ended in
        and_from (is_none p.under_way) (eqb p.begun calls) (ap (λ (o : Option ℕ). is_none o) way)
        (eq-eqb p.begun calls (ap (λ (x : Progress). x.begun) same ∙ r.begun ∙ sym f))

-- the same of a session in a list of how far each is
pub free-at : (script : Script) (trace : List Entry) → IsRun script trace → (xs : List Progress) → AreProgress (length script.sessions) trace xs
    → (u : SessionId) → is_actor script (Session u) ≡ true → (p : Progress) → Some p ≡ slice_get xs (u.0 - 1) → (calls : ℕ) → calls ≡ length (calls_of script u)
    → (is_resting p calls ≡ true → IsFree script trace u) × (IsFree script trace u → is_resting p calls ≡ true)
free-at script trace run xs are u actor p at calls count =
    let n = numbered_from_1 script u actor in
    let low = n.0 in
    let high : u.0 ≤ length script.sessions = n.1 in
    let q : Some p ≡ Some (progress_of (session_at (u.0 - 1)) trace) = at ∙ are.each (u.0 - 1) (omega (arith, low, high)) in
    let r : p ≡ progress_of (session_at (u.0 - 1)) trace = cc in
    let same : session_at (u.0 - 1) ≡ u = one_session (session_at (u.0 - 1)) u (omega (arith, low)) in
    free-told script trace run u p calls (r ∙ ap (λ (v : SessionId). progress_of v trace) same) count
