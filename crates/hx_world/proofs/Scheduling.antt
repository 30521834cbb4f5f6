-- Which entry the schedule makes next.
use Rattle.std.proofs.Common.{◌≡◌, ℕ, zero, suc, ◌+◌, ◌<◌, inl, inr, Bool, true, false, not, ◌&&◌, List, [], ◌∷◌, ◌++◌}
use Rattle.std.proofs.Common.{length, Option, Some, None, refl, sym, ap, ◌∙◌, subst, arith, ltb, leb, add-one}
use Rattle.std.specs.Prelude.{Ok, reverse, is_some, IsSomeAnd, MatchOption}
use Rattle.std.specs.Option.{option_map}
use Rattle.std.proofs.lemmas.Bool.{cond-true, cond-false, cases_eq, and_from, and_parts, and_right, false≢true, le-leb, lt-ltb, ltb-true, not-true}
use Rattle.hx_model.specs.Types.{Actor, Entry, Op, PostId, Script, Session, SessionId, Space, Tick}
use Rattle.hx_types.specs.Fitting.{numbered}
use Rattle.hx_types.specs.Words.{below, first_some, when_some}
use Rattle.hx_model.specs.Runs.{does_something, is_actor, is_empty, session_of}
use Rattle.hx_model.specs.Schedule.{Next, entry_by, first_delivery, idle_among, is_idle, is_worn, next_entry, next_input, undelivered, with_entry}
use Rattle.hx_model.specs.SessionSteps.{SessionState, SessionStep, begin, session_step, session_tick, staying}
use Rattle.hx_world.specs.declared.ends.DrainError.{DrainError}
use Rattle.hx_world.specs.declared.ends.DrainError.TheVariants.{Memory, Worn}
use Rattle.hx_world.specs.declared.sessions.CountedSession.{CountedSession}
use Rattle.hx_world.specs.Idle.{IsFirstIdle, IsNoneIdle, IsPostedFirst, is_idle_at}
use Rattle.hx_world.specs.Invariant.{AreAt, IsSessionAt, session_at}
use Rattle.hx_world.specs.Nexts as nexts
use Rattle.hx_world.specs.Nexts.{FailsAt, Makes}
use Rattle.hx_world.specs.Turns.{FailsTurn, IsTurn}
use Rattle.hx_world.specs.Worlds.{Advances, Fails}
use Rattle.hx_world.proofs.Seating.{item_at}

-- the turn of the session of a place
abbrev tick_of : ℕ → Next
tick_of place = record { actor = Session (session_at place); input = Tick }

module _ (script : Script) (t : List Entry) where
  abbrev idle_at : ℕ → Bool
  idle_at place = is_idle (session_of script (session_at place) t)

  idle-append : (xs ys : List ℕ) → idle_among script t (xs ++ ys) ≡ first_some (idle_among script t xs) (idle_among script t ys)
  idle-append [] ys = refl
  idle-append (n ∷ xs) ys = by (idle_at n) refl (idle-append xs ys)
    where
      by : (b : Bool) → idle_at n ≡ b → idle_among script t (xs ++ ys) ≡ first_some (idle_among script t xs) (idle_among script t ys)
          → idle_among script t ((n ∷ xs) ++ ys) ≡ first_some (idle_among script t (n ∷ xs)) (idle_among script t ys)
      by true e rest = rw e refl
      by false e rest = rw e rest

  none_below : (n : ℕ) → ((j : ℕ) → j < n → idle_at j ≡ false) → idle_among script t (below n) ≡ None
  none_below zero f = refl
  none_below (suc n) f =
      let before = none_below n (λ j l. f j (omega (arith, l))) in
      idle-append (below n) (n ∷ [])
      ∙ ap (λ (o : Option Next). first_some o (idle_among script t (n ∷ []))) before
      ∙ cond-false (idle_at n) (Some (tick_of n)) None (f n (omega arith))

  first_below : (n place : ℕ) → place < n → idle_at place ≡ true → ((j : ℕ) → j < place → idle_at j ≡ false)
      → idle_among script t (below n) ≡ Some (tick_of place)
  first_below zero place within here f = absurd (omega arith)
  first_below (suc n) place within here f =
      elim (cases_eq place n) [
        | inl e ↦
            (
            idle-append (below n) (n ∷ [])
            ∙ ap (λ (o : Option Next). first_some o (idle_among script t (n ∷ []))) (none_below n (λ j l. f j (omega (arith, l, e))))
            ∙ cond-true (idle_at n) (Some (tick_of n)) None (ap idle_at (sym e) ∙ here)
            ∙ ap (λ k. Some (tick_of k)) (sym e)
            )
        | inr e ↦
            (
            idle-append (below n) (n ∷ [])
            ∙ ap (λ (o : Option Next). first_some o (idle_among script t (n ∷ [])))
            (first_below n place (let l : place < n = omega (arith, within, e) in l) here f)
            )
      ]

-- an idle session's tick makes something
idle_makes : (space : Space) (s : SessionState) → is_idle s ≡ true → let step = session_step space s Tick in
    does_something Tick (record { posts = step.posts; notes = step.notes }) ≡ true
idle_makes space s e =
    let parts = and_parts (not s.under_way) (ltb s.begun (length s.calls)) e in
    let off = not-true s.under_way parts.0 in
    let op = item_at s.calls s.begun (ltb-true s.begun (length s.calls) parts.1) in
    let found : numbered s.calls (s.begun + 1) ≡ Some op.0 = rw add-one op.1 in
    let ticks : session_tick space s ≡ begin space s op.0 =
    cond-false s.under_way _ (when_some (numbered s.calls (s.begun + 1)) (staying s) (begin space s)) off
    ∙ ap (λ (o : Option Op). when_some o (staying s) (begin space s)) found in
    ap (λ (x : SessionStep). not (is_empty x.posts && is_empty x.notes)) ticks
    ∙ ap not (and_right (is_empty (begin space s op.0).posts) false refl)

module _ (script : Script) (t : List Entry) (sessions : List CountedSession)
    (are : AreAt (length script.sessions) (IsSessionAt script t) sessions)
    (none : first_delivery script t (undelivered t) ≡ None) where
  -- whether the session of a place is idle
  idle_is : (place : ℕ) → place < length sessions → is_idle (session_of script (session_at place) t) ≡ is_idle_at sessions place
  idle_is place within =
      let here = item_at sessions place within in
      let at = are.each place here.0 here.1 in
      ap is_idle (sym at.state) ∙ sym (ap (λ (o : Option CountedSession). when_some o false (λ (s : CountedSession). is_idle s.session.state)) here.1)

  idles_next : next_input script t ≡ idle_among script t (below (length sessions))
  idles_next =
      ap (λ (o : Option Next). first_some o (idle_among script t (below (length script.sessions)))) none
      ∙ ap (λ n. idle_among script t (below n)) (sym are.count)

  module _ (place : ℕ) (first : IsFirstIdle sessions place) where
    -- the lowest idle session can begin a call
    pub idle_first : is_idle (session_of script (session_at place) t) ≡ true
    idle_first = idle_is place first.within ∙ first.idle

    pub first_there : is_actor script (Session (session_at place)) ≡ true
    first_there =
        let within = first.within in
        let count = are.count in
        and_from (ltb 0 (place + 1)) (leb (place + 1) (length script.sessions)) (lt-ltb 0 (place + 1) (omega arith))
        (le-leb (place + 1) (length script.sessions) (omega (arith, within, count)))

    -- else that is next
    pub first_next : next_input script t ≡ Some (tick_of place)
    first_next =
        let within = first.within in
        idles_next ∙ first_below script t (length sessions) place first.within idle_first (λ j l. idle_is j (omega (arith, l, within)) ∙ first.lowest j l)

  -- else there is no next step
  pub none_next : IsNoneIdle sessions → next_input script t ≡ None
  none_next idle = idles_next ∙ none_below script t (length sessions) (λ j l. idle_is j l ∙ idle j l)

-- the sessions are the same once the queue was looked at
pub sessions_still : (script after : Script) (trace later : List Entry) (sessions : List CountedSession) → after ≡ script → later ≡ trace
    → AreAt (length after.sessions) (IsSessionAt after (reverse later)) sessions → AreAt (length script.sessions) (IsSessionAt script (reverse trace)) sessions
sessions_still script after trace later sessions same earlier are =
    subst (λ (l : List Entry). AreAt (length script.sessions) (IsSessionAt script (reverse l)) sessions) earlier
    (subst (λ (x : Script). AreAt (length x.sessions) (IsSessionAt x (reverse later)) sessions) same are)

-- the next entry was made
pub made_advances : (script : Script) (old new : List Entry) (next : Next) → next_input script old ≡ Some next
    → Makes script old new next → Advances script old new true
made_advances script old new next is made = record {
  trace = made ∙ sym (ap (λ (o : Option Next). with_entry old (option_map (entry_by script old) o)) is);
  told = sym (ap (λ (o : Option Next). is_some (option_map (entry_by script old) o)) is);
}

-- there was none
pub rested : (script : Script) (t : List Entry) → next_input script t ≡ None → Advances script t t false
rested script t none = record {
  trace = sym (ap (λ (o : Option Next). with_entry t (option_map (entry_by script t) o)) none);
  told = sym (ap (λ (o : Option Next). is_some (option_map (entry_by script t) o)) none);
}

pub some_same : {A : Type 0} {x y : A} → Some x ≡ Some y → x ≡ y
some_same {A} {x} {y} h = ap (λ (o : Option A). from o) h where
  from : Option A → A
  from None = x
  from (Some z) = z

-- or not
pub next_fails : (script : Script) (t : List Entry) (next : Next) (e : DrainError) → next_input script t ≡ Some next
    → FailsAt t (Some next) e → Fails script t e
next_fails script t next Memory is h = tt
next_fails script t next (Worn a) is (n, same, actor, worn) = record {
  next = subst (λ (o : Option Next). IsSomeAnd (option_map (entry_by script t) o) (λ (x : Entry). x.actor ≡ a))
      (sym is) (ap (λ (x : Next). x.actor) (some_same same) ∙ actor);
  worn = worn;
}

-- there is a next entry where a post can be delivered
pub next_posted : (script : Script) (t : List Entry) (o : Option PostId)
    → MatchOption o (first_delivery script t (undelivered t) ≡ None) (IsPostedFirst script t) → is_some o ≡ true
    → true ≡ is_some (next_entry script t)
next_posted script t None none e = absurd (false≢true e)
next_posted script t (Some id) first e =
    sym (ap (λ (o : Option Next). is_some (option_map (entry_by script t) (first_some o (idle_among script t (below (length script.sessions)))))) first.first)

-- else where a session is idle
pub next_idle : (script : Script) (t : List Entry) (sessions : List CountedSession) → AreAt (length script.sessions) (IsSessionAt script t) sessions
    → (o : Option PostId) → MatchOption o (first_delivery script t (undelivered t) ≡ None) (IsPostedFirst script t) → is_some o ≡ false
    → (place : Option ℕ) → MatchOption place (IsNoneIdle sessions) (IsFirstIdle sessions) → is_some place ≡ is_some (next_entry script t)
next_idle script t sessions are (Some id) first e place h = absurd (false≢true (sym e))
next_idle script t sessions are None none e None h =
    sym (ap (λ (o : Option Next). is_some (option_map (entry_by script t) o)) (none_next script t sessions are none h))
next_idle script t sessions are None none e (Some place) h =
    sym (ap (λ (o : Option Next). is_some (option_map (entry_by script t) o)) (first_next script t sessions are none place h))

-- ---- a session that is told to begin

module _ (script : Script) (t : List Entry) (u : SessionId) where
  -- an idle session makes an entry
  pub begins : (new : List Entry) (made : Bool) → is_idle (session_of script u t) ≡ true
      → IsTurn script t new (Session u) Tick (Ok made) → Makes script t new (nexts.tick_of u)
  begins new true idle h = h.trace
  begins new false idle h = absurd (false≢true (sym h.nothing ∙ idle_makes script.space (session_of script u t) idle))

  -- only a worn session can't
  pub begin_fails : (e : DrainError) → FailsTurn script t (Session u) Tick e → FailsAt t (Some (nexts.tick_of u)) e
  begin_fails Memory h = tt
  begin_fails (Worn a) h = (nexts.tick_of u, refl, sym h.actor, subst (λ (x : Actor). is_worn x t ≡ true) (sym h.actor) h.worn)
