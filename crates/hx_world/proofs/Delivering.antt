-- The first post that waits is delivered.
use Rattle.std.proofs.Common.{◌≡◌, ℕ, Bool, true, false, not, List, length, Option, None, Some, refl, sym, ap, ◌∙◌, subst}
use Rattle.std.proofs.lemmas.Bool.{false≢true}
use Rattle.std.specs.Borrow.{Bor}
use Rattle.std.specs.Option.{option_map}
use Rattle.std.specs.Prelude.{IfNone, IfSome, Ok, is_some, reverse, slice_get}
use Rattle.hx_model.specs.Types.{Actor, Deliver, Entry, Input, Post, PostId, Script, Session}
use Rattle.hx_types.specs.declared.traces.Step.TheVariants as a_step
use Rattle.hx_types.specs.Words.{below, first_some, when_some}
use Rattle.hx_model.specs.Runs.{does_something, has_halted, is_actor, made_of, post_named, session_of}
use Rattle.hx_model.specs.Schedule.{Next, delivery_of, entry_by, idle_among, is_idle, is_worn, next_input, with_entry}
use Rattle.hx_world.specs.declared.ends.DrainError.{DrainError}
use Rattle.hx_world.specs.declared.ends.DrainError.TheVariants.{Memory, Worn}
use Rattle.hx_world.specs.declared.sessions.CountedSession.{CountedSession}
use Rattle.hx_world.specs.Idle.{IsFirstIdle, IsNoneIdle, IsPostedFirst, IsRunningPost}
use Rattle.hx_world.specs.Invariant.{AreAt, IsQueue, IsSessionAt, session_at}
use Rattle.hx_world.specs.Names.{can_receive}
use Rattle.hx_world.specs.Nexts.{DeliversNext, FailsAt, Makes, delivery_in, tick_of}
use Rattle.hx_world.specs.Turns.{FailsTurn, HasTurn, IsTurn}
use Rattle.hx_world.specs.Worlds.{Advances, Fails, Steps}
use Rattle.hx_world.proofs.Queueing.{lowest_posted}
use Rattle.hx_world.proofs.Scheduling.{first_next, first_there, idle_first, made_advances, next_fails, none_next, rested, some_same}
use Rattle.hx_world.proofs.Stepping.{delivered}

-- a post whose receiver hasn't halted can be received
pub receives : (script : Script) (t : List Entry) (id : PostId) (p : Post) → IsRunningPost script t id p → can_receive script t id ≡ true
receives script t id p r = ap (λ (o : Option Post). when_some o false (λ (x : Post). not (has_halted script t x.to))) r.named ∙ ap not r.running

pub found_receives : (script : Script) (t : List Entry) (id : PostId) (o : Option (Bor Post))
    → IfSome o (λ (b : Bor Post). IsRunningPost script t id b.now) → is_some o ≡ true → can_receive script t id ≡ true
found_receives script t id None r e = absurd (false≢true e)
found_receives script t id (Some b) r e = receives script t id b.now r

-- and one that was not found cannot
pub missed : (script : Script) (t : List Entry) (id : PostId) (o : Option (Bor Post))
    → IfNone o (can_receive script t id ≡ false) → is_some o ≡ false → can_receive script t id ≡ false
missed script t id None n e = n
missed script t id (Some b) n e = absurd (false≢true (sym e))

module _ (script other : Script) (trace before : List Entry) (waiting : List PostId) (id : PostId) (p : Post)
    (q : IsQueue script (reverse trace) waiting) (same : script ≡ other) (earlier : trace ≡ before)
    (first : slice_get waiting 0 ≡ Some id) (r : IsRunningPost script (reverse trace) id p) where
  pub posted : IsPostedFirst other (reverse before) id
  posted = lowest_posted script other trace before waiting id q same earlier first (receives script (reverse trace) id p r)

  -- its delivery was made
  pub made_next : (input : Input) (new : List Entry) → input ≡ Deliver id p.from p.message
      → HasTurn script (reverse trace) new p.to input → DeliversNext other (reverse before) new true
  made_next input new is h =
      let o = posted in
      let made =
      subst (λ (l : List Entry). Steps other (reverse l) new (a_step.Deliver id)) earlier
      (subst (λ (x : Script). Steps x (reverse trace) new (a_step.Deliver id)) same
      (delivered script (reverse trace) new id p r.named (subst (λ (x : Input). HasTurn script (reverse trace) new p.to x) is h))) in (
        delivery_of id o.sent,
        o.first,
        made.trace ∙ ap (λ (x : Option Post). with_entry (reverse before)
            (option_map (entry_by other (reverse before)) (option_map (delivery_of id) x))) o.named,
      )

  -- or not: only a worn receiver stands in its way
  pub failed_next : (input : Input) (e : DrainError) → FailsTurn script (reverse trace) p.to input e
      → FailsAt (reverse before) (delivery_in other (reverse before)) e
  failed_next input Memory h = tt
  failed_next input (Worn b) h =
      let o = posted in
      let sent : post_named id (reverse before) ≡ Some p = subst (λ (l : List Entry). post_named id (reverse l) ≡ Some p) earlier r.named in (
        delivery_of id o.sent,
        o.first,
        ap (λ (x : Post). x.to) (some_same (sym o.named ∙ sent)) ∙ sym h.actor,
        subst (λ (l : List Entry). is_worn b (reverse l) ≡ true) earlier (subst (λ (x : Actor). is_worn x (reverse trace) ≡ true) (sym h.actor) h.worn),
      )

-- a delivery to an actor makes an entry
pub delivers_copy : (script : Script) (old new : List Entry) (a : Actor) (id : PostId) (p : Post)
    (input other : Input) (made : Bool) → input ≡ Deliver id p.from p.message → input ≡ other
    → IsTurn script old new a input (Ok made) → HasTurn script old new a other
delivers_copy script old new a id p input other true is same h = subst (HasTurn script old new a) same h
delivers_copy script old new a id p input other false is same h =
    absurd (false≢true (sym (subst (λ (x : Input). does_something x (made_of script old a x) ≡ false) is h.nothing)))

-- the first delivery is the next entry
first_is_next : (script : Script) (t : List Entry) (next : Next) → delivery_in script t ≡ Some next → next_input script t ≡ Some next
first_is_next script t next first = ap (λ (o : Option Next). first_some o (idle_among script t (below (length script.sessions)))) first

pub delivers_next : (script : Script) (old new : List Entry) → DeliversNext script old new true → Advances script old new true
delivers_next script old new (next, first, made) = made_advances script old new next (first_is_next script old next first) made

pub fails_next : (script : Script) (t : List Entry) (e : DrainError) → FailsAt t (delivery_in script t) e → Fails script t e
fails_next script t Memory h = tt
fails_next script t (Worn a) (next, first, actor, worn) = next_fails script t next (Worn a) (first_is_next script t next first) (next, refl, actor, worn)

-- no post is delivered, and the queue was looked at
module _ (script after : Script) (trace later : List Entry) (sessions : List CountedSession) (same : after ≡ script) (earlier : later ≡ trace)
    (none : delivery_in script (reverse trace) ≡ None) (are : AreAt (length after.sessions) (IsSessionAt after (reverse later)) sessions) where
  none_after : delivery_in after (reverse later) ≡ None
  none_after =
      subst (λ (l : List Entry). delivery_in after (reverse l) ≡ None) (sym earlier)
      (subst (λ (x : Script). delivery_in x (reverse trace) ≡ None) (sym same) none)

  before : (P : Script → List Entry → Type 0) → P after (reverse later) → P script (reverse trace)
  before P h = subst (λ (l : List Entry). P script (reverse l)) earlier (subst (λ (x : Script). P x (reverse later)) same h)

  -- nor is a session idle
  pub rests_after : IsNoneIdle sessions → Advances script (reverse trace) (reverse later) false
  rests_after idle = before (λ x t. Advances x t (reverse later) false)
      (rested after (reverse later) (none_next after (reverse later) sessions are none_after idle))

  -- the lowest idle session begins its next call
  module _ (place : ℕ) (first : IsFirstIdle sessions place) where
    pub begin_there : is_actor after (Session (session_at place)) ≡ true
    begin_there = first_there after (reverse later) sessions are none_after place first

    pub begin_idle : is_idle (session_of after (session_at place) (reverse later)) ≡ true
    begin_idle = idle_first after (reverse later) sessions are none_after place first

    pub begun_next : (new : List Entry) → Makes after (reverse later) new (tick_of (session_at place)) → Advances script (reverse trace) new true
    begun_next new made =
        before (λ x t. Advances x t new true)
        (made_advances after (reverse later) new (tick_of (session_at place)) (first_next after (reverse later) sessions are none_after place first) made)

    pub begin_fails_next : (e : DrainError) → FailsAt (reverse later) (Some (tick_of (session_at place))) e → Fails script (reverse trace) e
    begin_fails_next e h =
        before (λ x t. Fails x t e)
        (next_fails after (reverse later) (tick_of (session_at place)) e (first_next after (reverse later) sessions are none_after place first) h)
