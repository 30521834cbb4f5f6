-- Which ticks begin a call, and which are retries.
use Rattle.std.proofs.Common.{◌≡◌, ℕ, zero, suc, ◌+◌, ◌<◌, ◌⊎◌, inl, inr, ⊎_elim, Bool, true, false, nat_lt, List, []}
use Rattle.std.proofs.Common.{◌∷◌, ◌++◌, length, Option, Some, None, slice_get, refl, ap, sym, subst, ◌∙◌, arith}
use Rattle.std.specs.Prelude.{not, ◌&&◌, ◌||◌}
use Rattle.std.specs.List.{list_any}
use Rattle.std.proofs.lemmas.Bool.{and_from, and_parts, cond_both, lt-ltb, ltb-true, not-true, true≢false}
use Rattle.hx_types.specs.declared.calls.Op.{Op}
use Rattle.hx_types.specs.declared.calls.Op.TheVariants.{Put, Get, Del, Cput, Search, Stop, Add, Atomic}
use Rattle.hx_types.specs.declared.ids.Actor.{Actor}
use Rattle.hx_types.specs.declared.ids.Actor.TheVariants.{Coordinator, Server, Session}
use Rattle.hx_types.specs.declared.ids.RegionId.{RegionId}
use Rattle.hx_types.specs.declared.messages.Post.{Post}
use Rattle.hx_types.specs.declared.spaces.Space.{Space}
use Rattle.hx_types.specs.declared.traces.Entry.{Entry}
use Rattle.hx_types.specs.declared.traces.Note.{Note}
use Rattle.hx_types.specs.declared.traces.Script.{Script}
use Rattle.hx_types.specs.declared.traces.Input.TheVariants.{Tick}
use Rattle.hx_types.specs.declared.values.Term.{Term}
use Rattle.hx_types.specs.Fitting.{numbered}
use Rattle.hx_types.specs.Words.{when_some}
use Rattle.hx_types.specs.declared.outcomes.Planned.{Planned}
use Rattle.hx_types.specs.declared.outcomes.Planned.TheVariants as a_plan
use Rattle.hx_types.specs.Configs.{is_lost}
use Rattle.hx_model.specs.CoordinatorSteps.{coordinator_tick, CoordinatorState}
use Rattle.hx_model.specs.Runs.{coordinator_of, entry_of, has_halted, made_of, does_something, server_of, session_of}
use Rattle.hx_model.specs.Schedule.{is_idle}
use Rattle.hx_model.specs.ServerSteps.{server_step, tick_step, unmoved, ServerState, ServerStep}
use Rattle.hx_model.specs.SessionSteps.{ask_regions, begin, send, send_to, session_tick, staying, with_poll, SessionState, SessionStep}
use Rattle.hx_clock.specs.declared.parts.Stamped.{Stamped}
use Rattle.hx_clock.proofs.Lemmas.{get-below}
use Rattle.hx_law_threads.specs.Cuts.{is_began, is_idle_actor, is_retry, is_waiting}
use Rattle.hx_driver.specs.declared.desks.Desk.{Desk}
use Rattle.hx_driver.specs.Desks.{entries_before, HasRetried}

-- no note tells of a call that began
abbrev IsQuiet : List Note → Type 0
IsQuiet notes = list_any is_began notes ≡ false

some-both : {A B : Type 0} (P : B → Type 0) (o : Option A) (y : B) (f : A → B) → P y → ((x : A) → o ≡ Some x → P (f x)) → P (when_some o y f)
some-both P None y f h k = h
some-both P (Some x) y f h k = k x refl

coordinator-quiet : (c : CoordinatorState) → IsQuiet (coordinator_tick c).notes
coordinator-quiet c = refl

server-quiet : (space : Space) (s : ServerState) → IsQuiet (server_step space s Tick).notes
server-quiet space s = cond_both s.halted (unmoved s) (tick_step space s) (λ (step : ServerStep). IsQuiet step.notes) (λ t. refl) (λ t. refl)

to-quiet : (s : SessionState) (op : Op) (g : RegionId) → IsQuiet (send_to s op g).notes
to-quiet s op g = cond_both (is_lost s.config g) _ _ (λ (step : SessionStep). IsQuiet step.notes) (λ t. refl) (λ t. refl)

ask-quiet : (s : SessionState) (terms : List Term) (p : Planned) → IsQuiet (ask_regions s terms p).notes
ask-quiet s terms (a_plan.Regions subspace regions) = refl
ask-quiet s terms (a_plan.Lost g) = refl

send-quiet : (space : Space) (s : SessionState) (op : Op) → IsQuiet (send space s op).notes
send-quiet space s (Put key sets) = to-quiet s (Put key sets) _
send-quiet space s (Get key) = to-quiet s (Get key) _
send-quiet space s (Del key) = to-quiet s (Del key) _
send-quiet space s (Cput key tests sets) = to-quiet s (Cput key tests sets) _
send-quiet space s (Search terms) = ask-quiet s terms _
send-quiet space s (Stop server) = refl
send-quiet space s (Add server region) = refl
send-quiet space s (Atomic key edits) = to-quiet s (Atomic key edits) _

item-there : {A : Type 0} (xs : List A) (k : ℕ) → k < length xs → (x : A) × (slice_get xs k ≡ Some x)
item-there [] k lt = absurd (omega (arith, lt))
item-there (x ∷ xs) zero lt = (x, refl)
item-there (x ∷ xs) (suc k) lt = item-there xs k (omega (arith, lt))

item-numbered : {A : Type 0} (xs : List A) (m n : ℕ) → m ≡ n + 1 → n < length xs → (x : A) × (numbered xs m ≡ Some x)
item-numbered xs zero n e lt = absurd (omega (arith, e))
item-numbered xs (suc m) n e lt = item-there xs m (omega (arith, e, lt))

numbered-below : {A : Type 0} (xs : List A) (m n : ℕ) (x : A) → m ≡ n + 1 → numbered xs m ≡ Some x → n < length xs
numbered-below xs zero n x e h = absurd (omega (arith, e))
numbered-below xs (suc m) n x e h = let l = get-below xs m x h in omega (arith, e, l)

-- the tick of a session that is no idle one begins no call
session-quiet : (space : Space) (s : SessionState) → is_idle s ≡ false → IsQuiet (session_tick space s).notes
session-quiet space s idle =
    cond_both s.under_way _ _ (λ (step : SessionStep). IsQuiet step.notes)
    (λ t. some-both (λ (step : SessionStep). IsQuiet step.notes) (numbered s.calls s.begun) (staying s)
    (λ (op : Op). with_poll (send space s op)) refl (λ op e. send-quiet space s op))
    (λ t. some-both (λ (step : SessionStep). IsQuiet step.notes) (numbered s.calls (s.begun + 1)) (staying s) (begin space s) refl
    (λ op e.
    let busy : is_idle s ≡ true = and_from (not s.under_way) (nat_lt s.begun (length s.calls)) (ap not t)
    (lt-ltb s.begun (length s.calls) (numbered-below s.calls (s.begun + 1) s.begun op refl e)) in
    absurd (true≢false (sym busy ∙ idle))))

-- that of an idle session does
session-begins : (space : Space) (s : SessionState) → is_idle s ≡ true → list_any is_began (session_tick space s).notes ≡ true
session-begins space s idle =
    let both = and_parts (not s.under_way) (nat_lt s.begun (length s.calls)) idle in
    let call = item-numbered s.calls (s.begun + 1) s.begun refl (ltb-true s.begun (length s.calls) both.1) in
    cond_both s.under_way _ (when_some (numbered s.calls (s.begun + 1)) (staying s) (begin space s))
    (λ (step : SessionStep). list_any is_began step.notes ≡ true)
    (λ t. absurd (true≢false (sym t ∙ not-true s.under_way both.0)))
    (λ t. subst (λ o. list_any is_began (when_some o (staying s) (begin space s)).notes ≡ true) (sym call.1) refl)

quiet : (script : Script) (own : List Entry) (a : Actor) → is_idle_actor script own a ≡ false → IsQuiet (made_of script own a Tick).notes
quiet script own Coordinator e = coordinator-quiet (coordinator_of script own)
quiet script own (Server s) e = server-quiet script.space (server_of script s own)
quiet script own (Session u) e = session-quiet script.space (session_of script u own) e

begins : (script : Script) (own : List Entry) (a : Actor) → is_idle_actor script own a ≡ true → list_any is_began (made_of script own a Tick).notes ≡ true
begins script own Coordinator e = absurd (true≢false (sym e))
begins script own (Server s) e = absurd (true≢false (sym e))
begins script own (Session u) e = session-begins script.space (session_of script u own) e

pub tick-retries : (script : Script) (own : List Entry) (a : Actor) → is_idle_actor script own a ≡ false
    → is_retry (entry_of a Tick (made_of script own a Tick)) ≡ true
tick-retries script own a e = ap not (quiet script own a e)

pub tick-begins : (script : Script) (own : List Entry) (a : Actor) → is_idle_actor script own a ≡ true
    → is_retry (entry_of a Tick (made_of script own a Tick)) ≡ false
tick-begins script own a e = ap not (begins script own a e)

some-enough : (posts : List Post) (notes : List Note) → list_any is_began notes ≡ true → does_something Tick (record { posts = posts; notes = notes }) ≡ true
some-enough posts [] e = absurd (true≢false (sym e))
some-enough [] (n ∷ notes) e = refl
some-enough (p ∷ posts) (n ∷ notes) e = refl

-- an idle session's tick makes something
pub idle-enough : (script : Script) (own : List Entry) (a : Actor) → is_idle_actor script own a ≡ true → does_something Tick (made_of script own a Tick) ≡ true
idle-enough script own a e = some-enough (made_of script own a Tick).posts (made_of script own a Tick).notes (begins script own a e)

and-parts : (h i m : Bool) → not h && not i && m ≡ true → (h ≡ false) × (i ≡ false) × (m ≡ true)
and-parts true true true e = absurd (true≢false (sym e))
and-parts true true false e = absurd (true≢false (sym e))
and-parts true false true e = absurd (true≢false (sym e))
and-parts true false false e = absurd (true≢false (sym e))
and-parts false true true e = absurd (true≢false (sym e))
and-parts false true false e = absurd (true≢false (sym e))
and-parts false false true e = (refl, refl, refl)
and-parts false false false e = absurd (true≢false (sym e))

pub retried-none : (script : Script) (d d' : Desk)
    → (is_waiting script (entries_before d.part.items) d.actor ≡ true → ⊥) → d'.part.items ≡ d.part.items → HasRetried script d d'
retried-none script d d' never same = record { waiting = λ e. absurd (never e); other = λ e. same }

pub waits-runs : (script : Script) (d : Desk) → is_waiting script (entries_before d.part.items) d.actor ≡ true
    → has_halted script (entries_before d.part.items) d.actor ≡ true → ⊥
waits-runs script d e h = true≢false (sym h ∙ (and-parts _ _ _ e).0)

pub waits-busy : (script : Script) (d : Desk) → is_waiting script (entries_before d.part.items) d.actor ≡ true
    → is_idle_actor script (entries_before d.part.items) d.actor ≡ true → ⊥
waits-busy script d e h = true≢false (sym h ∙ (and-parts _ _ _ e).1)

pub retried-one : (script : Script) (d d' : Desk) (x : Stamped)
    → has_halted script (entries_before d.part.items) d.actor ≡ false
    → is_idle_actor script (entries_before d.part.items) d.actor ≡ false
    → does_something Tick (made_of script (entries_before d.part.items) d.actor Tick) ≡ true
    → x.entry ≡ entry_of d.actor Tick (made_of script (entries_before d.part.items) d.actor Tick)
    → d'.part.items ≡ d.part.items ++ x ∷ []
    → HasRetried script d d'
retried-one script d d' x h i m is part =
    let waits : is_waiting script (entries_before d.part.items) d.actor ≡ true =
    and_from (not (has_halted script (entries_before d.part.items) d.actor)
    && not (is_idle_actor script (entries_before d.part.items) d.actor)) _
    (and_from (not (has_halted script (entries_before d.part.items) d.actor)) _ (ap not h) (ap not i)) m in
    record {
      waiting = λ e. (x, ap is_retry is ∙ tick-retries script (entries_before d.part.items) d.actor i, part);
      other = λ e. absurd (true≢false (sym waits ∙ e));
    }

or-none : (x y : Bool) → x || y ≡ false → (x ≡ false) × (y ≡ false)
or-none true y e = absurd (true≢false e)
or-none false y e = (refl, e)

or-some : (x y : Bool) → x || y ≡ true → (x ≡ true) ⊎ (y ≡ true)
or-some true y e = inl refl
or-some false y e = inr e

-- an actor that doesn't rest
pub not-resting : (script : Script) (own : List Entry) (a : Actor)
    → has_halted script own a || is_idle_actor script own a ≡ false → (has_halted script own a ≡ false)
    × (is_idle_actor script own a ≡ false)
not-resting script own a e = or-none (has_halted script own a) (is_idle_actor script own a) e

-- one that rests doesn't wait
pub retried-resting : (script : Script) (d : Desk)
    → has_halted script (entries_before d.part.items) d.actor
    || is_idle_actor script (entries_before d.part.items) d.actor ≡ true → HasRetried script d d
retried-resting script d e =
    retried-none script d d
    (λ w. ⊎_elim (λ h. waits-runs script d w h) (λ h. waits-busy script d w h)
    (or-some (has_halted script (entries_before d.part.items) d.actor)
    (is_idle_actor script (entries_before d.part.items) d.actor) e))
    refl
