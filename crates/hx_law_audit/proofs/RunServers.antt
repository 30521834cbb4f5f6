-- The servers of each configuration of a run stand in ascending order.
use Rattle.hx_law_lemmas.proofs.Lemmas.Vocabulary.{[], Actor, add_step, adds, administers, again, Answer, ap, arith, below, Bool, by_number, Caller, cond}
use Rattle.hx_law_lemmas.proofs.Lemmas.Vocabulary.{cond_both, config_ready, config_without, Coordinator, coordinator_after, coordinator_message, coordinator_of}
use Rattle.hx_law_lemmas.proofs.Lemmas.Vocabulary.{coordinator_step, CoordinatorState, CoordinatorStep, Deliver, Entry, Epoch, eqb, false, filter, first_config}
use Rattle.hx_law_lemmas.proofs.Lemmas.Vocabulary.{gone_step, Halt, inl, Input, inr, is_lost, IsIn, issue, judged, List, lists_joining, ltb, map, map-append}
use Rattle.hx_law_lemmas.proofs.Lemmas.Vocabulary.{Message, Newest, newest_of, None, not, Option, outcome, poll_step, post, ready_step, refl, RegionId, resting}
use Rattle.hx_law_lemmas.proofs.Lemmas.Vocabulary.{same_server, Script, Server, server_in, ServerId, Session, SessionId, Some, Space, Stop, stop_step, stops}
use Rattle.hx_law_lemmas.proofs.Lemmas.Vocabulary.{stops_answered, stops_left, subst, suc, sym, telling, Tick, to_server, true, with_number, with_task, zero, ℕ}
use Rattle.hx_law_lemmas.proofs.Lemmas.Vocabulary.{◌&&◌, ◌++◌, ◌+◌, ◌<◌, ◌∙◌, ◌∷◌, ◌≡◌, ◌≤◌}
use Rattle.hx_types.specs.declared.calls.Answer.TheVariants as an_answer
use Rattle.hx_types.specs.declared.messages.Message.TheVariants as a_message
use Rattle.hx_law_lemmas.proofs.Lemmas.{in-below, in-map}

-- ---- ascending numbers

abbrev pub RisesFrom : Option ℕ → List ℕ → Type 0
RisesFrom last [] = Unit {0}
RisesFrom None (n ∷ rest) = RisesFrom (Some n) rest
RisesFrom (Some m) (n ∷ rest) = (m < n) × RisesFrom (Some n) rest

-- from a lower number, or from none
lower : (m n : ℕ) → m ≤ n → (xs : List ℕ) → RisesFrom (Some n) xs → RisesFrom (Some m) xs
lower m n l [] h = tt
lower m n l (x ∷ xs) h = ((let k = h.0 in omega (arith, l, k)), h.1)

free : (n : ℕ) (xs : List ℕ) → RisesFrom (Some n) xs → RisesFrom None xs
free n [] h = tt
free n (x ∷ xs) h = h.1

-- one more behind them
pub rises_more : (last : Option ℕ) (xs : List ℕ) (y : ℕ) → RisesFrom last xs → ((x : ℕ) → IsIn x xs → x < y)
    → ((m : ℕ) → last ≡ Some m → m < y) → RisesFrom last (xs ++ y ∷ [])
rises_more None [] y h all from = tt
rises_more (Some m) [] y h all from = (from m refl, tt)
rises_more None (x ∷ xs) y h all from = rises_more (Some x) xs y h (λ z i. all z (inr i)) (λ m e. let q : x ≡ m = cc in subst (λ k. k < y) q (all x (inl refl)))
rises_more (Some m) (x ∷ xs) y h all from = (
  h.0,
  rises_more (Some x) xs y h.1 (λ z i. all z (inr i)) (λ k e. let q : x ≡ k = cc in subst (λ j. j < y) q (all x (inl refl))),
)

abbrev number_of : ServerId → ℕ
number_of s = s.0

abbrev pub ServersRise : List ServerId → Type 0
ServersRise servers = RisesFrom None (map (λ (s : ServerId). s.0) servers)

-- some of them ascend too
fewer : (test : ServerId → Bool) (last : Option ℕ) (xs : List ServerId) → RisesFrom last (map number_of xs) → RisesFrom last (map number_of (filter test xs))
fewer test last [] h = tt
fewer test None (x ∷ xs) h = by (fewer test (Some x.0) xs h) (test x)
  where
    by : RisesFrom (Some x.0) (map number_of (filter test xs)) → (b : Bool) → RisesFrom None (map number_of (cond b (x ∷ filter test xs) (filter test xs)))
    by r true = r
    by r false = free x.0 (map number_of (filter test xs)) r
fewer test (Some m) (x ∷ xs) h = by (fewer test (Some x.0) xs h.1) (test x)
  where
    by : RisesFrom (Some x.0) (map number_of (filter test xs)) → (b : Bool) → RisesFrom (Some m) (map number_of (cond b (x ∷ filter test xs) (filter test xs)))
    by r true = (h.0, r)
    by r false = lower m x.0 (let k = h.0 in omega (arith, k)) (map number_of (filter test xs)) r

-- ---- the first configuration

abbrev server_at : ℕ → ServerId
server_at n = record { 0 = n + 1 }

first_rise : (n : ℕ) → ServersRise (map server_at (below n))
first_rise zero = tt
first_rise (suc n) =
    subst (λ l. RisesFrom None (map number_of l)) (sym (map-append server_at (below n) (n ∷ [])))
    (subst (RisesFrom None) (sym (map-append number_of (map server_at (below n)) (server_at n ∷ [])))
    (rises_more None (map number_of (map server_at (below n))) (n + 1) (first_rise n)
    (λ x i. let m = in-map number_of (map server_at (below n)) x i in let k = in-map server_at (below n) m.0 m.1 in
    let b = in-below n k.0 k.1 in let e : x ≡ k.0 + 1 = m.2 ∙ ap number_of k.2 in omega (arith, b, e))
    (λ m e. absurd (cc))))

-- ---- the steps of the coordinator

abbrev Rise : CoordinatorState → Type 0
Rise c = ServersRise c.config.servers

abbrev After : CoordinatorStep → Type 0
After step = Rise step.state

by-number : (c : CoordinatorState) → Rise c → (caller : Caller) (o : Option Newest) (new : CoordinatorStep) → After new → After (by_number c caller o new)
by-number c h caller None new k = k
by-number c h caller (Some n) new k =
    cond_both (ltb caller.number n.number) (resting c)
    (cond (eqb caller.number n.number) (again c caller n.answer) new) (λ (step : CoordinatorStep). After step)
    (λ t. h)
    (λ t. cond_both (eqb caller.number n.number) (again c caller n.answer) new (λ (step : CoordinatorStep). After step) (λ q. repeated n.answer) (λ q. k))
  where
    repeated : (o : Option Answer) → After (again c caller o)
    repeated None = h
    repeated (Some a) = h

stopping : (c : CoordinatorState) → Rise c → (caller : Caller) (s : ServerId) → After (stops c caller s)
stopping c h caller s =
    cond_both (server_in s c.config.servers) (telling (with_task c caller (Stop s)) (to_server a_message.Die s ∷ []))
    (telling (with_number c caller (Some (an_answer.Stopped c.config.epoch)))
    (outcome caller (an_answer.Stopped c.config.epoch) ∷ [])) (λ (step : CoordinatorStep). After step)
    (λ t. h)
    (λ t. h)

adding : (c : CoordinatorState) → Rise c → (caller : Caller) (s : ServerId) (g : RegionId) (o : Option Answer) → After (adds c caller s g o)
adding c h caller s g None = h
adding c h caller s g (Some a) = h

administered : (c : CoordinatorState) → Rise c → (from : Actor) (act : SessionId → CoordinatorStep)
    → ((u : SessionId) → After (act u)) → After (administers c from act)
administered c h Coordinator act k = h
administered c h (Server s) act k = h
administered c h (Session u) act k = k u

going : (c : CoordinatorState) → Rise c → (from : Actor) → After (gone_step c from)
going c h (Server s) =
    let next = config_without c.config s in
    cond_both (server_in s c.config.servers) (issue c next (stops_answered next s c.todo) (stops_left s c.todo)) (resting c) After
    (λ t. fewer (λ (x : ServerId). not (same_server x s)) None c.config.servers h)
    (λ t. h)
going c h other = h

readied : (c : CoordinatorState) → Rise c → (g : RegionId) (from : Actor) → After (ready_step c g from)
readied c h g (Server s) =
    cond_both (not (is_lost c.config g) && lists_joining c.config g s) (issue c (config_ready c.config s g) [] c.todo) (resting c) After (λ t. h) (λ t. h)
readied c h g other = h

polled : (c : CoordinatorState) → Rise c → (epoch : Epoch) (from : Actor) → After (poll_step c epoch from)
polled c h epoch from =
    cond_both (ltb epoch.0 c.config.epoch.0) (telling c (post Coordinator from (a_message.Install c.config) ∷ []))
    (resting c) (λ (step : CoordinatorStep). After step)
    (λ t. h)
    (λ t. h)

messages : (c : CoordinatorState) → Rise c → (from : Actor) (m : Message) → After (coordinator_message c from m)
messages c h from a_message.Gone = going c h from
messages c h from (a_message.StopServer number server) =
    administered c h from (stop_step c number server)
    (λ u. by-number c h (record { session = u; number = number }) (newest_of u c.newest)
    (stops c (record { session = u; number = number }) server)
    (stopping c h (record { session = u; number = number }) server))
messages c h from (a_message.AddReplica number server g) =
    let judgement = judged c.config server g in
    administered c h from (add_step c number server g)
    (
    λ u. let caller : Caller = record { session = u; number = number } in
    by-number c h caller (newest_of u c.newest) (adds c caller server g judgement) (adding c h caller server g judgement)
    )
messages c h from (a_message.Ready epoch g) = readied c h g from
messages c h from (a_message.Poll epoch) = polled c h epoch from
messages c h from other = h

steps : (c : CoordinatorState) → Rise c → (input : Input) → After (coordinator_step c input)
steps c h Tick = h
steps c h Halt = h
steps c h (Deliver id from m) = messages c h from m

-- the servers of the coordinator's configuration ascend after any entries
pub servers_rise : (script : Script) (trace : List Entry) → ServersRise (coordinator_of script trace).config.servers
servers_rise script [] = first_rise script.space.servers
servers_rise script (x ∷ older) = by (servers_rise script older) x.actor
  where
    by : Rise (coordinator_of script older) → (a : Actor) → Rise (coordinator_after a x.input (coordinator_of script older))
    by h Coordinator = steps (coordinator_of script older) h x.input
    by h (Server s) = h
    by h (Session u) = h

-- and those of the first
pub first_servers_rise : (space : Space) → ServersRise (first_config space).servers
first_servers_rise space = first_rise space.servers
