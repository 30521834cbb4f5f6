-- The step of the coordinator, case by case: it rests, tells something, answers a call, or issues another configuration.
use Rattle.hx_types.specs.declared.calls.Answer.TheVariants as an_answer
use Rattle.hx_types.specs.declared.messages.Message.TheVariants as a_message
use Rattle.hx_law_lemmas.proofs.Lemmas.Vocabulary.{[], Actor, adds, again, and_parts, Answer, by_number, Caller, cond_both, config_ready, config_with}
use Rattle.hx_law_lemmas.proofs.Lemmas.Vocabulary.{config_without, Coordinator, coordinator_message, coordinator_step, coordinator_tick, CoordinatorState}
use Rattle.hx_law_lemmas.proofs.Lemmas.Vocabulary.{CoordinatorStep, Deliver, Epoch, eqb, eqb-true, false, Halt, Input, is_lost, IsIn, issue, judged}
use Rattle.hx_law_lemmas.proofs.Lemmas.Vocabulary.{lists_joining, ltb, Message, Newest, newest_of, None, not, not-true, Option, outcome, post, PostId, refl}
use Rattle.hx_law_lemmas.proofs.Lemmas.Vocabulary.{RegionId, resting, Server, server_in, ServerId, Session, SessionId, Some, Stop, stops, stops_answered}
use Rattle.hx_law_lemmas.proofs.Lemmas.Vocabulary.{stops_left, sym, telling, Tick, to_server, with_number, with_task, ℕ, ◌&&◌, ◌∷◌, ◌≡◌}
use Rattle.hx_law_lemmas.proofs.Newest.{newest-in}

-- a call of a session
abbrev pub call_by : SessionId → ℕ → Caller
call_by u number = record { session = u; number = number }

-- what is asked of each case
pub record CoordinatorCases (c : CoordinatorState) (input : Input) (P : CoordinatorStep → Type 0) : Type 0 where
  pub rests : P (resting c)
  pub ticks : P (coordinator_tick c)
  pub polled : (id : PostId) (from : Actor) (epoch : Epoch) → input ≡ Deliver id from (a_message.Poll epoch)
      → P (telling c (post Coordinator from (a_message.Install c.config) ∷ []))
  pub gone : (id : PostId) (s : ServerId) → input ≡ Deliver id (Server s) a_message.Gone
      → P (issue c (config_without c.config s) (stops_answered (config_without c.config s) s c.todo) (stops_left s c.todo))
  pub ready : (id : PostId) (s : ServerId) (epoch : Epoch) (g : RegionId) → input ≡ Deliver id (Server s) (a_message.Ready epoch g) → is_lost c.config g ≡ false
      → P (issue c (config_ready c.config s g) [] c.todo)
  pub told : (id : PostId) (u : SessionId) (number : ℕ) (m : Message) (n : Newest) (answer : Answer) → input ≡ Deliver id (Session u) m
      → IsIn n c.newest → n.session ≡ u → n.number ≡ number → n.answer ≡ Some answer → P (telling c (outcome (call_by u number) answer ∷ []))
  pub dies : (id : PostId) (u : SessionId) (number : ℕ) (s : ServerId) → input ≡ Deliver id (Session u) (a_message.StopServer number s)
      → P (telling (with_task c (call_by u number) (Stop s)) (to_server a_message.Die s ∷ []))
  pub stopped : (id : PostId) (u : SessionId) (number : ℕ) (s : ServerId) → input ≡ Deliver id (Session u) (a_message.StopServer number s)
      → server_in s c.config.servers ≡ false
      → P (telling (with_number c (call_by u number) (Some (an_answer.Stopped c.config.epoch)))
      (outcome (call_by u number) (an_answer.Stopped c.config.epoch) ∷ []))
  pub refused : (id : PostId) (u : SessionId) (number : ℕ) (s : ServerId) (g : RegionId) (answer : Answer)
      → input ≡ Deliver id (Session u) (a_message.AddReplica number s g)
      → judged c.config s g ≡ Some answer → P (telling (with_number c (call_by u number) (Some answer)) (outcome (call_by u number) answer ∷ []))
  pub joined : (id : PostId) (u : SessionId) (number : ℕ) (s : ServerId) (g : RegionId) → input ≡ Deliver id (Session u) (a_message.AddReplica number s g)
      → judged c.config s g ≡ None
      → P (issue (with_number c (call_by u number) None) (config_with c.config s g)
      (record { caller = call_by u number; answer = an_answer.Issued (config_with c.config s g).epoch } ∷ []) c.todo)

-- a call by its number: an old one is dropped, the newest is answered again, a higher one is new
by-number : (c : CoordinatorState) (P : CoordinatorStep → Type 0) (id : PostId) (u : SessionId) (number : ℕ) (m : Message)
    → CoordinatorCases c (Deliver id (Session u) m) P
    → (new : CoordinatorStep) → P new → P (by_number c (call_by u number) (newest_of u c.newest) new)
by-number c P id u number m k new p = by (newest_of u c.newest) refl
  where
    told : (n : Newest) → IsIn n c.newest → n.session ≡ u → n.number ≡ number → (o : Option Answer) → n.answer ≡ o → P (again c (call_by u number) o)
    told n i s q None e = k.rests
    told n i s q (Some a) e = k.told id u number m n a refl i s q e

    by : (o : Option Newest) → newest_of u c.newest ≡ o → P (by_number c (call_by u number) o new)
    by None e = p
    by (Some n) e =
        let r = newest-in u c.newest n e in
        cond_both (ltb number n.number) (resting c) _ P (λ t. k.rests)
        (λ t. cond_both (eqb number n.number) (again c (call_by u number) n.answer) new P
        (λ q. told n r.0 r.1 (sym (eqb-true number n.number q)) n.answer refl) (λ q. p))

-- so it is of each step
pub coordinator-cases : (c : CoordinatorState) (input : Input) (P : CoordinatorStep → Type 0) → CoordinatorCases c input P → P (coordinator_step c input)
coordinator-cases c Tick P k = k.ticks
coordinator-cases c Halt P k = k.rests
coordinator-cases c (Deliver id from m) P k = by from m k
  where
    adds-so : (u : SessionId) (number : ℕ) (s : ServerId) (g : RegionId) → CoordinatorCases c (Deliver id (Session u) (a_message.AddReplica number s g)) P
        → (o : Option Answer) → judged c.config s g ≡ o → P (adds c (call_by u number) s g o)
    adds-so u number s g k (Some answer) e = k.refused id u number s g answer refl e
    adds-so u number s g k None e = k.joined id u number s g refl e

    by : (from : Actor) (m : Message) → CoordinatorCases c (Deliver id from m) P → P (coordinator_message c from m)
    by (Server s) a_message.Gone k = cond_both (server_in s c.config.servers) _ (resting c) P (λ t. k.gone id s refl) (λ t. k.rests)
    by (Server s) (a_message.Ready epoch g) k =
        cond_both (not (is_lost c.config g) && lists_joining c.config g s) _ (resting c) P
        (λ t. k.ready id s epoch g refl (not-true (is_lost c.config g) (and_parts (not (is_lost c.config g)) (lists_joining c.config g s) t).0))
        (λ t. k.rests)
    by (Session u) (a_message.StopServer number s) k =
        by-number c P id u number (a_message.StopServer number s) k (stops c (call_by u number) s)
        (cond_both (server_in s c.config.servers) _ _ P (λ t. k.dies id u number s refl) (λ t. k.stopped id u number s refl t))
    by (Session u) (a_message.AddReplica number s g) k =
        by-number c P id u number (a_message.AddReplica number s g) k
        (adds c (call_by u number) s g (judged c.config s g)) (adds-so u number s g k (judged c.config s g) refl)
    by from (a_message.Poll epoch) k = cond_both (ltb epoch.0 c.config.epoch.0) _ (resting c) P (λ t. k.polled id from epoch refl) (λ t. k.rests)
    by from other k = k.rests
