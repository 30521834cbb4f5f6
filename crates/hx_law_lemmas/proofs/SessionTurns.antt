-- What a session's step does to its calls in whatever configuration: a call may begin, and one may end; and what it posts.
use Rattle.hx_law_lemmas.proofs.Lemmas.Vocabulary.{Actor, Add, and_parts, Answer, ap, Bool, cond_both, Deliver, false, inl, Input, inr}
use Rattle.hx_law_lemmas.proofs.Lemmas.Vocabulary.{is_doubt, is_refused, is_write, IsIn, key_of, key_region, List, lost_answer, Message, no_version, None, Note}
use Rattle.hx_law_lemmas.proofs.Lemmas.Vocabulary.{numbered, Op, Option, Post, PostId, refl, RegionId, Search, Session, session_step, SessionState, SessionStep}
use Rattle.hx_law_lemmas.proofs.Lemmas.Vocabulary.{Some, Space, subst, sym, true, ⊤, ◌&&◌, ◌++◌, ◌+◌, ◌∙◌, ◌≡◌, ◌⊎◌}
use Rattle.hx_types.specs.declared.calls.Answer.TheVariants as an_answer
use Rattle.hx_types.specs.declared.messages.Message.TheVariants as a_message
use Rattle.hx_law_lemmas.proofs.CallEnds.{CallStop, administrative_no_key, began_notes, end_notes, goes_on, started}
use Rattle.hx_law_lemmas.proofs.SessionSteps.{AsksOf, EndsBy as Ends, Goes, IsCall, session-does}

-- what a session says of its call under way, and whether that is sent and goes on: it replies to nobody, and says nothing of updates and epochs
abbrev pub SaysOf : SessionState → Bool → Bool → Message → Type 0
SaysOf s sent way (a_message.Call epoch number op) = (number ≡ s.begun) × (s.under_way ≡ true)
    × (numbered s.calls s.begun ≡ Some op) × (sent ≡ true) × (way ≡ true)
SaysOf s sent way (a_message.Ask epoch number g terms) = ⊤
SaysOf s sent way (a_message.StopServer number server) = ⊤
SaysOf s sent way (a_message.AddReplica number server g) = (numbered s.calls s.begun ≡ Some (Add server g))
SaysOf s sent way (a_message.Poll epoch) = ⊤
SaysOf s sent way other = ⊥

-- the session posts this
abbrev pub Says : SessionState → Bool → Bool → Post → Type 0
Says s sent way p = (p.from ≡ Session s.id) × SaysOf s sent way p.message

-- how a call on a lost region ends: in doubt where it is a write that was sent, else refused
abbrev pub Lost : Bool → Op → Answer → Type 0
Lost sent op answer = ((is_doubt answer ≡ true) × (is_write op ≡ true)) ⊎ ((is_refused answer ≡ true) × (is_write op ≡ true → sent ≡ false))

-- a call ends by a reply to it, is no call on a key, or its region is lost
abbrev pub EndsBy : Input → SessionState → CallStop → Type 0
EndsBy input s e =
    ((id : PostId) × (from : Actor) × (input ≡ Deliver id from (a_message.Reply s.begun e.version e.answer)))
    ⊎ (((op : Op) × (numbered s.calls s.begun ≡ Some op) × (key_of op ≡ None))
    ⊎ ((op : Op) × (numbered s.calls s.begun ≡ Some op) × (e.version ≡ no_version) × Lost s.sent op e.answer))

-- the step keeps the session and its calls, and ends at most the call under way
pub record Turn (input : Input) (s : SessionState) (step : SessionStep) : Type 0 where
  pub id : step.state.id ≡ s.id
  pub calls : step.state.calls ≡ s.calls
  pub sent_kept : s.sent ≡ true → step.state.sent ≡ true
  pub begun : step.state.begun ≡ s.begun
  pub stop : Option CallStop
  pub notes : step.notes ≡ end_notes s.begun stop
  pub under_way : step.state.under_way ≡ goes_on stop s.under_way
  pub running : (e : CallStop) → stop ≡ Some e → s.under_way ≡ true
  pub cause : (e : CallStop) → stop ≡ Some e → EndsBy input s e
  pub says : (p : Post) → IsIn p step.posts → Says s step.state.sent step.state.under_way p

-- what is answered on a lost region
lost-is : (s : SessionState) (op : Op) (g : RegionId) → Lost s.sent op (lost_answer s op g)
lost-is s op g =
    cond_both (is_write op && s.sent) (an_answer.Doubt g s.config.epoch) (an_answer.Refused g s.config.epoch) (Lost s.sent op)
    (λ t. inl (refl, (and_parts (is_write op) s.sent t).0))
    (λ t. inr (refl, λ w. by s.sent (sym (ap (λ b. b && s.sent) w) ∙ t)))
  where
    by : (b : Bool) → b ≡ false → b ≡ false
    by b e = e

-- what a session asks is what it says
says-of : (s : SessionState) (sent way : Bool) (m : Message) → AsksOf s m → s.under_way ≡ true → (IsCall m → (sent ≡ true) × (way ≡ true)) → SaysOf s sent way m
says-of s sent way (a_message.Call epoch number op) h w c = (h.0, w, h.1, (c tt).0, (c tt).1)
says-of s sent way (a_message.Ask epoch number g terms) h w c = tt
says-of s sent way (a_message.StopServer number server) h w c = tt
says-of s sent way (a_message.AddReplica number server g) h w c = h.1
says-of s sent way (a_message.Poll epoch) h w c = tt
says-of s sent way other h w c = absurd h

-- each way to end is one of the three
ends-so : (space : Space) (input : Input) (s : SessionState) (e : CallStop) → Ends space input s e.version e.answer → EndsBy input s e
ends-so space input s e (inl r) = inl (r.id, r.from, r.input_is)
ends-so space input s e (inr (inl r)) = inr (inr (r.op, r.called, r.version, subst (Lost s.sent r.op) (sym r.answer) (lost-is s r.op (key_region space r.key))))
ends-so space input s e (inr (inr (inl r))) = inr (inl (Search r.terms, r.called, refl))
ends-so space input s e (inr (inr (inr (inl r)))) = inr (inl (Search r.terms, r.called, refl))
ends-so space input s e (inr (inr (inr (inr r)))) = inr (inl (r.op, r.called, administrative_no_key r.op r.administers))

-- a step that begins no call, as a turn
turn-of : (space : Space) (input : Input) (s : SessionState) (step : SessionStep) → Goes space input s step → Turn input s step
turn-of space input s step g = record {
  id = g.id;
  calls = g.calls;
  sent_kept = g.sent_kept;
  begun = g.begun;
  stop = g.stop;
  notes = g.notes;
  under_way = g.way;
  running = λ e q. (g.cause e q).0;
  cause = λ e q. ends-so space input s e (g.cause e q).1;
  says = λ p i. (let h = g.posts p i in (h.0, says-of s step.state.sent step.state.under_way p.message h.1 (g.running p i) (g.calling p i)));
}

-- a turn doesn't depend on the configuration and the parts of a search
of-others : (input : Input) (s t : SessionState) (step : SessionStep) → t ≡ record s { config = t.config; parts = t.parts } → Turn input t step
    → Turn input s step
of-others input s t step e turn = by (subst (λ (x : SessionState). Turn input x step) e turn)
  where
    by : Turn input (record s { config = t.config; parts = t.parts }) step → Turn input s step
    by u = record {
      id = u.id;
      calls = u.calls;
      sent_kept = u.sent_kept;
      begun = u.begun;
      stop = u.stop;
      notes = u.notes;
      under_way = u.under_way;
      running = u.running;
      cause = u.cause;
      says = u.says;
    }

-- a call may begin, then what was under way may end
pub record SessionTurn (input : Input) (s : SessionState) (step : SessionStep) : Type 0 where
  pub start : Bool
  pub fresh : start ≡ true → s.under_way ≡ false
  pub rest : List Note
  pub notes : step.notes ≡ began_notes start (s.begun + 1) ++ rest
  pub turn : Turn input (started start s) (record { state = step.state; posts = step.posts; notes = rest })

-- each step of a session
pub session_turn : (space : Space) (input : Input) (s : SessionState) → SessionTurn input s (session_step space s input)
session_turn space input s = let d = session-does space s input in record {
  start = d.start;
  fresh = d.idle;
  rest = d.rest;
  notes = d.notes;
  turn = of-others input (started d.start s) d.mid _ d.mid_is (turn-of space input d.mid _ d.goes);
}
