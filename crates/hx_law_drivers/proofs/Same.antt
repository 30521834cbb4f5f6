-- Two posts with their names are the same or not.
use Rattle.std.proofs.Common.{◌≡◌, ℕ, zero, suc, ◌⊎◌, inl, inr, List, Option, None, Some, ℤ, refl, ap, sym, ◌∙◌}
use Rattle.std.proofs.Math.Bool.{Bool-discrete}
use Rattle.std.proofs.Math.Decide.{ℕ_discrete}
use Rattle.std.proofs.Math.IntN.{ℤ_discrete}
use mathlib.Core.HLevel.{×_discrete, Discrete}
use mathlib.Core.List.{List-discrete}
use mathlib.Core.Sum as a_sum
use Rattle.hx_model.specs.Types.{Actor, Answer, Assign, Caller, Config, Coordinator, Edit, EditKind, Epoch, Kept, Mark, Member, Message, Op, Place, Post}
use Rattle.hx_model.specs.Types.{RegionId, Row, Server, ServerId, Session, SessionId, Term, Touch, Update, Value, Version}
use Rattle.hx_types.specs.declared.calls.Answer.TheVariants as an_answer
use Rattle.hx_types.specs.declared.calls.Op.TheVariants as an_op
use Rattle.hx_types.specs.declared.messages.Message.TheVariants as a_message
use Rattle.hx_types.specs.declared.values.EditKind.TheVariants as an_edit
use Rattle.hx_types.specs.declared.values.Term.TheVariants as a_term
use Rattle.hx_types.specs.declared.values.Value.TheVariants as a_value
use Rattle.hx_mail.specs.declared.views.Mailed.{Mailed}

-- values that can be read back from their codes are the same or not as the codes are
by_code : {A B : Type 0} (f : A → B) (g : B → A) → ((x : A) → g (f x) ≡ x) → Discrete B → Discrete A
by_code f g back d x y = by (d (f x) (f y))
  where
    by : Dec (f x ≡ f y) → Dec (x ≡ y)
    by (yes p) = yes (sym (back x) ∙ ap g p ∙ back y)
    by (no n) = no (λ e. n (ap f e))

either : {A B : Type 0} → Discrete A → Discrete B → Discrete (A ⊎ B)
either d e = a_sum.discrete d e

both : {A B : Type 0} → Discrete A → Discrete B → Discrete (A × B)
both d e = ×_discrete d e

listed : {A : Type 0} → Discrete A → Discrete (List A)
listed d = List-discrete d

optional : {A : Type 0} → Discrete A → Discrete (Option A)
optional d None None = yes refl
optional d None (Some y) = no (λ e. cc)
optional d (Some x) None = no (λ e. cc)
optional d (Some x) (Some y) = by (d x y)
  where
    by : Dec (x ≡ y) → Dec (Some x ≡ Some y)
    by (yes p) = yes (ap Some p)
    by (no n) = no (λ e. n (cc))

-- ---- names
server : Discrete ServerId
server = by_code (λ x. x.0) (λ n. record { 0 = n }) (λ x. refl) ℕ_discrete

region : Discrete RegionId
region = by_code (λ x. x.0) (λ n. record { 0 = n }) (λ x. refl) ℕ_discrete

session : Discrete SessionId
session = by_code (λ x. x.0) (λ n. record { 0 = n }) (λ x. refl) ℕ_discrete

epoch : Discrete Epoch
epoch = by_code (λ x. x.0) (λ n. record { 0 = n }) (λ x. refl) ℕ_discrete

version : Discrete Version
version = by_code (λ x. x.0) (λ n. record { 0 = n }) (λ x. refl) ℕ_discrete

text : Discrete (List ℕ)
text = listed ℕ_discrete

-- ---- actors and values; the code of a variant is its place among the variants, with what it holds
abbrev ActorCode : Type 0
ActorCode = ℕ ⊎ (ServerId ⊎ SessionId)

abbrev actor_code : Actor → ActorCode
actor_code Coordinator = inl 0
actor_code (Server s) = inr (inl s)
actor_code (Session u) = inr (inr u)

abbrev actor_of : ActorCode → Actor
actor_of (inl n) = Coordinator
actor_of (inr (inl s)) = Server s
actor_of (inr (inr u)) = Session u

actor_back : (x : Actor) → actor_of (actor_code x) ≡ x
actor_back Coordinator = refl
actor_back (Server s) = refl
actor_back (Session u) = refl

actor : Discrete Actor
actor = by_code actor_code actor_of actor_back (either ℕ_discrete (either server session))

abbrev ValueCode : Type 0
ValueCode = List ℕ ⊎ ℤ

abbrev value_code : Value → ValueCode
value_code (a_value.Text t) = inl t
value_code (a_value.Int n) = inr n

abbrev value_of : ValueCode → Value
value_of (inl t) = a_value.Text t
value_of (inr n) = a_value.Int n

value_back : (x : Value) → value_of (value_code x) ≡ x
value_back (a_value.Text t) = refl
value_back (a_value.Int n) = refl

value : Discrete Value
value = by_code value_code value_of value_back (either text ℤ_discrete)

assign : Discrete Assign
assign = by_code (λ (x : Assign). (x.attribute, x.value)) (λ t. record { attribute = t.0; value = t.1 }) (λ x. refl) (both ℕ_discrete value)

abbrev TermCode : Type 0
TermCode = (ℕ × Value) ⊎ (ℕ × (ℤ × ℤ))

abbrev term_code : Term → TermCode
term_code (a_term.Equal i v) = inl (i, v)
term_code (a_term.Range i lo hi) = inr (i, (lo, hi))

abbrev term_of : TermCode → Term
term_of (inl t) = a_term.Equal t.0 t.1
term_of (inr t) = a_term.Range t.0 t.1.0 t.1.1

term_back : (x : Term) → term_of (term_code x) ≡ x
term_back (a_term.Equal i v) = refl
term_back (a_term.Range i lo hi) = refl

term : Discrete Term
term = by_code term_code term_of term_back (either (both ℕ_discrete value) (both ℕ_discrete (both ℤ_discrete ℤ_discrete)))

-- the code of a kind of edits is its place among them
abbrev kind_code : EditKind → ℕ
kind_code an_edit.Add = 0
kind_code an_edit.Append = 1
kind_code an_edit.Min = 2
kind_code an_edit.Max = 3

abbrev kind_of : ℕ → EditKind
kind_of zero = an_edit.Add
kind_of (suc zero) = an_edit.Append
kind_of (suc (suc zero)) = an_edit.Min
kind_of (suc (suc (suc n))) = an_edit.Max

kind_back : (x : EditKind) → kind_of (kind_code x) ≡ x
kind_back an_edit.Add = refl
kind_back other = refl

kind : Discrete EditKind
kind = by_code kind_code kind_of kind_back ℕ_discrete

edit : Discrete Edit
edit = by_code (λ (x : Edit). (x.what, (x.attribute, x.value)))
    (λ t. record { what = t.0; attribute = t.1.0; value = t.1.1 }) (λ x. refl) (both kind (both ℕ_discrete value))

object : Discrete (List Value)
object = listed value

row : Discrete Row
row = by_code (λ (x : Row). (x.key, (x.version, x.object)))
    (λ t. record { key = t.0; version = t.1.0; object = t.1.1 }) (λ x. refl) (both text (both version object))

-- ---- calls, updates, configurations and snapshots
abbrev OpCode : Type 0
OpCode = (List ℕ × List Assign) ⊎ (List ℕ ⊎ (List ℕ
    ⊎ ((List ℕ × (List Assign × List Assign)) ⊎ (List Term ⊎ (ServerId ⊎ ((ServerId × RegionId) ⊎ (List ℕ × List Edit)))))))

abbrev op_code : Op → OpCode
op_code (an_op.Put k sets) = inl (k, sets)
op_code (an_op.Get k) = inr (inl k)
op_code (an_op.Del k) = inr (inr (inl k))
op_code (an_op.Cput k tests sets) = inr (inr (inr (inl (k, (tests, sets)))))
op_code (an_op.Search ts) = inr (inr (inr (inr (inl ts))))
op_code (an_op.Stop s) = inr (inr (inr (inr (inr (inl s)))))
op_code (an_op.Add s g) = inr (inr (inr (inr (inr (inr (inl (s, g)))))))
op_code (an_op.Atomic k edits) = inr (inr (inr (inr (inr (inr (inr (k, edits)))))))

abbrev op_of : OpCode → Op
op_of (inl t) = an_op.Put t.0 t.1
op_of (inr (inl k)) = an_op.Get k
op_of (inr (inr (inl k))) = an_op.Del k
op_of (inr (inr (inr (inl t)))) = an_op.Cput t.0 t.1.0 t.1.1
op_of (inr (inr (inr (inr (inl ts))))) = an_op.Search ts
op_of (inr (inr (inr (inr (inr (inl s)))))) = an_op.Stop s
op_of (inr (inr (inr (inr (inr (inr (inl t))))))) = an_op.Add t.0 t.1
op_of (inr (inr (inr (inr (inr (inr (inr t))))))) = an_op.Atomic t.0 t.1

op_back : (x : Op) → op_of (op_code x) ≡ x
op_back (an_op.Put k sets) = refl
op_back other = refl

op : Discrete Op
op = by_code op_code op_of op_back (either (both text (listed assign))
    (either text (either text (either (both text (both (listed assign) (listed assign)))
    (either (listed term) (either server (either (both server region) (both text (listed edit)))))))))

abbrev AnswerCode : Type 0
AnswerCode = ℕ ⊎ (ℕ ⊎ (ℕ ⊎ (List Value ⊎ (List Row ⊎ ((RegionId × Epoch) ⊎ ((RegionId × Epoch) ⊎ (Epoch ⊎ (Epoch ⊎ (Epoch ⊎ (Epoch ⊎ (Epoch ⊎ (ℕ ⊎ ℕ))))))))))))

abbrev answer_code : Answer → AnswerCode
answer_code an_answer.Done = inl 0
answer_code an_answer.NotFound = inr (inl 0)
answer_code an_answer.CmpFail = inr (inr (inl 0))
answer_code (an_answer.Found o) = inr (inr (inr (inl o)))
answer_code (an_answer.Rows rows) = inr (inr (inr (inr (inl rows))))
answer_code (an_answer.Refused g e) = inr (inr (inr (inr (inr (inl (g, e))))))
answer_code (an_answer.Doubt g e) = inr (inr (inr (inr (inr (inr (inl (g, e)))))))
answer_code (an_answer.Issued e) = inr (inr (inr (inr (inr (inr (inr (inl e)))))))
answer_code (an_answer.Stopped e) = inr (inr (inr (inr (inr (inr (inr (inr (inl e))))))))
answer_code (an_answer.Member e) = inr (inr (inr (inr (inr (inr (inr (inr (inr (inl e)))))))))
answer_code (an_answer.Joining e) = inr (inr (inr (inr (inr (inr (inr (inr (inr (inr (inl e))))))))))
answer_code (an_answer.Lost e) = inr (inr (inr (inr (inr (inr (inr (inr (inr (inr (inr (inl e)))))))))))
answer_code an_answer.Overflow = inr (inr (inr (inr (inr (inr (inr (inr (inr (inr (inr (inr (inl 0))))))))))))
answer_code an_answer.TooLong = inr (inr (inr (inr (inr (inr (inr (inr (inr (inr (inr (inr (inr 0))))))))))))

abbrev answer_of : AnswerCode → Answer
answer_of (inl n) = an_answer.Done
answer_of (inr (inl n)) = an_answer.NotFound
answer_of (inr (inr (inl n))) = an_answer.CmpFail
answer_of (inr (inr (inr (inl o)))) = an_answer.Found o
answer_of (inr (inr (inr (inr (inl rows))))) = an_answer.Rows rows
answer_of (inr (inr (inr (inr (inr (inl t)))))) = an_answer.Refused t.0 t.1
answer_of (inr (inr (inr (inr (inr (inr (inl t))))))) = an_answer.Doubt t.0 t.1
answer_of (inr (inr (inr (inr (inr (inr (inr (inl e)))))))) = an_answer.Issued e
answer_of (inr (inr (inr (inr (inr (inr (inr (inr (inl e))))))))) = an_answer.Stopped e
answer_of (inr (inr (inr (inr (inr (inr (inr (inr (inr (inl e)))))))))) = an_answer.Member e
answer_of (inr (inr (inr (inr (inr (inr (inr (inr (inr (inr (inl e))))))))))) = an_answer.Joining e
answer_of (inr (inr (inr (inr (inr (inr (inr (inr (inr (inr (inr (inl e)))))))))))) = an_answer.Lost e
answer_of (inr (inr (inr (inr (inr (inr (inr (inr (inr (inr (inr (inr (inl n))))))))))))) = an_answer.Overflow
answer_of (inr (inr (inr (inr (inr (inr (inr (inr (inr (inr (inr (inr (inr n))))))))))))) = an_answer.TooLong

answer_back : (x : Answer) → answer_of (answer_code x) ≡ x
answer_back an_answer.Done = refl
answer_back other = refl

answer : Discrete Answer
answer = by_code answer_code answer_of answer_back
    (either ℕ_discrete (either ℕ_discrete (either ℕ_discrete
    (either object (either (listed row) (either (both region epoch)
    (either (both region epoch) (either epoch (either epoch
    (either epoch (either epoch (either epoch (either ℕ_discrete ℕ_discrete)))))))))))))

caller : Discrete Caller
caller = by_code (λ (x : Caller). (x.session, x.number)) (λ t. record { session = t.0; number = t.1 }) (λ x. refl) (both session ℕ_discrete)

place : Discrete Place
place = by_code (λ (x : Place). (x.region, (x.after, x.keeps)))
    (λ t. record { region = t.0; after = t.1.0; keeps = t.1.1 }) (λ x. refl) (both region (both version Bool-discrete))

update : Discrete Update
update = by_code (λ (x : Update). (x.key, (x.version, (x.caller, (x.answer, (x.changes, (x.object, x.places)))))))
    (λ t. record {
      key = t.0;
      version = t.1.0;
      caller = t.1.1.0;
      answer = t.1.1.1.0;
      changes = t.1.1.1.1.0;
      object = t.1.1.1.1.1.0;
      places = t.1.1.1.1.1.1;
    }) (λ x. refl)
    (both text (both version (both caller (both answer (both Bool-discrete (both (optional object) (listed place)))))))

member : Discrete Member
member = by_code (λ (x : Member). (x.server, x.ready)) (λ t. record { server = t.0; ready = t.1 }) (λ x. refl) (both server Bool-discrete)

config : Discrete Config
config = by_code (λ (x : Config). (x.epoch, (x.servers, x.regions)))
    (λ t. record { epoch = t.0; servers = t.1.0; regions = t.1.1 }) (λ x. refl)
    (both epoch (both (listed server) (listed (listed member))))

mark : Discrete Mark
mark = by_code (λ (x : Mark). (x.session, (x.number, (x.version, x.answer))))
    (λ t. record { session = t.0; number = t.1.0; version = t.1.1.0; answer = t.1.1.1 }) (λ x. refl)
    (both session (both ℕ_discrete (both version answer)))

touch : Discrete Touch
touch = by_code (λ (x : Touch). (x.region, x.version)) (λ t. record { region = t.0; version = t.1 }) (λ x. refl) (both region version)

kept : Discrete Kept
kept = by_code (λ (x : Kept). (x.key, (x.floor, (x.object, (x.marks, x.touches)))))
    (λ t. record { key = t.0; floor = t.1.0; object = t.1.1.0; marks = t.1.1.1.0; touches = t.1.1.1.1 }) (λ x. refl)
    (both text (both version (both (optional row) (both (listed mark) (listed touch)))))

-- ---- messages and posts
abbrev MessageCode : Type 0
MessageCode = (Epoch × (ℕ × Op)) ⊎ ((ℕ × (Version × Answer))
    ⊎ ((Epoch × (RegionId × Update)) ⊎ ((Epoch × (RegionId × (List ℕ × (Version × RegionId))))
    ⊎ ((Epoch × (ℕ × (RegionId × List Term))) ⊎ ((Epoch × (ℕ × (RegionId × List Row)))
    ⊎ (Epoch ⊎ (Epoch ⊎ (Config ⊎ (ℕ ⊎ (ℕ ⊎ ((ℕ × ServerId)
    ⊎ ((ℕ × (ServerId × RegionId)) ⊎ ((ℕ × Answer)
    ⊎ ((Epoch × (RegionId × (List Kept × List Update))) ⊎ ((Epoch × RegionId) ⊎ Epoch)))))))))))))))

abbrev message_code : Message → MessageCode
message_code (a_message.Call e n o) = inl (e, (n, o))
message_code (a_message.Reply n v a) = inr (inl (n, (v, a)))
message_code (a_message.Update e g u) = inr (inr (inl (e, (g, u))))
message_code (a_message.Ack e g b k v) = inr (inr (inr (inl (e, (g, (k, (v, b)))))))
message_code (a_message.Ask e n g ts) = inr (inr (inr (inr (inl (e, (n, (g, ts)))))))
message_code (a_message.Found e n g rows) = inr (inr (inr (inr (inr (inl (e, (n, (g, rows))))))))
message_code (a_message.Seal e) = inr (inr (inr (inr (inr (inr (inl e))))))
message_code (a_message.Sealed e) = inr (inr (inr (inr (inr (inr (inr (inl e)))))))
message_code (a_message.Install c) = inr (inr (inr (inr (inr (inr (inr (inr (inl c))))))))
message_code a_message.Die = inr (inr (inr (inr (inr (inr (inr (inr (inr (inl 0)))))))))
message_code a_message.Gone = inr (inr (inr (inr (inr (inr (inr (inr (inr (inr (inl 0))))))))))
message_code (a_message.StopServer n s) = inr (inr (inr (inr (inr (inr (inr (inr (inr (inr (inr (inl (n, s))))))))))))
message_code (a_message.AddReplica n s g) = inr (inr (inr (inr (inr (inr (inr (inr (inr (inr (inr (inr (inl (n, (s, g))))))))))))))
message_code (a_message.Outcome n a) = inr (inr (inr (inr (inr (inr (inr (inr (inr (inr (inr (inr (inr (inl (n, a))))))))))))))
message_code (a_message.Snap e g ks us) = inr (inr (inr (inr (inr (inr (inr (inr (inr (inr (inr (inr (inr (inr (inl (e, (g, (ks, us)))))))))))))))))
message_code (a_message.Ready e g) = inr (inr (inr (inr (inr (inr (inr (inr (inr (inr (inr (inr (inr (inr (inr (inl (e, g))))))))))))))))
message_code (a_message.Poll e) = inr (inr (inr (inr (inr (inr (inr (inr (inr (inr (inr (inr (inr (inr (inr (inr e)))))))))))))))

abbrev message_of : MessageCode → Message
message_of (inl t) = a_message.Call t.0 t.1.0 t.1.1
message_of (inr (inl t)) = a_message.Reply t.0 t.1.0 t.1.1
message_of (inr (inr (inl t))) = a_message.Update t.0 t.1.0 t.1.1
message_of (inr (inr (inr (inl t)))) = a_message.Ack t.0 t.1.0 t.1.1.1.1 t.1.1.0 t.1.1.1.0
message_of (inr (inr (inr (inr (inl t))))) = a_message.Ask t.0 t.1.0 t.1.1.0 t.1.1.1
message_of (inr (inr (inr (inr (inr (inl t)))))) = a_message.Found t.0 t.1.0 t.1.1.0 t.1.1.1
message_of (inr (inr (inr (inr (inr (inr (inl e))))))) = a_message.Seal e
message_of (inr (inr (inr (inr (inr (inr (inr (inl e)))))))) = a_message.Sealed e
message_of (inr (inr (inr (inr (inr (inr (inr (inr (inl c))))))))) = a_message.Install c
message_of (inr (inr (inr (inr (inr (inr (inr (inr (inr (inl n)))))))))) = a_message.Die
message_of (inr (inr (inr (inr (inr (inr (inr (inr (inr (inr (inl n))))))))))) = a_message.Gone
message_of (inr (inr (inr (inr (inr (inr (inr (inr (inr (inr (inr (inl t)))))))))))) = a_message.StopServer t.0 t.1
message_of (inr (inr (inr (inr (inr (inr (inr (inr (inr (inr (inr (inr (inl t))))))))))))) = a_message.AddReplica t.0 t.1.0 t.1.1
message_of (inr (inr (inr (inr (inr (inr (inr (inr (inr (inr (inr (inr (inr (inl t)))))))))))))) = a_message.Outcome t.0 t.1
message_of (inr (inr (inr (inr (inr (inr (inr (inr (inr (inr (inr (inr (inr (inr (inl t))))))))))))))) = a_message.Snap t.0 t.1.0 t.1.1.0 t.1.1.1
message_of (inr (inr (inr (inr (inr (inr (inr (inr (inr (inr (inr (inr (inr (inr (inr (inl t)))))))))))))))) = a_message.Ready t.0 t.1
message_of (inr (inr (inr (inr (inr (inr (inr (inr (inr (inr (inr (inr (inr (inr (inr (inr e)))))))))))))))) = a_message.Poll e

message_back : (x : Message) → message_of (message_code x) ≡ x
message_back (a_message.Call e n o) = refl
message_back other = refl

message : Discrete Message
message = by_code message_code message_of message_back
    (either (both epoch (both ℕ_discrete op)) (either (both ℕ_discrete (both version answer))
    (either (both epoch (both region update)) (either (both epoch (both region (both text (both version region))))
    (either (both epoch (both ℕ_discrete (both region (listed term))))
    (either (both epoch (both ℕ_discrete (both region (listed row))))
    (either epoch (either epoch (either config (either ℕ_discrete
    (either ℕ_discrete (either (both ℕ_discrete server)
    (either (both ℕ_discrete (both server region))
    (either (both ℕ_discrete answer) (either (both epoch (both region (both (listed kept) (listed update))))
    (either (both epoch region) epoch))))))))))))))))

post : Discrete Post
post = by_code (λ (x : Post). (x.from, (x.to, x.message))) (λ t. record { from = t.0; to = t.1.0; message = t.1.1 })
    (λ x. refl) (both actor (both actor message))

pub mailed : Discrete Mailed
mailed = by_code (λ (m : Mailed). (m.id.entry, (m.id.place, m.post)))
    (λ t. record { id = record { entry = t.0; place = t.1.0 }; post = t.1.1 }) (λ m. refl)
    (both ℕ_discrete (both ℕ_discrete post))
