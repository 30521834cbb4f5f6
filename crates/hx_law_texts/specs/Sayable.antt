-- What the script language can say. The limits of a script (`IsScript`) tell nothing of the bytes of its texts, of the
-- size of its numbers and of its steps, and a definition may have any there.
use Rattle.std.specs.Prelude.{ℕ, ◌^◌, ◌<◌, ◌≤◌, List, length, FitsSigned, ⊤}
use Rattle.std.specs.List.{All}
use Rattle.std.specs.Int.{w64}
use Rattle.hx_types.specs.declared.calls.Op.{Op}
use Rattle.hx_types.specs.declared.calls.Op.TheVariants.{Put, Get, Del, Cput, Search, Stop, Add, Atomic}
use Rattle.hx_types.specs.declared.messages.PostId.{PostId}
use Rattle.hx_types.specs.declared.ids.Actor.{Actor}
use Rattle.hx_types.specs.declared.ids.Actor.TheVariants.{Coordinator, Server, Session}
use Rattle.hx_types.specs.declared.spaces.Attribute.{Attribute}
use Rattle.hx_types.specs.declared.spaces.Kind.{Kind}
use Rattle.hx_types.specs.declared.spaces.Kind.TheVariants as a_kind
use Rattle.hx_types.specs.declared.traces.Script.{Script}
use Rattle.hx_types.specs.declared.traces.Step.{Step}
use Rattle.hx_types.specs.declared.traces.Step.TheVariants as a_step
use Rattle.hx_types.specs.declared.values.Assign.{Assign}
use Rattle.hx_types.specs.declared.values.Edit.{Edit}
use Rattle.hx_types.specs.declared.values.Term.{Term}
use Rattle.hx_types.specs.declared.values.Term.TheVariants.{Equal, Range}
use Rattle.hx_types.specs.declared.values.Value.{Value}
use Rattle.hx_types.specs.declared.values.Value.TheVariants as a_value
use Rattle.hx_lex.specs.Spelling.{IsText}

-- a text that is UTF-8 with no control character but newline and tab, or a number of 64 bits
abbrev pub IsSayable : Value → Type 0
IsSayable (a_value.Text bytes) = IsText bytes
IsSayable (a_value.Int n) = FitsSigned w64 n

abbrev pub BoundsAreSayable : Kind → Type 0
BoundsAreSayable a_kind.Text = ⊤
BoundsAreSayable (a_kind.Int lo hi) = FitsSigned w64 lo × FitsSigned w64 hi

abbrev pub ValuesAreSayable : List Assign → Type 0
ValuesAreSayable assigns = All (λ (a : Assign). IsSayable a.value) assigns

abbrev pub EditsAreSayable : List Edit → Type 0
EditsAreSayable edits = All (λ (e : Edit). IsSayable e.value) edits

abbrev pub TermIsSayable : Term → Type 0
TermIsSayable (Equal attribute value) = IsSayable value
TermIsSayable (Range attribute lo hi) = FitsSigned w64 lo × FitsSigned w64 hi

abbrev pub CallIsSayable : Op → Type 0
CallIsSayable (Put key sets) = IsText key × ValuesAreSayable sets
CallIsSayable (Get key) = IsText key
CallIsSayable (Del key) = IsText key
CallIsSayable (Cput key tests sets) = IsText key × ValuesAreSayable tests × ValuesAreSayable sets
CallIsSayable (Search terms) = All TermIsSayable terms
CallIsSayable (Stop server) = ⊤
CallIsSayable (Add server region) = ⊤
CallIsSayable (Atomic key edits) = IsText key × EditsAreSayable edits

-- a number from 1 to most
abbrev pub IsUpTo : ℕ → ℕ → Type 0
IsUpTo most n = (0 < n) × (n ≤ most)

-- the coordinator, or one of so many servers and sessions
abbrev pub IsActorOf : ℕ → ℕ → Actor → Type 0
IsActorOf servers sessions Coordinator = ⊤
IsActorOf servers sessions (Server s) = IsUpTo servers s.0
IsActorOf servers sessions (Session u) = IsUpTo sessions u.0

-- the entry of a post is said by a number, and its place is of 32 bits
pub record IsPostName (id : PostId) : Type 0 where
  pub entry : id.entry < 2 ^ 63
  pub place : id.place < 2 ^ 32

abbrev pub StepIsSayable : ℕ → ℕ → Step → Type 0
StepIsSayable servers sessions (a_step.Deliver id) = IsPostName id
StepIsSayable servers sessions (a_step.Tick a) = IsActorOf servers sessions a
StepIsSayable servers sessions (a_step.Halt a) = IsActorOf servers sessions a

-- a script whose texts, numbers and steps can be said
pub record IsSayableScript (s : Script) : Type 0 where
  pub bounds : All (λ (a : Attribute). BoundsAreSayable a.kind) s.space.attributes
  pub calls : All (λ (calls : List Op). All CallIsSayable calls) s.sessions
  pub steps : All (λ (x : ℕ × Step). StepIsSayable s.space.servers (length s.sessions) x.1) s.steps
