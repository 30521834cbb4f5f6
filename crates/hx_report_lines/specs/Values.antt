-- Which values a report has: those that a text of lines can tell.
use Rattle.std.specs.Prelude.{◌≡◌, ◌≢◌, ℕ, ◌<◌, ◌^◌, Bool, true, false, not, ◌&&◌, ◌||◌, ◌⊎◌, List, [], ◌∷◌, ◌++◌, map}
use Rattle.std.specs.Prelude.{length, codes, nat_lt, ◌==◌, is_some, Option, None, Some, ⊤}
use Rattle.std.specs.List.{All}
use Rattle.std.specs.Str.{IsUtf8}
use Rattle.hx_model.specs.Types.{Answer, Attribute, Caller, Row, ServerId, Space, Value, Version}
use Rattle.hx_types.specs.declared.calls.Answer.TheVariants as an_answer
use Rattle.hx_types.specs.Fitting.{is_doubt}
use Rattle.hx_types.specs.Spaces.{Fits, IsAnswerOf, IsMaybeObjectOf, IsRegionOf, IsServerOf, IsSpace, KeyFits}
use Rattle.hx_types.specs.Words.{text_below, when_some}
use Rattle.hx_lex.specs.Spelling.{IsText}
use Rattle.hx_law_texts.specs.Sayable.{BoundsAreSayable, CallIsSayable, IsSayable}
use Rattle.hx_report_lines.specs.declared.blocks.Block.{Block}
use Rattle.hx_report_lines.specs.declared.blocks.DriverLine.{DriverLine}
use Rattle.hx_report_lines.specs.declared.calls.CallLine.{CallLine}
use Rattle.hx_report_lines.specs.declared.epochs.EpochLine.{EpochLine}
use Rattle.hx_report_lines.specs.declared.histories.HistoryLines.{HistoryLines}
use Rattle.hx_report_lines.specs.declared.histories.ItemLine.{ItemLine}

-- a report as contracts see it
pub record ReportValue : Type 0 where
  pub version : ℕ
  pub blocks : List Block

-- ---- order

abbrev pub is_after : {A : Type 0} → (A → A → Bool) → Option A → A → Bool
is_after below None x = true
is_after below (Some last) x = below last x

-- each stands above the one before it, and the first above the last of those before
abbrev pub AscendsFrom : {A : Type 0} → (A → A → Bool) → Option A → List A → Type 0
AscendsFrom below last [] = ⊤
AscendsFrom below last (x ∷ rest) = (is_after below last x ≡ true) × AscendsFrom below (Some x) rest

-- each stands above the one before it
abbrev pub Ascends : {A : Type 0} → (A → A → Bool) → List A → Type 0
Ascends below xs = AscendsFrom below None xs

-- by session, and within one by number
abbrev pub caller_below : Caller → Caller → Bool
caller_below a b = nat_lt a.session.0 b.session.0 || ((a.session.0 == b.session.0) && nat_lt a.number b.number)

-- ---- numbers and texts

abbrev pub Is32 : ℕ → Type 0
Is32 n = n < 2 ^ 32

abbrev pub Is64 : ℕ → Type 0
Is64 n = n < 2 ^ 64

-- sessions and their calls are numbered from 1
pub record IsCaller (c : Caller) : Type 0 where
  pub session : (0 < c.session.0) × Is32 c.session.0
  pub number : (0 < c.number) × Is32 c.number

abbrev pub ObjectIsSayable : List Value → Type 0
ObjectIsSayable object = All IsSayable object

-- ---- calls

-- a call that has no answer or is in doubt has no end
abbrev pub has_end : Option Answer → Bool
has_end answer = when_some answer false (λ (a : Answer). not (is_doubt a))

-- the answers that stand with a version
abbrev pub names_version : Answer → Bool
names_version an_answer.Done = true
names_version an_answer.NotFound = true
names_version an_answer.CmpFail = true
names_version an_answer.Overflow = true
names_version an_answer.TooLong = true
names_version (an_answer.Found object) = true
names_version other = false

pub record RowIsSayable (r : Row) : Type 0 where
  pub key : IsText r.key
  pub version : Is64 r.version.0
  pub object : ObjectIsSayable r.object

abbrev pub AnswerIsSayable : Answer → Type 0
AnswerIsSayable an_answer.Done = ⊤
AnswerIsSayable an_answer.NotFound = ⊤
AnswerIsSayable an_answer.CmpFail = ⊤
AnswerIsSayable an_answer.Overflow = ⊤
AnswerIsSayable an_answer.TooLong = ⊤
AnswerIsSayable (an_answer.Found object) = ObjectIsSayable object
AnswerIsSayable (an_answer.Rows rows) = Is64 (length rows) × All RowIsSayable rows
AnswerIsSayable (an_answer.Refused region epoch) = Is64 epoch.0
AnswerIsSayable (an_answer.Doubt region epoch) = Is64 epoch.0
AnswerIsSayable (an_answer.Issued epoch) = Is64 epoch.0
AnswerIsSayable (an_answer.Stopped epoch) = Is64 epoch.0
AnswerIsSayable (an_answer.Member epoch) = Is64 epoch.0
AnswerIsSayable (an_answer.Joining epoch) = Is64 epoch.0
AnswerIsSayable (an_answer.Lost epoch) = Is64 epoch.0

abbrev pub MaybeAnswerOf : Space → Option Answer → Type 0
MaybeAnswerOf space None = ⊤
MaybeAnswerOf space (Some answer) = IsAnswerOf space answer × AnswerIsSayable answer

-- an entry of 64 bits, where there is one
abbrev pub MaybeIs64 : Option ℕ → Type 0
MaybeIs64 None = ⊤
MaybeIs64 (Some n) = Is64 n

abbrev pub VersionBy : Bool → Version → Type 0
VersionBy true version = Is64 version.0
VersionBy false version = version.0 ≡ 0

-- the version of an answer that names none is 0
abbrev pub VersionFits : Option Answer → Version → Type 0
VersionFits answer version = VersionBy (when_some answer false names_version) version

pub record IsCallOf (space : Space) (c : CallLine) : Type 0 where
  pub caller : IsCaller c.caller
  pub begin : Is64 c.begin
  pub end : MaybeIs64 c.end
  pub ended : is_some c.end ≡ has_end c.answer
  pub op : Fits space c.op
  pub said : CallIsSayable c.op
  pub version : VersionFits c.answer c.version
  pub answer : MaybeAnswerOf space c.answer

-- ---- histories

abbrev pub MaybeObjectIsSayable : Option (List Value) → Type 0
MaybeObjectIsSayable None = ⊤
MaybeObjectIsSayable (Some object) = ObjectIsSayable object

pub record IsItemOf (space : Space) (x : ItemLine) : Type 0 where
  pub version : Is64 x.version.0
  pub caller : IsCaller x.caller
  pub object : IsMaybeObjectOf space x.object
  pub said : MaybeObjectIsSayable x.object

pub record IsHistoryOf (space : Space) (h : HistoryLines) : Type 0 where
  pub key : KeyFits h.key
  pub said : IsText h.key
  pub some : h.items ≢ []
  pub items : All (IsItemOf space) h.items

-- ---- configurations, lines of the trace, drivers

-- its servers ascend; which regions are lost, and in which order they are named, is free
pub record IsEpochOf (space : Space) (e : EpochLine) : Type 0 where
  pub epoch : Is64 e.epoch.0
  pub servers : All (IsServerOf space) e.servers
  pub ascend : Ascends nat_lt (map (λ (s : ServerId). s.0) e.servers)
  pub lost : All (IsRegionOf space) e.lost

abbrev pub BeginsWith : List ℕ → List ℕ → Type 0
BeginsWith front line = (rest : List ℕ) × (line ≡ front ++ rest)

pub record IsRawLine (line : List ℕ) : Type 0 where
  pub begins : BeginsWith (codes "entry ") line ⊎ BeginsWith (codes "post ") line
  pub one_line : All (λ b. b ≢ 10) line
  pub utf8 : IsUtf8 line

pub record IsDriverLine (d : DriverLine) : Type 0 where
  pub driver : Is32 d.driver
  pub posts : Is64 d.totals.posts
  pub deliver : Is64 d.totals.deliver
  pub lose : Is64 d.totals.lose
  pub twice : Is64 d.totals.twice

-- ---- blocks and reports

-- a space that the language can say
pub record IsSpaceValue (space : Space) : Type 0 where
  pub valid : IsSpace space
  pub bounds : All (λ (a : Attribute). BoundsAreSayable a.kind) space.attributes

-- all is of the block's space; calls ascend by caller, histories by key, configurations by epoch
pub record IsBlock (b : Block) : Type 0 where
  pub space : IsSpaceValue b.space
  pub calls : All (IsCallOf b.space) b.calls
  pub calls_ascend : Ascends caller_below (map (λ (c : CallLine). c.caller) b.calls)
  pub histories : All (IsHistoryOf b.space) b.histories
  pub histories_ascend : Ascends text_below (map (λ (h : HistoryLines). h.key) b.histories)
  pub epochs : All (IsEpochOf b.space) b.epochs
  pub epochs_ascend : Ascends nat_lt (map (λ (e : EpochLine). e.epoch.0) b.epochs)
  pub raw : All IsRawLine b.raw
  pub drivers : All IsDriverLine b.drivers

-- so many blocks as a version may have
abbrev pub HasBlocks : ℕ → List Block → Type 0
HasBlocks version blocks = ((version ≡ 1) × (length blocks ≡ 1)) ⊎ ((version ≡ 2) × (0 < length blocks))

-- the report of version 1 has one block, one of version 2 one or more
pub record IsReportValue (r : ReportValue) : Type 0 where
  pub count : HasBlocks r.version r.blocks
  pub blocks : All IsBlock r.blocks
