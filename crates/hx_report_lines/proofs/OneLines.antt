-- What is printed in a block has no newline but those at the ends of lines.
use Rattle.std.proofs.Common.{ℕ, ◌+◌, ◌<◌, ◌≤◌, List, [], ◌∷◌, ◌++◌, map, length, Option, None, Some, refl, arith}
use Rattle.std.specs.Prelude.{codes}
use Rattle.std.specs.Fmt.{decimal}
use Rattle.std.specs.List.{All, flat_map}
use Rattle.std.proofs.lemmas.List.Elements.{All-head, All-tail}
use Rattle.hx_lex.specs.Spelling.{IsText}
use Rattle.hx_model.specs.Types.{Answer, Attribute, Caller, RegionId, Row, ServerId, Space, Value, Version}
use Rattle.hx_types.specs.declared.calls.Answer.TheVariants as an_answer
use Rattle.hx_types.specs.declared.limits.TheConstants.{MOST_REGIONS}
use Rattle.hx_types.specs.Spaces.{IsKind, IsName, IsSpace}
use Rattle.hx_types.specs.Subspaces.{region_count}
use Rattle.hx_law_texts.specs.Sayable.{IsSayable}
use Rattle.hx_law_texts.proofs.Lemmas.{IsClean, both_clean}
use Rattle.hx_print.specs.Printing.{caller_text, named_text, next_number_text, numbers_text, op_text, quoted}
use Rattle.hx_report.specs.Driving.{totals_text}
use Rattle.hx_report.specs.Reporting.{end_text, object_text, state_text, version_text}
use Rattle.hx_report.specs.Tracing.{field_text}
use Rattle.hx_report_lines.specs.declared.blocks.DriverLine.{DriverLine}
use Rattle.hx_report_lines.specs.declared.calls.CallLine.{CallLine}
use Rattle.hx_report_lines.specs.declared.epochs.EpochLine.{EpochLine}
use Rattle.hx_report_lines.specs.declared.histories.ItemLine.{ItemLine}
use Rattle.hx_report_lines.specs.declared.histories.ItemWord.{ItemWord}
use Rattle.hx_report_lines.specs.declared.histories.ItemWord.TheVariants as words
use Rattle.hx_report_lines.specs.Printed.{called_text, item_head, lost_text, servers_text, span_text, word_text}
use Rattle.hx_report_lines.specs.Values.{Is32, Is64, IsCaller, IsCallOf, IsDriverLine, IsEpochOf, IsItemOf}
use Rattle.hx_report_lines.specs.Values.{MaybeAnswerOf, MaybeIs64, MaybeObjectIsSayable, ObjectIsSayable, VersionFits}
use Rattle.hx_report_lines.proofs.CallsRead.{IsRow}
use Rattle.hx_report_lines.proofs.CallsTaken.{answer_line, call_front, row_front}
use Rattle.hx_report_lines.proofs.DraftsRead.{IsOneLine}
use Rattle.hx_report_lines.proofs.EpochsTaken.{epoch_front, few_regions, few_servers}
use Rattle.hx_report_lines.proofs.LinesTaken.{driver_front, item_line, key_line}
use Rattle.hx_report_lines.proofs.Scans.{decimal_runs, name_runs, named_runs, one_line_of, op_runs, quoted_runs}
use Rattle.hx_report_lines.proofs.Takes.{wide}

-- ---- parts

number_clean : (n : ℕ) → Is64 n → IsClean (decimal n)
number_clean n small = (decimal_runs n small).clean

-- a word, and a number behind it
labeled : (w : List ℕ) (n : ℕ) → IsClean w → Is64 n → IsClean (w ++ decimal n)
labeled w n h small = both_clean w (decimal n) h (number_clean n small)

object_clean : (declared : List Attribute) (object : List Value)
    → All (λ (a : Attribute). IsName a.name × IsKind a.kind) declared → ObjectIsSayable object
    → IsClean (object_text declared object)
unfolding object_text
object_clean [] object names said = refl
object_clean (a ∷ more) [] names said = refl
object_clean (a ∷ more) (v ∷ object) names said =
    both_clean (named_text a.name v) (object_text more object)
    (named_runs a.name v (name_runs a.name (All-head
    (λ (a : Attribute). IsName a.name × IsKind a.kind) a more names).0) (All-head IsSayable v object said)).clean
    (object_clean more object (All-tail (λ (a : Attribute). IsName a.name × IsKind a.kind) a more names) (All-tail IsSayable v object said))

caller_clean : (c : Caller) → IsCaller c → IsClean (caller_text c)
unfolding caller_text
caller_clean c is = labeled (codes "u" ++ decimal c.session.0 ++ codes ".") c.number
    (both_clean (codes "u" ++ decimal c.session.0) (codes ".")
    (labeled (codes "u") c.session.0 refl (wide c.session.0 is.session.1)) refl) (wide c.number is.number.1)

version_clean : (w : List ℕ) (version : Version) → IsClean w → Is64 version.0 → IsClean (version_text w version)
unfolding version_text
version_clean w version h small = labeled (w ++ codes " version ") version.0 (both_clean w (codes " version ") h refl) small

state_clean : (space : Space) (o : Option (List Value)) → IsSpace space → MaybeObjectIsSayable o → IsClean (state_text space o)
unfolding state_text
state_clean space None valid said = refl
state_clean space (Some object) valid said = both_clean (codes "present") (object_text space.attributes object) refl
    (object_clean space.attributes object valid.names said)

-- ---- calls and rows

end_clean : (end : Option ℕ) → MaybeIs64 end → IsClean (end_text end)
unfolding end_text
end_clean None is = refl
end_clean (Some n) is = number_clean n is

span_clean : (c : CallLine) → IsCaller c.caller → Is64 c.begin → MaybeIs64 c.end → IsClean (span_text c)
unfolding span_text
span_clean c caller begin end =
    let t : List ℕ = codes "call " ++ caller_text c.caller in
    let u : List ℕ = t ++ codes " begin " ++ decimal c.begin in
    both_clean (u ++ codes " end ") (end_text c.end)
    (both_clean u (codes " end ") (labeled (t ++ codes " begin ") c.begin
    (both_clean t (codes " begin ") (both_clean (codes "call ") (caller_text c.caller) refl (caller_clean c.caller caller)) refl) begin) refl)
    (end_clean c.end end)

called_clean : (space : Space) (c : CallLine) → IsSpace space → IsCallOf space c → IsClean (called_text space c)
unfolding called_text
called_clean space c valid is =
    let t : List ℕ = span_text c ++ codes " " in
    both_clean (t ++ op_text space c.op) (codes " -> ")
    (both_clean t (op_text space c.op) (both_clean (span_text c) (codes " ")
    (span_clean c is.caller is.begin is.end) refl) (op_runs space c.op valid is.op is.said).clean) refl

small_region : (most n : ℕ) → most ≤ MOST_REGIONS → n < most → Is64 n
small_region most n few below = omega (arith, few, below)

region_clean : (space : Space) (w : List ℕ) (n m : ℕ) → IsSpace space → IsClean w → n < region_count space → Is64 m
    → IsClean (w ++ codes " region " ++ decimal n ++ codes " epoch " ++ decimal m)
region_clean space w n m valid h below m64 =
    let t : List ℕ = w ++ codes " region " ++ decimal n in
    labeled (t ++ codes " epoch ") m (both_clean t (codes " epoch ")
    (labeled (w ++ codes " region ") n (both_clean w (codes " region ") h refl)
    (small_region (region_count space) n valid.regions below)) refl) m64

epoch_clean : (w : List ℕ) (n : ℕ) → IsClean w → Is64 n → IsClean (w ++ codes " epoch " ++ decimal n)
epoch_clean w n h small = labeled (w ++ codes " epoch ") n (both_clean w (codes " epoch ") h refl) small

answer_clean : (space : Space) (version : Version) (answer : Option Answer) → IsSpace space
    → VersionFits answer version → MaybeAnswerOf space answer → IsClean (answer_line space version answer)
unfolding answer_line
answer_clean space version None valid fits of = refl
answer_clean space version (Some an_answer.Done) valid fits of = version_clean (codes "done") version refl fits
answer_clean space version (Some an_answer.NotFound) valid fits of = version_clean (codes "notfound") version refl fits
answer_clean space version (Some an_answer.CmpFail) valid fits of = version_clean (codes "cmpfail") version refl fits
answer_clean space version (Some an_answer.Overflow) valid fits of = version_clean (codes "overflow") version refl fits
answer_clean space version (Some an_answer.TooLong) valid fits of = version_clean (codes "toolong") version refl fits
answer_clean space version (Some (an_answer.Found object)) valid fits of =
    both_clean (version_text (codes "found") version) (object_text space.attributes object)
    (version_clean (codes "found") version refl fits) (object_clean space.attributes object valid.names of.1)
answer_clean space version (Some (an_answer.Rows rows)) valid fits of = labeled (codes "rows ") (length rows) refl of.1.0
answer_clean space version (Some (an_answer.Refused region epoch)) valid fits of = region_clean space (codes "refused") region.0 epoch.0 valid refl of.0 of.1
answer_clean space version (Some (an_answer.Doubt region epoch)) valid fits of = region_clean space (codes "doubt") region.0 epoch.0 valid refl of.0 of.1
answer_clean space version (Some (an_answer.Issued epoch)) valid fits of = epoch_clean (codes "issued") epoch.0 refl of.1
answer_clean space version (Some (an_answer.Stopped epoch)) valid fits of = epoch_clean (codes "stopped") epoch.0 refl of.1
answer_clean space version (Some (an_answer.Member epoch)) valid fits of = epoch_clean (codes "member") epoch.0 refl of.1
answer_clean space version (Some (an_answer.Joining epoch)) valid fits of = epoch_clean (codes "joining") epoch.0 refl of.1
answer_clean space version (Some (an_answer.Lost epoch)) valid fits of = epoch_clean (codes "lost") epoch.0 refl of.1

pub call_one : (space : Space) (c : CallLine) → IsSpace space → IsCallOf space c → IsOneLine (call_front space c)
call_one space c valid is =
    one_line_of (call_front space c) (both_clean (called_text space c) (answer_line space c.version c.answer)
    (called_clean space c valid is) (answer_clean space c.version c.answer valid is.version is.answer))

pub row_one : (space : Space) (r : Row) → IsSpace space → IsRow space r → IsOneLine (row_front space r)
row_one space r valid is =
    let t : List ℕ = codes "row " ++ quoted r.key in
    one_line_of (row_front space r)
    (both_clean (t ++ version_text [] r.version) (object_text space.attributes r.object)
    (both_clean t (version_text [] r.version) (both_clean (codes "row ") (quoted r.key) refl
    (quoted_runs r.key is.said.key).clean) (version_clean [] r.version refl is.said.version))
    (object_clean space.attributes r.object valid.names is.said.object))

-- ---- histories

word_clean : (w : ItemWord) → IsClean (word_text w)
word_clean words.Done = refl
word_clean words.NotFound = refl
word_clean words.CmpFail = refl
word_clean words.Found = refl
word_clean words.Overflow = refl
word_clean words.TooLong = refl

front_clean : (space : Space) (x : ItemLine) → IsItemOf space x → IsClean (item_head x)
unfolding item_head
front_clean space x is =
    let t : List ℕ = codes "item " ++ decimal x.version.0 in
    let u : List ℕ = t ++ codes " " ++ caller_text x.caller in
    let w : List ℕ = u ++ codes " " ++ word_text x.word in
    both_clean w (codes " ")
    (both_clean (u ++ codes " ") (word_text x.word)
    (both_clean u (codes " ") (both_clean (t ++ codes " ") (caller_text x.caller)
    (both_clean t (codes " ") (labeled (codes "item ") x.version.0 refl is.version) refl)
    (caller_clean x.caller is.caller)) refl) (word_clean x.word))
    refl

pub item_one : (space : Space) (x : ItemLine) → IsSpace space → IsItemOf space x → IsOneLine (item_line space x)
item_one space x valid is = one_line_of (item_line space x)
    (both_clean (item_head x) (state_text space x.object) (front_clean space x is) (state_clean space x.object valid is.said))

pub key_one : (key : List ℕ) → IsText key → IsOneLine (key_line key)
key_one key is = one_line_of (key_line key) (both_clean (codes "history ") (quoted key) refl (quoted_runs key is).clean)

-- ---- configurations and drivers

next_clean : (ns : List ℕ) → All Is32 ns → IsClean (flat_map next_number_text ns)
unfolding next_number_text
next_clean [] all = refl
next_clean (n ∷ ns) all = both_clean (codes "," ++ decimal n) (flat_map next_number_text ns)
    (labeled (codes ",") n refl (wide n (All-head Is32 n ns all))) (next_clean ns (All-tail Is32 n ns all))

numbers_clean : (ns : List ℕ) → All Is32 ns → IsClean (numbers_text ns)
unfolding numbers_text
numbers_clean [] all = refl
numbers_clean (n ∷ ns) all = both_clean (decimal n) (flat_map next_number_text ns)
    (number_clean n (wide n (All-head Is32 n ns all))) (next_clean ns (All-tail Is32 n ns all))

pub epoch_one : (space : Space) (e : EpochLine) → IsSpace space → IsEpochOf space e → IsOneLine (epoch_front e)
unfolding servers_text lost_text
epoch_one space e valid is =
    let ss : List ℕ = numbers_text (map (λ (s : ServerId). s.0) e.servers) in
    let gs : List ℕ = numbers_text (map (λ (g : RegionId). g.0) e.lost) in
    let t : List ℕ = codes "epoch " ++ decimal e.epoch.0 in
    one_line_of (epoch_front e)
    (both_clean (t ++ (codes " servers " ++ ss)) (codes " lost " ++ gs)
    (both_clean t (codes " servers " ++ ss) (labeled (codes "epoch ") e.epoch.0 refl is.epoch)
    (both_clean (codes " servers ") ss refl (numbers_clean (map (λ (s : ServerId). s.0) e.servers)
    (few_servers space e.servers valid is.servers))))
    (both_clean (codes " lost ") gs refl (numbers_clean (map (λ (g : RegionId). g.0) e.lost) (few_regions space e.lost valid is.lost))))

field_clean : (name : List ℕ) (n : ℕ) → IsClean name → Is64 n → IsClean (field_text name n)
unfolding field_text
field_clean name n h small = labeled (codes " " ++ name ++ codes " ") n
    (both_clean (codes " " ++ name) (codes " ") (both_clean (codes " ") name refl h) refl) small

totals_clean : (d : DriverLine) → IsDriverLine d → IsClean (totals_text d.totals)
unfolding totals_text
totals_clean d is =
    let a : List ℕ = field_text (codes "posts") d.totals.posts in
    let b : List ℕ = field_text (codes "deliver") d.totals.deliver in
    let c : List ℕ = field_text (codes "lose") d.totals.lose in
    let e : List ℕ = field_text (codes "twice") d.totals.twice in
    both_clean (a ++ b ++ c) e (both_clean (a ++ b) c
    (both_clean a b (field_clean (codes "posts") d.totals.posts refl is.posts)
    (field_clean (codes "deliver") d.totals.deliver refl is.deliver)) (field_clean (codes "lose") d.totals.lose refl is.lose))
    (field_clean (codes "twice") d.totals.twice refl is.twice)

pub driver_one : (d : DriverLine) → IsDriverLine d → IsOneLine (driver_front d)
driver_one d is = one_line_of (driver_front d) (both_clean (codes "driver " ++ decimal d.driver)
    (totals_text d.totals) (labeled (codes "driver ") d.driver refl (wide d.driver is.driver)) (totals_clean d is))
