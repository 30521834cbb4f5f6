-- The lines of calls, histories, configurations, traces and drivers are as many as are counted, and each is that of one thing.
use Rattle.std.proofs.Common.{◌≡◌, ◌≢◌, ℕ, ◌<◌, ◌≤◌, List, [], ◌∷◌, ◌++◌, map, length, Option, None, Some, refl, sym, ap, subst}
use Rattle.std.proofs.Common.{◌∙◌, arith}
use Rattle.std.specs.Prelude.{codes}
use Rattle.std.specs.Fmt.{decimal}
use Rattle.std.specs.List.{All, flat_map}
use Rattle.std.proofs.lemmas.List.{append_assoc, append-nil}
use Rattle.std.proofs.lemmas.List.Elements.{All-append, All-cons, All-head, All-nil, All-tail}
use Rattle.hx_model.specs.Types.{Answer, Epoch, RegionId, Row, Space, Value, Version}
use Rattle.hx_types.specs.declared.calls.Answer.TheVariants as an_answer
use Rattle.hx_types.specs.declared.limits.TheConstants.{MOST_REGIONS}
use Rattle.hx_types.specs.Spaces.{IsMaybeObjectOf, IsSpace}
use Rattle.hx_types.specs.Subspaces.{region_count}
use Rattle.hx_types.specs.Words.{when_some}
use Rattle.hx_model.specs.Searching.{rows_in}
use Rattle.hx_report.specs.Driving.{driver_line}
use Rattle.hx_report.specs.Reporting.{answer_lines, found_line, in_epoch_line, maybe_answer_lines, object_text, region_line}
use Rattle.hx_report.specs.Reporting.{row_line, rows_lines, state_text, version_line, version_text}
use Rattle.hx_report_lines.specs.declared.blocks.DriverLine.{DriverLine}
use Rattle.hx_report_lines.specs.declared.call_lines.CallHead.{CallHead}
use Rattle.hx_report_lines.specs.declared.calls.CallLine.{CallLine}
use Rattle.hx_report_lines.specs.declared.epochs.EpochLine.{EpochLine}
use Rattle.hx_report_lines.specs.declared.histories.HistoryLines.{HistoryLines}
use Rattle.hx_report_lines.specs.declared.histories.ItemLine.{ItemLine}
use Rattle.hx_report_lines.specs.declared.histories.ItemWord.TheVariants as words
use Rattle.hx_report_lines.specs.Calling.{head_lines, head_text}
use Rattle.hx_report_lines.specs.Printed.{call_text, called_text, driver_text, epoch_text, history_text, item_head}
use Rattle.hx_report_lines.specs.Printed.{item_text, key_text, raw_text}
use Rattle.hx_report_lines.specs.Values.{Is64, IsCallOf, IsDriverLine, IsEpochOf, IsHistoryOf, IsItemOf, IsRawLine, MaybeAnswerOf}
use Rattle.hx_report_lines.specs.Values.{ObjectIsSayable, VersionFits}
use Rattle.hx_report_lines.proofs.Lemmas.{IsOneLine, IsRow, call_one, decimal_runs, driver_front, driver_one, epoch_front, epoch_one}
use Rattle.hx_report_lines.proofs.Lemmas.{item_line, item_one, key_line, key_one, one_line_of, row_front, row_one, with_newline}
use Rattle.hx_audit.specs.Told.{rows_told}
use Rattle.hx_audit.specs.Verdicts.{OfCall, OfHistory, Piece}
use Rattle.hx_law_audit.specs.Lines.{piece_text, things_of}
use Rattle.hx_law_audit.proofs.TextLines.{AreLines, HasLines, both_lines, each_lines, has_one, one_line}

-- ---- configurations, traces and drivers

pub epoch_has : (space : Space) (e : EpochLine) → IsSpace space → IsEpochOf space e → HasLines 1 (epoch_text e)
unfolding epoch_text
epoch_has space e valid is = has_one (epoch_front e) (epoch_text e) refl (epoch_one space e valid is)

pub raw_has : (line : List ℕ) → IsRawLine line → HasLines 1 (raw_text line)
unfolding raw_text
raw_has line is = has_one line (raw_text line) refl is.one_line

pub driver_has : (d : DriverLine) → IsDriverLine d → HasLines 1 (driver_text d)
unfolding driver_line
driver_has d is = has_one (driver_front d) (driver_text d) refl (driver_one d is)

-- ---- pieces

-- the things of a piece are these lines with their newlines
pub record IsTold (space : Space) (piece : Piece) : Type 0 where
  pub fronts : List (List ℕ)
  pub are : AreLines fronts (piece_text space piece)
  pub things : things_of space piece ≡ map with_newline fronts

fronts_of : {A : Type 0} (f line : A → List ℕ) → ((x : A) → f x ≡ with_newline (line x)) → (xs : List A)
    → map f xs ≡ map with_newline (map line xs)
fronts_of f line same [] = refl
fronts_of f line same (x ∷ xs) = ap (λ t. t ∷ map f xs) (same x) ∙ ap (λ ts. with_newline (line x) ∷ ts) (fronts_of f line same xs)

-- ---- histories

item_cut : (space : Space) (x : ItemLine) → item_text space x ≡ with_newline (item_line space x)
unfolding item_text
item_cut space x = refl

key_cut : (key : List ℕ) → key_text key ≡ with_newline (key_line key)
unfolding key_text
key_cut key = refl

history_is : (space : Space) (h : HistoryLines) → key_text h.key ++ flat_map (item_text space) h.items ≡ history_text space h
unfolding history_text
history_is space h = refl

pub history_told : (space : Space) (h : HistoryLines) → IsSpace space → IsHistoryOf space h → IsTold space (OfHistory h)
history_told space h valid is =
    let first = one_line (key_line h.key) (key_text h.key) (key_cut h.key) (key_one h.key is.said) in
    let items = each_lines (item_text space) (item_line space) (IsItemOf space)
    (λ x i. one_line (item_line space x) (item_text space x) (item_cut space x) (item_one space x valid i)) h.items is.items in
    record {
      fronts = key_line h.key ∷ map (item_line space) h.items;
      are = subst (AreLines (key_line h.key ∷ map (item_line space) h.items)) (history_is space h)
          (both_lines (key_line h.key ∷ []) (map (item_line space) h.items) (key_text h.key) (flat_map (item_text space) h.items) first items);
      things = ap (λ t. t ∷ map (item_text space) h.items) (key_cut h.key)
          ∙ ap (λ ts. with_newline (key_line h.key) ∷ ts) (fronts_of (item_text space) (item_line space) (item_cut space) h.items);
    }

-- ---- calls

row_cut : (space : Space) (r : Row) → row_line space r ≡ with_newline (row_front space r)
unfolding row_line
row_cut space r = refl

-- the rows of an answer
abbrev answer_rows : Option Answer → List Row
answer_rows answer = when_some answer [] (λ (a : Answer). when_some (rows_in a) [] (λ (rows : List Row). rows))

rows_are : (space : Space) (answer : Option Answer) → MaybeAnswerOf space answer → All (IsRow space) (answer_rows answer)
rows_are space (Some (an_answer.Rows rows)) of = λ k d lt. record { of = of.0 k d lt; said = of.1.1 k d lt }
rows_are space other of = All-nil (IsRow space)

abbrev NoNewline : ℕ → Type 0
NoNewline b = b ≢ 10

all_left : (xs ys : List ℕ) → IsOneLine (xs ++ ys) → IsOneLine xs
all_left [] ys all = All-nil NoNewline
all_left (x ∷ xs) ys all = All-cons NoNewline x xs (All-head NoNewline x (xs ++ ys) all) (all_left xs ys (All-tail NoNewline x (xs ++ ys) all))

all_right : (xs ys : List ℕ) → IsOneLine (xs ++ ys) → IsOneLine ys
all_right [] ys all = all
all_right (x ∷ xs) ys all = all_right xs ys (All-tail NoNewline x (xs ++ ys) all)

both_one : (a b : List ℕ) → IsOneLine a → IsOneLine b → IsOneLine (a ++ b)
both_one a b x y = All-append NoNewline a b x y

-- a word, and a number behind it
number_one : (w : List ℕ) (n : ℕ) → IsOneLine w → Is64 n → IsOneLine (w ++ decimal n)
number_one w n one small = both_one w (decimal n) one (one_line_of (decimal n) (decimal_runs n small).clean)

-- a word, a label and a number
labeled_one : (w label : List ℕ) (n : ℕ) → IsOneLine w → IsOneLine label → Is64 n → IsOneLine (w ++ label ++ decimal n)
labeled_one w label n one label_one small = number_one (w ++ label) n (both_one w label one label_one) small

version_one : (w : List ℕ) (version : Version) → IsOneLine w → Is64 version.0 → IsOneLine (version_text w version)
unfolding version_text
version_one w version one small = labeled_one w (codes " version ") version.0 one (one_line_of (codes " version ") refl) small

epoch_in : (w : List ℕ) (n : ℕ) → IsOneLine w → Is64 n → IsOneLine (w ++ codes " epoch " ++ decimal n)
epoch_in w n one small = labeled_one w (codes " epoch ") n one (one_line_of (codes " epoch ") refl) small

few_regions : (most n : ℕ) → most ≤ MOST_REGIONS → n < most → Is64 n
few_regions most n few below = omega (arith, few, below)

region_one : (space : Space) (w : List ℕ) (n m : ℕ) → IsSpace space → IsOneLine w → n < region_count space → Is64 m
    → IsOneLine (w ++ codes " region " ++ decimal n ++ codes " epoch " ++ decimal m)
region_one space w n m valid one below small =
    epoch_in (w ++ codes " region " ++ decimal n) m
    (labeled_one w (codes " region ") n one (one_line_of (codes " region ") refl) (few_regions (region_count space) n valid.regions below)) small

-- an object is printed on one line, since one that an item leaves is
object_one : (space : Space) (object : List Value) → IsSpace space → IsMaybeObjectOf space (Some object) → ObjectIsSayable object
    → IsOneLine (object_text space.attributes object)
unfolding state_text
object_one space object valid of said =
    let x : ItemLine = record {
      version = record { 0 = 1 };
      caller = record { session = record { 0 = 1 }; number = 1 };
      word = words.Found;
      object = Some object;
    } in
    let is : IsItemOf space x = record {
      version = omega arith;
      caller = record { session = (omega arith, omega arith); number = (omega arith, omega arith) };
      object = of;
      said = said;
    } in
    all_right (codes "present") (object_text space.attributes object)
    (all_right (item_head x) (codes "present" ++ object_text space.attributes object) (item_one space x valid is))

-- the text is one line and its newline
record IsLineText (text : List ℕ) : Type 0 where
  front : List ℕ
  cut : text ≡ with_newline front
  one : IsOneLine front

version_is : (w : List ℕ) (version : Version) → IsOneLine w → Is64 version.0 → IsLineText (version_line w version)
unfolding version_line
version_is w version one small = record { front = version_text w version; cut = refl; one = version_one w version one small }

region_is : (space : Space) (w : List ℕ) (region : RegionId) (epoch : Epoch) → IsSpace space → IsOneLine w
    → region.0 < region_count space → Is64 epoch.0 → IsLineText (region_line w region epoch)
unfolding region_line
region_is space w region epoch valid one below small = record {
  front = w ++ codes " region " ++ decimal region.0 ++ codes " epoch " ++ decimal epoch.0;
  cut = refl;
  one = region_one space w region.0 epoch.0 valid one below small;
}

epoch_is : (w : List ℕ) (epoch : Epoch) → IsOneLine w → Is64 epoch.0 → IsLineText (in_epoch_line w epoch)
unfolding in_epoch_line
epoch_is w epoch one small = record { front = w ++ codes " epoch " ++ decimal epoch.0; cut = refl; one = epoch_in w epoch.0 one small }

found_is : (space : Space) (version : Version) (object : List Value) → IsSpace space → Is64 version.0
    → IsMaybeObjectOf space (Some object) → ObjectIsSayable object → IsLineText (found_line space version object)
unfolding found_line
found_is space version object valid small of said = record {
  front = version_text (codes "found") version ++ object_text space.attributes object;
  cut = refl;
  one = both_one (version_text (codes "found") version) (object_text space.attributes object)
      (version_one (codes "found") version (one_line_of (codes "found") refl) small) (object_one space object valid of said);
}

-- the first line of an answer
head_line : (space : Space) (version : Version) (answer : Option Answer) → IsSpace space → VersionFits answer version
    → MaybeAnswerOf space answer → IsLineText (head_lines space version answer (length (answer_rows answer)))
unfolding answer_lines maybe_answer_lines
head_line space version None valid fits of = record { front = codes "open"; cut = refl; one = one_line_of (codes "open") refl }
head_line space version (Some an_answer.Done) valid fits of = version_is (codes "done") version (one_line_of (codes "done") refl) fits
head_line space version (Some an_answer.NotFound) valid fits of = version_is (codes "notfound") version (one_line_of (codes "notfound") refl) fits
head_line space version (Some an_answer.CmpFail) valid fits of = version_is (codes "cmpfail") version (one_line_of (codes "cmpfail") refl) fits
head_line space version (Some an_answer.Overflow) valid fits of = version_is (codes "overflow") version (one_line_of (codes "overflow") refl) fits
head_line space version (Some an_answer.TooLong) valid fits of = version_is (codes "toolong") version (one_line_of (codes "toolong") refl) fits
head_line space version (Some (an_answer.Found object)) valid fits of = found_is space version object valid fits of.0 of.1
head_line space version (Some (an_answer.Rows rows)) valid fits of = record {
  front = codes "rows " ++ decimal (length rows);
  cut = refl;
  one = number_one (codes "rows ") (length rows) (one_line_of (codes "rows ") refl) of.1.0;
}
head_line space version (Some (an_answer.Refused region epoch)) valid fits of =
    region_is space (codes "refused") region epoch valid (one_line_of (codes "refused") refl) of.0 of.1
head_line space version (Some (an_answer.Doubt region epoch)) valid fits of =
    region_is space (codes "doubt") region epoch valid (one_line_of (codes "doubt") refl) of.0 of.1
head_line space version (Some (an_answer.Issued epoch)) valid fits of = epoch_is (codes "issued") epoch (one_line_of (codes "issued") refl) of.1
head_line space version (Some (an_answer.Stopped epoch)) valid fits of = epoch_is (codes "stopped") epoch (one_line_of (codes "stopped") refl) of.1
head_line space version (Some (an_answer.Member epoch)) valid fits of = epoch_is (codes "member") epoch (one_line_of (codes "member") refl) of.1
head_line space version (Some (an_answer.Joining epoch)) valid fits of = epoch_is (codes "joining") epoch (one_line_of (codes "joining") refl) of.1
head_line space version (Some (an_answer.Lost epoch)) valid fits of = epoch_is (codes "lost") epoch (one_line_of (codes "lost") refl) of.1

-- behind it stand its rows
answer_is : (space : Space) (version : Version) (answer : Option Answer)
    → head_lines space version answer (length (answer_rows answer)) ++ flat_map (row_line space) (answer_rows answer)
    ≡ maybe_answer_lines space version answer
unfolding answer_lines maybe_answer_lines rows_lines
answer_is space version None = refl
answer_is space version (Some (an_answer.Rows rows)) = refl
answer_is space version (Some other) = append-nil (answer_lines space version other)

call_is : (space : Space) (c : CallLine) → call_text space c ≡ called_text space c ++ maybe_answer_lines space c.version c.answer
unfolding call_text
call_is space c = refl

-- the call with the number of its rows
abbrev head_for : CallLine → CallHead
head_for l = record { call = l; rows = length (rows_told l) }

-- the first line of a call
call_line : (space : Space) (l : CallLine) → IsSpace space → IsCallOf space l → IsLineText (head_text space (head_for l))
unfolding head_text
call_line space l valid is =
    let head = head_line space l.version l.answer valid is.version is.answer in
    record {
      front = called_text space l ++ head.front;
      cut = ap (λ t. called_text space l ++ t) head.cut ∙ sym (append_assoc (called_text space l) head.front (10 ∷ []));
      one = both_one (called_text space l) head.front (all_left (called_text space l) _ (call_one space l valid is)) head.one;
    }

whole_call : (space : Space) (l : CallLine) → head_text space (head_for l) ++ flat_map (row_line space) (rows_told l) ≡ call_text space l
unfolding head_text
whole_call space l =
    append_assoc (called_text space l) (head_lines space l.version l.answer (length (rows_told l))) (flat_map (row_line space) (rows_told l))
    ∙ ap (λ t. called_text space l ++ t) (answer_is space l.version l.answer) ∙ sym (call_is space l)

pub call_told : (space : Space) (l : CallLine) → IsSpace space → IsCallOf space l → IsTold space (OfCall l)
call_told space l valid is =
    let rows : List Row = rows_told l in
    let head = call_line space l valid is in
    let first = one_line head.front (head_text space (head_for l)) head.cut head.one in
    let others = each_lines (row_line space) (row_front space) (IsRow space)
    (λ r i. one_line (row_front space r) (row_line space r) (row_cut space r) (row_one space r valid i)) rows (rows_are space l.answer is.answer) in
    record {
      fronts = head.front ∷ map (row_front space) rows;
      are = subst (AreLines (head.front ∷ map (row_front space) rows)) (whole_call space l)
          (both_lines (head.front ∷ []) (map (row_front space) rows) (head_text space (head_for l)) (flat_map (row_line space) rows) first others);
      things = ap (λ t. t ∷ map (row_line space) rows) head.cut
          ∙ ap (λ ts. with_newline head.front ∷ ts) (fronts_of (row_line space) (row_front space) (row_cut space) rows);
    }
