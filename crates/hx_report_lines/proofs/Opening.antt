-- Every draft can become a report.
use Rattle.std.proofs.Common.{◌≡◌, ◌≢◌, ℕ, ◌+◌, List, [], ◌∷◌, ◌++◌, map, length, replicate, None, inl, refl, sym, ap, ◌∙◌, arith}
use Rattle.std.specs.Prelude.{codes}
use Rattle.std.specs.List.{All, AllZip, flat_map}
use Rattle.std.proofs.lemmas.List.{append_assoc, append-nil, length-append, length-replicate}
use Rattle.std.proofs.lemmas.List.Concat.{flat_map-append}
use Rattle.std.proofs.lemmas.List.Elements.{All-append, All-cons, All-head, All-nil, All-push, All-replicate, All-tail}
use Rattle.std.proofs.lemmas.Str.{IsUtf8-nil}
use Rattle.hx_lex.specs.Spelling.{IsText}
use Rattle.hx_model.specs.Types.{Attribute, Kind, Row, Space, Value}
use Rattle.hx_types.specs.declared.spaces.Kind.TheVariants as a_kind
use Rattle.hx_types.specs.Effects.{default_of}
use Rattle.hx_types.specs.Spaces.{IsOfKind}
use Rattle.hx_law_texts.specs.Sayable.{BoundsAreSayable, IsSayable}
use Rattle.hx_report.specs.Reporting.{row_line}
use Rattle.hx_report_lines.specs.declared.blocks.Block.{Block}
use Rattle.hx_report_lines.specs.declared.calls.CallLine.{CallLine}
use Rattle.hx_report_lines.specs.declared.drafts.Draft.{Draft}
use Rattle.hx_report_lines.specs.declared.drafts.Open.{Open}
use Rattle.hx_report_lines.specs.declared.drafts.Open.TheVariants as opens
use Rattle.hx_report_lines.specs.declared.drafts.Section.{Section}
use Rattle.hx_report_lines.specs.declared.drafts.Section.TheVariants as sections
use Rattle.hx_report_lines.specs.declared.histories.HistoryLines.{HistoryLines}
use Rattle.hx_report_lines.specs.declared.histories.ItemLine.{ItemLine}
use Rattle.hx_report_lines.specs.declared.histories.ItemWord.TheVariants as words
use Rattle.hx_report_lines.specs.Drafts.{block_of, value_of, with_rows}
use Rattle.hx_report_lines.specs.Printed.{block_text, first_text, item_text, key_text, text_of}
use Rattle.hx_report_lines.specs.Values.{IsBlock, IsItemOf, IsReportValue, IsSpaceValue, ObjectIsSayable, ReportValue}
use Rattle.hx_report_lines.proofs.CallsRead.{IsRow}
use Rattle.hx_report_lines.proofs.DraftsRead.{HasAll, HasFront, HeadOpens, IsGood, IsGoodIn, IsOpen, IsOpenCall}
use Rattle.hx_report_lines.proofs.DraftsRead.{IsOpenHistory, block_begun, call_more, counted, history_more, least_fits}
use Rattle.hx_report_lines.proofs.DraftsRead.{least_space, rows_called}
use Rattle.hx_report_lines.proofs.TextsRead.{begun_text, call_text_more, draft_text, front_text, history_is}
use Rattle.hx_report_lines.proofs.TextsRead.{history_text_more, open_text, rows_head, text_in, with_rows_text}

-- some report begins with the text
abbrev pub BeginsText : List ℕ → Type 0
BeginsText text = (r : ReportValue) × IsReportValue r × ((more : List ℕ) × (text_of r ≡ text ++ more))

-- ---- values that stand for what is wanted

empty_text : IsText []
empty_text = record { utf8 = IsUtf8-nil; plain = refl }

default_fits : (k : Kind) → BoundsAreSayable k → IsOfKind k (default_of k) × IsSayable (default_of k)
default_fits a_kind.Text b = (omega arith, empty_text)
default_fits (a_kind.Int lo hi) b = (tt, b.0)

defaults_fit : (declared : List Attribute) → All (λ (a : Attribute). BoundsAreSayable a.kind) declared
    → AllZip (λ (a : Attribute) (v : Value). IsOfKind a.kind v) declared
    (map (λ (a : Attribute). default_of a.kind) declared)
    × ObjectIsSayable (map (λ (a : Attribute). default_of a.kind) declared)
defaults_fit [] h = (tt, All-nil IsSayable)
defaults_fit (a ∷ rest) h =
    let d = default_fits a.kind (All-head (λ (x : Attribute). BoundsAreSayable x.kind) a rest h) in
    let r = defaults_fit rest (All-tail (λ (x : Attribute). BoundsAreSayable x.kind) a rest h) in
    ((d.0, r.0), All-cons IsSayable (default_of a.kind) (map (λ (x : Attribute). default_of x.kind) rest) d.1 r.1)

abbrev some_row : Space → Row
some_row space = record { key = []; version = record { 0 = 0 }; object = map (λ (a : Attribute). default_of a.kind) space.attributes }

row_fits : (space : Space) → IsSpaceValue space → IsRow space (some_row space)
row_fits space is =
    let d = defaults_fit space.attributes is.bounds in
    record { of = record { key = omega arith; object = d.0 }; said = record { key = empty_text; version = omega arith; object = d.1 } }

abbrev some_item : ItemLine
some_item = record { version = record { 0 = 0 }; caller = record { session = record { 0 = 1 }; number = 1 }; word = words.Done; object = None }

item_fits : (space : Space) → IsItemOf space some_item
item_fits space = record {
  version = omega arith;
  caller = record { session = (omega arith, omega arith); number = (omega arith, omega arith) };
  object = tt;
  said = tt;
}

-- ---- a body that is closed

-- the report of the blocks and one more
abbrev with_block : Draft → Block → ReportValue
with_block d b = record { version = d.version; blocks = d.blocks ++ b ∷ [] }

with_block_valid : (d : Draft) (b : Block) → HasFront d → IsBlock b → IsReportValue (with_block d b)
with_block_valid d b front is = record { count = counted d.version d.blocks b front.version; blocks = All-push IsBlock d.blocks b front.blocks is }

with_block_text : (d : Draft) (b : Block) → text_of (with_block d b) ≡ (front_text d ++ block_text b) ++ codes "end\n"
unfolding text_of
with_block_text d b =
    ap (λ t. t ++ codes "end\n")
    (ap (λ t. first_text d.version ++ t) (flat_map-append block_text d.blocks (b ∷ [])
    ∙ ap (λ t. flat_map block_text d.blocks ++ t) (append-nil (block_text b)))
    ∙ sym (append_assoc (first_text d.version) (flat_map block_text d.blocks) (block_text b)))

-- a block whose text begins with what was read of it
closes : (d : Draft) (b : Block) (read more : List ℕ) → HasFront d → IsBlock b → block_text b ≡ read ++ more → BeginsText (front_text d ++ read)
closes d b read more front is text = (
  with_block d b,
  with_block_valid d b front is,
  (
    more ++ codes "end\n",
    with_block_text d b
        ∙ ap (λ t. (front_text d ++ t) ++ codes "end\n") text
        ∙ ap (λ t. t ++ codes "end\n") (sym (append_assoc (front_text d) read more))
        ∙ append_assoc (front_text d ++ read) more (codes "end\n"),
  ),
)

rows_open : (d : Draft) (c : CallLine) (rows : List Row) (left : ℕ) → HasFront d → IsBlock d.block
    → IsOpenCall d c rows left → BeginsText (front_text d
    ++ (block_text d.block ++ open_text d.block.space (opens.Rows c rows left)))
rows_open d c rows left front is o =
    let space : Space = d.block.space in
    let fill : List Row = replicate left (some_row space) in
    let all : CallLine = with_rows c (rows ++ fill) in
    let long : length (rows ++ fill) ≡ length rows + left = omega (arith, length-append rows fill, length-replicate left (some_row space)) in
    let call = rows_called space c (rows ++ fill) o.call o.answer
    (All-append (IsRow space) rows fill o.all (All-replicate (IsRow space) left (some_row space)
    (row_fits space is.space))) (omega (arith, long, o.few)) in
    let head : List ℕ = rows_head space c (length rows + left) in
    closes d (record d.block { calls = d.block.calls ++ all ∷ [] })
    (block_text d.block ++ (head ++ flat_map (row_line space) rows)) (flat_map (row_line space) fill) front
    (call_more d.block all is call o.follows)
    (call_text_more d all o.before
    ∙ ap (λ t. block_text d.block ++ t)
    (with_rows_text space c (rows ++ fill)
    ∙ ap (λ n. rows_head space c n ++ flat_map (row_line space) (rows ++ fill)) long
    ∙ ap (λ t. head ++ t) (flat_map-append (row_line space) rows fill)
    ∙ sym (append_assoc head (flat_map (row_line space) rows) (flat_map (row_line space) fill)))
    ∙ sym (append_assoc (block_text d.block) (head ++ flat_map (row_line space) rows) (flat_map (row_line space) fill)))

some_more : (items : List ItemLine) (x : ItemLine) → items ++ x ∷ [] ≢ []
some_more [] x e = absurd cc
some_more (y ∷ ys) x e = absurd cc

history_open : (d : Draft) (key : List ℕ) (items : List ItemLine) → HasFront d → IsBlock d.block
    → IsOpenHistory d key items → BeginsText (front_text d
    ++ (block_text d.block ++ open_text d.block.space (opens.History key items)))
history_open d key items front is o =
    let space : Space = d.block.space in
    let one : HistoryLines = record { key = key; items = items ++ some_item ∷ [] } in
    closes d (record d.block { histories = d.block.histories ++ one ∷ [] })
    (block_text d.block ++ (key_text key ++ flat_map (item_text space) items)) (item_text space some_item) front
    (history_more d.block one is (record {
      key = o.fits;
      said = o.said;
      some = some_more items some_item;
      items = All-push (IsItemOf space) items some_item o.all (item_fits space);
    }) o.follows)
    (history_text_more d one o.before
    ∙ ap (λ t. block_text d.block ++ t)
    (history_is space key (items ++ some_item ∷ [])
    ∙ ap (λ t. key_text key ++ t) (flat_map-append (item_text space) items (some_item ∷ [])
    ∙ ap (λ t. flat_map (item_text space) items ++ t) (append-nil (item_text space some_item)))
    ∙ sym (append_assoc (key_text key) (flat_map (item_text space) items) (item_text space some_item)))
    ∙ sym (append_assoc (block_text d.block) (key_text key ++ flat_map (item_text space) items) (item_text space some_item)))

body_opens : (d : Draft) (o : Open) → HasFront d → IsBlock d.block → IsOpen d o → BeginsText (front_text d ++ (block_text d.block ++ open_text d.block.space o))
body_opens d opens.Nothing front is o = closes d d.block (block_text d.block ++ []) [] front is
    (sym (append-nil (block_text d.block)) ∙ sym (append-nil (block_text d.block ++ [])))
body_opens d (opens.Rows c rows left) front is o = rows_open d c rows left front is o
body_opens d (opens.History key items) front is o = history_open d key items front is o

head_opens : (d : Draft) → HasFront d → HeadOpens d.head → BeginsText (front_text d ++ d.head)
head_opens d front o = closes d (block_of o.0) d.head o.2.0 front (block_begun o.0 o.1) (begun_text o.0 ∙ o.2.1)

whole_text : (r : ReportValue) → text_of r ≡ (first_text r.version ++ flat_map block_text r.blocks) ++ codes "end\n"
unfolding text_of
whole_text r = refl

all_opens : (d : Draft) → HasAll d → BeginsText (front_text d ++ codes "end\n")
all_opens d all = (
  value_of d,
  record { count = all.count; blocks = all.blocks },
  ([], whole_text (value_of d) ∙ sym (append-nil (front_text d ++ codes "end\n"))),
)

-- a report of the least space
abbrev least : ReportValue
least = record { version = 1; blocks = block_of least_space ∷ [] }

least_valid : IsReportValue least
least_valid = record { count = inl (refl, refl); blocks = All-cons IsBlock (block_of least_space) [] (block_begun least_space least_fits) (All-nil IsBlock) }

opens_in : (d : Draft) (s : Section) → IsGoodIn d s → BeginsText (text_in d s)
opens_in d sections.Start is = (least, least_valid, (text_of least, refl))
opens_in d sections.Head is = head_opens d is.0 is.1
opens_in d sections.Body is = body_opens d d.pending is.front is.block is.pending
opens_in d sections.Over is = all_opens d is

-- some report begins with what was read
pub opens_text : (d : Draft) → IsGood d → BeginsText (draft_text d)
opens_text d is = opens_in d d.section is.good
