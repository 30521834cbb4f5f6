-- What a draft has read is the text of what it has.
use Rattle.std.proofs.Common.{◌≡◌, ℕ, ◌+◌, ◌-◌, ◌<◌, Bool, true, false, cond, ◌&&◌, eqb, List, [], ◌∷◌, ◌++◌, length}
use Rattle.std.proofs.Common.{Option, None, Some, Ok, Err, refl, sym, ap, subst, ◌∙◌, arith}
use Rattle.std.specs.Prelude.{codes}
use Rattle.std.specs.Fmt.{decimal}
use Rattle.std.specs.List.{All, flat_map}
use Rattle.std.specs.Str.{bytes_eq}
use Rattle.std.proofs.lemmas.Bool.{eqb-true}
use Rattle.std.proofs.lemmas.List.{append_assoc, append-nil, length-append, nil_from_length}
use Rattle.std.proofs.lemmas.List.Concat.{flat_map-append}
use Rattle.std.proofs.lemmas.Fmt.{decimal_digit}
use Rattle.std.proofs.lemmas.List.Elements.{All-head, All-tail}
use Rattle.std.proofs.lemmas.Slice.Eq.{bytes_eq-Decides}
use Rattle.hx_lex.proofs.Lemmas.{and_left, and_right}
use Rattle.hx_model.specs.Types.{Answer, Row, Space}
use Rattle.hx_types.specs.declared.calls.Answer.TheVariants as an_answer
use Rattle.hx_types.specs.Spaces.{IsSpace}
use Rattle.hx_print.specs.Printing.{space_text}
use Rattle.hx_report.specs.Reporting.{maybe_answer_lines, answer_lines, row_line, rows_lines}
use Rattle.hx_script.specs.Texts.{lines_of, onto_first}
use Rattle.hx_report_lines.specs.declared.blocks.Block.{Block}
use Rattle.hx_report_lines.specs.declared.call_lines.CallHead.{CallHead}
use Rattle.hx_report_lines.specs.declared.calls.CallLine.{CallLine}
use Rattle.hx_report_lines.specs.declared.drafts.Draft.{Draft}
use Rattle.hx_report_lines.specs.declared.drafts.Open.{Open}
use Rattle.hx_report_lines.specs.declared.drafts.Open.TheVariants as opens
use Rattle.hx_report_lines.specs.declared.drafts.Section.{Section}
use Rattle.hx_report_lines.specs.declared.drafts.Section.TheVariants as sections
use Rattle.hx_report_lines.specs.declared.kinds.Kind.{Kind}
use Rattle.hx_report_lines.specs.declared.kinds.Kind.TheVariants as kinds
use Rattle.hx_report_lines.specs.declared.histories.HistoryLines.{HistoryLines}
use Rattle.hx_report_lines.specs.declared.histories.ItemLine.{ItemLine}
use Rattle.hx_report_lines.specs.Calling.{head_lines, head_of, head_text, row_of}
use Rattle.hx_report_lines.specs.Drafts.{after_line, begun, block_of, call_after, closed, draft_of, driver_after}
use Rattle.hx_report_lines.specs.Drafts.{empty_draft, end_after, ends_whole, epoch_after, follows_caller}
use Rattle.hx_report_lines.specs.Drafts.{follows_epoch, follows_key, head_line, head_with, is_newline, is_none}
use Rattle.hx_report_lines.specs.Drafts.{is_over, item_line_in, key_after, kind_of, line_in, line_of_kind, next_after}
use Rattle.hx_report_lines.specs.Drafts.{no_drivers, no_epochs, no_histories, no_raw, on_draft, put_driver, put_epoch}
use Rattle.hx_report_lines.specs.Drafts.{put_head, put_key, put_raw, raw_after, read_lines, row_line_in, settled}
use Rattle.hx_report_lines.specs.Drafts.{settled_from, value_of, version_line, version_of, with_call, with_history}
use Rattle.hx_report_lines.specs.Drafts.{with_rows, with_space}
use Rattle.hx_report_lines.specs.Parts.{item_of, key_of}
use Rattle.hx_report_lines.specs.Printed.{block_text, call_text, called_text, driver_text, epoch_text, first_text}
use Rattle.hx_report_lines.specs.Printed.{history_text, item_text, key_text, raw_text, span_text, text_of}
use Rattle.hx_report_lines.specs.Readers.{on_some}
use Rattle.hx_report_lines.specs.Tailing.{driver_of, epoch_of, raw_of, rest_of_head, space_of}
use Rattle.hx_report_lines.proofs.CallsRead.{head_valid, row_valid}
use Rattle.hx_report_lines.proofs.DraftsRead.{HasBody, IsGood, IsGoodIn, IsOneLine, IsOpen, IsSettled, good_more, good_start, not_none, settles}
use Rattle.hx_report_lines.proofs.Ascending.{last_of_more}
use Rattle.hx_report_lines.proofs.ItemsRead.{item_valid, key_valid}
use Rattle.hx_report_lines.proofs.LinesRead.{finished_over, one_lines}
use Rattle.hx_report_lines.proofs.TailsRead.{driver_valid, epoch_valid, raw_valid, space_valid}
use Rattle.hx_report_lines.proofs.Taken.{bound, some_is, where_so}

-- ---- texts of what is read

-- the line of a call of which so many rows stand or are wanted
abbrev pub rows_head : Space → CallLine → ℕ → List ℕ
rows_head space c n = called_text space c ++ (codes "rows " ++ decimal n ++ codes "\n")

abbrev pub open_text : Space → Open → List ℕ
open_text space opens.Nothing = []
open_text space (opens.Rows c rows left) = rows_head space c (length rows + left) ++ flat_map (row_line space) rows
open_text space (opens.History key items) = key_text key ++ flat_map (item_text space) items

abbrev pub front_text : Draft → List ℕ
front_text d = first_text d.version ++ flat_map block_text d.blocks

abbrev pub body_text : Draft → List ℕ
body_text d = front_text d ++ (block_text d.block ++ open_text d.block.space d.pending)

abbrev pub text_in : Draft → Section → List ℕ
text_in d sections.Start = []
text_in d sections.Head = front_text d ++ d.head
text_in d sections.Body = body_text d
text_in d sections.Over = front_text d ++ codes "end\n"

-- all that was read
abbrev pub draft_text : Draft → List ℕ
draft_text d = text_in d d.section

abbrev pub with_newline : List ℕ → List ℕ
with_newline line = line ++ 10 ∷ []

-- ---- lists, one item more

one_more : {A : Type 0} (f : A → List ℕ) (xs : List A) (x : A) → flat_map f (xs ++ x ∷ []) ≡ flat_map f xs ++ f x
one_more f xs x = flat_map-append f xs (x ∷ []) ∙ ap (λ t. flat_map f xs ++ t) (append-nil (f x))

none_is : {A : Type 0} (xs : List A) → is_none xs ≡ true → xs ≡ []
none_is xs h = nil_from_length xs (eqb-true (length xs) 0 h)

-- a list of lines that is none has no text
no_text : {A : Type 0} (f : A → List ℕ) (xs : List A) (front : List ℕ) → is_none xs ≡ true → front ++ flat_map f xs ≡ front
no_text f xs front h = ap (λ ys. front ++ flat_map f ys) (none_is xs h) ∙ append-nil front

-- a block up to each of its parts
abbrev upto_calls : Block → List ℕ
upto_calls b = space_text b.space ++ flat_map (call_text b.space) b.calls

abbrev upto_histories : Block → List ℕ
upto_histories b = upto_calls b ++ flat_map (history_text b.space) b.histories

abbrev upto_epochs : Block → List ℕ
upto_epochs b = upto_histories b ++ flat_map epoch_text b.epochs

abbrev upto_raw : Block → List ℕ
upto_raw b = upto_epochs b ++ flat_map raw_text b.raw

block_is : (b : Block) → block_text b ≡ upto_raw b ++ flat_map driver_text b.drivers
unfolding block_text
block_is b = refl

raw_last : (d : Draft) → no_drivers d ≡ true → block_text d.block ≡ upto_raw d.block
raw_last d h = block_is d.block ∙ no_text driver_text d.block.drivers (upto_raw d.block) h

epochs_last : (d : Draft) → no_raw d ≡ true → block_text d.block ≡ upto_epochs d.block
epochs_last d h =
    raw_last d (and_right (is_none d.block.raw) (no_drivers d) h)
    ∙ no_text raw_text d.block.raw (upto_epochs d.block) (and_left (is_none d.block.raw) (no_drivers d) h)

histories_last : (d : Draft) → no_epochs d ≡ true → block_text d.block ≡ upto_histories d.block
histories_last d h =
    epochs_last d (and_right (is_none d.block.epochs) (no_raw d) h)
    ∙ no_text epoch_text d.block.epochs (upto_histories d.block) (and_left (is_none d.block.epochs) (no_raw d) h)

calls_last : (d : Draft) → no_histories d ≡ true → block_text d.block ≡ upto_calls d.block
calls_last d h =
    histories_last d (and_right (is_none d.block.histories) (no_epochs d) h)
    ∙ no_text (history_text d.block.space) d.block.histories (upto_calls d.block) (and_left (is_none d.block.histories) (no_epochs d) h)

-- behind a front, one item more
pub behind : {A : Type 0} (f : A → List ℕ) (front : List ℕ) (xs : List A) (x : A) → front ++ flat_map f (xs ++ x ∷ []) ≡ (front ++ flat_map f xs) ++ f x
behind f front xs x = ap (λ t. front ++ t) (one_more f xs x) ∙ sym (append_assoc front (flat_map f xs) (f x))

pub call_text_more : (d : Draft) (c : CallLine) → no_histories d ≡ true
    → block_text (record d.block { calls = d.block.calls ++ c ∷ [] }) ≡ block_text d.block ++ call_text d.block.space c
call_text_more d c h =
    calls_last (with_call d c) h
    ∙ behind (call_text d.block.space) (space_text d.block.space) d.block.calls c
    ∙ ap (λ t. t ++ call_text d.block.space c) (sym (calls_last d h))

pub history_text_more : (d : Draft) (x : HistoryLines) → no_epochs d ≡ true
    → block_text (record d.block { histories = d.block.histories ++ x ∷ [] }) ≡ block_text d.block ++ history_text d.block.space x
history_text_more d x h =
    histories_last (with_history d x) h
    ∙ behind (history_text d.block.space) (upto_calls d.block) d.block.histories x
    ∙ ap (λ t. t ++ history_text d.block.space x) (sym (histories_last d h))

-- ---- what is pending

pub with_rows_text : (space : Space) (c : CallLine) (rows : List Row)
    → call_text space (with_rows c rows) ≡ rows_head space c (length rows) ++ flat_map (row_line space) rows
unfolding call_text called_text span_text maybe_answer_lines answer_lines rows_lines
with_rows_text space c rows = sym (append_assoc (called_text space c) (codes "rows " ++ decimal (length rows) ++ codes "\n") (flat_map (row_line space) rows))

pub history_is : (space : Space) (key : List ℕ) (items : List ItemLine)
    → history_text space (record { key = key; items = items }) ≡ key_text key ++ flat_map (item_text space) items
unfolding history_text
history_is space key items = refl

settled_text_by : (d e : Draft) (o : Open) → IsOpen d o → settled_from d o ≡ Some e
    → body_text e ≡ front_text d ++ (block_text d.block ++ open_text d.block.space o)
settled_text_by d e opens.Nothing is h = subst (λ (x : Draft). body_text x ≡ front_text d
    ++ (block_text d.block ++ [])) (some_is (record d { pending = opens.Nothing }) e h) refl
settled_text_by d e (opens.Rows c rows left) is h =
    let w = where_so (eqb left 0) (Some (with_call d (with_rows c rows))) e h in
    let all : length rows ≡ length rows + left = omega (arith, eqb-true left 0 w.0) in
    subst (λ (x : Draft). body_text x ≡ front_text d
    ++ (block_text d.block ++ open_text d.block.space (opens.Rows c rows left)))
    (some_is (with_call d (with_rows c rows)) e w.1)
    (ap (λ t. front_text d ++ t)
    (append-nil (block_text (record d.block { calls = d.block.calls ++ with_rows c rows ∷ [] }))
    ∙ call_text_more d (with_rows c rows) is.before
    ∙ ap (λ t. block_text d.block ++ t) (with_rows_text d.block.space c rows
    ∙ ap (λ n. rows_head d.block.space c n ++ flat_map (row_line d.block.space) rows) all)))
settled_text_by d e (opens.History key items) is h = by (is_none items) h
  where
    one : HistoryLines
    one = record { key = key; items = items }

    by : (b : Bool) → cond b None (Some (with_history d one)) ≡ Some e
        → body_text e ≡ front_text d ++ (block_text d.block ++ open_text d.block.space (opens.History key items))
    by true f = absurd cc
    by false f =
        subst (λ (x : Draft). body_text x ≡ front_text d
        ++ (block_text d.block ++ open_text d.block.space (opens.History key items))) (some_is (with_history d one) e f)
        (ap (λ t. front_text d ++ t)
        (append-nil (block_text (record d.block { histories = d.block.histories ++ one ∷ [] }))
        ∙ history_text_more d one is.before ∙ ap (λ t. block_text d.block ++ t) (history_is d.block.space key items)))

settled_text : (d e : Draft) → HasBody d → settled d ≡ Some e → body_text e ≡ body_text d
settled_text d e is h = settled_text_by d e d.pending is.pending h

-- ---- a line more: what it adds

abbrev Adds : List ℕ → List ℕ → Draft → Type 0
Adds before line e = draft_text e ≡ before ++ with_newline line

in_body : (e : Draft) → e.section ≡ sections.Body → draft_text e ≡ body_text e
in_body e body = ap (text_in e) body

-- where nothing is pending, what comes stands behind the block
open_is : (d : Draft) → IsSettled d → body_text d ≡ front_text d ++ block_text d.block
open_is d is = ap (λ (o : Open). front_text d ++ (block_text d.block ++ open_text d.block.space o)) is.nothing
    ∙ ap (λ t. front_text d ++ t) (append-nil (block_text d.block))

-- the draft after the line has the block's text and more
adds : (d e : Draft) (line more : List ℕ) → IsSettled d → e.section ≡ sections.Body → front_text e ≡ front_text d
    → block_text e.block ++ open_text e.block.space e.pending ≡ block_text d.block ++ more → more ≡ with_newline line
    → Adds (body_text d) line e
adds d e line more is body front block here =
    in_body e body
    ∙ (ap (λ t. t ++ (block_text e.block ++ open_text e.block.space e.pending)) front ∙ ap (λ t. front_text d ++ t) block)
    ∙ sym (append_assoc (front_text d) (block_text d.block) more)
    ∙ (ap (λ t. t ++ more) (sym (open_is d is)) ∙ ap (λ t. body_text d ++ t) here)

-- a block of which a list has one item more, where nothing is pending
pushed : (d : Draft) (b : Block) (more : List ℕ) → IsSettled d → block_text b ≡ block_text d.block ++ more
    → block_text b ++ open_text b.space d.pending ≡ block_text d.block ++ more
pushed d b more is h = ap (λ (o : Open). block_text b ++ open_text b.space o) is.nothing ∙ append-nil (block_text b) ∙ h

head_rows : (space : Space) (h : CallHead) (rows : List Row) → h.call.answer ≡ Some (an_answer.Rows rows) → head_text space h ≡ rows_head space h.call h.rows
unfolding head_text
head_rows space h rows q = ap (λ (o : Option Answer). called_text space h.call ++ head_lines space h.call.version o h.rows) q

-- the first line of a call without rows is its text
head_plain : (space : Space) (h : CallHead) (o : Option Answer) → h.call.answer ≡ o
    → head_lines space h.call.version o h.rows ≡ maybe_answer_lines space h.call.version o
    → head_text space h ≡ call_text space h.call
unfolding head_text call_text
head_plain space h o q same =
    ap (λ (x : Option Answer). called_text space h.call ++ head_lines space h.call.version x h.rows) q
    ∙ ap (λ t. called_text space h.call ++ t) same
    ∙ ap (λ (x : Option Answer). called_text space h.call ++ maybe_answer_lines space h.call.version x) (sym q)

call_adds : (d e : Draft) (line : List ℕ) → IsSettled d → call_after line d ≡ Some e → Adds (body_text d) line e
call_adds d e line is h =
    let w = where_so (no_histories d) (on_some (head_of d.block.space line) (put_head d)) e h in
    let b = bound (head_of d.block.space line) (put_head d) e w.1 in
    let v = head_valid d.block.space line b.0 is.body.block.space.valid b.1 in
    let f = where_so (follows_caller d b.0.call.caller) (Some (begun d b.0 b.0.call.answer)) e b.2 in
    by w.0 b.0 v.1 b.0.call.answer refl f.1
  where
    plain : no_histories d ≡ true → (x : CallHead) → head_text d.block.space x ≡ with_newline line
        → head_text d.block.space x ≡ call_text d.block.space x.call → Some (with_call d x.call) ≡ Some e
        → Adds (body_text d) line e
    plain none x printed same g =
        subst (Adds (body_text d) line) (some_is (with_call d x.call) e g)
        (adds d (with_call d x.call) line (call_text d.block.space x.call) is is.section refl
        (append-nil (block_text (record d.block { calls = d.block.calls ++ x.call ∷ [] })) ∙ call_text_more d x.call none) (sym same ∙ printed))

    by : no_histories d ≡ true → (x : CallHead) → head_text d.block.space x ≡ with_newline line → (o : Option Answer)
        → x.call.answer ≡ o → Some (begun d x o) ≡ Some e → Adds (body_text d) line e
    by none x printed None q g = plain none x printed (head_plain d.block.space x None q refl) g
    by none x printed (Some (an_answer.Rows rows)) q g =
        subst (Adds (body_text d) line) (some_is (record d { pending = opens.Rows x.call [] x.rows }) e g)
        (adds d (record d { pending = opens.Rows x.call [] x.rows }) line (rows_head d.block.space x.call x.rows) is is.section refl
        (ap (λ n. block_text d.block ++ (rows_head d.block.space x.call n ++ []))
        (let z : length {A = Row} [] + x.rows ≡ x.rows = omega arith in z)
        ∙ ap (λ t. block_text d.block ++ t) (append-nil (rows_head d.block.space x.call x.rows)))
        (sym (head_rows d.block.space x rows q) ∙ printed))
    by none x printed (Some an_answer.Done) q g = plain none x printed (head_plain d.block.space x (Some an_answer.Done) q refl) g
    by none x printed (Some an_answer.NotFound) q g = plain none x printed (head_plain d.block.space x (Some an_answer.NotFound) q refl) g
    by none x printed (Some an_answer.CmpFail) q g = plain none x printed (head_plain d.block.space x (Some an_answer.CmpFail) q refl) g
    by none x printed (Some an_answer.Overflow) q g = plain none x printed (head_plain d.block.space x (Some an_answer.Overflow) q refl) g
    by none x printed (Some an_answer.TooLong) q g = plain none x printed (head_plain d.block.space x (Some an_answer.TooLong) q refl) g
    by none x printed (Some (an_answer.Found object)) q g = plain none x printed (head_plain d.block.space x (Some (an_answer.Found object)) q refl) g
    by none x printed (Some (an_answer.Refused region epoch)) q g =
        plain none x printed (head_plain d.block.space x (Some (an_answer.Refused region epoch)) q refl) g
    by none x printed (Some (an_answer.Doubt region epoch)) q g =
        plain none x printed (head_plain d.block.space x (Some (an_answer.Doubt region epoch)) q refl) g
    by none x printed (Some (an_answer.Issued epoch)) q g = plain none x printed (head_plain d.block.space x (Some (an_answer.Issued epoch)) q refl) g
    by none x printed (Some (an_answer.Stopped epoch)) q g = plain none x printed (head_plain d.block.space x (Some (an_answer.Stopped epoch)) q refl) g
    by none x printed (Some (an_answer.Member epoch)) q g = plain none x printed (head_plain d.block.space x (Some (an_answer.Member epoch)) q refl) g
    by none x printed (Some (an_answer.Joining epoch)) q g = plain none x printed (head_plain d.block.space x (Some (an_answer.Joining epoch)) q refl) g
    by none x printed (Some (an_answer.Lost epoch)) q g = plain none x printed (head_plain d.block.space x (Some (an_answer.Lost epoch)) q refl) g

-- what is pending has more
opened : (d : Draft) (o : Open) (line more : List ℕ) → d.section ≡ sections.Body
    → open_text d.block.space o ≡ open_text d.block.space d.pending ++ more → more ≡ with_newline line
    → Adds (body_text d) line (record d { pending = o })
opened d o line more body here printed =
    in_body (record d { pending = o }) body
    ∙ ap (λ t. front_text d ++ (block_text d.block ++ t)) here
    ∙ ap (λ t. front_text d ++ t) (sym (append_assoc (block_text d.block) (open_text d.block.space d.pending) more))
    ∙ sym (append_assoc (front_text d) (block_text d.block ++ open_text d.block.space d.pending) more)
    ∙ ap (λ t. body_text d ++ t) printed

row_adds : (d e : Draft) (line : List ℕ) (o : Open) → d.pending ≡ o → d.section ≡ sections.Body
    → IsSpace d.block.space → row_line_in d line o ≡ Some e → Adds (body_text d) line e
row_adds d e line opens.Nothing pending body space h = absurd cc
row_adds d e line (opens.History key items) pending body space h = absurd cc
row_adds d e line (opens.Rows c rows left) pending body space h = by (eqb left 0) refl h
  where
    by : (b : Bool) → eqb left 0 ≡ b → cond b None
        (on_some (row_of d.block.space line) (λ r. Some
        (record d { pending = opens.Rows c (rows ++ r ∷ []) (left - 1) }))) ≡ Some e → Adds (body_text d) line e
    by true q f = absurd cc
    by false q f =
        let b = bound (row_of d.block.space line) (λ r. Some (record d { pending = opens.Rows c (rows ++ r ∷ []) (left - 1) })) e f in
        let v = row_valid d.block.space line b.0 space b.1 in
        let some : 0 < left = not_none left q in
        let all : length (rows ++ b.0 ∷ []) + (left - 1) ≡ length rows + left = omega (arith, length-append rows (b.0 ∷ []), some) in
        let here : open_text d.block.space (opens.Rows c (rows ++ b.0 ∷ []) (left - 1))
        ≡ open_text d.block.space (opens.Rows c rows left) ++ row_line d.block.space b.0 =
        ap (λ n. rows_head d.block.space c n ++ flat_map (row_line d.block.space) (rows ++ b.0 ∷ [])) all
        ∙ behind (row_line d.block.space) (rows_head d.block.space c (length rows + left)) rows b.0 in
        subst (Adds (body_text d) line) (some_is (record d { pending = opens.Rows c (rows ++ b.0 ∷ []) (left - 1) }) e b.2)
        (opened d (opens.Rows c (rows ++ b.0 ∷ []) (left - 1)) line (row_line d.block.space b.0) body
        (here ∙ ap (λ (o : Open). open_text d.block.space o ++ row_line d.block.space b.0) (sym pending)) v.1)

item_adds : (d e : Draft) (line : List ℕ) (o : Open) → d.pending ≡ o → d.section ≡ sections.Body
    → IsSpace d.block.space → item_line_in d line o ≡ Some e → Adds (body_text d) line e
item_adds d e line opens.Nothing pending body space h = absurd cc
item_adds d e line (opens.Rows c rows left) pending body space h = absurd cc
item_adds d e line (opens.History key items) pending body space h =
    let b = bound (item_of d.block.space line) (λ x. Some (record d { pending = opens.History key (items ++ x ∷ []) })) e h in
    let v = item_valid d.block.space line b.0 space b.1 in
    subst (Adds (body_text d) line) (some_is (record d { pending = opens.History key (items ++ b.0 ∷ []) }) e b.2)
    (opened d (opens.History key (items ++ b.0 ∷ [])) line (item_text d.block.space b.0) body
    (behind (item_text d.block.space) (key_text key) items b.0 ∙ ap (λ (o : Open). open_text d.block.space o ++ item_text d.block.space b.0) (sym pending)) v.1)

key_adds : (d e : Draft) (line : List ℕ) → IsSettled d → key_after line d ≡ Some e → Adds (body_text d) line e
key_adds d e line is h =
    let w = where_so (no_epochs d) (on_some (key_of d.block.space line) (put_key d)) e h in
    let b = bound (key_of d.block.space line) (put_key d) e w.1 in
    let v = key_valid d.block.space line b.0 is.body.block.space.valid b.1 in
    let f = where_so (follows_key d b.0) (Some (record d { pending = opens.History b.0 [] })) e b.2 in
    subst (Adds (body_text d) line) (some_is (record d { pending = opens.History b.0 [] }) e f.1)
    (adds d (record d { pending = opens.History b.0 [] }) line (key_text b.0) is is.section refl
    (ap (λ t. block_text d.block ++ t) (append-nil (key_text b.0))) v.1)

epoch_adds : (d e : Draft) (line : List ℕ) → IsSettled d → epoch_after line d ≡ Some e → Adds (body_text d) line e
epoch_adds d e line is h =
    let w = where_so (no_raw d) (on_some (epoch_of d.block.space line) (put_epoch d)) e h in
    let b = bound (epoch_of d.block.space line) (put_epoch d) e w.1 in
    let v = epoch_valid d.block.space line b.0 b.1 in
    let new : Block = record d.block { epochs = d.block.epochs ++ b.0 ∷ [] } in
    let f = where_so (follows_epoch d b.0.epoch.0) (Some (record d { block = new })) e b.2 in
    let text : block_text new ≡ block_text d.block ++ epoch_text b.0 =
    epochs_last (record d { block = new }) w.0 ∙ behind epoch_text (upto_histories d.block) d.block.epochs b.0
    ∙ ap (λ t. t ++ epoch_text b.0) (sym (epochs_last d w.0)) in
    subst (Adds (body_text d) line) (some_is (record d { block = new }) e f.1)
    (adds d (record d { block = new }) line (epoch_text b.0) is is.section refl (pushed d new (epoch_text b.0) is text) v.1)

raw_is : (t : List ℕ) → raw_text t ≡ with_newline t
unfolding raw_text
raw_is t = refl

raw_adds : (d e : Draft) (line : List ℕ) → IsSettled d → raw_after line d ≡ Some e → Adds (body_text d) line e
raw_adds d e line is h =
    let w = where_so (no_drivers d) (on_some (raw_of line) (put_raw d)) e h in
    let b = bound (raw_of line) (put_raw d) e w.1 in
    let v = raw_valid line b.0 b.1 in
    let new : Block = record d.block { raw = d.block.raw ++ b.0 ∷ [] } in
    let text : block_text new ≡ block_text d.block ++ raw_text b.0 =
    raw_last (record d { block = new }) w.0 ∙ behind raw_text (upto_epochs d.block) d.block.raw b.0 ∙ ap (λ t. t ++ raw_text b.0) (sym (raw_last d w.0)) in
    subst (Adds (body_text d) line) (some_is (record d { block = new }) e b.2)
    (adds d (record d { block = new }) line (raw_text b.0) is is.section refl (pushed d new (raw_text b.0) is text) (raw_is b.0 ∙ ap with_newline v.1))

driver_adds : (d e : Draft) (line : List ℕ) → IsSettled d → driver_after line d ≡ Some e → Adds (body_text d) line e
driver_adds d e line is h =
    let b = bound (driver_of line) (put_driver d) e h in
    let v = driver_valid line b.0 b.1 in
    let new : Block = record d.block { drivers = d.block.drivers ++ b.0 ∷ [] } in
    let text : block_text new ≡ block_text d.block ++ driver_text b.0 =
    block_is new ∙ behind driver_text (upto_raw d.block) d.block.drivers b.0 ∙ ap (λ t. t ++ driver_text b.0) (sym (block_is d.block)) in
    subst (Adds (body_text d) line) (some_is (record d { block = new }) e b.2)
    (adds d (record d { block = new }) line (driver_text b.0) is is.section refl (pushed d new (driver_text b.0) is text) v.1)

-- ---- lines of the space, and between blocks

pub begun_text : (space : Space) → block_text (block_of space) ≡ space_text space
unfolding block_text
begun_text space = shut (space_text space)
  where
    shut : (t : List ℕ) → ((((t ++ []) ++ []) ++ []) ++ []) ++ [] ≡ t
    shut t = append-nil ((((t ++ []) ++ []) ++ []) ++ []) ∙ append-nil (((t ++ []) ++ []) ++ [])
        ∙ append-nil ((t ++ []) ++ []) ∙ append-nil (t ++ []) ∙ append-nil t

head_adds : (d e : Draft) (line : List ℕ) → head_line d line ≡ Some e → Adds (front_text d ++ d.head) line e
head_adds d e line h =
    let head : List ℕ = d.head ++ line ++ 10 ∷ [] in
    let r = bound (rest_of_head line) (head_with d head) e h in
    let s = bound (space_of (head ++ r.0)) (λ space. Some (with_space d head r.0 space)) e r.2 in
    by r.0 s.0 (space_valid (head ++ r.0) s.0 s.1).1 (some_is (with_space d head r.0 s.0) e s.2)
  where
    joined : front_text d ++ (d.head ++ line ++ 10 ∷ []) ≡ (front_text d ++ d.head) ++ with_newline line
    joined = ap (λ t. front_text d ++ t) (append_assoc d.head line (10 ∷ [])) ∙ sym (append_assoc (front_text d) d.head (with_newline line))

    by : (rest : List ℕ) (space : Space) → space_text space ≡ (d.head ++ line ++ 10 ∷ []) ++ rest
        → with_space d (d.head ++ line ++ 10 ∷ []) rest space ≡ e → Adds (front_text d ++ d.head) line e
    by [] space text q =
        subst (Adds (front_text d ++ d.head) line) q
        (ap (λ t. front_text d ++ t) (append-nil (block_text (block_of space)) ∙ begun_text space ∙ text ∙ append-nil (d.head ++ line ++ 10 ∷ [])) ∙ joined)
    by (b ∷ rest) space text q = subst (Adds (front_text d ++ d.head) line) q joined

closed_text : (d : Draft) → IsSettled d → front_text (closed d) ≡ body_text d
closed_text d is =
    ap (λ t. first_text d.version ++ t) (one_more block_text d.blocks d.block)
    ∙ sym (append_assoc (first_text d.version) (flat_map block_text d.blocks) (block_text d.block)) ∙ sym (open_is d is)

end_adds : (d e : Draft) (line : List ℕ) → IsSettled d → end_after line d ≡ Some e → Adds (body_text d) line e
end_adds d e line is h =
    let w = where_so (bytes_eq line (codes "end")) (Some (record (closed d) { section = sections.Over })) e h in
    let same : line ≡ codes "end" = (bytes_eq-Decides line (codes "end")).0 w.0 in
    subst (Adds (body_text d) line) (some_is (record (closed d) { section = sections.Over }) e w.1)
    (ap (λ t. t ++ codes "end\n") (closed_text d is) ∙ ap (λ t. body_text d ++ with_newline t) (sym same))

next_adds : (d e : Draft) (line : List ℕ) → IsSettled d → next_after line d ≡ Some e → Adds (body_text d) line e
next_adds d e line is h =
    let w = where_so (eqb d.version 2) (head_line (closed d) line) e h in
    head_adds (closed d) e line w.1 ∙ ap (λ t. t ++ with_newline line) (append-nil (front_text (closed d)) ∙ closed_text d is)

pub first_one : first_text 1 ≡ codes "report 1\n"
unfolding first_text
first_one = rw (decimal_digit 1 (omega arith)) refl

pub first_two : first_text 2 ≡ codes "report 2\n"
unfolding first_text
first_two = rw (decimal_digit 2 (omega arith)) refl

version_adds : (d e : Draft) (line : List ℕ) → d.blocks ≡ [] → d.head ≡ [] → version_line d line ≡ Some e → Adds [] line e
version_adds d e line none empty h =
    let b = bound (version_of line) (λ version. Some (record d { section = sections.Head; version = version })) e h in
    subst (Adds [] line) (some_is (record d { section = sections.Head; version = b.0 }) e b.2)
    (ap (λ (bs : List Block). (first_text b.0 ++ flat_map block_text bs) ++ d.head) none ∙ ap (λ t. (first_text b.0 ++ []) ++ t) empty
    ∙ append-nil (first_text b.0 ++ []) ∙ append-nil (first_text b.0) ∙ by b.0 (bytes_eq line (codes "report 1")) refl b.1)
  where
    by_two : (n : ℕ) (b : Bool) → bytes_eq line (codes "report 2") ≡ b → cond b (Some 2) None ≡ Some n → first_text n ≡ with_newline line
    by_two n true q f = ap first_text (sym (some_is 2 n f)) ∙ first_two ∙ ap with_newline (sym ((bytes_eq-Decides line (codes "report 2")).0 q))
    by_two n false q f = absurd cc

    by : (n : ℕ) (b : Bool) → bytes_eq line (codes "report 1") ≡ b
        → cond b (Some 1) (cond (bytes_eq line (codes "report 2")) (Some 2) None) ≡ Some n → first_text n ≡ with_newline line
    by n true q f = ap first_text (sym (some_is 1 n f)) ∙ first_one ∙ ap with_newline (sym ((bytes_eq-Decides line (codes "report 1")).0 q))
    by n false q f = by_two n (bytes_eq line (codes "report 2")) refl f

-- ---- all lines

kind_adds : (d e : Draft) (line : List ℕ) (k : Kind) → d.section ≡ sections.Body → HasBody d → line_of_kind d line k ≡ Some e → Adds (body_text d) line e
kind_adds d e line kinds.Call body is h =
    let b = bound (settled d) (call_after line) e h in
    call_adds b.0 e line (settles d b.0 body is b.1) b.2 ∙ ap (λ t. t ++ with_newline line) (settled_text d b.0 is b.1)
kind_adds d e line kinds.Row body is h = row_adds d e line d.pending refl body is.block.space.valid h
kind_adds d e line kinds.History body is h =
    let b = bound (settled d) (key_after line) e h in
    key_adds b.0 e line (settles d b.0 body is b.1) b.2 ∙ ap (λ t. t ++ with_newline line) (settled_text d b.0 is b.1)
kind_adds d e line kinds.Item body is h = item_adds d e line d.pending refl body is.block.space.valid h
kind_adds d e line kinds.Epoch body is h =
    let b = bound (settled d) (epoch_after line) e h in
    epoch_adds b.0 e line (settles d b.0 body is b.1) b.2 ∙ ap (λ t. t ++ with_newline line) (settled_text d b.0 is b.1)
kind_adds d e line kinds.Raw body is h =
    let b = bound (settled d) (raw_after line) e h in
    raw_adds b.0 e line (settles d b.0 body is b.1) b.2 ∙ ap (λ t. t ++ with_newline line) (settled_text d b.0 is b.1)
kind_adds d e line kinds.Driver body is h =
    let b = bound (settled d) (driver_after line) e h in
    driver_adds b.0 e line (settles d b.0 body is b.1) b.2 ∙ ap (λ t. t ++ with_newline line) (settled_text d b.0 is b.1)
kind_adds d e line kinds.Space body is h =
    let b = bound (settled d) (next_after line) e h in
    next_adds b.0 e line (settles d b.0 body is b.1) b.2 ∙ ap (λ t. t ++ with_newline line) (settled_text d b.0 is b.1)
kind_adds d e line kinds.End body is h =
    let b = bound (settled d) (end_after line) e h in
    end_adds b.0 e line (settles d b.0 body is b.1) b.2 ∙ ap (λ t. t ++ with_newline line) (settled_text d b.0 is b.1)

adds_in : (d e : Draft) (line : List ℕ) (s : Section) → d.section ≡ s → IsGoodIn d s → line_in d line s ≡ Some e → Adds (text_in d s) line e
adds_in d e line sections.Start body is h = version_adds d e line is.0 is.1 h
adds_in d e line sections.Head body is h = head_adds d e line h
adds_in d e line sections.Body body is h = let b = bound (kind_of line) (line_of_kind d line) e h in kind_adds d e line b.0 body is b.2
adds_in d e line sections.Over body is h = absurd cc

-- a line that is read stands behind what was read
pub line_adds : (d e : Draft) (line : List ℕ) → IsGood d → after_line d line ≡ Some e → draft_text e ≡ draft_text d ++ with_newline line
line_adds d e line is h = adds_in d e line d.section refl is.good h

over_text : (d : Draft) → is_over d.section ≡ true → draft_text d ≡ text_of (value_of d)
unfolding text_of
over_text d over = by d.section refl over
  where
    by : (s : Section) → d.section ≡ s → is_over s ≡ true → draft_text d ≡ text_of (value_of d)
    by sections.Start q h = absurd cc
    by sections.Head q h = absurd cc
    by sections.Body q h = absurd cc
    by sections.Over q h = ap (text_in d) q

-- lines that are read to the end are those of a report
reads_lines : (whole : Bool) (n : ℕ) (d e : Draft) (ls : List (List ℕ)) → All IsOneLine ls → IsGood d
    → read_lines whole n d ls ≡ Ok e → text_of (value_of e) ≡ draft_text d ++ flat_map with_newline ls
unfolding read_lines
reads_lines whole n d e [] one is h =
    let f = finished_over whole (n + 1) d e h in
    sym (over_text e f.1) ∙ ap draft_text (sym f.0) ∙ sym (append-nil (draft_text d))
reads_lines whole n d e (l ∷ ls) one is h = by (after_line d l) refl h (λ m good. reads_lines whole (n + 1) m e ls (All-tail IsOneLine l ls one) good)
  where
    by : (o : Option Draft) → after_line d l ≡ o → on_draft o (n + 1) (λ m. read_lines whole (n + 1) m ls) ≡ Ok e
        → ((m : Draft) → IsGood m → read_lines whole (n + 1) m ls ≡ Ok e → text_of (value_of e) ≡ draft_text m ++ flat_map with_newline ls)
        → text_of (value_of e) ≡ draft_text d ++ flat_map with_newline (l ∷ ls)
    by None q f k = absurd cc
    by (Some m) q f k =
        k m (good_more d m l (All-head IsOneLine l ls one) is q) f
        ∙ (ap (λ t. t ++ flat_map with_newline ls) (line_adds d m l is q) ∙ append_assoc (draft_text d) (with_newline l) (flat_map with_newline ls))

whole_is : (whole : Bool) (n : ℕ) (d e : Draft) (ls : List (List ℕ)) → read_lines whole n d ls ≡ Ok e → whole ≡ true
unfolding read_lines
whole_is whole n d e [] h = by (is_over d.section && whole) refl h
  where
    by : (b : Bool) → (is_over d.section && whole) ≡ b → cond b (Ok d) (Err (n + 1)) ≡ Ok e → whole ≡ true
    by true q f = and_right (is_over d.section) whole q
    by false q f = absurd cc
whole_is whole n d e (l ∷ ls) h = by (after_line d l) h (λ m. whole_is whole (n + 1) m e ls)
  where
    by : (o : Option Draft) → on_draft o (n + 1) (λ m. read_lines whole (n + 1) m ls) ≡ Ok e
        → ((m : Draft) → read_lines whole (n + 1) m ls ≡ Ok e → whole ≡ true) → whole ≡ true
    by None f k = absurd cc
    by (Some m) f k = k m f

-- ---- lines and their text

onto_text : (b : ℕ) (ls : List (List ℕ)) → 0 < length ls → flat_map with_newline (onto_first b ls) ≡ b ∷ flat_map with_newline ls
onto_text b [] some = absurd (omega arith)
onto_text b (l ∷ ls) some = refl

some_lines : (b : ℕ) (bs : List ℕ) → 0 < length (lines_of (b ∷ bs))
some_lines b bs = by (eqb b 10)
  where
    onto : (ls : List (List ℕ)) → 0 < length (onto_first b ls)
    onto [] = omega arith
    onto (l ∷ ls) = omega arith

    by : (t : Bool) → 0 < length (cond t ([] ∷ lines_of bs) (onto_first b (lines_of bs)))
    by true = omega arith
    by false = onto (lines_of bs)

last_more : (a b : ℕ) (bs : List ℕ) → ends_whole (a ∷ b ∷ bs) ≡ ends_whole (b ∷ bs)
last_more a b bs = ap is_newline (last_of_more a b bs)

-- the lines of a text that ends with a newline have its bytes
pub lines_again : (bs : List ℕ) → ends_whole bs ≡ true → flat_map with_newline (lines_of bs) ≡ bs
lines_again [] h = refl
lines_again (b ∷ []) h = by (eqb b 10) refl h
  where
    by : (t : Bool) → eqb b 10 ≡ t → t ≡ true → flat_map with_newline (cond t ([] ∷ []) ((b ∷ []) ∷ [])) ≡ b ∷ []
    by true q f = ap (λ c. c ∷ []) (sym (eqb-true b 10 q))
    by false q f = absurd cc
lines_again (a ∷ b ∷ bs) h = by (eqb a 10) refl (lines_again (b ∷ bs) (sym (last_more a b bs) ∙ h))
  where
    by : (t : Bool) → eqb a 10 ≡ t → flat_map with_newline (lines_of (b ∷ bs)) ≡ b ∷ bs
        → flat_map with_newline (cond t ([] ∷ lines_of (b ∷ bs)) (onto_first a (lines_of (b ∷ bs)))) ≡ a ∷ b ∷ bs
    by true q k = ap (λ c. c ∷ flat_map with_newline (lines_of (b ∷ bs))) (sym (eqb-true a 10 q)) ∙ ap (λ t. a ∷ t) k
    by false q k = onto_text a (lines_of (b ∷ bs)) (some_lines b bs) ∙ ap (λ t. a ∷ t) k

-- what is read of a text has that text
pub reads_its_text : (text : List ℕ) (e : Draft) → draft_of text ≡ Ok e → text_of (value_of e) ≡ text
reads_its_text text e h =
    reads_lines (ends_whole text) 0 empty_draft e (lines_of text) (one_lines text) good_start h
    ∙ lines_again text (whole_is (ends_whole text) 0 empty_draft e (lines_of text) h)
