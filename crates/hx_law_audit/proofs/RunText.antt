-- The text of a run's report is that of its lines.
use Rattle.std.specs.Fmt.{digits}
use Rattle.hx_law_lemmas.proofs.Lemmas.Vocabulary.{[], Answer, ap, append-nil, append_assoc, Bool, call_of, codes, Config, Entry, false, first_config, flat_map}
use Rattle.hx_law_lemmas.proofs.Lemmas.Vocabulary.{flat_map-append, inl, inr, IsIn, Item, List, lost_regions, map, None, Note, Op, Option, Post, Record}
use Rattle.hx_law_lemmas.proofs.Lemmas.Vocabulary.{records_of, refl, reverse, Script, Search, Some, Space, sym, Totals, TraceFits, true, Version, when_some, ℕ}
use Rattle.hx_law_lemmas.proofs.Lemmas.Vocabulary.{◌++◌, ◌+◌, ◌∙◌, ◌∷◌, ◌≡◌}
use Rattle.hx_types.specs.declared.calls.Answer.TheVariants as an_answer
use Rattle.hx_types.specs.declared.traces.Note.TheVariants as a_note
use Rattle.hx_history.specs.declared.key_histories.KeyHistory.{KeyHistory}
use Rattle.hx_print.specs.Printing.{op_text, space_text}
use Rattle.hx_report.specs.Driving.{driver_line, drivers_text}
use Rattle.hx_report.specs.Reporting as report
use Rattle.hx_report.specs.Reporting.{answer_lines, called_text, entry_lines, epochs_text, head_text, maybe_answer_lines, note_lines, record_lines, report_text}
use Rattle.hx_report.specs.Tracing.{entries_text, entry_line, post_line, posts_text, trace_text}
use Rattle.hx_law_lemmas.proofs.Lemmas.{began_at}
use Rattle.hx_report_lines.specs.declared.blocks.Block.{Block}
use Rattle.hx_report_lines.specs.declared.blocks.DriverLine.{DriverLine}
use Rattle.hx_report_lines.specs.declared.epochs.EpochLine.{EpochLine}
use Rattle.hx_report_lines.specs.Printed as line
use Rattle.hx_report_lines.specs.Printed.{block_text, call_text, driver_text, epoch_text, first_text, history_text, item_head, key_text, raw_text, text_of}
use Rattle.hx_report_lines.specs.Values.{ReportValue}
use Rattle.hx_law_audit.proofs.RunConfigs.{configs_of, issued_by}
use Rattle.hx_law_audit.proofs.RunLines.{call_line, call_lines, history_lines, item_line, record_in, version_of}
use Rattle.hx_law_audit.proofs.RunNotes.{began_called}
use Rattle.hx_law_audit.proofs.RunRaw.{entries_raw, entry_raw, post_raw, posts_raw, trace_raw}
use Rattle.hx_law_audit.proofs.RunTold.{IsTold, word_told}

-- ---- the lines of configurations and of drivers

abbrev pub config_line : Config → EpochLine
config_line config = record { epoch = config.epoch; servers = config.servers; lost = lost_regions config }

abbrev pub drivers_from : ℕ → List Totals → List DriverLine
drivers_from number [] = []
drivers_from number (t ∷ rest) = record { driver = number; totals = t } ∷ drivers_from (number + 1) rest

-- ---- the block and the report of a run

abbrev pub block_of : Script → List Entry → List KeyHistory → List Totals → Bool → Block
block_of script trace listed totals with_trace =
    record {
      space = script.space;
      calls = call_lines script trace;
      histories = map history_lines listed;
      epochs = map config_line (configs_of script trace);
      raw = trace_raw with_trace trace;
      drivers = drivers_from 1 totals;
    }

abbrev pub report_of : Script → List Entry → List KeyHistory → List Totals → Bool → ReportValue
report_of script trace listed totals with_trace = record { version = 1; blocks = block_of script trace listed totals with_trace ∷ [] }

-- ---- texts

flat_same : {A B C : Type 0} (f : A → B) (g : B → List C) (h : A → List C) (xs : List A)
    → ((x : A) → IsIn x xs → g (f x) ≡ h x) → flat_map g (map f xs) ≡ flat_map h xs
flat_same f g h [] same = refl
flat_same f g h (x ∷ xs) same = λ i. same x (inl refl) i ++ flat_same f g h xs (λ y j. same y (inr j)) i

-- the answer of a call is printed without regard to a version that it doesn't name
answer_same : (space : Space) (version : Version) (answer : Option Answer)
    → maybe_answer_lines space (version_of answer version) answer ≡ maybe_answer_lines space version answer
unfolding maybe_answer_lines answer_lines
answer_same space version None = refl
answer_same space version (Some an_answer.Done) = refl
answer_same space version (Some an_answer.NotFound) = refl
answer_same space version (Some an_answer.CmpFail) = refl
answer_same space version (Some an_answer.Overflow) = refl
answer_same space version (Some an_answer.TooLong) = refl
answer_same space version (Some (an_answer.Found object)) = refl
answer_same space version (Some other) = refl

-- a call
call_front : (script : Script) (r : Record) (op : Op) → call_of script r.caller ≡ Some op
    → line.called_text script.space (call_line script r) ≡ report.span_text r ++ codes " " ++ called_text script r.caller ++ codes " -> "
unfolding line.called_text line.span_text report.span_text called_text
call_front script r op e =
    ap (λ o. report.span_text r ++ codes " " ++ op_text script.space o ++ codes " -> ") (ap (λ o. when_some o (Search []) (λ (x : Op). x)) e)
    ∙ sym (ap (λ o. report.span_text r ++ codes " " ++ when_some o [] (op_text script.space) ++ codes " -> ") e)

call_same : (script : Script) (r : Record) (op : Op) → call_of script r.caller ≡ Some op → call_text script.space (call_line script r) ≡ record_lines script r
unfolding call_text record_lines
call_same script r op e = λ i. call_front script r op e i ++ answer_same script.space r.version r.answer i

calls_same : (script : Script) (trace : List Entry) → TraceFits script trace
    → flat_map (call_text script.space) (call_lines script trace) ≡ flat_map (record_lines script) (records_of script trace)
calls_same script trace fits =
    flat_same (call_line script) (call_text script.space) (record_lines script) (records_of script trace)
    (λ r i. let f = record_in script trace r i in let called = began_called script trace fits f.0 f.1 (began_at f.0 trace f.1 f.3) in
    call_same script r called.0 (ap (λ (x : Record). call_of script x.caller) f.4 ∙ called.1))

-- an item, and a history
item_same : (space : Space) (x : Item) → IsTold x → line.item_text space (item_line x) ≡ report.item_line space x
unfolding line.item_text item_head report.item_line report.item_text
item_same space x t = ap (λ w. report.item_text x ++ codes " " ++ w ++ codes " " ++ report.state_text space x.object ++ codes "\n") (sym (word_told x t))

history_same : (space : Space) (h : KeyHistory) → ((x : Item) → IsIn x h.items → IsTold x) → history_text space (history_lines h) ≡ report.history_lines space h
unfolding history_text key_text report.history_lines
history_same space h told = ap (λ w. key_text h.key ++ w)
    (flat_same item_line (line.item_text space) (report.item_line space) h.items (λ x i. item_same space x (told x i)))

histories_same : (space : Space) (listed : List KeyHistory) → ((h : KeyHistory) → IsIn h listed → (x : Item) → IsIn x h.items → IsTold x)
    → flat_map (history_text space) (map history_lines listed) ≡ flat_map (report.history_lines space) listed
histories_same space listed told = flat_same history_lines (history_text space) (report.history_lines space) listed (λ h i. history_same space h (told h i))

-- configurations
config_same : (config : Config) → epoch_text (config_line config) ≡ report.epoch_line config
unfolding epoch_text line.servers_text line.lost_text report.epoch_line report.servers_text report.lost_text
config_same config = refl

note_same : (n : Note) → flat_map epoch_text (map config_line (issued_by n)) ≡ note_lines n
unfolding note_lines
note_same (a_note.Issued config) = append-nil (epoch_text (config_line config)) ∙ config_same config
note_same (a_note.Began number) = refl
note_same (a_note.Ended number version answer) = refl
note_same (a_note.Assigned update) = refl

map_both : {A B : Type 0} (f : A → B) (xs ys : List A) → map f (xs ++ ys) ≡ map f xs ++ map f ys
map_both f [] ys = refl
map_both f (x ∷ xs) ys = ap (λ l. f x ∷ l) (map_both f xs ys)

-- what lists of lists have
flat_flat : {A B C D : Type 0} (f : B → C) (g : C → List D) (h : A → List B) (k : A → List D) (xs : List A)
    → ((x : A) → flat_map g (map f (h x)) ≡ k x) → flat_map g (map f (flat_map h xs)) ≡ flat_map k xs
flat_flat f g h k [] same = refl
flat_flat f g h k (x ∷ xs) same =
    ap (flat_map g) (map_both f (h x) (flat_map h xs)) ∙ flat_map-append g (map f (h x)) (map f (flat_map h xs))
    ∙ (λ i. same x i ++ flat_flat f g h k xs same i)

epochs_same : (script : Script) (trace : List Entry) → flat_map epoch_text (map config_line (configs_of script trace)) ≡ epochs_text script trace
unfolding epochs_text
epochs_same script trace =
    λ i. config_same (first_config script.space) i
    ++ flat_flat config_line epoch_text (λ (x : Entry). flat_map issued_by x.notes) entry_lines (reverse trace)
    (λ x. flat_flat config_line epoch_text issued_by note_lines x.notes note_same) i

-- the trace
post_same : (entry place : ℕ) (p : Post) → raw_text (post_raw entry place p) ≡ post_line entry place p
unfolding raw_text post_line
post_same entry place p = refl

posts_same : (entry place : ℕ) (ps : List Post) → flat_map raw_text (posts_raw entry place ps) ≡ posts_text entry place ps
unfolding posts_text
posts_same entry place [] = refl
posts_same entry place (p ∷ rest) = λ i. post_same entry place p i ++ posts_same entry (place + 1) rest i

entry_same : (number : ℕ) (x : Entry) → raw_text (entry_raw number x) ≡ entry_line number x
unfolding raw_text entry_line
entry_same number x = refl

entries_same : (number : ℕ) (xs : List Entry) → flat_map raw_text (entries_raw number xs) ≡ entries_text number xs
unfolding entries_text
entries_same number [] = refl
entries_same number (x ∷ rest) =
    ap (λ t. raw_text (entry_raw number x) ++ t) (flat_map-append raw_text (posts_raw number 0 x.outputs) (entries_raw (number + 1) rest))
    ∙ (λ i. entry_same number x i ++ (posts_same number 0 x.outputs i ++ entries_same (number + 1) rest i))
    ∙ sym (append_assoc (entry_line number x) (posts_text number 0 x.outputs) (entries_text (number + 1) rest))

trace_same : (with_trace : Bool) (trace : List Entry) → flat_map raw_text (trace_raw with_trace trace) ≡ trace_text with_trace trace
unfolding trace_text
trace_same false trace = refl
trace_same true trace = entries_same 1 (reverse trace)

-- drivers
drivers_same : (number : ℕ) (totals : List Totals) → flat_map driver_text (drivers_from number totals) ≡ drivers_text number totals
unfolding drivers_text
drivers_same number [] = refl
drivers_same number (t ∷ rest) = ap (λ l. driver_line number t ++ l) (drivers_same (number + 1) rest)

-- the first line
first_same : first_text 1 ≡ codes "report 1\n"
unfolding first_text digits
first_same = refl

parts : (f s a h e r d n : List ℕ) → f ++ ((s ++ a ++ h ++ e ++ r ++ d) ++ []) ++ n ≡ f ++ s ++ a ++ h ++ e ++ r ++ d ++ n
parts f s a h e r d n = simp (append_assoc, append-nil)

pub text_same : (script : Script) (trace : List Entry) → TraceFits script trace → (listed : List KeyHistory)
    → ((h : KeyHistory) → IsIn h listed → (x : Item) → IsIn x h.items → IsTold x)
    → (totals : List Totals) (with_trace : Bool) → text_of (report_of script trace listed totals with_trace) ≡ report_text script trace listed totals with_trace
unfolding text_of block_text report_text head_text
text_same script trace fits listed told totals with_trace =
    parts (first_text 1) (space_text script.space) (flat_map (call_text script.space) (call_lines script trace))
    (flat_map (history_text script.space) (map history_lines listed))
    (flat_map epoch_text (map config_line (configs_of script trace))) (flat_map raw_text (trace_raw with_trace trace))
    (flat_map driver_text (drivers_from 1 totals)) (codes "end\n")
    ∙ (λ i. first_same i ++ space_text script.space ++ calls_same script trace fits i
    ++ histories_same script.space listed told i ++ epochs_same script trace i ++ trace_same with_trace trace i
    ++ drivers_same 1 totals i ++ codes "end\n")
