-- Blocks that are printed are read again, list by list.
use Rattle.std.proofs.Common.{◌≡◌, ◌≢◌, ℕ, suc, ◌+◌, ◌-◌, Bool, true, false, cond, List, [], ◌∷◌, ◌++◌, map}
use Rattle.std.proofs.Common.{length, eqb, Option, None, Some, inl, inr, refl, sym, ap, subst, ◌∙◌, arith}
use Rattle.std.specs.Prelude.{◌⊎◌, codes, nat_lt}
use Rattle.std.specs.List.{All, flat_map}
use Rattle.std.specs.Option.{option_map}
use Rattle.std.proofs.lemmas.Bool.{ne_eqb}
use Rattle.std.proofs.lemmas.List.{append_assoc, append-nil}
use Rattle.std.proofs.lemmas.List.Elements.{All-head, All-tail}
use Rattle.hx_model.specs.Types.{Answer, Row, Space}
use Rattle.hx_types.specs.declared.calls.Answer.TheVariants as an_answer
use Rattle.hx_types.specs.Spaces.{IsSpace}
use Rattle.hx_types.specs.Words.{text_below}
use Rattle.hx_print.specs.Printing.{space_text}
use Rattle.hx_report.specs.Driving.{driver_line}
use Rattle.hx_report.specs.Reporting.{answer_lines, maybe_answer_lines, row_line, rows_lines}
use Rattle.hx_report_lines.specs.declared.blocks.Block.{Block}
use Rattle.hx_report_lines.specs.declared.blocks.DriverLine.{DriverLine}
use Rattle.hx_report_lines.specs.declared.call_lines.CallHead.{CallHead}
use Rattle.hx_report_lines.specs.declared.calls.CallLine.{CallLine}
use Rattle.hx_report_lines.specs.declared.drafts.Draft.{Draft}
use Rattle.hx_report_lines.specs.declared.drafts.Open.TheVariants as opens
use Rattle.hx_report_lines.specs.declared.drafts.Section.TheVariants as sections
use Rattle.hx_report_lines.specs.declared.epochs.EpochLine.{EpochLine}
use Rattle.hx_report_lines.specs.declared.histories.HistoryLines.{HistoryLines}
use Rattle.hx_report_lines.specs.declared.histories.ItemLine.{ItemLine}
use Rattle.hx_report_lines.specs.declared.kinds.Kind.{Kind}
use Rattle.hx_report_lines.specs.declared.kinds.Kind.TheVariants as kinds
use Rattle.hx_report_lines.specs.Calling.{head_lines, row_of}
use Rattle.hx_report_lines.specs.Drafts.{after_line, begun, call_after, driver_after, epoch_after, is_none}
use Rattle.hx_report_lines.specs.Drafts.{key_after, kind_of, last_of, line_in, line_of_kind, put_driver}
use Rattle.hx_report_lines.specs.Drafts.{put_epoch, put_head, put_key, put_raw, raw_after, settled}
use Rattle.hx_report_lines.specs.Drafts.{with_call, with_rows}
use Rattle.hx_report_lines.specs.Printed.{block_text, call_text, called_text, driver_text, epoch_text, history_text}
use Rattle.hx_report_lines.specs.Printed.{item_head, item_text, key_text, raw_text, span_text}
use Rattle.hx_report_lines.specs.Readers.{on_some}
use Rattle.hx_report_lines.specs.Values.{AscendsFrom, BeginsWith, IsBlock, IsCallOf, IsDriverLine, IsEpochOf}
use Rattle.hx_report_lines.specs.Values.{IsHistoryOf, IsItemOf, IsRawLine, MaybeAnswerOf, caller_below, is_after}
use Rattle.hx_report_lines.proofs.Ascending.{last_of_more}
use Rattle.hx_report_lines.proofs.CallsRead.{IsRow}
use Rattle.hx_report_lines.proofs.CallsTaken.{answer_printed, bare_answer, call_front, head_for, head_taken, row_front, row_taken, rows_after}
use Rattle.hx_report_lines.proofs.DraftsRead.{IsOneLine}
use Rattle.hx_report_lines.proofs.EpochsTaken.{epoch_front, epoch_taken}
use Rattle.hx_report_lines.proofs.Goes.{Goes, Stands, Steps, goes_as, goes_nowhere, goes_then, no_step, one_step, steps_then}
use Rattle.hx_report_lines.proofs.LinesTaken.{driver_front, driver_taken, item_line, item_taken, key_line, key_taken, raw_taken}
use Rattle.hx_report_lines.proofs.OneLines.{call_one, driver_one, epoch_one, item_one, key_one, row_one}
use Rattle.hx_report_lines.proofs.SpacesTaken.{Starts, body, space_steps}
use Rattle.hx_report_lines.proofs.TextsRead.{with_newline}

-- ---- lists, item by item

pub last_push : {A : Type 0} (done : List A) (x : A) → last_of (done ++ x ∷ []) ≡ Some x
last_push [] x = refl
last_push (y ∷ []) x = last_of_more y x []
last_push (y ∷ z ∷ zs) x = last_of_more y z (zs ++ x ∷ []) ∙ last_push (z ∷ zs) x

-- where each item leads on, all do
all_go : {A : Type 0} (f : A → List ℕ) (P : A → Type 0) (state : List A → Draft)
    → ((done : List A) (x : A) (d : Draft) → Stands d (state done) → P x → Goes d (f x) (state (done ++ x ∷ [])))
    → (left done : List A) (d : Draft) → Stands d (state done) → All P left → Goes d (flat_map f left) (state (done ++ left))
all_go {A} f P state each [] done d stands all = goes_nowhere d (state (done ++ [])) (subst (λ xs. Stands d (state xs)) (sym (append-nil done)) stands)
all_go {A} f P state each (x ∷ left) done d stands all =
    subst (λ xs. Goes d (f x ++ flat_map f left) (state xs)) (append_assoc done (x ∷ []) left)
    (goes_then d (state (done ++ x ∷ [])) (state ((done ++ x ∷ []) ++ left)) (f x) (flat_map f left) (each done x d stands (All-head P x left all))
    (λ m s. all_go f P state each left (done ++ x ∷ []) m s (All-tail P x left all)))

-- the same of items that ascend
up_go : {A B : Type 0} (f : A → List ℕ) (P : A → Type 0) (below : B → B → Bool) (key : A → B) (state : List A → Draft)
    → ((done : List A) (x : A) (d : Draft) → Stands d (state done) → P x
    → is_after below (option_map key (last_of done)) (key x) ≡ true → Goes d (f x) (state (done ++ x ∷ [])))
    → (left done : List A) (d : Draft) → Stands d (state done) → All P left
    → AscendsFrom below (option_map key (last_of done)) (map key left) → Goes d (flat_map f left) (state (done ++ left))
up_go {A} {B} f P below key state each [] done d stands all up =
    goes_nowhere d (state (done ++ [])) (subst (λ xs. Stands d (state xs)) (sym (append-nil done)) stands)
up_go {A} {B} f P below key state each (x ∷ left) done d stands all up =
    let next : AscendsFrom below (option_map key (last_of (done ++ x ∷ []))) (map key left) =
    subst (λ o. AscendsFrom below (option_map key o) (map key left)) (sym (last_push done x)) up.1 in
    subst (λ xs. Goes d (f x ++ flat_map f left) (state xs)) (append_assoc done (x ∷ []) left)
    (goes_then d (state (done ++ x ∷ [])) (state ((done ++ x ∷ []) ++ left)) (f x) (flat_map f left) (each done x d stands (All-head P x left all) up.0)
    (λ m s. up_go f P below key state each left (done ++ x ∷ []) m s (All-tail P x left all) next))

-- ---- lines of a block

pub of_kind : (d : Draft) (k : Kind) (line : List ℕ) → d.section ≡ sections.Body → kind_of line ≡ Some k → after_line d line ≡ line_of_kind d line k
of_kind d k line s h = ap (line_in d line) s ∙ ap (λ o. on_some o (line_of_kind d line)) h

-- a line that comes behind what is settled
pub settled_step : (d e m : Draft) (k : Kind) (line : List ℕ) (f : Draft → Option Draft) → Stands d e → IsOneLine line
    → kind_of line ≡ Some k → line_of_kind d line k ≡ on_some (settled d) f → f e ≡ Some m → Steps d (with_newline line) m
settled_step d e m k line f stands one known is read =
    one_step d m line one (of_kind d k line stands.section known ∙ is ∙ ap (λ o. on_some o f) stands.settles ∙ read)

if_so : (b : Bool) (o : Option Draft) → b ≡ true → cond b o None ≡ o
if_so b o h = ap (λ t. cond t o None) h

-- a block of these lists
abbrev pub lists : Space → List CallLine → List HistoryLines → List EpochLine → List (List ℕ) → List DriverLine → Block
lists space calls histories epochs raw drivers = record { space = space; calls = calls; histories = histories; epochs = epochs; raw = raw; drivers = drivers }

-- ---- drivers, lines of the trace, configurations

driver_cut : (x : DriverLine) → driver_text x ≡ with_newline (driver_front x)
unfolding driver_line
driver_cut x = refl

driver_goes : (v : ℕ) (bs : List Block) (b : Block) (done : List DriverLine) (x : DriverLine) (d : Draft)
    → Stands d (body v bs (record b { drivers = done })) → IsDriverLine x
    → Goes d (driver_text x) (body v bs (record b { drivers = done ++ x ∷ [] }))
driver_goes v bs b done x d stands is =
    let e : Draft = body v bs (record b { drivers = done }) in
    let m : Draft = body v bs (record b { drivers = done ++ x ∷ [] }) in
    goes_as d m (with_newline (driver_front x)) (driver_text x) (sym (driver_cut x)) (record {
      to = m;
      steps = settled_step d e m kinds.Driver (driver_front x) (driver_after (driver_front x)) stands
          (driver_one x is) refl refl (ap (λ o. on_some o (put_driver e)) (driver_taken x is));
      stands = record { section = refl; settles = refl };
    })

raw_cut : (line : List ℕ) → raw_text line ≡ with_newline line
unfolding raw_text
raw_cut line = refl

raw_kind : (line : List ℕ) → IsRawLine line → kind_of line ≡ Some kinds.Raw
raw_kind line is = by is.begins
  where
    by : BeginsWith (codes "entry ") line ⊎ BeginsWith (codes "post ") line → kind_of line ≡ Some kinds.Raw
    by (inl b) = ap kind_of b.1
    by (inr b) = ap kind_of b.1

raw_goes : (v : ℕ) (bs : List Block) (space : Space) (calls : List CallLine) (histories : List HistoryLines)
    (epochs : List EpochLine) (done : List (List ℕ)) (x : List ℕ) (d : Draft)
    → Stands d (body v bs (lists space calls histories epochs done [])) → IsRawLine x
    → Goes d (raw_text x) (body v bs (lists space calls histories epochs (done ++ x ∷ []) []))
raw_goes v bs space calls histories epochs done x d stands is =
    let e : Draft = body v bs (lists space calls histories epochs done []) in
    let m : Draft = body v bs (lists space calls histories epochs (done ++ x ∷ []) []) in
    goes_as d m (with_newline x) (raw_text x) (sym (raw_cut x)) (record {
      to = m;
      steps = settled_step d e m kinds.Raw x (raw_after x) stands is.one_line (raw_kind x is) refl (ap (λ o. on_some o (put_raw e)) (raw_taken x is));
      stands = record { section = refl; settles = refl };
    })

epoch_cut : (x : EpochLine) → epoch_text x ≡ with_newline (epoch_front x)
unfolding epoch_text
epoch_cut x = refl

epoch_goes : (v : ℕ) (bs : List Block) (space : Space) (calls : List CallLine) (histories : List HistoryLines)
    → IsSpace space → (done : List EpochLine) (x : EpochLine) (d : Draft)
    → Stands d (body v bs (lists space calls histories done [] [])) → IsEpochOf space x
    → is_after nat_lt (option_map (λ (e : EpochLine). e.epoch.0) (last_of done)) x.epoch.0 ≡ true
    → Goes d (epoch_text x) (body v bs (lists space calls histories (done ++ x ∷ []) [] []))
epoch_goes v bs space calls histories valid done x d stands is up =
    let e : Draft = body v bs (lists space calls histories done [] []) in
    let m : Draft = body v bs (lists space calls histories (done ++ x ∷ []) [] []) in
    goes_as d m (with_newline (epoch_front x)) (epoch_text x) (sym (epoch_cut x)) (record {
      to = m;
      steps = settled_step d e m kinds.Epoch (epoch_front x) (epoch_after (epoch_front x)) stands (epoch_one space x valid is) refl refl
          (ap (λ o. on_some o (put_epoch e)) (epoch_taken space x valid is)
          ∙ if_so (is_after nat_lt (option_map (λ (e : EpochLine). e.epoch.0) (last_of done)) x.epoch.0) (Some m) up);
      stands = record { section = refl; settles = refl };
    })

-- ---- histories

item_cut : (space : Space) (x : ItemLine) → item_text space x ≡ with_newline (item_line space x)
unfolding item_text
item_cut space x = refl

item_kind : (space : Space) (x : ItemLine) → kind_of (item_line space x) ≡ Some kinds.Item
unfolding item_head
item_kind space x = refl

-- a draft within a history
abbrev in_history : Draft → List ℕ → List ItemLine → Draft
in_history e key items = record e { pending = opens.History key items }

item_step : (v : ℕ) (bs : List Block) (b : Block) (key : List ℕ) (done : List ItemLine) (x : ItemLine) → IsSpace b.space → IsItemOf b.space x
    → Steps (in_history (body v bs b) key done) (item_text b.space x) (in_history (body v bs b) key (done ++ x ∷ []))
item_step v bs b key done x valid is =
    let d : Draft = in_history (body v bs b) key done in
    let m : Draft = in_history (body v bs b) key (done ++ x ∷ []) in
    subst (λ t. Steps d t m) (sym (item_cut b.space x))
    (one_step d m (item_line b.space x) (item_one b.space x valid is)
    (of_kind d kinds.Item (item_line b.space x) refl (item_kind b.space x)
    ∙ ap (λ o. on_some o (λ y. Some (in_history (body v bs b) key (done ++ y ∷ [])))) (item_taken b.space x valid is)))

items_step : (v : ℕ) (bs : List Block) (b : Block) (key : List ℕ) (done left : List ItemLine) → IsSpace b.space → All (IsItemOf b.space) left
    → Steps (in_history (body v bs b) key done) (flat_map (item_text b.space) left) (in_history (body v bs b) key (done ++ left))
items_step v bs b key done [] valid all =
    subst (λ xs. Steps (in_history (body v bs b) key done) [] (in_history (body v bs b) key xs))
    (sym (append-nil done)) (no_step (in_history (body v bs b) key done))
items_step v bs b key done (x ∷ left) valid all =
    let d : Draft = in_history (body v bs b) key done in
    let m : Draft = in_history (body v bs b) key (done ++ x ∷ []) in
    let e : Draft = in_history (body v bs b) key ((done ++ x ∷ []) ++ left) in
    subst (λ xs. Steps d (item_text b.space x ++ flat_map (item_text b.space) left) (in_history (body v bs b) key xs)) (append_assoc done (x ∷ []) left)
    (steps_then d m e (item_text b.space x) (flat_map (item_text b.space) left) (item_step v bs b key done x valid (All-head (IsItemOf b.space) x left all))
    (items_step v bs b key (done ++ x ∷ []) left valid (All-tail (IsItemOf b.space) x left all)))

some_items : (items : List ItemLine) → items ≢ [] → is_none items ≡ false
some_items [] h = absurd (h refl)
some_items (x ∷ items) h = ne_eqb (length (x ∷ items)) 0 (λ e. absurd (omega (arith, e)))

history_cut : (space : Space) (h : HistoryLines) → history_text space h ≡ with_newline (key_line h.key) ++ flat_map (item_text space) h.items
unfolding history_text key_text
history_cut space h = refl

history_goes : (v : ℕ) (bs : List Block) (space : Space) (calls : List CallLine) → IsSpace space
    → (done : List HistoryLines) (x : HistoryLines) (d : Draft)
    → Stands d (body v bs (lists space calls done [] [] [])) → IsHistoryOf space x
    → is_after text_below (option_map (λ (h : HistoryLines). h.key) (last_of done)) x.key ≡ true
    → Goes d (history_text space x) (body v bs (lists space calls (done ++ x ∷ []) [] [] []))
history_goes v bs space calls valid done x d stands is up =
    let b : Block = lists space calls done [] [] [] in
    let e : Draft = body v bs b in
    let m : Draft = in_history e x.key [] in
    let n : Draft = in_history e x.key x.items in
    let f : Draft = body v bs (lists space calls (done ++ x ∷ []) [] [] []) in
    goes_as d f (with_newline (key_line x.key) ++ flat_map (item_text space) x.items) (history_text space x) (sym (history_cut space x)) (record {
      to = n;
      steps = steps_then d m n (with_newline (key_line x.key)) (flat_map (item_text space) x.items)
          (settled_step d e m kinds.History (key_line x.key) (key_after (key_line x.key)) stands (key_one x.key is.said) refl refl
          (ap (λ o. on_some o (put_key e)) (key_taken space x.key valid is.key is.said)
          ∙ if_so (is_after text_below (option_map (λ (h : HistoryLines). h.key) (last_of done)) x.key) (Some m) up))
          (items_step v bs b x.key [] x.items valid is.items);
      stands = record { section = refl; settles = ap (λ t. cond t None (Some f)) (some_items x.items is.some) };
    })

-- ---- calls

row_cut : (space : Space) (r : Row) → row_line space r ≡ with_newline (row_front space r)
unfolding row_line
row_cut space r = refl

-- a draft within a call
abbrev in_rows : Draft → CallLine → List Row → ℕ → Draft
in_rows e c rows left = record e { pending = opens.Rows c rows left }

row_step : (v : ℕ) (bs : List Block) (b : Block) (c : CallLine) (done : List Row) (r : Row) (n : ℕ) → IsSpace b.space
    → IsRow b.space r → Steps (in_rows (body v bs b) c done (suc n)) (row_line b.space r)
    (in_rows (body v bs b) c (done ++ r ∷ []) n)
row_step v bs b c done r n valid is =
    let d : Draft = in_rows (body v bs b) c done (suc n) in
    let m : Draft = in_rows (body v bs b) c (done ++ r ∷ []) n in
    let less : suc n - 1 ≡ n = omega arith in
    let some : eqb (suc n) 0 ≡ false = ne_eqb (suc n) 0 (λ e. absurd (omega (arith, e))) in
    let put : Row → Option Draft = λ y. Some (in_rows (body v bs b) c (done ++ y ∷ []) (suc n - 1)) in
    subst (λ t. Steps d t m) (sym (row_cut b.space r))
    (one_step d m (row_front b.space r) (row_one b.space r valid is)
    (of_kind d kinds.Row (row_front b.space r) refl refl
    ∙ ap (λ t. cond t None (on_some (row_of b.space (row_front b.space r)) put)) some
    ∙ ap (λ o. on_some o put) (row_taken b.space r valid is)
    ∙ ap (λ k. Some (in_rows (body v bs b) c (done ++ r ∷ []) k)) less))

rows_step : (v : ℕ) (bs : List Block) (b : Block) (c : CallLine) (done left : List Row) (n : ℕ) → n ≡ length left
    → IsSpace b.space → All (IsRow b.space) left → Steps (in_rows (body v bs b) c done n)
    (flat_map (row_line b.space) left) (in_rows (body v bs b) c (done ++ left) 0)
rows_step v bs b c done [] n long valid all =
    let none : n ≡ 0 = long in
    subst (λ k. Steps (in_rows (body v bs b) c done k) [] (in_rows (body v bs b) c (done ++ []) 0)) (sym none)
    (subst (λ xs. Steps (in_rows (body v bs b) c done 0) [] (in_rows (body v bs b) c xs 0)) (sym (append-nil done)) (no_step (in_rows (body v bs b) c done 0)))
rows_step v bs b c done (r ∷ left) n long valid all =
    let k : ℕ = length left in
    let d : Draft = in_rows (body v bs b) c done (suc k) in
    let m : Draft = in_rows (body v bs b) c (done ++ r ∷ []) k in
    let e : Draft = in_rows (body v bs b) c ((done ++ r ∷ []) ++ left) 0 in
    let more : n ≡ suc k = long in
    subst (λ j. Steps (in_rows (body v bs b) c done j) (row_line b.space r ++ flat_map (row_line b.space) left)
    (in_rows (body v bs b) c (done ++ r ∷ left) 0)) (sym more)
    (subst (λ xs. Steps d (row_line b.space r ++ flat_map (row_line b.space) left) (in_rows (body v bs b) c xs 0)) (append_assoc done (r ∷ []) left)
    (steps_then d m e (row_line b.space r) (flat_map (row_line b.space) left) (row_step v bs b c done r k valid (All-head (IsRow b.space) r left all))
    (rows_step v bs b c (done ++ r ∷ []) left k refl valid (All-tail (IsRow b.space) r left all))))

call_kind : (space : Space) (c : CallLine) → kind_of (call_front space c) ≡ Some kinds.Call
unfolding called_text span_text
call_kind space c = refl

-- the first line of a call
first_step : (v : ℕ) (bs : List Block) (space : Space) (done : List CallLine) (c : CallLine) (d m : Draft)
    → IsSpace space → Stands d (body v bs (lists space done [] [] [] [])) → IsCallOf space c
    → is_after caller_below (option_map (λ (x : CallLine). x.caller) (last_of done)) c.caller ≡ true
    → begun (body v bs (lists space done [] [] [] [])) (head_for c) (bare_answer c.answer) ≡ m
    → Steps d (with_newline (call_front space c)) m
first_step v bs space done c d m valid stands is up to =
    let e : Draft = body v bs (lists space done [] [] [] []) in
    settled_step d e m kinds.Call (call_front space c) (call_after (call_front space c)) stands (call_one space c valid is) (call_kind space c) refl
    (ap (λ o. on_some o (put_head e)) (head_taken space c valid is)
    ∙ if_so (is_after caller_below (option_map (λ (x : CallLine). x.caller) (last_of done)) c.caller) (Some (begun e (head_for c) (bare_answer c.answer))) up
    ∙ ap (λ x. Some x) to)

front_text_is : (space : Space) (c : CallLine) → called_text space c
    ++ head_lines space c.version (bare_answer c.answer) (rows_after c.answer) ≡ with_newline (call_front space c)
front_text_is space c = ap (λ t. called_text space c ++ t) (answer_printed space c.version c.answer) ∙ sym (append_assoc (called_text space c) _ (10 ∷ []))

call_is : (space : Space) (c : CallLine) → call_text space c ≡ called_text space c ++ maybe_answer_lines space c.version c.answer
unfolding call_text
call_is space c = refl

same_call : (c : CallLine) (a : Option Answer) → c.answer ≡ a → record c { answer = a } ≡ c
same_call c a q = ap (λ (x : Option Answer). record c { answer = x }) (sym q)

plain_goes : (v : ℕ) (bs : List Block) (space : Space) (done : List CallLine) (c : CallLine) (d : Draft)
    → IsSpace space → Stands d (body v bs (lists space done [] [] [] [])) → IsCallOf space c
    → is_after caller_below (option_map (λ (x : CallLine). x.caller) (last_of done)) c.caller ≡ true → (a : Option Answer) → c.answer ≡ a → bare_answer a ≡ a
    → begun (body v bs (lists space done [] [] [] [])) (head_for c) (bare_answer a) ≡ with_call (body v bs (lists space done [] [] [] [])) (head_for c).call
    → head_lines space c.version (bare_answer a) (rows_after a) ≡ maybe_answer_lines space c.version a
    → Goes d (call_text space c) (body v bs (lists space (done ++ c ∷ []) [] [] [] []))
plain_goes v bs space done c d valid stands is up a q bare begins printed =
    let e : Draft = body v bs (lists space done [] [] [] []) in
    let m : Draft = body v bs (lists space (done ++ c ∷ []) [] [] [] []) in
    let call : (head_for c).call ≡ c = same_call c (bare_answer c.answer) (sym (ap bare_answer q ∙ bare ∙ sym q)) in
    let to : begun e (head_for c) (bare_answer c.answer) ≡ m =
    ap (λ (x : Option Answer). begun e (head_for c) (bare_answer x)) q ∙ begins ∙ ap (with_call e) call in
    let text : with_newline (call_front space c) ≡ call_text space c =
    sym (front_text_is space c) ∙ ap (λ (x : Option Answer). called_text space c ++ head_lines space c.version (bare_answer x) (rows_after x)) q
    ∙ ap (λ t. called_text space c ++ t) printed ∙ ap
    (λ (x : Option Answer). called_text space c ++ maybe_answer_lines space c.version x) (sym q) ∙ sym (call_is space c) in
    goes_as d m (with_newline (call_front space c)) (call_text space c) text (record {
      to = m;
      steps = first_step v bs space done c d m valid stands is up to;
      stands = record { section = refl; settles = refl };
    })

rows_are : (space : Space) (rows : List Row) (c : CallLine) → c.answer ≡ Some (an_answer.Rows rows) → MaybeAnswerOf space c.answer → All (IsRow space) rows
rows_are space rows c q of =
    let is : MaybeAnswerOf space (Some (an_answer.Rows rows)) = subst (MaybeAnswerOf space) q of in
    λ k d lt. record { of = is.0 k d lt; said = is.1.1 k d lt }

rows_printed : (space : Space) (c : CallLine) (rows : List Row)
    → maybe_answer_lines space c.version (Some (an_answer.Rows rows))
    ≡ head_lines space c.version (Some (an_answer.Rows [])) (length rows) ++ flat_map (row_line space) rows
unfolding maybe_answer_lines answer_lines rows_lines
rows_printed space c rows = refl

rows_go : (v : ℕ) (bs : List Block) (space : Space) (done : List CallLine) (c : CallLine) (d : Draft) → IsSpace space
    → Stands d (body v bs (lists space done [] [] [] [])) → IsCallOf space c
    → is_after caller_below (option_map (λ (x : CallLine). x.caller) (last_of done)) c.caller ≡ true
    → (rows : List Row) → c.answer ≡ Some (an_answer.Rows rows)
    → Goes d (call_text space c) (body v bs (lists space (done ++ c ∷ []) [] [] [] []))
rows_go v bs space done c d valid stands is up rows q =
    let b : Block = lists space done [] [] [] [] in
    let e : Draft = body v bs b in
    let h : CallHead = head_for c in
    let m : Draft = in_rows e h.call [] h.rows in
    let n : Draft = in_rows e h.call rows 0 in
    let f : Draft = body v bs (lists space (done ++ c ∷ []) [] [] [] []) in
    let to : begun e h (bare_answer c.answer) ≡ m = ap (λ (x : Option Answer). begun e h (bare_answer x)) q in
    let many : h.rows ≡ length rows = ap rows_after q in
    let whole : with_rows h.call rows ≡ c = same_call c (Some (an_answer.Rows rows)) q in
    let text : with_newline (call_front space c) ++ flat_map (row_line space) rows ≡ call_text space c =
    ap (λ t. t ++ flat_map (row_line space) rows) (sym (front_text_is space c))
    ∙ append_assoc (called_text space c) (head_lines space c.version (bare_answer c.answer) (rows_after c.answer)) (flat_map (row_line space) rows)
    ∙ ap (λ (x : Option Answer). called_text space c ++ (head_lines space c.version (bare_answer x) (rows_after x) ++ flat_map (row_line space) rows)) q
    ∙ ap (λ t. called_text space c ++ t) (sym (rows_printed space c rows))
    ∙ ap (λ (x : Option Answer). called_text space c ++ maybe_answer_lines space c.version x) (sym q) ∙ sym (call_is space c) in
    goes_as d f (with_newline (call_front space c) ++ flat_map (row_line space) rows) (call_text space c) text (record {
      to = n;
      steps = steps_then d m n (with_newline (call_front space c)) (flat_map (row_line space) rows) (first_step v bs space done c d m valid stands is up to)
          (rows_step v bs b h.call [] rows h.rows many valid (rows_are space rows c q is.answer));
      stands = record { section = refl; settles = ap (λ (x : CallLine). Some (with_call n x)) whole };
    })

call_goes : (v : ℕ) (bs : List Block) (space : Space) → IsSpace space
    → (done : List CallLine) (c : CallLine) (d : Draft) → Stands d (body v bs (lists space done [] [] [] [])) → IsCallOf space c
    → is_after caller_below (option_map (λ (x : CallLine). x.caller) (last_of done)) c.caller ≡ true
    → Goes d (call_text space c) (body v bs (lists space (done ++ c ∷ []) [] [] [] []))
call_goes v bs space valid done c d stands is up = by c.answer refl
  where
    by : (a : Option Answer) → c.answer ≡ a → Goes d (call_text space c) (body v bs (lists space (done ++ c ∷ []) [] [] [] []))
    by None q = plain_goes v bs space done c d valid stands is up None q refl refl refl
    by (Some an_answer.Done) q = plain_goes v bs space done c d valid stands is up (Some an_answer.Done) q refl refl refl
    by (Some an_answer.NotFound) q = plain_goes v bs space done c d valid stands is up (Some an_answer.NotFound) q refl refl refl
    by (Some an_answer.CmpFail) q = plain_goes v bs space done c d valid stands is up (Some an_answer.CmpFail) q refl refl refl
    by (Some an_answer.Overflow) q = plain_goes v bs space done c d valid stands is up (Some an_answer.Overflow) q refl refl refl
    by (Some an_answer.TooLong) q = plain_goes v bs space done c d valid stands is up (Some an_answer.TooLong) q refl refl refl
    by (Some (an_answer.Found object)) q = plain_goes v bs space done c d valid stands is up (Some (an_answer.Found object)) q refl refl refl
    by (Some (an_answer.Rows rows)) q = rows_go v bs space done c d valid stands is up rows q
    by (Some (an_answer.Refused region epoch)) q = plain_goes v bs space done c d valid stands is up (Some (an_answer.Refused region epoch)) q refl refl refl
    by (Some (an_answer.Doubt region epoch)) q = plain_goes v bs space done c d valid stands is up (Some (an_answer.Doubt region epoch)) q refl refl refl
    by (Some (an_answer.Issued epoch)) q = plain_goes v bs space done c d valid stands is up (Some (an_answer.Issued epoch)) q refl refl refl
    by (Some (an_answer.Stopped epoch)) q = plain_goes v bs space done c d valid stands is up (Some (an_answer.Stopped epoch)) q refl refl refl
    by (Some (an_answer.Member epoch)) q = plain_goes v bs space done c d valid stands is up (Some (an_answer.Member epoch)) q refl refl refl
    by (Some (an_answer.Joining epoch)) q = plain_goes v bs space done c d valid stands is up (Some (an_answer.Joining epoch)) q refl refl refl
    by (Some (an_answer.Lost epoch)) q = plain_goes v bs space done c d valid stands is up (Some (an_answer.Lost epoch)) q refl refl refl

-- ---- a whole block

pub block_goes : (d : Draft) (v : ℕ) (bs : List Block) (b : Block) → Starts d v bs → IsBlock b → Goes d (block_text b) (body v bs b)
unfolding block_text
block_goes d v bs b starts is =
    let space : Space = b.space in
    let valid : IsSpace space = is.space.valid in
    let e0 : Draft = body v bs (lists space [] [] [] [] []) in
    let e1 : Draft = body v bs (lists space b.calls [] [] [] []) in
    let e2 : Draft = body v bs (lists space b.calls b.histories [] [] []) in
    let e3 : Draft = body v bs (lists space b.calls b.histories b.epochs [] []) in
    let e4 : Draft = body v bs (lists space b.calls b.histories b.epochs b.raw []) in
    let e5 : Draft = body v bs b in
    let t0 : List ℕ = space_text space in
    let t1 : List ℕ = flat_map (call_text space) b.calls in
    let t2 : List ℕ = flat_map (history_text space) b.histories in
    let t3 : List ℕ = flat_map epoch_text b.epochs in
    let t4 : List ℕ = flat_map raw_text b.raw in
    let t5 : List ℕ = flat_map driver_text b.drivers in
    let g0 : Goes d t0 e0 = record { to = e0; steps = space_steps d v bs space is.space starts; stands = record { section = refl; settles = refl } } in
    let g1 : Goes d (t0 ++ t1) e1 = goes_then d e0 e1 t0 t1 g0
    (λ m s. up_go (call_text space) (IsCallOf space) caller_below (λ (x : CallLine). x.caller)
    (λ cs. body v bs (lists space cs [] [] [] [])) (call_goes v bs space valid) b.calls [] m s is.calls is.calls_ascend) in
    let g2 : Goes d (t0 ++ t1 ++ t2) e2 = goes_then d e1 e2 (t0 ++ t1) t2 g1
    (λ m s. up_go (history_text space) (IsHistoryOf space) text_below (λ (x : HistoryLines). x.key)
    (λ hs. body v bs (lists space b.calls hs [] [] [])) (history_goes v bs space b.calls valid) b.histories
    [] m s is.histories is.histories_ascend) in
    let g3 : Goes d (t0 ++ t1 ++ t2 ++ t3) e3 = goes_then d e2 e3 (t0 ++ t1 ++ t2) t3 g2
    (λ m s. up_go epoch_text (IsEpochOf space) nat_lt (λ (x : EpochLine). x.epoch.0)
    (λ es. body v bs (lists space b.calls b.histories es [] []))
    (epoch_goes v bs space b.calls b.histories valid) b.epochs [] m s is.epochs is.epochs_ascend) in
    let g4 : Goes d (t0 ++ t1 ++ t2 ++ t3 ++ t4) e4 = goes_then d e3 e4 (t0 ++ t1 ++ t2 ++ t3) t4 g3
    (λ m s. all_go raw_text IsRawLine (λ rs. body v bs (lists space b.calls b.histories b.epochs rs []))
    (raw_goes v bs space b.calls b.histories b.epochs) b.raw [] m s is.raw) in
    goes_then d e4 e5 (t0 ++ t1 ++ t2 ++ t3 ++ t4) t5 g4
    (λ m s. all_go driver_text IsDriverLine (λ ds. body v bs (lists space b.calls b.histories b.epochs b.raw ds))
    (driver_goes v bs b) b.drivers [] m s is.drivers)
