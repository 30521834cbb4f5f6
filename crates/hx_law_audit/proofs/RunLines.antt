-- The lines that a run has in its report: its calls and histories, and which of them is whose.
use Rattle.hx_law_lemmas.proofs.Lemmas.Vocabulary.{[], Answer, ap, begin_of, Bool, call_of, CallEnd, Caller, callers_of, cond, end_of, Entry, false, false≢true}
use Rattle.hx_law_lemmas.proofs.Lemmas.Vocabulary.{flat_map, inl, inr, is_doubt, IsIn, Item, List, list_of, map, no_version, None, note_of_end, Op, Option}
use Rattle.hx_law_lemmas.proofs.Lemmas.Vocabulary.{option_map, Record, record_at, record_of, records_of, refl, Script, Search, Some, sym, TraceFits, true}
use Rattle.hx_law_lemmas.proofs.Lemmas.Vocabulary.{Version, when_some, ℕ, ◌++◌, ◌∙◌, ◌∷◌, ◌≡◌}
use Rattle.hx_types.specs.declared.calls.Answer.TheVariants as an_answer
use Rattle.hx_history.specs.declared.key_histories.KeyHistory.{KeyHistory}
use Rattle.hx_law_lemmas.proofs.Lemmas.{in-flat_map, in-map, began_at}
use Rattle.hx_report_lines.specs.declared.calls.CallLine.{CallLine}
use Rattle.hx_report_lines.specs.declared.histories.HistoryLines.{HistoryLines}
use Rattle.hx_report_lines.specs.declared.histories.ItemLine.{ItemLine}
use Rattle.hx_report_lines.specs.declared.histories.ItemWord.{ItemWord}
use Rattle.hx_report_lines.specs.declared.histories.ItemWord.TheVariants as words
use Rattle.hx_report_lines.specs.Values.{names_version}
use Rattle.hx_audit.specs.Told.{call_at, end_told, same_caller}
use Rattle.hx_audit.proofs.Lemmas.{one_caller, same_self}
use Rattle.hx_law_audit.proofs.RunNotes.{began_called, caller_in}
use Rattle.hx_law_audit.proofs.SameAccounts.{stop_of}

-- ---- calls

-- the operation of a caller
abbrev pub op_in : Script → Caller → Op
op_in script c = when_some (call_of script c) (Search []) (λ (op : Op). op)

-- a version, where the answer stands with one
abbrev pub version_by : Bool → Version → Version
version_by true version = version
version_by false version = no_version

abbrev pub version_of : Option Answer → Version → Version
version_of answer version = version_by (when_some answer false names_version) version

abbrev pub call_line : Script → Record → CallLine
call_line script r = record {
  caller = r.caller;
  begin = r.begin;
  end = r.end;
  op = op_in script r.caller;
  version = version_of r.answer r.version;
  answer = r.answer;
}

abbrev pub call_lines : Script → List Entry → List CallLine
call_lines script trace = map (call_line script) (records_of script trace)

-- ---- histories

-- the word of an answer that an item has
abbrev pub word_for : Answer → ItemWord
word_for an_answer.NotFound = words.NotFound
word_for an_answer.CmpFail = words.CmpFail
word_for (an_answer.Found object) = words.Found
word_for an_answer.Overflow = words.Overflow
word_for an_answer.TooLong = words.TooLong
word_for other = words.Done

abbrev pub item_line : Item → ItemLine
item_line x = record { version = x.version; caller = x.caller; word = word_for x.answer; object = x.object }

abbrev pub history_lines : KeyHistory → HistoryLines
history_lines h = record { key = h.key; items = map item_line h.items }

-- ---- the line of a caller

module _ (script : Script) (trace : List Entry) where
  abbrev lines_of : List Caller → List CallLine
  lines_of cs = map (call_line script) (flat_map (record_of trace) cs)

  -- one who began has the line of its record
  found_among : (c : Caller) (n : ℕ) → begin_of c trace ≡ Some n → (cs : List Caller) → IsIn c cs
      → call_at (lines_of cs) c ≡ Some (call_line script (record_at c trace n))
  found_among c n e [] i = absurd i
  found_among c n e (d ∷ cs) i = by (λ j. found_among c n e cs j) i (begin_of d trace) refl
    where
      rest : IsIn c (d ∷ cs) → (c ≡ d → ⊥) → IsIn c cs
      rest (inl q) apart = absurd (apart q)
      rest (inr j) apart = j

      by : (IsIn c cs → call_at (lines_of cs) c ≡ Some (call_line script (record_at c trace n))) → IsIn c (d ∷ cs) → (o : Option ℕ) → begin_of d trace ≡ o
          → call_at (map (call_line script) (list_of (option_map (record_at d trace) o)
          ++ flat_map (record_of trace) cs)) c ≡ Some (call_line script (record_at c trace n))
      by later i None q = later (rest i (λ z. let w : None ≡ Some n = sym q ∙ sym (ap (λ b. begin_of b trace) z) ∙ e in absurd (cc)))
      by later i (Some m) q = here (same_caller d c) refl
        where
          here : (b : Bool) → same_caller d c ≡ b → cond b (Some (call_line script (record_at d trace m)))
              (call_at (lines_of cs) c) ≡ Some (call_line script (record_at c trace n))
          here true t =
              let z = one_caller d c t in
              let w : Some m ≡ Some n = sym q ∙ ap (λ b. begin_of b trace) z ∙ e in
              let k : m ≡ n = cc in
              λ j. Some (call_line script (record_at (z j) trace (k j)))
          here false t = later (rest i (λ z. false≢true (sym t ∙ same_self d c (sym z))))

  -- who didn't begin has none
  none_among : (c : Caller) → begin_of c trace ≡ None → (cs : List Caller) → call_at (lines_of cs) c ≡ None
  none_among c e [] = refl
  none_among c e (d ∷ cs) = by (none_among c e cs) (begin_of d trace) refl
    where
      by : call_at (lines_of cs) c ≡ None → (o : Option ℕ) → begin_of d trace ≡ o
          → call_at (map (call_line script) (list_of (option_map (record_at d trace) o) ++ flat_map (record_of trace) cs)) c ≡ None
      by later None q = later
      by later (Some m) q = here (same_caller d c) refl
        where
          here : (b : Bool) → same_caller d c ≡ b → cond b (Some (call_line script (record_at d trace m))) (call_at (lines_of cs) c) ≡ None
          here true t =
              let z = one_caller d c t in
              let w : Some m ≡ None = sym q ∙ ap (λ b. begin_of b trace) z ∙ e in
              absurd (cc)
          here false t = later

  -- the line of a caller is that of its record, if it began
  pub line_is : TraceFits script trace → (c : Caller)
      → call_at (call_lines script trace) c ≡ option_map (λ n. call_line script (record_at c trace n)) (begin_of c trace)
  line_is fits c = by (begin_of c trace) refl
    where
      by : (o : Option ℕ) → begin_of c trace ≡ o → call_at (call_lines script trace) c ≡ option_map (λ n. call_line script (record_at c trace n)) o
      by None e = none_among c e (callers_of script)
      by (Some n) e =
          let called = began_called script trace fits c n (began_at c trace n e) in
          found_among c n e (callers_of script) (caller_in script c called.0 called.1)

-- ---- ends

-- an end without a doubt
abbrev pub sure : CallEnd → Option CallEnd
sure e = cond (is_doubt e.answer) None (Some e)

-- what the line of a record tells of its end
pub line_end : (script : Script) (trace : List Entry) (c : Caller) (n : ℕ)
    → option_map stop_of (end_told (call_line script (record_at c trace n))) ≡ option_map stop_of (end_of c trace)
line_end script trace c n = by (note_of_end c trace)
  where
    Told : Option CallEnd → Option CallEnd
    Told o =
        when_some (option_map (λ (e : CallEnd). e.entry) (when_some o None sure)) None
        (λ m. when_some (option_map (λ (e : CallEnd). e.answer) o) None
        (λ (a : Answer). Some (record {
          entry = m;
          version =
              version_of (option_map (λ (e : CallEnd). e.answer) o)
              (when_some o (record { 0 = 0 }) (λ (e : CallEnd). e.version));
          answer = a;
        })))

    doubt : (e : CallEnd) (d : Bool) → option_map stop_of
        (when_some (option_map (λ (x : CallEnd). x.entry) (cond d None (Some e))) None
        (λ m. Some (record { entry = m; version = version_of (Some e.answer) e.version; answer = e.answer })))
        ≡ option_map stop_of (cond d None (Some e))
    doubt e true = refl
    doubt e false = refl

    by : (o : Option CallEnd) → option_map stop_of (Told o) ≡ option_map stop_of (when_some o None sure)
    by None = refl
    by (Some e) = doubt e (is_doubt e.answer)

-- ---- the lines of a report are those of its callers

-- the line is that of a record of a caller of the script that began
pub record IsLineOf (script : Script) (trace : List Entry) (l : CallLine) : Type 0 where
  pub caller : Caller
  pub entry : ℕ
  pub known : IsIn caller (callers_of script)
  pub began : begin_of caller trace ≡ Some entry
  pub is : l ≡ call_line script (record_at caller trace entry)

pub record_in : (script : Script) (trace : List Entry) (r : Record) → IsIn r (records_of script trace) → (c : Caller)
    × (n : ℕ) × IsIn c (callers_of script) × (begin_of c trace ≡ Some n) × (r ≡ record_at c trace n)
record_in script trace r i =
    let f = in-flat_map (record_of trace) (callers_of script) r i in by f.0 f.1 (begin_of f.0 trace) refl f.2
  where
    by : (c : Caller) → IsIn c (callers_of script) → (o : Option ℕ) → begin_of c trace ≡ o
        → IsIn r (list_of (option_map (record_at c trace) o)) → (d : Caller) × (n : ℕ) × IsIn d (callers_of script)
        × (begin_of d trace ≡ Some n) × (r ≡ record_at d trace n)
    by c j None q k = absurd k
    by c j (Some n) q (inl e) = (c, n, j, q, e)
    by c j (Some n) q (inr k) = absurd k

pub line_in : (script : Script) (trace : List Entry) (l : CallLine) → IsIn l (call_lines script trace) → IsLineOf script trace l
line_in script trace l i =
    let m = in-map (call_line script) (records_of script trace) l i in
    let r = record_in script trace m.0 m.1 in
    record { caller = r.0; entry = r.1; known = r.2; began = r.3; is = m.2 ∙ ap (call_line script) r.4 }
