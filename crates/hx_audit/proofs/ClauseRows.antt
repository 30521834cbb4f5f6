-- The clauses computed: a put of one key and a search for it, and what breaks each clause of it.
use Rattle.std.proofs.Common.{◌≡◌, ℕ, inl, true, false, List, [], ◌∷◌, map, codes, None, Some, refl}
use Rattle.std.proofs.lemmas.Bool.{false≢true}
use Rattle.hx_types.specs.declared.calls.Answer.TheVariants as an_answer
use Rattle.hx_model.specs.Types.{Caller, Equal, Put, Row, Search, Space, Term, Value}
use Rattle.hx_types.specs.declared.spaces.Kind.TheVariants as a_kind
use Rattle.hx_types.specs.declared.values.Value.TheVariants as a_value
use Rattle.hx_model.specs.Searching.{FinishedSearch}
use Rattle.hx_report_lines.specs.declared.blocks.Block.{Block}
use Rattle.hx_report_lines.specs.declared.calls.CallLine.{CallLine}
use Rattle.hx_report_lines.specs.declared.histories.HistoryLines.{HistoryLines}
use Rattle.hx_report_lines.specs.declared.histories.ItemLine.{ItemLine}
use Rattle.hx_report_lines.specs.declared.histories.ItemWord.TheVariants as words
use Rattle.hx_audit.specs.Clauses.{HasItem, IsEffectOfCall, IsTrueAt, IsWhole, is_in_time, is_known}
use Rattle.hx_audit.specs.Told.{account_of}
use Rattle.hx_audit.specs.Verdicts.{Placed, pieces_of}
use Rattle.hx_audit.specs.Walking.{AllShown, IsShownAt}
use Rattle.hx_audit.proofs.Answered.{item_told_at}
use Rattle.hx_audit.proofs.Unique.{whole_told}

abbrev one : Space
one = record {
  name = codes "one";
  key_name = codes "k";
  key_parts = 1;
  attributes = record { name = codes "v"; kind = a_kind.Text } ∷ [];
  subspaces = [];
  servers = 1;
  tolerate = 0;
}

abbrev u : ℕ → ℕ → Caller
u session number = record { session = record { 0 = session }; number = number }

abbrev object : List Value
object = a_value.Text (codes "x") ∷ []

-- put "a" v="x", done
abbrev put : ℕ → ℕ → CallLine
put begin end = record {
  caller = u 1 1;
  begin = begin;
  end = Some end;
  op = Put (codes "a") (record { attribute = 1; value = a_value.Text (codes "x") } ∷ []);
  version = record { 0 = 1 };
  answer = Some an_answer.Done;
}

-- a search that begins at 4, ends at 6 and shows these rows
abbrev searched : List Term → List Row → CallLine
searched terms rows = record { caller = u 1 2; begin = 4; end = Some 6; op = Search terms; version = record { 0 = 0 }; answer = Some (an_answer.Rows rows) }

abbrev row : Row
row = record { key = codes "a"; version = record { 0 = 1 }; object = object }

abbrev item : Caller → ItemLine
item c = record { version = record { 0 = 1 }; caller = c; word = words.Done; object = Some object }

abbrev history : HistoryLines
history = record { key = codes "a"; items = item (u 1 1) ∷ [] }

abbrev block : List CallLine → List HistoryLines → Block
block calls histories = record { space = one; calls = calls; histories = histories; epochs = []; raw = []; drivers = [] }

abbrev calls : List CallLine
calls = put 1 3 ∷ searched [] (row ∷ []) ∷ []

-- the calls stand at the lines 7 and 8, the row below them, and the history at line 10
lines : map (λ (p : Placed). p.line) (pieces_of (record { version = 1; blocks = block calls (history ∷ []) ∷ [] })) ≡ 7 ∷ 8 ∷ 10 ∷ []
lines = refl

-- ---- foreign

known : is_known calls (codes "a") [] (item (u 1 1)) ≡ true
known = refl

of_no_call : is_known calls (codes "a") [] (item (u 2 1)) ≡ false
of_no_call = refl

of_a_search : is_known calls (codes "a") [] (item (u 1 2)) ≡ false
of_a_search = refl

of_another_key : is_known calls (codes "b") [] (item (u 1 1)) ≡ false
of_another_key = refl

twice : is_known calls (codes "a") (item (u 1 1) ∷ []) (item (u 1 1)) ≡ false
twice = refl

-- ---- legal

is_legal : IsEffectOfCall (block calls (history ∷ [])) history 0
is_legal = record { answer = refl; object = refl }

-- a put leaves an object
leaves_nothing : IsEffectOfCall (block calls [])
    (record {
      key = codes "a";
      items = record {
        version = record { 0 = 1 };
        caller = u 1 1;
        word = words.Done;
        object = None;
      } ∷ [];
    }) 0 → ⊥
leaves_nothing e = let o = e.object in cc

-- ---- missing

stands : HasItem (block calls (history ∷ [])) (put 1 3)
stands = item_told_at (block calls (history ∷ [])) (put 1 3) (codes "a") an_answer.Done refl refl
    (λ refused. record { item = item (u 1 1); stands = inl refl; of_caller = refl; answered = refl })

is_missing : HasItem (block calls []) (put 1 3) → ⊥
is_missing has = (has (codes "a") (record { entry = 3; version = record { 0 = 1 }; answer = an_answer.Done }) refl refl refl).stands

-- ---- order

-- a call that ended as the other began overlaps it
overlaps : is_in_time (account_of (block (put 6 9 ∷ searched [] [] ∷ []) [])) (item (u 1 1) ∷ []) (item (u 1 2)) ≡ true
overlaps = refl

-- one that ended before the other began can't stand below it
too_late : is_in_time (account_of (block (put 7 9 ∷ searched [] [] ∷ []) [])) (item (u 1 1) ∷ []) (item (u 1 2)) ≡ false
too_late = refl

-- ---- whole

abbrev found : List Term → List Row → FinishedSearch
found terms rows = record { terms = terms; begin = 4; end = 6; rows = rows }

-- whatever stands in the history of the key is shown
is_whole : AllShown (block calls (history ∷ [])) (found [] (row ∷ [])) (history ∷ []) → IsWhole (block calls (history ∷ [])) (searched [] (row ∷ []))
is_whole = whole_told (block calls (history ∷ [])) (searched [] (row ∷ [])) (found [] (row ∷ [])) refl

shown : IsShownAt (block calls (history ∷ [])) (found [] (row ∷ [])) history
shown = λ over matches. inl refl

-- a put that was done before the search has to be shown
leaves_out : IsWhole (block calls (history ∷ [])) (searched [] []) → ⊥
leaves_out whole = whole (codes "a") (found [] []) refl refl refl

-- one that was under way needn't be
under_way : IsShownAt (block (put 1 5 ∷ searched [] [] ∷ []) (history ∷ [])) (found [] []) history
under_way = λ over. absurd (false≢true over)

-- ---- true

abbrev other_value : List Term
other_value = Equal 1 (a_value.Text (codes "y")) ∷ []

-- a row that doesn't match isn't true
matches_not : IsTrueAt (block calls (history ∷ [])) (searched other_value (row ∷ [])) 0 → ⊥
matches_not true_at = false≢true (true_at (found other_value (row ∷ [])) refl).true_row.match

-- nor is a key shown twice
repeats : IsTrueAt (block calls (history ∷ [])) (searched [] (row ∷ row ∷ [])) 1 → ⊥
repeats true_at = false≢true (true_at (found [] (row ∷ row ∷ [])) refl).in_order
