-- What the lines of a report tell of calls, histories and searches.
use Rattle.std.specs.Prelude.{ℕ, Bool, ◌&&◌, ◌==◌, List, [], map, reverse, Option, None, Some}
use Rattle.std.specs.List.{find}
use Rattle.std.specs.Option.{option_map}
use Rattle.hx_model.specs.Types.{Answer, Caller, Item, Op, Row, Search, Term, Value}
use Rattle.hx_types.specs.declared.calls.Answer.TheVariants as an_answer
use Rattle.hx_types.specs.Words.{same_session, same_text, when_some}
use Rattle.hx_model.specs.Histories.{CallEnd}
use Rattle.hx_model.specs.Searching.{FinishedSearch, rows_in, terms_of, with_rows}
use Rattle.hx_report_lines.specs.declared.blocks.Block.{Block}
use Rattle.hx_report_lines.specs.declared.calls.CallLine.{CallLine}
use Rattle.hx_report_lines.specs.declared.histories.HistoryLines.{HistoryLines}
use Rattle.hx_report_lines.specs.declared.histories.ItemLine.{ItemLine}
use Rattle.hx_report_lines.specs.declared.histories.ItemWord.{ItemWord}
use Rattle.hx_report_lines.specs.declared.histories.ItemWord.TheVariants as words
use Rattle.hx_audit.specs.Accounts.{Account}

abbrev pub same_caller : Caller → Caller → Bool
same_caller a b = same_session a.session b.session && (a.number == b.number)

-- the line of a caller's call
abbrev pub call_at : List CallLine → Caller → Option CallLine
call_at calls c = find (λ (l : CallLine). same_caller l.caller c) calls

-- how a call ended, if it did
abbrev pub end_told : CallLine → Option CallEnd
end_told l = when_some l.end None (λ n. when_some l.answer None (λ (a : Answer). Some (record { entry = n; version = l.version; answer = a })))

-- the operation of a caller; who has no call made none on a key, for which a search stands
abbrev pub op_told : List CallLine → Caller → Op
op_told calls c = when_some (call_at calls c) (Search []) (λ (l : CallLine). l.op)

-- the values of an object; an item that found one and is said to leave none is no effect, whichever is put here
abbrev pub values_of : Option (List Value) → List Value
values_of object = when_some object [] (λ (values : List Value). values)

-- the answer of an item
abbrev pub answer_told : ItemWord → Option (List Value) → Answer
answer_told words.Done object = an_answer.Done
answer_told words.NotFound object = an_answer.NotFound
answer_told words.CmpFail object = an_answer.CmpFail
answer_told words.Found object = an_answer.Found (values_of object)
answer_told words.Overflow object = an_answer.Overflow
answer_told words.TooLong object = an_answer.TooLong

-- the item of a line, with the operation of its caller
abbrev pub item_told : List CallLine → ItemLine → Item
item_told calls x =
    record { version = x.version; caller = x.caller; op = op_told calls x.caller; answer = answer_told x.word x.object; object = x.object }

-- the lines of the items of a key, the oldest first
abbrev pub items_at : List HistoryLines → List ℕ → List ItemLine
items_at histories key = when_some (find (λ (h : HistoryLines). same_text h.key key) histories) [] (λ (h : HistoryLines). h.items)

-- what a block tells of calls and histories
abbrev pub account_of : Block → Account
account_of b =
    record {
      op_of = λ c. option_map (λ (l : CallLine). l.op) (call_at b.calls c);
      begin_of = λ c. option_map (λ (l : CallLine). l.begin) (call_at b.calls c);
      end_of = λ c. when_some (call_at b.calls c) None end_told;
      history_of = λ key. reverse (map (item_told b.calls) (items_at b.histories key));
    }

-- the finished search of a call, if it is one and wasn't refused
abbrev pub search_told : CallLine → Option FinishedSearch
search_told l =
    when_some (terms_of l.op) None
    (λ (terms : List Term). when_some (end_told l) None (λ (e : CallEnd). with_rows l.caller terms l.begin e.entry (rows_in e.answer)))

-- the rows that stand below the line of a call
abbrev pub rows_told : CallLine → List Row
rows_told l = when_some l.answer [] (λ (a : Answer). when_some (rows_in a) [] (λ (rows : List Row). rows))
