-- How calls ended and which objects there are in the end, by the records and the histories of a trace. A summary of both is this project's choice.
use Rattle.std.specs.Prelude.{ℕ, Bool, false, ◌&&◌, List, reverse, is_some, Option}
use Rattle.std.specs.List.{count_by, flat_map}
use Rattle.std.specs.Option.{option_map}
use Rattle.hx_model.specs.Types.{Answer, Item, Record, Value}
use Rattle.hx_types.specs.Words.{list_of, when_some}
use Rattle.hx_types.specs.Fitting.{is_cmp_fail, is_done, is_found, is_not_found, is_rows}
use Rattle.hx_model.specs.Legal.{object_now}
use Rattle.hx_history.specs.declared.key_histories.KeyHistory.{KeyHistory}
use Rattle.hx_soak.specs.declared.counting.Counted.{Counted}
use Rattle.hx_soak.specs.declared.counting.Counted.TheVariants as a_count

-- an object and its key
pub record KeyObject : Type 0 where
  pub key : List ℕ
  pub object : List Value

-- how many calls ended, how many of them were answered so, how many found rows, and the objects that are present in the end, in byte order of keys
pub record Tally : Type 0 where
  pub calls : ℕ
  pub done : ℕ
  pub not_found : ℕ
  pub cmp_fail : ℕ
  pub found : ℕ
  pub searches : ℕ
  pub objects : List KeyObject

-- the call ended with an answer that passes the test
abbrev pub ended_with : (Answer → Bool) → Record → Bool
ended_with test r = is_some r.end && when_some r.answer false test

-- whether a call is counted: where it ended, and where it ended so; a search that ended with rows wasn't refused
abbrev pub is_counted : Counted → Record → Bool
is_counted a_count.Ended r = is_some r.end
is_counted a_count.Done r = ended_with is_done r
is_counted a_count.NotFound r = ended_with is_not_found r
is_counted a_count.CmpFail r = ended_with is_cmp_fail r
is_counted a_count.Found r = ended_with is_found r
is_counted a_count.Search r = ended_with is_rows r

-- how many calls are counted
abbrev pub how_many : Counted → List Record → ℕ
how_many what records = count_by (is_counted what) records

-- the object after the last item, where the oldest item stands first
abbrev pub last_object : List Item → Option (List Value)
last_object items = object_now (reverse items)

-- the object in which a history ends, if it is present
abbrev pub object_of : KeyHistory → List KeyObject
object_of h = list_of (option_map (λ (object : List Value). record { key = h.key; object = object }) (last_object h.items))

-- the objects in which histories end
abbrev pub objects_of : List KeyHistory → List KeyObject
objects_of listed = flat_map object_of listed

-- what the records and the histories of a trace add up to
abbrev pub tally_of : List Record → List KeyHistory → Tally
tally_of records listed =
    record {
      calls = how_many a_count.Ended records;
      done = how_many a_count.Done records;
      not_found = how_many a_count.NotFound records;
      cmp_fail = how_many a_count.CmpFail records;
      found = how_many a_count.Found records;
      searches = how_many a_count.Search records;
      objects = objects_of listed;
    }
