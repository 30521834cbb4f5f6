-- The text of a summary: how many calls ended and how, how many objects there are in the end, and a
-- hash of these; traces stand newest first. The format is this project's choice.
use Rattle.std.specs.Prelude.{◌≡◌, ℕ, List, ◌++◌, length, codes}
use Rattle.std.specs.List.{flat_map}
use Rattle.std.specs.Fmt.{decimal}
use Rattle.std.specs.Int.{to_be_bytes, w64}
use Rattle.hex.specs.Hex.{encode_lower}
use Rattle.hx_model.specs.Types.{Entry, Script, Space}
use Rattle.hx_model.specs.Cells.{fnv_of}
use Rattle.hx_model.specs.Histories.{records_of}
use Rattle.hx_print.specs.Printing.{quoted}
use Rattle.hx_history.specs.declared.key_histories.KeyHistory.{KeyHistory}
use Rattle.hx_history.specs.Listed.{AreHistories}
use Rattle.hx_report.specs.Reporting.{object_text}
use Rattle.hx_soak.specs.Tallying.{KeyObject, Tally, tally_of}

-- `T N=V N=V`
unfoldable pub object_line : Space → KeyObject → List ℕ
object_line space o = quoted o.key ++ object_text space.attributes o.object ++ codes "\n"

abbrev pub object_lines : Space → List KeyObject → List ℕ
object_lines space objects = flat_map (object_line space) objects

-- a number of 64 bits in 16 hexadecimal digits
abbrev pub hexadecimal : ℕ → List ℕ
hexadecimal n = encode_lower (to_be_bytes w64 n)

-- a word and how many
unfoldable pub count_line : List ℕ → ℕ → List ℕ
count_line word n = word ++ codes " " ++ decimal n ++ codes "\n"

-- the hash of the lines of all objects
unfoldable pub digest_line : Space → List KeyObject → List ℕ
digest_line space objects = codes "digest " ++ hexadecimal (fnv_of (object_lines space objects)) ++ codes "\n"

-- how calls ended
unfoldable pub counts_text : Tally → List ℕ
counts_text t =
    count_line (codes "calls") t.calls
    ++ count_line (codes "done") t.done
    ++ count_line (codes "notfound") t.not_found
    ++ count_line (codes "cmpfail") t.cmp_fail
    ++ count_line (codes "found") t.found
    ++ count_line (codes "searches") t.searches

-- which objects there are
unfoldable pub objects_text : Space → List KeyObject → List ℕ
objects_text space objects = count_line (codes "objects") (length objects) ++ digest_line space objects

-- the whole summary
unfoldable pub tally_text : Space → Tally → List ℕ
tally_text space t = codes "soak 1\n" ++ counts_text t ++ objects_text space t.objects ++ codes "end\n"

-- the summary of a trace with these histories
abbrev pub summary_text : Script → List Entry → List KeyHistory → List ℕ
summary_text script trace listed = tally_text script.space (tally_of (records_of script trace) listed)

-- the bytes are the summary of the trace with all its histories
pub record IsSummary (script : Script) (trace : List Entry) (bytes : List ℕ) : Type 0 where
  pub listed : List KeyHistory
  pub histories : AreHistories script trace listed
  pub text : bytes ≡ summary_text script trace listed
