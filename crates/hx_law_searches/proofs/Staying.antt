-- Rows that a session was ever sent are of changes that stay in their keys' lines, and servers serve the calls.
use Rattle.hx_law_lemmas.proofs.Lemmas.Vocabulary.{Caller, Entry, Facts, IsIn, IsRun, line_of, List, part_at, RegionId, Row, Script, subst, sym, Update, upto}
use Rattle.hx_law_lemmas.proofs.Lemmas.{Sorted, in-upto, in-upto_from, only-in, only-sorted, upto-low, upto-sorted, kept-is, line-sorted}
use Rattle.hx_law_searches.specs.Headline.{IsRowOfLine, RunsKeepRows, RunsServeCalls}
use Rattle.hx_law_searches.proofs.FromChains.{facts}
use Rattle.hx_law_searches.proofs.Moments.{part-before, part-run}
use Rattle.hx_law_searches.proofs.Searched.{WasShown, searched-run}

-- a row that was shown is of a change of the line
shown-stays : (script : Script) → Facts script → (t : List Entry) → IsRun script t
    → (c : Caller) (g : RegionId) (rows : List Row) → WasShown script t c g rows → (r : Row) → IsIn r rows → IsRowOfLine t r
shown-stays script known t run c g rows w r i =
    let part = part-before w.entry w.older t w.part in
    let older-run = part-run script w.older t part run in
    let n = w.shows.front r.key in
    let line : List Update = line_of r.key w.older in
    let ordered : Sorted line = line-sorted script r.key line (known.lines w.older older-run r.key) in
    let least : Sorted (part_at g line) = only-sorted g line ordered in
    let k = kept-is g (upto n (part_at g line)) (upto-sorted n (part_at g line) least) r (w.shows.sound r i).0 in
    let there = (only-in g line k.update (in-upto n (part_at g line) k.update k.stands)).0 in
    let low = upto-low n (part_at g line) k.update least k.stands in
    record {
      update = k.update;
      stands = in-upto n (line_of r.key t) k.update
          (subst (IsIn k.update) (sym (w.shows.stays r.key t run part)) (in-upto_from n line k.update ordered there low));
      changes = k.changes;
      version = sym k.version;
      object = k.object;
    }

-- in every run each row that a session was ever sent is
pub runs_keep_rows : RunsKeepRows
runs_keep_rows script valid t run from u epoch number g rows i r inside =
    let known = facts script valid in
    shown-stays script known t run (record { session = u; number = number }) g rows ((searched-run script known t run).tells _ i) r inside

-- in every run servers serve the calls
pub runs_serve_calls : RunsServeCalls
runs_serve_calls script valid = facts script valid
