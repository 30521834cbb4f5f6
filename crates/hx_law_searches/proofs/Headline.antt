-- The laws on histories and searches, from what every run keeps.
use Rattle.hx_law_searches.specs.Headline.{RunsAreLinear, RunsFit, RunsSearchWell}
use Rattle.hx_law_searches.proofs.Fitting.{run-fits}
use Rattle.hx_law_searches.proofs.FromChains.{facts}
use Rattle.hx_law_searches.proofs.Gathering.{finished}
use Rattle.hx_law_searches.proofs.Histories.{linear}
use Rattle.hx_law_searches.proofs.Trueness.{search-true}
use Rattle.hx_law_searches.proofs.Wholeness.{search-whole}

-- the history of every key is linear
pub runs_are_linear : RunsAreLinear
runs_are_linear script valid trace run key = linear script (facts script valid) trace run key

-- each finished search is true and whole
pub runs_search_well : RunsSearchWell
runs_search_well script valid trace run c s e =
    let known = finished script (facts script valid) trace run c s e in
    (search-true script valid (facts script valid) trace run c s known, search-whole script valid (facts script valid) trace run c s known)

-- each run fits its script
pub runs_fit : RunsFit
runs_fit script valid trace run = run-fits script (facts script valid) trace run
