-- A finished search as the code has it.
use Rattle.hx_model.specs.Searching.{FinishedSearch}
use Rattle.hx_audit.specs.declared.searches.Finished.{Finished}

abbrev pub finished_view : Finished → FinishedSearch
finished_view s = record { terms = s.terms.now; begin = s.begin; end = s.end; rows = s.rows.now }
