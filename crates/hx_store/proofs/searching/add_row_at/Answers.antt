use Rattle.std.proofs.Common.{◌++◌, Option, append-nil, ap, sym, ◌∙◌}
use Rattle.hx_model.specs.Types.{Row}
use Rattle.hx_types.specs.Words.{list_of}
use Rattle.hx_store.proofs.Following.{rows-past}
use Rattle.hx_store.proofs.searching.add_row_at.Goals as goal

pub returns-in-None-clause-more : goal.returns-in-None-clause-more
returns-in-None-clause-more c =
    let none = rows-past c.args.rows.now c.args.place c.in-None.ensures.lookup.3 in
    sym (append-nil c.args.found.now.items) ∙ ap (λ (o : Option Row). c.args.found.now.items ++ list_of o) (sym none)
