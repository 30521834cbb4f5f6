use Rattle.std.proofs.Common.{arith, map}
use Rattle.std.proofs.lemmas.List.{length-append, length-map}
use Rattle.hx_trace.specs.Lists.{entries_by}
use Rattle.hx_trace.specs.Places.{placed}
use Rattle.hx_trace.proofs.Longer.{length_entries}
use Rattle.hx_trace.proofs.lists.count.Goals as goal

pub returns-clause-entries : goal.returns-clause-entries
returns-clause-entries c =
    let l = c.args.lists.now in
    let all = length-append (map (placed l.parts.items) l.places.items) (entries_by l.posts.items l.notes.items l.wholes.items l.heads.items) in
    let places = length-map l.places.items (placed l.parts.items) in
    let heads = length_entries l.posts.items l.notes.items l.wholes.items l.heads.items in
    omega (arith, all, places, heads, c.len.ensures, l.places.ok.0, c.len-2.ensures, l.heads.ok.0)
