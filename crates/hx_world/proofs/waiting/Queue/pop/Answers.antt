use Rattle.std.proofs.Common.{rules, ◌+◌, arith}
use Rattle.std.proofs.lemmas.List.{drop-drop, drop_all}
use Rattle.hx_world.proofs.waiting.Queue.pop.Goals as goal

pub returns-then-len-self-gt1-clause-rest : goal.returns-then-len-self-gt1-clause-rest
returns-then-len-self-gt1-clause-rest c =
    let further = drop-drop 1 c.self.inside.taken c.self.inside.list.items in
    search (rules, further)

pub returns-else-len-self-gt1-clause-rest : goal.returns-else-len-self-gt1-clause-rest
returns-else-len-self-gt1-clause-rest c =
    let further = drop-drop 1 c.self.inside.taken c.self.inside.list.items in
    let none = drop_all (c.self.inside.taken + 1) c.self.inside.list.items (omega arith) in
    search (rules, further, none)
