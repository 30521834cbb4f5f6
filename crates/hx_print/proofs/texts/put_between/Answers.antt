use Rattle.std.proofs.Common.{sym, rules, ◌∙◌}
use Rattle.hx_print.proofs.Plain.{stays_plain}
use Rattle.hx_print.proofs.texts.put_between.Goals as goal

pub returns-then-are_plain : goal.returns-then-are_plain
returns-then-are_plain c =
    let same = stays_plain c.args.bytes.now (sym c.are_plain.ensures ∙ c.if-are_plain.true) in
    search (rules, same)
