use Rattle.std.proofs.Common.{arith, ◌+◌, ◌^◌, ◌<◌, length}
use Rattle.std.proofs.Math.Facts.{Fits-of_lt}
use Rattle.hx_driver.proofs.Heard.{count-at, heard-other, heard-set}
use Rattle.hx_driver.proofs.receiving.count_taken.Goals as goal

pub overflow_add-index_mut : goal.overflow_add-index_mut
overflow_add-index_mut c =
    let lt : c.args.name < length c.args.heard.now.items = grind (arith, c.len.ensures, c.if-at-len.true) in
    let most : c.index_mut.result.now + 1 < 2 ^ 64 =
    omega (
      arith,
      count-at c.args.heard.now.items c.args.name c.index_mut.result.now c.requires.room lt
          c.index_mut.ensures.value,
    ) in
    Fits-of_lt most

pub returns-then-at-len-clause-heard : goal.returns-then-at-len-clause-heard
returns-then-at-len-clause-heard c ins m h =
    let lt : c.args.name < length c.args.heard.now.items = grind (arith, c.len.ensures, c.if-at-len.true) in
    heard-set 0 c.args.heard.now.items ins c.args.name c.index_mut.result.now c.args.name m h lt c.index_mut.ensures.value (omega arith)

pub returns-else-at-len-clause-heard : goal.returns-else-at-len-clause-heard
returns-else-at-len-clause-heard c ins m h = heard-other 0 c.args.heard.now.items ins c.args.name m h
    (λ i lt e. grind (arith, lt, e, c.len.ensures, c.if-at-len.false))
