use Rattle.std.proofs.Common.{◌≡◌, ℕ, ◌+◌, ◌≤◌, add-one, false, get_or, arith, rules, subst, sym, ◌∙◌}
use Rattle.hx_types.specs.Words.{text_below}
use Rattle.hx_store.specs.Invariant.{key_in}
use Rattle.hx_store.proofs.Sorting.{ascend-from, permuted-stands, permuted-times, rises-from, sorted-from}
use Rattle.hx_types.proofs.Lemmas.{text_below-is_lt}
use Rattle.hx_store.proofs.slots.Slots.sort_places.Goals as goal

pub returns-clause-same : goal.returns-clause-same
returns-clause-same c = permuted-times c.args.order.now.items c.sort_unstable_by.new.self.items c.sort_unstable_by.ensures.permutation

pub returns-clause-ascend : goal.returns-clause-ascend
returns-clause-ascend c =
    let es = c.args.self.now.entries in
    let old = c.args.order.now.items in
    let now = c.sort_unstable_by.new.self.items in
    let moved = c.sort_unstable_by.ensures.permutation in
    ascend-from es c.requires.apart now (λ i t. c.requires.within i (sym (permuted-stands old now moved i) ∙ t))
    (λ i. subst (λ n. n ≤ 1) (sym (permuted-times old now moved i)) (c.requires.once i))
    (
    rises-from es now
    (λ k d l. subst (λ n. text_below (key_in es (get_or now n d)) (key_in es (get_or now k d)) ≡ false) (add-one k)
    (text_below-is_lt (key_in es (get_or now (k + 1) d)) (key_in es (get_or now k d))
    ∙ sorted-from (λ (x : ℕ). key_in es x) now c.sort_unstable_by.ensures.sorted
    (λ a r f' called. search rules) k d (omega arith) (omega (arith, l))))
    )
