-- How many entries all spaces have together.
use Rattle.std.proofs.Common.{◌≡◌, ℕ, ◌+◌, ◌<◌, ◌≤◌, List, [], ◌∷◌, length, refl, subst, arith}
use Rattle.std.proofs.lemmas.Bool.{cond-true, cond_both, eq-eqb}
use Rattle.std.proofs.lemmas.List.Elements.{recursion_from_All}
use Rattle.std.specs.Prelude.{◌==◌, IfSome}
use Rattle.std.specs.List.{AllByRecursion}
use Rattle.hx_world.specs.Worlds.{WorldState, most_entries}
use Rattle.hx_world.proofs.Lemmas.{sum_more, sum_most, sum_to}
use Rattle.hx_bundle.specs.Bundles.{times}
use Rattle.hx_spaces.specs.Courses.{Course}
use Rattle.hx_spaces.specs.Draining.{most_in_all}
use Rattle.hx_spaces.specs.Keeping.{IsKept, IsShort}
use Rattle.hx_spaces.proofs.Places.{all-at}
use Rattle.hx_spaces.proofs.Seats.{run-at}

no-fewer : (j k : ℕ) (rest : List ℕ) → times j rest ≤ times j (k ∷ rest)
no-fewer j k rest = cond_both (k == j) (times j rest + 1) (times j rest) (λ n. times j rest ≤ n) (λ e. omega arith) (λ e. omega arith)

one-more : (k : ℕ) (rest : List ℕ) → times k rest + 1 ≤ times k (k ∷ rest)
one-more k rest = let e : times k (k ∷ rest) ≡ times k rest + 1 = cond-true (k == k) (times k rest + 1) (times k rest) (eq-eqb k k refl) in omega (arith, e)

-- each entry is one of a space
all-counted : (n : ℕ) (order : List ℕ) → AllByRecursion (λ (k : ℕ). k < n) order → length order ≤ sum_to n (λ j. times j order)
all-counted n [] all = omega arith
all-counted n (k ∷ rest) all =
    let h = all-counted n rest all.1 in
    let m = sum_more n (λ j. times j rest) (λ j. times j (k ∷ rest)) (λ j. no-fewer j k rest) k all.0 (one-more k rest) in
    omega (arith, h, m)

-- a space has as many entries as its run
few-in-space : (c : Course) (begun : List ℕ) → IsKept c begun → (k : ℕ) → k < length c.bundle.spaces → times k c.order ≤ most_entries
few-in-space c begun i k h =
    let r = run-at c i.course k h in
    let count = subst (λ (o : _). IfSome o (λ (w : WorldState). length w.trace ≡ times k c.order)) r.1 (i.course.counted k) in
    let short = all-at IsShort c.runs k r.0 i.short r.1 in
    omega (arith, count, short)

-- no cluster makes more
pub few_in_all : (c : Course) (begun : List ℕ) → IsKept c begun → length c.order ≤ most_in_all
few_in_all c begun i =
    let all = all-counted (length c.bundle.spaces) c.order (recursion_from_All (λ (k : ℕ). k < length c.bundle.spaces) c.order i.course.within) in
    let each = sum_most (length c.bundle.spaces) most_entries (λ j. times j c.order) (few-in-space c begun i) in
    let few = i.course.valid.few in
    omega (arith, all, each, few)
