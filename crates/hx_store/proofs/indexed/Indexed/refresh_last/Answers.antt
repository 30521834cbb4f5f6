use Rattle.std.proofs.Common.{◌≡◌, ◌<◌, ◌-◌, ◌++◌, ◌∷◌, [], List, Option, ap, arith, false, length, slice_get, subst, sym, take, vec_len, ◌∙◌, ℕ}
use Rattle.std.specs.List.{slice_set}
use Rattle.hx_model.specs.Types.{Row}
use Rattle.hx_index.proofs.Lemmas.{set-length}
use Rattle.hx_store.specs.Indexed.{AreIndexed, IndexedState, IsKept, IsKeptAs, marked_count}
use Rattle.hx_store.proofs.Following.{at-item, but-set, last-place, last-within, less-marked, one-fresh, unmarked}
use Rattle.hx_store.proofs.indexed.Indexed.refresh_last.Goals as goal

pub index_mut-requires : goal.index_mut-requires
index_mut-requires c =
    let xs = c.self.inside.stale.items in
    let place = c.in-Some.place.now in
    let some = subst (λ (x : IndexedState). 0 < marked_count x.stale) (sym c.self.view_is) c.requires.some in
    let read = c.in-Some.ensures.value ∙ ap (λ (ys : List ℕ). slice_get ys (length ys - 1)) c.deref.ensures.value in
    let split = last-place c.self.invariant place some read in
    let within = last-within c.self.invariant (take (length xs - 1) xs) place split in
    let ok = c.self.inside.rows.ok.0 in
    omega (arith, within, ok)

pub follow-requires-clause-kept : goal.follow-requires-clause-kept
follow-requires-clause-kept c =
    let xs = c.self.inside.stale.items in
    let place = c.in-Some.place.now in
    let some = subst (λ (x : IndexedState). 0 < marked_count x.stale) (sym c.self.view_is) c.requires.some in
    let read = c.in-Some.ensures.value ∙ ap (λ (ys : List ℕ). slice_get ys (length ys - 1)) c.deref.ensures.value in
    let split = last-place c.self.invariant place some read in
    let within = last-within c.self.invariant (take (length xs - 1) xs) place split in
    let rows = c.self.inside.rows.items in
    let at = at-item rows place c.index_mut.result.now within c.index_mut.ensures.value in
    let set = but-set rows place c.index_mut.result.now at c.replace-old.new.dest c.self.inside.index c.self.invariant.kept in
    subst (λ (r : List (Option Row)). IsKeptAs c.replace-old.result place r c.self.inside.index) (sym c.as_slice.ensures.value)
    (subst (λ (o : Option Row). IsKeptAs o place (slice_set rows place c.replace-old.new.dest) c.self.inside.index) (sym c.replace-old.ensures.value) set)

pub follow-requires-clause-place : goal.follow-requires-clause-place
follow-requires-clause-place c =
    let xs = c.self.inside.stale.items in
    let place = c.in-Some.place.now in
    let some = subst (λ (x : IndexedState). 0 < marked_count x.stale) (sym c.self.view_is) c.requires.some in
    let read = c.in-Some.ensures.value ∙ ap (λ (ys : List ℕ). slice_get ys (length ys - 1)) c.deref.ensures.value in
    let split = last-place c.self.invariant place some read in
    let within = last-within c.self.invariant (take (length xs - 1) xs) place split in
    let same = ap length c.as_slice.ensures.value in
    let set = set-length c.self.inside.rows.items c.in-Some.place.now c.replace-old.new.dest in
    omega (arith, within, same, set)

pub index_mut-requires-2 : goal.index_mut-requires-2
index_mut-requires-2 c =
    let xs = c.self.inside.stale.items in
    let place = c.in-Some.place.now in
    let some = subst (λ (x : IndexedState). 0 < marked_count x.stale) (sym c.self.view_is) c.requires.some in
    let read = c.in-Some.ensures.value ∙ ap (λ (ys : List ℕ). slice_get ys (length ys - 1)) c.deref.ensures.value in
    let split = last-place c.self.invariant place some read in
    let within = last-within c.self.invariant (take (length xs - 1) xs) place split in
    let each = c.self.invariant.each_marked in
    let ok = c.self.inside.is_stale.ok.0 in
    omega (arith, within, each, ok)

pub invariant_of-self : goal.invariant_of-self
invariant_of-self c =
    let xs = c.self.inside.stale.items in
    let place = c.in-Some.place.now in
    let some = subst (λ (x : IndexedState). 0 < marked_count x.stale) (sym c.self.view_is) c.requires.some in
    let read = c.in-Some.ensures.value ∙ ap (λ (ys : List ℕ). slice_get ys (length ys - 1)) c.deref.ensures.value in
    let split = last-place c.self.invariant place some read in
    let ok = c.self.inside.stale.ok.0 in
    let short : vec_len c.self.inside.stale - 1 ≡ length xs - 1 = omega (arith, ok) in
    let rest = c.pop.new.self.items in
    let popped : rest ≡ take (length xs - 1) xs = c.pop.ensures.rest ∙ ap (λ n. take n xs) short in
    let last : xs ≡ rest ++ place ∷ [] = split ∙ ap (λ (ys : List ℕ). ys ++ place ∷ []) (sym popped) in
    let rows = c.self.inside.rows.items in
    let now = slice_set rows place c.replace-old.new.dest in
    let kept = subst (λ (r : List (Option Row)). IsKept r c.follow.new.index) c.as_slice.ensures.value c.follow.ensures.kept in
    subst (AreIndexed c.follow.new.index now (slice_set c.self.inside.is_stale.items place false) rest) (sym c.pop.ensures.capacity)
    (unmarked c.self.invariant rest place last c.follow.new.index now kept (set-length rows place c.replace-old.new.dest))

pub returns-clause-kept : goal.returns-clause-kept
returns-clause-kept c =
    let xs = c.self.inside.stale.items in
    let place = c.in-Some.place.now in
    let some = subst (λ (x : IndexedState). 0 < marked_count x.stale) (sym c.self.view_is) c.requires.some in
    let read = c.in-Some.ensures.value ∙ ap (λ (ys : List ℕ). slice_get ys (length ys - 1)) c.deref.ensures.value in
    let split = last-place c.self.invariant place some read in
    let ok = c.self.inside.stale.ok.0 in
    let short : vec_len c.self.inside.stale - 1 ≡ length xs - 1 = omega (arith, ok) in
    let rest = c.pop.new.self.items in
    let popped : rest ≡ take (length xs - 1) xs = c.pop.ensures.rest ∙ ap (λ n. take n xs) short in
    let last : xs ≡ rest ++ place ∷ [] = split ∙ ap (λ (ys : List ℕ). ys ++ place ∷ []) (sym popped) in
    let rows = sym (ap (λ (x : IndexedState). x.rows) c.self.view_is) in
    let stale = sym (ap (λ (x : IndexedState). x.stale) c.self.view_is) in
    let row = c.replace-old.ensures.after ∙ c.in_ok-row.ensures {u = tt} in
    one-fresh c.self.invariant rest place last c.args.slots.now c.args.self.now c.replace-old.new.dest c.follow.new.index rows stale c.requires.of row

pub returns-clause-count : goal.returns-clause-count
returns-clause-count c =
    let xs = c.self.inside.stale.items in
    let place = c.in-Some.place.now in
    let some = subst (λ (x : IndexedState). 0 < marked_count x.stale) (sym c.self.view_is) c.requires.some in
    let read = c.in-Some.ensures.value ∙ ap (λ (ys : List ℕ). slice_get ys (length ys - 1)) c.deref.ensures.value in
    let split = last-place c.self.invariant place some read in
    let ok = c.self.inside.stale.ok.0 in
    let short : vec_len c.self.inside.stale - 1 ≡ length xs - 1 = omega (arith, ok) in
    let rest = c.pop.new.self.items in
    let popped : rest ≡ take (length xs - 1) xs = c.pop.ensures.rest ∙ ap (λ n. take n xs) short in
    let last : xs ≡ rest ++ place ∷ [] = split ∙ ap (λ (ys : List ℕ). ys ++ place ∷ []) (sym popped) in
    less-marked c.self.invariant rest place last ∙ ap (λ (x : IndexedState). marked_count x.stale) c.self.view_is

pub returns-clause-places : goal.returns-clause-places
returns-clause-places c =
    set-length c.self.inside.is_stale.items c.in-Some.place.now false ∙ ap (λ (x : IndexedState). length x.stale) c.self.view_is
