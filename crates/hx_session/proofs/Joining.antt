-- Rows that are joined one before the other, and a pass over the same rows in order of keys.
use Rattle.std.proofs.Common.{◌≡◌, ℕ, zero, suc, ◌<◌, Bool, true, false, ◌&&◌, not, cond, nat_lt, List, [], ◌∷◌, ◌++◌}
use Rattle.std.proofs.Common.{length, get_or, flat_map, filter, refl, ap, sym, subst, ◌∙◌, append_assoc, arith, lt-ltb}
use Rattle.std.proofs.Common.{ltb-true, ltb-false, le-ltb, ◌≤◌}
use Rattle.std.specs.Prelude.{⊤}
use Rattle.std.specs.Borrow.{Bor}
use Rattle.std.specs.Cmp.Lexicographic.{slice_cmp}
use Rattle.std.specs.List.{AllByRecursion}
use Rattle.std.specs.List.Sorted.{IsSortedByClosure, IsSortedByKey, IsStableByClosure, IsStableByKey, ties}
use denote.Param.Members.{Mut}
use Rattle.std.specs.Fn.{Called, ComparesAs}
use Rattle.std.proofs.lemmas.Fn.{always_returns_same}
use Rattle.std.specs.declared.cmp.Ordering.{Ordering}
use Rattle.std.specs.declared.cmp.Ordering.TheVariants.{Less, Equal, Greater}
use Rattle.std.specs.Ordering.{is_eq, is_lt, match_ordering, nat_cmp, ordering_reverse}
use Rattle.std.proofs.lemmas.Bool.{cond-true, cond-false}
use Rattle.std.proofs.lemmas.Cmp.{alike_right, nat_list_cmp_total, tied_itself}
use Rattle.std.proofs.lemmas.List.Sorted.{ranks_by, sorted_far}
use Rattle.hx_model.specs.Types.{Row}
use Rattle.hx_types.proofs.Lemmas.{text_below-is_lt}
use Rattle.hx_types.specs.Words.{same_text, text_below}
use Rattle.hx_model.specs.SessionSteps.{Part, merged_parts, rows_joined, with_row}
use Rattle.hx_session.specs.Joined.{row_key, rows_in}
use Rattle.hx_session.proofs.Texts.{equal_from, order, same_is}

-- rows that are joined to joined ones are joined together
joined-append : (front back rows : List Row) → rows_joined (front ++ back) rows ≡ rows_joined front (rows_joined back rows)
joined-append [] back rows = refl
joined-append (r ∷ front) back rows = ap (with_row r) (joined-append front back rows)

-- the merge of parts is that of their rows, part after part
pub merged-at_once : (parts : List Part) → rows_joined (flat_map rows_in parts) [] ≡ merged_parts parts
merged-at_once [] = refl
merged-at_once (p ∷ rest) = joined-append (rows_in p) (flat_map rows_in rest) [] ∙ ap (rows_joined (rows_in p)) (merged-at_once rest)

-- the later of two rows of one key, unless the earlier one has a higher version
abbrev kept_of : Row → Row → Row
kept_of early late = cond (nat_lt late.version.0 early.version.0) early late

kept-key : (early late : Row) → early.key ≡ late.key → (kept_of early late).key ≡ late.key
kept-key early late e = by (nat_lt late.version.0 early.version.0)
  where
    by : (b : Bool) → (cond b early late).key ≡ late.key
    by true = e
    by false = refl

kept-assoc : (a b c : Row) → kept_of a (kept_of b c) ≡ kept_of (kept_of a b) c
kept-assoc a b c = by (nat_lt c.version.0 b.version.0) refl (nat_lt b.version.0 a.version.0) refl
  where
    by : (u : Bool) → nat_lt c.version.0 b.version.0 ≡ u → (v : Bool) → nat_lt b.version.0 a.version.0 ≡ v → kept_of a (cond u b c) ≡ kept_of (cond v a b) c
    by true p true q =
        (
        let l = ltb-true c.version.0 b.version.0 p in let m = ltb-true b.version.0 a.version.0 q in
        cond-true (nat_lt b.version.0 a.version.0) a b q ∙ sym (cond-true (nat_lt c.version.0 a.version.0) a c (lt-ltb c.version.0 a.version.0 (omega arith)))
        )
    by true p false q = cond-false (nat_lt b.version.0 a.version.0) a b q ∙ sym (cond-true (nat_lt c.version.0 b.version.0) b c p)
    by false p true q = refl
    by false p false q =
        (
        let l = ltb-false c.version.0 b.version.0 p in let m = ltb-false b.version.0 a.version.0 q in
        cond-false (nat_lt c.version.0 a.version.0) a c (le-ltb c.version.0 a.version.0 (omega arith)) ∙ sym (cond-false (nat_lt c.version.0 b.version.0) b c p)
        )

-- the other way round
turned : (a b : List ℕ) (o : Ordering) → order a b ≡ o → order b a ≡ ordering_reverse o
turned a b o h = nat_list_cmp_total.antisymm b a ∙ ap ordering_reverse h

-- where a row comes among rows, by how its key compares to that of the first
comes : (r x : Row) (rest : List Row) (o : Ordering) → order r.key x.key ≡ o
    → with_row r (x ∷ rest) ≡ match_ordering o (r ∷ x ∷ rest) (kept_of r x ∷ rest) (x ∷ with_row r rest)
comes r x rest o h = by o (same_is r.key x.key ∙ ap is_eq h) (text_below-is_lt r.key x.key ∙ ap is_lt h)
  where
    by : (o : Ordering) → same_text r.key x.key ≡ is_eq o → text_below r.key x.key ≡ is_lt o
        → with_row r (x ∷ rest) ≡ match_ordering o (r ∷ x ∷ rest) (kept_of r x ∷ rest) (x ∷ with_row r rest)
    by Less s b = cond-false (same_text r.key x.key) _ _ s ∙ cond-true (text_below r.key x.key) _ _ b
    by Equal s b = cond-true (same_text r.key x.key) _ _ s
    by Greater s b = cond-false (same_text r.key x.key) _ _ s ∙ cond-false (text_below r.key x.key) _ _ b

-- of two rows with different keys either may come first
passes : (r s : Row) → order r.key s.key ≡ Less → (rows : List Row) → with_row r (with_row s rows) ≡ with_row s (with_row r rows)
passes r s l [] = comes r s [] Less l ∙ sym (comes s r [] Greater (turned r.key s.key Less l))
passes r s l (x ∷ rest) = by (order s.key x.key) refl (order r.key x.key) refl (passes r s l rest)
  where
    over : order r.key x.key ≡ Less → with_row s (with_row r (x ∷ rest)) ≡ r ∷ with_row s (x ∷ rest)
    over low = ap (with_row s) (comes r x rest Less low) ∙ comes s r (x ∷ rest) Greater (turned r.key s.key Less l)

    by : (p : Ordering) → order s.key x.key ≡ p → (q : Ordering) → order r.key x.key ≡ q → with_row r (with_row s rest) ≡ with_row s (with_row r rest)
        → with_row r (with_row s (x ∷ rest)) ≡ with_row s (with_row r (x ∷ rest))
    by Less h q i more =
        ap (with_row r) (comes s x rest Less h) ∙ comes r s (x ∷ rest) Less l
        ∙ sym (over (nat_list_cmp_total.trans r.key s.key x.key l h) ∙ ap (λ (rows : List Row). r ∷ rows) (comes s x rest Less h))
    by Equal h q i more =
        (
        let low : order r.key x.key ≡ Less = sym (alike_right nat_list_cmp_total s.key x.key r.key h) ∙ l in
        ap (with_row r) (comes s x rest Equal h) ∙ comes r (kept_of s x) rest Less (ap (order r.key) (kept-key s x (equal_from s.key x.key (ap is_eq h))) ∙ low)
        ∙ sym (over low ∙ ap (λ (rows : List Row). r ∷ rows) (comes s x rest Equal h))
        )
    by Greater h Less i more =
        ap (with_row r) (comes s x rest Greater h) ∙ comes r x (with_row s rest) Less i
        ∙ sym (over i ∙ ap (λ (rows : List Row). r ∷ rows) (comes s x rest Greater h))
    by Greater h Equal i more =
        ap (with_row r) (comes s x rest Greater h) ∙ comes r x (with_row s rest) Equal i
        ∙ sym (ap (with_row s) (comes r x rest Equal i)
        ∙ comes s (kept_of r x) rest Greater (ap (order s.key) (kept-key r x (equal_from r.key x.key (ap is_eq i))) ∙ h))
    by Greater h Greater i more =
        ap (with_row r) (comes s x rest Greater h) ∙ comes r x (with_row s rest) Greater i ∙ ap (λ (rows : List Row). x ∷ rows) more
        ∙ sym (ap (with_row s) (comes r x rest Greater i) ∙ comes s x (with_row r rest) Greater h)

apart : (r s : Row) → same_text r.key s.key ≡ false → (rows : List Row) → with_row r (with_row s rows) ≡ with_row s (with_row r rows)
apart r s n rows = by (order r.key s.key) refl
  where
    by : (o : Ordering) → order r.key s.key ≡ o → with_row r (with_row s rows) ≡ with_row s (with_row r rows)
    by Less h = passes r s h rows
    by Equal h = absurd (let t : true ≡ false = sym (same_is r.key s.key ∙ ap is_eq h) ∙ n in cc)
    by Greater h = sym (passes s r (turned r.key s.key Greater h) rows)

-- of two rows of one key one stays
together : (r s : Row) → r.key ≡ s.key → (rows : List Row) → with_row r (with_row s rows) ≡ with_row (kept_of r s) rows
together r s e [] = comes r s [] Equal (ap (λ (k : List ℕ). order k s.key) e ∙ tied_itself nat_list_cmp_total s.key)
together r s e (x ∷ rest) = by (order s.key x.key) refl (together r s e rest)
  where
    kept : (o : Ordering) → order s.key x.key ≡ o → order (kept_of r s).key x.key ≡ o
    kept o h = ap (λ (k : List ℕ). order k x.key) (kept-key r s e) ∙ h

    by : (o : Ordering) → order s.key x.key ≡ o → with_row r (with_row s rest) ≡ with_row (kept_of r s) rest
        → with_row r (with_row s (x ∷ rest)) ≡ with_row (kept_of r s) (x ∷ rest)
    by Less h more =
        ap (with_row r) (comes s x rest Less h) ∙ comes r s (x ∷ rest) Equal (ap (λ (k : List ℕ). order k s.key) e ∙ tied_itself nat_list_cmp_total s.key)
        ∙ sym (comes (kept_of r s) x rest Less (kept Less h))
    by Equal h more =
        ap (with_row r) (comes s x rest Equal h)
        ∙ comes r (kept_of s x) rest Equal (ap (order r.key) (kept-key s x (equal_from s.key x.key (ap is_eq h))) ∙ ap (λ (k : List ℕ). order k x.key) e ∙ h)
        ∙ ap (λ (k : Row). k ∷ rest) (kept-assoc r s x)
        ∙ sym (comes (kept_of r s) x rest Equal (kept Equal h))
    by Greater h more =
        ap (with_row r) (comes s x rest Greater h) ∙ comes r x (with_row s rest) Greater (ap (λ (k : List ℕ). order k x.key) e ∙ h)
        ∙ ap (λ (rows : List Row). x ∷ rows) more
        ∙ sym (comes (kept_of r s) x rest Greater (kept Greater h))

-- whether a row is of this key
abbrev has_key : List ℕ → Row → Bool
has_key key b = same_text key b.key

-- the rows without the first of this key
abbrev without : List ℕ → List Row → List Row
without key [] = []
without key (b ∷ rest) = cond (has_key key b) rest (b ∷ without key rest)

same-itself : (key : List ℕ) → same_text key key ≡ true
same-itself key = same_is key key ∙ ap is_eq (tied_itself nat_list_cmp_total key)

same-from : (a b : List ℕ) → same_text a b ≡ true → a ≡ b
same-from a b t = equal_from a b (sym (same_is a b) ∙ t)

first_is : {X : Type 0} {x y : X} {xs ys : List X} → x ∷ xs ≡ y ∷ ys → x ≡ y
first_is e = cc

rest_is : {X : Type 0} {x y : X} {xs ys : List X} → x ∷ xs ≡ y ∷ ys → xs ≡ ys
rest_is e = cc

-- the first row of a key may as well come before all
comes_out : (y : Row) (more : List Row) (xs : List Row) → filter (has_key y.key) xs ≡ y ∷ more → (rows : List Row)
    → rows_joined xs rows ≡ with_row y (rows_joined (without y.key xs) rows)
comes_out y more [] e rows = absurd cc
comes_out y more (x ∷ xs) e rows = by (has_key y.key x) refl e (comes_out y more xs)
  where
    by : (b : Bool) → has_key y.key x ≡ b → cond b (x ∷ filter (has_key y.key) xs) (filter (has_key y.key) xs) ≡ y ∷ more
        → (filter (has_key y.key) xs ≡ y ∷ more → (rows : List Row) → rows_joined xs rows ≡ with_row y (rows_joined (without y.key xs) rows))
        → with_row x (rows_joined xs rows) ≡ with_row y (rows_joined (cond b xs (x ∷ without y.key xs)) rows)
    by true h e later = ap (λ (b : Row). with_row b (rows_joined xs rows)) (first_is e)
    by false h e later = ap (with_row x) (later e rows) ∙ sym (apart y x h (rows_joined (without y.key xs) rows))

-- and nothing else changes
out_first : (y : Row) (more : List Row) (xs : List Row) → filter (has_key y.key) xs ≡ y ∷ more → (w : Row)
    → filter (has_key w.key) (y ∷ without y.key xs) ≡ filter (has_key w.key) xs
out_first y more [] e w = absurd cc
out_first y more (x ∷ xs) e w = by (has_key y.key x) refl e (out_first y more xs)
  where
    past : (u v : Bool) → (u ≡ true → v ≡ false) → (y x : Row) (us vs : List Row) → cond u (y ∷ us) us ≡ vs
        → cond u (y ∷ cond v (x ∷ us) us) (cond v (x ∷ us) us) ≡ cond v (x ∷ vs) vs
    past true true n y x us vs e = absurd (let t = n refl in cc)
    past true false n y x us vs e = e
    past false true n y x us vs e = ap (λ (l : List Row). x ∷ l) e
    past false false n y x us vs e = e

    by : (b : Bool) → has_key y.key x ≡ b → cond b (x ∷ filter (has_key y.key) xs) (filter (has_key y.key) xs) ≡ y ∷ more
        → (filter (has_key y.key) xs ≡ y ∷ more → (w : Row) → filter (has_key w.key) (y ∷ without y.key xs) ≡ filter (has_key w.key) xs)
        → filter (has_key w.key) (y ∷ cond b xs (x ∷ without y.key xs)) ≡ filter (has_key w.key) (x ∷ xs)
    by true h e later = ap (λ (b : Row). filter (has_key w.key) (b ∷ xs)) (sym (first_is e))
    by false h e later =
        past (has_key w.key y) (has_key w.key x) (λ t. ap (λ (k : List ℕ). same_text k x.key) (same-from w.key y.key t) ∙ h) y x
        (filter (has_key w.key) (without y.key xs)) (filter (has_key w.key) xs) (later e w)

-- rows of each key stand in the same order
abbrev pub StayInTurn : List Row → List Row → Type 0
StayInTurn xs ys = (w : Row) → filter (has_key w.key) ys ≡ filter (has_key w.key) xs

-- so they are joined to the same rows
pub joined-in_turn : (xs ys : List Row) → StayInTurn xs ys → (rows : List Row) → rows_joined ys rows ≡ rows_joined xs rows
joined-in_turn [] [] s rows = refl
joined-in_turn (x ∷ xs) [] s rows = absurd
    (let e = s x ∙ cond-true (has_key x.key x) (x ∷ filter (has_key x.key) xs) (filter (has_key x.key) xs) (same-itself x.key) in cc)
joined-in_turn xs (y ∷ ys) s rows =
    let first : filter (has_key y.key) xs ≡ y ∷ filter (has_key y.key) ys =
    sym (s y) ∙ cond-true (has_key y.key y) (y ∷ filter (has_key y.key) ys) (filter (has_key y.key) ys) (same-itself y.key)
    in
    ap (with_row y) (joined-in_turn (without y.key xs) ys (λ w. cancel (has_key w.key y) (s w ∙ sym (out_first y (filter (has_key y.key) ys) xs first w))) rows)
    ∙ sym (comes_out y (filter (has_key y.key) ys) xs first rows)
  where
    cancel : (b : Bool) {us vs : List Row} → cond b (y ∷ us) us ≡ cond b (y ∷ vs) vs → us ≡ vs
    cancel true e = rest_is e
    cancel false e = e

-- what a stable sort by keys leaves
tie_is : (x y : Row) → ties (λ (a b : Row). is_lt (slice_cmp nat_cmp (row_key a) (row_key b))) x y ≡ has_key x.key y
tie_is x y = by (order x.key y.key) refl ∙ sym (same_is x.key y.key)
  where
    by : (o : Ordering) → order x.key y.key ≡ o → (not (is_lt (order x.key y.key)) && not (is_lt (order y.key x.key))) ≡ is_eq (order x.key y.key)
    by o h = (λ i. not (is_lt (h i)) && not (is_lt (turned x.key y.key o h i))) ∙ at o ∙ ap is_eq (sym h)
      where
        at : (o : Ordering) → (not (is_lt o) && not (is_lt (ordering_reverse o))) ≡ is_eq o
        at Less = refl
        at Equal = refl
        at Greater = refl

pub in_turn-from_stable : (xs ys : List Row) → IsStableByKey row_key (slice_cmp nat_cmp) xs ys → StayInTurn xs ys
in_turn-from_stable xs ys stable w = subst (λ (p : Row → Bool). filter p ys ≡ filter p xs) (λ i y. tie_is w y i) (stable w)

-- no row has a lower key than one before it
abbrev pub Rise : List Row → Type 0
Rise [] = ⊤
Rise (r ∷ rest) = AllByRecursion (λ (x : Row). is_lt (order x.key r.key) ≡ false) rest × Rise rest

pub rise-from_sorted : (xs : List Row) → IsSortedByKey row_key (slice_cmp nat_cmp) xs → Rise xs
rise-from_sorted xs up = by xs (sorted_far _ (ranks_by nat_list_cmp_total row_key) xs up)
  where
    not_below : (b : Row) (rest : List Row) → ((k : ℕ) (d : Row) → k < length rest → is_lt (order (get_or rest k d).key b.key) ≡ false)
        → AllByRecursion (λ (x : Row). is_lt (order x.key b.key) ≡ false) rest
    not_below b [] h = tt
    not_below b (c ∷ rest) h = (h zero c (omega arith), not_below b rest (λ k d l. h (suc k) d (omega (arith, l))))

    by : (xs : List Row) → ((i j : ℕ) (d : Row) → i ≤ j → j < length xs → is_lt (order (get_or xs j d).key (get_or xs i d).key) ≡ false) → Rise xs
    by [] h = tt
    by (b ∷ rest) h = (
      not_below b rest (λ k d l. h zero (suc k) d (omega arith) (omega (arith, l))),
      by rest
          (λ i j d l m. h (suc i) (suc j) d (omega (arith, l)) (omega (arith, m))),
    )

-- a row whose key is below all others stands before them
abbrev AllAbove : List ℕ → List Row → Type 0
AllAbove key rows = AllByRecursion (λ (x : Row). order key x.key ≡ Less) rows

stands_first : (r : Row) (rest : List Row) → AllAbove r.key rest → with_row r (rows_joined rest []) ≡ r ∷ rows_joined rest []
stands_first r [] a = refl
stands_first r (x ∷ rest) a =
    passes r x a.0 (rows_joined rest []) ∙ ap (with_row x) (stands_first r rest a.1)
    ∙ comes x r (rows_joined rest []) Greater (turned r.key x.key Less a.0)

above_all : (key low : List ℕ) (rest : List Row) → order key low ≡ Less → AllByRecursion (λ (x : Row). is_lt (order x.key low) ≡ false) rest → AllAbove key rest
above_all key low [] l h = tt
above_all key low (x ∷ rest) l h = (at (order low x.key) refl, above_all key low rest l h.1)
  where
    at : (o : Ordering) → order low x.key ≡ o → order key x.key ≡ Less
    at Less e = nat_list_cmp_total.trans key low x.key l e
    at Equal e = sym (alike_right nat_list_cmp_total low x.key key e) ∙ l
    at Greater e = absurd (let t : true ≡ false = sym (ap is_lt (turned low x.key Greater e)) ∙ h.0 in cc)

-- the first of rows that rise, where the next has another key
pub next_key : (r x : Row) (rest : List Row) → Rise (r ∷ x ∷ rest) → same_text x.key r.key ≡ false
    → rows_joined (r ∷ x ∷ rest) [] ≡ r ∷ rows_joined (x ∷ rest) []
next_key r x rest up n = stands_first r (x ∷ rest) (low, above_all r.key x.key rest low up.1.0)
  where
    by : (o : Ordering) → order x.key r.key ≡ o → order r.key x.key ≡ Less
    by Less e = absurd (let t : true ≡ false = sym (ap is_lt e) ∙ up.0.0 in cc)
    by Equal e = absurd (let t : true ≡ false = sym (same_is x.key r.key ∙ ap is_eq e) ∙ n in cc)
    by Greater e = turned x.key r.key Greater e

    low : order r.key x.key ≡ Less
    low = by (order x.key r.key) refl

-- where the next has the same key, one of the two stays
pub same_key-later : (r x : Row) (rest : List Row) → same_text x.key r.key ≡ true → nat_lt x.version.0 r.version.0 ≡ false
    → rows_joined (r ∷ x ∷ rest) [] ≡ rows_joined (x ∷ rest) []
same_key-later r x rest e l =
    together r x (sym (same-from x.key r.key e)) (rows_joined rest [])
    ∙ ap (λ (k : Row). with_row k (rows_joined rest [])) (cond-false (nat_lt x.version.0 r.version.0) r x l)

pub same_key-earlier : (r x : Row) (rest : List Row) → same_text x.key r.key ≡ true → nat_lt x.version.0 r.version.0 ≡ true
    → rows_joined (r ∷ x ∷ rest) [] ≡ rows_joined (r ∷ rest) []
same_key-earlier r x rest e l =
    together r x (sym (same-from x.key r.key e)) (rows_joined rest [])
    ∙ ap (λ (k : Row). with_row k (rows_joined rest [])) (cond-true (nat_lt x.version.0 r.version.0) r x l)

not-not : (b : Bool) → not (not b) ≡ b
not-not true = refl
not-not false = refl

-- rows are copied, one more is kept for the next, and the rest still comes
pub record IsPassed (rows : List Row) (kept : Row) (rest whole : List Row) : Type 0 where
  pub all : rows ++ rows_joined (kept ∷ rest) [] ≡ rows_joined whole []
  pub rise : Rise (kept ∷ rest)

pub passed-none : (sorted : List Row) (first : Row) (rest : List Row) → sorted ≡ first ∷ rest → IsSortedByKey row_key (slice_cmp nat_cmp) sorted
    → IsPassed [] first rest sorted
passed-none sorted first rest e up = record {
  all = ap (λ (l : List Row). rows_joined l []) (sym e);
  rise = subst Rise e (rise-from_sorted sorted up);
}

pub passed-next : (rows : List Row) (kept x : Row) (rest whole : List Row) → IsPassed rows kept (x ∷ rest) whole → same_text x.key kept.key ≡ false
    → IsPassed (rows ++ kept ∷ []) x rest whole
passed-next rows kept x rest whole p n = record {
  all = append_assoc rows (kept ∷ []) (rows_joined (x ∷ rest) []) ∙ ap (λ (l : List Row). rows ++ l) (sym (next_key kept x rest p.rise n)) ∙ p.all;
  rise = p.rise.1;
}

pub passed-later : (rows : List Row) (kept x : Row) (rest whole : List Row) → IsPassed rows kept (x ∷ rest) whole → same_text x.key kept.key ≡ true
    → not (nat_lt x.version.0 kept.version.0) ≡ true → IsPassed rows x rest whole
passed-later rows kept x rest whole p e l = record {
  all = ap (λ (l : List Row). rows ++ l)
      (sym (same_key-later kept x rest e (sym (not-not (nat_lt x.version.0 kept.version.0)) ∙ ap not l))) ∙ p.all;
  rise = p.rise.1;
}

pub passed-earlier : (rows : List Row) (kept x : Row) (rest whole : List Row) → IsPassed rows kept (x ∷ rest) whole → same_text x.key kept.key ≡ true
    → not (nat_lt x.version.0 kept.version.0) ≡ false → IsPassed rows kept rest whole
passed-earlier rows kept x rest whole p e l = record {
  all = ap (λ (l : List Row). rows ++ l)
      (sym (same_key-earlier kept x rest e (sym (not-not (nat_lt x.version.0 kept.version.0)) ∙ ap not l))) ∙ p.all;
  rise = (p.rise.0.1, p.rise.1.1);
}

-- what a stable sort ensures, where each call of the closure compares two keys
module _ {F : Type 0} (g : Mut F (Bor Row × (Bor Row × Unit {0})) Ordering) (f : F) where
  abbrev pub ComparesKeys : Type 0
  ComparesKeys = (a : Bor Row × (Bor Row × Unit {0})) (r : Ordering) (f' : F) → Called g f a r f'
      → (r ≡ slice_cmp nat_cmp (row_key a.0.now) (row_key a.1.0.now)) × (f' ≡ f)

  as_keys : ComparesKeys → ComparesAs g (λ x y. is_lt (slice_cmp nat_cmp (row_key x) (row_key y))) f
  as_keys h = always_returns_same g (λ a r. is_lt r ≡ is_lt (slice_cmp nat_cmp (row_key a.0.now) (row_key a.1.0.now))) f
      (λ a r f' k. (ap is_lt (h a r f' k).0, (h a r f' k).1))

module _ {F : Type 0} {g : Mut F (Bor Row × (Bor Row × Unit {0})) Ordering} {f : F} where
  pub sorted-from : (xs : List Row) → IsSortedByClosure g f xs → ComparesKeys g f → IsSortedByKey row_key (slice_cmp nat_cmp) xs
  sorted-from xs up h = up (λ x y. is_lt (slice_cmp nat_cmp (row_key x) (row_key y))) (ranks_by nat_list_cmp_total row_key) (as_keys g f h)

  pub in_turn-from : (xs ys : List Row) → IsStableByClosure g f xs ys → ComparesKeys g f → StayInTurn xs ys
  in_turn-from xs ys stable h = in_turn-from_stable xs ys
      (stable (λ x y. is_lt (slice_cmp nat_cmp (row_key x) (row_key y))) (ranks_by nat_list_cmp_total row_key) (as_keys g f h))
