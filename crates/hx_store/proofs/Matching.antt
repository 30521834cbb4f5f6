-- What a search by the index finds: the objects that match, in byte order of keys, within a number of looks.
use Rattle.std.proofs.Common.{◌≡◌, ℕ, zero, suc, ◌+◌, ◌*◌, ◌<◌, ◌≤◌, nat_lt, Bool, true, false, ◌&&◌, cond, List, []}
use Rattle.std.proofs.Common.{◌∷◌, ◌++◌, length, is_some, Option, None, Some, min, refl, ap, sym, ◌∙◌, arith, eqb}
use Rattle.std.specs.List.{AllByRecursion, IsDistinct, filter, flat_map, slice_get}
use Rattle.std.specs.List.Sorted.{IsStrictlySortedBy}
use Rattle.std.specs.declared.cmp.Ordering.TheVariants.{Less}
use Rattle.std.proofs.lemmas.List.Kept.{IsStrictlySortedBy-filter}
use Rattle.hx_index.proofs.Lemmas.{less-differs, slots-exact, slots-total, stands-filter, within-at}
use Rattle.std.proofs.lemmas.Bool.{and_right, cond-false, cond-true, cond_both, eq-eqb, eqb-true, false≢true, false_from_ne_true, ltb-true, or_left, or_right}
use Rattle.std.proofs.lemmas.List.Elements.{filter-append}
use Rattle.std.proofs.lemmas.List.{length-append}
use Rattle.hx_model.specs.Types.{RegionId, Row, Term}
use Rattle.hx_types.specs.Spaces.{attribute_of}
use Rattle.hx_types.specs.Words.{list_of, when_some}
use Rattle.hx_model.specs.Matching.{matches, term_holds}
use Rattle.hx_model.specs.Slots.{found_in, new_state, object_of, rows_of}
use Rattle.hx_index.specs.Looks.{digits_of}
use Rattle.hx_index.specs.Orders.{IndexState, IsIndexOf, IsOrder, compare_at, count_of, order_of, stands_in}
use Rattle.hx_index.specs.Searches as index
use Rattle.hx_index.specs.Sides.{matches_at}
use Rattle.hx_store.specs.Invariant.{AscendAt, HasAll, IsStore, IsStoreSlot, is_listed, state_in, states_in}
use Rattle.hx_store.specs.Looks.{indexed_count, is_indexed, least_count, least_looks_at, meeting_count, most_looks_at}
use Rattle.hx_store.specs.Slots.{Entry, rows_in}
use Rattle.hx_store.proofs.Lists.{all-at}
use Rattle.hx_store.proofs.Order.{listed-there}
use Rattle.hx_store.proofs.Setting.{are-there}
use Rattle.hx_store.proofs.Showing.{order-ascends}
use Rattle.hx_store.specs.Indexed.{times}
use Rattle.hx_store.proofs.Sorting.{ascend-times, distinct-times, filter-ascends, same-list, same-numbers}

second : (a b : Bool) → (a && b) ≡ true → b ≡ true
second true b e = e
second false b e = absurd (false≢true e)

-- a test of an object, at the slot of a place
abbrev test-at : (Row → Bool) → Option Row → Bool
test-at p o = when_some o false p

-- no number stands twice in an order
order-times : (p : ℕ → Bool) (rows : ℕ → Option Row) (attribute : ℕ) (numbers : List ℕ)
    → IsOrder rows attribute numbers → (i : ℕ) → times i (filter p numbers) ≤ 1
unfolding IsStrictlySortedBy IsDistinct
order-times p rows attribute numbers h = distinct-times (filter p numbers)
    (distinct (filter p numbers) (IsStrictlySortedBy-filter (compare_at rows attribute) p numbers h.ascend))
  where
    apart : (x : ℕ) (ys : List ℕ) → AllByRecursion (λ y. compare_at rows attribute x y ≡ Less) ys → AllByRecursion (λ y. eqb x y ≡ false) ys
    apart x [] l = tt
    apart x (y ∷ ys) l = (
      false_from_ne_true (eqb x y)
          (λ t. less-differs (compare_at rows attribute) (slots-total rows attribute)
          (slots-exact rows attribute) x y l.0 (eqb-true x y t)),
      apart x ys l.1,
    )

    distinct : (xs : List ℕ) → IsStrictlySortedBy (compare_at rows attribute) xs → IsDistinct eqb xs
    distinct [] s = tt
    distinct (x ∷ xs) s = (apart x xs s.0, distinct xs s.1)

module _ (g : RegionId) (marks : Bool) (es : List Entry) (each : AllByRecursion (λ (x : Entry). IsStoreSlot g marks x.0 x.1) es) where
  abbrev row-of : ℕ → List Row
  row-of i = list_of (rows_in es i)

  -- the object of a listed slot
  row-there : (j : ℕ) → is_listed es j ≡ true → object_of g (state_in es j) ≡ rows_in es j
  row-there j h =
      let f = listed-there es j h in
      ap (λ (o : Option Entry). object_of g (when_some o (new_state false []) (λ (x : Entry). x.1.slot.state))) f.1
      ∙ ap (λ (r : RegionId). object_of r f.0.1.slot.state) (sym (all-at (λ (x : Entry). IsStoreSlot g marks x.0 x.1) es j f.0 each f.1).region)
      ∙ sym (ap (λ (o : Option Entry). when_some o None (λ (x : Entry). object_of x.1.slot.region x.1.slot.state)) f.1)

  -- a slot that isn't listed keeps no object
  listed-row : (j : ℕ) → is_some (rows_in es j) ≡ true → is_listed es j ≡ true
  listed-row j h = by (slice_get es j) refl
    where
      by : (o : Option Entry) → slice_get es j ≡ o → is_listed es j ≡ true
      by None e = absurd (false≢true (sym (ap (λ (o : Option Entry). is_some
          (when_some o None (λ (x : Entry). object_of x.1.slot.region x.1.slot.state))) e) ∙ h))
      by (Some f) e = ap (λ (o : Option Entry). when_some o false (λ (x : Entry). x.1.listed)) e ∙ true-or f.1.listed refl
        where
          true-or : (b : Bool) → f.1.listed ≡ b → f.1.listed ≡ true
          true-or true q = q
          true-or false q = (let none : rows_in es j ≡ None =
              ap (λ (o : Option Entry). when_some o None (λ (x : Entry). object_of x.1.slot.region x.1.slot.state)) e
              ∙ ap (object_of f.1.slot.region) ((all-at (λ (x : Entry). IsStoreSlot g marks x.0 x.1) es j f each e).closed q) in
              absurd (false≢true (sym (ap is_some none) ∙ h)))

  -- those of the listed slots that pass a test
  pub passing : (p : Row → Bool) (order : List ℕ) → AllByRecursion (λ j. is_listed es j ≡ true) order
      → filter p (rows_of g (states_in es order)) ≡ flat_map row-of (filter (λ i. test-at p (rows_in es i)) order)
  passing p [] h = refl
  passing p (j ∷ rest) h =
      filter-append p (list_of (object_of g (state_in es j))) (rows_of g (states_in es rest))
      ∙ ap (λ (o : Option Row). filter p (list_of o) ++ filter p (rows_of g (states_in es rest))) (row-there j h.0)
      ∙ ap (λ (l : List Row). filter p (row-of j) ++ l) (passing p rest h.1)
      ∙ by (rows_in es j) refl
    where
      later : List ℕ
      later = filter (λ i. test-at p (rows_in es i)) rest

      by : (o : Option Row) → rows_in es j ≡ o → filter p (row-of j) ++ flat_map row-of later
          ≡ flat_map row-of (cond (test-at p (rows_in es j)) (j ∷ later) later)
      by None e = (λ k. filter p (list_of (e k)) ++ flat_map row-of later) ∙ (λ k. flat_map row-of (cond (test-at p (sym e k)) (j ∷ later) later))
      by (Some r) e =
          (λ k. filter p (list_of (e k)) ++ flat_map row-of later)
          ∙ cond_both (p r) (r ∷ []) [] (λ (l : List Row). l ++ flat_map row-of later ≡ flat_map row-of (cond (test-at p (rows_in es j)) (j ∷ later) later))
          (λ t. (λ k. list_of (sym e k) ++ flat_map row-of later) ∙ (λ k. flat_map row-of (cond ((sym t ∙ ap (test-at p) (sym e)) k) (j ∷ later) later)))
          (λ f. λ k. flat_map row-of (cond ((sym f ∙ ap (test-at p) (sym e)) k) (j ∷ later) later))

  -- how many pass
  pub passing-count : (p : Row → Bool) (order : List ℕ) → AllByRecursion (λ j. is_listed es j ≡ true) order
      → length (filter p (rows_of g (states_in es order))) ≡ length (filter (λ i. test-at p (rows_in es i)) order)
  passing-count p order h = ap (λ (l : List Row). length l) (passing p order h) ∙ one-each order
    where
      one-each : (order : List ℕ) → length (flat_map row-of (filter (λ i. test-at p (rows_in es i)) order))
          ≡ length (filter (λ i. test-at p (rows_in es i)) order)
      one-each [] = refl
      one-each (j ∷ rest) = cond_both (test-at p (rows_in es j)) (j ∷ filter (λ i. test-at p (rows_in es i)) rest)
          (filter (λ i. test-at p (rows_in es i)) rest) (λ (l : List ℕ). length (flat_map row-of l) ≡ length l)
          (λ t. (let z : 1 + length (filter (λ i. test-at p (rows_in es i)) rest) ≡ suc (length (filter (λ i. test-at p (rows_in es i)) rest)) = omega arith in
          length-append (row-of j) (flat_map row-of (filter (λ i. test-at p (rows_in es i)) rest)) ∙ (λ k. one (rows_in es j) t k + one-each rest k) ∙ z))
          (λ f. one-each rest)
        where
          one : (o : Option Row) → test-at p o ≡ true → length (list_of o) ≡ 1
          one None t = absurd (false≢true t)
          one (Some r) t = refl

  module _ (order : List ℕ) (listed : (i : ℕ) → stands_in order i ≡ is_listed es i)
      (there : AllByRecursion (λ j. is_listed es j ≡ true) order) (ascend : AscendAt es order) where
    -- what passes at a place stands among the listed
    passing-stands : (p : Row → Bool) (i : ℕ) → stands_in (filter (λ j. test-at p (rows_in es j)) order) i ≡ test-at p (rows_in es i)
    passing-stands p i = stands-filter (λ j. test-at p (rows_in es j)) i order ∙ ap (λ b. test-at p (rows_in es i) && b) (listed i) ∙ by (rows_in es i) refl
      where
        own : (b : Bool) → (b && true) ≡ b
        own true = refl
        own false = refl

        by : (o : Option Row) → rows_in es i ≡ o → (test-at p (rows_in es i) && is_listed es i) ≡ test-at p (rows_in es i)
        by None e = ap (λ (o : Option Row). test-at p o && is_listed es i) e ∙ sym (ap (test-at p) e)
        by (Some r) e = ap (λ b. test-at p (rows_in es i) && b) (listed-row i (ap is_some e)) ∙ own (test-at p (rows_in es i))

    -- the places that the index finds, in order, are those of the rows that are found
    pub found-rows : (terms : List Term) (ids : List ℕ) → AscendAt es ids
        → ((i : ℕ) → stands_in ids i ≡ matches_at (rows_in es) terms i)
        → flat_map row-of ids ≡ found_in g terms (states_in es order)
    found-rows terms ids up is =
        ap (λ (l : List ℕ). flat_map row-of l) (same-list es ids
        (filter (λ j. matches_at (rows_in es) terms j) order) up
        (filter-ascends es (λ j. matches_at (rows_in es) terms j) order ascend)
        (λ i. is i ∙ sym (passing-stands (λ (r : Row). matches terms r.key r.object) i)))
        ∙ sym (passing (λ (r : Row). matches terms r.key r.object) order there)

    -- all that keep an object are among them
    pub has-all : HasAll es (λ i. is_some (rows_in es i)) order
    has-all = record {
      ascend = ascend;
      within = λ i t. (let f = listed-there es i (sym (listed i) ∙ t) in within-at es i f.0 f.1);
      all = λ i t. listed i ∙ listed-row i t;
    }

    -- in the order of an attribute as many pass
    pub passing-same : (p : Row → Bool) (attribute : ℕ) (numbers : List ℕ) → IsOrder (rows_in es) attribute numbers
        → length (filter (λ i. test-at p (rows_in es i)) numbers) ≡ length (filter p (rows_of g (states_in es order)))
    passing-same p attribute numbers h =
        same-numbers (filter (λ i. test-at p (rows_in es i)) numbers) (filter (λ i. test-at p (rows_in es i)) order)
        (order-times (λ i. test-at p (rows_in es i)) (rows_in es) attribute numbers h)
        (ascend-times es (filter (λ i. test-at p (rows_in es i)) order) (filter-ascends es (λ i. test-at p (rows_in es i)) order ascend))
        (λ i. stands-filter (λ j. test-at p (rows_in es j)) i numbers
        ∙ ap (λ b. test-at p (rows_in es i) && b) (h.each i) ∙ own (rows_in es i) ∙ sym (passing-stands p i))
        ∙ sym (passing-count p order there)
      where
        both : (b : Bool) → (b && true) ≡ b
        both true = refl
        both false = refl

        own : (o : Option Row) → (test-at p o && is_some o) ≡ test-at p o
        own None = refl
        own (Some r) = both (p r)

    module _ (index_state : IndexState) (is : IsIndexOf (rows_in es) index_state) where
      abbrev rows : List Row
      rows = rows_of g (states_in es order)

      count-same : 0 < length index_state.orders → count_of index_state ≡ length rows
      count-same l = ap (λ (xs : List ℕ). length xs)
          (sym (all-pass (order_of index_state 0) (λ i t. t) (is 0 l).each))
          ∙ passing-same (λ (r : Row). true) 0 (order_of index_state 0) (is 0 l)
          ∙ ap (λ (xs : List Row). length xs) (all-rows rows)
        where
          all-rows : (rs : List Row) → filter (λ (r : Row). true) rs ≡ rs
          all-rows [] = refl
          all-rows (r ∷ rs) = ap (λ (l : List Row). r ∷ l) (all-rows rs)

          all-pass : (xs : List ℕ) → ((i : ℕ) → stands_in xs i ≡ true → stands_in (order_of index_state 0) i ≡ true)
              → ((i : ℕ) → stands_in (order_of index_state 0) i ≡ is_some (rows_in es i))
              → filter (λ i. test-at (λ (r : Row). true) (rows_in es i)) xs ≡ xs
          all-pass [] f e = refl
          all-pass (x ∷ xs) f e =
              cond-true (test-at (λ (r : Row). true) (rows_in es x))
              (x ∷ filter (λ i. test-at (λ (r : Row). true) (rows_in es i)) xs) _
              (there-is (rows_in es x) (sym (e x) ∙ f x (or_left (eqb x x) _ (eq-eqb x x refl))))
              ∙ ap (λ (l : List ℕ). x ∷ l) (all-pass xs (λ i t. f i (or_right (eqb x i) _ t)) e)
            where
              there-is : (o : Option Row) → is_some o ≡ true → test-at (λ (r : Row). true) o ≡ true
              there-is None t = t
              there-is (Some r) t = refl

      run-same : (term : Term) → attribute_of term < length index_state.orders → index.run_length index_state (rows_in es) term ≡ meeting_count term rows
      run-same term l = passing-same (λ (r : Row). term_holds r.key r.object term) (attribute_of term)
          (order_of index_state (attribute_of term)) (is (attribute_of term) l)

      least-same : (terms : List Term) (m n : ℕ) → m ≡ n
          → index.least_run index_state (rows_in es) m terms ≡ least_count (length index_state.orders) rows n terms
      least-same [] m n e = e
      least-same (term ∷ terms) m n e = least-same terms _ _ (by (is_indexed (length index_state.orders) term) refl)
        where
          by : (b : Bool) → is_indexed (length index_state.orders) term ≡ b
              → cond (is_indexed (length index_state.orders) term)
              (min (index.run_length index_state (rows_in es) term) m) m
              ≡ cond (is_indexed (length index_state.orders) term) (min (meeting_count term rows) n) n
          by true q = (λ k. cond (is_indexed (length index_state.orders) term)
              (min (run-same term (ltb-true (attribute_of term) (length index_state.orders)
              (second (nat_lt 0 (attribute_of term)) _ q)) k) (e k)) (e k))
          by false q = (λ k. cond (q k) (min (index.run_length index_state (rows_in es) term) m) m) ∙ e
              ∙ (λ k. cond (sym q k) (min (meeting_count term rows) n) n)

      -- the bound of the index is that of the store
      pub looks-same : (terms : List Term) → 0 < length index_state.orders
          → index.most_looks index_state (rows_in es) terms ≡ most_looks_at (length index_state.orders) rows terms
      looks-same terms l = λ k. least-same terms (count_of index_state) (length rows)
          (count-same l) k + 2 * indexed_count (length index_state.orders) terms * digits_of (count-same l k)

      -- and so is the least number of looks
      pub looks-least : (terms : List Term) → 0 < length index_state.orders
          → index.least_run index_state (rows_in es) (count_of index_state) terms
          ≡ least_looks_at (length index_state.orders) rows terms
      looks-least terms l = least-same terms (count_of index_state) (length rows) (count-same l)

      none-indexed : length index_state.orders ≡ 0 → (term : Term) → index.is_indexed index_state term ≡ false
      none-indexed e term = and_right (nat_lt 0 (attribute_of term)) _
          (false_from_ne_true (nat_lt (attribute_of term) (length index_state.orders))
          (λ t. (let l = ltb-true (attribute_of term) (length index_state.orders) t in omega (arith, l, e))))

      least-none : length index_state.orders ≡ 0 → (terms : List Term) (m : ℕ) → index.least_run index_state (rows_in es) m terms ≡ m
      least-none e [] m = refl
      least-none e (term ∷ terms) m = least-none e terms _
          ∙ cond-false (index.is_indexed index_state term) (min (index.run_length index_state (rows_in es) term) m) m
          (none-indexed e term)

      counted-none : length index_state.orders ≡ 0 → (terms : List Term) → index.indexed_count index_state terms ≡ 0
      counted-none e [] = refl
      counted-none e (term ∷ terms) = ap (λ (l : List Term). length l)
          (cond-false (index.is_indexed index_state term) (term ∷ filter (index.is_indexed index_state) terms)
          (filter (index.is_indexed index_state) terms) (none-indexed e term)) ∙ counted-none e terms

      no-orders : (os : List (List ℕ)) → length os ≡ 0 → length (when_some (slice_get os 0) [] (λ (o : List ℕ). o)) ≡ 0
      no-orders [] e = refl
      no-orders (o ∷ os) e = absurd (omega (arith, e))

      -- so a search takes no more looks than that
      pub looks-most : (terms : List Term) → index.most_looks index_state (rows_in es) terms ≤ most_looks_at (length index_state.orders) rows terms
      looks-most terms = by (length index_state.orders) refl
        where
          by : (n : ℕ) → length index_state.orders ≡ n → index.most_looks index_state (rows_in es) terms ≤ most_looks_at (length index_state.orders) rows terms
          by zero e =
              let least = least-none e terms (count_of index_state) in
              let count = no-orders index_state.orders e in
              let more = ap (λ n. 2 * n * digits_of (count_of index_state)) (counted-none e terms) in
              omega (arith, least, count, more)
          by (suc n) e = (let same = looks-same terms (omega (arith, e)) in omega (arith, same))

-- what a search of a store finds, and its looks
module _ {g : RegionId} {marks : Bool} {es : List Entry} {order : List ℕ} {cap : ℕ} (h : IsStore g marks es order cap) where
  ascends : AscendAt es order
  ascends = order-ascends {attributes = 0} {ordered = true} h refl

  pub store-all : HasAll es (λ i. is_some (rows_in es i)) order
  store-all = has-all g marks es h.each order h.listed (are-there h) ascends

  pub store-found : (terms : List Term) (ids : List ℕ) → AscendAt es ids → ((i : ℕ) → stands_in ids i ≡ matches_at (rows_in es) terms i)
      → flat_map (λ i. list_of (rows_in es i)) ids ≡ found_in g terms (states_in es order)
  store-found terms ids up is = found-rows g marks es h.each order h.listed (are-there h) ascends terms ids up is

  module _ (index_state : IndexState) (is : IsIndexOf (rows_in es) index_state) (terms : List Term) where
    pub store-most : index.most_looks index_state (rows_in es) terms ≤ most_looks_at (length index_state.orders) (rows_of g (states_in es order)) terms
    store-most = looks-most g marks es h.each order h.listed (are-there h) ascends index_state is terms

    pub store-least : 0 < length index_state.orders
        → index.least_run index_state (rows_in es) (count_of index_state) terms
        ≡ least_looks_at (length index_state.orders) (rows_of g (states_in es order)) terms
    store-least l = looks-least g marks es h.each order h.listed (are-there h) ascends index_state is terms l
