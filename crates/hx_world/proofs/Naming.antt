-- The posts that wait: each is named in the trace, and their names ascend.
use Rattle.std.proofs.Common.{◌≡◌, ℕ, suc, ◌+◌, ◌-◌, ◌<◌, ◌≤◌, inl, inr, ◌⊎◌, Bool, true, not, ◌&&◌, List, [], ◌∷◌}
use Rattle.std.proofs.Common.{◌++◌, length, Option, Some, None, refl, ap, ◌∙◌, subst, sym, arith, eqb, ltb}
use Rattle.std.specs.Prelude.{slice_get}
use Rattle.std.specs.List.{filter}
use Rattle.std.proofs.lemmas.Bool.{cond_both, cond-true, cond-false, eqb-true, eq-eqb, ne_eqb, lt-ltb, ltb-true}
use Rattle.std.proofs.lemmas.Bool.{or_cases, or_left, or_right, and_from, and_parts}
use Rattle.hx_model.specs.Types.{Deliver, Entry, Halt, Input, Post, PostId, Tick}
use Rattle.hx_types.specs.Words.{IsIn, when_some}
use Rattle.hx_model.specs.Runs.{entry_at, post_named}
use Rattle.hx_model.specs.Schedule.{names_from, same_name, undelivered, without_delivered}
use Rattle.hx_law_lemmas.proofs.Lemmas.{in-append, in-filter}
use Rattle.hx_world.specs.Names.{AreAscending, is_before}

-- no entry has a number past the end
number_within : (n : ℕ) (t : List Entry) (x : Entry) → entry_at n t ≡ Some x → n ≤ length t
number_within n [] x = λ e. absurd (cc)
number_within n (y ∷ older) x =
    cond_both (eqb n (length older + 1)) (Some y) (entry_at n older) (λ (o : Option Entry). o ≡ Some x → n ≤ suc (length older))
    (λ h e. let same = eqb-true n (length older + 1) h in omega (arith, same))
    (λ h e. let k = number_within n older x e in omega (arith, k))

-- what has a name is an entry's post
named_entry : (id : PostId) (t : List Entry) (p : Post) → post_named id t ≡ Some p → (x : Entry)
    × (entry_at id.entry t ≡ Some x) × (slice_get x.outputs id.place ≡ Some p)
named_entry id t p = λ e. by (entry_at id.entry t) refl e
  where
    by : (o : Option Entry) → entry_at id.entry t ≡ o
        → when_some o None (λ (x : Entry). slice_get x.outputs id.place) ≡ Some p → (x : Entry)
        × (entry_at id.entry t ≡ Some x) × (slice_get x.outputs id.place ≡ Some p)
    by None h e = absurd (cc)
    by (Some x) h e = (x, h, e)

-- a named post is of no later entry
pub named_within : (id : PostId) (t : List Entry) (p : Post) → post_named id t ≡ Some p → id.entry ≤ length t
named_within id t p e = let f = named_entry id t p e in number_within id.entry t f.0 f.1

-- a name stays that of its post
pub named_still : (id : PostId) (t : List Entry) (x : Entry) (p : Post) → post_named id t ≡ Some p → post_named id (x ∷ t) ≡ Some p
named_still id t x p e =
    let within = named_within id t p e in
    ap (λ (o : Option Entry). when_some o None (λ (y : Entry). slice_get y.outputs id.place))
    (cond-false (eqb id.entry (length t + 1)) (Some x) (entry_at id.entry t) (ne_eqb id.entry (length t + 1) (λ h. omega (arith, h, within))))
    ∙ e

-- the posts of the newest entry are named
pub named_new : (t : List Entry) (x : Entry) (i : ℕ) (p : Post) → slice_get x.outputs i ≡ Some p
    → post_named (record { entry = length t + 1; place = i }) (x ∷ t) ≡ Some p
named_new t x i p e =
    ap (λ (o : Option Entry). when_some o None (λ (y : Entry). slice_get y.outputs i))
    (cond-true (eqb (length t + 1) (length t + 1)) (Some x) (entry_at (length t + 1) t) (eq-eqb (length t + 1) (length t + 1) refl))
    ∙ e

-- a name of an entry's posts
pub record IsNameIn (entry place : ℕ) (posts : List Post) (id : PostId) : Type 0 where
  pub sent : Post
  pub entry_is : id.entry ≡ entry
  pub after : place ≤ id.place
  pub is : slice_get posts (id.place - place) ≡ Some sent

pub name_in : (entry place : ℕ) (posts : List Post) (id : PostId) → IsIn id (names_from entry place posts) → IsNameIn entry place posts id
name_in entry place [] id i = absurd i
name_in entry place (p ∷ rest) id (inl e) =
    let entry_is : id.entry ≡ entry = ap (λ (x : PostId). x.entry) e in
    let place_is : id.place ≡ place = ap (λ (x : PostId). x.place) e in
    let first : id.place - place ≡ 0 = omega (arith, place_is) in
    record { sent = p; entry_is = entry_is; after = omega (arith, place_is); is = rw first refl }
name_in entry place (p ∷ rest) id (inr i) =
    let r = name_in entry (place + 1) rest id i in
    let before = r.after in
    let further : id.place - place ≡ suc (id.place - (place + 1)) = omega (arith, before) in
    record { sent = r.sent; entry_is = r.entry_is; after = omega (arith, before); is = rw further r.is }

-- the name of a post of the newest entry
pub new_named : (t : List Entry) (x : Entry) (id : PostId) → IsIn id (names_from (length t + 1) 0 x.outputs) → (p : Post) × (post_named id (x ∷ t) ≡ Some p)
new_named t x id j =
    let r = name_in (length t + 1) 0 x.outputs id j in
    let e = r.entry_is in
    let place : id.place - 0 ≡ id.place = omega arith in
    (r.sent, subst (λ n. post_named (record { entry = n; place = id.place }) (x ∷ t) ≡ Some r.sent) (sym e) (named_new t x id.place r.sent (rw place at r.is)))

-- what still waits waited before
pub still_named : (input : Input) (names : List PostId) (id : PostId) → IsIn id (without_delivered input names) → IsIn id names
still_named Tick names id j = j
still_named Halt names id j = j
still_named (Deliver d from message) names id j = (in-filter (λ (y : PostId). not (same_name y d)) names id j).0

-- each post that waits is named
pub waiting_named : (t : List Entry) (id : PostId) → IsIn id (undelivered t) → (p : Post) × (post_named id t ≡ Some p)
waiting_named [] id i = absurd i
waiting_named (x ∷ older) id i =
    elim (in-append (without_delivered x.input (undelivered older)) (names_from (length older + 1) 0 x.outputs) id i) [
      | inl j ↦ (let r = waiting_named older id (still_named x.input (undelivered older) id j) in (r.0, named_still id older x r.0 r.1))
      | inr j ↦ new_named older x id j
    ]

-- one name is lower than another
pub before_entry : (a b : PostId) → a.entry < b.entry → is_before a b ≡ true
before_entry a b l = or_left (ltb a.entry b.entry) (eqb a.entry b.entry && ltb a.place b.place) (lt-ltb a.entry b.entry l)

pub before_place : (a b : PostId) → a.entry ≡ b.entry → a.place < b.place → is_before a b ≡ true
before_place a b e l =
    or_right (ltb a.entry b.entry) (eqb a.entry b.entry && ltb a.place b.place)
    (and_from (eqb a.entry b.entry) (ltb a.place b.place) (eq-eqb a.entry b.entry e) (lt-ltb a.place b.place l))

pub before_cases : (a b : PostId) → is_before a b ≡ true → (a.entry < b.entry) ⊎ ((a.entry ≡ b.entry) × (a.place < b.place))
before_cases a b h =
    elim (or_cases (ltb a.entry b.entry) (eqb a.entry b.entry && ltb a.place b.place) h) [
      | inl e ↦ inl (ltb-true a.entry b.entry e)
      | inr e ↦ (let p = and_parts (eqb a.entry b.entry) (ltb a.place b.place) e in inr (eqb-true a.entry b.entry p.0, ltb-true a.place b.place p.1))
    ]

pub before_all : (a b c : PostId) → is_before a b ≡ true → is_before b c ≡ true → is_before a c ≡ true
before_all a b c h k =
    elim (before_cases a b h) [
      | inl l ↦ elim (before_cases b c k) [
        | inl m ↦ before_entry a c (omega (arith, l, m))
        | inr m ↦ (let same = m.0 in before_entry a c (omega (arith, l, same)))
      ]
      | inr l ↦ elim (before_cases b c k) [
        | inl m ↦ (let same = l.0 in before_entry a c (omega (arith, m, same)))
        | inr m ↦ (let one = l.1 in let two = m.1 in before_place a c (l.0 ∙ m.0) (omega (arith, one, two)))
      ]
    ]

pub names-ascend : (entry place : ℕ) (posts : List Post) → AreAscending (names_from entry place posts)
names-ascend entry place [] = tt
names-ascend entry place (p ∷ rest) = (
  λ y i. (let n = name_in entry (place + 1) rest y i in let after = n.after in
      before_place (record { entry = entry; place = place }) y (sym n.entry_is) (omega (arith, after))),
  names-ascend entry (place + 1) rest,
)

filter-ascends : (test : PostId → Bool) (names : List PostId) → AreAscending names → AreAscending (filter test names)
filter-ascends test [] h = tt
filter-ascends test (x ∷ rest) h =
    cond_both (test x) (x ∷ filter test rest) (filter test rest) AreAscending
    (λ e. ((λ y i. h.0 y (in-filter test rest y i).0), filter-ascends test rest h.1))
    (λ e. filter-ascends test rest h.1)

pub append-ascends : (xs ys : List PostId) → AreAscending xs → AreAscending ys
    → ((x y : PostId) → IsIn x xs → IsIn y ys → is_before x y ≡ true) → AreAscending (xs ++ ys)
append-ascends [] ys h k f = k
append-ascends (x ∷ xs) ys h k f = (
  λ y i. elim (in-append xs ys y i) [ inl j ↦ h.0 y j | inr j ↦ f x y (inl refl) j ],
  append-ascends xs ys h.1 k (λ z y i j. f z y (inr i) j),
)

pub delivery-ascends : (input : Input) (names : List PostId) → AreAscending names → AreAscending (without_delivered input names)
delivery-ascends Tick names h = h
delivery-ascends Halt names h = h
delivery-ascends (Deliver d from message) names h = filter-ascends (λ (y : PostId). not (same_name y d)) names h
