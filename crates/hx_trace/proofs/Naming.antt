-- The post of a name lies where the posts of its entry start.
use Rattle.std.proofs.Common.{◌≡◌, ℕ, zero, suc, ◌+◌, ◌-◌, ◌<◌, ◌≤◌, List, [], ◌∷◌, ◌++◌, length, length-append, map}
use Rattle.std.proofs.Common.{Option, Some, None, refl, sym, ap, ◌∙◌, arith, subst}
use Rattle.std.proofs.lemmas.List.{length-map}
use Rattle.std.specs.Prelude.{IfSome, MatchOption, slice_get, reverse, unwrap_or}
use Rattle.std.specs.Option.{option_map}
use Rattle.hx_types.specs.Words.{when_some}
use Rattle.hx_model.specs.Types.{Entry, Note, Post, PostId}
use Rattle.hx_model.specs.Runs.{post_named}
use Rattle.hx_trace.specs.declared.heads.Head.{Head}
use Rattle.hx_trace.specs.declared.heads.InputHead.{InputHead}
use Rattle.hx_trace.specs.declared.heads.InputHead.TheVariants.{Tick, Halt, Sent, Whole}
use Rattle.hx_trace.specs.declared.lists.Lists.{Lists}
use Rattle.hx_trace.specs.Lists.{AreWhole, entries_by, entries_in, entry_by, filed_by, posts_from, whole_by}
use Rattle.hx_trace.proofs.Longer.{entry_at_head, head_in, length_entries, no_entry_at}
use Rattle.hx_trace.specs.Rooms.{HasItsRoom, IsRoomFor}
use Rattle.hx_clock.specs.declared.rooms.Room.{Room}
use Rattle.hx_trace.specs.Places.{placed}
use Rattle.hx_trace.proofs.Numbering.{entry_is, no_entry}
use Rattle.hx_clock.proofs.Lemmas.{get_range, get_within_range}

pub some_is : {A : Type 0} (x y : A) → Some x ≡ Some y → x ≡ y
some_is x y h = ap (λ o. unwrap_or o x) h

pub get_within : {A : Type 0} (xs : List A) (i : ℕ) (x : A) → slice_get xs i ≡ Some x → i < length xs
get_within [] i x h = let none : None ≡ Some x = h in absurd (cc)
get_within (y ∷ xs) zero x h = omega arith
get_within (y ∷ xs) (suc i) x h = let k = get_within xs i x h in omega (arith, k)

-- an item past the first list is one of the second
pub get_after : {A : Type 0} (xs ys : List A) (i : ℕ) → length xs ≤ i → slice_get (xs ++ ys) i ≡ slice_get ys (i - length xs)
get_after [] ys i h = let same : i - 0 ≡ i = omega arith in rw same refl
get_after (x ∷ xs) ys zero h = absurd (omega (arith, h))
get_after (x ∷ xs) ys (suc i) h =
    let same : suc i - suc (length xs) ≡ i - length xs = omega arith in
    rw same (get_after xs ys i (omega (arith, h)))

-- the post of a name is one of the entry in its place
pub post_at : (t : List Entry) (id : PostId) → 0 < id.entry
    → post_named id (reverse t) ≡ when_some (slice_get t (id.entry - 1)) None (λ (x : Entry). slice_get x.outputs id.place)
post_at t id some = ap (λ (o : Option Entry). when_some o None (λ (x : Entry). slice_get x.outputs id.place)) (entry_is t id.entry some)

-- the same, where the posts of the entry are told
pub post_in : (o : Option Entry) (posts : Option (List Post)) (place : ℕ) → posts ≡ option_map (λ (x : Entry). x.outputs) o
    → when_some posts None (λ (ps : List Post). slice_get ps place) ≡ when_some o None (λ (x : Entry). slice_get x.outputs place)
post_in None posts place h = ap (λ ps. when_some ps None (λ (l : List Post). slice_get l place)) h
post_in (Some e) posts place h = ap (λ ps. when_some ps None (λ (l : List Post). slice_get l place)) h

-- no entry has the number 0
pub unnumbered : (t : List Entry) (id : PostId) → (1 ≤ id.entry → ⊥) → post_named id (reverse t) ≡ None
unnumbered t id none =
    let n : id.entry ≡ 0 = omega (arith, zero_or id.entry none) in
    rw n (ap (λ (o : Option Entry). when_some o None (λ (x : Entry). slice_get x.outputs id.place)) (no_entry t)) where
      zero_or : (n : ℕ) → (1 ≤ n → ⊥) → n ≡ 0
      zero_or zero h = refl
      zero_or (suc n) h = absurd (h (omega arith))

-- a post that was sent has an entry with a number from 1
pub sent_some : (t : List Entry) (id : PostId) (p : Post) → post_named id (reverse t) ≡ Some p → 0 < id.entry
sent_some t id p h = by_number id.entry refl where
  by_number : (n : ℕ) → n ≡ id.entry → 0 < id.entry
  by_number zero e =
      let none : post_named id (reverse t) ≡ None = unnumbered t id (λ le. omega (arith, le, e)) in
      let both : None ≡ Some p = sym none ∙ h in
      absurd (cc)
  by_number (suc n) e = omega (arith, e)

-- the head whose entry has the post of a name, among heads that come after other entries
pub record LiesAt (posts : List Post) (notes : List Note) (wholes : List Entry) (hs : List Head) (at : ℕ) (place : ℕ) (p : Post) : Type 0 where
  pub head : Head
  pub head_is : slice_get hs at ≡ Some head
  pub within : at < length hs
  pub post_is : slice_get (entry_by posts notes wholes head (slice_get hs (suc at))).outputs place ≡ Some p

by_head : (posts : List Post) (notes : List Note) (wholes : List Entry) (hs : List Head) (at place : ℕ) (p : Post) (o : Option Head) → slice_get hs at ≡ o
    → when_some (slice_get (entries_by posts notes wholes hs) at) None (λ (x : Entry). slice_get x.outputs place)
    ≡ Some p → LiesAt posts notes wholes hs at place p
by_head posts notes wholes hs at place p None e h =
    let none : None ≡ Some p = ap (λ (o : Option Entry). when_some o None (λ (x : Entry). slice_get x.outputs place))
    (sym (no_entry_at posts notes wholes hs at e)) ∙ h in absurd (cc)
by_head posts notes wholes hs at place p (Some head) e h = record {
  head = head;
  head_is = e;
  within = get_within hs at head e;
  post_is = ap (λ (o : Option Entry). when_some o None (λ (x : Entry). slice_get x.outputs place)) (sym (entry_at_head posts notes wholes hs at head e)) ∙ h;
}

pub lies_at : (posts : List Post) (notes : List Note) (wholes : List Entry) (first : List Entry) (hs : List Head) (id : PostId) (p : Post)
    → post_named id (reverse (first ++ entries_by posts notes wholes hs)) ≡ Some p → length first ≤ id.entry - 1
    → LiesAt posts notes wholes hs (id.entry - 1 - length first) id.place p
lies_at posts notes wholes first hs id p h past =
    let entries : List Entry = entries_by posts notes wholes hs in
    let some : 0 < id.entry = sent_some (first ++ entries) id p h in
    let here : slice_get (first ++ entries) (id.entry - 1) ≡ slice_get entries (id.entry - 1 - length first) = get_after first entries (id.entry - 1) past in
    by_head posts notes wholes hs (id.entry - 1 - length first) id.place p (slice_get hs (id.entry - 1 - length first)) refl
    (ap (λ (o : Option Entry). when_some o None (λ (x : Entry). slice_get x.outputs id.place)) (sym here) ∙ sym (post_at (first ++ entries) id some) ∙ h)

-- the same for the entries of lists, whose heads come after so many places
pub lies_in : (l : Lists) (id : PostId) (p : Post) (places place : ℕ)
    → post_named id (reverse (entries_in l)) ≡ Some p → places ≡ length l.places.items → places ≤ id.entry - 1
    → place ≡ id.entry - 1 - places
    → LiesAt l.posts.items l.notes.items l.wholes.items l.heads.items place id.place p
lies_in l id p places place sent many past is =
    let first : List Entry = map (placed l.parts.items) l.places.items in
    let long : length first ≡ length l.places.items = length-map l.places.items (placed l.parts.items) in
    let at : id.entry - 1 - length first ≡ place = omega (arith, long, many, is) in
    subst (λ k. LiesAt l.posts.items l.notes.items l.wholes.items l.heads.items k id.place p) at
    (lies_at l.posts.items l.notes.items l.wholes.items first l.heads.items id p sent (omega (arith, long, many, past)))

-- the post of a head lies among all posts, where its entry isn't kept whole
filed_post : (posts : List Post) (notes : List Note) (wholes : List Entry) (head : Head) (next : Option Head)
    (place : ℕ) (p : Post) → whole_by wholes head.input ≡ None
    → slice_get (entry_by posts notes wholes head next).outputs place ≡ Some p → slice_get posts (head.posts + place) ≡ Some p
filed_post posts notes wholes head next place p none h =
    get_range posts head.posts (posts_from (length posts) next) place p
    (subst (λ (o : Option Entry). slice_get (when_some o (filed_by posts notes head next) (λ whole. whole)).outputs place ≡ Some p) none h)

-- the entry is none that is kept whole
pub unkept : (wholes : List Entry) (t : InputHead) → ((at : ℕ) → t ≡ Whole at → ⊥) → whole_by wholes t ≡ None
unkept wholes Tick h = refl
unkept wholes Halt h = refl
unkept wholes (Sent entry place at) h = refl
unkept wholes (Whole at) h = absurd (h at refl)

same_head : (posts : List Post) (notes : List Note) (wholes : List Entry) (hs : List Head) (i place : ℕ) (p : Post) (head : Head)
    → LiesAt posts notes wholes hs i place p → slice_get hs i ≡ Some head
    → slice_get (entry_by posts notes wholes head (slice_get hs (suc i))).outputs place ≡ Some p
same_head posts notes wholes hs i place p head at is =
    let same : at.head ≡ head = some_is at.head head (sym at.head_is ∙ is) in
    subst (λ (h : Head). slice_get (entry_by posts notes wholes h (slice_get hs (suc i))).outputs place ≡ Some p) same at.post_is

-- a post of an entry that isn't kept whole
pub post_filed : (posts : List Post) (notes : List Note) (wholes : List Entry) (hs : List Head) (i place : ℕ) (p : Post) (head : Head)
    → LiesAt posts notes wholes hs i place p → slice_get hs i ≡ Some head → whole_by wholes head.input ≡ None
    → slice_get posts (head.posts + place) ≡ Some p
post_filed posts notes wholes hs i place p head at is none =
    filed_post posts notes wholes head (slice_get hs (suc i)) place p none (same_head posts notes wholes hs i place p head at is)

-- the entry of the head at a place
head_entry : (l : Lists) (id : PostId) (places number place : ℕ) (head : Head) → places ≡ length l.places.items
    → (1 ≤ id.entry) × (number ≡ id.entry - 1) → (places ≤ number) × (place ≡ number - places)
    → slice_get l.heads.items place ≡ Some head → slice_get (entries_in l) (id.entry - 1)
    ≡ Some (entry_by l.posts.items l.notes.items l.wholes.items head (slice_get l.heads.items (suc place)))
head_entry l id places number place head many from past is =
    let first : List Entry = map (placed l.parts.items) l.places.items in
    let rest : List Entry = entries_by l.posts.items l.notes.items l.wholes.items l.heads.items in
    let long : length first ≡ length l.places.items = length-map l.places.items (placed l.parts.items) in
    let at : id.entry - 1 - length first ≡ place = omega (arith, long, many, from, past) in
    get_after first rest (id.entry - 1) (omega (arith, long, many, from, past))
    ∙ ap (λ k. slice_get rest k) at
    ∙ entry_at_head l.posts.items l.notes.items l.wholes.items l.heads.items place head is

-- an entry that isn't kept whole is told by its head
filed_entry : (posts : List Post) (notes : List Note) (wholes : List Entry) (head : Head) (next : Option Head)
    → whole_by wholes head.input ≡ None → entry_by posts notes wholes head next ≡ filed_by posts notes head next
filed_entry posts notes wholes head next none = ap (λ (o : Option Entry). when_some o (filed_by posts notes head next) (λ whole. whole)) none

-- a post of a name lies where the posts of its head start
named_post : (l : Lists) (id : PostId) (places number place : ℕ) (head : Head) → places ≡ length l.places.items
    → (1 ≤ id.entry) × (number ≡ id.entry - 1) → (places ≤ number) × (place ≡ number - places)
    → slice_get l.heads.items place ≡ Some head → whole_by l.wholes.items head.input ≡ None
    → head.posts + id.place < posts_from (length l.posts.items) (slice_get l.heads.items (suc place))
    → slice_get l.posts.items (head.posts + id.place) ≡ post_named id (reverse (entries_in l))
named_post l id places number place head many from past is none few =
    sym (get_within_range l.posts.items head.posts (posts_from (length l.posts.items) (slice_get l.heads.items (suc place))) id.place few)
    ∙ ap (λ (e : Entry). slice_get e.outputs id.place)
    (sym (filed_entry l.posts.items l.notes.items l.wholes.items head (slice_get l.heads.items (suc place)) none))
    ∙ ap (λ (o : Option Entry). when_some o None (λ (x : Entry). slice_get x.outputs id.place))
    (sym (head_entry l id places number place head many from past is))
    ∙ sym (post_at (entries_in l) id (omega (arith, from)))

-- that place, if it is one of them
pub record IsPlaced (l : Lists) (id : PostId) (o : Option ℕ) : Type 0 where
  pub within : IfSome o (λ at. at < length l.posts.items)
  pub post : IfSome o (λ at. slice_get l.posts.items at ≡ post_named id (reverse (entries_in l)))

pub filed_place : (l : Lists) (id : PostId) (places number place : ℕ) (head : Head) → AreWhole l
    → places ≡ length l.places.items → (1 ≤ id.entry) × (number ≡ id.entry - 1) → (places ≤ number) × (place ≡ number - places)
    → slice_get l.heads.items place ≡ Some head → whole_by l.wholes.items head.input ≡ None
    → (end : ℕ) → end ≡ posts_from (length l.posts.items) (slice_get l.heads.items (suc place)) → (o : Option ℕ)
    → MatchOption o (end ≤ head.posts + id.place) (λ at. (at ≡ head.posts + id.place) × (at < end)) → IsPlaced l id o
filed_place l id places number place head whole many from past is none end ends None h = record { within = tt; post = tt }
filed_place l id places number place head whole many from past is none end ends (Some at) h =
    let lies = head_in (length l.posts.items) (length l.notes.items) (length l.wholes.items) l.heads.items place head whole.heads is in
    record {
      within = omega (arith, h.1, ends, lies.posts_within);
      post = ap (λ k. slice_get l.posts.items k) h.0 ∙ named_post l id places number place head many from past is none (omega (arith, h.0, h.1, ends));
    }

-- a post that was sent is one of the entries
sent_within : (t : List Entry) (id : PostId) (p : Post) → post_named id (reverse t) ≡ Some p → id.entry ≤ length t
sent_within t id p h =
    let some = sent_some t id p h in by (slice_get t (id.entry - 1)) refl some (sym (post_at t id some) ∙ h) where
      by : (o : Option Entry) → slice_get t (id.entry - 1) ≡ o → 0 < id.entry
          → when_some o None (λ (x : Entry). slice_get x.outputs id.place) ≡ Some p → id.entry ≤ length t
      by None is some e = let none : None ≡ Some p = e in absurd (cc)
      by (Some x) is some e = let within = get_within t (id.entry - 1) x is in omega (arith, within, some)

some_at : {A : Type 0} (xs : List A) (i : ℕ) → i < length xs → (x : A) × (slice_get xs i ≡ Some x)
some_at [] i h = absurd (omega (arith, h))
some_at (x ∷ xs) zero h = (x, refl)
some_at (x ∷ xs) (suc i) h = some_at xs i (omega (arith, h))

few_with_room : (l : Lists) (r : Option Room) (p n : ℕ) → HasItsRoom l r → IsRoomFor r p n → length l.places.items + length l.heads.items + 1 < 4294967296
few_with_room l None p n has for = absurd for
few_with_room l (Some r) p n has for = has.few_entries

-- the entry of a post that lies among the others has a small number, where there is room for one more
pub few_named : (l : Lists) (r : Option Room) (p n : ℕ) (id : PostId) (at : ℕ) → HasItsRoom l r → IsRoomFor r p n → at < length l.posts.items
    → slice_get l.posts.items at ≡ post_named id (reverse (entries_in l)) → id.entry < 4294967296
few_named l r p n id at has for within is =
    let sent = some_at l.posts.items at within in
    let number = sent_within (entries_in l) id sent.0 (sym is ∙ sent.1) in
    let few = few_with_room l r p n has for in
    let long = length-append (map (placed l.parts.items) l.places.items) (entries_by l.posts.items l.notes.items l.wholes.items l.heads.items) in
    let places = length-map l.places.items (placed l.parts.items) in
    let heads = length_entries l.posts.items l.notes.items l.wholes.items l.heads.items in
    omega (arith, number, few, long, places, heads)
