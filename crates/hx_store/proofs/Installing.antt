-- Slots that are put in a store at once, each at its key, which has a place.
use Rattle.std.proofs.Common.{◌≡◌, ℕ, zero, suc, ◌+◌, ◌<◌, Bool, true, false, ◌||◌, List, [], ◌∷◌, ◌++◌, map, take}
use Rattle.std.proofs.Common.{length, Some, inl, inr, refl, ap, sym, ◌∙◌, subst, arith}
use Rattle.std.specs.List.{AllByRecursion, list_any, slice_get}
use Rattle.std.proofs.lemmas.Bool.{false≢true, false_from_ne_true, or_cases, or_left, or_right}
use Rattle.std.proofs.lemmas.List.{append_assoc, map_push}
use Rattle.hx_model.specs.Types.{Kept}
use Rattle.hx_types.specs.Words.{same_text, text_below, when_some}
use Rattle.hx_model.proofs.Lemmas.{eq_of_same_text, same_text_self}
use Rattle.hx_model.specs.ServerSteps.{state_from}
use Rattle.hx_model.specs.Slots.{KeyState, with_state}
use Rattle.hx_law_folds.specs.Folding.{KeptsAscend, KeysAscend}
use Rattle.hx_law_folds.proofs.Lemmas.{from-key}
use Rattle.hx_slot.specs.States.{SlotState}
use Rattle.hx_store.specs.Stores.{IsPlace, IsReady, KeepsOtherRooms, KeepsRooms, KeepsRoomsBut, Room, StoreState, has_kept, has_room, is_key_of, states_of}
use Rattle.hx_store.proofs.Lists.{take_next}
use Rattle.hx_store.proofs.Reading.{put-last}
use Rattle.hx_store.proofs.Showing.{kept-others}

-- a key that has a place keeps it
abbrev is-of : List ℕ → Room → Bool
is-of key r = same_text r.key key

has-others : (free key : List ℕ) (a b : List Room) → KeepsOtherRooms free a b → list_any (is-of key) a ≡ true → list_any (is-of key) b ≡ true
has-others free key [] b h t = absurd (false≢true t)
has-others free key (x ∷ a) [] h t = absurd h
has-others free key (x ∷ a) (y ∷ b) h t = elim (or_cases (same_text x.key key) (list_any (is-of key) a) t) [
  | inl e ↦ or_left (same_text y.key key) _ (ap (λ (k : List ℕ). same_text k key) h.0 ∙ e)
  | inr e ↦ or_right (same_text y.key key) _ (has-others free key a b h.2 e)
]

-- what has a place has one
at-has : (key : List ℕ) (rs : List Room) (i : ℕ) → i < length rs → when_some (slice_get rs i) [] (λ (r : Room). r.key) ≡ key → list_any (is-of key) rs ≡ true
at-has key [] i l e = absurd (omega (arith, l))
at-has key (r ∷ rs) zero l e = or_left (same_text r.key key) _ (ap (λ (k : List ℕ). same_text k key) e ∙ same_text_self key)
at-has key (r ∷ rs) (suc i) l e = or_right (same_text r.key key) _ (at-has key rs i (omega (arith, l)) e)

pub place-has : (s : StoreState) (place : ℕ) (key : List ℕ) → IsPlace s place key → has_room s key ≡ true
place-has s place key h = at-has key s.rooms place h.within h.key_is

-- slots that are ready stay so
pub ready-others : (s t : StoreState) (free : List ℕ) (xs : List SlotState) → t.region ≡ s.region
    → t.keeps_marks ≡ s.keeps_marks → KeepsOtherRooms free s.rooms t.rooms → AllByRecursion (IsReady s) xs
    → AllByRecursion (IsReady t) xs
ready-others s t free [] g m k h = tt
ready-others s t free (x ∷ xs) g m k h = (
  record { region = h.0.region ∙ sym g; marks = h.0.marks ∙ sym m; place = has-others free x.state.base.key s.rooms t.rooms k h.0.place },
  ready-others s t free xs g m k h.1,
)

pub ready-kept : (s t : StoreState) (xs : List SlotState) → t.region ≡ s.region → t.keeps_marks ≡ s.keeps_marks
    → KeepsRooms s.rooms t.rooms → AllByRecursion (IsReady s) xs → AllByRecursion (IsReady t) xs
ready-kept s t xs g m k = ready-others s t [] xs g m (kept-others [] s.rooms t.rooms k)

pub ready-push : (s : StoreState) (xs : List SlotState) (x : SlotState) → AllByRecursion (IsReady s) xs → IsReady s x
    → AllByRecursion (IsReady s) (xs ++ x ∷ [])
ready-push s [] x h r = (r, tt)
ready-push s (y ∷ ys) x h r = (h.0, ready-push s ys x h.1 r)

from-marks : (marks : Bool) (k : Kept) → (state_from marks k).marks ≡ marks
from-marks true k = refl
from-marks false k = refl

-- the slot of a kept state is ready where its key has a place
pub kept-ready : (s : StoreState) (marks : Bool) (k : Kept) (x : SlotState) (place : ℕ) → x.region ≡ s.region
    → marks ≡ s.keeps_marks → x.state ≡ state_from marks k → IsPlace s place k.key → IsReady s x
kept-ready s marks k x place g m e p = record {
  region = g;
  marks = ap (λ (t : KeyState). t.marks) e ∙ from-marks marks k ∙ m;
  place = ap (λ (key : List ℕ). has_room s key) (ap (λ (t : KeyState). t.base.key) e ∙ from-key marks k) ∙ place-has s place k.key p;
}

-- one slot more of those of a snapshot
pub made-next : (marks : Bool) (snapshot : List Kept) (i : ℕ) (k : Kept) (xs : List SlotState) (x : SlotState)
    → slice_get snapshot i ≡ Some k → states_of xs ≡ map (state_from marks) (take i snapshot) → x.state ≡ state_from marks k
    → states_of (xs ++ x ∷ []) ≡ map (state_from marks) (take (i + 1) snapshot)
made-next marks snapshot i k xs x at so e =
    map_push (λ (y : SlotState). y.state) xs x
    ∙ (λ j. so j ++ e j ∷ [])
    ∙ sym (map_push (state_from marks) (take i snapshot) k)
    ∙ ap (map (state_from marks)) (sym (take_next snapshot i k at))

-- their keys ascend
pub made-ascend : (marks : Bool) (snapshot : List Kept) → KeptsAscend snapshot → KeysAscend (map (state_from marks) snapshot)
made-ascend marks [] h = tt
made-ascend marks (k ∷ ks) h = (all ks h.0, made-ascend marks ks h.1)
  where
    all : (xs : List Kept) → AllByRecursion (λ (x : Kept). text_below k.key x.key ≡ true) xs
        → AllByRecursion (λ (t : KeyState). text_below (state_from marks k).base.key t.base.key ≡ true)
        (map (state_from marks) xs)
    all [] a = tt
    all (x ∷ xs) a = ((λ j. text_below (from-key marks k j) (from-key marks x j)) ∙ a.0, all xs a.1)

-- a slot comes behind those of lower keys
front-below : (xs : List KeyState) (y : KeyState) (ys : List KeyState) → KeysAscend (xs ++ y ∷ ys)
    → AllByRecursion (λ (t : KeyState). text_below t.base.key y.base.key ≡ true) xs
front-below [] y ys h = tt
front-below (x ∷ xs) y ys h = (at xs h.0, front-below xs y ys h.1)
  where
    at : (zs : List KeyState) → AllByRecursion (λ (t : KeyState). text_below x.base.key t.base.key ≡ true)
        (zs ++ y ∷ ys) → text_below x.base.key y.base.key ≡ true
    at [] a = a.0
    at (z ∷ zs) a = at zs a.1

pub put-next : (all now new rest : List KeyState) (s : KeyState) → KeysAscend all → now ++ s ∷ rest ≡ all → new ≡ with_state s now → new ++ rest ≡ all
put-next all now new rest s h so e =
    ap (λ (l : List KeyState). l ++ rest) (e ∙ put-last s now (front-below now s rest (subst KeysAscend (sym so) h)))
    ∙ append_assoc now (s ∷ []) rest
    ∙ so

-- no room falls but those of the keys of slots
pub but-same : (free : List ℕ → Bool) (rs : List Room) → KeepsRoomsBut free rs rs
but-same free [] = tt
but-same free (r ∷ rs) = (refl, (λ f. omega arith), but-same free rs)

pub but-next : (free : List ℕ → Bool) (key : List ℕ) (a b c : List Room) → free key ≡ true → KeepsRoomsBut free a b
    → KeepsOtherRooms key b c → KeepsRoomsBut free a c
but-next free key [] b c t h k = tt
but-next free key (x ∷ a) [] c t h k = absurd h
but-next free key (x ∷ a) (y ∷ b) [] t h k = absurd k
but-next free key (x ∷ a) (y ∷ b) (z ∷ c) t h k = (
  k.0 ∙ h.0,
  (λ f. let p = h.1 f in let q = k.1 (false_from_ne_true (same_text y.key key)
      (λ e. false≢true (sym f ∙ ap free (sym h.0 ∙ eq_of_same_text y.key key e) ∙ t))) in omega (arith, p, q)),
  but-next free key a b c t h.2 k.2,
)

pub but-kept : (free : List ℕ → Bool) (a b c : List Room) → KeepsRooms a b → KeepsRoomsBut free b c → KeepsRoomsBut free a c
but-kept free [] b c h k = tt
but-kept free (x ∷ a) [] c h k = absurd h
but-kept free (x ∷ a) (y ∷ b) [] h k = absurd k
but-kept free (x ∷ a) (y ∷ b) (z ∷ c) h k = (
  k.0 ∙ h.0,
  (λ f. let p = h.1 in let q = k.1 (ap free h.0 ∙ f) in omega (arith, p, q)),
  but-kept free a b c h.2 k.2,
)

pub kept-but : (free : List ℕ → Bool) (a b : List Room) → KeepsRooms a b → KeepsRoomsBut free a b
kept-but free a b h = but-kept free a b b h (but-same free b)

-- the keys of slots
pub each-own : (xs : List SlotState) → AllByRecursion (λ (x : SlotState). is_key_of xs x.state.base.key ≡ true) xs
each-own xs = by xs (λ key t. t)
  where
    by : (ys : List SlotState) → ((key : List ℕ) → is_key_of ys key ≡ true → is_key_of xs key ≡ true)
        → AllByRecursion (λ (x : SlotState). is_key_of xs x.state.base.key ≡ true) ys
    by [] f = tt
    by (y ∷ ys) f = (
      f y.state.base.key (or_left (same_text y.state.base.key y.state.base.key) _ (same_text_self y.state.base.key)),
      by ys (λ key t. f key (or_right (same_text y.state.base.key key) _ t)),
    )

-- are those of the snapshot
pub keys-kept : (marks : Bool) (snapshot : List Kept) (xs : List SlotState) → states_of xs ≡ map (state_from marks) snapshot → is_key_of xs ≡ has_kept snapshot
keys-kept marks snapshot xs e = λ j key. (through xs key
    ∙ ap (λ (ss : List KeyState). list_any (λ (s : KeyState). same_text s.base.key key) ss) e ∙ back snapshot key) j
  where
    through : (ys : List SlotState) (key : List ℕ) → is_key_of ys key ≡ list_any (λ (s : KeyState). same_text s.base.key key) (states_of ys)
    through [] key = refl
    through (y ∷ ys) key = ap (λ b. same_text y.state.base.key key || b) (through ys key)

    back : (ks : List Kept) (key : List ℕ) → list_any (λ (s : KeyState). same_text s.base.key key) (map (state_from marks) ks) ≡ has_kept ks key
    back [] key = refl
    back (k ∷ ks) key = λ j. same_text (from-key marks k j) key || back ks key j
