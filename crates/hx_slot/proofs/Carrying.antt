-- The committed state: marks and touches carried over the committed updates.
use Rattle.hx_model.specs.Lines.{upto}
use Rattle.std.proofs.Common.{◌≡◌, ℕ, ◌+◌, ◌<◌, ◌≤◌, Bool, true, false, List, [], ◌∷◌, ◌++◌, length, take, drop, set}
use Rattle.std.proofs.Common.{get_or, Option, Some, None, refl, ap, sym, ◌∙◌, subst, add-one, arith, cond, eqb, ltb}
use Rattle.std.specs.Option.{option_map}
use Rattle.std.proofs.lemmas.Bool.{cond_both, cond-false, cond-true, eq-eqb, le-ltb, ne_eqb}
use Rattle.std.proofs.lemmas.List.{at_drop_more, get_or_default, set_split}
use Rattle.std.proofs.lemmas.List.Elements.{All-from_recursion, All-weaker, recursion_from_All}
use Rattle.hx_model.specs.Types.{Mark, Place, RegionId, Row, Touch, Update, Value}
use Rattle.hx_types.specs.Words.{provided, same_session}
use Rattle.hx_model.specs.Slots.{KeyState, kept_of, kept_row, marks_after, row_of, touches_after, with_mark, with_touches}
use Rattle.hx_slot.specs.declared.updates.AcceptedUpdate.{AcceptedUpdate}
use Rattle.hx_slot.specs.declared.slots.Slot.TheInside.{Inside}
use Rattle.hx_slot.specs.Updates.{Ascends, last_version, newest_first, row_by, row_over}
use Rattle.hx_slot.specs.Invariant.{IsSlot, whole}
use Rattle.hx_slot.specs.States.{IsOrderly, IsRowUpTo, committed_state}
use Rattle.hx_slot.specs.MarksAndTouches.{AscendByRegion, marks_over, touches_over}
use Rattle.hx_slot.proofs.Acking.{ascends-take}
use Rattle.hx_slot.proofs.Newer.{AscendBySession, MarksUpTo, marks_after-ascends, marks_after-upto}
use Rattle.hx_slot.proofs.Newest.{last_version-above, newest_first-upto, upto-line}
use Rattle.hx_slot.proofs.Reading.{object-seen}
use Rattle.hx_slot.proofs.Regions.{TouchesUpTo, touches_after-ascends, touches_after-upto}

-- a mark takes the place of that of its session
pub mark-over_at : (m : Mark) (marks : List Mark) (i : ℕ) (x y : Mark) → i < length marks → x ≡ get_or marks i x
    → y ≡ get_or marks i y → m.session.0 ≡ x.session.0 → y.number ≤ m.number
    → take i marks ++ with_mark m (drop i marks) ≡ with_mark m marks → set marks i m ≡ with_mark m marks
mark-over_at m marks i x y l e f s n p =
    let same : y ≡ x = f ∙ get_or_default marks i y x l ∙ sym e in
    let number = ap (λ (z : Mark). z.number) same in
    set_split marks i m l
    ∙ ap (λ (rest : List Mark). take i marks ++ rest)
    (ap (λ (j : ℕ). m ∷ drop j marks) (sym (add-one i))
    ∙ sym (at_drop_more (with_mark m) marks i x l
    ∙ ap (λ (z : Mark). with_mark m (z ∷ drop (i + 1) marks)) (sym e) ∙ here (omega (arith, number, n))))
    ∙ p
  where
    here : x.number ≤ m.number → with_mark m (x ∷ drop (i + 1) marks) ≡ m ∷ drop (i + 1) marks
    here l =
        cond-false (ltb m.session.0 x.session.0) _ _ (le-ltb m.session.0 x.session.0 (omega (arith, s)))
        ∙ cond-true (same_session m.session x.session) _ _ (eq-eqb m.session.0 x.session.0 s)
        ∙ ap (λ (z : Mark). z ∷ drop (i + 1) marks) (cond-false (ltb m.number x.number) _ _ (le-ltb m.number x.number l))

-- the touches of one update more
pub touches_over-more : (line : List AcceptedUpdate) (i : ℕ) (t : AcceptedUpdate) (old new : List Touch)
    (places : List Place) → i < length line → t ≡ get_or line i t → places ≡ t.update.places
    → new ≡ with_touches t.update.version places old → touches_over new (drop (i + 1) line) ≡ touches_over old (drop i line)
touches_over-more line i t old new places l e p n =
    ap (λ (ts : List Touch). touches_over ts (drop (i + 1) line)) (n ∙ ap (λ (ps : List Place). with_touches t.update.version ps old) p)
    ∙ ap (λ (x : AcceptedUpdate). touches_over (with_touches x.update.version x.update.places old) (drop (i + 1) line)) e
    ∙ sym (at_drop_more (touches_over old) line i t l)

pub marks_after-over : (base : List Mark) (o : List Update) (ts : List AcceptedUpdate)
    → marks_after base (newest_first o ts) ≡ marks_over (marks_after base o) ts
marks_after-over base o [] = refl
marks_after-over base o (t ∷ rest) = marks_after-over base (t.update ∷ o) rest

pub touches_after-over : (base : List Touch) (o : List Update) (ts : List AcceptedUpdate)
    → touches_after base (newest_first o ts) ≡ touches_over (touches_after base o) ts
touches_after-over base o [] = refl
touches_after-over base o (t ∷ rest) = touches_after-over base (t.update ∷ o) rest

-- the parts of the committed state
pub marks-seen : (a : Inside) → IsSlot a → provided a.keeps_marks
    (marks_over a.base.marks.items (take a.committed a.accepted.items)) ≡ (kept_of a.region (whole a).state).marks
marks-seen a h = ap (provided a.keeps_marks) (sym
    (ap (marks_after a.base.marks.items) (upto-line h.line)
    ∙ marks_after-over a.base.marks.items [] (take a.committed a.accepted.items)))

pub touches-seen : (a : Inside) → IsSlot a → provided a.keeps_marks
    (touches_over a.base.touches.items (take a.committed a.accepted.items)) ≡ (kept_of a.region (whole a).state).touches
touches-seen a h = ap (provided a.keeps_marks) (sym
    (ap (touches_after a.base.touches.items) (upto-line h.line)
    ∙ touches_after-over a.base.touches.items [] (take a.committed a.accepted.items)))

-- a row of a version up to a higher floor
pub row-weaker : (v w : ℕ) (row : Option Row) → v ≤ w → IsRowUpTo v row → IsRowUpTo w row
row-weaker v w None l h = tt
row-weaker v w (Some r) l h = omega arith

row_of-upto : (v : ℕ) (u : Update) → u.version.0 ≤ v → IsRowUpTo v (row_of u)
row_of-upto v u l = by u.object
  where
    by : (o : Option (List Value)) → IsRowUpTo v (option_map (λ (object : List Value). record { key = u.key; version = u.version; object = object }) o)
    by None = tt
    by (Some object) = l

pub row_by-upto : (v : ℕ) (t : AcceptedUpdate) (row : Option Row) → t.update.version.0 ≤ v → IsRowUpTo v row → IsRowUpTo v (row_by t row)
row_by-upto v t row l h =
    cond_both t.keeps (cond t.update.changes (row_of t.update) row) None (IsRowUpTo v)
    (λ e. cond_both t.update.changes (row_of t.update) row (IsRowUpTo v) (λ q. row_of-upto v t.update l) (λ q. h))
    (λ e. tt)

row_over-upto : (v w : ℕ) (row : Option Row) (ts : List AcceptedUpdate) → Ascends w ts → last_version w ts ≤ v → IsRowUpTo v row → IsRowUpTo v (row_over row ts)
row_over-upto v w row [] a l h = h
row_over-upto v w row (t ∷ rest) a l h =
    let b = last_version-above t.update.version.0 rest a.1 in
    row_over-upto v t.update.version.0 (row_by t row) rest a.1 l (row_by-upto v t row (omega (arith, b, l)) h)

-- facts of both or of none
provided-all : {A : Type 0} (P : List A → Type 0) (b : Bool) (xs : List A) → P [] → P xs → P (provided b xs)
provided-all P true xs n h = h
provided-all P false xs n h = n

-- the committed state is in order
pub kept-orderly : (a : Inside) → IsSlot a → IsOrderly (kept_of a.region (whole a).state)
kept-orderly a h =
    let line = take a.committed a.accepted.items in
    let up = ascends-take a.base.floor.0 a.committed a.accepted.items h.line.ascends in
    let f = h.line.floor_is in
    let low = last_version-above a.base.floor.0 line up in
    let updates = newest_first-upto a.floor.0 [] line a.base.floor.0 tt up (omega (arith, f)) in
    let cut = sym (upto-line h.line) in
    let base_marks = recursion_from_All (λ (m : Mark). m.version.0 ≤ a.floor.0) a.base.marks.items
    (All-weaker (λ (m : Mark). m.version.0 ≤ a.base.floor.0) (λ (m : Mark). m.version.0 ≤ a.floor.0)
    (λ m l. omega (arith, f, low)) a.base.marks.items h.base.marks) in
    let base_touches = recursion_from_All (λ (t : Touch). t.version.0 ≤ a.floor.0) a.base.touches.items
    (All-weaker (λ (t : Touch). t.version.0 ≤ a.base.floor.0) (λ (t : Touch). t.version.0 ≤ a.floor.0)
    (λ t l. omega (arith, f, low)) a.base.touches.items h.base.touches) in
    record {
      row = subst (IsRowUpTo a.floor.0) (object-seen a h)
          (row_over-upto a.floor.0 a.base.floor.0 a.base.object line up (omega (arith, f))
          (row-weaker a.base.floor.0 a.floor.0 a.base.object (omega (arith, f, low)) h.base.row));
      marks = All-from_recursion (λ (m : Mark). m.version.0 ≤ a.floor.0) _
          (provided-all (MarksUpTo a.floor.0) a.keeps_marks _ tt
          (subst (λ (us : List Update). MarksUpTo a.floor.0 (marks_after a.base.marks.items us)) cut
          (marks_after-upto a.floor.0 a.base.marks.items (newest_first [] line) base_marks updates)));
      touches = All-from_recursion (λ (t : Touch). t.version.0 ≤ a.floor.0) _
          (provided-all (TouchesUpTo a.floor.0) a.keeps_marks _ tt
          (subst (λ (us : List Update). TouchesUpTo a.floor.0 (touches_after a.base.touches.items us)) cut
          (touches_after-upto a.floor.0 a.base.touches.items (newest_first [] line) base_touches updates)));
      sessions_ascend = provided-all AscendBySession a.keeps_marks _ tt
          (marks_after-ascends a.base.marks.items (upto a.floor.0 (newest_first [] a.accepted.items)) h.base.sessions_ascend);
      regions_ascend = provided-all AscendByRegion a.keeps_marks _ tt
          (touches_after-ascends a.base.touches.items (upto a.floor.0 (newest_first [] a.accepted.items)) h.base.regions_ascend);
    }

-- where something is committed
pub committed-state : (g : RegionId) (s : KeyState) → (s.floor ≡ 0 → ⊥) → Some (kept_of g s) ≡ committed_state g s
committed-state g s n = sym (cond-false (eqb s.floor 0) _ _ (ne_eqb s.floor 0 n))

-- where every committed update is in the base, it is the committed state
pub base-kept : (a : Inside) → IsSlot a → a.committed ≡ 0
    → record {
      key = a.key;
      floor = a.floor;
      object = a.base.object;
      marks = a.base.marks.items;
      touches = a.base.touches.items;
    } ≡ kept_of a.region (whole a).state
base-kept a h e =
    let none : upto a.floor.0 (newest_first [] a.accepted.items) ≡ [] = upto-line h.line ∙ ap (λ n. newest_first [] (take n a.accepted.items)) e in
    let object = ap (kept_row a.region a.base.object) (sym none) in
    let marks = sym h.bare ∙ ap (λ (us : List Update). provided a.keeps_marks (marks_after a.base.marks.items us)) (sym none) in
    let touches = sym h.untouched ∙ ap (λ (us : List Update). provided a.keeps_marks (touches_after a.base.touches.items us)) (sym none) in
    λ j. record { key = a.key; floor = a.floor; object = object j; marks = marks j; touches = touches j }
