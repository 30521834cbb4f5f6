-- The lowest committed update goes into the base.
use Rattle.hx_model.specs.Lines.{upto}
use Rattle.std.proofs.Common.{◌≡◌, ℕ, suc, ◌+◌, ◌<◌, ◌≤◌, Bool, true, false, List, [], ◌∷◌, Vec, length, take, drop}
use Rattle.std.proofs.Common.{get_or, vec_capacity, vec_len, Option, refl, ap, sym, ◌∙◌, subst, arith, leb}
use Rattle.std.specs.declared.alloc.Global.{Global}
use Rattle.std.proofs.lemmas.Bool.{cond-false, cond-true, le-leb, lt-leb}
use Rattle.std.proofs.lemmas.List.{take-append-drop}
use Rattle.std.proofs.lemmas.List.Elements.{All-from_recursion, All-weaker, recursion_from_All}
use Rattle.hx_model.specs.Types.{Mark, RegionId, Row, Touch, Update, Version}
use Rattle.hx_types.specs.Words.{provided}
use Rattle.hx_model.specs.Slots.{KeyState, kept_row, mark_by, marks_after, top_above, touches_after, with_mark, with_touches}
use Rattle.hx_law_folds.specs.Folding.{above, folded}
use Rattle.hx_slot.specs.declared.bases.Base.{Base}
use Rattle.hx_slot.specs.declared.updates.AcceptedUpdate.{AcceptedUpdate}
use Rattle.hx_slot.specs.declared.slots.Slot.TheInside.{Inside}
use Rattle.hx_slot.specs.Acks.{AreAcked}
use Rattle.hx_slot.specs.Bases.{IsFolded, kept_in}
use Rattle.hx_slot.specs.Invariant.{IsLine, IsSlot, seen, updates_of}
use Rattle.hx_slot.specs.States.{IsOrderly, IsRowUpTo, IsSettledInto, SlotState}
use Rattle.hx_slot.specs.MarksAndTouches.{AscendByRegion, marks_over, touches_over}
use Rattle.hx_slot.specs.Updates.{Ascends, IsPlaced, last_version, newest_first, row_by, row_over}
use Rattle.hx_slot.proofs.Carrying.{marks_after-over, row-weaker, row_by-upto, touches_after-over}
use Rattle.hx_slot.proofs.Newer.{AscendBySession, MarksUpTo, with_mark-ascends, with_mark-upto}
use Rattle.hx_slot.proofs.Newest.{kept_row-newest_first, newest_first-append, pending-ascends, by_recursion-take, top_above-newest_first, upto-line}
use Rattle.hx_slot.proofs.Regions.{TouchesUpTo, with_touches-ascends, with_touches-upto}

-- the updates above the floor are those that are pending
none-above : (v : ℕ) (o : List Update) → top_above v o ≤ v → above v o ≡ []
none-above v [] l = refl
none-above v (u ∷ older) l = cond-true (leb u.version.0 v) _ _ (le-leb u.version.0 v l)

more-above : (v w : ℕ) (o : List Update) (ts : List AcceptedUpdate) → v ≤ w → Ascends w ts → above v (newest_first o ts) ≡ newest_first (above v o) ts
more-above v w o [] l h = refl
more-above v w o (t ∷ rest) l h =
    more-above v t.update.version.0 (t.update ∷ o) rest (omega arith) h.1
    ∙ ap (λ (us : List Update). newest_first us rest) (cond-false (leb t.update.version.0 v) _ _ (lt-leb t.update.version.0 v (omega arith)))

top-none : (base v : ℕ) (ts : List AcceptedUpdate) → v ≡ last_version base ts → top_above v (newest_first [] ts) ≤ v
top-none base v [] e = omega arith
top-none base v (t ∷ rest) e = let a = top_above-newest_first v (t.update ∷ []) rest in omega (arith, a, e)

above-line : {g : RegionId} {base : ℕ} {ts : List AcceptedUpdate} {c floor : ℕ} → IsLine g base ts c floor
    → above floor (newest_first [] ts) ≡ newest_first [] (drop c ts)
above-line {base = base} {ts = ts} {c = c} {floor = floor} line =
    ap (above floor) (ap (newest_first []) (sym (take-append-drop c ts)) ∙ newest_first-append [] (take c ts) (drop c ts))
    ∙ more-above floor floor (newest_first [] (take c ts)) (drop c ts) (omega arith) (pending-ascends line)
    ∙ ap (λ (us : List Update). newest_first us (drop c ts)) (none-above floor (newest_first [] (take c ts)) (top-none base floor (take c ts) line.floor_is))

-- the line after its lowest update
line-rest : {g : RegionId} {base : ℕ} {c floor : ℕ} (t : AcceptedUpdate) (rest : List AcceptedUpdate)
    → IsLine g base (t ∷ rest) (suc c) floor → IsLine g t.update.version.0 rest c floor
line-rest t rest line = record {
  ascends = line.ascends.1;
  placed = line.placed.1;
  within = (let w = line.within in omega (arith, w));
  floor_is = line.floor_is;
}

-- the parts of the committed state: an update that goes into the base leaves them
module _ (g : RegionId) (base floor : ℕ) (t : AcceptedUpdate) (rest : List AcceptedUpdate) (c : ℕ) (line : IsLine g base (t ∷ rest) (suc c) floor) where
  left : IsLine g t.update.version.0 rest c floor
  left = line-rest t rest line

  row-same : (old new : Option Row) → new ≡ row_by t old
      → kept_row g new (upto floor (newest_first [] rest)) ≡ kept_row g old (upto floor (newest_first [] (t ∷ rest)))
  row-same old new e =
      ap (kept_row g new) (upto-line left)
      ∙ kept_row-newest_first g new [] (take c rest) (by_recursion-take (λ (x : AcceptedUpdate). IsPlaced g x.update x.keeps) c rest line.placed.1)
      ∙ ap (λ (row : Option Row). row_over row (take c rest)) e
      ∙ sym
      (
      ap (kept_row g old) (upto-line line)
      ∙ kept_row-newest_first g old [] (t ∷ take c rest)
      (by_recursion-take (λ (x : AcceptedUpdate). IsPlaced g x.update x.keeps) (suc c) (t ∷ rest) line.placed)
      )

  marks-same : (old new : List Mark) → new ≡ with_mark (mark_by t.update) old
      → marks_after new (upto floor (newest_first [] rest)) ≡ marks_after old (upto floor (newest_first [] (t ∷ rest)))
  marks-same old new e =
      ap (marks_after new) (upto-line left)
      ∙ marks_after-over new [] (take c rest)
      ∙ ap (λ (ms : List Mark). marks_over ms (take c rest)) e
      ∙ sym (ap (marks_after old) (upto-line line) ∙ marks_after-over old [] (t ∷ take c rest))

  touches-same : (old new : List Touch) → new ≡ with_touches t.update.version t.update.places old
      → touches_after new (upto floor (newest_first [] rest)) ≡ touches_after old (upto floor (newest_first [] (t ∷ rest)))
  touches-same old new e =
      ap (touches_after new) (upto-line left)
      ∙ touches_after-over new [] (take c rest)
      ∙ ap (λ (ts : List Touch). touches_over ts (take c rest)) e
      ∙ sym (ap (touches_after old) (upto-line line) ∙ touches_after-over old [] (t ∷ take c rest))

  -- and what is pending
  pending-same : above floor (newest_first [] rest) ≡ above floor (newest_first [] (t ∷ rest))
  pending-same = above-line left ∙ sym (above-line line)

-- where they aren't kept, they show nothing
provided-same : {A : Type 0} (b : Bool) (x y : List A) → (b ≡ true → x ≡ y) → provided b x ≡ provided b y
provided-same true x y f = f refl
provided-same false x y f = refl

abbrev state_with : Inside → Base → List AcceptedUpdate → KeyState
state_with a base ts =
    record {
      marks = a.keeps_marks;
      base = kept_in a.key base;
      accepted = newest_first [] ts;
      floor = a.floor.0;
      acked = a.acked.versions;
      early = updates_of a.early.items;
    }

folded-same : (a : Inside) (base : Base) (t : AcceptedUpdate) (rest : List AcceptedUpdate) (c : ℕ)
    → IsLine a.region a.base.floor.0 (t ∷ rest) (suc c) a.floor.0 → IsFolded a.keeps_marks t a.base base
    → folded a.region (state_with a base rest) ≡ folded a.region (state_with a a.base (t ∷ rest))
folded-same a base t rest c line f =
    let g = a.region in
    let old = a.base in
    let row = row-same g old.floor.0 a.floor.0 t rest c line old.object base.object f.object in
    let marks = provided-same a.keeps_marks _ _ (λ k. marks-same g old.floor.0 a.floor.0 t rest c line old.marks.items base.marks.items (f.marks k)) in
    let touches = provided-same a.keeps_marks _ _ (λ k. touches-same g old.floor.0 a.floor.0 t rest c line
    old.touches.items base.touches.items (f.touches k)) in
    let pending = pending-same g old.floor.0 a.floor.0 t rest c line in
    λ j. record {
      marks = a.keeps_marks;
      base = record { key = a.key; floor = record { 0 = a.floor.0 }; object = row j; marks = marks j; touches = touches j };
      accepted = pending j;
      floor = a.floor.0;
      acked = a.acked.versions;
      early = updates_of a.early.items;
    }

-- the base stays in order
orderly : (kept : Bool) (key : List ℕ) (t : AcceptedUpdate) (old new : Base) → old.floor.0 < t.update.version.0
    → IsOrderly (kept_in key old) → IsFolded kept t old new → IsOrderly (kept_in key new)
orderly kept key t old new l h f = by kept refl f
  where
    v : ℕ
    v = t.update.version.0

    is : v ≡ new.floor.0
    is = ap (λ (x : Version). x.0) (sym f.floor)

    row : IsRowUpTo v (row_by t old.object)
    row = row_by-upto v t old.object (omega arith) (row-weaker old.floor.0 v old.object (omega (arith, l)) h.row)

    old_marks : MarksUpTo v old.marks.items
    old_marks = recursion_from_All (λ (m : Mark). m.version.0 ≤ v) old.marks.items
        (All-weaker (λ (m : Mark). m.version.0 ≤ old.floor.0) (λ (m : Mark). m.version.0 ≤ v)
        (λ m b. omega (arith, b, l)) old.marks.items h.marks)

    old_touches : TouchesUpTo v old.touches.items
    old_touches = recursion_from_All (λ (x : Touch). x.version.0 ≤ v) old.touches.items
        (All-weaker (λ (x : Touch). x.version.0 ≤ old.floor.0) (λ (x : Touch). x.version.0 ≤ v)
        (λ x b. omega (arith, b, l)) old.touches.items h.touches)

    all : (row : Option Row) (marks : List Mark) (touches : List Touch) → IsRowUpTo v row → MarksUpTo v marks
        → TouchesUpTo v touches → AscendBySession marks → AscendByRegion touches
        → IsOrderly (record { key = key; floor = t.update.version; object = row; marks = marks; touches = touches })
    all row marks touches r m x s g = record {
      row = r;
      marks = All-from_recursion (λ (k : Mark). k.version.0 ≤ v) marks m;
      touches = All-from_recursion (λ (k : Touch). k.version.0 ≤ v) touches x;
      sessions_ascend = s;
      regions_ascend = g;
    }

    at : (marks : List Mark) (touches : List Touch) → new.marks.items ≡ marks → new.touches.items ≡ touches
        → kept_in key new ≡ record {
          key = key;
          floor = t.update.version;
          object = row_by t old.object;
          marks = marks;
          touches = touches;
        }
    at marks touches m x = let floor = f.floor in let object = f.object in
        λ j. record { key = key; floor = floor j; object = object j; marks = m j; touches = x j }

    by : (b : Bool) → kept ≡ b → IsFolded kept t old new → IsOrderly (kept_in key new)
    by true e f =
        subst IsOrderly (sym (at _ _ (f.marks e) (f.touches e)))
        (
        all (row_by t old.object) _ _ row (with_mark-upto v (mark_by t.update) old.marks.items
        (omega arith) old_marks) (with_touches-upto v t.update.version t.update.places old.touches.items
        (omega arith) old_touches)
        (with_mark-ascends (mark_by t.update) old.marks.items h.sessions_ascend)
        (with_touches-ascends t.update.version t.update.places old.touches.items h.regions_ascend)
        )
    by false e f =
        subst IsOrderly (sym (at _ _ (f.no_marks e) (f.no_touches e)))
        (all (row_by t old.object) _ _ row old_marks old_touches h.sessions_ascend h.regions_ascend)

-- the first of the updates, and those after it
pub front : (ts : List AcceptedUpdate) (t : AcceptedUpdate) → 0 < length ts → t ≡ get_or ts 0 t → ts ≡ t ∷ drop 1 ts
front [] t l e = absurd (omega (arith, l))
front (x ∷ rest) t l e = ap (λ (y : AcceptedUpdate). y ∷ rest) (sym e)

-- where they aren't kept, there are none
still-none : {A : Type 0} (b : Bool) (old new : List A) → (b ≡ false → new ≡ old) → provided b old ≡ old → provided b new ≡ new
still-none true old new f h = refl
still-none false old new f h = h ∙ sym (f refl)

module _ (a : Inside) (h : IsSlot a) (base : Base) (t : AcceptedUpdate) (rest : List AcceptedUpdate)
    (accepted : Vec AcceptedUpdate Global) (c : ℕ) (is : a.accepted.items ≡ t ∷ rest) (count : a.committed ≡ suc c)
    (f : IsFolded a.keeps_marks t a.base base)
    (items : accepted.items ≡ rest) (len : vec_len accepted + 1 ≡ vec_len a.accepted) (capacity : vec_capacity accepted ≡ vec_capacity a.accepted) where
  line : IsLine a.region a.base.floor.0 (t ∷ rest) (suc c) a.floor.0
  line = subst (λ n. IsLine a.region a.base.floor.0 (t ∷ rest) n a.floor.0) count
      (subst (λ (ts : List AcceptedUpdate). IsLine a.region a.base.floor.0 ts a.committed a.floor.0) is h.line)

  abbrev pub after : Inside
  after = record a { base = base; accepted = accepted; committed = c }

  pub committed-seen : (s : SlotState) → seen a ≡ s → IsSettledInto s (seen after)
  committed-seen s view =
      let now = ap (λ (ts : List AcceptedUpdate). folded a.region (state_with a base ts)) items in
      let was = ap (λ (ts : List AcceptedUpdate). folded a.region (state_with a a.base ts)) (sym is) in
      let state = now ∙ folded-same a base t rest c line f ∙ was in
      let region : a.region ≡ s.region = ap (λ (x : SlotState). x.region) view in
      let spare : a.spare ≡ s.spare = ap (λ (x : SlotState). x.spare) view in
      let held : a.committed ≡ s.held = ap (λ (x : SlotState). x.held) view in
      record { region = region; state = state ∙ ap (λ (x : SlotState). x.state) view; spare = spare; held = omega (arith, count, held) }

  pub committed-slot : IsSlot after
  committed-slot =
      let room = h.room in
      let pending = ap (λ (ts : List AcceptedUpdate). drop c ts) items
      ∙ sym (ap (λ (ts : List AcceptedUpdate). drop a.committed ts) is ∙ ap (λ n. drop n (t ∷ rest)) count) in
      record {
        line = subst (λ (v : ℕ). IsLine a.region v accepted.items c a.floor.0)
            (ap (λ (x : Version). x.0) (sym f.floor)) (subst
            (λ (ts : List AcceptedUpdate). IsLine a.region t.update.version.0 ts c a.floor.0) (sym items)
            (line-rest t rest line));
        base = orderly a.keeps_marks a.key t a.base base line.ascends.0 h.base f;
        bare = still-none a.keeps_marks a.base.marks.items base.marks.items f.no_marks h.bare;
        untouched = still-none a.keeps_marks a.base.touches.items base.touches.items f.no_touches h.untouched;
        acked = subst (AreAcked (a.acked.versions)) (sym pending) h.acked;
        early = h.early;
        room = record {
          accepted = (let r = room.accepted in omega (arith, r, len, capacity));
          early = room.early;
          few = (let r = room.few in omega (arith, r, len));
        };
      }
