-- What a sound slot has committed: its row, marks and touches are of the space and not above the floor.
use Rattle.hx_law_lemmas.proofs.Lemmas.Vocabulary.{[], All-nil, AnswerUpTo, ap, arith, Bool, cases_order, cond, cond_both, eqb, eqb-false, eqb-true, false, inl}
use Rattle.hx_law_lemmas.proofs.Lemmas.Vocabulary.{inr, IsAnswerOf, IsAscending, IsIn, IsMaybeObjectOf, IsMaybeRowUpTo, IsRegionOf, IsSessionOf, IsSoundKept}
use Rattle.hx_law_lemmas.proofs.Lemmas.Vocabulary.{keeps_at, kept_of, kept_row, KeyState, latest_of, leb, leb-true, List, ltb, ltb-false, ltb-true, map, Mark}
use Rattle.hx_law_lemmas.proofs.Lemmas.Vocabulary.{mark_among, mark_by, mark_of, marks_after, None, object_in, object_of, Option, option_map, Place, provided}
use Rattle.hx_law_lemmas.proofs.Lemmas.Vocabulary.{refl, RegionId, Row, row_of, same_region, same_session, SessionId, Some, Space, subst, sym, top_above}
use Rattle.hx_law_lemmas.proofs.Lemmas.Vocabulary.{top_of, Touch, touches_after, touches_of, true, Update, upto, Value, Version, with_mark, with_touch}
use Rattle.hx_law_lemmas.proofs.Lemmas.Vocabulary.{with_touches, ℕ, ◌+◌, ◌<◌, ◌∷◌, ◌≡◌, ◌≤◌, ◌⊎◌}
use Rattle.hx_law_lemmas.proofs.Lemmas.{all-in, all-of, in-provided, TouchedBy, in-upto}
use Rattle.hx_law_posts.proofs.Bounds.{IsSoundAt, bounds}
use Rattle.hx_law_posts.proofs.Moves.{Descends}
use Rattle.hx_law_posts.proofs.Slots.{IsSoundSlot, top-small}

-- ---- versions that descend

-- no base is above the top
base-below : (b : ℕ) (us : List Update) → Descends b us → b ≤ top_above b us
base-below b [] d = omega arith
base-below b (u ∷ us) d = let r = base-below b us d.1 in let l = d.0 in omega (arith, r, l)

-- no version is above the top
in-descends : (b : ℕ) (us : List Update) (w : Update) → Descends b us → IsIn w us → w.version.0 ≤ top_above b us
in-descends b [] w d i = absurd i
in-descends b (u ∷ us) w d (inl e) = let s : w.version.0 ≡ u.version.0 = ap (λ (x : Update). x.version.0) e in omega (arith, s)
in-descends b (u ∷ us) w d (inr i) = let r = in-descends b us w d.1 i in let l = d.0 in omega (arith, r, l)

-- what is up to a version is not above it
upto-below : (b v : ℕ) (us : List Update) (w : Update) → Descends b us → IsIn w (upto v us) → w.version.0 ≤ v
upto-below b v [] w d = λ i. absurd i
upto-below b v (u ∷ us) w d =
    cond_both (leb u.version.0 v) (u ∷ us) (upto v us) (λ l. IsIn w l → w.version.0 ≤ v)
    (λ t i. let a = in-descends b (u ∷ us) w d i in let l = leb-true u.version.0 v t in omega (arith, a, l))
    (λ t i. upto-below b v us w d.1 i)

-- ---- the row

-- a row that is there, is of the space and not above a version
pub row-up : (space : Space) (m n : ℕ) → m ≤ n → (o : Option Row) → IsMaybeRowUpTo space m o → IsMaybeRowUpTo space n o
row-up space m n l None h = tt
row-up space m n l (Some r) h = (h.0, let v = h.1 in omega (arith, v, l))

module _ (space : Space) (sessions n : ℕ) (g : RegionId) where
  -- an update that may be held
  abbrev IsAt : Update → Type 0
  IsAt u = IsSoundAt space sessions n g u

  -- the row of an update that may be held
  row-of_update : (v : ℕ) (u : Update) → IsAt u → u.version.0 ≤ v → IsMaybeRowUpTo space v (row_of u)
  row-of_update v u h l =
      by u.object h.sound.of_space.object
    where
      by : (o : Option (List Value)) → IsMaybeObjectOf space o
          → IsMaybeRowUpTo space v (option_map (λ (object : List Value). record {
            key = u.key;
            version = u.version;
            object = object;
          }) o)
      by None q = tt
      by (Some object) q = (record { key = h.sound.of_space.key; object = q }, l)

  -- the row that is kept after such updates
  kept-row : (v : ℕ) (base : Option Row) → IsMaybeRowUpTo space v base → (us : List Update)
      → ((u : Update) → IsIn u us → IsAt u × (u.version.0 ≤ v)) → IsMaybeRowUpTo space v (kept_row g base us)
  kept-row v base h [] f = h
  kept-row v base h (u ∷ us) f =
      by (keeps_at g u) u.changes (kept-row v base h us (λ w i. f w (inr i))) (let a = f u (inl refl) in row-of_update v u a.0 a.1)
    where
      by : (k c : Bool) → IsMaybeRowUpTo space v (kept_row g base us) → IsMaybeRowUpTo space v (row_of u)
          → IsMaybeRowUpTo space v (cond k (cond c (row_of u) (kept_row g base us)) None)
      by true true r q = q
      by true false r q = r
      by false c r q = tt

  -- ---- marks

  -- a mark of a session that exists, not above a version
  pub record IsSoundMark (v : ℕ) (m : Mark) : Type 0 where
    pub version : m.version.0 ≤ v
    pub of_space : IsAnswerOf space m.answer
    pub session : IsSessionOf sessions m.session
    pub answer : AnswerUpTo (n + 1) m.answer

  -- each mark is such
  abbrev pub AreSoundMarks : ℕ → List Mark → Type 0
  AreSoundMarks v ms = (m : Mark) → IsIn m ms → IsSoundMark v m

  -- one more mark
  with_mark-sound : (v : ℕ) (m : Mark) (ms : List Mark) → IsSoundMark v m → AreSoundMarks v ms → AreSoundMarks v (with_mark m ms)
  with_mark-sound v m [] h f = λ x i. elim i [ inl e ↦ subst (IsSoundMark v) (sym e) h | inr j ↦ absurd j ]
  with_mark-sound v m (x ∷ rest) h f =
      cond_both (ltb m.session.0 x.session.0) (m ∷ x ∷ rest)
      (cond (same_session m.session x.session) ((cond (ltb m.number x.number) x m) ∷ rest) (x ∷ with_mark m rest))
      (AreSoundMarks v)
      (λ a y i. elim i [ inl e ↦ subst (IsSoundMark v) (sym e) h | inr j ↦ f y j ])
      (
      λ a. cond_both (same_session m.session x.session) ((cond (ltb m.number x.number) x m) ∷ rest) (x ∷ with_mark m rest) (AreSoundMarks v)
      (λ b y i. elim i [
        | inl e ↦ subst (IsSoundMark v) (sym e)
            (cond_both (ltb m.number x.number) x m (IsSoundMark v) (λ c. f x (inl refl)) (λ c. h))
        | inr j ↦ f y (inr j)
      ])
      (λ b y i. elim i [ inl e ↦ f y (inl e) | inr j ↦ with_mark-sound v m rest h (λ z k. f z (inr k)) y j ])
      )

  -- the mark of an update
  mark-of_update : (v : ℕ) (u : Update) → IsAt u → u.version.0 ≤ v → IsSoundMark v (mark_by u)
  mark-of_update v u h l = record { version = l; of_space = h.sound.of_space.answer; session = h.sound.session; answer = h.sound.answer }

  -- the marks after updates
  pub marks-sound : (v : ℕ) (base : List Mark) → AreSoundMarks v base → (us : List Update)
      → ((u : Update) → IsIn u us → IsAt u × (u.version.0 ≤ v)) → AreSoundMarks v (marks_after base us)
  marks-sound v base h [] f = h
  marks-sound v base h (u ∷ us) f = with_mark-sound v (mark_by u) (marks_after base us) (let a = f u (inl refl) in
      mark-of_update v u a.0 a.1) (marks-sound v base h us (λ w i. f w (inr i)))

  -- ---- touches

  -- a touch of a region of the space, not above a version
  pub record IsSoundTouch (v : ℕ) (t : Touch) : Type 0 where
    pub version : t.version.0 ≤ v
    pub region : IsRegionOf space t.region

  -- each touch is such
  abbrev pub AreSoundTouches : ℕ → List Touch → Type 0
  AreSoundTouches v ts = (t : Touch) → IsIn t ts → IsSoundTouch v t

  -- one more touch
  with_touch-sound : (v : ℕ) (t : Touch) (ts : List Touch) → IsSoundTouch v t → AreSoundTouches v ts → AreSoundTouches v (with_touch t ts)
  with_touch-sound v t [] h f = λ x i. elim i [ inl e ↦ subst (IsSoundTouch v) (sym e) h | inr j ↦ absurd j ]
  with_touch-sound v t (x ∷ rest) h f =
      cond_both (ltb t.region.0 x.region.0) (t ∷ x ∷ rest) (cond (same_region t.region x.region) (t ∷ rest) (x ∷ with_touch t rest)) (AreSoundTouches v)
      (λ a y i. elim i [ inl e ↦ subst (IsSoundTouch v) (sym e) h | inr j ↦ f y j ])
      (
      λ a. cond_both (same_region t.region x.region) (t ∷ rest) (x ∷ with_touch t rest) (AreSoundTouches v)
      (λ b y i. elim i [ inl e ↦ subst (IsSoundTouch v) (sym e) h | inr j ↦ f y (inr j) ])
      (λ b y i. elim i [ inl e ↦ f y (inl e) | inr j ↦ with_touch-sound v t rest h (λ z k. f z (inr k)) y j ])
      )

  -- the touches of an update's places
  with_touches-sound : (v : ℕ) (version : Version) → version.0 ≤ v → (ps : List Place)
      → ((p : Place) → IsIn p ps → IsRegionOf space p.region) → (ts : List Touch) → AreSoundTouches v ts
      → AreSoundTouches v (with_touches version ps ts)
  with_touches-sound v version l [] h ts f = f
  with_touches-sound v version l (p ∷ ps) h ts f =
      with_touches-sound v version l ps (λ q i. h q (inr i)) (with_touch (record { region = p.region; version = version }) ts)
      (with_touch-sound v (record { region = p.region; version = version }) ts (record { version = l; region = h p (inl refl) }) f)

  -- the touches after updates
  pub touches-sound : (v : ℕ) (base : List Touch) → AreSoundTouches v base → (us : List Update)
      → ((u : Update) → IsIn u us → IsAt u × (u.version.0 ≤ v)) → AreSoundTouches v (touches_after base us)
  touches-sound v base h [] f = h
  touches-sound v base h (u ∷ us) f =
      let a = f u (inl refl) in
      with_touches-sound v u.version a.1 u.places (λ p i. all-in
      (λ (x : Place). IsRegionOf space x.region) u.places p a.0.sound.of_space.regions i) (touches_after base us)
      (touches-sound v base h us (λ w i. f w (inr i)))

-- ---- the order of marks and touches

-- the number of a mark's session
abbrev session_number : Mark → ℕ
session_number m = m.session.0

-- the number of a touch's region
abbrev region_number : Touch → ℕ
region_number t = t.region.0

-- a number put into a list that ascends
abbrev put_in : ℕ → List ℕ → List ℕ
put_in k [] = k ∷ []
put_in k (x ∷ rest) = cond (ltb k x) (k ∷ x ∷ rest) (cond (eqb k x) (x ∷ rest) (x ∷ put_in k rest))

-- what stands in it
in-put : (k : ℕ) (ns : List ℕ) (j : ℕ) → IsIn j (put_in k ns) → (j ≡ k) ⊎ IsIn j ns
in-put k [] j = λ i. elim i [ inl e ↦ inl e | inr q ↦ absurd q ]
in-put k (x ∷ rest) j =
    cond_both (ltb k x) (k ∷ x ∷ rest) (cond (eqb k x) (x ∷ rest) (x ∷ put_in k rest)) (λ l. IsIn j l → (j ≡ k) ⊎ IsIn j (x ∷ rest))
    (λ a i. elim i [ inl e ↦ inl e | inr q ↦ inr q ])
    (
    λ a. cond_both (eqb k x) (x ∷ rest) (x ∷ put_in k rest) (λ l. IsIn j l → (j ≡ k) ⊎ IsIn j (x ∷ rest))
    (λ b i. inr i)
    (λ b i. elim i [ inl e ↦ inr (inl e) | inr q ↦ elim (in-put k rest j q) [ inl e ↦ inl e | inr w ↦ inr (inr w) ] ])
    )

-- and it ascends
put-ascends : (k : ℕ) (ns : List ℕ) → IsAscending ns → IsAscending (put_in k ns)
put-ascends k [] h = (All-nil (λ m. k < m), tt)
put-ascends k (x ∷ rest) h =
    cond_both (ltb k x) (k ∷ x ∷ rest) (cond (eqb k x) (x ∷ rest) (x ∷ put_in k rest)) IsAscending
    (
    λ a. let l = ltb-true k x a in (
      all-of (λ m. k < m) (x ∷ rest) (λ m i. elim i [
        | inl e ↦ omega (arith, l, e)
        | inr j ↦ (let r = all-in (λ y. x < y) rest m h.0 j in omega (arith, l, r))
      ]),
      h,
    )
    )
    (
    λ a. cond_both (eqb k x) (x ∷ rest) (x ∷ put_in k rest) IsAscending
    (λ b. h)
    (
    λ b. (
      all-of (λ m. x < m) (put_in k rest) (λ m i. elim (in-put k rest m i) [
        | inl e ↦ (let l = ltb-false k x a in let n = eqb-false k x b in
            elim (cases_order k x) [
              | inl q ↦ absurd (n q)
              | inr (inl q) ↦ absurd (omega (arith, q, l))
              | inr (inr q) ↦ omega (arith, q, e)
            ])
        | inr j ↦ all-in (λ y. x < y) rest m h.0 j
      ]),
      put-ascends k rest h.1,
    )
    )
    )

-- one more mark puts in the number of its session
mark-put : (m : Mark) (ms : List Mark) → map session_number (with_mark m ms) ≡ put_in m.session.0 (map session_number ms)
mark-put m [] = refl
mark-put m (x ∷ rest) =
    by (ltb m.session.0 x.session.0) (eqb m.session.0 x.session.0) refl (ltb m.number x.number) (mark-put m rest)
  where
    by : (a b : Bool) → eqb m.session.0 x.session.0 ≡ b → (c : Bool) → map session_number (with_mark m rest) ≡ put_in m.session.0 (map session_number rest)
        → map session_number (cond a (m ∷ x ∷ rest) (cond b ((cond c x m) ∷ rest) (x ∷ with_mark m rest)))
        ≡ cond a (m.session.0 ∷ x.session.0 ∷ map session_number rest)
        (cond b (x.session.0 ∷ map session_number rest) (x.session.0 ∷ put_in m.session.0 (map session_number rest)))
    by true b e c r = refl
    by false true e true r = refl
    by false true e false r = let q = eqb-true m.session.0 x.session.0 e in ap (λ k. k ∷ map session_number rest) q
    by false false e c r = ap (λ (l : List ℕ). x.session.0 ∷ l) r

-- one more touch puts in the number of its region
touch-put : (t : Touch) (ts : List Touch) → map region_number (with_touch t ts) ≡ put_in t.region.0 (map region_number ts)
touch-put t [] = refl
touch-put t (x ∷ rest) =
    by (ltb t.region.0 x.region.0) (eqb t.region.0 x.region.0) refl (touch-put t rest)
  where
    by : (a b : Bool) → eqb t.region.0 x.region.0 ≡ b → map region_number (with_touch t rest) ≡ put_in t.region.0 (map region_number rest)
        → map region_number (cond a (t ∷ x ∷ rest) (cond b (t ∷ rest) (x ∷ with_touch t rest)))
        ≡ cond a (t.region.0 ∷ x.region.0 ∷ map region_number rest)
        (cond b (x.region.0 ∷ map region_number rest) (x.region.0 ∷ put_in t.region.0 (map region_number rest)))
    by true b e r = refl
    by false true e r = let q = eqb-true t.region.0 x.region.0 e in ap (λ k. k ∷ map region_number rest) q
    by false false e r = ap (λ (l : List ℕ). x.region.0 ∷ l) r

-- sessions ascend after updates
marks-ascend : (base : List Mark) → IsAscending (map session_number base) → (us : List Update) → IsAscending (map session_number (marks_after base us))
marks-ascend base h [] = h
marks-ascend base h (u ∷ us) = subst IsAscending (sym (mark-put (mark_by u) (marks_after base us)))
    (put-ascends u.caller.session.0 (map session_number (marks_after base us)) (marks-ascend base h us))

-- regions ascend after an update's places
places-ascend : (v : Version) (ps : List Place) (ts : List Touch) → IsAscending (map region_number ts) → IsAscending (map region_number (with_touches v ps ts))
places-ascend v [] ts h = h
places-ascend v (p ∷ ps) ts h =
    places-ascend v ps (with_touch (record { region = p.region; version = v }) ts)
    (subst IsAscending (sym (touch-put (record { region = p.region; version = v }) ts)) (put-ascends p.region.0 (map region_number ts) h))

-- regions ascend after updates
touches-ascend : (base : List Touch) → IsAscending (map region_number base) → (us : List Update) → IsAscending (map region_number (touches_after base us))
touches-ascend base h [] = h
touches-ascend base h (u ∷ us) = places-ascend u.version u.places (touches_after base us) (touches-ascend base h us)

-- ---- a sound slot

module _ (space : Space) (sessions n : ℕ) (g : RegionId) (t : KeyState) (h : IsSoundSlot space sessions n g t) where
  -- the marks of the base
  base-marks : (v : ℕ) → t.base.floor.0 ≤ v → AreSoundMarks space sessions n g v t.base.marks
  base-marks v l m i =
      let a = all-in (λ (x : Mark). (x.version.0 ≤ t.base.floor.0) × IsAnswerOf space x.answer) t.base.marks m h.base.of_space.marks i in
      let b = all-in (λ (x : Mark). IsSessionOf sessions x.session × AnswerUpTo (n + 1) x.answer) t.base.marks m h.base.sessions i in
      record { version = (let c = a.0 in omega (arith, c, l)); of_space = a.1; session = b.0; answer = b.1 }

  -- the touches of the base
  base-touches : (v : ℕ) → t.base.floor.0 ≤ v → AreSoundTouches space sessions n g v t.base.touches
  base-touches v l x i =
      let a = all-in (λ (y : Touch). (y.version.0 ≤ t.base.floor.0) × IsRegionOf space y.region) t.base.touches x h.base.of_space.touches i in
      record { version = (let c = a.0 in omega (arith, c, l)); region = a.1 }

  -- what is committed of the updates
  committed : (u : Update) → IsIn u (upto t.floor t.accepted) → IsSoundAt space sessions n g u × (u.version.0 ≤ t.floor)
  committed u i = (h.accepted u (in-upto t.floor t.accepted u i), upto-below t.base.floor.0 t.floor t.accepted u h.ordered.descends i)

  -- the row of a slot
  pub object-sound : IsMaybeRowUpTo space t.floor (object_of g t)
  object-sound = kept-row space sessions n g t.floor t.base.object
      (row-up space t.base.floor.0 t.floor h.ordered.floor t.base.object h.base.of_space.row) (upto t.floor t.accepted) committed

  -- the marks of what is committed
  abbrev marks : List Mark
  marks = marks_after t.base.marks (upto t.floor t.accepted)

  -- the touches of what is committed
  abbrev touches : List Touch
  touches = touches_after t.base.touches (upto t.floor t.accepted)

  -- what is committed is a sound state
  pub kept_of-sound : IsSoundKept (bounds space sessions n) (kept_of g t)
  kept_of-sound =
      record {
        of_space = record {
          key = h.base.of_space.key;
          row = object-sound;
          marks = all-of (λ (x : Mark). (x.version.0 ≤ t.floor) × IsAnswerOf space x.answer) (provided t.marks marks)
              (λ x i. let a = some-marks x i in (a.version, a.of_space));
          touches = all-of (λ (x : Touch). (x.version.0 ≤ t.floor) × IsRegionOf space x.region)
              (provided t.marks touches) (λ x i. let a = some-touches x i in (a.version, a.region));
          sessions_ascend = provided-ascends t.marks session_number marks (marks-ascend t.base.marks h.base.of_space.sessions_ascend (upto t.floor t.accepted));
          regions_ascend = provided-ascends t.marks region_number touches
              (touches-ascend t.base.touches h.base.of_space.regions_ascend (upto t.floor t.accepted));
        };
        floor = (let f = h.floor in omega (arith, f));
        sessions = all-of (λ (x : Mark). IsSessionOf sessions x.session × AnswerUpTo (n + 1) x.answer)
            (provided t.marks marks) (λ x i. let a = some-marks x i in (a.session, a.answer));
      }
    where
      some-marks : (x : Mark) → IsIn x (provided t.marks marks) → IsSoundMark space sessions n g t.floor x
      some-marks x i = marks-sound space sessions n g t.floor t.base.marks (base-marks t.floor h.ordered.floor)
          (upto t.floor t.accepted) committed x (in-provided t.marks marks x i).1

      some-touches : (x : Touch) → IsIn x (provided t.marks touches) → IsSoundTouch space sessions n g t.floor x
      some-touches x i = touches-sound space sessions n g t.floor t.base.touches
          (base-touches t.floor h.ordered.floor) (upto t.floor t.accepted) committed x (in-provided t.marks touches x i).1

      provided-ascends : {A : Type 0} (b : Bool) (f : A → ℕ) (xs : List A) → IsAscending (map f xs) → IsAscending (map f (provided b xs))
      provided-ascends true f xs a = a
      provided-ascends false f xs a = tt

  -- no accepted version is above the top
  below-top : (u : Update) → IsIn u t.accepted → IsSoundAt space sessions n g u × (u.version.0 ≤ top_of t)
  below-top u i = (h.accepted u i, in-descends t.base.floor.0 t.accepted u h.ordered.descends i)

  -- the latest object of a slot
  pub latest-sound : IsMaybeObjectOf space (latest_of g t)
  latest-sound =
      by (kept_row g t.base.object t.accepted)
      (
      kept-row space sessions n g (top_of t) t.base.object
      (row-up space t.base.floor.0 (top_of t) (base-below t.base.floor.0 t.accepted h.ordered.descends)
      t.base.object h.base.of_space.row)
      t.accepted below-top
      )
    where
      by : (o : Option Row) → IsMaybeRowUpTo space (top_of t) o → IsMaybeObjectOf space (object_in o)
      by None q = tt
      by (Some r) q = q.0.object

  -- the touches of a slot
  pub touches-below : TouchedBy (top_of t) (touches_of t)
  touches-below x i =
      (touches-sound space sessions n g (top_of t) t.base.touches
      (base-touches (top_of t) (base-below t.base.floor.0 t.accepted h.ordered.descends)) t.accepted below-top x i).version

  -- the mark of a session
  pub mark-sound : (session : SessionId) (m : Mark) → mark_of session t ≡ Some m → IsSoundMark space sessions n g n m
  mark-sound session m e =
      let a = marks-sound space sessions n g (top_of t) t.base.marks
      (base-marks (top_of t) (base-below t.base.floor.0 t.accepted h.ordered.descends)) t.accepted below-top m
      (among (marks_after t.base.marks t.accepted) e) in
      let l = top-small space sessions n g t h in
      record { version = (let v = a.version in omega (arith, v, l)); of_space = a.of_space; session = a.session; answer = a.answer }
    where
      among : (ms : List Mark) → mark_among session ms ≡ Some m → IsIn m ms
      among [] = λ q. absurd (cc)
      among (x ∷ ms) =
          cond_both (same_session x.session session) (Some x) (mark_among session ms) (λ o. o ≡ Some m → IsIn m (x ∷ ms))
          (λ b q. let s : m ≡ x = cc in inl s)
          (λ b q. inr (among ms q))
