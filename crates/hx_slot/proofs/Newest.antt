-- The folds of a slot, by the list that it keeps.
use Rattle.hx_model.specs.Lines.{upto}
use Rattle.std.proofs.Common.{◌≡◌, ℕ, zero, suc, ◌+◌, ◌<◌, ◌≤◌, false, List, [], ◌∷◌, ◌++◌, map, length, take, drop}
use Rattle.std.proofs.Common.{slice_get, Option, Some, None, refl, ap, sym, ◌∙◌, subst, arith, cond, leb, append_assoc}
use Rattle.std.proofs.Common.{Bool}
use Rattle.std.specs.List.{AllByRecursion}
use Rattle.std.specs.Option.{IfSome, option_map}
use Rattle.std.proofs.lemmas.Bool.{cond_both, cond-true, cond-false, le-leb, lt-leb}
use Rattle.std.proofs.lemmas.List.{append-nil, take-append-drop}
use Rattle.hx_model.specs.Types.{Place, RegionId, Row, Update}
use Rattle.hx_types.specs.Words.{same_region, when_some}
use Rattle.hx_model.specs.Neighbours.{place_number}
use Rattle.hx_model.specs.Slots.{kept_after, kept_row, pending_above, place_in, row_of, top_above}
use Rattle.hx_slot.specs.declared.updates.AcceptedUpdate.{AcceptedUpdate}
use Rattle.hx_slot.specs.Updates.{Ascends, IsPlaced, last_version, newest_first, row_by, row_over}
use Rattle.hx_slot.specs.Invariant.{IsLine}
use Rattle.hx_slot.specs.States.{HasFewPlaces, IsPlacedIn}
use Rattle.hx_slot.proofs.Regions.{UpdatesUpTo}

abbrev pub update_of : AcceptedUpdate → Update
update_of t = t.update

pub newest_first-append : (o : List Update) (xs ys : List AcceptedUpdate) → newest_first o (xs ++ ys) ≡ newest_first (newest_first o xs) ys
newest_first-append o [] ys = refl
newest_first-append o (x ∷ xs) ys = newest_first-append (x.update ∷ o) xs ys

-- the highest version is that of the last update
pub top_above-newest_first : (base : ℕ) (o : List Update) (ts : List AcceptedUpdate) → top_above base (newest_first o ts) ≡ last_version (top_above base o) ts
top_above-newest_first base o [] = refl
top_above-newest_first base o (t ∷ rest) = top_above-newest_first base (t.update ∷ o) rest

pub last_version-append : (v : ℕ) (xs ys : List AcceptedUpdate) → last_version v (xs ++ ys) ≡ last_version (last_version v xs) ys
last_version-append v [] ys = refl
last_version-append v (x ∷ xs) ys = last_version-append x.update.version.0 xs ys

pub Ascends-append : (v : ℕ) (xs ys : List AcceptedUpdate) → Ascends v (xs ++ ys) → Ascends (last_version v xs) ys
Ascends-append v [] ys h = h
Ascends-append v (x ∷ xs) ys h = Ascends-append x.update.version.0 xs ys h.1

pub last_version-above : (v : ℕ) (ts : List AcceptedUpdate) → Ascends v ts → v ≤ last_version v ts
last_version-above v [] h = omega arith
last_version-above v (t ∷ rest) h = let b = last_version-above t.update.version.0 rest h.1 in omega (arith, h.0, b)

-- the updates after the committed ones ascend from the floor
pub pending-ascends : {g : RegionId} {base : ℕ} {ts : List AcceptedUpdate} {c floor : ℕ} → IsLine g base ts c floor → Ascends floor (drop c ts)
pending-ascends {base = base} {ts = ts} {c = c} line =
    subst (λ v. Ascends v (drop c ts)) (sym line.floor_is)
    (Ascends-append base (take c ts) (drop c ts) (subst (Ascends base) (sym (take-append-drop c ts)) line.ascends))

-- and the last of them has the highest version
pub top-pending : {g : RegionId} {base : ℕ} {ts : List AcceptedUpdate} {c floor : ℕ} → IsLine g base ts c floor
    → last_version base ts ≡ last_version floor (drop c ts)
top-pending {base = base} {ts = ts} {c = c} line =
    ap (last_version base) (sym (take-append-drop c ts)) ∙ last_version-append base (take c ts) (drop c ts)
    ∙ ap (λ v. last_version v (drop c ts)) (sym line.floor_is)

pub floor-top : {g : RegionId} {base : ℕ} {ts : List AcceptedUpdate} {c floor : ℕ} → IsLine g base ts c floor → floor ≤ top_above base (newest_first [] ts)
floor-top {base = base} {ts = ts} {c = c} {floor = floor} line =
    let a = last_version-above floor (drop c ts) (pending-ascends line) in
    let b = top_above-newest_first base [] ts ∙ top-pending line in
    omega (arith, a, b)

-- the updates above the floor are those that aren't committed
none_pending : (v : ℕ) (o : List Update) → top_above v o ≤ v → pending_above v o ≡ []
none_pending v [] l = refl
none_pending v (u ∷ older) l = cond-true (leb u.version.0 v) _ _ (le-leb u.version.0 v l)

more_pending : (v w : ℕ) (o : List Update) (ts : List AcceptedUpdate) → v ≤ w → Ascends w ts
    → pending_above v (newest_first o ts) ≡ pending_above v o ++ map update_of ts
more_pending v w o [] l h = sym (append-nil (pending_above v o))
more_pending v w o (t ∷ rest) l h =
    more_pending v t.update.version.0 (t.update ∷ o) rest (omega arith) h.1
    ∙ ap (λ (us : List Update). us ++ map update_of rest) (cond-false (leb t.update.version.0 v) _ _ (lt-leb t.update.version.0 v (omega arith)))
    ∙ append_assoc (pending_above v o) (t.update ∷ []) (map update_of rest)

-- what is committed, the newest first
abbrev committed_of : ℕ → List AcceptedUpdate → List Update
committed_of c ts = newest_first [] (take c ts)

split : (c : ℕ) (ts : List AcceptedUpdate) → newest_first [] ts ≡ newest_first (committed_of c ts) (drop c ts)
split c ts = ap (newest_first []) (sym (take-append-drop c ts)) ∙ newest_first-append [] (take c ts) (drop c ts)

-- no committed version is above the floor
top-committed : (base v : ℕ) (ts : List AcceptedUpdate) → v ≡ last_version base ts → top_above v (newest_first [] ts) ≤ v
top-committed base v [] e = omega arith
top-committed base v (t ∷ rest) e = let a = top_above-newest_first v (t.update ∷ []) rest in omega (arith, a, e)

pub pending-line : {g : RegionId} {base : ℕ} {ts : List AcceptedUpdate} {c floor : ℕ} → IsLine g base ts c floor
    → pending_above floor (newest_first [] ts) ≡ map update_of (drop c ts)
pending-line {base = base} {ts = ts} {c = c} {floor = floor} line =
    ap (pending_above floor) (split c ts)
    ∙ more_pending floor floor (committed_of c ts) (drop c ts) (omega arith) (pending-ascends line)
    ∙ ap (λ (us : List Update). us ++ map update_of (drop c ts)) (none_pending floor (committed_of c ts) (top-committed base floor (take c ts) line.floor_is))

-- the updates up to the floor are those that are committed
all_upto : (v : ℕ) (o : List Update) → top_above v o ≤ v → upto v o ≡ o
all_upto v [] l = refl
all_upto v (u ∷ older) l = cond-true (leb u.version.0 v) _ _ (le-leb u.version.0 v l)

not_upto : (v w : ℕ) (o : List Update) (ts : List AcceptedUpdate) → v ≤ w → Ascends w ts → upto v (newest_first o ts) ≡ upto v o
not_upto v w o [] l h = refl
not_upto v w o (t ∷ rest) l h =
    not_upto v t.update.version.0 (t.update ∷ o) rest (omega arith) h.1 ∙ cond-false (leb t.update.version.0 v) _ _ (lt-leb t.update.version.0 v (omega arith))

pub upto-line : {g : RegionId} {base : ℕ} {ts : List AcceptedUpdate} {c floor : ℕ} → IsLine g base ts c floor
    → upto floor (newest_first [] ts) ≡ newest_first [] (take c ts)
upto-line {base = base} {ts = ts} {c = c} {floor = floor} line =
    ap (upto floor) (split c ts)
    ∙ not_upto floor floor (committed_of c ts) (drop c ts) (omega arith) (pending-ascends line)
    ∙ all_upto floor (committed_of c ts) (top-committed base floor (take c ts) line.floor_is)

-- whether the object is kept is what the place tells
kept_there : (o : Option Place) (keeps : Bool) → option_map (λ (p : Place). p.keeps) o ≡ Some keeps → when_some o false (λ (p : Place). p.keeps) ≡ keeps
kept_there None keeps = λ e. absurd (cc)
kept_there (Some p) keeps = λ e. (cc)

-- the row after the updates
kept_by : (g : RegionId) (t : AcceptedUpdate) (row : Option Row)
    → option_map (λ (p : Place). p.keeps) (place_in g t.update.places) ≡ Some t.keeps → kept_after g t.update row ≡ row_by t row
kept_by g t row e = ap (λ b. cond b (cond t.update.changes (row_of t.update) row) None) (kept_there (place_in g t.update.places) t.keeps e)

pub kept_row-newest_first : (g : RegionId) (base : Option Row) (o : List Update) (ts : List AcceptedUpdate)
    → AllByRecursion (λ (t : AcceptedUpdate). IsPlaced g t.update t.keeps) ts
    → kept_row g base (newest_first o ts) ≡ row_over (kept_row g base o) ts
kept_row-newest_first g base o [] h = refl
kept_row-newest_first g base o (t ∷ rest) h =
    kept_row-newest_first g base (t.update ∷ o) rest h.1 ∙ ap (λ (row : Option Row). row_over row rest) (kept_by g t (kept_row g base o) h.0.place)

-- no accepted version is above the highest
pub newest_first-upto : (v : ℕ) (o : List Update) (ts : List AcceptedUpdate) (w : ℕ) → UpdatesUpTo v o → Ascends w ts
    → last_version w ts ≤ v → UpdatesUpTo v (newest_first o ts)
newest_first-upto v o [] w h a l = h
newest_first-upto v o (t ∷ rest) w h a l =
    let b = last_version-above t.update.version.0 rest a.1 in
    newest_first-upto v (t.update ∷ o) rest t.update.version.0 (omega (arith, b), h) a.1 l

-- each pending version is above the floor and at most the top
pub pending-between : (v top : ℕ) (w : ℕ) (ts : List AcceptedUpdate) → v ≤ w → Ascends w ts → last_version w ts ≤ top
    → AllByRecursion (λ (u : Update). (v < u.version.0) × (u.version.0 ≤ top)) (map update_of ts)
pending-between v top w [] a h l = tt
pending-between v top w (t ∷ rest) a h l =
    let b = last_version-above t.update.version.0 rest h.1 in
    ((omega arith, omega (arith, b)), pending-between v top t.update.version.0 rest (omega arith) h.1 l)

-- what holds of each holds of the one at a place
pub if_at : {A : Type 0} (P : A → Type 0) (xs : List A) (i : ℕ) → AllByRecursion P xs → IfSome (slice_get xs i) P
if_at P [] i h = tt
if_at P (x ∷ xs) zero h = h.0
if_at P (x ∷ xs) (suc i) h = if_at P xs i h.1

-- a place that is found has a number within the places
pub place_number-within : (g : RegionId) (places : List Place) (keeps : Bool)
    → option_map (λ (p : Place). p.keeps) (place_in g places) ≡ Some keeps → place_number g places < length places
place_number-within g [] keeps = λ e. absurd (cc)
place_number-within g (q ∷ rest) keeps =
    cond_both (same_region q.region g) (Some q) (place_in g rest)
    (λ (o : Option Place). option_map (λ (p : Place). p.keeps) o ≡ Some keeps → place_number g (q ∷ rest) < length (q ∷ rest))
    (λ b e. subst (λ n. n < length (q ∷ rest)) (sym (cond-true (same_region q.region g) 0 (place_number g rest + 1) b)) (omega arith))
    (λ b e. let l = place_number-within g rest keeps e in
    subst (λ n. n < length (q ∷ rest)) (sym (cond-false (same_region q.region g) 0 (place_number g rest + 1) b))
    (omega (arith, l)))

pub placed-within : (g : RegionId) (ts : List AcceptedUpdate)
    → AllByRecursion (λ (t : AcceptedUpdate). IsPlaced g t.update t.keeps) ts → AllByRecursion (IsPlacedIn g) (map update_of ts)
placed-within g [] h = tt
placed-within g (t ∷ rest) h = (place_number-within g t.update.places t.keeps h.0.place, placed-within g rest h.1)

pub few-placed : (g : RegionId) (ts : List AcceptedUpdate)
    → AllByRecursion (λ (t : AcceptedUpdate). IsPlaced g t.update t.keeps) ts → AllByRecursion HasFewPlaces (map update_of ts)
few-placed g [] h = tt
few-placed g (t ∷ rest) h = (h.0.few, few-placed g rest h.1)

pub by_recursion-drop : {A : Type 0} (P : A → Type 0) (n : ℕ) (xs : List A) → AllByRecursion P xs → AllByRecursion P (drop n xs)
by_recursion-drop P zero xs h = h
by_recursion-drop P (suc n) [] h = tt
by_recursion-drop P (suc n) (x ∷ xs) h = by_recursion-drop P n xs h.1

pub by_recursion-take : {A : Type 0} (P : A → Type 0) (n : ℕ) (xs : List A) → AllByRecursion P xs → AllByRecursion P (take n xs)
by_recursion-take P zero xs h = tt
by_recursion-take P (suc n) [] h = tt
by_recursion-take P (suc n) (x ∷ xs) h = (h.0, by_recursion-take P n xs h.1)
