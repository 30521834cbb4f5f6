-- Slots whose versions descend: the moves of their steps keep them so.
use Rattle.hx_law_folds.proofs.Vocabulary.{[], above, Acknowledge, AllByRecursion, ap, AreAlike, arith, Bool, Commit, commits, cond-false, cond-true, cond_both}
use Rattle.hx_law_folds.proofs.Vocabulary.{Descends, eqb, eqb-true, false, false≢true, folded, follows, Forget, Hold, IfSome, IsAfter, IsLater, IsSlotOf}
use Rattle.hx_law_folds.proofs.Vocabulary.{KeyState, le-leb, leb, leb-false, List, list_any, lt-leb, MayFollow, Move, moved, moved_all, new_state, None}
use Rattle.hx_law_folds.proofs.Vocabulary.{offered_all, Option, option_map, pending_above, pending_of, Place, place_in, provided, refl, RegionId, same_region}
use Rattle.hx_law_folds.proofs.Vocabulary.{settled, Some, Stands, Take, top_above, top_of, true, Update, upto, when_some, ℕ, ⊤, ◌++◌, ◌<◌, ◌∙◌, ◌∷◌, ◌≡◌, ◌≤◌}
use Rattle.std.specs.List.{All}
use Rattle.std.proofs.lemmas.List.Elements.{All-head, All-tail}
use Rattle.hx_model.specs.Slots.{after_at}
use Rattle.hx_law_folds.proofs.Lists.{all-append, all-filter, all-weaker, upto-above}
use Rattle.hx_law_folds.proofs.Moves.{AllGood, Walk, offered_all-good}
use Rattle.hx_law_folds.proofs.Folds.{alike-moved}

-- an update whose places all come after lower versions does so at each region
pub later-of : (g : RegionId) (u : Update) → IsAfter u → IsLater g u
later-of g u h =
    by u.places h
  where
    by : (ps : List Place) → All (λ (p : Place). p.after.0 < u.version.0) ps
        → IfSome (option_map (λ (p : Place). p.after.0) (place_in g ps)) (λ after. after < u.version.0)
    by [] h = tt
    by (p ∷ ps) h =
        cond_both (same_region p.region g) (Some p) (place_in g ps)
        (λ (o : Option Place). IfSome (option_map (λ (p : Place). p.after.0) o) (λ after. after < u.version.0))
        (λ e. All-head (λ (p : Place). p.after.0 < u.version.0) p ps h)
        (λ e. by ps (All-tail (λ (p : Place). p.after.0 < u.version.0) p ps h))

-- an update that follows on a version is above it
follows-above : (g : RegionId) (v : ℕ) (u : Update) → IsLater g u → follows g v u ≡ true → v < u.version.0
follows-above g v u l e =
    by (after_at g u) l e
  where
    by : (o : Option ℕ) → IfSome o (λ after. after < u.version.0) → when_some o false (λ after. eqb after v) ≡ true → v < u.version.0
    by None l e = absurd (false≢true e)
    by (Some after) l e = let q = eqb-true after v e in omega (arith, q, l)

-- no version that stands is above the top
upto-top : (b v : ℕ) (us : List Update) → Descends b us → top_above b (upto v us) ≤ top_above b us
upto-top b v [] h = omega arith
upto-top b v (u ∷ older) h =
    cond_both (leb u.version.0 v) (u ∷ older) (upto v older) (λ (l : List Update). top_above b l ≤ u.version.0)
    (λ e. omega arith)
    (λ e. let t = upto-top b v older h.1 in let d = h.0 in omega (arith, t, d))

pub stands-below : (b v : ℕ) (us : List Update) → Descends b us → Stands b us v → v ≤ top_above b us
stands-below b v us h e = let t = upto-top b v us h in omega (arith, t, e)

-- a further update of a higher version
upto-newer : (v : ℕ) (u : Update) (us : List Update) → v < u.version.0 → upto v (u ∷ us) ≡ upto v us
upto-newer v u us l = cond-false (leb u.version.0 v) _ _ (lt-leb u.version.0 v l)

-- each accepted version stands
pub all-stand : (b : ℕ) (us : List Update) → Descends b us → AllByRecursion (λ (u : Update). Stands b us u.version.0 × (u.version.0 ≤ top_above b us)) us
all-stand b [] h = tt
all-stand b (x ∷ older) h = (
  (ap (top_above b) (cond-true (leb x.version.0 x.version.0) _ _ (le-leb x.version.0 x.version.0 (omega arith))), omega arith),
  all-weaker (λ (u : Update). Stands b older u.version.0 × (u.version.0 ≤ top_above b older))
      (λ (u : Update). Stands b (x ∷ older) u.version.0 × (u.version.0 ≤ x.version.0))
      (λ u k. (let d = h.0 in let l = k.1 in (ap (top_above b) (upto-newer u.version.0 x older (omega (arith, d, l))) ∙ k.0, omega (arith, d, l))))
      older
      (all-stand b older h.1),
)

-- what holds of all accepted updates holds of the pending ones
pub all-pending : (P : Update → Type 0) (v : ℕ) (us : List Update) → AllByRecursion P us → AllByRecursion P (pending_above v us)
all-pending P v [] h = tt
all-pending P v (u ∷ older) h =
    cond_both (leb u.version.0 v) [] (pending_above v older ++ u ∷ []) (AllByRecursion P)
    (λ e. tt)
    (λ e. all-append P (pending_above v older) (u ∷ []) (all-pending P v older h.1) (h.0, tt))

-- versions from one on, none below the one before it
abbrev Climbs : ℕ → List Update → Type 0
Climbs v [] = ⊤
Climbs v (u ∷ rest) = (v ≤ u.version.0) × Climbs u.version.0 rest

climbs-last : (v : ℕ) (us : List Update) (u : Update) → Climbs v us → v ≤ u.version.0
    → AllByRecursion (λ (w : Update). w.version.0 ≤ u.version.0) us → Climbs v (us ++ u ∷ [])
climbs-last v [] u h l k = (l, tt)
climbs-last v (w ∷ us) u h l k = (h.0, climbs-last w.version.0 us u h.1 k.0 k.1)

pending-climbs : (b v : ℕ) (us : List Update) → Descends b us → Climbs v (pending_above v us)
pending-climbs b v [] h = tt
pending-climbs b v (u ∷ older) h =
    cond_both (leb u.version.0 v) [] (pending_above v older ++ u ∷ []) (Climbs v)
    (λ e. tt)
    (
    λ e. let l = leb-false u.version.0 v e in
    climbs-last v (pending_above v older) u (pending-climbs b v older h.1) (omega arith)
    (
    all-weaker (λ (w : Update). Stands b older w.version.0 × (w.version.0 ≤ top_above b older)) (λ (w : Update). w.version.0 ≤ u.version.0)
    (λ w k. (let d = h.0 in let m = k.1 in omega (arith, d, m)))
    (pending_above v older)
    (all-pending (λ (w : Update). Stands b older w.version.0 × (w.version.0 ≤ top_above b older)) v older (all-stand b older h.1))
    )
    )

-- what allows a move
abbrev pub Fits : RegionId → KeyState → Move → Type 0
Fits g s (Take u) = top_of s < u.version.0
Fits g s (Hold u) = IsLater g u
Fits g s (Commit u) = (s.floor ≤ u.version.0) × Stands s.base.floor.0 s.accepted u.version.0
Fits g s other = ⊤

abbrev pub AllFit : RegionId → KeyState → List Move → Type 0
AllFit g s ms = AllGood (Fits g) s ms

pub may-follow : (g : RegionId) (m : Move) (s : KeyState) → Fits g s m → MayFollow s m
may-follow g (Commit u) s f = f.0
may-follow g other s f = tt

-- it is kept by a move that is allowed
slot-moved : (g : RegionId) (m : Move) (s : KeyState) → IsSlotOf g s → Fits g s m → IsSlotOf g (moved m s)
slot-moved g (Take u) s h f =
    let l = stands-below s.base.floor.0 s.floor s.accepted h.descends h.floor in
    record {
      descends = (f, h.descends);
      floor = ap (top_above s.base.floor.0) (upto-newer s.floor u s.accepted (omega (arith, l, f))) ∙ h.floor;
      early = all-filter (IsLater g) _ s.early h.early;
    }
slot-moved g (Hold u) s h f = record {
  descends = h.descends;
  floor = h.floor;
  early = all-append (IsLater g) _ (u ∷ []) (all-filter (IsLater g) _ s.early h.early) (f, tt);
}
slot-moved g (Acknowledge v) s h f = record { descends = h.descends; floor = h.floor; early = h.early }
slot-moved g (Commit u) s h f = record { descends = h.descends; floor = f.1; early = h.early }
slot-moved g Forget s h f = record { descends = h.descends; floor = h.floor; early = tt }

-- slots that are alike stay so by the same moves
pub alike-moved_all : (g : RegionId) (ms : List Move) (s t : KeyState) → AreAlike g s t → AllFit g s ms
    → AllFit g t ms → AreAlike g (moved_all ms s) (moved_all ms t)
alike-moved_all g [] s t e a b = e
alike-moved_all g (m ∷ ms) s t e a b = alike-moved_all g ms (moved m s) (moved m t)
    (alike-moved g m s t e (may-follow g m s a.0) (may-follow g m t b.0)) a.1 b.1

-- commits of updates that stand, in order
commits-fit : (g : RegionId) (acked : List ℕ) (us : List Update) (s : KeyState) → Climbs s.floor us
    → AllByRecursion (λ (u : Update). Stands s.base.floor.0 s.accepted u.version.0) us → AllFit g s (commits acked us)
commits-fit g acked [] s c h = tt
commits-fit g acked (u ∷ us) s c h =
    by (list_any (λ v. eqb v u.version.0) acked) (commits-fit g acked us (moved (Commit u) s) c.1 h.1)
  where
    by : (b : Bool) → AllFit g (moved (Commit u) s) (commits acked us) → AllFit g s (provided b (Commit u ∷ commits acked us))
    by false r = tt
    by true r = ((c.0, h.0), r)

pub settled-fit : (g : RegionId) (s : KeyState) → IsSlotOf g s → AllFit g s (settled s)
settled-fit g s h =
    commits-fit g s.acked (pending_of s) s (pending-climbs s.base.floor.0 s.floor s.accepted h.descends)
    (
    all-weaker (λ (u : Update). Stands s.base.floor.0 s.accepted u.version.0 × (u.version.0 ≤ top_of s))
    (λ (u : Update). Stands s.base.floor.0 s.accepted u.version.0)
    (λ u k. k.0)
    (pending_of s)
    (all-pending (λ (u : Update). Stands s.base.floor.0 s.accepted u.version.0 × (u.version.0 ≤ top_of s)) s.floor
    s.accepted (all-stand s.base.floor.0 s.accepted h.descends))
    )

-- and so do all moves of each step
pub fit-walk : (g : RegionId) → Walk g (Fits g) (IsSlotOf g) (IsLater g)
fit-walk g = record {
  keeps = slot-moved g;
  early = λ s h. h.early;
  takes = λ u s l f. follows-above g (top_of s) u l f;
  holds = λ u s l. l;
  marks = λ v s. tt;
  settles = settled-fit g;
  forgets = λ s. tt;
}

pub offered_all-fit : (g : RegionId) (s : KeyState) (us : List Update) → IsSlotOf g s → AllByRecursion (IsLater g) us → AllFit g s (offered_all g s us)
offered_all-fit g s us h l = offered_all-good (fit-walk g) s us h l

-- the folded slot is one too
descends-above : (b v : ℕ) (us : List Update) → Descends b us → Descends v (above v us)
descends-above b v [] h = tt
descends-above b v (u ∷ older) h =
    cond_both (leb u.version.0 v) [] (u ∷ above v older) (Descends v)
    (λ e. tt)
    (λ e. (by older h.0 (leb-false u.version.0 v e), descends-above b v older h.1))
  where
    by : (us : List Update) → top_above b us < u.version.0 → v < u.version.0 → top_above v (above v us) < u.version.0
    by [] l k = k
    by (w ∷ ws) l k = cond_both (leb w.version.0 v) [] (w ∷ above v ws) (λ (x : List Update). top_above v x < u.version.0) (λ e. k) (λ e. l)

pub slot-folded : (g : RegionId) (s : KeyState) → IsSlotOf g s → IsSlotOf g (folded g s)
slot-folded g s h = record {
  descends = descends-above s.base.floor.0 s.floor s.accepted h.descends;
  floor = ap (top_above s.floor) (upto-above s.floor s.accepted);
  early = h.early;
}

pub slot-new : (g : RegionId) (at_key : Bool) (key : List ℕ) → IsSlotOf g (new_state at_key key)
slot-new g at_key key = record { descends = tt; floor = refl; early = tt }
