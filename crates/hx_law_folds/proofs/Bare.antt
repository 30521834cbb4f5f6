-- A slot without a past, as code keeps it: what its moves leave.
use Rattle.hx_law_folds.proofs.Vocabulary.{[], above, Acknowledge, AllByRecursion, ap, append-nil, arith, Bool, Commit, cond-false, cond-true, cond_both}
use Rattle.hx_law_folds.proofs.Vocabulary.{Descends, false, find, folded, follows, Forget, Hold, IsBare, IsLater, IsSlotOf, Kept, kept_row, KeyState, le-leb}
use Rattle.hx_law_folds.proofs.Vocabulary.{leb, length, List, lt-leb, marks_after, Move, moved, moved_all, offered, provided, refl, RegionId, state_from, subst}
use Rattle.hx_law_folds.proofs.Vocabulary.{suc, sym, Take, top_above, top_of, touches_after, true, turns, Update, upto, zero, ℕ, ⊤, ◌++◌, ◌<◌, ◌∙◌, ◌∷◌, ◌≡◌}
use Rattle.hx_law_folds.proofs.Vocabulary.{◌≤◌}
use Rattle.hx_law_folds.specs.Folding.{kept_over}
use Rattle.hx_law_folds.proofs.Folds.{folded-twice, marks-parts, touches-parts}
use Rattle.hx_law_folds.proofs.Lists.{row-append, top-append}
use Rattle.hx_law_folds.proofs.Lists.{when_some_both}
use Rattle.hx_law_folds.proofs.Moves.{offered-good}
use Rattle.hx_law_folds.proofs.Slots.{AllFit, fit-walk, stands-below}

-- a slot without a past is what it is without it
pub bare-folded : (g : RegionId) (s : KeyState) → IsBare g s → folded g s ≡ s
bare-folded g s h = let base = h.base in let only = h.only in λ j. record s { base = base j; accepted = only j }

pub folded-bare : (g : RegionId) (s : KeyState) → IsBare g (folded g s)
folded-bare g s = let e = folded-twice g s in record { base = ap (λ (x : KeyState). x.base) e; only = ap (λ (x : KeyState). x.accepted) e }

-- a move that commits nothing
abbrev pub CommitsNothing : List Move → Type 0
CommitsNothing [] = ⊤
CommitsNothing (Take u ∷ ms) = CommitsNothing ms
CommitsNothing (Hold u ∷ ms) = CommitsNothing ms
CommitsNothing (Acknowledge v ∷ ms) = CommitsNothing ms
CommitsNothing (Commit u ∷ ms) = ⊥
CommitsNothing (Forget ∷ ms) = CommitsNothing ms

-- a taken update above the floor is one more
bare-take : (g : RegionId) (s : KeyState) (u : Update) → IsBare g s → s.floor < u.version.0 → IsBare g (moved (Take u) s)
bare-take g s u h l =
    let e = cond-false (leb u.version.0 s.floor) (u ∷ s.accepted) (upto s.floor s.accepted) (lt-leb u.version.0 s.floor l) in
    record {
      base = (λ j. record {
        key = s.base.key;
        floor = record { 0 = s.floor };
        object = kept_row g s.base.object (e j);
        marks = provided s.marks (marks_after s.base.marks (e j));
        touches = provided s.marks (touches_after s.base.touches (e j));
      }) ∙ h.base;
      only = cond-false (leb u.version.0 s.floor) _ _ (lt-leb u.version.0 s.floor l) ∙ ap (λ (us : List Update). u ∷ us) h.only;
    }

-- so it stays without a past by moves that commit nothing
pub bare-moved_all : (g : RegionId) (ms : List Move) (s : KeyState) → s.floor ≤ top_of s → CommitsNothing ms
    → AllFit g s ms → IsBare g s → IsBare g (moved_all ms s)
bare-moved_all g [] s l n f h = h
bare-moved_all g (Take u ∷ ms) s l n f h = (let t = f.0 in
    bare-moved_all g ms (moved (Take u) s) (omega (arith, l, t)) n f.1 (bare-take g s u h (omega (arith, l, t))))
bare-moved_all g (Hold u ∷ ms) s l n f h = bare-moved_all g ms (moved (Hold u) s) l n f.1 (record { base = h.base; only = h.only })
bare-moved_all g (Acknowledge v ∷ ms) s l n f h = bare-moved_all g ms (moved (Acknowledge v) s) l n f.1 (record { base = h.base; only = h.only })
bare-moved_all g (Commit u ∷ ms) s l n f h = absurd n
bare-moved_all g (Forget ∷ ms) s l n f h = bare-moved_all g ms (moved Forget s) l n f.1 (record { base = h.base; only = h.only })

turns-nothing : (g : RegionId) (n top : ℕ) (early : List Update) → CommitsNothing (turns g n top early)
turns-nothing g zero top early = tt
turns-nothing g (suc n) top early = when_some_both (find (follows g top) early) []
    (λ (u : Update). Take u ∷ turns g n u.version.0 early) CommitsNothing (λ e. tt) (λ u e. turns-nothing g n u.version.0 early)

offered-nothing : (g : RegionId) (s : KeyState) (u : Update) → CommitsNothing (offered g s u)
offered-nothing g s u =
    cond_both (leb u.version.0 (top_of s)) [] _ CommitsNothing (λ e. tt)
    (λ e. cond_both (follows g (top_of s) u) (Take u ∷ turns g (length s.early) u.version.0 s.early)
    (Hold u ∷ []) CommitsNothing (λ b. turns-nothing g (length s.early) u.version.0 s.early) (λ b. tt))

-- an offer leaves a slot without a past so
pub bare-offered : (g : RegionId) (s : KeyState) (u : Update) → IsSlotOf g s → IsBare g s → IsLater g u
    → folded g (moved_all (offered g s u) s) ≡ moved_all (offered g s u) s
bare-offered g s u h b l =
    bare-folded g (moved_all (offered g s u) s)
    (bare-moved_all g (offered g s u) s (stands-below s.base.floor.0 s.floor s.accepted h.descends h.floor)
    (offered-nothing g s u) (offered-good (fit-walk g) s u h l) b)

-- what is above the newest of some older updates
top-grows : (b : ℕ) (ns os : List Update) → Descends b (ns ++ os) → top_above b os ≤ top_above b (ns ++ os)
top-grows b [] os h = omega arith
top-grows b (n ∷ ns) os h = let t = top-grows b ns os h.1 in let d = h.0 in omega (arith, t, d)

newer-above : (b : ℕ) (ns os : List Update) → Descends b (ns ++ os) → AllByRecursion (λ (u : Update). top_above b os < u.version.0) ns
newer-above b [] os h = tt
newer-above b (n ∷ ns) os h = ((let t = top-grows b ns os h.1 in let d = h.0 in omega (arith, t, d)), newer-above b ns os h.1)

upto-newest : (b : ℕ) (os : List Update) → upto (top_above b os) os ≡ os
upto-newest b [] = refl
upto-newest b (u ∷ os) = cond-true (leb u.version.0 u.version.0) _ _ (le-leb u.version.0 u.version.0 (omega arith))

above-newest : (b : ℕ) (os : List Update) → above (top_above b os) os ≡ []
above-newest b [] = refl
above-newest b (u ∷ os) = cond-true (leb u.version.0 u.version.0) _ _ (le-leb u.version.0 u.version.0 (omega arith))

upto-past : (v : ℕ) (ns os : List Update) → AllByRecursion (λ (u : Update). v < u.version.0) ns → upto v (ns ++ os) ≡ upto v os
upto-past v [] os h = refl
upto-past v (n ∷ ns) os h = cond-false (leb n.version.0 v) _ _ (lt-leb n.version.0 v h.0) ∙ upto-past v ns os h.1

above-past : (v : ℕ) (ns os : List Update) → AllByRecursion (λ (u : Update). v < u.version.0) ns → above v (ns ++ os) ≡ ns ++ above v os
above-past v [] os h = refl
above-past v (n ∷ ns) os h = cond-false (leb n.version.0 v) _ _ (lt-leb n.version.0 v h.0) ∙ ap (λ (l : List Update). n ∷ l) (above-past v ns os h.1)

-- the slot where just the older updates are committed, without its past: they are folded over the base, one after another
pub front-folded : (g : RegionId) (s : KeyState) (newer older : List Update) (acked : List ℕ) → s.accepted ≡ newer ++ older → Descends s.base.floor.0 s.accepted
    → folded g (record s { floor = top_above s.base.floor.0 older; acked = acked })
    ≡ record s {
      base = kept_over g s.marks s.base older;
      accepted = newer;
      floor = top_above s.base.floor.0 older;
      acked = acked;
    }
front-folded g s newer older acked e h =
    let v = top_above s.base.floor.0 older in
    let high = newer-above s.base.floor.0 newer older (subst (Descends s.base.floor.0) e h) in
    let front = ap (upto v) e ∙ upto-past v newer older high ∙ upto-newest s.base.floor.0 older in
    let rest = ap (above v) e ∙ above-past v newer older high ∙ ap (λ (l : List Update). newer ++ l) (above-newest s.base.floor.0 older) ∙ append-nil newer in
    λ j. record {
      marks = s.marks;
      base = record {
        key = s.base.key;
        floor = record { 0 = v };
        object = kept_row g s.base.object (front j);
        marks = provided s.marks (marks_after s.base.marks (front j));
        touches = provided s.marks (touches_after s.base.touches (front j));
      };
      accepted = rest j;
      floor = v;
      acked = acked;
      early = s.early;
    }

-- folds in two parts are one
pub kept-over-append : (g : RegionId) (m : Bool) (base : Kept) (us vs : List Update) → kept_over g m (kept_over g m base vs) us ≡ kept_over g m base (us ++ vs)
kept-over-append g m base us vs =
    let top = top-append base.floor.0 us vs in
    let row = row-append g base.object us vs in
    let marks = marks-parts m base.marks us vs (us ++ vs) refl in
    let touches = touches-parts m base.touches us vs (us ++ vs) refl in
    λ j. record { key = base.key; floor = record { 0 = sym top j }; object = sym row j; marks = marks j; touches = touches j }

-- a new slot, and one over a committed state
pub bare-from : (g : RegionId) (m : Bool) (k : Kept) → IsBare g (state_from m k)
bare-from g true k = record { base = refl; only = refl }
bare-from g false k = record { base = refl; only = refl }
