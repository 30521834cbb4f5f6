-- What a slot shows is what it shows without its past, and moves keep it so.
use Rattle.hx_law_folds.proofs.Vocabulary.{[], above, Acknowledge, ap, AreAlike, arith, Bool, Commit, false, folded, Forget, Hold, kept_of, kept_row, KeyState}
use Rattle.hx_law_folds.proofs.Vocabulary.{latest_of, List, Mark, mark_among, mark_of, marks_after, MayFollow, Move, moved, object_in, object_of, Option}
use Rattle.hx_law_folds.proofs.Vocabulary.{pending_of, provided, refl, RegionId, Row, SessionId, Stands, sym, Take, top_above, top_of, Touch, touches_after}
use Rattle.hx_law_folds.proofs.Vocabulary.{touches_of, true, Update, upto, ℕ, ◌++◌, ◌∙◌, ◌∷◌, ◌≡◌, ◌≤◌}
use Rattle.hx_law_folds.proofs.Lists.{above-later, marks-append, parted, pending-above, row-append, top-append, touches-append, upto-above, upto-later}

-- folds of the marks and touches that are kept, in two parts
pub marks-parts : (b : Bool) (base : List Mark) (us vs ws : List Update) → us ++ vs ≡ ws
    → provided b (marks_after (provided b (marks_after base vs)) us) ≡ provided b (marks_after base ws)
marks-parts true base us vs ws e = sym (marks-append base us vs) ∙ ap (marks_after base) e
marks-parts false base us vs ws e = refl

pub touches-parts : (b : Bool) (base : List Touch) (us vs ws : List Update) → us ++ vs ≡ ws
    → provided b (touches_after (provided b (touches_after base vs)) us) ≡ provided b (touches_after base ws)
touches-parts true base us vs ws e = sym (touches-append base us vs) ∙ ap (touches_after base) e
touches-parts false base us vs ws e = refl

pub row-parts : (g : RegionId) (base : Option Row) (us vs ws : List Update) → us ++ vs ≡ ws → kept_row g (kept_row g base vs) us ≡ kept_row g base ws
row-parts g base us vs ws e = sym (row-append g base us vs) ∙ ap (kept_row g base) e

-- what a slot shows
pub object-folded : (g : RegionId) (s : KeyState) → object_of g (folded g s) ≡ object_of g s
object-folded g s = ap (kept_row g (object_of g s)) (upto-above s.floor s.accepted)

pub latest-folded : (g : RegionId) (s : KeyState) → latest_of g (folded g s) ≡ latest_of g s
latest-folded g s = ap object_in (row-parts g s.base.object (above s.floor s.accepted) (upto s.floor s.accepted) s.accepted (parted s.floor s.accepted))

pub pending-folded : (g : RegionId) (s : KeyState) → pending_of (folded g s) ≡ pending_of s
pending-folded g s = pending-above s.floor s.accepted

pub top-folded : (g : RegionId) (s : KeyState) → Stands s.base.floor.0 s.accepted s.floor → top_of (folded g s) ≡ top_of s
top-folded g s e =
    ap (λ v. top_above v (above s.floor s.accepted)) (sym e)
    ∙ sym (top-append s.base.floor.0 (above s.floor s.accepted) (upto s.floor s.accepted))
    ∙ ap (top_above s.base.floor.0) (parted s.floor s.accepted)

-- where marks are kept, those of all accepted updates
pub marks-folded : (g : RegionId) (s : KeyState) → s.marks ≡ true
    → marks_after (folded g s).base.marks (folded g s).accepted ≡ marks_after s.base.marks s.accepted
marks-folded g s m =
    ap (λ b. marks_after (provided b (marks_after s.base.marks (upto s.floor s.accepted))) (above s.floor s.accepted)) m
    ∙ sym (marks-append s.base.marks (above s.floor s.accepted) (upto s.floor s.accepted))
    ∙ ap (marks_after s.base.marks) (parted s.floor s.accepted)

pub mark-folded : (g : RegionId) (s : KeyState) → s.marks ≡ true → (session : SessionId) → mark_of session (folded g s) ≡ mark_of session s
mark-folded g s m session = ap (mark_among session) (marks-folded g s m)

pub touches-folded : (g : RegionId) (s : KeyState) → s.marks ≡ true → touches_of (folded g s) ≡ touches_of s
touches-folded g s m =
    ap (λ b. touches_after (provided b (touches_after s.base.touches (upto s.floor s.accepted))) (above s.floor s.accepted)) m
    ∙ sym (touches-append s.base.touches (above s.floor s.accepted) (upto s.floor s.accepted))
    ∙ ap (touches_after s.base.touches) (parted s.floor s.accepted)

-- the slot with further updates and a floor that is no lower
abbrev grown : KeyState → List Update → ℕ → List ℕ → List Update → KeyState
grown s new floor acked early = record s { accepted = new ++ s.accepted; floor = floor; acked = acked; early = early }

kept-grown : (g : RegionId) (s : KeyState) (new : List Update) (floor : ℕ) (acked : List ℕ) (early : List Update) → s.floor ≤ floor
    → kept_of g (grown (folded g s) new floor acked early) ≡ kept_of g (grown s new floor acked early)
kept-grown g s new floor acked early l =
    let us = upto floor (new ++ above s.floor s.accepted) in
    let vs = upto s.floor s.accepted in
    let ws = upto floor (new ++ s.accepted) in
    let e = upto-later s.floor floor new s.accepted l in
    let row = row-parts g s.base.object us vs ws e in
    let marks = marks-parts s.marks s.base.marks us vs ws e in
    let touches = touches-parts s.marks s.base.touches us vs ws e in
    λ j. record { key = s.base.key; floor = record { 0 = floor }; object = row j; marks = marks j; touches = touches j }

folded-grown : (g : RegionId) (s : KeyState) (new : List Update) (floor : ℕ) (acked : List ℕ) (early : List Update) → s.floor ≤ floor
    → folded g (grown (folded g s) new floor acked early) ≡ folded g (grown s new floor acked early)
folded-grown g s new floor acked early l =
    let kept = kept-grown g s new floor acked early l in
    let rest = above-later s.floor floor new s.accepted l in
    λ j. record { marks = s.marks; base = kept j; accepted = rest j; floor = floor; acked = acked; early = early }

-- folding twice is folding once
pub folded-twice : (g : RegionId) (s : KeyState) → folded g (folded g s) ≡ folded g s
folded-twice g s = folded-grown g s [] s.floor s.acked s.early (omega arith)

pub kept-folded : (g : RegionId) (s : KeyState) → kept_of g (folded g s) ≡ kept_of g s
kept-folded g s = ap (λ (t : KeyState). t.base) (folded-twice g s)

-- a move of the folded slot is the move of the slot, folded
pub folded-moved : (g : RegionId) (m : Move) (s : KeyState) → MayFollow s m → folded g (moved m (folded g s)) ≡ folded g (moved m s)
folded-moved g (Take u) s l = folded-grown g s (u ∷ []) s.floor s.acked (moved (Take u) s).early (omega arith)
folded-moved g (Hold u) s l = folded-grown g s [] s.floor s.acked (moved (Hold u) s).early (omega arith)
folded-moved g (Acknowledge v) s l = folded-grown g s [] s.floor (moved (Acknowledge v) s).acked s.early (omega arith)
folded-moved g (Commit u) s l = folded-grown g s [] u.version.0 (moved (Commit u) s).acked s.early l
folded-moved g Forget s l = folded-grown g s [] s.floor [] [] (omega arith)

-- slots that are alike stay so by the same move
pub alike-moved : (g : RegionId) (m : Move) (s t : KeyState) → AreAlike g s t → MayFollow s m → MayFollow t m → AreAlike g (moved m s) (moved m t)
alike-moved g m s t e a b = sym (folded-moved g m s a) ∙ ap (λ (x : KeyState). folded g (moved m x)) e ∙ folded-moved g m t b
