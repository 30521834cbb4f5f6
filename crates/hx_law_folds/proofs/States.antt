-- The slots of a replica without their past.
use Rattle.hx_law_folds.proofs.Vocabulary.{[], adopted_state, AllByRecursion, ap, Bool, cond, cond-false, cond-true, cond_both, eq_of_same_text, false, filter}
use Rattle.hx_law_folds.proofs.Vocabulary.{flat_map, folded, IsSlotIn, kept_of, KeyState, List, ltb, map, Move, moved, moved_all, new_state, None, passed_on}
use Rattle.hx_law_folds.proofs.Vocabulary.{pending_of_all, provided, refl, RegionId, resumed_posts, Row, same_text, SlotContext, snapshot_of, state_among, sym}
use Rattle.hx_law_folds.proofs.Vocabulary.{Take, Term, text_below, true, with_state, ℕ, ◌++◌, ◌∙◌, ◌∷◌, ◌≡◌}
use Rattle.hx_types.specs.Words.{list_of}
use Rattle.hx_model.specs.Matching.{matches}
use Rattle.hx_model.specs.ServerSteps.{pending_posts}
use Rattle.hx_model.specs.Slots.{found_in, rows_of}
use Rattle.hx_law_folds.proofs.Folds.{folded-twice, kept-folded, object-folded, pending-folded}
use Rattle.hx_law_folds.proofs.Slots.{slot-new}
use Rattle.hx_law_folds.proofs.Steps.{adopted-folds, resumed-posts-fold}

pub provided-nothing : {A : Type 0} (b : Bool) → provided {A = A} b [] ≡ []
provided-nothing true = refl
provided-nothing false = refl

-- a new slot has no past
pub folded-new : (g : RegionId) (at_key : Bool) (key : List ℕ) → folded g (new_state at_key key) ≡ new_state at_key key
folded-new g at_key key =
    λ j. record {
      marks = at_key;
      base = record { key = key; floor = record { 0 = 0 }; object = None; marks = provided-nothing at_key j; touches = provided-nothing at_key j };
      accepted = [];
      floor = 0;
      acked = [];
      early = [];
    }

-- the slot of a key
pub folded-among : (g : RegionId) (at_key : Bool) (key : List ℕ) (states : List KeyState)
    → state_among at_key key (map (folded g) states) ≡ folded g (state_among at_key key states)
folded-among g at_key key [] = sym (folded-new g at_key key)
folded-among g at_key key (s ∷ rest) =
    cond_both (same_text s.base.key key) s (state_among at_key key rest)
    (λ (x : KeyState). cond (same_text s.base.key key) (folded g s) (state_among at_key key (map (folded g) rest))
    ≡ folded g x)
    (λ e. cond-true (same_text s.base.key key) _ _ e)
    (λ e. cond-false (same_text s.base.key key) _ _ e ∙ folded-among g at_key key rest)

-- a slot that is put among the others
pub folded-with : (g : RegionId) (s : KeyState) (states : List KeyState)
    → map (folded g) (with_state s states) ≡ with_state (folded g s) (map (folded g) states)
folded-with g s [] = refl
folded-with g s (x ∷ rest) =
    cond_both (same_text x.base.key s.base.key) (s ∷ rest) (cond (text_below s.base.key x.base.key) (s ∷ x ∷ rest) (x ∷ with_state s rest))
    (λ (l : List KeyState). map (folded g) l ≡ with_state (folded g s) (map (folded g) (x ∷ rest)))
    (λ e. sym (cond-true (same_text x.base.key s.base.key) _ _ e))
    (
    λ e. cond_both (text_below s.base.key x.base.key) (s ∷ x ∷ rest) (x ∷ with_state s rest)
    (λ (l : List KeyState). map (folded g) l ≡ with_state (folded g s) (map (folded g) (x ∷ rest)))
    (λ b. sym (cond-false (same_text x.base.key s.base.key) _ _ e ∙ cond-true (text_below s.base.key x.base.key) _ _ b))
    (
    λ b. ap (λ (l : List KeyState). folded g x ∷ l) (folded-with g s rest)
    ∙ sym (cond-false (same_text x.base.key s.base.key) _ _ e ∙ cond-false (text_below s.base.key x.base.key) _ _ b)
    )
    )

pub folded-states-twice : (g : RegionId) (states : List KeyState) → map (folded g) (map (folded g) states) ≡ map (folded g) states
folded-states-twice g [] = refl
folded-states-twice g (s ∷ rest) = λ j. folded-twice g s j ∷ folded-states-twice g rest j

-- a slot put among slots without their past
pub folded-put : (g : RegionId) (x y : KeyState) (states : List KeyState) → folded g x ≡ folded g y
    → map (folded g) (with_state x (map (folded g) states)) ≡ map (folded g) (with_state y states)
folded-put g x y states e =
    folded-with g x (map (folded g) states)
    ∙ (λ j. with_state (e j) (folded-states-twice g states j))
    ∙ sym (folded-with g y states)

-- what replicas post of their slots
pub rows-folded : (g : RegionId) (states : List KeyState) → rows_of g (map (folded g) states) ≡ rows_of g states
rows-folded g [] = refl
rows-folded g (s ∷ rest) = λ j. list_of (object-folded g s j) ++ rows-folded g rest j

pub found-folded : (g : RegionId) (terms : List Term) (states : List KeyState) → found_in g terms (map (folded g) states) ≡ found_in g terms states
found-folded g terms states = ap (filter (λ (r : Row). matches terms r.key r.object)) (rows-folded g states)

pub snapshot-folded : (g : RegionId) (states : List KeyState) → snapshot_of g (map (folded g) states) ≡ snapshot_of g states
snapshot-folded g [] = refl
snapshot-folded g (s ∷ rest) =
    cond_both (ltb 0 s.floor) (s ∷ filter (λ (x : KeyState). ltb 0 x.floor) rest) (filter (λ (x : KeyState). ltb 0 x.floor) rest)
    (λ (l : List KeyState). snapshot_of g (map (folded g) (s ∷ rest)) ≡ map (kept_of g) l)
    (λ e. ap (map (kept_of g)) (cond-true (ltb 0 s.floor) _ _ e) ∙ (λ j. kept-folded g s j ∷ snapshot-folded g rest j))
    (λ e. ap (map (kept_of g)) (cond-false (ltb 0 s.floor) _ _ e) ∙ snapshot-folded g rest)

pub pending_all-folded : (g : RegionId) (states : List KeyState) → pending_of_all (map (folded g) states) ≡ pending_of_all states
pending_all-folded g [] = refl
pending_all-folded g (s ∷ rest) = λ j. pending-folded g s j ++ pending_all-folded g rest j

pub pending-posts-folded : (context : SlotContext) (states : List KeyState)
    → pending_posts context (map (folded context.region) states) ≡ pending_posts context states
pending-posts-folded context [] = refl
pending-posts-folded context (s ∷ rest) = λ j. flat_map (passed_on context) (pending-folded context.region s j) ++ pending-posts-folded context rest j

-- a configuration is adopted
pub resumed-all-folded : (at_key : Bool) (context : SlotContext) (states : List KeyState)
    → AllByRecursion (IsSlotIn at_key context.region) states
    → flat_map (resumed_posts context) (map (folded context.region) states) ≡ flat_map (resumed_posts context) states
resumed-all-folded at_key context [] h = refl
resumed-all-folded at_key context (s ∷ rest) h =
    let a = resumed-posts-fold context s h.0.slot in
    let b = resumed-all-folded at_key context rest h.1 in
    λ j. a j ++ b j

pub adopted-all-folded : (at_key : Bool) (context : SlotContext) (active : Bool) (states : List KeyState)
    → AllByRecursion (IsSlotIn at_key context.region) states
    → map (folded context.region) (map (adopted_state context active) (map (folded context.region) states))
    ≡ map (folded context.region) (map (adopted_state context active) states)
adopted-all-folded at_key context active [] h = refl
adopted-all-folded at_key context active (s ∷ rest) h =
    let a = adopted-folds context s h.0.slot active in
    let b = adopted-all-folded at_key context active rest h.1 in
    λ j. a j ∷ b j

-- whether marks are kept stays
pub marks-moved_all : (ms : List Move) (s : KeyState) → (moved_all ms s).marks ≡ s.marks
marks-moved_all [] s = refl
marks-moved_all (m ∷ ms) s = marks-moved_all ms (moved m s) ∙ by m
  where
    by : (m : Move) → (moved m s).marks ≡ s.marks
    by (Take u) = refl
    by other = refl

-- what holds of all slots and of a new one holds of the slot of a key
pub among-of : (P : KeyState → Type 0) (b : Bool) (key : List ℕ) (states : List KeyState) → P (new_state b key) → AllByRecursion P states
    → P (state_among b key states)
among-of P b key [] n h = n
among-of P b key (s ∷ rest) n h = cond_both (same_text s.base.key key) s (state_among b key rest) P (λ e. h.0) (λ e. among-of P b key rest n h.1)

-- the slot of a key is one, of that key
pub among-slot : (g : RegionId) (at_key : Bool) (key : List ℕ) (states : List KeyState)
    → AllByRecursion (IsSlotIn at_key g) states → IsSlotIn at_key g (state_among at_key key states)
among-slot g at_key key states h = among-of (IsSlotIn at_key g) at_key key states (record { slot = slot-new g at_key key; marks = refl }) h

pub among-key : (at_key : Bool) (key : List ℕ) (states : List KeyState) → (state_among at_key key states).base.key ≡ key
among-key at_key key [] = refl
among-key at_key key (s ∷ rest) =
    cond_both (same_text s.base.key key) s (state_among at_key key rest) (λ (x : KeyState). x.base.key ≡ key)
    (eq_of_same_text s.base.key key) (λ e. among-key at_key key rest)

pub with-slots : (P : KeyState → Type 0) (s : KeyState) (states : List KeyState) → P s → AllByRecursion P states → AllByRecursion P (with_state s states)
with-slots P s [] p h = (p, tt)
with-slots P s (x ∷ rest) p h =
    cond_both (same_text x.base.key s.base.key) (s ∷ rest) (cond (text_below s.base.key x.base.key) (s ∷ x ∷ rest) (x ∷ with_state s rest)) (AllByRecursion P)
    (λ e. (p, h.1))
    (λ e. cond_both (text_below s.base.key x.base.key) (s ∷ x ∷ rest) (x ∷ with_state s rest) (AllByRecursion P)
    (λ b. (p, h)) (λ b. (h.0, with-slots P s rest p h.1)))
