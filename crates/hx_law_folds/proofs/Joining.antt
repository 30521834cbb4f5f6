-- What a snapshot with its pending updates stands for, and what a joiner makes of it.
use Rattle.hx_law_folds.proofs.Vocabulary.{[], above, ap, append-nil, append_assoc, arith, Bool, cond-false, cond-true, cond_both, Descends, eqb, false, filter}
use Rattle.hx_law_folds.proofs.Vocabulary.{flat_map, folded, follows, Forget, InTurn, IsSlotOf, joining, Kept, kept_of, KeyState, leb, length, List, lt-leb}
use Rattle.hx_law_folds.proofs.Vocabulary.{map, marks_after, Move, move_posts, moved, moved_all, not, offered, offered_all, over, passed_on, pending_above}
use Rattle.hx_law_folds.proofs.Vocabulary.{pending_of, Post, provided, refl, RegionId, resumed, reverse, settled, SlotContext, Stands, subst, sym, tail_acks}
use Rattle.hx_law_folds.proofs.Vocabulary.{Take, taken, top_above, top_of, touches_after, true, turns, Update, upto, ℕ, ⊤, ◌++◌, ◌<◌, ◌∙◌, ◌∷◌, ◌≡◌}
use Rattle.std.proofs.lemmas.List.{map-append, reverse-append}
use Rattle.hx_model.proofs.Lemmas.{moved_all-++}
use Rattle.hx_law_folds.proofs.Folds.{pending-folded}

-- updates one after another from a version on, the lowest first
abbrev pub Follow : RegionId → ℕ → List Update → Type 0
Follow g v [] = ⊤
Follow g v (u ∷ us) = (follows g v u ≡ true) × (v < u.version.0) × Follow g u.version.0 us

abbrev pub last_of : ℕ → List Update → ℕ
last_of v [] = v
last_of v (u ∷ us) = last_of u.version.0 us

follow-last : (g : RegionId) (v : ℕ) (us : List Update) (u : Update) → Follow g v us
    → follows g (last_of v us) u ≡ true → last_of v us < u.version.0 → Follow g v (us ++ u ∷ [])
follow-last g v [] u h f l = (f, l, tt)
follow-last g v (w ∷ us) u h f l = (h.0, h.1, follow-last g w.version.0 us u h.2 f l)

last-append : (v : ℕ) (us : List Update) (u : Update) → last_of v (us ++ u ∷ []) ≡ u.version.0
last-append v [] u = refl
last-append v (w ∷ us) u = last-append w.version.0 us u

pub pending-follow : (g : RegionId) (b v : ℕ) (us : List Update) → Descends b us → InTurn g b us → Stands b us v
    → Follow g v (pending_above v us) × (last_of v (pending_above v us) ≡ top_above b us)
pending-follow g b v [] h t = λ e. (tt, sym e)
pending-follow g b v (u ∷ older) h t =
    cond_both (leb u.version.0 v) [] (pending_above v older ++ u ∷ [])
    (λ (x : List Update). Stands b (u ∷ older) v → Follow g v x × (last_of v x ≡ u.version.0))
    (λ q e. (tt, sym e ∙ ap (top_above b) (cond-true (leb u.version.0 v) (u ∷ older) (upto v older) q)))
    (
    λ q e. let f : Stands b older v = ap (top_above b) (sym (cond-false (leb u.version.0 v) (u ∷ older) (upto v older) q)) ∙ e in
    let r = pending-follow g b v older h.1 t.1 f in
    let d = h.0 in
    let l = r.1 in
    (follow-last g v (pending_above v older) u r.0 (ap (λ w. follows g w u) r.1 ∙ t.0) (omega (arith, d, l)), last-append v (pending_above v older) u)
    )

-- updates in turn are taken one after another, from a slot that holds nothing early
abbrev pub takes : List Update → List Move
takes us = map (λ (u : Update). Take u) us

one-taken : (g : RegionId) (k : KeyState) (u : Update) → k.early ≡ [] → follows g (top_of k) u ≡ true → top_of k < u.version.0 → offered g k u ≡ Take u ∷ []
one-taken g k u e f l =
    cond-false (leb u.version.0 (top_of k)) _ _ (lt-leb u.version.0 (top_of k) l)
    ∙ cond-true (follows g (top_of k) u) _ _ f
    ∙ ap (λ (early : List Update). Take u ∷ turns g (length early) u.version.0 early) e

pub all-taken : (g : RegionId) (us : List Update) (k : KeyState) → k.early ≡ [] → Follow g (top_of k) us → offered_all g k us ≡ takes us
all-taken g [] k e f = refl
all-taken g (u ∷ us) k e f =
    ap (λ (ms : List Move). ms ++ offered_all g (moved_all ms k) us) (one-taken g k u e f.0 f.1)
    ∙ ap (λ (ms : List Move). Take u ∷ ms) (all-taken g us (moved (Take u) k) (ap (filter (λ (w : Update). not (eqb w.version.0 u.version.0))) e) f.2)

-- what pending updates leave that are taken
pub takes-state : (v : ℕ) (us : List Update) (k : KeyState) → k.early ≡ []
    → moved_all (takes (pending_above v us)) k ≡ record k { accepted = above v us ++ k.accepted }
takes-state v [] k e = refl
takes-state v (u ∷ older) k e =
    cond_both (leb u.version.0 v) [] (pending_above v older ++ u ∷ [])
    (λ (x : List Update). moved_all (takes x) k ≡ record k { accepted = above v (u ∷ older) ++ k.accepted })
    (λ q. λ j. record k { accepted = sym (cond-true (leb u.version.0 v) [] (u ∷ above v older) q) j ++ k.accepted })
    (
    λ q. ap (λ (ms : List Move). moved_all ms k) (map-append (λ (w : Update). Take w) (pending_above v older) (u ∷ []))
    ∙ moved_all-++ (takes (pending_above v older)) (Take u ∷ []) k
    ∙ ap (moved (Take u)) (takes-state v older k e)
    ∙ (λ j. record k {
      accepted = sym (ap (λ (l : List Update). l ++ k.accepted) (cond-false (leb u.version.0 v) [] (u ∷ above v older) q)) j;
      early = (ap (filter (λ (w : Update). not (eqb w.version.0 u.version.0))) e ∙ sym e) j;
    })
    )

-- the highest first again
pub pending-reversed : (v : ℕ) (us : List Update) → reverse (pending_above v us) ≡ above v us
pending-reversed v [] = refl
pending-reversed v (u ∷ older) =
    cond_both (leb u.version.0 v) [] (pending_above v older ++ u ∷ []) (λ (x : List Update). reverse x ≡ above v (u ∷ older))
    (λ q. sym (cond-true (leb u.version.0 v) _ _ q))
    (
    λ q. reverse-append (pending_above v older) (u ∷ [])
    ∙ ap (λ (l : List Update). u ∷ l) (pending-reversed v older)
    ∙ sym (cond-false (leb u.version.0 v) _ _ q)
    )

provided-false : {A : Type 0} (b : Bool) (xs : List A) → b ≡ false → provided b xs ≡ []
provided-false true xs e = absurd (cc)
provided-false false xs e = refl

pub base-over : (g : RegionId) (s : KeyState) → (over g s).base ≡ kept_of g s
base-over g s =
    cond_both s.marks (kept_of g s) (record (kept_of g s) { marks = []; touches = [] }) (λ (k : Kept). k ≡ kept_of g s)
    (λ e. refl)
    (λ e. λ j. record (kept_of g s) {
      marks = sym (provided-false s.marks
          (marks_after s.base.marks (upto s.floor s.accepted)) e) j;
      touches = sym (provided-false s.marks (touches_after s.base.touches (upto s.floor s.accepted)) e) j;
    })

-- a slot over the committed state that takes what was pending is the slot without its past, with nothing acknowledged and nothing early
pub joined : (g : RegionId) (s : KeyState) → IsSlotOf g s → InTurn g s.base.floor.0 s.accepted
    → moved_all (offered_all g (over g s) (pending_of s)) (over g s) ≡ moved Forget (folded g s)
joined g s h t =
    let f = (pending-follow g s.base.floor.0 s.floor s.accepted h.descends t h.floor).0 in
    let base = base-over g s in
    let top : top_of (over g s) ≡ s.floor = ap (λ (k : Kept). k.floor.0) base in
    let fresh : over g s ≡ record {
      marks = s.marks;
      base = kept_of g s;
      accepted = [];
      floor = s.floor;
      acked = [];
      early = [];
    } = λ j. record {
      marks = s.marks;
      base = base j;
      accepted = [];
      floor = (base j).floor.0;
      acked = [];
      early = [];
    } in
    ap (λ (ms : List Move). moved_all ms (over g s)) (all-taken g (pending_of s) (over g s) refl (subst (λ v. Follow g v (pending_of s)) (sym top) f))
    ∙ ap (moved_all (takes (pending_of s))) fresh
    ∙ takes-state s.floor s.accepted _ refl
    ∙ (λ j. record { marks = s.marks; base = kept_of g s; accepted = append-nil (above s.floor s.accepted) j; floor = s.floor; acked = []; early = [] })

taken-takes : (us : List Update) → taken (takes us) ≡ us
taken-takes [] = refl
taken-takes (u ∷ us) = ap (λ (l : List Update). u ∷ l) (taken-takes us)

posts-takes : (context : SlotContext) (us : List Update) → flat_map (move_posts context) (takes us) ≡ flat_map (passed_on context) us
posts-takes context [] = refl
posts-takes context (u ∷ us) = ap (λ (l : List Post). passed_on context u ++ l) (posts-takes context us)

flat_map-append : {A B : Type 0} (f : A → List B) (xs ys : List A) → flat_map f (xs ++ ys) ≡ flat_map f xs ++ flat_map f ys
flat_map-append f [] ys = refl
flat_map-append f (x ∷ xs) ys = ap (λ l. f x ++ l) (flat_map-append f xs ys) ∙ sym (append_assoc (f x) (flat_map f xs) (flat_map f ys))

module _ (context : SlotContext) (s : KeyState) (h : IsSlotOf context.region s) (t : InTurn context.region s.base.floor.0 s.accepted) where
  marks-same : tail_acks context (taken (offered_all context.region (over context.region s) (pending_of s)))
      ≡ tail_acks context (pending_of (folded context.region s))
  marks-same = ap (λ (ms : List Move). tail_acks context (taken ms)) all
      ∙ ap (tail_acks context) (taken-takes (pending_of s) ∙ sym (pending-folded context.region s))
    where
      all : offered_all context.region (over context.region s) (pending_of s) ≡ takes (pending_of s)
      all = all-taken context.region (pending_of s) (over context.region s) refl
          (subst (λ v. Follow context.region v (pending_of s))
          (sym (ap (λ (k : Kept). k.floor.0) (base-over context.region s)))
          (pending-follow context.region s.base.floor.0 s.floor s.accepted h.descends t h.floor).0)

  before : moved_all (offered_all context.region (over context.region s) (pending_of s)
      ++ tail_acks context (taken (offered_all context.region (over context.region s) (pending_of s)))) (over context.region s)
      ≡ moved_all (Forget ∷ tail_acks context (pending_of (folded context.region s))) (folded context.region s)
  before =
      moved_all-++ (offered_all context.region (over context.region s) (pending_of s)) _ (over context.region s)
      ∙ (λ j. moved_all (marks-same j) (joined context.region s h t j))

  -- the joiner's slot is the sender's without its past, as it goes on in the joiner's place
  pub joining-state : moved_all (joining context s) (over context.region s) ≡ moved_all (resumed context (folded context.region s)) (folded context.region s)
  joining-state =
      moved_all-++ (offered_all context.region (over context.region s) (pending_of s)
      ++ tail_acks context (taken (offered_all context.region (over context.region s) (pending_of s)))) _
      (over context.region s)
      ∙ ap (λ (x : KeyState). moved_all (settled x) x) before
      ∙ sym (moved_all-++ (Forget ∷ tail_acks context (pending_of (folded context.region s))) _ (folded context.region s))

  -- and it posts what that slot posts
  pub joining-posts : flat_map (move_posts context) (joining context s)
      ≡ flat_map (passed_on context) (pending_of (folded context.region s))
      ++ flat_map (move_posts context) (resumed context (folded context.region s))
  joining-posts =
      flat_map-append (move_posts context) (offered_all context.region (over context.region s) (pending_of s)
      ++ tail_acks context (taken (offered_all context.region (over context.region s) (pending_of s)))) _
      ∙ ap (λ (l : List Post). l ++ flat_map (move_posts context)
      (settled (moved_all (offered_all context.region (over context.region s) (pending_of s)
      ++ tail_acks context (taken (offered_all context.region (over context.region s) (pending_of s))))
      (over context.region s))))
      (
      flat_map-append (move_posts context) (offered_all context.region (over context.region s) (pending_of s)) _
      ∙ (λ j. taken-posts j ++ flat_map (move_posts context) (marks-same j))
      )
      ∙ ap (λ (x : KeyState). (flat_map (passed_on context) (pending_of (folded context.region s))
      ++ flat_map (move_posts context) (tail_acks context (pending_of (folded context.region s))))
      ++ flat_map (move_posts context) (settled x)) before
      ∙ append_assoc (flat_map (passed_on context) (pending_of (folded context.region s))) _ _
      ∙ ap (λ (l : List Post). flat_map (passed_on context) (pending_of (folded context.region s)) ++ l)
      (sym (flat_map-append (move_posts context) (Forget ∷ tail_acks context (pending_of (folded context.region s))) _))
    where
      taken-posts : flat_map (move_posts context) (offered_all context.region (over context.region s) (pending_of s))
          ≡ flat_map (passed_on context) (pending_of (folded context.region s))
      taken-posts =
          ap (flat_map (move_posts context)) (all-taken context.region (pending_of s) (over context.region s) refl
          (subst (λ v. Follow context.region v (pending_of s))
          (sym (ap (λ (k : Kept). k.floor.0) (base-over context.region s)))
          (pending-follow context.region s.base.floor.0 s.floor s.accepted h.descends t h.floor).0))
          ∙ posts-takes context (pending_of s)
          ∙ ap (flat_map (passed_on context)) (sym (pending-folded context.region s))
