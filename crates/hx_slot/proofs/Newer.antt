-- The marks of updates over those of a base.
use Rattle.std.proofs.Common.{◌≡◌, ℕ, ◌<◌, ◌≤◌, true, false, List, [], ◌∷◌, map, Option, Some, None, refl, ap, sym, ◌∙◌, subst, arith, cond, ltb, eqb}
use Rattle.std.specs.List.{All, AllByRecursion}
use Rattle.std.specs.Option.{IfSome}
use Rattle.std.proofs.lemmas.Bool.{cond_both, cond-true, cond-false, ltb-true, ltb-false, lt-ltb, le-ltb, eqb-true, eqb-false, ne_eqb}
use Rattle.std.proofs.lemmas.List.Elements.{All-cons, All-head, All-nil, All-tail, All-weaker}
use Rattle.hx_model.specs.Types.{Mark, SessionId, Update}
use Rattle.hx_types.specs.Spaces.{IsAscending}
use Rattle.hx_types.specs.Words.{same_session}
use Rattle.hx_model.specs.Slots.{mark_among, mark_by, marks_after, with_mark}
use Rattle.hx_slot.specs.declared.updates.AcceptedUpdate.{AcceptedUpdate}
use Rattle.hx_slot.specs.MarksAndTouches.{newer_of, newest_over}
use Rattle.hx_slot.specs.Updates.{newest_first}
use Rattle.hx_slot.proofs.Regions.{UpdatesUpTo}

abbrev session_of : Mark → ℕ
session_of m = m.session.0

abbrev pub AscendBySession : List Mark → Type 0
AscendBySession marks = IsAscending (map (λ (m : Mark). m.session.0) marks)

-- no mark of a session is among those of higher ones
none_above : (session : SessionId) (marks : List Mark) → All (λ n. session.0 < n) (map session_of marks) → mark_among session marks ≡ None
none_above session [] h = refl
none_above session (m ∷ rest) h =
    let b : session.0 < m.session.0 = All-head (λ n. session.0 < n) m.session.0 (map session_of rest) h in
    cond-false (same_session m.session session) _ _ (ne_eqb m.session.0 session.0 (λ e. omega arith))
    ∙ none_above session rest (All-tail (λ n. session.0 < n) m.session.0 (map session_of rest) h)

-- a mark before those of higher sessions
before : (session : SessionId) (m x : Mark) (rest : List Mark) → AscendBySession (x ∷ rest) → m.session.0 < x.session.0
    → mark_among session (m ∷ x ∷ rest) ≡ cond (same_session m.session session)
    (newer_of (Some m) (mark_among session (x ∷ rest))) (mark_among session (x ∷ rest))
before session m x rest h l =
    cond_both (same_session m.session session) (newer_of (Some m) (mark_among session (x ∷ rest)))
    (mark_among session (x ∷ rest)) (λ (o : Option Mark). mark_among session (m ∷ x ∷ rest) ≡ o)
    (
    λ e. let s = eqb-true m.session.0 session.0 e in
    let all = All-cons (λ n. session.0 < n) x.session.0 (map session_of rest) (omega (arith, s))
    (All-weaker (λ n. x.session.0 < n) (λ n. session.0 < n) (λ n k. omega (arith, s)) (map session_of rest) h.0) in
    cond-true (same_session m.session session) _ _ e ∙ ap (newer_of (Some m)) (sym (none_above session (x ∷ rest) all))
    )
    (λ e. cond-false (same_session m.session session) _ _ e)

-- a mark in place of one of its session
over : (session : SessionId) (m x : Mark) (rest : List Mark) → m.session.0 ≡ x.session.0
    → mark_among session (cond (ltb m.number x.number) x m ∷ rest)
    ≡ cond (same_session m.session session) (newer_of (Some m) (mark_among session (x ∷ rest)))
    (mark_among session (x ∷ rest))
over session m x rest s =
    cond_both (same_session m.session session) (newer_of (Some m) (mark_among session (x ∷ rest)))
    (mark_among session (x ∷ rest)) (λ (o : Option Mark). mark_among session (cond (ltb m.number x.number) x m ∷ rest) ≡ o)
    (
    λ e. let q : same_session x.session session ≡ true = ap (λ n. eqb n session.0) (sym s) ∙ e in
    cond_both (ltb m.number x.number) x m (λ (y : Mark). mark_among session (y ∷ rest) ≡ newer_of (Some m) (mark_among session (x ∷ rest)))
    (λ n. cond-true (same_session x.session session) _ _ q
    ∙ sym (ap (newer_of (Some m)) (cond-true (same_session x.session session) _ _ q)
    ∙ cond-true (ltb m.number x.number) _ _ n))
    (λ n. cond-true (same_session m.session session) _ _ e
    ∙ sym (ap (newer_of (Some m)) (cond-true (same_session x.session session) _ _ q)
    ∙ cond-false (ltb m.number x.number) _ _ n))
    )
    (
    λ e. let q : same_session x.session session ≡ false = ap (λ n. eqb n session.0) (sym s) ∙ e in
    cond_both (ltb m.number x.number) x m (λ (y : Mark). mark_among session (y ∷ rest) ≡ mark_among session (x ∷ rest))
    (λ n. refl)
    (λ n. cond-false (same_session m.session session) _ _ e ∙ sym (cond-false (same_session x.session session) _ _ q))
    )

-- a mark after one of a lower session
after : (session : SessionId) (m x : Mark) (rest new : List Mark) → (m.session.0 ≡ x.session.0 → ⊥)
    → mark_among session new ≡ cond (same_session m.session session) (newer_of (Some m) (mark_among session rest)) (mark_among session rest)
    → mark_among session (x ∷ new) ≡ cond (same_session m.session session) (newer_of (Some m) (mark_among session (x ∷ rest))) (mark_among session (x ∷ rest))
after session m x rest new d h =
    cond_both (same_session x.session session) (Some x) (mark_among session new)
    (λ (o : Option Mark). o ≡ cond (same_session m.session session)
    (newer_of (Some m) (mark_among session (x ∷ rest))) (mark_among session (x ∷ rest)))
    (
    λ e. let s = eqb-true x.session.0 session.0 e in
    sym (cond-true (same_session x.session session) _ _ e)
    ∙ sym (cond-false (same_session m.session session) _ _ (ne_eqb m.session.0 session.0 (λ k. d (k ∙ sym s))))
    )
    (λ e. h ∙ ap (λ (o : Option Mark). cond (same_session m.session session) (newer_of (Some m) o) o) (sym (cond-false (same_session x.session session) _ _ e)))

-- the mark of a session after a mark more
mark_among-with : (session : SessionId) (m : Mark) (marks : List Mark) → AscendBySession marks
    → mark_among session (with_mark m marks) ≡ cond (same_session m.session session) (newer_of (Some m) (mark_among session marks)) (mark_among session marks)
mark_among-with session m [] h = refl
mark_among-with session m (x ∷ rest) h =
    cond_both (ltb m.session.0 x.session.0) (m ∷ x ∷ rest)
    (cond (same_session m.session x.session) (cond (ltb m.number x.number) x m ∷ rest) (x ∷ with_mark m rest))
    (λ (l : List Mark). mark_among session l ≡ cond (same_session m.session session)
    (newer_of (Some m) (mark_among session (x ∷ rest))) (mark_among session (x ∷ rest)))
    (λ e. before session m x rest h (ltb-true m.session.0 x.session.0 e))
    (
    λ e. cond_both (same_session m.session x.session) (cond (ltb m.number x.number) x m ∷ rest) (x ∷ with_mark m rest)
    (λ (l : List Mark). mark_among session l ≡ cond (same_session m.session session)
    (newer_of (Some m) (mark_among session (x ∷ rest))) (mark_among session (x ∷ rest)))
    (λ s. over session m x rest (eqb-true m.session.0 x.session.0 s))
    (λ s. after session m x rest (with_mark m rest) (eqb-false m.session.0 x.session.0 s) (mark_among-with session m rest h.1))
    )

-- sessions ascend with a mark more
above : (n : ℕ) (m : Mark) (marks : List Mark) → n < m.session.0 → All (λ k. n < k) (map session_of marks)
    → All (λ k. n < k) (map session_of (with_mark m marks))
above n m [] l h = All-cons (λ k. n < k) m.session.0 [] l h
above n m (x ∷ rest) l h =
    let a = All-head (λ k. n < k) x.session.0 (map session_of rest) h in
    let b = All-tail (λ k. n < k) x.session.0 (map session_of rest) h in
    cond_both (ltb m.session.0 x.session.0) (m ∷ x ∷ rest)
    (cond (same_session m.session x.session) (cond (ltb m.number x.number) x m ∷ rest) (x ∷ with_mark m rest))
    (λ (l : List Mark). All (λ k. n < k) (map session_of l))
    (λ e. All-cons (λ k. n < k) m.session.0 (map session_of (x ∷ rest)) l h)
    (
    λ e. cond_both (same_session m.session x.session) (cond (ltb m.number x.number) x m ∷ rest) (x ∷ with_mark m rest)
    (λ (l : List Mark). All (λ k. n < k) (map session_of l))
    (
    λ s. cond_both (ltb m.number x.number) x m (λ (y : Mark). All (λ k. n < k) (map session_of (y ∷ rest)))
    (λ t. h)
    (λ t. All-cons (λ k. n < k) m.session.0 (map session_of rest) l b)
    )
    (λ s. All-cons (λ k. n < k) x.session.0 (map session_of (with_mark m rest)) a (above n m rest l b))
    )

pub with_mark-ascends : (m : Mark) (marks : List Mark) → AscendBySession marks → AscendBySession (with_mark m marks)
with_mark-ascends m [] h = (All-nil (λ k. m.session.0 < k), tt)
with_mark-ascends m (x ∷ rest) h =
    cond_both (ltb m.session.0 x.session.0) (m ∷ x ∷ rest)
    (cond (same_session m.session x.session) (cond (ltb m.number x.number) x m ∷ rest) (x ∷ with_mark m rest)) AscendBySession
    (
    λ e. let l = ltb-true m.session.0 x.session.0 e in (
      All-cons (λ k. m.session.0 < k) x.session.0 (map session_of rest) l
          (All-weaker (λ k. x.session.0 < k) (λ k. m.session.0 < k) (λ k b. omega arith) (map session_of rest) h.0),
      h,
    )
    )
    (
    λ e. cond_both (same_session m.session x.session) (cond (ltb m.number x.number) x m ∷ rest) (x ∷ with_mark m rest) AscendBySession
    (
    λ s. let q = eqb-true m.session.0 x.session.0 s in
    cond_both (ltb m.number x.number) x m (λ (y : Mark). AscendBySession (y ∷ rest))
    (λ t. h)
    (λ t. (subst (λ (n : ℕ). All (λ k. n < k) (map session_of rest)) (sym q) h.0, h.1))
    )
    (
    λ s. let a = ltb-false m.session.0 x.session.0 e in
    let b = eqb-false m.session.0 x.session.0 s in
    (above x.session.0 m rest (omega (arith, a, b)) h.0, with_mark-ascends m rest h.1)
    )
    )

pub marks_after-ascends : (base : List Mark) (us : List Update) → AscendBySession base → AscendBySession (marks_after base us)
marks_after-ascends base [] h = h
marks_after-ascends base (u ∷ older) h = with_mark-ascends (mark_by u) (marks_after base older) (marks_after-ascends base older h)

-- the mark of a session after updates
pub newest-marks : (session : SessionId) (base : List Mark) (o : List Update) (ts : List AcceptedUpdate)
    → AscendBySession base → newest_over session (mark_among session (marks_after base o)) ts
    ≡ mark_among session (marks_after base (newest_first o ts))
newest-marks session base o [] h = refl
newest-marks session base o (t ∷ rest) h =
    ap (λ (m : Option Mark). newest_over session m rest) (sym (mark_among-with session (mark_by t.update) (marks_after base o) (marks_after-ascends base o h)))
    ∙ newest-marks session base (t.update ∷ o) rest h

-- the newer of three marks, whichever two are compared first
newer_of-assoc : (m : Mark) (y z : Option Mark) → newer_of (Some m) (newer_of y z) ≡ newer_of (newer_of (Some m) y) z
newer_of-assoc m None z = refl
newer_of-assoc m (Some y) None = cond_both (ltb m.number y.number) (Some y) (Some m) (λ (o : Option Mark). o ≡ newer_of o None) (λ e. refl) (λ e. refl)
newer_of-assoc m (Some y) (Some z) =
    cond_both (ltb m.number y.number) (Some y) (Some m) (λ (o : Option Mark). newer_of (Some m) (newer_of (Some y) (Some z)) ≡ newer_of o (Some z))
    (
    λ a. let l = ltb-true m.number y.number a in
    cond_both (ltb y.number z.number) (Some z) (Some y) (λ (o : Option Mark). newer_of (Some m) o ≡ o)
    (λ b. let k = ltb-true y.number z.number b in cond-true (ltb m.number z.number) _ _ (lt-ltb m.number z.number (omega arith)))
    (λ b. cond-true (ltb m.number y.number) _ _ a)
    )
    (
    λ a. let l = ltb-false m.number y.number a in
    cond_both (ltb y.number z.number) (Some z) (Some y) (λ (o : Option Mark). newer_of (Some m) o ≡ newer_of (Some m) (Some z))
    (λ b. refl)
    (λ b. let k = ltb-false y.number z.number b in
    cond-false (ltb m.number y.number) _ _ a ∙ sym
    (cond-false (ltb m.number z.number) _ _ (le-ltb m.number z.number (omega arith))))
    )

-- the mark of a session is the newer of the updates' and the base's
pub mark-over : (session : SessionId) (base : List Mark) (us : List Update) → AscendBySession base
    → newer_of (mark_among session (marks_after [] us)) (mark_among session base) ≡ mark_among session (marks_after base us)
mark-over session base [] h = refl
mark-over session base (u ∷ older) h =
    let all = mark_among-with session (mark_by u) (marks_after base older) (marks_after-ascends base older h) in
    let table = mark_among-with session (mark_by u) (marks_after [] older) (marks_after-ascends [] older tt) in
    let old = mark-over session base older h in
    ap (λ (o : Option Mark). newer_of o (mark_among session base)) table
    ∙ cond_both (same_session u.caller.session session)
    (newer_of (Some (mark_by u)) (mark_among session (marks_after [] older))) (mark_among session (marks_after [] older))
    (λ (o : Option Mark). newer_of o (mark_among session base)
    ≡ cond (same_session u.caller.session session)
    (newer_of (Some (mark_by u)) (mark_among session (marks_after base older))) (mark_among session (marks_after base older)))
    (λ e. sym (newer_of-assoc (mark_by u) (mark_among session (marks_after [] older)) (mark_among session base))
    ∙ ap (newer_of (Some (mark_by u))) old ∙ sym (cond-true (same_session u.caller.session session) _ _ e))
    (λ e. old ∙ sym (cond-false (same_session u.caller.session session) _ _ e))
    ∙ sym all

-- no mark is above a version
abbrev pub MarksUpTo : ℕ → List Mark → Type 0
MarksUpTo v marks = AllByRecursion (λ (m : Mark). m.version.0 ≤ v) marks

pub with_mark-upto : (v : ℕ) (m : Mark) (marks : List Mark) → m.version.0 ≤ v → MarksUpTo v marks → MarksUpTo v (with_mark m marks)
with_mark-upto v m [] l h = (l, tt)
with_mark-upto v m (x ∷ rest) l h =
    cond_both (ltb m.session.0 x.session.0) (m ∷ x ∷ rest)
    (cond (same_session m.session x.session) (cond (ltb m.number x.number) x m ∷ rest) (x ∷ with_mark m rest)) (MarksUpTo v)
    (λ e. (l, h))
    (
    λ e. cond_both (same_session m.session x.session) (cond (ltb m.number x.number) x m ∷ rest) (x ∷ with_mark m rest) (MarksUpTo v)
    (λ s. cond_both (ltb m.number x.number) x m (λ (y : Mark). MarksUpTo v (y ∷ rest)) (λ t. h) (λ t. (l, h.1)))
    (λ s. (h.0, with_mark-upto v m rest l h.1))
    )

pub marks_after-upto : (v : ℕ) (base : List Mark) (us : List Update) → MarksUpTo v base → UpdatesUpTo v us → MarksUpTo v (marks_after base us)
marks_after-upto v base [] h l = h
marks_after-upto v base (u ∷ older) h l = with_mark-upto v (mark_by u) (marks_after base older) l.0 (marks_after-upto v base older h l.1)

pub mark_among-upto : (v : ℕ) (session : SessionId) (marks : List Mark) → MarksUpTo v marks → IfSome (mark_among session marks) (λ (m : Mark). m.version.0 ≤ v)
mark_among-upto v session [] h = tt
mark_among-upto v session (m ∷ rest) h =
    cond_both (same_session m.session session) (Some m) (mark_among session rest) (λ (o : Option Mark). IfSome o (λ (x : Mark). x.version.0 ≤ v))
    (λ e. h.0)
    (λ e. mark_among-upto v session rest h.1)
