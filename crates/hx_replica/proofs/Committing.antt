-- What is left pending where the lowest updates that are acknowledged are committed.
use Rattle.std.proofs.Common.{◌≡◌, ℕ, suc, ◌+◌, ◌≤◌, Bool, true, false, cond, ◌==◌, ◌||◌, List, [], ◌∷◌, ◌++◌, drop}
use Rattle.std.proofs.Common.{length, refl, ap, sym, ◌∙◌, subst, arith, nat_le, one-add, Some}
use Rattle.std.specs.List.{AllByRecursion, list_any, slice_get}
use Rattle.std.proofs.lemmas.List.{drop_all}
use Rattle.std.proofs.lemmas.Bool.{cond_both, cond-true, cond-false, false≢true, le-leb, lt-leb}
use Rattle.hx_model.specs.Types.{Update, Version}
use Rattle.hx_types.specs.Words.{provided}
use Rattle.hx_model.specs.Slots.{Commit, KeyState, commits, moved, moved_all, pending_above, pending_of, top_above}
use Rattle.hx_law_folds.specs.Folding.{Descends, Stands}
use Rattle.hx_law_folds.proofs.Lemmas.{all-pending, all-stand}
use Rattle.hx_replica.specs.Outputs.{ended_count, settles}
use Rattle.hx_replica.proofs.Walking.{drop_at}

-- after the first pending update the others are pending
after_first : (b v : ℕ) (us : List Update) (u : Update) (rest : List Update) → Descends b us
    → pending_above v us ≡ u ∷ rest → pending_above u.version.0 us ≡ rest
after_first b v [] u rest d = λ e. absurd cc
after_first b v (w ∷ older) u rest d =
    cond_both (nat_le w.version.0 v) [] (pending_above v older ++ w ∷ []) (λ (l : List Update). l ≡ u ∷ rest → pending_above u.version.0 (w ∷ older) ≡ rest)
    (λ t e. absurd cc)
    (λ f e. by (λ p ps. after_first b v older p ps d.1) (pending_above v older) refl e)
  where
    by : ((p : Update) (ps : List Update) → pending_above v older ≡ p ∷ ps → pending_above p.version.0 older ≡ ps)
        → (ps : List Update) → pending_above v older ≡ ps → ps ++ w ∷ [] ≡ u ∷ rest → pending_above u.version.0 (w ∷ older) ≡ rest
    by more [] q e =
        let same : w ≡ u = cc in
        let none : [] ≡ rest = cc in
        let v_same = ap (λ (x : Update). x.version.0) same in
        cond-true (nat_le w.version.0 u.version.0) _ _ (le-leb w.version.0 u.version.0 (omega (arith, v_same))) ∙ none
    by more (p ∷ ps) q e =
        let same : p ≡ u = cc in
        let others : ps ++ w ∷ [] ≡ rest = cc in
        let all : AllByRecursion (λ (x : Update). Stands b older x.version.0 × (x.version.0 ≤ top_above b older))
        (p ∷ ps) = subst (AllByRecursion (λ (x : Update). Stands b older x.version.0 × (x.version.0 ≤ top_above b older))) q
        (all-pending (λ (x : Update). Stands b older x.version.0 × (x.version.0 ≤ top_above b older)) v older (all-stand b older d.1)) in
        let low = all.0.1 in
        let high = d.0 in
        let first : pending_above p.version.0 older ≡ ps = more p ps q in
        subst (λ (x : Update). pending_above x.version.0 (w ∷ older) ≡ rest) same
        (cond-false (nat_le w.version.0 p.version.0) _ _ (lt-leb w.version.0 p.version.0 (omega (arith, low, high)))
        ∙ ap (λ (l : List Update). l ++ w ∷ []) first ∙ others)

-- commits leave the others
pub commits_left : (b : ℕ) (acked : List ℕ) (us : List Update) (s : KeyState) → Descends b s.accepted
    → pending_of s ≡ us → pending_of (moved_all (commits acked us) s) ≡ drop (length (commits acked us)) us
commits_left b acked [] s d e = e
commits_left b acked (u ∷ rest) s d e = by (list_any (λ v. v == u.version.0) acked)
    (commits_left b acked rest (moved (Commit u) s) d (after_first b s.floor s.accepted u rest d e))
  where
    by : (t : Bool) → pending_of (moved_all (commits acked rest) (moved (Commit u) s)) ≡ drop (length (commits acked rest)) rest
        → pending_of (moved_all (provided t (Commit u ∷ commits acked rest)) s) ≡ drop (length (provided t (Commit u ∷ commits acked rest))) (u ∷ rest)
    by true more = more
    by false more = e

-- as many are committed as have one of these versions
pub ended_is : (tail_versions : List Version) (acked : List ℕ)
    → ((v : Version) → list_any (λ w. w == v.0) acked ≡ settles [] tail_versions v) → (us : List Update)
    → ended_count tail_versions us ≡ length (commits acked us)
ended_is tail_versions acked same [] = refl
ended_is tail_versions acked same (u ∷ us) = by (list_any (λ (e : Version). e.0 == u.version.0) tail_versions)
    (list_any (λ w. w == u.version.0) acked) (same u.version) (ended_is tail_versions acked same us)
  where
    by : (p q : Bool) → q ≡ (p || false) → ended_count tail_versions us ≡ length (commits acked us)
        → cond p (1 + ended_count tail_versions us) 0 ≡ length (provided q (Commit u ∷ commits acked us))
    by true true e more = one-add (ended_count tail_versions us) ∙ ap suc more
    by true false e more = absurd (false≢true e)
    by false true e more = absurd (false≢true (sym e))
    by false false e more = refl

pub ended_within : (tail_versions : List Version) (us : List Update) → ended_count tail_versions us ≤ length us
ended_within tail_versions [] = omega arith
ended_within tail_versions (u ∷ us) = by (list_any (λ (e : Version). e.0 == u.version.0) tail_versions) (ended_within tail_versions us)
  where
    by : (p : Bool) → ended_count tail_versions us ≤ length us → cond p (1 + ended_count tail_versions us) 0 ≤ suc (length us)
    by true l = omega (arith, l)
    by false l = omega arith

-- a version more of those that ended
pub one_ended : (tail_versions : List Version) (us : List Update) (i : ℕ) (u : Update) → slice_get us i ≡ Some u
    → list_any (λ (e : Version). e.0 == u.version.0) tail_versions ≡ true
    → ended_count tail_versions us ≡ i + ended_count tail_versions (drop i us)
    → ended_count tail_versions us ≡ i + 1 + ended_count tail_versions (drop (i + 1) us)
one_ended tail_versions us i u at t e =
    let rest = ended_count tail_versions (drop (i + 1) us) in
    let more : ended_count tail_versions (drop i us) ≡ 1 + rest = ap (ended_count tail_versions) (drop_at us i u at) ∙ ap (λ b. cond b (1 + rest) 0) t in
    omega (arith, e, more)

-- and where one doesn't, or there is none
pub none_ended : (tail_versions : List Version) (us : List Update) (i : ℕ) (u : Update) → slice_get us i ≡ Some u
    → list_any (λ (e : Version). e.0 == u.version.0) tail_versions ≡ false
    → ended_count tail_versions us ≡ i + ended_count tail_versions (drop i us) → i ≡ ended_count tail_versions us
none_ended tail_versions us i u at t e =
    let none : ended_count tail_versions (drop i us) ≡ 0 =
    ap (ended_count tail_versions) (drop_at us i u at)
    ∙ ap (λ b. cond b (1 + ended_count tail_versions (drop (i + 1) us)) 0) t in
    omega (arith, e, none)

pub all_ended : (tail_versions : List Version) (us : List Update) (i n : ℕ) → n ≡ length us → n ≤ i → i ≤ n
    → ended_count tail_versions us ≡ i + ended_count tail_versions (drop i us) → n ≡ ended_count tail_versions us
all_ended tail_versions us i n count past within e =
    let none : ended_count tail_versions (drop i us) ≡ 0 = ap (ended_count tail_versions) (drop_all i us (omega (arith, count, past))) in
    omega (arith, e, none, past, within)
