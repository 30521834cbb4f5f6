-- Moves of a slot: versions of what it has accepted descend to its base, and its floor is never below the base.
use Rattle.hx_law_lemmas.proofs.Lemmas.Vocabulary.{[], accepting, Acknowledge, acknowledged, All, arith, Bool, Commit, commits, cond_both, eqb, eqb-true, false}
use Rattle.hx_law_lemmas.proofs.Lemmas.Vocabulary.{false≢true, filter, find, follows, Forget, Hold, inl, inr, is_end, is_pending, IsIn, KeyState, leb}
use Rattle.hx_law_lemmas.proofs.Lemmas.Vocabulary.{leb-false, length, List, list_any, map, Move, moved, moved_all, next_at, None, not, offered, offered_all}
use Rattle.hx_law_lemmas.proofs.Lemmas.Vocabulary.{Option, option_map, pending_of, Place, place_in, provided, refl, RegionId, resumed, same_region, settled}
use Rattle.hx_law_lemmas.proofs.Lemmas.Vocabulary.{SlotContext, Some, subst, suc, tail_acks, Take, taken, top_above, top_of, true, turns, Update, waits_below}
use Rattle.hx_law_lemmas.proofs.Lemmas.Vocabulary.{when_some, with_commits, zero, ℕ, ⊤, ◌++◌, ◌<◌, ◌∷◌, ◌≡◌, ◌≤◌}
use Rattle.hx_law_lemmas.proofs.Lemmas.{all-in, in-find, when_some_both, pending-in, AllKnownInLine as AllKnown, HeldInLine as Held}
use Rattle.hx_law_lemmas.proofs.Lemmas.{held-moved_all-in_line as held-moved_all, known-append-in_line as known-append, offered-known-in_line as offered-known}

-- each version is above the older ones, and the oldest above a base
abbrev pub Descends : ℕ → List Update → Type 0
Descends b [] = ⊤
Descends b (u ∷ older) = (top_above b older < u.version.0) × Descends b older

-- the versions of a slot descend, and its floor isn't below its base
pub record IsOrdered (t : KeyState) : Type 0 where
  pub descends : Descends t.base.floor.0 t.accepted
  pub floor : t.base.floor.0 ≤ t.floor

-- a move that leaves a slot in order
abbrev pub Rises : KeyState → Move → Type 0
Rises t (Take u) = top_of t < u.version.0
Rises t (Hold u) = ⊤
Rises t (Acknowledge v) = ⊤
Rises t (Commit u) = t.base.floor.0 ≤ u.version.0
Rises t Forget = ⊤

-- each move after those before it
abbrev pub AllRise : KeyState → List Move → Type 0
AllRise t [] = ⊤
AllRise t (m ∷ ms) = Rises t m × AllRise (moved m t) ms

-- such a move leaves a slot in order
ordered-moved : (m : Move) (t : KeyState) → IsOrdered t → Rises t m → IsOrdered (moved m t)
ordered-moved (Take u) t h r = record { descends = (r, h.descends); floor = h.floor }
ordered-moved (Hold u) t h r = record { descends = h.descends; floor = h.floor }
ordered-moved (Acknowledge v) t h r = record { descends = h.descends; floor = h.floor }
ordered-moved (Commit u) t h r = record { descends = h.descends; floor = r }
ordered-moved Forget t h r = record { descends = h.descends; floor = h.floor }

-- such moves leave a slot in order
pub ordered-moved_all : (ms : List Move) (t : KeyState) → IsOrdered t → AllRise t ms → IsOrdered (moved_all ms t)
ordered-moved_all [] t h r = h
ordered-moved_all (m ∷ ms) t h r = ordered-moved_all ms (moved m t) (ordered-moved m t h r.0) r.1

-- such moves one after another
pub rise-append : (ms ns : List Move) (t : KeyState) → AllRise t ms → AllRise (moved_all ms t) ns → AllRise t (ms ++ ns)
rise-append [] ns t a b = b
rise-append (m ∷ ms) ns t a b = (a.0, rise-append ms ns (moved m t) a.1 b)

-- every place of the update comes after a lower version
abbrev pub IsAfter : Update → Type 0
IsAfter u = All (λ (p : Place). p.after.0 < u.version.0) u.places

-- a place that is found stands in the list
pub place-in : (g : RegionId) (ps : List Place) (p : Place) → place_in g ps ≡ Some p → IsIn p ps
place-in g [] p = λ e. absurd (cc)
place-in g (x ∷ ps) p =
    cond_both (same_region x.region g) (Some x) (place_in g ps) (λ o. o ≡ Some p → IsIn p (x ∷ ps))
    (λ t e. let q : p ≡ x = cc in inl q)
    (λ t e. inr (place-in g ps p e))

-- an update follows on a lower version
follows-above : (g : RegionId) (v : ℕ) (u : Update) → IsAfter u → follows g v u ≡ true → v < u.version.0
follows-above g v u after = by (place_in g u.places) refl
  where
    by : (o : Option Place) → place_in g u.places ≡ o
        → when_some (option_map (λ (p : Place). p.after.0) o) false (λ after. eqb after v) ≡ true → v < u.version.0
    by None e f = absurd (false≢true f)
    by (Some p) e f =
        let q = eqb-true p.after.0 v f in
        let l : p.after.0 < u.version.0 = all-in (λ (x : Place). x.after.0 < u.version.0) u.places p after (place-in g u.places p e) in
        omega (arith, q, l)

-- what is found passes the test
find-passes : {A : Type 0} (test : A → Bool) (xs : List A) (p : A) → find test xs ≡ Some p → test p ≡ true
find-passes test [] p = λ e. absurd (cc)
find-passes test (x ∷ xs) p =
    cond_both (test x) (Some x) (find test xs) (λ o. o ≡ Some p → test p ≡ true)
    (λ t e. let q : x ≡ p = cc in subst (λ y. test y ≡ true) q t)
    (λ t e. find-passes test xs p e)

-- the early updates whose turn comes
turns-rise : (g : RegionId) (n top : ℕ) (early : List Update) (t : KeyState) → top_of t ≡ top
    → ((u : Update) → IsIn u early → IsAfter u) → AllRise t (turns g n top early)
turns-rise g zero top early t e f = tt
turns-rise g (suc n) top early t e f =
    when_some_both (find (follows g top) early) [] (λ (u : Update). Take u ∷ turns g n u.version.0 early) (AllRise t)
    (λ q. tt)
    (
    λ u q. (
      (let a = follows-above g top u (f u (in-find (follows g top) early u q)) (find-passes (follows g top) early u q) in omega (arith, a, e)),
      turns-rise g n u.version.0 early (moved (Take u) t) refl f,
    )
    )

-- an offered update
pub offered-rise : (g : RegionId) (t : KeyState) (u : Update) → ((w : Update) → IsIn w t.early → IsAfter w) → AllRise t (offered g t u)
offered-rise g t u f =
    cond_both (leb u.version.0 (top_of t)) [] _ (AllRise t) (λ e. tt)
    (
    λ e. cond_both (follows g (top_of t) u) (Take u ∷ turns g (length t.early) u.version.0 t.early) (Hold u ∷ []) (AllRise t)
    (λ b. (leb-false u.version.0 (top_of t) e, turns-rise g (length t.early) u.version.0 t.early (moved (Take u) t) refl f))
    (λ b. (tt, tt))
    )

-- marks of acknowledged updates
acknowledge-rise : (us : List Update) (t : KeyState) → AllRise t (map (λ (u : Update). Acknowledge u.version.0) us)
acknowledge-rise [] t = tt
acknowledge-rise (u ∷ us) t = (tt, acknowledge-rise us (moved (Acknowledge u.version.0) t))

-- marks of chains that end here
pub marks-rise : (context : SlotContext) (us : List Update) (t : KeyState) → AllRise t (tail_acks context us)
marks-rise context us t = acknowledge-rise (filter (λ (u : Update). is_end (next_at context u)) us) t

-- commits of versions that aren't below the base
commits-rise : (acked : List ℕ) (us : List Update) (t : KeyState) → ((u : Update) → IsIn u us → t.base.floor.0 ≤ u.version.0) → AllRise t (commits acked us)
commits-rise acked [] t f = tt
commits-rise acked (u ∷ us) t f =
    by (list_any (λ v. eqb v u.version.0) acked) (commits-rise acked us (moved (Commit u) t) (λ w i. f w (inr i)))
  where
    by : (b : Bool) → AllRise (moved (Commit u) t) (commits acked us) → AllRise t (provided b (Commit u ∷ commits acked us))
    by false r = tt
    by true r = (f u (inl refl), r)

-- what is settled
pub settled-rise : (t : KeyState) → IsOrdered t → AllRise t (settled t)
settled-rise t h = commits-rise t.acked (pending_of t) t (λ u i. let p = (pending-in t.floor t.accepted u i).1 in let f = h.floor in omega (arith, p, f))

-- moves with the commits that they bring
pub with_commits-rise : (ms : List Move) (t : KeyState) → IsOrdered t → AllRise t ms → AllRise t (with_commits t ms)
with_commits-rise ms t h r = rise-append ms (settled (moved_all ms t)) t r (settled-rise (moved_all ms t) (ordered-moved_all ms t h r))

-- newly taken updates with what they bring
pub accepting-rise : (context : SlotContext) (ms : List Move) (t : KeyState) → IsOrdered t → AllRise t ms → AllRise t (accepting context t ms)
accepting-rise context ms t h r = with_commits-rise (ms ++ tail_acks context (taken ms)) t h
    (rise-append ms (tail_acks context (taken ms)) t r (marks-rise context (taken ms) (moved_all ms t)))

-- an acknowledgement with what it brings
pub acknowledged-rise : (t : KeyState) (v : ℕ) → IsOrdered t → AllRise t (acknowledged t v)
acknowledged-rise t v h =
    by (is_pending v t) (not (waits_below t.acked v (pending_of t)))
  where
    by : (b c : Bool) → AllRise t (provided b (Acknowledge v ∷ provided c (settled (moved (Acknowledge v) t))))
    by false c = tt
    by true false = (tt, tt)
    by true true = (tt, settled-rise (moved (Acknowledge v) t) (ordered-moved (Acknowledge v) t h tt))

-- a slot that goes on in another configuration
pub resumed-rise : (context : SlotContext) (t : KeyState) → IsOrdered t → AllRise t (resumed context t)
resumed-rise context t h = with_commits-rise (Forget ∷ tail_acks context (pending_of t)) t h (tt, marks-rise context (pending_of t) (moved Forget t))

-- updates of a list that are offered one after another are known
pub offered_all-known : (line : List Update) (g : RegionId) (t : KeyState) (us : List Update) → Held line t
    → ((u : Update) → IsIn u us → IsIn u line) → AllKnown line (offered_all g t us)
offered_all-known line g t [] h f = λ m i. absurd i
offered_all-known line g t (u ∷ us) h f =
    let k = offered-known line g t u h (f u (inl refl)) in
    known-append line (offered g t u) (offered_all g (moved_all (offered g t u) t) us) k
    (offered_all-known line g (moved_all (offered g t u) t) us (held-moved_all line (offered g t u) t h k) (λ w i. f w (inr i)))

-- and leave the slot in order
pub offered_all-rise : (line : List Update) → ((u : Update) → IsIn u line → IsAfter u)
    → (g : RegionId) (t : KeyState) (us : List Update) → Held line t → ((u : Update) → IsIn u us → IsIn u line)
    → AllRise t (offered_all g t us)
offered_all-rise line after g t [] h f = tt
offered_all-rise line after g t (u ∷ us) h f =
    let k = offered-known line g t u h (f u (inl refl)) in
    rise-append (offered g t u) (offered_all g (moved_all (offered g t u) t) us) t (offered-rise g t u (λ w i. after w (h.early w i)))
    (offered_all-rise line after g (moved_all (offered g t u) t) us (held-moved_all line (offered g t u) t h k) (λ w i. f w (inr i)))
