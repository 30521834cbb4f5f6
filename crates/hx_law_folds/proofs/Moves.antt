-- The moves of a slot's steps, walked once: what holds of each kind of move holds of all moves of each step.
use Rattle.hx_law_folds.proofs.Vocabulary.{[], accepting, ack_step, Acknowledge, acknowledged, AllByRecursion, ap, Bool, call_step, Caller, cond_both, decide}
use Rattle.hx_law_folds.proofs.Vocabulary.{decided, Decision, false, filter, find, follows, Forget, Hold, is_pending, is_write, KeyState, leb, length, List}
use Rattle.hx_law_folds.proofs.Vocabulary.{map, Move, moved, moved_all, not, offered, offered_all, Op, pending_of, provided, refl, RegionId, resumed, settled}
use Rattle.hx_law_folds.proofs.Vocabulary.{SlotContext, SlotStep, suc, tail_acks, Take, taken, top_of, true, turns, Update, update_step, waits_below}
use Rattle.hx_law_folds.proofs.Vocabulary.{with_commits, zero, ℕ, ⊤, ◌++◌, ◌∙◌, ◌∷◌, ◌≡◌}
use Rattle.hx_types.specs.declared.outcomes.Decision.TheVariants as a_decision
use Rattle.hx_model.specs.Neighbours.{is_end}
use Rattle.hx_model.specs.ServerSteps.{next_at}
use Rattle.hx_law_folds.proofs.Lists.{all-find, when_some_both}
use Rattle.hx_law_folds.proofs.Deciding.{IfAssigned}

-- it holds of each move, in the slot that the moves before it leave
abbrev pub AllGood : (KeyState → Move → Type 0) → KeyState → List Move → Type 0
AllGood Good s [] = ⊤
AllGood Good s (m ∷ ms) = Good s m × AllGood Good (moved m s) ms

-- moves one after another
pub good-append : (Good : KeyState → Move → Type 0) (ms ns : List Move) (s : KeyState) → AllGood Good s ms → AllGood Good (moved_all ms s) ns
    → AllGood Good s (ms ++ ns)
good-append Good [] ns s a b = b
good-append Good (m ∷ ms) ns s a b = (a.0, good-append Good ms ns (moved m s) a.1 b)

-- what is asked of the kinds of moves, where such moves keep a slot as it is to be and such updates are offered
pub record Walk (g : RegionId) (Good : KeyState → Move → Type 0) (Slot : KeyState → Type 0) (Offer : Update → Type 0) : Type 0 where
  pub keeps : (m : Move) (s : KeyState) → Slot s → Good s m → Slot (moved m s)
  pub early : (s : KeyState) → Slot s → AllByRecursion Offer s.early
  pub takes : (u : Update) (s : KeyState) → Offer u → follows g (top_of s) u ≡ true → Good s (Take u)
  pub holds : (u : Update) (s : KeyState) → Offer u → Good s (Hold u)
  pub marks : (v : ℕ) (s : KeyState) → Good s (Acknowledge v)
  pub settles : (s : KeyState) → Slot s → AllGood Good s (settled s)
  pub forgets : (s : KeyState) → Good s Forget

module _ {g : RegionId} {Good : KeyState → Move → Type 0} {Slot : KeyState → Type 0} {Offer : Update → Type 0} (w : Walk g Good Slot Offer) where
  -- the slot stays as it is to be
  pub keeps-all : (ms : List Move) (s : KeyState) → Slot s → AllGood Good s ms → Slot (moved_all ms s)
  keeps-all [] s h f = h
  keeps-all (m ∷ ms) s h f = keeps-all ms (moved m s) (w.keeps m s h f.0) f.1

  -- the early updates whose turn comes
  turns-good : (n top : ℕ) (early : List Update) (s : KeyState) → top_of s ≡ top → AllByRecursion Offer early → AllGood Good s (turns g n top early)
  turns-good zero top early s e h = tt
  turns-good (suc n) top early s e h =
      when_some_both (find (follows g top) early) [] (λ (u : Update). Take u ∷ turns g n u.version.0 early) (AllGood Good s)
      (λ q. tt)
      (λ u q. let f = all-find Offer (follows g top) early u h q in
      (w.takes u s f.0 (ap (λ v. follows g v u) e ∙ f.1), turns-good n u.version.0 early (moved (Take u) s) refl h))

  -- an offered update
  pub offered-good : (s : KeyState) (u : Update) → Slot s → Offer u → AllGood Good s (offered g s u)
  offered-good s u h o =
      cond_both (leb u.version.0 (top_of s)) [] _ (AllGood Good s) (λ e. tt)
      (
      λ e. cond_both (follows g (top_of s) u) (Take u ∷ turns g (length s.early) u.version.0 s.early) (Hold u ∷ []) (AllGood Good s)
      (λ b. (w.takes u s o b, turns-good (length s.early) u.version.0 s.early (moved (Take u) s) refl (w.early s h)))
      (λ b. (w.holds u s o, tt))
      )

  -- updates offered one after another
  pub offered_all-good : (s : KeyState) (us : List Update) → Slot s → AllByRecursion Offer us → AllGood Good s (offered_all g s us)
  offered_all-good s [] h o = tt
  offered_all-good s (u ∷ us) h o =
      let f = offered-good s u h o.0 in
      good-append Good (offered g s u) (offered_all g (moved_all (offered g s u) s) us) s f
      (offered_all-good (moved_all (offered g s u) s) us (keeps-all (offered g s u) s h f) o.1)

  -- marks of acknowledged updates
  pub tail_acks-good : (context : SlotContext) (us : List Update) (s : KeyState) → AllGood Good s (tail_acks context us)
  tail_acks-good context us = by (filter (λ (u : Update). is_end (next_at context u)) us)
    where
      by : (us : List Update) (s : KeyState) → AllGood Good s (map (λ (u : Update). Acknowledge u.version.0) us)
      by [] s = tt
      by (u ∷ us) s = (w.marks u.version.0 s, by us (moved (Acknowledge u.version.0) s))

  -- moves with the commits that they bring
  with_commits-good : (ms : List Move) (s : KeyState) → Slot s → AllGood Good s ms → AllGood Good s (with_commits s ms)
  with_commits-good ms s h f = good-append Good ms (settled (moved_all ms s)) s f (w.settles (moved_all ms s) (keeps-all ms s h f))

  -- newly taken updates, an acknowledgement, and a slot that goes on, with what they bring
  pub accepting-good : (context : SlotContext) (ms : List Move) (s : KeyState) → Slot s → AllGood Good s ms → AllGood Good s (accepting context s ms)
  accepting-good context ms s h f =
      with_commits-good (ms ++ tail_acks context (taken ms)) s h
      (good-append Good ms (tail_acks context (taken ms)) s f (tail_acks-good context (taken ms) (moved_all ms s)))

  pub acknowledged-good : (s : KeyState) (v : ℕ) → Slot s → AllGood Good s (acknowledged s v)
  acknowledged-good s v h =
      by (is_pending v s) (not (waits_below s.acked v (pending_of s)))
    where
      by : (b c : Bool) → AllGood Good s (provided b (Acknowledge v ∷ provided c (settled (moved (Acknowledge v) s))))
      by false c = tt
      by true false = (w.marks v s, tt)
      by true true = (w.marks v s, w.settles (moved (Acknowledge v) s) (w.keeps (Acknowledge v) s h (w.marks v s)))

  pub resumed-good : (context : SlotContext) (s : KeyState) → Slot s → AllGood Good s (resumed context s)
  resumed-good context s h = with_commits-good (Forget ∷ tail_acks context (pending_of s)) s h
      (w.forgets s, tail_acks-good context (pending_of s) (moved Forget s))

module _ {Good : KeyState → Move → Type 0} {Slot : KeyState → Type 0} {Offer : Update → Type 0} (context : SlotContext)
    (w : Walk context.region Good Slot Offer) (s : KeyState) (h : Slot s) where
  -- the steps of a slot: an update, an acknowledgement, a call, and updates that a joiner takes
  pub joined-good : (us : List Update) → AllByRecursion Offer us → AllGood Good s (accepting context s (offered_all context.region s us))
  joined-good us o = accepting-good w context (offered_all context.region s us) s h (offered_all-good w s us h o)

  accepted-good : (u : Update) → Offer u → AllGood Good s (accepting context s (offered context.region s u))
  accepted-good u o = accepting-good w context (offered context.region s u) s h (offered-good w s u h o)

  pub update-good : (u : Update) → Offer u → AllGood Good s (update_step context s u).moves
  update-good u o = cond_both (leb u.version.0 (top_of s)) _ _ (λ (x : SlotStep). AllGood Good s x.moves) (λ e. tt) (λ e. accepted-good u o)

  pub ack-good : (v : ℕ) → AllGood Good s (ack_step context s v).moves
  ack-good v = acknowledged-good w s v h

  pub call-good : (caller : Caller) (op : Op) → IfAssigned Offer (decide context.space context.config context.region s caller op)
      → AllGood Good s (call_step context s caller op).moves
  call-good caller op o =
      cond_both (is_write op) _ _ (λ (x : SlotStep). AllGood Good s x.moves)
      (λ e. by (decide context.space context.config context.region s caller op) o) (λ e. tt)
    where
      by : (d : Decision) → IfAssigned Offer d → AllGood Good s (decided context s caller d).moves
      by (a_decision.Assign u) o = accepted-good u o
      by other o = tt
