-- The steps of a slot from the slot without its past: the same moves, posts and notes, and the same slot after them.
use Rattle.hx_law_folds.proofs.Vocabulary.{[], ack_step, adopted_state, ap, AreAlike, Bool, call_step, Caller, cond, cond-false, cond-true, cond_both, decide}
use Rattle.hx_law_folds.proofs.Vocabulary.{decided, Decision, filter, flat_map, folded, Forget, is_write, IsLater, IsSlotOf, key_region, KeyState, leads, leb}
use Rattle.hx_law_folds.proofs.Vocabulary.{List, map, Move, move_posts, moved, moved_all, None, object_in, Op, Option, passed_on, pending_of, Post, provided}
use Rattle.hx_law_folds.proofs.Vocabulary.{refl, resumed, resumed_posts, ShowSame, SlotContext, SlotStep, Some, StepFolds, stuck_among, stuck_of, StuckAt}
use Rattle.hx_law_folds.proofs.Vocabulary.{subst, sym, true, Update, update_step, ℕ, ◌++◌, ◌∙◌, ◌∷◌, ◌≡◌}
use Rattle.hx_types.specs.declared.outcomes.Decision.TheVariants as a_decision
use Rattle.hx_types.specs.declared.traces.Note.TheVariants as a_note
use Rattle.hx_model.specs.ServerSteps.{ack_to, by_moves, by_posts, doubt_in, doubts_from, get_answer, get_step, leader_doubts, prev_at, reply, waiting_doubt}
use Rattle.hx_model.specs.ServerSteps.{write_step}
use Rattle.hx_law_folds.proofs.Deciding.{IfAssigned, decide-later, decide-same}
use Rattle.hx_law_folds.proofs.Shown.{accepted-same, acknowledged-same, alike-folded, alike-show, resumed-same, stuck-same}
use Rattle.hx_law_folds.proofs.Moves.{ack-good, call-good, keeps-all, resumed-good, update-good}
use Rattle.hx_law_folds.proofs.Slots.{AllFit, alike-moved_all, fit-walk, slot-folded}

-- doubts read what is pending alone
abbrev doubts_by : SlotContext → List Update → Option StuckAt → List Post
doubts_by context pending None = []
doubts_by context pending (Some x) = map (λ (u : Update). doubt_in context u.caller u.version x.region)
    (filter (λ (u : Update). leb x.version.0 u.version.0) pending)

abbrev leader_doubts_by : SlotContext → List Update → List Post
leader_doubts_by context pending = provided (leads context.space context.config context.server context.region)
    (doubts_by context pending (stuck_among context.config pending))

doubts-by : (context : SlotContext) (x : KeyState) → leader_doubts context x ≡ leader_doubts_by context (pending_of x)
doubts-by context x =
    ap (provided (leads context.space context.config context.server context.region)) (by (stuck_of context.config x))
  where
    by : (o : Option StuckAt) → doubts_from context x o ≡ doubts_by context (pending_of x) o
    by None = refl
    by (Some y) = refl

-- the same step from two slots that are alike
module _ (context : SlotContext) (s t : KeyState) (h : IsSlotOf context.region s) (k : IsSlotOf context.region t) (e : AreAlike context.region s t) where
  pub shown : ShowSame context.region s t
  shown = alike-show context.region s t h k e

  -- an update
  abbrev update_by : ℕ → ℕ → Update → List Move → SlotStep
  update_by top floor u moves = cond (leb u.version.0 top)
      (by_posts (provided (leb u.version.0 floor) (ack_to context u (prev_at context u)))) (by_moves context moves)

  pub update-same : (u : Update) → IsLater context.region u → update_step context s u ≡ update_step context t u
  update-same u l = let a = shown in let moves = accepted-same context.region context s t h k e u l in λ j. update_by (a.top j) (a.floor j) u (moves j)

  -- an acknowledgement
  pub acked-same : (v : ℕ) → ack_step context s v ≡ ack_step context t v
  acked-same v = ap (by_moves context) (acknowledged-same context.region s t h k e v)

  -- a get
  pub get-same : (caller : Caller) → get_step context s caller ≡ get_step context t caller
  get-same caller = let a = shown in λ j. by_posts (reply context caller (record { 0 = a.floor j }) (get_answer (object_in (a.object j))) ∷ [])

  -- a write, by the decision
  pub decided-same : (caller : Caller) (d : Decision) → IfAssigned (IsLater context.region) d → decided context s caller d ≡ decided context t caller d
  decided-same caller a_decision.Old l = refl
  decided-same caller (a_decision.Again v answer) l = refl
  decided-same caller (a_decision.Wait v) l = ap (λ (x : Option StuckAt). by_posts (waiting_doubt context caller v x))
      (stuck-same context.region s t shown context.config)
  decided-same caller (a_decision.Stuck g) l = refl
  decided-same caller (a_decision.Assign u) l = ap
      (λ (moves : List Move). record (by_moves context moves) { notes = a_note.Assigned u ∷ [] })
      (accepted-same context.region context s t h k e u l)

  pub write-same : s.marks ≡ true → context.region ≡ key_region context.space s.base.key → (caller : Caller) (op : Op)
      → write_step context s caller op ≡ write_step context t caller op
  write-same m q caller op =
      decided-same caller (decide context.space context.config context.region s caller op)
      (decide-later context.space context.config context.region s q caller op)
      ∙ ap (decided context t caller) (decide-same context.space context.config context.region s t m shown caller op)

  pub call-same : s.marks ≡ true → context.region ≡ key_region context.space s.base.key → (caller : Caller) (op : Op)
      → call_step context s caller op ≡ call_step context t caller op
  call-same m q caller op = λ j. cond (is_write op) (write-same m q caller op j) (get-same caller j)

  resumed-alike : AreAlike context.region (moved_all (resumed context s) s) (moved_all (resumed context t) t)
  resumed-alike =
      let same = resumed-same context.region context s t h k e in
      alike-moved_all context.region (resumed context s) s t e (resumed-good (fit-walk context.region) context s h)
      (subst (AllFit context.region t) (sym same) (resumed-good (fit-walk context.region) context t k))
      ∙ ap (λ (ms : List Move). folded context.region (moved_all ms t)) same

  pub resumed-posts-same : resumed_posts context s ≡ resumed_posts context t
  resumed-posts-same =
      let a = shown in
      let moves = resumed-same context.region context s t h k e in
      let after = alike-show context.region (moved_all (resumed context s) s) (moved_all (resumed context t) t)
      (keeps-all (fit-walk context.region) (resumed context s) s h
      (resumed-good (fit-walk context.region) context s h))
      (keeps-all (fit-walk context.region) (resumed context t) t k
      (resumed-good (fit-walk context.region) context t k)) resumed-alike in
      let doubts = doubts-by context (moved_all (resumed context s) s) ∙ ap (leader_doubts_by context) after.pending
      ∙ sym (doubts-by context (moved_all (resumed context t) t)) in
      λ j. flat_map (passed_on context) (a.pending j) ++ flat_map (move_posts context) (moves j) ++ doubts j

  -- a slot when a configuration is adopted
  pub adopted-alike : (active : Bool) → AreAlike context.region (adopted_state context active s) (adopted_state context active t)
  adopted-alike active =
      cond_both active (moved_all (resumed context s) s) (moved Forget s) (λ (x : KeyState). AreAlike context.region x (adopted_state context active t))
      (λ b. resumed-alike ∙ ap (folded context.region) (sym (cond-true active _ _ b)))
      (λ b. alike-moved_all context.region (Forget ∷ []) s t e (tt, tt) (tt, tt) ∙ ap (folded context.region) (sym (cond-false active _ _ b)))

  -- a step that is the same, with moves that are allowed, leaves slots that are alike
  pub step-alike : (x y : SlotStep) → x ≡ y → AllFit context.region s x.moves → AllFit context.region t y.moves
      → AreAlike context.region (moved_all x.moves s) (moved_all y.moves t)
  step-alike x y q a b =
      alike-moved_all context.region x.moves s t e a (subst (λ (z : SlotStep). AllFit context.region t z.moves) (sym q) b)
      ∙ ap (λ (z : SlotStep). folded context.region (moved_all z.moves t)) q

-- the moves of the steps are allowed
module _ (context : SlotContext) (s : KeyState) (h : IsSlotOf context.region s) where
  pub update-fit : (u : Update) → IsLater context.region u → AllFit context.region s (update_step context s u).moves
  update-fit u l = update-good context (fit-walk context.region) s h u l

  pub ack-fit : (v : ℕ) → AllFit context.region s (ack_step context s v).moves
  ack-fit v = ack-good context (fit-walk context.region) s h v

  pub call-fit : context.region ≡ key_region context.space s.base.key → (caller : Caller) (op : Op)
      → AllFit context.region s (call_step context s caller op).moves
  call-fit q caller op = call-good context (fit-walk context.region) s h caller op (decide-later context.space context.config context.region s q caller op)

  -- the folded slot makes the same step
  step-folds : (step : KeyState → SlotStep) → step (folded context.region s) ≡ step s
      → AllFit context.region (folded context.region s) (step (folded context.region s)).moves
      → AllFit context.region s (step s).moves
      → StepFolds context.region step s
  step-folds step q a b = record {
    same = q;
    after = step-alike context (folded context.region s) s (slot-folded context.region s h) h
        (alike-folded context.region s) (step (folded context.region s)) (step s) q a b;
    slot = keeps-all (fit-walk context.region) (step s).moves s h b;
  }

-- the steps of a slot and of the slot without its past
module _ (context : SlotContext) (s : KeyState) (h : IsSlotOf context.region s) where
  pub update-folds : (u : Update) → IsLater context.region u → StepFolds context.region (λ x. update_step context x u) s
  update-folds u l =
      let k = slot-folded context.region s h in
      step-folds context s h (λ x. update_step context x u)
      (update-same context (folded context.region s) s k h (alike-folded context.region s) u l)
      (update-fit context (folded context.region s) k u l) (update-fit context s h u l)

  pub ack-folds : (v : ℕ) → StepFolds context.region (λ x. ack_step context x v) s
  ack-folds v =
      let k = slot-folded context.region s h in
      step-folds context s h (λ x. ack_step context x v)
      (acked-same context (folded context.region s) s k h (alike-folded context.region s) v)
      (ack-fit context (folded context.region s) k v) (ack-fit context s h v)

  pub call-folds : s.marks ≡ true → context.region ≡ key_region context.space s.base.key → (caller : Caller) (op : Op)
      → StepFolds context.region (λ x. call_step context x caller op) s
  call-folds m q caller op =
      let k = slot-folded context.region s h in
      step-folds context s h (λ x. call_step context x caller op)
      (call-same context (folded context.region s) s k h (alike-folded context.region s) m q caller op)
      (call-fit context (folded context.region s) k q caller op) (call-fit context s h q caller op)

  -- a configuration is adopted
  pub resumed-posts-fold : resumed_posts context (folded context.region s) ≡ resumed_posts context s
  resumed-posts-fold = resumed-posts-same context (folded context.region s) s (slot-folded context.region s h) h (alike-folded context.region s)

  pub adopted-folds : (active : Bool) → folded context.region (adopted_state context active (folded context.region s))
      ≡ folded context.region (adopted_state context active s)
  adopted-folds active = adopted-alike context (folded context.region s) s (slot-folded context.region s h) h (alike-folded context.region s) active

  pub adopted-slot : (active : Bool) → IsSlotOf context.region (adopted_state context active s)
  adopted-slot active =
      cond_both active (moved_all (resumed context s) s) (moved Forget s) (IsSlotOf context.region)
      (λ b. keeps-all (fit-walk context.region) (resumed context s) s h (resumed-good (fit-walk context.region) context s h))
      (λ b. keeps-all (fit-walk context.region) (Forget ∷ []) s h (tt, tt))
