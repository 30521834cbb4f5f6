-- Slots that differ in their past alone show the same.
use Rattle.hx_law_folds.proofs.Vocabulary.{[], accepting, Acknowledge, acknowledged, ap, AreAlike, commits, cond, Config, eqb, folded, follows, Forget, Hold}
use Rattle.hx_law_folds.proofs.Vocabulary.{is_pending, IsLater, IsSlotOf, KeyState, latest_of, leb, length, List, list_any, mark_of, Move, moved, moved_all}
use Rattle.hx_law_folds.proofs.Vocabulary.{not, object_of, offered, pending_of, provided, RegionId, resumed, settled, ShowSame, SlotContext, stuck_among}
use Rattle.hx_law_folds.proofs.Vocabulary.{stuck_of, subst, sym, tail_acks, Take, taken, top_of, touches_of, turns, Update, waits_below, with_commits, ℕ, ◌++◌}
use Rattle.hx_law_folds.proofs.Vocabulary.{◌∙◌, ◌∷◌, ◌≡◌}
use Rattle.hx_types.specs.declared.outcomes.Acked.TheVariants as an_ack
use Rattle.hx_types.specs.declared.outcomes.Offer.TheVariants.{Accepted, Known, Early}
use Rattle.hx_model.specs.Slots.{ack_answer, offer_answer}
use Rattle.hx_law_folds.proofs.Folds.{folded-twice, latest-folded, mark-folded, object-folded, pending-folded, top-folded, touches-folded}
use Rattle.hx_law_folds.proofs.Moves.{good-append, keeps-all, offered-good, tail_acks-good}
use Rattle.hx_law_folds.proofs.Slots.{AllFit, Fits, alike-moved_all, fit-walk}

module _ (g : RegionId) where
  -- slots that are alike show the same
  pub alike-show : (s t : KeyState) → IsSlotOf g s → IsSlotOf g t → AreAlike g s t → ShowSame g s t
  alike-show s t h k e =
      let marks = ap (λ (x : KeyState). x.marks) e in
      record {
        key = ap (λ (x : KeyState). x.base.key) e;
        keeps = marks;
        floor = ap (λ (x : KeyState). x.floor) e;
        acked = ap (λ (x : KeyState). x.acked) e;
        early = ap (λ (x : KeyState). x.early) e;
        top = sym (top-folded g s h.floor) ∙ ap top_of e ∙ top-folded g t k.floor;
        object = sym (object-folded g s) ∙ ap (object_of g) e ∙ object-folded g t;
        latest = sym (latest-folded g s) ∙ ap (latest_of g) e ∙ latest-folded g t;
        pending = sym (pending-folded g s) ∙ ap pending_of e ∙ pending-folded g t;
        kept = ap (λ (x : KeyState). x.base) e;
        mark = λ m session. sym (mark-folded g s m session) ∙ ap (mark_of session) e ∙ mark-folded g t (sym marks ∙ m) session;
        touches = λ m. sym (touches-folded g s m) ∙ ap touches_of e ∙ touches-folded g t (sym marks ∙ m);
      }

  -- the folded slot is alike
  pub alike-folded : (s : KeyState) → AreAlike g (folded g s) s
  alike-folded s = folded-twice g s

  -- an offer's moves
  abbrev offered_by : ℕ → List Update → Update → List Move
  offered_by top early u = cond (leb u.version.0 top) [] (cond (follows g top u) (Take u ∷ turns g (length early) u.version.0 early) (Hold u ∷ []))

  pub offered-same : (s t : KeyState) → ShowSame g s t → (u : Update) → offered g s u ≡ offered g t u
  offered-same s t a u = λ j. offered_by (a.top j) (a.early j) u

  pub offer-same : (s t : KeyState) → ShowSame g s t → (u : Update) → offer_answer g s u ≡ offer_answer g t u
  offer-same s t a u = λ j. cond (leb u.version.0 (a.top j)) Known (cond (follows g (a.top j) u) (Accepted (length (taken (offered-same s t a u j)))) Early)

  pub settled-same : (s t : KeyState) → ShowSame g s t → settled s ≡ settled t
  settled-same s t a = λ j. commits (a.acked j) (a.pending j)

  pub is_pending-same : (s t : KeyState) → ShowSame g s t → (v : ℕ) → is_pending v s ≡ is_pending v t
  is_pending-same s t a v = ap (list_any (λ (u : Update). eqb u.version.0 v)) a.pending

  pub stuck-same : (s t : KeyState) → ShowSame g s t → (config : Config) → stuck_of config s ≡ stuck_of config t
  stuck-same s t a config = ap (stuck_among config) a.pending

  -- slots that are alike after moves that are allowed
  pub show-moved : (s t : KeyState) → IsSlotOf g s → IsSlotOf g t → AreAlike g s t → (ms : List Move) → AllFit g s ms
      → AllFit g t ms → ShowSame g (moved_all ms s) (moved_all ms t)
  show-moved s t h k e ms a b = alike-show (moved_all ms s) (moved_all ms t) (keeps-all (fit-walk g) ms s h a)
      (keeps-all (fit-walk g) ms t k b) (alike-moved_all g ms s t e a b)

  pub acknowledged-settled : (s t : KeyState) → IsSlotOf g s → IsSlotOf g t → AreAlike g s t → (v : ℕ)
      → settled (moved (Acknowledge v) s) ≡ settled (moved (Acknowledge v) t)
  acknowledged-settled s t h k e v = settled-same (moved (Acknowledge v) s) (moved (Acknowledge v) t)
      (show-moved s t h k e (Acknowledge v ∷ []) (tt, tt) (tt, tt))

  pub waits-same : (s t : KeyState) → ShowSame g s t → (v : ℕ) → waits_below s.acked v (pending_of s) ≡ waits_below t.acked v (pending_of t)
  waits-same s t a v = λ j. waits_below (a.acked j) v (a.pending j)

  pub acknowledged-same : (s t : KeyState) → IsSlotOf g s → IsSlotOf g t → AreAlike g s t → (v : ℕ) → acknowledged s v ≡ acknowledged t v
  acknowledged-same s t h k e v = λ j.
      provided (is_pending-same s t (alike-show s t h k e) v j)
      (Acknowledge v ∷ provided (not (waits-same s t (alike-show s t h k e) v j)) (acknowledged-settled s t h k e v j))

  pub ack-same : (s t : KeyState) → IsSlotOf g s → IsSlotOf g t → AreAlike g s t → (v : ℕ) → ack_answer s v ≡ ack_answer t v
  ack-same s t h k e v =
      let pending = is_pending-same s t (alike-show s t h k e) v in
      let waits = waits-same s t (alike-show s t h k e) v in
      let moves = acknowledged-settled s t h k e v in
      λ j. cond (not (pending j)) an_ack.Unknown (cond (waits j) an_ack.Kept (an_ack.Committed (length (moves j))))

  pub with_commits-same : (s t : KeyState) → IsSlotOf g s → IsSlotOf g t → AreAlike g s t → (ms : List Move)
      → AllFit g s ms → AllFit g t ms → with_commits s ms ≡ with_commits t ms
  with_commits-same s t h k e ms a b = ap (λ (ns : List Move). ms ++ ns) (settled-same (moved_all ms s) (moved_all ms t) (show-moved s t h k e ms a b))

  pub accepting-same : (context : SlotContext) (s t : KeyState) → IsSlotOf g s → IsSlotOf g t → AreAlike g s t
      → (ms : List Move) → AllFit g s ms → AllFit g t ms → accepting context s ms ≡ accepting context t ms
  accepting-same context s t h k e ms a b =
      let more = λ (x : KeyState) (f : AllFit g x ms). good-append (Fits g) ms (tail_acks context (taken ms)) x f
      (tail_acks-good (fit-walk g) context (taken ms) (moved_all ms x)) in
      with_commits-same s t h k e (ms ++ tail_acks context (taken ms)) (more s a) (more t b)

  -- what an update that is offered brings
  pub accepted-same : (context : SlotContext) (s t : KeyState) → IsSlotOf g s → IsSlotOf g t → AreAlike g s t
      → (u : Update) → IsLater g u → accepting context s (offered g s u) ≡ accepting context t (offered g t u)
  accepted-same context s t h k e u l =
      let same = offered-same s t (alike-show s t h k e) u in
      accepting-same context s t h k e (offered g s u) (offered-good (fit-walk g) s u h l)
      (subst (AllFit g t) (sym same) (offered-good (fit-walk g) t u k l)) ∙ ap (accepting context t) same

  -- what goes on in a new configuration
  pub resumed-same : (context : SlotContext) (s t : KeyState) → IsSlotOf g s → IsSlotOf g t → AreAlike g s t → resumed context s ≡ resumed context t
  resumed-same context s t h k e =
      let ms = Forget ∷ tail_acks context (pending_of s) in
      with_commits-same s t h k e ms (tt, tail_acks-good (fit-walk g) context (pending_of s) (moved Forget s))
      (tt, tail_acks-good (fit-walk g) context (pending_of s) (moved Forget t))
      ∙ ap (λ (us : List Update). with_commits t (Forget ∷ tail_acks context us)) (alike-show s t h k e).pending
