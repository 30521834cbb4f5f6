-- Slots of updates of their own keys, in order and in turn: the steps of a slot keep them so, and such slots can be sent to a joiner.
use Rattle.hx_law_folds.proofs.Vocabulary.{[], accepting, ack_step, adopted_state, AllByRecursion, ap, arith, base-moved_all, Bool, call_step, Caller, CanJoin}
use Rattle.hx_law_folds.proofs.Vocabulary.{Commit, commits, cond, cond-false, cond_both, Descends, eqb, false, follows, Forget, Hold, InTurn, IsAfter}
use Rattle.hx_law_folds.proofs.Vocabulary.{IsJoinable, IsLater, Kept, kept_of, kept_row, key_region, KeyState, leb, List, list_any, lt-leb, marks_after, Move}
use Rattle.hx_law_folds.proofs.Vocabulary.{moved, moved_all, new_state, no_kept, None, offered_all, Op, pending_of, provided, refl, RegionId, resumed}
use Rattle.hx_law_folds.proofs.Vocabulary.{same_text, same_text_self, SlotContext, state_from, state_of_kept, subst, sym, Take, top_of, touches_after, true}
use Rattle.hx_law_folds.proofs.Vocabulary.{Update, update_step, upto, ℕ, ⊤, ◌<◌, ◌∙◌, ◌∷◌, ◌≡◌}
use Rattle.hx_law_folds.proofs.Deciding.{decide-key, decide-later}
use Rattle.hx_law_folds.proofs.Prefixes.{base-floor, base-top}
use Rattle.hx_law_folds.proofs.Lists.{all-append, all-filter, all-weaker}
use Rattle.hx_law_folds.proofs.Moves.{AllGood, Walk, ack-good, call-good, joined-good, keeps-all, resumed-good, update-good}
use Rattle.hx_law_folds.proofs.Slots.{AllFit, fit-walk, later-of}
use Rattle.hx_law_folds.proofs.States.{marks-moved_all, provided-nothing}

abbrev OfKey : List ℕ → List Update → Type 0
OfKey key us = AllByRecursion (λ (u : Update). u.key ≡ key) us

-- moves of updates of a key, in turn
abbrev Goes : RegionId → List ℕ → KeyState → Move → Type 0
Goes g key s (Take u) = (follows g (top_of s) u ≡ true) × (u.key ≡ key)
Goes g key s (Hold u) = u.key ≡ key
Goes g key s other = ⊤

-- a slot whose updates are of a key, and came in turn
record IsOwn (g : RegionId) (key : List ℕ) (s : KeyState) : Type 0 where
  turns : InTurn g s.base.floor.0 s.accepted
  keys : OfKey key s.accepted
  early : OfKey key s.early

-- it stays so by such moves
own-moved : (g : RegionId) (key : List ℕ) (m : Move) (s : KeyState) → IsOwn g key s → Goes g key s m → IsOwn g key (moved m s)
own-moved g key (Take u) s h f = record { turns = (f.0, h.turns); keys = (f.1, h.keys); early = all-filter (λ (w : Update). w.key ≡ key) _ s.early h.early }
own-moved g key (Hold u) s h f =
    record {
      turns = h.turns;
      keys = h.keys;
      early =
          all-append (λ (w : Update). w.key ≡ key) _ (u ∷ []) (all-filter (λ (w : Update). w.key ≡ key) _ s.early h.early) (f, tt);
    }
own-moved g key Forget s h f = record { turns = h.turns; keys = h.keys; early = tt }
own-moved g key other s h f = record { turns = h.turns; keys = h.keys; early = h.early }

-- and all moves of each step are such
commits-go : (g : RegionId) (key acked : List ℕ) (us : List Update) (s : KeyState) → AllGood (Goes g key) s (commits acked us)
commits-go g key acked [] s = tt
commits-go g key acked (u ∷ us) s =
    by (list_any (λ v. eqb v u.version.0) acked) (commits-go g key acked us (moved (Commit u) s))
  where
    by : (b : Bool) → AllGood (Goes g key) (moved (Commit u) s) (commits acked us) → AllGood (Goes g key) s (provided b (Commit u ∷ commits acked us))
    by false r = tt
    by true r = (tt, r)

go-walk : (g : RegionId) (key : List ℕ) → Walk g (Goes g key) (IsOwn g key) (λ (u : Update). u.key ≡ key)
go-walk g key = record {
  keeps = own-moved g key;
  early = λ s h. h.early;
  takes = λ u s k f. (f, k);
  holds = λ u s k. k;
  marks = λ v s. tt;
  settles = λ s h. commits-go g key s.acked (pending_of s) s;
  forgets = λ s. tt;
}

-- what a slot that can be sent holds is of its key
own-of : (g : RegionId) (b : Bool) (s : KeyState) → IsJoinable g b s → IsOwn g s.base.key s
own-of g b s h = record { turns = h.turns; keys = h.keys; early = h.early_keys }

-- such moves in order and in turn keep a slot joinable
pub joinable-moved : (g : RegionId) (b : Bool) (ms : List Move) (s : KeyState) → IsJoinable g b s → AllFit g s ms → AllGood (Goes g s.base.key) s ms
    → IsJoinable g b (moved_all ms s)
joinable-moved g b ms s h f o =
    let own = keeps-all (go-walk g s.base.key) ms s (own-of g b s h) o in
    let base = base-moved_all ms s in
    record {
      slot = keeps-all (fit-walk g) ms s h.slot f;
      turns = own.turns;
      marks = marks-moved_all ms s ∙ h.marks;
      keys = subst (λ (k : Kept). OfKey k.key (moved_all ms s).accepted) (sym base) own.keys;
      early_keys = subst (λ (k : Kept). OfKey k.key (moved_all ms s).early) (sym base) own.early;
      empty = subst (λ (k : Kept). k.floor.0 ≡ 0 → k ≡ no_kept k.key) (sym base) h.empty;
    }

module _ (context : SlotContext) (b : Bool) (s : KeyState) (h : IsJoinable context.region b s) where
  abbrev g : RegionId
  g = context.region

  own : IsOwn g s.base.key s
  own = own-of g b s h

  pub update-joinable : (u : Update) → IsLater g u → u.key ≡ s.base.key → IsJoinable g b (moved_all (update_step context s u).moves s)
  update-joinable u l k = joinable-moved g b (update_step context s u).moves s h
      (update-good context (fit-walk g) s h.slot u l) (update-good context (go-walk g s.base.key) s own u k)

  pub ack-joinable : (v : ℕ) → IsJoinable g b (moved_all (ack_step context s v).moves s)
  ack-joinable v = joinable-moved g b (ack_step context s v).moves s h (ack-good context (fit-walk g) s h.slot v)
      (ack-good context (go-walk g s.base.key) s own v)

  pub call-joinable : g ≡ key_region context.space s.base.key → (caller : Caller) (op : Op) → IsJoinable g b (moved_all (call_step context s caller op).moves s)
  call-joinable q caller op =
      joinable-moved g b (call_step context s caller op).moves s h
      (call-good context (fit-walk g) s h.slot caller op (decide-later context.space context.config g s q caller op))
      (call-good context (go-walk g s.base.key) s own caller op (decide-key context.space context.config g s caller op))

  pub adopted-joinable : (active : Bool) → IsJoinable g b (adopted_state context active s)
  adopted-joinable active =
      cond_both active (moved_all (resumed context s) s) (moved Forget s) (IsJoinable g b)
      (λ e. joinable-moved g b (resumed context s) s h (resumed-good (fit-walk g) context s h.slot) (resumed-good (go-walk g s.base.key) context s own))
      (λ e. joinable-moved g b (Forget ∷ []) s h (tt, tt) (tt, tt))

  pub join-joinable : (us : List Update) → AllByRecursion IsAfter us → OfKey s.base.key us
      → IsJoinable g b (moved_all (accepting context s (offered_all g s us)) s)
  join-joinable us after k =
      joinable-moved g b (accepting context s (offered_all g s us)) s h
      (joined-good context (fit-walk g) s h.slot us (all-weaker IsAfter (IsLater g) (later-of g) us after))
      (joined-good context (go-walk g s.base.key) s own us k)

pub joinable-new : (g : RegionId) (b : Bool) (key : List ℕ) → IsJoinable g b (new_state b key)
joinable-new g b key = record {
  slot = record { descends = tt; floor = refl; early = tt };
  turns = tt;
  marks = refl;
  keys = tt;
  early_keys = tt;
  empty = λ e. refl;
}

pub joinable-from : (g : RegionId) (b : Bool) (k : Kept) → 0 < k.floor.0 → IsJoinable g b (state_from b k)
joinable-from g b k l =
    by (cond b k (record k { marks = []; touches = [] }))
    (cond_both b k (record k { marks = []; touches = [] }) (λ (x : Kept). 0 < x.floor.0) (λ e. l) (λ e. l))
  where
    by : (x : Kept) → 0 < x.floor.0 → IsJoinable g b (state_of_kept b x)
    by x p = record {
      slot = record { descends = tt; floor = refl; early = tt };
      turns = tt;
      marks = refl;
      keys = tt;
      early_keys = tt;
      empty = λ e. absurd (omega (arith, e, p));
    }

-- such a slot can be sent
upto-base : (v : ℕ) (us : List Update) → Descends v us → upto v us ≡ []
upto-base v [] h = refl
upto-base v (u ∷ older) h = let t = base-top v older h.1 in let d = h.0 in
    cond-false (leb u.version.0 v) _ _ (lt-leb u.version.0 v (omega (arith, t, d))) ∙ upto-base v older h.1

pub joinable-sent : (g : RegionId) (b : Bool) (s : KeyState) → IsJoinable g b s → CanJoin g b s
joinable-sent g b s h = record {
  slot = h.slot;
  turns = h.turns;
  sent = record {
    marks = h.marks;
    empty = λ z. (
        let low = base-floor g s h.slot in
        let none = h.empty (omega (arith, z, low)) in
        let same : s.floor ≡ s.base.floor.0 = omega (arith, z, low) in
        let past = ap (λ v. upto v s.accepted) same ∙ upto-base s.base.floor.0 s.accepted h.slot.descends in
        (λ j. kept_of g (record s { accepted = s.accepted; floor = s.floor; base = s.base }))
        ∙ (λ j. record {
          key = s.base.key;
          floor = record { 0 = z j };
          object = kept_row g s.base.object (past j);
          marks = provided s.marks (marks_after s.base.marks (past j));
          touches = provided s.marks (touches_after s.base.touches (past j));
        })
        ∙ (λ j. record {
          key = s.base.key;
          floor = record { 0 = 0 };
          object = (none j).object;
          marks = provided s.marks (none j).marks;
          touches = provided s.marks (none j).touches;
        })
        ∙ (λ j. record { key = s.base.key; floor = record { 0 = 0 }; object = None; marks = provided-nothing s.marks j; touches = provided-nothing s.marks j })
        );
    keys = all-weaker (λ (u : Update). u.key ≡ s.base.key) (λ (u : Update). same_text u.key s.base.key ≡ true)
        (λ u e. ap (λ (k : List ℕ). same_text k s.base.key) e ∙ same_text_self s.base.key) s.accepted h.keys;
  };
}
