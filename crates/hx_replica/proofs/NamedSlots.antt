-- The sessions that a slot names, and what is posted of it: where its sessions and the configuration's members are known, its posts name known actors alone.
use Rattle.std.proofs.Common.{◌≡◌, ℕ, ◌⊎◌, inl, inr, Bool, List, [], ◌∷◌, ◌++◌, map, refl, sym, subst, cond, ltb}
use Rattle.std.specs.List.{flat_map}
use Rattle.std.proofs.lemmas.Bool.{cond_both}
use Rattle.hx_model.specs.Types.{Actor, Answer, At, Blocked, Caller, End, Hop, Kept, Mark, Post, RegionId, Session, Update, Version}
use Rattle.hx_types.specs.Posted.{actors_of_message}
use Rattle.hx_types.specs.Words.{IsIn, provided, same_session}
use Rattle.hx_model.specs.Neighbours.{place_number}
use Rattle.hx_model.specs.Lines.{upto}
use Rattle.hx_model.specs.Slots.{Acknowledge, Commit, Forget, Hold, KeyState, Move, Take, kept_of, marks_after}
use Rattle.hx_model.specs.Slots.{mark_by, moved_all, new_state, pending_of, state_among, with_mark}
use Rattle.hx_model.specs.ServerSteps.{SlotContext, ack_to, move_posts, next_at, passed_on, prev_at, reply, told_to, update_to}
use Rattle.hx_model.proofs.Lemmas.{base-moved_all}
use Rattle.hx_law_lemmas.proofs.Lemmas.{AllKnownInLine as AllKnown, KnownInLine as IsMoveKnown, held-moved_all-in_line as held-moved_all, pending-in, in-upto}
use Rattle.hx_law_lemmas.proofs.Lemmas.{in-append, in-flat_map, in-map, in-provided, state-from}
use Rattle.hx_law_posts.proofs.Lemmas.{held-together, together}
use Rattle.hx_replica.proofs.NamedMembers.{GoesToKnown, KnowsMembers, next-known, prev-known}

-- a mark of a changed list is the new one or an old one
in-with_mark : (m : Mark) (marks : List Mark) (x : Mark) → IsIn x (with_mark m marks) → (x ≡ m) ⊎ IsIn x marks
in-with_mark m [] x = λ i. elim i [ inl e ↦ inl e | inr j ↦ absurd j ]
in-with_mark m (y ∷ rest) x =
    cond_both (ltb m.session.0 y.session.0) (m ∷ y ∷ rest)
    (cond (same_session m.session y.session) (cond (ltb m.number y.number) y m ∷ rest) (y ∷ with_mark m rest))
    (λ (l : List Mark). IsIn x l → (x ≡ m) ⊎ IsIn x (y ∷ rest))
    (λ a i. elim i [ inl e ↦ inl e | inr j ↦ inr j ])
    (
    λ a. cond_both (same_session m.session y.session) (cond (ltb m.number y.number) y m ∷ rest) (y ∷ with_mark m rest)
    (λ (l : List Mark). IsIn x l → (x ≡ m) ⊎ IsIn x (y ∷ rest))
    (λ b. cond_both (ltb m.number y.number) y m (λ (z : Mark). IsIn x (z ∷ rest) → (x ≡ m) ⊎ IsIn x (y ∷ rest))
    (λ c i. inr i) (λ c i. elim i [ inl e ↦ inl e | inr j ↦ inr (inr j) ]))
    (λ b i. elim i [ inl e ↦ inr (inl e) | inr j ↦ elim (in-with_mark m rest x j) [ inl e ↦ inl e | inr k ↦ inr (inr k) ] ])
    )

module _ (Known : Actor → Type 0) where
  -- the post goes to a known actor and names known actors alone
  pub record IsGood (p : Post) : Type 0 where
    pub to : Known p.to
    pub names : (a : Actor) → IsIn a (actors_of_message p.message) → Known a

  abbrev pub AreGood : List Post → Type 0
  AreGood posts = (p : Post) → IsIn p posts → IsGood p

  pub none-good : AreGood []
  none-good p i = absurd i

  pub one-good : (q : Post) → IsGood q → AreGood (q ∷ [])
  one-good q h p (inl e) = subst IsGood (sym e) h
  one-good q h p (inr i) = absurd i

  pub both-good : (ps qs : List Post) → AreGood ps → AreGood qs → AreGood (ps ++ qs)
  both-good ps qs h k p i = elim (in-append ps qs p i) [ inl j ↦ h p j | inr j ↦ k p j ]

  pub provided-good : (b : Bool) (ps : List Post) → AreGood ps → AreGood (provided b ps)
  provided-good b ps h p i = h p (in-provided b ps p i).1

  pub each-good : {A : Type 0} (f : A → List Post) (xs : List A) → ((x : A) → IsIn x xs → AreGood (f x)) → AreGood (flat_map f xs)
  each-good f xs h p i = let r = in-flat_map f xs p i in h r.0 r.1 p r.2

  pub mapped-good : {A : Type 0} (f : A → Post) (xs : List A) → ((x : A) → IsIn x xs → IsGood (f x)) → AreGood (map f xs)
  mapped-good f xs h p i = let r = in-map f xs p i in subst IsGood (sym r.2) (h r.0 r.1)

  -- ---- slots

  abbrev pub KnowsCaller : Update → Type 0
  KnowsCaller u = Known (Session u.caller.session)

  -- the sessions that a slot names are known
  pub record KnowsSlot (t : KeyState) : Type 0 where
    pub marks : (m : Mark) → IsIn m t.base.marks → Known (Session m.session)
    pub accepted : (u : Update) → IsIn u t.accepted → KnowsCaller u
    pub early : (u : Update) → IsIn u t.early → KnowsCaller u

  new-known : (marks : Bool) (key : List ℕ) → KnowsSlot (new_state marks key)
  new-known marks key = record { marks = λ m i. absurd i; accepted = λ u i. absurd i; early = λ u i. absurd i }

  -- the slot of a key among slots
  pub among-known : (marks : Bool) (key : List ℕ) (states : List KeyState)
      → ((t : KeyState) → IsIn t states → KnowsSlot t) → KnowsSlot (state_among marks key states)
  among-known marks key states h = elim (state-from marks key states) [
    | inl e ↦ subst KnowsSlot (sym e) (new-known marks key)
    | inr i ↦ h (state_among marks key states) i
  ]

  pub pending-known : (t : KeyState) → KnowsSlot t → (u : Update) → IsIn u (pending_of t) → KnowsCaller u
  pending-known t h u i = h.accepted u (pending-in t.floor t.accepted u i).0

  -- the sessions of some updates, and of what a slot holds
  pub together-known : (us : List Update) → ((u : Update) → IsIn u us → KnowsCaller u) → (t : KeyState) → KnowsSlot t
      → (u : Update) → IsIn u (together us t) → KnowsCaller u
  together-known us f t h u i = elim (in-append us (t.accepted ++ t.early) u i) [
    | inl j ↦ f u j
    | inr j ↦ elim (in-append t.accepted t.early u j) [ inl k ↦ h.accepted u k | inr k ↦ h.early u k ]
  ]

  -- moves of updates whose sessions are known leave a slot so
  pub moved-known : (us : List Update) → ((u : Update) → IsIn u us → KnowsCaller u) → (t : KeyState) → KnowsSlot t
      → (moves : List Move) → AllKnown (together us t) moves → KnowsSlot (moved_all moves t)
  moved-known us f t h moves known =
      let held = held-moved_all (together us t) moves t (held-together us t) known in
      record {
        marks = subst (λ (k : Kept). (m : Mark) → IsIn m k.marks → Known (Session m.session)) (sym (base-moved_all moves t)) h.marks;
        accepted = λ u i. together-known us f t h u (held.accepted u i);
        early = λ u i. together-known us f t h u (held.early u i);
      }

  -- the marks after updates
  marks-known : (base : List Mark) → ((m : Mark) → IsIn m base → Known (Session m.session)) → (us : List Update)
      → ((u : Update) → IsIn u us → KnowsCaller u) → (m : Mark) → IsIn m (marks_after base us) → Known (Session m.session)
  marks-known base h [] f m i = h m i
  marks-known base h (u ∷ us) f m i = elim (in-with_mark (mark_by u) (marks_after base us) m i) [
    | inl e ↦ subst (λ (x : Mark). Known (Session x.session)) (sym e) (f u (inl refl))
    | inr j ↦ marks-known base h us (λ w k. f w (inr k)) m j
  ]

  -- the marks of what a slot has committed
  pub kept-known : (g : RegionId) (t : KeyState) → KnowsSlot t → (m : Mark) → IsIn m (kept_of g t).marks → Known (Session m.session)
  kept-known g t h m i =
      marks-known t.base.marks h.marks (upto t.floor t.accepted) (λ u j. h.accepted u (in-upto t.floor t.accepted u j)) m
      (in-provided t.marks (marks_after t.base.marks (upto t.floor t.accepted)) m i).1

  -- ---- posts of a slot

  pub reply-good : (context : SlotContext) (caller : Caller) (version : Version) (answer : Answer)
      → Known (Session caller.session) → IsGood (reply context caller version answer)
  reply-good context caller version answer known = record { to = known; names = λ a i. absurd i }

  module _ (context : SlotContext) (members : KnowsMembers Known context.config) where
    update_to-good : (u : Update) → KnowsCaller u → (h : Hop) → GoesToKnown Known h → AreGood (update_to context u h)
    update_to-good u known (At s place) to = one-good _ (record { to = to; names = λ a i. elim i [ inl e ↦ subst Known (sym e) known | inr j ↦ absurd j ] })
    update_to-good u known End to = none-good
    update_to-good u known (Blocked g) to = none-good

    ack-good : (u : Update) (h : Hop) → GoesToKnown Known h → AreGood (ack_to context u h)
    ack-good u (At s place) to = one-good _ (record { to = to; names = λ a i. absurd i })
    ack-good u End to = none-good
    ack-good u (Blocked g) to = none-good

    told_to-good : (u : Update) → KnowsCaller u → (h : Hop) → GoesToKnown Known h → AreGood (told_to context u h)
    told_to-good u known (At s place) to = ack-good u (At s place) to
    told_to-good u known End to = one-good _ (reply-good context u.caller u.version u.answer known)
    told_to-good u known (Blocked g) to = none-good

    prev-at : (u : Update) → GoesToKnown Known (prev_at context u)
    prev-at u = prev-known Known context.config members u.places (place_number context.region u.places) context.server

    pub passed-good : (u : Update) → KnowsCaller u → AreGood (passed_on context u)
    passed-good u known = update_to-good u known (next_at context u)
        (next-known Known context.config members u.places (place_number context.region u.places) context.server)

    pub ack_to-good : (u : Update) → AreGood (ack_to context u (prev_at context u))
    ack_to-good u = ack-good u (prev_at context u) (prev-at u)

    -- what is posted with moves
    pub moves-good : (line : List Update) → ((u : Update) → IsIn u line → KnowsCaller u) → (moves : List Move)
        → AllKnown line moves → AreGood (flat_map (move_posts context) moves)
    moves-good line f moves known = each-good (move_posts context) moves (λ m i. by m (known m i))
      where
        by : (m : Move) → IsMoveKnown line m → AreGood (move_posts context m)
        by (Take u) k = passed-good u (f u k)
        by (Hold u) k = none-good
        by (Acknowledge v) k = none-good
        by (Commit u) k = told_to-good u (f u k) (prev_at context u) (prev-at u)
        by Forget k = none-good

    -- what is pending is passed on
    pub pending-good : (t : KeyState) → KnowsSlot t → AreGood (flat_map (passed_on context) (pending_of t))
    pending-good t h = each-good (passed_on context) (pending_of t) (λ u i. passed-good u (pending-known t h u i))
