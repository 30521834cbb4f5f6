-- One slot of a replica, or of a snapshot under way: what it relies on, and that each move which is allowed keeps it.
use Rattle.std.proofs.Common.{◌≡◌, ℕ, zero, suc, ◌<◌, ◌≤◌, ◌⊎◌, inl, inr, Bool, true, false, not, List, [], ◌∷◌, ◌++◌, map, length, Option, None, Some, refl}
use Rattle.std.proofs.Common.{sym, ap, ◌∙◌, subst, arith, eqb, leb}
use Rattle.std.specs.Prelude.{⊤}
use Rattle.std.specs.List.{filter, find, list_any}
use Rattle.std.proofs.lemmas.Bool.{cases_lt, cond_both, eqb-true, false≢true, leb-false, leb-true}
use Rattle.hx_model.specs.Types.{RegionId, Update}
use Rattle.hx_types.specs.Words.{IsIn, provided, when_some}
use Rattle.hx_model.specs.Lines.{upto}
use Rattle.hx_model.specs.Holders.{IsPrefix, only_in}
use Rattle.hx_model.specs.Neighbours.{is_end}
use Rattle.hx_model.specs.Slots.{Acknowledge, Commit, Forget, Hold, KeyState, Move, Take, acknowledged, after_at, commits, follows, has_place, is_pending}
use Rattle.hx_model.specs.Slots.{kept_row, marks_after, moved, moved_all, offered, other_version, pending_above, pending_of, settled, taken, top_of}
use Rattle.hx_model.specs.Slots.{touches_after, turns, waits_below}
use Rattle.hx_model.specs.ServerSteps.{SlotContext, accepting, next_at, resumed, tail_acks, with_commits}
use Rattle.hx_law_lemmas.proofs.Lemmas.{Following, More, Sorted, any-in, in-append, in-filter, in-find, in-only, in-upto, in-upto_from, in_left, in_right}
use Rattle.hx_law_lemmas.proofs.Lemmas.{only-in, only-sorted, same_version, upto-low, upto-sorted, when_some_both}
use Rattle.hx_law_chains.proofs.Lines.{front-above, only-next, sorted-front}

-- what is said of an update at a position: that a holder may keep it early, that each holder before
-- has accepted it, that each after has committed it, and that no holder can come in between
pub record Around : Type 1 where
  pub waits : Update → Type 0
  pub before : Update → Type 0
  pub after : Update → Type 0
  pub closed : Update → Type 0

-- an acknowledged version: an update that each holder before has accepted and each after has committed
pub record Acked (line : List Update) (g : RegionId) (around : Around) (top v : ℕ) : Type 0 where
  pub update : Update
  pub stands : IsIn update line
  pub version : update.version.0 ≡ v
  pub placed : has_place g update ≡ true
  pub before : around.before update
  pub after : around.after update
  pub closed : around.closed update
  pub low : v ≤ top

-- an early update
pub record Waiting (line : List Update) (g : RegionId) (around : Around) (u : Update) : Type 0 where
  pub stands : IsIn u line
  pub placed : has_place g u ≡ true
  pub before : around.before u
  pub waits : around.waits u

-- what a slot relies on
pub record Own (line : List Update) (g : RegionId) (around : Around) (t : KeyState) : Type 0 where
  pub content : IsPrefix g line t
  pub low : t.base.floor.0 ≤ t.floor
  pub top_line : top_of t ≤ length line
  pub top_is : (top_of t ≡ 0) ⊎ ((u : Update) × IsIn u line × (has_place g u ≡ true) × (u.version.0 ≡ top_of t))
  pub taken : (u : Update) → IsIn u line → has_place g u ≡ true → u.version.0 ≤ top_of t → around.before u
  pub freed : (u : Update) → IsIn u line → has_place g u ≡ true → u.version.0 ≤ t.floor → around.after u
  pub early : (u : Update) → IsIn u t.early → Waiting line g around u
  pub acked : (v : ℕ) → IsIn v t.acked → Acked line g around (top_of t) v

-- what is said at a position stays so
pub record Kept (a b : Around) : Type 0 where
  pub waits : (u : Update) → a.waits u → b.waits u
  pub before : (u : Update) → a.before u → b.before u
  pub after : (u : Update) → a.after u → b.after u
  pub closed : (u : Update) → a.closed u → b.closed u

-- it stays as it is
pub kept_same : (a : Around) → Kept a a
kept_same a = record { waits = λ u h. h; before = λ u h. h; after = λ u h. h; closed = λ u h. h }

-- a base and a list are a part of a line that stays up to the top
pub prefix_more : (g : RegionId) (n : ℕ) (line longer : List Update) (t : KeyState) → More n line longer → top_of t ≤ n → t.base.floor.0 ≤ top_of t
    → IsPrefix g line t → IsPrefix g longer t
prefix_more g n line longer t more l b p =
    let top = more.same (top_of t) l in
    let base = more.same t.base.floor.0 (omega (arith, b, l)) in
    record {
      list = ap (only_in g) top ∙ p.list ∙ ap (λ (us : List Update). t.accepted ++ only_in g us) (sym base);
      object = p.object ∙ ap (λ (us : List Update). kept_row g None (only_in g us)) (sym base);
      marks = p.marks ∙ ap (λ (us : List Update). provided t.marks (marks_after [] (only_in g us))) (sym base);
      touches = p.touches ∙ ap (λ (us : List Update). provided t.marks (touches_after [] (only_in g us))) (sym base);
      floor = p.floor;
    }

-- nor does it change with the floor, what is acknowledged and what is early
prefix_with : (g : RegionId) (line : List Update) (t : KeyState) (floor : ℕ) (acked : List ℕ) (early : List Update) → floor ≤ top_of t → IsPrefix g line t
    → IsPrefix g line (record t { floor = floor; acked = acked; early = early })
prefix_with g line t floor acked early low p = record { list = p.list; object = p.object; marks = p.marks; touches = p.touches; floor = low }

-- what it relies on stays where what is committed, early and acknowledged then may be so
own_with : (line : List Update) (g : RegionId) (a : Around) (t : KeyState) (floor : ℕ) (marks : List ℕ) (waiting : List Update) → Own line g a t
    → t.base.floor.0 ≤ floor → floor ≤ top_of t → ((u : Update) → IsIn u line → has_place g u ≡ true → u.version.0 ≤ floor → a.after u)
    → ((u : Update) → IsIn u waiting → Waiting line g a u) → ((v : ℕ) → IsIn v marks → Acked line g a (top_of t) v)
    → Own line g a (record t { floor = floor; acked = marks; early = waiting })
own_with line g a t floor marks waiting own low high freed early acked = record {
  content = prefix_with g line t floor marks waiting high own.content;
  low = low;
  top_line = own.top_line;
  top_is = own.top_is;
  taken = own.taken;
  freed = freed;
  early = early;
  acked = acked;
}

-- a slot relies on the same where the line stays up to n, what it holds lies there, and what is said around it stays
pub own_rely : (g : RegionId) (n : ℕ) (line longer : List Update) (a b : Around) (t : KeyState) → More n line longer → top_of t ≤ n
    → ((u : Update) → Waiting line g a u → u.version.0 ≤ n) → Kept a b → Own line g a t → Own longer g b t
own_rely g n line longer a b t more l early kept own = record {
  content = prefix_more g n line longer t more l (let x = own.low in let y = own.content.floor in omega (arith, x, y)) own.content;
  low = own.low;
  top_line = omega (arith, l, more.reach);
  top_is = elim own.top_is [ inl e ↦ inl e | inr k ↦ inr (k.0, more.keeps k.0 k.1 (let e = k.3 in omega (arith, e, l)), k.2, k.3) ];
  taken = λ u i p q. kept.before u (own.taken u (more.back u i (omega (arith, q, l))) p q);
  freed = λ u i p q. (let f = own.content.floor in kept.after u (own.freed u (more.back u i (omega (arith, q, f, l))) p q));
  early = λ u i. (let w = own.early u i in record {
    stands = more.keeps u w.stands (early u w);
    placed = w.placed;
    before = kept.before u w.before;
    waits =
        kept.waits u w.waits;
  });
  acked = λ v i. (let w = own.acked v i in record {
    update = w.update;
    stands = more.keeps w.update w.stands (let x = w.version in let y = w.low in omega (arith, x, y, l));
    version = w.version;
    placed = w.placed;
    before = kept.before w.update w.before;
    after = kept.after w.update w.after;
    closed = kept.closed w.update w.closed;
    low = w.low;
  });
}

-- what a slot forgets, it may forget
pub own_forget : (line : List Update) (g : RegionId) (a b : Around) (t : KeyState) → ((u : Update) → a.before u → b.before u)
    → ((u : Update) → a.after u → b.after u) → Own line g a t → Own line g b (moved Forget t)
own_forget line g a b t before after own = record {
  content = prefix_with g line t t.floor [] [] own.content.floor own.content;
  low = own.low;
  top_line = own.top_line;
  top_is = own.top_is;
  taken = λ u i p l. before u (own.taken u i p l);
  freed = λ u i p l. after u (own.freed u i p l);
  early = λ u i. absurd i;
  acked = λ v i. absurd i;
}

-- what allows a move of a slot
abbrev pub Allowed : List Update → RegionId → Around → KeyState → Move → Type 0
Allowed line g a t (Take u) = IsIn u line × (after_at g u ≡ Some (top_of t)) × a.before u
Allowed line g a t (Hold u) = Waiting line g a u
Allowed line g a t (Acknowledge v) = Acked line g a (top_of t) v
Allowed line g a t (Commit u) = IsIn u t.accepted × (t.floor ≤ u.version.0) × a.after u
    × ((w : Update) → IsIn w t.accepted → t.floor < w.version.0 → w.version.0 ≤ u.version.0 → w ≡ u)
Allowed line g a t Forget = ⊤

-- each move is allowed where it is made
abbrev pub AllAllowed : List Update → RegionId → Around → KeyState → List Move → Type 0
AllAllowed line g a t [] = Unit {0}
AllAllowed line g a t (m ∷ ms) = Allowed line g a t m × AllAllowed line g a (moved m t) ms

-- a slot after moves: nothing falls
pub record Later (line : List Update) (g : RegionId) (a : Around) (t later : KeyState) : Type 0 where
  pub own : Own line g a later
  pub top_up : top_of t ≤ top_of later
  pub floor_up : t.floor ≤ later.floor

-- what a move promises once it is made
abbrev pub Promise : List Update → RegionId → Around → KeyState → Move → Type 0
Promise line g a t (Take u) = IsIn u line × (has_place g u ≡ true) × (u.version.0 ≤ top_of t) × a.before u
Promise line g a t (Commit u) = IsIn u line × (has_place g u ≡ true) × (u.version.0 ≤ top_of t) × a.before u × (u.version.0 ≤ t.floor) × a.after u
Promise line g a t (Hold u) = ⊤
Promise line g a t (Acknowledge v) = ⊤
Promise line g a t Forget = ⊤

-- an update that follows has that version before it
pub follows-after : (g : RegionId) (v : ℕ) (u : Update) → follows g v u ≡ true → after_at g u ≡ Some v
follows-after g v u = by (after_at g u)
  where
    by : (o : Option ℕ) → when_some o false (λ after. eqb after v) ≡ true → o ≡ Some v
    by None e = absurd (false≢true e)
    by (Some w) e = ap Some (eqb-true w v e)

-- a test that finds an update holds of it
pub find-true : (test : Update → Bool) (us : List Update) (u : Update) → find test us ≡ Some u → test u ≡ true
find-true test [] u = λ e. absurd (cc)
find-true test (x ∷ us) u =
    cond_both (test x) (Some x) (find test us) (λ o. o ≡ Some u → test u ≡ true)
    (λ t e. let s : u ≡ x = cc in ap test s ∙ t)
    (λ t e. find-true test us u e)

-- the pending updates of a sorted list: those above a version, the lowest first
abbrev pub Rising : List Update → Type 0
Rising [] = Unit {0}
Rising (u ∷ us) = ((w : Update) → IsIn w us → u.version.0 < w.version.0) × Rising us

pub pending-is : (v : ℕ) (us : List Update) → Sorted us
    → ((w : Update) → IsIn w (pending_above v us) → IsIn w us × (v < w.version.0))
    × ((w : Update) → IsIn w us → v < w.version.0 → IsIn w (pending_above v us)) × Rising (pending_above v us)
pending-is v [] h = ((λ w i. absurd i), (λ w i l. i), tt)
pending-is v (u ∷ us) h =
    cond_both (leb u.version.0 v) [] (pending_above v us ++ u ∷ [])
    (λ l. ((w : Update) → IsIn w l → IsIn w (u ∷ us) × (v < w.version.0)) × ((w : Update) → IsIn w (u ∷ us) → v < w.version.0 → IsIn w l) × Rising l)
    (
    λ t. (
      (λ w i. absurd i),
      (λ w i l. absurd (let b = leb-true u.version.0 v t in elim i [
        | inl e ↦ (let s : w.version.0 ≡ u.version.0 = ap (λ (x : Update). x.version.0) e in omega (arith, s, b, l))
        | inr j ↦ (let c = h.0 w j in omega (arith, c, b, l))
      ])),
      tt,
    )
    )
    (
    λ t. let r = pending-is v us h.2 in
    let b = leb-false u.version.0 v t in (
      (λ w i. elim (in-append (pending_above v us) (u ∷ []) w i) [
        | inl j ↦ (let q = r.0 w j in (inr q.0, q.1))
        | inr (inl e) ↦ (inl e, subst (λ (x : Update). v < x.version.0) (sym e) b)
        | inr (inr j) ↦ absurd j
      ]),
      (λ w i l. elim i [
        | inl e ↦ in_right (pending_above v us) (u ∷ []) w (inl e)
        | inr j ↦ in_left (pending_above v us) (u ∷ []) w (r.1 w j l)
      ]),
      rising-push (pending_above v us) u r.2 (λ w i. h.0 w (r.0 w i).0),
    )
    )
  where
    rising-push : (ws : List Update) (u : Update) → Rising ws → ((w : Update) → IsIn w ws → w.version.0 < u.version.0) → Rising (ws ++ u ∷ [])
    rising-push [] u h f = ((λ w i. absurd i), tt)
    rising-push (x ∷ ws) u h f = (
      λ w i. elim (in-append ws (u ∷ []) w i) [
        | inl j ↦ h.0 w j
        | inr (inl e) ↦ subst (λ (y : Update). x.version.0 < y.version.0) (sym e) (f x (inl refl))
        | inr (inr j) ↦ absurd j
      ],
      rising-push ws u h.1 (λ w i. f w (inr i)),
    )

-- a line is sorted and numbered, and each of its updates follows on the one before it in the region
pub record Lined (line : List Update) (g : RegionId) : Type 0 where
  pub sorted : Sorted line
  pub low : (u : Update) → IsIn u line → u.version.0 ≤ length line
  pub following : (u : Update) (v : ℕ) → IsIn u line → after_at g u ≡ Some v → Following line g u v

module _ (line : List Update) (g : RegionId) (a : Around) (lined : Lined line g) where
  open lined use {sorted as line_sorted, low, following}

  -- the part up to the top is sorted
  part-sorted : (t : KeyState) → Own line g a t → Sorted (t.accepted ++ only_in g (upto t.base.floor.0 line))
  part-sorted t own = subst Sorted own.content.list (only-sorted g (upto (top_of t) line) (upto-sorted (top_of t) line line_sorted))

  -- so is what is accepted
  pub accepted-sorted : (t : KeyState) → Own line g a t → Sorted t.accepted
  accepted-sorted t own = sorted-front t.accepted (only_in g (upto t.base.floor.0 line)) (part-sorted t own)

  -- what is accepted stands in the line with a place in the region, no higher than the top
  pub accepted-in : (t : KeyState) (u : Update) → Own line g a t → IsIn u t.accepted → IsIn u line × (has_place g u ≡ true) × (u.version.0 ≤ top_of t)
  accepted-in t u own i =
      let o = only-in g (upto (top_of t) line) u (subst (λ (l : List Update). IsIn u l) (sym own.content.list)
      (in_left t.accepted (only_in g (upto t.base.floor.0 line)) u i)) in
      (in-upto (top_of t) line u o.0, o.1, upto-low (top_of t) line u line_sorted o.0)

  -- an update of the line with a place there, above the base and no higher than the top, is accepted
  pub in-accepted : (t : KeyState) (u : Update) → Own line g a t → IsIn u line → has_place g u ≡ true → t.base.floor.0 < u.version.0
      → u.version.0 ≤ top_of t → IsIn u t.accepted
  in-accepted t u own i p b l =
      front-above t.accepted (only_in g (upto t.base.floor.0 line)) t.base.floor.0 u
      (subst (λ (us : List Update). IsIn u us) own.content.list (in-only g (upto (top_of t) line) u (in-upto_from (top_of t) line u line_sorted i l) p))
      (λ x j. upto-low t.base.floor.0 line x line_sorted (only-in g (upto t.base.floor.0 line) x j).0) b

  -- taking the next update
  take-own : (t : KeyState) (u : Update) → Own line g a t → Allowed line g a t (Take u) → Own line g a (moved (Take u) t)
  take-own t u own k =
      let f = following u (top_of t) k.0 k.1 in
      let floor = own.content.floor in
      record {
        content = record {
          list = only-next g line u (top_of t) line_sorted k.0 f.placed f.above f.next ∙ ap (λ (l : List Update). u ∷ l) own.content.list;
          object = own.content.object;
          marks = own.content.marks;
          touches = own.content.touches;
          floor = omega (arith, floor, f.above);
        };
        low = own.low;
        top_line = low u k.0;
        top_is = inr (u, k.0, f.placed, refl);
        taken = λ w i p l. elim (cases_lt (top_of t) w.version.0) [
          | inl h ↦ subst a.before (sym (same_version line w u line_sorted i k.0 (next w i p l h f))) k.2
          | inr h ↦ own.taken w i p h
        ];
        freed = own.freed;
        early = λ w i. own.early w (in-filter (other_version u.version.0) t.early w i).0;
        acked = λ v i. (let w = own.acked v i in record {
          update = w.update;
          stands = w.stands;
          version = w.version;
          placed = w.placed;
          before = w.before;
          after = w.after;
          closed = w.closed;
          low = (let b = w.low in omega (arith, b, f.above));
        });
      }
    where
      next : (w : Update) → IsIn w line → has_place g w ≡ true → w.version.0 ≤ u.version.0 → top_of t < w.version.0 → Following line g u (top_of t)
          → w.version.0 ≡ u.version.0
      next w i p l h f = elim (cases_lt w.version.0 u.version.0) [
        | inl b ↦ absurd (let n = f.next w (in-only g line w i p) b in omega (arith, n, h))
        | inr b ↦ omega (arith, l, b)
      ]

  -- each allowed move keeps what the slot relies on, and nothing falls
  pub later-one : (t : KeyState) (m : Move) → Own line g a t → Allowed line g a t m → Later line g a t (moved m t)
  later-one t (Take u) own k = record {
    own = take-own t u own k;
    top_up = (let f = following u (top_of t) k.0 k.1 in let b = f.above in omega (arith, b));
    floor_up = omega arith;
  }
  later-one t (Hold u) own k = record {
    own = own_with line g a t t.floor t.acked (moved (Hold u) t).early own own.low own.content.floor own.freed
        (λ w i. elim (in-append (filter (other_version u.version.0) t.early) (u ∷ []) w i) [
          | inl j ↦ own.early w (in-filter (other_version u.version.0) t.early w j).0
          | inr (inl e) ↦ subst (Waiting line g a) (sym e) k
          | inr (inr j) ↦ absurd j
        ])
        own.acked;
    top_up = omega arith;
    floor_up = omega arith;
  }
  later-one t (Acknowledge v) own k = record {
    own = own_with line g a t t.floor (moved (Acknowledge v) t).acked t.early own own.low own.content.floor own.freed own.early
        (λ w i. elim i [
          | inl e ↦ subst (Acked line g a (top_of t)) (sym e) k
          | inr j ↦ own.acked w (in-filter (λ x. not (eqb x v)) t.acked w j).0
        ]);
    top_up = omega arith;
    floor_up = omega arith;
  }
  later-one t (Commit u) own k = record {
    own = own_with line g a t u.version.0 (moved (Commit u) t).acked t.early own (let b = own.low in let c = k.1 in omega (arith, b, c))
        (accepted-in t u own k.0).2
        (λ w i p l. elim (cases_lt t.floor w.version.0) [
          | inl h ↦ (let b = own.low in let c = (accepted-in t u own k.0).2 in
              subst a.after (sym (k.3 w (in-accepted t w own i p (omega (arith, b, h)) (omega (arith, l, c))) h l)) k.2)
          | inr h ↦ own.freed w i p h
        ])
        own.early
        (λ w i. own.acked w (in-filter (λ x. not (eqb x u.version.0)) t.acked w i).0);
    top_up = omega arith;
    floor_up = k.1;
  }
  later-one t Forget own k = record { own = own_forget line g a a t (λ u h. h) (λ u h. h) own; top_up = omega arith; floor_up = omega arith }

  -- so do moves that are allowed one after another
  pub later-all : (ms : List Move) (t : KeyState) → Own line g a t → AllAllowed line g a t ms → Later line g a t (moved_all ms t)
  later-all [] t own k = record { own = own; top_up = omega arith; floor_up = omega arith }
  later-all (m ∷ ms) t own k =
      let l = later-one t m own k.0 in
      let r = later-all ms (moved m t) l.own k.1 in
      record { own = r.own; top_up = omega (arith, l.top_up, r.top_up); floor_up = omega (arith, l.floor_up, r.floor_up) }

  -- a move that was made holds its promise after all of them
  pub promised : (ms : List Move) (t : KeyState) → Own line g a t → AllAllowed line g a t ms → (m : Move) → IsIn m ms → Promise line g a (moved_all ms t) m
  promised [] t own k m i = absurd i
  promised (x ∷ ms) t own k m (inr i) = promised ms (moved x t) (later-one t x own k.0).own k.1 m i
  promised (x ∷ ms) t own k m (inl e) =
      let l = later-one t x own k.0 in
      let r = later-all ms (moved x t) l.own k.1 in
      subst (Promise line g a (moved_all ms (moved x t))) (sym e) (made x k.0 r.top_up r.floor_up)
    where
      made : (x : Move) → Allowed line g a t x → top_of (moved x t) ≤ top_of (moved_all ms (moved x t))
          → (moved x t).floor ≤ (moved_all ms (moved x t)).floor → Promise line g a (moved_all ms (moved x t)) x
      made (Take u) k up floor = (k.0, (following u (top_of t) k.0 k.1).placed, up, k.2)
      made (Hold u) k up floor = tt
      made (Acknowledge v) k up floor = tt
      made (Commit u) k up floor = (let b = accepted-in t u own k.0 in let c = b.2 in (b.0, b.1, omega (arith, c, up), own.taken u b.0 b.1 b.2, floor, k.2))
      made Forget k up floor = tt

  -- allowed moves one list after another
  pub allowed-append : (ms ns : List Move) (t : KeyState) → AllAllowed line g a t ms → AllAllowed line g a (moved_all ms t) ns
      → AllAllowed line g a t (ms ++ ns)
  allowed-append [] ns t p q = q
  allowed-append (m ∷ ms) ns t p q = (p.0, allowed-append ms ns (moved m t) p.1 q)

  -- what commits rely on: these updates are the pending ones, the lowest first
  abbrev Pending : KeyState → List Update → Type 0
  Pending t us = ((u : Update) → IsIn u us → IsIn u t.accepted × (t.floor < u.version.0))
      × ((w : Update) → IsIn w t.accepted → t.floor < w.version.0 → IsIn w us)

  -- commits of acknowledged pending updates are allowed
  commits-allowed : (marks : List ℕ) (us : List Update) (t : KeyState) (top : ℕ) → ((v : ℕ) → IsIn v marks → Acked line g a top v)
      → Own line g a t → Pending t us → Rising us → AllAllowed line g a t (commits marks us)
  commits-allowed marks [] t top known own p r = tt
  commits-allowed marks (u ∷ us) t top known own p r = by (list_any (λ v. eqb v u.version.0) marks) refl
      (λ k. commits-allowed marks us (moved (Commit u) t) top known (later-one t (Commit u) own k).own (rest-pending, rest-all) r.1)
    where
      rest-pending : (w : Update) → IsIn w us → IsIn w t.accepted × (u.version.0 < w.version.0)
      rest-pending w i = ((p.0 w (inr i)).0, r.0 w i)

      rest-all : (w : Update) → IsIn w t.accepted → u.version.0 < w.version.0 → IsIn w us
      rest-all w i l = elim (p.1 w i (let b = (p.0 u (inl refl)).1 in omega (arith, l, b))) [
        | inl e ↦ (let s : w.version.0 ≡ u.version.0 = ap (λ (x : Update). x.version.0) e in absurd (omega (arith, s, l)))
        | inr j ↦ j
      ]

      lowest : (w : Update) → IsIn w t.accepted → t.floor < w.version.0 → w.version.0 ≤ u.version.0 → w ≡ u
      lowest w i l m = elim (p.1 w i l) [ inl e ↦ e | inr j ↦ (let b = r.0 w j in absurd (omega (arith, b, m))) ]

      by : (b : Bool) → list_any (λ v. eqb v u.version.0) marks ≡ b
          → (Allowed line g a t (Commit u) → AllAllowed line g a (moved (Commit u) t) (commits marks us))
          → AllAllowed line g a t (provided b (Commit u ∷ commits marks us))
      by false e rest = tt
      by true e rest =
          let x = any-in (λ v. eqb v u.version.0) marks e in
          let k = known x.0 x.1 in
          let here = p.0 u (inl refl) in
          let same = same_version line k.update u line_sorted k.stands (accepted-in t u own here.0).0 (k.version ∙ eqb-true x.0 u.version.0 x.2) in
          let c : Allowed line g a t (Commit u) = (here.0, (let l = here.1 in omega (arith, l)), subst a.after same k.after, lowest) in
          (c, rest c)

  -- the commits that acknowledgements bring are allowed
  pub settled-allowed : (t : KeyState) → Own line g a t → AllAllowed line g a t (settled t)
  settled-allowed t own =
      let p = pending-is t.floor t.accepted (accepted-sorted t own) in
      commits-allowed t.acked (pending_of t) t (top_of t) own.acked own (p.0, p.1) p.2

  -- moves with the commits that they bring
  pub with_commits-allowed : (t : KeyState) (ms : List Move) → Own line g a t → AllAllowed line g a t ms → AllAllowed line g a t (with_commits t ms)
  with_commits-allowed t ms own k = allowed-append ms (settled (moved_all ms t)) t k (settled-allowed (moved_all ms t) (later-all ms t own k).own)

  -- acknowledgements are allowed where the updates are accepted and nothing stands after
  marks-allowed : (us : List Update) (t : KeyState) → Own line g a t
      → ((u : Update) → IsIn u us → IsIn u line × (has_place g u ≡ true) × (u.version.0 ≤ top_of t) × a.after u × a.closed u)
      → AllAllowed line g a t (map (λ (u : Update). Acknowledge u.version.0) us)
  marks-allowed [] t own f = tt
  marks-allowed (u ∷ us) t own f =
      let h = f u (inl refl) in
      let k : Allowed line g a t (Acknowledge u.version.0) =
      record { update = u; stands = h.0; version = refl; placed = h.1; before = own.taken u h.0 h.1 h.2; after = h.3; closed = h.4; low = h.2 } in
      (k, marks-allowed us (moved (Acknowledge u.version.0) t) (later-one t (Acknowledge u.version.0) own k).own (λ w j. f w (inr j)))

  -- what is taken is accepted after the moves
  taken-in : (ms : List Move) (t : KeyState) → Own line g a t → AllAllowed line g a t ms → (u : Update) → IsIn u (taken ms) → IsIn u line
      × (has_place g u ≡ true) × (u.version.0 ≤ top_of (moved_all ms t))
  taken-in [] t own k u i = absurd i
  taken-in (Take x ∷ ms) t own k u (inl e) =
      let l = later-one t (Take x) own k.0 in
      let r = (later-all ms (moved (Take x) t) l.own k.1).top_up in
      subst (λ (y : Update). IsIn y line × (has_place g y ≡ true) × (y.version.0 ≤ top_of (moved_all ms (moved (Take x) t)))) (sym e)
      (k.0.0, (following x (top_of t) k.0.0 k.0.1).placed, r)
  taken-in (Take x ∷ ms) t own k u (inr i) = taken-in ms (moved (Take x) t) (later-one t (Take x) own k.0).own k.1 u i
  taken-in (Hold x ∷ ms) t own k u i = taken-in ms (moved (Hold x) t) (later-one t (Hold x) own k.0).own k.1 u i
  taken-in (Acknowledge v ∷ ms) t own k u i = taken-in ms (moved (Acknowledge v) t) (later-one t (Acknowledge v) own k.0).own k.1 u i
  taken-in (Commit x ∷ ms) t own k u i = taken-in ms (moved (Commit x) t) (later-one t (Commit x) own k.0).own k.1 u i
  taken-in (Forget ∷ ms) t own k u i = taken-in ms (moved Forget t) (later-one t Forget own k.0).own k.1 u i

  -- where an update's chain ends nothing stands after it
  abbrev pub Ends : SlotContext → Type 0
  Ends context = (u : Update) → IsIn u line → has_place g u ≡ true → is_end (next_at context u) ≡ true → a.after u × a.closed u

  -- moves that take updates, with all that they bring
  pub accepting-allowed : (context : SlotContext) (t : KeyState) (ms : List Move) → Ends context → Own line g a t → AllAllowed line g a t ms
      → AllAllowed line g a t (accepting context t ms)
  accepting-allowed context t ms ends own k =
      let l = (later-all ms t own k).own in
      with_commits-allowed t (ms ++ tail_acks context (taken ms)) own
      (allowed-append ms (tail_acks context (taken ms)) t k
      (marks-allowed (filter (λ (u : Update). is_end (next_at context u)) (taken ms)) (moved_all ms t) l
      (λ u i. let f = in-filter (λ (x : Update). is_end (next_at context x)) (taken ms) u i in
      let b = taken-in ms t own k u f.0 in
      let e = ends u b.0 b.1 f.1 in (b.0, b.1, b.2, e.0, e.1))))

  -- the early updates whose turn comes are allowed
  turns-allowed : (n : ℕ) (t : KeyState) (early : List Update) → ((u : Update) → IsIn u early → Waiting line g a u) → Own line g a t
      → AllAllowed line g a t (turns g n (top_of t) early)
  turns-allowed zero t early f own = tt
  turns-allowed (suc n) t early f own =
      when_some_both (find (follows g (top_of t)) early) [] (λ (u : Update). Take u ∷ turns g n u.version.0 early) (AllAllowed line g a t)
      (λ e. tt)
      (
      λ u e. let w = f u (in-find (follows g (top_of t)) early u e) in
      let k : Allowed line g a t (Take u) = (w.stands, follows-after g (top_of t) u (find-true (follows g (top_of t)) early u e), w.before) in
      (k, turns-allowed n (moved (Take u) t) early f (later-one t (Take u) own k).own)
      )

  -- the moves of an offered update of the line are allowed, where it may be held or follows
  pub offered-allowed : (t : KeyState) (u : Update) → Own line g a t → IsIn u line → has_place g u ≡ true → a.before u → a.waits u
      ⊎ (follows g (top_of t) u ≡ true) → AllAllowed line g a t (offered g t u)
  offered-allowed t u own i p b e =
      cond_both (leb u.version.0 (top_of t)) [] _ (AllAllowed line g a t) (λ t. tt)
      (
      λ q. cond_both (follows g (top_of t) u) (Take u ∷ turns g (length t.early) u.version.0 t.early) (Hold u ∷ []) (AllAllowed line g a t)
      (
      λ f. let k : Allowed line g a t (Take u) = (i, follows-after g (top_of t) u f, b) in
      (k, turns-allowed (length t.early) (moved (Take u) t) t.early own.early (later-one t (Take u) own k).own)
      )
      (λ f. elim e [ inl h ↦ (record { stands = i; placed = p; before = b; waits = h }, tt) | inr h ↦ absurd (false≢true (sym f ∙ h)) ])
      )

  -- what an acknowledgement brings is allowed
  pub acknowledged-allowed : (t : KeyState) (v : ℕ) → Own line g a t → Acked line g a (top_of t) v → AllAllowed line g a t (acknowledged t v)
  acknowledged-allowed t v own k = by (is_pending v t) (not (waits_below t.acked v (pending_of t)))
    where
      by : (b c : Bool) → AllAllowed line g a t (provided b (Acknowledge v ∷ provided c (settled (moved (Acknowledge v) t))))
      by false c = tt
      by true false = (k, tt)
      by true true = (k, settled-allowed (moved (Acknowledge v) t) (later-one t (Acknowledge v) own k).own)

  -- what a slot does when its server adopts a configuration is allowed
  pub resumed-allowed : (context : SlotContext) (t : KeyState) → Ends context → Own line g a t → AllAllowed line g a t (resumed context t)
  resumed-allowed context t ends own =
      let own' = own_forget line g a a t (λ u h. h) (λ u h. h) own in
      let p = pending-is t.floor t.accepted (accepted-sorted t own) in
      with_commits-allowed t (Forget ∷ tail_acks context (pending_of t)) own (
        tt,
        marks-allowed (filter (λ (u : Update). is_end (next_at context u)) (pending_of t)) (moved Forget t) own'
            (λ u i. let f = in-filter (λ (x : Update). is_end (next_at context x)) (pending_of t) u i in
            let b = accepted-in t u own (p.0 u f.0).0 in
            let e = ends u b.0 b.1 f.1 in (b.0, b.1, b.2, e.0, e.1)),
      )
