-- The books of a crew: what its actors' entries posted was offered, and is put or kept.
use Rattle.std.proofs.Common.{◌≡◌, ℕ, ◌+◌, ◌*◌, ◌<◌, ◌≤◌, List, [], ◌∷◌, ◌++◌, length, slice_index_or, slice_set, refl}
use Rattle.std.proofs.Common.{ap, sym, ◌∙◌, arith, append_assoc, length-append, Option}
use Rattle.std.specs.List.{AllByRecursion}
use Rattle.std.specs.Vec.{with_item}
use Rattle.atomic_table.specs.Seated.{TableId}
use Rattle.hx_types.specs.declared.totals.Totals.{Totals}
use Rattle.hx_types.specs.declared.traces.Script.{Script}
use Rattle.hx_clock.specs.declared.parts.Stamped.{Stamped}
use Rattle.hx_clock.specs.Views.{one, total}
use Rattle.hx_clock.proofs.Lemmas.{total-append}
use Rattle.hx_mail.specs.declared.views.Mailed.{Mailed}
use Rattle.hx_mail.specs.Boxes.{Boxed}
use Rattle.hx_outbox.specs.declared.outboxes.Outbox.{Outbox}
use Rattle.hx_outbox.specs.Outboxes.{kept_weight}
use Rattle.hx_fate.specs.declared.fates.FateState.{FateState}
use Rattle.hx_outbox.specs.Offers.{asked_of, count_of, raised_by, IsOffered, Offer}
use Rattle.hx_outbox.proofs.Lemmas.{at-total, set-total, total-one, offered-both, offered-few, offered-long, offered-none}
use Rattle.hx_driver.specs.declared.desks.Desk.{Desk}
use Rattle.hx_driver.specs.declared.faults.Fault.{Fault}
use Rattle.hx_driver.specs.Desks.{made_by, made_in}
use Rattle.hx_driver.specs.Turns.{HasRoom, IsTurn, weight_of}
use Rattle.hx_driver.specs.declared.crews.Crew.{Crew}
use Rattle.hx_driver.specs.Crews.{made_weight, no_totals, weight_in, IsBooked, IsCrew, IsDeskOf, IsPosted}

made-append : (xs ys : List Stamped) → made_by (xs ++ ys) ≡ made_by xs ++ made_by ys
made-append [] ys = refl
made-append (x ∷ xs) ys = ap (λ l. made_in x ++ l) (made-append xs ys) ∙ sym (append_assoc (made_in x) (made_by xs) (made_by ys))

-- the same offers, beside what else was put or is kept
offered-frame : (u v u' v' : (Mailed → ℕ) → ℕ) (t t' : Totals) (f f' : FateState) (ms : List Mailed)
    → IsOffered u v t t' f f' ms → ((h : Mailed → ℕ) → v' h + u h ≡ u' h + v h) → IsOffered u' v' t t' f f' ms
offered-frame u v u' v' t t' f f' ms a e = record {
  offers = a.offers;
  are = a.are;
  fair = a.fair;
  put = λ h. omega (arith, a.put h, e h);
  posts = a.posts;
  deliver = a.deliver;
  lose = a.lose;
  twice = a.twice;
  chosen = a.chosen;
  lost = a.lost;
  doubled = a.doubled;
  tuning = a.tuning;
}

-- a fate's state after offers, whatever it was before
abbrev state-after : FateState → List Offer → FateState
state-after e offers =
    record {
      tuning = e.tuning;
      chosen = raised_by (asked_of offers) e.chosen;
      lost = raised_by (count_of 0 offers) e.lost;
      doubled = raised_by (count_of 2 offers) e.doubled;
    }

offered-from : (u v : (Mailed → ℕ) → ℕ) (t t' : Totals) (f f' e : FateState) (ms : List Mailed)
    (a : IsOffered u v t t' f f' ms) → IsOffered u v t t' e (state-after e a.offers) ms
offered-from u v t t' f f' e ms a = record {
  offers = a.offers;
  are = a.are;
  fair = a.fair;
  put = a.put;
  posts = a.posts;
  deliver = a.deliver;
  lose = a.lose;
  twice = a.twice;
  chosen = refl;
  lost = refl;
  doubled = refl;
  tuning = refl;
}

pub posted-none : (c : Crew) (f : FateState) → IsPosted c c f f
posted-none c f = record {
  posts = [];
  offered = offered-none (λ h. weight_in h c.out c.desks.items) (λ h. weight_in h c.out c.desks.items) c.totals f (λ h. refl);
  made = λ h. omega arith;
}

pub posted-trans : (a b c : Crew) (e f g : FateState) → IsPosted a b e f → IsPosted b c f g → IsPosted a c e g
posted-trans a b c e f g h k = record {
  posts = h.posts ++ k.posts;
  offered =
      offered-both (λ w. weight_in w a.out a.desks.items) (λ w. weight_in w b.out b.desks.items)
      (λ w. weight_in w c.out c.desks.items) a.totals b.totals c.totals e f g h.posts k.posts h.offered k.offered;
  made = λ w. omega (arith, h.made w, k.made w, total-append w h.posts k.posts);
}

-- the crew with an actor after its turn
abbrev pub with_turn : Crew → ℕ → Desk → Outbox → Totals → Option Fault → Crew
with_turn c at d out totals fault = record { desks = with_item c.desks at d; out = out; totals = totals; fault = fault }

-- an actor of the crew had a turn, and the others are as they were
pub record IsTurnIn (boxes : List Boxed) (c c' : Crew) (at : ℕ) (d d' : Desk) (f f' : FateState) (xs : List Stamped) : Type 0 where
  pub within : at < length c.desks.items
  pub desk : d ≡ slice_index_or c.desks.items at d
  pub turn : IsTurn boxes d d' c.out c'.out c.totals c'.totals f f' xs
  pub desks : c'.desks.items ≡ slice_set c.desks.items at d'

pub turn-in : (boxes : List Boxed) (c : Crew) (at : ℕ) (d d' : Desk) (out : Outbox) (totals : Totals)
    (fault : Option Fault) (f f' : FateState) (xs : List Stamped) → at < length c.desks.items
    → d ≡ slice_index_or c.desks.items at d
    → IsTurn boxes d d' c.out out c.totals totals f f' xs → IsTurnIn boxes c (with_turn c at d' out totals fault) at d d' f f' xs
turn-in boxes c at d d' out totals fault f f' xs within is turn = record { within = within; desk = is; turn = turn; desks = refl }

module _ (boxes : List Boxed) (c c' : Crew) (at : ℕ) (d d' : Desk) (f f' : FateState) (xs : List Stamped) (k : IsTurnIn boxes c c' at d d' f f' xs) where
  offered-turn : IsOffered (λ h. weight_in h c.out c.desks.items) (λ h. weight_in h c'.out c'.desks.items) c.totals c'.totals f f' (made_by xs)
  offered-turn =
      offered-frame (λ h. weight_of h c.out d) (λ h. weight_of h c'.out d') (λ h. weight_in h c.out c.desks.items)
      (λ h. weight_in h c'.out c'.desks.items) c.totals c'.totals f f' (made_by xs) k.turn.offered
      (λ h. omega (
        arith,
        set-total (λ (e : Desk). kept_weight h e.kept.items) c.desks.items at d d' k.within k.desk,
        ap (total (λ (e : Desk). kept_weight h e.kept.items)) k.desks,
      ))

  made-turn : (h : Mailed → ℕ) → made_weight h c.desks.items + total h (made_by xs) ≡ made_weight h c'.desks.items
  made-turn h = omega (
    arith,
    set-total (λ (e : Desk). total h (made_by e.part.items)) c.desks.items at d d' k.within k.desk,
    ap (total (λ (e : Desk). total h (made_by e.part.items))) k.desks,
    ap (λ l. total h (made_by l)) k.turn.part,
    ap (total h) (made-append d.part.items xs),
    total-append h (made_by d.part.items) (made_by xs),
  )

  pub posted-turn : IsPosted c c' f f'
  posted-turn = record { posts = made_by xs; offered = offered-turn; made = made-turn }

-- one entry makes fewer posts than can be numbered
few-of : (xs : List Stamped) → length xs ≤ 1 → length (made_by xs) < 4294967296 → length (made_by xs) ≤ 4294967296 * length xs
few-of [] one few = omega arith
few-of (x ∷ xs) one few = omega (arith, few)

entries-turn : (boxes : List Boxed) (c c' : Crew) (at : ℕ) (d d' : Desk) (f f' : FateState) (xs : List Stamped) → IsTurnIn boxes c c' at d d' f f' xs
    → total (λ (e : Desk). length e.part.items) c.desks.items + length xs ≡ total (λ (e : Desk). length e.part.items) c'.desks.items
entries-turn boxes c c' at d d' f f' xs k = omega (
  arith,
  set-total (λ (e : Desk). length e.part.items) c.desks.items at d d' k.within k.desk,
  ap (total (λ (e : Desk). length e.part.items)) k.desks,
  ap length k.turn.part,
  length-append d.part.items xs,
)

pub booked-turn : (boxes : List Boxed) (c c' : Crew) (at : ℕ) (d d' : Desk) (f f' : FateState) (xs : List Stamped)
    → IsTurnIn boxes c c' at d d' f f' xs → IsBooked c → IsBooked c'
booked-turn boxes c c' at d d' f f' xs k b =
    let offered = offered-turn boxes c c' at d d' f f' xs k in
    let few = b.few in
    record {
      posts = b.posts ++ made_by xs;
      before = b.before;
      after = state-after b.after offered.offers;
      offered =
          offered-both (λ h. 0) (λ h. weight_in h c.out c.desks.items)
          (λ h. weight_in h c'.out c'.desks.items) no_totals c.totals c'.totals b.before b.after
          (state-after b.after offered.offers) b.posts (made_by xs) b.offered
          (offered-from (λ h. weight_in h c.out c.desks.items) (λ h. weight_in h c'.out c'.desks.items) c.totals c'.totals f f' b.after (made_by xs) offered);
      made = λ h. omega (arith, b.made h, made-turn boxes c c' at d d' f f' xs k h, total-append h b.posts (made_by xs));
      few = omega (
        arith,
        few,
        made-turn boxes c c' at d d' f f' xs k (λ m. 1),
        total-one (made_by xs),
        few-of xs k.turn.one k.turn.few,
        entries-turn boxes c c' at d d' f f' xs k,
      );
    }

entries-few : (script : Script) (clock : TableId) (boxes : List Boxed) (w : ℕ) (c : Crew) (desks : List Desk)
    → AllByRecursion (IsDeskOf script clock boxes w c) desks
    → total (λ (d : Desk). length d.part.items) desks ≤ length desks * 1048576
entries-few script clock boxes w c [] h = omega arith
entries-few script clock boxes w c (d ∷ desks) h = let few = h.0.broken.desk.few in omega (arith, few, entries-few script clock boxes w c desks h.1)

-- so few posts are made that they can be counted
pub has-room : (script : Script) (clock : TableId) (boxes : List Boxed) (w : ℕ) (c : Crew) (at : ℕ) (d : Desk)
    → IsCrew script clock boxes w c → at < length c.desks.items → d ≡ slice_index_or c.desks.items at d → HasRoom c.out d c.totals
has-room script clock boxes w c at d h within is =
    let entries = entries-few script clock boxes w c c.desks.items h.desks in
    let many = h.many in
    let few = h.booked.few in
    let posts = h.booked.posts in
    let made = h.booked.made (λ m. 1) in
    let long : length posts ≤ 148618787703226368 = omega (arith, entries, many, few, made, total-one posts) in
    let put = offered-few _ _ _ _ _ _ posts h.booked.offered in
    let kept = at-total (λ (e : Desk). kept_weight (λ m. 1) e.kept.items) c.desks.items at d within is in
    let counted = h.booked.offered.posts in
    let offers = offered-long _ _ _ _ _ _ posts h.booked.offered in
    record { weight = omega (arith, long, put, kept); posts = omega (arith, long, counted, offers); total = h.total }
