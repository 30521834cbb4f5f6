-- Turns put together.
use Rattle.std.proofs.Common.{◌≡◌, ◌+◌, ◌≤◌, ⊎_elim, false, List, [], ◌∷◌, ◌++◌, length, slice_get, Some, refl, ap, sym, subst, ◌∙◌, arith, append-nil}
use mathlib.Core.List.{IsPrefix}
use Rattle.hx_types.specs.declared.totals.Totals.{Totals}
use Rattle.hx_clock.specs.declared.parts.Stamped.{Stamped}
use Rattle.hx_clock.proofs.Lemmas.{get-below, get-snoc}
use Rattle.hx_law_threads.specs.Cuts.{is_retry}
use Rattle.hx_mail.specs.Boxes.{Boxed}
use Rattle.hx_outbox.specs.declared.outboxes.Outbox.{Outbox}
use Rattle.hx_fate.specs.declared.fates.FateState.{FateState}
use Rattle.hx_outbox.specs.Offers.{IsTotal}
use Rattle.hx_outbox.specs.Outboxes.{kept_weight, out_weight, IsOutbox}
use Rattle.hx_outbox.proofs.Lemmas.{begins-refl, begins-trans, offered-both, offered-none, more-refl, more-trans}
use Rattle.hx_driver.specs.declared.desks.Desk.{Desk}
use Rattle.hx_driver.specs.Desks.{made_by, HasNoRetry}
use Rattle.hx_driver.specs.Inboxes.{ins_of}
use Rattle.hx_driver.specs.Turns.{weight_of, IsTurn}

-- nothing was done but what was taken
pub turn-none : (boxes : List Boxed) (d d' : Desk) (o : Outbox) (t : Totals) (f : FateState) → d'.actor ≡ d.actor
    → d'.part.items ≡ d.part.items → d'.kept.items ≡ d.kept.items → IsPrefix (ins_of d.inbox) (ins_of d'.inbox)
    → IsOutbox boxes o → IsTotal t → IsTurn boxes d d' o o t t f f []
turn-none boxes d d' o t f actor part kept ins out total = record {
  later = record { actor = actor; part = ([], append-nil d.part.items ∙ sym part); ins = ins };
  part = part ∙ sym (append-nil d.part.items);
  out = (out, refl);
  more = more-refl o.ports.items;
  offered = offered-none (λ h. weight_of h o d) (λ h. weight_of h o d') t f (λ h. ap (λ k. out_weight h o.ports.items + kept_weight h k) kept);
  total = total;
  one = omega arith;
  few = omega arith;
}

-- a turn in two halves, of which the first makes no entry
pub turn-both : (boxes : List Boxed) (d e f : Desk) (o p q : Outbox) (t u : Totals) (k l : FateState)
    (xs : List Stamped) → IsTurn boxes d e o p t t k k [] → IsTurn boxes e f p q t u k l xs → IsTurn boxes d f o q t u k l xs
turn-both boxes d e f o p q t u k l xs a b = record {
  later = record {
    actor = b.later.actor ∙ a.later.actor;
    part = begins-trans d.part.items e.part.items f.part.items a.later.part b.later.part;
    ins = begins-trans (ins_of d.inbox) (ins_of e.inbox) (ins_of f.inbox) a.later.ins b.later.ins;
  };
  part = b.part ∙ ap (λ l. l ++ xs) (a.part ∙ append-nil d.part.items);
  out = (b.out.0, b.out.1 ∙ a.out.1);
  more = more-trans o.ports.items p.ports.items q.ports.items a.more b.more;
  offered = offered-both (λ h. weight_of h o d) (λ h. weight_of h p e) (λ h. weight_of h q f) t t u k k l [] (made_by xs) a.offered b.offered;
  total = b.total;
  one = b.one;
  few = b.few;
}

-- one more entry, which is no retry
pub no-retry-one : (d d' : Desk) (x : Stamped) → d'.part.items ≡ d.part.items ++ x ∷ [] → is_retry x.entry ≡ false → HasNoRetry d d'
no-retry-one d d' x is not_one n y le at =
    ⊎_elim (λ (e : slice_get d.part.items n ≡ Some y). let l = get-below d.part.items n y e in
    absurd (omega (arith, l, le))) (λ (e : (n ≡ length d.part.items) × (x ≡ y)). ap
    (λ (z : Stamped). is_retry z.entry) (sym e.1) ∙ not_one)
    (get-snoc d.part.items x n y (ap (λ l. slice_get l n) (sym is) ∙ at))

pub no-retry-none : (d d' : Desk) → d'.part.items ≡ d.part.items → HasNoRetry d d'
no-retry-none d d' is n y le at = let l = get-below d.part.items n y (ap (λ l. slice_get l n) (sym is) ∙ at) in absurd (omega (arith, l, le))

-- no retry in two halves, of which the first makes no entry
pub no-retry-both : (d e f : Desk) → e.part.items ≡ d.part.items → HasNoRetry e f → HasNoRetry d f
no-retry-both d e f part h n y le at = h n y (subst (λ l. length l ≤ n) (sym part) le) at

-- nothing was done
pub turn-self : (boxes : List Boxed) (d : Desk) (o : Outbox) (t : Totals) (f : FateState) → IsOutbox boxes o → IsTotal t → IsTurn boxes d d o o t t f f []
turn-self boxes d o t f out total = turn-none boxes d d o t f refl refl refl (begins-refl (ins_of d.inbox)) out total

-- the same desk
pub turn-still : (boxes : List Boxed) (d d' : Desk) (o : Outbox) (t : Totals) (f : FateState) → d' ≡ d
    → IsOutbox boxes o → IsTotal t → IsTurn boxes d d' o o t t f f []
turn-still boxes d d' o t f same out total = subst (λ (e : Desk). IsTurn boxes d e o o t t f f []) (sym same) (turn-self boxes d o t f out total)

pub turn-from : (boxes : List Boxed) (d d' e : Desk) (o p : Outbox) (t u : Totals) (k l : FateState)
    (xs : List Stamped) → d' ≡ d → IsTurn boxes d' e o p t u k l xs → IsTurn boxes d e o p t u k l xs
turn-from boxes d d' e o p t u k l xs same h = subst (λ (x : Desk). IsTurn boxes x e o p t u k l xs) same h
