-- Ports that put.
use Rattle.std.proofs.Common.{◌≡◌, ◌≢◌, ℕ, zero, suc, ◌+◌, ◌^◌, ◌<◌, ⊎_elim, true, false, cond, eqb, List, [], ◌∷◌}
use Rattle.std.proofs.Common.{◌++◌, length, slice_index_or, slice_set, Option, Some, None, refl, ap, sym, subst, ◌∙◌}
use Rattle.std.proofs.Common.{arith, length-append}
use Rattle.std.specs.List.{AllByRecursion}
use Rattle.std.proofs.lemmas.Bool.Decides.{eqb_tells}
use mathlib.Core.List.{IsPrefix}
use Rattle.hx_clock.specs.Views.{total}
use Rattle.hx_clock.proofs.Lemmas.{each_append, total-append}
use Rattle.hx_mail.specs.declared.views.BoxNames.{BoxNames}
use Rattle.hx_mail.specs.declared.views.Mailed.{Mailed}
use Rattle.hx_mail.specs.declared.views.PortView.{PortView}
use Rattle.hx_mail.specs.Boxes.{Boxed, Ported, IsPortOf}
use Rattle.hx_mail.specs.Ports.{after_put, lists_of, port}
use Rattle.hx_outbox.specs.Zipped.{Both}
use Rattle.hx_outbox.specs.Outboxes.{counts_of, out_weight, outs_of, put_first, AreFew, IsOutPort, MorePut}
use Rattle.hx_outbox.proofs.Lists.{set-total, at-total, total-one, begins-refl, begins-trans, set-map, at-map, map-length}

-- relations place by place
module _ {A B : Type 0} (R : A → B → Type 0) where
  pub both-long : (xs : List A) (ys : List B) → Both R xs ys → length ys ≡ length xs
  both-long [] [] h = refl
  both-long [] (y ∷ ys) h = absurd h
  both-long (x ∷ xs) [] h = absurd h
  both-long (x ∷ xs) (y ∷ ys) h = ap suc (both-long xs ys h.1)

  pub both-at : (xs : List A) (ys : List B) (i : ℕ) (x : A) (y : B) → Both R xs ys → i < length xs
      → x ≡ slice_index_or xs i x → y ≡ slice_index_or ys i y → R x y
  both-at [] ys i x y h lt e f = absurd (omega (arith, lt))
  both-at (a ∷ xs) [] i x y h lt e f = absurd h
  both-at (a ∷ xs) (b ∷ ys) zero x y h lt e f = subst (λ u. R u y) (sym e) (subst (R a) (sym f) h.0)
  both-at (a ∷ xs) (b ∷ ys) (suc i) x y h lt e f = both-at xs ys i x y h.1 (omega (arith, lt)) e f

  pub both-set : (xs : List A) (ys : List B) (i : ℕ) (x : A) (y : B) → Both R xs ys → i < length xs
      → x ≡ slice_index_or xs i x → R x y → Both R xs (slice_set ys i y)
  both-set [] ys i x y h lt e r = absurd (omega (arith, lt))
  both-set (a ∷ xs) [] i x y h lt e r = absurd h
  both-set (a ∷ xs) (b ∷ ys) zero x y h lt e r = (subst (λ u. R u y) e r, h.1)
  both-set (a ∷ xs) (b ∷ ys) (suc i) x y h lt e r = (h.0, both-set xs ys i x y h.1 (omega (arith, lt)) e r)

pub more-refl : (ps : List Ported) → MorePut ps ps
more-refl [] = tt
more-refl (p ∷ ps) = (begins-refl (outs_of p), more-refl ps)

pub more-set : (ps : List Ported) (i : ℕ) (p q : Ported) → p ≡ slice_index_or ps i p → IsPrefix (outs_of p) (outs_of q) → MorePut ps (slice_set ps i q)
more-set [] i p q e b = tt
more-set (x ∷ ps) zero p q e b = (subst (λ y. IsPrefix (outs_of y) (outs_of q)) e b, more-refl ps)
more-set (x ∷ ps) (suc i) p q e b = (begins-refl (outs_of x), more-set ps i p q e b)

eqb-same : (k : ℕ) → eqb k k ≡ true
eqb-same k = ⊎_elim (λ (h : (eqb k k ≡ true) × (k ≡ k)). h.0) (λ (h : (eqb k k ≡ false) × (k ≢ k)). absurd (h.1 refl)) (eqb_tells k k)

put-view : (own : ℕ) (names : Option BoxNames) (us : List Mailed) (m : Mailed)
    → after_put m (port own names (lists_of own us [] ∷ []) None) ≡ port own names (lists_of own (us ++ m ∷ []) [] ∷ []) None
put-view own names us m = ap (λ c. port own names (cond c (lists_of own (us ++ m ∷ []) []) (lists_of own us []) ∷ []) None) (eqb-same own)

-- the port after a put
pub put-out : (j : ℕ) (box : Boxed) (p q : Ported) (m : Mailed) → IsOutPort j box p → IsPortOf box q
    → q.view ≡ after_put m (p.view) → m.post.to ≡ box.names.owner
    → IsOutPort j box q × (outs_of q ≡ outs_of p ++ m ∷ [])
put-out j box p q m h of e to =
    let v : q.view ≡ port (j + 1) (Some (box.names)) (lists_of (j + 1) (outs_of p ++ m ∷ []) [] ∷ []) None =
    e ∙ ap (after_put m) h.view ∙ put-view (j + 1) (Some (box.names)) (outs_of p) m in
    let o : outs_of q ≡ outs_of p ++ m ∷ [] = ap (λ (w : PortView). put_first w.lists) v in (
      record {
        of = of;
        view = v ∙ ap (λ us. port (j + 1) (Some (box.names)) (lists_of (j + 1) us [] ∷ []) None) (sym o);
        addressed = subst (AllByRecursion (λ m. m.post.to ≡ box.names.owner)) (sym o) (each_append _ (outs_of p) (m ∷ []) h.addressed (to, tt));
      },
      o,
    )

-- the port after the box was full
pub kept-out : (j : ℕ) (box : Boxed) (p q : Ported) → IsOutPort j box p → IsPortOf box q → q.view ≡ p.view → IsOutPort j box q × (outs_of q ≡ outs_of p)
kept-out j box p q h of e =
    let o : outs_of q ≡ outs_of p = ap (λ (w : PortView). put_first w.lists) e in (
      record {
        of = of;
        view = e ∙ h.view ∙ ap (λ us. port (j + 1) (Some (box.names)) (lists_of (j + 1) us [] ∷ []) None) (sym o);
        addressed = subst (AllByRecursion (λ m. m.post.to ≡ box.names.owner)) (sym o) h.addressed;
      },
      o,
    )

pub weight-put : (ps : List Ported) (i : ℕ) (p q : Ported) (m : Mailed) → i < length ps → p ≡ slice_index_or ps i p → outs_of q ≡ outs_of p ++ m ∷ []
    → (h : Mailed → ℕ) → out_weight h (slice_set ps i q) ≡ out_weight h ps + h m
weight-put ps i p q m lt e o h =
    omega (arith, set-total (λ x. total h (outs_of x)) ps i p q lt e, ap (total h) o, total-append h (outs_of p) (m ∷ []))

pub weight-kept : (ps : List Ported) (i : ℕ) (p q : Ported) → i < length ps → p ≡ slice_index_or ps i p → outs_of q ≡ outs_of p
    → (h : Mailed → ℕ) → out_weight h (slice_set ps i q) ≡ out_weight h ps
weight-kept ps i p q lt e o h = omega (arith, set-total (λ x. total h (outs_of x)) ps i p q lt e, ap (total h) o)

pub sent-at : (ps : List Ported) (sent : List ℕ) (i : ℕ) (p : Ported) (s : ℕ) → sent ≡ counts_of ps → i < length ps
    → p ≡ slice_index_or ps i p → s ≡ slice_index_or sent i s → s ≡ length (outs_of p)
sent-at ps sent i p s same lt e f = f ∙ ap (λ l. slice_index_or l i s) same ∙ at-map (λ p. length (outs_of p)) ps i p s lt e

pub sent-put : (ps : List Ported) (sent : List ℕ) (i : ℕ) (p q : Ported) (m : Mailed) (s : ℕ) → sent ≡ counts_of ps
    → i < length ps → p ≡ slice_index_or ps i p → s ≡ slice_index_or sent i s
    → outs_of q ≡ outs_of p ++ m ∷ [] → slice_set sent i (s + 1) ≡ counts_of (slice_set ps i q)
sent-put ps sent i p q m s same lt e f o =
    let n : s + 1 ≡ length (outs_of q) = omega (arith, sent-at ps sent i p s same lt e f, ap length o, length-append (outs_of p) (m ∷ [])) in
    ap (λ l. slice_set l i (s + 1)) same ∙ ap (λ k. slice_set (counts_of ps) i k) n ∙ sym (set-map (λ p. length (outs_of p)) ps i q)

same-at : {A : Type 0} (xs : List A) (i : ℕ) (x : A) → i < length xs → x ≡ slice_index_or xs i x → slice_set xs i x ≡ xs
same-at [] i x lt e = refl
same-at (a ∷ xs) zero x lt e = ap (λ y. y ∷ xs) e
same-at (a ∷ xs) (suc i) x lt e = ap (λ w. a ∷ w) (same-at xs i x (omega (arith, lt)) e)

pub sent-kept : (ps : List Ported) (sent : List ℕ) (i : ℕ) (p q : Ported) → sent ≡ counts_of ps → i < length ps
    → p ≡ slice_index_or ps i p → outs_of q ≡ outs_of p → sent ≡ counts_of (slice_set ps i q)
sent-kept ps sent i p q same lt e o =
    same ∙ sym (same-at (counts_of ps) i (length (outs_of p))
    (omega (arith, map-length (λ p. length (outs_of p)) ps, lt)) (sym (at-map (λ p. length (outs_of p)) ps i p _ lt e)))
    ∙ ap (λ us. slice_set (counts_of ps) i (length us)) (sym o) ∙ sym (set-map (λ p. length (outs_of p)) ps i q)

-- the number of posts put under one port is small
pub sent-small : (ps : List Ported) (sent : List ℕ) (i : ℕ) (p : Ported) (s : ℕ) → sent ≡ counts_of ps → i < length ps
    → p ≡ slice_index_or ps i p → s ≡ slice_index_or sent i s → AreFew ps → s < 2 ^ 63
sent-small ps sent i p s same lt e f few =
    omega (arith, sent-at ps sent i p s same lt e f, at-total (λ x. total (λ m. 1) (outs_of x)) ps i p lt e, total-one (outs_of p), few)

pub more-trans : (ps qs rs : List Ported) → MorePut ps qs → MorePut qs rs → MorePut ps rs
more-trans [] [] [] h k = tt
more-trans [] [] (r ∷ rs) h k = absurd k
more-trans [] (q ∷ qs) rs h k = absurd h
more-trans (p ∷ ps) [] rs h k = absurd h
more-trans (p ∷ ps) (q ∷ qs) [] h k = absurd k
more-trans (p ∷ ps) (q ∷ qs) (r ∷ rs) h k = (begins-trans (outs_of p) (outs_of q) (outs_of r) h.0 k.0, more-trans ps qs rs h.1 k.1)
