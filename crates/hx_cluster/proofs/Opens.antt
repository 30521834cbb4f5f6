-- Ports that were split off a new box.
use Rattle.std.proofs.Common.{◌≡◌, ℕ, suc, ◌+◌, List, [], ◌∷◌, ◌++◌, length, Some, None, refl, ap, sym, subst, ◌∙◌, arith}
use Rattle.std.specs.List.{AllByRecursion}
use Rattle.hx_mail.specs.declared.views.BoxNames.{BoxNames}
use Rattle.hx_mail.specs.declared.views.PortView.{PortView}
use Rattle.hx_mail.specs.Boxes.{Boxed, Ported, IsPortOf}
use Rattle.hx_mail.specs.Ports.{lists_of, port, split_off}
use Rattle.hx_outbox.specs.Zipped.{Both}
use Rattle.hx_outbox.specs.Outboxes.{put_first, outs_of, IsOutPort}
use Rattle.hx_cluster.specs.Opened.{AreOutPortsFrom}

-- the view of a first port of which n ports were split off
abbrev pub split_view : BoxNames → ℕ → PortView
split_view names n = port 0 (Some names) (lists_of 0 [] [] ∷ []) (Some n)

pub out-snoc : (j : ℕ) (box : Boxed) (ps : List Ported) (p : Ported) → AreOutPortsFrom j box ps
    → IsOutPort (j + length ps) box p → outs_of p ≡ [] → AreOutPortsFrom j box (ps ++ p ∷ [])
out-snoc j box [] p h o e = let z : j + 0 ≡ j = omega arith in (subst (λ k. IsOutPort k box p) z o, e, refl)
out-snoc j box (q ∷ ps) p h o e =
    let z : j + length (q ∷ ps) ≡ suc j + length ps = omega arith in
    (h.0, h.1, out-snoc (suc j) box ps p h.2 (subst (λ k. IsOutPort k box p) z o) e)

pub split-out : (j : ℕ) (box : Boxed) (p : Ported) (v : PortView) → v ≡ split_view box.names j → IsPortOf box p
    → p.view ≡ split_off v → IsOutPort j box p × (outs_of p ≡ [])
split-out j box p v e of k =
    let w : p.view ≡ port (j + 1) (Some box.names) (lists_of (j + 1) [] [] ∷ []) None = k ∙ ap split_off e in
    let o : outs_of p ≡ [] = ap (λ (x : PortView). put_first x.lists) w in (
      record {
        of = of;
        view = w ∙ ap (λ us. port (j + 1) (Some box.names) (lists_of (j + 1) us [] ∷ []) None) (sym o);
        addressed = subst (AllByRecursion (λ m. m.post.to ≡ box.names.owner)) (sym o) tt;
      },
      o,
    )

-- a pair at the end of each of two lists
pub both-snoc : {A B : Type 0} (R : A → B → Type 0) (xs : List A) (ys : List B) (x : A) (y : B) → Both R xs ys → R x y → Both R (xs ++ x ∷ []) (ys ++ y ∷ [])
both-snoc R [] [] x y h r = (r, tt)
both-snoc R [] (b ∷ ys) x y h r = absurd h
both-snoc R (a ∷ xs) [] x y h r = absurd h
both-snoc R (a ∷ xs) (b ∷ ys) x y h r = (h.0, both-snoc R xs ys x y h.1 r)
