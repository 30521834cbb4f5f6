-- A slot goes on standing for the whole list of the definitions.
use Rattle.std.proofs.Common.{◌≡◌, ℕ, sym, subst}
use Rattle.hx_model.specs.Types.{RegionId, Update}
use Rattle.hx_model.specs.Slots.{Acknowledge, Forget, KeyState, acknowledged, moved, moved_all, offered, settled}
use Rattle.hx_law_folds.specs.Folding.{IsAfter, StandsFor, folded}
use Rattle.hx_law_folds.proofs.Lemmas.{later-of, stands-acknowledged, stands-forgotten, stands-marked, stands-offered, stands-settled}

module _ (g h : RegionId) (v new s : KeyState) where
  at : (t : KeyState) → h ≡ g → {w : KeyState} → new ≡ w → StandsFor g w t → StandsFor h new t
  at t r n k = subst (λ (x : RegionId). StandsFor x new t) (sym r) (subst (λ (x : KeyState). StandsFor g x t) (sym n) k)

  pub stands-offer : (u : Update) → IsAfter u → new ≡ moved_all (offered g v u) v → h ≡ g → StandsFor g v s → StandsFor h new (moved_all (offered g s u) s)
  stands-offer u l n r k = at (moved_all (offered g s u) s) r n (stands-offered g v s k u (later-of g u l))

  pub stands-ack : (n : ℕ) → new ≡ folded g (moved_all (acknowledged v n) v) → h ≡ g → StandsFor g v s → StandsFor h new (moved_all (acknowledged s n) s)
  stands-ack n e r k = at (moved_all (acknowledged s n) s) r e (stands-acknowledged g v s k n)

  pub stands-mark : (n : ℕ) → new ≡ moved (Acknowledge n) v → h ≡ g → StandsFor g v s → StandsFor h new (moved (Acknowledge n) s)
  stands-mark n e r k = at (moved (Acknowledge n) s) r e (stands-marked g v s k n)

  pub stands-settle : new ≡ folded g (moved_all (settled v) v) → h ≡ g → StandsFor g v s → StandsFor h new (moved_all (settled s) s)
  stands-settle e r k = at (moved_all (settled s) s) r e (stands-settled g v s k)

  pub stands-reset : new ≡ moved Forget v → h ≡ g → StandsFor g v s → StandsFor h new (moved Forget s)
  stands-reset e r k = at (moved Forget s) r e (stands-forgotten g v s k)
