-- A slot without a past stands for every slot with a past of which it is the fold, and its steps do too.
use Rattle.hx_law_folds.proofs.Vocabulary.{[], Acknowledge, acknowledged, ap, AreAlike, folded, Forget, IsBare, IsLater, IsSlotOf, KeyState, List, Move, moved}
use Rattle.hx_law_folds.proofs.Vocabulary.{moved_all, offered, RegionId, settled, StandsFor, subst, sym, Update, ℕ, ◌∙◌, ◌∷◌, ◌≡◌}
use Rattle.hx_law_folds.proofs.Bare.{bare-offered, folded-bare}
use Rattle.hx_law_folds.proofs.Folds.{folded-twice}
use Rattle.hx_law_folds.proofs.Shown.{acknowledged-same, alike-show, offered-same, settled-same}
use Rattle.hx_law_folds.proofs.Moves.{acknowledged-good, keeps-all, offered-good}
use Rattle.hx_law_folds.proofs.Slots.{AllFit, alike-moved_all, fit-walk, settled-fit, slot-folded}

-- the moves of one and of the other
module _ (g : RegionId) (v s : KeyState) (h : StandsFor g v s) where
  pub lean-slot : IsSlotOf g v
  lean-slot = subst (IsSlotOf g) h.is (slot-folded g s h.slot)

  pub lean-bare : IsBare g v
  lean-bare = subst (IsBare g) h.is (folded-bare g s)

  pub lean-alike : AreAlike g v s
  lean-alike = ap (folded g) (sym h.is) ∙ folded-twice g s

  -- moves that are the same of both
  pub stands-moved : (ms ns : List Move) → ms ≡ ns → AllFit g v ms → AllFit g s ns → StandsFor g (folded g (moved_all ms v)) (moved_all ns s)
  stands-moved ms ns e a b = record {
    slot = keeps-all (fit-walk g) ns s h.slot b;
    is = sym (alike-moved_all g ms v s lean-alike a (subst (AllFit g s) (sym e) b) ∙ ap (λ (l : List Move). folded g (moved_all l s)) e);
  }

  pub stands-settled : StandsFor g (folded g (moved_all (settled v) v)) (moved_all (settled s) s)
  stands-settled = stands-moved (settled v) (settled s)
      (settled-same g v s (alike-show g v s lean-slot h.slot lean-alike)) (settled-fit g v lean-slot) (settled-fit g s h.slot)

  pub stands-acknowledged : (n : ℕ) → StandsFor g (folded g (moved_all (acknowledged v n) v)) (moved_all (acknowledged s n) s)
  stands-acknowledged n = stands-moved (acknowledged v n) (acknowledged s n)
      (acknowledged-same g v s lean-slot h.slot lean-alike n) (acknowledged-good (fit-walk g) v n lean-slot)
      (acknowledged-good (fit-walk g) s n h.slot)

  pub stands-offered : (u : Update) → IsLater g u → StandsFor g (moved_all (offered g v u) v) (moved_all (offered g s u) s)
  stands-offered u l =
      subst (λ (x : KeyState). StandsFor g x (moved_all (offered g s u) s)) (bare-offered g v u lean-slot lean-bare l)
      (stands-moved (offered g v u) (offered g s u)
      (offered-same g v s (alike-show g v s lean-slot h.slot lean-alike) u)
      (offered-good (fit-walk g) v u lean-slot l) (offered-good (fit-walk g) s u h.slot l))

  -- moves that commit nothing need no folding
  pub stands-marked : (n : ℕ) → StandsFor g (moved (Acknowledge n) v) (moved (Acknowledge n) s)
  stands-marked n = record { slot = keeps-all (fit-walk g) (Acknowledge n ∷ []) s h.slot (tt, tt); is = ap (moved (Acknowledge n)) h.is }

  pub stands-forgotten : StandsFor g (moved Forget v) (moved Forget s)
  stands-forgotten = record { slot = keeps-all (fit-walk g) (Forget ∷ []) s h.slot (tt, tt); is = ap (moved Forget) h.is }
