-- What is lost has lost its replicas: a server that was ready in a lost region and hasn't halted would be ready there still.
use Rattle.hx_law_lemmas.proofs.Lemmas.Vocabulary.{Bool, Config, coordinator_of, false, false≢true, is_lost, lists_ready, refl, RegionId, server_of, ServerId}
use Rattle.hx_law_lemmas.proofs.Lemmas.Vocabulary.{sym, true, ◌∙◌, ◌≡◌}
use Rattle.hx_law_epochs.specs.Epochs.{RunsLoseReplicas}
use Rattle.hx_law_epochs.proofs.Follows.{ready-member, ready-not_lost}
use Rattle.hx_law_epochs.proofs.Runs.{comes, epochs-run}

-- a lost region has no ready member
none-ready : (n : Config) (g : RegionId) (s : ServerId) → lists_ready n g s ≡ true → is_lost n g ≡ true → ⊥
none-ready n g s r l = let m = ready-member n g s r in false≢true (sym (ready-not_lost n g m.0 m.1 m.3) ∙ l)

pub runs_lose_replicas : RunsLoseReplicas
runs_lose_replicas script valid t run of_lost of_listed lost listed e f g is s real ready = by (server_of script s t).halted refl
  where
    newest : Config
    newest = (coordinator_of script t).config

    by : (h : Bool) → (server_of script s t).halted ≡ h → (server_of script s t).halted ≡ true
    by true q = q
    by false q =
        let i = (epochs-run script valid t run).epochs.listed s real q in
        absurd (none-ready newest g s ((comes script valid t run of_listed listed f).ready g s i ready) ((comes script valid t run of_lost lost e).lost g is))
