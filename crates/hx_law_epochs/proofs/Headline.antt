-- The law on what every run keeps of epochs.
use Rattle.hx_law_lemmas.proofs.Lemmas.Vocabulary.{[], Actor, ap, cond-true, cond_both, Config, config_of, coordinator_of, Entry, Epoch, false≢true}
use Rattle.hx_law_lemmas.proofs.Lemmas.Vocabulary.{if_installed, inl, inr, is_some, IsIn, IsPosted, List, Message, None, Option, Post, post, posts_of, refl}
use Rattle.hx_law_lemmas.proofs.Lemmas.Vocabulary.{RegionId, Replica, replica_of, Script, Server, server_of, ServerId, ServerState, Some, true, ◌∙◌, ◌∷◌, ◌≡◌}
use Rattle.hx_types.specs.declared.messages.Message.TheVariants as a_message
use Rattle.hx_law_lemmas.proofs.Lemmas.{in-listed, in_left, in_right}
use Rattle.hx_law_epochs.specs.Epochs.{EpochsHold, HasTold, IsInstalled, RunsKeepEpochs}
use Rattle.hx_law_epochs.proofs.Facts.{Installed, Says}
use Rattle.hx_law_epochs.proofs.Runs.{EpochsRun, IsKnown, epochs-run}

-- an installed replica is found installed
pub found-installed : (st : ServerState) (g : RegionId) → Installed st g → IsInstalled st g
found-installed st g i =
    ap (λ (o : Option Replica). is_some (if_installed o)) i.found
    ∙ ap (λ (o : Option Replica). is_some o) (cond-true i.replica.installed (Some i.replica) None i.installed)

-- a post that stands in a trace is one of its posts
posted-in : (t : List Entry) (p : Post) → IsPosted t p → IsIn p (posts_of t)
posted-in [] p h = absurd h
posted-in (x ∷ older) p (inl i) = in_left x.outputs (posts_of older) p i
posted-in (x ∷ older) p (inr h) = in_right x.outputs (posts_of older) p (posted-in older p h)

-- and what is found installed is
pub installed-found : (st : ServerState) (g : RegionId) → IsInstalled st g → Installed st g
installed-found st g = by (replica_of g st.replicas) refl
  where
    by : (o : Option Replica) → replica_of g st.replicas ≡ o → is_some (if_installed o) ≡ true → Installed st g
    by None e h = absurd (false≢true h)
    by (Some r) e h =
        cond_both r.installed (Some r) None (λ o. is_some o ≡ true → Installed st g)
        (λ t h. record { replica = r; found = e; installed = t })
        (λ t h. absurd (false≢true h))
        h

-- what a server told
told-stays : (script : Script) (t : List Entry) (s : ServerId) (to : Actor) (m : Message)
    → Says (λ x. server_of script x t) (IsKnown script t) (coordinator_of script t).config (Server s) to m → HasTold script t s m
told-stays script t s to a_message.Gone h = h
told-stays script t s to (a_message.Ready epoch g) h = found-installed (server_of script s t) g h.1
told-stays script t s to other h = tt

-- in every run
pub runs_keep_epochs : RunsKeepEpochs
runs_keep_epochs script valid t run = by (epochs-run script valid t run)
  where
    by : EpochsRun script t → EpochsHold script t
    by k = record {
      servers_known = k.known.servers;
      sessions_known = k.known.sessions;
      newest_known = k.known.newest;
      older = λ s. k.epochs.last (server_of script s t).config (k.epochs.own s);
      listed = k.epochs.listed;
      home = λ s g h. in-listed (server_of script s t).config g s (k.epochs.home g s (installed-found (server_of script s t) g h));
      ready = λ epoch c e g s r. found-installed (server_of script s t) g (k.epochs.ready c (own-epoch epoch c e k) g s r);
      told = λ s to m p. told-stays script t s to m (k.epochs.says (post (Server s) to m) (posted-in t (post (Server s) to m) p));
      installs = λ from to config p. (let install = post from to (a_message.Install config) in
          let known = k.epochs.says install (posted-in t install p) in (known, k.epochs.last config known));
    }
      where
        -- a configuration of an epoch is known
        own-epoch : (epoch : Epoch) (c : Config) → config_of script epoch t ≡ Some c → EpochsRun script t → IsKnown script t c
        own-epoch epoch c e k = ap (λ (x : Epoch). config_of script x t) (k.known.on.only epoch c e).2 ∙ e
