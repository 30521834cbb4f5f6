-- Whom the servers of a run take messages between replicas from: their neighbours, by their own
-- configurations; any other message is dropped, and at most the newest configuration is asked for.
use Rattle.std.proofs.Common.{◌≡◌, inl, inr, true, false, not, List, [], ◌∷◌, ◌++◌, Option, None, Some, refl, sym, ap, ◌∙◌, subst, cond}
use Rattle.std.specs.Prelude.{nat_lt}
use Rattle.std.proofs.lemmas.Bool.{cond-false, cond_both}
use Rattle.hx_model.specs.Types.{Actor, Epoch, Message, Post, RegionId, Server, ServerId, Space, Update}
use Rattle.hx_types.specs.declared.messages.Message.TheVariants as a_message
use Rattle.hx_types.specs.Words.{provided}
use Rattle.hx_model.specs.Hearing.{hears_ack, hears_snap, hears_update}
use Rattle.hx_model.specs.Neighbours.{place_number}
use Rattle.hx_model.specs.Runs.{Output, has_halted, server_of}
use Rattle.hx_model.specs.ServerSteps.{Replica, ServerState, ServerStep, ack_step, acked, acked_of, at_slot, context_of, if_installed, installed_slots, meeting}
use Rattle.hx_model.specs.ServerSteps.{message_step, pending_with, poll_post, ready_post, replica_for, saying, server_step, snapped, state_in, unmoved}
use Rattle.hx_model.specs.ServerSteps.{update_step, updated, with_slots}
use Rattle.hx_law_lemmas.proofs.Lemmas.{replica-found}
use Rattle.hx_law_epochs.proofs.Lemmas.{epochs-run, installed-is, replica_for-is}
use Rattle.hx_law_chains.specs.Chains.{HearsNeighbour, IsDropped, RunsHearNeighbours}
use Rattle.hx_law_chains.proofs.Entered.{made-by, state-by}

-- the replica that takes messages for a region is of the region
taken-region : (st : ServerState) (g : RegionId) (r : Replica) → replica_for st g ≡ Some r → r.region ≡ g
taken-region st g r e = (replica-found g st.replicas r (replica_for-is st g r e).found).1

-- nothing happens to a message
dropped : (st : ServerState) (epoch : Epoch) → IsDropped st st epoch (meeting st epoch (unmoved st)).posts
dropped st epoch = record { state = refl; posted = end (provided (nat_lt st.config.epoch.0 epoch.0) (poll_post st ∷ [])) }
  where
    end : (ps : List Post) → ps ++ [] ≡ ps
    end [] = refl
    end (p ∷ ps) = ap (λ (l : List Post). p ∷ l) (end ps)

-- a step on a message
hears : (space : Space) (st : ServerState) (from : Actor) (m : Message)
    → let step = message_step space st from m in HearsNeighbour space st.id st step.state step.posts from m
hears space st from (a_message.Update epoch g u) = by (if_installed (replica_for st g)) refl
  where
    Good : ServerStep → Type 0
    Good step = HearsNeighbour space st.id st step.state (meeting st epoch step).posts from (a_message.Update epoch g u)

    by : (o : Option Replica) → if_installed (replica_for st g) ≡ o → Good (updated space st from u o)
    by None e = inr (dropped st epoch)
    by (Some r) e =
        cond_both (hears_update st.config u (place_number r.region u.places) st.id from)
        (at_slot st r (state_in space r u.key) (update_step (context_of space st r.region) (state_in space r u.key) u)) (unmoved st) Good
        (λ t. inl (
          r,
          e,
          subst (λ (x : RegionId). hears_update st.config u (place_number x u.places) st.id from ≡ true)
              (taken-region st g r (installed-is (replica_for st g) r e).0) t,
        ))
        (λ t. inr (dropped st epoch))
hears space st from (a_message.Ack epoch g region key v) = by (if_installed (replica_for st g)) refl
  where
    Good : ServerStep → Type 0
    Good step = HearsNeighbour space st.id st step.state (meeting st epoch step).posts from (a_message.Ack epoch g region key v)

    by : (o : Option Replica) → if_installed (replica_for st g) ≡ o → Good (acked space st from key v.0 region o)
    by None e = inr (dropped st epoch)
    by (Some r) e = of (pending_with v.0 (state_in space r key)) refl
      where
        of : (o : Option Update) → pending_with v.0 (state_in space r key) ≡ o → Good (acked_of space st from region r (state_in space r key) v.0 o)
        of None f = inr (dropped st epoch)
        of (Some u) f =
            cond_both (hears_ack st.config u (place_number r.region u.places) st.id from region)
            (at_slot st r (state_in space r key) (ack_step (context_of space st r.region) (state_in space r key) v.0)) (unmoved st) Good
            (λ t. inl (
              r,
              u,
              e,
              f,
              subst (λ (x : RegionId). hears_ack st.config u (place_number x u.places) st.id from region ≡ true)
                  (taken-region st g r (installed-is (replica_for st g) r e).0) t,
            ))
            (λ t. inr (dropped st epoch))
hears space st from (a_message.Snap epoch g snapshot pending) = by (replica_for st g) refl
  where
    Good : ServerStep → Type 0
    Good step = HearsNeighbour space st.id st step.state (meeting st epoch step).posts from (a_message.Snap epoch g snapshot pending)

    by : (o : Option Replica) → replica_for st g ≡ o → Good (snapped space st from snapshot pending o)
    by None e = inr (dropped st epoch)
    by (Some r) e = of (hears_snap st.config r.region st.id from) refl
      where
        takes : ServerStep
        takes = cond r.installed (saying st (ready_post st r.region)) (with_slots st r (installed_slots (context_of space st r.region) snapshot pending))

        of : (b : _) → hears_snap st.config r.region st.id from ≡ b → Good (cond (not b) (unmoved st) takes)
        of true t = inl (r, e, subst (λ (x : RegionId). hears_snap st.config x st.id from ≡ true) (taken-region st g r e) t)
        of false t = inr (dropped st epoch)
hears space st from other = tt

-- in every run
pub runs_hear_neighbours : RunsHearNeighbours
runs_hear_neighbours script valid x older run s acts id from m input =
    subst (λ (y : ServerState). HearsNeighbour script.space s st y x.outputs from m) (sym (state-by script x older s acts))
    (subst (λ (ps : List Post). HearsNeighbour script.space s st (server_step script.space st x.input).state ps from m)
    (ap (λ (y : Output). y.posts) (made-by script x older run (Server s) acts))
    (subst (λ (step : ServerStep). HearsNeighbour script.space s st step.state step.posts from m) (sym step-is)
    (subst (λ (i : ServerId). let step = message_step script.space st from m in HearsNeighbour script.space i st step.state step.posts from m)
    ((epochs-run script valid older run.1).shaped s).id (hears script.space st from m))))
  where
    st : ServerState
    st = server_of script s older

    running : (server_of script s older).halted ≡ false
    running = subst (λ (a : Actor). has_halted script older a ≡ false) acts run.0.running

    step-is : server_step script.space (server_of script s older) x.input ≡ message_step script.space (server_of script s older) from m
    step-is = ap (server_step script.space (server_of script s older)) input
        ∙ cond-false (server_of script s older).halted (unmoved (server_of script s older)) (message_step script.space (server_of script s older) from m)
        running
