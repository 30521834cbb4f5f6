-- Each step of the coordinator tells what it may, and issues a configuration that may be issued after its own, or none.
use Rattle.hx_law_lemmas.proofs.Lemmas.Vocabulary.{[], Actor, ap, Config, config_ready, config_with, config_without, Coordinator, coordinator_step}
use Rattle.hx_law_lemmas.proofs.Lemmas.Vocabulary.{CoordinatorState, CoordinatorStep, Deliver, false, inl, Input, inr, is_lost, IsIn, judged, List, Message}
use Rattle.hx_law_lemmas.proofs.Lemmas.Vocabulary.{None, Post, refl, RegionId, Server, ServerId, ServerState, subst, sym, true, ◌++◌, ◌∙◌, ◌∷◌, ◌≡◌, ◌⊎◌}
use Rattle.hx_types.specs.declared.messages.Message.TheVariants as a_message
use Rattle.hx_types.specs.declared.traces.Note.TheVariants as a_note
use Rattle.hx_law_lemmas.proofs.Lemmas.{coordinator-cases}
use Rattle.hx_law_epochs.proofs.CoordinatorPosts.{Controls, Rules, commands, controls-of}
use Rattle.hx_law_epochs.proofs.Facts.{EpochsKept, Installed, Says, others-say}
use Rattle.hx_law_epochs.proofs.Makers.{ready-follows, ready-orderly, ready-ready, with-follows, with-orderly, with-ready, without-follows, without-leaves}
use Rattle.hx_law_epochs.proofs.Makers.{without-orderly, without-ready}
use Rattle.hx_law_epochs.proofs.Next.{IsOrderly}
use Rattle.hx_law_epochs.proofs.Widening.{MayIssue, Widens, issued-kept, more-kept, same-kept}

module _ (S : ServerId → ServerState) where
  -- a configuration is kept, or one that may be issued is noted
  abbrev GoesOn : Config → CoordinatorStep → Type 0
  GoesOn c step = ((step.state.config ≡ c) × (step.notes ≡ [])) ⊎ (MayIssue S c step.state.config × (step.notes ≡ a_note.Issued step.state.config ∷ []))

  -- what a step of the coordinator makes of its configuration, and what it posts
  pub record Coordinates (c : Config) (step : CoordinatorStep) : Type 0 where
    pub next : GoesOn c step
    pub controls : (p : Post) → IsIn p step.posts → Rules step.state.config p

  module _ (d : CoordinatorState) (ok : IsOrderly d.config) where
    -- a server that says that it is gone is left out
    gone-may : (s : ServerId) → (S s).halted ≡ true → MayIssue S d.config (config_without d.config s)
    gone-may s h = record {
      follows = without-follows d.config s ok;
      orderly = without-orderly d.config s ok;
      departed = λ x i. elim (without-leaves d.config s x i) [ inl j ↦ inl j | inr e ↦ inr (ap (λ (y : ServerId). (S y).halted) e ∙ h) ];
      ready = λ g x t. inl (without-ready d.config s ok g x t);
    }

    -- a joiner that says that it is ready is so
    ready-may : (s : ServerId) (g : RegionId) → Installed (S s) g → is_lost d.config g ≡ false → MayIssue S d.config (config_ready d.config s g)
    ready-may s g h alive = record {
      follows = ready-follows d.config s g ok alive;
      orderly = ready-orderly d.config s g ok alive;
      departed = λ x i. inl i;
      ready = λ k x t. elim (ready-ready d.config s g ok alive k x t) [
        | inl u ↦ inl u
        | inr (a, b) ↦ inr (subst (λ (y : ServerId). Installed (S y) k) (sym b) (subst (λ (z : RegionId). Installed (S s) z) (sym a) h))
      ];
    }

    -- a replica is added
    add-may : (s : ServerId) (g : RegionId) → judged d.config s g ≡ None → MayIssue S d.config (config_with d.config s g)
    add-may s g e = record {
      follows = with-follows d.config s g ok e;
      orderly = with-orderly d.config s g ok e;
      departed = λ x i. inl i;
      ready = λ k x t. inl (with-ready d.config s g ok e k x t);
    }

    -- each step of the coordinator
    pub coordinates : (known : Config → Type 0) (input : Input)
        → ((id : _) (from : Actor) (m : Message) → input ≡ Deliver id from m → Says S known d.config from Coordinator m)
        → Coordinates d.config (coordinator_step d input)
    coordinates known input v = record {
      next = coordinator-cases d input (GoesOn d.config) (record {
        rests = inl (refl, refl);
        ticks = inl (refl, refl);
        polled = λ id from epoch i. inl (refl, refl);
        gone = λ id s i. inr (gone-may s (v id (Server s) a_message.Gone i), refl);
        ready = λ id s epoch g i l. inr (ready-may s g (v id (Server s) (a_message.Ready epoch g) i).1 l, refl);
        told = λ id u number m n a i j k l e. inl (refl, refl);
        dies = λ id u number s i. inl (refl, refl);
        stopped = λ id u number s i t. inl (refl, refl);
        refused = λ id u number s g a i e. inl (refl, refl);
        joined = λ id u number s g i e. inr (add-may s g e, refl);
      });
      controls = (commands d input).posts;
    }

-- so what is kept of epochs stays so, of what is known then
pub coordinating-kept : (Real : ServerId → Type 0) (S : ServerId → ServerState) (known : Config → Type 0) (c : Config) (posts : List Post)
    → EpochsKept Real S known c posts → (step : CoordinatorStep) → Coordinates S c step
    → (after : Config → Type 0) → Widens known after c step.state.config → EpochsKept Real S after step.state.config (step.posts ++ posts)
coordinating-kept Real S known c posts kept step does after w =
    more-kept Real S after step.state.config posts (by does.next) step.posts
    (λ p i. let r = (does.controls p i).1 in others-say S after step.state.config Coordinator refl p.from p.to p.message
    (controls-of step.state.config p.message r) (λ c e. subst after (sym (subst (Controls step.state.config) e r)) w.newest))
  where
    by : GoesOn S c step → EpochsKept Real S after step.state.config posts
    by (inl (e, n)) = same-kept Real S known c posts kept after step.state.config w e
    by (inr (may, n)) = issued-kept Real S known c posts kept after step.state.config w may
