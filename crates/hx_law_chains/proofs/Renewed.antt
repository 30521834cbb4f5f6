-- A server adopts a configuration, or halts: its slots forget acknowledgements and early updates, and then its step goes on like any other.
use Rattle.std.proofs.Common.{◌≡◌, ℕ, ◌≤◌, ◌⊎◌, inl, inr, List, [], ◌++◌, refl, sym, ap, ◌∙◌, subst, arith, cond}
use Rattle.std.proofs.lemmas.Bool.{cond_both}
use Rattle.hx_model.specs.Types.{Post, RegionId, ServerId}
use Rattle.hx_types.specs.Words.{IsIn, same_server}
use Rattle.hx_model.specs.ServerSteps.{ServerState, state_in}
use Rattle.hx_model.specs.Slots.{Forget, KeyState, moved}
use Rattle.hx_law_lemmas.specs.Words.{view}
use Rattle.hx_law_epochs.specs.Epochs.{order}
use Rattle.hx_law_epochs.proofs.Lemmas.{Installed}
use Rattle.hx_law_chains.proofs.Holders.{each-server, under-way, up-before, with_state_of}
use Rattle.hx_law_chains.proofs.Renewing.{stays_renewed}
use Rattle.hx_law_chains.proofs.Saying.{OfWrite}
use Rattle.hx_law_chains.proofs.Serving.{Scene, Served, Stage, after, installed-now, live-now, st, world, write-late}
use Rattle.hx_law_chains.proofs.World.{Stays, Valid, World, stays-then}

-- the scene with another state of a server
abbrev pub renewed-scene : Scene → ServerId → ServerState → Scene
renewed-scene e i p = record e { servers = with_state_of e.servers i p }

-- the server's state before it goes on: in this configuration, or halted, with the replicas that it had, whose slots have forgotten
pub record Forgets (stage : Stage) (p : ServerState) : Type 0 where
  pub known : stage.scene.known p.config
  pub later : (stage.scene.servers stage.server).config.epoch.0 ≤ p.config.epoch.0
  pub grows : (g : RegionId) → Installed (st stage) g → Installed p g
  pub home : (g : RegionId) → Installed p g → IsIn stage.server (order p.config g)
  pub was : (g : RegionId) (at : Installed p g) → (b : Installed (st stage) g) × ((key : List ℕ)
      → view p (state_in stage.scene.script.space at.replica key) ≡ moved Forget (state_in stage.scene.script.space b.replica key))

module _ (stage : Stage) (p : ServerState) (forgets : Forgets stage p) where
  open stage use {scene as e, asked, ordered as o, keys as ok, server as i, up as here}

  -- the servers after
  abbrev N : ServerId → ServerState
  N = with_state_of e.servers i p

  -- where all stand after
  abbrev renewed : World
  renewed = world (renewed-scene e i p)

  -- an installed replica stays so
  kept : (g : RegionId) (s : ServerId) → Installed (e.servers s) g → Installed (N s) g
  kept g = each-server e.servers i p (λ s st. Installed (e.servers s) g → Installed st g) (λ h. forgets.grows g (installed-now stage g h)) (λ s h. h)

  -- where a holder at a server comes from
  abbrev From : List ℕ → RegionId → ServerId → KeyState → ServerState → Type 0
  From key g s t st = ((world e).holds key g s t × (st.config ≡ (e.servers s).config))
      ⊎ ((old : KeyState) × (world e).holds key g s old × (t ≡ moved Forget old))

  from : (key : List ℕ) (g : RegionId) (s : ServerId) (t : KeyState) → renewed.holds key g s t → From key g s t (N s)
  from key g s t (inr w) = inr (
    t,
    inr (under-way e.script.space e.Real N e.servers e.config e.config e.posts e.posts key g s t w
        (up-before e.Real e.servers i p here s) (λ l. l) (kept g s) w.posted),
    w.is ∙ ap (moved Forget) (sym w.is),
  )
  from key g s t (inl l) = each-server e.servers i p (λ x st. IsIn x (order e.config g) → (at : Installed st g)
      → t ≡ view st (state_in e.script.space at.replica key) → From key g x t st)
      (λ listed at is. let b = forgets.was g at in inr (state_in e.script.space b.0.replica key, live-now stage key g b.0, is ∙ b.1 key))
      (λ x listed at is. inl (inl (record { listed = listed; at = at; is = is }), refl))
      s l.listed l.at l.is

  -- what is kept
  pub renewed-stays : Stays e.script (world e) renewed
  renewed-stays = stays_renewed e.script (world e) o
      (record { own = renewed.own; up = renewed.up; holds = renewed.holds; installed = renewed.installed; known = e.known })
      (record {
        more = λ c k. k;
        less = λ c k. k;
        own = each-server e.servers i p (λ s st. e.known st.config) forgets.known o.own;
        kept = kept;
        home = λ g. each-server e.servers i p (λ s st. Installed st g → IsIn s (order st.config g)) (forgets.home g) (o.home g);
        ups = up-before e.Real e.servers i p here;
        later = each-server e.servers i p (λ s st. (e.servers s).config.epoch.0 ≤ st.config.epoch.0) forgets.later (λ s. omega arith);
        from = from;
        seat = λ key g s h l. (view (N s) (state_in e.script.space h.replica key), inl (record { listed = l; at = h; is = refl }));
      }) ok

  -- what is kept by the step that goes on from there, assigns nothing and posts of writes alone, is kept by the whole
  pub renewed-served : (q : ServerState) (new : List Post) → ((x : Post) → IsIn x new → OfWrite e.script x.to x.message)
      → Served (renewed-scene e i p) asked i q [] new → Served e asked i q [] new
  renewed-served q new writes s = record {
    stays = stays-then e.script (world e) renewed (world (after e i q [] new)) renewed-stays both.0;
    posts = λ x j. record { valid = both.1 x j; late = write-late e asked i x.to x.message (writes x j); says = (s.posts x j).says };
    lines = λ key. inl refl;
    same = λ key v f. refl;
  }
    where
      -- the servers are the same
      twice : (s : ServerId) → with_state_of N i q s ≡ with_state_of e.servers i q s
      twice s = cond_both (same_server i s) p (e.servers s) (λ (st : ServerState). cond (same_server i s) q st ≡ cond (same_server i s) q (e.servers s))
          (λ t. ap (λ b. cond b q p) t ∙ ap (λ b. cond b q (e.servers s)) (sym t)) (λ t. refl)

      -- where all stand after, by these
      by : (ServerId → ServerState) → World
      by M = world (record e { servers = M; posts = new ++ e.posts })

      both : Stays e.script renewed (by (with_state_of e.servers i q))
          × ((x : Post) → IsIn x new → Valid e.script (by (with_state_of e.servers i q)) x.from x.to x.message)
      both = subst (λ (M : ServerId → ServerState). Stays e.script renewed (by M) × ((x : Post) → IsIn x new → Valid e.script (by M) x.from x.to x.message))
          (λ j x. twice x j) (s.stays, λ x j. (s.posts x j).valid)
