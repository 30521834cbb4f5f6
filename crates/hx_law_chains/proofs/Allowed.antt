-- The rows Update and Ack at an installed replica: what it makes of an update from its predecessor,
-- and of an acknowledgement from its successor, by its server's own configuration, is allowed.
use Rattle.std.proofs.Common.{◌≡◌, ℕ, inl, true, List, Some, sym, subst, arith}
use Rattle.hx_model.specs.Types.{At, RegionId, Script, ServerId, Update}
use Rattle.hx_types.specs.Spaces.{IsSpace}
use Rattle.hx_types.specs.Configs.{head_of}
use Rattle.hx_model.specs.Neighbours.{region_at}
use Rattle.hx_model.specs.Slots.{KeyState, acknowledged, has_place, offered}
use Rattle.hx_model.specs.ServerSteps.{accepting, next_at, prev_at}
use Rattle.hx_law_epochs.proofs.Lemmas.{PrecedesInChain, number-placed}
use Rattle.hx_law_chains.proofs.Ending.{ends-own}
use Rattle.hx_law_chains.proofs.Joining.{first-placed}
use Rattle.hx_law_chains.proofs.Keys.{lined, not-to-lead}
use Rattle.hx_law_chains.proofs.Moves.{AllAllowed, accepting-allowed, acknowledged-allowed, offered-allowed}
use Rattle.hx_law_chains.proofs.World.{AckOk, Filled, HearsUpdate, KeyOk, May, Ordered, UpdateOk, World, around, context, ways}

module _ (script : Script) (valid : IsSpace script.space) (w : World) (o : Ordered w) (key : List ℕ) (ok : KeyOk script w key) (g : RegionId) (i : ServerId)
    (up : w.up i) (installed : w.installed g i) (t : KeyState) (held : w.holds key g i t) where
  -- the server has its own configuration
  may-own : May (ways w) i (w.own i)
  may-own = record { up = up; known = o.own i; later = omega arith }

  -- an update from the predecessor: it is known, or accepted with what its turn brings, or kept early
  pub update-own : (x : ServerId) (u : Update) → UpdateOk script w key x g i u → (n : ℕ) → prev_at (context script w g i) u ≡ At x n
      → AllAllowed (w.line key) g (around script w key g i) t (accepting (context script w g i) t (offered g t u))
  update-own x u h n e =
      let y : HearsUpdate (ways w) x g i u = record { config = w.own i; may = may-own; listed = o.home g i installed; place = n; at = e } in
      let z = h.heard y in
      let own = ok.own g i t held in
      accepting-allowed (w.line key) g (around script w key g i) (lined script w key (w.line key) ok.lawful g)
      (context script w g i) t (offered g t u) (ends-own script valid w o key ok g i up (o.home g i installed)) own
      (offered-allowed (w.line key) g (around script w key g i) (lined script w key (w.line key) ok.lawful g)
      t u own z.stands h.route.placed z.before
      (inl (λ q head. not-to-lead script valid w o key ok i (subst (λ (r : RegionId). head_of (w.own i) r ≡ Some i) q head) x u z.stands
      (subst (λ (r : RegionId). HearsUpdate (ways w) x r i u) q y))))

  -- an acknowledgement from the successor, of its replica of the region that it names
  pub ack-own : (x : ServerId) (by : RegionId) (v : ℕ) (h : AckOk script w key x by g i v) (n : ℕ) → next_at (context script w g i) h.update ≡ At x n
      → region_at h.update.places n ≡ by
      → AllAllowed (w.line key) g (around script w key g i) t (acknowledged t v)
  ack-own x by v h n e r =
      let z = h.heard (record { config = w.own i; may = may-own; listed = o.home g i installed; place = n; at = e; region = r }) in
      let own = ok.own g i t held in
      acknowledged-allowed (w.line key) g (around script w key g i) (lined script w key (w.line key) ok.lawful g)
      t v own (record {
        update = h.update;
        stands = h.stands;
        version = h.version;
        placed = h.placed;
        before = λ k s y hold a. h.everywhere k s y hold (earlier-placed k s a);
        after = z.1;
        closed = subst (Filled script w key h.update) (sym e) (subst (λ (q : RegionId). w.installed q x) (sym r) h.from);
        low = (let b = h.everywhere g i t held h.placed in let q = h.version in omega (arith, b, q));
      })
    where
      earlier-placed : (k : RegionId) (s : ServerId) → PrecedesInChain w.config h.update.places k s g i → has_place k h.update ≡ true
      earlier-placed k s a = number-placed h.update.places k (first-placed w.config h.update.places k s g i a)
