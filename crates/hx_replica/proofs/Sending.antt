-- What a tick posts: of lent updates what is posted of the updates.
use Rattle.std.proofs.Common.{◌≡◌, List, [], ◌∷◌, ◌++◌, append-nil, append_assoc, length, length-append, Option, None, Some, refl, ap, sym, ◌∙◌, arith}
use Rattle.std.specs.List.{flat_map}
use Rattle.hx_model.specs.Types.{Post, ServerId, Space}
use Rattle.hx_types.specs.Configs.{joiner_for}
use Rattle.hx_types.specs.Words.{provided}
use Rattle.hx_model.specs.ServerSteps.{Replica as ReplicaState, ServerState, asking_last, context_of, is_active}
use Rattle.hx_model.specs.ServerSteps.{pending_posts, poll_post, ready_post, replica_tick, snap_to, tick_step}
use Rattle.hx_replica.specs.declared.replicas.Replica.{Replica}
use Rattle.hx_replica.specs.Replicas.{view_of, views_of}
use Rattle.hx_replica.specs.Ticking.{standing}

pub snap_same : (s : ServerState) (r : ReplicaState) (o : Option ServerId) → snap_to (standing s.config s.id) r o ≡ snap_to s r o
snap_same s r None = refl
snap_same s r (Some joiner) = refl

-- of the server its number and configuration matter alone
tick_same : (space : Space) (s : ServerState) (r : ReplicaState) → replica_tick space (standing s.config s.id) r ≡ replica_tick space s r
tick_same space s r =
    ap (λ (l : List Post). provided (is_active s.config r)
    (l ++ pending_posts (context_of space s r.region) r.states ++ ready_post s r.region))
    (snap_same s r (joiner_for s.config r.region s.id))

ticks : (space : Space) (s : ServerState) (rs : List Replica)
    → flat_map (λ (r : Replica). replica_tick space (standing s.config s.id) (view_of r)) rs
    ≡ flat_map (replica_tick space s) (views_of rs)
ticks space s [] = refl
ticks space s (r ∷ rest) =
    ap (λ (l : List Post). l ++ flat_map (λ (x : Replica). replica_tick space (standing s.config s.id) (view_of x)) rest) (tick_same space s (view_of r))
    ∙ ap (λ (l : List Post). replica_tick space s (view_of r) ++ l) (ticks space s rest)

-- the newest configuration is asked for by a number and a configuration alone
asked_same : (s : ServerState) (ps : List Post) → asking_last (standing s.config s.id) ps ≡ asking_last s ps
asked_same s [] = refl
asked_same s (p ∷ rest) = refl

-- what is posted on a tick
pub ticked : (space : Space) (s : ServerState) (rs : List Replica) → s.replicas ≡ views_of rs
    → asking_last (standing s.config s.id) (flat_map (λ (r : Replica). replica_tick space (standing s.config s.id) (view_of r)) rs) ≡ (tick_step space s).posts
ticked space s rs is =
    ap (asking_last (standing s.config s.id)) (ticks space s rs ∙ ap (flat_map (replica_tick space s)) (sym is))
    ∙ asked_same s (flat_map (replica_tick space s) s.replicas)

-- where anything was posted the newest configuration is asked for last
pub asks_last : (s : ServerState) (old ps new : List Post) → new ≡ old ++ ps → (length new ≡ length old → ⊥) → new ++ poll_post s ∷ [] ≡ old ++ asking_last s ps
asks_last s old [] new e more = absurd (more (ap length (e ∙ append-nil old)))
asks_last s old (p ∷ rest) new e more = ap (λ (l : List Post). l ++ poll_post s ∷ []) e ∙ append_assoc old (p ∷ rest) (poll_post s ∷ [])

-- where nothing was posted it isn't asked for
pub asks_not : (s : ServerState) (old ps new : List Post) → new ≡ old ++ ps → length new ≡ length old → new ≡ old ++ asking_last s ps
asks_not s old [] new e same = e
asks_not s old (p ∷ rest) new e same = absurd (let n = ap length e ∙ length-append old (p ∷ rest) in omega (arith, same, n))
