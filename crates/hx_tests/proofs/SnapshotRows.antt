-- What the laws on chains give of a snapshot under way, in a run of which all is computed.
use Rattle.std.specs.Prelude.{◌≤◌, ℕ, List, [], ◌∷◌, length, None, Some}
use Rattle.std.proofs.Common.{◌≡◌, true, inl, inr, refl, ap, sym, subst, ◌∙◌, arith}
use Rattle.hx_model.specs.Types.{Config, Server, ServerId, Update}
use Rattle.hx_types.specs.declared.calls.Answer.TheVariants as an_answer
use Rattle.hx_types.specs.declared.messages.Message.TheVariants as a_message
use Rattle.hx_types.specs.Configs.{joiner_for, lists, members_of}
use Rattle.hx_types.specs.Words.{IsIn}
use Rattle.hx_model.specs.Causes.{config_of}
use Rattle.hx_model.specs.Histories.{line_of}
use Rattle.hx_model.specs.Holders.{IsPrefix, snap_state}
use Rattle.hx_model.specs.Neighbours.{member_after}
use Rattle.hx_model.specs.Runs.{coordinator_of}
use Rattle.hx_model.specs.ServerSteps.{Replica}
use Rattle.hx_model.specs.Slots.{KeyState, has_place, top_of}
use Rattle.hx_model.proofs.Lemmas.{caller, epoch, first_update, key_slot, put_color, red, region, replica, second_update, server, shop, the_key, version}
use Rattle.hx_law_chains.specs.Chains.{InOrder, IsComing, IsHeld, IsUp, SnapStands, StandsEarlier}
use Rattle.hx_law_chains.proofs.Lemmas.{runs_answer_committed, runs_keep_order, runs_posts_stand, runs_send_parts}
use Rattle.hx_tests.proofs.SnapshotRun.{its_empty, its_line, its_newest, its_post, its_red_replica, its_reply}
use Rattle.hx_tests.proofs.SnapshotRun.{its_run, its_script, its_sender, newest, pending, red_kept, red_slot}
use Rattle.hx_tests.proofs.SnapshotRun.{script, sent_slot, snapshot, trace}

none_is_some : {A : Type 0} (x : A) → None ≡ Some x → ⊥
none_is_some x e = absurd (cc)

-- the joiner has no installed replica
not_up : (r : Replica) → IsUp script trace (region 0) (server 3) r → ⊥
not_up r up = none_is_some r (sym its_empty ∙ up.installed)

-- what the snapshot stands for: red is committed, and blue accepted
abbrev held : KeyState
held = record { marks = true; base = red_kept; accepted = second_update ∷ []; floor = 1; acked = []; early = [] }

its_held : snap_state shop (region 0) the_key snapshot pending ≡ held
its_held = refl

-- so it is held for the joiner
is_coming : IsComing script trace the_key (region 0) (server 3) held
is_coming = record {
  from = Server (server 2);
  epoch = epoch 2;
  snapshot = snapshot;
  pending = pending;
  posted = its_post;
  server = refl;
  running = refl;
  empty = not_up;
  is = sym its_held;
}

is_held : IsHeld script trace the_key (region 0) (server 3) held
is_held = inr is_coming

-- ---- by the law on snapshots: it holds of each key the region's part of the line up to some version

its_parts : (key : List ℕ) → IsPrefix (region 0) (line_of key trace) (snap_state shop (region 0) key snapshot pending)
its_parts = runs_send_parts script its_script trace its_run (Server (server 2)) (epoch 2) (region 0) (server 3) snapshot pending its_post refl refl not_up

its_part : IsPrefix (region 0) (second_update ∷ first_update ∷ []) held
its_part = subst (λ (line : List Update). IsPrefix (region 0) line held) its_line (its_parts the_key)

-- that is both updates of this key; without what the first left it would be no part
abbrev without_red : KeyState
without_red = key_slot (second_update ∷ []) 1 [] []

not_without_red : ¬ IsPrefix (region 0) (second_update ∷ first_update ∷ []) without_red
not_without_red = λ p. absurd (let e : length (second_update ∷ first_update ∷ []) ≡ length (second_update ∷ []) = ap length p.list in omega (arith, e))

-- ---- by the law on posts under way: it went from server 2 to the member right after it

snap_stands : SnapStands script trace (Server (server 2)) (epoch 2) (region 0) (server 3) snapshot pending
snap_stands =
    runs_posts_stand script its_script trace its_run (Server (server 2)) (server 3) (a_message.Snap (epoch 2) (region 0) snapshot pending) its_post

-- whoever is said to have sent a post is its sender
from_second : (s : ServerId) → Server (server 2) ≡ Server s → s ≡ server 2
from_second s e = cc

-- and the configuration of epoch 2 is the one that the run has
of_epoch : (c : Config) → config_of script (epoch 2) trace ≡ Some c → c ≡ newest
of_epoch c e = (let q : Some newest ≡ Some c = sym its_newest ∙ e in cc)

comes_next : member_after (server 2) (members_of newest (region 0)) ≡ Some (server 3)
comes_next =
    subst (λ (c : Config). member_after (server 2) (members_of c (region 0)) ≡ Some (server 3)) (of_epoch snap_stands.config snap_stands.issued)
    (subst (λ (s : ServerId). member_after s (members_of snap_stands.config (region 0)) ≡ Some (server 3))
    (from_second snap_stands.sent.server snap_stands.sent.from_is) snap_stands.next)

-- which lists the joiner
joiner_is_listed : lists newest (region 0) (server 3) ≡ true
joiner_is_listed = snap_stands.listed refl refl

-- one from server 1, which isn't the last that is ready, wouldn't do
from_first : (s : ServerId) → Server (server 1) ≡ Server s → s ≡ server 1
from_first s e = cc

not_from_first : ¬ SnapStands script trace (Server (server 1)) (epoch 2) (region 0) (server 3) snapshot pending
not_from_first = λ p. none_is_some (server 3)
    (subst (λ (c : Config). joiner_for c (region 0) (server 1) ≡ Some (server 3)) (of_epoch p.config p.issued)
    (subst (λ (s : ServerId). joiner_for p.config (region 0) s ≡ Some (server 3)) (from_first p.sent.server p.sent.from_is) p.joiner))

-- ---- by the law on the order of chains

sent_is_held : IsHeld script trace the_key (region 0) (server 2) sent_slot
sent_is_held = inl (replica 0 (sent_slot ∷ []), inl (record { server = refl; running = refl; installed = its_sender }), refl)

red_is_held : IsHeld script trace the_key (region 1) (server 2) red_slot
red_is_held = inl (replica 1 (red_slot ∷ []), inl (record { server = refl; running = refl; installed = its_red_replica }), refl)

red_stands : IsIn first_update (line_of the_key trace)
red_stands = inr (inl refl)

blue_stands : IsIn second_update (line_of the_key trace)
blue_stands = inl refl

-- the sender stands before the joiner, and the joiner before the replica of red's region
sender_first : (u : Update) → StandsEarlier (coordinator_of script trace).config u (region 0) (server 2) (region 0) (server 3)
sender_first u = inr (refl, inr (inl (refl, inl refl)))

joiner_first : StandsEarlier (coordinator_of script trace).config first_update (region 0) (server 3) (region 1) (server 2)
joiner_first = inl (omega arith)

behind_sender : (u : Update) → IsIn u (line_of the_key trace) → has_place (region 0) u ≡ true → InOrder u sent_slot held
behind_sender u stands placed =
    runs_keep_order script its_script trace its_run the_key u stands (region 0) (region 0) (server 2)
    (server 3) sent_slot held placed placed sent_is_held is_held (sender_first u)

before_red : InOrder first_update held red_slot
before_red =
    runs_keep_order script its_script trace its_run the_key first_update red_stands (region 0) (region 1) (server 3)
    (server 2) held red_slot refl refl is_held red_is_held joiner_first

-- its sender has accepted blue, as the snapshot has
sender_has_blue : 2 ≤ top_of sent_slot
sender_has_blue = (behind_sender second_update blue_stands refl).accepted (omega arith)

-- the snapshot has committed red, as its sender has
snapshot_has_red : 1 ≤ held.floor
snapshot_has_red = (behind_sender first_update red_stands refl).committed (omega arith)

-- and so has the replica of red's region
red_replica_has_red : 1 ≤ red_slot.floor
red_replica_has_red = before_red.committed (omega arith)

-- ---- by the law on answers: the put of red was answered, so red is committed in the snapshot

answered_is_committed : first_update.version.0 ≤ held.floor
answered_is_committed =
    runs_answer_committed script its_script trace its_run (Server (server 1)) (caller 1 1)
    (version 1) an_answer.Done its_reply (put_color red) the_key refl refl refl first_update red_stands
    (omega arith) (region 0) (server 3) held refl is_held
