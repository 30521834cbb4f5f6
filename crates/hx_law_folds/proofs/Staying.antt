-- The slots of a server stay in order by each of its steps.
use Rattle.hx_law_folds.proofs.Vocabulary.{[], accepting, ack_step, adopted_state, AllByRecursion, Bool, call_step, cond, cond_both, Forget, Input, InputFits}
use Rattle.hx_law_folds.proofs.Vocabulary.{is_key_region, IsAfter, IsLater, IsReplicaOf, IsServerOf, IsSlotIn, IsSlotOf, Kept, KeyState, List, Message}
use Rattle.hx_law_folds.proofs.Vocabulary.{MessageFits, Move, moved, moved_all, offered_all, refl, RegionId, resumed, server_step, ServerState, SlotContext}
use Rattle.hx_law_folds.proofs.Vocabulary.{Space, state_from, state_of_kept, subst, update_step, ⊤, ◌∙◌, ◌≡◌}
use Rattle.hx_types.specs.declared.messages.Message.TheVariants as a_message
use Rattle.hx_law_folds.proofs.Lists.{all-made, all-map, all-weaker}
use Rattle.hx_law_folds.proofs.Moves.{joined-good, keeps-all}
use Rattle.hx_law_folds.proofs.ServerWalk.{Brings, SlotsStay, step-stays}
use Rattle.hx_law_folds.proofs.Slots.{AllFit, fit-walk, later-of}
use Rattle.hx_law_folds.proofs.States.{among-slot, marks-moved_all, with-slots}
use Rattle.hx_law_folds.proofs.Steps.{ack-fit, adopted-slot, call-fit, update-fit}

-- a slot stays one by moves that are allowed
in-moved : (g : RegionId) (b : Bool) (s : KeyState) → IsSlotIn b g s → (ms : List Move) → AllFit g s ms → IsSlotIn b g (moved_all ms s)
in-moved g b s h ms f = record { slot = keeps-all (fit-walk g) ms s h.slot f; marks = marks-moved_all ms s ∙ h.marks }

-- and where a configuration is adopted
in-adopted : (context : SlotContext) (b active : Bool) (s : KeyState) → IsSlotIn b context.region s → IsSlotIn b context.region (adopted_state context active s)
in-adopted context b active s h = record {
  slot = adopted-slot context s h.slot active;
  marks = cond_both active (moved_all (resumed context s) s) (moved Forget s) (λ (x : KeyState). x.marks ≡ b)
      (λ e. marks-moved_all (resumed context s) s ∙ h.marks) (λ e. h.marks);
}

-- a slot of a snapshot
from-slot : (g : RegionId) (b : Bool) (kept : Kept) → IsSlotIn b g (state_from b kept)
from-slot g b kept = record { slot = by (cond b kept (record kept { marks = []; touches = [] })); marks = refl }
  where
    by : (k : Kept) → IsSlotOf g (state_of_kept b k)
    by k = record { descends = tt; floor = refl; early = tt }

module _ (space : Space) where
  abbrev InRegion : RegionId → KeyState → Type 0
  InRegion g s = IsSlotIn (is_key_region space g) g s

  -- so do all slots of a server, by each step
  slots-stay : SlotsStay space (IsReplicaOf space) (λ g. AllByRecursion (InRegion g)) InRegion (λ snapshot. ⊤)
  slots-stay = record {
    shows = λ r k. k;
    makes = λ r k. k;
    none = λ g. tt;
    one = λ g key states k. among-slot g (is_key_region space g) key states k;
    more = λ g t states i k. with-slots (InRegion g) t states i k;
    sent = λ g snapshot k. all-made (InRegion g) (state_from (is_key_region space g)) (from-slot g (is_key_region space g)) snapshot;
    calls = λ context s i q caller op. in-moved context.region _ s i (call_step context s caller op).moves (call-fit context s i.slot q caller op);
    updates = λ context s i u after k. in-moved context.region _ s i (update_step context s u).moves
        (update-fit context s i.slot u (later-of context.region u after));
    acks = λ context s i v. in-moved context.region _ s i (ack_step context s v).moves (ack-fit context s i.slot v);
    joins = λ context s i us after k. in-moved context.region _ s i (accepting context s (offered_all context.region s us))
        (joined-good context (fit-walk context.region) s i.slot us (all-weaker IsAfter (IsLater context.region) (later-of context.region) us after));
    adopts = λ context active states k. all-map (InRegion context.region) (InRegion context.region)
        (adopted_state context active) (in-adopted context _ active) states k;
  }

  -- what a message brings
  brings : (m : Message) → MessageFits m → Brings (λ snapshot. ⊤) m
  brings (a_message.Update epoch g u) f = f
  brings (a_message.Snap epoch g snapshot pending) f = (tt, f)
  brings other f = tt

  pub server-stays : (s : ServerState) → IsServerOf space s → (input : Input) → InputFits input → IsServerOf space (server_step space s input).state
  server-stays s h input f = step-stays slots-stay s h input (λ id from m e. brings m (subst InputFits e f))
