-- Every step keeps a session in order.
use Rattle.std.proofs.Common.{◌≡◌, ℕ, suc, ◌+◌, ◌<◌, ◌≤◌, true, false, cond, List, [], ◌∷◌, map, length, Option, None}
use Rattle.std.proofs.Common.{Some, refl, ap, sym, ◌∙◌, subst, arith, add-one}
use Rattle.std.specs.List.{All, AllPairs}
use Rattle.std.specs.Prelude.{unwrap_or}
use Rattle.std.proofs.lemmas.Bool.{cond_both}
use Rattle.std.proofs.lemmas.List.Elements.{All-map}
use Rattle.std.proofs.lemmas.Option.{slice_get_within}
use Rattle.hx_model.specs.Types.{Add, Answer, Atomic, Config, Cput, Del, Deliver, Get, Halt, Input, Message, Op, Planned, Put, RegionId, Row, Search, Space}
use Rattle.hx_model.specs.Types.{Stop, Term, Tick, Version}
use Rattle.hx_types.specs.declared.messages.Message.TheVariants as a_message
use Rattle.hx_types.specs.declared.outcomes.Planned.TheVariants as a_plan
use Rattle.hx_types.specs.Configs.{is_lost}
use Rattle.hx_types.specs.Fitting.{numbered}
use Rattle.hx_types.specs.Spaces.{IsAscending}
use Rattle.hx_types.specs.Words.{when_some}
use Rattle.hx_model.specs.Planning.{plan_of}
use Rattle.hx_model.specs.Regions.{key_region}
use Rattle.hx_model.specs.SessionSteps.{Part as PartSeen, SessionState, SessionStep, all_parts, ask_regions, awaits}
use Rattle.hx_model.specs.SessionSteps.{begin, call_under_way, end_with_parts, ending, is_administrative, is_key_call}
use Rattle.hx_model.specs.SessionSteps.{send, send_to, session_message, session_step, staying, with_part, with_poll}
use Rattle.hx_region.proofs.Lemmas.{asked}
use Rattle.hx_session.specs.declared.parts.SearchPart.{SearchPart}
use Rattle.hx_session.specs.declared.prepared.Change.{Change}
use Rattle.hx_session.specs.declared.sessions.Session.TheInside.{Inside}
use Rattle.hx_session.specs.Changes.{IsChange, changed, part_seen, parts_after}
use Rattle.hx_session.specs.Invariant.{IsInOrder, IsSession, IsStateOf, value_of}
use Rattle.hx_session.specs.Sessions.{SessionValue}
use Rattle.hx_session.proofs.Kept.{regions_of, regions_stay}
use Rattle.hx_session.proofs.Staying.{step_of_space}

-- the session is in order after a step
abbrev InOrder : SessionStep → Type 0
InOrder step = IsInOrder step.state

ascends : (regions : List RegionId) → AllPairs (λ (g h : RegionId). g.0 < h.0) regions
    → IsAscending (regions_of (map (λ (g : RegionId). record { region = g; rows = None }) regions))
ascends [] pairs = tt
ascends (g ∷ rest) pairs = (
  above g rest (λ k d l. pairs 0 (suc k) d (omega arith) (omega (arith, l))),
  ascends rest (λ i j d l m. pairs (suc i) (suc j) d (omega (arith, l)) (omega (arith, m))),
)
  where
    above : (g : RegionId) (hs : List RegionId) → All (λ (h : RegionId). g.0 < h.0) hs
        → All (λ m. g.0 < m) (regions_of (map (λ (h : RegionId). record { region = h; rows = None }) hs))
    above g hs all =
        All-map (λ m. g.0 < m) (λ (p : PartSeen). p.region.0) (map (λ (h : RegionId). record { region = h; rows = None }) hs)
        (All-map (λ (p : PartSeen). g.0 < p.region.0) (λ (h : RegionId). record { region = h; rows = None }) hs all)

module _ (space : Space) (s : SessionState) (h : IsInOrder s) where
  ended_in_order : (version : Version) (answer : Answer) → InOrder (ending s version answer)
  ended_in_order version answer = record { within = h.within; few = h.few; ascend = tt }

  sent_in_order : (op : Op) (g : RegionId) → InOrder (send_to s op g)
  sent_in_order op g =
      cond_both (is_lost s.config g) _ _ InOrder
      (λ _. record { within = h.within; few = h.few; ascend = tt })
      (λ _. record { within = h.within; few = h.few; ascend = h.ascend })

  asked_in_order : (terms : List Term) (planned : Planned) → plan_of space s.config terms ≡ planned → InOrder (ask_regions s terms planned)
  asked_in_order terms (a_plan.Regions subspace regions) e =
      record { within = h.within; few = h.few; ascend = ascends regions (asked space s.config terms subspace regions e).ascend }
  asked_in_order terms (a_plan.Lost g) e = record { within = h.within; few = h.few; ascend = tt }

  pub send_in_order : (op : Op) → InOrder (send space s op)
  send_in_order (Put key sets) = sent_in_order (Put key sets) (key_region space key)
  send_in_order (Get key) = sent_in_order (Get key) (key_region space key)
  send_in_order (Del key) = sent_in_order (Del key) (key_region space key)
  send_in_order (Cput key tests sets) = sent_in_order (Cput key tests sets) (key_region space key)
  send_in_order (Atomic key edits) = sent_in_order (Atomic key edits) (key_region space key)
  send_in_order (Search terms) = asked_in_order terms (plan_of space s.config terms) refl
  send_in_order (Stop server) = h
  send_in_order (Add server region) = h

abbrev begins_at : SessionState → ℕ → SessionState
begins_at s n = record s { begun = n; under_way = true; sent = false; parts = [] }

began_in_order : (space : Space) (s : SessionState) → IsInOrder s → (o : Option Op) → numbered s.calls (s.begun + 1) ≡ o
    → InOrder (when_some o (staying s) (begin space s))
began_in_order space s h None e = h
began_in_order space s h (Some op) e =
    send_in_order space (begins_at s (s.begun + 1))
    (record {
      within = within s.begun
          (slice_get_within s.calls s.begun op (subst (λ n. numbered s.calls n ≡ Some op) (add-one s.begun) e));
      few = h.few;
      ascend = tt;
    }) op
  where
    within : (n : ℕ) → n < length s.calls → n + 1 ≤ length s.calls
    within n l = omega (arith, l)

again_in_order : (space : Space) (s : SessionState) → IsInOrder s → (o : Option Op)
    → InOrder (when_some o (staying s) (λ (op : Op). with_poll (send space s op)))
again_in_order space s h None = h
again_in_order space s h (Some op) = send_in_order space s h op

anew_in_order : (space : Space) (s : SessionState) (config : Config) → IsInOrder s → (o : Option Op)
    → InOrder (when_some o (staying (record s { config = config }))
    (λ (op : Op). cond (is_administrative op) (staying (record s { config = config })) (send space (record s { config = config }) op)))
anew_in_order space s config h None = record { within = h.within; few = h.few; ascend = h.ascend }
anew_in_order space s config h (Some op) =
    let adopted : IsInOrder (record s { config = config }) = record { within = h.within; few = h.few; ascend = h.ascend } in
    cond_both (is_administrative op) (staying (record s { config = config })) (send space (record s { config = config }) op) InOrder (λ _. adopted)
    (λ _. send_in_order space (record s { config = config }) adopted op)

found_in_order : (s : SessionState) (g : RegionId) (rows : List Row) → IsInOrder s
    → InOrder (end_with_parts (record s { parts = map (with_part g rows) s.parts }))
found_in_order s g rows h =
    cond_both (all_parts (map (with_part g rows) s.parts)) _ _ InOrder
    (λ _. record { within = h.within; few = h.few; ascend = tt })
    (λ _. record { within = h.within; few = h.few; ascend = subst IsAscending (sym (regions_stay g rows s.parts)) h.ascend })

message_in_order : (space : Space) (s : SessionState) → IsInOrder s → (m : Message) → InOrder (session_message space s m)
message_in_order space s h (a_message.Reply number version answer) = cond_both (awaits s number is_key_call) _ (staying s) InOrder
    (λ _. ended_in_order space s h version answer) (λ _. h)
message_in_order space s h (a_message.Outcome number answer) =
    cond_both (awaits s number is_administrative) _ (staying s) InOrder (λ _. record { within = h.within; few = h.few; ascend = tt }) (λ _. h)
message_in_order space s h (a_message.Found epoch number g rows) = cond_both _ (end_with_parts (record s { parts = map (with_part g rows) s.parts }))
    (staying s) InOrder (λ _. found_in_order s g rows h) (λ _. h)
message_in_order space s h (a_message.Install config) = cond_both _ _ (staying s) InOrder (λ _. anew_in_order space s config h (call_under_way s)) (λ _. h)
message_in_order space s h other = h

pub step_in_order : (space : Space) (s : SessionState) → IsInOrder s → (input : Input) → InOrder (session_step space s input)
step_in_order space s h Tick =
    cond_both s.under_way _ _ InOrder (λ _. again_in_order space s h (numbered s.calls s.begun))
    (λ _. began_in_order space s h (numbered s.calls (s.begun + 1)) refl)
step_in_order space s h Halt = h
step_in_order space s h (Deliver id from message) = message_in_order space s h message

-- the fields of a session after a change
abbrev after_change : Inside → Change → Config → List SearchPart → Inside
after_change i c config parts = record i { config = config; progress = c.progress; parts = parts }

pub applied_state : (i : Inside) (v : SessionValue) (c : Change) (config : Config) (parts : List SearchPart) → value_of i ≡ v
    → config ≡ unwrap_or c.config i.config → map part_seen parts ≡ parts_after (map part_seen i.parts) c.parts
    → (value_of (after_change i c config parts)).state ≡ changed v.state c
applied_state i v c config parts view adopted put =
    ap (λ (ps : List PartSeen). record (value_of (after_change i c config i.parts)).state { parts = ps }) put
    ∙ ap (λ (k : Config). record (changed (value_of i).state c) { config = k }) adopted
    ∙ ap (λ (w : SessionValue). changed w.state c) view

pub applied_in_order : (i : Inside) (v : SessionValue) (c : Change) (config : Config) (parts : List SearchPart) → value_of i ≡ v → IsSession i
    → config ≡ unwrap_or c.config i.config
    → map part_seen parts ≡ parts_after (map part_seen i.parts) c.parts → IsChange v c → IsSession (after_change i c config parts)
applied_in_order i v c config parts view ok adopted put is =
    let input = is.0 in
    let same : (value_of (after_change i c config parts)).state ≡
    (session_step v.space v.state input).state = applied_state i v c config parts view adopted put ∙ is.1.makes in
    record {
      map_is = ok.map_is;
      of_space = subst (λ (x : Space). IsStateOf x (value_of (after_change i c config parts)).state) (sym (ap (λ (w : SessionValue). w.space) view))
          (subst (IsStateOf v.space) (sym same)
          (step_of_space v.space v.state (subst (λ (w : SessionValue). IsStateOf w.space w.state) view ok.of_space) input is.1.takes));
      in_order = subst IsInOrder (sym same) (step_in_order v.space v.state (subst (λ (w : SessionValue). IsInOrder w.state) view ok.in_order) input);
    }
