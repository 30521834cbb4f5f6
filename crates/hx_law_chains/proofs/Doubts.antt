-- What a server's step tells of doubts: a write is in doubt because a pending version is held up by a lost region.
use Rattle.std.proofs.Common.{◌≡◌, ℕ, ◌≤◌, ◌⊎◌, inl, inr, Bool, true, false, List, [], ◌∷◌, Option, None, Some, refl, sym, ap, ◌∙◌, cond, eqb, leb, ltb}
use Rattle.std.specs.Prelude.{⊤}
use Rattle.std.proofs.lemmas.Bool.{cond_both, false≢true}
use Rattle.hx_model.specs.Types.{Actor, Answer, Atomic, Caller, Config, Cput, Del, Effect, Epoch, Mark, Message, Op, Place, Post, Put, RegionId, Script}
use Rattle.hx_model.specs.Types.{ServerId, Space, Update, Value, Version}
use Rattle.hx_types.specs.declared.calls.Answer.TheVariants as an_answer
use Rattle.hx_types.specs.declared.messages.Message.TheVariants as a_message
use Rattle.hx_types.specs.declared.outcomes.Decision.TheVariants as a_decision
use Rattle.hx_types.specs.Words.{IsIn, when_some}
use Rattle.hx_types.specs.Configs.{is_lost, leads}
use Rattle.hx_types.specs.Effects.{changed_to, effect_of, is_write, key_of, left_as, tests_hold, written}
use Rattle.hx_types.specs.Fitting.{call_of, is_doubt}
use Rattle.hx_model.specs.Causes.{pending_at}
use Rattle.hx_model.specs.Leading.{StuckAt, by_mark, decide, first_lost, fresh, stuck_among, stuck_of}
use Rattle.hx_model.specs.Lines.{line_object}
use Rattle.hx_model.specs.Regions.{key_region}
use Rattle.hx_model.specs.ServerSteps.{ServerState, SlotContext, get_answer, reply}
use Rattle.hx_model.specs.Slots.{KeyState, has_place, mark_of}
use Rattle.hx_law_lemmas.proofs.Lemmas.{at_session, atomic-both, place-in, when_some_both}
use Rattle.hx_law_chains.proofs.World.{Law}

-- a pending version of the key is held up by the lost region at the leader, and isn't above the version named, unless that is 0
pub record HeldUp (space : Space) (st : ServerState) (leader : ServerId) (key : List ℕ) (v : Version) (g : RegionId) (epoch : Epoch) : Type 0 where
  pub is_leader : leads space st.config leader (key_region space key) ≡ true
  pub epoch_is : epoch ≡ st.config.epoch
  pub lost : is_lost st.config g ≡ true
  pub update : Update
  pub pending : IsIn update (pending_at space st key)
  pub through : has_place g update ≡ true
  pub not_above : (v.0 ≡ 0) ⊎ (update.version.0 ≤ v.0)

-- what a doubt says of the call that it answers
abbrev pub DoubtSays : Script → ServerState → ServerId → Version → Answer → Caller → Type 0
DoubtSays script st i v answer caller =
    (g : RegionId) (epoch : Epoch) → answer ≡ an_answer.Doubt g epoch → (op : Op) (key : List ℕ) → call_of script caller ≡ Some op → key_of op ≡ Some key
    → HeldUp script.space st i key v g epoch

-- what a message says
abbrev pub SaysOf : Script → ServerState → ServerId → Actor → Message → Type 0
SaysOf script st i to (a_message.Reply number v answer) = at_session to (λ u. DoubtSays script st i v answer (record { session = u; number = number }))
SaysOf script st i to other = ⊤

-- what a post says
abbrev pub Says : Script → ServerState → ServerId → Post → Type 0
Says script st i p = SaysOf script st i p.to p.message

-- ---- answers that are no doubts

-- an effect is never in doubt
pub effect-sure : (space : Space) (old : Option (List Value)) (op : Op) → is_write op ≡ true → is_doubt (effect_of space old op).answer ≡ false
effect-sure space old (Put key sets) w = refl
effect-sure space None (Del key) w = refl
effect-sure space (Some x) (Del key) w = refl
effect-sure space None (Cput key tests sets) w = refl
effect-sure space (Some x) (Cput key tests sets) w = by (tests_hold x tests)
  where
    by : (b : Bool) → is_doubt (cond b (changed_to (Some (written x sets))) (left_as (Some x) an_answer.CmpFail)).answer ≡ false
    by true = refl
    by false = refl
effect-sure space old (Atomic key edits) w = atomic-both (λ (e : Effect). is_doubt e.answer ≡ false) space old key edits (λ object. refl) refl
    (λ object. refl) (λ object. refl)
effect-sure space old other w = absurd (false≢true w)

-- nor is a get
pub get-sure : (o : Option (List Value)) → is_doubt (get_answer o) ≡ false
get-sure None = refl
get-sure (Some x) = refl

-- an update whose answer is no doubt
abbrev pub Sure : Update → Type 0
Sure u = is_doubt u.answer ≡ false

-- each update of a line is
pub law-sure : (script : Script) (known : Config → Type 0) (key : List ℕ) (older : List Update) (u : Update) → Law script known key older u → Sure u
law-sure script known key older u l = elim l.effect [
  | inl e ↦ ap is_doubt e.0 ∙ effect-sure script.space (line_object older) l.op l.writes
  | inr e ↦ ap is_doubt e.1.3
]

-- a reply whose answer is no doubt says nothing of doubts
pub sure-says : (script : Script) (st : ServerState) (i : ServerId) (at : SlotContext) (caller : Caller) (v : Version) (a : Answer) → is_doubt a ≡ false
    → Says script st i (reply at caller v a)
sure-says script st i at caller v a s g epoch e = absurd (false≢true (sym s ∙ ap is_doubt e))

-- ---- what is stuck

-- the first lost place is one of the places, in a lost region
pub lost-place : (c : Config) (places : List Place) (g : RegionId) → first_lost c places ≡ Some g → (p : Place) × IsIn p places × (p.region ≡ g)
    × (is_lost c g ≡ true)
lost-place c [] g = λ e. absurd (cc)
lost-place c (p ∷ rest) g =
    cond_both (is_lost c p.region) (Some p.region) (first_lost c rest)
    (λ o. o ≡ Some g → (q : Place) × IsIn q (p ∷ rest) × (q.region ≡ g) × (is_lost c g ≡ true))
    (λ t e. let q : p.region ≡ g = cc in (p, inl refl, q, ap (is_lost c) (sym q) ∙ t))
    (λ t e. let r = lost-place c rest g e in (r.0, inr r.1, r.2, r.3))

-- what is stuck is pending, with a place in the lost region
pub record IsStuck (c : Config) (us : List Update) (x : StuckAt) : Type 0 where
  pub update : Update
  pub stands : IsIn update us
  pub version : update.version ≡ x.version
  pub through : has_place x.region update ≡ true
  pub lost : is_lost c x.region ≡ true

pub stuck-is : (c : Config) (us : List Update) (x : StuckAt) → stuck_among c us ≡ Some x → IsStuck c us x
stuck-is c [] x e = absurd (cc)
stuck-is c (u ∷ rest) x e = by (stuck-is c rest x) (first_lost c u.places) refl e
  where
    by : (stuck_among c rest ≡ Some x → IsStuck c rest x) → (o : Option RegionId) → first_lost c u.places ≡ o
        → when_some o (stuck_among c rest) (λ (g : RegionId). Some (record { version = u.version; region = g })) ≡ Some x → IsStuck c (u ∷ rest) x
    by f None q e = (let r = f e in record { update = r.update; stands = inr r.stands; version = r.version; through = r.through; lost = r.lost })
    by f (Some g) q e =
        let z : record { version = u.version; region = g } ≡ x = cc in
        let p = lost-place c u.places g q in
        record {
          update = u;
          stands = inl refl;
          version = ap (λ (y : StuckAt). y.version) z;
          through = ap (λ (y : StuckAt). has_place y.region u) (sym z) ∙ ap (λ (r : RegionId). has_place r u) (sym p.2) ∙ place-in u.places p.0 p.1;
          lost = ap (λ (y : StuckAt). is_lost c y.region) (sym z) ∙ p.3;
        }

-- a decision that a write is stuck comes from what is stuck
pub decide-stuck : (space : Space) (c : Config) (g : RegionId) (t : KeyState) (caller : Caller) (op : Op) (d : RegionId)
    → decide space c g t caller op ≡ a_decision.Stuck d → (x : StuckAt) × (stuck_of c t ≡ Some x) × (x.region ≡ d)
decide-stuck space c g t caller op d = by (mark_of caller.session t)
  where
    fresh-stuck : fresh space c g t caller op ≡ a_decision.Stuck d → (x : StuckAt) × (stuck_of c t ≡ Some x) × (x.region ≡ d)
    fresh-stuck = when_some_both (stuck_of c t) (a_decision.Assign _) (λ (x : StuckAt). a_decision.Stuck x.region)
        (λ y. y ≡ a_decision.Stuck d → (x : StuckAt) × (stuck_of c t ≡ Some x) × (x.region ≡ d))
        (λ q e. absurd (cc)) (λ x q e. (x, q, cc))

    by : (o : Option Mark) → by_mark space c g t caller op o ≡ a_decision.Stuck d → (x : StuckAt) × (stuck_of c t ≡ Some x) × (x.region ≡ d)
    by None = fresh-stuck
    by (Some m) =
        cond_both (ltb caller.number m.number) a_decision.Old _ (λ y. y ≡ a_decision.Stuck d → (x : StuckAt) × (stuck_of c t ≡ Some x) × (x.region ≡ d))
        (λ a e. absurd (cc))
        (λ a. cond_both (eqb m.number caller.number) _ (fresh space c g t caller op)
        (λ y. y ≡ a_decision.Stuck d → (x : StuckAt) × (stuck_of c t ≡ Some x) × (x.region ≡ d))
        (λ b. cond_both (leb m.version.0 t.floor) (a_decision.Again m.version m.answer) (a_decision.Wait m.version)
        (λ y. y ≡ a_decision.Stuck d → (x : StuckAt) × (stuck_of c t ≡ Some x) × (x.region ≡ d)) (λ z e. absurd (cc)) (λ z e. absurd (cc)))
        (λ b. fresh-stuck))
