-- Every run: a doubt that a server told was told by the key's leader while a version was held up by a region that is lost in a known configuration.
use Rattle.std.proofs.Common.{◌≡◌, ℕ, inl, inr, true, false, List, [], ◌∷◌, Some, refl, sym, ap, subst}
use Rattle.hx_model.specs.Types.{Actor, Caller, Config, Entry, Epoch, Op, Post, RegionId, Script, Server, ServerId, Session, Version}
use Rattle.hx_types.specs.declared.calls.Answer.TheVariants as an_answer
use Rattle.hx_types.specs.declared.messages.Message.TheVariants as a_message
use Rattle.hx_types.specs.Words.{IsIn, post}
use Rattle.hx_types.specs.Configs.{is_lost}
use Rattle.hx_types.specs.Effects.{key_of}
use Rattle.hx_types.specs.Fitting.{IsScript, call_of}
use Rattle.hx_model.specs.Causes.{AnsweredCall, IsDoubtTold}
use Rattle.hx_model.specs.Runs.{IsRun, MayTake, Output, has_halted, is_actor, server_of}
use Rattle.hx_model.specs.ServerSteps.{ServerState}
use Rattle.hx_law_lemmas.specs.Words.{posts_of}
use Rattle.hx_law_lemmas.proofs.Lemmas.{in-append}
use Rattle.hx_law_epochs.proofs.Lemmas.{IsKnown, entry-posts, epochs-run, known-still, server-does-well}
use Rattle.hx_law_chains.proofs.Doubts.{HeldUp, Says}
use Rattle.hx_law_chains.proofs.Entered.{made-by, state-by}
use Rattle.hx_law_chains.proofs.Runs.{posted-run}

-- the doubt was told so, and the region is lost in the configuration of its epoch
pub record Doubtful (call : AnsweredCall) (key : List ℕ) (g : RegionId) (epoch : Epoch) : Type 0 where
  pub told : IsDoubtTold call key g epoch
  pub config : Config
  pub known : IsKnown call.script call.older config
  pub epoch_is : config.epoch ≡ epoch
  pub lost : is_lost config g ≡ true

module _ (script : Script) (valid : IsScript script) where
  -- what a post of a server's entry says of doubts
  entry-tells : (x : Entry) (older : List Entry) → IsRun script (x ∷ older) → (i : ServerId) → x.actor ≡ Server i → (p : Post) → IsIn p x.outputs
      → (p.from ≡ Server i) × Says script (server_of script i (x ∷ older)) i p
  entry-tells x older run i acts p j =
      let epochs = epochs-run script valid older run.1 in
      let may = subst (λ (a : Actor). MayTake older a x.input) acts run.0.input in
      let real = subst (λ (a : Actor). is_actor script a ≡ true) acts run.0.actor in
      let up = subst (λ (a : Actor). has_halted script older a ≡ false) acts run.0.running in
      let does = server-does-well script valid older epochs i x.input real up may in
      let made = ap (λ (m : Output). m.posts) (made-by script x older run (Server i) acts) in (
        (does.posts p (subst (λ (ps : List Post). IsIn p ps) (sym made) j)).0,
        subst (λ (st : ServerState). Says script st i p) (sym (state-by script x older i acts)) (posted-run script valid x older run i acts p j).says,
      )

  module _ (trace : List Entry) (caller : Caller) (op0 : Op) (begin : ℕ) (version : Version) (g : RegionId) (epoch : Epoch) (op : Op) (key : List ℕ)
      (called : call_of script caller ≡ Some op) (on_key : key_of op ≡ Some key) where
    -- the call where these entries were before its answer
    abbrev call_at : List Entry → AnsweredCall
    call_at t = record { script = script; trace = trace; older = t; caller = caller; op = op0; begin = begin; version = version }

    -- the reply
    abbrev doubt : Actor → Post
    doubt from = post from (Session caller.session) (a_message.Reply caller.number version (an_answer.Doubt g epoch))

    -- where it is held up
    here-doubtful : (x : Entry) (older : List Entry) → IsRun script (x ∷ older) → (i : ServerId) → x.actor ≡ Server i → (from : Actor)
        → IsIn (doubt from) x.outputs → Doubtful (call_at (x ∷ older)) key g epoch
    here-doubtful x older run i acts from j =
        let a = entry-tells x older run i acts (doubt from) j in
        let h : HeldUp script.space (server_of script i (x ∷ older)) i key version g epoch = a.1 g epoch refl op key called on_key in
        record {
          told = record {
            newer = [];
            entry = x;
            before = older;
            stands = refl;
            leader = i;
            by_leader = acts;
            is_leader = h.is_leader;
            told = subst (λ (f : Actor). IsIn (doubt f) x.outputs) a.0 j;
            update = h.update;
            pending = h.pending;
            through = h.through;
            not_above = h.not_above;
          };
          config = (server_of script i (x ∷ older)).config;
          known = (epochs-run script valid (x ∷ older) run).epochs.own i;
          epoch_is = sym h.epoch_is;
          lost = h.lost;
        }

    -- whoever is no server replies to nobody
    entry-doubtful : (x : Entry) (older : List Entry) → IsRun script (x ∷ older) → (from : Actor) → IsIn (doubt from) x.outputs
        → Doubtful (call_at (x ∷ older)) key g epoch
    entry-doubtful x older run from j = by x.actor refl
      where
        by : (a : Actor) → x.actor ≡ a → Doubtful (call_at (x ∷ older)) key g epoch
        by (Server i) e = here-doubtful x older run i e from j
        by other e = absurd (entry-posts script older x run.0 other e (doubt from) j)

    -- every run
    run-doubtful : (t : List Entry) → IsRun script t → (from : Actor) → IsIn (doubt from) (posts_of t) → Doubtful (call_at t) key g epoch
    run-doubtful [] run from j = absurd j
    run-doubtful (x ∷ older) run from j = elim (in-append x.outputs (posts_of older) (doubt from) j) [
      | inl k ↦ entry-doubtful x older run from k
      | inr k ↦ (let d = run-doubtful older run.1 from k in let o = d.told in record {
        told = record {
          newer = x ∷ o.newer;
          entry = o.entry;
          before = o.before;
          stands = ap (λ (l : List Entry). x ∷ l) o.stands;
          leader = o.leader;
          by_leader = o.by_leader;
          is_leader = o.is_leader;
          told = o.told;
          update = o.update;
          pending = o.pending;
          through = o.through;
          not_above = o.not_above;
        };
        config = d.config;
        known = known-still script valid older (epochs-run script valid older run.1) x run.0 d.config d.known;
        epoch_is = d.epoch_is;
        lost = d.lost;
      })
    ]

-- each doubt of a call on a key
pub doubts-told : (call : AnsweredCall) → IsScript call.script → IsRun call.script call.older → (from : Actor) (g : RegionId) (epoch : Epoch)
    → IsIn (post from (Session call.caller.session) (a_message.Reply call.caller.number call.version (an_answer.Doubt g epoch))) (posts_of call.older)
    → (op : Op) (key : List ℕ) → call_of call.script call.caller ≡ Some op → key_of op ≡ Some key → Doubtful call key g epoch
doubts-told call valid run from g epoch j op key called on_key =
    run-doubtful call.script valid call.trace call.caller call.op call.begin call.version g epoch op key called on_key call.older run from j
