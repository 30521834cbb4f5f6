-- Every answer of every call of a run has its cause.
use Rattle.hx_law_lemmas.proofs.Lemmas.Vocabulary.{Add, and_parts, Answer, AnsweredCall, any_joining, ap, Atomic, Bool, call_of, Caller, cond_both, Config}
use Rattle.hx_law_lemmas.proofs.Lemmas.Vocabulary.{config_of, Cput, Del, Entry, Epoch, false, false≢true, Get, HasCause, inl, is_fulfilled, is_lost, is_write}
use Rattle.hx_law_lemmas.proofs.Lemmas.Vocabulary.{IsAddRefused, IsIssued, IsLostIn, IsRefused, IsRefusedFor, IsRun, IsScript, IsStopped, issued_after, key_of}
use Rattle.hx_law_lemmas.proofs.Lemmas.Vocabulary.{key_region, line_of, List, lists_ready, lost_answer, lowest, members_of, no_version, not-true, Op, plan_of}
use Rattle.hx_law_lemmas.proofs.Lemmas.Vocabulary.{Put, refl, refused_place, RegionId, Script, Search, server_in, server_named, ServerId, SessionState, Some}
use Rattle.hx_law_lemmas.proofs.Lemmas.Vocabulary.{Stop, subst, sym, Term, true, upto, Version, was_sent, ℕ, ◌&&◌, ◌-◌, ◌∙◌, ◌≡◌, ◌≢◌, ◌⊎◌}
use Rattle.hx_types.specs.declared.calls.Answer.TheVariants as an_answer
use Rattle.hx_types.specs.declared.outcomes.Planned.TheVariants as a_plan
use Rattle.hx_law_lemmas.proofs.Lemmas.{BeganAt}
use Rattle.hx_law_epochs.proofs.Lemmas.{IsKnown}
use Rattle.hx_law_causes.proofs.Administered.{OutcomeCause, Passes, WasFulfilled}
use Rattle.hx_law_causes.proofs.Answered.{the_call}
use Rattle.hx_law_causes.proofs.Outcomes.{administers_to, not_listed}

module _ (script : Script) (valid : IsScript script) (trace : List Entry) (run : IsRun script trace) where
  -- ---- outcomes of administrative calls

  -- a known configuration is that of its epoch
  of-epoch : (older : List Entry) (config : Config) (epoch : Epoch) → IsKnown script older config
      → epoch ≡ config.epoch → config_of script epoch older ≡ Some config
  of-epoch older config epoch k e = subst (λ (y : Epoch). config_of script y older ≡ Some config) (sym e) k

  -- operations of one call are one
  pub same-op : (c : Caller) (a b : Op) → call_of script c ≡ Some a → call_of script c ≡ Some b → a ≡ b
  same-op c a b p q = let e : Some a ≡ Some b = sym p ∙ q in cc

  -- the server that is named is none of them
  stopped-named : (op : Op) (config : Config) → not_listed op config ≡ true → (s : ServerId) × (server_named op ≡ Some s) × (server_in s config.servers ≡ false)
  stopped-named (Stop s) config t = (s, refl, not-true (server_in s config.servers) t)
  stopped-named (Add s g) config t = (s, refl, not-true (server_in s config.servers) t)
  stopped-named other config t = absurd (false≢true t)

  -- a call that adds passes the test
  adds-named : (test : ServerId → RegionId → Bool) (op : Op) → administers_to test (λ s. false) op ≡ true
      → (s : ServerId) × ((g : RegionId) × (op ≡ Add s g) × (test s g ≡ true))
  adds-named test (Add s g) t = (s, (g, refl, t))
  adds-named test other t = absurd (false≢true t)

  module _ (older : List Entry) (c : Caller) (op : Op) (n : ℕ) (v : Version) (called : call_of script c ≡ Some op) where
    -- the call that was answered
    abbrev call : AnsweredCall
    call = the_call script valid trace run older c op n v

    stopped : (epoch : Epoch) → Passes script older c epoch not_listed → IsStopped call epoch
    stopped epoch h =
        let s = stopped-named op h.config (subst (λ (o : Op). not_listed o h.config ≡ true) (same-op c h.op op h.called called) h.holds) in
        record { config = h.config; of_epoch = of-epoch older h.config epoch h.known h.epoch_is; server = s.0; named = s.1; stopped = s.2 }

    add-refused : (epoch : Epoch) (test : Config → ServerId → RegionId → Bool)
        → Passes script older c epoch (λ op config. administers_to (test config) (λ s. false) op) → IsAddRefused call epoch test
    add-refused epoch test h =
        let s = adds-named (test h.config) op (subst (λ (o : Op). administers_to (test h.config) (λ s. false) o
        ≡ true) (same-op c h.op op h.called called) h.holds) in
        record { config = h.config; of_epoch = of-epoch older h.config epoch h.known h.epoch_is; server = s.0; region = s.1.0; adds = s.1.1; holds = s.1.2 }

    issued : (epoch : Epoch) → WasFulfilled script older c epoch → ((m : ℕ) → BeganAt older c m → m ≡ n) → IsIssued call epoch
    issued epoch h same = record {
      config = h.passes.config;
      issued = subst (λ k. issued_after k epoch older ≡ Some h.passes.config) (same h.entry h.began) h.issued;
      fulfilled = subst (λ (o : Op). is_fulfilled o h.passes.config ≡ true) (same-op c h.passes.op op h.passes.called called) h.passes.holds;
    }

    pub outcome-has : (a : Answer) → OutcomeCause script older c a → ((m : ℕ) → BeganAt older c m → m ≡ n) → HasCause call a
    outcome-has (an_answer.Issued epoch) h same = issued epoch h same
    outcome-has (an_answer.Stopped epoch) h same = stopped epoch h
    outcome-has (an_answer.Member epoch) h same = add-refused epoch (λ config s g. lists_ready config g s) h
    outcome-has (an_answer.Joining epoch) h same = add-refused epoch (λ config s g. any_joining (members_of config g)) h
    outcome-has (an_answer.Lost epoch) h same = add-refused epoch (λ config s g. is_lost config g) h
    outcome-has other h same = absurd h

    -- ---- a lost region of the session's configuration

    -- a write that wasn't counted as sent was never sent
    key-refused : (config : Config) (key : List ℕ) → key_of op ≡ Some key → v ≡ no_version
        → (is_write op ≡ true → was_sent c older ≡ false) → IsRefusedFor call config (key_region script.space key) op
    key-refused config key on_key ver never = by op on_key never
      where
        write : (k : List ℕ) → Some k ≡ Some key → was_sent c older ≡ false
            → ((v.0 ≡ 0) × (key_region script.space k ≡ key_region script.space key) × (was_sent c older ≡ false))
            ⊎ ((v.0 ≢ 0) × (refused_place script.space config k op (upto (v.0 - 1) (line_of k older))
            ≡ Some (key_region script.space key)))
        write k e h = let q : k ≡ key = cc in inl (ap (λ (x : Version). x.0) ver, ap (key_region script.space) q, h)

        by : (o : Op) → key_of o ≡ Some key → (is_write o ≡ true → was_sent c older ≡ false) → IsRefusedFor call config (key_region script.space key) o
        by (Put k sets) e f = write k e (f refl)
        by (Get k) e f = (let q : k ≡ key = cc in ap (key_region script.space) q)
        by (Del k) e f = write k e (f refl)
        by (Cput k tests sets) e f = write k e (f refl)
        by (Atomic k edits) e f = write k e (f refl)
        by other e f = absurd (cc)

    -- lost in a configuration that is known
    lost-in : (config : Config) (g : RegionId) → IsKnown script older config → is_lost config g ≡ true → IsLostIn call config g config.epoch
    lost-in config g k l = record { of_epoch = k; lost = l }

    pub key-lost : (s : SessionState) (o : Op) (key : List ℕ) → o ≡ op → key_of op ≡ Some key
        → IsKnown script older s.config → is_lost s.config (key_region script.space key) ≡ true → v ≡ no_version
        → (is_write op ≡ true → s.sent ≡ true → was_sent c older ≡ true)
        → (is_write op ≡ true → s.sent ≡ false → was_sent c older ≡ false)
        → HasCause call (lost_answer s o (key_region script.space key))
    key-lost s o key e on_key k l ver was never =
        subst (λ (x : Op). HasCause call (lost_answer s x (key_region script.space key))) (sym e)
        (
        cond_both (is_write op && s.sent) (an_answer.Doubt (key_region script.space key) s.config.epoch)
        (an_answer.Refused (key_region script.space key) s.config.epoch) (HasCause call)
        (λ t. (let a = and_parts (is_write op) s.sent t in record {
          config = s.config;
          lost = lost-in s.config (key_region script.space key) k l;
          writes = a.0;
          key = key;
          on_key = on_key;
          doubted = inl (refl, was a.0 a.1);
        }))
        (λ t. record {
          config = s.config;
          lost = lost-in s.config (key_region script.space key) k l;
          refused = key-refused s.config key on_key ver (λ w. never w (unsent s.sent (ap (λ b. b && s.sent) (sym w) ∙ t)));
        })
        )
      where
        unsent : (b : Bool) → (true && b) ≡ false → b ≡ false
        unsent b e = e

  -- a plan that is lost names a lost region
  pub plan-lost : (older : List Entry) (c : Caller) (terms : List Term) (n : ℕ) (v : Version) (config : Config)
      (g : RegionId) → IsKnown script older config → plan_of script.space config terms ≡ a_plan.Lost g
      → IsRefused (the_call script valid trace run older c (Search terms) n v) g config.epoch
  plan-lost older c terms n v config g k e = record {
    config = config;
    lost = record { of_epoch = k; lost = (lowest script.space config terms g e).lost };
    refused = e;
  }
