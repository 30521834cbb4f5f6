-- A run in which a leader halts and no region is lost: so the premise of the law on present regions can be met, and each call is answered.
use Rattle.hx_law_lemmas.proofs.Lemmas.Vocabulary.{[], All, All-from_recursion, and_parts, any_ready, ap, arith, Bool, Config, config_of, Entry, Epoch, false}
use Rattle.hx_law_lemmas.proofs.Lemmas.Vocabulary.{first_config, first_some, Fits, Get, if◌then◌else◌, is_lost, IsRun, IsScript, length, line_of, List}
use Rattle.hx_law_lemmas.proofs.Lemmas.Vocabulary.{list_all, map, Member, next_entry, None, not, Op, pos, Put, Record, records_of, refl, scheduled, Script}
use Rattle.hx_law_lemmas.proofs.Lemmas.Vocabulary.{Server, Session, slice_get, Some, stepped, subst, suc, sym, true, when_some, zero, ℕ, ◌<◌, ◌==◌, ◌∙◌, ◌∷◌}
use Rattle.hx_law_lemmas.proofs.Lemmas.Vocabulary.{◌≡◌}
use Rattle.hx_types.specs.declared.calls.Answer.TheVariants as an_answer
use Rattle.hx_types.specs.declared.traces.Step.TheVariants as a_step
use Rattle.hx_types.specs.declared.values.Value.TheVariants as a_value
use Rattle.hx_law_lemmas.proofs.Lemmas.{not-lost, small_books_are}
use Rattle.hx_law_causes.specs.Causes.{AnswersAll, LosesNothing}
use Rattle.hx_law_causes.proofs.Example.{sets, sets_fit, space}
use Rattle.hx_law_causes.proofs.Headline.{runs_answer_all}
use Rattle.hx_law_causes.proofs.Replaying.{scheduled-run}

-- a write of a key of the second region, and a get of it
abbrev script : Script
script = record { space = space; sessions = (Put (98 ∷ []) sets ∷ Get (98 ∷ []) ∷ []) ∷ []; steps = [] }

-- the key's leader, server 2, assigns the write and halts
abbrev first_part : List Entry
first_part = stepped script [] (
    a_step.Tick (Session (record { 0 = 1 })) ∷ a_step.Deliver (record { entry = 1; place = 0 }) ∷ a_step.Halt (Server (record { 0 = 2 })) ∷ []
    )

its_assigned : length (line_of (98 ∷ []) first_part) ≡ 1
its_assigned = refl

-- then all goes by the schedule
abbrev trace : List Entry
trace = scheduled script first_part 60

-- both calls are answered
its_answers : map (λ (r : Record). r.answer) (records_of script trace)
    ≡ Some an_answer.Done ∷ Some (an_answer.Found (a_value.Text (98 ∷ []) ∷ a_value.Int (pos 1999) ∷ [])) ∷ []
its_answers = refl

-- nothing is left to be done
its_end : next_entry script trace ≡ None
its_end = refl

-- the script is valid
its_script : IsScript script
its_script = record {
  space = small_books_are (98 ∷ []) (110 ∷ []) space.attributes space.subspaces refl refl refl refl;
  sessions = omega arith;
  calls = All-from_recursion (λ (calls : List Op). All (Fits space) calls) script.sessions (
    All-from_recursion (Fits space) (Put (98 ∷ []) sets ∷ Get (98 ∷ []) ∷ []) ((omega arith, sets_fit), (omega arith, tt)),
    tt,
  );
  few_calls = omega arith;
  few_steps = omega arith;
}

-- and the trace is a run of it
its_start : IsRun script first_part
its_start = (
  record { actor = refl; running = refl; input = tt; made = refl; enough = refl },
  (
    record { actor = refl; running = refl; input = refl; made = refl; enough = refl },
    (record { actor = refl; running = refl; input = tt; made = refl; enough = refl }, tt),
  ),
)

its_run : IsRun script trace
its_run = scheduled-run script its_script first_part its_start 60

-- ---- its configurations

abbrev ready : ℕ → Member
ready s = record { server = record { 0 = s }; ready = true }

-- that of epoch 2: server 2 is left out
abbrev second : Config
second =
    record {
      epoch = record { 0 = 2 };
      servers = record { 0 = 1 } ∷ record { 0 = 3 } ∷ record { 0 = 4 } ∷ [];
      regions = (ready 1 ∷ []) ∷ (ready 3 ∷ []) ∷ (ready 3 ∷ ready 4 ∷ []) ∷ (ready 4 ∷ ready 1 ∷ []) ∷ (ready 1 ∷ [])
          ∷ (ready 3 ∷ []) ∷ (ready 3 ∷ ready 4 ∷ []) ∷ (ready 4 ∷ ready 1 ∷ []) ∷ [];
    }

-- there are two
its_configs : (epoch : Epoch) → config_of script epoch trace
    ≡ first_some (if 2 == epoch.0 then Some second else None) (if epoch.0 == 1 then Some (first_config space) else None)
its_configs epoch = refl

-- a region with a ready member is not lost
ready-kept : (regions : List (List Member)) → list_all any_ready regions ≡ true → (n : ℕ) → n < length regions
    → not (any_ready (when_some (slice_get regions n) [] (λ (members : List Member). members))) ≡ false
ready-kept [] t n l = absurd (omega (arith, l))
ready-kept (members ∷ rest) t zero l = ap not (and_parts (any_ready members) (list_all any_ready rest) t).0
ready-kept (members ∷ rest) t (suc n) l = ready-kept rest (and_parts (any_ready members) (list_all any_ready rest) t).1 n (omega (arith, l))

-- and none of them has lost a region
loses_nothing : LosesNothing script trace
loses_nothing epoch config known g real = by (2 == epoch.0) (epoch.0 == 1) (sym (its_configs epoch) ∙ known)
  where
    by : (b d : Bool) → first_some (if b then Some second else None) (if d then Some (first_config space) else None) ≡ Some config → is_lost config g ≡ false
    by true d e = let q : second ≡ config = cc in subst (λ (w : Config). is_lost w g ≡ false) q (ready-kept second.regions refl g.0 real)
    by false true e = let q : first_config space ≡ config = cc in subst (λ (w : Config). is_lost w g ≡ false) q (not-lost space g real)
    by false false e = absurd (cc)

-- so no call is refused or in doubt
answers_all : AnswersAll script trace
answers_all = runs_answer_all script its_script trace its_run loses_nothing
