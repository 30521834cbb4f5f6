-- A replay that ends at a worn actor ends so by each way through its steps and the schedule.
use Rattle.std.proofs.Common.{◌≡◌, ◌⊎◌, inl, inr, ◌≤◌, ◌<◌, ℕ, zero, suc, Bool, List, [], Option, Some, None, refl, sym, ap, ◌∙◌, subst, map, arith, length}
use Rattle.std.specs.Prelude.{IsSomeAnd, Err, IfSome}
use Rattle.std.proofs.lemmas.Bool.{cases_lt, leb-true}
use Rattle.hx_io.specs.Causes.{Rose}
use Rattle.hx_model.specs.Types.{Actor, Entry, Script, Step}
use Rattle.hx_script.specs.declared.errors.ScriptError.TheVariants as a_script_error
use Rattle.hx_model.specs.Schedule.{Worn as WornFault, entries_of, next_entry, scheduled, stepped, with_entry}
use Rattle.hx_world.specs.Worlds.{HasFewEntries, IsWornOut}
use Rattle.hx_replay.specs.Causes.{CommandEnds, CommandMakes, EndsWorn, IsCause, IsJudgedResult, IsRefusedUnder, IsWorn, Replays, limit, outcome_of}
use Rattle.hx_replay.specs.Runs.{IsWholeReplay, IsWornAfterSteps, IsWornRun}
use Rattle.hx_replay.specs.Steps.{IsWornAtStep, Stop, stop_of}
use Rattle.hx_replay.specs.declared.outcomes.Ended.{Ended}
use Rattle.hx_replay.specs.declared.outcomes.Ended.TheVariants.{Whole, Refused, Worn}
use Rattle.hx_replay.specs.declared.outcomes.Outcome.{Outcome}
use Rattle.hx_replay.specs.declared.outcomes.Outcome.TheVariants as an_outcome
use Rattle.hx_replay.specs.declared.texts.Scripted.{Scripted}
use Rattle.hx_replay.specs.declared.texts.Scripted.TheVariants.{One, Several}
use Rattle.hx_words.specs.declared.commands.Command.{Command}
use Rattle.hx_words.specs.declared.commands.Command.TheVariants.{Replay, Plan}
use Rattle.hx_replay.proofs.Counting.{counts_own, grows}
use Rattle.hx_replay.proofs.Judging.{one_script}
use Rattle.hx_replay.proofs.Making.{stopped-refused, worn-steppable}
use Rattle.hx_replay.proofs.Reading.{refused_scripted}
use Rattle.hx_replay.proofs.Stepping.{not-taken, same_some}
use Rattle.hx_replay.proofs.WornCourses.{whole_course_is_not_worn, worn_course_at_one}

one_further : (script : Script) (start : List Entry) (a : Actor) (n m : ℕ) → n ≤ suc m
    → (n ≤ m → entries_of a (scheduled script start n) ≤ entries_of a (scheduled script start m)) → (n < suc m) ⊎ (suc m ≤ n)
    → entries_of a (scheduled script start n) ≤ entries_of a (scheduled script start (suc m))
one_further script start a n m within below (inl before) =
    let step : entries_of a (scheduled script start m) ≤ entries_of a (scheduled script start (suc m)) =
    grows a (scheduled script start m) (next_entry script (scheduled script start m)) in
    omega (arith, below (omega (arith, before)), step)
one_further script start a n m within below (inr after) =
    let same : suc m ≡ n = omega (arith, within, after) in
    subst (λ (k : ℕ). entries_of a (scheduled script start k) ≤ entries_of a (scheduled script start (suc m))) same (omega arith)

grows_further : (script : Script) (start : List Entry) (a : Actor) (n m : ℕ) → n ≤ m
    → entries_of a (scheduled script start n) ≤ entries_of a (scheduled script start m)
grows_further script start a n zero within =
    let same : zero ≡ n = omega (arith, within) in
    subst (λ (k : ℕ). entries_of a (scheduled script start k) ≤ entries_of a (scheduled script start zero)) same (omega arith)
grows_further script start a n (suc m) within = one_further script start a n m within (λ h. grows_further script start a n m h) (cases_lt n (suc m))

-- the next entry of a worn actor is one too many
one_too_many : (script : Script) (trace : List Entry) (a : Actor) → IsWornOut script trace a
    → 1048577 ≤ entries_of a (with_entry trace (next_entry script trace))
one_too_many script trace a out = by (next_entry script trace) out.next
  where
    made : 1048576 ≤ entries_of a trace
    made = leb-true 1048576 (entries_of a trace) out.worn

    by : (o : Option Entry) → IsSomeAnd o (λ (x : Entry). x.actor ≡ a) → 1048577 ≤ entries_of a (with_entry trace o)
    by None none = absurd none
    by (Some x) is =
        omega (arith, made, counts_own a trace x is)

-- no run goes on beyond a worn actor
not_beyond : (script : Script) (start : List Entry) (a : Actor) (k n : ℕ)
    → IsWornOut script (scheduled script start k) a → k < n → HasFewEntries (scheduled script start n) → ⊥
not_beyond script start a k n out later few =
    omega (arith, one_too_many script (scheduled script start k) a out, grows_further script start a (suc k) n (omega (arith, later)), few a)

-- a quiet run stays as it is
stays_on : (script : Script) (start : List Entry) (n m : ℕ) → n ≤ suc m → next_entry script (scheduled script start n) ≡ None
    → (n ≤ m → scheduled script start m ≡ scheduled script start n) → (n < suc m) ⊎ (suc m ≤ n) → scheduled script start (suc m) ≡ scheduled script start n
stays_on script start n m within quiet below (inl before) =
    let here : scheduled script start m ≡ scheduled script start n = below (omega (arith, before)) in
    let none : next_entry script (scheduled script start m) ≡ None = ap (next_entry script) here ∙ quiet in
    ap (λ (o : Option Entry). with_entry (scheduled script start m) o) none ∙ here
stays_on script start n m within quiet below (inr after) =
    let same : suc m ≡ n = omega (arith, within, after) in ap (λ (k : ℕ). scheduled script start k) same

stays : (script : Script) (start : List Entry) (n m : ℕ) → n ≤ m → next_entry script (scheduled script start n) ≡ None
    → scheduled script start m ≡ scheduled script start n
stays script start n zero within quiet = let same : zero ≡ n = omega (arith, within) in ap (λ (k : ℕ). scheduled script start k) same
stays script start n (suc m) within quiet = stays_on script start n m within quiet (λ h. stays script start n m h quiet) (cases_lt n (suc m))

no_next : (script : Script) (trace : List Entry) (a : Actor) → IsWornOut script trace a → next_entry script trace ≡ None → ⊥
no_next script trace a out quiet = subst (λ (o : Option Entry). IsSomeAnd o (λ (x : Entry). x.actor ≡ a)) quiet out.next

-- of a script that is worn no run is whole
pub not_quiet : (script : Script) (start : List Entry) (a : Actor) (k n : ℕ) → IsWornOut script (scheduled script start k) a
    → next_entry script (scheduled script start n) ≡ None → HasFewEntries (scheduled script start n) → ⊥
not_quiet script start a k n out quiet few = by (cases_lt k n)
  where
    by : (k < n) ⊎ (n ≤ k) → ⊥
    by (inl before) = not_beyond script start a k n out before few
    by (inr after) =
        let same : scheduled script start k ≡ scheduled script start n = stays script start n k after quiet in
        no_next script (scheduled script start k) a out (ap (next_entry script) same ∙ quiet)

same_next : (o : Option Entry) (a b : Actor) → IsSomeAnd o (λ (x : Entry). x.actor ≡ a) → IsSomeAnd o (λ (x : Entry). x.actor ≡ b) → a ≡ b
same_next None a b h g = absurd h
same_next (Some x) a b h g = sym h ∙ g

-- and two worn actors are one
pub one_worn : (script : Script) (start : List Entry) (a b : Actor) (k n : ℕ)
    → IsWornOut script (scheduled script start k) a → IsWornOut script (scheduled script start n) b
    → HasFewEntries (scheduled script start k) → HasFewEntries (scheduled script start n) → a ≡ b
one_worn script start a b k n out other few many = by (cases_lt k n) (cases_lt n k)
  where
    by : (k < n) ⊎ (n ≤ k) → (n < k) ⊎ (k ≤ n) → a ≡ b
    by (inl before) any = absurd (not_beyond script start a k n out before many)
    by (inr after) (inl before) = absurd (not_beyond script start b n k other before few)
    by (inr after) (inr before) =
        let place : n ≡ k = omega (arith, after, before) in
        same_next (next_entry script (scheduled script start k)) a b out.next
        (subst (λ (m : ℕ). IsSomeAnd (next_entry script (scheduled script start m)) (λ (x : Entry). x.actor ≡ b))
        place other.next)

-- the trace after the steps of the script
abbrev start_of : Script → List Entry
start_of script = stepped script [] (map (λ (s : ℕ × Step). s.1) script.steps)

-- a script whose replay is whole has no worn run
whole_is_not_worn : (with_trace : Bool) (script : Script) (trace worn : List Entry) (report : List ℕ) (a : Actor)
    → IsWholeReplay with_trace script trace report → IsWornRun script worn a → ⊥
whole_is_not_worn with_trace script trace worn report a whole run = by run.ends
  where
    by : IsWornAtStep script worn a ⊎ IsWornAfterSteps script worn a → ⊥
    by (inl at) = not-taken script worn a at whole.taken
    by (inr after) =
        not_quiet script (start_of script) a after.entries whole.scheduled.entries
        (subst (λ (t : List Entry). IsWornOut script t a) after.trace_is after.worn_out)
        (ap (next_entry script) (sym whole.scheduled.trace_is) ∙ whole.scheduled.quiet)
        (subst HasFewEntries whole.scheduled.trace_is whole.few)

same_fault : (a b : Actor) → WornFault a ≡ WornFault b → a ≡ b
same_fault a b e = cc

-- the worn runs of a script end at one actor
worn_at_one : (script : Script) (one other : List Entry) (a b : Actor) → IsWornRun script one a → IsWornRun script other b → a ≡ b
worn_at_one script one other a b run further = by run.ends further.ends
  where
    by : IsWornAtStep script one a ⊎ IsWornAfterSteps script one a → IsWornAtStep script other b ⊎ IsWornAfterSteps script other b → a ≡ b
    by (inl at) (inl also) = same_fault a b (ap (λ (s : Stop). s.fault) (same_some (stop_of script [] script.steps) _ _ at.stops also.stops))
    by (inl at) (inr after) = absurd (not-taken script one a at after.taken)
    by (inr after) (inl at) = absurd (not-taken script other b at after.taken)
    by (inr after) (inr also) =
        one_worn script (start_of script) a b after.entries also.entries
        (subst (λ (t : List Entry). IsWornOut script t a) after.trace_is after.worn_out)
        (subst (λ (t : List Entry). IsWornOut script t b) also.trace_is also.worn_out)
        (subst HasFewEntries after.trace_is run.few) (subst HasFewEntries also.trace_is further.few)

made_is_not_worn : (command : Command) (scripted : Scripted) (traces worn : List (List Entry)) (bytes : List ℕ)
    (a : Actor) → Replays command → CommandMakes command scripted traces bytes → EndsWorn scripted worn a → ⊥
made_is_not_worn (Replay with_trace) (One script) traces worn bytes a replays made run =
    whole_is_not_worn with_trace script made.trace run.trace bytes a made.held run.held
made_is_not_worn (Replay with_trace) (Several bundle) traces worn bytes a replays made run =
    whole_course_is_not_worn with_trace bundle traces worn bytes a made run
made_is_not_worn Plan scripted traces worn bytes a replays made run = absurd replays

worn_scripted_at_one : (scripted : Scripted) (one other : List (List Entry)) (a b : Actor) → EndsWorn scripted one a → EndsWorn scripted other b → a ≡ b
worn_scripted_at_one (One script) one other a b run further = worn_at_one script run.trace further.trace a b run.held further.held
worn_scripted_at_one (Several bundle) one other a b run further = worn_course_at_one bundle one other a b run further

-- what a replaying command makes of a text that has a worn run
made_of_worn : (command : Command) (text : List ℕ) (made : Ended) (traces : List (List Entry)) (a : Actor)
    → Replays command → CommandEnds command text made → IsWorn text traces a → outcome_of made ≡ an_outcome.Worn a
made_of_worn command text (Whole answered) traces a replays made worn =
    let same = one_script text made.scripted worn.scripted made.text_is worn.text_is in
    absurd (made_is_not_worn command worn.scripted answered.traces traces answered.bytes.items a replays
    (subst (λ (s : Scripted). CommandMakes command s answered.traces answered.bytes.items) same made.made) worn.worn)
made_of_worn command text (Refused line before) traces a replays made worn =
    let same = one_script text worn.scripted made.1.scripted worn.text_is made.1.text_is in
    absurd (worn-steppable made.1.scripted traces a
    (subst (λ (s : Scripted). EndsWorn s traces a) same worn.worn) line before
    (stopped-refused made.1.scripted line before made.1.stopped))
made_of_worn command text (Worn b before) traces a replays made worn =
    let same = one_script text made.1.scripted worn.scripted made.1.text_is worn.text_is in
    ap (λ (x : Actor). an_outcome.Worn x) (worn_scripted_at_one worn.scripted before traces b a
    (subst (λ (s : Scripted). EndsWorn s before b) same made.1.worn) worn.worn)

-- the same where the source told its text
pub made_wears : (command : Command) (text : List ℕ) (before : Option (List ℕ)) (made shown : Ended)
    (traces : List (List Entry)) (a : Actor) → before ≡ Some text
    → IfSome before (λ t. CommandEnds command t made) → made ≡ shown → Replays command → IsWorn text traces a → outcome_of shown ≡ an_outcome.Worn a
made_wears command text before made shown traces a left told is replays worn =
    let at : IfSome (Some text) (λ t. CommandEnds command t made) = subst (λ (o : Option (List ℕ)). IfSome o (λ t. CommandEnds command t made)) left told in
    let here : CommandEnds command text shown = subst (λ (m : Ended). CommandEnds command text m) is at in
    made_of_worn command text shown traces a replays here worn

by_outcome : (command : Command) (text : List ℕ) (before after : Option (List ℕ)) (m n : ℕ) (outcome : Outcome) (traces : List (List Entry)) (a : Actor)
    → Replays command → length text ≤ limit → IsWorn text traces a → (Rose m n → ⊥)
    → IsJudgedResult command text (Err outcome) → IsCause command before after m n outcome → outcome ≡ an_outcome.Memory
by_outcome command text before after m n an_outcome.Fine traces a replays short worn still judged cause = absurd cause
by_outcome command text before after m n an_outcome.Usage traces a replays short worn still judged cause = absurd cause
by_outcome command text before after m n (an_outcome.Refused line reason) traces a replays short worn still judged cause = absurd (by judged.1)
  where
    by : IsRefusedUnder command text line reason → ⊥
    by (inl refused) =
        let both = sym worn.text_is ∙ refused_scripted text (a_script_error.Refused line reason) refused in absurd (cc)
    by (inr step) =
        let same = one_script text worn.scripted step.scripted worn.text_is step.text_is in
        worn-steppable step.scripted traces a (subst (λ (s : Scripted). EndsWorn s traces a) same worn.worn) line step.traces step.refused
by_outcome command text before after m n an_outcome.TooLarge traces a replays short worn still judged cause = absurd (omega (arith, short, judged))
by_outcome command text before after m n an_outcome.ReadFault traces a replays short worn still judged cause = absurd (still cause)
by_outcome command text before after m n an_outcome.WriteFault traces a replays short worn still judged cause = absurd cause
by_outcome command text before after m n an_outcome.Memory traces a replays short worn still judged cause = refl
by_outcome command text before after m n (an_outcome.Worn b) traces a replays short worn still judged cause = absurd cause
by_outcome command text before after m n (an_outcome.Wrong line clause) traces a replays short worn still judged cause = absurd cause

-- and where reading the text or answering it ended before
pub err_wears : (command : Command) (text : List ℕ) (before after : Option (List ℕ)) (m n : ℕ) (outcome : Outcome)
    (traces : List (List Entry)) (a : Actor) → before ≡ Some text
    → IfSome before (λ t. IsJudgedResult command t (Err outcome)) → IsCause command before after m n outcome
    → Replays command → length text ≤ limit → IsWorn text traces a → (Rose m n → ⊥) → outcome ≡ an_outcome.Memory
err_wears command text before after m n outcome traces a left judged cause replays short worn still =
    let at : IfSome (Some text) (λ t. IsJudgedResult command t (Err outcome)) =
    subst (λ (o : Option (List ℕ)). IfSome o (λ t. IsJudgedResult command t (Err outcome))) left judged in
    by_outcome command text before after m n outcome traces a replays short worn still at cause
