-- What was made is the step.
use Rattle.std.proofs.Common.{◌≡◌, true, false, List, [], ◌∷◌, ◌++◌, Option, None, Some, refl, ap, sym, ◌∙◌, subst}
use Rattle.std.specs.List.{flat_map}
use Rattle.std.proofs.lemmas.Bool.{cond-false, cond-true}
use Rattle.hx_model.specs.Types.{Answer, Caller, Config, Post, RegionId, ServerId}
use Rattle.hx_types.specs.declared.calls.Answer.TheVariants as an_answer
use Rattle.hx_types.specs.declared.messages.Message.TheVariants as a_message
use Rattle.hx_types.specs.Words.{server_in}
use Rattle.hx_model.specs.CoordinatorSteps.{Answered, CoordinatorStep, Task, adds, again, by_number, config_with}
use Rattle.hx_model.specs.CoordinatorSteps.{coordinator_tick, die_for, issue, join_posts, judged, newest_of, outcome}
use Rattle.hx_model.specs.CoordinatorSteps.{resting, stops, telling, to_server}
use Rattle.hx_coord.specs.declared.agendas.Agenda.{Agenda}
use Rattle.hx_coord.specs.declared.outputs.StepOutput.{StepOutput}
use Rattle.hx_coord.specs.Changes.{IsOutputOf, done_by, issued_as, known_posts, numbered, standing, to_do, told}
use Rattle.hx_coord.specs.Numbers.{Comes, step_by}
use Rattle.hx_coord.specs.declared.calls.Coming.{Coming}

-- posts alone
pub told_made : (config : Config) (a : Agenda) (posts : List Post) (made : StepOutput) → made ≡ told a posts
    → IsOutputOf config (telling (standing config a) posts) made
told_made config a posts made e =
    subst (λ (m : StepOutput). IsOutputOf config (telling (standing config a) posts) m) (sym e) (record { posts = refl; notes = refl; state = refl })

-- nothing happens
pub rested_made : (config : Config) (a : Agenda) (made : StepOutput) → made ≡ told a [] → IsOutputOf config (resting (standing config a)) made
rested_made config a made e = told_made config a [] made e

-- a configuration is issued
pub issued_made : (config next : Config) (a : Agenda) (answered : List Answered) (made : StepOutput) → made ≡ issued_as a next answered
    → IsOutputOf config (issue (standing config a) next answered a.todo) made
issued_made config next a answered made e =
    subst (λ (m : StepOutput). IsOutputOf config (issue (standing config a) next answered a.todo) m) (sym e)
    (record { posts = refl; notes = refl; state = refl })

-- a step that is the same is made, too
pub made_as : (config : Config) (step other : CoordinatorStep) (made : StepOutput) → step ≡ other → IsOutputOf config other made → IsOutputOf config step made
made_as config step other made e h = subst (λ (s : CoordinatorStep). IsOutputOf config s made) (sym e) h

-- a call that came before
pub again_made : (config : Config) (a : Agenda) (caller : Caller) (known : Option Answer) (made : StepOutput) → made ≡ told a (known_posts caller known)
    → IsOutputOf config (again (standing config a) caller known) made
again_made config a caller None made e = rested_made config a made e
again_made config a caller (Some answer) made e = told_made config a _ made e

-- the coordinator's turn
pub tick_made : (config : Config) (a : Agenda) (posts : List Post) (made : StepOutput)
    → posts ≡ flat_map (λ (t : Task). die_for t.op) a.todo ++ flat_map (join_posts config) config.regions → made ≡ told a posts
    → IsOutputOf config (coordinator_tick (standing config a)) made
tick_made config a posts made are e = told_made config a _ made (e ∙ ap (told a) are)

-- a call by how it stands to the newest number of its session
pub called : (config : Config) (a : Agenda) (caller : Caller) (new : CoordinatorStep) (coming : Coming) (made : StepOutput) → Comes a.newest caller coming
    → IsOutputOf config (step_by (standing config a) caller new coming) made
    → IsOutputOf config (by_number (standing config a) caller (newest_of caller.session a.newest) new) made
called config a caller new coming made comes h = made_as config _ _ made (comes (standing config a) new) h

-- a new Stop of a server that left
pub stops_out : (config : Config) (a : Agenda) (caller : Caller) (s : ServerId) (made : StepOutput) → server_in s config.servers ≡ false
    → made ≡ told (numbered a caller (Some (an_answer.Stopped config.epoch))) (outcome caller (an_answer.Stopped config.epoch) ∷ [])
    → IsOutputOf config (stops (standing config a) caller s) made
stops_out config a caller s made out e = made_as config _ _ made (cond-false (server_in s config.servers) _ _ out) (told_made config _ _ made e)

-- a new Stop of a server that is there
pub stops_in : (config : Config) (a : Agenda) (caller : Caller) (s : ServerId) (posts : List Post) (made : StepOutput) → server_in s config.servers ≡ true
    → posts ≡ to_server a_message.Die s ∷ [] → made ≡ told (to_do a caller s) posts → IsOutputOf config (stops (standing config a) caller s) made
stops_in config a caller s posts made within are e =
    made_as config _ _ made (cond-true (server_in s config.servers) _ _ within) (told_made config _ _ made (e ∙ ap (told (to_do a caller s)) are))

-- a new Add with something against it
pub adds_not : (config : Config) (a : Agenda) (caller : Caller) (s : ServerId) (g : RegionId) (answer : Answer) (made : StepOutput)
    → judged config s g ≡ Some answer
    → made ≡ told (numbered a caller (Some answer)) (outcome caller answer ∷ [])
    → IsOutputOf config (adds (standing config a) caller s g (judged config s g)) made
adds_not config a caller s g answer made is e =
    made_as config _ _ made (ap (adds (standing config a) caller s g) is) (told_made config _ _ made e)

-- a new Add with nothing against it
pub adds_now : (config next : Config) (a : Agenda) (caller : Caller) (s : ServerId) (g : RegionId) (made : StepOutput) → judged config s g ≡ None
    → next ≡ config_with config s g
    → made ≡ issued_as (numbered a caller None) next (done_by caller next) → IsOutputOf config (adds (standing config a) caller s g (judged config s g)) made
adds_now config next a caller s g made is are e =
    made_as config _ _ made (ap (adds (standing config a) caller s g) is)
    (issued_made config (config_with config s g) (numbered a caller None) (done_by caller (config_with config s g)) made
    (e ∙ ap (λ (c : Config). issued_as (numbered a caller None) c (done_by caller c)) are))
