-- What a message makes is its step.
use Rattle.std.proofs.Common.{◌≡◌, ℕ, ◌<◌, ◌≤◌, nat_lt, Bool, true, false, cond, not, ◌&&◌, List, [], ◌∷◌, refl, ap, ◌∙◌, arith}
use Rattle.std.proofs.lemmas.Bool.{cond-true, cond-false}
use Rattle.hx_model.specs.Types.{Actor, Config, Coordinator, Epoch, RegionId, Server, ServerId}
use Rattle.hx_types.specs.declared.messages.Message.TheVariants as a_message
use Rattle.hx_types.specs.Configs.{is_lost, lists_joining}
use Rattle.hx_types.specs.Words.{post, server_in}
use Rattle.hx_model.specs.CoordinatorSteps.{Answered, CoordinatorStep, Task, config_ready, config_without, gone_step}
use Rattle.hx_model.specs.CoordinatorSteps.{poll_step, ready_step, stops_answered, stops_left}
use Rattle.hx_coord.specs.declared.agendas.Agenda.{Agenda}
use Rattle.hx_coord.specs.declared.outputs.StepOutput.{StepOutput}
use Rattle.hx_coord.specs.Changes.{IsOutputOf, issued_as, standing, told}
use Rattle.hx_coord.proofs.Steps.{issued_made, made_as, rested_made, told_made}

-- the step that a test chooses
chosen : (config : Config) (b : Bool) (x y : CoordinatorStep) (made : StepOutput) → b ≡ true → IsOutputOf config x made → IsOutputOf config (cond b x y) made
chosen config b x y made e h = made_as config _ _ made (cond-true b x y e) h

-- the step where the test fails
passed : (config : Config) (b : Bool) (x y : CoordinatorStep) (made : StepOutput) → b ≡ false → IsOutputOf config y made → IsOutputOf config (cond b x y) made
passed config b x y made e h = made_as config _ _ made (cond-false b x y e) h

both : (a b : Bool) → a ≡ true → b ≡ true → (a && b) ≡ true
both true true e f = refl
both true false e f = absurd cc
both false b e f = absurd cc

not_first : (a b : Bool) → a ≡ false → (a && b) ≡ false
not_first false b e = refl
not_first true b e = absurd cc

not_second : (a b : Bool) → b ≡ false → (a && b) ≡ false
not_second true b e = e
not_second false b e = refl

lower : (m n : ℕ) → m < n → nat_lt m n ≡ true
lower m n l = grind (arith, l)

not_lower : (m n : ℕ) → n ≤ m → nat_lt m n ≡ false
not_lower m n l = grind (arith, l)

module _ (config : Config) (a : Agenda) (s : ServerId) (made : StepOutput) where
  -- a server of the configuration has halted
  pub gone_now : (next : Config) (answered : List Answered) (left : List Task) → server_in s config.servers ≡ true → next ≡ config_without config s
      → ((c : Config) → c.epoch ≡ next.epoch → answered ≡ stops_answered c s a.todo) → left ≡ stops_left s a.todo
      → made ≡ issued_as (record a { todo = left }) next answered
      → IsOutputOf config (gone_step (standing config a) (Server s)) made
  gone_now next answered left within next_is answered_are left_are e =
      chosen config (server_in s config.servers) _ _ made within
      (issued_made config (config_without config s) (record a { todo = stops_left s a.todo }) (stops_answered (config_without config s) s a.todo) made
      (
      e
      ∙ ap (λ (ts : List Task). issued_as (record a { todo = ts }) next answered) left_are
      ∙ ap (issued_as (record a { todo = stops_left s a.todo }) next) (answered_are next refl)
      ∙ ap (λ (c : Config). issued_as (record a { todo = stops_left s a.todo }) c (stops_answered c s a.todo)) next_is
      ))

  -- a server that left has halted
  pub gone_elsewhere : server_in s config.servers ≡ false → made ≡ told a [] → IsOutputOf config (gone_step (standing config a) (Server s)) made
  gone_elsewhere out e = passed config (server_in s config.servers) _ _ made out (rested_made config a made e)

  module _ (g : RegionId) where
    -- a joiner of the region is ready
    pub ready_now : (next : Config) → is_lost config g ≡ false → lists_joining config g s ≡ true → next ≡ config_ready config s g → made ≡ issued_as a next []
        → IsOutputOf config (ready_step (standing config a) g (Server s)) made
    ready_now next here within next_is e =
        chosen config (not (is_lost config g) && lists_joining config g s) _ _ made (both _ _ (ap not here) within)
        (issued_made config (config_ready config s g) a [] made (e ∙ ap (λ (c : Config). issued_as a c []) next_is))

    -- the region is lost
    pub ready_lost : is_lost config g ≡ true → made ≡ told a [] → IsOutputOf config (ready_step (standing config a) g (Server s)) made
    ready_lost lost e = passed config (not (is_lost config g) && lists_joining config g s) _ _ made (not_first _ _ (ap not lost)) (rested_made config a made e)

    -- the region has no such joiner
    pub ready_unlisted : lists_joining config g s ≡ false → made ≡ told a [] → IsOutputOf config (ready_step (standing config a) g (Server s)) made
    ready_unlisted out e = passed config (not (is_lost config g) && lists_joining config g s) _ _ made
        (not_second (not (is_lost config g)) _ out) (rested_made config a made e)

module _ (config : Config) (a : Agenda) (epoch : Epoch) (from : Actor) (made : StepOutput) where
  -- an actor of an older epoch asks
  pub poll_older : epoch.0 < config.epoch.0 → made ≡ told a (post Coordinator from (a_message.Install config) ∷ [])
      → IsOutputOf config (poll_step (standing config a) epoch from) made
  poll_older l e = chosen config _ _ _ made (lower _ _ l) (told_made config a _ made e)

  -- an actor of the newest epoch asks
  pub poll_newer : config.epoch.0 ≤ epoch.0 → made ≡ told a [] → IsOutputOf config (poll_step (standing config a) epoch from) made
  poll_newer l e = passed config _ _ _ made (not_lower _ _ l) (rested_made config a made e)
