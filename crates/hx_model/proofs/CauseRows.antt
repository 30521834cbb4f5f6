-- Answers without their cause, and the words that causes are told in, by computing.
use Rattle.std.specs.Prelude.{◌≡◌, ℕ, Bool, true, false, not, List, [], ◌∷◌, ◌++◌, drop, Option, None, Some, ◌==◌}
use Rattle.hx_model.specs.Types.{Add, Caller, Config, Coordinator, Del, Entry, Item, Op, Script, Server, Session, Stop, Tick}
use Rattle.hx_types.specs.declared.calls.Answer.TheVariants as an_answer
use Rattle.hx_types.specs.declared.messages.Message.TheVariants as a_message
use Rattle.hx_types.specs.declared.traces.Note.TheVariants as a_note
use Rattle.hx_types.specs.Words.{post}
use Rattle.hx_types.specs.Effects.{effect_of}
use Rattle.hx_types.specs.Fitting.{is_not_found}
use Rattle.hx_types.specs.Configs.{first_config}
use Rattle.hx_model.specs.Causes.{AnsweredCall, IsGiven, IsIssued, IsRefusedWrite, config_of, is_fulfilled, issued_after, was_sent}
use Rattle.hx_model.specs.Histories.{history_of}
use Rattle.hx_model.specs.Legal.{object_now}
use Rattle.hx_model.specs.Runs.{is_empty}
use Rattle.std.proofs.Common.{refl, inl, inr, ap, sym, subst, ◌∙◌}
use Rattle.hx_model.proofs.SmallSpace.{caller, configured, epoch, joining, ready, red, region, server, session, shop, version}
use Rattle.hx_model.proofs.HandMade.{assigned, began, called, ended, never, noted, of_color, put_color, put_item, the_key, update_of}

-- a put, a del, and two calls to the coordinator
abbrev script : Script
script = called ((put_color red ∷ put_color red ∷ []) ∷ (Del the_key ∷ []) ∷ (Stop (server 3) ∷ Add (server 3) (region 0) ∷ []) ∷ [])

abbrev answered : List Entry → List Entry → Caller → Op → ℕ → ℕ → AnsweredCall
answered trace older c op begin v = record { script = script; trace = trace; older = older; caller = c; op = op; begin = begin; version = version v }

-- a del of what is there is answered as if nothing were
abbrev del_item : Item
del_item = record { version = version 2; caller = caller 2 1; op = Del the_key; answer = an_answer.NotFound; object = Some (of_color red) }

abbrev put_and_del : List Entry
put_and_del =
    ended 2 1 2 an_answer.NotFound
    ∷ noted (Server (server 1)) (a_note.Assigned (record (update_of 2 (caller 2 1) red) { answer = an_answer.NotFound; changes = false }))
    ∷ began 2 1
    ∷ ended 1 1 1 an_answer.Done
    ∷ assigned 1 1 1 red
    ∷ began 1 1
    ∷ []

its_history : history_of script the_key put_and_del ≡ del_item ∷ put_item 1 1 1 red ∷ []
its_history = refl

full : (newer : List Item) (x : Item) (older : List Item) → is_empty (newer ++ x ∷ older) ≡ false
full [] x older = refl
full (y ∷ newer) x older = refl

abbrev first_is_of_two : List Item → Bool
first_is_of_two [] = false
first_is_of_two (x ∷ older) = x.caller.session.0 == 2

-- whether a del on what these items leave finds nothing
abbrev finds_nothing : List Item → Bool
finds_nothing older = is_not_found (effect_of shop (object_now older) (Del the_key)).answer

del_finds : (newer : List Item) (x : Item) (older : List Item)
    → del_item ∷ put_item 1 1 1 red ∷ [] ≡ newer ++ x ∷ older
    → x.caller ≡ caller 2 1
    → an_answer.NotFound ≡ (effect_of shop (object_now older) (Del the_key)).answer
    → ⊥
del_finds [] x older e c g = never (ap is_not_found g ∙ sym (ap (λ (l : List Item). finds_nothing (drop 1 l)) e))
del_finds (y ∷ []) x older e c g =
    never (sym (ap (λ (k : Caller). k.session.0 == 2) c) ∙ sym (ap (λ (l : List Item). first_is_of_two (drop 1 l)) e))
del_finds (y ∷ z ∷ newer) x older e c g = never (ap (λ (l : List Item). is_empty (drop 2 l)) e ∙ full newer x older)

abbrev key_in : Option (List ℕ) → List ℕ
key_in None = []
key_in (Some key) = key

not_given : ¬ IsGiven (answered put_and_del (drop 1 put_and_del) (caller 2 1) (Del the_key) 4 2) an_answer.NotFound
not_given = λ g.
    let stands = subst (λ (key : List ℕ). history_of script key put_and_del ≡ g.newer ++ g.item ∷ g.older) (sym (ap key_in g.on_key)) g.stands in
    del_finds g.newer g.item g.older stands g.caller g.given

-- a write that was sent is not refused without a version; another call of its session was not sent with it
abbrev sent : List Entry
sent =
    record {
      actor = Session (session 1);
      input = Tick;
      outputs = post (Session (session 1)) (Server (server 1)) (a_message.Call (epoch 1) 1 (put_color red)) ∷ [];
      notes = a_note.Began 1 ∷ [];
    }
    ∷ []

first_was_sent : was_sent (caller 1 1) sent ≡ true
first_was_sent = refl

second_was_not : was_sent (caller 1 2) sent ≡ false
second_was_not = refl

nor_that_of_another : was_sent (caller 2 1) sent ≡ false
nor_that_of_another = refl

not_refused : (config : Config) → ¬ IsRefusedWrite (answered sent sent (caller 1 1) (put_color red) 1 0) config (region 0) the_key
not_refused config (inl (v, g, s)) = never s
not_refused config (inr (v, g)) = absurd (v refl)

-- server 3 is stopped by the configuration of epoch 2, which entry 2 issues, and joins region 0 again by that of epoch 3
abbrev without_third : Config
without_third = configured 2 (1 ∷ 2 ∷ []) ((ready 1 ∷ ready 2 ∷ []) ∷ (ready 2 ∷ []) ∷ (ready 1 ∷ []) ∷ [])

abbrev with_third : Config
with_third = configured 3 (1 ∷ 2 ∷ 3 ∷ []) ((ready 1 ∷ ready 2 ∷ joining 3 ∷ []) ∷ (ready 2 ∷ []) ∷ (ready 1 ∷ []) ∷ [])

abbrev reconfigured : List Entry
reconfigured = noted Coordinator (a_note.Issued with_third) ∷ began 3 2 ∷ noted Coordinator (a_note.Issued without_third) ∷ began 3 1 ∷ []

first_one : config_of script (epoch 1) reconfigured ≡ Some (first_config shop)
first_one = refl

second_one : config_of script (epoch 2) reconfigured ≡ Some without_third
second_one = refl

third_one : config_of script (epoch 3) reconfigured ≡ Some with_third
third_one = refl

no_fourth : config_of script (epoch 4) reconfigured ≡ None
no_fourth = refl

-- entry 2 is after entry 1 and not after itself
issued_by_then : issued_after 1 (epoch 2) reconfigured ≡ Some without_third
issued_by_then = refl

not_issued_later : issued_after 2 (epoch 2) reconfigured ≡ None
not_issued_later = refl

abbrev is_none : Option Config → Bool
is_none None = true
is_none (Some config) = false

-- a call is not answered by a configuration that was issued before it began
not_issued : ¬ IsIssued (answered reconfigured reconfigured (caller 3 2) (Add (server 3) (region 0)) 3 0) (epoch 2)
not_issued = λ i. never (sym (ap (λ (o : Option Config). not (is_none o)) i.issued))

-- nor by one that lacks what it asked for
stop_leaves_out : is_fulfilled (Stop (server 3)) without_third ≡ true
stop_leaves_out = refl

stop_not_fulfilled : is_fulfilled (Stop (server 3)) with_third ≡ false
stop_not_fulfilled = refl

add_lists : is_fulfilled (Add (server 3) (region 0)) with_third ≡ true
add_lists = refl

add_not_fulfilled : is_fulfilled (Add (server 3) (region 1)) with_third ≡ false
add_not_fulfilled = refl

put_asks_for_none : is_fulfilled (put_color red) with_third ≡ false
put_asks_for_none = refl
