-- An actor at its desk after one more entry.
use Rattle.std.proofs.Common.{◌≡◌, ℕ, suc, ◌+◌, ◌<◌, inl, true, List, [], ◌∷◌, ◌++◌, length, refl, ap, sym, subst, ◌∙◌, append-nil, append_assoc}
use Rattle.std.specs.List.{AllByRecursion}
use Rattle.hx_types.specs.declared.ids.Actor.{Actor}
use Rattle.hx_types.specs.declared.messages.Post.{Post}
use Rattle.hx_types.specs.declared.traces.Entry.{Entry}
use Rattle.hx_types.specs.declared.traces.Input.{Input}
use Rattle.hx_types.specs.declared.traces.Input.TheVariants.{Tick, Halt, Deliver}
use Rattle.hx_types.specs.declared.traces.Script.{Script}
use Rattle.hx_types.specs.Posts.{IsSoundPost}
use Rattle.hx_types.specs.Words.{IsIn}
use Rattle.hx_model.specs.Runs.{entry_of, made_of, does_something}
use Rattle.hx_clock.specs.declared.parts.Stamped.{Stamped}
use Rattle.hx_clock.specs.declared.view.View.{View}
use Rattle.hx_clock.specs.Parts.{stamped, DeliveryMeets, InputMeets}
use Rattle.hx_clock.specs.Views.{numbered, Carries, Has, Knows, Owns}
use Rattle.hx_clock.proofs.Lemmas.{each_all, in_right}
use Rattle.hx_law_threads.specs.Feeding.{IsFed, IsFedBy}
use Rattle.hx_law_threads.proofs.Lemmas.{actors_stay_sound, reverse_snoc}
use Rattle.hx_law_threads.specs.Own.{IsOwn, MayHalt}
use Rattle.hx_machine.specs.declared.changes.Change.{Change}
use Rattle.hx_machine.specs.Machines.{CanTake}
use Rattle.hx_mail.specs.declared.views.Mailed.{Mailed}
use Rattle.hx_outbox.specs.Offers.{named}
use Rattle.hx_driver.specs.declared.desks.Desk.{Desk}
use Rattle.hx_driver.specs.Desks.{entries_before, made_by, past_of, told}
use Rattle.hx_driver.specs.Told.{told_by}
use Rattle.hx_driver.specs.Givings.{CanBeGiven, IsReady, MakesEnough}
use Rattle.hx_driver.proofs.Taken.{fed-by, latest-low}

-- the entry is the actor's next step
pub record IsNext (script : Script) (d : Desk) (r : Entry) : Type 0 where
  pub step : r ≡ entry_of d.actor r.input (made_of script (entries_before d.part.items) d.actor r.input)
  pub takes : CanTake script d.actor (past_of d.part.items) r.input
  pub given : CanBeGiven script d r.input
  pub enough : does_something r.input (record { posts = r.outputs; notes = r.notes }) ≡ true

-- the entry of the step that is ready on the input
abbrev pub entry_on : Desk → Input → Entry
entry_on d input = record { actor = d.actor; input = input; outputs = d.lent.posts; notes = d.lent.notes }

pub next-of : (script : Script) (d : Desk) (input : Input) (c : Change) → IsReady script d input c → MakesEnough input d → IsNext script d (entry_on d input)
next-of script d input c ready enough = record {
  step = λ i. record { actor = d.actor; input = input; outputs = ready.posts i; notes = ready.notes i };
  takes = ready.takes;
  given = ready.given;
  enough = enough;
}

given-meets : (script : Script) (d : Desk) (input : Input) → CanBeGiven script d input → InputMeets (Knows d.seat.view) d.actor input
given-meets script d Tick g = tt
given-meets script d Halt g = tt
given-meets script d (Deliver id from message) g = g.0

given-may : (script : Script) (d : Desk) (input : Input) → CanBeGiven script d input → MayHalt d.actor input
given-may script d Tick g = tt
given-may script d Halt g = absurd g
given-may script d (Deliver id from message) g = tt

actor-of : (script : Script) (d : Desk) (r : Entry) → IsNext script d r → r.actor ≡ d.actor
actor-of script d r n = ap (λ (x : Entry). x.actor) n.step

pub next-meets : (script : Script) (d : Desk) (r : Entry) → IsNext script d r → DeliveryMeets (Knows d.seat.view) r
next-meets script d r n = subst (λ (a : Actor). InputMeets (Knows d.seat.view) a r.input) (sym (actor-of script d r n)) (given-meets script d r.input n.given)

-- the entries, the newest first, after one more
pub past-next : (part part' : List Stamped) (x : Stamped) → part' ≡ part ++ x ∷ [] → past_of part' ≡ x ∷ past_of part
past-next part part' x e = ap past_of e ∙ reverse_snoc x part

pub next-own : (script : Script) (d : Desk) (r : Entry) → IsOwn script d.actor (entries_before d.part.items)
    → IsNext script d r → IsOwn script d.actor (r ∷ entries_before d.part.items)
next-own script d r own n = (
  record {
    actor = actor-of script d r n;
    running = n.takes.running;
    input = given-may script d r.input n.given;
    made = sym (ap (λ (y : Entry). record { posts = y.outputs; notes = y.notes }) n.step);
    enough = n.enough;
  },
  own,
)

pub next-fed : (script : Script) (d : Desk) (k stamp : ℕ) (r : Entry) → Owns d.seat.view k d.part.items
    → ((x : Stamped) → Has d.seat.view x → x.stamp.0 < stamp) → IsFed script (past_of d.part.items) → IsNext script d r
    → IsFed script (stamped stamp r ∷ past_of d.part.items)
next-fed script d k stamp r own later fed n = (
  latest-low d.seat.view k d.part.items stamp own later,
  subst (λ (a : Actor). IsFedBy script stamp a r.input) (sym (actor-of script d r n)) (fed-by script d stamp r.input later n.given),
  fed,
)

-- its posts are sound
pub next-sound : (script : Script) (d : Desk) (k stamp : ℕ) (r : Entry) → Owns d.seat.view k d.part.items
    → ((x : Stamped) → Has d.seat.view x → x.stamp.0 < stamp) → IsOwn script d.actor (entries_before d.part.items)
    → IsFed script (past_of d.part.items) → IsNext script d r → AllByRecursion (IsSoundPost script.space (length script.sessions) (stamp + 1)) r.outputs
next-sound script d k stamp r own later mine fed n =
    let s = actors_stay_sound script n.takes.valid d.actor n.takes.exists (stamped stamp r ∷ past_of d.part.items)
    (next-own script d r mine n) (next-fed script d k stamp r own later fed n) in
    each_all _ r.outputs (λ p i. s.posts (stamped stamp r) (inl refl) p i)

pub owns-carries : (v : View) (k : ℕ) (part : List Stamped) (x : Stamped) → Owns v k (part ++ x ∷ []) → Carries v x
owns-carries v k part x own = (
  numbered k (part ++ x ∷ []),
  subst (IsIn (numbered k (part ++ x ∷ []))) (sym own) (inl refl),
  in_right x part (x ∷ []) (inl refl),
)

told-append : (xs ys : List Stamped) → told (xs ++ ys) ≡ told xs ++ told ys
told-append [] ys = refl
told-append (x ∷ xs) ys = ap (λ l. told_by x.entry.actor x.entry.input ++ l) (told-append xs ys)
    ∙ sym (append_assoc (told_by x.entry.actor x.entry.input) (told xs) (told ys))

-- what the entries deliver after one more
pub next-told : (script : Script) (d : Desk) (stamp : ℕ) (r : Entry) (part : List Stamped) (ms : List Mailed)
    → IsNext script d r → part ≡ d.part.items ++ stamped stamp r ∷ [] → told d.part.items ++ told_by d.actor r.input ≡ ms
    → told part ++ [] ≡ ms
next-told script d stamp r part ms n e h =
    append-nil (told part) ∙ ap told e ∙ told-append d.part.items (stamped stamp r ∷ [])
    ∙ ap (λ l. told d.part.items ++ l) (append-nil (told_by r.actor r.input))
    ∙ ap (λ (a : Actor). told d.part.items ++ told_by a r.input) (actor-of script d r n) ∙ h

named-long : (e k : ℕ) (ps : List Post) → length (named e k ps) ≡ length ps
named-long e k [] = refl
named-long e k (p ∷ ps) = ap suc (named-long e (suc k) ps)

-- the posts of one entry
pub made-one : (stamp : ℕ) (r : Entry) (ps : List Post) → r.outputs ≡ ps → named (stamp + 1) 0 ps ≡ made_by (stamped stamp r ∷ [])
made-one stamp r ps e = ap (named (stamp + 1) 0) (sym e) ∙ sym (append-nil (named (stamp + 1) 0 r.outputs))

pub made-long : (stamp : ℕ) (r : Entry) (ps : List Post) → r.outputs ≡ ps → length (made_by (stamped stamp r ∷ [])) ≡ length ps
made-long stamp r ps e = ap length (sym (made-one stamp r ps e)) ∙ named-long (stamp + 1) 0 ps
