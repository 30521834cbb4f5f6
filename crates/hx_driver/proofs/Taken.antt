-- What an actor can take at its desk, and desks that differ by room alone.
use Rattle.std.proofs.Common.{◌≡◌, ℕ, ◌^◌, ◌<◌, ◌≤◌, ⊎_elim, inl, true, false, nat_lt, List, [], ◌∷◌, refl, ap, sym, subst, ◌∙◌, arith}
use mathlib.Core.Logic.{∥∥₁_elim}
use Rattle.atomic_table.specs.Seated.{TableId}
use Rattle.hx_types.specs.declared.ids.Actor.{Actor}
use Rattle.hx_types.specs.declared.limits.TheConstants.{MOST_ENTRIES}
use Rattle.hx_types.specs.declared.messages.Post.{Post}
use Rattle.hx_types.specs.declared.messages.PostId.{PostId}
use Rattle.hx_types.specs.declared.traces.Input.{Input}
use Rattle.hx_types.specs.declared.traces.Input.TheVariants.{Tick, Halt, Deliver}
use Rattle.hx_types.specs.declared.traces.Script.{Script}
use Rattle.hx_types.specs.Fitting.{IsScript}
use Rattle.hx_types.specs.Posts.{IsSoundPost}
use Rattle.hx_types.specs.Words.{post, IsIn}
use Rattle.hx_model.specs.Runs.{has_halted, is_actor}
use Rattle.hx_clock.specs.declared.parts.Stamped.{Stamped}
use Rattle.hx_clock.specs.declared.view.View.{View}
use Rattle.hx_clock.specs.Parts.{Posted}
use Rattle.hx_clock.specs.Seats.{Seated}
use Rattle.hx_clock.specs.Views.{numbered, Has, Knows, Owns}
use Rattle.hx_clock.proofs.Lemmas.{lt_tells}
use Rattle.hx_law_threads.specs.Feeding.{latest, IsFedBy, IsFed}
use Rattle.hx_law_threads.proofs.Lemmas.{of_reverse}
use Rattle.hx_machine.specs.Machines.{CanTake, IsMachine}
use Rattle.hx_mail.specs.declared.views.Mailed.{Mailed}
use Rattle.hx_mail.specs.declared.views.Sent.{Sent}
use Rattle.hx_mail.specs.Boxes.{Boxed, Ported}
use Rattle.hx_outbox.specs.Outboxes.{AreGood}
use Rattle.hx_outbox.specs.Places.{place_of}
use Rattle.hx_driver.specs.declared.desks.Desk.{Desk}
use Rattle.hx_driver.specs.Desks.{entries_before, past_of, told, IsDesk, IsSame}
use Rattle.hx_driver.specs.Givings.{CanBeGiven}
use Rattle.hx_driver.specs.Inboxes.{ins_of, HasInPort, IsHeardFrom}
use Rattle.hx_law_threads.specs.Own.{IsOwn}
use Rattle.std.specs.Prelude.{◌++◌, length, map}

pub owns-has : (v : View) (k : ℕ) (part : List Stamped) (x : Stamped) → Owns v k part → IsIn x part → Has v x
owns-has v k part x own i = inl (numbered k part, subst (IsIn (numbered k part)) (sym own) (inl refl), i)

latest-of : (ys : List Stamped) (n : ℕ) → ((x : Stamped) → IsIn x ys → x.stamp.0 < n) → latest ys ≤ n
latest-of [] n h = omega arith
latest-of (y ∷ ys) n h = let l = h y (inl refl) in omega (arith, l)

-- the number of the newest entry, where each stamp is below n
pub latest-low : (v : View) (k : ℕ) (part : List Stamped) (n : ℕ) → Owns v k part → ((x : Stamped) → Has v x → x.stamp.0 < n) → latest (past_of part) ≤ n
latest-low v k part n own h = latest-of (past_of part) n (λ x i. h x (owns-has v k part x own (of_reverse part x i)))

-- and so for the number of an entry of which a post is known
entry-low : (v : View) (n : ℕ) (id : PostId) (p : Post) → ((x : Stamped) → Has v x → x.stamp.0 < n) → Knows v id p → id.entry ≤ n
entry-low v n id p h k =
    ⊎_elim
    (λ (l : (nat_lt n id.entry ≡ true) × (n < id.entry)).
    absurd (∥∥₁_elim k (λ (x : ⊥) y. absurd x) (λ (y : (x : Stamped) × Has v x × Posted x id p). let a = h y.0 y.1 in
    let b = l.1 in let c = y.2.0 in omega (arith, a, b, c))))
    (λ (l : (nat_lt n id.entry ≡ false) × (id.entry ≤ n)). l.1)
    (lt_tells n id.entry)

pub fed-by : (script : Script) (d : Desk) (n : ℕ) (input : Input)
    → ((x : Stamped) → Has d.seat.view x → x.stamp.0 < n) → CanBeGiven script d input → IsFedBy script n d.actor input
fed-by script d n Tick h g = tt
fed-by script d n Halt h g = absurd g
fed-by script d n (Deliver id from message) h g = (entry-low d.seat.view n id (post from d.actor message) h g.0, g.1)

pub can-take : (script : Script) (clock : TableId) (boxes : List Boxed) (w : ℕ) (rest : List Mailed) (d : Desk)
    (n : ℕ) (input : Input) → IsScript script → IsDesk script clock boxes w rest d
    → has_halted script (entries_before d.part.items) d.actor ≡ false
    → ((x : Stamped) → Has d.seat.view x → x.stamp.0 < n) → n < 2 ^ 61 → CanBeGiven script d input
    → CanTake script d.actor (past_of d.part.items) input
can-take script clock boxes w rest d n input valid h running after few g = record {
  valid = valid;
  exists = h.exists;
  own = h.own;
  fed = h.fed;
  running = running;
  stamp = n;
  later = latest-low d.seat.view (place_of script.space d.actor) d.part.items n h.seat.1 after;
  few = few;
  input_to = fed-by script d n input after g;
}

-- the same desk with a machine of the same state
pub desk-same : (script : Script) (clock : TableId) (boxes : List Boxed) (w : ℕ) (rest : List Mailed) (d d' : Desk)
    → IsSame d d' → IsMachine script d.actor (entries_before d.part.items) d'.machine
    → IsDesk script clock boxes w rest d → IsDesk script clock boxes w rest d'
desk-same script clock boxes w rest d d' s m h = record {
  exists = subst (λ (a : Actor). is_actor script a ≡ true) (sym s.actor) h.exists;
  seat = (
    ap (λ (x : Seated). x.clock) s.seat ∙ h.seat.0,
    subst (λ (a : Actor). Owns d'.seat.view (place_of script.space a) d'.part.items) (sym s.actor)
        (subst (λ (part : List Stamped). Owns d'.seat.view (place_of script.space d.actor) part) (sym s.part)
        (subst (λ (x : Seated). Owns x.view (place_of script.space d.actor) d.part.items) (sym s.seat) h.seat.1)),
  );
  machine = subst (λ (a : Actor). IsMachine script a (entries_before d'.part.items) d'.machine) (sym s.actor)
      (subst (λ (part : List Stamped). IsMachine script d.actor (entries_before part) d'.machine) (sym s.part) m);
  own = subst (λ (a : Actor). IsOwn script a (entries_before d'.part.items)) (sym s.actor)
      (subst (λ (part : List Stamped). IsOwn script d.actor (entries_before part)) (sym s.part) h.own);
  fed = subst (λ (part : List Stamped). IsFed script (past_of part)) (sym s.part) h.fed;
  inbox = subst (λ (a : Actor). HasInPort w boxes (place_of script.space a) d'.inbox) (sym s.actor)
      (subst (λ (p : Ported). HasInPort w boxes (place_of script.space d.actor) p) (sym s.inbox) h.inbox);
  heard = (
    ap length s.heard ∙ h.heard.0,
    subst (λ (ns : List ℕ). IsHeardFrom 0 ns (ins_of d'.inbox)) (sym s.heard)
        (subst (λ (p : Ported). IsHeardFrom 0 d.heard.items (ins_of p)) (sym s.inbox) h.heard.1),
  );
  told = ap (λ (part : List Stamped). told part ++ rest) s.part ∙ h.told ∙ ap (λ (p : Ported). map (λ (x : Sent). x.mailed) (ins_of p)) (sym s.inbox);
  kept = subst (AreGood script clock) (sym s.kept) h.kept;
  few = subst (λ (part : List Stamped). length part ≤ MOST_ENTRIES) (sym s.part) h.few;
}

-- what can be given to the same actor with a seat that knows as much
pub given-view : (script : Script) (d d' : Desk) (input : Input) → d'.actor ≡ d.actor → d'.seat.view ≡ d.seat.view
    → CanBeGiven script d input → CanBeGiven script d' input
given-view script d d' Tick a v g = tt
given-view script d d' Halt a v g = absurd g
given-view script d d' (Deliver id from message) a v g =
    subst (λ (b : Actor). Knows d'.seat.view id (post from b message)
    × IsSoundPost script.space (length script.sessions) id.entry (post from b message)) (sym a)
    (subst (λ (u : View). Knows u id (post from d.actor message)) (sym v) g.0, g.1)
