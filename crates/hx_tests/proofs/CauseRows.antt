-- Two answers without their cause, by computing: a refused write behind another object, and a doubt named below what is pending.
use Rattle.std.specs.Prelude.{◌≡◌, ◌≤◌, ℕ, Bool, true, false, ◌&&◌, List, [], ◌∷◌, ◌++◌, drop, length, nat_le, Option, None, Some}
use Rattle.std.specs.List.{list_any}
use Rattle.std.specs.Cmp.Derive.{both_true}
use Rattle.std.proofs.Common.{refl, inl, inr, ap, sym, subst, ◌∙◌, arith}
use Rattle.std.proofs.lemmas.Bool.{le-leb, or_left, or_right}
use Rattle.hx_types.specs.declared.calls.Answer.TheVariants as an_answer
use Rattle.hx_model.specs.Types.{Actor, Caller, Config, Coordinator, Entry, Op, Post, RegionId, Script, Server, ServerId, Session, Update}
use Rattle.hx_types.specs.declared.messages.Message.TheVariants as a_message
use Rattle.hx_types.specs.Words.{IsIn, post}
use Rattle.hx_model.specs.Causes.{AnsweredCall, IsDoubtTold, IsRefusedWrite, pending_at, refused_place}
use Rattle.hx_model.specs.Histories.{line_of}
use Rattle.hx_model.specs.Lines.{upto}
use Rattle.hx_model.specs.Runs.{server_of}
use Rattle.hx_model.specs.Slots.{has_place}
use Rattle.hx_model.proofs.Lemmas.{blue, caller, configured, epoch, from_session, ready, red, region, server, session, shop, version, assigned, began, called}
use Rattle.hx_model.proofs.Lemmas.{ended, never, hand_made_put_color as put_color, hand_made_key as the_key}

-- two sessions put one object after another
abbrev script : Script
script = called ((put_color red ∷ []) ∷ (put_color blue ∷ []) ∷ [])

abbrev answered : List Entry → List Entry → Caller → Op → ℕ → ℕ → AnsweredCall
answered trace older c op begin v = record { script = script; trace = trace; older = older; caller = c; op = op; begin = begin; version = version v }

-- a put of blue over red, where red's region is lost: its effect is on the object after the version before its own
abbrev red_lost : Config
red_lost = configured 2 (1 ∷ 2 ∷ []) ((ready 1 ∷ ready 2 ∷ []) ∷ [] ∷ (ready 1 ∷ []) ∷ [])

abbrev painted : List Entry
painted = assigned 2 2 1 blue ∷ began 2 1 ∷ ended 1 1 1 an_answer.Done ∷ assigned 1 1 1 red ∷ began 1 1 ∷ []

abbrev painted_over : ℕ → AnsweredCall
painted_over v = answered painted painted (caller 2 1) (put_color blue) 4 v

goes_through_red : refused_place shop red_lost the_key (put_color blue) (upto 1 (line_of the_key painted)) ≡ Some (region 1)
goes_through_red = refl

is_refused : IsRefusedWrite (painted_over 2) red_lost (region 1) the_key
is_refused = inr (λ e. absurd (omega (arith, e)), refl)

-- and not on the object after it, which lies in no lost region
stays_in_blue : refused_place shop red_lost the_key (put_color blue) (upto 2 (line_of the_key painted)) ≡ None
stays_in_blue = refl

abbrev has_region : Option RegionId → Bool
has_region None = false
has_region (Some g) = true

not_refused_after : ¬ IsRefusedWrite (painted_over 3) red_lost (region 1) the_key
not_refused_after (inl (v, g, s)) = absurd (omega (arith, v))
not_refused_after (inr (v, g)) = never (sym (ap has_region g))

-- two puts are pending at their leader, of which the second alone goes through region 2; the doubt that it tells of that region names the first
abbrev asked : ℕ → List ℕ → List Post → Entry
asked u color posts =
    record {
      actor = Server (server 1);
      input = from_session u (a_message.Call (epoch 1) 1 (put_color color));
      outputs = posts;
      notes = [];
    }

abbrev told_doubt : Post
told_doubt = post (Server (server 1)) (Session (session 1)) (a_message.Reply 1 (version 1) (an_answer.Doubt (region 2) (epoch 2)))

abbrev doubting : List Entry
doubting = asked 2 blue (told_doubt ∷ []) ∷ asked 1 red [] ∷ []

abbrev doubted_call : AnsweredCall
doubted_call = answered doubting doubting (caller 1 1) (put_color red) 1 1

-- the pending updates of version 1 at most that go through region 2
abbrev is_behind : Update → Bool
is_behind u = has_place (region 2) u && nat_le u.version.0 1

both_pending : length (pending_at shop (server_of script (server 1) doubting) the_key) ≡ 2
both_pending = refl

second_goes_through : list_any (has_place (region 2)) (pending_at shop (server_of script (server 1) doubting) the_key) ≡ true
second_goes_through = refl

none_behind : list_any is_behind (pending_at shop (server_of script (server 1) doubting) the_key) ≡ false
none_behind = refl

behind_in : (us : List Update) (u : Update) → IsIn u us → has_place (region 2) u ≡ true → u.version.0 ≤ 1 → list_any is_behind us ≡ true
behind_in [] u i t l = absurd i
behind_in (x ∷ us) u (inl e) t l =
    or_left (is_behind x) (list_any is_behind us)
    (subst (λ (y : Update). is_behind y ≡ true) e (both_true t (le-leb u.version.0 1 l)))
behind_in (x ∷ us) u (inr i) t l = or_right (is_behind x) (list_any is_behind us) (behind_in us u i t l)

abbrev server_of_actor : Actor → ServerId
server_of_actor (Server s) = s
server_of_actor other = server 0

abbrev actor_first : List Entry → Actor
actor_first [] = Coordinator
actor_first (x ∷ older) = x.actor

abbrev posts_first : List Entry → List Post
posts_first [] = []
posts_first (x ∷ older) = x.outputs

told_nowhere : (newer : List Entry) (x : Entry) (before : List Entry) (leader : ServerId) (told : Post) (u : Update)
    → doubting ≡ newer ++ x ∷ before
    → x.actor ≡ Server leader
    → IsIn told x.outputs
    → IsIn u (pending_at shop (server_of script leader (x ∷ before)) the_key)
    → has_place (region 2) u ≡ true
    → u.version.0 ≤ 1
    → ⊥
told_nowhere [] x before leader told u e a t p g l =
    let is : server 1 ≡ leader = ap (λ (l : List Entry). server_of_actor (actor_first l)) e ∙ ap server_of_actor a in
    let here = subst (λ (s : ServerId). IsIn u (pending_at shop (server_of script s doubting) the_key)) (sym is)
    (subst (λ (l : List Entry). IsIn u (pending_at shop (server_of script leader l) the_key)) (sym e) p) in
    never (sym (behind_in (pending_at shop (server_of script (server 1) doubting) the_key) u here g l) ∙ none_behind)
told_nowhere (y ∷ []) x before leader told u e a t p g l = subst (λ (ps : List Post). IsIn told ps) (sym (ap (λ (l : List Entry). posts_first (drop 1 l)) e)) t
told_nowhere (y ∷ z ∷ newer) x before leader told u e a t p g l = never (ap (λ (l : List Entry). has_none (drop 2 l)) e ∙ some_entry newer x before)
  where
    has_none : List Entry → Bool
    has_none [] = true
    has_none (w ∷ rest) = false

    some_entry : (newer : List Entry) (w : Entry) (rest : List Entry) → has_none (newer ++ w ∷ rest) ≡ false
    some_entry [] w rest = refl
    some_entry (v ∷ newer) w rest = refl

not_told : ¬ IsDoubtTold doubted_call the_key (region 2) (epoch 2)
not_told = λ d. elim d.not_above [
  | inl z ↦ absurd (omega (arith, z))
  | inr l ↦ told_nowhere d.newer d.entry d.before d.leader _ d.update d.stands d.by_leader d.told d.pending d.through l
]
