-- What a session makes of the rows of a region.
use Rattle.hx_model.specs.Lines.{no_version}
use Rattle.std.proofs.Common.{◌≡◌, ℕ, Bool, true, false, ◌&&◌, ◌==◌, List, [], ◌∷◌, ◌++◌, map, Option, None, Some, refl, ap, sym, ◌∙◌, subst}
use Rattle.std.specs.List.{list_all, list_any, slice_get}
use Rattle.std.specs.Prelude.{IsSomeAnd}
use Rattle.std.proofs.lemmas.Bool.{cond-true, cond-false}
use Rattle.hx_types.specs.declared.calls.Answer.TheVariants as an_answer
use Rattle.hx_model.specs.Types.{Epoch, Note, RegionId, Row}
use Rattle.hx_types.specs.declared.traces.Note.TheVariants as a_note
use Rattle.hx_types.specs.Spaces.{IsAscending}
use Rattle.hx_model.specs.SessionSteps.{Part as PartSeen, SessionState, SessionStep, all_parts, awaits, end_with_parts}
use Rattle.hx_model.specs.SessionSteps.{ending, found_step, is_search, lacks_part, merged_parts, staying, with_part}
use Rattle.hx_session.specs.declared.parts.SearchPart.{SearchPart}
use Rattle.hx_session.specs.declared.prepared.Change.{Change}
use Rattle.hx_session.specs.declared.sessions.Session.TheInside.{Inside}
use Rattle.hx_session.specs.Changes.{Makes, ended_as, is_found, kept_as, lacks_rows, part_seen, unmoved_at, with_parts}
use Rattle.hx_session.specs.Invariant.{value_of}
use Rattle.hx_session.specs.Sessions.{SessionValue}
use Rattle.hx_session.proofs.Kept.{all_found_seen, kept_there, lacking_seen, regions_of, same_number}

abbrev state_of : Inside → SessionState
state_of i = (value_of i).state

-- all regions have answered
module _ (i : Inside) (v : SessionValue) (g : RegionId) (rows : List Row) (view : value_of i ≡ v) (all : list_all (is_found g) i.parts ≡ true) where
  abbrev merged_rows : List Row
  merged_rows = merged_parts (map (with_part g rows) (map part_seen i.parts))

  last_is : end_with_parts (with_parts v.state g rows) ≡ ending (with_parts v.state g rows) no_version (an_answer.Rows merged_rows)
  last_is =
      subst (λ (w : SessionValue). end_with_parts (with_parts w.state g rows) ≡ ending (with_parts w.state g rows) no_version (an_answer.Rows merged_rows)) view
      (cond-true (all_parts (with_parts (state_of i) g rows).parts) _ (staying (with_parts (state_of i) g rows)) (sym (all_found_seen g rows i.parts) ∙ all))

  pub last_makes : (change : Change) → change ≡ ended_as i.progress → Makes v.state (end_with_parts (with_parts v.state g rows)) change
  last_makes change e =
      subst (λ (w : SessionValue). Makes w.state (end_with_parts (with_parts w.state g rows)) change) view
      (subst (λ (step : SessionStep). Makes (state_of i) step change)
      (sym (cond-true (all_parts (with_parts (state_of i) g rows).parts) _ (staying (with_parts (state_of i) g rows))
      (sym (all_found_seen g rows i.parts) ∙ all)))
      (subst (λ (m : Change). Makes (state_of i) (ending (with_parts (state_of i) g rows) no_version (an_answer.Rows merged_rows)) m) (sym e) refl))

  pub last_notes : (merged : List Row) (before after : List Note) → merged ≡ merged_rows
      → after ≡ before ++ a_note.Ended i.progress.begun no_version (an_answer.Rows merged) ∷ []
      → after ≡ before ++ (end_with_parts (with_parts v.state g rows)).notes
  last_notes merged before after is e =
      e ∙ ap (λ (rs : List Row). before ++ a_note.Ended i.progress.begun no_version (an_answer.Rows rs) ∷ []) is
      ∙ ap (λ (w : SessionValue). before ++ a_note.Ended w.state.begun no_version (an_answer.Rows merged_rows) ∷ []) view
      ∙ ap (λ (step : SessionStep). before ++ step.notes) (sym last_is)

record IsPartOf (g : RegionId) (o : Option PartSeen) : Type 0 where
  part : PartSeen
  is : o ≡ Some part
  region : part.region ≡ g

part_of : (g : RegionId) (o : Option PartSeen) → IsSomeAnd o (λ (p : PartSeen). p.region ≡ g) → IsPartOf g o
part_of g None h = absurd h
part_of g (Some p) h = record { part = p; is = refl; region = h }

-- a region has answered, and not all have
module _ (i : Inside) (v : SessionValue) (g : RegionId) (rows : List Row) (view : value_of i ≡ v) (all : list_all (is_found g) i.parts ≡ false) where
  pub kept_makes : (copy : List Row) (place : ℕ) (change : Change) → copy ≡ rows → IsAscending (regions_of (state_of i).parts)
      → IsSomeAnd (slice_get v.state.parts place) (λ (p : PartSeen). p.region ≡ g)
      → change ≡ kept_as i.progress place (record { region = g; rows = Some copy }) → Makes v.state (end_with_parts (with_parts v.state g rows)) change
  kept_makes copy place change is ascend there e =
      let at = part_of g (slice_get (state_of i).parts place)
      (subst (λ (w : SessionValue). IsSomeAnd (slice_get w.state.parts place) (λ (p : PartSeen). p.region ≡ g)) (sym view) there) in
      subst (λ (w : SessionValue). Makes w.state (end_with_parts (with_parts w.state g rows)) change) view
      (subst (λ (step : SessionStep). Makes (state_of i) step change)
      (sym (cond-false (all_parts (with_parts (state_of i) g rows).parts) _ (staying (with_parts (state_of i) g rows))
      (sym (all_found_seen g rows i.parts) ∙ all)))
      (subst (λ (m : Change). Makes (state_of i) (staying (with_parts (state_of i) g rows)) m)
      (sym (e ∙ ap (λ (rs : List Row). kept_as i.progress place (record { region = g; rows = Some rs })) is))
      (ap (λ (ps : List PartSeen). record (state_of i) { parts = ps }) (kept_there g rows (state_of i).parts place at.part ascend at.is at.region))))

  pub kept_notes : (end_with_parts (with_parts v.state g rows)).notes ≡ []
  kept_notes =
      subst (λ (w : SessionValue). (end_with_parts (with_parts w.state g rows)).notes ≡ []) view
      (ap (λ (step : SessionStep). step.notes)
      (cond-false (all_parts (with_parts (state_of i) g rows).parts) _ (staying (with_parts (state_of i) g rows))
      (sym (all_found_seen g rows i.parts) ∙ all)))

all_hold : (a b c : Bool) → a ≡ true → b ≡ true → c ≡ true → (a && b && c) ≡ true
all_hold a b c p q r = cc

last_fails : (a b c : Bool) → c ≡ false → (a && b && c) ≡ false
last_fails true true c r = r
last_fails true false c r = refl
last_fails false b c r = refl

-- the rows of a region that lacks them
pub found_is : (i : Inside) (v : SessionValue) (epoch : Epoch) (number : ℕ) (g : RegionId) (rows : List Row) (parts : List SearchPart) → value_of i ≡ v
    → parts ≡ i.parts → awaits v.state number is_search ≡ true → epoch.0 ≡ i.config.epoch.0
    → list_any (lacks_rows g) parts ≡ true → end_with_parts (with_parts v.state g rows) ≡ found_step v.state epoch number g rows
found_is i v epoch number g rows parts view slice waits at lacks =
    sym (cond-true (awaits v.state number is_search && (epoch.0 == v.state.config.epoch.0) && list_any (lacks_part g) v.state.parts)
    (end_with_parts (with_parts v.state g rows)) (staying v.state)
    (all_hold (awaits v.state number is_search) (epoch.0 == v.state.config.epoch.0) (list_any (lacks_part g) v.state.parts) waits
    (ap (λ n. epoch.0 == n) (sym (at ∙ ap (λ (w : SessionValue). w.state.config.epoch.0) view)) ∙ same_number epoch.0)
    (ap (λ (w : SessionValue). list_any (lacks_part g) w.state.parts) (sym view) ∙ sym (lacking_seen g i.parts)
    ∙ ap (λ (ps : List SearchPart). list_any (lacks_rows g) ps) (sym slice) ∙ lacks)))

-- no region lacks these rows
pub unfound_is : (i : Inside) (v : SessionValue) (epoch : Epoch) (number : ℕ) (g : RegionId) (rows : List Row) (parts : List SearchPart) → value_of i ≡ v
    → parts ≡ i.parts
    → list_any (lacks_rows g) parts ≡ false → staying v.state ≡ found_step v.state epoch number g rows
unfound_is i v epoch number g rows parts view slice lacks =
    sym (cond-false (awaits v.state number is_search && (epoch.0 == v.state.config.epoch.0) && list_any (lacks_part g) v.state.parts)
    (end_with_parts (with_parts v.state g rows)) (staying v.state)
    (last_fails (awaits v.state number is_search) (epoch.0 == v.state.config.epoch.0) (list_any (lacks_part g) v.state.parts)
    (ap (λ (w : SessionValue). list_any (lacks_part g) w.state.parts) (sym view) ∙ sym (lacking_seen g i.parts)
    ∙ ap (λ (ps : List SearchPart). list_any (lacks_rows g) ps) (sym slice) ∙ lacks)))

-- nothing changes
pub stays_makes : (i : Inside) (v : SessionValue) (change : Change) → value_of i ≡ v → change ≡ unmoved_at i.progress → Makes v.state (staying v.state) change
stays_makes i v change view e = subst (λ (w : SessionValue). Makes w.state (staying w.state) change) view
    (subst (λ (m : Change). Makes (state_of i) (staying (state_of i)) m) (sym e) refl)
