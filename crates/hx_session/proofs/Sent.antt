-- What is made of sending a call, in the step that sends it.
use Rattle.std.proofs.Common.{◌≡◌, ℕ, List, [], ◌∷◌, map, None, refl, ap, sym, subst}
use Rattle.hx_model.specs.Types.{Op, Planned, RegionId, Term}
use Rattle.hx_types.specs.declared.outcomes.Planned.TheVariants as a_plan
use Rattle.hx_model.specs.SessionSteps.{Part as PartSeen, SessionState, ask_regions}
use Rattle.hx_session.specs.declared.prepared.Change.{Change}
use Rattle.hx_session.specs.declared.sending.Sender.{Sender}
use Rattle.hx_session.specs.Changes.{Makes, asked_as, asked_part, part_seen, sender_seen}

seen_asked : (regions : List RegionId) → map part_seen (map asked_part regions) ≡ map (λ (g : RegionId). record { region = g; rows = None }) regions
seen_asked [] = refl
seen_asked (g ∷ rest) = ap (λ (ps : List PartSeen). record { region = g; rows = None } ∷ ps) (seen_asked rest)

-- a search that has a plan
pub asked_makes : (sender : Sender) (terms : List Term) (s : ℕ) (regions : List RegionId) (planned : Planned) → planned ≡ a_plan.Regions s regions
    → (calls : List Op) (parts : List PartSeen) (change : Change) → change ≡ asked_as sender.progress regions
    → Makes (sender_seen sender calls parts) (ask_regions (sender_seen sender calls parts) terms planned) change
asked_makes sender terms s regions planned is calls parts change e =
    let seen : SessionState = sender_seen sender calls parts in
    subst (λ (p : Planned). Makes seen (ask_regions seen terms p) change) (sym is)
    (subst (λ (c : Change). Makes seen (ask_regions seen terms (a_plan.Regions s regions)) c) (sym e)
    (ap (λ (ps : List PartSeen). record seen { parts = ps }) (seen_asked regions)))
