-- The update that a leader assigns can be accepted by its slot.
use Rattle.std.proofs.Common.{◌≡◌, inl, inr, ℕ, ◌<◌, ◌≤◌, Bool, false, List, [], ◌∷◌, length, Option, refl, ap, sym, subst, arith}
use Rattle.std.specs.List.{All}
use Rattle.std.proofs.lemmas.Bool.{cond-true, eq-eqb}
use Rattle.std.proofs.lemmas.List.Elements.{All-head, All-tail}
use Rattle.hx_model.specs.Types.{Caller, Config, Effect, Op, RegionId, Space, Touch, Update, Value}
use Rattle.hx_types.specs.declared.outcomes.Decision.TheVariants as a_decision
use Rattle.hx_types.specs.Effects.{effect_of}
use Rattle.hx_types.specs.Spaces.{IsSpace}
use Rattle.hx_types.specs.Words.{same_region}
use Rattle.hx_model.specs.Leading.{decide, first_lost, granted, refusal}
use Rattle.hx_model.specs.Neighbours.{place_number}
use Rattle.hx_model.specs.Places.{places_of}
use Rattle.hx_model.specs.Regions.{key_region}
use Rattle.hx_model.specs.Slots.{KeyState, latest_of, top_of, touches_of}
use Rattle.hx_law_lemmas.proofs.Lemmas.{when_some_both, decides, placed, TouchedBy}
use Rattle.hx_replica.specs.Outputs.{IsComing}

touched_by : (n : ℕ) (touches : List Touch) → All (λ (t : Touch). t.version.0 ≤ n) touches → TouchedBy n touches
touched_by n [] h t i = absurd i
touched_by n (x ∷ rest) h t i = elim i [
  | inl e ↦ subst (λ (y : Touch). y.version.0 ≤ n) (sym e) (All-head (λ (y : Touch). y.version.0 ≤ n) x rest h)
  | inr j ↦ touched_by n rest (All-tail (λ (y : Touch). y.version.0 ≤ n) x rest h) t j
]

-- it is of the slot's key, and can come next
pub record IsGranted (g : RegionId) (s : KeyState) (u : Update) : Type 0 where
  pub coming : IsComing g s u
  pub key : u.key ≡ s.base.key

module _ (space : Space) (valid : IsSpace space) (config : Config) (g : RegionId) (s : KeyState) (caller : Caller)
    (op : Op) (key : g ≡ key_region space s.base.key)
    (touches : All (λ (t : Touch). t.version.0 ≤ top_of s) (touches_of s)) (floor : s.floor ≤ top_of s) where
  granted_is : (e : Effect) (old new : Option (List Value)) (changes : Bool) (ts : List Touch)
      → TouchedBy (top_of s) ts → IsGranted g s (granted s caller e (places_of space s.base.key old new changes (top_of s) ts))
  granted_is e old new changes ts by =
      let p = placed space valid s.base.key old new ts changes (top_of s) by in
      record {
        coming = record {
          placed = at_first (top_of s);
          few = p.few;
          after = p.after;
          above = omega arith;
          floor = floor;
        };
        key = refl;
      }
    where
      at_first : (top : ℕ) → place_number g (places_of space s.base.key old new changes top ts) < length (places_of space s.base.key old new changes top ts)
      at_first top =
          let e : place_number g (places_of space s.base.key old new changes top ts) ≡ 0 =
          cond-true (same_region (key_region space s.base.key) g) 0 _
          (eq-eqb (key_region space s.base.key).0 g.0 (ap (λ (r : RegionId). r.0) (sym key))) in
          omega (arith, e)

  pub assigned_is : (u : Update) → decide space config g s caller op ≡ a_decision.Assign u → IsGranted g s u
  assigned_is u e =
      subst (IsGranted g s) (sym (decides space config g s caller op u e))
      (
      when_some_both (first_lost config (places_of space s.base.key old (effect_of space old op).object
      (effect_of space old op).changes (top_of s) (touches_of s)))
      (granted s caller (effect_of space old op) (places_of space s.base.key old (effect_of space old op).object
      (effect_of space old op).changes (top_of s) (touches_of s)))
      (λ (r : RegionId). granted s caller (refusal space config s old r).0 (refusal space config s old r).1) (IsGranted g s)
      (λ n. granted_is (effect_of space old op) old (effect_of space old op).object (effect_of space old op).changes
      (touches_of s) (touched_by (top_of s) (touches_of s) touches))
      (λ r n. granted_is (refusal space config s old r).0 old old false [] (λ t i. absurd i))
      )
    where
      old : Option (List Value)
      old = latest_of g s

-- the same with the slot's own region
pub at_region : (space : Space) (config : Config) (g h : RegionId) (s : KeyState) (caller : Caller) (op : Op)
    (u : Update) → g ≡ h → decide space config g s caller op ≡ a_decision.Assign u
    → decide space config h s caller op ≡ a_decision.Assign u
at_region space config g h s caller op u same e = subst (λ (r : RegionId). decide space config r s caller op ≡ a_decision.Assign u) same e

pub up_to : (s : KeyState) (n : ℕ) → n ≡ top_of s → All (λ (t : Touch). t.version.0 ≤ n) (touches_of s)
    → All (λ (t : Touch). t.version.0 ≤ top_of s) (touches_of s)
up_to s n e h = subst (λ m. All (λ (t : Touch). t.version.0 ≤ m) (touches_of s)) e h
