-- What a leader decides on a write: nothing, a doubt, the answer of an update that is committed, or
-- the next update after what it has accepted, perhaps refused.
use Rattle.std.proofs.Common.{◌≡◌, ℕ, ◌+◌, ◌≤◌, ◌⊎◌, inl, inr, Bool, true, false, List, [], ◌∷◌, length, Option, None, Some, refl, sym, ap, ◌∙◌, subst}
use Rattle.hx_model.specs.Types.{Caller, Config, Decision, Op, Place, RegionId, Script, Update, Value, Version}
use Rattle.hx_types.specs.declared.outcomes.Decision.TheVariants as a_decision
use Rattle.hx_types.specs.Words.{IsIn}
use Rattle.hx_types.specs.Configs.{first_config}
use Rattle.hx_types.specs.Effects.{effect_of, is_write, key_of}
use Rattle.hx_types.specs.Fitting.{call_of, is_refused}
use Rattle.hx_types.specs.Spaces.{IsSpace}
use Rattle.hx_model.specs.Lines.{line_object}
use Rattle.hx_model.specs.Regions.{key_region}
use Rattle.hx_model.specs.Places.{places_of}
use Rattle.hx_model.specs.Slots.{KeyState, latest_of, top_of, touches_after, touches_of}
use Rattle.hx_model.specs.Leading.{assigned, decide, first_lost, granted, refusal, with_places}
use Rattle.hx_law_lemmas.proofs.Lemmas.{Apart, IsNewer, Made, all-in, decide-decided, decides, effect-done, effect-same, map-in, places-apart, places-not-lost}
use Rattle.hx_law_lemmas.proofs.Lemmas.{slot_of, when_some_both}
use Rattle.hx_law_lemmas.proofs.Lemmas as law_lemmas
use Rattle.hx_law_chains.proofs.World.{Effected, Law, Lawful, lawful-made}

-- the law of a line in one configuration follows
steady-law : (script : Script) → IsSpace script.space → (known : Config → Type 0) (key : List ℕ) (older : List Update) (u : Update)
    → Lawful script known key older → Law script known key older u → law_lemmas.Law script key older u
steady-law script valid known key older u all law = record {
  lawful = record {
    version = law.made.version;
    key_is = law.made.key_is;
    rest = _;
    places = law.made.places;
    present = ap (first_lost (first_config script.space)) law.made.places
        ∙ places-not-lost script.space valid key (line_object older) u.object u.changes (length older) (touches_after [] older);
    same = law.made.same;
    newer = law.newer;
  };
  op = law.op;
  called = law.called;
  writes = law.writes;
  on_key = law.on_key;
  elsewhere = λ p i q. (let d = subst Apart law.made.places
      (places-apart script.space valid key (u ∷ older) (law.made, lawful-made script known key older all) u (inl refl)) in
      all-in (λ m. m ≡ (key_region script.space key).0 → ⊥) _ p.region.0 d.0 (map-in (λ (q : Place). q.region.0) _ p i) (ap (λ (r : RegionId). r.0) q));
  effect = elim law.effect [ inl e ↦ inl e | inr e ↦ inr (ap is_refused e.1.3, e.0) ];
}

-- so it follows of each update
pub steady-lawful : (script : Script) → IsSpace script.space → (known : Config → Type 0) (key : List ℕ) (us : List Update) → Lawful script known key us
    → law_lemmas.Lawful script key us
steady-lawful script valid known key [] h = tt
steady-lawful script valid known key (u ∷ us) h = (steady-law script valid known key us u h.1 h.0, steady-lawful script valid known key us h.1)

module _ (script : Script) (valid : IsSpace script.space) (known : Config → Type 0) (key : List ℕ) (us : List Update) (lawful : Lawful script known key us)
    (marks : Bool) (floor : ℕ) (acked : List ℕ) (early : List Update)
    (config : Config) (is_known : known config) (caller : Caller) (op : Op) (called : call_of script caller ≡ Some op) (writes : is_write op ≡ true)
    (on_key : key_of op ≡ Some key) where
  -- the leader's slot as if it had begun with the first update
  abbrev here : KeyState
  here = slot_of marks key us floor acked early

  -- the line has the law of one configuration
  abbrev plain : law_lemmas.Lawful script key us
  plain = steady-lawful script valid known key us lawful

  -- its top is the length of the line
  top-is : top_of here ≡ length us
  top-is = law_lemmas.top-line script.space key us (law_lemmas.lawful-steady script key us plain)

  -- by whether a place of the effect is lost: it is granted, or refused
  by-lost : (P : Update → Type 0) (old : Option (List Value)) → let effect = effect_of script.space old op in
      let places = places_of script.space key old effect.object effect.changes (top_of here) (touches_of here) in
      (first_lost config places ≡ None → P (granted here caller effect places))
      → ((g : RegionId) → first_lost config places ≡ Some g → let r = refusal script.space config here old g in P (granted here caller r.0 r.1))
      → P (with_places script.space config here caller old effect)
  by-lost P old =
      let effect = effect_of script.space old op in
      let places = places_of script.space key old effect.object effect.changes (top_of here) (touches_of here) in
      when_some_both (first_lost config places) (granted here caller effect places)
      (λ (g : RegionId). let r = refusal script.space config here old g in granted here caller r.0 r.1) P

  -- what is assigned is the effect, or refused
  effected : (old : Option (List Value)) → old ≡ line_object us
      → Effected script.space known key us (with_places script.space config here caller old (effect_of script.space old op)) op
  effected old e =
      let effect = effect_of script.space (line_object us) op in
      subst (λ (o : Option (List Value)). Effected script.space known key us (with_places script.space config here caller o (effect_of script.space o op))
      op) (sym e)
      (by-lost (λ u. Effected script.space known key us u op) (line_object us)
      (λ q. inl (refl, refl))
      (λ g q. inr (
        refl,
        (
          g,
          config,
          is_known,
          refl,
          ap (λ n. first_lost config
              (places_of script.space key (line_object us) effect.object effect.changes n (touches_of here))) (sym top-is) ∙ q,
        ),
      )))

  -- and is made
  made : (old : Option (List Value)) → old ≡ line_object us
      → Made script.space key us (with_places script.space config here caller old (effect_of script.space old op))
  made old e =
      let effect = effect_of script.space (line_object us) op in
      subst (λ (o : Option (List Value)). Made script.space key us (with_places script.space config here caller o (effect_of script.space o op))) (sym e)
      (by-lost (Made script.space key us) (line_object us)
      (λ q. record {
        version = ap (λ n. n + 1) top-is;
        key_is = refl;
        done = effect-done script.space (line_object us) op;
        same = effect-same script.space (line_object us) op;
        places = ap (λ n. places_of script.space key (line_object us) effect.object effect.changes n (touches_of here)) top-is;
      })
      (λ g q. record {
        version = ap (λ n. n + 1) top-is;
        key_is = refl;
        done = refl;
        same = λ e. refl;
        places = ap (λ n. places_of script.space key (line_object us) (line_object us) false n []) top-is;
      }))

  -- who calls is who called
  granted-caller : (old : Option (List Value)) → (with_places script.space config here caller old (effect_of script.space old op)).caller ≡ caller
  granted-caller old = by-lost (λ u. u.caller ≡ caller) old (λ q. refl) (λ g q. refl)

  -- what a decision can be
  abbrev pub Decided : Decision → Type 0
  Decided d =
      (d ≡ a_decision.Old)
      ⊎ ((((v : Version) × (d ≡ a_decision.Wait v)) ⊎ ((g : RegionId) × (d ≡ a_decision.Stuck g)))
      ⊎ (((u : Update) × IsIn u us × (u.caller ≡ caller) × (u.version.0 ≤ floor) × (d ≡ a_decision.Again u.version u.answer))
      ⊎ ((u : Update) × Law script known key us u × (u.caller ≡ caller) × (d ≡ a_decision.Assign u))))

  -- what is assigned has the law
  assigned-law : (u : Update) → IsNewer us u.caller → u ≡ assigned script.space config (key_region script.space key) here caller op → Law script known key us u
  assigned-law u newer is =
      let c : u.caller ≡ caller = ap (λ (x : Update). x.caller) is ∙ granted-caller (latest_of (key_region script.space key) here) in
      record {
        made = subst (Made script.space key us) (sym is) (made (latest_of (key_region script.space key) here)
            (law_lemmas.kept-line script.space key us (law_lemmas.lawful-steady script key us plain)));
        op = op;
        called = ap (call_of script) c ∙ called;
        writes = writes;
        on_key = on_key;
        effect = subst (λ (x : Update). Effected script.space known key us x op) (sym is)
            (effected (latest_of (key_region script.space key) here)
            (law_lemmas.kept-line script.space key us (law_lemmas.lawful-steady script key us plain)));
        newer = newer;
      }

  -- what a decision of the leader is
  pub decided-is : Decided (decide script.space config (key_region script.space key) here caller op)
  decided-is = elim (decide-decided script valid key us plain marks floor acked early config caller op called writes on_key) [
    | inl e ↦ inl e
    | inr (inl e) ↦ inr (inl e)
    | inr (inr (inl e)) ↦ inr (inr (inl e))
    | inr (inr (inr e)) ↦ inr (inr (inr (
      e.0,
      assigned-law e.0 e.1.0.lawful.newer
          (decides script.space config (key_region script.space key) here caller op e.0 e.2),
      e.1.1,
      e.2,
    )))
  ]
