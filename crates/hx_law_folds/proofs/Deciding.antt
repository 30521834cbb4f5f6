-- A leader's decision on a write by what the slot shows alone.
use Rattle.hx_law_folds.proofs.Vocabulary.{[], arith, Caller, cond, cond-true, cond_both, Config, decide, Decision, eq-eqb, eqb, false, IfSome, IsLater}
use Rattle.hx_law_folds.proofs.Vocabulary.{key_region, KeyState, latest_of, leb, List, ltb, Mark, mark_of, None, Op, Option, option_map, pending_of, Place}
use Rattle.hx_law_folds.proofs.Vocabulary.{place_in, refl, RegionId, same_region, ShowSame, Some, Space, stuck_among, StuckAt, subst, sym, top_of, Touch}
use Rattle.hx_law_folds.proofs.Vocabulary.{touches_of, true, Update, when_some, ℕ, ⊤, ◌<◌, ◌∙◌, ◌∷◌, ◌≡◌}
use Rattle.std.proofs.Common.{◌+◌}
use Rattle.hx_model.specs.Types.{Effect, Value}
use Rattle.hx_types.specs.declared.calls.Answer.TheVariants as an_answer
use Rattle.hx_types.specs.declared.outcomes.Decision.TheVariants as a_decision
use Rattle.hx_types.specs.Effects.{effect_of}
use Rattle.hx_model.specs.Leading.{first_lost}
use Rattle.hx_model.specs.Places.{key_place, places_of}
use Rattle.hx_law_folds.proofs.Lists.{when_some_both}

abbrev granted_by : List ℕ → ℕ → Caller → Effect → List Place → Update
granted_by key top caller e places =
    record { key = key; version = record { 0 = top + 1 }; caller = caller; answer = e.answer; changes = e.changes; object = e.object; places = places }

abbrev refused_by : Space → Config → List ℕ → ℕ → Caller → Option (List Value) → RegionId → Update
refused_by space config key top caller old g =
    granted_by key top caller (record { object = old; answer = an_answer.Refused g config.epoch; changes = false }) (places_of space key old old false top [])

abbrev assigned_by : Space → Config → List ℕ → ℕ → List Touch → Option (List Value) → Caller → Op → Update
assigned_by space config key top touches old caller op =
    let e = effect_of space old op in
    let places = places_of space key old e.object e.changes top touches in
    when_some (first_lost config places) (granted_by key top caller e places) (refused_by space config key top caller old)

abbrev fresh_by : Space → Config → List ℕ → ℕ → List Update → List Touch → Option (List Value) → Caller → Op → Decision
fresh_by space config key top pending touches old caller op =
    when_some (stuck_among config pending) (a_decision.Assign
    (assigned_by space config key top touches old caller op)) (λ (x : StuckAt). a_decision.Stuck x.region)

abbrev decided_by : Space → Config → List ℕ → ℕ → ℕ → List Update → List Touch → Option (List Value) → Caller → Op → Option Mark → Decision
decided_by space config key floor top pending touches old caller op None = fresh_by space config key top pending touches old caller op
decided_by space config key floor top pending touches old caller op (Some m) =
    cond (ltb caller.number m.number) a_decision.Old
    (
    cond (eqb m.number caller.number) (cond (leb m.version.0 floor) (a_decision.Again m.version m.answer) (a_decision.Wait m.version))
    (fresh_by space config key top pending touches old caller op)
    )

-- the decision reads the key, the floor, the top, what is pending, the touches, the latest object and the session's mark
pub decide-by : (space : Space) (config : Config) (g : RegionId) (s : KeyState) (caller : Caller) (op : Op)
    → decide space config g s caller op ≡ decided_by space config s.base.key s.floor (top_of s) (pending_of s)
    (touches_of s) (latest_of g s) caller op (mark_of caller.session s)
decide-by space config g s caller op = refl

-- slots that show the same decide the same
pub decide-same : (space : Space) (config : Config) (g : RegionId) (s t : KeyState) → s.marks ≡ true → ShowSame g s t
    → (caller : Caller) (op : Op) → decide space config g s caller op ≡ decide space config g t caller op
decide-same space config g s t m a caller op =
    let touches = a.touches m in
    let mark = a.mark m caller.session in
    decide-by space config g s caller op
    ∙ (λ j. decided_by space config (a.key j) (a.floor j) (a.top j) (a.pending j) (touches j) (a.latest j) caller op (mark j))
    ∙ sym (decide-by space config g t caller op)

-- what is assigned comes after a lower version at its key's region
abbrev pub IfAssigned : (Update → Type 0) → Decision → Type 0
IfAssigned P (a_decision.Assign u) = P u
IfAssigned P other = ⊤

-- what holds of the update that would be assigned
decide-of : (P : Update → Type 0) (space : Space) (config : Config) (g : RegionId) (s : KeyState) (caller : Caller) (op : Op)
    → P (assigned_by space config s.base.key (top_of s) (touches_of s) (latest_of g s) caller op) → IfAssigned P (decide space config g s caller op)
decide-of P space config g s caller op a =
    by (mark_of caller.session s)
  where
    fresh : IfAssigned P (fresh_by space config s.base.key (top_of s) (pending_of s) (touches_of s) (latest_of g s) caller op)
    fresh = when_some_both (stuck_among config (pending_of s)) _ _ (IfAssigned P) (λ q. a) (λ x q. tt)

    by : (mark : Option Mark)
        → IfAssigned P (decided_by space config s.base.key s.floor (top_of s) (pending_of s) (touches_of s) (latest_of g s) caller op mark)
    by None = fresh
    by (Some m) =
        cond_both (ltb caller.number m.number) a_decision.Old _ (IfAssigned P)
        (λ e. tt)
        (
        λ e. cond_both (eqb m.number caller.number) _ _ (IfAssigned P)
        (λ b. cond_both (leb m.version.0 s.floor) (a_decision.Again m.version m.answer) (a_decision.Wait m.version) (IfAssigned P) (λ q. tt) (λ q. tt))
        (λ b. fresh)
        )

granted-later : (space : Space) (key : List ℕ) (top : ℕ) (caller : Caller) (e : Effect) (new : Option (List Value)) (rest : List Place)
    → IsLater (key_region space key) (granted_by key top caller e (key_place space key new top ∷ rest))
granted-later space key top caller e new rest =
    let g = key_region space key in
    let found : place_in g (key_place space key new top ∷ rest) ≡ Some (key_place space key new top) = cond-true (same_region g g) _ _ (eq-eqb g.0 g.0 refl) in
    subst (λ (o : Option Place). IfSome (option_map (λ (p : Place). p.after.0) o) (λ after. after < top + 1)) (sym found) (omega arith)

assigned-later : (space : Space) (config : Config) (key : List ℕ) (top : ℕ) (touches : List Touch) (old : Option (List Value)) (caller : Caller) (op : Op)
    → IsLater (key_region space key) (assigned_by space config key top touches old caller op)
assigned-later space config key top touches old caller op =
    let e = effect_of space old op in
    let places = places_of space key old e.object e.changes top touches in
    when_some_both (first_lost config places) (granted_by key top caller e places) (refused_by space config key top caller old) (IsLater (key_region space key))
    (λ q. granted-later space key top caller e e.object _)
    (λ g q. granted-later space key top caller (record { object = old; answer = an_answer.Refused g config.epoch; changes = false }) old [])

pub decide-later : (space : Space) (config : Config) (g : RegionId) (s : KeyState) → g ≡ key_region space s.base.key
    → (caller : Caller) (op : Op) → IfAssigned (IsLater g) (decide space config g s caller op)
decide-later space config g s e caller op =
    subst (λ (h : RegionId). IfAssigned (IsLater h) (decide space config g s caller op)) (sym e)
    (decide-of (IsLater (key_region space s.base.key)) space config g s caller op
    (assigned-later space config s.base.key (top_of s) (touches_of s) (latest_of g s) caller op))

-- and it is of the slot's key
assigned-key : (space : Space) (config : Config) (key : List ℕ) (top : ℕ) (touches : List Touch) (old : Option (List Value)) (caller : Caller) (op : Op)
    → (assigned_by space config key top touches old caller op).key ≡ key
assigned-key space config key top touches old caller op =
    let e = effect_of space old op in
    let places = places_of space key old e.object e.changes top touches in
    when_some_both (first_lost config places) (granted_by key top caller e places)
    (refused_by space config key top caller old) (λ (u : Update). u.key ≡ key) (λ q. refl) (λ g q. refl)

pub decide-key : (space : Space) (config : Config) (g : RegionId) (s : KeyState) (caller : Caller) (op : Op)
    → IfAssigned (λ (u : Update). u.key ≡ s.base.key) (decide space config g s caller op)
decide-key space config g s caller op =
    decide-of (λ (u : Update). u.key ≡ s.base.key) space config g s caller op
    (assigned-key space config s.base.key (top_of s) (touches_of s) (latest_of g s) caller op)
