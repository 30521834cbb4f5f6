-- A doubt that a leader tells is of a pending version that a lost region holds up.
use Rattle.std.proofs.Common.{◌≡◌, ℕ, suc, ◌+◌, ◌≤◌, ◌⊎◌, inl, inr, Bool, true, not, List, [], ◌∷◌, map, length, is_some, Option, None, Some, refl, sym, ap}
use Rattle.std.proofs.Common.{◌∙◌, subst, arith, add-one}
use Rattle.std.specs.List.{flat_map}
use Rattle.std.proofs.lemmas.Bool.{false≢true, ltb-true}
use Rattle.hx_model.specs.Types.{Caller, Config, Op, Place, RegionId, Script, ServerId, Space, Touch, Update, Value, Version}
use Rattle.hx_types.specs.declared.calls.Answer.TheVariants as an_answer
use Rattle.hx_types.specs.Words.{IsIn, below, same_region, when_some}
use Rattle.hx_types.specs.Configs.{is_lost, leads}
use Rattle.hx_types.specs.Effects.{key_of}
use Rattle.hx_types.specs.Fitting.{call_of}
use Rattle.hx_types.specs.Subspaces.{is_key_region}
use Rattle.hx_model.specs.Causes.{pending_at}
use Rattle.hx_model.specs.Leading.{StuckAt, stuck_of}
use Rattle.hx_model.specs.Regions.{key_region, place_of}
use Rattle.hx_model.specs.ServerSteps.{Replica, ServerState, SlotContext, called, doubt_in, replica_of, state_in}
use Rattle.hx_model.specs.Slots.{KeyState, has_place, pending_of, place_in, touches_after}
use Rattle.hx_model.specs.Places.{declared_subspaces, placed_after, places_of, regions_between}
use Rattle.hx_model.specs.Lines.{line_object}
use Rattle.hx_law_lemmas.proofs.Lemmas.{Made, in-flat_map, in-map, in-provided, place-found, same-key}
use Rattle.hx_law_chains.proofs.Doubts.{HeldUp, Says, stuck-is}

-- ---- regions of keys among an update's places

-- no region of a declared subspace is a key region
declared-off : (space : Space) (n : ℕ) (key : List ℕ) (o : List Value) → is_key_region space (place_of space (suc n) key o) ≡ true → ⊥
declared-off space n key o e =
    let l = ltb-true (place_of space (suc n) key o).0 space.key_parts e in
    omega (arith, l)

-- among the places of an update the key's region alone is a key region
places-at-key : (space : Space) (key : List ℕ) (old new : Option (List Value)) (changes : Bool) (top : ℕ) (touches : List Touch) (p : Place)
    → IsIn p (places_of space key old new changes top touches)
    → is_key_region space p.region ≡ true → p.region ≡ key_region space key
places-at-key space key old new changes top touches p (inl e) t = ap (λ (q : Place). q.region) e
places-at-key space key old new changes top touches p (inr i) t =
    let f = in-flat_map (λ s. map (placed_after space s key new touches) (regions_between space s key old new)) (declared_subspaces space) p
    (in-provided changes (flat_map (λ s. map (placed_after space s key new touches) (regions_between space s key old new)) (declared_subspaces space))
    p i).1 in
    let d = in-map (λ n. n + 1) (below (length space.subspaces)) f.0 f.1 in
    let m = in-map (placed_after space f.0 key new touches) (regions_between space f.0 key old new) p f.2 in
    let b = between f.0 old new m.0 m.1 in
    let r : p.region ≡ place_of space (suc d.0) key b.0 = ap (λ (q : Place). q.region) m.2 ∙ b.1 ∙ ap (λ k. place_of space k key b.0) (d.2 ∙ add-one d.0) in
    absurd (declared-off space d.0 key b.0 (ap (is_key_region space) (sym r) ∙ t))
  where
    between : (s : ℕ) (old new : Option (List Value)) (g : RegionId) → IsIn g (regions_between space s key old new) → (o : List Value)
        × (g ≡ place_of space s key o)
    between s None None g i = absurd i
    between s None (Some y) g (inl e) = (y, e)
    between s None (Some y) g (inr i) = absurd i
    between s (Some x) None g (inl e) = (x, e)
    between s (Some x) None g (inr i) = absurd i
    between s (Some x) (Some y) g (inl e) = (x, e)
    between s (Some x) (Some y) g (inr i) = elim (in-provided (not (same_region (place_of space s key x) (place_of space s key y)))
        (place_of space s key y ∷ []) g i).1 [ inl e ↦ (y, e) | inr j ↦ absurd j ]

-- an update with a place in a key region goes through its key's
pub key-place-is : (space : Space) (key : List ℕ) (older : List Update) (u : Update) → Made space key older u → (g : RegionId) → has_place g u ≡ true
    → is_key_region space g ≡ true → g ≡ key_region space key
key-place-is space key older u made g h k = by (place_in g u.places) refl h
  where
    by : (o : Option Place) → place_in g u.places ≡ o → is_some o ≡ true → g ≡ key_region space key
    by None e t = absurd (false≢true t)
    by (Some p) e t =
        let f = place-found g u.places p e in
        sym f.1 ∙ places-at-key space key (line_object older) u.object u.changes (length older) (touches_after [] older) p
        (subst (λ (l : List Place). IsIn p l) made.places f.0) (ap (is_key_region space) f.1 ∙ k)

-- what is pending at a server whose replica is found
pub pending-found : (space : Space) (st : ServerState) (key : List ℕ) (r : Replica) → replica_of (key_region space key) st.replicas ≡ Some r
    → pending_at space st key ≡ pending_of (state_in space r key)
pending-found space st key r e = ap (λ (o : Option Replica). when_some o [] (λ (x : Replica). pending_of (state_in space x key))) e

-- a doubt that a stuck version brings
pub stuck-tells : (script : Script) (i : ServerId) (at : SlotContext) (q : ServerState) (key : List ℕ) (t : KeyState) (x : StuckAt) → at.config ≡ q.config
    → leads script.space q.config i (key_region script.space key) ≡ true → pending_at script.space q key ≡ pending_of t
    → stuck_of q.config t ≡ Some x → (caller : Caller) (op : Op) → call_of script caller ≡ Some op → key_of op ≡ Some key → (v : Version) → (v.0 ≡ 0)
    ⊎ (x.version.0 ≤ v.0) → Says script q i (doubt_in at caller v x.region)
stuck-tells script i at q key t x config lead pending stuck caller op called on_key v low g epoch same op' key' called' on_key' =
    let s = stuck-is q.config (pending_of t) x stuck in
    let z = same-key op op' key key' (sym called ∙ called') on_key on_key' in
    let a : an_answer.Doubt x.region at.config.epoch ≡ an_answer.Doubt g epoch = same in
    let g_is : x.region ≡ g = cc in
    let e_is : at.config.epoch ≡ epoch = cc in
    subst (λ (k : List ℕ). HeldUp script.space q i k v g epoch) z (record {
      is_leader = lead;
      epoch_is = sym e_is ∙ ap (λ (c : Config). c.epoch) config;
      lost = ap (is_lost q.config) (sym g_is) ∙ s.lost;
      update = s.update;
      pending = subst (λ (l : List Update). IsIn s.update l) (sym pending) s.stands;
      through = ap (λ (h : RegionId). has_place h s.update) (sym g_is) ∙ s.through;
      not_above = elim low [
        | inl n ↦ inl n
        | inr n ↦ inr
            (let w : s.update.version.0 ≡ x.version.0 = ap (λ (y : Version). y.0) s.version in omega (arith, w, n))
      ];
    })
