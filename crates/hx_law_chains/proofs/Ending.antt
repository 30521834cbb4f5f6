-- What a server does by its own configuration: where its chain ends nobody stands after it, what a
-- leader has committed is committed along all chains, its answers are true, and what a slot does
-- when its server has adopted a configuration is allowed.
use Rattle.std.proofs.Common.{◌≡◌, ℕ, inl, inr, true, List, Option, None, Some, refl, sym, ap, ◌∙◌, subst, arith}
use Rattle.std.proofs.lemmas.Bool.{false≢true}
use Rattle.hx_model.specs.Types.{At, Blocked, End, Hop, Op, RegionId, Script, ServerId, Update}
use Rattle.hx_types.specs.Words.{IsIn}
use Rattle.hx_types.specs.Configs.{head_of, members_of}
use Rattle.hx_types.specs.Effects.{is_write, key_of}
use Rattle.hx_types.specs.Fitting.{call_of}
use Rattle.hx_types.specs.Spaces.{IsSpace}
use Rattle.hx_model.specs.Neighbours.{is_end, member_after, next_of, place_number}
use Rattle.hx_model.specs.Regions.{key_region}
use Rattle.hx_model.specs.Slots.{KeyState, has_place}
use Rattle.hx_model.specs.ServerSteps.{next_at, resumed}
use Rattle.hx_law_lemmas.proofs.Lemmas.{Apart, Differ, passes-key, places-apart, same-key}
use Rattle.hx_law_epochs.proofs.Lemmas.{HasPlace, leader-stands, next-none, next-within, placed-number}
use Rattle.hx_law_epochs.specs.Epochs.{order}
use Rattle.hx_law_chains.proofs.Keys.{lined, still-head}
use Rattle.hx_law_chains.proofs.Moves.{AllAllowed, resumed-allowed}
use Rattle.hx_law_chains.proofs.Places.{key-first}
use Rattle.hx_law_chains.proofs.Posts.{Committed, Seated}
use Rattle.hx_law_chains.proofs.World.{After, Along, Closed, Filled, KeyOk, Lawful, Ordered, Told, World, around, context, law-of, lawful-made}

module _ (script : Script) (valid : IsSpace script.space) (w : World) (o : Ordered w) (key : List ℕ) (ok : KeyOk script w key) (g : RegionId) (i : ServerId)
    (up : w.up i) (home : IsIn i (order (w.own i) g)) where
  -- where the chain ends by the configuration of a server that it lists, installed there or not, nobody stands after
  pub ends-line : (line : List Update) → Lawful script w.known key line → (u : Update) → IsIn u line → has_place g u ≡ true
      → is_end (next_at (context script w g i) u) ≡ true → After script w key g i u × Closed script w key g i u
  ends-line line lawful u j p t = (after, subst (Filled script w key u) (sym q) tt)
    where
      apart : Apart u.places
      apart = places-apart script.space valid key line (lawful-made script w.known key line lawful) u j

      dc : (r : RegionId) → Differ (members_of (w.own i) r)
      dc = o.differ (w.own i) (o.own i)

      l : HasPlace u.places g
      l = placed-number u.places g p

      end-is : (h : Hop) → is_end h ≡ true → h ≡ End
      end-is (At s n) t = absurd (false≢true t)
      end-is End t = refl
      end-is (Blocked r) t = absurd (false≢true t)

      q : next_of (w.own i) u.places (place_number g u.places) i ≡ End
      q = end-is (next_at (context script w g i) u) t

      last : (m : Option ServerId) → member_after i (members_of (w.own i) g) ≡ m → member_after i (members_of (w.own i) g) ≡ None
      last None e = e
      last (Some x) e = absurd (let z : At x (place_number g u.places) ≡ End = sym (next-within (w.own i) u.places apart dc g l i x e) ∙ q in cc)

      after : After script w key g i u
      after h x s k a = absurd (elim a.1 [
        | inl b ↦ next-none (w.own i) u.places apart dc g l i q h x (a.0, inl b)
        | inr b ↦ ok.clear i (w.own i) (record { up = up; known = o.own i; later = omega arith }) g home
            (last (member_after i (members_of (w.own i) g)) refl) x s
            (subst (λ (r : RegionId). w.holds key r x s) (sym b.0) k) b.1
      ])

  pub ends-own : (u : Update) → IsIn u (w.line key) → has_place g u ≡ true → is_end (next_at (context script w g i) u) ≡ true → After script w key g i u
      × Closed script w key g i u
  ends-own = ends-line (w.line key) ok.lawful

  -- what a slot does when its server has adopted a configuration is allowed
  pub resumed-own : (t : KeyState) → w.holds key g i t → AllAllowed (w.line key) g (around script w key g i) t (resumed (context script w g i) t)
  resumed-own t h = resumed-allowed (w.line key) g (around script w key g i) (lined script w key (w.line key) ok.lawful g)
      (context script w g i) t ends-own (ok.own g i t h)

module _ (seated : Seated) where
  open seated use {script, valid, world as w, ordered as o, keys as ok, region as g, server as i, seat}

  -- what the leader of a key has committed is committed along all chains
  pub lead-along : (key : List ℕ) → g ≡ key_region script.space key → head_of (w.own i) g ≡ Some i → Along script w key (seat.slot key).floor
  lead-along key q own_head u j l h x t hold p =
      let law = law-of script w.known key (w.line key) u (ok key).lawful j in
      let own = (ok key).own g i (seat.slot key) (seat.held key) in
      let placed : has_place g u ≡ true = ap (λ (r : RegionId). has_place r u) q ∙ passes-key script.space key law.0 u law.1.made in
      let first : place_number g u.places ≡ 0 = ap (λ (r : RegionId). place_number r u.places) q ∙ key-first script.space key law.0 u law.1.made in
      let there = (ok key).listed g i (seat.slot key) (seat.held key) in
      let head = still-head (w.own i) w.config (o.grown (w.own i) w.config (o.own i) o.newest (o.last (w.own i) (o.own i))) g i
      (o.differ (w.own i) (o.own i) g) (o.differ w.config o.newest g) own_head (o.home g i seat.installed) there in
      elim (leader-stands w.config u.places (places-apart script.space valid key (w.line key) (lawful-made script w.known key (w.line key) (ok key).lawful)
      u j) (o.differ w.config o.newest) g (placed-number u.places g placed) first i head h x (placed-number u.places h p) ((ok key).listed h x t hold)) [
        | inl z ↦ (let same = seat.only key t (subst (λ (s : ServerId). w.holds key g s t) z.1 (subst (λ (r : RegionId). w.holds key r x t) z.0 hold)) in
            let f : t.floor ≡ (seat.slot key).floor = ap (λ (y : KeyState). y.floor) same in omega (arith, f, l))
        | inr a ↦ own.freed u j placed l h x t hold a
      ]

  -- an answer of a committed update is true
  pub reply-told : (u : Update) → Committed seated u → g ≡ key_region script.space u.key → head_of (w.own i) g ≡ Some i
      → (op : Op) (key : List ℕ) → call_of script u.caller ≡ Some op → key_of op ≡ Some key → Told script w key u.caller u.version u.answer op
  reply-told u c q head op key called on_key =
      let l = law-of script w.known u.key (w.line u.key) u (ok u.key).lawful c.known.stands in
      let e : Some l.1.op ≡ Some op = sym l.1.called ∙ called in
      let s = same-key l.1.op op u.key key e l.1.on_key on_key in
      let p : l.1.op ≡ op = cc in
      subst (λ (j : List ℕ). Told script w j u.caller u.version u.answer op) s
      (inr (inl (
        sym (ap is_write p) ∙ l.1.writes,
        (u, c.known.stands, refl, refl, refl),
        λ x j b. lead-along u.key q head x j
            (let d = c.done in omega (arith, b, d)),
      )))
