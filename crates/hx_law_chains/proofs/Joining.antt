-- What is kept of a key when snapshots are sent: each is a holder right after its sender, with what the sender has.
use Rattle.std.proofs.Common.{◌≡◌, ℕ, ◌≤◌, ◌⊎◌, inl, inr, true, List, length, None, Some, refl, sym, ap, ◌∙◌, subst, arith}
use Rattle.hx_model.specs.Types.{At, Config, Place, RegionId, Script, ServerId, Update}
use Rattle.hx_types.specs.Words.{IsBefore, IsIn}
use Rattle.hx_types.specs.Configs.{members_of}
use Rattle.hx_types.specs.Spaces.{IsSpace}
use Rattle.hx_model.specs.Holders.{IsPrefix}
use Rattle.hx_model.specs.Neighbours.{member_after, place_number}
use Rattle.hx_model.specs.Regions.{key_region}
use Rattle.hx_model.specs.Slots.{Forget, KeyState, has_place, moved, top_of}
use Rattle.hx_law_lemmas.proofs.Lemmas.{Apart, Differ, after-nobody, after-order, before-in, before-trans, more_same, places-apart, region-is}
use Rattle.hx_law_folds.proofs.Lemmas.{prefix-folded, top-folded}
use Rattle.hx_law_folds.specs.Folding.{IsSlotOf, folded}
use Rattle.hx_law_epochs.proofs.Lemmas.{Adjacent, GrownOut, HasPlace, PrecedesInChain, adjacent-within, next-within, place-at, stands-irreflexive, stands-trans}
use Rattle.hx_law_epochs.specs.Epochs.{order}
use Rattle.hx_law_chains.proofs.Hops.{next-hops}
use Rattle.hx_law_chains.proofs.Keys.{Change, changed, ordered_up, told_up, valid_up}
use Rattle.hx_law_chains.proofs.Lines.{sorted-descends}
use Rattle.hx_law_chains.proofs.Moves.{Own}
use Rattle.hx_law_chains.proofs.World.{AckOk, After, Ahead, Along, Before, Closed, Filled, Fixed, HearsAck, KeyOk, May, Ordered, Stays, UpdateOk, World, around}
use Rattle.hx_law_chains.proofs.World.{lawful-made, lawful-sorted, ways}

-- who stands before another has a place
pub first-placed : (c : Config) (places : List Place) (g : RegionId) (s : ServerId) (h : RegionId) (x : ServerId) → PrecedesInChain c places g s h x
    → HasPlace places g
first-placed c places g s h x (p, inl a) = omega (arith, p, a)
first-placed c places g s h x (p, inr (e, a)) = subst (HasPlace places) (sym e) p

-- a new holder: a replica that isn't installed, right after an installed one, and what it is sent
pub record Twin (script : Script) (w : World) (key : List ℕ) (g : RegionId) (s : ServerId) (t : KeyState) : Type 0 where
  pub sender : ServerId
  pub old : KeyState
  pub held : w.holds key g sender old
  pub only : (t2 : KeyState) → w.holds key g sender t2 → t2 ≡ old
  pub next : member_after sender (members_of w.config g) ≡ Some s
  pub by_own : member_after sender (members_of (w.own sender) g) ≡ Some s
  pub server : IsIn s w.config.servers
  pub installed : w.installed g sender
  pub empty : w.installed g s → ⊥
  pub slot : IsSlotOf g old
  pub state : t ≡ moved Forget (folded g old)

-- the holders after new ones have come
abbrev pub joined : World → (List ℕ → RegionId → ServerId → KeyState → Type 0) → Change
joined w new = record { line = w.line; holds = λ key g s t. w.holds key g s t ⊎ new key g s t; installed = w.installed }

module _ (script : Script) (valid : IsSpace script.space) (w : World) (o : Ordered w) (new : List ℕ → RegionId → ServerId → KeyState → Type 0)
    (twins : (key : List ℕ) (g : RegionId) (s : ServerId) (t : KeyState) → new key g s t → Twin script w key g s t) (key : List ℕ) (ok : KeyOk script w key)
  where
    -- the newest lists nobody twice
    differ : (g : RegionId) → Differ (members_of w.config g)
    differ = o.differ w.config o.newest

    -- where all stand after
    abbrev now : World
    now = changed w (joined w new)

    -- where a holder comes from: itself, or its sender
    record Source (g : RegionId) (s : ServerId) (t : KeyState) : Type 0 where
      pub from : ServerId
      pub old : KeyState
      pub held : w.holds key g from old
      pub top : top_of t ≡ top_of old
      pub floor : t.floor ≡ old.floor
      pub is : ((from ≡ s) × (t ≡ old)) ⊎ ((k : Twin script w key g s t) × (member_after from (members_of w.config g) ≡ Some s)
          × ((t2 : KeyState) → w.holds key g from t2 → t2 ≡ old) × (from ≡ k.sender))

    -- each has one
    source : (g : RegionId) (s : ServerId) (t : KeyState) → now.holds key g s t → Source g s t
    source g s t (inl h) = record { from = s; old = t; held = h; top = refl; floor = refl; is = inl (refl, refl) }
    source g s t (inr n) =
        let w1 = twins key g s t n in
        record {
          from = w1.sender;
          old = w1.old;
          held = w1.held;
          top = ap top_of w1.state ∙ top-folded g w1.old w1.slot.floor;
          floor = ap (λ (x : KeyState). x.floor) w1.state;
          is = inr (w1, w1.next, w1.only, refl);
        }

    -- the joiner stands after its sender in each configuration that the sender may come to have
    joiner-stands : (h : RegionId) (x : ServerId) (t : KeyState) (k : Twin script w key h x t) (c : Config) → May (ways w) k.sender c
        → IsIn k.sender (order c h)
        → IsBefore k.sender x (order c h)
    joiner-stands h x t k c m i =
        let first = after-order k.sender x (members_of (w.own k.sender) h) (o.differ (w.own k.sender) (o.own k.sender) h) k.by_own in
        (o.grown (w.own k.sender) c (o.own k.sender) m.known m.later).keeps_order h k.sender x (o.listed c m.known h k.sender i)
        ((o.grown c w.config m.known o.newest (o.last c m.known)).servers x k.server) first.0

    -- no region stands twice among the places of an update of the line
    apart : (u : Update) → IsIn u (w.line key) → Apart u.places
    apart u i = places-apart script.space valid key (w.line key) (lawful-made script w.known key (w.line key) ok.lawful) u i

    module _ (u : Update) (stands : IsIn u (w.line key)) where
      -- the sender and the joiner are adjacent
      abbrev near : (g : RegionId) (i s : ServerId) → HasPlace u.places g → member_after i (members_of w.config g) ≡ Some s → Adjacent w.config u.places g i g s
      near g i s p n = adjacent-within w.config u.places (apart u stands) differ g p i s n

      -- what a holder stands before, its source stands before
      source-before : (h : RegionId) (x : ServerId) (t : KeyState) (k : Source h x t) (g : RegionId) (s : ServerId) → Ahead script w key u h x g s
          → Ahead script w key u h k.from g s
      source-before h x t k g s a = elim k.is [
        | inl e ↦ subst (λ (y : ServerId). Ahead script w key u h y g s) (sym e.0) a
        | inr e ↦ stands-trans w.config u.places (apart u stands) differ h k.from h x g s
            (near h k.from x (first-placed w.config u.places h x g s a) e.1).stands a
      ]

      -- what was accepted before a position stays so
      before_joined : (g : RegionId) (s : ServerId) → Before script w key g s u → Before script now key g s u
      before_joined g s b h x t k a =
          let c = source h x t k in
          let d = b h c.from c.old c.held (source-before h x t c g s a) in
          let e = c.top in
          omega (arith, d, e)

      -- a position before a new holder is its sender's, or stands before that
      before-sender : (g : RegionId) (s : ServerId) → IsIn s (order w.config g) → (h : RegionId) (i x : ServerId)
          → member_after i (members_of w.config h) ≡ Some x → Ahead script w key u g s h x
          → ((g ≡ h) × (s ≡ i)) ⊎ Ahead script w key u g s h i
      before-sender g s l h i x n a = (near h i x a.0 n).before g s l a

      -- no joiner comes right after a position that is closed
      not-closed : (g : RegionId) (s : ServerId) (h : RegionId) (x : ServerId) (t : KeyState) → HasPlace u.places h → (k : Twin script w key h x t) → g ≡ h
          → s ≡ k.sender → Closed script w key g s u → ⊥
      not-closed g s h x t p k e f c =
          let i = k.sender in
          let c1 : Closed script w key h i u = subst (λ (y : ServerId). Closed script w key h y u) f
          (subst (λ (r : RegionId). Closed script w key r s u) e c) in
          let c2 : Filled script w key u (At x (place_number h u.places)) = subst (Filled script w key u)
          (next-within (w.own i) u.places (apart u stands) (o.differ (w.own i) (o.own i)) h p i x k.by_own) c1 in
          k.empty (subst (λ (r : RegionId). w.installed r x) (let q = place-at u.places h p in region-is u.places (place_number h u.places) q.0 q.1 ∙ q.2) c2)

      -- nor right after one that may hear an acknowledgement: it would come from the joiner, which isn't installed
      not-heard : (y : ServerId) (by : RegionId) (g : RegionId) (s : ServerId) → HearsAck (ways w) y by g s u → w.installed by y
          → (h : RegionId) (x : ServerId) (t : KeyState) → HasPlace u.places h → (k : Twin script w key h x t) → g ≡ h → s ≡ k.sender → ⊥
      not-heard y by g s hears from h x t p k e f = found
          (subst (λ (r : RegionId). HearsAck (ways w) y by r k.sender u) e (subst (λ (z : ServerId). HearsAck (ways w) y by g z u) f hears))
        where
          found : HearsAck (ways w) y by h k.sender u → ⊥
          found a = elim (next-hops c u.places (apart u stands) dc h p k.sender a.listed y a.place a.at) [
            | inl b ↦ (let z = after-order k.sender y (members_of c h) (dc h) b.after in
                elim (z.2 x joiner-after) [
                  | inl q ↦ k.empty (subst (λ (v : ServerId). w.installed h v) (sym q) (subst (λ (r : RegionId). w.installed r y) (sym a.region ∙ b.same) from))
                  | inr q ↦ (let first = after-order k.sender x (members_of (w.own k.sender) h) (o.differ (w.own k.sender) (o.own k.sender) h) k.by_own in
                      let back = grown.same_order h y x (before-in k.sender x (order (w.own k.sender) h) first.0).1 q in
                      elim (first.1 y back) [
                        | inl r ↦ twice (subst (λ (v : ServerId). IsBefore k.sender v (order c h)) r z.0)
                        | inr r ↦ twice (before-trans k.sender y k.sender (members_of c h) (dc h) z.0
                            (grown.keeps_order h y k.sender (o.listed c a.may.known h y (before-in k.sender y (order c h) z.0).1)
                            (o.listed c a.may.known h k.sender a.listed) r))
                      ])
                ])
            | inr b ↦ after-nobody k.sender (members_of c h) (dc h) b.last x joiner-after
          ]
            where
              c : Config
              c = a.config

              dc : (r : RegionId) → Differ (members_of c r)
              dc = o.differ c a.may.known

              grown : GrownOut (w.own k.sender) c
              grown = o.grown (w.own k.sender) c (o.own k.sender) a.may.known a.may.later

              joiner-after : IsBefore k.sender x (order c h)
              joiner-after = joiner-stands h x t k c a.may a.listed

              twice : IsBefore k.sender k.sender (order c h) → ⊥
              twice b = stands-irreflexive c u.places (apart u stands) dc h k.sender (p, inr (refl, b))

      -- what was committed after a closed position stays so
      after_joined : (g : RegionId) (s : ServerId) → IsIn s (order w.config g)
          → ((h : RegionId) (x : ServerId) (t : KeyState) → HasPlace u.places h → (k : Twin script w key h x t) → g ≡ h → s ≡ k.sender → ⊥)
          → After script w key g s u → After script now key g s u
      after_joined g s l closed b h x t k a =
          let c = source h x t k in
          let f = c.floor in
          elim c.is [
            | inl e ↦ (let d = b h c.from c.old c.held (subst (λ (y : ServerId). Ahead script w key u g s h y) (sym e.0) a) in omega (arith, d, f))
            | inr e ↦ elim (before-sender g s l h c.from x e.1 a) [
              | inl q ↦ absurd (closed h x t a.0 e.0 q.0 (q.1 ∙ e.3))
              | inr q ↦ (let d = b h c.from c.old c.held q in omega (arith, d, f))
            ]
          ]

      -- what a holder has committed is committed after it
      freed_joined : (g : RegionId) (s : ServerId) (t : KeyState) → now.holds key g s t → has_place g u ≡ true → u.version.0 ≤ t.floor
          → After script now key g s u
      freed_joined g s t k p l h x t2 k2 a =
          let c = source g s t k in
          let d = source h x t2 k2 in
          let f = c.floor in let f2 = d.floor in
          let own = ok.own g c.from c.old c.held in
          let free = own.freed u stands p (omega (arith, l, f)) in
          let listed = ok.listed g c.from c.old c.held in
          elim d.is [
            | inl e ↦ (let b = free h d.from d.old d.held (subst (λ (y : ServerId). Ahead script w key u g c.from h y) (sym e.0)
                (source-before g s t c h x a)) in omega (arith, b, f2))
            | inr e ↦ elim (before-sender g c.from listed h d.from x e.1 (source-before g s t c h x a)) [
              | inl q ↦ (let same : c.old ≡ d.old = e.2 c.old (subst (λ (y : ServerId). w.holds key h y c.old) q.1
                  (subst (λ (r : RegionId). w.holds key r c.from c.old) q.0 c.held)) in
                  let z : c.old.floor ≡ d.old.floor = ap (λ (y : KeyState). y.floor) same in omega (arith, l, f, f2, z))
              | inr q ↦ (let b = free h d.from d.old d.held q in omega (arith, b, f2))
            ]
          ]

      -- what a new holder has accepted is accepted before it
      taken_joined : (g : RegionId) (s : ServerId) (t : KeyState) → now.holds key g s t → has_place g u ≡ true → u.version.0 ≤ top_of t
          → Before script now key g s u
      taken_joined g s t k p l h x t2 k2 a =
          let c = source g s t k in
          let d = source h x t2 k2 in
          let f = c.top in let f2 = d.top in
          let own = ok.own g c.from c.old c.held in
          let take = own.taken u stands p (omega (arith, l, f)) in
          let b = source-before h x t2 d g s a in
          elim c.is [
            | inl e ↦ (let z = take h d.from d.old d.held (subst (λ (y : ServerId). Ahead script w key u h d.from g y) (sym e.0) b) in omega (arith, z, f2))
            | inr e ↦ elim (before-sender h d.from (ok.listed h d.from d.old d.held) g c.from s e.1 b) [
              | inl q ↦ (let same : d.old ≡ c.old = e.2 d.old (subst (λ (y : ServerId). w.holds key g y d.old) q.1
                  (subst (λ (r : RegionId). w.holds key r d.from d.old) q.0 d.held)) in
                  let z : top_of d.old ≡ top_of c.old = ap top_of same in omega (arith, l, f, f2, z))
              | inr q ↦ (let z = take h d.from d.old d.held q in omega (arith, z, f2))
            ]
          ]

    -- what is committed along chains stays so
    along_joined : (v : ℕ) → Along script w key v → Along script now key v
    along_joined v a u i q g s t k p =
        let c = source g s t k in
        let b = a u i q g c.from c.old c.held p in
        let f = c.floor in
        omega (arith, b, f)

    -- what is fixed stays so
    fixed_joined : (v : ℕ) → Fixed script w key v → Fixed script now key v
    fixed_joined v f = (
      f.0,
      λ s t k. (let c = source (key_region script.space key) s t k in let b = f.1 c.from c.old c.held in let e = c.top in omega (arith, b, e)),
    )

    -- an update under way stays true
    update_joined : (x : ServerId) (g : RegionId) (s : ServerId) (u : Update) → UpdateOk script w key x g s u → UpdateOk script now key x g s u
    update_joined x g s u h = record {
      route = h.route;
      from = h.from;
      accepted = λ i. (let a = h.accepted i in (a.0, λ t k. elim k [ inl z ↦ a.1 t z | inr z ↦ absurd ((twins key h.route.region x t z).empty h.from) ]));
      heard = λ y. (let z = h.heard y in record { stands = z.stands; listed = z.listed; before = before_joined u z.stands g s z.before });
    }

    -- and an acknowledgement
    ack_joined : (x : ServerId) (by : RegionId) (g : RegionId) (s : ServerId) (v : ℕ) → AckOk script w key x by g s v → AckOk script now key x by g s v
    ack_joined x by g s v h = record {
      update = h.update;
      stands = h.stands;
      version = h.version;
      from = h.from;
      placed = h.placed;
      sender_placed = h.sender_placed;
      everywhere = λ k z t hold p. (let c = source k z t hold in let d = h.everywhere k c.from c.old c.held p in let e = c.top in omega (arith, d, e));
      committed = λ i t k. elim k [ inl z ↦ h.committed i t z | inr z ↦ absurd ((twins key by x t z).empty h.from) ];
      heard = λ y. (let z = h.heard y in
          (z.0, after_joined h.update h.stands g s z.0 (λ h2 k t p m e f. not-heard h.update h.stands x by g s y h.from h2 k t p m e f) z.1));
    }

    -- what a holder relies on
    own_joined : (g : RegionId) (s : ServerId) (t : KeyState) → now.holds key g s t → Own (w.line key) g (around script now key g s) t
    own_joined g s t (inl h) =
        let own = ok.own g s t h in
        record {
          content = own.content;
          low = own.low;
          top_line = own.top_line;
          top_is = own.top_is;
          taken = λ u i p l. before_joined u i g s (own.taken u i p l);
          freed = λ u i p l. freed_joined u i g s t (inl h) p l;
          early = λ u i. (let k = own.early u i in record {
            stands = k.stands;
            placed = k.placed;
            before = before_joined u k.stands g s k.before;
            waits =
                k.waits;
          });
          acked = λ v i. (let k = own.acked v i in record {
            update = k.update;
            stands = k.stands;
            version = k.version;
            placed = k.placed;
            before = before_joined k.update k.stands g s k.before;
            after = after_joined k.update k.stands g s (ok.listed g s t h)
                (λ h2 x t2 p m e f. not-closed k.update k.stands g s h2 x t2 p m e f k.closed) k.after;
            closed = k.closed;
            low = k.low;
          });
        }
    own_joined g s t (inr n) = subst (Own (w.line key) g (around script now key g s)) (sym x.state) (record {
      content = record { list = content.list; object = content.object; marks = content.marks; touches = content.touches; floor = content.floor };
      low = omega arith;
      top_line = (let b = own.top_line in let e = top in omega (arith, b, e));
      top_is = elim own.top_is [ inl e ↦ inl (top ∙ e) | inr u ↦ inr (u.0, u.1, u.2, u.3 ∙ sym top) ];
      taken = λ u i p l. taken_joined u i g s t (inr n) p
          (let e : top_of t ≡ top_of (moved Forget (folded g x.old)) = ap top_of x.state in omega (arith, l, e));
      freed = λ u i p l. freed_joined u i g s t (inr n) p (let e : t.floor ≡ x.old.floor = ap (λ (y : KeyState). y.floor) x.state in omega (arith, l, e));
      early = λ u i. absurd i;
      acked = λ v i. absurd i;
    })
      where
        x : Twin script w key g s t
        x = twins key g s t n

        own : Own (w.line key) g (around script w key g x.sender) x.old
        own = ok.own g x.sender x.old x.held

        content : IsPrefix g (w.line key) (folded g x.old)
        content = prefix-folded g (w.line key) (sorted-descends (w.line key) (lawful-sorted script w.known key (w.line key) ok.lawful)) x.old x.slot own.content

        top : top_of (folded g x.old) ≡ top_of x.old
        top = top-folded g x.old x.slot.floor

    -- what holds of the key after
    key_joined : KeyOk script now key
    key_joined = record { lawful = ok.lawful; listed = listed; own = own_joined; clear = clear }
      where
        listed : (g : RegionId) (s : ServerId) (t : KeyState) → now.holds key g s t → IsIn s (order w.config g)
        listed g s t (inl h) = ok.listed g s t h
        listed g s t (inr n) = (let x = twins key g s t n in
            (before-in x.sender s (order w.config g) (after-order x.sender s (members_of w.config g) (differ g) x.next).0).1)

        clear : (s : ServerId) (c : Config) → May (ways w) s c → (g : RegionId) → IsIn s (order c g) → member_after s (members_of c g) ≡ None
            → (z : ServerId) (t : KeyState) → now.holds key g z t → IsBefore s z (order w.config g) → ⊥
        clear s c m g i none z t (inl h) b = ok.clear s c m g i none z t h b
        clear s c m g i none z t (inr h) b =
            let x = twins key g z t h in
            let n = after-order x.sender z (members_of w.config g) (differ g) x.next in
            elim (n.1 s b) [
              | inl q ↦ after-nobody s (members_of c g) (o.differ c m.known g) none z
                  (subst (λ (y : ServerId). IsBefore y z (order c g)) (sym q)
                  (joiner-stands g z t x c (subst (λ (y : ServerId). May (ways w) y c) q m) (subst (λ (y : ServerId). IsIn y (order c g)) q i)))
              | inr q ↦ ok.clear s c m g i none x.sender x.old x.held q
            ]

-- what is kept of all
pub stays_joined : (script : Script) (valid : IsSpace script.space) (w : World) (o : Ordered w) (new : List ℕ → RegionId → ServerId → KeyState → Type 0)
    (twins : (key : List ℕ) (g : RegionId) (s : ServerId) (t : KeyState) → new key g s t → Twin script w key g s t)
    → ((key : List ℕ) → KeyOk script w key) → Stays script w (changed w (joined w new))
stays_joined script valid w o new twins ok = record {
  ordered = ordered_up w o (joined w new) o.home (λ k g s i l. (let h = o.seat k g s i l in (h.0, inl h.1)));
  keys = λ key. key_joined script valid w o new twins key (ok key);
  valid = valid_up script w (changed w (joined w new))
      (λ key x g s u h. update_joined script valid w o new twins key (ok key) x g s u h)
      (λ key x by g s v h. ack_joined script valid w o new twins key (ok key) x by g s v h)
      (λ key. told_up script w (changed w (joined w new)) key (length (w.line key)) (ok key) (more_same (w.line key)) (λ v f. f.0)
      (λ v l a. along_joined script valid w o new twins key (ok key) v a));
  fixed = λ key v f. fixed_joined script valid w o new twins key (ok key) v f;
}
