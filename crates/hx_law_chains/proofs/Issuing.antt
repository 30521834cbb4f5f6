-- What is kept of a key and of posts when a configuration is issued: who it leaves out holds
-- nothing any more, all others hold what they did in the same order, and a post that comes to be
-- heard by it alone came from a neighbour that has accepted, or committed, the update.
use Rattle.std.proofs.Common.{◌≡◌, ℕ, ◌<◌, ◌⊎◌, inl, inr, List, length, sym, ap, ◌∙◌, subst, arith}
use Rattle.hx_model.specs.Types.{At, Config, Place, RegionId, Script, ServerId, Update}
use Rattle.hx_types.specs.Words.{IsBefore, IsIn}
use Rattle.hx_types.specs.Configs.{members_of}
use Rattle.hx_types.specs.Spaces.{IsSpace}
use Rattle.hx_model.specs.Neighbours.{next_of, place_number, prev_of, region_at}
use Rattle.hx_model.specs.Slots.{KeyState}
use Rattle.hx_law_lemmas.proofs.Lemmas.{Apart, Differ, after-nobody, after-order, before-in, head-nobody, more_same, numbered-within as in-below, places-apart}
use Rattle.hx_law_epochs.proofs.Lemmas.{GrownOut, HasPlace, ListsServers, PrecedesInChain, grown-out-self, number-region, placed-number}
use Rattle.hx_law_epochs.specs.Epochs.{order}
use Rattle.hx_law_chains.proofs.Between.{none-after, none-before}
use Rattle.hx_law_chains.proofs.Hops.{Hops, hops-first, hops-second, next-hops, prev-hops}
use Rattle.hx_law_chains.proofs.Keys.{told_up, valid_up}
use Rattle.hx_law_chains.proofs.Moves.{own_rely}
use Rattle.hx_law_chains.proofs.World.{AckOk, After, Comes, KeyOk, May, Ordered, Sending, Stays, UpdateOk, World, after-stays, along-stays, around}
use Rattle.hx_law_chains.proofs.World.{before-stays, done-stays, everywhere-stays, fixed-stays, here-stays, lawful-known, lawful-made, lawful-numbered}
use Rattle.hx_law_chains.proofs.World.{route-known, ways}

module _ (script : Script) (valid : IsSpace script.space) (w : World) (o : Ordered w) (c2 : Config) (grown : GrownOut w.config c2)
    (newer : w.config.epoch.0 < c2.epoch.0) (differ : (g : RegionId) → Differ (members_of c2 g)) (listed : ListsServers c2)
    (all_up : (s : ServerId) → w.up s → IsIn s c2.servers)
    (holds2 : List ℕ → RegionId → ServerId → KeyState → Type 0) (known2 : Config → Type 0)
    (sub : (key : List ℕ) (g : RegionId) (s : ServerId) (t : KeyState) → holds2 key g s t → w.holds key g s t × IsIn s (order c2 g))
    (seat2 : (key : List ℕ) (g : RegionId) (s : ServerId) → w.installed g s → IsIn s (order c2 g) → (t : KeyState) × holds2 key g s t)
    (split : (c : Config) → known2 c → w.known c ⊎ (c ≡ c2)) (more : (c : Config) → w.known c → known2 c) (known_new : known2 c2) where
  -- where all stand after: who the new one doesn't list holds nothing any more
  abbrev next : World
  next = record { config = c2; own = w.own; up = w.up; line = w.line; holds = holds2; installed = w.installed; known = known2 }

  -- who is listed was listed, if it was ever
  was-listed : (c : Config) → w.known c → (g : RegionId) (s : ServerId) → IsIn s (order c g) → IsIn s (order c2 g) → IsIn s (order w.config g)
  was-listed c k g s i j = (o.grown c w.config k o.newest (o.last c k)).stays g s (grown.servers s (listed g s j)) i

  -- the new one has grown out of each
  from-each : (c : Config) → w.known c → GrownOut c c2
  from-each c k =
      let a = o.grown c w.config k o.newest (o.last c k) in
      record {
        epoch = (let x = a.epoch in omega (arith, x, newer));
        servers = λ s i. a.servers s (grown.servers s i);
        stays = λ g s i j. grown.stays g s i (a.stays g s (grown.servers s i) j);
        same_order = λ g x y i p. a.same_order g x y i (grown.same_order g x y
            (a.stays g y (grown.servers y (listed g y (before-in x y (order c2 g) p).1)) i) p);
        keeps_order = λ g x y i j p. grown.keeps_order g x y i j (a.keeps_order g x y (grown.servers x i) (grown.servers y j) p);
        lost = λ g e. grown.lost g (a.lost g e);
      }

  -- configurations stay in order
  ordered_issued : Ordered next
  ordered_issued = record {
    differ = λ c k. elim (split c k) [ inl h ↦ o.differ c h | inr e ↦ subst (λ (x : Config). (g : RegionId) → Differ (members_of x g)) (sym e) differ ];
    listed = λ c k. elim (split c k) [ inl h ↦ o.listed c h | inr e ↦ subst ListsServers (sym e) listed ];
    grown = λ c n k l le. elim (split c k) [
      | inl h ↦ elim (split n l) [ inl m ↦ o.grown c n h m le | inr e ↦ subst (GrownOut c) (sym e) (from-each c h) ]
      | inr e ↦ elim (split n l) [
        | inl m ↦ absurd (let b = o.last n m in let z : c.epoch.0 ≡ c2.epoch.0 = ap (λ (x : Config). x.epoch.0) e in omega (arith, b, le, newer, z))
        | inr f ↦ subst (λ (x : Config). GrownOut c x) (e ∙ sym f) (grown-out-self c)
      ]
    ];
    newest = known_new;
    last = λ c k. elim (split c k) [
      | inl h ↦ (let b = o.last c h in omega (arith, b, newer))
      | inr e ↦
          (let z : c.epoch.0 ≡ c2.epoch.0 = ap (λ (x : Config). x.epoch.0) e in omega (arith, z))
    ];
    own = λ s. more (w.own s) (o.own s);
    home = o.home;
    up = all_up;
    seat = seat2;
  }

  module _ (key : List ℕ) (ok : KeyOk script w key) where
    -- who stands before a listed position stood before it
    stood : (u : Update) (g : RegionId) (s : ServerId) (h : RegionId) (x : ServerId) → IsIn x (order w.config h) → PrecedesInChain c2 u.places g s h x
        → PrecedesInChain w.config u.places g s h x
    stood u g s h x i (p, inl a) = (p, inl a)
    stood u g s h x i (p, inr (e, a)) = (p, inr (e, grown.same_order g s x (subst (λ (r : RegionId). IsIn x (order w.config r)) (sym e) i) a))

    -- each holder was one
    comes : Comes script w next key
    comes = record {
      source = λ g s t k. record { old = t; held = (sub key g s t k).0; top = omega arith; floor = omega arith };
      stood = stood;
      listed = ok.listed;
    }

    -- what holds of the key after
    key_issued : KeyOk script next key
    key_issued = record {
      lawful = lawful-known script w.known next.known key (w.line key) more ok.lawful;
      listed = λ g s t k. (sub key g s t k).1;
      own = λ g s t k. (let old = (sub key g s t k).0 in let own = ok.own g s t old in
          own_rely g (length (w.line key)) (w.line key) (w.line key) (around script w key g s) (around script next key g s) t (more_same (w.line key))
          own.top_line
          (λ u h. (in-below (w.line key) u (lawful-numbered script w.known key (w.line key) ok.lawful) h.stands).1)
          (record {
            waits = λ u h. h;
            before = λ u. before-stays script w next key comes g s u (ok.listed g s t old);
            after = after-stays script w next key comes g s;
            closed = λ u h. h;
          }) own);
      clear = λ s c m g i none z t k b. elim (split c m.known) [
        | inl h ↦ ok.clear s c (record { up = m.up; known = h; later = m.later }) g i none z t (sub key g z t k).0
            (grown.same_order g s z (ok.listed g z t (sub key g z t k).0) b)
        | inr e ↦ after-nobody s (members_of c g) (subst (λ (x : Config). Differ (members_of x g)) (sym e) (differ g)) none z
            (subst (λ (x : Config). IsBefore s z (order x g)) (sym e) b)
      ];
    }

    -- ---- posts

    -- two positions that are neighbours by two configurations are so by the same regions
    one-region : (places : List Place) (apart : Apart places) (c : Config) → w.known c → (q : RegionId) (x : ServerId) (g : RegionId) (s : ServerId)
        → HasPlace places g → IsIn x (order c q) → IsIn s (order c g) → Hops c places q x g s
        → (r : RegionId) → IsIn s (order c2 g) → IsIn x (order c2 r) → Hops c2 places r x g s → r ≡ q
    one-region places apart c k q x g s l xi si (inl a) r sn xn (inl b) = sym b.same ∙ a.same
    one-region places apart c k q x g s l xi si (inr a) r sn xn (inr b) =
        number-region c2 places apart differ r q (let u = b.up in omega (arith, u, l)) (let u = a.up in omega (arith, u, l))
        (let u = a.up in let v = b.up in omega (arith, u, v))
    one-region places apart c k q x g s l xi si (inl a) r sn xn (inr b) = absurd (
        let f : IsBefore x s (order c g) = subst (λ (y : RegionId). IsBefore x s (order c y)) (sym a.same)
        (after-order x s (members_of c q) (o.differ c k q) a.after).0 in
        head-nobody c2 g s x (differ g) b.head ((from-each c k).keeps_order g x s (listed r x xn) (listed g s sn) f))
    one-region places apart c k q x g s l xi si (inr a) r sn xn (inl b) = absurd (
        let f : IsBefore x s (order c2 g) = subst (λ (y : RegionId). IsBefore x s (order c2 y)) (sym b.same)
        (after-order x s (members_of c2 r) (differ r) b.after).0 in
        head-nobody c g s x (o.differ c k g) a.head ((from-each c k).same_order g x s si f))

    -- an update that comes to be heard: its sender is the neighbour before, has accepted it, and so has whoever stands before that
    module _ (x : ServerId) (g : RegionId) (s : ServerId) (u : Update) (h : UpdateOk script w key x g s u) where
      open h use {route}
      open route use {region as q}

      newly-sent : (n : ℕ) → IsIn s (order c2 g) → prev_of c2 u.places (place_number g u.places) s ≡ At x n → Sending script next key g s u
      newly-sent n i e =
          let l = placed-number u.places g route.placed in
          let hop = prev-hops c2 u.places route.apart differ g l s i x n e in
          let xi = hops-first c2 differ u.places (region_at u.places n) x g s hop in
          let same = one-region u.places route.apart route.config route.known q x g s l route.first_in route.second_in route.hops
          (region_at u.places n) i xi hop in
          by (subst (λ (r : RegionId). Hops c2 u.places r x g s) same hop) (subst (λ (r : RegionId). IsIn x (order c2 r)) same xi)
        where
          by : Hops c2 u.places q x g s → IsIn x (order c2 q) → Sending script next key g s u
          by hop xi =
              let xo = was-listed route.config route.known q x route.first_in xi in
              let a = h.accepted xo in
              let seat = o.seat key q x h.from xo in
              let taken = (ok.own q x seat.0 seat.1).taken u a.0 route.sender_placed (a.1 seat.0 seat.1) in
              record {
                stands = a.0;
                listed = i;
                before = λ k z t hold ah. elim (none-before c2 c2 (grown-out-self c2) listed u.places route.apart differ differ q x g s
                    (placed-number u.places q route.sender_placed) xi i xi hop k z (sub key k z t hold).1
                    (λ e none b. after-nobody x (members_of c2 q) (differ q) none z b) ah) [
                      | inl m ↦ a.1 t (subst (λ (y : ServerId). w.holds key q y t) m.1
                          (subst (λ (r : RegionId). w.holds key r z t) m.0 (sub key k z t hold).0))
                      | inr m ↦ taken k z t (sub key k z t hold).0 (stood u k z q x xo m)
                    ];
              }

      -- an update under way stays true
      update_issued : UpdateOk script next key x g s u
      update_issued = record {
        route = route-known w.known known2 more x g s u route;
        from = h.from;
        accepted = λ i. (let a = h.accepted (was-listed route.config route.known q x route.first_in i) in
            (a.0, here-stays script w next key comes q x u a.1));
        heard = λ y. elim (split y.config y.may.known) [
          | inl k ↦ (let may : May (ways w) s y.config = record { up = y.may.up; known = k; later = y.may.later } in
              let z = h.heard (record { config = y.config; may = may; listed = y.listed; place = y.place; at = y.at }) in
              record {
                stands = z.stands;
                listed = grown.stays g s (all_up s y.may.up) z.listed;
                before = before-stays script w next key comes g s u z.listed z.before;
              })
          | inr e ↦ newly-sent y.place (subst (λ (c : Config). IsIn s (order c g)) e y.listed)
              (subst (λ (c : Config). prev_of c u.places (place_number g u.places) s ≡ At x y.place) e y.at)
        ];
      }

    -- an acknowledgement that comes to be heard: its sender is the neighbour after, has committed it, and so has whoever stands after that
    module _ (x : ServerId) (by : RegionId) (g : RegionId) (s : ServerId) (v : ℕ) (h : AckOk script w key x by g s v) where
      abbrev u : Update
      u = h.update

      apart : Apart u.places
      apart = places-apart script.space valid key (w.line key) (lawful-made script w.known key (w.line key) ok.lawful) u h.stands

      newly-acked : (n : ℕ) → IsIn s (order c2 g) → next_of c2 u.places (place_number g u.places) s ≡ At x n → region_at u.places n ≡ by
          → IsIn s (order c2 g) × After script next key g s u
      newly-acked n i e r = (
        i,
        (let hop = next-hops c2 u.places apart differ g (placed-number u.places g h.placed) s i x n e in after
            (subst (λ (q : RegionId). Hops c2 u.places g s q x) r hop)),
      )
        where
          after : Hops c2 u.places g s by x → After script next key g s u
          after hop k z t hold ah =
              let xi = hops-second c2 differ u.places g s by x hop in
              let xo = was-listed (w.own x) (o.own x) by x (o.home by x h.from) xi in
              let seat = o.seat key by x h.from xo in
              let done = h.committed xo in
              let freed = (ok.own by x seat.0 seat.1).freed u h.stands h.sender_placed (done seat.0 seat.1) in
              elim (none-after c2 c2 (grown-out-self c2) listed u.places apart differ differ g s by x (placed-number u.places by h.sender_placed)
              i xi xi i hop k z (sub key k z t hold).1
              (λ q none b. after-nobody s (members_of c2 g) (differ g) none z b) ah) [
                | inl q ↦ done t (subst (λ (y : ServerId). w.holds key by y t) q.1 (subst (λ (p : RegionId). w.holds key p z t) q.0 (sub key k z t hold).0))
                | inr q ↦ freed k z t (sub key k z t hold).0 (stood u by x k z (ok.listed k z t (sub key k z t hold).0) q)
              ]

      -- an acknowledgement under way stays true
      ack_issued : AckOk script next key x by g s v
      ack_issued = record {
        update = h.update;
        stands = h.stands;
        version = h.version;
        from = h.from;
        placed = h.placed;
        sender_placed = h.sender_placed;
        everywhere = everywhere-stays script w next key comes u h.everywhere;
        committed = λ i. done-stays script w next key comes by x u (h.committed (was-listed (w.own x) (o.own x) by x (o.home by x h.from) i));
        heard = λ y. elim (split y.config y.may.known) [
          | inl k ↦ (let may : May (ways w) s y.config = record { up = y.may.up; known = k; later = y.may.later } in
              let z = h.heard (record { config = y.config; may = may; listed = y.listed; place = y.place; at = y.at; region = y.region }) in
              (grown.stays g s (all_up s y.may.up) z.0, after-stays script w next key comes g s u z.1))
          | inr e ↦ newly-acked y.place (subst (λ (c : Config). IsIn s (order c g)) e y.listed)
              (subst (λ (c : Config). next_of c u.places (place_number g u.places) s ≡ At x y.place) e y.at) y.region
        ];
      }

  -- what is kept of all
  pub stays_issued : ((key : List ℕ) → KeyOk script w key) → Stays script w next
  stays_issued ok = record {
    ordered = ordered_issued;
    keys = λ key. key_issued key (ok key);
    valid = valid_up script w next (λ key. update_issued key (ok key)) (λ key. ack_issued key (ok key))
        (λ key. told_up script w next key (length (w.line key)) (ok key) (more_same (w.line key)) (λ v f. f.0)
        (λ v l. along-stays script w next key (comes key (ok key)) v (λ u i q. i)));
    fixed = λ key v f. fixed-stays script w next key (comes key (ok key)) v f.0 f;
  }
