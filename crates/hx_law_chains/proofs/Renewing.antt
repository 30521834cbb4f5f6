-- What is kept of a key and of posts when a server adopts a configuration or halts, before it goes
-- on: its slots forget acknowledgements and early updates, and fewer posts may be heard.
use Rattle.std.proofs.Common.{◌≡◌, ℕ, ◌≤◌, ◌⊎◌, inl, inr, List, length, Some, sym, ap, subst, arith}
use Rattle.hx_model.specs.Types.{Config, RegionId, Script, ServerId, Update}
use Rattle.hx_types.specs.Words.{IsIn}
use Rattle.hx_types.specs.Configs.{head_of}
use Rattle.hx_model.specs.Neighbours.{next_of, place_number}
use Rattle.hx_model.specs.Slots.{Forget, KeyState, moved, top_of}
use Rattle.hx_law_lemmas.proofs.Lemmas.{more_same, numbered-within as in-below}
use Rattle.hx_law_epochs.specs.Epochs.{order}
use Rattle.hx_law_chains.proofs.Keys.{told_up, valid_up}
use Rattle.hx_law_chains.proofs.Moves.{Own, own_forget, own_rely}
use Rattle.hx_law_chains.proofs.World.{AckOk, Comes, Filled, KeyOk, May, Ordered, Stays, UpdateOk, World, after-stays, along-stays, around, before-stays}
use Rattle.hx_law_chains.proofs.World.{done-stays, everywhere-stays, filled-stays, fixed-stays, here-stays, lawful-known, lawful-numbered, route-known, ways}

-- what becomes of servers, holders and installed replicas, and what is said to be known
pub record Anew : Type 1 where
  pub own : ServerId → Config
  pub up : ServerId → Type 0
  pub holds : List ℕ → RegionId → ServerId → KeyState → Type 0
  pub installed : RegionId → ServerId → Type 0
  pub known : Config → Type 0

-- where all stand after
abbrev pub renewed : World → Anew → World
renewed w a = record { config = w.config; own = a.own; up = a.up; line = w.line; holds = a.holds; installed = a.installed; known = a.known }

-- no server's configuration falls, none comes to run again, and each holder was one, or has forgotten since
pub record Renews (w : World) (a : Anew) : Type 0 where
  pub more : (c : Config) → w.known c → a.known c
  pub less : (c : Config) → a.known c → w.known c
  pub own : (s : ServerId) → w.known (a.own s)
  pub kept : (g : RegionId) (s : ServerId) → w.installed g s → a.installed g s
  pub home : (g : RegionId) (s : ServerId) → a.installed g s → IsIn s (order (a.own s) g)
  pub ups : (s : ServerId) → a.up s → w.up s
  pub later : (s : ServerId) → (w.own s).epoch.0 ≤ (a.own s).epoch.0
  pub from : (key : List ℕ) (g : RegionId) (s : ServerId) (t : KeyState) → a.holds key g s t → (w.holds key g s t × (a.own s ≡ w.own s))
      ⊎ ((old : KeyState) × w.holds key g s old × (t ≡ moved Forget old))
  pub seat : (key : List ℕ) (g : RegionId) (s : ServerId) → a.installed g s → IsIn s (order w.config g) → (t : KeyState) × a.holds key g s t

module _ (script : Script) (w : World) (o : Ordered w) (a : Anew) (renews : Renews w a) where
  open renews use {more, less, kept, ups, from}

  -- where all stand after
  abbrev now : World
  now = renewed w a

  -- what a server may come to have it might have come to have
  may-before : (s : ServerId) (c : Config) → May (ways now) s c → May (ways w) s c
  may-before s c m = record { up = ups s m.up; known = less c m.known; later = (let d = renews.later s in let b = m.later in omega (arith, d, b)) }

  module _ (key : List ℕ) (ok : KeyOk script w key) where
    -- where a holder comes from
    comes : Comes script w now key
    comes = record {
      source = λ g s t h. elim (from key g s t h) [
        | inl k ↦ record { old = t; held = k.0; top = omega arith; floor = omega arith }
        | inr k ↦ record {
          old = k.0;
          held = k.1;
          top = (let e = ap top_of k.2 in omega (arith, e));
          floor = (let e = ap (λ (x : KeyState). x.floor) k.2 in omega (arith, e));
        }
      ];
      stood = λ u g s h x i b. b;
      listed = ok.listed;
    }

    -- what holds of the key after
    key_renewed : KeyOk script now key
    key_renewed = record {
      lawful = lawful-known script w.known a.known key (w.line key) more ok.lawful;
      listed = λ g s t k. (let c = comes.source g s t k in ok.listed g s c.old c.held);
      own = own;
      clear = λ s c m g i none z t k b. (let d = comes.source g z t k in ok.clear s c (may-before s c m) g i none z d.old d.held b);
    }
      where
        stays : (g : RegionId) (s : ServerId) (t : KeyState) → w.holds key g s t → a.own s ≡ w.own s → Own (w.line key) g (around script now key g s) t
        stays g s t h e =
            let own = ok.own g s t h in
            own_rely g (length (w.line key)) (w.line key) (w.line key) (around script w key g s) (around script now key g s) t (more_same (w.line key))
            own.top_line
            (λ u k. (in-below (w.line key) u (lawful-numbered script w.known key (w.line key) ok.lawful) k.stands).1)
            (record {
              waits = λ u f q head. f q (subst (λ (c : Config). head_of c g ≡ Some s) e head);
              before = λ u. before-stays script w now key comes g s u (ok.listed g s t h);
              after = after-stays script w now key comes g s;
              closed = λ u f. filled-stays script w now key kept u (next_of (a.own s) u.places (place_number g u.places) s)
                  (subst (λ (c : Config). Filled script w key u (next_of c u.places (place_number g u.places) s)) (sym e) f);
            }) own

        own : (g : RegionId) (s : ServerId) (t : KeyState) → a.holds key g s t → Own (w.line key) g (around script now key g s) t
        own g s t h = elim (from key g s t h) [
          | inl k ↦ stays g s t k.0 k.1
          | inr k ↦ subst (Own (w.line key) g (around script now key g s)) (sym k.2)
              (own_forget (w.line key) g (around script w key g s) (around script now key g s) k.0
              (λ u. before-stays script w now key comes g s u (ok.listed g s k.0 k.1)) (after-stays script w now key comes g s) (ok.own g s k.0 k.1))
        ]

    -- an update under way stays true
    update_renewed : (x : ServerId) (g : RegionId) (s : ServerId) (u : Update) → UpdateOk script w key x g s u → UpdateOk script now key x g s u
    update_renewed x g s u h = record {
      route = route-known w.known a.known more x g s u h.route;
      from = kept h.route.region x h.from;
      accepted = λ i. (let b = h.accepted i in (b.0, here-stays script w now key comes h.route.region x u b.1));
      heard = λ y. (let z = h.heard (record { config = y.config; may = may-before s y.config y.may; listed = y.listed; place = y.place; at = y.at }) in
          record { stands = z.stands; listed = z.listed; before = before-stays script w now key comes g s u z.listed z.before });
    }

    -- and an acknowledgement
    ack_renewed : (x : ServerId) (by : RegionId) (g : RegionId) (s : ServerId) (v : ℕ) → AckOk script w key x by g s v → AckOk script now key x by g s v
    ack_renewed x by g s v h = record {
      update = h.update;
      stands = h.stands;
      version = h.version;
      from = kept by x h.from;
      placed = h.placed;
      sender_placed = h.sender_placed;
      everywhere = everywhere-stays script w now key comes h.update h.everywhere;
      committed = λ i. done-stays script w now key comes by x h.update (h.committed i);
      heard = λ y. (let may = may-before s y.config y.may in
          let z = h.heard (record { config = y.config; may = may; listed = y.listed; place = y.place; at = y.at; region = y.region }) in
          (z.0, after-stays script w now key comes g s h.update z.1));
    }

  -- what is kept of all
  pub stays_renewed : ((key : List ℕ) → KeyOk script w key) → Stays script w now
  stays_renewed ok = record {
    ordered = record {
      differ = λ c k. o.differ c (less c k);
      listed = λ c k. o.listed c (less c k);
      grown = λ c n k l. o.grown c n (less c k) (less n l);
      newest = more w.config o.newest;
      last = λ c k. o.last c (less c k);
      own = λ s. more (a.own s) (renews.own s);
      home = renews.home;
      up = λ s u. o.up s (ups s u);
      seat = renews.seat;
    };
    keys = λ key. key_renewed key (ok key);
    valid = valid_up script w now (λ key. update_renewed key (ok key)) (λ key. ack_renewed key (ok key))
        (λ key. told_up script w now key (length (w.line key)) (ok key) (more_same (w.line key)) (λ v f. f.0)
        (λ v l. along-stays script w now key (comes key (ok key)) v (λ u i q. i)));
    fixed = λ key v f. fixed-stays script w now key (comes key (ok key)) v f.0 f;
  }
