-- What an installed replica posts of an update that it has accepted or committed, by its server's own configuration, is true for whoever may hear it.
use Rattle.std.proofs.Common.{◌≡◌, ℕ, ◌≤◌, inl, inr, true, List, refl, sym, ap, ◌∙◌, subst, arith}
use Rattle.hx_model.specs.Types.{At, RegionId, Script, ServerId, Update}
use Rattle.hx_types.specs.Words.{IsIn}
use Rattle.hx_types.specs.Spaces.{IsSpace}
use Rattle.hx_model.specs.Neighbours.{region_at}
use Rattle.hx_model.specs.Slots.{KeyState, has_place, top_of}
use Rattle.hx_model.specs.ServerSteps.{next_at, prev_at}
use Rattle.hx_law_lemmas.proofs.Lemmas.{Apart, places-apart}
use Rattle.hx_law_epochs.proofs.Lemmas.{GrownOut, HasPlace, next-is, number-placed, placed-number, stands-cases}
use Rattle.hx_law_epochs.specs.Epochs.{order}
use Rattle.hx_law_chains.proofs.Between.{none-after, none-before}
use Rattle.hx_law_chains.proofs.Hops.{Hops, hops-first, hops-second, next-hops, prev-hops}
use Rattle.hx_law_chains.proofs.World.{AckOk, After, Before, Here, KeyOk, May, Ordered, UpdateOk, World, context, lawful-made, ways}

-- an installed replica of a server that hasn't halted, with its slots
pub record Seat (script : Script) (w : World) (g : RegionId) (i : ServerId) : Type 0 where
  pub slot : List ℕ → KeyState
  pub held : (key : List ℕ) → w.holds key g i (slot key)
  pub only : (key : List ℕ) (t : KeyState) → w.holds key g i t → t ≡ slot key
  pub installed : w.installed g i
  pub up : w.up i

-- a seat where all is kept
pub record Seated : Type 1 where
  pub script : Script
  pub valid : IsSpace script.space
  pub world : World
  pub ordered : Ordered world
  pub keys : (key : List ℕ) → KeyOk script world key
  pub region : RegionId
  pub server : ServerId
  pub seat : Seat script world region server

module _ (seated : Seated) where
  open seated use {script, valid, world as w, ordered as o, keys as ok, region as g, server as i, seat}

  -- what the replica has accepted
  pub record Known (u : Update) : Type 0 where
    pub stands : IsIn u (w.line u.key)
    pub placed : has_place g u ≡ true
    pub low : u.version.0 ≤ top_of (seat.slot u.key)

  -- and what it has committed
  pub record Committed (u : Update) : Type 0 where
    pub known : Known u
    pub done : u.version.0 ≤ (seat.slot u.key).floor

  -- the server has its own configuration
  may-own : May (ways w) i (w.own i)
  may-own = record { up = seat.up; known = o.own i; later = omega arith }

  -- out of which the newest has grown
  own-grown : GrownOut (w.own i) w.config
  own-grown = o.grown (w.own i) w.config (o.own i) o.newest (o.last (w.own i) (o.own i))

  -- that lists the replica
  home : IsIn i (order (w.own i) g)
  home = o.home g i seat.installed

  -- and so does the newest
  now : IsIn i (order w.config g)
  now = own-grown.stays g i (o.up i seat.up) home

  module _ (u : Update) (k : Known u) where
    -- no region stands twice among its places
    apart : Apart u.places
    apart = places-apart script.space valid u.key (w.line u.key) (lawful-made script w.known u.key (w.line u.key) (ok u.key).lawful) u k.stands

    -- the region has a place
    here-placed : HasPlace u.places g
    here-placed = placed-number u.places g k.placed

    -- each holder before has accepted it
    before : Before script w u.key g i u
    before = ((ok u.key).own g i (seat.slot u.key) (seat.held u.key)).taken u k.stands k.placed k.low

    -- and so has each at the position
    here : Here script w u.key g i u
    here t h = (let e : top_of t ≡ top_of (seat.slot u.key) = ap top_of (seat.only u.key t h) in let l = k.low in omega (arith, e, l))

    -- whom a hop goes to is listed, and has a place
    to-listed : (h : RegionId) (y : ServerId) → Hops (w.own i) u.places g i h y → IsIn y (order (w.own i) h) × HasPlace u.places h
    to-listed h y hop = (hops-second (w.own i) (o.differ (w.own i) (o.own i)) u.places g i h y hop, by hop)
      where
        by : Hops (w.own i) u.places g i h y → HasPlace u.places h
        by (inl a) = subst (HasPlace u.places) (sym a.same) here-placed
        by (inr a) = a.has_place

    -- an update to the next replica is true
    pub passed : (y : ServerId) (n : ℕ) → next_at (context script w g i) u ≡ At y n → UpdateOk script w u.key i (region_at u.places n) y u
    passed y n e =
        let hop = next-hops (w.own i) u.places apart (o.differ (w.own i) (o.own i)) g here-placed i home y n e in
        let there = to-listed (region_at u.places n) y hop in
        record {
          route = record {
            region = g;
            sender_placed = k.placed;
            placed = number-placed u.places (region_at u.places n) there.1;
            apart = apart;
            config = w.own i;
            known = o.own i;
            first_in = home;
            second_in = there.0;
            hops = hop;
            next = e ∙ ap (At y) (sym (next-is (w.own i) u.places apart (o.differ (w.own i) (o.own i)) g here-placed i home y n e).number);
          };
          from = seat.installed;
          accepted = λ l. (k.stands, here);
          heard = λ z. record {
            stands = k.stands;
            listed = own-grown.stays (region_at u.places n) y (o.up y z.may.up) there.0;
            before = λ h x t hold a. elim (none-before (w.own i) w.config own-grown (o.listed w.config o.newest) u.places apart
                (o.differ (w.own i) (o.own i)) (o.differ w.config o.newest) g i (region_at u.places n) y here-placed home there.0 now hop h x
                ((ok u.key).listed h x t hold) (λ q none b. (ok u.key).clear i (w.own i) may-own g home none x t
                (subst (λ (r : RegionId). w.holds u.key r x t) q hold) b) a) [
                  | inl q ↦ here t (subst (λ (s : ServerId). w.holds u.key g s t) q.1 (subst (λ (r : RegionId). w.holds u.key r x t) q.0 hold))
                  | inr b ↦ before h x t hold b
                ];
          };
        }

  module _ (u : Update) (c : Committed u) where
    -- each holder after has committed it
    after : After script w u.key g i u
    after = ((ok u.key).own g i (seat.slot u.key) (seat.held u.key)).freed u c.known.stands c.known.placed c.done

    -- and so has each at the position
    finished : (t : KeyState) → w.holds u.key g i t → u.version.0 ≤ t.floor
    finished t h = (let e : t.floor ≡ (seat.slot u.key).floor = ap (λ (x : KeyState). x.floor) (seat.only u.key t h) in let l = c.done in omega (arith, e, l))

    -- an acknowledgement to the previous replica is true
    pub acked : (y : ServerId) (n : ℕ) → prev_at (context script w g i) u ≡ At y n → AckOk script w u.key i g (region_at u.places n) y u.version.0
    acked y n e =
        let hop = prev-hops (w.own i) u.places (apart u c.known) (o.differ (w.own i) (o.own i)) g (here-placed u c.known) i home y n e in
        let there = from-placed (region_at u.places n) y hop in
        record {
          update = u;
          stands = c.known.stands;
          version = refl;
          from = seat.installed;
          placed = number-placed u.places (region_at u.places n) there.1;
          sender_placed = c.known.placed;
          everywhere = λ h x t hold p. elim (stands-cases w.config u.places (apart u c.known) (o.differ w.config o.newest) h x g i
              (placed-number u.places h p) (here-placed u c.known) ((ok u.key).listed h x t hold) now) [
                | inl q ↦ here u c.known t (subst (λ (s : ServerId). w.holds u.key g s t) q.1 (subst (λ (r : RegionId). w.holds u.key r x t) q.0 hold))
                | inr (inl b) ↦ before u c.known h x t hold b
                | inr (inr b) ↦ (let f = after h x t hold b in let l = ((ok u.key).own h x t hold).content.floor in omega (arith, f, l))
              ];
          committed = λ l. finished;
          heard = λ z. (
            own-grown.stays (region_at u.places n) y (o.up y z.may.up) there.0,
            λ h x t hold a.
                (let back = next-hops z.config u.places (apart u c.known) (o.differ z.config z.may.known) (region_at u.places n)
                there.1 y z.listed i z.place z.at in
                let hop2 = subst (λ (r : RegionId). Hops z.config u.places (region_at u.places n) y r i) z.region back in
                let grown = o.grown z.config w.config z.may.known o.newest (o.last z.config z.may.known) in
                elim (none-after z.config w.config grown (o.listed w.config o.newest) u.places (apart u c.known) (o.differ z.config z.may.known)
                (o.differ w.config o.newest) (region_at u.places n) y g i (here-placed u c.known) z.listed
                (hops-second z.config (o.differ z.config z.may.known) u.places (region_at u.places n) y g i hop2) now
                (own-grown.stays (region_at u.places n) y (o.up y z.may.up) there.0) hop2 h x ((ok u.key).listed h x t hold)
                (λ q none b. (ok u.key).clear y z.config z.may (region_at u.places n) z.listed none x t
                (subst (λ (r : RegionId). w.holds u.key r x t) q hold) b) a) [
                  | inl q ↦ finished t (subst (λ (s : ServerId). w.holds u.key g s t) q.1 (subst (λ (r : RegionId). w.holds u.key r x t) q.0 hold))
                  | inr b ↦ after h x t hold b
                ]),
          );
        }
      where
        from-placed : (h : RegionId) (y : ServerId) → Hops (w.own i) u.places h y g i → IsIn y (order (w.own i) h) × HasPlace u.places h
        from-placed h y hop = (hops-first (w.own i) (o.differ (w.own i) (o.own i)) u.places h y g i hop, by hop)
          where
            by : Hops (w.own i) u.places h y g i → HasPlace u.places h
            by (inl a) = subst (HasPlace u.places) a.same (here-placed u c.known)
            by (inr a) = (let m = here-placed u c.known in let q = a.up in omega (arith, m, q))
