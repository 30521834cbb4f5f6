-- Posts that are no snapshots come, and perhaps it is said of more configurations that they are known: what is kept of all keys stays.
use Rattle.std.proofs.Common.{ℕ, ◌⊎◌, inl, inr, List, ◌++◌, refl, arith}
use Rattle.hx_model.specs.Types.{Config, Note, Post, RegionId, ServerId}
use Rattle.hx_types.specs.Words.{IsIn}
use Rattle.hx_model.specs.ServerSteps.{ServerState}
use Rattle.hx_model.specs.Slots.{KeyState}
use Rattle.hx_law_lemmas.proofs.Lemmas.{in-append, in_left, in_right}
use Rattle.hx_law_chains.proofs.Holders.{NoSnap, under-way}
use Rattle.hx_law_chains.proofs.Renewing.{stays_renewed}
use Rattle.hx_law_chains.proofs.Serving.{Asked, IsSilent, Scene, Served, after, posted-at, silent, world}
use Rattle.hx_law_chains.proofs.World.{KeyOk, Ordered, Stays, World, stays-then}

module _ (e : Scene) (posts : List Post) (known : Config → Type 0)
    (back : (p : Post) → IsIn p posts → NoSnap p.message ⊎ IsIn p e.posts) (forth : (p : Post) → IsIn p e.posts → IsIn p posts)
    (more : (d : Config) → e.known d → known d) (less : (d : Config) → known d → e.known d) where
  -- where all stand after
  abbrev calm : World
  calm = world (record e { posts = posts; known = known })

  -- each holder was one before
  held : (key : List ℕ) (g : RegionId) (s : ServerId) (t : KeyState) → calm.holds key g s t → (world e).holds key g s t
  held key g s t (inl l) = inl l
  held key g s t (inr w) = inr (under-way e.script.space e.Real e.servers e.servers e.config e.config posts e.posts key g s t w (λ u. u) (λ l. l) (λ h. h)
      (elim (back _ w.posted) [ inl n ↦ absurd n | inr j ↦ j ]))

  -- and stays one
  holds-still : (key : List ℕ) (g : RegionId) (s : ServerId) (t : KeyState) → (world e).holds key g s t → calm.holds key g s t
  holds-still key g s t (inl l) = inl l
  holds-still key g s t (inr w) = inr (under-way e.script.space e.Real e.servers e.servers e.config e.config e.posts posts key g s t w
      (λ u. u) (λ l. l) (λ h. h) (forth _ w.posted))

  -- what is kept
  pub calm-stays : Ordered (world e) → ((key : List ℕ) → KeyOk e.script (world e) key) → Stays e.script (world e) calm
  calm-stays o = stays_renewed e.script (world e) o
      (record { own = calm.own; up = calm.up; holds = calm.holds; installed = calm.installed; known = known })
      (record {
        more = more;
        less = less;
        own = o.own;
        kept = λ g s h. h;
        home = o.home;
        ups = λ s u. u;
        later = λ s. omega arith;
        from = λ key g s t h. inl (held key g s t h, refl);
        seat = λ key g s i l. (let h = o.seat key g s i l in (h.0, holds-still key g s h.0 h.1));
      })

-- what a step keeps that posts some more, of no call and of no update
pub more-served : (e : Scene) (asked : Asked) (i : ServerId) (q : ServerState) (notes : List Note) (new others : List Post)
    → ((p : Post) → IsIn p others → IsSilent p.message ⊎ IsIn p new) → ((p : Post) → IsIn p new → IsIn p others)
    → Served e asked i q notes new → Served e asked i q notes others
more-served e asked i q notes new others from to s = record {
  stays = stays-then e.script (world e) (world (after e i q notes new)) (world (after e i q notes others)) s.stays calm;
  posts = λ p j. elim (from p j) [
    | inl h ↦ (silent e asked i q (world (after e i q notes others)) p.from p.to p.message h).0
    | inr k ↦ posted-at e asked i q (world (after e i q notes new)) (world (after e i q notes others)) p (calm.valid p.from p.to p.message) (s.posts p k)
  ];
  lines = s.lines;
  same = s.same;
}
  where
    back : (p : Post) → IsIn p (others ++ e.posts) → NoSnap p.message ⊎ IsIn p (new ++ e.posts)
    back p j = elim (in-append others e.posts p j) [
      | inl k ↦ elim (from p k) [
        | inl h ↦ inl (silent e asked i q (world e) p.from p.to p.message h).1
        | inr l ↦ inr (in_left new e.posts p l)
      ]
      | inr k ↦ inr (in_right new e.posts p k)
    ]

    forth : (p : Post) → IsIn p (new ++ e.posts) → IsIn p (others ++ e.posts)
    forth p j = elim (in-append new e.posts p j) [ inl k ↦ in_left others e.posts p (to p k) | inr k ↦ in_right others e.posts p k ]

    calm : Stays e.script (world (after e i q notes new)) (world (after e i q notes others))
    calm = calm-stays (after e i q notes new) (others ++ e.posts) e.known back forth (λ d k. k) (λ d k. k) s.stays.ordered s.stays.keys
