-- In every run the region for which a call is refused or in doubt is one of the space: the key's,
-- that of a place of the write, one that the search's plan names, or one that a sound reply
-- carries.
use Rattle.hx_law_lemmas.proofs.Lemmas.Vocabulary.{[], AnsweredCall, arith, Atomic, below, Bool, Caller, Config, Cput, declared_subspaces, Del, effect_of}
use Rattle.hx_law_lemmas.proofs.Lemmas.Vocabulary.{Entry, Epoch, Get, inl, inr, IsDoubted, IsIn, IsRefusedFor, IsRefusedWrite, IsRegionOf, IsRun, IsScript}
use Rattle.hx_law_lemmas.proofs.Lemmas.Vocabulary.{IsSoundPost, IsSpace, key_region, length, line_object, line_of, List, lowest, map, Op, Option, Place}
use Rattle.hx_law_lemmas.proofs.Lemmas.Vocabulary.{placed_after, places_of, Post, Put, refused_place, RegionId, regions_between, Script, Search, Some, Space}
use Rattle.hx_law_lemmas.proofs.Lemmas.Vocabulary.{subst, sym, top_above, Touch, touches_after, Update, upto, Value, Version, within, ℕ, ⊤, ◌++◌, ◌+◌, ◌-◌, ◌∷◌}
use Rattle.hx_law_lemmas.proofs.Lemmas.Vocabulary.{◌≡◌}
use Rattle.hx_law_posts.proofs.Lemmas.{kept-run}
use Rattle.hx_law_lemmas.proofs.Lemmas.{in-below, in-flat_map, in-map, in-provided, between-places, place-region}
use Rattle.hx_law_chains.proofs.Lemmas.{lost-place}

-- a key's region
pub key-real : (space : Space) → IsSpace space → (key : List ℕ) → IsRegionOf space (key_region space key)
key-real space valid key = place-region space valid 0 key [] (omega arith)

-- the region of a place of an update
pub place-real : (space : Space) → IsSpace space → (key : List ℕ) (old new : Option (List Value)) (changes : Bool) (top : ℕ) (touches : List Touch)
    → (p : Place) → IsIn p (places_of space key old new changes top touches) → IsRegionOf space p.region
place-real space valid key old new changes top touches p (inl e) = subst (λ (q : Place). IsRegionOf space q.region) (sym e) (key-real space valid key)
place-real space valid key old new changes top touches p (inr i) =
    let f = in-flat_map (λ s. map (placed_after space s key new touches) (regions_between space s key old new))
    (declared_subspaces space) p (in-provided changes _ p i).1 in
    let d = in-map (λ n. n + 1) (below (length space.subspaces)) f.0 f.1 in
    let l = in-below (length space.subspaces) d.0 d.1 in
    let m = in-map (placed_after space f.0 key new touches) (regions_between space f.0 key old new) p f.2 in
    let b = between-places space f.0 key old new m.0 m.1 in
    subst (λ (q : Place). IsRegionOf space q.region) (sym m.2)
    (subst (IsRegionOf space) (sym b.1) (place-region space valid f.0 key b.0 (let e = d.2 in omega (arith, l, e))))

-- each post of the entries is sound
abbrev Sound : Script → List Entry → Type 0
Sound script [] = ⊤
Sound script (x ∷ older) = ((p : Post) → IsIn p x.outputs → IsSoundPost script.space (length script.sessions) (length older + 1) p) × Sound script older

sound-at : (script : Script) (newer : List Entry) (x : Entry) (older : List Entry) → Sound script (newer ++ x ∷ older)
    → (p : Post) → IsIn p x.outputs → IsSoundPost script.space (length script.sessions) (length older + 1) p
sound-at script [] x older h p i = h.0 p i
sound-at script (y ∷ newer) x older h p i = sound-at script newer x older h.1 p i

module _ (script : Script) (valid : IsScript script) (trace older : List Entry) (run : IsRun script older) (c : Caller) (op : Op) (n : ℕ) (v : Version) where
  -- the call that is answered
  abbrev call : AnsweredCall
  call = record { script = script; trace = trace; older = older; caller = c; op = op; begin = n; version = v }

  place-named : (config : Config) (key : List ℕ) (w : Op) (us : List Update) (g : RegionId)
      → refused_place script.space config key w us ≡ Some g → IsRegionOf script.space g
  place-named config key w us g e =
      let f = effect_of script.space (line_object us) w in
      let p = lost-place config (places_of script.space key (line_object us) f.object f.changes (top_above 0 us) (touches_after [] us)) g e in
      subst (IsRegionOf script.space) p.2 (place-real script.space valid.space key (line_object us) f.object f.changes
      (top_above 0 us) (touches_after [] us) p.0 p.1)

  write-named : (config : Config) (g : RegionId) (key : List ℕ) → IsRefusedWrite call config g key → IsRegionOf script.space g
  write-named config g key (inl h) = subst (IsRegionOf script.space) h.1 (key-real script.space valid.space key)
  write-named config g key (inr h) = place-named config key op (upto (v.0 - 1) (line_of key older)) g h.1

  -- the region for which a call is refused
  pub refused-real : (config : Config) (g : RegionId) (w : Op) → IsRefusedFor call config g w → IsRegionOf script.space g
  refused-real config g (Put key sets) h = write-named config g key h
  refused-real config g (Get key) h = subst (IsRegionOf script.space) h (key-real script.space valid.space key)
  refused-real config g (Del key) h = write-named config g key h
  refused-real config g (Cput key tests sets) h = write-named config g key h
  refused-real config g (Atomic key edits) h = write-named config g key h
  refused-real config g (Search terms) h = within script.space 0 g (omega arith) (lowest script.space config terms g h).asked.belongs
  refused-real config g other h = absurd h

  -- the region for which a call is in doubt
  pub doubted-real : (g : RegionId) (epoch : Epoch) → IsDoubted call g epoch → IsRegionOf script.space g
  doubted-real g epoch h = elim h.doubted [
    | inl k ↦ subst (IsRegionOf script.space) k.0 (key-real script.space valid.space h.key)
    | inr t ↦ (sound-at script t.newer t.entry t.before (subst (Sound script) t.stands (kept-run script valid older run).posts) _ t.told).message.1.0
  ]
