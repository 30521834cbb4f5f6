-- What is posted of the moves of an offer, of the versions whose chain ends here, and of the commits that they bring.
use Rattle.std.proofs.Common.{◌≡◌, ℕ, ◌+◌, ◌<◌, zero, suc, Bool, true, false, not, cond, ◌||◌, ◌==◌, List, [], ◌∷◌}
use Rattle.std.proofs.Common.{◌++◌, map, length, take, Option, None, Some, refl, ap, sym, ◌∙◌, subst, arith}
use Rattle.std.proofs.Common.{append_assoc, add-one, one-add, nat_le}
use Rattle.std.specs.Prelude.{⊤, slice_get}
use Rattle.std.specs.Borrow.{Bor}
use Rattle.std.specs.List.{All, filter, find, flat_map, list_any, prefix_len}
use Rattle.std.specs.Option.{option_map}
use Rattle.std.proofs.lemmas.Bool.{cond-false, eqb-true, eq-eqb}
use Rattle.std.proofs.lemmas.Bool.Decides.{nat_tests}
use Rattle.std.proofs.lemmas.Grind.{flat_map-append}
use Rattle.std.proofs.lemmas.List.{append-nil}
use Rattle.std.proofs.lemmas.List.Elements.{All-nil, All-cons, All-head, All-tail}
use Rattle.std.proofs.lemmas.List.Folds.{list_any-append}
use Rattle.hx_model.specs.Types.{Place, Post, RegionId, Update, Version}
use Rattle.hx_types.specs.Words.{provided, same_region, when_some}
use Rattle.hx_model.specs.Neighbours.{is_end, place_number}
use Rattle.hx_model.specs.ServerSteps.{SlotContext as ModelContext, tail_acks, move_posts, next_at, passed_on}
use Rattle.hx_model.specs.Slots.{Acknowledge, Commit, Hold, KeyState, Move, Take, commits, follows, moved, moved_all}
use Rattle.hx_model.specs.Slots.{offered, pending_above, pending_of, place_in, settled, taken, top_of, turns}
use Rattle.hx_model.proofs.Lemmas.{moved_all-++}
use Rattle.hx_store.specs.Stores.{ArePending, acknowledging}
use Rattle.hx_replica.specs.Outputs.{AreEnds, IsNew, accepting_posts, tail_version, seen, settled_among, settles, told_of}

-- the place in a region is that of its number
pub place_there : (g : RegionId) (places : List Place) → slice_get places (place_number g places) ≡ place_in g places
place_there g [] = refl
place_there g (p ∷ rest) = by (same_region p.region g) (place_there g rest)
  where
    by : (t : Bool) → slice_get rest (place_number g rest) ≡ place_in g rest
        → slice_get (p ∷ rest) (cond t 0 (place_number g rest + 1)) ≡ cond t (Some p) (place_in g rest)
    by true more = refl
    by false more = ap (slice_get (p ∷ rest)) (add-one (place_number g rest)) ∙ more

-- an update follows a version where its place comes after it
pub follows_there : (g : RegionId) (v : ℕ) (u : Update) (o : Option Place) → o ≡ place_in g u.places
    → when_some (option_map (λ (p : Place). p.after.0) o) false (λ after. after == v) ≡ follows g v u
follows_there g v u o e = ap (λ (q : Option Place). when_some (option_map (λ (p : Place). p.after.0) q) false (λ after. after == v)) e

-- updates above a version
abbrev pub AreAbove : ℕ → List Update → Type 0
AreAbove floor [] = ⊤
AreAbove floor (u ∷ us) = (floor < u.version.0) × AreAbove floor us

pub above_seen : (g : RegionId) (floor : ℕ) (bs : List (Bor Update)) → All (IsNew g floor) bs → AreAbove floor (seen bs)
above_seen g floor [] h = tt
above_seen g floor (b ∷ bs) h = ((All-head (IsNew g floor) b bs h).above, above_seen g floor bs (All-tail (IsNew g floor) b bs h))

-- one more update is pending
pub take_pending : (u : Update) (s : KeyState) → s.floor < u.version.0 → pending_of (moved (Take u) s) ≡ pending_of s ++ u ∷ []
take_pending u s l = cond-false _ [] (pending_above s.floor s.accepted ++ u ∷ []) (omega_false u.version.0 s.floor l)
  where
    omega_false : (v floor : ℕ) → floor < v → nat_le v floor ≡ false
    omega_false v floor l = grind (arith, nat_tests)

turns_pending : (g : RegionId) (n top : ℕ) (early : List Update) (s : KeyState)
    → AreAbove s.floor (taken (turns g n top early))
    → pending_of (moved_all (turns g n top early) s) ≡ pending_of s ++ taken (turns g n top early)
turns_pending g zero top early s above = sym (append-nil (pending_of s))
turns_pending g (suc n) top early s above = by (find (follows g top) early) (λ u. turns_pending g n u.version.0 early (moved (Take u) s)) above
  where
    next : Option Update → List Move
    next o = when_some o [] (λ (u : Update). Take u ∷ turns g n u.version.0 early)

    by : (o : Option Update) → ((u : Update) → AreAbove s.floor (taken (turns g n u.version.0 early))
        → pending_of (moved_all (turns g n u.version.0 early) (moved (Take u) s)) ≡ pending_of (moved (Take u) s)
        ++ taken (turns g n u.version.0 early))
        → AreAbove s.floor (taken (next o)) → pending_of (moved_all (next o) s) ≡ pending_of s ++ taken (next o)
    by None more above = sym (append-nil (pending_of s))
    by (Some u) more above =
        more u above.1
        ∙ ap (λ (us : List Update). us ++ taken (turns g n u.version.0 early)) (take_pending u s above.0)
        ∙ append_assoc (pending_of s) (u ∷ []) (taken (turns g n u.version.0 early))

turns_acked : (g : RegionId) (n top : ℕ) (early : List Update) (s : KeyState) → (moved_all (turns g n top early) s).acked ≡ s.acked
turns_acked g zero top early s = refl
turns_acked g (suc n) top early s = by (find (follows g top) early) (λ u. turns_acked g n u.version.0 early (moved (Take u) s))
  where
    by : (o : Option Update) → ((u : Update) → (moved_all (turns g n u.version.0 early) (moved (Take u) s)).acked
        ≡ s.acked) → (moved_all (when_some o [] (λ (u : Update). Take u ∷ turns g n u.version.0 early)) s).acked ≡ s.acked
    by None more = refl
    by (Some u) more = more u

turns_posts : (context : ModelContext) (g : RegionId) (n top : ℕ) (early : List Update)
    → flat_map (move_posts context) (turns g n top early) ≡ flat_map (passed_on context) (taken (turns g n top early))
turns_posts context g zero top early = refl
turns_posts context g (suc n) top early = by (find (follows g top) early) (λ u. turns_posts context g n u.version.0 early)
  where
    next : Option Update → List Move
    next o = when_some o [] (λ (u : Update). Take u ∷ turns g n u.version.0 early)

    by : (o : Option Update) → ((u : Update) → flat_map (move_posts context) (turns g n u.version.0 early)
        ≡ flat_map (passed_on context) (taken (turns g n u.version.0 early)))
        → flat_map (move_posts context) (next o) ≡ flat_map (passed_on context) (taken (next o))
    by None more = refl
    by (Some u) more = ap (λ (ps : List Post). passed_on context u ++ ps) (more u)

-- what an offer above the top does: it is taken with those whose turn then comes, or held
pub record IsOffer (context : ModelContext) (s : KeyState) (moves : List Move) : Type 0 where
  pub pending : AreAbove s.floor (taken moves) → pending_of (moved_all moves s) ≡ pending_of s ++ taken moves
  pub acked : (moved_all moves s).acked ≡ s.acked
  pub posts : flat_map (move_posts context) moves ≡ flat_map (passed_on context) (taken moves)

abbrev pub offer_by : RegionId → KeyState → Update → Bool → List Move
offer_by g s u t = cond t (Take u ∷ turns g (length s.early) u.version.0 s.early) (Hold u ∷ [])

offer_is : (context : ModelContext) (g : RegionId) (s : KeyState) (u : Update) (t : Bool) → IsOffer context s (offer_by g s u t)
offer_is context g s u true = record {
  pending = λ above. turns_pending g (length s.early) u.version.0 s.early (moved (Take u) s) above.1
      ∙ ap (λ (us : List Update). us ++ taken (turns g (length s.early) u.version.0 s.early)) (take_pending u s above.0)
      ∙ append_assoc (pending_of s) (u ∷ []) (taken (turns g (length s.early) u.version.0 s.early));
  acked = turns_acked g (length s.early) u.version.0 s.early (moved (Take u) s);
  posts = ap (λ (ps : List Post). passed_on context u ++ ps) (turns_posts context g (length s.early) u.version.0 s.early);
}
offer_is context g s u false = record { pending = λ above. sym (append-nil (pending_of s)); acked = refl; posts = refl }

pub offered_is : (context : ModelContext) (g : RegionId) (s : KeyState) (u : Update) → top_of s < u.version.0
    → offered g s u ≡ offer_by g s u (follows g (top_of s) u)
offered_is context g s u above = cond-false _ [] _ (not_known u.version.0 (top_of s) above)
  where
    not_known : (v top : ℕ) → top < v → nat_le v top ≡ false
    not_known v top l = grind (arith, nat_tests)

-- acknowledgements leave what is pending
pub marks_pending : (tail_versions : List Version) (s : KeyState) → pending_of (moved_all (acknowledging tail_versions) s) ≡ pending_of s
marks_pending [] s = refl
marks_pending (e ∷ tail_versions) s = marks_pending tail_versions (moved (Acknowledge e.0) s)

others_stay : (v w : ℕ) (acked : List ℕ) → w == v ≡ false → list_any (λ x. x == v) (filter (λ x. not (x == w)) acked) ≡ list_any (λ x. x == v) acked
others_stay v w [] apart = refl
others_stay v w (x ∷ acked) apart = by (x == w) refl (others_stay v w acked apart)
  where
    by : (t : Bool) → x == w ≡ t → list_any (λ y. y == v) (filter (λ y. not (y == w)) acked) ≡ list_any (λ y. y == v) acked
        → list_any (λ y. y == v) (cond (not t) (x ∷ filter (λ y. not (y == w)) acked)
        (filter (λ y. not (y == w)) acked)) ≡ ((x == v) || list_any (λ y. y == v) acked)
    by false t more = ap (λ b. (x == v) || b) more
    by true t more =
        more ∙ sym (ap (λ b. b || list_any (λ y. y == v) acked) (subst (λ y. y == v ≡ false) (sym (eqb-true x w t)) apart))

mark_any : (v w : ℕ) (acked : List ℕ) → list_any (λ x. x == v) (w ∷ filter (λ x. not (x == w)) acked) ≡ ((w == v) || list_any (λ x. x == v) acked)
mark_any v w acked = by (w == v) refl
  where
    by : (t : Bool) → w == v ≡ t → (t || list_any (λ x. x == v) (filter (λ x. not (x == w)) acked)) ≡ (t || list_any (λ x. x == v) acked)
    by true t = refl
    by false t = others_stay v w acked t

or_turned : (a b c : Bool) → (a || (b || c)) ≡ ((b || a) || c)
or_turned true true c = refl
or_turned true false c = refl
or_turned false true c = refl
or_turned false false c = refl

-- what is acknowledged afterwards
pub marks_acked : (tail_versions : List Version) (s : KeyState) (v : Version)
    → list_any (λ w. w == v.0) (moved_all (acknowledging tail_versions) s).acked ≡ settles s.acked tail_versions v
marks_acked [] s v = refl
marks_acked (e ∷ tail_versions) s v =
    marks_acked tail_versions (moved (Acknowledge e.0) s) v
    ∙ ap (λ b. list_any (λ (x : Version). x.0 == v.0) tail_versions || b) (mark_any v.0 e.0 s.acked)
    ∙ or_turned (list_any (λ (x : Version). x.0 == v.0) tail_versions) (e.0 == v.0) (list_any (λ w. w == v.0) s.acked)

-- what is told of the first updates that are acknowledged is what is posted of committing them
pub told_commits : (context : ModelContext) (acked after : List ℕ) (tail_versions : List Version)
    → ((v : Version) → list_any (λ w. w == v.0) after ≡ settles acked tail_versions v) → (bs : List (Bor Update))
    → flat_map (λ (b : Bor Update). told_of context b.now) (settled_among acked tail_versions bs) ≡ flat_map (move_posts context) (commits after (seen bs))
told_commits context acked after tail_versions same [] = refl
told_commits context acked after tail_versions same (b ∷ bs) =
    by (settles acked tail_versions b.now.version) (told_commits context acked after tail_versions same bs)
    ∙ sym (ap (λ t. flat_map (move_posts context) (provided t (Commit b.now ∷ commits after (seen bs)))) (same b.now.version))
  where
    p : Bor Update → Bool
    p x = settles acked tail_versions x.now.version

    by : (t : Bool) → flat_map (λ (x : Bor Update). told_of context x.now) (take (prefix_len p bs) bs) ≡ flat_map (move_posts context) (commits after (seen bs))
        → flat_map (λ (x : Bor Update). told_of context x.now) (take (cond t (1 + prefix_len p bs) 0) (b ∷ bs))
        ≡ flat_map (move_posts context) (provided t (Commit b.now ∷ commits after (seen bs)))
    by true more =
        ap (λ n. flat_map (λ (x : Bor Update). told_of context x.now) (take n (b ∷ bs))) (one-add (prefix_len p bs))
        ∙ ap (λ (ps : List Post). told_of context b.now ++ ps) more
    by false more = refl

-- the versions whose chain ends here
pub acknowledging_append : (xs ys : List Version) → acknowledging (xs ++ ys) ≡ acknowledging xs ++ acknowledging ys
acknowledging_append [] ys = refl
acknowledging_append (x ∷ xs) ys = ap (λ ms. Acknowledge x.0 ∷ ms) (acknowledging_append xs ys)

pub ends_marked : (context : ModelContext) (bs : List (Bor Update))
    → acknowledging (flat_map (λ (b : Bor Update). tail_version context b.now) bs) ≡ tail_acks context (seen bs)
ends_marked context [] = refl
ends_marked context (b ∷ bs) =
    acknowledging_append (tail_version context b.now) (flat_map (λ (x : Bor Update). tail_version context x.now) bs)
    ∙ by (is_end (next_at context b.now)) (ends_marked context bs)
  where
    by : (t : Bool) → acknowledging (flat_map (λ (x : Bor Update). tail_version context x.now) bs) ≡ tail_acks context (seen bs)
        → acknowledging (provided t (b.now.version ∷ [])) ++ acknowledging (flat_map (λ (x : Bor Update). tail_version context x.now) bs)
        ≡ map (λ (u : Update). Acknowledge u.version.0)
        (cond t (b.now ∷ filter (λ (u : Update). is_end (next_at context u)) (seen bs))
        (filter (λ (u : Update). is_end (next_at context u)) (seen bs)))
    by true more = ap (λ ms. Acknowledge b.now.version.0 ∷ ms) more
    by false more = more

-- each of them is pending
abbrev pub Stands : List Update → Version → Type 0
Stands us v = list_any (λ (u : Update). u.version.0 == v.0) us ≡ true

pub all_append : {A : Type 0} (P : A → Type 0) (xs ys : List A) → All P xs → All P ys → All P (xs ++ ys)
all_append P [] ys h k = k
all_append P (x ∷ xs) ys h k = All-cons P x (xs ++ ys) (All-head P x xs h) (all_append P xs ys (All-tail P x xs h) k)

pub ends_stand : (context : ModelContext) (us : List Update) (bs : List (Bor Update))
    → All (λ (b : Bor Update). Stands us b.now.version) bs
    → All (Stands us) (flat_map (λ (b : Bor Update). tail_version context b.now) bs)
ends_stand context us [] h = All-nil (Stands us)
ends_stand context us (b ∷ bs) h =
    all_append (Stands us) (tail_version context b.now) (flat_map (λ (x : Bor Update). tail_version context x.now) bs)
    (by (is_end (next_at context b.now)) (All-head (λ (x : Bor Update). Stands us x.now.version) b bs h))
    (ends_stand context us bs (All-tail (λ (x : Bor Update). Stands us x.now.version) b bs h))
  where
    by : (t : Bool) → Stands us b.now.version → All (Stands us) (provided t (b.now.version ∷ []))
    by true s = All-cons (Stands us) b.now.version [] s (All-nil (Stands us))
    by false s = All-nil (Stands us)

or_true : (a b : Bool) → b ≡ true → (a || b) ≡ true
or_true true b e = refl
or_true false b e = e

pub self_among : (before : List Update) (u : Update) (us : List Update) → Stands (before ++ u ∷ us) u.version
self_among before u us =
    list_any-append (λ (x : Update). x.version.0 == u.version.0) before (u ∷ us)
    ∙ or_true (list_any (λ (x : Update). x.version.0 == u.version.0) before) _
    (ap (λ t. t || list_any (λ (x : Update). x.version.0 == u.version.0) us) (eq-eqb u.version.0 u.version.0 refl))

self_stands : (before : List Update) (b : Bor Update) (bs : List (Bor Update)) → Stands (before ++ b.now ∷ seen bs) b.now.version
self_stands before b bs =
    list_any-append (λ (u : Update). u.version.0 == b.now.version.0) before (b.now ∷ seen bs)
    ∙ or_true (list_any (λ (u : Update). u.version.0 == b.now.version.0) before) _
    (ap (λ t. t || list_any (λ (u : Update). u.version.0 == b.now.version.0) (seen bs)) (eq-eqb b.now.version.0 b.now.version.0 refl))

pub seen_stand : (before : List Update) (bs : List (Bor Update)) → All (λ (b : Bor Update). Stands (before ++ seen bs) b.now.version) bs
seen_stand before [] = All-nil (λ (b : Bor Update). Stands (before ++ []) b.now.version)
seen_stand before (b ∷ bs) =
    All-cons (λ (x : Bor Update). Stands (before ++ b.now ∷ seen bs) x.now.version) b bs (self_stands before b bs)
    (subst (λ (us : List Update). All (λ (x : Bor Update). Stands us x.now.version) bs)
    (append_assoc before (b.now ∷ []) (seen bs)) (seen_stand (before ++ b.now ∷ []) bs))

-- an acknowledgement posts nothing
pub no_end_posts : (context : ModelContext) (us : List Update) → flat_map (move_posts context) (tail_acks context us) ≡ []
no_end_posts context [] = refl
no_end_posts context (x ∷ xs) = by (is_end (next_at context x)) (no_end_posts context xs)
  where
    by : (t : Bool) → flat_map (move_posts context) (tail_acks context xs) ≡ []
        → flat_map (move_posts context) (map (λ (v : Update). Acknowledge v.version.0)
        (cond t (x ∷ filter (λ (v : Update). is_end (next_at context v)) xs)
        (filter (λ (v : Update). is_end (next_at context v)) xs))) ≡ []
    by true more = more
    by false more = more

-- what is posted of accepting an update, and the versions whose chain ends here
pub record IsAccepted (context : ModelContext) (s : KeyState) (u : Update) (posts : List Post) (tail_versions : List Version) : Type 0 where
  pub posts_are : posts ≡ accepting_posts context s u
  pub ends : AreEnds context s u tail_versions

-- all together
pub acceptance : (context : ModelContext) (s : KeyState) (u : Update) (bs line : List (Bor Update)) (tail_versions : List Version) (posts : List Post)
    → top_of s < u.version.0 → seen bs ≡ taken (offered context.region s u) → All (IsNew context.region s.floor) bs
    → tail_versions ≡ flat_map (λ (b : Bor Update). tail_version context b.now) bs
    → seen line ≡ pending_of s ++ seen bs
    → posts ≡ flat_map (λ (b : Bor Update). passed_on context b.now) bs
    ++ flat_map (λ (b : Bor Update). told_of context b.now) (settled_among s.acked tail_versions line)
    → IsAccepted context s u posts tail_versions
acceptance context s u bs line tail_versions posts top took new ended lined posted =
    let moves = offered context.region s u in
    let same : moves ≡ offer_by context.region s u (follows context.region (top_of s) u) = offered_is context context.region s u top in
    let offer : IsOffer context s moves = subst (IsOffer context s) (sym same) (offer_is context context.region s u (follows context.region (top_of s) u)) in
    let above : AreAbove s.floor (taken moves) = subst (AreAbove s.floor) took (above_seen context.region s.floor bs new) in
    let after = moved_all moves s in
    let marked : acknowledging tail_versions ≡ tail_acks context (taken moves) =
    ap acknowledging ended ∙ ends_marked context bs ∙ ap (tail_acks context) took in
    let pending : pending_of after ≡ pending_of s ++ seen bs = offer.pending above ∙ ap (λ (us : List Update). pending_of s ++ us) (sym took) in
    let all = moved_all (acknowledging tail_versions) after in
    let now : moved_all (moves ++ tail_acks context (taken moves)) s ≡ all =
    ap (λ ms. moved_all (moves ++ ms) s) (sym marked) ∙ moved_all-++ moves (acknowledging tail_versions) s in
    let settle : settled all ≡ commits all.acked (seen line) = ap (commits all.acked) (marks_pending tail_versions after ∙ pending ∙ sym lined) in
    let told = told_commits context s.acked all.acked tail_versions
    (λ v. marks_acked tail_versions after v ∙ ap (λ (acked : List ℕ). settles acked tail_versions v) offer.acked) line in
    record {
      posts_are =
          posted
          ∙ ap (λ (ps : List Post). ps ++ flat_map (λ (b : Bor Update). told_of context b.now)
          (settled_among s.acked tail_versions line))
          (passed_seen bs ∙ ap (flat_map (passed_on context)) took ∙ sym offer.posts)
          ∙ ap (λ (ps : List Post). flat_map (move_posts context) moves ++ ps) (told ∙ ap (flat_map (move_posts context)) (sym settle ∙ ap settled (sym now)))
          ∙ sym (whole (settled (moved_all (moves ++ tail_acks context (taken moves)) s)));
      ends = record {
        ends_are = marked;
        pending = subst (λ (vs : List Version). ArePending after vs) (sym ended)
            (subst (λ (us : List Update). All (Stands us) (flat_map (λ (b : Bor Update). tail_version context b.now) bs)) (sym pending)
            (ends_stand context (pending_of s ++ seen bs) bs (seen_stand (pending_of s) bs)));
      };
    }
  where
    passed_seen : (xs : List (Bor Update)) → flat_map (λ (b : Bor Update). passed_on context b.now) xs ≡ flat_map (passed_on context) (seen xs)
    passed_seen [] = refl
    passed_seen (x ∷ xs) = ap (λ (ps : List Post). passed_on context x.now ++ ps) (passed_seen xs)

    whole : (rest : List Move) → flat_map (move_posts context)
        (offered context.region s u ++ tail_acks context (taken (offered context.region s u)) ++ rest)
        ≡ flat_map (move_posts context) (offered context.region s u) ++ flat_map (move_posts context) rest
    whole rest =
        flat_map-append (move_posts context) (offered context.region s u ++ tail_acks context (taken (offered context.region s u))) rest
        ∙ ap (λ (ps : List Post). ps ++ flat_map (move_posts context) rest)
        (flat_map-append (move_posts context) (offered context.region s u)
        (tail_acks context (taken (offered context.region s u)))
        ∙ ap (λ (ps : List Post). flat_map (move_posts context) (offered context.region s u) ++ ps)
        (no_end_posts context (taken (offered context.region s u))) ∙ append-nil _)

-- a slot that holds no other update, and one whose turn has come
pub taken_alone : (context : ModelContext) (s : KeyState) (b : Bor Update) (tail_versions : List Version) → top_of s < b.now.version.0 → pending_of s ≡ []
    → s.early ≡ [] → IsNew context.region s.floor b
    → follows context.region (top_of s) b.now ≡ true → tail_versions ≡ tail_version context b.now
    → IsAccepted context s b.now (passed_on context b.now ++ provided (settles s.acked tail_versions b.now.version) (told_of context b.now)) tail_versions
taken_alone context s b tail_versions top pending early new in_turn ended =
    let offer : offered context.region s b.now ≡ Take b.now ∷ [] =
    offered_is context context.region s b.now top ∙ ap (offer_by context.region s b.now) in_turn
    ∙ ap (λ (us : List Update). Take b.now ∷ turns context.region (length us) b.now.version.0 us) early in
    acceptance context s b.now (b ∷ []) (b ∷ []) tail_versions _ top (sym (ap taken offer))
    (All-cons (IsNew context.region s.floor) b [] new (All-nil (IsNew context.region s.floor)))
    (ended ∙ sym (append-nil (tail_version context b.now)))
    (sym (ap (λ (us : List Update). us ++ b.now ∷ []) pending))
    (posted (settles s.acked tail_versions b.now.version))
  where
    posted : (t : Bool)
        → passed_on context b.now ++ provided t (told_of context b.now) ≡ (passed_on context b.now ++ []) ++ flat_map
        (λ (x : Bor Update). told_of context x.now) (take (cond t (1 + 0) 0) (b ∷ []))
    posted true =
        ap (λ (ps : List Post). passed_on context b.now ++ ps) (sym (append-nil (told_of context b.now)))
        ∙ ap (λ (ps : List Post). ps ++ (told_of context b.now ++ [])) (sym (append-nil (passed_on context b.now)))
    posted false = sym (append-nil (passed_on context b.now ++ []))
