-- What is posted of a slot that goes on in a new configuration.
use Rattle.std.proofs.Common.{◌≡◌, ℕ, suc, Bool, true, false, cond, List, [], ◌∷◌, ◌++◌, drop, length, map, take}
use Rattle.std.proofs.Common.{Option, None, Some, nat_le, nat_lt, refl, ap, sym, ◌∙◌, subst, append_assoc, append-nil}
use Rattle.std.proofs.Common.{arith}
use Rattle.std.specs.List.{All, filter, flat_map}
use Rattle.std.proofs.lemmas.Bool.Decides.{nat_tests}
use Rattle.std.proofs.lemmas.Grind.{flat_map-append}
use Rattle.std.proofs.lemmas.List.Elements.{All-nil, All-cons, All-head, All-tail}
use Rattle.hx_model.specs.Types.{Post, Update, Version}
use Rattle.hx_types.specs.Configs.{leads}
use Rattle.hx_types.specs.Words.{provided}
use Rattle.hx_model.specs.Leading.{StuckAt, stuck_among}
use Rattle.hx_model.specs.Neighbours.{is_end}
use Rattle.hx_model.specs.ServerSteps.{SlotContext as ModelContext, doubt_in, doubts_from, tail_acks, leader_doubts}
use Rattle.hx_model.specs.ServerSteps.{move_posts, next_at, passed_on, resumed, resumed_posts}
use Rattle.hx_model.specs.Slots.{Acknowledge, Forget, KeyState, Move, commits, moved, moved_all, pending_of, settled}
use Rattle.hx_model.proofs.Lemmas.{moved_all-++}
use Rattle.hx_law_folds.specs.Folding.{Descends, IsSlotOf}
use Rattle.hx_store.specs.Stores.{ArePending, acknowledging}
use Rattle.hx_replica.specs.Adopting.{IsCarriedOn, doubt_of, doubts_among, doubts_on}
use Rattle.hx_replica.specs.Outputs.{tail_version, ended_count, told_of}
use Rattle.hx_replica.proofs.Acked.{told_first}
use Rattle.hx_replica.proofs.Committing.{commits_left, ended_is}
use Rattle.hx_replica.proofs.Offers.{Stands, acknowledging_append, all_append, marks_acked, marks_pending, no_end_posts, self_among}

-- the callers that are told of a lost region
doubts : (context : ModelContext) (us : List Update) (x : StuckAt)
    → map (λ (u : Update). doubt_in context u.caller u.version x.region)
    (filter (λ (u : Update). nat_le x.version.0 u.version.0) us) ≡ flat_map (doubt_of context x.version x.region) us
doubts context [] x = refl
doubts context (u ∷ us) x = by (nat_le x.version.0 u.version.0) (doubts context us x)
  where
    told : Update → Post
    told u = doubt_in context u.caller u.version x.region

    from : Update → Bool
    from u = nat_le x.version.0 u.version.0

    by : (t : Bool) → map told (filter from us) ≡ flat_map (doubt_of context x.version x.region) us
        → map told (cond t (u ∷ filter from us) (filter from us)) ≡ provided t (told u ∷ [])
        ++ flat_map (doubt_of context x.version x.region) us
    by true more = ap (λ ps. told u ∷ ps) more
    by false more = more

doubts_same : (context : ModelContext) (s : KeyState) → leader_doubts context s ≡ doubts_among context (pending_of s)
doubts_same context s = by (stuck_among context.config (pending_of s))
  where
    by : (o : Option StuckAt) → provided (leads context.space context.config context.server context.region)
        (doubts_from context s o) ≡ provided (leads context.space context.config context.server context.region)
        (doubts_on context (pending_of s) o)
    by None = refl
    by (Some x) = ap (provided (leads context.space context.config context.server context.region)) (doubts context (pending_of s) x)

-- the versions of the updates whose chain ends here
pub marks_of_ends : (context : ModelContext) (us : List Update) → acknowledging (flat_map (tail_version context) us) ≡ tail_acks context us
marks_of_ends context [] = refl
marks_of_ends context (u ∷ us) = acknowledging_append (tail_version context u) (flat_map (tail_version context) us)
    ∙ by (is_end (next_at context u)) (marks_of_ends context us)
  where
    by : (t : Bool) → acknowledging (flat_map (tail_version context) us) ≡ tail_acks context us
        → acknowledging (provided t (u.version ∷ [])) ++ acknowledging (flat_map (tail_version context) us)
        ≡ map (λ (v : Update). Acknowledge v.version.0)
        (cond t (u ∷ filter (λ (v : Update). is_end (next_at context v)) us)
        (filter (λ (v : Update). is_end (next_at context v)) us))
    by true more = ap (λ ms. Acknowledge u.version.0 ∷ ms) more
    by false more = more

stand_among : (before us : List Update) → All (λ (u : Update). Stands (before ++ us) u.version) us
stand_among before [] = All-nil (λ (u : Update). Stands (before ++ []) u.version)
stand_among before (u ∷ us) =
    All-cons (λ (x : Update). Stands (before ++ u ∷ us) x.version) u us (self_among before u us)
    (subst (λ (all : List Update). All (λ (x : Update). Stands all x.version) us) (append_assoc before (u ∷ []) us) (stand_among (before ++ u ∷ []) us))

ends_among : (context : ModelContext) (all us : List Update) → All (λ (u : Update). Stands all u.version) us
    → All (Stands all) (flat_map (tail_version context) us)
ends_among context all [] h = All-nil (Stands all)
ends_among context all (u ∷ us) h =
    all_append (Stands all) (tail_version context u) (flat_map (tail_version context) us)
    (by (is_end (next_at context u)) (All-head (λ (x : Update). Stands all x.version) u us h))
    (ends_among context all us (All-tail (λ (x : Update). Stands all x.version) u us h))
  where
    by : (t : Bool) → Stands all u.version → All (Stands all) (provided t (u.version ∷ []))
    by true s = All-cons (Stands all) u.version [] s (All-nil (Stands all))
    by false s = All-nil (Stands all)

pub ends_pending : (context : ModelContext) (s : KeyState) → ArePending s (flat_map (tail_version context) (pending_of s))
ends_pending context s = ends_among context (pending_of s) (pending_of s) (stand_among [] (pending_of s))

-- the pending updates are passed on, end and are told of
pub carried_on : (context : ModelContext) (s : KeyState) (tail_versions : List Version) (old passed posts : List Post)
    → tail_versions ≡ flat_map (tail_version context) (pending_of s)
    → passed ≡ old ++ flat_map (passed_on context) (pending_of s)
    → posts ≡ passed ++ flat_map (told_of context) (take (ended_count tail_versions (pending_of s)) (pending_of s))
    → IsCarriedOn context s old posts tail_versions
carried_on context s tail_versions old passed posts ended went posted =
    let fresh : KeyState = moved Forget s in
    let us = pending_of s in
    let marks = tail_acks context us in
    let marked : acknowledging tail_versions ≡ marks = ap acknowledging ended ∙ marks_of_ends context us in
    let all : KeyState = moved_all (acknowledging tail_versions) fresh in
    let same : ended_count tail_versions us ≡ length (commits all.acked us) = ended_is tail_versions all.acked (λ v. marks_acked tail_versions fresh v) us in
    let settle : settled all ≡ commits all.acked us = ap (commits all.acked) (marks_pending tail_versions fresh) in
    let rest : List Move = settled (moved_all marks fresh) in
    let whole : flat_map (move_posts context) (marks ++ rest) ≡ flat_map (move_posts context) rest =
    flat_map-append (move_posts context) marks rest
    ∙ ap (λ (ps : List Post). ps ++ flat_map (move_posts context) rest) (no_end_posts context us) in
    record {
      posts =
          posted
          ∙ ap (λ (ps : List Post). passed ++ ps)
          (
          ap (λ n. flat_map (told_of context) (take n us)) same ∙ told_first context all.acked us
          ∙ ap (flat_map (move_posts context)) (sym settle ∙ ap (λ (ms : List Move). settled (moved_all ms fresh)) marked) ∙ sym whole
          )
          ∙ ap (λ (ps : List Post). ps ++ flat_map (move_posts context) (marks ++ rest)) went
          ∙ append_assoc old (flat_map (passed_on context) us) (flat_map (move_posts context) (marks ++ rest));
      ends_are = marked;
      pending = subst (ArePending s) (sym ended) (ends_pending context s);
    }

marks_accepted : (tail_versions : List Version) (s : KeyState) → (moved_all (acknowledging tail_versions) s).accepted ≡ s.accepted
marks_accepted [] s = refl
marks_accepted (e ∷ tail_versions) s = marks_accepted tail_versions (moved (Acknowledge e.0) s)

-- what is pending once it went on
left_pending : (context : ModelContext) (s : KeyState) (tail_versions : List Version) → IsSlotOf context.region s
    → acknowledging tail_versions ≡ tail_acks context (pending_of s)
    → pending_of (moved_all (resumed context s) s) ≡ drop (ended_count tail_versions (pending_of s)) (pending_of s)
left_pending context s tail_versions is marked =
    let fresh : KeyState = moved Forget s in
    let us = pending_of s in
    let all : KeyState = moved_all (acknowledging tail_versions) fresh in
    let pending : pending_of all ≡ us = marks_pending tail_versions fresh in
    let same : ended_count tail_versions us ≡ length (commits all.acked us) = ended_is tail_versions all.acked (λ v. marks_acked tail_versions fresh v) us in
    ap pending_of
    (
    ap (λ (ms : List Move). moved_all (ms ++ settled (moved_all ms fresh)) fresh) (sym marked)
    ∙ moved_all-++ (acknowledging tail_versions) (settled all) fresh
    ∙ ap (λ (l : List Update). moved_all (commits all.acked l) all) pending
    )
    ∙ commits_left s.base.floor.0 all.acked us all (subst (Descends s.base.floor.0) (sym (marks_accepted tail_versions fresh)) is.descends) pending
    ∙ ap (λ n. drop n us) (sym same)

-- and all that is posted of it
pub resumed_whole : (context : ModelContext) (s : KeyState) (tail_versions : List Version)
    (old carried posts : List Post) → IsSlotOf context.region s → IsCarriedOn context s old carried tail_versions
    → posts ≡ carried ++ doubts_among context (drop (ended_count tail_versions (pending_of s)) (pending_of s)) → posts ≡ old ++ resumed_posts context s
resumed_whole context s tail_versions old carried posts is went p =
    p ∙ ap (λ (us : List Update). carried ++ doubts_among context us) (sym (left_pending context s tail_versions is went.ends_are))
    ∙ ap (λ (ps : List Post). carried ++ ps) (sym (doubts_same context (moved_all (resumed context s) s)))
    ∙ ap (λ (ps : List Post). ps ++ leader_doubts context (moved_all (resumed context s) s)) went.posts
    ∙ append_assoc old (flat_map (passed_on context) (pending_of s)
    ++ flat_map (move_posts context) (resumed context s)) (leader_doubts context (moved_all (resumed context s) s))

some_pending : (n : ℕ) → nat_lt 0 (suc n) ≡ false → ⊥
some_pending n e = grind (arith, nat_tests, e)

-- where nothing is pending nothing is posted
pub resumed_nothing : (context : ModelContext) (s : KeyState) (old : List Post) → IsSlotOf context.region s
    → nat_lt 0 (length (pending_of s)) ≡ false → old ≡ old ++ resumed_posts context s
resumed_nothing context s old is none =
    let empty : pending_of s ≡ [] = by (pending_of s) none in
    let start = λ (us : List Update). old ++ flat_map (passed_on context) us in
    let went : IsCarriedOn context s old old [] = carried_on context s [] old old old
    (sym (ap (flat_map (tail_version context)) empty)) (sym (ap start empty ∙ append-nil old))
    (sym (ap (λ (us : List Update). old ++ flat_map (told_of context) (take (ended_count [] us) us)) empty
    ∙ append-nil old)) in
    resumed_whole context s [] old old old is went
    (sym (ap (λ (us : List Update). old ++ doubts_among context (drop (ended_count [] us) us)) empty
    ∙ ap (λ (ps : List Post). old ++ ps) (nothing
    (leads context.space context.config context.server context.region)) ∙ append-nil old))
  where
    by : (us : List Update) → nat_lt 0 (length us) ≡ false → us ≡ []
    by [] e = refl
    by (u ∷ us) e = absurd (some_pending (length us) e)

    nothing : (b : Bool) → provided {A = Post} b [] ≡ []
    nothing true = refl
    nothing false = refl
