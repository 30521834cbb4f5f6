-- Rows of a server's table, as what is made of a slot.
use Rattle.std.proofs.Common.{◌≡◌, ℕ, ◌+◌, ◌≤◌, true, false, not, ◌&&◌, ◌||◌, cond, nat_lt, ◌==◌, Bool, List, [], ◌∷◌}
use Rattle.std.proofs.Common.{◌++◌, append-nil, drop, length, take, None, Some, refl, ap, sym, ◌∙◌, arith}
use Rattle.std.specs.List.{filter, find, flat_map, list_any, slice_get}
use Rattle.std.proofs.lemmas.Bool.{cond-false, cond-true, eq-eqb, eqb-true, false≢true, le-ltb}
use Rattle.std.proofs.lemmas.Option.{same_Some}
use Rattle.hx_model.specs.Types.{Post, Update}
use Rattle.hx_types.specs.declared.outcomes.Acked.TheVariants as an_ack
use Rattle.hx_types.specs.Words.{provided}
use Rattle.hx_model.specs.ServerSteps.{SlotContext as ModelContext, ack_step, move_posts}
use Rattle.hx_model.specs.Slots.{Acknowledge, Commit, KeyState, ack_answer, commits, is_pending, moved, pending_of, settled, waits_below}
use Rattle.hx_slot.specs.States.{committed_count}
use Rattle.hx_replica.specs.Outputs.{told_of}
use Rattle.hx_replica.proofs.Walking.{drop_at}

-- commits take the lowest pending updates, as many as they are
pub told_first : (context : ModelContext) (acked : List ℕ) (us : List Update)
    → flat_map (told_of context) (take (length (commits acked us)) us) ≡ flat_map (move_posts context) (commits acked us)
told_first context acked [] = refl
told_first context acked (u ∷ rest) = by (list_any (λ v. v == u.version.0) acked) (told_first context acked rest)
  where
    by : (b : Bool) → flat_map (told_of context) (take (length (commits acked rest)) rest) ≡ flat_map (move_posts context) (commits acked rest)
        → flat_map (told_of context) (take (length (provided b (Commit u ∷ commits acked rest))) (u ∷ rest))
        ≡ flat_map (move_posts context) (provided b (Commit u ∷ commits acked rest))
    by true e = ap (λ (ps : List Post). told_of context u ++ ps) e
    by false e = refl

commits_within : (acked : List ℕ) (us : List Update) → length (commits acked us) ≤ length us
commits_within acked [] = omega arith
commits_within acked (u ∷ rest) = by (list_any (λ v. v == u.version.0) acked) (commits_within acked rest)
  where
    by : (b : Bool) → length (commits acked rest) ≤ length rest → length (provided b (Commit u ∷ commits acked rest)) ≤ length (u ∷ rest)
    by true l = omega (arith, l)
    by false l = omega arith

-- what is told of where a version is acknowledged
pub ack_told : (context : ModelContext) (s : KeyState) (v : ℕ)
    → flat_map (told_of context) (take (committed_count (ack_answer s v)) (pending_of s)) ≡ (ack_step context s v).posts
ack_told context s v = by (is_pending v s) (waits_below s.acked v (pending_of s))
  where
    by : (p w : Bool) → flat_map (told_of context)
        (take (committed_count (cond (not p) an_ack.Unknown
        (cond w an_ack.Kept (an_ack.Committed (length (settled (moved (Acknowledge v) s))))))) (pending_of s))
        ≡ flat_map (move_posts context) (provided p (Acknowledge v ∷ provided (not w) (settled (moved (Acknowledge v) s))))
    by true true = refl
    by true false = told_first context (moved (Acknowledge v) s).acked (pending_of s)
    by false w = refl

pub ack_within : (s : KeyState) (v : ℕ) → committed_count (ack_answer s v) ≤ length (pending_of s)
ack_within s v = by (is_pending v s) (waits_below s.acked v (pending_of s))
  where
    by : (p w : Bool) → committed_count (cond (not p) an_ack.Unknown
        (cond w an_ack.Kept (an_ack.Committed (length (settled (moved (Acknowledge v) s)))))) ≤ length (pending_of s)
    by true true = omega arith
    by true false = commits_within (moved (Acknowledge v) s).acked (pending_of s)
    by false w = omega arith

-- ---- the pending update of a version, searched from the lowest on

abbrev pub has_number : ℕ → Update → Bool
has_number v u = u.version.0 == v

-- it is this one
pub found_at : (v : ℕ) (us : List Update) (i : ℕ) (u : Update) → slice_get us i ≡ Some u → has_number v u ≡ true
    → find (has_number v) (drop i us) ≡ find (has_number v) us → Some u ≡ find (has_number v) us
found_at v us i u at is before = sym (cond-true (has_number v u) (Some u) (find (has_number v) (drop (i + 1) us)) is)
    ∙ sym (ap (find (has_number v)) (drop_at us i u at)) ∙ before

-- it isn't this one
pub found_later : (v : ℕ) (us : List Update) (i : ℕ) (u : Update) → slice_get us i ≡ Some u → has_number v u ≡ false
    → find (has_number v) (drop i us) ≡ find (has_number v) us → find (has_number v) (drop (i + 1) us) ≡ find (has_number v) us
found_later v us i u at out before = sym (cond-false (has_number v u) (Some u)
    (find (has_number v) (drop (i + 1) us)) out) ∙ sym (ap (find (has_number v)) (drop_at us i u at)) ∙ before

-- an update that is found is the one that is looked at, of that number
found_one : (v : ℕ) (u x : Update) (b : Bool) → cond b (Some x) None ≡ Some u → (b ≡ true) × (x ≡ u)
found_one v u x true e = (refl, same_Some x u e)
found_one v u x false e = absurd cc

-- the only pending update is committed where it is acknowledged
pub ack_alone : (context : ModelContext) (s : KeyState) (v : ℕ) (u : Update) → length (pending_of s) ≡ 1 → find (has_number v) (pending_of s) ≡ Some u
    → told_of context u ≡ (ack_step context s v).posts
ack_alone context s v u one found = by (pending_of s) one found
  where
    acks : List ℕ
    acks = (moved (Acknowledge v) s).acked

    told : (x : Update) (p w q : Bool) → p ≡ true → w ≡ false → q ≡ true
        → told_of context x ≡ flat_map (move_posts context) (provided p (Acknowledge v ∷ provided (not w) (provided q (Commit x ∷ []))))
    told x true false true a b c = sym (append-nil (told_of context x))
    told x false w q a b c = absurd (false≢true a)
    told x true true q a b c = absurd (false≢true (sym b))
    told x true false false a b c = absurd (false≢true c)

    by : (us : List Update) → length us ≡ 1 → find (has_number v) us ≡ Some u
        → told_of context u ≡ flat_map (move_posts context)
        (provided (list_any (has_number v) us) (Acknowledge v ∷ provided (not (waits_below s.acked v us)) (commits acks us)))
    by [] n e = absurd cc
    by (x ∷ []) n e =
        let is = found_one v u x (has_number v x) e in
        let same : x.version.0 ≡ v = eqb-true x.version.0 v is.0 in
        ap (told_of context) (sym is.1)
        ∙ told x (has_number v x || false) (nat_lt x.version.0 v && not (list_any (λ w. w == x.version.0) s.acked)
        || false) (list_any (λ w. w == x.version.0) acks)
        (ap (λ b. b || false) is.0)
        (ap (λ b. b && not (list_any (λ w. w == x.version.0) s.acked) || false) (le-ltb x.version.0 v (omega (arith, same))))
        (ap (λ b. b || list_any (λ w. w == x.version.0) (filter (λ w. not (w == v)) s.acked)) (eq-eqb v x.version.0 (sym same)))
    by (x ∷ y ∷ rest) n e = absurd (omega (arith, n))
