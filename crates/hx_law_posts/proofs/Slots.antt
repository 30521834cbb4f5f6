-- Sound slots: what a slot of a replica holds is of the space, and its versions are small; moves keep it so.
use Rattle.hx_law_lemmas.proofs.Lemmas.Vocabulary.{[], Acknowledge, All-nil, arith, base-moved_all, Bool, Commit, Forget, Hold, inl, inr, IsIn, IsSoundKept}
use Rattle.hx_law_lemmas.proofs.Lemmas.Vocabulary.{Kept, KeyFits, KeyState, List, Move, moved, moved_all, new_state, pending_of, refl, RegionId, Space}
use Rattle.hx_law_lemmas.proofs.Lemmas.Vocabulary.{state_of_kept, subst, sym, Take, top_above, top_of, Update, ℕ, ◌++◌, ◌∷◌, ◌≤◌}
use Rattle.hx_law_lemmas.proofs.Lemmas.{each-append, in_left, in_right, pending-in, AllKnownInLine as AllKnown, HeldInLine as Held}
use Rattle.hx_law_lemmas.proofs.Lemmas.{KnownInLine as Known}
use Rattle.hx_law_lemmas.proofs.Lemmas.{held-moved_all-in_line as held-moved_all}
use Rattle.hx_law_posts.proofs.Bounds.{IsSoundAt, at-up, bounds, kept-up}
use Rattle.hx_law_posts.proofs.Moves.{AllRise, IsAfter, IsOrdered, ordered-moved_all}

-- a slot of a replica of a region after so many entries
pub record IsSoundSlot (space : Space) (sessions n : ℕ) (g : RegionId) (t : KeyState) : Type 0 where
  pub base : IsSoundKept (bounds space sessions n) t.base
  pub ordered : IsOrdered t
  pub floor : t.floor ≤ n
  pub accepted : (u : Update) → IsIn u t.accepted → IsSoundAt space sessions n g u
  pub early : (u : Update) → IsIn u t.early → IsSoundAt space sessions n g u

-- some updates, and what a slot holds
abbrev pub together : List Update → KeyState → List Update
together us t = us ++ (t.accepted ++ t.early)

-- a slot holds what stands together with others
pub held-together : (us : List Update) (t : KeyState) → Held (together us t) t
held-together us t = record {
  accepted = λ u i. in_right us (t.accepted ++ t.early) u (in_left t.accepted t.early u i);
  early = λ u i. in_right us (t.accepted ++ t.early) u (in_right t.accepted t.early u i);
}

-- what held after fewer entries holds after more
pub slot-up : (space : Space) (sessions m n : ℕ) → m ≤ n → (g : RegionId) (t : KeyState) → IsSoundSlot space sessions m g t → IsSoundSlot space sessions n g t
slot-up space sessions m n l g t h = record {
  base = kept-up space sessions m n l t.base h.base;
  ordered = h.ordered;
  floor = (let f = h.floor in omega (arith, f, l));
  accepted = λ u i. at-up space sessions m n l g u (h.accepted u i);
  early = λ u i. at-up space sessions m n l g u (h.early u i);
}

module _ (space : Space) (sessions n : ℕ) (g : RegionId) where
  -- an update that may be held
  abbrev IsAt : Update → Type 0
  IsAt u = IsSoundAt space sessions n g u

  -- updates that may be held, and what a sound slot holds, may be held
  pub together-sound : (us : List Update) → ((u : Update) → IsIn u us → IsAt u) → (t : KeyState)
      → IsSoundSlot space sessions n g t → (u : Update) → IsIn u (together us t) → IsAt u
  together-sound us f t h = each-append IsAt us (t.accepted ++ t.early) f (each-append IsAt t.accepted t.early h.accepted h.early)

  -- what may be held comes after lower versions
  pub after-of : (u : Update) → IsAt u → IsAfter u
  after-of u h = h.sound.of_space.after

  -- what is pending may be held
  pub pending-sound : (t : KeyState) → IsSoundSlot space sessions n g t → (u : Update) → IsIn u (pending_of t) → IsAt u
  pending-sound t h u i = h.accepted u (pending-in t.floor t.accepted u i).0

  -- the floor after moves of updates that may be held
  floor-moved : (us : List Update) → ((u : Update) → IsIn u us → IsAt u) → (ms : List Move) (t : KeyState)
      → AllKnown us ms → t.floor ≤ n → (moved_all ms t).floor ≤ n
  floor-moved us f [] t k l = l
  floor-moved us f (m ∷ ms) t k l =
      floor-moved us f ms (moved m t) (λ x i. k x (inr i)) (by m (k m (inl refl)))
    where
      by : (m : Move) → Known us m → (moved m t).floor ≤ n
      by (Take u) i = l
      by (Hold u) i = l
      by (Acknowledge v) i = l
      by (Commit u) i = (f u i).version
      by Forget i = l

  -- moves of updates that may be held, in order, leave a slot sound
  pub slot-moved : (us : List Update) → ((u : Update) → IsIn u us → IsAt u) → (t : KeyState)
      → IsSoundSlot space sessions n g t → (ms : List Move) → AllKnown (together us t) ms → AllRise t ms
      → IsSoundSlot space sessions n g (moved_all ms t)
  slot-moved us f t h ms known rise =
      let held = held-moved_all (together us t) ms t (held-together us t) known in
      let all = together-sound us f t h in
      record {
        base = subst (IsSoundKept (bounds space sessions n)) (sym (base-moved_all ms t)) h.base;
        ordered = ordered-moved_all ms t h.ordered rise;
        floor = floor-moved (together us t) all ms t known h.floor;
        accepted = λ u i. all u (held.accepted u i);
        early = λ u i. all u (held.early u i);
      }

  -- the top of a sound slot
  pub top-small : (t : KeyState) → IsSoundSlot space sessions n g t → top_of t ≤ n
  top-small t h =
      by t.accepted h.accepted
    where
      by : (us : List Update) → ((u : Update) → IsIn u us → IsAt u) → top_above t.base.floor.0 us ≤ n
      by [] f = let a = h.ordered.floor in let b = h.floor in omega (arith, a, b)
      by (u ∷ us) f = (f u (inl refl)).version

  -- a slot with a base alone
  pub base-sound : (marks : Bool) (k : Kept) → IsSoundKept (bounds space sessions n) k → k.floor.0 ≤ n → IsSoundSlot space sessions n g (state_of_kept marks k)
  base-sound marks k h l = record {
    base = h;
    ordered = record { descends = tt; floor = omega arith };
    floor = l;
    accepted = λ u i. absurd i;
    early = λ u i. absurd i;
  }

  -- a new slot
  pub new-sound : (marks : Bool) (key : List ℕ) → KeyFits key → IsSoundSlot space sessions n g (new_state marks key)
  new-sound marks key fits =
      base-sound marks _
      (record {
        of_space = record { key = fits; row = tt; marks = All-nil _; touches = All-nil _; sessions_ascend = tt; regions_ascend = tt };
        floor = omega arith;
        sessions = All-nil _;
      })
      (omega arith)
