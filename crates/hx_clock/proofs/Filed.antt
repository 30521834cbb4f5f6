-- The entries of heads: where each lies, and that they stay where the lists grow.
use Rattle.std.proofs.Common.{◌≡◌, ℕ, zero, suc, ◌+◌, ◌≤◌, List, [], ◌∷◌, ◌++◌, length, Some, None, refl, sym, ap, ◌∙◌, subst, arith, length-append}
use Rattle.std.specs.Prelude.{slice_get}
use Rattle.hx_types.specs.declared.messages.Post.{Post}
use Rattle.hx_types.specs.declared.traces.Input.{Input}
use Rattle.hx_types.specs.declared.traces.Input.TheVariants as an_input
use Rattle.hx_types.specs.declared.traces.Note.{Note}
use Rattle.hx_types.specs.Words.{when_some}
use Rattle.hx_clock.specs.declared.heads.InputHead.{InputHead}
use Rattle.hx_clock.specs.declared.heads.InputHead.TheVariants.{Tick, Halt, Delivered}
use Rattle.hx_clock.specs.declared.heads.PartHead.{PartHead}
use Rattle.hx_clock.specs.declared.parts.Stamped.{Stamped}
use Rattle.hx_clock.specs.Parts.{stamped}
use Rattle.hx_clock.specs.PartLists.{AreHeadsIn, IsHeadIn, IsInputIn, deliveries_in, entries_by, entry_by, input_by, notes_from, posts_from}
use Rattle.hx_clock.proofs.Runs.{get_before, range_before, range_end}

pub some_same : {A : Type 0} (x y : A) → Some x ≡ Some y → x ≡ y
some_same x y e = cc

module _ (posts : List Post) (notes : List Note) (ds : List Input) where
  pub length_entries : (hs : List PartHead) → length (entries_by posts notes ds hs) ≡ length hs
  length_entries [] = refl
  length_entries (h ∷ hs) = ap suc (length_entries hs)

  -- the entry at a place is that of the head there
  pub entry_of_head : (hs : List PartHead) (i : ℕ) (h : PartHead) → slice_get hs i ≡ Some h
      → slice_get (entries_by posts notes ds hs) i ≡ Some (entry_by posts notes ds h (slice_get hs (suc i)))
  entry_of_head [] i h is = let none : None ≡ Some h = is in absurd (cc)
  entry_of_head (g ∷ hs) zero h is = let same : g ≡ h = cc in ap (λ x. Some (entry_by posts notes ds x (slice_get hs 0))) same
  entry_of_head (g ∷ hs) (suc i) h is = entry_of_head hs i h is

-- the runs of the head at a place lie in the lists
pub head_in : (p n d : ℕ) (hs : List PartHead) (i : ℕ) (h : PartHead) → AreHeadsIn p n d hs → slice_get hs i ≡ Some h → IsHeadIn p n d h (slice_get hs (suc i))
head_in p n d [] i h w is = let none : None ≡ Some h = is in absurd (cc)
head_in p n d (g ∷ hs) zero h w is = let same : g ≡ h = cc in subst (λ x. IsHeadIn p n d x (slice_get hs 0)) same w.0
head_in p n d (g ∷ hs) (suc i) h w is = head_in p n d hs i h w.1 is

input_grows : (ds es : List Input) (t : InputHead) → IsInputIn (length ds) t → input_by (ds ++ es) t ≡ input_by ds t
input_grows ds es Tick h = refl
input_grows ds es Halt h = refl
input_grows ds es (Delivered at) h = ap (λ o. when_some o an_input.Tick (λ i. i)) (get_before ds es at h)

input_in_more : (d e : ℕ) (t : InputHead) → d ≤ e → IsInputIn d t → IsInputIn e t
input_in_more d e Tick le h = h
input_in_more d e Halt le h = h
input_in_more d e (Delivered at) le h = omega (arith, le, h)

-- the head that follows, once one more stands at the end
module _ (p p2 n n2 : ℕ) (new : PartHead) (at-posts : new.posts ≡ p) (at-notes : new.notes ≡ n) where
  posts_next : (hs : List PartHead) → posts_from p2 (slice_get (hs ++ new ∷ []) 0) ≡ posts_from p (slice_get hs 0)
  posts_next [] = at-posts
  posts_next (h ∷ hs) = refl

  notes_next : (hs : List PartHead) → notes_from n2 (slice_get (hs ++ new ∷ []) 0) ≡ notes_from n (slice_get hs 0)
  notes_next [] = at-notes
  notes_next (h ∷ hs) = refl

  head_stays : (d d2 : ℕ) (h : PartHead) (hs : List PartHead) → p ≤ p2 → n ≤ n2 → d ≤ d2
      → IsHeadIn p n d h (slice_get hs 0) → IsHeadIn p2 n2 d2 h (slice_get (hs ++ new ∷ []) 0)
  head_stays d d2 h hs lp ln ld w =
      let ps = posts_next hs in
      let ns = notes_next hs in
      record {
        input = input_in_more d d2 h.input ld w.input;
        posts_order = omega (arith, ps, w.posts_order);
        posts_within = omega (arith, ps, w.posts_within, lp);
        notes_order = omega (arith, ns, w.notes_order);
        notes_within = omega (arith, ns, w.notes_within, ln);
      }

  heads_stay : (d d2 : ℕ) (hs : List PartHead) → p ≤ p2 → n ≤ n2 → d ≤ d2 → IsInputIn d2 new.input → AreHeadsIn p n d hs → AreHeadsIn p2 n2 d2 (hs ++ new ∷ [])
  heads_stay d d2 [] lp ln ld i w = (
    record {
      input = i;
      posts_order = omega (arith, at-posts, lp);
      posts_within = omega arith;
      notes_order = omega (arith, at-notes, ln);
      notes_within = omega arith;
    },
    tt,
  )
  heads_stay d d2 (h ∷ hs) lp ln ld i w = (head_stays d d2 h hs lp ln ld w.0, heads_stay d d2 hs lp ln ld i w.1)

module _ (posts ps : List Post) (notes ns : List Note) (ds es : List Input) (new : PartHead)
    (at-posts : new.posts ≡ length posts) (at-notes : new.notes ≡ length notes) where
  entry_stays : (h : PartHead) (hs : List PartHead) → IsHeadIn (length posts) (length notes) (length ds) h (slice_get hs 0)
      → entry_by (posts ++ ps) (notes ++ ns) (ds ++ es) h (slice_get (hs ++ new ∷ []) 0) ≡ entry_by posts notes ds h (slice_get hs 0)
  entry_stays h hs w =
      let p = posts_next (length posts) (length (posts ++ ps)) (length notes) (length (notes ++ ns)) new at-posts at-notes hs in
      let n = notes_next (length posts) (length (posts ++ ps)) (length notes) (length (notes ++ ns)) new at-posts at-notes hs in
      rw (
        p,
        n,
        range_before posts ps h.posts (posts_from (length posts) (slice_get hs 0)) w.posts_order w.posts_within,
        range_before notes ns h.notes (notes_from (length notes) (slice_get hs 0)) w.notes_order w.notes_within,
        input_grows ds es h.input w.input,
      ) refl

  entries_stay : (hs : List PartHead) → AreHeadsIn (length posts) (length notes) (length ds) hs
      → entries_by (posts ++ ps) (notes ++ ns) (ds ++ es) (hs ++ new ∷ []) ≡ entries_by posts notes ds hs
      ++ entry_by (posts ++ ps) (notes ++ ns) (ds ++ es) new None ∷ []
  entries_stay [] w = refl
  entries_stay (h ∷ hs) w = let here = entry_stays h hs w.0 in let rest = entries_stay hs w.1 in (λ i. here i ∷ rest i)

  last_entry : (input : Input) → input_by (ds ++ es) new.input ≡ input
      → entry_by (posts ++ ps) (notes ++ ns) (ds ++ es) new None ≡ stamped new.stamp.0 (record { actor = new.actor; input = input; outputs = ps; notes = ns })
  last_entry input is = rw (at-posts, at-notes, range_end posts ps, range_end notes ns, is) refl

-- one head more, whose posts and notes stand at the end
pub record IsFiled (posts : List Post) (notes : List Note) (ds : List Input) (hs : List PartHead) (p2 : List Post)
    (n2 : List Note) (d2 : List Input) (h2 : List PartHead) (x : Stamped) : Type 0 where
  pub whole : AreHeadsIn (length p2) (length n2) (length d2) h2
  pub entries : entries_by p2 n2 d2 h2 ≡ entries_by posts notes ds hs ++ x ∷ []

pub filed : (posts ps : List Post) (notes ns : List Note) (ds : List Input) (hs : List PartHead) (p2 : List Post)
    (n2 : List Note) (d2 : List Input) (h2 : List PartHead) (new : PartHead) (input : Input)
    → AreHeadsIn (length posts) (length notes) (length ds) hs → p2 ≡ posts ++ ps → n2 ≡ notes ++ ns → d2 ≡ ds ++ deliveries_in input → h2 ≡ hs ++ new ∷ []
    → new.posts ≡ length posts → new.notes ≡ length notes → IsInputIn (length d2) new.input → input_by d2 new.input ≡ input
    → IsFiled posts notes ds hs p2 n2 d2 h2 (stamped new.stamp.0 (record { actor = new.actor; input = input; outputs = ps; notes = ns }))
filed posts ps notes ns ds hs p2 n2 d2 h2 new input w ep en ed eh ap-posts ap-notes within is =
    let lp : length p2 ≡ length posts + length ps = ap length ep ∙ length-append posts ps in
    let ln : length n2 ≡ length notes + length ns = ap length en ∙ length-append notes ns in
    let ld : length d2 ≡ length ds + length (deliveries_in input) = ap length ed ∙ length-append ds (deliveries_in input) in
    let es = deliveries_in input in
    let is2 : input_by (ds ++ es) new.input ≡ input = subst (λ d. input_by d new.input ≡ input) ed is in
    record {
      whole = subst (AreHeadsIn (length p2) (length n2) (length d2)) (sym eh)
          (heads_stay (length posts) (length p2) (length notes) (length n2) new ap-posts ap-notes (length ds)
          (length d2) hs (omega (arith, lp)) (omega (arith, ln)) (omega (arith, ld)) within w);
      entries = (λ i. entries_by (ep i) (en i) (ed i) (eh i)) ∙ entries_stay posts ps notes ns ds es new ap-posts ap-notes hs w
          ∙ ap (λ x. entries_by posts notes ds hs ++ x ∷ []) (last_entry posts ps notes ns ds es new ap-posts ap-notes input is2);
    }
