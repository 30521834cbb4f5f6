-- The entries of heads: where each lies, and that they stay where the lists grow.
use Rattle.std.proofs.lemmas.List.{append_assoc}
use Rattle.std.proofs.Common.{◌≡◌, ℕ, zero, suc, ◌≤◌, List, [], ◌∷◌, ◌++◌, length, None, Some, refl, sym, ap, subst, ◌∙◌, arith, append-nil, length-append}
use Rattle.std.specs.Prelude.{slice_get}
use Rattle.hx_model.specs.Types.{Entry, Input, Note, Post}
use Rattle.hx_types.specs.Words.{when_some}
use Rattle.hx_clock.proofs.Lemmas.{get_before, get_end, range_before, range_end}
use Rattle.hx_trace.specs.declared.heads.Head.{Head}
use Rattle.hx_trace.specs.declared.heads.InputHead.{InputHead}
use Rattle.hx_trace.specs.declared.heads.InputHead.TheVariants.{Tick, Halt, Sent, Whole}
use Rattle.hx_trace.specs.Lists.{AreHeadsIn, IsHeadIn, IsInputIn, delivery, entries_by, entry_by, filed_by, input_by, kept, notes_from, posts_from, whole_by}

-- ---- the entry at a place
module _ (posts : List Post) (notes : List Note) (wholes : List Entry) where
  pub length_entries : (hs : List Head) → length (entries_by posts notes wholes hs) ≡ length hs
  length_entries [] = refl
  length_entries (h ∷ hs) = ap suc (length_entries hs)

  -- it is that of the head there
  pub entry_at_head : (hs : List Head) (i : ℕ) (h : Head) → slice_get hs i ≡ Some h
      → slice_get (entries_by posts notes wholes hs) i ≡ Some (entry_by posts notes wholes h (slice_get hs (suc i)))
  entry_at_head [] i h is = let none : None ≡ Some h = is in absurd (cc)
  entry_at_head (g ∷ hs) zero h is = let same : g ≡ h = cc in ap (λ x. Some (entry_by posts notes wholes x (slice_get hs 0))) same
  entry_at_head (g ∷ hs) (suc i) h is = entry_at_head hs i h is

  -- and there is none past the heads
  pub no_entry_at : (hs : List Head) (i : ℕ) → slice_get hs i ≡ None → slice_get (entries_by posts notes wholes hs) i ≡ None
  no_entry_at [] i is = refl
  no_entry_at (h ∷ hs) zero is = let some : Some h ≡ None = is in absurd (cc)
  no_entry_at (h ∷ hs) (suc i) is = no_entry_at hs i is

-- the runs of the head at a place lie in the lists
pub head_in : (p n w : ℕ) (hs : List Head) (i : ℕ) (h : Head) → AreHeadsIn p n w hs → slice_get hs i ≡ Some h → IsHeadIn p n w h (slice_get hs (suc i))
head_in p n w [] i h all is = let none : None ≡ Some h = is in absurd (cc)
head_in p n w (g ∷ hs) zero h all is = let same : g ≡ h = cc in subst (λ x. IsHeadIn p n w x (slice_get hs 0)) same all.0
head_in p n w (g ∷ hs) (suc i) h all is = head_in p n w hs i h all.1 is

-- ---- longer lists
whole_grows : (p : ℕ) (wholes ws : List Entry) (t : InputHead) → IsInputIn p (length wholes) t → whole_by (wholes ++ ws) t ≡ whole_by wholes t
whole_grows p wholes ws Tick h = refl
whole_grows p wholes ws Halt h = refl
whole_grows p wholes ws (Sent entry place at) h = refl
whole_grows p wholes ws (Whole at) h = get_before wholes ws at h

input_grows : (posts ps : List Post) (w : ℕ) (t : InputHead) → IsInputIn (length posts) w t → input_by (posts ++ ps) t ≡ input_by posts t
input_grows posts ps w Tick h = refl
input_grows posts ps w Halt h = refl
input_grows posts ps w (Sent entry place at) h = ap (delivery (record { entry = entry; place = place })) (get_before posts ps at h)
input_grows posts ps w (Whole at) h = refl

input_in_more : (p p2 w w2 : ℕ) (t : InputHead) → p ≤ p2 → w ≤ w2 → IsInputIn p w t → IsInputIn p2 w2 t
input_in_more p p2 w w2 Tick hp hw h = h
input_in_more p p2 w w2 Halt hp hw h = h
input_in_more p p2 w w2 (Sent entry place at) hp hw h = omega (arith, hp, h)
input_in_more p p2 w w2 (Whole at) hp hw h = omega (arith, hw, h)

-- the head that follows, once one more stands at the end
module _ (p p2 n n2 : ℕ) (new : Head) (at-posts : new.posts ≡ p) (at-notes : new.notes ≡ n) where
  posts_next : (hs : List Head) → posts_from p2 (slice_get (hs ++ new ∷ []) 0) ≡ posts_from p (slice_get hs 0)
  posts_next [] = at-posts
  posts_next (h ∷ hs) = refl

  notes_next : (hs : List Head) → notes_from n2 (slice_get (hs ++ new ∷ []) 0) ≡ notes_from n (slice_get hs 0)
  notes_next [] = at-notes
  notes_next (h ∷ hs) = refl

  head_stays : (w w2 : ℕ) (h : Head) (hs : List Head) → p ≤ p2 → n ≤ n2 → w ≤ w2 → IsHeadIn p n w h (slice_get hs 0)
      → IsHeadIn p2 n2 w2 h (slice_get (hs ++ new ∷ []) 0)
  head_stays w w2 h hs lp ln lw is =
      let ps = posts_next hs in
      let ns = notes_next hs in
      record {
        input = input_in_more p p2 w w2 h.input lp lw is.input;
        posts_order = omega (arith, ps, is.posts_order);
        posts_within = omega (arith, ps, is.posts_within, lp);
        notes_order = omega (arith, ns, is.notes_order);
        notes_within = omega (arith, ns, is.notes_within, ln);
      }

  heads_stay : (w w2 : ℕ) (hs : List Head) → p ≤ p2 → n ≤ n2 → w ≤ w2 → IsInputIn p2 w2 new.input → AreHeadsIn p n w hs → AreHeadsIn p2 n2 w2 (hs ++ new ∷ [])
  heads_stay w w2 [] lp ln lw i all = (
    record {
      input = i;
      posts_order = omega (arith, at-posts, lp);
      posts_within = omega arith;
      notes_order = omega (arith, at-notes, ln);
      notes_within = omega arith;
    },
    tt,
  )
  heads_stay w w2 (h ∷ hs) lp ln lw i all = (head_stays w w2 h hs lp ln lw all.0, heads_stay w w2 hs lp ln lw i all.1)

module _ (posts ps : List Post) (notes ns : List Note) (wholes ws : List Entry) (new : Head)
    (at-posts : new.posts ≡ length posts) (at-notes : new.notes ≡ length notes) where
  filed_stays : (h : Head) (hs : List Head) → IsHeadIn (length posts) (length notes) (length wholes) h (slice_get hs 0)
      → filed_by (posts ++ ps) (notes ++ ns) h (slice_get (hs ++ new ∷ []) 0) ≡ filed_by posts notes h (slice_get hs 0)
  filed_stays h hs is =
      let p = posts_next (length posts) (length (posts ++ ps)) (length notes) (length (notes ++ ns)) new at-posts at-notes hs in
      let n = notes_next (length posts) (length (posts ++ ps)) (length notes) (length (notes ++ ns)) new at-posts at-notes hs in
      rw (
        p,
        n,
        range_before posts ps h.posts (posts_from (length posts) (slice_get hs 0)) is.posts_order is.posts_within,
        range_before notes ns h.notes (notes_from (length notes) (slice_get hs 0)) is.notes_order is.notes_within,
        input_grows posts ps (length wholes) h.input is.input,
      ) refl

  entry_stays : (h : Head) (hs : List Head) → IsHeadIn (length posts) (length notes) (length wholes) h (slice_get hs 0)
      → entry_by (posts ++ ps) (notes ++ ns) (wholes ++ ws) h (slice_get (hs ++ new ∷ []) 0) ≡ entry_by posts notes wholes h (slice_get hs 0)
  entry_stays h hs is =
      let whole = whole_grows (length posts) wholes ws h.input is.input in
      let filed = filed_stays h hs is in
      λ i. when_some (whole i) (filed i) (λ e. e)

  entries_stay : (hs : List Head) → AreHeadsIn (length posts) (length notes) (length wholes) hs
      → entries_by (posts ++ ps) (notes ++ ns) (wholes ++ ws) (hs ++ new ∷ []) ≡ entries_by posts notes wholes hs
      ++ entry_by (posts ++ ps) (notes ++ ns) (wholes ++ ws) new None ∷ []
  entries_stay [] all = refl
  entries_stay (h ∷ hs) all = let here = entry_stays h hs all.0 in let rest = entries_stay hs all.1 in (λ i. here i ∷ rest i)

  last_entry : (input : Input) → whole_by (wholes ++ ws) new.input ≡ None → input_by (posts ++ ps) new.input ≡ input
      → entry_by (posts ++ ps) (notes ++ ns) (wholes ++ ws) new None ≡ record { actor = new.actor; input = input; outputs = ps; notes = ns }
  last_entry input none is = rw (none, at-posts, at-notes, range_end posts ps, range_end notes ns, is) refl

-- ---- one entry more

-- the lists have one head more, and so one entry more
pub record HasOneMore (posts : List Post) (notes : List Note) (wholes : List Entry) (hs : List Head) (p2 : List Post)
    (n2 : List Note) (w2 : List Entry) (h2 : List Head) (x : Entry) : Type 0 where
  pub heads : AreHeadsIn (length p2) (length n2) (length w2) h2
  pub entries : entries_by p2 n2 w2 h2 ≡ entries_by posts notes wholes hs ++ x ∷ []

more_of : (posts ps : List Post) (notes ns : List Note) (wholes ws : List Entry) (hs : List Head) (new : Head) (x : Entry)
    → AreHeadsIn (length posts) (length notes) (length wholes) hs → new.posts ≡ length posts
    → new.notes ≡ length notes → IsInputIn (length (posts ++ ps)) (length (wholes ++ ws)) new.input
    → entry_by (posts ++ ps) (notes ++ ns) (wholes ++ ws) new None ≡ x
    → HasOneMore posts notes wholes hs (posts ++ ps) (notes ++ ns) (wholes ++ ws) (hs ++ new ∷ []) x
more_of posts ps notes ns wholes ws hs new x all at-posts at-notes within is =
    let lp = length-append posts ps in
    let ln = length-append notes ns in
    let lw = length-append wholes ws in
    record {
      heads = heads_stay (length posts) (length (posts ++ ps)) (length notes)
          (length (notes ++ ns)) new at-posts at-notes (length wholes) (length (wholes ++ ws)) hs (omega (arith, lp))
          (omega (arith, ln))
          (omega (arith, lw)) within all;
      entries = entries_stay posts ps notes ns wholes ws new at-posts at-notes hs all ∙ ap (λ e. entries_by posts notes wholes hs ++ e ∷ []) is;
    }

-- where an entry's posts and notes are put at the end
pub parts_more : (posts ps p2 : List Post) (notes ns n2 : List Note) (wholes : List Entry) (hs h2 : List Head)
    (new : Head) → AreHeadsIn (length posts) (length notes) (length wholes) hs
    → p2 ≡ posts ++ ps → n2 ≡ notes ++ ns → h2 ≡ hs ++ new ∷ [] → new.posts ≡ length posts → new.notes ≡ length notes
    → IsInputIn (length posts) (length wholes) new.input → whole_by wholes new.input ≡ None
    → HasOneMore posts notes wholes hs p2 n2 wholes h2 (record { actor = new.actor; input = input_by posts new.input; outputs = ps; notes = ns })
parts_more posts ps p2 notes ns n2 wholes hs h2 new all ep en eh at-posts at-notes within none =
    let x : Entry = record { actor = new.actor; input = input_by posts new.input; outputs = ps; notes = ns } in
    let same : wholes ++ [] ≡ wholes = append-nil wholes in
    let lp = length-append posts ps in
    let lw = length-append wholes [] in
    let more : HasOneMore posts notes wholes hs (posts ++ ps) (notes ++ ns) (wholes ++ []) (hs ++ new ∷ []) x =
    more_of posts ps notes ns wholes [] hs new x all at-posts at-notes
    (input_in_more (length posts) (length (posts ++ ps)) (length wholes) (length (wholes ++ [])) new.input
    (omega (arith, lp)) (omega (arith, lw)) within)
    (last_entry posts ps notes ns wholes [] new at-posts at-notes (input_by posts new.input)
    (ap (λ w. whole_by w new.input) same ∙ none) (input_grows posts ps (length wholes) new.input within)) in
    rw (ep, en, eh) (subst (λ w. HasOneMore posts notes wholes hs (posts ++ ps) (notes ++ ns) w (hs ++ new ∷ []) x) same more)

-- where it is kept whole
pub whole_more : (posts : List Post) (notes : List Note) (wholes w2 : List Entry) (hs h2 : List Head) (new : Head)
    (x : Entry) → AreHeadsIn (length posts) (length notes) (length wholes) hs
    → w2 ≡ wholes ++ x ∷ [] → h2 ≡ hs ++ new ∷ [] → new ≡ kept (length posts) (length notes) (length wholes)
    → HasOneMore posts notes wholes hs posts notes w2 h2 x
whole_more posts notes wholes w2 hs h2 new x all ew eh is =
    let head : Head = kept (length posts) (length notes) (length wholes) in
    let lw = length-append wholes (x ∷ []) in
    let more : HasOneMore posts notes wholes hs (posts ++ []) (notes ++ []) (wholes ++ x ∷ []) (hs ++ head ∷ []) x =
    more_of posts [] notes [] wholes (x ∷ []) hs head x all refl refl (omega (arith, lw))
    (ap (λ o. when_some o (filed_by (posts ++ []) (notes ++ []) head None) (λ e. e)) (get_end wholes x)) in
    let at : HasOneMore posts notes wholes hs posts notes (wholes ++ x ∷ []) (hs ++ head ∷ []) x =
    subst (λ p. HasOneMore posts notes wholes hs p notes (wholes ++ x ∷ []) (hs ++ head ∷ []) x) (append-nil posts)
    (subst (λ n. HasOneMore posts notes wholes hs (posts ++ []) n (wholes ++ x ∷ []) (hs ++ head ∷ []) x) (append-nil notes) more) in
    rw (ew, eh, is) at

-- an entry that stands last among some stands last where others come first
pub last_after : (first some all : List Entry) (e : Entry) → all ≡ some ++ e ∷ [] → first ++ all ≡ (first ++ some) ++ e ∷ []
last_after first some all e h = ap (λ es. first ++ es) h ∙ sym (append_assoc first some (e ∷ []))
