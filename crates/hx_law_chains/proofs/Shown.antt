-- What a slot at a key's own region shows is what the line up to its top shows, whether it began from a snapshot or not.
use Rattle.std.proofs.Common.{◌≡◌, ℕ, ◌≤◌, inl, true, List, [], ◌∷◌, ◌++◌, None, refl, sym, ap, ◌∙◌, arith, cond, leb}
use Rattle.std.proofs.lemmas.Bool.{cond-true, le-leb}
use Rattle.hx_model.specs.Types.{RegionId, Space, Update}
use Rattle.hx_types.specs.Words.{IsIn, provided}
use Rattle.hx_model.specs.Lines.{upto}
use Rattle.hx_model.specs.Holders.{only_in}
use Rattle.hx_model.specs.Regions.{key_region}
use Rattle.hx_model.specs.Slots.{KeyState, kept_of, kept_row, latest_of, mark_among, marks_after, object_in, object_of, pending_above, top_above, top_of}
use Rattle.hx_model.specs.Slots.{touches_after}
use Rattle.hx_law_lemmas.proofs.Lemmas.{AllMade, length-upto, made-numbered, made-sorted, made-upto, only-in, only-key, slot_of, top-numbered, upto-low}
use Rattle.hx_law_lemmas.proofs.Lemmas.{upto_upto}
use Rattle.hx_law_folds.specs.Folding.{IsSlotOf, ShowSame}
use Rattle.hx_law_folds.proofs.Lemmas.{kept-marks-line, kept-touches-line, latest-line, marks-line, object-line, touches-line}
use Rattle.hx_law_chains.proofs.Lines.{sorted-descends}
use Rattle.hx_law_chains.proofs.Moves.{Around, Own}

-- what is pending above a version isn't in what is no higher
pending-over : (v : ℕ) (us vs : List Update) → ((x : Update) → IsIn x vs → x.version.0 ≤ v) → pending_above v (us ++ vs) ≡ pending_above v us
pending-over v [] [] f = refl
pending-over v [] (w ∷ vs) f = cond-true (leb w.version.0 v) [] _ (le-leb w.version.0 v (f w (inl refl)))
pending-over v (u ∷ us) vs f = ap (λ (l : List Update). cond (leb u.version.0 v) [] (l ++ u ∷ [])) (pending-over v us vs f)

module _ (space : Space) (key : List ℕ) (line : List Update) (made : AllMade space key line) (a : Around) (t : KeyState)
    (own : Own line (key_region space key) a t) (slot : IsSlotOf (key_region space key) t) (marks : t.marks ≡ true) (key_is : t.base.key ≡ key) where
  -- the key's region
  abbrev g : RegionId
  g = key_region space key

  -- the line up to the top
  abbrev pub us : List Update
  us = upto (top_of t) line

  -- a part of the line is in the region
  all-in : (v : ℕ) → only_in g (upto v line) ≡ upto v line
  all-in v = only-key space key (upto v line) (made-upto space key v line made)

  -- its top is the slot's
  pub top-same : top_of t ≡ top_above 0 us
  top-same =
      let n = made-numbered space key line made in
      sym (top-numbered us (made-numbered space key us (made-upto space key (top_of t) line made)) ∙ length-upto (top_of t) line n own.top_line)

  -- up to the floor it is the line up to the floor
  pub floor-part : upto t.floor us ≡ upto t.floor line
  floor-part = upto_upto t.floor (top_of t) line own.content.floor

  -- the same is pending
  pending-same : pending_above t.floor t.accepted ≡ pending_above t.floor us
  pending-same =
      sym (pending-over t.floor t.accepted (only_in g (upto t.base.floor.0 line))
      (λ x i. let b = upto-low t.base.floor.0 line x (made-sorted space key line made) (only-in g (upto t.base.floor.0 line) x i).0 in let l = own.low in
      omega (arith, b, l)))
      ∙ ap (pending_above t.floor) (sym own.content.list ∙ all-in (top_of t))

  -- a fold over the part in the region is that over the line
  pub object-same : object_of g t ≡ kept_row g None (upto t.floor us)
  object-same = object-line g line (sorted-descends line (made-sorted space key line made)) t slot own.content
      ∙ ap (kept_row g None) (all-in t.floor ∙ sym floor-part)

  latest-same : latest_of g t ≡ object_in (kept_row g None us)
  latest-same = latest-line g line (sorted-descends line (made-sorted space key line made)) t slot own.content
      ∙ ap (λ (l : List Update). object_in (kept_row g None l)) (all-in (top_of t))

  marks-same : marks_after t.base.marks t.accepted ≡ marks_after [] us
  marks-same = marks-line g line (sorted-descends line (made-sorted space key line made)) t slot own.content marks ∙ ap (marks_after []) (all-in (top_of t))

  touches-same : touches_after t.base.touches t.accepted ≡ touches_after [] us
  touches-same = touches-line g line (sorted-descends line (made-sorted space key line made)) t slot own.content marks
      ∙ ap (touches_after []) (all-in (top_of t))

  kept-same : kept_of g t ≡ kept_of g (slot_of t.marks key us t.floor t.acked t.early)
  kept-same =
      let m = kept-marks-line g line (sorted-descends line (made-sorted space key line made)) t slot own.content
      ∙ ap (λ (l : List Update). provided t.marks (marks_after [] l)) (all-in t.floor ∙ sym floor-part) in
      let n = kept-touches-line g line (sorted-descends line (made-sorted space key line made)) t slot own.content
      ∙ ap (λ (l : List Update). provided t.marks (touches_after [] l)) (all-in t.floor ∙ sym floor-part) in
      let o = object-same in
      λ j. record { key = key_is j; floor = record { 0 = t.floor }; object = o j; marks = m j; touches = n j }

  -- the slot shows what the line up to its top shows
  pub shows-line : ShowSame g t (slot_of t.marks key us t.floor t.acked t.early)
  shows-line = record {
    key = key_is;
    keeps = refl;
    floor = refl;
    acked = refl;
    early = refl;
    top = top-same;
    object = object-same;
    latest = latest-same;
    pending = pending-same;
    kept = kept-same;
    mark = λ m session. ap (mark_among session) marks-same;
    touches = λ m. touches-same;
  }
