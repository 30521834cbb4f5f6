-- What the trace of merged parts shows of the crews at a moment.
use Rattle.std.proofs.Common.{◌≡◌, ℕ, suc, ◌+◌, inl, inr, ⊎_elim, List, [], ◌∷◌, map, take, length, Some, slice_get, refl, ap, sym, ◌∙◌, arith}
use Rattle.std.specs.List.{IsDistinct}
use Rattle.std.proofs.lemmas.List.{length-reverse}
use Rattle.hx_model.specs.Types.{Actor, Deliver, Entry, Halt, Input, Post, PostId, Script, Tick}
use Rattle.hx_types.specs.Words.{same_actor, IsIn}
use Rattle.hx_model.specs.Runs.{post_named}
use Rattle.hx_model.specs.Schedule.{entries_of, names_from}
use Rattle.hx_clock.specs.declared.parts.Stamped.{Stamped}
use Rattle.hx_clock.specs.Parts.{Posted}
use Rattle.hx_clock.specs.Views.{total}
use Rattle.hx_clock.proofs.Lemmas.{each_in, prefix_in, total-append}
use Rattle.hx_law_threads.specs.Own.{own_entries, past_of}
use Rattle.hx_law_threads.specs.Merged.{parts_in, ActorPart, AreOwnParts, AreWholeParts, HasOwnParts, IsMerged}
use Rattle.hx_law_threads.specs.Cuts.{delivered_at, delivered_by, own_at, posted_at, whole_of, Cut}
use Rattle.hx_law_threads.specs.Counting.{total_at, total_over, weight_delivered, weight_made}
use Rattle.hx_law_threads.specs.Laws.{IsReadInPart}
use Rattle.hx_law_threads.proofs.Lemmas.{in_append, in_map, map_reverse, whole_adds_up, read_in_parts, first_all, merged_run, posts_found, cuts_add_up}
use Rattle.hx_law_threads.proofs.Lemmas.{posts_weigh, count-own}
use Rattle.hx_mail.specs.declared.views.Mailed.{Mailed}
use Rattle.hx_outbox.specs.Offers.{named}
use Rattle.hx_outbox.specs.Zipped.{Both}
use Rattle.hx_outbox.proofs.Lemmas.{map-length}
use Rattle.hx_driver.specs.declared.desks.Desk.{Desk}
use Rattle.hx_driver.specs.Desks.{entries_before, made_by, told, IsLater}
use Rattle.hx_driver.specs.Told.{told_by}
use Rattle.hx_driver.specs.declared.crews.Crew.{Crew}
use Rattle.hx_law_drivers.specs.Crews.{cut_of, desks_of, part_of, parts_of}
use Rattle.hx_law_drivers.proofs.Lists.{both_in, in_flat, prefix_take, total_of_map}
use Rattle.hx_law_drivers.proofs.Desks.{entries_of_desk, later_desks, AreLater}

-- the entries of a part, the newest first, by either name
pub past_is_before : (part : List Stamped) → entries_before part ≡ past_of part
past_is_before part = map_reverse (λ (x : Stamped). x.entry) part

pub length_past : (part : List Stamped) → length (past_of part) ≡ length part
length_past part = length-reverse (map (λ (x : Stamped). x.entry) part) ∙ map-length (λ (x : Stamped). x.entry) part

-- what a post weighs by its name
abbrev pub by_name : (PostId → ℕ) → Mailed → ℕ
by_name h m = h m.id

-- at a cut of the trace each of these desks had made its part
pub record IsSeen (trace : List Entry) (cut : Cut) (ds : List Desk) : Type 0 where
  pub sums : (f : ℕ → Entry → ℕ) → total_at f cut trace ≡ total (λ (d : Desk). total_over f d.part.items) ds
  pub own : (d : Desk) → IsIn d ds → own_at cut trace d.actor ≡ past_of d.part.items

pub names_weigh : (h : PostId → ℕ) (entry place : ℕ) (ps : List Post) → total h (names_from entry place ps) ≡ total (by_name h) (named entry place ps)
names_weigh h entry place [] = refl
names_weigh h entry place (p ∷ ps) = ap (λ n. h (record { entry = entry; place = place }) + n)
    (names_weigh h entry (place + 1) ps ∙ ap (λ k. total (by_name h) (named entry k ps))
    (let e : place + 1 ≡ suc place = omega arith in e))

made_weigh : (h : PostId → ℕ) (part : List Stamped) → total_over (weight_made h) part ≡ total (by_name h) (made_by part)
made_weigh h [] = refl
made_weigh h (x ∷ part) =
    let here = named (x.stamp.0 + 1) 0 x.entry.outputs in
    omega (arith, names_weigh h (x.stamp.0 + 1) 0 x.entry.outputs, made_weigh h part, total-append (by_name h) here (made_by part))

pub told_one : (h : PostId → ℕ) (a : Actor) (i : Input) → total h (delivered_by i) ≡ total (by_name h) (told_by a i)
told_one h a Tick = refl
told_one h a Halt = refl
told_one h a (Deliver id from message) = refl

told_weigh : (h : PostId → ℕ) (part : List Stamped) → total_over (weight_delivered h) part ≡ total (by_name h) (told part)
told_weigh h [] = refl
told_weigh h (x ∷ part) =
    let here = told_by x.entry.actor x.entry.input in
    omega (arith, told_one h x.entry.actor x.entry.input, told_weigh h part, total-append (by_name h) here (told part))

-- so what was posted and delivered by then weighs what the desks made, and were told
module _ (trace : List Entry) (cut : Cut) (ds : List Desk) (seen : IsSeen trace cut ds) where
  pub seen_posted : (h : PostId → ℕ) → total h (posted_at cut trace) ≡ total (λ (d : Desk). total (by_name h) (made_by d.part.items)) ds
  seen_posted h = (posts_weigh h cut trace).made ∙ seen.sums (weight_made h) ∙ by ds
    where
      by : (xs : List Desk) → total (λ (d : Desk). total_over (weight_made h) d.part.items) xs
          ≡ total (λ (d : Desk). total (by_name h) (made_by d.part.items)) xs
      by [] = refl
      by (d ∷ xs) = omega (arith, made_weigh h d.part.items, by xs)

  pub seen_delivered : (h : PostId → ℕ) → total h (delivered_at cut trace) ≡ total (λ (d : Desk). total (by_name h) (told d.part.items)) ds
  seen_delivered h = (posts_weigh h cut trace).delivered ∙ seen.sums (weight_delivered h) ∙ by ds
    where
      by : (xs : List Desk) → total (λ (d : Desk). total_over (weight_delivered h) d.part.items) xs
          ≡ total (λ (d : Desk). total (by_name h) (told d.part.items)) xs
      by [] = refl
      by (d ∷ xs) = omega (arith, told_weigh h d.part.items, by xs)

-- the parts by the cut are those of the desks before
parts_before : (f : ℕ → Entry → ℕ) (cut : Cut) (ds es : List Desk) → Both IsLater ds es → ((d : Desk) → IsIn d ds → cut d.actor ≡ length d.part.items)
    → total (λ (p : ActorPart). total_over f (take (cut p.actor) p.part)) (map part_of es) ≡ total (λ (d : Desk). total_over f d.part.items) ds
parts_before f cut [] [] h count = refl
parts_before f cut [] (e ∷ es) h count = absurd h
parts_before f cut (d ∷ ds) [] h count = absurd h
parts_before f cut (d ∷ ds) (e ∷ es) h count =
    let same : take (cut e.actor) e.part.items ≡ d.part.items =
    prefix_take d.part.items e.part.items (cut e.actor) h.0.part (ap cut h.0.actor ∙ count d (inl refl)) in
    omega (arith, ap (total_over f) same, parts_before f cut ds es h.1 (λ x i. count x (inr i)))

-- a post of a part is one of its entries'
in_named : (entry place : ℕ) (ps : List Post) (m : Mailed) → IsIn m (named entry place ps) → (k : ℕ)
    × (m.id.entry ≡ entry) × (m.id.place ≡ place + k) × (slice_get ps k ≡ Some m.post)
in_named entry place [] m i = absurd i
in_named entry place (p ∷ ps) m (inl e) =
    let at : m.id.place ≡ place = ap (λ (x : Mailed). x.id.place) e in
    (0, ap (λ (x : Mailed). x.id.entry) e, omega (arith, at), ap (λ (x : Mailed). Some x.post) (sym e))
in_named entry place (p ∷ ps) m (inr i) = let r = in_named entry (suc place) ps m i in (suc r.0, r.1, omega (arith, r.2), r.3)

pub made_in_part : (part : List Stamped) (m : Mailed) → IsIn m (made_by part) → (z : Stamped) × IsIn z part × Posted z m.id m.post
made_in_part [] m i = absurd i
made_in_part (x ∷ part) m i =
    ⊎_elim
    (λ (j : IsIn m (named (x.stamp.0 + 1) 0 x.entry.outputs)).
    let r = in_named (x.stamp.0 + 1) 0 x.entry.outputs m j in
    let at : m.id.place ≡ r.0 = omega (arith, r.2) in
    (x, inl refl, (sym r.1, ap (slice_get x.entry.outputs) at ∙ r.3)))
    (λ (j : IsIn m (made_by part)). let r = made_in_part part m j in
    (r.0, inr r.1, r.2)) (in_append (named (x.stamp.0 + 1) 0 x.entry.outputs) (made_by part) m i)

module _ (script : Script) (now : List Crew) (merged : List Stamped) (o : AreOwnParts script (parts_of now))
    (w : AreWholeParts (parts_in (parts_of now))) (m : IsMerged (parts_in (parts_of now)) merged) where
  own_are : HasOwnParts (parts_of now) (past_of merged)
  own_are = (merged_run script (parts_of now) merged o w m).own

  -- the desks at an earlier moment are seen at its cut
  pub seen_before : (cut : List Crew) → AreLater cut now
      → IsDistinct same_actor (map (λ (d : Desk). d.actor) (desks_of cut)) → IsSeen (past_of merged) (cut_of cut) (desks_of cut)
  seen_before cut later apart =
      let l = later_desks cut now later in
      let count : (d : Desk) → IsIn d (desks_of cut) → cut_of cut d.actor ≡ length d.part.items = λ d i. entries_of_desk (desks_of cut) d apart i in
      record {
        sums = λ f. cuts_add_up script (parts_of now) merged o w m f (cut_of cut) ∙ parts_before f (cut_of cut) (desks_of cut) (desks_of now) l count;
        own = λ d i.
            let e = both_in IsLater (desks_of cut) (desks_of now) d l i in
            let read = each_in (IsReadInPart (past_of merged)) (parts_of now) (part_of e.0)
            (read_in_parts (parts_of now) (past_of merged) own_are) (in_map part_of (desks_of now) e.0 e.1) in
            ap (own_at (cut_of cut) (past_of merged)) (sym e.2.actor) ∙ read.own (cut_of cut e.0.actor)
            ∙ ap past_of (prefix_take d.part.items e.0.part.items (cut_of cut e.0.actor) e.2.part (ap (cut_of cut) e.2.actor ∙ count d i));
      }

  -- and those at the end are seen in the whole trace
  pub seen_now : IsSeen (past_of merged) (whole_of (past_of merged)) (desks_of now)
  seen_now = record {
    sums = λ f. whole_adds_up script (parts_of now) merged o w m f ∙ total_of_map part_of (λ (p : ActorPart). total_over f p.part) (desks_of now);
    own = λ d i.
        first_all (entries_of d.actor (past_of merged)) (own_entries d.actor (past_of merged)) (omega (arith, count-own d.actor (past_of merged)))
        ∙ each_in (λ (p : ActorPart). own_entries p.actor (past_of merged) ≡ past_of p.part) (parts_of now)
        (part_of d) own_are (in_map part_of (desks_of now) d i);
  }

  -- each post that a desk made by then is found by its name
  pub found_before : (cut : List Crew) → AreLater cut now → (d : Desk) → IsIn d (desks_of cut) → (m : Mailed)
      → IsIn m (made_by d.part.items) → post_named m.id (past_of merged) ≡ Some m.post
  found_before cut later d i mail j =
      let e = both_in IsLater (desks_of cut) (desks_of now) d (later_desks cut now later) i in
      let z = made_in_part d.part.items mail j in
      posts_found (parts_in (parts_of now)) merged w m z.0 mail.id mail.post
      (in_flat (λ (part : List Stamped). part) (parts_in (parts_of now)) e.0.part.items z.0
      (in_map (λ (p : ActorPart). p.part) (parts_of now) (part_of e.0) (in_map part_of (desks_of now) e.0 e.1))
      (prefix_in z.0 d.part.items e.0.part.items e.2.part z.1)) z.2
