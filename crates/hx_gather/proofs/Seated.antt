-- A counting seat that has taken in the seats of all actors.
use Rattle.std.proofs.Common.{◌≡◌, ℕ, ◌+◌, ◌≤◌, inl, inr, List, [], ◌∷◌, ◌++◌, map, length, eqb, refl, ap, sym, subst, ◌∙◌, arith}
use Rattle.std.specs.Prelude.{flat_map}
use Rattle.std.specs.Iterator.{Yields}
use Rattle.std.specs.List.{AllByRecursion}
use Rattle.std.specs.Vec.Iter.{into_iter_items, into_iter_steps, into_iter_len}
use Rattle.std.specs.declared.vec.IntoIter.{IntoIter}
use Rattle.atomic_table.specs.Seated.{TableId}
use Rattle.hx_types.specs.Words.{IsIn}
use Rattle.hx_clock.specs.declared.view.NumberedPart.{NumberedPart}
use Rattle.hx_clock.specs.declared.view.View.{View}
use Rattle.hx_clock.specs.Parts.{IsCausal, HasStampsBelow}
use Rattle.hx_clock.specs.Seats.{Seated}
use Rattle.hx_clock.specs.Views as a_view
use Rattle.hx_clock.specs.Views.{numbered, one, times, IsWhole, Owns}
use Rattle.hx_clock.proofs.Lemmas.{one-same, total-append}
use Rattle.hx_law_threads.specs.Merged.{AreWholeParts}
use Rattle.hx_gather.specs.declared.gathering.SeatedPart.{SeatedPart}
use Rattle.hx_gather.specs.Gathered.{parts_of, CountsAll, IsSeated}

nil : {X : Type 0} (xs : List X) → length xs ≡ 0 → xs ≡ []
nil [] e = refl
nil (x ∷ xs) e = absurd (omega arith)

-- a vector's iterator that was run to its end gave the vector's items
pub drained : {X Z : Type 0} (xs : List X) (s t : IntoIter X Z) → Yields into_iter_steps s xs t → into_iter_len t ≡ 0 → into_iter_items s ≡ xs
drained [] s t y e = ap into_iter_items y ∙ nil (into_iter_items t) (let a = t.rest.ok.0 in omega arith)
drained (x ∷ xs) s t y e = y.1.0 ∙ ap (λ l. x ∷ l) (drained xs y.0 t y.2 e)

-- what the seats carry are the parts
carried_parts : (clock : TableId) (seated : List SeatedPart) → AllByRecursion (IsSeated clock) seated
    → map (λ (p : NumberedPart). p.entries) (flat_map (λ (p : SeatedPart). p.seat.view.carried) seated) ≡ parts_of seated
carried_parts clock [] h = refl
carried_parts clock (p ∷ seated) h =
    ap (λ l. map (λ (q : NumberedPart). q.entries) (l ++ flat_map (λ (q : SeatedPart). q.seat.view.carried) seated))
    h.0.1.1 ∙ ap (λ l. p.part ∷ l) (carried_parts clock seated h.1)

-- the number of a part is carried
number_carried : (seated : List SeatedPart) (p : SeatedPart) (k : ℕ) → IsIn p seated → Owns p.seat.view k p.part
    → 1 ≤ times k (flat_map (λ (q : SeatedPart). q.seat.view.carried) seated)
number_carried [] p k i own = absurd i
number_carried (q ∷ seated) p k (inl e) own =
    let carries : q.seat.view.carried ≡ numbered k p.part ∷ [] = ap (λ (r : SeatedPart). r.seat.view.carried) (sym e) ∙ own in
    let here : times k q.seat.view.carried ≡ one (eqb k k) + 0 = ap (times k) carries in
    omega (
      arith,
      here,
      one-same k k refl,
      total-append
          (λ (r : NumberedPart). one (eqb k r.number)) q.seat.view.carried
          (flat_map (λ (r : SeatedPart). r.seat.view.carried) seated),
    )
number_carried (q ∷ seated) p k (inr i) own =
    omega (
      arith,
      number_carried seated p k i own,
      total-append (λ (r : NumberedPart). one (eqb k r.number)) q.seat.view.carried
          (flat_map (λ (r : SeatedPart). r.seat.view.carried) seated),
    )

pub whole_parts : (clock : TableId) (seat : Seated) (seated given : List SeatedPart) (v : View) (drawn : ℕ) → given ≡ seated
    → AllByRecursion (IsSeated clock) seated → CountsAll seat seated
    → v.carried ≡ flat_map (λ (p : SeatedPart). p.seat.view.carried) given → v.count ≡ seat.view.count
    → (IsWhole v → IsCausal (a_view.parts_of v)) → (IsWhole v → HasStampsBelow drawn (a_view.parts_of v)) → AreWholeParts (parts_of seated)
whole_parts clock seat seated given v drawn same seats counts carried count causal stamps =
    let carries : v.carried ≡ flat_map (λ (p : SeatedPart). p.seat.view.carried) seated =
    carried ∙ ap (flat_map (λ (p : SeatedPart). p.seat.view.carried)) same in
    let whole : IsWhole v = (
      counts.0,
      count ∙ counts.1,
      λ k lt. let h = counts.2 k lt in subst (λ ps. 1 ≤ times k ps) (sym carries) (number_carried seated h.0 k h.1 h.2),
    ) in
    let parts : a_view.parts_of v ≡ parts_of seated = ap (map (λ (p : NumberedPart). p.entries)) carries ∙ carried_parts clock seated seats in
    record {
      causal = subst IsCausal parts (causal whole);
      drawn = drawn;
      stamps = subst (HasStampsBelow drawn) parts (stamps whole);
    }

-- the seat has all that was drawn, and what it carries are the parts
pub whole_view : (clock : TableId) (seat : Seated) (seated given : List SeatedPart) (v : View) → given ≡ seated
    → AllByRecursion (IsSeated clock) seated → CountsAll seat seated
    → v.carried ≡ flat_map (λ (p : SeatedPart). p.seat.view.carried) given → v.count ≡ seat.view.count
    → IsWhole v × (a_view.parts_of v ≡ parts_of seated)
whole_view clock seat seated given v same seats counts carried count =
    let carries : v.carried ≡ flat_map (λ (p : SeatedPart). p.seat.view.carried) seated =
    carried ∙ ap (flat_map (λ (p : SeatedPart). p.seat.view.carried)) same in (
      (
        counts.0,
        count ∙ counts.1,
        λ k lt. let h = counts.2 k lt in subst (λ ps. 1 ≤ times k ps) (sym carries) (number_carried seated h.0 k h.1 h.2),
      ),
      ap (map (λ (p : NumberedPart). p.entries)) carries ∙ carried_parts clock seated seats,
    )
