-- Where the note of a call's end lies.
use Rattle.std.proofs.Common.{◌≡◌, ℕ, ◌+◌, ◌-◌, ◌<◌, ◌≤◌, Bool, true, false, List, [], ◌∷◌, length, Option, Some, None, refl, sym, ap, ◌∙◌, arith, eqb}
use Rattle.std.specs.Prelude.{reverse, slice_get}
use Rattle.std.proofs.lemmas.Bool.{cond-false, cond-true, cond_both, eq-eqb, eqb-true}
use Rattle.hx_model.specs.Types.{Caller, Entry, Note}
use Rattle.hx_types.specs.Words.{first_some}
use Rattle.hx_trace.proofs.Lemmas.{entry_is}
use Rattle.hx_model.specs.Histories.{CallEnd, ends_in, is_session, note_of_end}
use Rattle.hx_model.specs.Runs.{entry_at}
use Rattle.hx_types.specs.declared.traces.Note.TheVariants as a_note

-- the entry of the end, and its note
pub record EndNote (t : List Entry) (c : Caller) (e : CallEnd) : Type 0 where
  pub entry : Entry
  pub low : 0 < e.entry
  pub high : e.entry ≤ length t
  pub entry_is : entry_at e.entry t ≡ Some entry
  pub noted : ends_in e.entry c.number entry.notes ≡ Some e

-- an entry further down
lower : (x : Entry) (older : List Entry) (n : ℕ) → n ≤ length older → entry_at n (x ∷ older) ≡ entry_at n older
lower x older n le = by (eqb n (length older + 1)) refl
  where
    by : (b : Bool) → eqb n (length older + 1) ≡ b → entry_at n (x ∷ older) ≡ entry_at n older
    by true e = absurd (let q = eqb-true n (length older + 1) e in omega (arith, q, le))
    by false e = cond-false (eqb n (length older + 1)) (Some x) (entry_at n older) e

-- an end among notes is of their entry
its-entry : (entry n : ℕ) (notes : List Note) (e : CallEnd) → ends_in entry n notes ≡ Some e → e.entry ≡ entry
its-entry entry n [] e q = absurd (cc)
its-entry entry n (a_note.Ended m v a ∷ rest) e q =
    cond_both (eqb m n) (Some (record { entry = entry; version = v; answer = a })) (ends_in entry n rest) (λ (o : Option CallEnd). o ≡ Some e → e.entry ≡ entry)
    (λ t k. let w : record { entry = entry; version = v; answer = a } ≡ e = cc in ap (λ (d : CallEnd). d.entry) (sym w)) (λ t k. its-entry entry n rest e k) q
its-entry entry n (a_note.Began m ∷ rest) e q = its-entry entry n rest e q
its-entry entry n (a_note.Assigned update ∷ rest) e q = its-entry entry n rest e q
its-entry entry n (a_note.Issued config ∷ rest) e q = its-entry entry n rest e q

-- each end has its note
pub end-note : (t : List Entry) (c : Caller) (e : CallEnd) → note_of_end c t ≡ Some e → EndNote t c e
end-note [] c e q = absurd (cc)
end-note (x ∷ older) c e q = by (is_session c.session x.actor) refl q (λ r. further (end-note older c e r))
  where
    further : EndNote older c e → EndNote (x ∷ older) c e
    further r = record {
      entry = r.entry;
      low = r.low;
      high = (let h : e.entry ≤ length older = r.high in omega (arith, h));
      entry_is = lower x older e.entry r.high ∙ r.entry_is;
      noted = r.noted;
    }

    here : (o : Option CallEnd) → ends_in (length older + 1) c.number x.notes ≡ o → first_some o (note_of_end c older) ≡ Some e
        → (note_of_end c older ≡ Some e → EndNote (x ∷ older) c e) → EndNote (x ∷ older) c e
    here None f r below = below r
    here (Some d) f r below =
        let same : d ≡ e = cc in
        let found : ends_in (length older + 1) c.number x.notes ≡ Some e = f ∙ ap (λ (k : CallEnd). Some k) same in
        let at : e.entry ≡ length older + 1 = its-entry (length older + 1) c.number x.notes e found in
        record {
          entry = x;
          low = omega (arith, at);
          high = omega (arith, at);
          entry_is = cond-true (eqb e.entry (length older + 1)) (Some x) (entry_at e.entry older) (eq-eqb e.entry (length older + 1) at);
          noted = ap (λ (n : ℕ). ends_in n c.number x.notes) at ∙ found;
        }

    by : (b : Bool) → is_session c.session x.actor ≡ b → note_of_end c (x ∷ older) ≡ Some e
        → (note_of_end c older ≡ Some e → EndNote (x ∷ older) c e) → EndNote (x ∷ older) c e
    by true s r below =
        here (ends_in (length older + 1) c.number x.notes) refl
        (sym (cond-true (is_session c.session x.actor)
        (first_some (ends_in (length older + 1) c.number x.notes) (note_of_end c older)) (note_of_end c older) s) ∙ r) below
    by false s r below =
        below (sym (cond-false (is_session c.session x.actor)
        (first_some (ends_in (length older + 1) c.number x.notes) (note_of_end c older)) (note_of_end c older) s) ∙ r)

-- the same in a trace that stands oldest first
pub end-at : (trace : List Entry) (c : Caller) (e : CallEnd) → note_of_end c (reverse trace) ≡ Some e
    → (0 < e.entry) × ((x : Entry) × (slice_get trace (e.entry - 1) ≡ Some x) × (ends_in e.entry c.number x.notes ≡ Some e))
end-at trace c e q =
    let r = end-note (reverse trace) c e q in
    (r.low, (r.entry, sym (entry_is trace e.entry r.low) ∙ r.entry_is, r.noted))

-- an entry that is found there has that note
pub same-notes : (x y : Entry) (entry n : ℕ) (o : Option CallEnd) → Some y ≡ Some x → ends_in entry n x.notes ≡ o → ends_in entry n y.notes ≡ o
same-notes x y entry n o e f = let q : y ≡ x = cc in ap (λ (z : Entry). ends_in entry n z.notes) q ∙ f
