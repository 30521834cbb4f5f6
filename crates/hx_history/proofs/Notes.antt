-- What notes say of a call.
use Rattle.std.proofs.Common.{◌≡◌, ℕ, ◌+◌, Bool, true, false, ◌&&◌, ◌||◌, cond, List, [], ◌∷◌, ◌++◌, Option, Some, None, length, refl, ap, ◌∙◌}
use Rattle.std.proofs.lemmas.Bool.Decides.{Decides-eqb}
use Rattle.std.specs.Option.{option_map}
use Rattle.std.specs.Prelude.{◌==◌}
use Rattle.hx_model.specs.Types.{Caller, Entry, Note, SessionId}
use Rattle.hx_types.specs.declared.traces.Note.TheVariants as a_note
use Rattle.hx_types.specs.Words.{first_some}
use Rattle.hx_model.specs.Histories.{CallEnd, begin_of, begins_in, ends_in, is_session, note_of_end}
use Rattle.hx_history.specs.declared.call_notes.Begin.{Begin}
use Rattle.hx_history.specs.Calls.{CallSpan, after_entry, after_note, after_notes, notes_of}

pub after_notes_more : (u : SessionId) (entry n : ℕ) (notes : List Note) (note : Note) (s : CallSpan)
    → after_notes u entry n (notes ++ note ∷ []) s ≡ after_notes u entry n notes (after_note u entry n note s)
after_notes_more u entry n [] note s = refl
after_notes_more u entry n (x ∷ notes) note s = ap (after_note u entry n x) (after_notes_more u entry n notes note s)

-- the call with this begin, if it begins, and this end, if it ends
abbrev told_of : SessionId → ℕ → ℕ → Bool → Option CallEnd → CallSpan → CallSpan
told_of u entry n begun end s =
    record {
      begin = cond begun (Some (record { caller = record { session = u; number = n }; entry = entry })) s.begin;
      end = first_some end s.end;
    }

begin_before : (u : SessionId) (entry m n : ℕ) (b begun : Bool) (end : Option CallEnd) (s : CallSpan) → (b ≡ true → m ≡ n)
    → cond b (record {
      begin = Some (record { caller = record { session = u; number = m }; entry = entry });
      end = first_some end s.end;
    }) (told_of u entry n begun end s)
    ≡ told_of u entry n (b || begun) end s
begin_before u entry m n true begun end s same =
    ap (λ (k : ℕ). told_of u entry k true end s) (same refl)
begin_before u entry m n false begun end s same = refl

end_before : (u : SessionId) (entry n : ℕ) (b begun : Bool) (now end : Option CallEnd) (e : CallEnd) (s : CallSpan)
    → cond b (record { begin = (told_of u entry n begun end s).begin; end = Some e }) (told_of u entry n begun end s)
    ≡ told_of u entry n begun (cond b (Some e) end) s
end_before u entry n true begun now end e s = refl
end_before u entry n false begun now end e s = refl

-- the notes of an entry say of a call whether they begin it, and its first end among them
pub after_notes_are : (u : SessionId) (entry n : ℕ) (notes : List Note) (s : CallSpan)
    → after_notes u entry n notes s ≡ told_of u entry n (begins_in n notes) (ends_in entry n notes) s
after_notes_are u entry n [] s = refl
after_notes_are u entry n (a_note.Began m ∷ notes) s =
    ap (after_note u entry n (a_note.Began m)) (after_notes_are u entry n notes s)
    ∙ begin_before u entry m n (m == n) (begins_in n notes) (ends_in entry n notes) s (Decides-eqb m n).0
after_notes_are u entry n (a_note.Ended m version answer ∷ notes) s =
    ap (after_note u entry n (a_note.Ended m version answer)) (after_notes_are u entry n notes s)
    ∙ end_before u entry n (m == n) (begins_in n notes) None (ends_in entry n notes) (record { entry = entry; version = version; answer = answer }) s
after_notes_are u entry n (a_note.Assigned update ∷ notes) s = after_notes_are u entry n notes s
after_notes_are u entry n (a_note.Issued config ∷ notes) s = after_notes_are u entry n notes s

-- one more entry, whose number is one more than those before
pub notes_of_more : (c : Caller) (x : Entry) (older : List Entry) → after_entry c (length older + 1) x (notes_of c older) ≡ notes_of c (x ∷ older)
notes_of_more c x older = by_actor (is_session c.session x.actor)
  where
    begun : ℕ → Begin
    begun entry = record { caller = c; entry = entry }

    by_begun : (b : Bool) → cond b (Some (begun (length older + 1))) (option_map begun (begin_of c older))
        ≡ option_map begun (cond b (Some (length older + 1)) (begin_of c older))
    by_begun true = refl
    by_begun false = refl

    by_actor : (b : Bool)
        → cond b (after_notes c.session (length older + 1) c.number x.notes (notes_of c older)) (notes_of c older)
        ≡ record {
          begin = option_map begun (cond (b && begins_in c.number x.notes) (Some (length older + 1)) (begin_of c older));
          end = cond b (first_some (ends_in (length older + 1) c.number x.notes) (note_of_end c older)) (note_of_end c older);
        }
    by_actor true =
        after_notes_are c.session (length older + 1) c.number x.notes (notes_of c older)
        ∙ ap (λ (b : Option Begin). record {
          begin = b;
          end = first_some (ends_in (length older + 1) c.number x.notes) (note_of_end c older);
        })
        (by_begun (begins_in c.number x.notes))
    by_actor false = refl
