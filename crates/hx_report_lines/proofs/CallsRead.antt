-- The lines of calls and of rows that are read are of the space, and are printed so.
use Rattle.std.proofs.Common.{◌≡◌, ℕ, Bool, true, false, cond, not, List, [], ◌∷◌, ◌++◌, drop, Option, None, Some, refl, subst, arith}
use Rattle.std.specs.Prelude.{codes, is_some, nat_eq}
use Rattle.std.specs.List.{starts_with}
use Rattle.std.specs.Option.{option_map}
use Rattle.std.proofs.lemmas.Bool.{ltb-true}
use Rattle.std.proofs.lemmas.List.Elements.{All-nil}
use Rattle.hx_model.specs.Types.{Answer, Op, Row, Space, Value}
use Rattle.hx_types.specs.declared.calls.Answer.TheVariants as an_answer
use Rattle.hx_types.specs.Spaces.{Fits, IsRowOf, IsSpace}
use Rattle.hx_types.specs.Subspaces.{region_count}
use Rattle.hx_law_texts.specs.Sayable.{CallIsSayable}
use Rattle.hx_report.specs.Reporting.{row_line}
use Rattle.hx_report_lines.specs.declared.answers.Answered.{Answered}
use Rattle.hx_report_lines.specs.declared.answers.AnswerWord.{AnswerWord}
use Rattle.hx_report_lines.specs.declared.answers.AnswerWord.TheVariants as answers
use Rattle.hx_report_lines.specs.declared.call_lines.CallHead.{CallHead}
use Rattle.hx_report_lines.specs.declared.call_lines.Span.{Span}
use Rattle.hx_report_lines.specs.Calling.{answer_in, answer_of, answer_word, call_in, call_with, counted, end_in}
use Rattle.hx_report_lines.specs.Calling.{first_number, head_of, head_text, if_ended, is_found, labeled, names_region}
use Rattle.hx_report_lines.specs.Calling.{op_before, op_part, region_exists, row_after, row_in, row_of, row_version}
use Rattle.hx_report_lines.specs.Calling.{second_number, span, with_object, word_and_numbers}
use Rattle.hx_report_lines.specs.Parts.{if_same, object_in, text_in}
use Rattle.hx_report_lines.specs.Readers.{found, number, on_some, piece, up_to, word}
use Rattle.hx_report_lines.specs.Values.{Is64, IsCaller, IsCallOf, MaybeAnswerOf, MaybeIs64, RowIsSayable, VersionFits, has_end}
use Rattle.hx_report_lines.proofs.ItemsRead.{printed, tells_caller}
use Rattle.hx_report_lines.proofs.Taken.{Any, Tells, bound, mapped, some_is, tells_any, tells_check, tells_give, tells_number, tells_then, where_so}
use Rattle.hx_report_lines.proofs.ValuesRead.{object_valid, op_valid, text_valid}

-- ---- answers

-- rows stand on lines of their own
abbrev IsBare : Option Answer → Type 0
IsBare answer = (rows : List Row) → answer ≡ Some (an_answer.Rows rows) → rows ≡ []

-- the answer is of the space and can be said, as far as it is read
record IsAnswered (space : Space) (x : Answered) : Type 0 where
  version : VersionFits x.answer x.version
  answer : MaybeAnswerOf space x.answer
  rows : Is64 x.rows
  bare : IsBare x.answer

-- an object that is empty isn't one of the space: that of a get is read last
abbrev NotFound : AnswerWord → Type 0
NotFound w = is_found w ≡ false

tells_labeled : Tells labeled Is64
unfolding labeled
tells_labeled =
    tells_then Any (tells_any (word (codes " "))) (λ a i.
    tells_then Any (tells_any piece) (λ l j.
    tells_then Any (tells_any (word (codes " "))) (λ b k.
    tells_then Is64 tells_number (λ n n64. tells_give {Q = Is64} n n64))))

tells_counted : Tells counted Is64
unfolding counted
tells_counted = tells_then Any (tells_any (word (codes " "))) (λ a i. tells_then Is64 tells_number (λ n n64. tells_give {Q = Is64} n n64))

small : Is64 0
small = omega arith

tells_first : (w : AnswerWord) → Tells (first_number w) Is64
tells_first answers.Open = tells_give {Q = Is64} 0 small
tells_first answers.Done = tells_labeled
tells_first answers.NotFound = tells_labeled
tells_first answers.CmpFail = tells_labeled
tells_first answers.Overflow = tells_labeled
tells_first answers.TooLong = tells_labeled
tells_first answers.Found = tells_labeled
tells_first answers.Rows = tells_counted
tells_first answers.Refused = tells_labeled
tells_first answers.Doubt = tells_labeled
tells_first answers.Issued = tells_labeled
tells_first answers.Stopped = tells_labeled
tells_first answers.Member = tells_labeled
tells_first answers.Joining = tells_labeled
tells_first answers.Lost = tells_labeled

tells_second : (w : AnswerWord) → Tells (second_number w) Is64
tells_second w = record { at = λ bs x e. by bs x (names_region w) e }
  where
    by : (bs : List ℕ) (x : ℕ × List ℕ) (b : Bool) → cond b (labeled bs) (Some (0, bs)) ≡ Some x → Is64 x.0
    by bs x true e = tells_labeled.at bs x e
    by bs x false e = subst (λ (y : ℕ × List ℕ). Is64 y.0) (some_is (0, bs) x e) small

-- an answer of a word and its numbers, but for the object
abbrev Whole : Space → AnswerWord × Answered → Type 0
Whole space x = (VersionFits x.1.answer x.1.version × Is64 x.1.rows)
    × (is_found x.0 ≡ false → MaybeAnswerOf space x.1.answer)
    × (is_found x.0 ≡ true → (v : List Value) → VersionFits (Some (an_answer.Found v)) x.1.version) × IsBare x.1.answer

whole_of : (space : Space) (w : AnswerWord) (n m : ℕ) → Is64 n → region_exists space w n ≡ true → Is64 m → Whole space (w, answer_of w n m)
whole_of space answers.Open n m n64 r m64 = ((refl, small), (λ f. tt), (λ f. absurd cc), λ rows q. absurd cc)
whole_of space answers.Done n m n64 r m64 = ((n64, small), (λ f. (tt, tt)), (λ f. absurd cc), λ rows q. absurd cc)
whole_of space answers.NotFound n m n64 r m64 = ((n64, small), (λ f. (tt, tt)), (λ f. absurd cc), λ rows q. absurd cc)
whole_of space answers.CmpFail n m n64 r m64 = ((n64, small), (λ f. (tt, tt)), (λ f. absurd cc), λ rows q. absurd cc)
whole_of space answers.Overflow n m n64 r m64 = ((n64, small), (λ f. (tt, tt)), (λ f. absurd cc), λ rows q. absurd cc)
whole_of space answers.TooLong n m n64 r m64 = ((n64, small), (λ f. (tt, tt)), (λ f. absurd cc), λ rows q. absurd cc)
whole_of space answers.Found n m n64 r m64 = ((n64, small), (λ f. absurd cc), (λ f v. n64), λ rows q. absurd cc)
whole_of space answers.Rows n m n64 r m64 = (
  (refl, n64),
  (λ f. (All-nil (IsRowOf space), (small, All-nil RowIsSayable))),
  (λ f. absurd cc),
  λ rows q. let e : an_answer.Rows [] ≡ an_answer.Rows rows = cc in cc,
)
whole_of space answers.Refused n m n64 r m64 = ((refl, small), (λ f. (ltb-true n (region_count space) r, m64)), (λ f. absurd cc), λ rows q. absurd cc)
whole_of space answers.Doubt n m n64 r m64 = ((refl, small), (λ f. (ltb-true n (region_count space) r, m64)), (λ f. absurd cc), λ rows q. absurd cc)
whole_of space answers.Issued n m n64 r m64 = ((refl, small), (λ f. (tt, n64)), (λ f. absurd cc), λ rows q. absurd cc)
whole_of space answers.Stopped n m n64 r m64 = ((refl, small), (λ f. (tt, n64)), (λ f. absurd cc), λ rows q. absurd cc)
whole_of space answers.Member n m n64 r m64 = ((refl, small), (λ f. (tt, n64)), (λ f. absurd cc), λ rows q. absurd cc)
whole_of space answers.Joining n m n64 r m64 = ((refl, small), (λ f. (tt, n64)), (λ f. absurd cc), λ rows q. absurd cc)
whole_of space answers.Lost n m n64 r m64 = ((refl, small), (λ f. (tt, n64)), (λ f. absurd cc), λ rows q. absurd cc)

tells_word_and_numbers : (space : Space) → Tells (word_and_numbers space) (Whole space)
unfolding word_and_numbers
tells_word_and_numbers space =
    tells_then Any (tells_any piece) (λ p i.
    tells_then Any (tells_any (found (answer_word p))) (λ w j.
    tells_then Is64 (tells_first w) (λ n n64.
    tells_then (λ u. region_exists space w n ≡ true) (tells_check (region_exists space w n)) (λ u r.
    tells_then Is64 (tells_second w) (λ m m64.
    tells_give {Q = Whole space} (w, answer_of w n m) (whole_of space w n m n64 r m64))))))

answer_valid : (space : Space) (bytes : List ℕ) (a : Answered) → IsSpace space → answer_in space bytes ≡ Some a → IsAnswered space a
answer_valid space bytes a is e =
    let b = bound (word_and_numbers space bytes) (λ x. with_object space x.0 x.1) a e in
    by b.0.0 b.0.1 ((tells_word_and_numbers space).at bytes b.0 b.1) (is_found b.0.0.0) refl b.2
  where
    by : (x : AnswerWord × Answered) (left : List ℕ) → Whole space x → (f : Bool) → is_found x.0 ≡ f
        → cond f (option_map (λ (o : List Value). record x.1 { answer = Some (an_answer.Found o) })
        (object_in space left)) (Some x.1) ≡ Some a → IsAnswered space a
    by x left w true f g =
        let m = mapped (object_in space left) (λ (o : List Value). record x.1 { answer = Some (an_answer.Found o) }) a g in
        subst (IsAnswered space) m.2 (record { version = w.2 f m.0; answer = object_valid space left m.0 is m.1; rows = w.0.1; bare = λ rows q. absurd cc })
    by x left w false f g = subst (IsAnswered space) (some_is x.1 a g) (record { version = w.0.0; answer = w.1 f; rows = w.0.1; bare = w.3 })

-- ---- calls

record IsSpanned (s : Span) : Type 0 where
  caller : IsCaller s.caller
  begin : Is64 s.begin
  end : MaybeIs64 s.end

tells_end : Tells end_in MaybeIs64
tells_end = record { at = λ bs x e. by bs x (starts_with nat_eq bs (codes "-")) e }
  where
    by : (bs : List ℕ) (x : Option ℕ × List ℕ) (b : Bool)
        → cond b (Some (None, drop 1 bs)) (on_some (number bs) (λ y. Some (Some y.0, y.1))) ≡ Some x → MaybeIs64 x.0
    by bs x true e = subst (λ (y : Option ℕ × List ℕ). MaybeIs64 y.0) (some_is (None, drop 1 bs) x e) tt
    by bs x false e =
        let b = bound (number bs) (λ y. Some (Some y.0, y.1)) x e in
        subst (λ (y : Option ℕ × List ℕ). MaybeIs64 y.0) (some_is (Some b.0.0, b.0.1) x b.2) (tells_number.at bs b.0 b.1)

tells_span : Tells span IsSpanned
unfolding span
tells_span =
    tells_then Any (tells_any (word (codes "call "))) (λ a i.
    tells_then IsCaller tells_caller (λ c is.
    tells_then Any (tells_any (word (codes " begin "))) (λ l j.
    tells_then Is64 tells_number (λ n n64.
    tells_then Any (tells_any (word (codes " end "))) (λ m k.
    tells_then MaybeIs64 tells_end (λ e ended.
    tells_then Any (tells_any (word (codes " "))) (λ b o.
    tells_give {Q = IsSpanned} (record { caller = c; begin = n; end = e }) (record { caller = is; begin = n64; end = ended }))))))))

abbrev Valid : Space → Op → Type 0
Valid space op = Fits space op × CallIsSayable op

op_part_valid : (space : Space) (bytes : List ℕ) (x : Op × List ℕ) → IsSpace space → op_part space bytes ≡ Some x → Valid space x.0
op_part_valid space bytes x is e =
    let b = bound (up_to 62 bytes) (λ y. on_some (op_before space y.0) (λ op. on_some (word (codes "> ") y.1) (λ z. Some (op, z.1)))) x e in
    let c = bound (op_before space b.0.0) (λ op. on_some (word (codes "> ") b.0.1) (λ z. Some (op, z.1))) x b.2 in
    let d = bound (word (codes "> ") b.0.1) (λ z. Some (c.0, z.1)) x c.2 in
    let w = where_so _ _ c.0 c.1 in
    subst (λ (y : Op × List ℕ). Valid space y.0) (some_is (c.0, d.0.1) x d.2) (op_valid space _ c.0 is w.1)

-- a call whose rows have lines of their own
pub record IsHead (space : Space) (h : CallHead) : Type 0 where
  pub call : IsCallOf space h.call
  pub rows : Is64 h.rows
  pub bare : (rows : List Row) → h.call.answer ≡ Some (an_answer.Rows rows) → rows ≡ []

same_bools : (a b : Bool) → (h o : CallHead) → cond (cond a b (not b)) (Some h) None ≡ Some o → (a ≡ b) × (h ≡ o)
same_bools true true h o e = (refl, some_is h o e)
same_bools true false h o e = absurd cc
same_bools false true h o e = absurd cc
same_bools false false h o e = (refl, some_is h o e)

ended : (h o : CallHead) → if_ended h ≡ Some o → (is_some h.call.end ≡ has_end h.call.answer) × (h ≡ o)
ended h o e = same_bools (is_some h.call.end) (has_end h.call.answer) h o e

pub head_valid : (space : Space) (line : List ℕ) (h : CallHead) → IsSpace space → head_of space line ≡ Some h
    → IsHead space h × (head_text space h ≡ line ++ 10 ∷ [])
unfolding head_of
head_valid space line h is e =
    let o = bound (call_in space line) (if_same (head_text space) line) h e in
    let p = printed (head_text space) line o.0 h o.2 in
    let s = bound (span line) (λ x. on_some (op_part space x.1) (λ y. on_some (answer_in space y.1) (λ a. if_ended (call_with x.0 y.0 a)))) o.0 o.1 in
    let q = bound (op_part space s.0.1) (λ y. on_some (answer_in space y.1) (λ a. if_ended (call_with s.0.0 y.0 a))) o.0 s.2 in
    let a = bound (answer_in space q.0.1) (λ a. if_ended (call_with s.0.0 q.0.0 a)) o.0 q.2 in
    let t = ended (call_with s.0.0 q.0.0 a.0) o.0 a.2 in
    let spanned = tells_span.at line s.0 s.1 in
    let op = op_part_valid space s.0.1 q.0 is q.1 in
    let answered = answer_valid space q.0.1 a.0 is a.1 in
    let call : IsCallOf space (call_with s.0.0 q.0.0 a.0).call = record {
      caller = spanned.caller;
      begin = spanned.begin;
      end = spanned.end;
      ended = t.0;
      op = op.0;
      said = op.1;
      version = answered.version;
      answer = answered.answer;
    } in
    (subst (IsHead space) p.0 (subst (IsHead space) t.1 (record { call = call; rows = answered.rows; bare = answered.bare })), p.1)

-- ---- rows

pub record IsRow (space : Space) (r : Row) : Type 0 where
  pub of : IsRowOf space r
  pub said : RowIsSayable r

tells_row_version : Tells row_version Is64
unfolding row_version
tells_row_version = tells_then Any (tells_any (word (codes " version "))) (λ a i. tells_then Is64 tells_number (λ n n64. tells_give {Q = Is64} n n64))

row_in_valid : (space : Space) (line : List ℕ) (r : Row) → IsSpace space → row_in space line ≡ Some r → IsRow space r
row_in_valid space line r is e =
    let b = bound (word (codes "row ") line) (λ x. on_some (up_to 32 x.1) (λ y. on_some (text_in space y.0) (λ key. row_after space key y.1))) r e in
    let u = bound (up_to 32 b.0.1) (λ y. on_some (text_in space y.0) (λ key. row_after space key y.1)) r b.2 in
    let k = bound (text_in space u.0.0) (λ key. row_after space key u.0.1) r u.2 in
    let v = bound (row_version u.0.1) (λ x. option_map
    (λ (o : List Value). record { key = k.0; version = record { 0 = x.0 }; object = o }) (object_in space x.1)) r k.2 in
    let m = mapped (object_in space v.0.1) (λ (o : List Value). record { key = k.0; version = record { 0 = v.0.0 }; object = o }) r v.2 in
    let key = text_valid space u.0.0 k.0 is k.1 in
    let object = object_valid space v.0.1 m.0 is m.1 in
    subst (IsRow space) m.2 (record {
      of = record { key = key.0; object = object.0 };
      said = record { key = key.1; version = tells_row_version.at u.0.1 v.0 v.1; object = object.1 };
    })

pub row_valid : (space : Space) (line : List ℕ) (r : Row) → IsSpace space → row_of space line ≡ Some r → IsRow space r × (row_line space r ≡ line ++ 10 ∷ [])
unfolding row_of
row_valid space line r is e =
    let o = bound (row_in space line) (if_same (row_line space) line) r e in
    let p = printed (row_line space) line o.0 r o.2 in
    (subst (IsRow space) p.0 (row_in_valid space line o.0 is o.1), p.1)
