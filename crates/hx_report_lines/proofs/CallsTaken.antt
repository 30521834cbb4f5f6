-- Lines of calls and of rows that are printed are read again.
use Rattle.std.proofs.Common.{◌≡◌, ℕ, ◌+◌, ◌-◌, ◌<◌, ◌≤◌, Bool, true, false, cond, not, List, [], ◌∷◌}
use Rattle.std.proofs.Common.{◌++◌, length, take, drop, eqb, ltb, Option, None, Some, refl, sym, ap, subst, ◌∙◌}
use Rattle.std.proofs.Common.{arith}
use Rattle.std.specs.Prelude.{codes, is_some}
use Rattle.std.specs.Fmt.{decimal}
use Rattle.std.specs.List.{list_all}
use Rattle.std.specs.Option.{option_map}
use Rattle.std.proofs.lemmas.Bool.{le-leb, lt-ltb}
use Rattle.std.proofs.lemmas.Fmt.{decimal_nonempty}
use Rattle.std.proofs.lemmas.List.{append_assoc, append-nil, drop_at, length-append, take_at}
use Rattle.hx_lex.specs.Letters.{begins_with, is_digit}
use Rattle.hx_model.specs.Types.{Answer, Attribute, Op, Row, Space, Value, Version}
use Rattle.hx_types.specs.declared.calls.Answer.TheVariants as an_answer
use Rattle.hx_types.specs.declared.limits.TheConstants.{MOST_REGIONS}
use Rattle.hx_types.specs.Spaces.{Fits, IsObjectOf, IsSpace}
use Rattle.hx_types.specs.Subspaces.{region_count}
use Rattle.hx_law_texts.specs.Sayable.{CallIsSayable}
use Rattle.hx_law_texts.proofs.Lemmas.{decimal_digits}
use Rattle.hx_print.specs.Printing.{caller_text, named_text, op_text, quoted}
use Rattle.hx_report.specs.Reporting.{answer_lines, end_text, found_line, in_epoch_line, maybe_answer_lines}
use Rattle.hx_report.specs.Reporting.{object_text, region_line, row_line, version_line, version_text}
use Rattle.hx_report_lines.specs.declared.answers.Answered.{Answered}
use Rattle.hx_report_lines.specs.declared.answers.AnswerWord.{AnswerWord}
use Rattle.hx_report_lines.specs.declared.answers.AnswerWord.TheVariants as answers
use Rattle.hx_report_lines.specs.declared.call_lines.CallHead.{CallHead}
use Rattle.hx_report_lines.specs.declared.call_lines.Span.{Span}
use Rattle.hx_report_lines.specs.declared.calls.CallLine.{CallLine}
use Rattle.hx_report_lines.specs.declared.cursor.Place.TheVariants.{Outside}
use Rattle.hx_report_lines.specs.Calling.{answer_in, answer_of, answer_word, call_in, call_with, counted, end_in}
use Rattle.hx_report_lines.specs.Calling.{first_number, head_lines, head_of, head_text, if_ended, is_found, labeled}
use Rattle.hx_report_lines.specs.Calling.{names_region, op_before, op_part, region_exists, row_after, row_in, row_of}
use Rattle.hx_report_lines.specs.Calling.{row_version, second_number, span, with_object, word_and_numbers}
use Rattle.hx_report_lines.specs.Parts.{caller, if_same, object_in, op_in, text_in}
use Rattle.hx_report_lines.specs.Printed.{called_text, span_text}
use Rattle.hx_report_lines.specs.Readers.{◌>>=◌, Reader, check, found, give, number, on_some, outside_from, up_to, word}
use Rattle.hx_report_lines.specs.Values.{Is64, IsCaller, IsCallOf, MaybeAnswerOf, MaybeIs64, ObjectIsSayable, VersionFits, has_end}
use Rattle.hx_report_lines.proofs.CallsRead.{IsRow}
use Rattle.hx_report_lines.proofs.EpochsTaken.{no_minus}
use Rattle.hx_report_lines.proofs.Scans.{Runs, op_runs, quoted_passes}
use Rattle.hx_report_lines.proofs.Takes.{Takes, assoc3, assoc4, assoc6, caller_takes, check_takes, found_takes, kept}
use Rattle.hx_report_lines.proofs.Takes.{number_takes, piece_takes, takes_give, takes_then, word_takes}
use Rattle.hx_report_lines.proofs.ValuesTaken.{object_taken, op_taken, text_taken}

-- ---- answers

-- an answer whose rows, if it has any, stand on lines of their own
abbrev pub bare_answer : Option Answer → Option Answer
bare_answer (Some (an_answer.Rows rows)) = Some (an_answer.Rows [])
bare_answer other = other

-- how many rows follow
abbrev pub rows_after : Option Answer → ℕ
rows_after (Some (an_answer.Rows rows)) = length rows
rows_after other = 0

-- the first line of an answer, without its newline
unfoldable pub answer_line : Space → Version → Option Answer → List ℕ
answer_line space version None = codes "open"
answer_line space version (Some an_answer.Done) = version_text (codes "done") version
answer_line space version (Some an_answer.NotFound) = version_text (codes "notfound") version
answer_line space version (Some an_answer.CmpFail) = version_text (codes "cmpfail") version
answer_line space version (Some an_answer.Overflow) = version_text (codes "overflow") version
answer_line space version (Some an_answer.TooLong) = version_text (codes "toolong") version
answer_line space version (Some (an_answer.Found object)) = version_text (codes "found") version ++ object_text space.attributes object
answer_line space version (Some (an_answer.Rows rows)) = codes "rows " ++ decimal (length rows)
answer_line space version (Some (an_answer.Refused region epoch)) =
    codes "refused" ++ codes " region " ++ decimal region.0 ++ codes " epoch " ++ decimal epoch.0
answer_line space version (Some (an_answer.Doubt region epoch)) = codes "doubt" ++ codes " region " ++ decimal region.0 ++ codes " epoch " ++ decimal epoch.0
answer_line space version (Some (an_answer.Issued epoch)) = codes "issued" ++ codes " epoch " ++ decimal epoch.0
answer_line space version (Some (an_answer.Stopped epoch)) = codes "stopped" ++ codes " epoch " ++ decimal epoch.0
answer_line space version (Some (an_answer.Member epoch)) = codes "member" ++ codes " epoch " ++ decimal epoch.0
answer_line space version (Some (an_answer.Joining epoch)) = codes "joining" ++ codes " epoch " ++ decimal epoch.0
answer_line space version (Some (an_answer.Lost epoch)) = codes "lost" ++ codes " epoch " ++ decimal epoch.0

-- what is printed of the first line
pub answer_printed : (space : Space) (version : Version) (answer : Option Answer)
    → head_lines space version (bare_answer answer) (rows_after answer) ≡ answer_line space version answer ++ 10 ∷ []
unfolding answer_line answer_lines maybe_answer_lines version_line found_line region_line in_epoch_line
answer_printed space version None = refl
answer_printed space version (Some (an_answer.Rows rows)) = refl
answer_printed space version (Some other) = refl

-- a blank, a label, a blank and a number
labeled_takes : (label : List ℕ) (n : ℕ) (rest : List ℕ) → list_all (λ b. not (eqb b 32)) label ≡ true → Is64 n
    → begins_with is_digit rest ≡ false → Takes labeled (codes " " ++ (label ++ (codes " " ++ (decimal n ++ rest)))) n rest
unfolding labeled
labeled_takes label n rest whole n64 stop =
    let tail : List ℕ = decimal n ++ rest in
    takes_then _ tt (label ++ (codes " " ++ tail)) (word_takes (codes " ") (label ++ (codes " " ++ tail)))
    (takes_then (λ l. word (codes " ") >>= (λ after. number >>= (λ m. give m))) label (codes " " ++ tail) (piece_takes label tail whole)
    (takes_then _ tt tail (word_takes (codes " ") tail)
    (takes_then _ n rest (number_takes n rest n64 stop) (takes_give n rest))))

counted_takes : (n : ℕ) (rest : List ℕ) → Is64 n → begins_with is_digit rest ≡ false → Takes counted (codes " " ++ (decimal n ++ rest)) n rest
unfolding counted
counted_takes n rest n64 stop =
    takes_then _ tt (decimal n ++ rest) (word_takes (codes " ") (decimal n ++ rest))
    (takes_then _ n rest (number_takes n rest n64 stop) (takes_give n rest))

-- the word of an answer is known, has no blank and is followed by a labeled number
record IsLabeled (p : List ℕ) (w : AnswerWord) : Type 0 where
  known : answer_word p ≡ Some w
  whole : list_all (λ b. not (eqb b 32)) p ≡ true
  first : first_number w ≡ labeled

second_none : (w : AnswerWord) (rest : List ℕ) → names_region w ≡ false → Takes (second_number w) rest 0 rest
second_none w rest h = record { at = ap (λ b. cond b (labeled rest) (Some (0, rest))) h }

second_named : (w : AnswerWord) (m : ℕ) → names_region w ≡ true → Is64 m
    → Takes (second_number w) (codes " " ++ (codes "epoch" ++ (codes " " ++ (decimal m ++ [])))) m []
second_named w m h m64 =
    let bytes : List ℕ = codes " " ++ (codes "epoch" ++ (codes " " ++ (decimal m ++ []))) in
    record { at = ap (λ b. cond b (labeled bytes) (Some (0, bytes))) h ∙ (labeled_takes (codes "epoch") m [] refl m64 refl).at }

no_region : (space : Space) (w : AnswerWord) (n : ℕ) → names_region w ≡ false → region_exists space w n ≡ true
no_region space w n h = ap (λ b. cond b (ltb n (region_count space)) true) h

-- a word that no region follows, and what stands behind it
with_first : (space : Space) (p : List ℕ) (w : AnswerWord) (n : ℕ) (tail rest : List ℕ) → answer_word p ≡ Some w
    → list_all (λ b. not (eqb b 32)) p ≡ true → names_region w ≡ false → Takes (first_number w) (codes " " ++ tail) n rest
    → Takes (word_and_numbers space) (p ++ (codes " " ++ tail)) (w, answer_of w n 0) rest
unfolding word_and_numbers
with_first space p w n tail rest known whole none first =
    takes_then (λ q. found (answer_word q) >>= (λ x. first_number x >>=
    (λ k. check (region_exists space x k) >>= (λ u. second_number x >>= (λ l. give (x, answer_of x k l)))))) p
    (codes " " ++ tail) (piece_takes p tail whole)
    (takes_then _ w (codes " " ++ tail) (found_takes (answer_word p) w (codes " " ++ tail) known)
    (takes_then _ n rest first
    (takes_then _ tt rest (check_takes (region_exists space w n) rest (no_region space w n none))
    (takes_then _ 0 rest (second_none w rest none) (takes_give (w, answer_of w n 0) rest)))))

numbered : (space : Space) (p : List ℕ) (w : AnswerWord) (label : List ℕ) (n : ℕ) (rest : List ℕ) → IsLabeled p w
    → names_region w ≡ false → list_all (λ b. not (eqb b 32)) label ≡ true → Is64 n → begins_with is_digit rest ≡ false
    → Takes (word_and_numbers space) (p ++ (codes " " ++ (label ++ (codes " " ++ (decimal n ++ rest))))) (w, answer_of w n 0) rest
numbered space p w label n rest is none whole n64 stop =
    let tail : List ℕ = label ++ (codes " " ++ (decimal n ++ rest)) in
    with_first space p w n tail rest is.known is.whole none
    (subst (λ (r : Reader ℕ). Takes r (codes " " ++ tail) n rest) (sym is.first) (labeled_takes label n rest whole n64 stop))

regional : (space : Space) (p : List ℕ) (w : AnswerWord) (n m : ℕ) → IsLabeled p w → names_region w ≡ true → n < region_count space → Is64 n → Is64 m
    → Takes (word_and_numbers space) (p ++ (codes " "
    ++ (codes "region" ++ (codes " " ++ (decimal n ++ (codes " " ++ (codes "epoch" ++ (codes " " ++ (decimal m ++ []))))))))) (w, answer_of w n m) []
unfolding word_and_numbers
regional space p w n m is named below n64 m64 =
    let second : List ℕ = codes " " ++ (codes "epoch" ++ (codes " " ++ (decimal m ++ []))) in
    let tail : List ℕ = codes "region" ++ (codes " " ++ (decimal n ++ second)) in
    takes_then (λ q. found (answer_word q) >>= (λ x. first_number x >>=
    (λ k. check (region_exists space x k) >>= (λ u. second_number x >>= (λ l. give (x, answer_of x k l)))))) p
    (codes " " ++ tail) (piece_takes p tail is.whole)
    (takes_then _ w (codes " " ++ tail) (found_takes (answer_word p) w (codes " " ++ tail) is.known)
    (takes_then _ n second (subst (λ (r : Reader ℕ). Takes r (codes " " ++ tail) n second) (sym is.first)
    (labeled_takes (codes "region") n second refl n64 refl))
    (takes_then _ tt second (check_takes (region_exists space w n) second
    (ap (λ b. cond b (ltb n (region_count space)) true) named ∙ lt-ltb n (region_count space) below))
    (takes_then _ m [] (second_named w m named m64)
    (takes_give (w, answer_of w n m) [])))))

-- what is read of the first line of an answer
abbrev read_answer : Version → Option Answer → Answered
read_answer version answer = record { version = version; answer = bare_answer answer; rows = rows_after answer }

-- ` version V` behind a word
version_parts : (word : List ℕ) (version : Version) (rest : List ℕ)
    → version_text word version ++ rest ≡ word ++ (codes " " ++ (codes "version" ++ (codes " " ++ (decimal version.0 ++ rest))))
unfolding version_text
version_parts word version rest = append_assoc (word ++ codes " version ") (decimal version.0) rest
    ∙ append_assoc word (codes " version ") (decimal version.0 ++ rest)

versioned : (space : Space) (p : List ℕ) (w : AnswerWord) (version : Version) (rest : List ℕ) → IsLabeled p w
    → names_region w ≡ false → Is64 version.0 → begins_with is_digit rest ≡ false
    → word_and_numbers space (version_text p version ++ rest) ≡ Some ((w, answer_of w version.0 0), rest)
versioned space p w version rest is none v64 stop =
    ap (word_and_numbers space) (version_parts p version rest)
    ∙ (numbered space p w (codes "version") version.0 rest is none refl v64 stop).at

-- with a version, and nothing behind it
plainly : (space : Space) (p : List ℕ) (w : AnswerWord) (version : Version) → IsLabeled p w → names_region w ≡ false
    → is_found w ≡ false → Is64 version.0 → answer_in space (version_text p version) ≡ Some (answer_of w version.0 0)
plainly space p w version is none bare v64 =
    ap (answer_in space) (sym (append-nil (version_text p version)))
    ∙ ap (λ o. on_some o (λ x. with_object space x.0 x.1)) (versioned space p w version [] is none v64 refl)
    ∙ ap (λ b. cond b (option_map (λ (o : List Value). record (answer_of w version.0 0)
    { answer = Some (an_answer.Found o) }) (object_in space [])) (Some (answer_of w version.0 0))) bare

-- ` epoch E` behind a word
in_epoch : (space : Space) (p : List ℕ) (w : AnswerWord) (n : ℕ) → IsLabeled p w → names_region w ≡ false
    → is_found w ≡ false → Is64 n → answer_in space (p ++ codes " epoch " ++ decimal n) ≡ Some (answer_of w n 0)
in_epoch space p w n is none bare n64 =
    let parts : p ++ codes " epoch " ++ decimal n ≡ p ++ (codes " " ++ (codes "epoch" ++ (codes " " ++ (decimal n ++ [])))) =
    append_assoc p (codes " epoch ") (decimal n) ∙ ap (λ t. p ++ (codes " epoch " ++ t)) (sym (append-nil (decimal n))) in
    ap (answer_in space) parts
    ∙ ap (λ o. on_some o (λ x. with_object space x.0 x.1)) (numbered space p w (codes "epoch") n [] is none refl n64 refl).at
    ∙ ap (λ b. cond b (option_map (λ (o : List Value). record (answer_of w n 0) { answer = Some (an_answer.Found o) })
    (object_in space [])) (Some (answer_of w n 0))) bare

small_region : (most n : ℕ) → most ≤ MOST_REGIONS → n < most → Is64 n
small_region most n few below = omega (arith, few, below)

in_region : (space : Space) (p : List ℕ) (w : AnswerWord) (n m : ℕ) → IsSpace space → IsLabeled p w
    → names_region w ≡ true → is_found w ≡ false → n < region_count space → Is64 m
    → answer_in space (p ++ codes " region " ++ decimal n ++ codes " epoch " ++ decimal m) ≡ Some (answer_of w n m)
in_region space p w n m valid is named bare below m64 =
    let parts : p ++ codes " region " ++ decimal n ++ codes " epoch " ++ decimal m ≡ p
    ++ (codes " " ++ (codes "region" ++ (codes " " ++ (decimal n ++ (codes " " ++ (codes "epoch" ++ (codes " " ++ (decimal m ++ [])))))))) =
    append_assoc (p ++ codes " region " ++ decimal n) (codes " epoch ") (decimal m)
    ∙ append_assoc (p ++ codes " region ") (decimal n) (codes " epoch " ++ decimal m)
    ∙ append_assoc p (codes " region ") (decimal n ++ (codes " epoch " ++ decimal m))
    ∙ ap (λ t. p ++ (codes " region " ++ (decimal n ++ (codes " epoch " ++ t)))) (sym (append-nil (decimal m))) in
    ap (answer_in space) parts
    ∙ ap (λ o. on_some o (λ x. with_object space x.0 x.1))
    (regional space p w n m is named below (small_region (region_count space) n valid.regions below) m64).at
    ∙ ap (λ b. cond b (option_map (λ (o : List Value). record (answer_of w n m) { answer = Some (an_answer.Found o) })
    (object_in space [])) (Some (answer_of w n m))) bare

abbrev read_so : Version → Option Answer → ℕ → Option Answered
read_so version answer n = Some (record { version = version; answer = answer; rows = n })

-- the version of an answer that names none
unversioned : (version : Version) (answer : Option Answer) (n : ℕ) → version.0 ≡ 0 → read_so (record { 0 = 0 }) answer n ≡ read_so version answer n
unversioned version answer n e = ap (λ v. read_so (record { 0 = v }) answer n) (sym e)

rows_read : (space : Space) (n : ℕ) → Is64 n → answer_in space (codes "rows " ++ decimal n) ≡ Some (answer_of answers.Rows n 0)
rows_read space n n64 =
    let t = with_first space (codes "rows") answers.Rows n (decimal n ++ []) [] refl refl refl (counted_takes n [] n64 refl) in
    ap (λ d. answer_in space (codes "rows " ++ d)) (sym (append-nil (decimal n))) ∙ ap (λ o. on_some o (λ x. with_object space x.0 x.1)) t.at

open_read : (space : Space) → answer_in space (codes "open") ≡ Some (answer_of answers.Open 0 0)
unfolding word_and_numbers
open_read space = refl

no_digit : (declared : List Attribute) (object : List Value) → begins_with is_digit (object_text declared object) ≡ false
unfolding object_text named_text
no_digit [] object = refl
no_digit (a ∷ more) [] = refl
no_digit (a ∷ more) (v ∷ object) = refl

found_read : (space : Space) (version : Version) (object : List Value) → IsSpace space → Is64 version.0 → IsObjectOf space object → ObjectIsSayable object
    → answer_in space (version_text (codes "found") version ++ object_text space.attributes object)
    ≡ Some (record { version = version; answer = Some (an_answer.Found object); rows = 0 })
found_read space version object valid v64 of said =
    let rest : List ℕ = object_text space.attributes object in
    ap (λ o. on_some o (λ x. with_object space x.0 x.1))
    (versioned space (codes "found") answers.Found version rest
    (record { known = refl; whole = refl; first = refl }) refl v64 (no_digit space.attributes object))
    ∙ ap (option_map (λ (o : List Value). record (answer_of answers.Found version.0 0)
    { answer = Some (an_answer.Found o) })) (object_taken space object valid of said)

answer_taken : (space : Space) (version : Version) (answer : Option Answer) → IsSpace space
    → VersionFits answer version → MaybeAnswerOf space answer
    → answer_in space (answer_line space version answer) ≡ Some (read_answer version answer)
unfolding answer_line
answer_taken space version None valid fits of = open_read space ∙ unversioned version None 0 fits
answer_taken space version (Some an_answer.Done) valid fits of =
    plainly space (codes "done") answers.Done version (record { known = refl; whole = refl; first = refl }) refl refl fits
answer_taken space version (Some an_answer.NotFound) valid fits of =
    plainly space (codes "notfound") answers.NotFound version (record { known = refl; whole = refl; first = refl }) refl refl fits
answer_taken space version (Some an_answer.CmpFail) valid fits of =
    plainly space (codes "cmpfail") answers.CmpFail version (record { known = refl; whole = refl; first = refl }) refl refl fits
answer_taken space version (Some an_answer.Overflow) valid fits of =
    plainly space (codes "overflow") answers.Overflow version (record { known = refl; whole = refl; first = refl }) refl refl fits
answer_taken space version (Some an_answer.TooLong) valid fits of =
    plainly space (codes "toolong") answers.TooLong version (record { known = refl; whole = refl; first = refl }) refl refl fits
answer_taken space version (Some (an_answer.Found object)) valid fits of = found_read space version object valid fits of.0 of.1
answer_taken space version (Some (an_answer.Rows rows)) valid fits of =
    rows_read space (length rows) of.1.0 ∙ unversioned version (Some (an_answer.Rows [])) (length rows) fits
answer_taken space version (Some (an_answer.Refused region epoch)) valid fits of =
    in_region space (codes "refused") answers.Refused region.0 epoch.0 valid
    (record { known = refl; whole = refl; first = refl }) refl refl of.0 of.1
    ∙ unversioned version (Some (an_answer.Refused region epoch)) 0 fits
answer_taken space version (Some (an_answer.Doubt region epoch)) valid fits of =
    in_region space (codes "doubt") answers.Doubt region.0 epoch.0 valid
    (record { known = refl; whole = refl; first = refl }) refl refl of.0 of.1
    ∙ unversioned version (Some (an_answer.Doubt region epoch)) 0 fits
answer_taken space version (Some (an_answer.Issued epoch)) valid fits of =
    in_epoch space (codes "issued") answers.Issued epoch.0
    (record { known = refl; whole = refl; first = refl }) refl refl of.1
    ∙ unversioned version (Some (an_answer.Issued epoch)) 0 fits
answer_taken space version (Some (an_answer.Stopped epoch)) valid fits of =
    in_epoch space (codes "stopped") answers.Stopped epoch.0
    (record { known = refl; whole = refl; first = refl }) refl refl of.1
    ∙ unversioned version (Some (an_answer.Stopped epoch)) 0 fits
answer_taken space version (Some (an_answer.Member epoch)) valid fits of =
    in_epoch space (codes "member") answers.Member epoch.0
    (record { known = refl; whole = refl; first = refl }) refl refl of.1
    ∙ unversioned version (Some (an_answer.Member epoch)) 0 fits
answer_taken space version (Some (an_answer.Joining epoch)) valid fits of =
    in_epoch space (codes "joining") answers.Joining epoch.0
    (record { known = refl; whole = refl; first = refl }) refl refl of.1
    ∙ unversioned version (Some (an_answer.Joining epoch)) 0 fits
answer_taken space version (Some (an_answer.Lost epoch)) valid fits of =
    in_epoch space (codes "lost") answers.Lost epoch.0
    (record { known = refl; whole = refl; first = refl }) refl refl of.1
    ∙ unversioned version (Some (an_answer.Lost epoch)) 0 fits

-- ---- calls

end_takes : (end : Option ℕ) (rest : List ℕ) → MaybeIs64 end → begins_with is_digit rest ≡ false → Takes end_in (end_text end ++ rest) end rest
unfolding end_text
end_takes None rest is stop = record { at = refl }
end_takes (Some n) rest is stop = record {
  at =
      ap (λ b. cond b (Some (None, drop 1 (decimal n ++ rest)))
      (on_some (number (decimal n ++ rest)) (λ x. Some (Some x.0, x.1))))
      (no_minus (decimal n) rest (decimal_digits n is) (decimal_nonempty n is))
      ∙ ap (λ o. on_some o (λ x. Some (Some x.0, x.1))) (number_takes n rest is stop).at;
}

span_at : (c : CallLine) (rest : List ℕ) → IsCaller c.caller → Is64 c.begin → MaybeIs64 c.end
    → Takes span (codes "call " ++ (caller_text c.caller
    ++ (codes " begin " ++ (decimal c.begin ++ (codes " end " ++ (end_text c.end ++ (codes " " ++ rest)))))))
    (record { caller = c.caller; begin = c.begin; end = c.end }) rest
unfolding span
span_at c rest caller begin end =
    let t3 : List ℕ = codes " " ++ rest in
    let t2 : List ℕ = end_text c.end ++ t3 in
    let t1 : List ℕ = decimal c.begin ++ (codes " end " ++ t2) in
    let t0 : List ℕ = caller_text c.caller ++ (codes " begin " ++ t1) in
    takes_then _ tt t0 (word_takes (codes "call ") t0)
    (takes_then _ c.caller (codes " begin " ++ t1) (caller_takes c.caller (codes " begin " ++ t1) caller refl)
    (takes_then _ tt t1 (word_takes (codes " begin ") t1)
    (takes_then _ c.begin (codes " end " ++ t2) (number_takes c.begin (codes " end " ++ t2) begin refl)
    (takes_then _ tt t2 (word_takes (codes " end ") t2)
    (takes_then _ c.end t3 (end_takes c.end t3 end refl)
    (takes_then _ tt rest (word_takes (codes " ") rest) (takes_give _ rest)))))))

span_takes : (c : CallLine) (rest : List ℕ) → IsCaller c.caller → Is64 c.begin → MaybeIs64 c.end
    → Takes span (span_text c ++ (codes " " ++ rest)) (record { caller = c.caller; begin = c.begin; end = c.end }) rest
unfolding span_text
span_takes c rest caller begin end =
    subst (λ bs. Takes span bs (record { caller = c.caller; begin = c.begin; end = c.end }) rest)
    (sym (assoc6 (codes "call ") (caller_text c.caller) (codes " begin ") (decimal c.begin) (codes " end ")
    (end_text c.end) (codes " " ++ rest))) (span_at c rest caller begin end)

-- a call, and ` -> ` behind it
up_to_arrow : (w rest : List ℕ) → Runs w → up_to 62 (w ++ (codes " -> " ++ rest)) ≡ Some (w ++ codes " -", codes "> " ++ rest)
up_to_arrow w rest is =
    let bytes : List ℕ = w ++ (codes " -> " ++ rest) in
    let front : List ℕ = w ++ codes " -" in
    let split : bytes ≡ front ++ (codes "> " ++ rest) = sym (append_assoc w (codes " -") (codes "> " ++ rest)) in
    let n : outside_from 62 Outside bytes ≡ length front = is.passes (codes " -> " ++ rest) ∙ sym (length-append w (codes " -")) in
    ap (λ m. Some (take m bytes, drop m bytes)) n
    ∙ ap (λ bs. Some (take (length front) bs, drop (length front) bs)) split
    ∙ ap (λ x. Some (x, drop (length front) (front ++ (codes "> " ++ rest)))) (take_at front (codes "> " ++ rest) (length front) refl)
    ∙ ap (λ x. Some (front, x)) (drop_at front (codes "> " ++ rest) (length front) refl)

before_arrow : (space : Space) (w : List ℕ) → op_before space (w ++ codes " -") ≡ op_in space w
before_arrow space w =
    let long = length-append w (codes " -") in
    let some : 2 ≤ length (w ++ codes " -") = omega (arith, long) in
    let less : length (w ++ codes " -") - 2 ≡ length w = omega (arith, long) in
    ap (λ b. cond b (op_in space (take (length (w ++ codes " -") - 2) (w ++ codes " -"))) None) (le-leb 2 (length (w ++ codes " -")) some)
    ∙ ap (λ n. op_in space (take n (w ++ codes " -"))) less
    ∙ ap (op_in space) (take_at w (codes " -") (length w) refl)

op_part_takes : (space : Space) (op : Op) (rest : List ℕ) → IsSpace space → Fits space op → CallIsSayable op
    → Takes (op_part space) (op_text space op ++ (codes " -> " ++ rest)) op rest
op_part_takes space op rest valid fits said = record {
  at =
      ap (λ o. on_some o (λ x. on_some (op_before space x.0)
      (λ op. on_some (word (codes "> ") x.1) (λ y. Some (op, y.1)))))
      (up_to_arrow (op_text space op) rest (op_runs space op valid fits said))
      ∙ ap (λ o. on_some o (λ op. on_some (word (codes "> ") (codes "> " ++ rest)) (λ y. Some (op, y.1))))
      (before_arrow space (op_text space op) ∙ op_taken space op valid fits said)
      ∙ ap (λ o. on_some o (λ y. Some (op, y.1))) (word_takes (codes "> ") rest).at;
}

-- a call whose rows have lines of their own
abbrev pub head_for : CallLine → CallHead
head_for c = record { call = record c { answer = bare_answer c.answer }; rows = rows_after c.answer }

-- the first line of a call, without its newline
abbrev pub call_front : Space → CallLine → List ℕ
call_front space c = called_text space c ++ answer_line space c.version c.answer

bare_end : (answer : Option Answer) → has_end (bare_answer answer) ≡ has_end answer
bare_end None = refl
bare_end (Some an_answer.Done) = refl
bare_end (Some an_answer.NotFound) = refl
bare_end (Some an_answer.CmpFail) = refl
bare_end (Some an_answer.Overflow) = refl
bare_end (Some an_answer.TooLong) = refl
bare_end (Some (an_answer.Found object)) = refl
bare_end (Some (an_answer.Rows rows)) = refl
bare_end (Some (an_answer.Refused region epoch)) = refl
bare_end (Some (an_answer.Doubt region epoch)) = refl
bare_end (Some (an_answer.Issued epoch)) = refl
bare_end (Some (an_answer.Stopped epoch)) = refl
bare_end (Some (an_answer.Member epoch)) = refl
bare_end (Some (an_answer.Joining epoch)) = refl
bare_end (Some (an_answer.Lost epoch)) = refl

agree : (a b : Bool) (h : CallHead) → a ≡ b → cond (cond a b (not b)) (Some h) None ≡ Some h
agree true true h e = refl
agree true false h e = absurd cc
agree false true h e = absurd cc
agree false false h e = refl

called_parts : (space : Space) (c : CallLine) (rest : List ℕ)
    → called_text space c ++ rest ≡ span_text c ++ (codes " " ++ (op_text space c.op ++ (codes " -> " ++ rest)))
unfolding called_text
called_parts space c rest = assoc4 (span_text c) (codes " ") (op_text space c.op) (codes " -> ") rest

call_read : (space : Space) (c : CallLine) → IsSpace space → IsCallOf space c → call_in space (call_front space c) ≡ Some (head_for c)
call_read space c valid is =
    let answer : List ℕ = answer_line space c.version c.answer in
    let rest : List ℕ = op_text space c.op ++ (codes " -> " ++ answer) in
    let s : Span = record { caller = c.caller; begin = c.begin; end = c.end } in
    let h : CallHead = head_for c in
    ap (call_in space) (called_parts space c answer)
    ∙ ap (λ o. on_some o (λ x. on_some (op_part space x.1)
    (λ y. on_some (answer_in space y.1) (λ a. if_ended (call_with x.0 y.0 a)))))
    (span_takes c rest is.caller is.begin is.end).at
    ∙ ap (λ o. on_some o (λ y. on_some (answer_in space y.1) (λ a. if_ended (call_with s y.0 a)))) (op_part_takes space c.op answer valid is.op is.said).at
    ∙ ap (λ o. on_some o (λ a. if_ended (call_with s c.op a))) (answer_taken space c.version c.answer valid is.version is.answer)
    ∙ agree (is_some c.end) (has_end (bare_answer c.answer)) h (is.ended ∙ sym (bare_end c.answer))

head_printed : (space : Space) (c : CallLine) → head_text space (head_for c) ≡ call_front space c ++ 10 ∷ []
unfolding head_text called_text span_text
head_printed space c =
    ap (λ t. called_text space c ++ t) (answer_printed space c.version c.answer)
    ∙ sym (append_assoc (called_text space c) (answer_line space c.version c.answer) (10 ∷ []))

pub head_taken : (space : Space) (c : CallLine) → IsSpace space → IsCallOf space c → head_of space (call_front space c) ≡ Some (head_for c)
unfolding head_of
head_taken space c valid is =
    ap (λ o. on_some o (if_same (head_text space) (call_front space c))) (call_read space c valid is)
    ∙ kept (head_text space) (call_front space c) (head_for c) (head_printed space c)

-- ---- rows

-- the line of a row, without its newline
abbrev pub row_front : Space → Row → List ℕ
row_front space r = codes "row " ++ quoted r.key ++ version_text [] r.version ++ object_text space.attributes r.object

row_version_takes : (n : ℕ) (rest : List ℕ) → Is64 n → begins_with is_digit rest ≡ false → Takes row_version (codes " version " ++ (decimal n ++ rest)) n rest
unfolding row_version
row_version_takes n rest n64 stop =
    takes_then _ tt (decimal n ++ rest) (word_takes (codes " version ") (decimal n ++ rest))
    (takes_then _ n rest (number_takes n rest n64 stop) (takes_give n rest))

up_to_blank : (t rest : List ℕ) → up_to 32 (quoted t ++ (32 ∷ rest)) ≡ Some (quoted t, 32 ∷ rest)
up_to_blank t rest =
    let bytes : List ℕ = quoted t ++ (32 ∷ rest) in
    let none : length (quoted t) + 0 ≡ length (quoted t) = omega arith in
    let n : outside_from 32 Outside bytes ≡ length (quoted t) = quoted_passes 32 t (32 ∷ rest) refl ∙ none in
    ap (λ m. Some (take m bytes, drop m bytes)) n
    ∙ ap (λ x. Some (x, drop (length (quoted t)) bytes)) (take_at (quoted t) (32 ∷ rest) (length (quoted t)) refl)
    ∙ ap (λ x. Some (quoted t, x)) (drop_at (quoted t) (32 ∷ rest) (length (quoted t)) refl)

row_parts : (space : Space) (r : Row) → row_front space r ≡ codes "row "
    ++ (quoted r.key ++ (codes " version " ++ (decimal r.version.0 ++ object_text space.attributes r.object)))
unfolding version_text
row_parts space r = assoc3 (codes "row ") (quoted r.key) (codes " version " ++ decimal r.version.0)
    (object_text space.attributes r.object) ∙ ap (λ t. codes "row " ++ (quoted r.key ++ t))
    (append_assoc (codes " version ") (decimal r.version.0) (object_text space.attributes r.object))

row_read : (space : Space) (r : Row) → IsSpace space → IsRow space r → row_in space (row_front space r) ≡ Some r
row_read space r valid is =
    let object : List ℕ = object_text space.attributes r.object in
    let rest : List ℕ = codes " version " ++ (decimal r.version.0 ++ object) in
    ap (row_in space) (row_parts space r)
    ∙ ap (λ o. on_some o (λ x. on_some (up_to 32 x.1)
    (λ y. on_some (text_in space y.0) (λ key. row_after space key y.1)))) (word_takes (codes "row ") (quoted r.key ++ rest)).at
    ∙ ap (λ o. on_some o (λ y. on_some (text_in space y.0) (λ key. row_after space key y.1)))
    (up_to_blank r.key (codes "version " ++ (decimal r.version.0 ++ object)))
    ∙ ap (λ o. on_some o (λ key. row_after space key rest)) (text_taken space r.key valid is.of.key is.said.key)
    ∙ ap (λ o. on_some o (λ x. option_map (λ (v : List Value). record {
      key = r.key;
      version = record { 0 = x.0 };
      object = v;
    }) (object_in space x.1))) (row_version_takes r.version.0 object is.said.version
    (no_digit space.attributes r.object)).at
    ∙ ap (option_map (λ (v : List Value). record { key = r.key; version = record { 0 = r.version.0 }; object = v }))
    (object_taken space r.object valid is.of.object is.said.object)

row_printed : (space : Space) (r : Row) → row_line space r ≡ row_front space r ++ 10 ∷ []
unfolding row_line
row_printed space r = refl

pub row_taken : (space : Space) (r : Row) → IsSpace space → IsRow space r → row_of space (row_front space r) ≡ Some r
unfolding row_of
row_taken space r valid is =
    ap (λ o. on_some o (if_same (row_line space) (row_front space r))) (row_read space r valid is)
    ∙ kept (row_line space) (row_front space r) r (row_printed space r)
