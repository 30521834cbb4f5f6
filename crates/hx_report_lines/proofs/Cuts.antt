-- Where a text is refused, some report begins with the lines before.
use Rattle.std.proofs.Common.{◌≡◌, ◌≢◌, ℕ, suc, ◌+◌, ◌-◌, ◌≤◌, Bool, true, false, cond, ◌&&◌, eqb, List, [], ◌∷◌, ◌++◌}
use Rattle.std.proofs.Common.{length, take, Option, None, Some, Ok, Err, Result, refl, sym, ap, subst, ◌∙◌, arith}
use Rattle.std.specs.List.{All, flat_map}
use Rattle.std.proofs.lemmas.Bool.{ne_eqb}
use Rattle.std.proofs.lemmas.List.{append_assoc, append-nil}
use Rattle.std.proofs.lemmas.List.Elements.{All-head, All-tail, All-take}
use Rattle.hx_script.specs.Texts.{lines_of}
use Rattle.hx_report_lines.specs.declared.drafts.Draft.{Draft}
use Rattle.hx_report_lines.specs.Drafts.{after_line, draft_of, empty_draft, ends_whole, is_over, on_draft, read_lines}
use Rattle.hx_report_lines.specs.Unread.{Begins}
use Rattle.hx_report_lines.proofs.DraftsRead.{IsGood, IsOneLine, good_more, good_start}
use Rattle.hx_report_lines.proofs.LinesRead.{one_lines}
use Rattle.hx_report_lines.proofs.Opening.{opens_text}
use Rattle.hx_report_lines.proofs.TextsRead.{draft_text, line_adds, with_newline}

-- the draft before the line that is refused
record Cut (n : ℕ) (d : Draft) (ls : List (List ℕ)) (line : ℕ) : Type 0 where
  place : ℕ
  at : line ≡ suc (n + place)
  within : place ≤ length ls
  draft : Draft
  good : IsGood draft
  text : draft_text draft ≡ draft_text d ++ flat_map with_newline (take place ls)

-- nothing was read before it
at_once : (n line : ℕ) (d : Draft) (ls : List (List ℕ)) → IsGood d → n + 1 ≡ line → Cut n d ls line
at_once n line d ls is e = record { place = 0; at = omega (arith, e); within = omega arith; draft = d; good = is; text = sym (append-nil (draft_text d)) }

err_is : (n line : ℕ) (r : Result Draft ℕ) → r ≡ Err n → r ≡ Err line → n ≡ line
err_is n line r f e = cc

cuts : (whole : Bool) (n line : ℕ) (d : Draft) (ls : List (List ℕ)) → All IsOneLine ls → IsGood d → read_lines whole n d ls ≡ Err line → Cut n d ls line
unfolding read_lines
cuts whole n line d [] one is h = by (is_over d.section && whole) h
  where
    by : (b : Bool) → cond b (Ok d) (Err (n + 1)) ≡ Err line → Cut n d [] line
    by true f = absurd cc
    by false f = at_once n line d [] is (err_is (n + 1) line (Err (n + 1)) refl f)
cuts whole n line d (l ∷ ls) one is h = by (after_line d l) refl h (λ m good. cuts whole (n + 1) line m ls (All-tail IsOneLine l ls one) good)
  where
    by : (o : Option Draft) → after_line d l ≡ o → on_draft o (n + 1) (λ m. read_lines whole (n + 1) m ls) ≡ Err line
        → ((m : Draft) → IsGood m → read_lines whole (n + 1) m ls ≡ Err line → Cut (n + 1) m ls line) → Cut n d (l ∷ ls) line
    by None q f k = at_once n line d (l ∷ ls) is (err_is (n + 1) line (Err (n + 1)) refl f)
    by (Some m) q f k =
        let c = k m (good_more d m l (All-head IsOneLine l ls one) is q) f in
        record {
          place = suc c.place;
          at = omega (arith, c.at);
          within = omega (arith, c.within);
          draft = c.draft;
          good = c.good;
          text = c.text ∙ (ap (λ t. t ++ flat_map with_newline (take c.place ls)) (line_adds d m l is q)
              ∙ append_assoc (draft_text d) (with_newline l) (flat_map with_newline (take c.place ls)));
        }

-- ---- the lines of a text that is put together of lines

line_cut : (l rest : List ℕ) → IsOneLine l → lines_of (l ++ 10 ∷ rest) ≡ l ∷ lines_of rest
line_cut [] rest one = refl
line_cut (b ∷ l) rest one =
    let other : eqb b 10 ≡ false = ne_eqb b 10 (All-head (λ c. c ≢ 10) b l one) in
    rw (other, line_cut l rest (All-tail (λ c. c ≢ 10) b l one)) refl

pub lines_join : (ls : List (List ℕ)) (rest : List ℕ) → All IsOneLine ls → lines_of (flat_map with_newline ls ++ rest) ≡ ls ++ lines_of rest
lines_join [] rest one = refl
lines_join (l ∷ ls) rest one =
    ap lines_of (append_assoc (with_newline l) (flat_map with_newline ls) rest ∙ append_assoc l (10 ∷ []) (flat_map with_newline ls ++ rest))
    ∙ line_cut l (flat_map with_newline ls ++ rest) (All-head IsOneLine l ls one)
    ∙ ap (λ xs. l ∷ xs) (lines_join ls rest (All-tail IsOneLine l ls one))

-- the line, from 1, is one of the text or the one after its last, and some report begins with the lines before it
pub record IsBegunAt (text : List ℕ) (line : ℕ) : Type 0 where
  pub within : (1 ≤ line) × (line ≤ length (lines_of text) + 1)
  pub before : Begins (take (line - 1) (lines_of text))

pub begun_before : (text : List ℕ) (line : ℕ) → draft_of text ≡ Err line → IsBegunAt text line
begun_before text line h =
    let ls : List (List ℕ) = lines_of text in
    let c = cuts (ends_whole text) 0 line empty_draft ls (one_lines text) good_start h in
    let o = opens_text c.draft c.good in
    let before : List (List ℕ) = take c.place ls in
    let place : line - 1 ≡ c.place = omega (arith, c.at) in
    let begins : Begins before = (
      o.0,
      o.1,
      (
        lines_of o.2.0,
        ap lines_of (o.2.1 ∙ ap (λ t. t ++ o.2.0) c.text)
            ∙ lines_join before o.2.0 (All-take IsOneLine c.place ls (one_lines text)),
      ),
    ) in
    record {
      within = (omega (arith, c.at), omega (arith, c.at, c.within));
      before = subst (λ n. Begins (take n ls)) (sym place) begins;
    }
