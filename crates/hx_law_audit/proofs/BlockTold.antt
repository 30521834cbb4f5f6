-- Where the calls and histories of a report stand in its text.
use Rattle.std.proofs.Common.{◌≡◌, ℕ, suc, ◌+◌, ◌^◌, ◌<◌, List, [], ◌∷◌, ◌++◌, map, length, inl, inr, refl, sym, ap, subst, ◌∙◌, arith}
use Rattle.std.specs.Prelude.{codes, ◌⊎◌}
use Rattle.std.specs.Fmt.{decimal}
use Rattle.std.specs.List.{All, flat_map}
use Rattle.std.proofs.lemmas.List.{append_assoc, length-map}
use Rattle.std.proofs.lemmas.List.Elements.{All-head, All-tail}
use Rattle.hx_types.specs.Spaces.{IsSpace}
use Rattle.hx_types.specs.Words.{IsIn}
use Rattle.hx_law_lemmas.proofs.Lemmas.{in-append}
use Rattle.hx_print.specs.Printing.{space_text}
use Rattle.hx_report.specs.Reporting.{row_line}
use Rattle.hx_report_lines.specs.declared.blocks.Block.{Block}
use Rattle.hx_report_lines.specs.declared.calls.CallLine.{CallLine}
use Rattle.hx_report_lines.specs.declared.histories.HistoryLines.{HistoryLines}
use Rattle.hx_report_lines.specs.Printed.{block_text, call_text, driver_text, epoch_text, first_text, history_text, item_text}
use Rattle.hx_report_lines.specs.Printed.{raw_text, text_of}
use Rattle.hx_report_lines.specs.Values.{HasBlocks, IsBlock, IsCallOf, IsDriverLine, IsEpochOf, IsHistoryOf, IsRawLine, IsReportValue, ReportValue}
use Rattle.hx_report_lines.proofs.Lemmas.{decimal_runs, joined, one_line_of, with_newline, words_run}
use Rattle.hx_audit.specs.Told.{rows_told}
use Rattle.hx_audit.specs.Verdicts.{OfCall, OfHistory, Placed, block_from, block_lines, blocks_from, call_lines, calls_from, histories_from}
use Rattle.hx_audit.specs.Verdicts.{history_lines, lines_of_calls, lines_of_histories, pieces_of, space_lines}
use Rattle.hx_law_audit.specs.Lines.{piece_text, things_of}
use Rattle.hx_law_audit.proofs.PieceTold.{IsTold, call_told, driver_has, epoch_has, history_told, raw_has}
use Rattle.hx_law_audit.proofs.SpaceTold.{space_has}
use Rattle.hx_law_audit.proofs.TextLines.{HasLines, has_both, has_each, has_none, has_one}

-- ---- how many lines

-- there are as many fronts as things
pub fronts_long : {A : Type 0} (f : A → List ℕ) (fronts : List A) (things : List (List ℕ)) → things ≡ map f fronts → length fronts ≡ length things
fronts_long f fronts things same = sym (ap length same ∙ length-map fronts f)

call_has : (b : Block) (l : CallLine) → IsSpace b.space → IsCallOf b.space l → HasLines (call_lines l) (call_text b.space l)
call_has b l valid is =
    let t = call_told b.space l valid is in
    let all = fronts_long with_newline t.fronts (things_of b.space (OfCall l)) t.things in
    record { lines = t.fronts; are = t.are; count = omega (arith, all, length-map (rows_told l) (row_line b.space)) }

history_has : (b : Block) (h : HistoryLines) → IsSpace b.space → IsHistoryOf b.space h → HasLines (history_lines h) (history_text b.space h)
history_has b h valid is =
    let t = history_told b.space h valid is in
    let all = fronts_long with_newline t.fronts (things_of b.space (OfHistory h)) t.things in
    record { lines = t.fronts; are = t.are; count = omega (arith, all, length-map h.items (item_text b.space)) }

calls_have : (b : Block) (calls : List CallLine) → IsSpace b.space → All (IsCallOf b.space) calls
    → HasLines (lines_of_calls calls) (flat_map (call_text b.space) calls)
calls_have b [] valid all = has_none
calls_have b (l ∷ calls) valid all =
    has_both (call_lines l) (lines_of_calls calls) (call_text b.space l) (flat_map (call_text b.space) calls)
    (call_has b l valid (All-head (IsCallOf b.space) l calls all)) (calls_have b calls valid (All-tail (IsCallOf b.space) l calls all))

histories_have : (b : Block) (histories : List HistoryLines) → IsSpace b.space → All (IsHistoryOf b.space) histories
    → HasLines (lines_of_histories histories) (flat_map (history_text b.space) histories)
histories_have b [] valid all = has_none
histories_have b (h ∷ histories) valid all =
    has_both (history_lines h) (lines_of_histories histories) (history_text b.space h) (flat_map (history_text b.space) histories)
    (history_has b h valid (All-head (IsHistoryOf b.space) h histories all))
    (histories_have b histories valid (All-tail (IsHistoryOf b.space) h histories all))

block_has : (b : Block) → IsBlock b → HasLines (block_lines b) (block_text b)
unfolding block_text
block_has b is =
    let valid : IsSpace b.space = is.space.valid in
    let t0 : List ℕ = space_text b.space in
    let t1 : List ℕ = flat_map (call_text b.space) b.calls in
    let t2 : List ℕ = flat_map (history_text b.space) b.histories in
    let t3 : List ℕ = flat_map epoch_text b.epochs in
    let t4 : List ℕ = flat_map raw_text b.raw in
    let t5 : List ℕ = flat_map driver_text b.drivers in
    let n1 : ℕ = space_lines b.space + lines_of_calls b.calls in
    let n2 : ℕ = n1 + lines_of_histories b.histories in
    let n3 : ℕ = n2 + length b.epochs in
    let n4 : ℕ = n3 + length b.raw in
    let h1 = has_both (space_lines b.space) (lines_of_calls b.calls) t0 t1 (space_has b.space is.space) (calls_have b b.calls valid is.calls) in
    let h2 = has_both n1 (lines_of_histories b.histories) (t0 ++ t1) t2 h1 (histories_have b b.histories valid is.histories) in
    let h3 = has_both n2 (length b.epochs) (t0 ++ t1 ++ t2) t3 h2
    (has_each epoch_text (IsEpochOf b.space) (λ e i. epoch_has b.space e valid i) b.epochs is.epochs) in
    let h4 = has_both n3 (length b.raw) (t0 ++ t1 ++ t2 ++ t3) t4 h3 (has_each raw_text IsRawLine raw_has b.raw is.raw) in
    has_both n4 (length b.drivers) (t0 ++ t1 ++ t2 ++ t3 ++ t4) t5 h4 (has_each driver_text IsDriverLine driver_has b.drivers is.drivers)

first_has : (version : ℕ) (blocks : List Block) → HasBlocks version blocks → HasLines 1 (first_text version)
unfolding first_text
first_has version blocks has =
    let line : List ℕ = codes "report " ++ decimal version in
    has_one line (line ++ codes "\n") refl (one_line_of line
    (joined (codes "report ") (decimal version) (words_run (codes "report ") refl) (decimal_runs version (small has))).clean)
  where
    small : HasBlocks version blocks → version < 2 ^ 64
    small (inl one) = let e = one.0 in omega (arith, e)
    small (inr two) = let e = two.0 in omega (arith, e)

-- ---- where they stand

-- the piece stands in the text behind one line fewer than its number
pub record StandsAt (r : ReportValue) (p : Placed) : Type 0 where
  pub above : ℕ
  pub front : List ℕ
  pub rest : List ℕ
  pub split : text_of r ≡ front ++ (piece_text p.block.space p.piece ++ rest)
  pub before : HasLines above front
  pub first : p.line ≡ suc above
  pub told : IsTold p.block.space p.piece

-- a list, and another one, between a front and a rest
next_part : (front part more rest : List ℕ) → front ++ ((part ++ more) ++ rest) ≡ (front ++ part) ++ (more ++ rest)
next_part front part more rest = simp append_assoc

calls_part : (front s c h e w d rest : List ℕ) → front ++ ((s ++ c ++ h ++ e ++ w ++ d) ++ rest) ≡ (front ++ s) ++ (c ++ ((h ++ e ++ w ++ d) ++ rest))
calls_part front s c h e w d rest = simp append_assoc

histories_part : (front s c h e w d rest : List ℕ) → front ++ ((s ++ c ++ h ++ e ++ w ++ d) ++ rest) ≡ (front ++ s ++ c) ++ (h ++ ((e ++ w ++ d) ++ rest))
histories_part front s c h e w d rest = simp append_assoc

module _ (r : ReportValue) where
  abbrev AllStand : List Placed → Type 0
  AllStand ps = (p : Placed) → IsIn p ps → StandsAt r p

  calls_stand : (b : Block) (calls : List CallLine) → IsSpace b.space → All (IsCallOf b.space) calls
      → (n line : ℕ) (front rest : List ℕ) → line ≡ suc n → text_of r ≡ front ++ (flat_map (call_text b.space) calls ++ rest)
      → HasLines n front → AllStand (calls_from b line calls)
  calls_stand b [] valid all n line front rest at split before p i = absurd i
  calls_stand b (l ∷ calls) valid all n line front rest at split before p (inl e) =
      subst (StandsAt r) (sym e) (record {
        above = n;
        front = front;
        rest = flat_map (call_text b.space) calls ++ rest;
        split = split ∙ ap (λ t. front ++ t) (append_assoc (call_text b.space l) (flat_map (call_text b.space) calls) rest);
        before = before;
        first = at;
        told = call_told b.space l valid (All-head (IsCallOf b.space) l calls all);
      })
  calls_stand b (l ∷ calls) valid all n line front rest at split before p (inr i) =
      calls_stand b calls valid (All-tail (IsCallOf b.space) l calls all) (n + call_lines l) (line + call_lines l)
      (front ++ call_text b.space l) rest (omega (arith, at))
      (split ∙ next_part front (call_text b.space l) (flat_map (call_text b.space) calls) rest)
      (has_both n (call_lines l) front (call_text b.space l) before (call_has b l valid (All-head (IsCallOf b.space) l calls all))) p i

  histories_stand : (b : Block) (histories : List HistoryLines) → IsSpace b.space → All (IsHistoryOf b.space) histories
      → (n line : ℕ) (front rest : List ℕ) → line ≡ suc n → text_of r ≡ front ++ (flat_map (history_text b.space) histories ++ rest)
      → HasLines n front → AllStand (histories_from b line histories)
  histories_stand b [] valid all n line front rest at split before p i = absurd i
  histories_stand b (h ∷ histories) valid all n line front rest at split before p (inl e) =
      subst (StandsAt r) (sym e) (record {
        above = n;
        front = front;
        rest = flat_map (history_text b.space) histories ++ rest;
        split = split ∙ ap (λ t. front ++ t) (append_assoc (history_text b.space h) (flat_map (history_text b.space) histories) rest);
        before = before;
        first = at;
        told = history_told b.space h valid (All-head (IsHistoryOf b.space) h histories all);
      })
  histories_stand b (h ∷ histories) valid all n line front rest at split before p (inr i) =
      histories_stand b histories valid (All-tail (IsHistoryOf b.space) h histories all) (n + history_lines h) (line + history_lines h)
      (front ++ history_text b.space h) rest (omega (arith, at))
      (split ∙ next_part front (history_text b.space h) (flat_map (history_text b.space) histories) rest)
      (has_both n (history_lines h) front (history_text b.space h) before
      (history_has b h valid (All-head (IsHistoryOf b.space) h histories all))) p i

  block_stands : (b : Block) → IsBlock b → (n line : ℕ) (front rest : List ℕ) → line ≡ suc n
      → text_of r ≡ front ++ (block_text b ++ rest) → HasLines n front → AllStand (block_from b line)
  unfolding block_text
  block_stands b is n line front rest at split before p i =
      by (in-append (calls_from b first b.calls) (histories_from b (first + lines_of_calls b.calls) b.histories) p i)
    where
      first : ℕ
      first = line + space_lines b.space

      s : List ℕ
      s = space_text b.space

      c : List ℕ
      c = flat_map (call_text b.space) b.calls

      h : List ℕ
      h = flat_map (history_text b.space) b.histories

      e : List ℕ
      e = flat_map epoch_text b.epochs

      w : List ℕ
      w = flat_map raw_text b.raw

      d : List ℕ
      d = flat_map driver_text b.drivers

      upto_space : HasLines (n + space_lines b.space) (front ++ s)
      upto_space = has_both n (space_lines b.space) front s before (space_has b.space is.space)

      by : IsIn p (calls_from b first b.calls) ⊎ IsIn p (histories_from b (first + lines_of_calls b.calls) b.histories) → StandsAt r p
      by (inl j) = calls_stand b b.calls is.space.valid is.calls (n + space_lines b.space) first (front ++ s)
          ((h ++ e ++ w ++ d) ++ rest) (omega (arith, at)) (split ∙ calls_part front s c h e w d rest) upto_space p j
      by (inr j) =
          histories_stand b b.histories is.space.valid is.histories (n + space_lines b.space + lines_of_calls b.calls)
          (first + lines_of_calls b.calls) (front ++ s ++ c) ((e ++ w ++ d) ++ rest) (omega (arith, at))
          (split ∙ histories_part front s c h e w d rest)
          (has_both (n + space_lines b.space) (lines_of_calls b.calls) (front ++ s) c upto_space (calls_have b b.calls is.space.valid is.calls)) p j

  blocks_stand : (blocks : List Block) → All IsBlock blocks → (n line : ℕ) (front rest : List ℕ) → line ≡ suc n
      → text_of r ≡ front ++ (flat_map block_text blocks ++ rest) → HasLines n front → AllStand (blocks_from line blocks)
  blocks_stand [] all n line front rest at split before p i = absurd i
  blocks_stand (b ∷ blocks) all n line front rest at split before p i =
      by (in-append (block_from b line) (blocks_from (line + block_lines b) blocks) p i)
      (blocks_stand blocks (All-tail IsBlock b blocks all) (n + block_lines b) (line + block_lines b)
      (front ++ block_text b) rest (omega (arith, at)) (split ∙ next_part front (block_text b) (flat_map block_text blocks) rest)
      (has_both n (block_lines b) front (block_text b) before (block_has b (All-head IsBlock b blocks all))) p)
    where
      by : IsIn p (block_from b line) ⊎ IsIn p (blocks_from (line + block_lines b) blocks)
          → (IsIn p (blocks_from (line + block_lines b) blocks) → StandsAt r p) → StandsAt r p
      by (inl j) later = block_stands b (All-head IsBlock b blocks all) n line front (flat_map block_text blocks ++ rest) at
          (split ∙ ap (λ t. front ++ t) (append_assoc (block_text b) (flat_map block_text blocks) rest)) before p j
      by (inr j) later = later j

  text_is : text_of r ≡ first_text r.version ++ (flat_map block_text r.blocks ++ codes "end\n")
  unfolding text_of
  text_is = append_assoc (first_text r.version) (flat_map block_text r.blocks) (codes "end\n")

  -- each call and each history of a report stands behind as many lines as its number says
  pub pieces_stand : IsReportValue r → AllStand (pieces_of r)
  pieces_stand is = blocks_stand r.blocks is.blocks 1 2 (first_text r.version) (codes "end\n") refl text_is (first_has r.version r.blocks is.count)
