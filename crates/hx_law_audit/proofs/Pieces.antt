-- What is kept at every line of a report is kept by the calls and histories of each block.
use Rattle.hx_law_lemmas.proofs.Lemmas.Vocabulary.{[], inl, inr, IsIn, List, refl, subst, sym, ℕ, ◌++◌, ◌+◌, ◌∷◌}
use Rattle.hx_report_lines.specs.declared.blocks.Block.{Block}
use Rattle.hx_report_lines.specs.declared.calls.CallLine.{CallLine}
use Rattle.hx_report_lines.specs.declared.histories.HistoryLines.{HistoryLines}
use Rattle.hx_report_lines.specs.Values.{ReportValue}
use Rattle.hx_audit.specs.declared.verdicts.Clause.{Clause}
use Rattle.hx_audit.specs.Clauses.{KeepsInCall, KeepsInHistory}
use Rattle.hx_audit.specs.Verdicts.{IsKept, KeepsInPiece, OfCall, OfHistory, Placed, block_from, block_lines, blocks_from, call_lines, calls_from}
use Rattle.hx_audit.specs.Verdicts.{histories_from, history_lines, lines_of_calls, space_lines}

in_left : {A : Type 0} (x : A) (xs ys : List A) → IsIn x xs → IsIn x (xs ++ ys)
in_left x [] ys i = absurd i
in_left x (y ∷ xs) ys (inl e) = inl e
in_left x (y ∷ xs) ys (inr i) = inr (in_left x xs ys i)

in_right : {A : Type 0} (x : A) (xs ys : List A) → IsIn x ys → IsIn x (xs ++ ys)
in_right x [] ys i = i
in_right x (y ∷ xs) ys i = inr (in_right x xs ys i)

module _ (clause : Clause) where
  -- the clause is kept in all of these pieces
  abbrev Holds : List Placed → Type 0
  Holds ps = (p : Placed) → IsIn p ps → (place : ℕ) → KeepsInPiece clause p.block p.piece place

  of_calls : (b : Block) (line : ℕ) (calls : List CallLine) → Holds (calls_from b line calls) → (l : CallLine)
      → IsIn l calls → (place : ℕ) → KeepsInCall clause b l place
  of_calls b line [] h l i place = absurd i
  of_calls b line (x ∷ rest) h l (inl e) place = subst (λ (y : CallLine). KeepsInCall clause b y place) (sym e)
      (h (record { line = line; block = b; piece = OfCall x }) (inl refl) place)
  of_calls b line (x ∷ rest) h l (inr i) place = of_calls b (line + call_lines x) rest (λ p j. h p (inr j)) l i place

  of_histories : (b : Block) (line : ℕ) (histories : List HistoryLines) → Holds (histories_from b line histories)
      → (h : HistoryLines) → IsIn h histories → (place : ℕ) → KeepsInHistory clause b h place
  of_histories b line [] all h i place = absurd i
  of_histories b line (x ∷ rest) all h (inl e) place =
      subst (λ (y : HistoryLines). KeepsInHistory clause b y place) (sym e)
      (all (record { line = line; block = b; piece = OfHistory x }) (inl refl) place)
  of_histories b line (x ∷ rest) all h (inr i) place = of_histories b (line + history_lines x) rest (λ p j. all p (inr j)) h i place

  of_blocks : (line : ℕ) (blocks : List Block) → Holds (blocks_from line blocks) → (b : Block) → IsIn b blocks → (n : ℕ) × Holds (block_from b n)
  of_blocks line [] h b i = absurd i
  of_blocks line (x ∷ rest) h b (inl e) = (
    line,
    subst (λ (y : Block). Holds (block_from y line)) (sym e)
        (λ p i. h p (in_left p (block_from x line) (blocks_from (line + block_lines x) rest) i)),
  )
  of_blocks line (x ∷ rest) h b (inr i) = of_blocks (line + block_lines x) rest
      (λ p j. h p (in_right p (block_from x line) (blocks_from (line + block_lines x) rest) j)) b i

  pub kept_in_calls : (r : ReportValue) → IsKept r clause → (b : Block) → IsIn b r.blocks → (l : CallLine)
      → IsIn l b.calls → (place : ℕ) → KeepsInCall clause b l place
  kept_in_calls r kept b i =
      let at = of_blocks 2 r.blocks kept b i in
      let first = at.0 + space_lines b.space in
      of_calls b first b.calls (λ p j. at.1 p (in_left p (calls_from b first b.calls) (histories_from b (first + lines_of_calls b.calls) b.histories) j))

  pub kept_in_histories : (r : ReportValue) → IsKept r clause → (b : Block) → IsIn b r.blocks → (h : HistoryLines)
      → IsIn h b.histories → (place : ℕ) → KeepsInHistory clause b h place
  kept_in_histories r kept b i =
      let at = of_blocks 2 r.blocks kept b i in
      let first = at.0 + space_lines b.space in
      of_histories b (first + lines_of_calls b.calls) b.histories
      (λ p j. at.1 p (in_right p (calls_from b first b.calls)
      (histories_from b (first + lines_of_calls b.calls) b.histories) j))
