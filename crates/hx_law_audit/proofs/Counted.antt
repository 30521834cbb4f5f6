-- Each call and history stands in the text at the lines that are counted, and a clause is broken only at one of these.
use Rattle.std.proofs.Common.{◌≡◌, ℕ, zero, suc, ◌+◌, ◌<◌, ◌≤◌, List, [], ◌∷◌, ◌++◌, map, length, Option, None, Some}
use Rattle.std.proofs.Common.{inl, inr, refl, sym, ap, subst, ◌∙◌, arith}
use Rattle.std.specs.Prelude.{◌⊎◌, IfSome, slice_get}
use Rattle.std.specs.List.{flat_map}
use Rattle.std.specs.Option.{option_map}
use Rattle.std.proofs.lemmas.Bool.{cases_lt}
use Rattle.std.proofs.lemmas.List.{length-map}
use Rattle.std.proofs.lemmas.Option.{slice_get_past}
use Rattle.hx_model.specs.Types.{Answer, Row, Term}
use Rattle.hx_types.specs.Words.{when_some}
use Rattle.hx_model.specs.Histories.{CallEnd}
use Rattle.hx_model.specs.Searching.{FinishedSearch, rows_in, terms_of, with_rows}
use Rattle.hx_report.specs.Reporting.{row_line}
use Rattle.hx_report_lines.specs.declared.blocks.Block.{Block}
use Rattle.hx_report_lines.specs.declared.calls.CallLine.{CallLine}
use Rattle.hx_report_lines.specs.declared.histories.HistoryLines.{HistoryLines}
use Rattle.hx_report_lines.specs.Printed.{item_text}
use Rattle.hx_report_lines.specs.Values.{IsReportValue, ReportValue}
use Rattle.hx_report_lines.proofs.Lemmas.{with_newline}
use Rattle.hx_audit.specs.declared.verdicts.Clause.{Clause}
use Rattle.hx_audit.specs.declared.verdicts.Clause.TheVariants as clauses
use Rattle.hx_audit.specs.Clauses.{KeepsInCall, KeepsInHistory}
use Rattle.hx_audit.specs.Told.{item_told, rows_told, search_told}
use Rattle.hx_audit.specs.Verdicts.{IsBrokenAt, KeepsInPiece, OfCall, OfHistory, Piece, Placed}
use Rattle.hx_law_audit.specs.Lines.{IsCounted, IsLineOf, LinesAreCounted, line_at, piece_text, things_at, things_of}
use Rattle.hx_law_audit.proofs.BlockTold.{StandsAt, fronts_long, pieces_stand}
use Rattle.hx_law_audit.proofs.TextLines.{got_some, line_behind}

-- ---- the lines of a piece

joined_again : (fronts : List (List ℕ)) → flat_map (λ (text : List ℕ). text) (map with_newline fronts) ≡ flat_map with_newline fronts
joined_again [] = refl
joined_again (line ∷ fronts) = ap (λ t. with_newline line ++ t) (joined_again fronts)

got_mapped : {A B : Type 0} (f : A → B) (xs : List A) (k : ℕ) → option_map f (slice_get xs k) ≡ slice_get (map f xs) k
got_mapped f [] k = refl
got_mapped f (x ∷ xs) zero = refl
got_mapped f (x ∷ xs) (suc k) = got_mapped f xs k

counted_of : (r : ReportValue) (p : Placed) → StandsAt r p → IsCounted r p
counted_of r p s = record {
  whole = ap (flat_map (λ (text : List ℕ). text)) s.told.things ∙ joined_again s.told.fronts ∙ sym s.told.are.cut;
  lines = λ place lt.
      let long = fronts_long with_newline s.told.fronts (things_at p) s.told.things in
      let next : p.line + place ≡ suc (s.above + place) = omega (arith, s.first) in
      ap (line_at r) next
      ∙ ap (option_map with_newline) (line_behind r s.above s.front (piece_text p.block.space p.piece) s.rest s.told.fronts
      s.split s.before s.told.are place (omega (arith, lt, long)))
      ∙ got_mapped with_newline s.told.fronts place
      ∙ ap (λ ts. slice_get ts place) (sym s.told.things);
}

-- ---- beyond its lines each clause is kept

kept_past : {A : Type 0} (P : A → Type 0) (xs : List A) (k : ℕ) → length xs ≤ k → IfSome (slice_get xs k) P
kept_past P xs k le = subst (λ o. IfSome o P) (sym (slice_get_past xs k le)) tt

-- the rows of a finished search are those that stand below its call
rows_same : (l : CallLine) (s : FinishedSearch) → search_told l ≡ Some s → s.rows ≡ rows_told l
rows_same l s e = by (terms_of l.op) l.end l.answer e
  where
    told : ℕ → Option Answer → Option CallEnd
    told n answer = when_some answer None (λ (a : Answer). Some (record { entry = n; version = l.version; answer = a }))

    last : (terms : List Term) (n : ℕ) (o : Option (List Row)) → with_rows l.caller terms l.begin n o ≡ Some s
        → s.rows ≡ when_some o [] (λ (rows : List Row). rows)
    last terms n None f = absurd cc
    last terms n (Some rows) f = cc

    by : (t : Option (List Term)) (end : Option ℕ) (answer : Option Answer)
        → when_some t None (λ (terms : List Term). when_some (when_some end None (λ n. told n answer)) None
        (λ (x : CallEnd). with_rows l.caller terms l.begin x.entry (rows_in x.answer))) ≡ Some s
        → s.rows ≡ when_some answer [] (λ (a : Answer). when_some (rows_in a) [] (λ (rows : List Row). rows))
    by None end answer f = absurd cc
    by (Some terms) None answer f = absurd cc
    by (Some terms) (Some n) None f = absurd cc
    by (Some terms) (Some n) (Some a) f = last terms n (rows_in a) f

call_past : (clause : Clause) (b : Block) (l : CallLine) (k : ℕ) → length (rows_told l) ≤ k → KeepsInCall clause b l (suc k)
call_past clauses.Foreign b l k le = tt
call_past clauses.Legal b l k le = tt
call_past clauses.Missing b l k le = tt
call_past clauses.Order b l k le = tt
call_past clauses.Whole b l k le = tt
call_past clauses.True b l k le = λ s e. kept_past _ s.rows k (subst (λ (rows : List Row). length rows ≤ k) (sym (rows_same l s e)) le)

history_past : (clause : Clause) (b : Block) (h : HistoryLines) (k : ℕ) → length h.items ≤ k → KeepsInHistory clause b h (suc k)
history_past clauses.Foreign b h k le = kept_past _ h.items k le
history_past clauses.Legal b h k le =
    kept_past _ (map (item_told b.calls) h.items) k (omega (arith, le, length-map h.items (item_told b.calls)))
history_past clauses.Missing b h k le = tt
history_past clauses.Order b h k le = kept_past _ h.items k le
history_past clauses.Whole b h k le = tt
history_past clauses.True b h k le = tt

kept_beyond : (clause : Clause) (b : Block) (piece : Piece) (place : ℕ) → length (things_of b.space piece) ≤ place → KeepsInPiece clause b piece place
kept_beyond clause b (OfCall l) zero le = absurd (omega (arith, le))
kept_beyond clause b (OfCall l) (suc k) le = call_past clause b l k (omega (arith, le, length-map (rows_told l) (row_line b.space)))
kept_beyond clause b (OfHistory h) zero le = absurd (omega (arith, le))
kept_beyond clause b (OfHistory h) (suc k) le = history_past clause b h k (omega (arith, le, length-map h.items (item_text b.space)))

-- ---- the law

line_of : (r : ReportValue) → IsReportValue r → (line : ℕ) (clause : Clause) (x : IsBrokenAt r line clause) → IsLineOf r line x.piece x.place
line_of r is line clause x =
    by (cases_lt x.place (length (things_at x.piece)))
  where
    by : (x.place < length (things_at x.piece)) ⊎ (length (things_at x.piece) ≤ x.place) → IsLineOf r line x.piece x.place
    by (inl within) =
        let g = got_some (things_at x.piece) x.place within in
        let counted = counted_of r x.piece (pieces_stand r is x.piece x.stands) in
        record { thing = g.0; stands = g.1; here = ap (line_at r) x.here ∙ counted.lines x.place within ∙ g.1 }
    by (inr beyond) = absurd (x.broken (kept_beyond clause x.piece.block x.piece.piece x.place beyond))

pub all_counted : LinesAreCounted
all_counted = record { pieces = λ r is p i. counted_of r p (pieces_stand r is p i); broken = line_of }
