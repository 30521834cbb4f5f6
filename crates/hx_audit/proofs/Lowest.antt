-- The first line that a walk finds is the lowest at which the clause is broken.
use Rattle.std.proofs.Common.{◌≡◌, ℕ, zero, suc, ◌+◌, ◌<◌, ◌≤◌, ◌⊎◌, inl, inr, List, [], ◌∷◌, ◌++◌, map, length}
use Rattle.std.proofs.Common.{Option, None, Some, refl, sym, ap, subst, arith}
use Rattle.std.specs.List.{slice_get}
use Rattle.std.specs.Option.{IfSome}
use Rattle.std.proofs.lemmas.Bool.{cases_lt}
use Rattle.std.proofs.lemmas.Option.{slice_get_past}
use Rattle.hx_model.specs.Types.{Answer, Row, Term}
use Rattle.hx_types.specs.Words.{IsIn, when_some}
use Rattle.hx_model.specs.Histories.{CallEnd}
use Rattle.hx_model.specs.Searching.{FinishedSearch, rows_in, terms_of, with_rows}
use Rattle.hx_report_lines.specs.declared.blocks.Block.{Block}
use Rattle.hx_report_lines.specs.declared.calls.CallLine.{CallLine}
use Rattle.hx_report_lines.specs.declared.histories.HistoryLines.{HistoryLines}
use Rattle.hx_report_lines.specs.Values.{ReportValue}
use Rattle.hx_audit.specs.declared.verdicts.Clause.{Clause}
use Rattle.hx_audit.specs.declared.verdicts.Clause.TheVariants as clauses
use Rattle.hx_audit.specs.Clauses.{KeepsInCall, KeepsInHistory}
use Rattle.hx_audit.specs.Told.{end_told, item_told, rows_told, search_told}
use Rattle.hx_audit.specs.Verdicts.{IsFirstBroken, IsKept, KeepsInPiece, OfCall, OfHistory, Piece, Placed, block_from}
use Rattle.hx_audit.specs.Verdicts.{block_lines, blocks_from, call_lines, calls_from, histories_from, history_lines}
use Rattle.hx_audit.specs.Verdicts.{lines_of_calls, lines_of_histories, pieces_of, rank_of, space_lines}
use Rattle.hx_audit.specs.Walking.{IsFirstOf}

-- how many lines a piece has
abbrev lines_in : Piece → ℕ
lines_in (OfCall l) = call_lines l
lines_in (OfHistory h) = history_lines h

-- past the end of a list nothing is asked
past : {A : Type 0} (xs : List A) (Q : A → Type 0) (k : ℕ) → length xs ≤ k → IfSome (slice_get xs k) Q
past xs Q k l = subst (λ o. IfSome o Q) (sym (slice_get_past xs k l)) tt

length_map : {A B : Type 0} (f : A → B) (xs : List A) → length (map f xs) ≡ length xs
length_map f [] = refl
length_map f (x ∷ xs) = ap (λ n. suc n) (length_map f xs)

-- the rows of a finished search are those below its call
pub rows_are : (l : CallLine) (s : FinishedSearch) → search_told l ≡ Some s → s.rows ≡ rows_told l
rows_are l s e = by_terms (terms_of l.op) e
  where
    by_rows : (terms : List Term) (n : ℕ) (o : Option (List Row)) → with_rows l.caller terms l.begin n o ≡ Some s
        → s.rows ≡ when_some o [] (λ (rows : List Row). rows)
    by_rows terms n None q = absurd (cc)
    by_rows terms n (Some rows) q = sym (ap (λ (o : Option FinishedSearch). when_some o [] (λ (t : FinishedSearch). t.rows)) q)

    by_answer : (terms : List Term) (n : ℕ) (o : Option Answer)
        → when_some (when_some o None (λ (a : Answer). Some (record { entry = n; version = l.version; answer = a })))
        None (λ (e : CallEnd). with_rows l.caller terms l.begin e.entry (rows_in e.answer)) ≡ Some s
        → s.rows ≡ when_some o [] (λ (a : Answer). when_some (rows_in a) [] (λ (rows : List Row). rows))
    by_answer terms n None q = absurd (cc)
    by_answer terms n (Some a) q = by_rows terms n (rows_in a) q

    by_end : (terms : List Term) (o : Option ℕ) → when_some
        (when_some o None (λ n. when_some l.answer None
        (λ (a : Answer). Some (record { entry = n; version = l.version; answer = a })))) None
        (λ (e : CallEnd). with_rows l.caller terms l.begin e.entry (rows_in e.answer)) ≡ Some s
        → s.rows ≡ rows_told l
    by_end terms None q = absurd (cc)
    by_end terms (Some n) q = by_answer terms n l.answer q

    by_terms : (o : Option (List Term)) → when_some o None
        (λ (terms : List Term). when_some (end_told l) None
        (λ (e : CallEnd). with_rows l.caller terms l.begin e.entry (rows_in e.answer))) ≡ Some s → s.rows ≡ rows_told l
    by_terms None q = absurd (cc)
    by_terms (Some terms) q = by_end terms l.end q

-- past its last line a piece keeps every clause
call_past : (clause : Clause) (b : Block) (l : CallLine) (place : ℕ) → call_lines l ≤ place → KeepsInCall clause b l place
call_past clauses.Foreign b l place h = tt
call_past clauses.Legal b l place h = tt
call_past clauses.Missing b l zero h = absurd (omega (arith, h))
call_past clauses.Missing b l (suc k) h = tt
call_past clauses.Order b l place h = tt
call_past clauses.Whole b l zero h = absurd (omega (arith, h))
call_past clauses.Whole b l (suc k) h = tt
call_past clauses.True b l zero h = tt
call_past clauses.True b l (suc k) h = λ s e. past s.rows _ k (let q = ap (length {A = Row}) (rows_are l s e) in omega (arith, h, q))

history_past : (clause : Clause) (b : Block) (h : HistoryLines) (place : ℕ) → history_lines h ≤ place → KeepsInHistory clause b h place
history_past clauses.Foreign b h zero l = tt
history_past clauses.Foreign b h (suc k) l = past h.items _ k (omega (arith, l))
history_past clauses.Legal b h zero l = tt
history_past clauses.Legal b h (suc k) l = past (map (item_told b.calls) h.items) _ k (let q = length_map (item_told b.calls) h.items in omega (arith, l, q))
history_past clauses.Missing b h place l = tt
history_past clauses.Order b h zero l = tt
history_past clauses.Order b h (suc k) l = past h.items _ k (omega (arith, l))
history_past clauses.Whole b h place l = tt
history_past clauses.True b h place l = tt

piece_past : (clause : Clause) (b : Block) (piece : Piece) (place : ℕ) → lines_in piece ≤ place → KeepsInPiece clause b piece place
piece_past clause b (OfCall l) place h = call_past clause b l place h
piece_past clause b (OfHistory x) place h = history_past clause b x place h

-- pieces stand one after another between two lines
abbrev Between : ℕ → ℕ → List Placed → Type 0
Between lo hi [] = lo ≤ hi
Between lo hi (p ∷ rest) = (lo ≤ p.line) × Between (p.line + lines_in p.piece) hi rest

joined : (lo mid hi : ℕ) (xs ys : List Placed) → Between lo mid xs → Between mid hi ys → Between lo hi (xs ++ ys)
joined lo mid hi [] [] f g = omega (arith, f, g)
joined lo mid hi [] (p ∷ ys) f g = (let a = g.0 in omega (arith, f, a), g.1)
joined lo mid hi (p ∷ xs) ys f g = (f.0, joined (p.line + lines_in p.piece) mid hi xs ys f.1 g)

calls_between : (b : Block) (lo line hi : ℕ) (calls : List CallLine) → lo ≤ line → hi ≡ line + lines_of_calls calls → Between lo hi (calls_from b line calls)
calls_between b lo line hi [] l e = omega (arith, l, e)
calls_between b lo line hi (x ∷ rest) l e = (l, calls_between b (line + call_lines x) (line + call_lines x) hi rest (omega arith) (omega (arith, e)))

histories_between : (b : Block) (lo line hi : ℕ) (histories : List HistoryLines) → lo ≤ line
    → line + lines_of_histories histories ≤ hi → Between lo hi (histories_from b line histories)
histories_between b lo line hi [] l e = omega (arith, l, e)
histories_between b lo line hi (x ∷ rest) l e = (
  l,
  histories_between b (line + history_lines x) (line + history_lines x) hi rest (omega arith) (omega (arith, e)),
)

block_between : (b : Block) (line : ℕ) → Between line (line + block_lines b) (block_from b line)
block_between b line =
    joined line (line + space_lines b.space + lines_of_calls b.calls) (line + block_lines b)
    (calls_from b (line + space_lines b.space) b.calls) (histories_from b (line + space_lines b.space + lines_of_calls b.calls) b.histories)
    (calls_between b line (line + space_lines b.space) (line + space_lines b.space + lines_of_calls b.calls) b.calls (omega arith) refl)
    (histories_between b (line + space_lines b.space + lines_of_calls b.calls)
    (line + space_lines b.space + lines_of_calls b.calls) (line + block_lines b) b.histories (omega arith) (omega arith))

-- where the lines of blocks end
abbrev end_of_blocks : ℕ → List Block → ℕ
end_of_blocks line [] = line
end_of_blocks line (b ∷ rest) = end_of_blocks (line + block_lines b) rest

blocks_between : (line : ℕ) (blocks : List Block) → Between line (end_of_blocks line blocks) (blocks_from line blocks)
blocks_between line [] = omega arith
blocks_between line (b ∷ rest) = joined line (line + block_lines b) (end_of_blocks (line + block_lines b) rest)
    (block_from b line) (blocks_from (line + block_lines b) rest) (block_between b line)
    (blocks_between (line + block_lines b) rest)

-- no line of these pieces is lower than where they begin
lower : (lo hi : ℕ) (ps : List Placed) → Between lo hi ps → (q : Placed) → IsIn q ps → lo ≤ q.line
lower lo hi [] f q i = absurd i
lower lo hi (p ∷ ps) f q (inl e) = let a = f.0 in let c = ap (λ (x : Placed). x.line) e in omega (arith, a, c)
lower lo hi (p ∷ ps) f q (inr i) = let a = f.0 in let c = lower (p.line + lines_in p.piece) hi ps f.1 q i in omega (arith, a, c)

module _ (clause : Clause) where
  -- where nothing is found the clause is kept
  pub all_kept : (ps : List Placed) → IsFirstOf clause ps None → (q : Placed) → IsIn q ps → (place : ℕ) → KeepsInPiece clause q.block q.piece place
  all_kept [] f q i place = absurd i
  all_kept (p ∷ ps) (inl f) q (inl e) place = subst (λ (x : Placed). KeepsInPiece clause x.block x.piece place) (sym e) (f.0 place)
  all_kept (p ∷ ps) (inl f) q (inr i) place = all_kept ps f.1 q i place
  all_kept (p ∷ ps) (inr f) q i place = absurd (let e = f.line in cc)

  -- what is found is broken
  pub found : (ps : List Placed) (n : ℕ) → IsFirstOf clause ps (Some n) → (q : Placed) × IsIn q ps
      × ((place : ℕ) × (n ≡ q.line + place) × (KeepsInPiece clause q.block q.piece place → ⊥))
  found [] n f = absurd (cc)
  found (p ∷ ps) n (inl f) = let r = found ps n f.1 in (r.0, inr r.1, r.2)
  found (p ∷ ps) n (inr f) = (p, inl refl, (f.place, (let e = f.line in cc), f.broken))

  -- and nothing is broken below it
  pub lowest : (lo hi : ℕ) (ps : List Placed) → Between lo hi ps → (n : ℕ) → IsFirstOf clause ps (Some n)
      → (q : Placed) → IsIn q ps → (place : ℕ) → (KeepsInPiece clause q.block q.piece place → ⊥) → n ≤ q.line + place
  lowest lo hi [] g n f q i place apart = absurd i
  lowest lo hi (p ∷ ps) g n (inl f) q (inl e) place apart =
      absurd (apart (subst (λ (x : Placed). KeepsInPiece clause x.block x.piece place) (sym e) (f.0 place)))
  lowest lo hi (p ∷ ps) g n (inl f) q (inr i) place apart = lowest (p.line + lines_in p.piece) hi ps g.1 n f.1 q i place apart
  lowest lo hi (p ∷ ps) g n (inr f) q (inl e) place apart = by (cases_lt place f.place)
    where
      at : n ≡ p.line + f.place
      at = let e = f.line in cc

      by : (place < f.place) ⊎ (f.place ≤ place) → n ≤ q.line + place
      by (inl l) = absurd (apart (subst (λ (x : Placed). KeepsInPiece clause x.block x.piece place) (sym e) (f.before place l)))
      by (inr l) = let a = at in let c = ap (λ (x : Placed). x.line) e in omega (arith, l, a, c)
  lowest lo hi (p ∷ ps) g n (inr f) q (inr i) place apart = by (cases_lt f.place (lines_in p.piece))
    where
      at : n ≡ p.line + f.place
      at = let e = f.line in cc

      by : (f.place < lines_in p.piece) ⊎ (lines_in p.piece ≤ f.place) → n ≤ q.line + place
      by (inl l) = let a = at in let c = lower (p.line + lines_in p.piece) hi ps g.1 q i in omega (arith, l, a, c)
      by (inr l) = absurd (f.broken (piece_past clause p.block p.piece f.place l))

-- what a walk over a report doesn't find is kept
pub report_kept : (r : ReportValue) (clause : Clause) → IsFirstOf clause (pieces_of r) None → IsKept r clause
report_kept r clause f p i place = all_kept clause (pieces_of r) f p i place

-- what it finds is the first that is broken
pub report_broken : (r : ReportValue) (clause : Clause) (n : ℕ) → IsFirstOf clause (pieces_of r) (Some n)
    → ((other : Clause) → rank_of other < rank_of clause → IsKept r other) → IsFirstBroken r n clause
report_broken r clause n f earlier =
    let g = found clause (pieces_of r) n f in
    record {
      broken = record { piece = g.0; stands = g.1; place = g.2.0; here = g.2.1; broken = g.2.2 };
      lowest = λ m less broken. (let l = lowest clause 2 (end_of_blocks 2 r.blocks) (pieces_of r)
          (blocks_between 2 r.blocks) n f broken.piece broken.stands broken.place broken.broken in
          let h = broken.here in omega (arith, less, l, h));
      earlier = earlier;
    }
