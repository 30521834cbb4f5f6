-- Walking over the pieces of a report, one after another.
use Rattle.std.proofs.Common.{◌≡◌, ℕ, zero, suc, ◌+◌, ◌<◌, inl, inr, true, false, is_some, List, [], ◌∷◌, ◌++◌, length}
use Rattle.std.proofs.Common.{Option, None, Some, refl, sym, ap, ◌∙◌, subst, arith}
use Rattle.hx_report_lines.specs.declared.blocks.Block.{Block}
use Rattle.hx_report_lines.specs.declared.calls.CallLine.{CallLine}
use Rattle.hx_report_lines.specs.declared.histories.HistoryLines.{HistoryLines}
use Rattle.hx_audit.specs.declared.verdicts.Clause.{Clause}
use Rattle.hx_audit.specs.declared.verdicts.Clause.TheVariants as clauses
use Rattle.hx_audit.specs.Clauses.{KeepsInCall, KeepsInHistory}
use Rattle.hx_audit.specs.Verdicts.{OfCall, OfHistory, Placed, block_from, block_lines, blocks_from, call_lines}
use Rattle.hx_audit.specs.Verdicts.{calls_from, histories_from, history_lines, lines_of_calls, space_lines}
use Rattle.hx_audit.specs.Walking.{IsFirstNot, IsFirstOf}

-- nothing is broken in what comes first
pub after_none : (clause : Clause) (xs ys : List Placed) (r : Option ℕ) → IsFirstOf clause xs None → IsFirstOf clause ys r → IsFirstOf clause (xs ++ ys) r
after_none clause [] ys r f g = g
after_none clause (p ∷ xs) ys r (inl f) g = inl (f.0, after_none clause xs ys r f.1 g)
after_none clause (p ∷ xs) ys r (inr f) g = absurd (let e = f.line in cc)

-- something is broken in what comes first
pub after_some : (clause : Clause) (xs ys : List Placed) (n : ℕ) → IsFirstOf clause xs (Some n) → IsFirstOf clause (xs ++ ys) (Some n)
after_some clause [] ys n f = absurd (cc)
after_some clause (p ∷ xs) ys n (inl f) = inl (f.0, after_some clause xs ys n f.1)
after_some clause (p ∷ xs) ys n (inr f) = inr f

-- one piece alone
abbrev pub one_call : Block → ℕ → CallLine → List Placed
one_call b line l = record { line = line; block = b; piece = OfCall l } ∷ []

abbrev pub one_history : Block → ℕ → HistoryLines → List Placed
one_history b line h = record { line = line; block = b; piece = OfHistory h } ∷ []

-- the first line of a call is broken
pub call_broken : (clause : Clause) (b : Block) (line : ℕ) (l : CallLine) → (KeepsInCall clause b l 0 → ⊥) → IsFirstOf clause (one_call b line l) (Some line)
call_broken clause b line l broken = inr (record { place = 0; line = ap Some (omega arith); broken = broken; before = λ k less. absurd (omega (arith, less)) })

-- a row of a call is broken
pub row_broken : (clause : Clause) (b : Block) (line : ℕ) (l : CallLine) (place n : ℕ) → KeepsInCall clause b l 0
    → IsFirstNot (λ k. KeepsInCall clause b l (suc k)) (Some place) → n ≡ line + 1 + place
    → IsFirstOf clause (one_call b line l) (Some n)
row_broken clause b line l place n first row e = inr (record { place = suc place; line = ap Some (omega (arith, e)); broken = row.0; before = before })
  where
    before : (k : ℕ) → k < suc place → KeepsInCall clause b l k
    before zero less = first
    before (suc k) less = row.1 k (omega (arith, less))

-- no line of a call is broken
pub call_kept : (clause : Clause) (b : Block) (line : ℕ) (l : CallLine) → KeepsInCall clause b l 0
    → IsFirstNot (λ k. KeepsInCall clause b l (suc k)) None → IsFirstOf clause (one_call b line l) None
call_kept clause b line l first rows = inl (all, refl)
  where
    all : (k : ℕ) → KeepsInCall clause b l k
    all zero = first
    all (suc k) = rows k

-- the line of a key keeps every clause
pub heading : (clause : Clause) (b : Block) (h : HistoryLines) → KeepsInHistory clause b h 0
heading clauses.Foreign b h = tt
heading clauses.Legal b h = tt
heading clauses.Missing b h = tt
heading clauses.Order b h = tt
heading clauses.Whole b h = tt
heading clauses.True b h = tt

-- an item of a history is broken
pub item_broken : (clause : Clause) (b : Block) (line : ℕ) (h : HistoryLines) (place n : ℕ)
    → IsFirstNot (λ k. KeepsInHistory clause b h (suc k)) (Some place) → n ≡ line + 1 + place
    → IsFirstOf clause (one_history b line h) (Some n)
item_broken clause b line h place n item e = inr (record { place = suc place; line = ap Some (omega (arith, e)); broken = item.0; before = before })
  where
    before : (k : ℕ) → k < suc place → KeepsInHistory clause b h k
    before zero less = heading clause b h
    before (suc k) less = item.1 k (omega (arith, less))

-- no item of a history is broken
pub history_kept : (clause : Clause) (b : Block) (line : ℕ) (h : HistoryLines)
    → IsFirstNot (λ k. KeepsInHistory clause b h (suc k)) None → IsFirstOf clause (one_history b line h) None
history_kept clause b line h items = inl (all, refl)
  where
    all : (k : ℕ) → KeepsInHistory clause b h k
    all zero = heading clause b h
    all (suc k) = items k

-- the answer of a part, where it is some line
pub if_some : (clause : Clause) (xs ys : List Placed) (r : Option ℕ) → is_some r ≡ true → IsFirstOf clause xs r → IsFirstOf clause (xs ++ ys) r
if_some clause xs ys None e f = absurd (cc)
if_some clause xs ys (Some n) e f = after_some clause xs ys n f

-- and where it is none
pub if_none : (clause : Clause) (xs ys : List Placed) (r s : Option ℕ) → is_some r ≡ false → IsFirstOf clause xs r
    → IsFirstOf clause ys s → IsFirstOf clause (xs ++ ys) s
if_none clause xs ys (Some n) s e f g = absurd (cc)
if_none clause xs ys None s e f g = after_none clause xs ys s f g

-- a loop over calls
pub at_call : (clause : Clause) (b : Block) (line : ℕ) (l : CallLine) (all rest : List CallLine) (r : Option ℕ)
    → all ≡ l ∷ rest → is_some r ≡ true → IsFirstOf clause (one_call b line l) r → IsFirstOf clause (calls_from b line all) r
at_call clause b line l all rest r e s f = subst (λ (ls : List CallLine). IsFirstOf clause (calls_from b line ls) r)
    (sym e) (if_some clause (one_call b line l) (calls_from b (line + call_lines l) rest) r s f)

pub past_call : (clause : Clause) (b : Block) (line next : ℕ) (l : CallLine) (all rest : List CallLine)
    (r s : Option ℕ) → all ≡ l ∷ rest → is_some r ≡ false → IsFirstOf clause (one_call b line l) r → next ≡ line + call_lines l
    → IsFirstOf clause (calls_from b next rest) s → IsFirstOf clause (calls_from b line all) s
past_call clause b line next l all rest r s e n f at g =
    subst (λ (ls : List CallLine). IsFirstOf clause (calls_from b line ls) s) (sym e)
    (if_none clause (one_call b line l) (calls_from b (line + call_lines l) rest) r s n f (subst (λ m. IsFirstOf clause (calls_from b m rest) s) at g))

-- a loop over histories
pub at_history : (clause : Clause) (b : Block) (line : ℕ) (h : HistoryLines) (all rest : List HistoryLines)
    (r : Option ℕ) → all ≡ h ∷ rest → is_some r ≡ true → IsFirstOf clause (one_history b line h) r
    → IsFirstOf clause (histories_from b line all) r
at_history clause b line h all rest r e s f = subst
    (λ (hs : List HistoryLines). IsFirstOf clause (histories_from b line hs) r) (sym e)
    (if_some clause (one_history b line h) (histories_from b (line + history_lines h) rest) r s f)

pub past_history : (clause : Clause) (b : Block) (line next : ℕ) (h : HistoryLines) (all rest : List HistoryLines)
    (r s : Option ℕ) → all ≡ h ∷ rest → is_some r ≡ false → IsFirstOf clause (one_history b line h) r
    → next ≡ line + history_lines h
    → IsFirstOf clause (histories_from b next rest) s → IsFirstOf clause (histories_from b line all) s
past_history clause b line next h all rest r s e n f at g =
    subst (λ (hs : List HistoryLines). IsFirstOf clause (histories_from b line hs) s) (sym e)
    (if_none clause (one_history b line h) (histories_from b (line + history_lines h) rest) r s n f
    (subst (λ m. IsFirstOf clause (histories_from b m rest) s) at g))

-- a loop over blocks
pub at_block : (clause : Clause) (line : ℕ) (b : Block) (all rest : List Block) (r : Option ℕ) → all ≡ b ∷ rest
    → is_some r ≡ true → IsFirstOf clause (block_from b line) r → IsFirstOf clause (blocks_from line all) r
at_block clause line b all rest r e s f = subst (λ (bs : List Block). IsFirstOf clause (blocks_from line bs) r)
    (sym e) (if_some clause (block_from b line) (blocks_from (line + block_lines b) rest) r s f)

pub past_block : (clause : Clause) (line next : ℕ) (b : Block) (all rest : List Block) (r s : Option ℕ)
    → all ≡ b ∷ rest → is_some r ≡ false → IsFirstOf clause (block_from b line) r → next ≡ line + block_lines b
    → IsFirstOf clause (blocks_from next rest) s → IsFirstOf clause (blocks_from line all) s
past_block clause line next b all rest r s e n f at g =
    subst (λ (bs : List Block). IsFirstOf clause (blocks_from line bs) s) (sym e)
    (if_none clause (block_from b line) (blocks_from (line + block_lines b) rest) r s n f (subst (λ m. IsFirstOf clause (blocks_from m rest) s) at g))

pub calls_end : (clause : Clause) (b : Block) (line : ℕ) (rest : List CallLine) → length rest ≡ 0 → IsFirstOf clause (calls_from b line rest) None
calls_end clause b line [] e = refl
calls_end clause b line (l ∷ rest) e = absurd (omega (arith, e))

pub histories_end : (clause : Clause) (b : Block) (line : ℕ) (rest : List HistoryLines) → length rest ≡ 0 → IsFirstOf clause (histories_from b line rest) None
histories_end clause b line [] e = refl
histories_end clause b line (h ∷ rest) e = absurd (omega (arith, e))

pub blocks_end : (clause : Clause) (line : ℕ) (rest : List Block) → length rest ≡ 0 → IsFirstOf clause (blocks_from line rest) None
blocks_end clause line [] e = refl
blocks_end clause line (b ∷ rest) e = absurd (omega (arith, e))

-- the calls of a block, and its histories
pub block_at : (clause : Clause) (b : Block) (line first : ℕ) (calls : List CallLine) (r : Option ℕ)
    → first ≡ line + space_lines b.space → calls ≡ b.calls → is_some r ≡ true
    → IsFirstOf clause (calls_from b first calls) r → IsFirstOf clause (block_from b line) r
block_at clause b line first calls r e q s f =
    if_some clause (calls_from b (line + space_lines b.space) b.calls) (histories_from b (line + space_lines b.space + lines_of_calls b.calls) b.histories) r s
    (subst (λ n. IsFirstOf clause (calls_from b n b.calls) r) e (subst (λ (ls : List CallLine). IsFirstOf clause (calls_from b first ls) r) q f))

pub block_past : (clause : Clause) (b : Block) (line first next : ℕ) (calls : List CallLine)
    (histories : List HistoryLines) (r s : Option ℕ) → first ≡ line + space_lines b.space → calls ≡ b.calls
    → histories ≡ b.histories → next ≡ first + lines_of_calls calls
    → is_some r ≡ false → IsFirstOf clause (calls_from b first calls) r
    → IsFirstOf clause (histories_from b next histories) s → IsFirstOf clause (block_from b line) s
block_past clause b line first next calls histories r s e q h n apart f g =
    if_none clause (calls_from b (line + space_lines b.space) b.calls)
    (histories_from b (line + space_lines b.space + lines_of_calls b.calls) b.histories) r s apart
    (subst (λ m. IsFirstOf clause (calls_from b m b.calls) r) e (subst (λ (ls : List CallLine). IsFirstOf clause (calls_from b first ls) r) q f))
    (subst (λ m. IsFirstOf clause (histories_from b m b.histories) s) (n ∙ (λ i. e i + lines_of_calls (q i)))
    (subst (λ (hs : List HistoryLines). IsFirstOf clause (histories_from b next hs) s) h g))
