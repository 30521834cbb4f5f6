-- A piece may stand at the front of the bytes.
use Rattle.std.proofs.Common.{◌≡◌, ℕ, ◌<◌, ◌≤◌, Bool, true, false, cond, List, length, take, Some, None, Result, Ok, Err, refl, subst}
use Rattle.std.proofs.lemmas.Option.{same_Some}
use Rattle.hx_lex.specs.declared.token.Piece.{Piece}
use Rattle.hx_lex.specs.declared.token.TokenKind.{TokenKind}
use Rattle.hx_lex.specs.declared.errors.LexError.{LexError}
use Rattle.hx_lex.specs.Numbers.{token_piece}
use Rattle.hx_lex.specs.Spelling.{IsSpelled}

-- a piece that may stand at the front of the bytes
pub record IsPiece (rest : List ℕ) (p : Piece) : Type 0 where
  pub moves : 0 < p.len
  pub within : p.len ≤ length rest
  pub spelled : (k : TokenKind) → p.kind ≡ Some k → IsSpelled k (take p.len rest)

-- what is read is such a piece
abbrev pub Sound : List ℕ → Result Piece LexError → Type 0
Sound rest (Ok p) = IsPiece rest p
Sound rest (Err e) = Unit {0}

-- a fact of both branches
pub choice : {A : Type 0} (P : A → Type 0) (c : Bool) (x y : A) → (c ≡ true → P x) → (c ≡ false → P y) → P (cond c x y)
choice P true x y f g = f refl
choice P false x y f g = g refl

pub no_token : (rest : List ℕ) (len : ℕ) → 0 < len → len ≤ length rest → Sound rest (Ok (record { kind = None; len = len }))
no_token rest len moves within = record { moves = moves; within = within; spelled = λ k e. absurd cc }

pub a_token : (rest : List ℕ) (k : TokenKind) (len : ℕ) → 0 < len → len ≤ length rest → IsSpelled k (take len rest) → Sound rest (token_piece k len)
a_token rest k len moves within is = record {
  moves = moves;
  within = within;
  spelled = λ j e. subst (λ (x : TokenKind). IsSpelled x (take len rest)) (same_Some k j e) is;
}
