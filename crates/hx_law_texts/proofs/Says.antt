-- What the bytes of a line say, token by token, wherever they stand.
use Rattle.hx_law_texts.proofs.Vocabulary.{[], and_left, and_right, ap, append_assoc, arith, begins_with, Bool, codes, Draft, drop, drop_at, eqb, eqb-true, Err}
use Rattle.hx_law_texts.proofs.Vocabulary.{false, is_lower, is_word_part, IsWord, leb, leb-true, length, length-append, LexError, line_of, line_of_toks, List}
use Rattle.hx_law_texts.proofs.Vocabulary.{list_all, lit<, map, meaning, ne_eqb, None, not, Ok, Option, Piece, refl, Result, Sign, slice_range, Some, suc, sym}
use Rattle.hx_law_texts.proofs.Vocabulary.{take, take_at, Tok, tok_of, Token, token_piece, TokenKind, tokens_of, toks_from, true, Word, zero, ℕ, ◌++◌, ◌+◌, ◌-◌}
use Rattle.hx_law_texts.proofs.Vocabulary.{◌<◌, ◌∙◌, ◌∷◌, ◌≡◌}
use Rattle.std.proofs.Common.{add-zero}
use Rattle.std.specs.List.{prefix_len}
use Rattle.std.proofs.lemmas.List.Folds.{list_all-append}
use Rattle.hx_lex.specs.declared.token.TokenKind.TheVariants as kinds
use Rattle.hx_lex.specs.Answers.{◌>>=◌}
use Rattle.hx_lex.specs.Lines.{before, token_of, tokens_from}
use Rattle.hx_lex.specs.Pieces.{piece_at}

abbrev pub before_tok : Option TokenKind → List ℕ → Result (List Tok) LexError → Result (List Tok) LexError
before_tok None bytes read = read
before_tok (Some k) bytes read = read >>= λ ts. Ok (tok_of k bytes ∷ ts)

-- what the tokens say, with no line around them
unfoldable pub says : ℕ → ℕ → List ℕ → Result (List Tok) LexError
says at skip [] = Ok []
says at (suc skip) (b ∷ bs) = says (at + 1) skip bs
says at zero (b ∷ bs) = piece_at at (b ∷ bs) >>= λ p. before_tok p.kind (take p.len (b ∷ bs)) (says (at + 1) (p.len - 1) bs)

abbrev pub meant : List ℕ → Result (List Token) LexError → Result (List Tok) LexError
meant line read = read >>= λ ts. Ok (map (meaning line) ts)

one_kind : (line bytes : List ℕ) (at : ℕ) (k : Option TokenKind) (len : ℕ) (read : Result (List Token) LexError)
    (said : Result (List Tok) LexError) → slice_range line at (at + len) ≡ bytes → meant line read ≡ said
    → meant line (before (token_of at (record { kind = k; len = len })) read) ≡ before_tok k bytes said
one_kind line bytes at None len read said s e = e
one_kind line bytes at (Some k) len (Ok ts) said s e = rw (← e, s) refl
one_kind line bytes at (Some k) len (Err d) said s e = rw (← e) refl

one_meant : (line bytes : List ℕ) (at : ℕ) (p : Piece) (read : Result (List Token) LexError)
    (said : Result (List Tok) LexError) → slice_range line at (at + p.len) ≡ bytes → meant line read ≡ said
    → meant line (before (token_of at p) read) ≡ before_tok p.kind bytes said
one_meant line bytes at p read said s e = one_kind line bytes at p.kind p.len read said s e

bind_meant : (line : List ℕ) (r : Result Piece LexError) (f : Piece → Result (List Token) LexError)
    (g : Piece → Result (List Tok) LexError) → ((p : Piece) → meant line (f p) ≡ g p) → meant line (r >>= f) ≡ (r >>= g)
bind_meant line (Ok p) f g h = h p
bind_meant line (Err e) f g h = refl

says_meant : (line front bytes : List ℕ) (at skip : ℕ) → line ≡ front ++ bytes → length front ≡ at → meant line (tokens_from at skip bytes) ≡ says at skip bytes
unfolding tokens_from says
says_meant line front [] at zero e n = refl
says_meant line front [] at (suc skip) e n = refl
says_meant line front (b ∷ bs) at (suc skip) e n =
    says_meant line (front ++ b ∷ []) bs (at + 1) skip (e ∙ sym (append_assoc front (b ∷ []) bs)) (omega (arith, length-append front (b ∷ []), n))
says_meant line front (b ∷ bs) at zero e n =
    let next : line ≡ (front ++ b ∷ []) ++ bs = e ∙ sym (append_assoc front (b ∷ []) bs) in
    let size : length (front ++ b ∷ []) ≡ at + 1 = omega (arith, length-append front (b ∷ []), n) in
    let here : drop at line ≡ b ∷ bs = rw e (drop_at front (b ∷ bs) at n) in
    bind_meant line (piece_at at (b ∷ bs)) (λ p. before (token_of at p) (tokens_from (at + 1) (p.len - 1) bs))
    (λ p. before_tok p.kind (take p.len (b ∷ bs)) (says (at + 1) (p.len - 1) bs))
    (λ p. let len : at + p.len - at ≡ p.len = omega arith in
    one_meant line (take p.len (b ∷ bs)) at p (tokens_from (at + 1) (p.len - 1) bs) (says (at + 1) (p.len - 1) bs)
    (rw (len, here) refl) (says_meant line (front ++ b ∷ []) bs (at + 1) (p.len - 1) next size))

says_skipped : (at skip : ℕ) (bs : List ℕ) → says at skip bs ≡ says (at + skip) 0 (drop skip bs)
unfolding says
says_skipped at zero bs = rw add-zero refl
says_skipped at (suc skip) [] = refl
says_skipped at (suc skip) (b ∷ bs) =
    let e : at + 1 + skip ≡ at + suc skip = omega arith in
    says_skipped (at + 1) skip bs ∙ rw e refl

abbrev pub on_line : ℕ → Bool
on_line b = not (eqb b 10)

-- no line ends within the bytes
abbrev pub IsClean : List ℕ → Type 0
IsClean bytes = list_all on_line bytes ≡ true

-- the bytes of a line say these tokens, wherever they stand
pub record Says (ts : List Tok) (bytes : List ℕ) : Type 0 where
  pub said : (at : ℕ) → says at 0 bytes ≡ Ok ts
  pub clean : IsClean bytes

pub both_clean : (x y : List ℕ) → IsClean x → IsClean y → IsClean (x ++ y)
both_clean x y p q = rw (list_all-append on_line x y, p, q) refl

pub says_piece : (at b : ℕ) (bs : List ℕ) (p : Piece) (ts : List Tok) → piece_at at (b ∷ bs) ≡ Ok p → 0 < p.len
    → says (at + p.len) 0 (drop p.len (b ∷ bs)) ≡ Ok ts → says at 0 (b ∷ bs) ≡ before_tok p.kind (take p.len (b ∷ bs)) (Ok ts)
unfolding says
says_piece at b bs p ts e moves rest =
    let k : p.len ≡ suc (p.len - 1) = omega arith in
    let n : at + 1 + (p.len - 1) ≡ at + p.len = omega arith in
    let d : drop (p.len - 1) bs ≡ drop p.len (b ∷ bs) = ap (λ (m : ℕ). drop m (b ∷ bs)) (sym k) in
    let r : says (at + 1) (p.len - 1) bs ≡ Ok ts = says_skipped (at + 1) (p.len - 1) bs ∙ rw (n, d) rest in
    rw (e, r) refl

nothing_said : (at : ℕ) → says at 0 [] ≡ Ok []
unfolding says
nothing_said at = refl

pub nil_says : Says [] []
nil_says = record { said = nothing_said; clean = refl }

blank_said : (ts : List Tok) (rest : List ℕ) → ((at : ℕ) → says at 0 rest ≡ Ok ts) → (at : ℕ) → says at 0 (32 ∷ rest) ≡ Ok ts
unfolding piece_at
blank_said ts rest h at = says_piece at 32 rest (record { kind = None; len = 1 }) ts refl (lit< tt) (h (at + 1))

pub blank_says : (ts : List Tok) (rest : List ℕ) → Says ts rest → Says ts (32 ∷ rest)
blank_says ts rest h = record { said = blank_said ts rest h.said; clean = h.clean }

-- a run that what follows doesn't go on
pub whole_run : (p : ℕ → Bool) (w rest : List ℕ) → list_all p w ≡ true → begins_with p rest ≡ false → prefix_len p (w ++ rest) ≡ length w
whole_run p [] [] h stop = refl
whole_run p [] (c ∷ cs) h stop = rw stop refl
whole_run p (x ∷ xs) rest h stop =
    let e = whole_run p xs rest (and_right (p x) (list_all p xs) h) stop in
    rw (and_left (p x) (list_all p xs) h) (omega (arith, e))

-- where a test holds of no newline, no line ends
pub clean_by : (p : ℕ → Bool) → p 10 ≡ false → (bs : List ℕ) → list_all p bs ≡ true → IsClean bs
clean_by p other [] h = refl
clean_by p other (b ∷ bs) h = rw (one b (eqb b 10) refl (and_left (p b) (list_all p bs) h)) (clean_by p other bs (and_right (p b) (list_all p bs) h))
  where
    one : (b : ℕ) (t : Bool) → eqb b 10 ≡ t → p b ≡ true → not t ≡ true
    one b false e h = refl
    one b true e h = absurd (let k : b ≡ 10 = eqb-true b 10 e in let w : p 10 ≡ true = rw k at h in cc)

lower_not : (b c : ℕ) → is_lower b ≡ true → c < 97 → eqb b c ≡ false
lower_not b c h lt = ne_eqb b c (λ e. omega (arith, leb-true 97 b (and_left (leb 97 b) (leb b 122) h), e))

piece_word : (at b : ℕ) (bs : List ℕ) → is_lower b ≡ true → piece_at at (b ∷ bs) ≡ token_piece kinds.Word (prefix_len is_word_part (b ∷ bs))
unfolding piece_at
piece_word at b bs h = rw (lower_not b 32 h (lit< tt), lower_not b 9 h (lit< tt), lower_not b 13 h (lit< tt), lower_not b 35 h (lit< tt), h) refl

word_said : (w : List ℕ) (ts : List Tok) (rest : List ℕ) → IsWord w → begins_with is_word_part rest ≡ false
    → ((at : ℕ) → says at 0 rest ≡ Ok ts) → (at : ℕ) → says at 0 (w ++ rest) ≡ Ok (Word w ∷ ts)
word_said [] ts rest is stop h at = absurd (let e : false ≡ true = is.letter in cc)
word_said (b ∷ bs) ts rest is stop h at =
    let n : prefix_len is_word_part (b ∷ (bs ++ rest)) ≡ length (b ∷ bs) = whole_run is_word_part (b ∷ bs) rest is.parts stop in
    let p : Piece = record { kind = Some kinds.Word; len = length (b ∷ bs) } in
    let d : drop (length (b ∷ bs)) (b ∷ (bs ++ rest)) ≡ rest = drop_at (b ∷ bs) rest (length (b ∷ bs)) refl in
    let t : take (length (b ∷ bs)) (b ∷ (bs ++ rest)) ≡ b ∷ bs = take_at (b ∷ bs) rest (length (b ∷ bs)) refl in
    says_piece at b (bs ++ rest) p ts (piece_word at b (bs ++ rest) is.letter ∙ ap (token_piece kinds.Word) n)
    (omega arith) (rw d (h (at + length (b ∷ bs)))) ∙ rw t refl

pub word_says : (w : List ℕ) (ts : List Tok) (rest : List ℕ) → IsWord w → begins_with is_word_part rest ≡ false → Says ts rest → Says (Word w ∷ ts) (w ++ rest)
word_says w ts rest is stop h = record { said = word_said w ts rest is stop h.said; clean = both_clean w rest (clean_by is_word_part refl w is.parts) h.clean }

-- a word, and a blank behind it
pub word_and_blank : (w : List ℕ) (ts : List Tok) (rest : List ℕ) → IsWord w → Says ts rest → Says (Word w ∷ ts) (w ++ 32 ∷ rest)
word_and_blank w ts rest is h = word_says w ts (32 ∷ rest) is refl (blank_says ts rest h)

equals_said : (ts : List Tok) (rest : List ℕ) → ((at : ℕ) → says at 0 rest ≡ Ok ts) → (at : ℕ) → says at 0 (61 ∷ rest) ≡ Ok (Sign (codes "=") ∷ ts)
unfolding piece_at
equals_said ts rest h at = says_piece at 61 rest (record { kind = Some kinds.Sign; len = 1 }) ts refl (lit< tt) (h (at + 1))

pub equals_says : (ts : List Tok) (rest : List ℕ) → Says ts rest → Says (Sign (codes "=") ∷ ts) (61 ∷ rest)
equals_says ts rest h = record { said = equals_said ts rest h.said; clean = h.clean }

comma_said : (ts : List Tok) (rest : List ℕ) → ((at : ℕ) → says at 0 rest ≡ Ok ts) → (at : ℕ) → says at 0 (44 ∷ rest) ≡ Ok (Sign (codes ",") ∷ ts)
unfolding piece_at
comma_said ts rest h at = says_piece at 44 rest (record { kind = Some kinds.Sign; len = 1 }) ts refl (lit< tt) (h (at + 1))

pub comma_says : (ts : List Tok) (rest : List ℕ) → Says ts rest → Says (Sign (codes ",") ∷ ts) (44 ∷ rest)
comma_says ts rest h = record { said = comma_said ts rest h.said; clean = h.clean }

dot_said : (ts : List Tok) (rest : List ℕ) → begins_with (eqb 46) rest ≡ false → ((at : ℕ) → says at 0 rest ≡ Ok ts)
    → (at : ℕ) → says at 0 (46 ∷ rest) ≡ Ok (Sign (codes ".") ∷ ts)
unfolding piece_at
dot_said ts rest stop h at = says_piece at 46 rest (record { kind = Some kinds.Sign; len = 1 }) ts (one rest stop) (lit< tt) (h (at + 1))
  where
    one : (rest : List ℕ) → begins_with (eqb 46) rest ≡ false → piece_at at (46 ∷ rest) ≡ token_piece kinds.Sign 1
    one [] stop = refl
    one (c ∷ cs) stop = rw (ne_eqb c 46 (λ e. absurd (let w : eqb 46 46 ≡ false = rw e at stop in let f : true ≡ false = w in cc))) refl

pub dot_says : (ts : List Tok) (rest : List ℕ) → begins_with (eqb 46) rest ≡ false → Says ts rest → Says (Sign (codes ".") ∷ ts) (46 ∷ rest)
dot_says ts rest stop h = record { said = dot_said ts rest stop h.said; clean = h.clean }

dots_said : (ts : List Tok) (rest : List ℕ) → ((at : ℕ) → says at 0 rest ≡ Ok ts) → (at : ℕ) → says at 0 (46 ∷ 46 ∷ rest) ≡ Ok (Sign (codes "..") ∷ ts)
unfolding piece_at
dots_said ts rest h at = says_piece at 46 (46 ∷ rest) (record { kind = Some kinds.Sign; len = 2 }) ts refl (lit< tt) (h (at + 2))

pub dots_say : (ts : List Tok) (rest : List ℕ) → Says ts rest → Says (Sign (codes "..") ∷ ts) (46 ∷ 46 ∷ rest)
dots_say ts rest h = record { said = dots_said ts rest h.said; clean = h.clean }

-- a line that says tokens is read as these
abbrev done : List Tok → Result (List Tok) LexError
done x = Ok x

toks_are : (line : List ℕ) (r : Result (List Token) LexError) (ts : List Tok) → meant line r ≡ Ok ts → toks_from line r ≡ Ok ts
toks_are line (Ok xs) ts e = ap Ok (ok_toks (map (meaning line) xs) ts e)
  where
    ok_toks : (xs ys : List Tok) → done xs ≡ done ys → xs ≡ ys
    ok_toks xs ys e = cc
toks_are line (Err d) ts e = absurd cc

pub line_toks : (line : List ℕ) (ts : List Tok) → Says ts line → toks_from line (tokens_of line) ≡ Ok ts
line_toks line ts h = toks_are line (tokens_of line) ts (says_meant line [] line 0 0 refl refl ∙ h.said 0)

pub line_says : (n : ℕ) (d : Draft) (line : List ℕ) (ts : List Tok) → Says ts line → line_of n d line ≡ line_of_toks n d ts
line_says n d line ts h = rw (line_toks line ts h) refl
