-- A word is ASCII, so a text.
use Rattle.std.proofs.Common.{ℕ, List}
use Rattle.std.specs.Str.{IsUtf8}
use Rattle.hx_lex.specs.Letters.{IsWord}
use Rattle.hx_lex.proofs.Lemmas.{word_utf8}

pub word_is_text : (bytes : List ℕ) → IsWord bytes → IsUtf8 bytes
word_is_text bytes is = word_utf8 bytes is
