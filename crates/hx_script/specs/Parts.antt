-- What the cursor hands out, as a token.
use Rattle.hx_script.specs.declared.line.Part.{Part}
use Rattle.hx_script.specs.declared.line.Part.TheVariants as parts
use Rattle.hx_script.specs.Toks.{Tok, Word, Number, Text, Sign}

abbrev pub said : Part → Tok
said (parts.Word w) = Word w.now
said (parts.Number n) = Number n
said (parts.Text t) = Text t.now
said (parts.Sign s) = Sign s.now
