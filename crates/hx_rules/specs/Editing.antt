-- Why edits weren't made.
use Rattle.std.specs.Prelude.{◌≡◌, Result, Err, ⊤}
use Rattle.hx_types.specs.declared.calls.Answer.{Answer}
use Rattle.hx_types.specs.declared.calls.Answer.TheVariants as an_answer
use Rattle.hx_rules.specs.declared.edits.EditError.{EditError}
use Rattle.hx_rules.specs.declared.edits.EditError.TheVariants.{Memory, Overflow, TooLong}

-- the error is the answer of the first edit that fails, or want of memory
abbrev pub Fails : {A : Type 0} → Result A Answer → EditError → Type 0
Fails made Memory = ⊤
Fails made Overflow = made ≡ Err an_answer.Overflow
Fails made TooLong = made ≡ Err an_answer.TooLong
