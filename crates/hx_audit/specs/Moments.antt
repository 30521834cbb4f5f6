-- Times of calls, and the last of the begins that stand above an item.
use Rattle.std.specs.Prelude.{ℕ, Bool, false, if◌then◌else◌, nat_lt, Option, None, Some}
use Rattle.std.specs.Option.{option_map}
use Rattle.hx_model.specs.Types.{Caller}
use Rattle.hx_types.specs.Words.{when_some}
use Rattle.hx_model.specs.Histories.{CallEnd}
use Rattle.hx_report_lines.specs.declared.blocks.Block.{Block}
use Rattle.hx_report_lines.specs.declared.calls.CallLine.{CallLine}
use Rattle.hx_audit.specs.Told.{call_at, end_told}

abbrev pub time_of_end : CallLine → Option ℕ
time_of_end l = option_map (λ (e : CallEnd). e.entry) (end_told l)

-- when the call of a caller began and ended
abbrev pub begin_at : Block → Caller → Option ℕ
begin_at b c = option_map (λ (l : CallLine). l.begin) (call_at b.calls c)

abbrev pub end_at : Block → Caller → Option ℕ
end_at b c = when_some (call_at b.calls c) None time_of_end

-- the later of two times, where there are any
abbrev pub later : Option ℕ → Option ℕ → Option ℕ
later None other = other
later (Some m) None = Some m
later (Some m) (Some n) = if nat_lt m n then Some n else Some m

-- the earlier of two times, where there are any
abbrev pub earlier : Option ℕ → Option ℕ → Option ℕ
earlier None other = other
earlier (Some m) None = Some m
earlier (Some m) (Some n) = if nat_lt n m then Some n else Some m

-- what ended here did so before the last begin
abbrev pub is_late : Option ℕ → Option ℕ → Bool
is_late None latest = false
is_late (Some end) None = false
is_late (Some end) (Some latest) = nat_lt end latest
