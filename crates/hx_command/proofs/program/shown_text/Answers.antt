-- The text of the help, byte by byte.
use Rattle.std.proofs.Common.{sym, ap}
use Rattle.hx_command.specs.Showing.{shown_text}
use Rattle.hx_command.proofs.program.shown_text.Goals as goal

pub returns-in-Help : goal.returns-in-Help
returns-in-Help c = sym (ap shown_text c.in-Help.is)
