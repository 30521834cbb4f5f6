use Rattle.std.specs.Prelude.{Some}
use Rattle.hx_mail.proofs.mailboxes.Mailbox.new.Given as goal

-- what the box is named by
abbrev pub ghosts-named : goal.ghosts-named
ghosts-named a = record { names = Some (record { clock = a.clock.now; owner = a.owner; space = a.space.now; sessions = a.sessions }) }
