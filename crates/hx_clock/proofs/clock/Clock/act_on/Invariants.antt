use Rattle.hx_clock.proofs.clock.Clock.act_on.Given as goal

-- the entry that is made
abbrev pub ghosts-act_making : goal.ghosts-act_making
ghosts-act_making a = record { entry = record { actor = a._actor; input = a._input.now; outputs = a._posts.now; notes = a._notes.now } }
