-- The words become fewer.
use Rattle.std.proofs.Common.{length}
use Rattle.hx_words.proofs.choosing.+chosen_after.Given as goal

abbrev pub decreases-chosen_after : goal.decreases-chosen_after
decreases-chosen_after l = length l.words.now
