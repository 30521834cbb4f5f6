use Rattle.std.proofs.Common.{length}
use Rattle.hx_region.proofs.meeting.+rows_meeting.Given as goal

abbrev pub decreases-rows_meeting : goal.decreases-rows_meeting
decreases-rows_meeting l = length l.axes.now
