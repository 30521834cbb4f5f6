use Rattle.std.proofs.Common.{◌≡◌, ◌+◌, ◌<◌, ◌≤◌, length, reverse}
use Rattle.hx_world.specs.Worlds.{most_entries}
use Rattle.hx_service.specs.Booking.{IsServing}
use Rattle.hx_service.specs.Services.{IsDrained}
use Rattle.hx_service.proofs.advancing.settle.Given as goal

abbrev pub invariant-loop-made : goal.invariant-loop-made
invariant-loop-made l = record {
  serving : IsServing l.world.script (reverse l.world.trace) l.progress.items l.booked.items;
  script : l.world.script ≡ l.initial.world.script;
  drained : IsDrained l.initial.world.script (reverse l.initial.world.trace) (reverse l.world.trace);
  long : length l.world.trace ≡ length l.initial.world.trace + l._made;
  most : 0 < l._made → length l.world.trace ≤ most_entries;
}
