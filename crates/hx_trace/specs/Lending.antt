-- A trace lends itself to grow.
use Rattle.std.specs.Prelude.{List}
use Rattle.std.specs.Borrow.{Lends, MutBor, Fml}
use Rattle.hx_model.specs.Types.{Entry}
use Rattle.hx_trace.specs.contracts.growing.GrowingTrace as growing
use Rattle.hx_trace.specs.contracts.traces.Trace as trace
use Rattle.hx_trace.specs.Rooms.{Growth}

-- the trace ends with the entries that are left behind r
abbrev pub LendsGrowing : MutBor (List Entry) → MutBor Growth → Fml
LendsGrowing s r = Lends trace.the_row growing.the_row s r (λ w. w.entries)
