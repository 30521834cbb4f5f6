use Rattle.std.proofs.Common.{◌≡◌, ◌++◌, take}
use Rattle.std.specs.List.{flat_map}
use Rattle.hx_print.specs.Printing.{subspace_line}
use Rattle.hx_print.proofs.spaces.put_subspaces.Given as goal

abbrev pub invariant-loop-axes : goal.invariant-loop-axes
invariant-loop-axes l = l.out.items ≡ l.fn.out.items ++ flat_map (subspace_line l.space) (take l.axes-index l.all)
