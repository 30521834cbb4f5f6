use Rattle.std.proofs.Common.{◌≡◌, ◌++◌, length}
use Rattle.hx_print.specs.Prefixes.{IsPrefix}
use Rattle.hx_report.specs.Reporting.{object_text}
use Rattle.hx_report.proofs.objects.put_object.Given as goal

abbrev pub invariant-values : goal.invariant-values
invariant-values l = record {
  appends : l.out.items ++ object_text l.declared l.values ≡ l.fn.out.items ++ object_text l.attributes l.object;
  prefix : IsPrefix l.fn.out.items l.out.items;
}

abbrev pub decreases-values : goal.decreases-values
decreases-values l = length l.declared
