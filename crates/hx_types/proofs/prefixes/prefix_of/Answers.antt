use Rattle.std.proofs.Common.{ap, ◌∙◌}
use Rattle.std.proofs.Math.Facts.{Fits-lt-pow}
use Rattle.hx_types.specs.Prefixes.{prefix_of}
use Rattle.hx_types.proofs.Prefixed.{all-bytes, first-eight}
use Rattle.hx_types.proofs.prefixes.prefix_of.Goals as goal

pub returns-in-Some : goal.returns-in-Some
returns-in-Some c = record {
  prefix_is = c.from_be_bytes.ensures ∙ first-eight c.as_bytes-bytes.result.now c.in-Some.front.now
      c.in-Some.ensures.cases.same c.in-Some.ensures.cases.enough ∙ ap prefix_of c.as_bytes-bytes.ensures.value;
  bytes = all-bytes c.args.text.now (λ k. Fits-lt-pow (c.type_inv.text k));
}

pub returns-in-None : goal.returns-in-None
returns-in-None c = record {
  prefix_is = c.prefix_by_bytes.ensures ∙ ap prefix_of c.as_bytes-bytes.ensures.value;
  bytes = all-bytes c.args.text.now (λ k. Fits-lt-pow (c.type_inv.text k));
}
