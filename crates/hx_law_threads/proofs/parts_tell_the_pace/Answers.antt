use Rattle.hx_law_threads.proofs.PartPaces.{paced_parts, parts_tell}
use Rattle.hx_law_threads.proofs.parts_tell_the_pace.Goals as goal

pub returns : goal.returns
returns c = record { parts = parts_tell; traces = paced_parts }
