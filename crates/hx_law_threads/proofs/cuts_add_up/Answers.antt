use Rattle.hx_law_threads.proofs.PartPaces.{whole_adds_up}
use Rattle.hx_law_threads.proofs.Reading.{read_in_parts}
use Rattle.hx_law_threads.proofs.Totals as a_total
use Rattle.hx_law_threads.proofs.Weights.{named_once, open_counted, posts_weigh}
use Rattle.hx_law_threads.proofs.cuts_add_up.Goals as goal

pub returns : goal.returns
returns c = record {
  parts = read_in_parts;
  cuts = a_total.cuts_add_up;
  traces = whole_adds_up;
  posts = posts_weigh;
  few_open = open_counted;
  names = named_once;
}
