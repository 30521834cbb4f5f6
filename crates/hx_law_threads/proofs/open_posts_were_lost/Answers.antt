use Rattle.hx_law_threads.proofs.Offers.{open_lost, repeats_put}
use Rattle.hx_law_threads.proofs.open_posts_were_lost.Goals as goal

pub returns : goal.returns
returns c = record { lost = open_lost; repeats = repeats_put }
