-- In every run every post is sound.
use Rattle.hx_law_posts.proofs.Runs.{epochs_stay_small, posts_stay_sound, versions_stay_small}
use Rattle.hx_law_posts.proofs.posts_of_runs_are_sound.Goals as goal

pub returns : goal.returns
returns c = record { posts = posts_stay_sound; versions = versions_stay_small; epochs = epochs_stay_small }
