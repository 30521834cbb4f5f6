use Rattle.hx_clock.proofs.Runs.{get_told}
use Rattle.hx_clock.proofs.part_lists.head_at.Goals as goal

pub returns : goal.returns
returns c = get_told c.args.lists.now.heads.items c.args.place c.index.result.now c.requires c.index.ensures
