use Rattle.std.proofs.Common.{rules, sym, subst}
use Rattle.hx_types.specs.Fitting.{IsScript}
use Rattle.hx_soak.specs.Owning.{KeysAreOwned}
use Rattle.hx_soak.proofs.Fitting.{is_script}
use Rattle.hx_soak.proofs.Owners.{keys_are_owned}
use Rattle.hx_soak.proofs.scripts.script_of.Goals as goal

pub returns-clause-exact : goal.returns-clause-exact
returns-clause-exact c = search rules

pub returns-clause-valid : goal.returns-clause-valid
returns-clause-valid c = subst IsScript (sym (returns-clause-exact c)) (is_script c.args.seed c.args.calls c.requires)

pub returns-clause-owned : goal.returns-clause-owned
returns-clause-owned c = subst KeysAreOwned (sym (returns-clause-exact c)) (keys_are_owned c.args.seed c.args.calls)
