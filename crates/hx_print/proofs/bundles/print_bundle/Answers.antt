use Rattle.hx_print.proofs.BundleSessions.{few_sessions}
use Rattle.hx_print.proofs.bundles.print_bundle.Goals as goal

pub put_sessions-requires-clause-few : goal.put_sessions-requires-clause-few
put_sessions-requires-clause-few c = few_sessions c.args.bundle.now c.requires
