-- The kinds of calls.
use Rattle.std.specs.Prelude.{Bool}
use Rattle.hx_model.specs.Types.{Op}
use Rattle.hx_model.specs.SessionSteps.{is_administrative, is_key_call, is_search}
use Rattle.hx_session.specs.declared.kinds.CallKind.{CallKind}
use Rattle.hx_session.specs.declared.kinds.CallKind.TheVariants.{OnKey, Search, Administrative}

abbrev pub kind_test : CallKind → Op → Bool
kind_test OnKey op = is_key_call op
kind_test Search op = is_search op
kind_test Administrative op = is_administrative op
