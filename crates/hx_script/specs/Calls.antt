-- Calls and steps, each on a line of its own.
use Rattle.std.specs.Prelude.{ℕ, ◌-◌, [], codes}
use Rattle.hx_types.specs.declared.calls.Op.{Op}
use Rattle.hx_types.specs.declared.calls.Op.TheVariants as ops
use Rattle.hx_types.specs.declared.spaces.Space.{Space}
use Rattle.hx_types.specs.declared.traces.Step.{Step}
use Rattle.hx_types.specs.declared.traces.Step.TheVariants as a_step
use Rattle.hx_script.specs.declared.keyword.CallWord.{CallWord}
use Rattle.hx_script.specs.declared.keyword.CallWord.TheVariants as calls
use Rattle.hx_script.specs.declared.keyword.StepWord.{StepWord}
use Rattle.hx_script.specs.declared.keyword.StepWord.TheVariants as step_words
use Rattle.hx_script.specs.declared.line.Until.TheVariants as until
use Rattle.hx_script.specs.Readers.{◌>>=◌, Reader, give, natural, number_in, end, sign, fixed}
use Rattle.hx_script.specs.Values.{short_text, more_assigns, some_assigns, all_terms}
use Rattle.hx_script.specs.Edits.{some_edits}
use Rattle.hx_script.specs.Actors.{actor}

-- put T N=V ..
unfoldable pub put : Space → Reader Op
put space = do
  key ← short_text
  sets ← more_assigns space until.End []
  give (ops.Put key sets)

-- get T
unfoldable pub get : Reader Op
get = do
  key ← short_text
  ended ← end
  give (ops.Get key)

-- del T
unfoldable pub del : Reader Op
del = do
  key ← short_text
  ended ← end
  give (ops.Del key)

-- cput T if N=V .. set N=V ..
unfoldable pub cput : Space → Reader Op
cput space = do
  key ← short_text
  tested ← fixed (codes "if")
  tests ← some_assigns space until.Set
  written ← fixed (codes "set")
  sets ← some_assigns space until.End
  give (ops.Cput key tests sets)

-- search, with N=V or N=I..I ..
unfoldable pub search_call : Space → Reader Op
search_call space = do
  terms ← all_terms space
  give (ops.Search terms)

-- stop I
unfoldable pub stop : Space → Reader Op
stop space = do
  server ← number_in 1 space.servers
  ended ← end
  give (ops.Stop (record { 0 = server }))

-- add I I
unfoldable pub add : Space → ℕ → Reader Op
add space regions = do
  server ← number_in 1 space.servers
  region ← number_in 0 (regions - 1)
  ended ← end
  give (ops.Add (record { 0 = server }) (record { 0 = region }))

-- atomic T, with add N=V, append N=V, min N=V or max N=V ..
unfoldable pub atomic : Space → Reader Op
atomic space = do
  key ← short_text
  edits ← some_edits space
  give (ops.Atomic key edits)

-- the call that a word begins, in a space with so many regions
abbrev pub call : Space → ℕ → CallWord → Reader Op
call space regions calls.Put = put space
call space regions calls.Get = get
call space regions calls.Del = del
call space regions calls.Cput = cput space
call space regions calls.Search = search_call space
call space regions calls.Stop = stop space
call space regions calls.Add = add space regions
call space regions calls.Atomic = atomic space

-- deliver I.I
unfoldable pub deliver : Reader Step
deliver = do
  entry ← natural
  dot ← sign (codes ".")
  place ← number_in 0 4294967295
  ended ← end
  give (a_step.Deliver (record { entry = entry; place = place }))

-- tick A
unfoldable pub tick : ℕ → ℕ → Reader Step
tick servers sessions = do
  a ← actor servers sessions
  ended ← end
  give (a_step.Tick a)

-- halt A
unfoldable pub halt : ℕ → ℕ → Reader Step
halt servers sessions = do
  a ← actor servers sessions
  ended ← end
  give (a_step.Halt a)

-- the step that a word begins, with so many servers and sessions
abbrev pub step : ℕ → ℕ → StepWord → Reader Step
step servers sessions step_words.Deliver = deliver
step servers sessions step_words.Tick = tick servers sessions
step servers sessions step_words.Halt = halt servers sessions
