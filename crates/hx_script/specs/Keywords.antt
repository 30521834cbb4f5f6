-- The words that begin a line: those of the head and of sections, of calls, and of steps.
use Rattle.std.specs.Prelude.{ℕ, List, Option, Some, None, codes, if◌then◌else◌}
use Rattle.std.specs.Str.{bytes_eq}
use Rattle.hx_script.specs.declared.keyword.Heading.{Heading}
use Rattle.hx_script.specs.declared.keyword.Heading.TheVariants as headings
use Rattle.hx_script.specs.declared.keyword.CallWord.{CallWord}
use Rattle.hx_script.specs.declared.keyword.CallWord.TheVariants as calls
use Rattle.hx_script.specs.declared.keyword.StepWord.{StepWord}
use Rattle.hx_script.specs.declared.keyword.StepWord.TheVariants as steps
use Rattle.hx_script.specs.declared.keyword.Keyword.{Keyword}
use Rattle.hx_script.specs.declared.keyword.Keyword.TheVariants as keywords

abbrev pub heading_of : List ℕ → Option Heading
heading_of w =
    if bytes_eq w (codes "hx") then Some headings.Hx
    else (if bytes_eq w (codes "space") then Some headings.Space
    else (if bytes_eq w (codes "key") then Some headings.Key
    else (if bytes_eq w (codes "string") then Some headings.String
    else (if bytes_eq w (codes "int") then Some headings.Int
    else (if bytes_eq w (codes "subspace") then Some headings.Subspace
    else (if bytes_eq w (codes "servers") then Some headings.Servers
    else (if bytes_eq w (codes "tolerate") then Some headings.Tolerate
    else (if bytes_eq w (codes "session") then Some headings.Session
    else (if bytes_eq w (codes "steps") then Some headings.Steps
    else None)))))))))

abbrev pub call_word_of : List ℕ → Option CallWord
call_word_of w =
    if bytes_eq w (codes "put") then Some calls.Put
    else (if bytes_eq w (codes "get") then Some calls.Get
    else (if bytes_eq w (codes "del") then Some calls.Del
    else (if bytes_eq w (codes "cput") then Some calls.Cput
    else (if bytes_eq w (codes "search") then Some calls.Search
    else (if bytes_eq w (codes "stop") then Some calls.Stop
    else (if bytes_eq w (codes "add") then Some calls.Add
    else (if bytes_eq w (codes "atomic") then Some calls.Atomic
    else None)))))))

abbrev pub step_word_of : List ℕ → Option StepWord
step_word_of w =
    if bytes_eq w (codes "deliver") then Some steps.Deliver
    else (if bytes_eq w (codes "tick") then Some steps.Tick
    else (if bytes_eq w (codes "halt") then Some steps.Halt
    else None))

abbrev pub or_step : Option StepWord → Option Keyword
or_step (Some s) = Some (keywords.Step s)
or_step None = None

abbrev pub or_call : Option CallWord → Option Keyword → Option Keyword
or_call (Some c) other = Some (keywords.Call c)
or_call None other = other

abbrev pub or_heading : Option Heading → Option Keyword → Option Keyword
or_heading (Some h) other = Some (keywords.Heading h)
or_heading None other = other

abbrev pub keyword_of : List ℕ → Option Keyword
keyword_of w = or_heading (heading_of w) (or_call (call_word_of w) (or_step (step_word_of w)))
