-- A script as its own print is read: the same, and each step has the number of its line there.
use Rattle.std.specs.Prelude.{ℕ, ◌+◌, List, [], ◌∷◌, length, sum_by}
use Rattle.hx_types.specs.declared.calls.Op.{Op}
use Rattle.hx_types.specs.declared.traces.Script.{Script}
use Rattle.hx_types.specs.declared.traces.Step.{Step}

-- the same steps on lines that follow each other, the first on line n
abbrev pub on_lines_from : ℕ → List (ℕ × Step) → List (ℕ × Step)
on_lines_from n [] = []
on_lines_from n (x ∷ rest) = (n, x.1) ∷ on_lines_from (n + 1) rest

-- the first step's line: before it stand `hx`, `space`, `key`, `servers`, `tolerate` and `steps`, a line for each
-- attribute and subspace, and for each session its own line and those of its calls
abbrev pub first_step_line : Script → ℕ
first_step_line s =
    length s.space.attributes + length s.space.subspaces + sum_by (λ (calls : List Op). length calls + 1) s.sessions + 7

-- the same space and sessions, and the same steps in order, each on its line of the printed text
abbrev pub on_printed_lines : Script → Script
on_printed_lines s = record s { steps = on_lines_from (first_step_line s) s.steps }
