-- Axes up to the end of the line.
use Rattle.std.proofs.Common.{◌≡◌, ℕ, ◌<◌, true, false, List, length, Result, Ok}
use Rattle.hx_types.specs.declared.spaces.Axis.{Axis}
use Rattle.hx_types.specs.declared.spaces.Space.{Space}
use Rattle.hx_script.specs.declared.axes.AxesDraft.{AxesDraft}
use Rattle.hx_script.specs.declared.errors.Reason.{Reason}
use Rattle.hx_script.specs.declared.errors.Stop.{Stop}
use Rattle.hx_script.specs.declared.line.Until.TheVariants as until
use Rattle.hx_script.specs.Toks.{Tok}
use Rattle.hx_script.specs.Readers.{number_in, is_at, repeat, Fails}
use Rattle.hx_script.specs.Axes.{free_axis, parts, axis, next_axis}
use Rattle.hx_script.proofs.Takes.{Consumes, goes_on, fails, ends, takes}
use Rattle.hx_script.proofs.Assigning.{named_consumes}

number_in_consumes : (lo hi : ℕ) → Consumes (number_in lo hi)
unfolding number_in
number_in_consumes lo hi = search takes

parts_consumes : (regions size : ℕ) → Consumes (parts regions size)
unfolding parts
parts_consumes regions size = search (takes, number_in_consumes)

free_axis_consumes : (space : Space) (axes : List Axis) → Consumes (free_axis space axes)
unfolding free_axis
free_axis_consumes space axes = search (takes, named_consumes)

axis_consumes : (space : Space) (regions : ℕ) (c : AxesDraft) → Consumes (axis space regions c)
unfolding axis
axis_consumes space regions c = search (takes, free_axis_consumes, parts_consumes)

next_consumes : (space : Space) (regions : ℕ) (c : AxesDraft) → Consumes (next_axis space regions c)
unfolding next_axis
next_consumes space regions c = search (takes, axis_consumes)

pub axes_go_on : (space : Space) (regions : ℕ) (c : AxesDraft) (ts : List Tok) (next : AxesDraft) (rest : List Tok)
    → is_at until.End ts ≡ false → next_axis space regions c ts ≡ Ok (next, rest)
    → repeat until.End (next_axis space regions) c ts ≡ repeat until.End (next_axis space regions) next rest
axes_go_on space regions c ts next rest h e = goes_on until.End (next_axis space regions) (next_consumes space regions) c ts next rest h e

pub axis_shrinks : (space : Space) (regions : ℕ) (c : AxesDraft) (ts : List Tok) (next : AxesDraft) (rest : List Tok)
    → next_axis space regions c ts ≡ Ok (next, rest) → length rest < length ts
axis_shrinks space regions c ts next rest e = (next_consumes space regions c).at ts (next, rest) e

pub axes_stop : (e : Stop) (space : Space) (regions : ℕ) (c : AxesDraft) (ts : List Tok)
    (total : Result (AxesDraft × List Tok) Reason) → is_at until.End ts ≡ false
    → Fails e (next_axis space regions c ts) → repeat until.End (next_axis space regions) c ts ≡ total → Fails e total
axes_stop e space regions c ts total h f so_far = fails e until.End (next_axis space regions) c ts total h f so_far

pub axes_end : (space : Space) (regions : ℕ) (c : AxesDraft) (ts : List Tok) → is_at until.End ts ≡ true
    → repeat until.End (next_axis space regions) c ts ≡ Ok (c, ts)
axes_end space regions c ts h = ends until.End (next_axis space regions) c ts h
