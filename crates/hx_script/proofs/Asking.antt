-- Terms up to the end of the line.
use Rattle.std.proofs.Common.{◌≡◌, ℕ, ℤ, ◌<◌, Bool, true, false, List, [], ◌∷◌, ◌++◌, length, Result, Ok, refl}
use Rattle.hx_types.specs.declared.spaces.Space.{Space}
use Rattle.hx_types.specs.declared.values.Term.{Term}
use Rattle.hx_types.specs.declared.values.Term.TheVariants as a_term
use Rattle.hx_types.specs.declared.values.Value.{Value}
use Rattle.hx_types.specs.declared.values.Value.TheVariants as values
use Rattle.hx_script.specs.declared.errors.Reason.{Reason}
use Rattle.hx_script.specs.declared.errors.Stop.{Stop}
use Rattle.hx_script.specs.declared.errors.Stop.TheVariants.{Memory, Fault}
use Rattle.hx_script.specs.declared.line.Until.TheVariants as until
use Rattle.hx_script.specs.Toks.{Tok}
use Rattle.hx_script.specs.Readers.{number_from, is_at, repeat, Fails}
use Rattle.hx_script.specs.Values.{free_known, range, is_dots, range_or_equal, rest_of_term, term, one_more_term}
use Rattle.hx_script.proofs.Takes.{Shrinks, Consumes, give_shrinks, shrinks, goes_on, fails, ends, takes}
use Rattle.hx_script.proofs.Assigning.{named_consumes, value_consumes}

number_from_consumes : (lo : ℤ) → Consumes (number_from lo)
unfolding number_from
number_from_consumes lo = search takes

range_consumes : (a : ℕ) (lo : ℤ) → Consumes (range a lo)
unfolding range
range_consumes a lo = search (takes, number_from_consumes)

range_or_equal_shrinks : (b : Bool) (a : ℕ) (n : ℤ) → Shrinks (range_or_equal b a n)
range_or_equal_shrinks true a n = shrinks (range a n) (range_consumes a n)
range_or_equal_shrinks false a n = give_shrinks (a_term.Equal a (values.Int n))

rest_shrinks : (a : ℕ) (v : Value) → Shrinks (rest_of_term a v)
rest_shrinks a (values.Text t) = record { at = (give_shrinks (a_term.Equal a (values.Text t))).at }
rest_shrinks a (values.Int n) = record { at = λ ts x e. (range_or_equal_shrinks (is_dots ts) a n).at ts x e }

free_known_consumes : (space : Space) (terms : List Term) → Consumes (free_known space terms)
unfolding free_known
free_known_consumes space terms = search (takes, named_consumes)

term_consumes : (space : Space) (terms : List Term) → Consumes (term space terms)
unfolding term
term_consumes space terms = search (takes, free_known_consumes, value_consumes, rest_shrinks)

one_more_consumes : (space : Space) (terms : List Term) → Consumes (one_more_term space terms)
unfolding one_more_term
one_more_consumes space terms = search (takes, term_consumes)

pub terms_go_on : (space : Space) (terms : List Term) (ts : List Tok) (t : Term) (rest : List Tok)
    → is_at until.End ts ≡ false → term space terms ts ≡ Ok (t, rest)
    → repeat until.End (one_more_term space) terms ts ≡ repeat until.End (one_more_term space) (terms ++ t ∷ []) rest
unfolding one_more_term
terms_go_on space terms ts t rest h e = goes_on until.End (one_more_term space) (one_more_consumes space) terms ts (terms ++ t ∷ []) rest h (rw e refl)

pub term_shrinks : (space : Space) (terms : List Term) (ts : List Tok) (t : Term) (rest : List Tok)
    → term space terms ts ≡ Ok (t, rest) → length rest < length ts
term_shrinks space terms ts t rest e = (term_consumes space terms).at ts (t, rest) e

one_more_fails : (e : Stop) (space : Space) (terms : List Term) (ts : List Tok) → Fails e (term space terms ts) → Fails e (one_more_term space terms ts)
unfolding one_more_term
one_more_fails Memory space terms ts f = tt
one_more_fails (Fault r) space terms ts f = rw f refl

pub terms_stop : (e : Stop) (space : Space) (terms : List Term) (ts : List Tok)
    (total : Result (List Term × List Tok) Reason) → is_at until.End ts ≡ false → Fails e (term space terms ts)
    → repeat until.End (one_more_term space) terms ts ≡ total → Fails e total
terms_stop e space terms ts total h f so_far = fails e until.End (one_more_term space) terms ts total h (one_more_fails e space terms ts f) so_far

pub terms_end : (space : Space) (terms : List Term) (ts : List Tok) → is_at until.End ts ≡ true
    → repeat until.End (one_more_term space) terms ts ≡ Ok (terms, ts)
terms_end space terms ts h = ends until.End (one_more_term space) terms ts h
