-- Assignments up to the end of their group.
use Rattle.std.proofs.Common.{◌≡◌, ◌<◌, true, false, List, [], ◌∷◌, ◌++◌, length, Result, Ok, refl, ap, arith}
use Rattle.hx_types.specs.declared.spaces.Kind.{Kind}
use Rattle.hx_types.specs.declared.spaces.Space.{Space}
use Rattle.hx_types.specs.declared.values.Assign.{Assign}
use Rattle.hx_types.specs.declared.values.Value.{Value}
use Rattle.hx_types.specs.declared.values.Value.TheVariants as values
use Rattle.hx_script.specs.declared.errors.Reason.{Reason}
use Rattle.hx_script.specs.declared.errors.Stop.{Stop}
use Rattle.hx_script.specs.declared.errors.Stop.TheVariants.{Memory, Fault}
use Rattle.hx_script.specs.declared.line.Until.{Until}
use Rattle.hx_script.specs.Toks.{Tok, Word, Number, Text, Sign}
use Rattle.hx_script.specs.Readers.{is_at, repeat, Fails}
use Rattle.hx_script.specs.Words.{named}
use Rattle.hx_script.specs.Values.{any_value, value, free_attribute, assign, one_more}
use Rattle.hx_script.proofs.Takes.{Consumes, ok_is, goes_on, fails, ends, takes}

pub named_consumes : Consumes named
unfolding named
named_consumes = search takes

any_value_takes : (ts : List Tok) (x : Value × List Tok) → any_value ts ≡ Ok x → length x.1 < length ts
any_value_takes [] x e = absurd cc
any_value_takes (Word v ∷ ts) x e = absurd cc
any_value_takes (Number v ∷ ts) x e = omega (arith, ap (λ (y : Value × List Tok). length y.1) (ok_is (values.Int v, ts) x e))
any_value_takes (Text v ∷ ts) x e = omega (arith, ap (λ (y : Value × List Tok). length y.1) (ok_is (values.Text v, ts) x e))
any_value_takes (Sign v ∷ ts) x e = absurd cc

pub any_value_consumes : Consumes any_value
any_value_consumes = record { at = any_value_takes }

pub value_consumes : (kind : Kind) → Consumes (value kind)
unfolding value
value_consumes kind = search (takes, any_value_consumes)

free_attribute_consumes : (space : Space) (sets : List Assign) → Consumes (free_attribute space sets)
unfolding free_attribute
free_attribute_consumes space sets = search (takes, named_consumes)

pub assign_consumes : (space : Space) (sets : List Assign) → Consumes (assign space sets)
unfolding assign
assign_consumes space sets = search (takes, free_attribute_consumes, value_consumes)

one_more_consumes : (space : Space) (sets : List Assign) → Consumes (one_more space sets)
unfolding one_more
one_more_consumes space sets = search (takes, assign_consumes)

pub assigns_go_on : (space : Space) (u : Until) (sets : List Assign) (ts : List Tok) (a : Assign) (rest : List Tok)
    → is_at u ts ≡ false → assign space sets ts ≡ Ok (a, rest)
    → repeat u (one_more space) sets ts ≡ repeat u (one_more space) (sets ++ a ∷ []) rest
unfolding one_more
assigns_go_on space u sets ts a rest h e = goes_on u (one_more space) (one_more_consumes space) sets ts (sets ++ a ∷ []) rest h (rw e refl)

pub assign_shrinks : (space : Space) (sets : List Assign) (ts : List Tok) (a : Assign) (rest : List Tok)
    → assign space sets ts ≡ Ok (a, rest) → length rest < length ts
assign_shrinks space sets ts a rest e = (assign_consumes space sets).at ts (a, rest) e

one_more_fails : (e : Stop) (space : Space) (sets : List Assign) (ts : List Tok) → Fails e (assign space sets ts) → Fails e (one_more space sets ts)
unfolding one_more
one_more_fails Memory space sets ts f = tt
one_more_fails (Fault r) space sets ts f = rw f refl

pub assigns_stop : (e : Stop) (space : Space) (u : Until) (sets : List Assign) (ts : List Tok)
    (total : Result (List Assign × List Tok) Reason) → is_at u ts ≡ false → Fails e (assign space sets ts)
    → repeat u (one_more space) sets ts ≡ total → Fails e total
assigns_stop e space u sets ts total h f so_far = fails e u (one_more space) sets ts total h (one_more_fails e space sets ts f) so_far

pub assigns_end : (space : Space) (u : Until) (sets : List Assign) (ts : List Tok) → is_at u ts ≡ true → repeat u (one_more space) sets ts ≡ Ok (sets, ts)
assigns_end space u sets ts h = ends u (one_more space) sets ts h
