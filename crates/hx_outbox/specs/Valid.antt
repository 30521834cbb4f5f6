-- Two proofs that a script is within the limits are the same.
use Rattle.std.specs.Prelude.{ℕ, List, [], ◌∷◌}
use Rattle.std.proofs.Props.{props}
use Rattle.hx_types.specs.declared.calls.Op.{Op}
use Rattle.hx_types.specs.declared.calls.Op.TheVariants.{Put, Get, Del, Cput, Search, Stop, Add, Atomic}
use Rattle.hx_types.specs.declared.spaces.Kind.{Kind}
use Rattle.hx_types.specs.declared.spaces.Kind.TheVariants as a_kind
use Rattle.hx_types.specs.declared.spaces.Space.{Space}
use Rattle.hx_types.specs.declared.traces.Script.{Script}
use Rattle.hx_types.specs.declared.values.EditKind.{EditKind}
use Rattle.hx_types.specs.declared.values.EditKind.TheVariants as an_edit
use Rattle.hx_types.specs.declared.values.Term.{Term}
use Rattle.hx_types.specs.declared.values.Term.TheVariants.{Equal, Range}
use Rattle.hx_types.specs.declared.values.Value.{Value}
use Rattle.hx_types.specs.declared.values.Value.TheVariants as a_value
use Rattle.hx_types.specs.Fitting.{IsScript}
use Rattle.hx_types.specs.Spaces.{AllDiffer, Fits, IsEditOf, IsIntKind, IsKind, IsOfKind, NamesDiffer, TermFits}

value-prop : (k : Kind) (v : Value) → IsProp (IsOfKind k v)
value-prop a_kind.Text (a_value.Text bytes) = hlevel props
value-prop a_kind.Text (a_value.Int n) = hlevel props
value-prop (a_kind.Int lo hi) (a_value.Text bytes) = hlevel props
value-prop (a_kind.Int lo hi) (a_value.Int n) = hlevel props

number-prop : (k : Kind) → IsProp (IsIntKind k)
number-prop a_kind.Text = hlevel props
number-prop (a_kind.Int lo hi) = hlevel props

kind-prop : (k : Kind) → IsProp (IsKind k)
kind-prop a_kind.Text = hlevel props
kind-prop (a_kind.Int lo hi) = hlevel props

edit-prop : (e : EditKind) (k : Kind) → IsProp (IsEditOf e k)
edit-prop an_edit.Append a_kind.Text = hlevel props
edit-prop an_edit.Append (a_kind.Int lo hi) = hlevel props
edit-prop an_edit.Add k = number-prop k
edit-prop an_edit.Min k = number-prop k
edit-prop an_edit.Max k = number-prop k

differ-prop : (ns : List ℕ) → IsProp (AllDiffer ns)
differ-prop [] = hlevel props
differ-prop (n ∷ ns) = hlevel (props, differ-prop ns)

names-prop : (ns : List (List ℕ)) → IsProp (NamesDiffer ns)
names-prop [] = hlevel props
names-prop (n ∷ ns) = hlevel (props, names-prop ns)

term-prop : (space : Space) (t : Term) → IsProp (TermFits space t)
term-prop space (Equal attribute value) = hlevel (props, value-prop)
term-prop space (Range attribute lo hi) = hlevel (props, number-prop)

op-prop : (space : Space) (op : Op) → IsProp (Fits space op)
op-prop space (Put key sets) = hlevel (props, value-prop, differ-prop)
op-prop space (Get key) = hlevel props
op-prop space (Del key) = hlevel props
op-prop space (Cput key tests sets) = hlevel (props, value-prop, differ-prop)
op-prop space (Search terms) = hlevel (props, term-prop, differ-prop)
op-prop space (Stop server) = hlevel props
op-prop space (Add server region) = hlevel props
op-prop space (Atomic key edits) = hlevel (props, value-prop, edit-prop, differ-prop)

pub script-prop : (script : Script) → IsProp (IsScript script)
script-prop script = hlevel (props, kind-prop, names-prop, differ-prop, op-prop)
