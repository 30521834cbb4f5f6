-- Values, assignments and terms in a line.
use Rattle.std.specs.Prelude.{ℕ, ℤ, Bool, true, false, not, List, [], ◌∷◌, ◌++◌, length, codes, nat_le, ◌==◌, Ok, Err}
use Rattle.std.specs.List.{list_any}
use Rattle.std.specs.Str.{bytes_eq}
use Rattle.hx_types.specs.declared.limits.TheConstants.{LONGEST_TEXT}
use Rattle.hx_types.specs.declared.spaces.Kind.{Kind}
use Rattle.hx_types.specs.declared.spaces.Kind.TheVariants as kinds
use Rattle.hx_types.specs.declared.spaces.Space.{Space}
use Rattle.hx_types.specs.declared.values.Assign.{Assign}
use Rattle.hx_types.specs.declared.values.Term.{Term}
use Rattle.hx_types.specs.declared.values.Term.TheVariants as a_term
use Rattle.hx_types.specs.declared.values.Value.{Value}
use Rattle.hx_types.specs.declared.values.Value.TheVariants as values
use Rattle.hx_types.specs.Spaces.{attribute_of}
use Rattle.hx_types.specs.Subspaces.{kind_at}
use Rattle.hx_script.specs.declared.errors.Reason.TheVariants.{Order, Twice, TypeOf, Limit}
use Rattle.hx_script.specs.declared.line.Until.{Until}
use Rattle.hx_script.specs.declared.line.Until.TheVariants as until
use Rattle.hx_script.specs.Readers.{◌>>=◌, Reader, give, judged, check, text, number_from, sign, repeat}
use Rattle.hx_script.specs.Toks.{Tok, Number, Text, Sign}
use Rattle.hx_script.specs.Words.{named, declared_number, known_number}

unfoldable pub short_text : Reader (List ℕ)
short_text = do
  t ← text
  short ← check (nat_le (length t) LONGEST_TEXT) Limit
  give t

-- the value is of the kind
abbrev pub is_of : Kind → Value → Bool
is_of kinds.Text (values.Text t) = true
is_of (kinds.Int lo hi) (values.Int n) = true
is_of _ _ = false

abbrev pub is_short : Value → Bool
is_short (values.Text t) = nat_le (length t) LONGEST_TEXT
is_short (values.Int n) = true

abbrev pub any_value : Reader Value
any_value (Number n ∷ ts) = Ok (values.Int n, ts)
any_value (Text t ∷ ts) = Ok (values.Text t, ts)
any_value _ = Err Order

-- a value of the kind
unfoldable pub value : Kind → Reader Value
value kind = do
  v ← any_value
  fits ← check (is_of kind v) TypeOf
  short ← check (is_short v) Limit
  give v

abbrev pub has_assign : List Assign → ℕ → Bool
has_assign assigns a = list_any (λ (s : Assign). s.attribute == a) assigns

-- a declared attribute that isn't assigned yet, by its name
unfoldable pub free_attribute : Space → List Assign → Reader ℕ
free_attribute space assigns = do
  w ← named
  a ← judged (declared_number space w)
  new ← check (not (has_assign assigns a)) Twice
  give a

-- N=V
unfoldable pub assign : Space → List Assign → Reader Assign
assign space assigns = do
  a ← free_attribute space assigns
  equals ← sign (codes "=")
  v ← value (kind_at space a)
  give (record { attribute = a; value = v })

unfoldable pub one_more : Space → List Assign → Reader (List Assign)
one_more space assigns = do
  a ← assign space assigns
  give (assigns ++ a ∷ [])

-- more assignments
abbrev pub more_assigns : Space → Until → List Assign → Reader (List Assign)
more_assigns space u assigns = repeat u (one_more space) assigns

-- one assignment or more
unfoldable pub some_assigns : Space → Until → Reader (List Assign)
some_assigns space u = do
  first ← one_more space []
  more_assigns space u first

abbrev pub has_term : List Term → ℕ → Bool
has_term terms a = list_any (λ (t : Term). attribute_of t == a) terms

-- the key or a declared attribute of which nothing is asked yet, by its name
unfoldable pub free_known : Space → List Term → Reader ℕ
free_known space terms = do
  w ← named
  a ← judged (known_number space w)
  new ← check (not (has_term terms a)) Twice
  give a

unfoldable pub range : ℕ → ℤ → Reader Term
range a lo = do
  dots ← sign (codes "..")
  hi ← number_from lo
  give (a_term.Range a lo hi)

abbrev pub is_dots : List Tok → Bool
is_dots (Sign s ∷ ts) = bytes_eq s (codes "..")
is_dots _ = false

-- behind the first number stands `..` and a second one, or nothing of the term
abbrev pub range_or_equal : Bool → ℕ → ℤ → Reader Term
range_or_equal true a n = range a n
range_or_equal false a n = give (a_term.Equal a (values.Int n))

abbrev pub rest_of_term : ℕ → Value → Reader Term
rest_of_term a (values.Text t) ts = give (a_term.Equal a (values.Text t)) ts
rest_of_term a (values.Int n) ts = range_or_equal (is_dots ts) a n ts

-- N=V or N=I..I
unfoldable pub term : Space → List Term → Reader Term
term space terms = do
  a ← free_known space terms
  equals ← sign (codes "=")
  v ← value (kind_at space a)
  rest_of_term a v

unfoldable pub one_more_term : Space → List Term → Reader (List Term)
one_more_term space terms = do
  t ← term space terms
  give (terms ++ t ∷ [])

-- terms up to the end of the line
abbrev pub all_terms : Space → Reader (List Term)
all_terms space = repeat until.End (one_more_term space) []
