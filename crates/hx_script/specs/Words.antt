-- Names of a space in a line.
use Rattle.std.specs.Prelude.{ℕ, ◌+◌, Bool, not, ◌||◌, List, length, codes, nat_le, Option, Some, None, Result, Ok, Err, position, if◌then◌else◌}
use Rattle.std.specs.List.{list_any}
use Rattle.std.specs.Str.{bytes_eq}
use Rattle.hx_types.specs.declared.limits.TheConstants.{LONGEST_NAME}
use Rattle.hx_types.specs.declared.spaces.Attribute.{Attribute}
use Rattle.hx_types.specs.declared.spaces.Space.{Space}
use Rattle.hx_script.specs.declared.errors.Reason.{Reason}
use Rattle.hx_script.specs.declared.errors.Reason.TheVariants.{Order, Unknown, Twice, Limit}
use Rattle.hx_script.specs.Readers.{◌>>=◌, Reader, give, check, word}

-- a word that a name may be
abbrev pub may_name : List ℕ → Bool
may_name w = not (bytes_eq w (codes "if") || bytes_eq w (codes "set"))

-- a word that stands where a name is wanted
unfoldable pub named : Reader (List ℕ)
named = do
  w ← word
  may ← check (may_name w) Order
  give w

-- the name of something new, where no other name is in the way
unfoldable pub name : Reader (List ℕ)
name = do
  w ← named
  short ← check (nat_le (length w) LONGEST_NAME) Limit
  give w

abbrev pub has_attribute : Space → List ℕ → Bool
has_attribute space w = list_any (λ (a : Attribute). bytes_eq a.name w) space.attributes

-- the key or an attribute has that name
abbrev pub is_declared : Space → List ℕ → Bool
is_declared space w = bytes_eq space.key_name w || has_attribute space w

-- a name that nothing declared has
unfoldable pub new_name : Space → Reader (List ℕ)
new_name space = do
  w ← named
  new ← check (not (is_declared space w)) Twice
  short ← check (nat_le (length w) LONGEST_NAME) Limit
  give w

abbrev pub numbered : Option ℕ → Result ℕ Reason
numbered None = Err Unknown
numbered (Some place) = Ok (place + 1)

-- the place of a declared attribute, from 0
abbrev pub place_of : Space → List ℕ → Option ℕ
place_of space w = position (λ (a : Attribute). bytes_eq a.name w) space.attributes

-- its number, from 1
abbrev pub declared_number : Space → List ℕ → Result ℕ Reason
declared_number space w = numbered (place_of space w)

-- the same, with 0 for the key
abbrev pub known_number : Space → List ℕ → Result ℕ Reason
known_number space w = if bytes_eq space.key_name w then Ok 0 else declared_number space w
