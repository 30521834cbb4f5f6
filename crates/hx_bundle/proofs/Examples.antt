-- A bundle of two spaces, and what isn't one, by computing.
use Rattle.std.proofs.Common.{◌≡◌, ◌<◌, ℕ, zero, suc, List, [], ◌∷◌, refl, arith}
use Rattle.std.specs.Prelude.{codes, IfSome, slice_get}
use Rattle.std.specs.List.{All, AllZip}
use Rattle.std.proofs.lemmas.List.Elements.{All-from_recursion, recursion_from_All}
use Rattle.hx_types.specs.declared.calls.Op.{Op}
use Rattle.hx_types.specs.declared.calls.Op.TheVariants.{Get}
use Rattle.hx_types.specs.declared.ids.Actor.TheVariants.{Server, Session}
use Rattle.hx_types.specs.declared.spaces.Attribute.{Attribute}
use Rattle.hx_types.specs.declared.spaces.Axis.{Axis}
use Rattle.hx_types.specs.declared.spaces.Space.{Space}
use Rattle.hx_types.specs.declared.traces.Script.{Script}
use Rattle.hx_types.specs.declared.traces.Step.{Step}
use Rattle.hx_types.specs.declared.traces.Step.TheVariants.{Tick, Halt}
use Rattle.hx_types.specs.Fitting.{IsScript}
use Rattle.hx_types.specs.Spaces.{Fits, IsKind, IsName, IsSpace, IsSubspaceOf}
use Rattle.hx_bundle.specs.declared.bundles.Bundle.{Bundle}
use Rattle.hx_bundle.specs.declared.bundles.BundleStep.{BundleStep}
use Rattle.hx_bundle.specs.Bundles.{AreAlike, AreDealt, IsBundle, IsStepIn}

abbrev plain_space : List ℕ → Space
plain_space name = record { name = name; key_name = codes "k"; key_parts = 2; attributes = []; subspaces = []; servers = 2; tolerate = 1 }

abbrev get : Op
get = Get (codes "a")

abbrev books : Script
books = record { space = plain_space (codes "books"); sessions = (get ∷ get ∷ []) ∷ [] ∷ []; steps = [] }

abbrev people : Script
people = record { space = plain_space (codes "people"); sessions = (get ∷ []) ∷ (get ∷ []) ∷ []; steps = [] }

abbrev step : ℕ → ℕ → Step → BundleStep
step line space s = record { line = line; space = space; step = s }

-- the first session calls books, people and books, the second people
abbrev both : Bundle
both = record {
  spaces = books ∷ people ∷ [];
  turns = (0 ∷ 1 ∷ 0 ∷ []) ∷ (1 ∷ []) ∷ [];
  steps = step 14 0 (Tick (Session (record { 0 = 2 }))) ∷ step 15 1 (Halt (Server (record { 0 = 2 }))) ∷ [];
}

a_space : (name : List ℕ) → IsName name → IsSpace (plain_space name)
a_space name is = record {
  name = is;
  key_name = record { word = refl; short = omega arith; not_if = λ e. absurd cc; not_set = λ e. absurd cc };
  names = All-from_recursion (λ (a : Attribute). IsName a.name × IsKind a.kind) [] tt;
  names_differ = (All-from_recursion (λ (m : List ℕ). m ≡ codes "k" → ⊥) [] tt, tt);
  attributes = omega arith;
  key_parts = (omega arith, omega arith);
  subspaces = All-from_recursion (IsSubspaceOf (plain_space name)) [] tt;
  few_subspaces = omega arith;
  regions = omega arith;
  servers = (omega arith, omega arith);
  tolerate = (omega arith, omega arith);
}

books_are : IsScript books
books_are = record {
  space = a_space (codes "books") (record { word = refl; short = omega arith; not_if = λ e. absurd cc; not_set = λ e. absurd cc });
  sessions = omega arith;
  calls = All-from_recursion (λ (calls : List Op). All (Fits books.space) calls) books.sessions
      (All-from_recursion (Fits books.space) (get ∷ get ∷ []) (omega arith, (omega arith, tt)), (All-from_recursion (Fits books.space) [] tt, tt));
  few_calls = omega arith;
  few_steps = omega arith;
}

people_are : IsScript people
people_are = record {
  space = a_space (codes "people") (record { word = refl; short = omega arith; not_if = λ e. absurd cc; not_set = λ e. absurd cc });
  sessions = omega arith;
  calls = All-from_recursion (λ (calls : List Op). All (Fits people.space) calls) people.sessions
      (All-from_recursion (Fits people.space) (get ∷ []) (omega arith, tt), (All-from_recursion (Fits people.space) (get ∷ []) (omega arith, tt), tt));
  few_calls = omega arith;
  few_steps = omega arith;
}

dealt_out : (k : ℕ) → IfSome (slice_get both.spaces k) (λ (s : Script). AllZip (AreDealt k) s.sessions both.turns)
dealt_out zero = (refl, (refl, tt))
dealt_out (suc zero) = (refl, (refl, tt))
dealt_out (suc (suc k)) = tt

two_spaces : IsBundle both
two_spaces = record {
  some = omega arith;
  few = omega arith;
  scripts = All-from_recursion IsScript both.spaces (books_are, (people_are, tt));
  no_steps = All-from_recursion (λ (s : Script). s.steps ≡ []) both.spaces (refl, (refl, tt));
  alike = All-from_recursion (λ (a : Script). All (AreAlike a) both.spaces) both.spaces (
    All-from_recursion (AreAlike books) both.spaces (record { servers = refl; tolerate = refl }, (record { servers = refl; tolerate = refl }, tt)),
    (All-from_recursion (AreAlike people) both.spaces (record { servers = refl; tolerate = refl }, (record { servers = refl; tolerate = refl }, tt)), tt),
  );
  names_differ = (
    All-from_recursion (λ (m : List ℕ). m ≡ codes "books" → ⊥) (codes "people" ∷ [])
        ((λ e. absurd cc), tt),
    (All-from_recursion (λ (m : List ℕ). m ≡ codes "people" → ⊥) [] tt, tt),
  );
  dealt = dealt_out;
  turns = All-from_recursion (λ (spaces : List ℕ). All (λ (k : ℕ). k < 2) spaces) both.turns (
    All-from_recursion (λ (k : ℕ). k < 2) (0 ∷ 1 ∷ 0 ∷ []) (omega arith, (omega arith, (omega arith, tt))),
    (All-from_recursion (λ (k : ℕ). k < 2) (1 ∷ []) (omega arith, tt), tt),
  );
  few_calls = omega arith;
  few_steps = omega arith;
  steps = All-from_recursion (IsStepIn both.spaces) both.steps ((omega arith, omega arith), ((omega arith, omega arith), tt));
}
