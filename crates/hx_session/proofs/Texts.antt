-- Byte order of texts, as a map of texts keeps it.
use Rattle.std.proofs.Common.{◌≡◌, ℕ, true, List, sym, ◌∙◌}
use Rattle.std.specs.Cmp.Lexicographic.{slice_cmp}
use Rattle.std.specs.Ordering.{is_eq, nat_cmp}
use Rattle.std.specs.declared.cmp.Ordering.{Ordering}
use Rattle.std.proofs.lemmas.Map.Text.{is_eq-slice_cmp}
use Rattle.std.proofs.lemmas.Slice.Eq.{bytes_eq-Decides}
use Rattle.hx_types.specs.Words.{same_text}

-- how two texts compare
abbrev pub order : List ℕ → List ℕ → Ordering
order a b = slice_cmp nat_cmp a b

pub same_is : (a b : List ℕ) → same_text a b ≡ is_eq (order a b)
same_is a b = sym (is_eq-slice_cmp a b)

pub equal_from : (a b : List ℕ) → is_eq (order a b) ≡ true → a ≡ b
equal_from a b e = (bytes_eq-Decides a b).0 (same_is a b ∙ e)
