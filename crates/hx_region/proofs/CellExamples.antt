-- Hashes and cells, computed.
use Rattle.std.specs.Prelude.{◌≡◌, ℕ, List, [], ◌∷◌, map, ℤ, pos, negsuc}
use Rattle.std.proofs.Common.{refl}
use Rattle.hx_model.specs.Cells.{fnv_of, int_cell_of, text_cell_of}

-- FNV-1a of the empty text, of "a" to "d" and of "foobar"
fnv_empty : fnv_of [] ≡ 0xcbf29ce484222325
fnv_empty = refl

fnv_a : fnv_of (97 ∷ []) ≡ 0xaf63dc4c8601ec8c
fnv_a = refl

fnv_b : fnv_of (98 ∷ []) ≡ 0xaf63df4c8601f1a5
fnv_b = refl

fnv_c : fnv_of (99 ∷ []) ≡ 0xaf63de4c8601eff2
fnv_c = refl

fnv_d : fnv_of (100 ∷ []) ≡ 0xaf63d94c8601e773
fnv_d = refl

fnv_foobar : fnv_of (102 ∷ 111 ∷ 111 ∷ 98 ∷ 97 ∷ 114 ∷ []) ≡ 0x85944171f73967e8
fnv_foobar = refl

-- the cells of "a" to "d" and of the empty text
abbrev pub text_cells : ℕ → List ℕ
text_cells parts = map (λ (bytes : List ℕ). text_cell_of bytes parts) ((97 ∷ []) ∷ (98 ∷ []) ∷ (99 ∷ []) ∷ (100 ∷ []) ∷ [] ∷ [])

four_parts : text_cells 4 ≡ 0 ∷ 2 ∷ 1 ∷ 3 ∷ 2 ∷ []
four_parts = refl

two_parts : text_cells 2 ≡ 0 ∷ 1 ∷ 0 ∷ 1 ∷ 1 ∷ []
two_parts = refl

one_part : text_cells 1 ≡ 0 ∷ 0 ∷ 0 ∷ 0 ∷ 0 ∷ []
one_part = refl

-- years from 1900 to 2099 in two parts, those outside with the nearer end
years : map (λ (v : ℤ). int_cell_of v (pos 1900) (pos 2099) 2)
    (pos 1899 ∷ pos 1900 ∷ pos 1999 ∷ pos 2000 ∷ pos 2099 ∷ pos 2200 ∷ []) ≡ 0 ∷ 0 ∷ 0 ∷ 1 ∷ 1 ∷ 1 ∷ []
years = refl

-- the widest range
widest : map (λ (v : ℤ). int_cell_of v (negsuc 9223372036854775807) (pos 9223372036854775807) 256)
    (negsuc 9223372036854775807 ∷ negsuc 0 ∷ pos 0 ∷ pos 9223372036854775807 ∷ []) ≡ 0 ∷ 127 ∷ 128 ∷ 255 ∷ []
widest = refl
