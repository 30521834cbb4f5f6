-- The lines of configurations, of the trace, of drivers and of the space that are read are of the space, and are printed so.
use Rattle.std.proofs.Common.{◌≡◌, ℕ, Bool, true, false, ◌&&◌, ◌||◌, List, [], ◌∷◌, ◌++◌, map, length, take, drop, leb}
use Rattle.std.proofs.Common.{ltb, inl, inr, Some, Ok, Err, Result, refl, sym, ap, subst, ◌∙◌, arith}
use Rattle.std.specs.Prelude.{◌⊎◌, codes, nat_eq, nat_lt}
use Rattle.std.specs.List.{All, starts_with}
use Rattle.std.specs.Str.{IsUtf8, bytes_eq, is_utf8}
use Rattle.std.proofs.lemmas.Bool.{leb-true, ltb-true}
use Rattle.std.proofs.lemmas.List.Elements.{All-cons, All-nil, All-map}
use Rattle.std.proofs.lemmas.List.{take-append-drop}
use Rattle.std.proofs.lemmas.Slice.Eq.{bytes_eq-Decides}
use Rattle.std.proofs.lemmas.Str.{IsUtf8-from_is_utf8}
use Rattle.hx_lex.proofs.Lemmas.{and_left, and_right}
use Rattle.hx_model.specs.Types.{Script, ServerId, Space}
use Rattle.hx_types.specs.Spaces.{IsRegionOf, IsServerOf}
use Rattle.hx_types.specs.Subspaces.{region_count}
use Rattle.hx_print.specs.Printing.{space_text}
use Rattle.hx_script.specs.declared.errors.ScriptError.{ScriptError}
use Rattle.hx_script.specs.Texts.{script_of}
use Rattle.hx_script.proofs.Lemmas.{text_sound}
use Rattle.hx_law_texts.proofs.Lemmas.{text_told}
use Rattle.hx_report_lines.specs.declared.blocks.DriverLine.{DriverLine}
use Rattle.hx_report_lines.specs.declared.epochs.EpochLine.{EpochLine}
use Rattle.hx_report_lines.specs.Parts.{if_same}
use Rattle.hx_report_lines.specs.Printed.{driver_text, epoch_text}
use Rattle.hx_report_lines.specs.Readers.{word}
use Rattle.hx_report_lines.specs.Tailing.{all_below, ascend_to, driver_in, driver_of, epoch_in, epoch_of, field, numbers, raw_of, same_space, space_of}
use Rattle.hx_report_lines.specs.Values.{Ascends, AscendsFrom, BeginsWith, Is32, Is64, IsDriverLine, IsEpochOf, IsSpaceValue}
use Rattle.hx_report_lines.proofs.ItemsRead.{printed}
use Rattle.hx_report_lines.proofs.Taken.{Any, Tells, bound, some_is, tells_any, tells_check, tells_give, tells_number, tells_short, tells_then, where_so}

-- ---- configurations

servers_of : (space : Space) (last : ℕ) (ns : List ℕ) → ascend_to last space.servers ns ≡ true → All (λ n. IsServerOf space (record { 0 = n })) ns
servers_of space last [] h = All-nil (λ n. IsServerOf space (record { 0 = n }))
servers_of space last (n ∷ ns) h =
    let both = and_left (ltb last n && leb n space.servers) (ascend_to n space.servers ns) h in
    let above = ltb-true last n (and_left (ltb last n) (leb n space.servers) both) in
    let within = leb-true n space.servers (and_right (ltb last n) (leb n space.servers) both) in
    All-cons (λ n. IsServerOf space (record { 0 = n })) n ns (omega arith, within)
    (servers_of space n ns (and_right (ltb last n && leb n space.servers) (ascend_to n space.servers ns) h))

ascend_on : (most last : ℕ) (ns : List ℕ) → ascend_to last most ns ≡ true → AscendsFrom nat_lt (Some last) ns
ascend_on most last [] h = tt
ascend_on most last (n ∷ ns) h =
    let both = and_left (ltb last n && leb n most) (ascend_to n most ns) h in
    (and_left (ltb last n) (leb n most) both, ascend_on most n ns (and_right (ltb last n && leb n most) (ascend_to n most ns) h))

ascend_all : (most : ℕ) (ns : List ℕ) → ascend_to 0 most ns ≡ true → Ascends nat_lt ns
ascend_all most [] h = tt
ascend_all most (n ∷ ns) h = (refl, (ascend_on most 0 (n ∷ ns) h).1)

numbers_again : (ns : List ℕ) → map (λ (s : ServerId). s.0) (map (λ n. record { 0 = n }) ns) ≡ ns
numbers_again [] = refl
numbers_again (n ∷ ns) = ap (λ ms. n ∷ ms) (numbers_again ns)

regions_of : (space : Space) (ns : List ℕ) → all_below (region_count space) ns ≡ true → All (λ n. IsRegionOf space (record { 0 = n })) ns
regions_of space [] h = All-nil (λ n. IsRegionOf space (record { 0 = n }))
regions_of space (n ∷ ns) h =
    All-cons (λ n. IsRegionOf space (record { 0 = n })) n ns
    (ltb-true n (region_count space) (and_left (ltb n (region_count space)) (all_below (region_count space) ns) h))
    (regions_of space ns (and_right (ltb n (region_count space)) (all_below (region_count space) ns) h))

epoch_from : (space : Space) (n : ℕ) (servers lost : List ℕ) → Is64 n → ascend_to 0 space.servers servers ≡ true → all_below (region_count space) lost ≡ true
    → IsEpochOf space (record { epoch = record { 0 = n }; servers = map (λ n. record { 0 = n }) servers; lost = map (λ n. record { 0 = n }) lost })
epoch_from space n servers lost n64 up below = record {
  epoch = n64;
  servers = All-map (IsServerOf space) (λ n. record { 0 = n }) servers (servers_of space 0 servers up);
  ascend = subst (Ascends nat_lt) (sym (numbers_again servers)) (ascend_all space.servers servers up);
  lost = All-map (IsRegionOf space) (λ n. record { 0 = n }) lost (regions_of space lost below);
}

tells_epoch : (space : Space) → Tells (epoch_in space) (IsEpochOf space)
unfolding epoch_in
tells_epoch space =
    tells_then Any (tells_any (word (codes "epoch "))) (λ a i.
    tells_then Is64 tells_number (λ n n64.
    tells_then Any (tells_any (word (codes " servers "))) (λ b j.
    tells_then Any (tells_any numbers) (λ servers k.
    tells_then (λ u. ascend_to 0 space.servers servers ≡ true) (tells_check (ascend_to 0 space.servers servers)) (λ u up.
    tells_then Any (tells_any (word (codes " lost "))) (λ c l.
    tells_then Any (tells_any numbers) (λ lost m.
    tells_then (λ u. all_below (region_count space) lost ≡ true) (tells_check (all_below (region_count space) lost)) (λ v below.
    tells_give {Q = IsEpochOf space} _ (epoch_from space n servers lost n64 up below)))))))))

pub epoch_valid : (space : Space) (line : List ℕ) (e : EpochLine) → epoch_of space line ≡ Some e → IsEpochOf space e × (epoch_text e ≡ line ++ 10 ∷ [])
unfolding epoch_of
epoch_valid space line x e =
    let o = bound (epoch_in space line) (λ y. if_same epoch_text line y.0) x e in
    let p = printed epoch_text line o.0.0 x o.2 in
    (subst (IsEpochOf space) p.0 ((tells_epoch space).at line o.0 o.1), p.1)

-- ---- lines of the trace

pub record IsRawText (line : List ℕ) : Type 0 where
  pub begins : BeginsWith (codes "entry ") line ⊎ BeginsWith (codes "post ") line
  pub utf8 : IsUtf8 line

-- bytes that start with a word are that word and others
begins_with : (w line : List ℕ) → starts_with nat_eq line w ≡ true → BeginsWith w line
begins_with w line h =
    let same : w ≡ take (length w) line = (bytes_eq-Decides w (take (length w) line)).0 h in
    (drop (length w) line, sym (take-append-drop (length w) line) ∙ ap (λ t. t ++ drop (length w) line) (sym same))

either : (line : List ℕ) → (starts_with nat_eq line (codes "entry ") || starts_with nat_eq line (codes "post "))
    ≡ true → BeginsWith (codes "entry ") line ⊎ BeginsWith (codes "post ") line
either line h = by (starts_with nat_eq line (codes "entry ")) refl h
  where
    by : (b : Bool) → starts_with nat_eq line (codes "entry ") ≡ b
        → (b || starts_with nat_eq line (codes "post ")) ≡ true → BeginsWith (codes "entry ") line ⊎ BeginsWith (codes "post ") line
    by true q f = inl (begins_with (codes "entry ") line q)
    by false q f = inr (begins_with (codes "post ") line f)

pub raw_valid : (line text : List ℕ) → raw_of line ≡ Some text → IsRawText text × (text ≡ line)
unfolding raw_of
raw_valid line text e =
    let begun : Bool = starts_with nat_eq line (codes "entry ") || starts_with nat_eq line (codes "post ") in
    let w = where_so (begun && is_utf8 line) (Some line) text e in
    let same = some_is line text w.1 in (
      subst IsRawText same (record {
        begins = either line (and_left begun (is_utf8 line) w.0);
        utf8 = IsUtf8-from_is_utf8 line (and_right begun (is_utf8 line) w.0);
      }),
      sym same,
    )

-- ---- drivers

tells_field : (label : List ℕ) → Tells (field label) Is64
unfolding field
tells_field label = tells_then Any (tells_any (word label)) (λ a i. tells_then Is64 tells_number (λ n n64. tells_give {Q = Is64} n n64))

tells_driver : Tells driver_in IsDriverLine
unfolding driver_in
tells_driver =
    tells_then Any (tells_any (word (codes "driver "))) (λ a i.
    tells_then Is32 tells_short (λ d d32.
    tells_then Is64 (tells_field (codes " posts ")) (λ p p64.
    tells_then Is64 (tells_field (codes " deliver ")) (λ q q64.
    tells_then Is64 (tells_field (codes " lose ")) (λ l l64.
    tells_then Is64 (tells_field (codes " twice ")) (λ t t64.
    tells_give {Q = IsDriverLine} (record { driver = d; totals = record { posts = p; deliver = q; lose = l; twice = t } })
    (record { driver = d32; posts = p64; deliver = q64; lose = l64; twice = t64 })))))))

pub driver_valid : (line : List ℕ) (d : DriverLine) → driver_of line ≡ Some d → IsDriverLine d × (driver_text d ≡ line ++ 10 ∷ [])
unfolding driver_of
driver_valid line x e =
    let o = bound (driver_in line) (λ y. if_same driver_text line y.0) x e in
    let p = printed driver_text line o.0.0 x o.2 in
    (subst IsDriverLine p.0 (tells_driver.at line o.0 o.1), p.1)

-- ---- spaces

space_from : (bytes : List ℕ) (space : Space) (r : Result Script ScriptError)
    → script_of (codes "hx 1\n" ++ bytes) ≡ r → same_space bytes r ≡ Some space → IsSpaceValue space × (space_text space ≡ bytes)
space_from bytes space (Err x) read e = absurd cc
space_from bytes space (Ok s) read e =
    let w = where_so (bytes_eq (space_text s.space) bytes) (Some s.space) space e in
    let valid : IsSpaceValue s.space = record {
      valid = (text_sound (codes "hx 1\n" ++ bytes) s read).space;
      bounds = (text_told (codes "hx 1\n" ++ bytes) s read).bounds;
    } in
    subst (λ (x : Space). IsSpaceValue x × (space_text x ≡ bytes)) (some_is s.space space w.1) (valid, (bytes_eq-Decides (space_text s.space) bytes).0 w.0)

pub space_valid : (bytes : List ℕ) (space : Space) → space_of bytes ≡ Some space → IsSpaceValue space × (space_text space ≡ bytes)
unfolding space_of
space_valid bytes space e = space_from bytes space (script_of (codes "hx 1\n" ++ bytes)) refl e
