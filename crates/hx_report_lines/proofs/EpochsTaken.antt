-- Lines of configurations that are printed are read again.
use Rattle.std.proofs.Common.{◌≡◌, ℕ, ◌+◌, ◌-◌, ◌<◌, ◌≤◌, Bool, true, false, cond, ◌&&◌, List, []}
use Rattle.std.proofs.Common.{◌∷◌, ◌++◌, map, length, drop, eqb, leb, ltb, None, Some, refl, sym, ap}
use Rattle.std.proofs.Common.{subst, ◌∙◌, arith}
use Rattle.std.specs.Prelude.{codes, nat_eq, nat_lt}
use Rattle.std.specs.Fmt.{decimal}
use Rattle.std.specs.List.{All, flat_map, list_all, starts_with}
use Rattle.std.specs.Str.{bytes_eq}
use Rattle.std.proofs.lemmas.Bool.{eqb-true, le-leb, lt-ltb}
use Rattle.std.proofs.lemmas.Fmt.{decimal_nonempty}
use Rattle.std.proofs.lemmas.List.{append_assoc, append-nil, length-append}
use Rattle.std.proofs.lemmas.List.Elements.{All-cons, All-head, All-nil, All-tail}
use Rattle.hx_lex.specs.Letters.{begins_with, is_digit}
use Rattle.hx_lex.proofs.Lemmas.{and_left}
use Rattle.hx_model.specs.Types.{RegionId, ServerId, Space}
use Rattle.hx_types.specs.declared.limits.TheConstants.{MOST_REGIONS}
use Rattle.hx_types.specs.Spaces.{IsRegionOf, IsServerOf, IsSpace}
use Rattle.hx_types.specs.Subspaces.{region_count}
use Rattle.hx_law_texts.proofs.Lemmas.{decimal_digits}
use Rattle.hx_print.specs.Printing.{next_number_text, numbers_text}
use Rattle.hx_report_lines.specs.declared.epochs.EpochLine.{EpochLine}
use Rattle.hx_report_lines.specs.Parts.{if_same}
use Rattle.hx_report_lines.specs.Printed.{epoch_text, lost_text, servers_text}
use Rattle.hx_report_lines.specs.Readers.{give, on_some, short_number}
use Rattle.hx_report_lines.specs.Tailing.{all_below, ascend_to, epoch_in, epoch_of, numbers, numbers_after}
use Rattle.hx_report_lines.specs.Values.{AscendsFrom, Is32, IsEpochOf}
use Rattle.hx_report_lines.proofs.NumbersRead.{no_comma, one_number}
use Rattle.hx_report_lines.proofs.Takes.{Takes, check_takes, kept, number_takes, short_takes, starts, takes_give, takes_then, wide, word_takes}

-- ---- lists of numbers

-- no digit and no comma
record Stops (rest : List ℕ) : Type 0 where
  digit : begins_with is_digit rest ≡ false
  comma : starts_with nat_eq rest (codes ",") ≡ false

-- what follows a number of a list
after_one : (ns rest : List ℕ) → Stops rest → begins_with is_digit (flat_map next_number_text ns ++ rest) ≡ false
unfolding next_number_text
after_one [] rest stop = stop.digit
after_one (n ∷ ns) rest stop = refl

some_bytes : (n : ℕ) → 0 < length (next_number_text n)
unfolding next_number_text
some_bytes n = let e = length-append (codes ",") (decimal n) in omega (arith, e)

-- each has a byte at least
long_enough : (ns rest : List ℕ) → length ns ≤ length (flat_map next_number_text ns ++ rest)
long_enough [] rest = omega arith
long_enough (n ∷ ns) rest =
    let k = long_enough ns rest in
    let s = some_bytes n in
    let e : length (next_number_text n ++ flat_map next_number_text ns ++ rest)
    ≡ length (next_number_text n) + length (flat_map next_number_text ns ++ rest) =
    ap length (append_assoc (next_number_text n) (flat_map next_number_text ns) rest)
    ∙ length-append (next_number_text n) (flat_map next_number_text ns ++ rest) in
    omega (arith, k, s, e)

next_is : (n : ℕ) (more rest : List ℕ) → (next_number_text n ++ more) ++ rest ≡ codes "," ++ (decimal n ++ (more ++ rest))
unfolding next_number_text
next_is n more rest = append_assoc (codes "," ++ decimal n) more rest ∙ append_assoc (codes ",") (decimal n) (more ++ rest)

after_takes : (ns : List ℕ) (most : ℕ) (front rest : List ℕ) → All Is32 ns → length ns ≤ most → Stops rest
    → numbers_after most front (flat_map next_number_text ns ++ rest) ≡ Some (front ++ ns, rest)
after_takes [] most front rest all few stop = no_comma most front rest stop.comma ∙ ap (λ f. Some (f, rest)) (sym (append-nil front))
after_takes (n ∷ ns) most front rest all few stop =
    let more : List ℕ = flat_map next_number_text ns ++ rest in
    let text : flat_map next_number_text (n ∷ ns) ++ rest ≡ codes "," ++ (decimal n ++ more) = next_is n (flat_map next_number_text ns) rest in
    let s = short_takes n more (All-head Is32 n ns all) (after_one ns rest stop) in
    let k : length ns ≤ most - 1 = omega (arith, few) in
    ap (numbers_after most front) text
    ∙ one_number most n front (codes "," ++ (decimal n ++ more)) (decimal n ++ more) more (omega (arith, few))
    (starts (codes ",") (decimal n ++ more)) (word_takes (codes ",") (decimal n ++ more)).at s.at
    ∙ after_takes ns (most - 1) (front ++ n ∷ []) rest (All-tail Is32 n ns all) k stop
    ∙ ap (λ f. Some (f, rest)) (append_assoc front (n ∷ []) ns)

not_this : (p : ℕ → Bool) (c b : ℕ) → p c ≡ false → p b ≡ true → eqb c b ≡ false
not_this p c b off on = by (eqb c b) refl
  where
    by : (t : Bool) → eqb c b ≡ t → t ≡ false
    by true e = absurd (let same : c ≡ b = eqb-true c b e in let q : true ≡ false = sym on ∙ ap p (sym same) ∙ off in cc)
    by false e = refl

-- a number doesn't begin with a minus
pub no_minus : (ds rest : List ℕ) → list_all is_digit ds ≡ true → 0 < length ds → starts_with nat_eq (ds ++ rest) (codes "-") ≡ false
no_minus [] rest h some = absurd (omega arith)
no_minus (d ∷ ds) rest h some = ap (λ b. b && bytes_eq [] []) (not_this is_digit 45 d refl (and_left (is_digit d) (list_all is_digit ds) h))

numbers_take : (ns rest : List ℕ) → All Is32 ns → Stops rest → Takes numbers (numbers_text ns ++ rest) ns rest
unfolding numbers_text
numbers_take [] rest all stop = record { at = refl }
numbers_take (n ∷ ns) rest all stop =
    let more : List ℕ = flat_map next_number_text ns ++ rest in
    let n64 = wide n (All-head Is32 n ns all) in
    let text : (decimal n ++ flat_map next_number_text ns) ++ rest ≡ decimal n ++ more = append_assoc (decimal n) (flat_map next_number_text ns) rest in
    let minus = no_minus (decimal n) more (decimal_digits n n64) (decimal_nonempty n n64) in
    let s = short_takes n more (All-head Is32 n ns all) (after_one ns rest stop) in
    let read : numbers (decimal n ++ more) ≡ Some (n ∷ ns, rest) =
    ap (λ b. cond b (Some ([], drop 1 (decimal n ++ more))) (on_some (short_number (decimal n ++ more)) (λ x. numbers_after (length x.1) (x.0 ∷ []) x.1))) minus
    ∙ ap (λ o. on_some o (λ x. numbers_after (length x.1) (x.0 ∷ []) x.1)) s.at
    ∙ after_takes ns (length more) (n ∷ []) rest (All-tail Is32 n ns all) (long_enough ns rest) stop in
    record { at = ap numbers text ∙ read }

-- ---- configurations

abbrev server_numbers : EpochLine → List ℕ
server_numbers e = map (λ (s : ServerId). s.0) e.servers

abbrev lost_numbers : EpochLine → List ℕ
lost_numbers e = map (λ (g : RegionId). g.0) e.lost

servers_again : (ss : List ServerId) → map (λ n. record { 0 = n }) (map (λ (s : ServerId). s.0) ss) ≡ ss
servers_again [] = refl
servers_again (s ∷ ss) = ap (λ xs. s ∷ xs) (servers_again ss)

regions_again : (gs : List RegionId) → map (λ n. record { 0 = n }) (map (λ (g : RegionId). g.0) gs) ≡ gs
regions_again [] = refl
regions_again (g ∷ gs) = ap (λ xs. g ∷ xs) (regions_again gs)

pub few_servers : (space : Space) (ss : List ServerId) → IsSpace space → All (IsServerOf space) ss → All Is32 (map (λ (s : ServerId). s.0) ss)
few_servers space [] is all = All-nil Is32
few_servers space (s ∷ ss) is all =
    let within = (All-head (IsServerOf space) s ss all).1 in
    let most = is.servers.1 in
    All-cons Is32 s.0 (map (λ (s : ServerId). s.0) ss) (omega (arith, within, most)) (few_servers space ss is (All-tail (IsServerOf space) s ss all))

small_region : (most n : ℕ) → most ≤ MOST_REGIONS → n < most → Is32 n
small_region most n few below = omega (arith, few, below)

pub few_regions : (space : Space) (gs : List RegionId) → IsSpace space → All (IsRegionOf space) gs → All Is32 (map (λ (g : RegionId). g.0) gs)
few_regions space [] is all = All-nil Is32
few_regions space (g ∷ gs) is all =
    All-cons Is32 g.0 (map (λ (g : RegionId). g.0) gs)
    (small_region (region_count space) g.0 is.regions (All-head (IsRegionOf space) g gs all))
    (few_regions space gs is (All-tail (IsRegionOf space) g gs all))

regions_below : (space : Space) (gs : List RegionId) → All (IsRegionOf space) gs → all_below (region_count space) (map (λ (g : RegionId). g.0) gs) ≡ true
regions_below space [] all = refl
regions_below space (g ∷ gs) all =
    ap (λ b. b && all_below (region_count space) (map (λ (g : RegionId). g.0) gs)) (lt-ltb g.0 (region_count space) (All-head (IsRegionOf space) g gs all))
    ∙ regions_below space gs (All-tail (IsRegionOf space) g gs all)

all_true : (a b c : Bool) → a ≡ true → b ≡ true → c ≡ true → (a && b && c) ≡ true
all_true a b c p q r = rw (p, q, r) refl

ascend_up : (space : Space) (last : ℕ) (ss : List ServerId) → All (IsServerOf space) ss
    → AscendsFrom nat_lt (Some last) (map (λ (s : ServerId). s.0) ss)
    → ascend_to last space.servers (map (λ (s : ServerId). s.0) ss) ≡ true
ascend_up space last [] all a = refl
ascend_up space last (s ∷ ss) all a =
    all_true (ltb last s.0) (leb s.0 space.servers) (ascend_to s.0 space.servers (map (λ (s : ServerId). s.0) ss)) a.0
    (le-leb s.0 space.servers (All-head (IsServerOf space) s ss all).1)
    (ascend_up space s.0 ss (All-tail (IsServerOf space) s ss all) a.1)

ascend_first : (space : Space) (ss : List ServerId) → All (IsServerOf space) ss
    → AscendsFrom nat_lt None (map (λ (s : ServerId). s.0) ss) → ascend_to 0 space.servers (map (λ (s : ServerId). s.0) ss) ≡ true
ascend_first space [] all a = refl
ascend_first space (s ∷ ss) all a =
    let here = All-head (IsServerOf space) s ss all in
    all_true (ltb 0 s.0) (leb s.0 space.servers) (ascend_to s.0 space.servers (map (λ (s : ServerId). s.0) ss))
    (lt-ltb 0 s.0 here.0) (le-leb s.0 space.servers here.1)
    (ascend_up space s.0 ss (All-tail (IsServerOf space) s ss all) a.1)

-- the line of a configuration, without its newline
abbrev pub epoch_front : EpochLine → List ℕ
epoch_front e = codes "epoch " ++ decimal e.epoch.0 ++ servers_text e ++ lost_text e

epoch_at : (space : Space) (e : EpochLine) → IsSpace space → IsEpochOf space e
    → Takes (epoch_in space) (codes "epoch " ++ (decimal e.epoch.0
    ++ (codes " servers " ++ (numbers_text (server_numbers e) ++ (codes " lost " ++ (numbers_text (lost_numbers e) ++ [])))))) e []
unfolding epoch_in
epoch_at space e valid is =
    let lost : List ℕ = numbers_text (lost_numbers e) ++ [] in
    let label : List ℕ = codes " lost " ++ lost in
    let servers : List ℕ = numbers_text (server_numbers e) ++ label in
    let same : e ≡ record {
      epoch = record { 0 = e.epoch.0 };
      servers = map (λ n. record { 0 = n }) (server_numbers e);
      lost = map (λ n. record { 0 = n }) (lost_numbers e);
    } =
    ap (λ (ss : List ServerId). record e { servers = ss }) (sym (servers_again e.servers))
    ∙ ap (λ (gs : List RegionId). record e { servers = map (λ n. record { 0 = n }) (server_numbers e); lost = gs }) (sym (regions_again e.lost)) in
    takes_then _ tt (decimal e.epoch.0 ++ (codes " servers " ++ servers)) (word_takes (codes "epoch ") (decimal e.epoch.0 ++ (codes " servers " ++ servers)))
    (takes_then _ e.epoch.0 (codes " servers " ++ servers) (number_takes e.epoch.0 (codes " servers " ++ servers) is.epoch refl)
    (takes_then _ tt servers (word_takes (codes " servers ") servers)
    (takes_then _ (server_numbers e) label (numbers_take (server_numbers e) label
    (few_servers space e.servers valid is.servers) (record { digit = refl; comma = refl }))
    (takes_then _ tt label (check_takes (ascend_to 0 space.servers (server_numbers e)) label (ascend_first space e.servers is.servers is.ascend))
    (takes_then _ tt lost (word_takes (codes " lost ") lost)
    (takes_then _ (lost_numbers e) [] (numbers_take (lost_numbers e) [] (few_regions space e.lost valid is.lost) (record { digit = refl; comma = refl }))
    (takes_then _ tt [] (check_takes (all_below (region_count space) (lost_numbers e)) [] (regions_below space e.lost is.lost))
    (subst (λ (x : EpochLine). Takes (give (record {
      epoch = record { 0 = e.epoch.0 };
      servers = map (λ n. record { 0 = n }) (server_numbers e);
      lost = map (λ n. record { 0 = n }) (lost_numbers e);
    })) [] x []) (sym same) (takes_give _ [])))))))))

epoch_parts : (e : EpochLine) → epoch_front e ≡ codes "epoch "
    ++ (decimal e.epoch.0 ++ (codes " servers " ++ (numbers_text (server_numbers e) ++ (codes " lost " ++ (numbers_text (lost_numbers e) ++ [])))))
unfolding servers_text lost_text
epoch_parts e =
    let ss : List ℕ = numbers_text (server_numbers e) in
    let gs : List ℕ = numbers_text (lost_numbers e) in
    append_assoc (codes "epoch " ++ decimal e.epoch.0) (codes " servers " ++ ss) (codes " lost " ++ gs)
    ∙ append_assoc (codes "epoch ") (decimal e.epoch.0) ((codes " servers " ++ ss) ++ (codes " lost " ++ gs))
    ∙ ap (λ t. codes "epoch " ++ (decimal e.epoch.0 ++ t)) (append_assoc (codes " servers ") ss (codes " lost " ++ gs))
    ∙ ap (λ t. codes "epoch " ++ (decimal e.epoch.0 ++ (codes " servers " ++ (ss ++ (codes " lost " ++ t))))) (sym (append-nil gs))

pub epoch_taken : (space : Space) (e : EpochLine) → IsSpace space → IsEpochOf space e → epoch_of space (epoch_front e) ≡ Some e
unfolding epoch_of epoch_text
epoch_taken space e valid is =
    let read : epoch_in space (epoch_front e) ≡ Some (e, []) = ap (epoch_in space) (epoch_parts e) ∙ (epoch_at space e valid is).at in
    ap (λ o. on_some o (λ x. if_same epoch_text (epoch_front e) x.0)) read ∙ kept epoch_text (epoch_front e) e refl
