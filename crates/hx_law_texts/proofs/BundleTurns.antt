-- The calls of a session are read again, in the order of its turns.
use Rattle.hx_law_texts.proofs.Vocabulary.{[], Add, All, All-head, All-set, All-tail, All-weaker, all_at, ap, append-nil, append_assoc, arith, Atomic}
use Rattle.hx_law_texts.proofs.Vocabulary.{begins_with, Bool, Bundle, bundle_line_of_toks, BundleDraft, bytes_eq, bytes_eq-Decides, CallIsSayable, codes, Cput}
use Rattle.hx_law_texts.proofs.Vocabulary.{Del, Draft, eqb, false, Fits, flat_map-cons, Get, if_some_at, IfSome, in_space, is_space, is_word_part, IsSpace}
use Rattle.hx_law_texts.proofs.Vocabulary.{IsWord, keyword_of, length, length-map, List, lt-ltb, map, MOST_CALLS, NamesDiffer, ne_eqb, Ok, Op, op_word}
use Rattle.hx_law_texts.proofs.Vocabulary.{option_map, placed_all, position_or_len, push_to_last_is, Put, refl, region_count, same_Some, Script, Search}
use Rattle.hx_law_texts.proofs.Vocabulary.{slice_get, slice_get-map, slice_get_within, slice_set, Some, some_here, Space, Stop, subst, suc, sym, times, Tok}
use Rattle.hx_law_texts.proofs.Vocabulary.{true, Word, zero, ℕ, ◌++◌, ◌+◌, ◌<◌, ◌∙◌, ◌∷◌, ◌≡◌, ◌≤◌}
use Rattle.std.proofs.lemmas.Bool.{eqb-false}
use Rattle.std.proofs.lemmas.List.{length-set, nil_from_length}
use Rattle.hx_print.specs.BundlePrinting.{call_line_in, calls_in_turn, op_rest, space_call_line as call_text, turns_text}
use Rattle.hx_script.specs.declared.bundle_draft.BundleSection.TheVariants as stages
use Rattle.hx_script.specs.declared.draft.Section.TheVariants as sections
use Rattle.hx_script.specs.declared.keyword.Keyword.TheVariants as keywords
use Rattle.hx_script.specs.BundleGrammar.{bundle_command, space_call_line, space_named}
use Rattle.hx_script.specs.Grammar.{call_line}
use Rattle.hx_script.specs.Words.{named}
use Rattle.hx_script.proofs.Lemmas.{map_set_same, placed_set}
use Rattle.hx_law_texts.proofs.BundleCalls.{rest_again, rest_says, rest_toks, word_of}
use Rattle.hx_law_texts.proofs.BundleReading.{ReadsAll, all_line_reads}
use Rattle.hx_law_texts.proofs.Drafts.{calling}
use Rattle.hx_law_texts.proofs.Names.{bytes_same, IsNamed, a_name}
use Rattle.hx_law_texts.proofs.Says.{Says, word_and_blank, word_says}
use Rattle.hx_law_texts.proofs.Terms.{goes_no_further as terms_go_no_further}

-- a space while the calls of a session are read: its calls of the sessions before, those of this session that were
-- read and those that are left, and how many were read in all
pub record Hand : Type 0 where
  pub script : Script
  pub front : List (List Op)
  pub done : List Op
  pub left : List Op
  pub count : ℕ

abbrev pub draft_of : Hand → Draft
draft_of h = calling sections.Calls h.script.space (region_count h.script.space) (h.front ++ h.done ∷ []) h.count

-- the draft of all spaces, with the turns of the sessions before and those of this one that were read
abbrev pub called : ℕ → ℕ → List Hand → List (List ℕ) → List ℕ → ℕ → BundleDraft
called servers tolerate hands front turns calls =
    record {
      section = stages.Calls;
      servers = servers;
      tolerate = tolerate;
      spaces = map draft_of hands;
      turns = front ++ turns ∷ [];
      calls = calls;
      steps = [];
    }

-- one more call was read
abbrev pub with_call : Hand → Op → List Op → Hand
with_call h op rest = record h { done = h.done ++ op ∷ []; left = rest; count = h.count + 1 }

abbrev pub hand_name : Hand → List ℕ
hand_name h = h.script.space.name

-- ---- a call

pub mapped_at : {A B : Type 0} (P : B → Type 0) (f : A → B) (xs : List A) (i : ℕ) (x : A) → All P (map f xs) → slice_get xs i ≡ Some x → P (f x)
mapped_at P f [] i x all e = absurd cc
mapped_at P f (y ∷ xs) zero x all e = subst (λ a. P (f a)) (same_Some y x e) (All-head P (f y) (map f xs) all)
mapped_at P f (y ∷ xs) (suc i) x all e = mapped_at P f xs i x (All-tail P (f y) (map f xs) all) e

pub bytes_apart : (a b : List ℕ) → (a ≡ b → ⊥) → bytes_eq a b ≡ false
bytes_apart a b apart = by_test (bytes_eq a b) refl
  where
    by_test : (t : Bool) → bytes_eq a b ≡ t → bytes_eq a b ≡ false
    by_test true e = absurd (apart ((bytes_eq-Decides a b).0 e))
    by_test false e = e

-- a space is found by its name
found_at : (hands : List Hand) (k : ℕ) (h : Hand) → NamesDiffer (map hand_name hands) → slice_get hands k ≡ Some h
    → position_or_len (is_space (hand_name h)) (map draft_of hands) ≡ k
found_at [] k h d e = absurd cc
found_at (x ∷ hands) zero h d e = let s : bytes_eq (hand_name x) (hand_name h) ≡ true =
    subst (λ (y : Hand). bytes_eq (hand_name x) (hand_name y) ≡ true) (same_Some x h e) (bytes_same (hand_name x)) in rw s refl
found_at (x ∷ hands) (suc k) h d e =
    let s : bytes_eq (hand_name x) (hand_name h) ≡ false =
    bytes_apart (hand_name x) (hand_name h) (λ f. mapped_at (λ m. m ≡ hand_name x → ⊥) hand_name hands k h d.0 e (sym f)) in
    let n : 1 + k ≡ suc k = omega arith in
    rw (s, found_at hands k h d.1 e) n

set_mapped : {A B : Type 0} (f : A → B) (xs : List A) (k : ℕ) (x : A) → slice_set (map f xs) k (f x) ≡ map f (slice_set xs k x)
set_mapped f [] k x = refl
set_mapped f (y ∷ xs) zero x = refl
set_mapped f (y ∷ xs) (suc k) x = ap (λ (l : List _). f y ∷ l) (set_mapped f xs k x)

keyword_is : (op : Op) → keyword_of (op_word op) ≡ Some (keywords.Call (word_of op))
keyword_is (Put key sets) = refl
keyword_is (Get key) = refl
keyword_is (Del key) = refl
keyword_is (Cput key tests sets) = refl
keyword_is (Search terms) = refl
keyword_is (Stop server) = refl
keyword_is (Add server region) = refl
keyword_is (Atomic key edits) = refl

is_word : (op : Op) → IsWord (op_word op)
is_word (Put key sets) = record { letter = refl; parts = refl }
is_word (Get key) = record { letter = refl; parts = refl }
is_word (Del key) = record { letter = refl; parts = refl }
is_word (Cput key tests sets) = record { letter = refl; parts = refl }
is_word (Search terms) = record { letter = refl; parts = refl }
is_word (Stop server) = record { letter = refl; parts = refl }
is_word (Add server region) = record { letter = refl; parts = refl }
is_word (Atomic key edits) = record { letter = refl; parts = refl }

rest_stops : (s : Space) (op : Op) → begins_with is_word_part (op_rest s op ++ []) ≡ false
unfolding op_rest
rest_stops s (Put key sets) = refl
rest_stops s (Get key) = refl
rest_stops s (Del key) = refl
rest_stops s (Cput key tests sets) = refl
rest_stops s (Search terms) = terms_go_no_further is_word_part s terms refl
rest_stops s (Stop server) = refl
rest_stops s (Add server region) = refl
rest_stops s (Atomic key edits) = refl

draft_takes : (h : Hand) (op : Op) (rest : List Op) → IsSpace h.script.space → Fits h.script.space op
    → CallIsSayable op → h.count < MOST_CALLS → call_line (draft_of h) (word_of op) (rest_toks h.script.space op)
    ≡ Ok (draft_of (with_call h op rest), [])
unfolding call_line
draft_takes h op rest is fits said room = rw (lt-ltb h.count MOST_CALLS room, rest_again h.script.space op is fits said, push_to_last_is h.front h.done op) refl

space_takes : (hands : List Hand) (k : ℕ) (h : Hand) (op : Op) (rest : List Op) → slice_get hands k ≡ Some h
    → IsSpace h.script.space → Fits h.script.space op → CallIsSayable op → h.count < MOST_CALLS
    → in_space (map draft_of hands) k (λ d. call_line d (word_of op)) (rest_toks h.script.space op)
    ≡ Ok (map draft_of (slice_set hands k (with_call h op rest)), [])
space_takes hands k h op rest at is fits said room =
    let here : slice_get (map draft_of hands) k ≡ Some (draft_of h) = slice_get-map draft_of hands k ∙ ap (option_map draft_of) at in
    rw (here, draft_takes h op rest is fits said room, set_mapped draft_of hands k (with_call h op rest)) refl

name_takes : (hands : List Hand) (k : ℕ) (h : Hand) (ts : List Tok) → NamesDiffer (map hand_name hands)
    → slice_get hands k ≡ Some h → IsNamed (hand_name h) → space_named (map draft_of hands) (Word (hand_name h) ∷ ts) ≡ Ok (k, ts)
unfolding space_named named
name_takes hands k h ts differ at is =
    let within : k < length (map draft_of hands) = omega (arith, slice_get_within hands k h at, length-map hands draft_of) in
    rw (is.free, found_at hands k h differ at, lt-ltb k (length (map draft_of hands)) within) refl

call_toks : (n servers tolerate : ℕ) (hands : List Hand) (front : List (List ℕ)) (turns : List ℕ) (calls k : ℕ)
    (h : Hand) (op : Op) (rest : List Op) → slice_get hands k ≡ Some h → NamesDiffer (map hand_name hands)
    → IsSpace h.script.space → Fits h.script.space op → CallIsSayable op → h.count < MOST_CALLS → calls < MOST_CALLS
    → bundle_line_of_toks n (called servers tolerate hands front turns calls)
    (Word (op_word op) ∷ Word (hand_name h) ∷ rest_toks h.script.space op)
    ≡ Ok (called servers tolerate (slice_set hands k (with_call h op rest)) front (turns ++ k ∷ []) (calls + 1))
unfolding bundle_command space_call_line
call_toks n servers tolerate hands front turns calls k h op rest at differ is fits said few room =
    rw (
      keyword_is op,
      lt-ltb calls MOST_CALLS room,
      name_takes hands k h (rest_toks h.script.space op) differ at
          (a_name (hand_name h) is.name),
      space_takes hands k h op rest at is fits said few,
      push_to_last_is front turns k,
    ) refl

call_parts : (w x r n t : List ℕ) → (w ++ codes " " ++ x ++ r ++ n) ++ t ≡ (w ++ (32 ∷ (x ++ (r ++ [])))) ++ (n ++ t)
call_parts w x r n t = simp (append_assoc, append-nil)

call_says : (s : Space) (op : Op) → IsSpace s → Fits s op → CallIsSayable op
    → Says (Word (op_word op) ∷ Word s.name ∷ rest_toks s op) (op_word op ++ (32 ∷ (s.name ++ (op_rest s op ++ []))))
call_says s op is fits said =
    let named : IsNamed s.name = a_name s.name is.name in
    word_and_blank (op_word op) (Word s.name ∷ rest_toks s op) (s.name ++ (op_rest s op ++ [])) (is_word op)
    (word_says s.name (rest_toks s op) (op_rest s op ++ []) named.word (rest_stops s op) (rest_says s op is fits said))

-- a call at its turn, and then the rest
pub call_reads : (n servers tolerate : ℕ) (hands : List Hand) (front : List (List ℕ)) (turns : List ℕ) (calls k : ℕ)
    (h : Hand) (op : Op) (rest : List Op) (text : List ℕ) (a : Bundle) → slice_get hands k ≡ Some h
    → NamesDiffer (map hand_name hands) → IsSpace h.script.space → Fits h.script.space op → CallIsSayable op
    → h.count < MOST_CALLS → calls < MOST_CALLS
    → ReadsAll (n + 1) (called servers tolerate (slice_set hands k (with_call h op rest)) front (turns ++ k ∷ [])
    (calls + 1)) text a → ReadsAll n (called servers tolerate hands front turns calls) (call_text h.script.space op ++ text) a
unfolding call_text
call_reads n servers tolerate hands front turns calls k h op rest text a at differ is fits said few room next =
    all_line_reads n (called servers tolerate hands front turns calls)
    (called servers tolerate (slice_set hands k (with_call h op rest)) front (turns ++ k ∷ []) (calls + 1))
    (call_text h.script.space op ++ text) (op_word op
    ++ (32 ∷ (hand_name h ++ (op_rest h.script.space op ++ [])))) text
    (Word (op_word op) ∷ Word (hand_name h) ∷ rest_toks h.script.space op) a
    (call_parts (op_word op) (hand_name h) (op_rest h.script.space op) (codes "\n") text)
    (call_says h.script.space op is fits said) (call_toks
    (n + 1) servers tolerate hands front turns calls k h op rest at differ is fits said few room) next

-- ---- all calls of a session

abbrev pub left_of : Hand → List Op
left_of h = h.left

abbrev pub script_of_hand : Hand → Script
script_of_hand h = h.script

-- what may be played: each turn has a call left in its space, and there is room
pub record MayPlay (hands : List Hand) (turns : List ℕ) (calls : ℕ) : Type 0 where
  pub few : calls + length turns ≤ MOST_CALLS
  pub counts : All (λ (h : Hand). h.count ≤ calls) hands
  pub names : NamesDiffer (map hand_name hands)
  pub spaces : All (λ (h : Hand). IsSpace h.script.space) hands
  pub fits : All (λ (h : Hand). All (Fits h.script.space) h.left) hands
  pub said : All (λ (h : Hand). All CallIsSayable h.left) hands
  pub dealt : (j : ℕ) → IfSome (slice_get hands j) (λ (h : Hand). length h.left ≡ times j turns)
  pub within : All (λ (k : ℕ). k < length hands) turns

-- the first of the calls that are left
record IsNext (hands : List Hand) (k : ℕ) (turns : List ℕ) : Type 0 where
  pub hand : Hand
  pub op : Op
  pub rest : List Op
  pub here : slice_get hands k ≡ Some hand
  pub left : hand.left ≡ op ∷ rest
  pub fewer : length rest ≡ times k turns

times_here : (k : ℕ) (turns : List ℕ) → times k (k ∷ turns) ≡ times k turns + 1
times_here k turns = rw (self_test k (eqb k k) refl) refl
  where
    self_test : (n : ℕ) (t : Bool) → eqb n n ≡ t → eqb n n ≡ true
    self_test n true e = e
    self_test n false e = absurd (eqb-false n n e refl)

times_there : (j k : ℕ) (turns : List ℕ) → (j ≡ k → ⊥) → times j (k ∷ turns) ≡ times j turns
times_there j k turns ne = rw (ne_eqb k j (λ e. ne (sym e))) refl

has_next : (hands : List Hand) (k : ℕ) (turns : List ℕ) (calls : ℕ) → MayPlay hands (k ∷ turns) calls → IsNext hands k turns
has_next hands k turns calls may =
    let at = some_here hands k (All-head (λ (j : ℕ). j < length hands) k turns may.within) in
    let long : length at.0.left ≡ times k (k ∷ turns) =
    if_some_at (λ (h : Hand). length h.left ≡ times k (k ∷ turns)) (slice_get hands k) at.0 at.1 (may.dealt k) in
    by at.0 at.0.left at.1 refl (long ∙ times_here k turns)
  where
    by : (h : Hand) (left : List Op) → slice_get hands k ≡ Some h → h.left ≡ left → length left ≡ times k turns + 1 → IsNext hands k turns
    by h [] e f long = absurd (omega (arith, long))
    by h (op ∷ rest) e f long = record { hand = h; op = op; rest = rest; here = e; left = f; fewer = omega (arith, long) }

may_go_on : (hands : List Hand) (k : ℕ) (turns : List ℕ) (calls : ℕ) (x : IsNext hands k turns)
    → MayPlay hands (k ∷ turns) calls → MayPlay (slice_set hands k (with_call x.hand x.op x.rest)) turns (calls + 1)
may_go_on hands k turns calls x may =
    let h : Hand = x.hand in
    let next : Hand = with_call h x.op x.rest in
    let few : calls + length (k ∷ turns) ≤ MOST_CALLS = may.few in
    let count : h.count ≤ calls = all_at (λ (y : Hand). y.count ≤ calls) hands k h may.counts x.here in
    let fits : All (Fits h.script.space) (x.op ∷ x.rest) =
    subst (All (Fits h.script.space)) x.left (all_at
    (λ (y : Hand). All (Fits y.script.space) y.left) hands k h may.fits x.here) in
    let said : All CallIsSayable (x.op ∷ x.rest) =
    subst (All CallIsSayable) x.left (all_at (λ (y : Hand). All CallIsSayable y.left) hands k h may.said x.here) in
    let long : length (slice_set hands k next) ≡ length hands = length-set hands k next in
    record {
      few = omega (arith, few);
      counts = All-set (λ (y : Hand). y.count ≤ calls + 1) hands k next (omega (arith, count))
          (All-weaker (λ (y : Hand). y.count ≤ calls) (λ (y : Hand). y.count ≤ calls + 1)
          (λ y le. omega (arith, le)) hands may.counts);
      names = subst NamesDiffer (sym (map_set_same hand_name hands k h next x.here refl)) may.names;
      spaces = All-set (λ (y : Hand). IsSpace y.script.space) hands k next
          (all_at (λ (y : Hand). IsSpace y.script.space) hands k h may.spaces x.here) may.spaces;
      fits = All-set (λ (y : Hand). All (Fits y.script.space) y.left) hands k next (All-tail (Fits h.script.space) x.op x.rest fits) may.fits;
      said = All-set (λ (y : Hand). All CallIsSayable y.left) hands k next (All-tail CallIsSayable x.op x.rest said) may.said;
      dealt = placed_set (λ j y. length y.left ≡ times j (k ∷ turns))
          (λ j y. length y.left ≡ times j turns) hands k h next x.here may.dealt
          (λ j y ne e. e ∙ times_there j k turns ne) x.fewer;
      within = subst (λ m. All (λ (j : ℕ). j < m) turns) (sym long) (All-tail (λ (j : ℕ). j < length hands) k turns may.within);
    }

-- what the turns leave: the same spaces and calls, all of them read
pub record IsPlayed (before after : List Hand) : Type 0 where
  pub scripts : map script_of_hand after ≡ map script_of_hand before
  pub fronts : map (λ (h : Hand). h.front) after ≡ map (λ (h : Hand). h.front) before
  pub calls : map (λ (h : Hand). h.done ++ h.left) after ≡ map (λ (h : Hand). h.done ++ h.left) before
  pub none_left : All (λ (h : Hand). h.left ≡ []) after

turn_text : (spaces : List Script) (hands : List Hand) (k : ℕ) (turns : List ℕ) (x : IsNext hands k turns) → map script_of_hand hands ≡ spaces
    → turns_text spaces (map left_of hands) (k ∷ turns) ≡ call_text x.hand.script.space x.op
    ++ turns_text spaces (map left_of (slice_set hands k (with_call x.hand x.op x.rest))) turns
unfolding turns_text
turn_text spaces hands k turns x are =
    let left : slice_get (map left_of hands) k ≡ Some (x.op ∷ x.rest) =
    slice_get-map left_of hands k ∙ ap (option_map left_of) x.here ∙ ap (λ (l : List Op). Some l) x.left in
    let script : slice_get spaces k ≡ Some x.hand.script =
    ap (λ (l : List Script). slice_get l k) (sym are) ∙ slice_get-map script_of_hand hands k
    ∙ ap (option_map script_of_hand) x.here in
    let set : slice_set (map left_of hands) k x.rest
    ≡ map left_of (slice_set hands k (with_call x.hand x.op x.rest)) =
    set_mapped left_of hands k (with_call x.hand x.op x.rest) in
    rw (left, flat_map-cons (call_line_in spaces) (k, x.op) (calls_in_turn (slice_set (map left_of hands) k x.rest) turns), script, set) refl

-- the turns that are left, and then what follows
pub turns_read : (turns : List ℕ) (n servers tolerate : ℕ) (spaces : List Script) (hands : List Hand)
    (front : List (List ℕ)) (made : List ℕ) (calls : ℕ) (rest : List ℕ) (a : Bundle) → MayPlay hands turns calls
    → map script_of_hand hands ≡ spaces
    → ((after : List Hand) → IsPlayed hands after → All (λ (h : Hand). h.count ≤ calls + length turns) after
    → ReadsAll (n + length turns) (called servers tolerate after front (made ++ turns) (calls + length turns)) rest a)
    → ReadsAll n (called servers tolerate hands front made calls) (turns_text spaces (map left_of hands) turns ++ rest) a
unfolding turns_text
turns_read [] n servers tolerate spaces hands front made calls rest a may are next =
    let k : n + length {A = ℕ} [] ≡ n = omega arith in
    let c : calls + length {A = ℕ} [] ≡ calls = omega arith in
    let none : All (λ (h : Hand). h.left ≡ []) hands =
    placed_all (λ j h. length h.left ≡ 0) hands (λ h. h.left ≡ []) (λ j h e. nil_from_length h.left e) may.dealt in
    let counts : All (λ (h : Hand). h.count ≤ calls + length {A = ℕ} []) hands = subst (λ m. All (λ (h : Hand). h.count ≤ m) hands) (sym c) may.counts in
    subst (λ (m : ℕ). ReadsAll m (called servers tolerate hands front made calls) rest a) k
    (subst (λ (m : ℕ). ReadsAll (n + length {A = ℕ} []) (called servers tolerate hands front made m) rest a) c
    (subst (λ (ts : List ℕ). ReadsAll (n + length {A = ℕ} [])
    (called servers tolerate hands front ts (calls + length {A = ℕ} [])) rest a) (append-nil made)
    (next hands (record { scripts = refl; fronts = refl; calls = refl; none_left = none }) counts)))
turns_read (k ∷ turns) n servers tolerate spaces hands front made calls rest a may are next =
    let x : IsNext hands k turns = has_next hands k turns calls may in
    let h : Hand = x.hand in
    let hands_now : List Hand = slice_set hands k (with_call h x.op x.rest) in
    let later : List ℕ = turns_text spaces (map left_of hands_now) turns ++ rest in
    let text : turns_text spaces (map left_of hands) (k ∷ turns) ++ rest ≡ call_text h.script.space x.op ++ later =
    ap (λ (t : List ℕ). t ++ rest) (turn_text spaces hands k turns x are)
    ∙ append_assoc (call_text h.script.space x.op) (turns_text spaces (map left_of hands_now) turns) rest in
    let m : n + length (k ∷ turns) ≡ n + 1 + length turns = omega arith in
    let c : calls + length (k ∷ turns) ≡ calls + 1 + length turns = omega arith in
    let moved : made ++ k ∷ turns ≡ (made ++ k ∷ []) ++ turns = sym (append_assoc made (k ∷ []) turns) in
    let scripts : map script_of_hand hands_now ≡ map script_of_hand hands = map_set_same script_of_hand hands k h (with_call h x.op x.rest) x.here refl in
    let fronts : map (λ (y : Hand). y.front) hands_now ≡ map (λ (y : Hand). y.front) hands =
    map_set_same (λ (y : Hand). y.front) hands k h (with_call h x.op x.rest) x.here refl in
    let same : (h.done ++ x.op ∷ []) ++ x.rest ≡ h.done ++ h.left = append_assoc h.done (x.op ∷ []) x.rest ∙ ap (λ (l : List Op). h.done ++ l) (sym x.left) in
    let of_calls : map (λ (y : Hand). y.done ++ y.left) hands_now ≡ map (λ (y : Hand). y.done ++ y.left) hands =
    map_set_same (λ (y : Hand). y.done ++ y.left) hands k h (with_call h x.op x.rest) x.here same in
    let fits : All (Fits h.script.space) (x.op ∷ x.rest) =
    subst (All (Fits h.script.space)) x.left (all_at
    (λ (y : Hand). All (Fits y.script.space) y.left) hands k h may.fits x.here) in
    let said : All CallIsSayable (x.op ∷ x.rest) =
    subst (All CallIsSayable) x.left (all_at (λ (y : Hand). All CallIsSayable y.left) hands k h may.said x.here) in
    let few : calls + length (k ∷ turns) ≤ MOST_CALLS = may.few in
    let count : h.count ≤ calls = all_at (λ (y : Hand). y.count ≤ calls) hands k h may.counts x.here in
    let more : ReadsAll (n + 1) (called servers tolerate hands_now front (made ++ k ∷ []) (calls + 1)) later a =
    turns_read turns (n + 1) servers tolerate spaces hands_now front (made ++ k ∷ []) (calls + 1) rest a (may_go_on hands k turns calls x may) (scripts ∙ are)
    (λ after p counts.
    subst (λ (i : ℕ). ReadsAll i (called servers tolerate after front ((made ++ k ∷ []) ++ turns) (calls + 1 + length turns)) rest a) m
    (subst (λ (i : ℕ). ReadsAll (n + length (k ∷ turns)) (called servers tolerate after front ((made ++ k ∷ []) ++ turns) i) rest a) c
    (subst (λ (ts : List ℕ). ReadsAll (n + length (k ∷ turns)) (called servers tolerate after front ts (calls + length (k ∷ turns))) rest a) moved
    (next after (record {
      scripts = p.scripts ∙ scripts;
      fronts = p.fronts ∙ fronts;
      calls = p.calls ∙ of_calls;
      none_left = p.none_left;
    }) (subst (λ (i : ℕ). All (λ (y : Hand). y.count ≤ i) after) (sym c) counts))))) in
    subst (λ (t : List ℕ). ReadsAll n (called servers tolerate hands front made calls) t a) (sym text)
    (call_reads n servers tolerate hands front made calls k h x.op x.rest later a x.here may.names
    (all_at (λ (y : Hand). IsSpace y.script.space) hands k h may.spaces x.here)
    (All-head (Fits h.script.space) x.op x.rest fits) (All-head CallIsSayable x.op x.rest said)
    (omega (arith, count, few)) (omega (arith, few)) more)
