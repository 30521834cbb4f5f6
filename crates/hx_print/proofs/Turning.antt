-- The next call of a turn, among the calls to each space that are left.
use Rattle.std.proofs.Common.{◌≡◌, ℕ, zero, suc, ◌<◌, List, [], ◌∷◌, ◌++◌, length, map, drop, get_or, set, refl, sym, ap, ◌∙◌, arith, append_assoc}
use Rattle.std.specs.Borrow.{Bor}
use Rattle.std.specs.Prelude.{slice_set}
use Rattle.std.specs.List.{flat_map}
use Rattle.std.proofs.lemmas.List.{append-nil, length-map, length-set, map-set}
use Rattle.std.proofs.lemmas.List.Concat.{flat_map-append}
use Rattle.hx_types.specs.declared.calls.Op.{Op}
use Rattle.hx_types.specs.declared.traces.Script.{Script}
use Rattle.hx_print.specs.BundlePrinting.{TakesTurn, call_line_in, calls_in_turn, first_call, hand_at, turns_text}

-- the calls that the references stand for
abbrev pub shown : List (Bor (List Op)) → List (List Op)
shown hands = map (λ (h : Bor (List Op)). h.now) hands

hand_is : (hands : List (Bor (List Op))) (k : ℕ) (hand : Bor (List Op)) → k < length hands → hand ≡ get_or hands k hand → hand_at (shown hands) k ≡ hand.now
hand_is [] k hand lt is = absurd (omega (arith, lt))
hand_is (h ∷ hands) zero hand lt is = ap (λ (x : Bor (List Op)). x.now) (sym is)
hand_is (h ∷ hands) (suc k) hand lt is = hand_is hands k hand (omega (arith, lt)) is

kept : (hands : List (List Op)) (k : ℕ) → hand_at hands k ≡ [] → slice_set hands k (drop 1 (hand_at hands k)) ≡ hands
kept [] k none = refl
kept (h ∷ hands) zero none = ap (λ (x : List Op). x ∷ hands) (ap (λ (x : List Op). drop 1 x) none ∙ sym none)
kept (h ∷ hands) (suc k) none = ap (λ (l : List (List Op)). h ∷ l) (kept hands k none)

-- no call to the space is left
pub turn_empty : (spaces : List Script) (k : ℕ) (hands : List (Bor (List Op))) (hand : Bor (List Op)) (out : List ℕ)
    → k < length hands → hand ≡ get_or hands k hand → hand.now ≡ [] → TakesTurn spaces k (shown hands) (shown hands) out out
turn_empty spaces k hands hand out lt is none =
    let left : hand_at (shown hands) k ≡ [] = hand_is hands k hand lt is ∙ none in
    record {
      hands_left = sym (kept (shown hands) k left);
      appended = sym (append-nil out) ∙ ap (λ (l : List Op). out ++ flat_map (call_line_in spaces) (first_call k l)) (sym left);
    }

-- the first of those that are left is taken
pub turn_taken : (spaces : List Script) (k : ℕ) (hands : List (Bor (List Op))) (hand rest : Bor (List Op)) (op : Op)
    (out more : List ℕ) → k < length hands → hand ≡ get_or hands k hand → hand.now ≡ op ∷ rest.now
    → more ≡ out ++ call_line_in spaces (k, op)
    → TakesTurn spaces k (shown hands) (shown (set hands k rest)) out more
turn_taken spaces k hands hand rest op out more lt is split text =
    let left : hand_at (shown hands) k ≡ op ∷ rest.now = hand_is hands k hand lt is ∙ split in
    record {
      hands_left = map-set (λ (h : Bor (List Op)). h.now) hands k rest ∙ ap (λ (l : List Op). slice_set (shown hands) k (drop 1 l)) (sym left);
      appended =
          text
          ∙ ap (λ (l : List ℕ). out ++ l) (sym (append-nil (call_line_in spaces (k, op))))
          ∙ ap (λ (l : List Op). out ++ flat_map (call_line_in spaces) (first_call k l)) (sym left);
    }

-- and then the calls of the other turns
pub turns_on : (spaces : List Script) (hands left : List (List Op)) (k : ℕ) (turns : List ℕ) (out more : List ℕ)
    → TakesTurn spaces k hands left out more → more ++ turns_text spaces left turns ≡ out ++ turns_text spaces hands (k ∷ turns)
unfolding turns_text
turns_on spaces hands left k turns out more t =
    rw (
      t.appended,
      t.hands_left,
      flat_map-append (call_line_in spaces) (first_call k (hand_at hands k))
          (calls_in_turn (slice_set hands k (drop 1 (hand_at hands k))) turns),
    )
    (append_assoc out (flat_map (call_line_in spaces) (first_call k (hand_at hands k)))
    (flat_map (call_line_in spaces) (calls_in_turn (slice_set hands k (drop 1 (hand_at hands k))) turns)))

-- no turn is left
pub turns_end : (spaces : List Script) (hands : List (List Op)) (turns : List ℕ) → length turns ≡ 0 → turns_text spaces hands turns ≡ []
unfolding turns_text
turns_end spaces hands [] e = refl
turns_end spaces hands (k ∷ turns) e = absurd (omega (arith, e))

-- there is a hand for each space still
pub hands_stay : (spaces : List Script) (k : ℕ) (hands left : List (Bor (List Op))) (out more : List ℕ)
    → TakesTurn spaces k (shown hands) (shown left) out more → length left ≡ length hands
hands_stay spaces k hands left out more t =
    sym (length-map left (λ (h : Bor (List Op)). h.now))
    ∙ ap (λ (l : List (List Op)). length l) t.hands_left
    ∙ length-set (shown hands) k (drop 1 (hand_at (shown hands) k))
    ∙ length-map hands (λ (h : Bor (List Op)). h.now)
