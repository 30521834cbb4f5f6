-- The histories of the groups of a map are those of all keys.
use Rattle.std.proofs.Common.{◌≡◌, ◌≢◌, ℕ, Bool, true, false, ◌&&◌, cond, List, [], ◌∷◌, ◌++◌, Option, Some, None, map}
use Rattle.std.proofs.Common.{reverse, get_or, refl, sym, ap, subst, ◌∙◌, inl, inr}
use Rattle.std.proofs.lemmas.List.{append-nil, reverse-reverse}
use Rattle.std.proofs.lemmas.List.Elements.{All-append, All-cons, All-nil, All-weaker, filter_agree, recursion_from_All}
use Rattle.std.proofs.lemmas.List.Kept.{IsStrictlySortedBy-dedup}
use Rattle.std.proofs.lemmas.Map.Entries.{lookup_from_place}
use Rattle.std.proofs.lemmas.Map.Text.{is_eq-slice_cmp}
use Rattle.std.proofs.lemmas.Option.{slice_get-get_or}
use Rattle.std.proofs.lemmas.Slice.Eq.{bytes_eq-Decides}
use Rattle.std.specs.Borrow.{Bor}
use Rattle.std.specs.Cmp.{IsEquivalence, IsTotalOrder, on_equiv, on_total}
use Rattle.std.specs.Cmp.Lexicographic.{nat_list_cmp_total, nat_list_eq_equiv, slice_cmp}
use Rattle.std.specs.List.{All, AllByRecursion, IsDistinct, dedup, filter, flat_map, list_all}
use Rattle.std.specs.List.Sorted.{IsSorted, IsStrictlySortedBy}
use Rattle.std.specs.Map.{keys_of, lookup}
use Rattle.std.specs.Option.{option_map_or}
use Rattle.std.specs.Ordering.{is_lt, nat_cmp}
use Rattle.std.specs.declared.cmp.Ordering.{Ordering}
use Rattle.std.specs.declared.cmp.Ordering.TheVariants.{Less}
use Rattle.std.specs.Str.{bytes_eq}
use Rattle.hx_model.specs.Types.{Entry, Item, Script}
use Rattle.hx_types.proofs.Lemmas.{text_below-is_lt}
use Rattle.hx_types.specs.Words.{IsIn, text_below}
use Rattle.hx_types.specs.Posts.{keys_ascend}
use Rattle.hx_model.specs.Histories.{history_of}
use Rattle.hx_history.specs.declared.key_histories.KeyHistory.{KeyHistory}
use Rattle.hx_history.specs.declared.events.Event.{Event}
use Rattle.hx_history.specs.Events.{event_view, events_of, history_by, is_at as is_event_at, key_of}
use Rattle.hx_history.specs.Listed.{AreHistories, IsHistory, keys_of_histories, listed_of}
use Rattle.hx_history.proofs.ByEvents.{history_found}

same_text_from : (xs ys : List ℕ) → bytes_eq xs ys ≡ true → xs ≡ ys
same_text_from xs ys same = (bytes_eq-Decides xs ys).0 same

at_key : (key : List ℕ) (events : List Event)
    → filter (λ (e : Event). bytes_eq key (key_of (event_view e))) events ≡ filter (λ (e : Event). is_event_at key (event_view e)) events
at_key key events =
    filter_agree (λ (e : Event). bytes_eq key (key_of (event_view e))) (λ (e : Event). is_event_at key (event_view e))
    (λ e. nat_list_eq_equiv.symm key (key_of (event_view e))) events

-- keys by their bytes
abbrev pub by_bytes : Bor (List ℕ) → Bor (List ℕ) → Ordering
by_bytes a b = slice_cmp nat_cmp a.now b.now

abbrev pub same_bytes : Bor (List ℕ) → Bor (List ℕ) → Bool
same_bytes a b = bytes_eq a.now b.now

bytes_laws : IsEquivalence same_bytes
bytes_laws = on_equiv (λ (b : Bor (List ℕ)). b.now) nat_list_eq_equiv

bytes_total : IsTotalOrder by_bytes
bytes_total = on_total (λ (b : Bor (List ℕ)). b.now) nat_list_cmp_total

-- of distinct keys none is left out
undoubled : (k : Bor (List ℕ)) (ks : List (Bor (List ℕ))) → IsDistinct same_bytes (k ∷ ks) → dedup same_bytes (k ∷ ks) ≡ k ∷ ks
unfolding IsDistinct
undoubled k [] distinct = refl
undoubled k (x ∷ ks) distinct =
    rw (bytes_laws.symm x k ∙ distinct.0.0) (ap (λ (l : List (Bor (List ℕ))). k ∷ l) (undoubled x ks distinct.1))

all_undoubled : (ks : List (Bor (List ℕ))) → IsDistinct same_bytes ks → dedup same_bytes ks ≡ ks
all_undoubled [] distinct = refl
all_undoubled (k ∷ ks) distinct = undoubled k ks distinct

strictly : (ks : List (Bor (List ℕ))) → IsSorted by_bytes ks → IsDistinct same_bytes ks → IsStrictlySortedBy by_bytes ks
strictly ks sorted distinct =
    subst (IsStrictlySortedBy by_bytes) (all_undoubled ks distinct)
    (IsStrictlySortedBy-dedup bytes_total (λ a b. sym (is_eq-slice_cmp a.now b.now)) ks sorted)

-- each entry is found at its key
found_all : {V : Type 0} (entries : List (Bor (List ℕ) × V)) → IsDistinct same_bytes (keys_of entries)
    → All (λ (e : Bor (List ℕ) × V). lookup (λ (k : Bor (List ℕ)). bytes_eq e.0.now k.now) entries ≡ Some e.1) entries
found_all entries distinct = λ i d within.
    lookup_from_place bytes_laws entries i (get_or entries i d).0 (get_or entries i d).1 distinct (slice_get-get_or entries i d within)

module _ {V : Type 0} (script : Script) (group : V → List Event) where
  -- the history told by a group
  abbrev told_by : V → List Item
  told_by g = history_by script (map event_view (group g))

  -- the histories of the groups of a map
  abbrev pub histories_of : List (Bor (List ℕ) × V) → List KeyHistory
  histories_of entries = flat_map (λ (e : Bor (List ℕ) × V). listed_of e.0.now (told_by e.1)) entries

  below_more : (low key : List ℕ) (items : List Item) (rest : List KeyHistory) → text_below low key ≡ true
      → list_all (text_below low) (keys_of_histories rest) ≡ true → list_all (text_below low) (keys_of_histories (listed_of key items ++ rest)) ≡ true
  below_more low key [] rest first more = more
  below_more low key (x ∷ items) rest first more = ap (λ b. b && list_all (text_below low) (keys_of_histories rest)) first ∙ more

  below_all : (low : List ℕ) (entries : List (Bor (List ℕ) × V)) → AllByRecursion (λ (k : Bor (List ℕ)). slice_cmp nat_cmp low k.now ≡ Less) (keys_of entries)
      → list_all (text_below low) (keys_of_histories (histories_of entries)) ≡ true
  below_all low [] all = refl
  below_all low (e ∷ entries) all =
      below_more low e.0.now (told_by e.1) (histories_of entries) (text_below-is_lt low e.0.now ∙ ap is_lt all.0) (below_all low entries all.1)

  ascend_more : (key : List ℕ) (items : List Item) (rest : List KeyHistory) → list_all (text_below key) (keys_of_histories rest) ≡ true
      → keys_ascend (keys_of_histories rest) ≡ true → keys_ascend (keys_of_histories (listed_of key items ++ rest)) ≡ true
  ascend_more key [] rest first more = more
  ascend_more key (x ∷ items) rest first more = ap (λ b. b && keys_ascend (keys_of_histories rest)) first ∙ more

  ascend : (entries : List (Bor (List ℕ) × V)) → IsStrictlySortedBy (λ (a b : Bor (List ℕ)). slice_cmp nat_cmp a.now b.now) (keys_of entries)
      → keys_ascend (keys_of_histories (histories_of entries)) ≡ true
  unfolding IsStrictlySortedBy
  ascend [] sorted = refl
  ascend (e ∷ entries) sorted =
      ascend_more e.0.now (told_by e.1) (histories_of entries) (below_all e.0.now entries sorted.0) (ascend entries sorted.1)

  each_of : (trace : List Entry) (key : List ℕ) (items : List Item) → items ≡ reverse (history_of script key trace)
      → All (IsHistory script trace) (listed_of key items)
  each_of trace key [] same = All-nil (IsHistory script trace)
  each_of trace key (x ∷ items) same =
      All-cons (IsHistory script trace) (record { key = key; items = x ∷ items }) []
      (record { items = same; some = λ none. cc }) (All-nil (IsHistory script trace))

  each_all : (trace : List Entry) (entries : List (Bor (List ℕ) × V))
      → AllByRecursion (λ (e : Bor (List ℕ) × V). told_by e.1 ≡ reverse (history_of script e.0.now trace)) entries
      → All (IsHistory script trace) (histories_of entries)
  each_all trace [] same = All-nil (IsHistory script trace)
  each_all trace (e ∷ entries) same =
      All-append (IsHistory script trace) (listed_of e.0.now (told_by e.1)) (histories_of entries)
      (each_of trace e.0.now (told_by e.1) same.0) (each_all trace entries same.1)

  in_first : (key k : List ℕ) (items : List Item) (rest : List KeyHistory) → key ≡ k → items ≢ [] → IsIn key (keys_of_histories (listed_of k items ++ rest))
  in_first key k [] rest same some = absurd (some refl)
  in_first key k (x ∷ items) rest same some = inl same

  in_rest : (key k : List ℕ) (items : List Item) (rest : List KeyHistory) → IsIn key (keys_of_histories rest)
      → IsIn key (keys_of_histories (listed_of k items ++ rest))
  in_rest key k [] rest there = there
  in_rest key k (x ∷ items) rest there = inr there

  in_all : (key : List ℕ) (g : V) → told_by g ≢ [] → (entries : List (Bor (List ℕ) × V))
      → lookup (λ (k : Bor (List ℕ)). bytes_eq key k.now) entries ≡ Some g → IsIn key (keys_of_histories (histories_of entries))
  in_all key g some [] found = cc
  in_all key g some (e ∷ entries) found =
      by_test (bytes_eq key e.0.now) refl found
      (λ more. in_rest key e.0.now (told_by e.1) (histories_of entries) (in_all key g some entries more))
    where
      by_test : (b : Bool) → b ≡ bytes_eq key e.0.now
          → cond b (Some e.1) (lookup (λ (k : Bor (List ℕ)). bytes_eq key k.now) entries) ≡ Some g
          → (lookup (λ (k : Bor (List ℕ)). bytes_eq key k.now) entries ≡ Some g → IsIn key (keys_of_histories (histories_of (e ∷ entries))))
          → IsIn key (keys_of_histories (histories_of (e ∷ entries)))
      by_test true same here more =
          let this : e.1 ≡ g = cc in
          let there : told_by e.1 ≢ [] = λ none. some (ap told_by (sym this) ∙ none) in
          in_first key e.0.now (told_by e.1) (histories_of entries) (same_text_from key e.0.now (sym same)) there
      by_test false same other more = more other

  -- the map has at each key the key's events
  pub are_histories : (trace : List Entry) (events : List Event) (entries : List (Bor (List ℕ) × V))
      → map event_view events ≡ events_of script trace
      → ((q : List ℕ) → option_map_or group (lookup (λ (k : Bor (List ℕ)). bytes_eq q k.now) entries) []
      ≡ filter (λ (e : Event). bytes_eq q (key_of (event_view e))) events)
      → IsSorted by_bytes (keys_of entries)
      → IsDistinct same_bytes (keys_of entries)
      → AreHistories script (reverse trace) (histories_of entries)
  are_histories trace events entries view groups sorted distinct =
      record {
        ascending = ascend entries (strictly (keys_of entries) sorted distinct);
        each = each_all (reverse trace) entries (recursion_from_All _ entries
            (All-weaker _ _ (λ e at. told_here e.0.now e.1 at) entries (found_all entries distinct)));
        every = λ key some. by_lookup key some (lookup (λ (k : Bor (List ℕ)). bytes_eq key k.now) entries) refl;
      }
    where
      told_here : (key : List ℕ) (g : V) → lookup (λ (k : Bor (List ℕ)). bytes_eq key k.now) entries ≡ Some g
          → told_by g ≡ reverse (history_of script key (reverse trace))
      told_here key g at =
          ap (λ es. history_by script (map event_view es)) (ap (λ o. option_map_or group o []) (sym at) ∙ groups key ∙ at_key key events)
          ∙ history_found script key trace events view

      by_lookup : (key : List ℕ) → history_of script key (reverse trace) ≢ []
          → (o : Option V) → lookup (λ (k : Bor (List ℕ)). bytes_eq key k.now) entries ≡ o → IsIn key (keys_of_histories (histories_of entries))
      by_lookup key some None at =
          absurd
          (some
          (
          sym (reverse-reverse (history_of script key (reverse trace)))
          ∙ ap reverse
          (
          sym (history_found script key trace events view)
          ∙ ap (λ es. history_by script (map event_view es)) (sym (at_key key events) ∙ sym (groups key) ∙ ap (λ o. option_map_or group o []) at)
          )
          ))
      by_lookup key some (Some g) at =
          in_all key g
          (λ none. some (sym (reverse-reverse (history_of script key (reverse trace))) ∙ ap reverse (sym (told_here key g at) ∙ none)))
          entries at

  -- the loop over the map has come to its end
  pub at_end : (trace : List Entry) (listed : List KeyHistory) (left all entries : List (Bor (List ℕ) × V)) → left ≡ [] → all ≡ entries
      → listed ++ histories_of left ≡ histories_of all → AreHistories script trace (histories_of entries) → AreHistories script trace listed
  at_end trace listed left all entries none same invariant are =
      let there : histories_of entries ≡ listed =
      sym (sym (append-nil listed) ∙ ap (λ es. listed ++ histories_of es) (sym none) ∙ invariant ∙ ap histories_of same) in
      subst (AreHistories script trace) there are
