-- Accounts that tell the same of calls and histories: what the definitions say by one they say by the other.
use Rattle.hx_law_lemmas.proofs.Lemmas.Vocabulary.{[], Answer, ap, CallEnd, Caller, changes_object, cond, EachOnce, false, FinishedSearch, is_refused, IsIn}
use Rattle.hx_law_lemmas.proofs.Lemmas.Vocabulary.{IsLegal, IsSome, Item, items_with_newer, ItemWithNewer, List, list_any, ltb, None, not, Op, Option}
use Rattle.hx_law_lemmas.proofs.Lemmas.Vocabulary.{option_map, refl, Row, Some, Space, StandsBefore, subst, sym, Version, when_some, ℕ, ◌&&◌, ◌∙◌, ◌∷◌, ◌≡◌}
use Rattle.hx_audit.specs.Accounts.{Account, IsAnsweredBy, IsCallBy, IsChangeShownBy, IsLinearBy, IsSearchTrueBy, IsSearchWholeBy, IsTrueRowBy, began_before}
use Rattle.hx_audit.specs.Accounts.{ended_before, last_change, no_change_before, was_refused}

-- what an end says but for its version
pub record Stop : Type 0 where
  pub entry : ℕ
  pub answer : Answer

abbrev pub stop_of : CallEnd → Stop
stop_of e = record { entry = e.entry; answer = e.answer }

-- the same begins, ends but for versions, and histories, and the same operations of calls that began
pub record SameAccounts (a b : Account) : Type 0 where
  pub op : (c : Caller) (op : Op) → IsSome (a.begin_of c) → a.op_of c ≡ Some op → b.op_of c ≡ Some op
  pub op_back : (c : Caller) (op : Op) → b.op_of c ≡ Some op → a.op_of c ≡ Some op
  pub begin : (c : Caller) → a.begin_of c ≡ b.begin_of c
  pub end : (c : Caller) → option_map stop_of (a.end_of c) ≡ option_map stop_of (b.end_of c)
  pub history : (key : List ℕ) → a.history_of key ≡ b.history_of key

-- what is told of an end without its version
pub told_end : {B : Type 0} (d : B) (f : Stop → B) (o : Option CallEnd) → when_some o d (λ (e : CallEnd). f (stop_of e)) ≡ when_some (option_map stop_of o) d f
told_end d f None = refl
told_end d f (Some e) = refl

module _ (a b : Account) (same : SameAccounts a b) where
  same_told : {B : Type 0} (d : B) (f : Stop → B) (c : Caller)
      → when_some (a.end_of c) d (λ (e : CallEnd). f (stop_of e)) ≡ when_some (b.end_of c) d (λ (e : CallEnd). f (stop_of e))
  same_told d f c = told_end d f (a.end_of c) ∙ ap (λ o. when_some o d f) (same.end c) ∙ sym (told_end d f (b.end_of c))

  same_ended : (c : Caller) (n : ℕ) → ended_before a c n ≡ ended_before b c n
  same_ended c n = same_told false (λ (s : Stop). ltb s.entry n) c

  same_began : (c : Caller) (n : ℕ) → began_before a c n ≡ began_before b c n
  same_began c n = ap (λ o. when_some o false (λ m. ltb m n)) (same.begin c)

  same_refused : (c : Caller) → was_refused a c ≡ was_refused b c
  same_refused c = same_told false (λ (s : Stop). is_refused s.answer) c

  -- an end by the one is one by the other, of some version
  end_back : (c : Caller) (n : ℕ) (v : Version) (answer : Answer)
      → b.end_of c ≡ Some (record { entry = n; version = v; answer = answer }) → (w : Version)
      × (a.end_of c ≡ Some (record { entry = n; version = w; answer = answer }))
  end_back c n v answer e = by (a.end_of c) refl (same.end c ∙ ap (option_map stop_of) e)
    where
      by : (o : Option CallEnd) → a.end_of c ≡ o → option_map stop_of o ≡ Some (record { entry = n; answer = answer })
          → (w : Version) × (a.end_of c ≡ Some (record { entry = n; version = w; answer = answer }))
      by None q s = absurd (cc)
      by (Some d) q s =
          let z : stop_of d ≡ record { entry = n; answer = answer } = cc in
          (d.version, q ∙ (λ i. Some (record { entry = (z i).entry; version = d.version; answer = (z i).answer })))

  call_by : (key : List ℕ) (x : Item) → IsCallBy a key x → IsCallBy b key x
  call_by key x h =
      record {
        begun = subst (λ (o : Option ℕ). IsSome o) (same.begin x.caller) h.begun;
        called = same.op x.caller x.op h.begun h.called;
        on_key = h.on_key;
        not_refused = sym (same_refused x.caller) ∙ h.not_refused;
      }

  answered_by : (key : List ℕ) (c : Caller) (answer : Answer) → IsAnsweredBy b key c answer → IsAnsweredBy a key c answer
  answered_by key c answer h =
      let e = end_back c h.entry h.version answer h.ended in
      record { op = h.op; called = same.op_back c h.op h.called; on_key = h.on_key; entry = h.entry; version = e.0; ended = e.1; not_refused = h.not_refused }

  pub linear_by : (space : Space) (key : List ℕ) → IsLinearBy a space key → IsLinearBy b space key
  linear_by space key h =
      let here = same.history key in
      let back : (x : Item) → IsIn x (b.history_of key) → IsIn x (a.history_of key) = λ x i. subst (IsIn x) (sym here) i in
      record {
        legal = subst (IsLegal space) here h.legal;
        answered_once = λ c answer u. (let r = h.answered_once c answer (answered_by key c answer u) in (r.0, subst (IsIn r.0) here r.1, r.2, r.3));
        honest = record { calls = λ x i. call_by key x (h.honest.calls x (back x i)); once = subst EachOnce here h.honest.once };
        in_order = λ x y n i j apart begin ended. subst (StandsBefore x y) here
            (h.in_order x y n (back x i) (back y j) apart (same.begin y.caller ∙ begin) (same_ended x.caller n ∙ ended));
      }

  same_change : (n : ℕ) (newer items : List Item) → last_change a n newer items ≡ last_change b n newer items
  same_change n newer [] = refl
  same_change n newer (x ∷ older) =
      let rest = same_change n (x ∷ newer) older in
      λ i. cond (changes_object x && same_began x.caller n i) (Some (record { item = x; newer = newer })) (rest i)

  any_ended : (n : ℕ) (xs : List Item) → list_any (λ (x : Item). ended_before a x.caller n) xs ≡ list_any (λ (x : Item). ended_before b x.caller n) xs
  any_ended n xs = λ i. list_any (λ (x : Item). same_ended x.caller n i) xs

  shown_by : (s : FinishedSearch) (key : List ℕ) (o : Option ItemWithNewer) → IsChangeShownBy a s key o → IsChangeShownBy b s key o
  shown_by s key None h = tt
  shown_by s key (Some c) h = λ t. h (any_ended s.begin (c.item ∷ c.newer) ∙ t)

  pub whole_by : (key : List ℕ) (s : FinishedSearch) → IsSearchWholeBy a key s → IsSearchWholeBy b key s
  whole_by key s h =
      shown_by s key (last_change b s.end [] (b.history_of key))
      (subst (IsChangeShownBy a s key) (same_change s.end [] (a.history_of key) ∙ ap (last_change b s.end []) (same.history key)) h)

  no_change_by : (n : ℕ) (newer : List Item) → no_change_before a n newer ≡ no_change_before b n newer
  no_change_by n newer = λ i. not (list_any (λ (x : Item). changes_object x && same_ended x.caller n i) newer)

  row_by : (s : FinishedSearch) (r : Row) → IsTrueRowBy a s r → IsTrueRowBy b s r
  row_by s r h =
      record {
        cut = h.cut;
        stands = subst (λ (l : List Item). IsIn h.cut (items_with_newer [] l)) (same.history r.key) h.stands;
        changes = h.changes;
        version = h.version;
        object = h.object;
        match = h.match;
        began = sym (same_began h.cut.item.caller s.end) ∙ h.began;
        newest = sym (no_change_by s.begin h.cut.newer) ∙ h.newest;
      }

  pub true_by : (s : FinishedSearch) → IsSearchTrueBy a s → IsSearchTrueBy b s
  true_by s h = record { rows = λ r i. row_by s r (h.rows r i); in_order = h.in_order }
