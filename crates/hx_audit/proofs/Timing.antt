-- Times of calls: what the account says of them, and the last begin above an item.
use Rattle.std.proofs.Common.{◌≡◌, ℕ, ◌+◌, ◌<◌, ◌≤◌, Bool, true, false, not, ◌||◌, List, ltb, length, get_or, take}
use Rattle.std.proofs.Common.{Option, None, Some, refl, sym, ap, ◌∙◌, inl, inr, arith}
use Rattle.std.specs.List.{list_any}
use Rattle.std.specs.Option.{option_map}
use Rattle.std.proofs.lemmas.Bool.{cases_lt, cond-true, cond-false, false_from_ne_true, false≢true, le-ltb, lt-ltb, ltb-true}
use Rattle.hx_types.specs.Words.{when_some}
use Rattle.hx_model.specs.Types.{Caller}
use Rattle.hx_model.specs.Histories.{CallEnd}
use Rattle.hx_report_lines.specs.declared.blocks.Block.{Block}
use Rattle.hx_report_lines.specs.declared.calls.CallLine.{CallLine}
use Rattle.hx_report_lines.specs.declared.histories.ItemLine.{ItemLine}
use Rattle.hx_audit.specs.Accounts.{began_before, ended_before}
use Rattle.hx_audit.specs.Clauses.{ended_before_begin, is_in_time}
use Rattle.hx_audit.specs.Told.{account_of, call_at, end_told}
use Rattle.hx_audit.specs.Moments.{begin_at, end_at, is_late, later, time_of_end}
use Rattle.hx_audit.proofs.Firsts.{any_more, or_none}

began : (o : Option ℕ) (n : ℕ) → when_some o false (λ m. ltb m n) ≡ is_late o (Some n)
began None n = refl
began (Some m) n = refl

-- the call of a caller began before a time
pub began_is : (b : Block) (c : Caller) (n : ℕ) → began_before (account_of b) c n ≡ is_late (begin_at b c) (Some n)
began_is b c n = began (begin_at b c) n

ended : (o : Option CallLine) (n : ℕ) → when_some (when_some o None end_told) false (λ (e : CallEnd). ltb e.entry n)
    ≡ is_late (when_some o None time_of_end) (Some n)
ended None n = refl
ended (Some l) n = by (end_told l)
  where
    by : (o : Option CallEnd) → when_some o false (λ (e : CallEnd). ltb e.entry n) ≡ is_late (option_map (λ (e : CallEnd). e.entry) o) (Some n)
    by None = refl
    by (Some e) = refl

-- the call of a caller ended before a time
pub ended_is : (b : Block) (c : Caller) (n : ℕ) → ended_before (account_of b) c n ≡ is_late (end_at b c) (Some n)
ended_is b c n = ended (call_at b.calls c) n

-- the same of the call itself, where it is at hand
pub ended_by : (b : Block) (c : Caller) (n : ℕ) (o : Option CallLine) → o ≡ call_at b.calls c
    → is_late (when_some o None time_of_end) (Some n) ≡ ended_before (account_of b) c n
ended_by b c n o e = ap (λ (o : Option CallLine). is_late (when_some o None time_of_end) (Some n)) e ∙ sym (ended_is b c n)

-- what ended before the later of two times ended before one of them
pub late_later : (end m n : Option ℕ) → is_late end (later m n) ≡ (is_late end m || is_late end n)
late_later None m n = refl
late_later (Some e) None n = refl
late_later (Some e) (Some m) None = or_none (ltb e m)
late_later (Some e) (Some m) (Some n) = elim (cases_lt m n) [
  | inl l ↦ ap (is_late (Some e)) (cond-true (ltb m n) (Some n) (Some m) (lt-ltb m n l)) ∙ upper l (ltb e m) refl
  | inr l ↦ ap (is_late (Some e)) (cond-false (ltb m n) (Some n) (Some m) (le-ltb m n l)) ∙ lower l (ltb e m) refl
]
  where
    upper : m < n → (b : Bool) → ltb e m ≡ b → ltb e n ≡ (ltb e m || ltb e n)
    upper l true q = lt-ltb e n (let p = ltb-true e m q in omega (arith, p, l)) ∙ sym (ap (λ b. b || ltb e n) q)
    upper l false q = sym (ap (λ b. b || ltb e n) q)

    lower : n ≤ m → (b : Bool) → ltb e m ≡ b → ltb e m ≡ (ltb e m || ltb e n)
    lower l true q = q ∙ sym (ap (λ b. b || ltb e n) q)
    lower l false q = q ∙ sym (ap (λ b. b || ltb e n) q
        ∙ false_from_ne_true (ltb e n) (λ t. false≢true (sym q ∙ lt-ltb e m (let p = ltb-true e n t in omega (arith, p, l)))))

-- one call ended before another began, by their times
ended_began : (b : Block) (x y : Caller) → ended_before_begin (account_of b) x y ≡ is_late (end_at b x) (begin_at b y)
ended_began b x y = by (end_at b x) (begin_at b y) (λ n. ended_is b x n)
  where
    by : (e o : Option ℕ) → ((n : ℕ) → ended_before (account_of b) x n ≡ is_late e (Some n)) → when_some o false (ended_before (account_of b) x) ≡ is_late e o
    by None None h = refl
    by (Some e) None h = refl
    by None (Some n) h = h n
    by (Some e) (Some n) h = h n

-- an item is in time where its call didn't end before the last begin above it
pub in_time_is : (b : Block) (above : List ItemLine) (x : ItemLine) (latest : Option ℕ)
    → ((end : Option ℕ) → is_late end latest ≡ list_any (λ (y : ItemLine). is_late end (begin_at b y.caller)) above)
    → is_in_time (account_of b) above x ≡ not (is_late (end_at b x.caller) latest)
in_time_is b above x latest h =
    ap not ((λ i. list_any (λ (y : ItemLine). ended_began b x.caller y.caller i) above) ∙ sym (h (end_at b x.caller)))

-- one more begin
pub later_step : (b : Block) (items : List ItemLine) (i : ℕ) (x : ItemLine) → i < length items → x ≡ get_or items i x
    → (latest begin new : Option ℕ) (end : Option ℕ)
    → begin ≡ begin_at b x.caller → new ≡ later latest begin
    → is_late end latest ≡ list_any (λ (y : ItemLine). is_late end (begin_at b y.caller)) (take i items)
    → is_late end new ≡ list_any (λ (y : ItemLine). is_late end (begin_at b y.caller)) (take (i + 1) items)
later_step b items i x l is latest begin new end e n h =
    ap (is_late end) n
    ∙ late_later end latest begin
    ∙ (λ j. h j || is_late end (e j))
    ∙ sym (any_more (λ (y : ItemLine). is_late end (begin_at b y.caller)) items i x l is)
