-- The receipt that is found for a call.
use Rattle.std.proofs.Common.{◌≡◌, ℕ, zero, suc, ◌-◌, Bool, true, false, ◌&&◌, List, [], ◌∷◌, length, map, cond}
use Rattle.std.proofs.Common.{Option, Some, None, refl, sym, ap, ◌∙◌, subst, arith, eqb, inl, inr}
use Rattle.std.specs.Prelude.{drop, slice_get, take, ◌≤◌}
use Rattle.std.proofs.Math.Seq.{take-length}
use Rattle.std.specs.List.{find}
use Rattle.std.proofs.lemmas.Bool.{and_from, and_parts, cond_both, eq-eqb, eqb-true, true≢false}
use Rattle.hx_model.specs.Types.{Answer, Caller, Entry, Script, Version}
use Rattle.hx_types.specs.Words.{IsIn}
use Rattle.hx_law_lemmas.proofs.Lemmas.{in-find, in-map, in-slice_get, map-in}
use Rattle.hx_model.specs.Histories.{CallEnd, note_of_end}
use Rattle.hx_model.specs.Runs.{IsRun}
use Rattle.hx_service.specs.declared.receipts.Booked.{Booked}
use Rattle.hx_service.specs.declared.receipts.Receipt.{Receipt}
use Rattle.hx_service.specs.Booking.{booked_as, is_of}
use Rattle.std.specs.Option.{option_map}
use Rattle.hx_service.specs.Reading.{AreReceipts, IsNoted}
use Rattle.hx_service.proofs.Answered.{mapped}
use Rattle.hx_service.specs.Receipts.{receipts_of}
use Rattle.hx_service.proofs.Booked.{runs_are_booked}

-- what is found passes
found-passes : (test : Booked → Bool) (xs : List Booked) (b : Booked) → find test xs ≡ Some b → test b ≡ true
found-passes test [] b = λ e. absurd (cc)
found-passes test (x ∷ xs) b =
    cond_both (test x) (Some x) (find test xs) (λ (o : Option Booked). o ≡ Some b → test b ≡ true)
    (λ t e. let q : x ≡ b = cc in sym (ap test q) ∙ t) (λ t e. found-passes test xs b e)

-- where none is found none passes
none-passes : (test : Booked → Bool) (xs : List Booked) → find test xs ≡ None → (b : Booked) → IsIn b xs → test b ≡ true → ⊥
none-passes test [] e b i p = i
none-passes test (x ∷ xs) e b i p = by (test x) refl i e (λ k j. none-passes test xs k b j p)
  where
    by : (t : Bool) → test x ≡ t → IsIn b (x ∷ xs) → cond t (Some x) (find test xs) ≡ None → (find test xs ≡ None → IsIn b xs → ⊥) → ⊥
    by true f j k g = cc
    by false f (inl q) k g = true≢false (sym p ∙ ap test q ∙ f)
    by false f (inr j) k g = g k j

-- the rest of a list as a slice gives it
take-all : {A : Type 0} (n : ℕ) (xs : List A) → n ≡ length xs → take n xs ≡ xs
take-all n xs e = ap (λ (k : ℕ). take k xs) e ∙ take-length xs

drop-long : {A : Type 0} (n : ℕ) (xs : List A) → length xs - n ≡ length (drop n xs)
drop-long zero xs = omega arith
drop-long (suc n) [] = omega arith
drop-long (suc n) (x ∷ xs) = let q : length xs - n ≡ length (drop n xs) = drop-long n xs in omega (arith, q)

pub rest-of : {A : Type 0} (xs : List A) (n : ℕ) → take (length xs - n) (drop n xs) ≡ drop n xs
rest-of xs n = take-all (length xs - n) (drop n xs) (drop-long n xs)

drop-map : {A B : Type 0} (f : A → B) (n : ℕ) (xs : List A) → drop n (map f xs) ≡ map f (drop n xs)
drop-map f zero xs = refl
drop-map f (suc n) [] = refl
drop-map f (suc n) (x ∷ xs) = drop-map f n xs

in-drop : {A : Type 0} (n : ℕ) (xs : List A) (x : A) → IsIn x (drop n xs) → IsIn x xs
in-drop zero xs x i = i
in-drop (suc n) [] x i = i
in-drop (suc n) (y ∷ xs) x i = inr (in-drop n xs x i)

-- the test means the call
of-call : (c d : Caller) → eqb d.session.0 c.session.0 && eqb d.number c.number ≡ true → d ≡ c
of-call c d e =
    let p = and_parts (eqb d.session.0 c.session.0) (eqb d.number c.number) e in
    let s = eqb-true d.session.0 c.session.0 p.0 in
    let n = eqb-true d.number c.number p.1 in
    λ i. record { session = record { 0 = s i }; number = n i }

module _ (script : Script) (trace : List Entry) (run : IsRun script trace) (booked : List Booked)
    (booked_is : booked ≡ map booked_as (receipts_of trace)) (n : ℕ)
    (later : List Booked) (later_is : later ≡ drop n booked) (c : Caller) where
  laters : later ≡ map booked_as (drop n (receipts_of trace))
  laters = later_is ∙ ap (drop n) booked_is ∙ drop-map booked_as n (receipts_of trace)

  -- whose it is
  pub record Found (b : Booked) : Type 0 where
    pub receipt : Receipt
    pub among : IsIn receipt (drop n (receipts_of trace))
    pub booked_so : b ≡ booked_as receipt
    pub caller : b.caller ≡ c
    pub ended : note_of_end receipt.caller trace ≡ Some (record { entry = receipt.end; version = receipt.version; answer = receipt.answer })

  pub found : (b : Booked) → find (is_of c) later ≡ Some b → Found b
  found b e =
      let i = in-map booked_as (drop n (receipts_of trace)) b (subst (IsIn b) laters (in-find (is_of c) later b e)) in
      record {
        receipt = i.0;
        among = i.1;
        booked_so = i.2;
        caller = of-call c b.caller (found-passes (is_of c) later b e);
        ended = ((runs_are_booked script trace run).each i.0 (in-drop n (receipts_of trace) i.0 i.1)).ended;
      }

  pub noted : (b : Booked) → Found b → IsNoted trace b
  noted b f = subst (IsNoted trace) (sym f.booked_so) (record { version = f.receipt.version; answer = f.receipt.answer; ended = f.ended })

  pub none-found : find (is_of c) later ≡ None → (r : Receipt) → IsIn r (drop n (receipts_of trace)) → r.caller ≡ c → ⊥
  none-found e r i q =
      none-passes (is_of c) later e (booked_as r) (subst (IsIn (booked_as r)) (sym laters) (map-in booked_as (drop n (receipts_of trace)) r i))
      (and_from (eqb r.caller.session.0 c.session.0) (eqb r.caller.number c.number)
      (eq-eqb r.caller.session.0 c.session.0 (ap (λ (d : Caller). d.session.0) q)) (eq-eqb r.caller.number c.number (ap (λ (d : Caller). d.number) q)))

  -- what is read so is that receipt
  pub read-is : (b : Booked) → Found b → (caller : Caller) (begin end : ℕ) (v : Version) (a : Answer) → caller ≡ b.caller → begin ≡ b.begin → end ≡ b.end
      → note_of_end b.caller trace ≡ Some (record { entry = b.end; version = v; answer = a })
      → IsIn (record { caller = caller; begin = begin; end = end; version = v; answer = a }) (drop n (receipts_of trace)) × (caller ≡ c)
  read-is b f caller begin end v a e g h noted =
      let same : Some (record { entry = b.end; version = v; answer = a })
      ≡ Some (record { entry = f.receipt.end; version = f.receipt.version; answer = f.receipt.answer })
      = sym noted ∙ ap (λ (d : Booked). note_of_end d.caller trace) f.booked_so ∙ f.ended in
      let p : (record { entry = b.end; version = v; answer = a }) ≡ record {
        entry = f.receipt.end;
        version = f.receipt.version;
        answer = f.receipt.answer;
      } = cc in
      let vs : v ≡ f.receipt.version = ap (λ (d : CallEnd). d.version) p in
      let answers : a ≡ f.receipt.answer = ap (λ (d : CallEnd). d.answer) p in
      let cs : caller ≡ f.receipt.caller = e ∙ ap (λ (d : Booked). d.caller) f.booked_so in
      let bs : begin ≡ f.receipt.begin = g ∙ ap (λ (d : Booked). d.begin) f.booked_so in
      let es : end ≡ f.receipt.end = h ∙ ap (λ (d : Booked). d.end) f.booked_so in
      let r : f.receipt ≡ record { caller = caller; begin = begin; end = end; version = v; answer = a }
      = λ i. record { caller = sym cs i; begin = sym bs i; end = sym es i; version = sym vs i; answer = sym answers i } in
      (subst (λ (x : Receipt). IsIn x (drop n (receipts_of trace))) r f.among, e ∙ f.caller)

-- an item of a map
map-at : {A B : Type 0} (f : A → B) (xs : List A) (i : ℕ) → slice_get (map f xs) i ≡ option_map f (slice_get xs i)
map-at f [] i = refl
map-at f (x ∷ xs) zero = refl
map-at f (x ∷ xs) (suc i) = map-at f xs i

past : {A : Type 0} (xs : List A) (i : ℕ) → length xs ≤ i → slice_get xs i ≡ None
past [] i le = refl
past (x ∷ xs) zero le = absurd (omega (arith, le))
past (x ∷ xs) (suc i) le = past xs i (omega (arith, le))

-- the receipt that is booked at a place
pub record Placed (trace : List Entry) (place : ℕ) (b : Booked) : Type 0 where
  pub receipt : Receipt
  pub stands : slice_get (receipts_of trace) place ≡ Some receipt
  pub booked_so : b ≡ booked_as receipt
  pub ended : note_of_end receipt.caller trace ≡ Some (record { entry = receipt.end; version = receipt.version; answer = receipt.answer })

pub placed : (trace : List Entry) (booked : List Booked) → AreReceipts trace booked → (place : ℕ) (b : Booked)
    → slice_get booked place ≡ Some b → Placed trace place b
placed trace booked a place b e = by (slice_get (receipts_of trace) place) refl
  where
    brought : option_map booked_as (slice_get (receipts_of trace) place) ≡ Some b
    brought = sym (map-at booked_as (receipts_of trace) place) ∙ ap (λ (l : List Booked). slice_get l place) (sym a.booked_is) ∙ e

    by : (o : Option Receipt) → slice_get (receipts_of trace) place ≡ o → Placed trace place b
    by None f = absurd (let q : None ≡ Some b = sym (ap (option_map booked_as) f) ∙ brought in cc)
    by (Some r) f =
        let q : Some (booked_as r) ≡ Some b = sym (ap (option_map booked_as) f) ∙ brought in
        let same : booked_as r ≡ b = cc in
        record { receipt = r; stands = f; booked_so = sym same; ended = (a.each r (in-slice_get (receipts_of trace) place r f)).ended }

pub noted-at : (trace : List Entry) (place : ℕ) (b : Booked) → Placed trace place b → IsNoted trace b
noted-at trace place b p = subst (IsNoted trace) (sym p.booked_so) (record { version = p.receipt.version; answer = p.receipt.answer; ended = p.ended })

-- what is read so is that receipt
pub read-at : (trace : List Entry) (place : ℕ) (b : Booked) → Placed trace place b → (caller : Caller) (begin end : ℕ) (v : Version) (a : Answer)
    → caller ≡ b.caller → begin ≡ b.begin → end ≡ b.end → note_of_end b.caller trace ≡ Some (record { entry = b.end; version = v; answer = a })
    → Some (record { caller = caller; begin = begin; end = end; version = v; answer = a }) ≡ slice_get (receipts_of trace) place
read-at trace place b p caller begin end v a e g h noted =
    let r = p.receipt in
    let same : Some (record { entry = b.end; version = v; answer = a }) ≡ Some (record { entry = r.end; version = r.version; answer = r.answer })
    = sym noted ∙ ap (λ (d : Booked). note_of_end d.caller trace) p.booked_so ∙ p.ended in
    let q : (record { entry = b.end; version = v; answer = a }) ≡ record { entry = r.end; version = r.version; answer = r.answer } = cc in
    let vs : v ≡ r.version = ap (λ (d : CallEnd). d.version) q in
    let answers : a ≡ r.answer = ap (λ (d : CallEnd). d.answer) q in
    let cs : caller ≡ r.caller = e ∙ ap (λ (d : Booked). d.caller) p.booked_so in
    let bs : begin ≡ r.begin = g ∙ ap (λ (d : Booked). d.begin) p.booked_so in
    let es : end ≡ r.end = h ∙ ap (λ (d : Booked). d.end) p.booked_so in
    let t : record { caller = caller; begin = begin; end = end; version = v; answer = a } ≡ r
    = λ i. record { caller = cs i; begin = bs i; end = es i; version = vs i; answer = answers i } in
    ap (λ (x : Receipt). Some x) t ∙ sym p.stands

-- past the end there is none
pub none-at : (trace : List Entry) (booked : List Booked) → AreReceipts trace booked → (place : ℕ)
    → length booked ≤ place → None ≡ slice_get (receipts_of trace) place
none-at trace booked a place le =
    let q : length booked ≡ length (receipts_of trace) = ap length a.booked_is ∙ mapped booked_as (receipts_of trace) in
    sym (past (receipts_of trace) place (omega (arith, q, le)))
