-- A trace at earlier moments: its begins, ends and posts.
use Rattle.hx_law_lemmas.proofs.Lemmas.Vocabulary.{[], Answer, ap, arith, Caller, Entry, inl, inr, IsPartOf, IsRun, length, List, refl}
use Rattle.hx_law_lemmas.proofs.Lemmas.Vocabulary.{Script, subst, sym, Version, ℕ, ◌∷◌, ◌≡◌, ◌≤◌}
use Rattle.hx_law_lemmas.proofs.Lemmas.{BeganAt, EndedAt}

-- a part of a run is a run
pub part-run : (script : Script) (s t : List Entry) → IsPartOf s t → IsRun script t → IsRun script s
part-run script s [] p run = subst (IsRun script) (sym p) run
part-run script s (x ∷ older) (inl e) run = subst (IsRun script) (sym e) run
part-run script s (x ∷ older) (inr p) run = part-run script s older p run.1

-- and no longer
pub part-length : (s t : List Entry) → IsPartOf s t → length s ≤ length t
part-length s [] p = let e = ap (λ (l : List Entry). length l) p in omega (arith, e)
part-length s (x ∷ older) (inl p) = let e = ap (λ (l : List Entry). length l) p in omega (arith, e)
part-length s (x ∷ older) (inr p) = let l = part-length s older p in omega (arith, l)

-- before its last entry a part is one too
pub part-before : (x : Entry) (s t : List Entry) → IsPartOf (x ∷ s) t → IsPartOf s t
part-before x s [] p = absurd (let e = ap (λ (l : List Entry). length l) p in omega (arith, e))
part-before x s (y ∷ older) (inl p) = inr (subst (IsPartOf s) (rest p) (self s))
  where
    rest : x ∷ s ≡ y ∷ older → s ≡ older
    rest e = cc

    self : (l : List Entry) → IsPartOf l l
    self [] = refl
    self (z ∷ zs) = inl refl
part-before x s (y ∷ older) (inr p) = inr (part-before x s older p)

-- a call that began in a part began
pub part-began : (s t : List Entry) → IsPartOf s t → (c : Caller) (n : ℕ) → BeganAt s c n → BeganAt t c n
part-began s [] p c n b = subst (λ (l : List Entry). BeganAt l c n) p b
part-began s (x ∷ older) (inl p) c n b = subst (λ (l : List Entry). BeganAt l c n) p b
part-began s (x ∷ older) (inr p) c n b = inr (part-began s older p c n b)

-- a call that ended by the length of a part ended in it
pub ended-part : (s t : List Entry) → IsPartOf s t → (c : Caller) (v : Version) (a : Answer) (n : ℕ) → EndedAt t c v a n → n ≤ length s → EndedAt s c v a n
ended-part s [] p c v a n e l = absurd e
ended-part s (x ∷ older) (inl p) c v a n e l = subst (λ (k : List Entry). EndedAt k c v a n) (sym p) e
ended-part s (x ∷ older) (inr p) c v a n (inl e) l = absurd (let b = part-length s older p in omega (arith, b, l, e.2))
ended-part s (x ∷ older) (inr p) c v a n (inr e) l = ended-part s older p c v a n e l
