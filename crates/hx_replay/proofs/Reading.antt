-- What a text is the script of, by its version; and it is refused as the text of a bundle is.
use Rattle.std.proofs.Common.{◌≡◌, ℕ, Bool, true, false, cond, List, Result, Ok, Err, ap, ◌∙◌}
use Rattle.std.specs.Prelude.{◌==◌}
use Rattle.hx_model.specs.Types.{Script}
use Rattle.hx_script.specs.declared.errors.ScriptError.{ScriptError}
use Rattle.hx_script.specs.BundleTexts.{bundle_by, bundle_of, one_space, read_first, read_second, then_read, version_of}
use Rattle.hx_script.specs.Texts.{script_of}
use Rattle.hx_replay.specs.Texts.{scripted_by, scripted_of}
use Rattle.hx_replay.specs.declared.texts.Scripted.TheVariants.{One, Several}
use Rattle.hx_replay.proofs.Versions.{script_is_of_version_1}

-- ---- one space
pub one_ok : (text : List ℕ) (s : Script) → script_of text ≡ Ok s → scripted_of text ≡ Ok (One s)
one_ok text s h =
    let told : scripted_of text ≡ scripted_by 1 text =
    ap (λ (r : Result ℕ ScriptError). then_read r (λ w. scripted_by w text)) (script_is_of_version_1 text s h) in
    told ∙ ap (λ (q : Result Script ScriptError). then_read q (λ x. Ok (One x))) h

-- ---- refusals
abbrev refused_with : (A : Type 0) → ScriptError → Result A ScriptError
refused_with A e = Err e

same_err : {A B : Type 0} (x e : ScriptError) → refused_with A x ≡ refused_with A e → refused_with B x ≡ refused_with B e
same_err {A} {B} x e h = let same : x ≡ e = cc in ap (refused_with B) same

-- what follows a refusal is refused, and nothing else is
refused_later : {A B : Type 0} (r : Result A ScriptError) (f : A → B) (e : ScriptError) → r ≡ Err e → then_read r (λ x. Ok (f x)) ≡ Err e
refused_later r f e h = ap (λ (q : Result _ ScriptError). then_read q (λ x. Ok (f x))) h

refused_before : {A B : Type 0} (r : Result A ScriptError) (f : A → B) (e : ScriptError) → then_read r (λ x. Ok (f x)) ≡ Err e → r ≡ Err e
refused_before (Ok x) f e h = absurd (cc)
refused_before (Err x) f e h = same_err x e h

module _ (text : List ℕ) (e : ScriptError) where
  as_scripted : (two : Bool) → bundle_of text ≡ Err e → cond two (read_second text) (read_first text) ≡ Err e
      → cond two (then_read (bundle_of text) (λ b. Ok (Several b))) (then_read (script_of text) (λ s. Ok (One s))) ≡ Err e
  as_scripted true whole h = refused_later (bundle_of text) Several e whole
  as_scripted false whole h = refused_later (script_of text) One e (refused_before (script_of text) one_space e h)

  -- a text that no bundle has is that of no script
  pub refused_scripted : bundle_of text ≡ Err e → scripted_of text ≡ Err e
  refused_scripted whole = by (version_of text) whole
    where
      by : (r : Result ℕ ScriptError) → then_read r (λ v. bundle_by v text) ≡ Err e → then_read r (λ v. scripted_by v text) ≡ Err e
      by (Ok v) h = as_scripted (v == 2) whole h
      by (Err x) h = same_err x e h
