-- The two facts of replies that the law on causes rests on, in every run: a doubt was told by its
-- key's leader, and a refused write's version names the first lost place of its effect.
use Rattle.hx_law_lemmas.proofs.Lemmas.Vocabulary.{[], ap, arith, call_of, Caller, Config, effect_of, Entry, Epoch, false≢true, first_lost, inl, inr, is_lost}
use Rattle.hx_law_lemmas.proofs.Lemmas.Vocabulary.{is_refused, is_write, IsIn, IsRun, IsScript, key_of, length, line_object, line_of, List, Op, places_of, post}
use Rattle.hx_law_lemmas.proofs.Lemmas.Vocabulary.{refused_place, RegionId, Script, Session, Some, subst, sym, top_above, touches_after, true, Update, upto}
use Rattle.hx_law_lemmas.proofs.Lemmas.Vocabulary.{Version, ℕ, ◌-◌, ◌∙◌, ◌∷◌, ◌≡◌, ◌≢◌}
use Rattle.hx_types.specs.declared.calls.Answer.TheVariants as an_answer
use Rattle.hx_types.specs.declared.messages.Message.TheVariants as a_message
use Rattle.hx_law_lemmas.proofs.Lemmas.{effect_well, numbered-within as in-below, upto_past, top-numbered, upto_all}
use Rattle.hx_law_epochs.proofs.Lemmas.{IsKnown}
use Rattle.hx_law_chains.proofs.Lemmas.{lost-place, doubts-told, chained-run, scene, world, Law, Lawful, Told, lawful-numbered}
use Rattle.hx_law_causes.proofs.Law.{DoubtsAreTold, RefusalsAreNamed}

-- an update where it stands: the older ones are those up to the version before it
record StandsAt (script : Script) (known : Config → Type 0) (key : List ℕ) (line : List Update) (w : Update) : Type 0 where
  pub older : List Update
  pub law : Law script known key older w
  pub before : upto (w.version.0 - 1) line ≡ older
  pub top : top_above 0 older ≡ length older

stands : (script : Script) (known : Config → Type 0) (key : List ℕ) (line : List Update) (w : Update)
    → Lawful script known key line → IsIn w line → StandsAt script known key line w
stands script known key [] w h i = absurd i
stands script known key (u ∷ us) w h (inl e) =
    let n = top-numbered us (lawful-numbered script known key us h.1) in
    let v = h.0.made.version in
    subst (λ (x : Update). StandsAt script known key (u ∷ us) x) (sym e) (record {
      older = us;
      law = h.0;
      before = upto_past (u.version.0 - 1) u us (omega (arith, v)) ∙ upto_all us (u.version.0 - 1) (omega (arith, v, n));
      top = n;
    })
stands script known key (u ∷ us) w h (inr i) =
    let r = stands script known key us w h.1 i in
    let v = h.0.made.version in
    let b = in-below us w (lawful-numbered script known key us h.1) i in
    record {
      older = r.older;
      law = r.law;
      before = upto_past (w.version.0 - 1) u us (let lo = b.0 in let hi = b.1 in omega (arith, v, lo, hi)) ∙ r.before;
      top = r.top;
    }

module _ (script : Script) (valid : IsScript script) where
  -- a doubt was told by its leader
  pub doubts-are-told : DoubtsAreTold script
  doubts-are-told call same run from g epoch j op key called on_key =
      let d = doubts-told call (subst IsScript (sym same) valid)
      (subst (λ (s : Script). IsRun s call.older) (sym same) run) from g epoch j op key
      (subst (λ (s : Script). call_of s call.caller ≡ Some op) (sym same) called) on_key in
      (d.told, (d.config, subst (λ (s : Script). IsKnown s call.older d.config) same d.known, d.epoch_is, d.lost))

  -- what a refused update names
  module _ (older : List Entry) (run : IsRun script older) (c : Caller) (v : Version) (g : RegionId) (epoch : Epoch)
      (op : Op) (key : List ℕ) (called : call_of script c ≡ Some op) (on_key : key_of op ≡ Some key) where
    -- what is named
    abbrev Named : Type 0
    Named = (config : Config) × IsKnown script older config × (config.epoch ≡ epoch) × (is_lost config g ≡ true)
        × (v.0 ≢ 0) × (refused_place script.space config key op (upto (v.0 - 1) (line_of key older)) ≡ Some g)

    -- by its place
    by-place : (u : Update) → u.version ≡ v → u.answer ≡ an_answer.Refused g epoch
        → (s : StandsAt script (IsKnown script older) key (line_of key older) u) → s.law.op ≡ op → Named
    by-place u version answer s same = elim s.law.effect [
      | inl e ↦ absurd (false≢true (sym (effect_well script.space (line_object s.older) s.law.op) ∙ ap is_refused (sym e.0 ∙ answer)))
      | inr (o, (h, config, known, is, place)) ↦
          (let a : an_answer.Refused h config.epoch ≡ an_answer.Refused g epoch = sym is ∙ answer in
          let region : h ≡ g = cc in
          let of : config.epoch ≡ epoch = cc in
          let named : first_lost config (places_of script.space key (line_object s.older)
          (effect_of script.space (line_object s.older) op).object
          (effect_of script.space (line_object s.older) op).changes (top_above 0 s.older)
          (touches_after [] s.older)) ≡ Some g =
          ap (λ n. first_lost config (places_of script.space key (line_object s.older)
          (effect_of script.space (line_object s.older) op).object
          (effect_of script.space (line_object s.older) op).changes n (touches_after [] s.older))) s.top
          ∙ subst (λ (x : Op). first_lost config (places_of script.space key (line_object s.older)
          (effect_of script.space (line_object s.older) x).object
          (effect_of script.space (line_object s.older) x).changes (length s.older) (touches_after [] s.older))
          ≡ Some h) same place
          ∙ ap Some region in
          let some : v.0 ≢ 0 = (λ z. (let m = s.law.made.version in let q = ap (λ (x : Version). x.0) version in omega (arith, m, q, z))) in
          let l = lost-place config (places_of script.space key (line_object s.older)
          (effect_of script.space (line_object s.older) op).object
          (effect_of script.space (line_object s.older) op).changes (top_above 0 s.older)
          (touches_after [] s.older)) g named in (
            config,
            known,
            of,
            l.3,
            some,
            subst (λ n. refused_place script.space config key op (upto (n - 1) (line_of key older)) ≡ Some g) (ap (λ (x : Version). x.0) version)
                (ap (refused_place script.space config key op) s.before ∙ named),
          ))
    ]

    -- by what the reply tells
    by-told : is_write op ≡ true → Told script (world (scene script older)) key c v (an_answer.Refused g epoch) op → Named
    by-told writes (inl h) = absurd (false≢true h.1)
    by-told writes (inr (inr h)) = absurd (false≢true (sym h.0 ∙ writes))
    by-told writes (inr (inl h)) =
        let (w, (u, there, caller, version, answer), along) = h in
        let s = stands script (IsKnown script older) key (line_of key older) u ((chained-run script valid older run).keyed key).lawful there in
        let e : Some s.law.op ≡ Some op = sym s.law.called ∙ ap (call_of script) caller ∙ called in
        by-place u version answer s (cc)

  -- a refused write names its place
  pub refusals-are-named : RefusalsAreNamed script
  refusals-are-named older run from c v g epoch j op key called on_key writes =
      by-told older run c v g epoch op key called on_key writes
      ((chained-run script valid older run).valid (post from (Session c.session)
      (a_message.Reply c.number v (an_answer.Refused g epoch))) j op key called on_key)
