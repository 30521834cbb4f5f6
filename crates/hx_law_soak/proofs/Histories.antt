-- A finished soak: each turn's call has ended, each key's history is its session's calls in order,
-- and so what the map of the calls taken one after the other has.
use Rattle.hx_law_lemmas.proofs.Lemmas.Vocabulary.{[], add-one, ap, arith, begin_of, below, call_of, CallEnd, Caller, calls_of, cases_Bool, cond, cond-false}
use Rattle.hx_law_lemmas.proofs.Lemmas.Vocabulary.{cond_both, effect_of, end_of, Entry, eq_of_same_text, Facts, false, false≢true, fold, fold_push, history_of}
use Rattle.hx_law_lemmas.proofs.Lemmas.Vocabulary.{inl, inr, is_administrative, is_doubt, is_refused, is_rows, IsBefore, IsEffect, IsIn, IsLinear, IsScript}
use Rattle.hx_law_lemmas.proofs.Lemmas.Vocabulary.{IsSome, Item, key_of, List, lt-ltb, map-append, nat_lt, None, note_of_end, numbered, object_now, Op, Option}
use Rattle.hx_law_lemmas.proofs.Lemmas.Vocabulary.{refl, same_text, Script, SessionId, Some, subst, suc, sym, true, Value, when_some, zero, ℕ, ◌%◌, ◌+◌, ◌/◌}
use Rattle.hx_law_lemmas.proofs.Lemmas.Vocabulary.{◌<◌, ◌==◌, ◌^◌, ◌∙◌, ◌∷◌, ◌≡◌, ◌≢◌, ◌≤◌}
use Rattle.hx_law_lemmas.proofs.Lemmas.{in-slice_get, BeganAt, EndedAt, began_at, begin_is, ended_at}
use Rattle.hx_law_searches.proofs.Lemmas.{facts, runs_are_linear}
use Rattle.hx_soak.specs.Calling.{call_of_kind}
use Rattle.hx_soak.specs.Drawing.{draw_of}
use Rattle.hx_soak.specs.Soaking.{script_drawn, session_at, soak}
use Rattle.hx_soak.proofs.Lemmas.{is_script, keys_are_owned}
use Rattle.hx_soak.specs.Tallying.{Tally}
use Rattle.hx_law_soak.specs.Sequence.{no_calls, object_at, op_at, ops_drawn, taken, tally_in_order, with_effect, with_search}
use Rattle.hx_law_soak.specs.Soaks.{IsSoak}
use Rattle.hx_law_soak.proofs.Cutting.{Descends, cut_below, cut-all, cut-more, cut-none, cut-other, descending}
use Rattle.hx_law_soak.proofs.Given.{answers-plain}
use Rattle.hx_law_soak.proofs.Maps.{IsMap, put-at, put-map, put-other, text-same}
use Rattle.hx_law_soak.proofs.Quiet.{NoneAdministers}
use Rattle.hx_law_soak.proofs.Times.{ended_began, ends_before}
use Rattle.hx_law_soak.proofs.Turns.{caller_at, called-at, rank, rank-at, turn-of}

-- a call that is drawn asks for no configuration
drawn-plain : (kind session draw : ℕ) → is_administrative (call_of_kind kind session draw) ≡ false
drawn-plain kind session draw =
    cond_both (nat_lt kind 4) _ _ (λ (op : Op). is_administrative op ≡ false) (λ t. refl)
    (
    λ t. cond_both (kind == 4) _ _ (λ (op : Op). is_administrative op ≡ false) (λ u. refl)
    (
    λ u. cond_both (kind == 5) _ _ (λ (op : Op). is_administrative op ≡ false) (λ v. refl)
    (λ v. cond_both (kind == 6) _ _ (λ (op : Op). is_administrative op ≡ false) (λ w. refl) (λ w. refl))
    )
    )

pub none-administers : (seed calls : ℕ) → NoneAdministers (script_drawn seed calls)
none-administers seed calls c op e =
    let r = turn-of seed calls c op e in
    ap is_administrative r.op_is ∙ drawn-plain ((draw_of seed r.turn / 2 ^ 8) % 8) (session_at r.turn) (draw_of seed r.turn)

-- an option that has a value
some-of : {A : Type 0} (o : Option A) → IsSome o → (x : A) × (o ≡ Some x)
some-of None h = absurd (false≢true h)
some-of (Some x) h = (x, refl)

-- a call of a session is among its calls
call-in : (ops : List Op) (n : ℕ) (op : Op) → numbered ops n ≡ Some op → IsIn op ops
call-in ops zero op e = absurd (cc)
call-in ops (suc n) op e = in-slice_get ops n op e

module _ (seed calls : ℕ) (trace : List Entry) (finished : IsSoak seed calls trace) where
  abbrev pub script : Script
  script = script_drawn seed calls

  pub valid : IsScript script
  valid = is_script seed calls finished.few

  known : Facts script
  known = facts script valid

  -- how a turn's call ended
  pub record Ended (turn : ℕ) : Type 0 where
    pub end : CallEnd
    pub noted : note_of_end (caller_at turn) trace ≡ Some end
    pub ended : end_of (caller_at turn) trace ≡ Some end
    pub at : EndedAt trace (caller_at turn) end.version end.answer end.entry
    pub begin : ℕ
    pub began : begin_of (caller_at turn) trace ≡ Some begin
    pub not_refused : is_refused end.answer ≡ false
    pub rows : key_of (op_at seed turn) ≡ None → is_rows end.answer ≡ true

  -- each has
  pub ended-at : (turn : ℕ) → turn < calls → Ended turn
  ended-at turn l =
      let c = caller_at turn in
      let called = called-at seed calls turn l in
      let note = some-of (note_of_end c trace) (finished.ended c (subst IsSome (sym called) refl)) in
      let at = ended_at c trace note.0 note.1 in
      let first = ended_began script known trace finished.run c note.0.version note.0.answer note.0.entry at in
      let begin = some-of (begin_of c trace) (begin_is c trace first.0 first.1) in
      let plain = answers-plain script valid (none-administers seed calls) trace finished.run finished.no_halts c
      (op_at seed turn) called begin.0 begin.1 note.0.version note.0.answer note.0.entry at in
      record {
        end = note.0;
        noted = note.1;
        ended = ap (λ (o : Option CallEnd). when_some o None
            (λ (e : CallEnd). cond (is_doubt e.answer) None (Some e))) note.1
            ∙ cond-false (is_doubt note.0.answer) None (Some note.0) plain.not_doubt;
        at = at;
        begin = begin.0;
        began = begin.1;
        not_refused = plain.not_refused;
        rows = plain.rows;
      }

  module _ (key : List ℕ) where
    abbrev pub history : List Item
    history = history_of script key trace

    linear : IsLinear script trace key
    linear = runs_are_linear script valid trace finished.run key

    -- the turn of an item
    pub record Stands (x : Item) : Type 0 where
      pub turn : ℕ
      pub below : turn < calls
      pub caller : x.caller ≡ caller_at turn
      pub op_is : x.op ≡ op_at seed turn
      pub on_key : key_of (op_at seed turn) ≡ Some key

    pub stands : (x : Item) → IsIn x history → Stands x
    stands x i =
        let h = linear.honest.calls x i in
        let r = turn-of seed calls x.caller x.op h.called in
        record { turn = r.turn; below = r.below; caller = r.caller; op_is = r.op_is; on_key = ap key_of (sym r.op_is) ∙ h.on_key }

    pub item-rank : (x : Item) (i : IsIn x history) → rank x.caller ≡ (stands x i).turn + 5
    item-rank x i = ap rank (stands x i).caller ∙ rank-at (stands x i).turn

    -- two items are of one session
    one-session : (x y : Item) → IsIn x history → IsIn y history → x.caller.session ≡ y.caller.session
    one-session x y i j =
        let h = linear.honest.calls x i in
        let g = linear.honest.calls y j in
        keys_are_owned seed calls x.caller.session y.caller.session key
        (record { op = x.op; called = call-in (calls_of script x.caller.session) x.caller.number x.op h.called; of_key = h.on_key })
        (record { op = y.op; called = call-in (calls_of script y.caller.session) y.caller.number y.op g.called; of_key = g.on_key })

    same-caller : (x y : Item) → IsIn x history → IsIn y history → rank x.caller ≡ rank y.caller → x.caller ≡ y.caller
    same-caller x y i j e =
        let s = stands x i in
        let t = stands y j in
        let a = item-rank x i in
        let b = item-rank y j in
        let same : s.turn ≡ t.turn = omega (arith, a, b, e) in
        s.caller ∙ ap caller_at same ∙ sym t.caller

    -- the later of two turns stands above the earlier
    later-above : (x y : Item) → IsIn x history → IsIn y history → rank x.caller < rank y.caller → IsBefore y x history
    later-above x y i j l =
        let s = stands x i in
        let t = stands y j in
        let u = one-session x y i j in
        let session : x.caller.session.0 ≡ y.caller.session.0 = ap (λ (v : SessionId). v.0) u in
        let lower : x.caller.number < y.caller.number = omega (arith, l, session) in
        let e = ended-at s.turn s.below in
        let b = ended-at t.turn t.below in
        let at : EndedAt trace x.caller e.end.version e.end.answer e.end.entry =
        subst (λ (c : Caller). EndedAt trace c e.end.version e.end.answer e.end.entry) (sym s.caller) e.at in
        let began : begin_of y.caller trace ≡ Some b.begin = subst (λ (c : Caller). begin_of c trace ≡ Some b.begin) (sym t.caller) b.began in
        let same : y.caller ≡ record { session = x.caller.session; number = y.caller.number } = (λ k. record { session = sym u k; number = y.caller.number }) in
        let first = ends_before script known trace finished.run x.caller y.caller.number lower e.end.version e.end.answer e.end.entry b.begin at
        (subst (λ (c : Caller). BeganAt trace c b.begin) same (began_at y.caller trace b.begin began)) in
        let ended : end_of x.caller trace ≡ Some e.end = subst (λ (c : Caller). end_of c trace ≡ Some e.end) (sym s.caller) e.ended in
        linear.in_order x y b.begin i j began (ap (λ (o : Option CallEnd). when_some o false
        (λ (z : CallEnd). nat_lt z.entry b.begin)) ended ∙ lt-ltb e.end.entry b.begin first)

    pub descends : Descends history
    descends = descending history linear.honest.once same-caller later-above

    -- a turn's call on the key stands in the history, as the effect on the object of the turns before
    pub record Taken (turn : ℕ) : Type 0 where
      pub item : Item
      pub cut : cut_below (turn + 1) history ≡ item ∷ cut_below turn history
      pub effect : IsEffect soak (object_now (cut_below turn history)) item
      pub op_is : item.op ≡ op_at seed turn

    pub takes : (turn : ℕ) (l : turn < calls) → key_of (op_at seed turn) ≡ Some key → (t : Taken turn) × (t.item.answer ≡ (ended-at turn l).end.answer)
    takes turn l on =
        let e = ended-at turn l in
        let r = linear.answered_once (caller_at turn) e.end.answer (record {
          op = op_at seed turn;
          called = called-at seed calls turn l;
          on_key = on;
          entry = e.end.entry;
          version = e.end.version;
          ended = e.ended;
          not_refused = e.not_refused;
        }) in
        let m = cut-more soak turn history descends linear.legal r.0 r.1 (ap rank r.2 ∙ rank-at turn) in
        let same : Some r.0.op ≡ Some (op_at seed turn) = sym (linear.honest.calls r.0 r.1).called ∙ ap (call_of script) r.2 ∙ called-at seed calls turn l in
        let op-is : r.0.op ≡ op_at seed turn = cc in
        (record { item = r.0; cut = m.0; effect = m.1; op_is = op-is }, r.3)

    -- another turn leaves it
    pub leaves : (turn : ℕ) → key_of (op_at seed turn) ≢ Some key → cut_below (turn + 1) history ≡ cut_below turn history
    leaves turn other = cut-other turn history (λ x i e. (let s = stands x i in let r = item-rank x i in
        let same : s.turn ≡ turn = omega (arith, r, e) in
        other (ap (λ t. key_of (op_at seed t)) (sym same) ∙ s.on_key)))

    pub cut-start : cut_below 0 history ≡ []
    cut-start = cut-none 0 history (λ x i. let r = item-rank x i in omega (arith, r))

    pub cut-end : cut_below calls history ≡ history
    cut-end = cut-all calls history (λ x i. let r = item-rank x i in let b = (stands x i).below in omega (arith, r, b))

  -- ---- the map of the calls taken one after the other

  abbrev pub tally : ℕ → Tally
  tally turn = tally_in_order seed turn

  -- one more call
  pub one-more : (turn : ℕ) → tally (turn + 1) ≡ taken soak (tally turn) (op_at seed turn)
  one-more turn =
      ap tally (add-one turn)
      ∙ ap (λ (ops : List Op). fold (taken soak) no_calls ops) (map-append (op_at seed) (below turn) (turn ∷ []))
      ∙ fold_push (taken soak) no_calls (ops_drawn seed turn) (op_at seed turn)

  -- a search leaves the map; a call on a key puts what its effect is
  pub objects-searched : (t : Tally) (op : Op) → key_of op ≡ None → taken soak t op ≡ with_search t
  objects-searched t op e = ap (λ (o : Option (List ℕ)). when_some o (with_search t)
      (λ (key : List ℕ). with_effect t key (effect_of soak (object_at key t.objects) op))) e

  pub objects-put : (t : Tally) (op : Op) (key : List ℕ) → key_of op ≡ Some key
      → taken soak t op ≡ with_effect t key (effect_of soak (object_at key t.objects) op)
  objects-put t op key e = ap (λ (o : Option (List ℕ)). when_some o (with_search t)
      (λ (key : List ℕ). with_effect t key (effect_of soak (object_at key t.objects) op))) e

  -- it is one
  pub is-map : (turn : ℕ) → IsMap (tally turn).objects
  is-map zero = tt
  is-map (suc turn) = subst (λ (t : Tally). IsMap t.objects) (sym (ap tally (sym (add-one turn)) ∙ one-more turn))
      (by (key_of (op_at seed turn)) refl (is-map turn))
    where
      by : (o : Option (List ℕ)) → key_of (op_at seed turn) ≡ o → IsMap (tally turn).objects → IsMap (taken soak (tally turn) (op_at seed turn)).objects
      by None e m = subst (λ (t : Tally). IsMap t.objects) (sym (objects-searched (tally turn) (op_at seed turn) e)) m
      by (Some key) e m = subst (λ (t : Tally). IsMap t.objects)
          (sym (objects-put (tally turn) (op_at seed turn) key e))
          (put-map key (effect_of soak (object_at key (tally turn).objects) (op_at seed turn)).object (tally turn).objects m)

  -- each key has the object of its history before a turn
  abbrev pub ObjectsAre : ℕ → Type 0
  ObjectsAre turn = (key : List ℕ) → object_at key (tally turn).objects ≡ object_now (cut_below turn (history key))

  pub objects-are : (turn : ℕ) → turn ≤ calls → ObjectsAre turn
  objects-are zero l key = sym (ap object_now (cut-start key))
  objects-are (suc turn) l key = subst (λ n. object_at key (tally n).objects ≡ object_now (cut_below n (history key)))
      (add-one turn) (by (λ k. objects-are turn (omega (arith, l)) k) (key_of (op_at seed turn)) refl)
    where
      here : turn < calls
      here = omega (arith, l)

      left : ObjectsAre turn → key_of (op_at seed turn) ≢ Some key → object_at key (tally turn).objects ≡ object_now (cut_below (turn + 1) (history key))
      left before n = before key ∙ ap object_now (sym (leaves key turn n))

      put : ObjectsAre turn → (k : List ℕ) → key_of (op_at seed turn) ≡ Some k → k ≡ key
          → (effect_of soak (object_at k (tally turn).objects) (op_at seed turn)).object
          ≡ object_now (cut_below (turn + 1) (history key))
      put before k e q =
          let on : key_of (op_at seed turn) ≡ Some key = e ∙ ap Some q in
          let t = (takes key turn here on).0 in
          ap (λ (k : List ℕ). (effect_of soak (object_at k (tally turn).objects) (op_at seed turn)).object) q
          ∙ ap (λ (o : Option (List Value)). (effect_of soak o (op_at seed turn)).object) (before key)
          ∙ ap (λ (op : Op). (effect_of soak (object_now (cut_below turn (history key))) op).object) (sym t.op_is)
          ∙ sym t.effect.object
          ∙ sym (ap object_now t.cut)

      by : ObjectsAre turn → (o : Option (List ℕ)) → key_of (op_at seed turn) ≡ o
          → object_at key (tally (turn + 1)).objects ≡ object_now (cut_below (turn + 1) (history key))
      by before None e =
          ap (λ (t : Tally). object_at key t.objects) (one-more turn ∙ objects-searched (tally turn) (op_at seed turn) e)
          ∙ left before (λ q. let r : None ≡ Some key = sym e ∙ q in cc)
      by before (Some k) e =
          let f = effect_of soak (object_at k (tally turn).objects) (op_at seed turn) in
          ap (λ (t : Tally). object_at key t.objects) (one-more turn ∙ objects-put (tally turn) (op_at seed turn) k e)
          ∙ elim (cases_Bool (same_text k key)) [
            | inl t ↦ (let q = eq_of_same_text k key t in
                subst (λ (w : List ℕ). object_at w (with_effect (tally turn) k f).objects ≡ f.object) q
                (put-at k f.object (tally turn).objects (is-map turn)) ∙ put before k e q)
            | inr t ↦ (let n : k ≡ key → ⊥ = (λ q. false≢true (sym t ∙ text-same k key q)) in
                put-other k key f.object (tally turn).objects n ∙ left before (λ q. n (let r : Some k ≡ Some key = sym e ∙ q in cc)))
          ]

  -- at the end that of its whole history
  pub objects-end : (key : List ℕ) → object_at key (tally calls).objects ≡ object_now (history key)
  objects-end key = objects-are calls (omega arith) key ∙ ap object_now (cut-end key)
