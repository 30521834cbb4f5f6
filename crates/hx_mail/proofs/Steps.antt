-- AllByRecursion step keeps the rule of a box.
use Rattle.std.proofs.Common.{◌≡◌, ◌≢◌, ℕ, ◌+◌, ◌<◌, ◌≤◌, inl, inr, ⊎_elim, true, false, eqb, List, [], ◌∷◌, ◌++◌, map}
use Rattle.std.proofs.Common.{set, slice_set, Option, Some, None, refl, ap, sym, subst, ◌∙◌, arith, append_assoc}
use mathlib.Core.Option.{some, some-ne-none}
use lib.ListN.{get_elem?}
use Rattle.std.specs.Prelude.{nat_lt}
use Rattle.std.proofs.lemmas.Bool.Decides.{eqb_tells, nat_tests}
use Rattle.crossbeam_queue.proofs.Lists.{at_set}
use Rattle.crossbeam_queue.specs.Fifo.{Pushes, Pops, Forks, Merges, Learns}
use Rattle.std.specs.List.{AllByRecursion}
use Rattle.hx_types.specs.Words.{IsIn}
use Rattle.hx_clock.specs.Views.{either_count, one, total}
use Rattle.hx_clock.specs.Rule.{counts}
use Rattle.hx_clock.proofs.Lemmas.{each_in, each_append, each_map, total-append, total-set, total-at, total-two, all_set, all_snoc, one-le, one-lt, one_lt-next}
use Rattle.hx_clock.proofs.Lemmas.{counts-some, counts-either}
use Rattle.hx_mail.specs.declared.envelopes.Letter.{Letter}
use Rattle.hx_mail.specs.declared.views.PortLists.{PortLists}
use Rattle.hx_mail.specs.declared.views.BoxNames.{BoxNames}
use Rattle.hx_mail.specs.declared.views.PortView.{PortView}
use Rattle.hx_mail.specs.declared.views.Sent.{Sent}
use Rattle.hx_mail.specs.Ports.{mailed_of, sent_of, port, spent_port, first_port, put_by, times, put_in, take_in}
use Rattle.hx_mail.specs.Ports.{after_put, after_take, splitting, split_off, joined_port, CarriesAll, TookAlone}
use Rattle.hx_mail.specs.Ports.{IsInOrder}
use Rattle.hx_mail.specs.Boxes.{IsFor}
use Rattle.hx_mail.specs.Rule.{TakenBy, taken_under, taken_by, Fits, IsKept}
use Rattle.hx_mail.proofs.Lists.{map-snoc, each_under, put_by-append, put-other, taken-other, put-none, taken-none}
use Rattle.hx_mail.proofs.Lists.{times-in, lists-of, put_in-name, put_in-taken, take_in-name, take_in-put, put_in-put}
use Rattle.hx_mail.proofs.Lists.{take_in-taken, times-map, taken_in, all_by}

-- another port doesn't carry the name
apart : (views : List PortView) (c : ℕ) (id j : ℕ) (v u : PortView) (k : ℕ)
    → total (λ v. times k v.lists) views ≡ one (nat_lt k c) → get_elem? views id ≡ some v → get_elem? views j ≡ some u
    → j ≢ id → 1 ≤ times k v.lists
    → (b : PortLists) → IsIn b u.lists → b.name ≢ k
apart views c id j v u k once at there other mine b i e =
    let a = total-two (λ v. times k v.lists) views id j v u at there other in
    let d = times-in k u.lists b i (sym e) in
    let f = one-le (nat_lt k c) in absurd (omega arith)

uncounted : (views : List PortView) (id j : ℕ) (v u : PortView) (m : ℕ) → total (λ v. counts v.splits) views ≡ 1
    → get_elem? views id ≡ some v → get_elem? views j ≡ some u → j ≢ id → counts v.splits ≡ 1 → ¬ (u.splits ≡ Some m)
uncounted views id j v u m once at there other mine e =
    let a = total-two (λ v. counts v.splits) views id j v u at there other in
    let b = counts-some u.splits m e in
    omega arith

some-same : {A : Type 0} (a b : A) → Some a ≡ Some b → a ≡ b
some-same a b e = cc

not_none : {A : Type 0} (a : A) → None ≡ Some a → ⊥
not_none a e = cc

drawn : (views : List PortView) (c id k : ℕ) (v : PortView) → total (λ v. times k v.lists) views ≡ one (nat_lt k c)
    → get_elem? views id ≡ some v → 1 ≤ times k v.lists → k < c
drawn views c id k v once at mine = let a = total-at (λ v. times k v.lists) views id v at in one-lt k c (omega arith)

pub puts : (cap id : ℕ) (v : PortView) (x : Letter) (n : BoxNames) → v.of_box ≡ Some n → IsFor n x → x.port ≡ v.own → 1 ≤ times v.own v.lists
    → Pushes IsKept cap id v x (λ w. w ≡ after_put (mailed_of x.envelope) v)
puts cap id v x n named sound own mine items views room kept at =
    let s : Sent = sent_of x in
    let w : PortView = after_put (mailed_of x.envelope) v in
    let f : Fits kept.of_box kept.log kept.out kept.ports v = kept.fits id v at in
    let lt : v.own < kept.ports = drawn views kept.ports id v.own v (kept.carried_once v.own) at mine in
    let name : kept.of_box ≡ Some n = f.named n named in
    let same : (k : ℕ) → times k w.lists ≡ times k v.lists =
    λ k. times-map k (put_in v.own (mailed_of x.envelope)) v.lists (put_in-name v.own (mailed_of x.envelope)) in (
      w,
      record {
        of_box = kept.of_box;
        out = kept.out;
        log = kept.log ++ s ∷ [];
        ports = kept.ports;
        log_is = ap (λ l. l ++ s ∷ []) kept.log_is ∙ append_assoc (map (λ (g : TakenBy). g.sent) kept.out)
            (map sent_of items) (s ∷ []) ∙ ap (λ l. map (λ (g : TakenBy). g.sent) kept.out ++ l) (sym (map-snoc sent_of items x));
        log_within = each_append _ kept.log (s ∷ []) kept.log_within (omega arith, tt);
        out_within = kept.out_within;
        carried_once = λ k. let a = total-set (λ v. times k v.lists) views id v w at in let b = kept.carried_once k in omega (arith, same k);
        counted_once = let a = total-set (λ v. counts v.splits) views id v w at in let b = kept.counted_once in omega arith;
        unnamed = λ e. absurd (not_none n (sym e ∙ name));
        sound = λ m e. each_append _ items (x ∷ []) (kept.sound m e) (subst (λ m. IsFor m x) (some-same n m (sym name ∙ e)) sound, tt);
        fits = all_set (Fits kept.of_box (kept.log ++ s ∷ []) kept.out kept.ports) views id w
            (record {
              put = each_under _ _ (put_in v.own (mailed_of x.envelope)) v.lists
                  (λ b i e.
                  let P : ℕ → Type 0 = λ o. (put_in o (mailed_of x.envelope) b).put ≡ put_by (put_in o (mailed_of x.envelope) b).name (kept.log ++ s ∷ []) in
                  subst P own (put_in-put kept.log s b e ∙ ap (λ k. put_by k (kept.log ++ s ∷ [])) (sym (put_in-name s.port s.mailed b)))) f.put;
              taken = each_under _ _ (put_in v.own (mailed_of x.envelope)) v.lists
                  (λ b i e. put_in-taken v.own (mailed_of x.envelope) b ∙ e
                  ∙ ap (λ k. taken_by k kept.out) (sym (put_in-name v.own (mailed_of x.envelope) b))) f.taken;
              number = f.number;
              named = f.named;
            })
            (λ j u other there.
            let g : Fits kept.of_box kept.log kept.out kept.ports u = kept.fits j u there in
            record {
              put = each_map _ _ u.lists (λ b i e. e ∙ sym
                  (put-other b.name kept.log s (λ q. apart views kept.ports id j v u v.own
                  (kept.carried_once v.own) at there other mine b i (q ∙ own)))) g.put;
              taken = g.taken;
              number = g.number;
              named = g.named;
            });
      },
      refl,
    )

pub takes : (id : ℕ) (v : PortView) → 1 ≤ times v.own v.lists
    → Pops IsKept id v (λ x w. (w ≡ after_take (sent_of x) v) × ((n : BoxNames) → v.of_box ≡ Some n → IsFor n x))
takes id v mine x items views kept at =
    let s : Sent = sent_of x in
    let g : TakenBy = taken_under v.own s in
    let w : PortView = after_take s v in
    let f : Fits kept.of_box kept.log kept.out kept.ports v = kept.fits id v at in
    let lt : v.own < kept.ports = drawn views kept.ports id v.own v (kept.carried_once v.own) at mine in
    let same : (k : ℕ) → times k w.lists ≡ times k v.lists = λ k. times-map k (take_in v.own s) v.lists (take_in-name v.own s) in (
      w,
      record {
        of_box = kept.of_box;
        out = kept.out ++ g ∷ [];
        log = kept.log;
        ports = kept.ports;
        log_is = kept.log_is ∙ sym (append_assoc (map (λ (g : TakenBy). g.sent) kept.out) (s ∷ [])
            (map sent_of items)) ∙ ap (λ l. l ++ map sent_of items) (sym (map-snoc (λ (g : TakenBy). g.sent) kept.out g));
        log_within = kept.log_within;
        out_within = each_append _ kept.out (g ∷ []) kept.out_within (lt, tt);
        carried_once = λ k. let a = total-set (λ v. times k v.lists) views id v w at in let b = kept.carried_once k in omega (arith, same k);
        counted_once = let a = total-set (λ v. counts v.splits) views id v w at in let b = kept.counted_once in omega arith;
        unnamed = λ e. absurd (let a = kept.unnamed e in cc);
        sound = λ m e. (kept.sound m e).1;
        fits = all_set (Fits kept.of_box kept.log (kept.out ++ g ∷ []) kept.ports) views id w
            (record {
              put = each_under _ _ (take_in v.own s) v.lists
                  (λ b i e. take_in-put v.own s b ∙ e ∙ ap (λ k. put_by k kept.log) (sym (take_in-name v.own s b))) f.put;
              taken = each_under _ _ (take_in v.own s) v.lists
                  (λ b i e. take_in-taken kept.out g b e ∙ ap (λ k. taken_by k (kept.out ++ g ∷ [])) (sym (take_in-name v.own s b))) f.taken;
              number = f.number;
              named = f.named;
            })
            (λ j u other there.
            let h : Fits kept.of_box kept.log kept.out kept.ports u = kept.fits j u there in
            record {
              put = h.put;
              taken = each_map _ _ u.lists (λ b i e. e ∙ sym
                  (taken-other b.name kept.out g (λ q. apart views kept.ports id j v u v.own
                  (kept.carried_once v.own) at there other mine b i q))) h.taken;
              number = h.number;
              named = h.named;
            });
      },
      (refl, λ n e. (kept.sound n (f.named n e)).0),
    )

no-number : (n m : ℕ) (a b : Option BoxNames) → None ≡ Some n → (n + 1 ≡ m) × (a ≡ b)
no-number n m a b e = absurd cc

splits_seen : (id own n : ℕ) (of_box : Option BoxNames) (lists : List PortLists)
    → Forks IsKept id (port own of_box lists (Some n)) (splitting (port own of_box lists (Some n)))
    (split_off (port own of_box lists (Some n)))
splits_seen id own n of_box lists items views kept at =
    let v : PortView = port own of_box lists (Some n) in
    let a : PortView = splitting v in
    let b : PortView = split_off v in
    let f : Fits kept.of_box kept.log kept.out kept.ports v = kept.fits id v at in
    let num = f.number n refl in
    let is : n + 1 ≡ kept.ports = num.0 in
    let named : of_box ≡ kept.of_box = num.1 in
    record {
      of_box = kept.of_box;
      out = kept.out;
      log = kept.log;
      ports = kept.ports + 1;
      log_is = kept.log_is;
      log_within = each_map _ _ kept.log (λ s i h. omega arith) kept.log_within;
      out_within = each_map _ _ kept.out (λ g i h. omega arith) kept.out_within;
      carried_once = λ k.
          let p = total-set (λ v. times k v.lists) views id v a at in
          let q = total-append (λ v. times k v.lists) (set views id a) (b ∷ []) in
          let r = kept.carried_once k in
          let z = ap (λ m. one (eqb k m)) is in
          omega (arith, one_lt-next k kept.ports);
      counted_once =
          let p = total-set (λ v. counts v.splits) views id v a at in
          let q = total-append (λ v. counts v.splits) (set views id a) (b ∷ []) in
          let r = kept.counted_once in omega arith;
      unnamed = kept.unnamed;
      sound = kept.sound;
      fits = all_snoc (Fits kept.of_box kept.log kept.out (kept.ports + 1)) (slice_set views id a) b
          (record {
            put = (sym (put-none (n + 1) kept.ports kept.log kept.log_within (omega arith)), tt);
            taken = (sym (taken-none (n + 1) kept.ports kept.out kept.out_within (omega arith)), tt);
            number = λ m e. no-number m (kept.ports + 1) of_box kept.of_box e;
            named = f.named;
          })
          (all_set (Fits kept.of_box kept.log kept.out (kept.ports + 1)) views id a
          (record {
            put = f.put;
            taken = f.taken;
            number = λ m e. ((let s : n + 1 ≡ m = some-same (n + 1) m e in omega arith), named);
            named = f.named;
          })
          (λ j u other there.
          let g : Fits kept.of_box kept.log kept.out kept.ports u = kept.fits j u there in
          record {
            put = g.put;
            taken = g.taken;
            number = λ m e. absurd (uncounted views id j v u m kept.counted_once at there other refl e);
            named = g.named;
          }));
    }

pub splits : (id : ℕ) (v : PortView) (n : ℕ) → v.splits ≡ Some n → Forks IsKept id v (splitting v) (split_off v)
splits id v n e =
    let as_port : v ≡ port v.own v.of_box v.lists (Some n) = ap (λ s. port v.own v.of_box v.lists s) e in
    let P : PortView → Type 0 = λ u. Forks IsKept id u (splitting u) (split_off u) in
    subst P (sym as_port) (splits_seen id v.own n v.of_box v.lists)

each_nil : {A : Type 0} (P : A → Type 0) (xs : List A) → xs ≡ [] → AllByRecursion P xs
each_nil P xs e = subst (AllByRecursion P) (sym e) tt

-- the names of a box are given once
pub binds : (id own n : ℕ) (lists : List PortLists) (given : Option BoxNames) (m : BoxNames) → given ≡ Some m
    → Forks IsKept id (port own None lists (Some n)) (port own given lists (Some n)) spent_port
binds id own n lists given m is items views kept at =
    let v : PortView = port own None lists (Some n) in
    let a : PortView = port own given lists (Some n) in
    let f : Fits kept.of_box kept.log kept.out kept.ports v = kept.fits id v at in
    let num = f.number n refl in
    let none : kept.of_box ≡ None = sym num.1 in
    record {
      of_box = given;
      out = kept.out;
      log = kept.log;
      ports = kept.ports;
      log_is = kept.log_is;
      log_within = kept.log_within;
      out_within = kept.out_within;
      carried_once = λ k.
          let p = total-set (λ v. times k v.lists) views id v a at in
          let q = total-append (λ v. times k v.lists) (set views id a) (spent_port ∷ []) in
          let r = kept.carried_once k in omega arith;
      counted_once =
          let p = total-set (λ v. counts v.splits) views id v a at in
          let q = total-append (λ v. counts v.splits) (set views id a) (spent_port ∷ []) in
          let r = kept.counted_once in omega arith;
      unnamed = λ e. absurd (not_none m (sym e ∙ is));
      sound = λ k e. each_nil (IsFor k) items (kept.unnamed none);
      fits = all_snoc (Fits given kept.log kept.out kept.ports) (slice_set views id a) spent_port
          (record { put = tt; taken = tt; number = λ m e. no-number m kept.ports None given e; named = λ k e. absurd (not_none k e) })
          (all_set (Fits given kept.log kept.out kept.ports) views id a
          (record { put = f.put; taken = f.taken; number = λ m e. ((f.number m e).0, refl); named = λ k e. e })
          (λ j u other there.
          let g : Fits kept.of_box kept.log kept.out kept.ports u = kept.fits j u there in
          record {
            put = g.put;
            taken = g.taken;
            number = λ m e. absurd (uncounted views id j v u m kept.counted_once at there other refl e);
            named = λ k e. absurd (not_none k (sym none ∙ g.named k e));
          }));
    }

times-append : (k : ℕ) (xs ys : List PortLists) → times k (xs ++ ys) ≡ times k xs + times k ys
times-append k xs ys = total-append (λ b. one (eqb k b.name)) xs ys

either-number : (c d : Option ℕ) (n m : ℕ) (a b e : Option BoxNames) → ((n : ℕ) → c ≡ Some n → (n + 1 ≡ m) × (a ≡ e))
    → ((n : ℕ) → d ≡ Some n → (n + 1 ≡ m) × (b ≡ e)) → a ≡ b → either_count c d ≡ Some n → (n + 1 ≡ m) × (a ≡ e)
either-number None d n m a b e f g same h = ((g n h).0, same ∙ (g n h).1)
either-number (Some k) d n m a b e f g same h = f n h

-- the ports have one box's names
pub merges : (id : ℕ) (v : PortView) (other : ℕ) (w : PortView) → v.of_box ≡ w.of_box → Merges IsKept id v other w (joined_port v w) spent_port
merges id v other w alike items views kept at two at' =
    let both : PortView = joined_port v w in
    let mid : List PortView = set views id both in
    let was : get_elem? views other ≡ some w = ⊎_elim (λ (x : (other ≡ id) × (both ≡ w)). absurd (two x.0))
    (λ (x : (other ≢ id) × (get_elem? views other ≡ some w)). x.1) (at_set views id other both w at') in
    let f : Fits kept.of_box kept.log kept.out kept.ports v = kept.fits id v at in
    let g : Fits kept.of_box kept.log kept.out kept.ports w = kept.fits other w was in
    let few = total-two (λ v. counts v.splits) views id other v w at was two in
    let once = kept.counted_once in
    let e = counts-either v.splits w.splits (omega arith) in
    record {
      of_box = kept.of_box;
      out = kept.out;
      log = kept.log;
      ports = kept.ports;
      log_is = kept.log_is;
      log_within = kept.log_within;
      out_within = kept.out_within;
      carried_once = λ k.
          let p = total-set (λ v. times k v.lists) views id v both at in
          let q = total-set (λ v. times k v.lists) mid other w spent_port at' in
          let r = kept.carried_once k in omega (arith, times-append k v.lists w.lists);
      counted_once =
          let p = total-set (λ v. counts v.splits) views id v both at in
          let q = total-set (λ v. counts v.splits) mid other w spent_port at' in omega arith;
      unnamed = kept.unnamed;
      sound = kept.sound;
      fits = all_set (Fits kept.of_box kept.log kept.out kept.ports) mid other spent_port
          (record { put = tt; taken = tt; number = λ m e. no-number m kept.ports None kept.of_box e; named = λ k e. absurd (not_none k e) })
          (λ j u x there.
          all_set (Fits kept.of_box kept.log kept.out kept.ports) views id both
          (record {
            put = each_append _ v.lists w.lists f.put g.put;
            taken = each_append _ v.lists w.lists f.taken g.taken;
            number = λ n. either-number v.splits w.splits n kept.ports v.of_box w.of_box kept.of_box f.number g.number alike;
            named = f.named;
          })
          (λ j u other there. kept.fits j u there) j u there);
    }

-- what is taken under other names is nothing
none_other : (v : PortView) (out : List TakenBy) (ports t : ℕ) → CarriesAll v
    → ((n : ℕ) → v.splits ≡ Some n → n + 1 ≡ ports) → AllByRecursion (λ b. b.taken ≡ taken_by b.name out) v.lists
    → TookAlone t v → AllByRecursion (λ g. g.port < ports) out
    → (g : TakenBy) → IsIn g out → g.port ≢ t → ⊥
none_other v out ports t all num taken alone within g i ne =
    let is = num all.0 all.1 in
    let lt : g.port < ports = each_in _ out g within i in
    let b = lists-of g.port v.lists (all.2 g.port (omega arith)) in
    let nothing : b.0.taken ≡ [] = alone b.0 b.1 (λ q. ne (b.2 ∙ q)) in
    let there : IsIn g.sent (taken_by b.0.name out) = subst (λ k. IsIn g.sent (taken_by k out)) b.2 (taken_in out g i) in
    subst (IsIn g.sent) (sym (each_in _ v.lists b.0 taken b.1) ∙ nothing) there

each_by : (t : ℕ) (out : List TakenBy) → ((g : TakenBy) → IsIn g out → g.port ≢ t → ⊥) → AllByRecursion (λ g. g.port ≡ t) out
each_by t [] f = tt
each_by t (g ∷ out) f = (
  ⊎_elim (λ (e : (eqb g.port t ≡ true) × (g.port ≡ t)). e.1)
      (λ (e : (eqb g.port t ≡ false) × (g.port ≢ t)). absurd (f g (inl refl) e.1)) (eqb_tells g.port t),
  each_by t out (λ h i. f h (inr i)),
)

pub learns : (id : ℕ) (v : PortView) → Learns IsKept id v (λ items. IsInOrder v)
learns id v items views kept at all t ti alone b bi =
    let f : Fits kept.of_box kept.log kept.out kept.ports v = kept.fits id v at in
    let whole : taken_by t.name kept.out ≡ map (λ (g : TakenBy). g.sent) kept.out =
    all_by t.name kept.out (each_by t.name kept.out (none_other v kept.out kept.ports t.name all (λ n e. (f.number n e).0) f.taken alone kept.out_within)) in
    let mine : t.taken ≡ map (λ (g : TakenBy). g.sent) kept.out = each_in _ v.lists t f.taken ti ∙ whole in (
      put_by b.name (map sent_of items),
      ap (λ l. put_by b.name l ++ put_by b.name (map sent_of items)) mine
          ∙ sym (put_by-append b.name (map (λ (g : TakenBy). g.sent) kept.out) (map sent_of items))
          ∙ ap (put_by b.name) (sym kept.log_is)
          ∙ sym (each_in _ v.lists b f.put bi),
    )

pub opens : IsKept [] (first_port None ∷ [])
opens = record {
  of_box = None;
  out = [];
  log = [];
  ports = 1;
  log_is = refl;
  log_within = tt;
  out_within = tt;
  carried_once = λ k. grind (arith, nat_tests);
  counted_once = refl;
  unnamed = λ e. refl;
  sound = λ n e. tt;
  fits = all_snoc (Fits None [] [] 1) [] (first_port None)
      (record { put = (refl, tt); taken = (refl, tt); number = λ n e. ((let s : 0 ≡ n = some-same 0 n e in omega arith), refl); named = λ n e. e })
      (λ j u e. absurd (some-ne-none u (sym e)));
}
