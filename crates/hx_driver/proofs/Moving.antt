-- A crew before and after one of its actors had a turn.
use Rattle.std.proofs.Common.{◌≡◌, ℕ, zero, suc, ◌+◌, ◌<◌, ◌≤◌, ◌⊎◌, ⊎_elim, inl, inr, Bool, true, false, List, []}
use Rattle.std.proofs.Common.{◌∷◌, length, slice_get, slice_index_or, slice_set, Some, None, refl, ap, sym, subst, ◌∙◌}
use Rattle.std.proofs.Common.{arith}
use Rattle.std.specs.List.{AllByRecursion}
use Rattle.std.proofs.lemmas.Option.{none-some, slice_get_within}
use Rattle.atomic_table.specs.Seated.{TableId}
use Rattle.hx_types.specs.declared.ids.Actor.{Actor}
use Rattle.hx_types.specs.declared.traces.Script.{Script}
use Rattle.hx_types.specs.Words.{IsIn}
use Rattle.hx_clock.specs.declared.parts.Stamped.{Stamped}
use Rattle.hx_clock.proofs.Lemmas.{each_map, get_before}
use Rattle.hx_mail.specs.Boxes.{Boxed}
use Rattle.hx_fate.specs.declared.fates.FateState.{FateState}
use Rattle.hx_outbox.specs.Zipped.{Both}
use Rattle.hx_outbox.proofs.Lemmas.{begins-refl, begins-trans, more-refl, more-trans}
use Rattle.hx_driver.specs.declared.desks.Desk.{Desk}
use Rattle.hx_driver.specs.declared.faults.Fault.{Fault}
use Rattle.hx_driver.specs.declared.faults.Fault.TheVariants as a_fault
use Rattle.hx_driver.specs.Desks.{HasNoRetry, IsBrokenDesk, IsLater, IsWholeDesk}
use Rattle.hx_driver.specs.Inboxes.{ins_of}
use Rattle.hx_driver.specs.Turns.{IsFaultOf}
use Rattle.hx_driver.specs.declared.crews.Crew.{Crew}
use Rattle.hx_driver.specs.Crews.{HasFault, HasWorn, IsCrew, IsDeskOf}
use Rattle.hx_driver.specs.Slices.{DoneTo, HasFaultSince, HaveNoRetry, IsLaterCrew, MayHaveRetried}
use Rattle.hx_driver.proofs.Booking.{booked-turn, IsTurnIn}
use Rattle.hx_driver.proofs.Places.{both-and, both-refl, both-set, both-trans, each-at, each-set, in-set, set-length}

-- an actor of a crew that met no fault
pub desk-at : (script : Script) (clock : TableId) (boxes : List Boxed) (w : ℕ) (c : Crew) (at : ℕ) (d : Desk)
    → IsCrew script clock boxes w c → c.fault ≡ None → at < length c.desks.items → d ≡ slice_index_or c.desks.items at d
    → IsWholeDesk script clock boxes w d
desk-at script clock boxes w c at d h calm within is = (each-at (IsDeskOf script clock boxes w c) c.desks.items at d h.desks within is).whole calm

-- the actor whose turn it is, is one of those before
done-at : (R : Desk → Desk → Type 0) (n : ℕ) (ds es : List Desk) (e : Desk) → DoneTo R n ds es → n < length es → e ≡ slice_index_or es n e → IsIn e ds
done-at R n [] [] e h lt is = absurd (omega (arith, lt))
done-at R n [] (x ∷ es) e h lt is = absurd h
done-at R n (d ∷ ds) [] e h lt is = absurd h
done-at R zero (d ∷ ds) (x ∷ es) e h lt is = inl (is ∙ h.0)
done-at R (suc n) (d ∷ ds) (x ∷ es) e h lt is = inr (done-at R n ds es e h.1 (omega (arith, lt)) is)

-- the fault that the turn met
module _ (script : Script) (boxes : List Boxed) (c c' : Crew) (at : ℕ) (d d' : Desk) (f f' : FateState)
    (xs : List Stamped) (k : IsTurnIn boxes c c' at d d' f f' xs) where
  worn-of : (retry : Bool) (a : Actor) → c'.fault ≡ Some (a_fault.Worn a) → IsFaultOf script retry d' (a_fault.Worn a) → HasWorn script retry c'
  worn-of retry a e why = record {
    desk = d';
    is = subst (IsIn d') (sym k.desks) (in-set c.desks.items at d' k.within);
    fault = e ∙ ap (λ b. Some (a_fault.Worn b)) why.0;
    most = why.1;
    more = why.2;
  }

  pub fault-of : (retry : Bool) (fault : Fault) → c'.fault ≡ Some fault → IsFaultOf script retry d' fault → HasFault script retry c'
  fault-of retry a_fault.Memory e why = inr (inl e)
  fault-of retry (a_fault.Worn a) e why = inr (inr (worn-of retry a e why))

  -- where it made nothing, the actor is as it was among the desks before
  pub fault-since : (fault : Fault) → c'.fault ≡ Some fault → IsFaultOf script true d' fault → d'.part.items ≡ d.part.items
      → (before : List Desk) → DoneTo (MayHaveRetried script) at before c.desks.items → HasFaultSince script before c'
  unfolding worn-of
  fault-since a_fault.Memory e why same before h = inr (inl e)
  fault-since (a_fault.Worn a) e why same before h =
      inr
      (inr (record {
        worn = worn-of true a e why;
        desk = d;
        was = done-at (MayHaveRetried script) at before c.desks.items d h k.within k.desk;
        actor = k.turn.later.actor;
        part = same;
      }))

-- the crew after the turn: without a fault, or with one
module _ (script : Script) (clock : TableId) (boxes : List Boxed) (w : ℕ) (c c' : Crew) (at : ℕ) (d d' : Desk) (f f' : FateState) (xs : List Stamped)
    (k : IsTurnIn boxes c c' at d d' f f' xs) (calm : c.fault ≡ None) (h : IsCrew script clock boxes w c) where
  same-desk : (e : Desk) → IsDeskOf script clock boxes w c e → IsDeskOf script clock boxes w c' e
  same-desk e g = record { broken = g.broken; whole = λ n. g.whole calm }

  moved : IsDeskOf script clock boxes w c' d' → ((retry : Bool) × HasFault script retry c') → IsCrew script clock boxes w c'
  moved here fault = record {
    out = k.turn.out.0;
    desks =
        subst (AllByRecursion (IsDeskOf script clock boxes w c')) (sym k.desks)
        (each-set (IsDeskOf script clock boxes w c') c.desks.items at d'
        (each_map (IsDeskOf script clock boxes w c) (IsDeskOf script clock boxes w c') c.desks.items
        (λ e i g. same-desk e g) h.desks) here);
    many = let many = h.many in omega (arith, many, ap length k.desks, set-length c.desks.items at d');
    booked = booked-turn boxes c c' at d d' f f' xs k h.booked;
    total = k.turn.total;
    fault = fault;
  }

  pub moved-calm : c'.fault ≡ None → IsWholeDesk script clock boxes w d' → IsCrew script clock boxes w c'
  moved-calm none whole = moved (record { broken = record { rest = whole.rest; desk = whole.desk }; whole = λ n. whole }) (false, inl none)

  pub moved-fault : (retry : Bool) (fault : Fault) → c'.fault ≡ Some fault → IsFaultOf script retry d' fault
      → IsBrokenDesk script clock boxes w d' → IsCrew script clock boxes w c'
  moved-fault retry fault e why broken =
      moved (record { broken = broken; whole = λ n. absurd (none-some fault (sym n ∙ e)) })
      (retry, fault-of script boxes c c' at d d' f f' xs k retry fault e why)

-- the crew is the same later
later-refl : (d : Desk) → IsLater d d
later-refl d = record { actor = refl; part = begins-refl d.part.items; ins = begins-refl (ins_of d.inbox) }

later-trans : (d e f : Desk) → IsLater d e → IsLater e f → IsLater d f
later-trans d e f a b = record {
  actor = b.actor ∙ a.actor;
  part = begins-trans d.part.items e.part.items f.part.items a.part b.part;
  ins = begins-trans (ins_of d.inbox) (ins_of e.inbox) (ins_of f.inbox) a.ins b.ins;
}

pub crew-later : (boxes : List Boxed) (c c' : Crew) (at : ℕ) (d d' : Desk) (f f' : FateState) (xs : List Stamped)
    → IsTurnIn boxes c c' at d d' f f' xs → c.fault ≡ None → IsLaterCrew c c'
crew-later boxes c c' at d d' f f' xs k calm = record {
  index = k.turn.out.1;
  put = k.turn.more;
  desks = subst (Both IsLater c.desks.items) (sym k.desks) (both-set IsLater later-refl c.desks.items at d d' k.desk k.turn.later);
  calm = λ e. calm;
  stays = λ fault e. absurd (none-some fault (sym calm ∙ e));
  lose = let lose = k.turn.offered.lose in omega (arith, lose);
  twice = let twice = k.turn.offered.twice in omega (arith, twice);
}

pub crew-later-refl : (c : Crew) → IsLaterCrew c c
crew-later-refl c = record {
  index = refl;
  put = more-refl c.out.ports.items;
  desks = both-refl IsLater later-refl c.desks.items;
  calm = λ e. e;
  stays = λ fault e. refl;
  lose = omega arith;
  twice = omega arith;
}

pub crew-later-trans : (a b c : Crew) → IsLaterCrew a b → IsLaterCrew b c → IsLaterCrew a c
crew-later-trans a b c h k = record {
  index = k.index ∙ h.index;
  put = more-trans a.out.ports.items b.out.ports.items c.out.ports.items h.put k.put;
  desks = both-trans IsLater IsLater IsLater later-trans a.desks.items b.desks.items c.desks.items h.desks k.desks;
  calm = λ e. h.calm (k.calm e);
  stays = λ fault e. let same = h.stays fault e in k.stays fault (ap (λ (c : Crew). c.fault) same ∙ e) ∙ same;
  lose = let one = h.lose in let two = k.lose in omega (arith, one, two);
  twice = let one = h.twice in let two = k.twice in omega (arith, one, two);
}

-- no actor retried
no-retry-refl : (d : Desk) → HasNoRetry d d
no-retry-refl d n x le at = let within = slice_get_within d.part.items n x at in absurd (omega (arith, le, within))

below-or-not : (i n : ℕ) → (i < n) ⊎ (n ≤ i)
below-or-not i zero = inr (omega arith)
below-or-not zero (suc n) = inl (omega arith)
below-or-not (suc i) (suc n) = ⊎_elim (λ (h : i < n). inl (omega (arith, h))) (λ (h : n ≤ i). inr (omega (arith, h))) (below-or-not i n)

no-retry-trans : (d e f : Desk) → HasNoRetry d e → IsLater e f → HasNoRetry e f → HasNoRetry d f
no-retry-trans d e f h later k n x le at =
    ⊎_elim
    (λ (lt : n < length e.part.items). h n x le (sym (get_before e.part.items later.part.0 n lt) ∙ ap (λ (l : List Stamped). slice_get l n) later.part.1 ∙ at))
    (λ (ge : length e.part.items ≤ n). k n x ge at)
    (below-or-not n (length e.part.items))

pub none-retried : (script : Script) (boxes : List Boxed) (c c' : Crew) (at : ℕ) (d d' : Desk) (f f' : FateState)
    (xs : List Stamped) → IsTurnIn boxes c c' at d d' f f' xs
    → HasNoRetry d d' → HasFault script false c' → HaveNoRetry script c c'
none-retried script boxes c c' at d d' f f' xs k h fault = record {
  desks = subst (Both HasNoRetry c.desks.items) (sym k.desks) (both-set HasNoRetry no-retry-refl c.desks.items at d d' k.desk h);
  fault = λ e. fault;
}

pub none-retried-refl : (script : Script) (c : Crew) → HaveNoRetry script c c
none-retried-refl script c = record { desks = both-refl HasNoRetry no-retry-refl c.desks.items; fault = λ e. inl e }

-- after a fault nothing changes
fault-stays : (script : Script) (retry : Bool) (b c : Crew) → IsLaterCrew b c → HasFault script retry b
    → (b.fault ≡ None → HasFault script retry c) → HasFault script retry c
fault-stays script retry b c later fault calm =
    ⊎_elim calm
    (λ (h : (b.fault ≡ Some a_fault.Memory) ⊎ HasWorn script retry b).
    ⊎_elim (λ (e : b.fault ≡ Some a_fault.Memory). subst (HasFault script retry) (sym (later.stays a_fault.Memory e)) fault)
    (λ (k : HasWorn script retry b). subst (HasFault script retry) (sym (later.stays (a_fault.Worn k.desk.actor) k.fault)) fault) h) fault

pub none-retried-trans : (script : Script) (a b c : Crew) → HaveNoRetry script a b → IsLaterCrew b c → HaveNoRetry script b c → HaveNoRetry script a c
none-retried-trans script a b c h later k = record {
  desks =
      both-trans HasNoRetry (λ x y. IsLater x y × HasNoRetry x y) HasNoRetry
      (λ x y z m n. no-retry-trans x y z m n.0 n.1) a.desks.items b.desks.items c.desks.items h.desks
      (both-and IsLater HasNoRetry b.desks.items c.desks.items later.desks k.desks);
  fault = λ e. fault-stays script false b c later (h.fault e) k.fault;
}

-- one actor after the other
pub done-none : (R : Desk → Desk → Type 0) (ds : List Desk) → DoneTo R 0 ds ds
done-none R [] = tt
done-none R (d ∷ ds) = (refl, done-none R ds)

done-set : (R : Desk → Desk → Type 0) (n : ℕ) (ds es : List Desk) (e e' : Desk) → DoneTo R n ds es → n < length es
    → e ≡ slice_index_or es n e → R e e' → DoneTo R (n + 1) ds (slice_set es n e')
done-set R n [] [] e e' h lt is k = absurd (omega (arith, lt))
done-set R n [] (x ∷ es) e e' h lt is k = absurd h
done-set R n (d ∷ ds) [] e e' h lt is k = absurd h
done-set R zero (d ∷ ds) (x ∷ es) e e' h lt is k =
    let one : suc zero ≡ zero + 1 = omega arith in subst (λ m. DoneTo R m (d ∷ ds) (e' ∷ es)) one (subst (λ y. R y e') (is ∙ h.0) k, h.1)
done-set R (suc n) (d ∷ ds) (x ∷ es) e e' h lt is k =
    let next : suc (n + 1) ≡ suc n + 1 = omega arith in
    subst (λ m. DoneTo R m (d ∷ ds) (x ∷ slice_set es n e')) next (h.0, done-set R n ds es e e' h.1 (omega (arith, lt)) is k)

pub done-turn : (R : Desk → Desk → Type 0) (boxes : List Boxed) (c c' : Crew) (at : ℕ) (d d' : Desk)
    (f f' : FateState) (xs : List Stamped) → IsTurnIn boxes c c' at d d' f f' xs → R d d'
    → (before : List Desk) → DoneTo R at before c.desks.items → DoneTo R (at + 1) before c'.desks.items
done-turn R boxes c c' at d d' f f' xs k r before h =
    subst (DoneTo R (at + 1) before) (sym k.desks) (done-set R at before c.desks.items d d' h k.within k.desk r)

-- an actor that did nothing
may-same : (script : Script) (n : ℕ) (ds es : List Desk) → DoneTo (MayHaveRetried script) n ds es → DoneTo (MayHaveRetried script) (n + 1) ds es
may-same script n [] [] h = tt
may-same script n [] (e ∷ es) h = absurd h
may-same script n (d ∷ ds) [] h = absurd h
may-same script zero (d ∷ ds) (e ∷ es) h =
    let one : suc zero ≡ zero + 1 = omega arith in
    subst (λ m. DoneTo (MayHaveRetried script) m (d ∷ ds) (e ∷ es)) one (inr (ap (λ (x : Desk). x.part.items) h.0), h.1)
may-same script (suc n) (d ∷ ds) (e ∷ es) h =
    let next : suc (n + 1) ≡ suc n + 1 = omega arith in subst (λ m. DoneTo (MayHaveRetried script) m (d ∷ ds) (e ∷ es)) next (h.0, may-same script n ds es h.1)

pub may-idle : (script : Script) (c : Crew) (at : ℕ) (before : List Desk)
    → DoneTo (MayHaveRetried script) at before c.desks.items → DoneTo (MayHaveRetried script) (at + 1) before c.desks.items
may-idle script c at before h = may-same script at before c.desks.items h

pub done-all : (R : Desk → Desk → Type 0) (n : ℕ) (ds es : List Desk) → n ≡ length ds → DoneTo R n ds es → Both R ds es
done-all R n [] [] e h = tt
done-all R n [] (x ∷ es) e h = absurd h
done-all R n (d ∷ ds) [] e h = absurd h
done-all R zero (d ∷ ds) (x ∷ es) e h = absurd (omega (arith, e))
done-all R (suc n) (d ∷ ds) (x ∷ es) e h = (h.0, done-all R n ds es (omega (arith, e)) h.1)
