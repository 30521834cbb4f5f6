-- All desks of some crews, and the same desks later.
use Rattle.std.proofs.Common.{◌≡◌, ◌≢◌, ◌≤◌, inl, inr, false, cond, List, [], ◌∷◌, map, length, None, refl, ap, sym, subst, ◌∙◌, arith, true≢false}
use Rattle.std.specs.List.{AllByRecursion, IsDistinct}
use Rattle.std.proofs.lemmas.Bool.{cond_both}
use Rattle.hx_model.specs.Types.{Actor, Script}
use Rattle.hx_types.specs.Words.{same_actor, IsIn}
use Rattle.hx_clock.proofs.Lemmas.{each_all, each_in}
use Rattle.hx_law_threads.specs.Merged.{actors_in, ActorPart}
use Rattle.hx_law_threads.specs.PartPacing.{HasAllActors, HaveCut}
use Rattle.hx_law_threads.proofs.Lemmas.{same_actor_is, same_as_itself, in_map}
use Rattle.hx_outbox.specs.Zipped.{Both}
use Rattle.hx_outbox.proofs.Lemmas.{begins-refl, begins-trans, more-refl, more-trans}
use Rattle.hx_driver.specs.declared.desks.Desk.{Desk}
use Rattle.hx_driver.specs.Inboxes.{ins_of}
use Rattle.hx_driver.specs.Desks.{IsLater}
use Rattle.hx_driver.specs.declared.crews.Crew.{Crew}
use Rattle.hx_driver.specs.Slices.{IsLaterCrew}
use Rattle.hx_law_drivers.specs.Crews.{cut_of, desks_of, entries_at, lost_by, part_of, parts_of, HaveAllActors}
use Rattle.hx_law_drivers.proofs.Lists.{both_append, both_back, both_in, both_self, both_then, each_of_map, map_map, prefix_length}

pub later_self : (d : Desk) → IsLater d d
later_self d = record { actor = refl; part = begins-refl d.part.items; ins = begins-refl (ins_of d.inbox) }

pub later_then : (x y z : Desk) → IsLater x y → IsLater y z → IsLater x z
later_then x y z h k = record {
  actor = k.actor ∙ h.actor;
  part = begins-trans x.part.items y.part.items z.part.items h.part k.part;
  ins = begins-trans (ins_of x.inbox) (ins_of y.inbox) (ins_of z.inbox) h.ins k.ins;
}

pub crew_self : (c : Crew) → IsLaterCrew c c
crew_self c = record {
  index = refl;
  put = more-refl c.out.ports.items;
  desks = both_self IsLater later_self c.desks.items;
  calm = λ e. e;
  stays = λ fault e. refl;
  lose = omega arith;
  twice = omega arith;
}

pub crew_then : (x y z : Crew) → IsLaterCrew x y → IsLaterCrew y z → IsLaterCrew x z
crew_then x y z h k =
    let hl = h.lose in
    let kl = k.lose in
    let ht = h.twice in
    let kt = k.twice in
    record {
      index = k.index ∙ h.index;
      put = more-trans x.out.ports.items y.out.ports.items z.out.ports.items h.put k.put;
      desks = both_then IsLater IsLater IsLater later_then x.desks.items y.desks.items z.desks.items h.desks k.desks;
      calm = λ e. h.calm (k.calm e);
      stays = λ fault e. let same = h.stays fault e in k.stays fault (ap (λ (c : Crew). c.fault) same ∙ e) ∙ same;
      lose = omega (arith, hl, kl);
      twice = omega (arith, ht, kt);
    }

-- the same crews later
abbrev pub AreLater : List Crew → List Crew → Type 0
AreLater crews crews' = Both IsLaterCrew crews crews'

pub later_crews : (xs ys zs : List Crew) → AreLater xs ys → AreLater ys zs → AreLater xs zs
later_crews xs ys zs h k = both_then IsLaterCrew IsLaterCrew IsLaterCrew crew_then xs ys zs h k

-- what holds of the desks of each crew holds of all desks
pub of_desks : (R : Crew → Crew → Type 0) (S : Desk → Desk → Type 0)
    → ((x y : Crew) → R x y → Both S x.desks.items y.desks.items) → (xs ys : List Crew) → Both R xs ys
    → Both S (desks_of xs) (desks_of ys)
of_desks R S f [] [] h = tt
of_desks R S f [] (y ∷ ys) h = absurd h
of_desks R S f (x ∷ xs) [] h = absurd h
of_desks R S f (x ∷ xs) (y ∷ ys) h = both_append S x.desks.items (desks_of xs) y.desks.items (desks_of ys) (f x y h.0) (of_desks R S f xs ys h.1)

pub later_desks : (xs ys : List Crew) → AreLater xs ys → Both IsLater (desks_of xs) (desks_of ys)
later_desks xs ys h = of_desks IsLaterCrew IsLater (λ x y k. k.desks) xs ys h

abbrev pub AreCalm : List Crew → Type 0
AreCalm crews = AllByRecursion (λ (c : Crew). c.fault ≡ None) crews

pub calm_before : (xs ys : List Crew) → AreLater xs ys → AreCalm ys → AreCalm xs
calm_before [] [] h k = tt
calm_before [] (y ∷ ys) h k = absurd h
calm_before (x ∷ xs) [] h k = absurd h
calm_before (x ∷ xs) (y ∷ ys) h k = (h.0.calm k.0, calm_before xs ys h.1 k.1)

pub lost_before : (xs ys : List Crew) → AreLater xs ys → lost_by xs ≤ lost_by ys
lost_before [] [] h = omega arith
lost_before [] (y ∷ ys) h = absurd h
lost_before (x ∷ xs) [] h = absurd h
lost_before (x ∷ xs) (y ∷ ys) h = let a = h.0.lose in omega (arith, a, lost_before xs ys h.1)

-- the actors are the same
pub same_actors : (ds es : List Desk) → Both IsLater ds es → map (λ (d : Desk). d.actor) es ≡ map (λ (d : Desk). d.actor) ds
same_actors [] [] h = refl
same_actors [] (e ∷ es) h = absurd h
same_actors (d ∷ ds) [] h = absurd h
same_actors (d ∷ ds) (e ∷ es) h = ap (λ a. a ∷ map (λ (x : Desk). x.actor) es) h.0.actor ∙ ap (λ l. d.actor ∷ l) (same_actors ds es h.1)

pub actors_later : (script : Script) (xs ys : List Crew) → AreLater xs ys → HaveAllActors script xs → HaveAllActors script ys
actors_later script xs ys h k =
    let l = later_desks xs ys h in
    record {
      all = λ a known.
          let d = k.all a known in
          let e = both_in IsLater (desks_of xs) (desks_of ys) d.0 l d.1 in
          (e.0, e.1, e.2.actor ∙ d.2);
      apart = subst (IsDistinct same_actor) (sym (same_actors (desks_of xs) (desks_of ys) l)) k.apart;
    }

-- how many entries an actor had made is the length of its part
pub entries_of_desk : (ds : List Desk) (d : Desk) → IsDistinct same_actor (map (λ (x : Desk). x.actor) ds) → IsIn d ds
    → entries_at ds d.actor ≡ length d.part.items
unfolding IsDistinct
entries_of_desk [] d apart i = absurd i
entries_of_desk (c ∷ ds) d apart (inl e) =
    ap (λ b. cond b (length c.part.items) (entries_at ds d.actor))
    (ap (λ (x : Desk). same_actor c.actor x.actor) e ∙ same_as_itself c.actor)
    ∙ ap (λ (x : Desk). length x.part.items) (sym e)
entries_of_desk (c ∷ ds) d apart (inr i) =
    ap (λ b. cond b (length c.part.items) (entries_at ds d.actor))
    (each_in (λ a. same_actor c.actor a ≡ false) (map (λ (x : Desk). x.actor) ds) d.actor apart.0
    (in_map (λ (x : Desk). x.actor) ds d i))
    ∙ entries_of_desk ds d apart.1 i

-- each actor has one desk
apart_from : (c d : Desk) (ds : List Desk) → AllByRecursion (λ a. same_actor c.actor a ≡ false)
    (map (λ (x : Desk). x.actor) ds) → IsIn d ds → c.actor ≡ d.actor → ⊥
apart_from c d ds h i e =
    true≢false (sym (ap (same_actor c.actor) (sym e) ∙ same_as_itself c.actor)
    ∙ each_in (λ a. same_actor c.actor a ≡ false) (map (λ (x : Desk). x.actor) ds) d.actor h
    (in_map (λ (x : Desk). x.actor) ds d i))

pub one_desk : (ds : List Desk) (d e : Desk) → IsDistinct same_actor (map (λ (x : Desk). x.actor) ds) → IsIn d ds → IsIn e ds → d.actor ≡ e.actor → d ≡ e
unfolding IsDistinct
one_desk [] d e apart i j same = absurd i
one_desk (c ∷ ds) d e apart (inl p) (inl q) same = p ∙ sym q
one_desk (c ∷ ds) d e apart (inl p) (inr j) same = absurd (apart_from c e ds apart.0 j (ap (λ (x : Desk). x.actor) (sym p) ∙ same))
one_desk (c ∷ ds) d e apart (inr i) (inl q) same = absurd (apart_from c d ds apart.0 i (ap (λ (x : Desk). x.actor) (sym q) ∙ sym same))
one_desk (c ∷ ds) d e apart (inr i) (inr j) same = one_desk ds d e apart.1 i j same

-- none is larger before
pub fewer_before : (ds es : List Desk) → Both IsLater ds es → (a : Actor) → entries_at ds a ≤ entries_at es a
fewer_before [] [] h a = omega arith
fewer_before [] (e ∷ es) h a = absurd h
fewer_before (d ∷ ds) [] h a = absurd h
fewer_before (d ∷ ds) (e ∷ es) h a =
    subst (λ x. entries_at (d ∷ ds) a ≤ cond (same_actor x a) (length e.part.items) (entries_at es a)) (sym h.0.actor)
    (cond_both (same_actor d.actor a) (length d.part.items) (entries_at ds a) (λ n. n ≤ cond (same_actor d.actor a) (length e.part.items) (entries_at es a))
    (λ t. subst (λ b. length d.part.items ≤ cond b (length e.part.items) (entries_at es a)) (sym t) (prefix_length d.part.items e.part.items h.0.part))
    (λ t. subst (λ b. entries_at ds a ≤ cond b (length e.part.items) (entries_at es a)) (sym t) (fewer_before ds es h.1 a)))

no_entries : (ds es : List Desk) → Both IsLater ds es → (a : Actor) → AllByRecursion (λ (p : ActorPart). p.actor ≢ a) (map part_of es) → entries_at ds a ≡ 0
no_entries [] [] h a none = refl
no_entries [] (e ∷ es) h a none = absurd h
no_entries (d ∷ ds) [] h a none = absurd h
no_entries (d ∷ ds) (e ∷ es) h a none =
    cond_both (same_actor d.actor a) (length d.part.items) (entries_at ds a) (λ n. n ≡ 0)
    (λ t. absurd (none.0 (h.0.actor ∙ same_actor_is d.actor a t)))
    (λ t. no_entries ds es h.1 a none.1)

-- the parts have the entries of the moment before
pub have_cut : (xs ys : List Crew) → AreLater xs ys → IsDistinct same_actor (map (λ (x : Desk). x.actor) (desks_of xs)) → HaveCut (parts_of ys) (cut_of xs)
have_cut xs ys h apart =
    let l = later_desks xs ys h in
    record {
      within = each_of_map part_of (λ (p : ActorPart). cut_of xs p.actor ≤ length p.part) (desks_of ys)
          (each_all (λ (e : Desk). cut_of xs e.actor ≤ length e.part.items) (desks_of ys)
          (λ e i.
          let d = both_back IsLater (desks_of xs) (desks_of ys) e l i in
          let n : cut_of xs e.actor ≡ length d.0.part.items = ap (cut_of xs) d.2.actor ∙ entries_of_desk (desks_of xs) d.0 apart d.1 in
          omega (arith, n, prefix_length d.0.part.items e.part.items d.2.part)));
      others = λ a none. no_entries (desks_of xs) (desks_of ys) l a none;
    }

pub all_parts : (script : Script) (crews : List Crew) → HaveAllActors script crews → HasAllActors script (parts_of crews)
all_parts script crews h a known = let d = h.all a known in (part_of d.0, in_map part_of (desks_of crews) d.0 d.1, sym d.2)

pub actors_of_parts : (ds : List Desk) → actors_in (map part_of ds) ≡ map (λ (d : Desk). d.actor) ds
actors_of_parts ds = map_map part_of (λ (p : ActorPart). p.actor) ds
