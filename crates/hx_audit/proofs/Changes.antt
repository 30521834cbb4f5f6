-- Walking down a history, newest first.
use Rattle.std.proofs.Common.{◌≡◌, ℕ, ◌⊎◌, inl, inr, Bool, false, not, ◌&&◌, ◌||◌, List, [], ◌∷◌, ◌++◌, map, reverse}
use Rattle.std.proofs.Common.{length, Option, None, Some, refl, sym, ap, ◌∙◌, subst, arith}
use Rattle.std.specs.List.{list_any}
use Rattle.std.proofs.lemmas.Bool.{not-true}
use Rattle.std.proofs.lemmas.List.{reverse-append}
use Rattle.hx_model.specs.Types.{Item, Row, Value}
use Rattle.hx_types.specs.Words.{IsIn}
use Rattle.hx_model.specs.Searching.{FinishedSearch, IsShown, ItemWithNewer, changes_object, items_with_newer}
use Rattle.hx_report_lines.specs.declared.blocks.Block.{Block}
use Rattle.hx_report_lines.specs.declared.histories.ItemLine.{ItemLine}
use Rattle.hx_audit.specs.Accounts.{ended_before}
use Rattle.hx_audit.specs.Told.{account_of, item_told}
use Rattle.hx_audit.specs.Walking.{HasCut, IsChangeOf, IsCutFrom, IsCutOf, IsObjectShown}

map_last : {A B : Type 0} (f : A → B) (xs : List A) (x : A) → map f (xs ++ x ∷ []) ≡ map f xs ++ f x ∷ []
map_last f [] x = refl
map_last f (y ∷ ys) x = ap (λ (l : List _). f y ∷ l) (map_last f ys x)

-- a history newest first
abbrev pub told : Block → List ItemLine → List Item
told b lines = reverse (map (item_told b.calls) lines)

pub told_last : (b : Block) (rest older : List ItemLine) (x : ItemLine) → rest ≡ older ++ x ∷ [] → told b rest ≡ item_told b.calls x ∷ told b older
told_last b rest older x e = ap (told b) e ∙ ap reverse (map_last (item_told b.calls) older x)
    ∙ reverse-append (map (item_told b.calls) older) (item_told b.calls x ∷ [])

pub told_none : (b : Block) (rest : List ItemLine) → length rest ≡ 0 → told b rest ≡ []
told_none b [] e = refl
told_none b (x ∷ rest) e = absurd (omega (arith, e))

-- whether an object is shown goes by its version alone
pub shown_from : (s : FinishedSearch) (key : List ℕ) (y : Item) (o : Option (List Value)) → IsObjectShown s key y.version o → IsShown s key y o
shown_from s key y None h = tt
shown_from s key y (Some object) h = h

pub shown_to : (s : FinishedSearch) (key : List ℕ) (y : Item) (o : Option (List Value)) → IsShown s key y o → IsObjectShown s key y.version o
shown_to s key y None h = tt
shown_to s key y (Some object) h = h

module _ (b : Block) (s : FinishedSearch) (r : Row) where
  pub cut_begun : (items : List ItemLine) → IsCutFrom b s r items items false
  cut_begun items = record { newer = []; over_is = refl; into = λ h. h; back = λ h. h }

  is_cut : (newer : List Item) (x : ItemLine) → list_any
      (λ (y : Item). changes_object y && ended_before (account_of b) y.caller s.begin) newer ≡ false
      → IsChangeOf b s r x → IsCutOf (account_of b) s r (record { item = item_told b.calls x; newer = newer })
  is_cut newer x over c = record { changes = c.changes; version = c.version; object = c.object; began = c.began; newest = ap not over }

  -- the change of the row, where none above was over
  pub cut_here : (items rest older : List ItemLine) (x : ItemLine) (over : Bool) → IsCutFrom b s r items rest over
      → rest ≡ older ++ x ∷ [] → over ≡ false → IsChangeOf b s r x → HasCut (account_of b) s r [] (told b items)
  cut_here items rest older x over w e apart c =
      w.into (subst (HasCut (account_of b) s r w.newer) (sym (told_last b rest older x e))
      (record { cut = record { item = item_told b.calls x; newer = w.newer }; stands = inl refl; is = is_cut w.newer x (sym w.over_is ∙ apart) c }))

  -- another item is passed
  pub cut_past : (items rest older : List ItemLine) (x : ItemLine) (over new : Bool) → IsCutFrom b s r items rest over → rest ≡ older ++ x ∷ []
      → new ≡ ((changes_object (item_told b.calls x) && ended_before (account_of b) x.caller s.begin) || over)
      → ((over ≡ false) × IsChangeOf b s r x → ⊥) → IsCutFrom b s r items older new
  cut_past items rest older x over new w e n apart =
      record {
        newer = item_told b.calls x ∷ w.newer;
        over_is = n ∙ ap (λ t. (changes_object (item_told b.calls x) && ended_before (account_of b) x.caller s.begin) || t) w.over_is;
        into = λ h. w.into (subst (HasCut (account_of b) s r w.newer) (sym (told_last b rest older x e))
            (record { cut = h.cut; stands = inr h.stands; is = h.is }));
        back = λ h. further (subst (HasCut (account_of b) s r w.newer) (told_last b rest older x e) (w.back h));
      }
    where
      not_here : (cut : ItemWithNewer) → cut ≡ record { item = item_told b.calls x; newer = w.newer } → IsCutOf (account_of b) s r cut → ⊥
      not_here cut q is =
          let here = subst (IsCutOf (account_of b) s r) q is in
          apart (
            w.over_is ∙ not-true (list_any (λ (y : Item). changes_object y
                && ended_before (account_of b) y.caller s.begin) w.newer) here.newest,
            record { changes = here.changes; version = here.version; object = here.object; began = here.began },
          )

      further : HasCut (account_of b) s r w.newer (item_told b.calls x ∷ told b older)
          → HasCut (account_of b) s r (item_told b.calls x ∷ w.newer) (told b older)
      further h = by h.stands
        where
          by : (h.cut ≡ record { item = item_told b.calls x; newer = w.newer })
              ⊎ IsIn h.cut (items_with_newer (item_told b.calls x ∷ w.newer) (told b older))
              → HasCut (account_of b) s r (item_told b.calls x ∷ w.newer) (told b older)
          by (inl q) = absurd (not_here h.cut q h.is)
          by (inr i) = record { cut = h.cut; stands = i; is = h.is }

  -- an empty rest has no cut
  pub cut_end : (items rest : List ItemLine) (over : Bool) → IsCutFrom b s r items rest over → length rest ≡ 0 → HasCut (account_of b) s r [] (told b items) → ⊥
  cut_end items rest over w e h = (subst (HasCut (account_of b) s r w.newer) (told_none b rest e) (w.back h)).stands
