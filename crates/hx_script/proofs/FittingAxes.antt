-- Subspaces that are read fit their space.
use Rattle.std.proofs.Common.{◌≡◌, ℕ, ◌+◌, ◌*◌, ◌<◌, ◌≤◌, true, false, List, [], ◌∷◌, ◌++◌, length, Ok, refl, sym, ap, ◌∙◌, arith}
use Rattle.std.specs.Prelude.{codes, not, nat_le, nat_lt}
use Rattle.std.proofs.lemmas.Bool.{leb-true, ltb-true}
use Rattle.std.proofs.lemmas.List.{length-append}
use Rattle.std.proofs.lemmas.List.Elements.{All-nil, All-push}
use Rattle.hx_types.specs.declared.limits.TheConstants.{MOST_AXES, MOST_PARTS, MOST_REGIONS}
use Rattle.hx_types.specs.declared.spaces.Axis.{Axis}
use Rattle.hx_types.specs.declared.spaces.Space.{Space}
use Rattle.hx_types.specs.Spaces.{ArePart}
use Rattle.hx_types.specs.Subspaces.{size_of, sizes_sum}
use Rattle.hx_script.specs.declared.axes.AxesDraft.{AxesDraft}
use Rattle.hx_script.specs.declared.errors.Reason.TheVariants.{Twice, Limit}
use Rattle.hx_script.specs.declared.line.Until.TheVariants as until
use Rattle.hx_script.specs.Words.{declared_number}
use Rattle.hx_script.specs.Axes.{has_axis, free_axis, parts, axis, next_axis, no_axes_yet, subspace}
use Rattle.hx_script.proofs.Naming.{MayName, yields_named, declared_is}
use Rattle.hx_script.proofs.Once.{not_true, once_more}
use Rattle.hx_script.proofs.Sections.{IsAxisOf, AxesFit, AreAxes}
use Rattle.hx_script.proofs.Yields.{Yields, Any, yields_then, yields_give, yields_check, yields_judged, yields_sign, yields_number_in, yields_repeat}

size_push : (axes : List Axis) (a : Axis) → size_of (axes ++ a ∷ []) ≡ size_of axes * a.parts
size_push [] a = grind arith
size_push (x ∷ axes) a = rw (size_push axes a) (grind arith)

pub sizes_push : (subspaces : List (List Axis)) (axes : List Axis) → sizes_sum (subspaces ++ axes ∷ []) ≡ sizes_sum subspaces + size_of axes
sizes_push [] axes = omega arith
sizes_push (x ∷ rest) axes = omega (arith, sizes_push rest axes)

record IsFreeAxis (space : Space) (axes : List Axis) (a : ℕ) : Type 0 where
  pub is : (0 < a) × (a ≤ length space.attributes)
  pub new : has_axis axes a ≡ false
  pub room : length axes < MOST_AXES

yields_free_axis : (space : Space) (axes : List Axis) → Yields (free_axis space axes) (IsFreeAxis space axes)
unfolding free_axis
yields_free_axis space axes = yields_then MayName yields_named
    (λ w m. yields_then (λ a. declared_number space w ≡ Ok a) (yields_judged (declared_number space w))
    (λ a d. yields_then (λ u. not (has_axis axes a) ≡ true) (yields_check (not (has_axis axes a)) Twice)
    (λ u n. yields_then (λ u. nat_lt (length axes) MOST_AXES ≡ true) (yields_check (nat_lt (length axes) MOST_AXES) Limit)
    (λ u r. yields_give a (record {
      is = declared_is space w a d;
      new = not_true (has_axis axes a) n;
      room = ltb-true (length axes) MOST_AXES r;
    })))))

record AreParts (regions size n : ℕ) : Type 0 where
  pub is : ArePart n
  pub room : regions + size * n ≤ MOST_REGIONS

yields_parts : (regions size : ℕ) → Yields (parts regions size) (AreParts regions size)
unfolding parts
yields_parts regions size = yields_then (λ n. (1 ≤ n) × (n ≤ MOST_PARTS)) (yields_number_in 1 MOST_PARTS)
    (λ n h. yields_then (λ u. nat_le (regions + size * n) MOST_REGIONS ≡ true)
    (yields_check (nat_le (regions + size * n) MOST_REGIONS) Limit)
    (λ u r. yields_give n (record { is = h; room = leb-true (regions + size * n) MOST_REGIONS r })))

-- axes, perhaps none
record IsAxesDraft (space : Space) (c : AxesDraft) : Type 0 where
  pub fit : AxesFit (length space.attributes) c.axes
  pub size : c.size ≡ size_of c.axes

-- axes, with the regions that they make
pub record DraftFits (space : Space) (regions : ℕ) (c : AxesDraft) : Type 0 where
  pub axes : AreAxes (length space.attributes) c.axes
  pub size : c.size ≡ size_of c.axes
  pub room : regions + c.size ≤ MOST_REGIONS

longer : (axes : List Axis) (a : Axis) → length axes < MOST_AXES → (0 < length (axes ++ a ∷ [])) × (length (axes ++ a ∷ []) ≤ MOST_AXES)
longer axes a lt = (omega (arith, length-append axes (a ∷ [])), omega (arith, lt, length-append axes (a ∷ [])))

axis_fits : (space : Space) (regions : ℕ) (c : AxesDraft) (a n : ℕ) → IsAxesDraft space c → IsFreeAxis space c.axes a
    → AreParts regions c.size n → DraftFits space regions
    (record { axes = c.axes ++ record { attribute = a; parts = n } ∷ []; size = c.size * n })
axis_fits space regions c a n fits free part =
    let x : Axis = record { attribute = a; parts = n } in
    record {
      axes = record {
        fit = record {
          each = All-push (IsAxisOf (length space.attributes)) c.axes x fits.fit.each (free.is.0, free.is.1, part.is);
          once = once_more (λ (y : Axis). y.attribute) c.axes x fits.fit.once free.new;
          few = (longer c.axes x free.room).1;
        };
        some = (longer c.axes x free.room).0;
      };
      size = ap (λ s. s * n) fits.size ∙ sym (size_push c.axes x);
      room = part.room;
    }

yields_axis : (space : Space) (regions : ℕ) (c : AxesDraft) → IsAxesDraft space c → Yields (axis space regions c) (DraftFits space regions)
unfolding axis
yields_axis space regions c fits = yields_then (IsFreeAxis space c.axes) (yields_free_axis space c.axes)
    (λ a f. yields_then (AreParts regions c.size) (yields_parts regions c.size)
    (λ n p. yields_give (record { axes = c.axes ++ record { attribute = a; parts = n } ∷ []; size = c.size * n })
    (axis_fits space regions c a n fits f p)))

yields_next : (space : Space) (regions : ℕ) (c : AxesDraft) → DraftFits space regions c → Yields (next_axis space regions c) (DraftFits space regions)
unfolding next_axis
yields_next space regions c fits = yields_then Any (yields_sign (codes ","))
    (λ u t. yields_axis space regions c (record { fit = fits.axes.fit; size = fits.size }))

no_axes : (space : Space) → IsAxesDraft space no_axes_yet
no_axes space = record { fit = record { each = All-nil (IsAxisOf (length space.attributes)); once = tt; few = omega arith }; size = refl }

pub yields_subspace : (space : Space) (regions : ℕ) → Yields (subspace space regions) (DraftFits space regions)
unfolding subspace
yields_subspace space regions = yields_then (DraftFits space regions)
    (yields_axis space regions no_axes_yet (no_axes space))
    (λ first f. yields_repeat (DraftFits space regions) until.End (next_axis space regions)
    (λ b q. yields_next space regions b q) first f)
