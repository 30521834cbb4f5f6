use Rattle.std.proofs.Common.{◌≡◌, ◌<◌, List, arith, length, subst, sym, true, false, vec_capacity, ◌++◌, ◌∷◌, [], ℕ, ◌∙◌}
use Rattle.std.specs.List.{slice_set}
use Rattle.hx_store.specs.Indexed.{AreIndexed, is_marked}
use Rattle.hx_store.proofs.Following.{marked, marked-is, marked-room}
use Rattle.hx_store.proofs.indexed.Indexed.mark_stale.Goals as goal

pub push_reserved-requires : goal.push_reserved-requires
push_reserved-requires c =
    let marks = c.self.inside.is_stale.items in
    let found = c.in-Some-false.ensures.lookup in
    let same : c.deref.result.now ≡ marks = c.deref.ensures.value in
    let within : c.args.place < length marks = subst (λ ms. c.args.place < length ms) same found.3.0 in
    let here : is_marked c.deref.result.now c.args.place ≡ false =
    marked-is c.deref.result.now c.args.place c.in-Some-false.field-0.now found.3.0 found.1 ∙ c.in-Some-false.field-0-test
    in
    let not : is_marked marks c.args.place ≡ false = subst (λ ms. is_marked ms c.args.place ≡ false) same here in
    let places = c.self.inside.stale.items in
    let cap = vec_capacity c.self.inside.stale in
    let room = marked-room c.self.inside.index c.self.inside.rows.items marks places cap c.args.place c.self.invariant within not in
    let ok = c.self.inside.stale.ok.0 in
    omega (arith, room, ok)

pub invariant_of-self : goal.invariant_of-self
invariant_of-self c =
    let marks = c.self.inside.is_stale.items in
    let found = c.in-Some-false.ensures.lookup in
    let same : c.deref.result.now ≡ marks = c.deref.ensures.value in
    let within : c.args.place < length marks = subst (λ ms. c.args.place < length ms) same found.3.0 in
    let here : is_marked c.deref.result.now c.args.place ≡ false =
    marked-is c.deref.result.now c.args.place c.in-Some-false.field-0.now found.3.0 found.1 ∙ c.in-Some-false.field-0-test
    in
    let not : is_marked marks c.args.place ≡ false = subst (λ ms. is_marked ms c.args.place ≡ false) same here in
    let places = c.self.inside.stale.items in
    let rows = c.self.inside.rows.items in
    let cap = vec_capacity c.self.inside.stale in
    let done = marked c.self.inside.index rows marks places cap c.args.place c.self.invariant within not in
    let now = slice_set marks c.args.place true in
    subst (λ (ps : List ℕ). AreIndexed c.self.inside.index rows now ps (vec_capacity c.push_reserved.new.self)) (sym c.push_reserved.ensures.items)
    (subst (AreIndexed c.self.inside.index rows now (places ++ c.args.place ∷ [])) (sym c.push_reserved.ensures.capacity) done)
