use Rattle.std.proofs.Common.{◌++◌, ◌∷◌, [], List, ℕ, arith, subst, sym, ◌∙◌, vec_capacity}
use Rattle.std.proofs.lemmas.Bool.{false≢true}
use Rattle.hx_store.specs.Invariant.{IsLateStore}
use Rattle.hx_store.proofs.Ordering.{open-late, open-room-late, open-rooms-late, open-states-late}
use Rattle.hx_store.proofs.Showing.{listed-stored, open-same, slot-listed, stored-some, within-is}
use Rattle.hx_store.proofs.stores.Store.ensure_slot.Goals as goal

pub returns-then-is_listed-clause-states : goal.returns-then-is_listed-clause-states
returns-then-is_listed-clause-states c =
    let es = c.self.inside.slots.entries in
    let store = c.self.invariant.store in
    let within = within-is store c.self.view_is c.args.place c.requires in
    let w = stored-some es c.args.place within in
    open-same store c.self.view_is c.args.place w.0 w.1
    (sym (listed-stored es c.args.place w.0 w.1) ∙ sym c.is_listed.ensures ∙ c.if-is_listed.true)

pub push_reserved-requires : goal.push_reserved-requires
push_reserved-requires c =
    let es = c.self.inside.slots.entries in
    let store = c.self.invariant.store in
    let within = within-is store c.self.view_is c.args.place c.requires in
    let w = stored-some es c.args.place within in
    let closed = sym (listed-stored es c.args.place w.0 w.1) ∙ sym c.is_listed.ensures ∙ c.if-is_listed.false in
    let room = open-room-late c.self.invariant c.self.view_is c.args.place w.1 closed in
    let ok = c.self.inside.order.ok.0 in
    omega (arith, room, ok)

pub invariant_of-self : goal.invariant_of-self
invariant_of-self c =
    let es = c.self.inside.slots.entries in
    let new = c.list_at.new.self.entries in
    let store = c.self.invariant.store in
    let within = within-is store c.self.view_is c.args.place c.requires in
    let w = stored-some es c.args.place within in
    let closed = sym (listed-stored es c.args.place w.0 w.1) ∙ sym c.is_listed.ensures ∙ c.if-is_listed.false in
    let done = open-late c.self.invariant c.self.view_is c.args.place w.1 closed c.list_at.ensures.listed in
    let region = c.self.inside.region in
    let marks = c.self.inside.keeps_marks in
    let sorted = c.self.inside.sorted in
    let wide = vec_capacity c.push_reserved.new.self in
    subst (λ (places : List ℕ). IsLateStore region marks new places sorted wide) (sym c.push_reserved.ensures.items)
    (subst (IsLateStore region marks new (c.self.inside.order.items ++ c.args.place ∷ []) sorted) (sym c.push_reserved.ensures.capacity) done)

pub returns-clause-states : goal.returns-clause-states
returns-clause-states c =
    let es = c.self.inside.slots.entries in
    let store = c.self.invariant.store in
    let within = within-is store c.self.view_is c.args.place c.requires in
    let w = stored-some es c.args.place within in
    let closed = sym (listed-stored es c.args.place w.0 w.1) ∙ sym c.is_listed.ensures ∙ c.if-is_listed.false in
    open-states-late c.self.invariant c.self.view_is c.args.place w.1 closed c.list_at.ensures.listed

pub returns-clause-rooms : goal.returns-clause-rooms
returns-clause-rooms c =
    let es = c.self.inside.slots.entries in
    let store = c.self.invariant.store in
    let within = within-is store c.self.view_is c.args.place c.requires in
    let w = stored-some es c.args.place within in
    let closed = sym (listed-stored es c.args.place w.0 w.1) ∙ sym c.is_listed.ensures ∙ c.if-is_listed.false in
    open-rooms-late c.self.invariant c.self.view_is c.args.place w.1 closed c.list_at.ensures.listed

-- a slot that is there already is listed
pub returns-clause-ordered : goal.returns-clause-ordered
returns-clause-ordered c = λ there.
    let es = c.self.inside.slots.entries in
    let store = c.self.invariant.store in
    let within = within-is store c.self.view_is c.args.place c.requires in
    let w = stored-some es c.args.place within in
    let closed = sym (listed-stored es c.args.place w.0 w.1) ∙ sym c.is_listed.ensures ∙ c.if-is_listed.false in
    let listed = slot-listed store c.self.view_is c.args.place w.1 in
    absurd (false≢true (sym closed ∙ sym listed ∙ there))
