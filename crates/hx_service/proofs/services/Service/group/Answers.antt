-- The search is answered or not; then its rows are of the space, and their puts are made.
use Rattle.std.proofs.Common.{inl, inr, List, refl, sym, ap, ◌∙◌, subst}
use Rattle.hx_types.specs.declared.calls.Answer.TheVariants as an_answer
use Rattle.hx_model.specs.Types.{Row, Search, Term}
use Rattle.hx_service.specs.declared.errors.ServiceError.TheVariants as an_error
use Rattle.hx_service.specs.Groups.{FailsAt}
use Rattle.hx_service.specs.Services.{IsAnswered}
use Rattle.hx_service.proofs.Made.{on, one, still}
use Rattle.hx_service.proofs.Puts.{all-grouped, all-stopped, may-on, no-rows, not-searched, rows-here, without-rows}
use Rattle.hx_service.proofs.services.Service.group.Goals as goal

pub returns-in_default-clause-stopped : goal.returns-in_default-clause-stopped
returns-in_default-clause-stopped c =
    not-searched c.args.self.now c.args.session c.args.sets.now c.args.terms.now c.args.self.now an_error.Memory (inr (refl, refl)) (still c.args.self.now)

pub returns-in-Err-clause-stopped : goal.returns-in-Err-clause-stopped
returns-in-Err-clause-stopped c =
    let fails = subst (λ (ts : List Term). FailsAt c.args.self.now c.args.session
    (Search ts) c.call.new.self c.in-Err.error) c.in-Ok.ensures (inl c.in-Err.ensures.calls) in
    not-searched c.args.self.now c.args.session c.args.sets.now c.args.terms.now c.call.new.self c.in-Err.error fails c.call.ensures.grows

pub put_rows-requires-clause-may : goal.put_rows-requires-clause-may
put_rows-requires-clause-may c =
    may-on c.args.self.now c.args.session c.args.sets.now c.call.new.self
    (Search c.in-Ok.terms) c.in-Ok-call.found c.requires.session c.in-Ok-call.ensures.calls.0
    c.trace.ensures.run c.call.ensures.grows c.requires.sets c.requires.some

pub put_rows-requires-clause-rows : goal.put_rows-requires-clause-rows
put_rows-requires-clause-rows c =
    rows-here c.args.self.now c.call.new.self c.args.session c.in-Ok.terms c.in-Ok-call.found c.as_slice.result.now
    c.requires.session c.in-Ok-call.ensures.calls.0
    c.trace.ensures.valid c.trace.ensures.lawful (c.in-Rows.is ∙ ap (λ (rows : List Row). an_answer.Rows rows) (sym c.as_slice.ensures))

pub returns-in-Rows-clause-grouped : goal.returns-in-Rows-clause-grouped
returns-in-Rows-clause-grouped c =
    let answered = subst (λ (ts : List Term). IsAnswered c.args.self.now c.args.session
    (Search ts) c.call.new.self c.in-Ok-call.found) c.in-Ok.ensures c.in-Ok-call.ensures.calls.0 in
    let made = one c.args.self.now c.call.new.self c.args.session
    (Search c.args.terms.now) c.in-Ok-call.found c.requires.session answered c.call.ensures.grows in
    all-grouped c.args.self.now c.args.session c.args.sets.now c.args.terms.now c.call.new.self c.in-Ok-call.found made c.as_slice.result.now
    (c.in-Rows.is ∙ ap (λ (rows : List Row). an_answer.Rows rows) (sym c.as_slice.ensures)) c.put_rows.new.service c.put_rows.result c.put_rows.ensures.put

pub returns-in-Rows-clause-stopped : goal.returns-in-Rows-clause-stopped
returns-in-Rows-clause-stopped c =
    let answered = subst (λ (ts : List Term). IsAnswered c.args.self.now c.args.session
    (Search ts) c.call.new.self c.in-Ok-call.found) c.in-Ok.ensures c.in-Ok-call.ensures.calls.0 in
    let made = one c.args.self.now c.call.new.self c.args.session
    (Search c.args.terms.now) c.in-Ok-call.found c.requires.session answered c.call.ensures.grows in
    all-stopped c.args.self.now c.args.session c.args.sets.now c.args.terms.now c.call.new.self c.in-Ok-call.found made c.as_slice.result.now
    (c.in-Rows.is ∙ ap (λ (rows : List Row). an_answer.Rows rows) (sym c.as_slice.ensures)) c.put_rows.new.service c.put_rows.result c.put_rows.ensures.stopped

pub returns-in-Rows-clause-grows : goal.returns-in-Rows-clause-grows
returns-in-Rows-clause-grows c = on c.args.self.now c.call.new.self c.put_rows.new.service c.call.ensures.grows c.put_rows.ensures.grows

pub returns : goal.returns
returns c =
    let answered = subst (λ (ts : List Term). IsAnswered c.args.self.now c.args.session
    (Search ts) c.call.new.self c.in-Ok-call.found) c.in-Ok.ensures c.in-Ok-call.ensures.calls.0 in
    let made = one c.args.self.now c.call.new.self c.args.session
    (Search c.args.terms.now) c.in-Ok-call.found c.requires.session answered c.call.ensures.grows in
    let may = may-on c.args.self.now c.args.session c.args.sets.now c.call.new.self (Search c.args.terms.now) c.in-Ok-call.found c.requires.session answered
    c.trace.ensures.run c.call.ensures.grows c.requires.sets c.requires.some in
    let none = no-rows c.in-Ok-call.found.answer c.in_default-answer.not-Rows in
    record {
      grouped = without-rows c.args.self.now c.args.session c.args.sets.now c.args.terms.now c.call.new.self
          c.in-Ok-call.found made (record { done = 0; left = 0 }) none refl refl may;
      stopped = tt;
      grows = c.call.ensures.grows;
    }
