-- The words ask for a command, for an audit, or for neither.
use Rattle.std.proofs.Common.{rules, ◌∙◌, inl, inr, refl, sym}
use Rattle.hx_words.proofs.Lemmas.{says_request}
use Rattle.hx_words.specs.declared.commands.Request.TheVariants as a_request
use Rattle.hx_replay.proofs.Verdicts.{command_decided, decided, ends_at, none_decided, not_both}
use Rattle.hx_replay.proofs.alone.hyperstore_alone.Goals as goal

-- ---- a command
pub returns-in-Some-Command-clause-fine : goal.returns-in-Some-Command-clause-fine
returns-in-Some-Command-clause-fine g c is = inr
    (c.answer_command.ensures.fine _ (says_request c.request_of.ensures.said c.in-Some-Command.is
    c.in-Some-Command.field-0-is) is)

pub returns-in-Some-Command-clause-audited : goal.returns-in-Some-Command-clause-audited
returns-in-Some-Command-clause-audited g c audit =
    absurd (not_both _ _ (says_request c.request_of.ensures.said c.in-Some-Command.is c.in-Some-Command.field-0-is) audit)

pub returns-in-Some-Command-clause-audit_decided : goal.returns-in-Some-Command-clause-audit_decided
returns-in-Some-Command-clause-audit_decided g c audit =
    absurd (not_both _ _ (says_request c.request_of.ensures.said c.in-Some-Command.is c.in-Some-Command.field-0-is) audit)

pub returns-in-Some-Command-clause-audit_traces : goal.returns-in-Some-Command-clause-audit_traces
returns-in-Some-Command-clause-audit_traces g c audit =
    absurd (not_both _ _ (says_request c.request_of.ensures.said c.in-Some-Command.is c.in-Some-Command.field-0-is) audit)

pub returns-in-Some-Command-clause-usage : goal.returns-in-Some-Command-clause-usage
returns-in-Some-Command-clause-usage g c = (
  λ usage. absurd (c.answer_command.ensures.usage usage),
  λ none. absurd (none.0 _ (says_request c.request_of.ensures.said c.in-Some-Command.is c.in-Some-Command.field-0-is)),
)

pub returns-in-Some-Command-clause-refused : goal.returns-in-Some-Command-clause-refused
returns-in-Some-Command-clause-refused g c line reason is =
    inr (c.answer_command.ensures.refused _ (says_request c.request_of.ensures.said c.in-Some-Command.is
    c.in-Some-Command.field-0-is) line reason is)

pub returns-in-Some-Command-clause-prefix : goal.returns-in-Some-Command-clause-prefix
returns-in-Some-Command-clause-prefix g c is = inr
    (c.answer_command.ensures.prefix _ (says_request c.request_of.ensures.said c.in-Some-Command.is
    c.in-Some-Command.field-0-is) is)

pub returns-in-Some-Command-clause-worn : goal.returns-in-Some-Command-clause-worn
returns-in-Some-Command-clause-worn g c a is = c.answer_command.ensures.worn _
    (says_request c.request_of.ensures.said c.in-Some-Command.is c.in-Some-Command.field-0-is) a is

pub returns-in-Some-Command-clause-decided : goal.returns-in-Some-Command-clause-decided
returns-in-Some-Command-clause-decided g c =
    let e = c.answer_command.ensures in
    command_decided _ _ _ _ _ (says_request c.request_of.ensures.said c.in-Some-Command.is c.in-Some-Command.field-0-is) e.judged e.faulty e.complete e.wears

pub returns-in-Some-Command-clause-untouched : goal.returns-in-Some-Command-clause-untouched
returns-in-Some-Command-clause-untouched g c usage = absurd (c.answer_command.ensures.usage usage)

-- ---- the word `audit`
pub returns-in-Some-Audit-clause-fine : goal.returns-in-Some-Audit-clause-fine
returns-in-Some-Audit-clause-fine g c is = inl (says_request c.request_of.ensures.said c.in-Some-Audit.is c.in-Some-Audit.field-0-is)

pub returns-in-Some-Audit-clause-audited : goal.returns-in-Some-Audit-clause-audited
returns-in-Some-Audit-clause-audited g c says = ends_at _ _ _ _ _ c.silent.ensures.outcome refl c.audit_source.ensures.ends

pub returns-in-Some-Audit-clause-audit_decided : goal.returns-in-Some-Audit-clause-audit_decided
returns-in-Some-Audit-clause-audit_decided g c says = rw c.silent.ensures.outcome (decided _ _ _ c.audit_source.ensures.judged c.audit_source.ensures.ends)

pub returns-in-Some-Audit-clause-usage : goal.returns-in-Some-Audit-clause-usage
returns-in-Some-Audit-clause-usage g c = (
  λ usage. absurd (ends_at _ _ _ _ _ c.silent.ensures.outcome usage c.audit_source.ensures.ends),
  λ none. absurd (none.1 (says_request c.request_of.ensures.said c.in-Some-Audit.is c.in-Some-Audit.field-0-is)),
)

pub returns-in-Some-Audit-clause-refused : goal.returns-in-Some-Audit-clause-refused
returns-in-Some-Audit-clause-refused g c line reason is = inl (says_request c.request_of.ensures.said c.in-Some-Audit.is c.in-Some-Audit.field-0-is)

pub returns-in-Some-Audit-clause-too_large : goal.returns-in-Some-Audit-clause-too_large
returns-in-Some-Audit-clause-too_large g c is = ends_at _ _ _ _ _ c.silent.ensures.outcome is c.audit_source.ensures.ends

pub returns-in-Some-Audit-clause-read_fault : goal.returns-in-Some-Audit-clause-read_fault
returns-in-Some-Audit-clause-read_fault g c is = ends_at _ _ _ _ _ c.silent.ensures.outcome is c.audit_source.ensures.ends

pub returns-in-Some-Audit-clause-write_fault : goal.returns-in-Some-Audit-clause-write_fault
returns-in-Some-Audit-clause-write_fault g c is = (ends_at _ _ _ _ _ c.silent.ensures.outcome is c.audit_source.ensures.ends).3

pub returns-in-Some-Audit-clause-prefix : goal.returns-in-Some-Audit-clause-prefix
returns-in-Some-Audit-clause-prefix g c is = inl (says_request c.request_of.ensures.said c.in-Some-Audit.is c.in-Some-Audit.field-0-is)

pub returns-in-Some-Audit-clause-worn : goal.returns-in-Some-Audit-clause-worn
returns-in-Some-Audit-clause-worn g c a is = absurd (ends_at _ _ _ _ _ c.silent.ensures.outcome is c.audit_source.ensures.ends)

pub returns-in-Some-Audit-clause-decided : goal.returns-in-Some-Audit-clause-decided
returns-in-Some-Audit-clause-decided g c = none_decided _ _ _ _
    (λ command says. not_both _ command says (says_request c.request_of.ensures.said c.in-Some-Audit.is
    c.in-Some-Audit.field-0-is))

pub returns-in-Some-Audit-clause-untouched : goal.returns-in-Some-Audit-clause-untouched
returns-in-Some-Audit-clause-untouched g c usage = absurd (ends_at _ _ _ _ _ c.silent.ensures.outcome usage c.audit_source.ensures.ends)

-- ---- other words
pub returns-clause-usage : goal.returns-clause-usage
returns-clause-usage g c = (
  λ usage. (
    λ command says. let asked = (c.request_of.ensures.said (a_request.Command command)).1 says in search rules,
    λ audit. let asked = (c.request_of.ensures.said a_request.Audit).1 audit in search rules,
  ),
  λ none. c.silent-2.ensures.outcome,
)

pub returns-clause-audited : goal.returns-clause-audited
returns-clause-audited g c audit = let asked = (c.request_of.ensures.said a_request.Audit).1 audit in absurd (search rules)

pub returns-clause-audit_decided : goal.returns-clause-audit_decided
returns-clause-audit_decided g c audit = let asked = (c.request_of.ensures.said a_request.Audit).1 audit in absurd (search rules)

pub returns-clause-decided : goal.returns-clause-decided
returns-clause-decided g c = none_decided _ _ _ _ (λ command says. let asked = (c.request_of.ensures.said (a_request.Command command)).1 says in search rules)
