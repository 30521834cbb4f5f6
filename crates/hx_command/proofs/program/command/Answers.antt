-- Words that are no question are those of a command, or of none.
use Rattle.std.proofs.Common.{rules, inl}
use Rattle.hx_words.proofs.Lemmas.{says_request}
use Rattle.hx_words.specs.declared.commands.Request.TheVariants as a_request
use Rattle.hx_command.proofs.Wording.{same_question, shown}
use Rattle.hx_command.proofs.program.command.Goals as goal

pub returns-in-Some-Question-clause-shown : goal.returns-in-Some-Question-clause-shown
returns-in-Some-Question-clause-shown g c question asks =
    rw (same_question _ c.in-Some-Question.question question
    (says_request c.request_of.ensures.said c.in-Some-Question.is c.in-Some-Question.field-0-is) asks)
    (rw c.shown_text.ensures at c.show.ensures)

pub returns-in-Some-Question-clause-told : goal.returns-in-Some-Question-clause-told
returns-in-Some-Question-clause-told g c none =
    absurd (none c.in-Some-Question.question (says_request c.request_of.ensures.said c.in-Some-Question.is c.in-Some-Question.field-0-is))

pub returns-in-Some-Question-clause-fine : goal.returns-in-Some-Question-clause-fine
returns-in-Some-Question-clause-fine g c fine =
    inl (
      c.in-Some-Question.question,
      says_request c.request_of.ensures.said c.in-Some-Question.is c.in-Some-Question.field-0-is,
      shown _ _ _ (rw c.shown_text.ensures at c.show.ensures) fine,
    )

pub returns-clause-shown : goal.returns-clause-shown
returns-clause-shown g c question asks = let asked = (c.request_of.ensures.said (a_request.Question question)).1 asks in absurd (search rules)

pub returns-clause-unread : goal.returns-clause-unread
returns-clause-unread g c question asks = let asked = (c.request_of.ensures.said (a_request.Question question)).1 asks in absurd (search rules)
