-- A run has 16 fates, the words of a soak say how many drivers it has, and no other words say any.
use Rattle.std.proofs.Common.{rules, ◌≡◌, ◌≤◌, sym, subst, arith}
use Rattle.hx_words.proofs.Lemmas.{says_request}
use Rattle.hx_words.specs.declared.commands.Request.TheVariants as a_request
use Rattle.hx_words.specs.declared.commands.Soak.{Soak}
use Rattle.hx_command.proofs.Wording.{not_both, same_soak}
use Rattle.hx_command.proofs.program.drivers_of.Goals as goal

as_many_soak : (a b : Soak) → b ≡ a → b.workers ≤ a.workers
as_many_soak a b same = subst (λ (s : Soak). s.workers ≤ a.workers) (sym same) (omega arith)

pub returns-in-Some-Run : goal.returns-in-Some-Run
returns-in-Some-Run c =
    record {
      run = λ run says. omega arith;
      soak = λ soak says. absurd (not_both _ c.in-Some-Run.run' soak (says_request c.request_of.ensures.said c.in-Some-Run.is c.in-Some-Run.field-0-is) says);
    }

pub returns-in-Some-Soak : goal.returns-in-Some-Soak
returns-in-Some-Soak c =
    let said = says_request c.request_of.ensures.said c.in-Some-Soak.is c.in-Some-Soak.field-0-is in
    record {
      run = λ run says. absurd (not_both _ run c.in-Some-Soak.soak says said);
      soak = λ soak says. as_many_soak c.in-Some-Soak.soak soak (same_soak _ c.in-Some-Soak.soak soak said says);
    }

pub returns-in_default : goal.returns-in_default
returns-in_default c =
    record {
      run = λ run says. let asked = (c.request_of.ensures.said (a_request.Run run)).1 says in absurd (search rules);
      soak = λ soak says. let asked = (c.request_of.ensures.said (a_request.Soak soak)).1 says in absurd (search rules);
    }

pub returns-in_default-2 : goal.returns-in_default-2
returns-in_default-2 c =
    record {
      run = λ run says. let asked = (c.request_of.ensures.said (a_request.Run run)).1 says in absurd (search rules);
      soak = λ soak says. let asked = (c.request_of.ensures.said (a_request.Soak soak)).1 says in absurd (search rules);
    }
