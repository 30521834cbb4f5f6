-- The words ask for a run, for a soak, for a share, or for none of these.
use Rattle.std.proofs.Common.{rules, inl, inr}
use Rattle.hx_words.proofs.Lemmas.{limits_of, says_request}
use Rattle.hx_words.specs.declared.commands.Request.TheVariants as a_request
use Rattle.hx_command.proofs.Wording.{audit_answered, no_run_shares, no_soak_shares, not_both, ran_at, same_run, same_soak, shared_at, soaked_at}
use Rattle.hx_command.proofs.top.hyperstore.Goals as goal

-- ---- a run
pub run_words-requires-clause-fates : goal.run_words-requires-clause-fates
run_words-requires-clause-fates g c κs within =
    c.requires.run c.in-Some-Run.command (says_request c.request_of.ensures.said c.in-Some-Run.is c.in-Some-Run.field-0-is)

pub run_words-requires-clause-limits : goal.run_words-requires-clause-limits
run_words-requires-clause-limits g c κs within = limits_of c.request_of.ensures.limits c.in-Some-Run.is c.in-Some-Run.field-0-is

pub returns-in-Some-Run-clause-fine : goal.returns-in-Some-Run-clause-fine
returns-in-Some-Run-clause-fine g c is =
    let ends = c.run_words.ensures.run in
    inr (inr (inl (record {
      command = c.in-Some-Run.command;
      says = says_request c.request_of.ensures.said c.in-Some-Run.is c.in-Some-Run.field-0-is;
      scripted = ends.0;
      ends = ran_at _ _ _ _ _ _ is ends.1;
    })))

pub returns-in-Some-Run-clause-alone : goal.returns-in-Some-Run-clause-alone
returns-in-Some-Run-clause-alone g c unthreaded =
    absurd (unthreaded.no_run c.in-Some-Run.command (says_request c.request_of.ensures.said c.in-Some-Run.is c.in-Some-Run.field-0-is))

pub returns-in-Some-Run-clause-empty : goal.returns-in-Some-Run-clause-empty
returns-in-Some-Run-clause-empty g c unthreaded =
    absurd (unthreaded.no_run c.in-Some-Run.command (says_request c.request_of.ensures.said c.in-Some-Run.is c.in-Some-Run.field-0-is))

pub returns-in-Some-Run-clause-run : goal.returns-in-Some-Run-clause-run
returns-in-Some-Run-clause-run g c command says =
    rw (same_run _ c.in-Some-Run.command command (says_request c.request_of.ensures.said c.in-Some-Run.is
    c.in-Some-Run.field-0-is) says) c.run_words.ensures.run

pub returns-in-Some-Run-clause-soak : goal.returns-in-Some-Run-clause-soak
returns-in-Some-Run-clause-soak g c command says =
    absurd (not_both _ c.in-Some-Run.command command (says_request c.request_of.ensures.said c.in-Some-Run.is c.in-Some-Run.field-0-is) says)

pub returns-in-Some-Run-clause-soaked : goal.returns-in-Some-Run-clause-soaked
returns-in-Some-Run-clause-soaked g c command says still =
    absurd (not_both _ c.in-Some-Run.command command (says_request c.request_of.ensures.said c.in-Some-Run.is c.in-Some-Run.field-0-is) says)

pub returns-in-Some-Run-clause-unread : goal.returns-in-Some-Run-clause-unread
returns-in-Some-Run-clause-unread g c command says =
    absurd (not_both _ c.in-Some-Run.command command (says_request c.request_of.ensures.said c.in-Some-Run.is c.in-Some-Run.field-0-is) says)

pub returns-in-Some-Run-clause-share : goal.returns-in-Some-Run-clause-share
returns-in-Some-Run-clause-share g c command says =
    absurd (no_run_shares _ c.in-Some-Run.command command (says_request c.request_of.ensures.said c.in-Some-Run.is c.in-Some-Run.field-0-is) says)

pub returns-in-Some-Run-clause-share_decided : goal.returns-in-Some-Run-clause-share_decided
returns-in-Some-Run-clause-share_decided g c command says =
    absurd (no_run_shares _ c.in-Some-Run.command command (says_request c.request_of.ensures.said c.in-Some-Run.is c.in-Some-Run.field-0-is) says)

-- ---- a soak
pub soak_words-requires-clause-fates : goal.soak_words-requires-clause-fates
soak_words-requires-clause-fates g c κs within =
    c.requires.soak c.in-Some-Soak.command (says_request c.request_of.ensures.said c.in-Some-Soak.is c.in-Some-Soak.field-0-is)

pub soak_words-requires-clause-limits : goal.soak_words-requires-clause-limits
soak_words-requires-clause-limits g c κs within = limits_of c.request_of.ensures.limits c.in-Some-Soak.is c.in-Some-Soak.field-0-is

pub returns-in-Some-Soak-clause-fine : goal.returns-in-Some-Soak-clause-fine
returns-in-Some-Soak-clause-fine g c is =
    inr (inr (inr (inl (record {
      command = c.in-Some-Soak.command;
      says = says_request c.request_of.ensures.said c.in-Some-Soak.is c.in-Some-Soak.field-0-is;
      ends = soaked_at _ _ _ _ is c.soak_words.ensures.soak;
    }))))

pub returns-in-Some-Soak-clause-alone : goal.returns-in-Some-Soak-clause-alone
returns-in-Some-Soak-clause-alone g c unthreaded =
    absurd (unthreaded.no_soak c.in-Some-Soak.command (says_request c.request_of.ensures.said c.in-Some-Soak.is c.in-Some-Soak.field-0-is))

pub returns-in-Some-Soak-clause-empty : goal.returns-in-Some-Soak-clause-empty
returns-in-Some-Soak-clause-empty g c unthreaded =
    absurd (unthreaded.no_soak c.in-Some-Soak.command (says_request c.request_of.ensures.said c.in-Some-Soak.is c.in-Some-Soak.field-0-is))

pub returns-in-Some-Soak-clause-run : goal.returns-in-Some-Soak-clause-run
returns-in-Some-Soak-clause-run g c command says =
    absurd (not_both _ command c.in-Some-Soak.command says (says_request c.request_of.ensures.said c.in-Some-Soak.is c.in-Some-Soak.field-0-is))

pub returns-in-Some-Soak-clause-decided : goal.returns-in-Some-Soak-clause-decided
returns-in-Some-Soak-clause-decided g c command says =
    absurd (not_both _ command c.in-Some-Soak.command says (says_request c.request_of.ensures.said c.in-Some-Soak.is c.in-Some-Soak.field-0-is))

pub returns-in-Some-Soak-clause-soak : goal.returns-in-Some-Soak-clause-soak
returns-in-Some-Soak-clause-soak g c command says =
    rw (same_soak _ c.in-Some-Soak.command command
    (says_request c.request_of.ensures.said c.in-Some-Soak.is c.in-Some-Soak.field-0-is) says)
    (c.soak_words.ensures.soak, c.soak_words.ensures.risen)

pub returns-in-Some-Soak-clause-share : goal.returns-in-Some-Soak-clause-share
returns-in-Some-Soak-clause-share g c command says =
    absurd (no_soak_shares _ c.in-Some-Soak.command command (says_request c.request_of.ensures.said c.in-Some-Soak.is c.in-Some-Soak.field-0-is) says)

pub returns-in-Some-Soak-clause-share_decided : goal.returns-in-Some-Soak-clause-share_decided
returns-in-Some-Soak-clause-share_decided g c command says =
    absurd (no_soak_shares _ c.in-Some-Soak.command command (says_request c.request_of.ensures.said c.in-Some-Soak.is c.in-Some-Soak.field-0-is) says)

-- ---- a share
pub share_words-requires-clause-limits : goal.share_words-requires-clause-limits
share_words-requires-clause-limits g c κs within = limits_of c.request_of.ensures.limits c.in-Some-Share.is c.in-Some-Share.field-0-is

pub returns-in-Some-Share-clause-fine : goal.returns-in-Some-Share-clause-fine
returns-in-Some-Share-clause-fine g c is =
    let ends = c.share_words.ensures.share in
    inr (inr (inr (inr (record {
      command = c.in-Some-Share.command;
      says = says_request c.request_of.ensures.said c.in-Some-Share.is c.in-Some-Share.field-0-is;
      script = ends.0;
      ends = shared_at _ _ _ _ _ is ends.1;
    }))))

pub returns-in-Some-Share-clause-alone : goal.returns-in-Some-Share-clause-alone
returns-in-Some-Share-clause-alone g c unthreaded =
    absurd (unthreaded.no_share c.in-Some-Share.command (says_request c.request_of.ensures.said c.in-Some-Share.is c.in-Some-Share.field-0-is))

pub returns-in-Some-Share-clause-empty : goal.returns-in-Some-Share-clause-empty
returns-in-Some-Share-clause-empty g c unthreaded =
    absurd (unthreaded.no_share c.in-Some-Share.command (says_request c.request_of.ensures.said c.in-Some-Share.is c.in-Some-Share.field-0-is))

pub returns-in-Some-Share-clause-run : goal.returns-in-Some-Share-clause-run
returns-in-Some-Share-clause-run g c command says =
    absurd (no_run_shares _ command c.in-Some-Share.command says (says_request c.request_of.ensures.said c.in-Some-Share.is c.in-Some-Share.field-0-is))

pub returns-in-Some-Share-clause-decided : goal.returns-in-Some-Share-clause-decided
returns-in-Some-Share-clause-decided g c command says =
    absurd (no_run_shares _ command c.in-Some-Share.command says (says_request c.request_of.ensures.said c.in-Some-Share.is c.in-Some-Share.field-0-is))

pub returns-in-Some-Share-clause-soak : goal.returns-in-Some-Share-clause-soak
returns-in-Some-Share-clause-soak g c command says =
    absurd (no_soak_shares _ command c.in-Some-Share.command says (says_request c.request_of.ensures.said c.in-Some-Share.is c.in-Some-Share.field-0-is))

pub returns-in-Some-Share-clause-soaked : goal.returns-in-Some-Share-clause-soaked
returns-in-Some-Share-clause-soaked g c command says still =
    absurd (no_soak_shares _ command c.in-Some-Share.command says (says_request c.request_of.ensures.said c.in-Some-Share.is c.in-Some-Share.field-0-is))

pub returns-in-Some-Share-clause-unread : goal.returns-in-Some-Share-clause-unread
returns-in-Some-Share-clause-unread g c command says =
    absurd (no_soak_shares _ command c.in-Some-Share.command says (says_request c.request_of.ensures.said c.in-Some-Share.is c.in-Some-Share.field-0-is))

-- ---- other words
pub returns-clause-fine : goal.returns-clause-fine
returns-clause-fine g c =
    let e = c.hyperstore_alone.ensures in
    rw c.without_threads.ensures.done
    (λ is. elim (e.fine is) [
      | inl says ↦ inr (inl (audit_answered _ _ _ c.hyperstore_alone.result.outcome says is (e.audited says)))
      | inr w ↦ inl (record {
        unthreaded = record {
          no_run = λ command says. let asked = (c.request_of.ensures.said (a_request.Run command)).1 says in search rules;
          no_soak = λ command says. let asked = (c.request_of.ensures.said (a_request.Soak command)).1 says in search rules;
          no_share = λ command says. let asked = (c.request_of.ensures.said (a_request.Share command)).1 says in search rules;
        };
        writes = w;
      })
    ])

pub returns-clause-alone : goal.returns-clause-alone
returns-clause-alone g c unthreaded =
    let e = c.hyperstore_alone.ensures in
    rw c.without_threads.ensures.done (record {
      fine = e.fine;
      usage = e.usage;
      refused = e.refused;
      too_large = e.too_large;
      read_fault = e.read_fault;
      write_fault = λ is. (e.write_fault is, e.prefix is);
      worn = e.worn;
      decided = e.decided;
      audited = e.audited;
      audit_decided = e.audit_decided;
      audit_traces = e.audit_traces;
    })

pub returns-clause-run : goal.returns-clause-run
returns-clause-run g c command says = let asked = (c.request_of.ensures.said (a_request.Run command)).1 says in absurd (search rules)

pub returns-clause-decided : goal.returns-clause-decided
returns-clause-decided g c command says = let asked = (c.request_of.ensures.said (a_request.Run command)).1 says in absurd (search rules)

pub returns-clause-soak : goal.returns-clause-soak
returns-clause-soak g c command says = let asked = (c.request_of.ensures.said (a_request.Soak command)).1 says in absurd (search rules)

pub returns-clause-soaked : goal.returns-clause-soaked
returns-clause-soaked g c command says still = let asked = (c.request_of.ensures.said (a_request.Soak command)).1 says in absurd (search rules)

pub returns-clause-unread : goal.returns-clause-unread
returns-clause-unread g c command says = let asked = (c.request_of.ensures.said (a_request.Soak command)).1 says in absurd (search rules)

pub returns-clause-share : goal.returns-clause-share
returns-clause-share g c command says = let asked = (c.request_of.ensures.said (a_request.Share command)).1 says in absurd (search rules)

pub returns-clause-share_decided : goal.returns-clause-share_decided
returns-clause-share_decided g c command says = let asked = (c.request_of.ensures.said (a_request.Share command)).1 says in absurd (search rules)
