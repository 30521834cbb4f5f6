-- What options choose is within its limits.
use Rattle.std.proofs.Common.{ℕ, ◌≤◌, List, [], ◌∷◌, Option, Some, None, sym, subst, arith}
use Rattle.std.specs.Prelude.{unwrap_or, IfSome}
use Rattle.hx_types.specs.declared.limits.TheConstants.{MOST_DRIVERS}
use Rattle.hx_words.specs.declared.options.CommandOption.{CommandOption}
use Rattle.hx_words.specs.declared.options.CommandOption.TheVariants.{Workers, Lose, Repeat, Seed, Trace}
use Rattle.hx_words.specs.declared.choosing.Chosen.{Chosen}
use Rattle.hx_words.specs.declared.commands.Run.{Run}
use Rattle.hx_words.specs.declared.commands.Share.{Share}
use Rattle.hx_words.specs.declared.commands.Soak.{Soak}
use Rattle.hx_words.specs.Limits.{IsRun, IsShare, IsSoak}
use Rattle.hx_words.specs.Options.{IsWithin, choosing, Choose}
use Rattle.hx_words.specs.Saying.{AreSaid, ChooseRun, ChooseShare, ChooseSoak, nothing_chosen}

-- what is chosen is within the limits of its options
record InLimits (chosen : Chosen) : Type 0 where
  pub workers : IfSome chosen.workers (λ n. (1 ≤ n) × (n ≤ MOST_DRIVERS))
  pub lose : IfSome chosen.lose (λ n. n ≤ 1000000)
  pub repeat : IfSome chosen.repeat (λ n. n ≤ 1000000)

more_in_limits : (option : CommandOption) (chosen : Chosen) → IsWithin option → InLimits chosen → InLimits (choosing chosen option)
more_in_limits (Workers n) chosen h l = record { workers = h; lose = l.lose; repeat = l.repeat }
more_in_limits (Lose n) chosen h l = record { workers = l.workers; lose = h; repeat = l.repeat }
more_in_limits (Repeat n) chosen h l = record { workers = l.workers; lose = l.lose; repeat = h }
more_in_limits (Seed n) chosen h l = record { workers = l.workers; lose = l.lose; repeat = l.repeat }
more_in_limits Trace chosen h l = record { workers = l.workers; lose = l.lose; repeat = l.repeat }

all_in_limits : (options : List CommandOption) (before after : Chosen) → Choose before options after → InLimits before → InLimits after
all_in_limits [] before after h l = subst InLimits h l
all_in_limits (o ∷ os) before after h l = all_in_limits os (choosing before o) after h.2 (more_in_limits o before h.0 l)

said_in_limits : (words : List (List ℕ)) (chosen : Chosen) → AreSaid words nothing_chosen chosen → InLimits chosen
said_in_limits words chosen s = all_in_limits s.options nothing_chosen chosen s.choose (record { workers = tt; lose = tt; repeat = tt })

some_workers : (words : List (List ℕ)) (chosen : Chosen) → AreSaid words nothing_chosen chosen
    → (1 ≤ unwrap_or chosen.workers 2) × (unwrap_or chosen.workers 2 ≤ MOST_DRIVERS)
some_workers words chosen s = of chosen.workers (said_in_limits words chosen s).workers
  where
    of : (workers : Option ℕ) → IfSome workers (λ n. (1 ≤ n) × (n ≤ MOST_DRIVERS)) → (1 ≤ unwrap_or workers 2) × (unwrap_or workers 2 ≤ MOST_DRIVERS)
    of None h = (omega arith, omega arith)
    of (Some n) h = h

period : (chosen : Option ℕ) → IfSome chosen (λ n. n ≤ 1000000) → unwrap_or chosen 0 ≤ 1000000
period None h = omega arith
period (Some n) h = h

pub run_limits : (words : List (List ℕ)) (run : Run) → ChooseRun words run → IsRun run
run_limits words run s =
    let limits = said_in_limits words s.chosen s.said in
    subst IsRun (sym s.run_is) (record {
      some_workers = (some_workers words s.chosen s.said).0;
      workers = (some_workers words s.chosen s.said).1;
      lose = period s.chosen.lose limits.lose;
      repeat = period s.chosen.repeat limits.repeat;
    })

pub soak_limits : (words : List (List ℕ)) (soak : Soak) → ChooseSoak words soak → IsSoak soak
soak_limits words soak s =
    let limits = some_workers s.options s.chosen s.said in
    record {
      some_calls = s.calls.0;
      calls = s.calls.1;
      some_workers = omega (arith, s.workers_is, limits.0);
      workers = omega (arith, s.workers_is, limits.1);
    }

pub share_limits : (words : List (List ℕ)) (share : Share) → ChooseShare words share → IsShare share
share_limits words share s =
    let limits = some_workers words s.chosen s.said in
    record { some_workers = omega (arith, s.workers_is, limits.0); workers = omega (arith, s.workers_is, limits.1) }
