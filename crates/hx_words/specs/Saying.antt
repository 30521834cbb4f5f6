-- The one grammar of words: the name of a request, and what follows it.
use Rattle.std.specs.Prelude.{ℕ, ◌≡◌, ◌≤◌, ◌<◌, ◌^◌, true, false, List, [], ◌∷◌, map, None, codes, string_bytes, unwrap_or}
use Rattle.std.specs.List.{flat_map}
use Rattle.std.specs.Fmt.{decimal}
use Rattle.std.specs.declared.string.String.{String}
use Rattle.std.specs.declared.alloc.Global.{Global}
use Rattle.hx_types.specs.declared.limits.TheConstants.{MOST_CALLS}
use Rattle.hx_words.specs.declared.options.CommandOption.{CommandOption}
use Rattle.hx_words.specs.declared.choosing.Chosen.{Chosen}
use Rattle.hx_words.specs.declared.commands.Command.{Command}
use Rattle.hx_words.specs.declared.commands.Command.TheVariants.{Replay, Plan}
use Rattle.hx_words.specs.declared.commands.Question.{Question}
use Rattle.hx_words.specs.declared.commands.Question.TheVariants.{Help, Version}
use Rattle.hx_words.specs.declared.commands.Request.{Request}
use Rattle.hx_words.specs.declared.commands.Request.TheVariants as a_request
use Rattle.hx_words.specs.declared.commands.Run.{Run}
use Rattle.hx_words.specs.declared.commands.Share.{Share}
use Rattle.hx_words.specs.declared.commands.Soak.{Soak}
use Rattle.hx_words.specs.Options.{words_of, Choose}

abbrev pub nothing_chosen : Chosen
nothing_chosen = record { workers = None; lose = None; repeat = None; seed = None; with_trace = false }

-- the words are those of options that choose this, after what was chosen before
pub record AreSaid (words : List (List ℕ)) (before after : Chosen) : Type 0 where
  pub options : List CommandOption
  pub choose : Choose before options after
  pub said : words ≡ flat_map words_of options

-- the run that options choose, with the defaults of what they leave out
abbrev pub run_by : Chosen → Run
run_by chosen = record {
  workers = unwrap_or chosen.workers 2;
  lose = unwrap_or chosen.lose 0;
  repeat = unwrap_or chosen.repeat 0;
  seed = chosen.seed;
  with_trace = chosen.with_trace;
}

-- the words are options that choose the run
pub record ChooseRun (words : List (List ℕ)) (run : Run) : Type 0 where
  pub chosen : Chosen
  pub said : AreSaid words nothing_chosen chosen
  pub run_is : run ≡ run_by chosen

-- nothing is chosen but the workers
pub record OnlyWorkers (chosen : Chosen) : Type 0 where
  pub lose : chosen.lose ≡ None
  pub repeat : chosen.repeat ≡ None
  pub seed : chosen.seed ≡ None
  pub with_trace : chosen.with_trace ≡ false

-- the words are the soak's seed and calls, and options that choose its workers
pub record ChooseSoak (words : List (List ℕ)) (soak : Soak) : Type 0 where
  pub options : List (List ℕ)
  pub chosen : Chosen
  pub said : AreSaid options nothing_chosen chosen
  pub only : OnlyWorkers chosen
  pub workers_is : soak.workers ≡ unwrap_or chosen.workers 2
  pub seed : soak.seed < 2 ^ 64
  pub calls : (1 ≤ soak.calls) × (soak.calls ≤ MOST_CALLS)
  pub numbers : words ≡ decimal soak.seed ∷ decimal soak.calls ∷ options

-- the words are options that choose the share's workers
pub record ChooseShare (words : List (List ℕ)) (share : Share) : Type 0 where
  pub chosen : Chosen
  pub said : AreSaid words nothing_chosen chosen
  pub only : OnlyWorkers chosen
  pub workers_is : share.workers ≡ unwrap_or chosen.workers 2

-- the first word of a request
abbrev pub name_of : Request → List ℕ
name_of (a_request.Command (Replay with_trace)) = codes "replay"
name_of (a_request.Command Plan) = codes "plan"
name_of a_request.Audit = codes "audit"
name_of (a_request.Run run) = codes "run"
name_of (a_request.Soak soak) = codes "soak"
name_of (a_request.Share share) = codes "share"
name_of (a_request.Question Help) = codes "--help"
name_of (a_request.Question Version) = codes "--version"

-- the words that follow it
abbrev pub IsFollowedBy : Request → List (List ℕ) → Type 0
IsFollowedBy (a_request.Command (Replay false)) words = words ≡ []
IsFollowedBy (a_request.Command (Replay true)) words = words ≡ codes "--trace" ∷ []
IsFollowedBy (a_request.Command Plan) words = words ≡ []
IsFollowedBy a_request.Audit words = words ≡ []
IsFollowedBy (a_request.Run run) words = ChooseRun words run
IsFollowedBy (a_request.Soak soak) words = ChooseSoak words soak
IsFollowedBy (a_request.Share share) words = ChooseShare words share
IsFollowedBy (a_request.Question question) words = words ≡ []

-- the words are the request's name and words that follow it, and no others beside them
pub record SaysRequest (words : List (String Global)) (request : Request) : Type 0 where
  pub others : List (List ℕ)
  pub followed : IsFollowedBy request others
  pub said : map string_bytes words ≡ name_of request ∷ others

-- the words ask for this command, run, soak or share, for an audit, or this question
abbrev pub Says : List (String Global) → Command → Type 0
Says words command = SaysRequest words (a_request.Command command)

abbrev pub SaysAudit : List (String Global) → Type 0
SaysAudit words = SaysRequest words a_request.Audit

abbrev pub SaysRun : List (String Global) → Run → Type 0
SaysRun words run = SaysRequest words (a_request.Run run)

abbrev pub SaysSoak : List (String Global) → Soak → Type 0
SaysSoak words soak = SaysRequest words (a_request.Soak soak)

abbrev pub SaysShare : List (String Global) → Share → Type 0
SaysShare words share = SaysRequest words (a_request.Share share)

abbrev pub Asks : List (String Global) → Question → Type 0
Asks words question = SaysRequest words (a_request.Question question)
