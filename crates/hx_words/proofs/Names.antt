-- No words say two requests; and what follows a name.
use Rattle.std.proofs.Common.{rules, ℕ, Bool, ◌≡◌, List, [], ◌∷◌, map, get_or, drop, length, Option, Some, refl, ap, sym, subst, ◌∙◌, arith, true, false}
use Rattle.std.specs.Prelude.{◌↔◌, IfSome, codes, string_bytes}
use Rattle.std.specs.declared.string.String.{String}
use Rattle.std.specs.declared.alloc.Global.{Global}
use Rattle.hx_words.specs.declared.commands.Command.TheVariants.{Replay, Plan}
use Rattle.hx_words.specs.declared.commands.Question.TheVariants.{Help, Version}
use Rattle.hx_words.specs.declared.commands.Request.{Request}
use Rattle.hx_words.specs.declared.commands.Request.TheVariants as a_request
use Rattle.hx_words.specs.declared.commands.Run.{Run}
use Rattle.hx_words.specs.declared.commands.Share.{Share}
use Rattle.hx_words.specs.declared.commands.Soak.{Soak}
use Rattle.hx_words.specs.Limits.{HasLimits}
use Rattle.hx_words.specs.Saying.{ChooseRun, ChooseShare, ChooseSoak, IsFollowedBy, SaysRequest, name_of}
use Rattle.hx_words.proofs.Choices.{exactly, one_run, one_share, one_soak}

-- the one word that follows a replay's name asks for its trace
pub traced : (words : List (List ℕ)) → words ≡ codes "--trace" ∷ [] → (with_trace : Bool)
    → (Some true ≡ Some with_trace) ↔ IsFollowedBy (a_request.Command (Replay with_trace)) words
traced words e true = (λ same. e, λ said. refl)
traced words e false = (λ same. absurd (cc), λ said. absurd (omega (arith, ap length (sym e ∙ said))))

-- what follows a name says one request at most
followed_once : (a b : Request) (words : List (List ℕ)) → name_of a ≡ name_of b → IsFollowedBy a words → IsFollowedBy b words → a ≡ b
followed_once (a_request.Command (Replay true)) b words e s t = search rules
followed_once (a_request.Command (Replay false)) b words e s t = search rules
followed_once (a_request.Command Plan) b words e s t = search rules
followed_once a_request.Audit b words e s t = search rules
followed_once (a_request.Run a) b words e s t =
    let same : (c : Run) → ChooseRun words c → a_request.Run a ≡ a_request.Run c = λ c said. ap a_request.Run (one_run words a c s said) in
    search (rules, same)
followed_once (a_request.Soak a) b words e s t =
    let same : (c : Soak) → ChooseSoak words c → a_request.Soak a ≡ a_request.Soak c = λ c said. ap a_request.Soak (one_soak words a c s said) in
    search (rules, same)
followed_once (a_request.Share a) b words e s t =
    let same : (c : Share) → ChooseShare words c → a_request.Share a ≡ a_request.Share c = λ c said. ap a_request.Share (one_share words a c s said) in
    search (rules, same)
followed_once (a_request.Question Help) b words e s t = search rules
followed_once (a_request.Question Version) b words e s t = search rules

pub one_request : (words : List (String Global)) (a b : Request) → SaysRequest words a → SaysRequest words b → a ≡ b
one_request words a b s t =
    let e = sym s.said ∙ t.said in
    followed_once a b s.others (ap (λ ws. get_or ws 0 []) e) s.followed (subst (IsFollowedBy b) (sym (ap (drop 1) e)) t.followed)

-- the words are the name of a request and words that follow it, so they say no other
pub is_said : (words : List (String Global)) (others : List (List ℕ)) (name : List ℕ) (answer request : Request)
    → map string_bytes words ≡ name ∷ others → name ≡ name_of answer → IsFollowedBy answer others
    → (Some answer ≡ Some request) ↔ SaysRequest words request
is_said words others name answer request spelled named followed =
    let says : SaysRequest words answer = record { others = others; followed = followed; said = spelled ∙ ap (λ n. n ∷ others) named } in
    exactly (SaysRequest words) answer request says (λ other. one_request words answer other says)

-- what was answered is said
pub says_request : {words : List (String Global)} {answer : Option Request} {told request : Request}
    → ((r : Request) → (answer ≡ Some r) ↔ SaysRequest words r) → answer ≡ Some told → told ≡ request
    → SaysRequest words request
says_request {words} exact is same = subst (SaysRequest words) same ((exact _).0 is)

-- and is within its limits
pub limits_of : {answer : Option Request} {told request : Request} → IfSome answer HasLimits → answer ≡ Some told → told ≡ request → HasLimits request
limits_of within is same = subst HasLimits same (subst (λ (r : Option Request). IfSome r HasLimits) is within)
