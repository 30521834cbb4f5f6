-- The posts of the coordinator's step: of the space, naming known actors, with epochs at most 1 above the greatest; and what it keeps stays of the space.
use Rattle.std.proofs.Common.{◌≡◌, ℕ, ◌+◌, ◌≤◌, inl, inr, List, [], ◌∷◌, ◌++◌, map, Option, Some, None, refl, sym, ap, subst, arith}
use Rattle.std.specs.Prelude.{⊤}
use Rattle.std.specs.List.{All, flat_map}
use Rattle.std.proofs.lemmas.List.Elements.{All-nil}
use Rattle.hx_model.specs.Types.{Actor, Answer, Coordinator, Deliver, Halt, Input, Member, Message, Post, PostId, Row, Server, ServerId, Session, Space, Tick}
use Rattle.hx_types.specs.declared.calls.Answer.TheVariants as an_answer
use Rattle.hx_types.specs.Posts.{AnswerUpTo, IsSoundPost}
use Rattle.hx_types.specs.Spaces.{IsSpace}
use Rattle.hx_types.specs.Words.{IsIn, below, post}
use Rattle.hx_model.specs.CoordinatorSteps.{CoordinatorState, Newest, coordinator_at_start, coordinator_step}
use Rattle.hx_law_lemmas.proofs.Lemmas.{all-in, all-of, in-flat, in_left, in_right, map-in}
use Rattle.hx_law_posts.proofs.Lemmas.{answer-up, first-of_space, DoesWell, IsMaybeSound, IsSoundCoordinator, coordinator-good}
use Rattle.hx_coord.specs.Coordinators.{CoordinatorUpTo, IsCoordinatorOf, IsInputOf, IsMaybeAnswerOf, IsTaskOf}
use Rattle.hx_coord.specs.Coordinators.{MaybeAnswerUpTo, actors_of_coordinator, actors_of_task, known_to}
use Rattle.hx_types.specs.Posted.{ArePostsOf, IsPostOf, MessageUpTo, NameOnly, NamesOnly, PostsUpTo, actors_of_config}
use Rattle.hx_types.specs.Posted.{actors_of_input, actors_of_message, servers_among}
use Rattle.hx_coord.proofs.Making.{IsGood, Knows, KnowsInput, stepped}

-- ---- of the space

pub starts_of_space : (space : Space) → IsSpace space → (sessions : ℕ) → IsCoordinatorOf space (coordinator_at_start space sessions)
starts_of_space space valid sessions = record {
  most = 1;
  config = first-of_space space valid;
  epoch = omega arith;
  todo = All-nil _;
  newest = All-nil _;
}

sound_from : (space : Space) (c : CoordinatorState) → (h : IsCoordinatorOf space c) → IsSoundCoordinator space c.sessions h.most c
sound_from space c h = record {
  config = record { of_space = h.config; epoch = (let e = h.epoch in omega (arith, e)) };
  todo = λ t i. (let a = all-in (IsTaskOf space c.sessions) c.todo t h.todo i in record { session = a.0; fits = a.1 });
  newest = λ x i. maybe x.answer (all-in (λ (n : Newest). IsMaybeAnswerOf space h.most n.answer) c.newest x h.newest i);
  sessions_are = refl;
}
  where
    maybe : (o : Option Answer) → IsMaybeAnswerOf space h.most o → IsMaybeSound space c.sessions h.most o
    maybe None a = tt
    maybe (Some answer) a = (a.0, answer-up h.most (h.most + 1) answer (omega arith) a.1)

from_sound : (space : Space) (n : ℕ) (c : CoordinatorState) (sessions : ℕ) → IsSoundCoordinator space sessions n c → IsCoordinatorOf space c
from_sound space n c sessions h = record {
  most = n + 1;
  config = h.config.of_space;
  epoch = h.config.epoch;
  todo = all-of (IsTaskOf space c.sessions) c.todo (λ t i. (let a = h.todo t i in subst (λ k. IsTaskOf space k t) (sym h.sessions_are) (a.session, a.fits)));
  newest = all-of (λ (x : Newest). IsMaybeAnswerOf space (n + 1) x.answer) c.newest (λ x i. maybe x.answer (h.newest x i));
}
  where
    maybe : (o : Option Answer) → IsMaybeSound space sessions n o → IsMaybeAnswerOf space (n + 1) o
    maybe None a = tt
    maybe (Some answer) a = a

abbrev IsSoundInput : Space → ℕ → ℕ → Input → Type 0
IsSoundInput space sessions entry Tick = ⊤
IsSoundInput space sessions entry Halt = ⊤
IsSoundInput space sessions entry (Deliver id from m) = IsSoundPost space sessions entry (post from Coordinator m)

well : (space : Space) (c : CoordinatorState) → (h : IsCoordinatorOf space c) → (input : Input) → IsInputOf space c.sessions input
    → DoesWell space c.sessions h.most (coordinator_step c input)
well space c h input brings = coordinator-good space c.sessions h.most c
    (record { sound = sound_from space c h; low = h.epoch }) input (sound_input input brings)
  where
    sound_input : (input : Input) → IsInputOf space c.sessions input → (id : PostId) (from : Actor) (m : Message) → input ≡ Deliver id from m
        → (j : ℕ) × IsSoundPost space c.sessions j (post from Coordinator m)
    sound_input Tick b id from m e = absurd (cc)
    sound_input Halt b id from m e = absurd (cc)
    sound_input (Deliver i f k) b id from m e = (b.entry, subst (IsSoundInput space c.sessions b.entry) e b.sound)

pub posts_of_space : (space : Space) (c : CoordinatorState) → IsCoordinatorOf space c → (input : Input) → IsInputOf space c.sessions input
    → ArePostsOf space (coordinator_step c input).posts
posts_of_space space c h input brings =
    all-of (IsPostOf space) (coordinator_step c input).posts
    (λ p i. (let sound = (well space c h input brings).posts p i in
    record { sessions = c.sessions; most = h.most + 1; to = sound.to; between = sound.between; message = sound.message }))

pub stays_of_space : (space : Space) (c : CoordinatorState) → IsCoordinatorOf space c → (input : Input) → IsInputOf space c.sessions input
    → IsCoordinatorOf space (coordinator_step c input).state
stays_of_space space c h input brings = from_sound space h.most (coordinator_step c input).state c.sessions (well space c h input brings).state

-- ---- actors and epochs

-- the three parts of what a coordinator names
module _ (c : CoordinatorState) where
  abbrev todo_part : List Actor
  todo_part = flat_map actors_of_task c.todo

  abbrev sessions_part : List Actor
  sessions_part = map (λ n. Session (record { 0 = n + 1 })) (below c.sessions)

  names_config : (a : Actor) → IsIn a (actors_of_config c.config) → IsIn a (actors_of_coordinator c)
  names_config a i = in_left (actors_of_config c.config ++ todo_part) sessions_part a (in_left (actors_of_config c.config) todo_part a i)

  names_todo : (a : Actor) → IsIn a todo_part → IsIn a (actors_of_coordinator c)
  names_todo a i = in_left (actors_of_config c.config ++ todo_part) sessions_part a (in_right (actors_of_config c.config) todo_part a i)

  names_sessions : (a : Actor) → IsIn a sessions_part → IsIn a (actors_of_coordinator c)
  names_sessions a i = in_right (actors_of_config c.config ++ todo_part) sessions_part a i

-- a coordinator knows whom it names
knows : (Known : Actor → Type 0) (most : ℕ) (c : CoordinatorState) → ((a : Actor) → IsIn a (actors_of_coordinator c) → Known a) → CoordinatorUpTo most c
    → Knows Known most c
knows Known most c f small = record {
  config = record {
    servers = λ s i. f (Server s) (names_config c (Server s)
        (in_left (map (λ (x : ServerId). Server x) c.config.servers) (flat_map servers_among c.config.regions)
        (Server s) (map-in (λ (x : ServerId). Server x) c.config.servers s i)));
    members = λ ms i m j. f (Server m.server) (names_config c (Server m.server)
        (in_right (map (λ (x : ServerId). Server x) c.config.servers) (flat_map servers_among c.config.regions) (Server m.server)
        (in-flat servers_among c.config.regions ms (Server m.server) i (map-in (λ (x : Member). Server x.server) ms m j))));
  };
  todo = λ t i. record {
    caller = f (Session t.caller.session) (names_todo c (Session t.caller.session) (in-flat actors_of_task c.todo t (Session t.caller.session) i (inl refl)));
    op = λ a j. f a (names_todo c a (in-flat actors_of_task c.todo t a i (inr j)));
  };
  sessions = λ k i. f (Session (record { 0 = k + 1 }))
      (names_sessions c (Session (record { 0 = k + 1 })) (map-in (λ n. Session (record { 0 = n + 1 })) (below c.sessions) k i));
  low = small.0;
  newest = λ x i. all-in (λ (n : Newest). MaybeAnswerUpTo most n.answer) c.newest x small.1 i;
}

input_known : (Known : Actor → Type 0) (most : ℕ) (input : Input) → ((a : Actor) → IsIn a (actors_of_input input) → Known a) → KnowsInput Known most input
input_known Known most Tick f = tt
input_known Known most Halt f = tt
input_known Known most (Deliver id from m) f = (f from (inl refl), λ a i. f a (inr i))

names : (known : List Actor) (to : Actor) (m : Message) → IsIn to known → ((a : Actor) → IsIn a (actors_of_message m) → IsIn a known)
    → All (λ (a : Actor). IsIn a known) (to ∷ actors_of_message m)
names known to m here f = all-of (λ (a : Actor). IsIn a known) (to ∷ actors_of_message m) by
  where
    by : (a : Actor) → IsIn a (to ∷ actors_of_message m) → IsIn a known
    by a (inl e) = subst (λ (x : Actor). IsIn x known) (sym e) here
    by a (inr i) = f a i

pub posts_small : (c : CoordinatorState) (input : Input) (most : ℕ) → CoordinatorUpTo most c → PostsUpTo (most + 1) (coordinator_step c input).posts
posts_small c input most small =
    all-of (λ (p : Post). MessageUpTo (most + 1) p.message) (coordinator_step c input).posts
    (λ p i. (all-in (IsGood (λ a. ⊤) most) (coordinator_step c input).posts p
    (stepped (λ a. ⊤) most c (knows (λ a. ⊤) most c (λ a j. tt) small) input
    (input_known (λ a. ⊤) most input (λ a j. tt))) i).small)

-- every answer is within some bound
answer_bound : (a : Answer) → (most : ℕ) × AnswerUpTo most a
answer_bound (an_answer.Rows rows) = by rows
  where
    by : (rows : List Row) → (most : ℕ) × All (λ (r : Row). r.version.0 ≤ most) rows
    by [] = (0, All-nil _)
    by (r ∷ rest) =
        let b = by rest in (
          r.version.0 + b.0,
          all-of (λ (x : Row). x.version.0 ≤ r.version.0 + b.0) (r ∷ rest) (λ x i. elim i [
            | inl e ↦ (let s : x.version.0 ≡ r.version.0 = ap (λ (y : Row). y.version.0) e in omega (arith, s))
            | inr j ↦ (let l = all-in (λ (y : Row). y.version.0 ≤ b.0) rest x b.1 j in omega (arith, l))
          ]),
        )
answer_bound (an_answer.Refused region epoch) = (epoch.0, omega arith)
answer_bound (an_answer.Doubt region epoch) = (epoch.0, omega arith)
answer_bound (an_answer.Issued epoch) = (epoch.0, omega arith)
answer_bound (an_answer.Stopped epoch) = (epoch.0, omega arith)
answer_bound (an_answer.Member epoch) = (epoch.0, omega arith)
answer_bound (an_answer.Joining epoch) = (epoch.0, omega arith)
answer_bound (an_answer.Lost epoch) = (epoch.0, omega arith)
answer_bound other = (0, tt)

-- and so is all that a coordinator keeps
coordinator_bound : (c : CoordinatorState) → (most : ℕ) × CoordinatorUpTo most c
coordinator_bound c =
    let b = of_all c.newest in (
      c.config.epoch.0 + b.0,
      (
        omega arith,
        all-of (λ (n : Newest). MaybeAnswerUpTo (c.config.epoch.0 + b.0) n.answer)
            c.newest (λ n i. up b.0 (c.config.epoch.0 + b.0) n.answer (omega arith)
            (all-in (λ (x : Newest). MaybeAnswerUpTo b.0 x.answer) c.newest n b.1 i)),
      ),
    )
  where
    up : (m n : ℕ) (o : Option Answer) → m ≤ n → MaybeAnswerUpTo m o → MaybeAnswerUpTo n o
    up m n None l h = tt
    up m n (Some a) l h = answer-up m n a l h

    of_one : (o : Option Answer) → (most : ℕ) × MaybeAnswerUpTo most o
    of_one None = (0, tt)
    of_one (Some a) = answer_bound a

    of_all : (ns : List Newest) → (most : ℕ) × All (λ (n : Newest). MaybeAnswerUpTo most n.answer) ns
    of_all [] = (0, All-nil _)
    of_all (n ∷ rest) =
        let a = of_one n.answer in
        let b = of_all rest in (
          a.0 + b.0,
          all-of (λ (x : Newest). MaybeAnswerUpTo (a.0 + b.0) x.answer) (n ∷ rest) (λ x i. elim i [
            | inl e ↦ subst (λ (y : Newest). MaybeAnswerUpTo (a.0 + b.0) y.answer) (sym e) (up a.0 (a.0 + b.0) n.answer (omega arith) a.1)
            | inr j ↦ up b.0 (a.0 + b.0) x.answer (omega arith) (all-in (λ (y : Newest). MaybeAnswerUpTo b.0 y.answer) rest x b.1 j)
          ]),
        )

abbrev IsKnown : CoordinatorState → Input → Actor → Type 0
IsKnown c input a = IsIn a (known_to c input)

pub posts_named : (c : CoordinatorState) (input : Input) → NameOnly (known_to c input) (coordinator_step c input).posts
posts_named c input =
    let b = coordinator_bound c in
    all-of (NamesOnly (known_to c input)) (coordinator_step c input).posts
    (
    λ p i. let good = all-in (IsGood (IsKnown c input) b.0) (coordinator_step c input).posts p
    (stepped (IsKnown c input) b.0 c (knows (IsKnown c input) b.0 c (λ a j. inr (in_left (actors_of_coordinator c) (actors_of_input input) a j)) b.1) input
    (input_known (IsKnown c input) b.0 input (λ a j. inr (in_right (actors_of_coordinator c) (actors_of_input input) a j)))) i in
    names (known_to c input) p.to p.message good.to good.names
    )
