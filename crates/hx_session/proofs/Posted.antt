-- The posts of a session's step: of the space, naming known actors, with small epochs.
use Rattle.std.proofs.Common.{◌≡◌, ℕ, ◌+◌, ◌≤◌, inl, inr, List, [], ◌∷◌, ◌++◌, Option, None, Some, refl, sym, subst, arith}
use Rattle.std.specs.List.{All, flat_map, slice_get}
use Rattle.hx_model.specs.Types.{Actor, Add, Config, Coordinator, Deliver, Halt, Input, Member, Message, Op, Post, RegionId, Search, Server, ServerId, Session}
use Rattle.hx_model.specs.Types.{SessionId, Space, Stop, Tick}
use Rattle.hx_types.specs.declared.messages.Message.TheVariants as a_message
use Rattle.hx_types.specs.Configs.{head_of}
use Rattle.hx_types.specs.Posts.{IsSoundMessage}
use Rattle.hx_types.specs.Spaces.{Fits, IsConfigOf}
use Rattle.hx_types.specs.Words.{IsIn, first_of_list, post, when_some}
use Rattle.hx_model.specs.SessionSteps.{SessionState, session_step}
use Rattle.hx_law_lemmas.proofs.Lemmas.{all-in, all-of, in-flat, in-slice_get, in_left, in_right}
use Rattle.hx_law_posts.proofs.Lemmas.{head-server}
use Rattle.hx_session.specs.Invariant.{IsStateOf}
use Rattle.hx_types.specs.Posted.{ArePostsOf, InputUpTo, IsPostOf, MessageUpTo, NameOnly, NamesOnly, PostsUpTo}
use Rattle.hx_types.specs.Posted.{actors_of_config, actors_of_input, actors_of_message, actors_of_op, servers_among}
use Rattle.hx_session.specs.Sessions.{CanTake, SessionUpTo, known_to}
use Rattle.hx_session.proofs.Making.{Allows, GivenBy, stepped}

-- ---- of the space

allows_of : (space : Space) (id : SessionId) (calls : List Op) (config : Config) → IsConfigOf space config
    → All (Fits space) calls → Allows space id calls config (IsPostOf space)
allows_of space id calls config of_space fit = record {
  call = λ number op own g x e. record {
    sessions = 0;
    most = config.epoch.0;
    to = head-server space config of_space g x e;
    between = refl;
    message = (omega arith, all-in (Fits space) calls op fit own);
  };
  ask = λ number terms own g region x e. record {
    sessions = 0;
    most = config.epoch.0;
    to = head-server space config of_space g x e;
    between = refl;
    message = (omega arith, region, all-in (Fits space) calls (Search terms) fit own);
  };
  stop = λ number server own. record { sessions = 0; most = 0; to = tt; between = refl; message = all-in (Fits space) calls (Stop server) fit own };
  add = λ number server g own. record { sessions = 0; most = 0; to = tt; between = refl; message = all-in (Fits space) calls (Add server g) fit own };
  poll = record { sessions = 0; most = config.epoch.0; to = tt; between = refl; message = omega arith };
}

-- the configuration that an input brings is of the space
pub given_of_space : (space : Space) (st : SessionState) (input : Input) → CanTake space st input → (config : Config)
    → GivenBy config input → IsConfigOf space config
given_of_space space st Tick can config given = absurd given
given_of_space space st Halt can config given = absurd given
given_of_space space st (Deliver id from m) can config given =
    (subst (λ (x : Message). IsSoundMessage (record { space = space; sessions = can.sessions; most = can.entry + 1 }) x) given can.sound.message).1

pub posts_of_space : (space : Space) (st : SessionState) → IsStateOf space st → (input : Input)
    → CanTake space st input → ArePostsOf space (session_step space st input).posts
posts_of_space space st h input can =
    stepped space (IsPostOf space) st (allows_of space st.id st.calls st.config h.config h.calls) input
    (λ config given. allows_of space st.id st.calls config (given_of_space space st input can config given) h.calls)

-- ---- actors

names : (known : List Actor) (from to : Actor) (m : Message) → IsIn to known
    → ((a : Actor) → IsIn a (actors_of_message m) → IsIn a known) → NamesOnly known (post from to m)
names known from to m here f = all-of (λ (a : Actor). IsIn a known) (to ∷ actors_of_message m) (λ a i. by a i)
  where
    by : (a : Actor) → IsIn a (to ∷ actors_of_message m) → IsIn a known
    by a (inl e) = subst (λ (x : Actor). IsIn x known) (sym e) here
    by a (inr i) = f a i

-- the first member of a region is named by its configuration
head_named : (config : Config) (g : RegionId) (x : ServerId) → head_of config g ≡ Some x → IsIn (Server x) (actors_of_config config)
head_named config g x e = by (slice_get config.regions g.0) refl e
  where
    first_is : (members : List Member) → when_some (first_of_list members) None (λ (m : Member). Some m.server)
        ≡ Some x → IsIn (Server x) (servers_among members)
    first_is [] h = absurd (cc)
    first_is (m ∷ rest) h = inl cc

    by : (o : Option (List Member)) → slice_get config.regions g.0 ≡ o
        → when_some (first_of_list (when_some o [] (λ (members : List Member). members))) None
        (λ (m : Member). Some m.server) ≡ Some x → IsIn (Server x) (actors_of_config config)
    by None at h = absurd (cc)
    by (Some members) at h = in_right _ (flat_map servers_among config.regions) (Server x)
        (in-flat servers_among config.regions members (Server x) (in-slice_get config.regions g.0 members at)
        (first_is members h))

module _ (known : List Actor) (coordinator : IsIn Coordinator known) where
  allows_named : (space : Space) (id : SessionId) (calls : List Op) (config : Config)
      → ((a : Actor) → IsIn a (actors_of_config config) → IsIn a known)
      → ((a : Actor) → IsIn a (flat_map actors_of_op calls) → IsIn a known)
      → Allows space id calls config (NamesOnly known)
  allows_named space id calls config members ops = record {
    call = λ number op own g x e. names known (Session id) (Server x) (a_message.Call config.epoch number op)
        (members (Server x) (head_named config g x e)) (λ a i. ops a (in-flat actors_of_op calls op a own i));
    ask = λ number terms own g region x e. names known (Session id) (Server x)
        (a_message.Ask config.epoch number g terms) (members (Server x) (head_named config g x e)) (λ a i. absurd i);
    stop = λ number server own. names known (Session id) Coordinator (a_message.StopServer number server) coordinator
        (λ a i. ops a (in-flat actors_of_op calls (Stop server) a own i));
    add = λ number server g own. names known (Session id) Coordinator
        (a_message.AddReplica number server g) coordinator (λ a i. ops a (in-flat actors_of_op calls (Add server g) a own i));
    poll = names known (Session id) Coordinator (a_message.Poll config.epoch) coordinator (λ a i. absurd i);
  }

given_named : (input : Input) (config : Config) → GivenBy config input → (a : Actor) → IsIn a (actors_of_config config) → IsIn a (actors_of_input input)
given_named Tick config given a i = absurd given
given_named Halt config given a i = absurd given
given_named (Deliver id from m) config given a i = inr (subst (λ (x : Message). IsIn a (actors_of_message x)) (sym given) i)

pub posts_named : (space : Space) (st : SessionState) (input : Input) → NameOnly (known_to st input) (session_step space st input).posts
posts_named space st input =
    stepped space (NamesOnly (known_to st input)) st
    (
    allows_named (known_to st input) (inl refl) space st.id st.calls st.config
    (λ a i. inr (in_left (actors_of_config st.config ++ flat_map actors_of_op st.calls) (actors_of_input input) a
    (in_left (actors_of_config st.config) (flat_map actors_of_op st.calls) a i))) ops
    )
    input
    (
    λ config given. allows_named (known_to st input) (inl refl) space st.id st.calls config
    (λ a i. inr (in_right (actors_of_config st.config ++ flat_map actors_of_op st.calls) (actors_of_input input) a (given_named input config given a i)))
    ops
    )
  where
    ops : (a : Actor) → IsIn a (flat_map actors_of_op st.calls) → IsIn a (known_to st input)
    ops a i = inr (in_left (actors_of_config st.config ++ flat_map actors_of_op st.calls) (actors_of_input input) a
        (in_right (actors_of_config st.config) (flat_map actors_of_op st.calls) a i))

-- ---- epochs

allows_small : (most : ℕ) (space : Space) (id : SessionId) (calls : List Op) (config : Config) → config.epoch.0 ≤ most
    → Allows space id calls config (λ (p : Post). MessageUpTo most p.message)
allows_small most space id calls config low = record {
  call = λ number op own g x e. low;
  ask = λ number terms own g region x e. low;
  stop = λ number server own. tt;
  add = λ number server g own. tt;
  poll = low;
}

given_small : (most : ℕ) (input : Input) → InputUpTo most input → (config : Config) → GivenBy config input → config.epoch.0 ≤ most
given_small most Tick low config given = absurd given
given_small most Halt low config given = absurd given
given_small most (Deliver id from m) low config given = subst (λ (x : Message). MessageUpTo most x) given low

pub posts_small : (space : Space) (st : SessionState) (input : Input) → (most : ℕ) → SessionUpTo most st
    → InputUpTo most input → PostsUpTo most (session_step space st input).posts
posts_small space st input most low brings =
    stepped space (λ (p : Post). MessageUpTo most p.message) st (allows_small most space st.id st.calls st.config low) input
    (λ config given. allows_small most space st.id st.calls config (given_small most input brings config given))
