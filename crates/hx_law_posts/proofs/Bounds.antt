-- What bounds the state of an actor after so many entries, and that it bounds it after more of them.
use Rattle.hx_law_lemmas.proofs.Lemmas.Vocabulary.{Actor, ActorExists, Answer, AnswerUpTo, arith, Bounds, Config, Coordinator, has_place_in, IsConfigOf}
use Rattle.hx_law_lemmas.proofs.Lemmas.Vocabulary.{IsSessionOf, IsSoundAnswer, IsSoundKept, IsSoundUpdate, Kept, Mark, RegionId, Row, Server, Session, Space}
use Rattle.hx_law_lemmas.proofs.Lemmas.Vocabulary.{true, Update, ℕ, ◌+◌, ◌≡◌, ◌≤◌}
use Rattle.hx_types.specs.declared.calls.Answer.TheVariants as an_answer
use Rattle.hx_law_lemmas.proofs.Lemmas.{all-in, all-of}

-- what bounds the posts of an entry
abbrev pub bounds : Space → ℕ → ℕ → Bounds
bounds space sessions n = record { space = space; sessions = sessions; most = n + 1 }

-- an answer within a bound is within a higher one
pub answer-up : (m n : ℕ) (a : Answer) → m ≤ n → AnswerUpTo m a → AnswerUpTo n a
answer-up m n an_answer.Done l h = tt
answer-up m n an_answer.NotFound l h = tt
answer-up m n an_answer.CmpFail l h = tt
answer-up m n (an_answer.Found object) l h = tt
answer-up m n (an_answer.Rows rows) l h = all-of (λ (r : Row). r.version.0 ≤ n) rows
    (λ r i. let b = all-in (λ (x : Row). x.version.0 ≤ m) rows r h i in omega (arith, b, l))
answer-up m n other l h = omega (arith, l, h)

-- an actor exists whatever the bound of numbers
pub exists-up : (space : Space) (sessions m n : ℕ) (a : Actor) → ActorExists (bounds space sessions m) a → ActorExists (bounds space sessions n) a
exists-up space sessions m n Coordinator x = x
exists-up space sessions m n (Server s) x = x
exists-up space sessions m n (Session u) x = x

-- an update that a replica of a region may hold after so many entries
pub record IsSoundAt (space : Space) (sessions n : ℕ) (g : RegionId) (u : Update) : Type 0 where
  pub sound : IsSoundUpdate (bounds space sessions n) u
  pub version : u.version.0 ≤ n
  pub place : has_place_in g u.places ≡ true

-- a configuration that an actor may have after so many entries
pub record IsSoundConfig (space : Space) (n : ℕ) (config : Config) : Type 0 where
  pub of_space : IsConfigOf space config
  pub epoch : config.epoch.0 ≤ n + 1

module _ (space : Space) (sessions m n : ℕ) (l : m ≤ n) where
  -- a sound answer
  pub sound_answer-up : (a : Answer) → IsSoundAnswer (bounds space sessions m) a → IsSoundAnswer (bounds space sessions n) a
  sound_answer-up a h = (h.0, answer-up (m + 1) (n + 1) a (omega (arith, l)) h.1)

  -- a sound update
  pub update-up : (u : Update) → IsSoundUpdate (bounds space sessions m) u → IsSoundUpdate (bounds space sessions n) u
  update-up u h = record {
    of_space = h.of_space;
    version = (let v = h.version in omega (arith, v, l));
    session = h.session;
    answer = answer-up (m + 1) (n + 1) u.answer (omega (arith, l)) h.answer;
  }

  -- an update that is held
  pub at-up : (g : RegionId) (u : Update) → IsSoundAt space sessions m g u → IsSoundAt space sessions n g u
  at-up g u h = record { sound = update-up u h.sound; version = (let v = h.version in omega (arith, v, l)); place = h.place }

  -- a committed state
  pub kept-up : (k : Kept) → IsSoundKept (bounds space sessions m) k → IsSoundKept (bounds space sessions n) k
  kept-up k h = record {
    of_space = h.of_space;
    floor = (let f = h.floor in omega (arith, f, l));
    sessions = all-of (λ (x : Mark). IsSessionOf sessions x.session × AnswerUpTo (n + 1) x.answer) k.marks
        (λ x i. let a = all-in (λ (y : Mark). IsSessionOf sessions y.session × AnswerUpTo (m + 1) y.answer) k.marks x
        h.sessions i in (a.0, answer-up (m + 1) (n + 1) x.answer (omega (arith, l)) a.1));
  }

  -- a configuration
  pub config-up : (config : Config) → IsSoundConfig space m config → IsSoundConfig space n config
  config-up config h = record { of_space = h.of_space; epoch = (let e = h.epoch in omega (arith, e, l)) }

-- what an earlier entry posted may be held
pub received : (space : Space) (sessions k n : ℕ) → k + 1 ≤ n → (g : RegionId) (u : Update)
    → IsSoundUpdate (bounds space sessions k) u → has_place_in g u.places ≡ true → IsSoundAt space sessions n g u
received space sessions k n l g u h p = record {
  sound = update-up space sessions k n (omega (arith, l)) u h;
  version = (let v = h.version in omega (arith, v, l));
  place = p;
}
