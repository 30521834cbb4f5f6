-- Each step of a server does well.
use Rattle.hx_law_lemmas.proofs.Lemmas.Vocabulary.{Actor, and_parts, arith, Deliver, halting, has_place_in, Input, is_session_actor, IsSoundKept, IsSoundPost}
use Rattle.hx_law_lemmas.proofs.Lemmas.Vocabulary.{IsSoundUpdate, key_region, Message, Post, post, PostId, ready_post, refl, Server, server_step, ServerId}
use Rattle.hx_law_lemmas.proofs.Lemmas.Vocabulary.{ServerState, ServerStep, Session, Space, true, Update, ℕ, ◌<◌, ◌≡◌, ◌≤◌}
use Rattle.hx_model.proofs.Lemmas.{server-cases}
use Rattle.hx_law_lemmas.proofs.Lemmas.{all-in, each-one, fits-key, replica-found}
use Rattle.hx_law_posts.proofs.Bounds.{bounds, exists-up, received}
use Rattle.hx_law_posts.proofs.Servers.{DoesWell, IsSoundServer, Relies, installed-found, meeting-good, replica_for-found, saying-good, unmoved-good}
use Rattle.hx_law_posts.proofs.Calls.{acked-good, asked-good, called-good, updated-good}
use Rattle.hx_law_posts.proofs.Snapshots.{ready-sound, snapped-good}
use Rattle.hx_law_posts.proofs.Installs.{install-good, tick-good}

module _ (space : Space) (sessions n : ℕ) (s : ServerId) (st : ServerState) (relies : Relies space sessions n s st)
    (m : ℕ) (before : IsSoundServer space sessions m s st) (less : m < n) where
  -- a step that does well
  abbrev IsGood : ServerStep → Type 0
  IsGood step = DoesWell space sessions n s step

  -- a server halts
  halt-good : IsGood (halting st)
  halt-good = record {
    state = record { id = relies.sound.id; config = relies.sound.config; replicas = relies.sound.replicas };
    posts = each-one (λ (p : Post). IsSoundPost space sessions n p) _ (record { from = relies.exists; to = tt; between = refl; message = tt });
  }

  -- each step of a server, on a message of a sound post of an earlier entry
  pub server-good : (input : Input) → ((id : PostId) (from : Actor) (message : Message)
      → input ≡ Deliver id from message → (k : ℕ) × (k ≤ m)
      × IsSoundPost space sessions k (post from (Server s) message)) → IsGood (server_step space st input)
  server-good input f = server-cases space st input IsGood (record {
    rests = unmoved-good space sessions n s st relies;
    met = meeting-good space sessions n s st relies;
    ticks = tick-good space sessions n s st relies;
    halts = λ e. halt-good;
    dies = λ id from e. halt-good;
    call = λ id u epoch number op key r e z q b. (let (k, l, h) = f id (Session u) _ e in
        called-good space sessions n s st relies m before less key (fits-key space op key h.message.1 z) r (replica_for-found st (key_region space key) r q)
        (record { session = u; number = number }) (exists-up space sessions k n (Session u) h.from) op h.message.1);
    update = λ id from epoch g u r e z b. (let (k, l, h) = f id from _ e in
        updated-good space sessions n s st relies g u (received space sessions k n (omega (arith, l, less)) g u h.message.2 h.message.3)
        r (installed-found st g r z));
    ack = λ id from epoch g by key v r u e z q b. (let (k, l, h) = f id from _ e in
        acked-good space sessions n s st relies g key h.message.3 v.0 r (installed-found st g r z));
    ask = λ id from epoch number g terms r e z b. (let (k, l, h) = f id from _ e in
        asked-good space sessions n s st relies from (exists-up space sessions k n from h.from) (and_parts (is_session_actor from) true h.between).0
        epoch (let e = h.message.0 in omega (arith, e, l, less)) number g terms r (installed-found st g r z));
    ready = λ id from epoch g snapshot pending r e z b i. saying-good space sessions n s st relies (ready_post st r.region)
        (ready-sound space sessions n s st relies r (replica-found g st.replicas r (replica_for-found st g r z)).0);
    installs = λ id from epoch g snapshot pending r e z b i. (let (k, l, h) = f id from _ e in
        snapped-good space sessions n s st relies k (omega (arith, l, less)) g
        snapshot (λ x i. all-in (IsSoundKept (bounds space sessions k)) snapshot x h.message.2 i) h.message.3
        pending (λ u i. all-in (λ (w : Update). IsSoundUpdate (bounds space sessions k) w × (has_place_in g w.places ≡ true)) pending u h.message.4 i)
        r (replica_for-found st g r z));
    adopts = λ id from config e higher. (let (k, l, h) = f id from _ e in
        install-good space sessions n s st relies config (record { of_space = h.message.1; epoch = (let e = h.message.0 in omega (arith, e, l, less)) }));
  })
