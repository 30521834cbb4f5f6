-- A server's step keeps what holds of epochs.
use Rattle.hx_law_lemmas.proofs.Lemmas.Vocabulary.{[], Actor, and_parts, any_ready, ap, arith, Bool, cases_Bool, cases_eq, Config, Epoch, eqb-true, false}
use Rattle.hx_law_lemmas.proofs.Lemmas.Vocabulary.{false≢true, first_of_list, head_of, inl, inr, is_key_region, is_lost, is_server, IsBefore, IsIn, leads, List}
use Rattle.hx_law_lemmas.proofs.Lemmas.Vocabulary.{lists, lists_ready, Member, members_of, Message, None, not, Option, Post, refl, RegionId, Server, ServerId}
use Rattle.hx_law_lemmas.proofs.Lemmas.Vocabulary.{ServerState, ServerStep, Some, Space, subst, sym, true, when_some, ◌&&◌, ◌++◌, ◌∙◌, ◌∷◌, ◌≡◌, ◌≤◌, ◌⊎◌}
use Rattle.hx_types.specs.declared.messages.Message.TheVariants as a_message
use Rattle.hx_law_lemmas.proofs.Lemmas.{any-in, in-append, in-listed, listed-in}
use Rattle.hx_law_epochs.specs.Epochs.{order}
use Rattle.hx_law_epochs.proofs.Next.{IsOrderly}
use Rattle.hx_law_epochs.proofs.Follows.{member-listed, member-ready, ready-member}
use Rattle.hx_law_epochs.proofs.Facts.{EpochsKept, FromServer, Installed, NoLater, Says, SendsSnapshot}
use Rattle.hx_law_epochs.proofs.Servers.{Does, Tells}
use Rattle.hx_law_epochs.proofs.Widening.{from-map, sends-still}

-- the first member of a region that isn't lost is ready
pub head-ready : (c : Config) → IsOrderly c → (g : RegionId) (s : ServerId) → is_lost c g ≡ false → head_of c g ≡ Some s → lists_ready c g s ≡ true
head-ready c ok g s l h = by (members_of c g) refl l h
  where
    -- some other is ready, so this one is
    first : (m : Member) (rest : List Member) → members_of c g ≡ m ∷ rest → any_ready (m ∷ rest) ≡ true → m.ready ≡ true
    first m rest e t = elim (cases_Bool m.ready) [
      | inl u ↦ u
      | inr u ↦ (let r = any-in (λ (x : Member). x.ready) (m ∷ rest) t in of r.0 r.1 r.2)
    ]
      where
        of : (x : Member) → IsIn x (m ∷ rest) → x.ready ≡ true → m.ready ≡ true
        of x (inl q) r = ap (λ (y : Member). y.ready) (sym q) ∙ r
        of x (inr i) r = ok.joins_last g m x (subst (λ (l : List Member). IsBefore m x l) (sym e) (inl (refl, i)))

    by : (ms : List Member) → members_of c g ≡ ms → not (any_ready ms) ≡ false
        → when_some (first_of_list ms) None (λ (m : Member). Some m.server) ≡ Some s → lists_ready c g s ≡ true
    by [] e l h = absurd (cc)
    by (m ∷ rest) e l h =
        let q : m.server ≡ s = cc in
        member-ready c g s m (subst (λ (l : List Member). IsIn m l) (sym e) (inl refl)) q (first m rest e (flip (any_ready (m ∷ rest)) l))
      where
        flip : (b : Bool) → not b ≡ false → b ≡ true
        flip true e = refl
        flip false e = absurd (false≢true (sym e))

-- who is ready is listed
pub ready-listed : (c : Config) (g : RegionId) (s : ServerId) → lists_ready c g s ≡ true → lists c g s ≡ true
ready-listed c g s t = let m = ready-member c g s t in member-listed c g s m.0 m.1 m.2

module _ (Real : ServerId → Type 0) (S : ServerId → ServerState) (known : Config → Type 0) (c : Config) (posts : List Post)
    (kept : EpochsKept Real S known c posts) (i : ServerId) (real : Real i) (up : (S i).halted ≡ false) where
  -- where it leads a region it is installed
  pub leads-installed : (space : Space) → (S i).id ≡ i → (g : RegionId) → leads space (S i).config (S i).id g ≡ true → Installed (S i) g
  leads-installed space id g l =
      let a = and_parts (is_key_region space g && not (is_lost (S i).config g)) (is_server (S i).id (head_of (S i).config g)) l in
      let b = and_parts (is_key_region space g) (not (is_lost (S i).config g)) a.0 in
      let own = kept.own i in
      kept.ready (S i).config own g i
      (head-ready (S i).config (kept.orderly (S i).config own) g i (flip (is_lost (S i).config g) b.1) (named (head_of (S i).config g) a.1))
    where
      flip : (b : Bool) → not b ≡ true → b ≡ false
      flip true e = absurd (false≢true e)
      flip false e = refl

      named : (o : Option ServerId) → is_server (S i).id o ≡ true → o ≡ Some i
      named None t = absurd (false≢true t)
      named (Some x) t = ap Some (sym (let q = eqb-true (S i).id.0 x.0 t in λ j. record { 0 = q j }) ∙ id)

  -- a configuration that it adopts lists it where it is installed: it is a server of the newest, and so of each before
  still-lists : (config : Config) → known config → (S i).config.epoch.0 ≤ config.epoch.0 → (g : RegionId) → Installed (S i) g → lists config g i ≡ true
  still-lists config k l g h =
      let there = (kept.grown config c k kept.newest (kept.last config k)).servers i (kept.listed i real up) in
      in-listed config g i ((kept.grown (S i).config config (kept.own i) k l).stays g i there (kept.home g i h))

  module _ (step : ServerStep) (does : Does i (S i) known step)
      (S' : ServerId → ServerState) (here : S' i ≡ step.state) (others : (j : ServerId) → (j ≡ i → ⊥) → S' j ≡ S j) where
    -- this server or another
    which : (j : ServerId) → (j ≡ i) ⊎ (j ≡ i → ⊥)
    which j = elim (cases_eq j.0 i.0) [ inl q ↦ inl (λ k. record { 0 = q k }) | inr n ↦ inr (λ e. n (ap (λ (x : ServerId). x.0) e)) ]

    -- what passes from before to after at this server passes at each
    each : (P : ServerId → ServerState → Type 0) → (P i (S i) → P i step.state) → (j : ServerId) → P j (S j) → P j (S' j)
    each P f j p = elim (which j) [
      | inl e ↦ subst (λ (x : ServerId). P x (S' x)) (sym e) (subst (P i) (sym here) (f (subst (λ (x : ServerId). P x (S x)) e p)))
      | inr n ↦ subst (P j) (sym (others j n)) p
    ]

    -- it is up only if it was
    was-up : (j : ServerId) → (S' j).halted ≡ false → (S j).halted ≡ false
    was-up j = back (S j).halted refl
      where
        back : (b : Bool) → (S j).halted ≡ b → (S' j).halted ≡ false → b ≡ false
        back false e t = refl
        back true e t = absurd (false≢true (sym t ∙ each (λ j st. st.halted ≡ true) halted j e))
          where
            halted : (S i).halted ≡ true → step.state.halted ≡ true
            halted h = elim does.change [ inl k ↦ k.halted h | inr (config, may, k) ↦ k.halted h ]

    -- its configuration is known, and its epoch never falls
    own-after : known step.state.config
    own-after = elim does.change [
      | inl k ↦ subst known (sym k.config) (kept.own i)
      | inr (config, may, k) ↦ subst known (sym k.config_is) may
    ]

    rises : (S i).config.epoch.0 ≤ step.state.config.epoch.0
    rises = elim does.change [
      | inl k ↦ (let e = ap (λ (x : Config). x.epoch.0) k.config in omega (arith, e))
      | inr (config, may, k) ↦ (let e = ap (λ (x : Config). x.epoch.0) k.config_is in let h = k.higher in omega (arith, h, e))
    ]

    -- what was installed stays so
    still-installed : (g : RegionId) → Installed (S i) g → Installed step.state g
    still-installed g h = elim does.change [
      | inl k ↦ k.installed g h
      | inr (config, may, k) ↦ k.installed g (still-lists config may (let a = k.higher in omega (arith, a)) g h) h
    ]

    -- what is installed is listed
    home-after : (g : RegionId) → Installed step.state g → IsIn i (order step.state.config g)
    home-after g h = listed-in step.state.config g i (does.shaped.only g h.replica h.found)

    -- what posts said of a server before they say after
    later-after : (e : Epoch) → NoLater c (S i) e → NoLater c step.state e
    later-after e h = (let a = h.0 in let r = rises in omega (arith, a, r), h.1)

    installed-after : (e : Epoch) (g : RegionId) → NoLater c (S i) e × Installed (S i) g → NoLater c step.state e × Installed step.state g
    installed-after e g h = (later-after e h.0, still-installed g h.1)

    -- what a snapshot says of its sender
    abbrev Sends : Actor → Epoch → RegionId → ServerId → ServerState → Type 0
    Sends to e g j st = NoLater c st e × FromServer to (SendsSnapshot known st e g j)

    sends-after : (to : Actor) (e : Epoch) (g : RegionId) → Sends to e g i (S i) → Sends to e g i step.state
    sends-after to e g h = (later-after e h.0, from-map to (SendsSnapshot known (S i) e g i) (SendsSnapshot known step.state e g i) still h.1)
      where
        still : (j : ServerId) → SendsSnapshot known (S i) e g i j → SendsSnapshot known step.state e g i j
        still j x = record {
          config = x.config;
          known = x.known;
          epoch_is = x.epoch_is;
          sender = x.sender;
          not_lost = x.not_lost;
          installed = still-installed g x.installed;
        }

    -- of a server that a post is from
    of-sender : (from : Actor) (P : ServerId → ServerState → Type 0) → (P i (S i) → P i step.state)
        → FromServer from (λ s. P s (S s)) → FromServer from (λ s. P s (S' s))
    of-sender from P f h = from-map from (λ s. P s (S s)) (λ s. P s (S' s)) (each P f) h

    -- each earlier post
    older-after : (from to : Actor) (m : Message) → Says S known c from to m → Says S' known c from to m
    older-after from to a_message.Gone h = of-sender from (λ j st. st.halted ≡ true) (λ x. absurd (false≢true (sym up ∙ x))) h
    older-after from to (a_message.Install config) h = h
    older-after from to (a_message.Ready epoch g) h = of-sender from (λ j st. NoLater c st epoch × Installed st g) (installed-after epoch g) h
    older-after from to (a_message.Snap epoch g snapshot pending) h = of-sender from (Sends to epoch g) (sends-after to epoch g) h
    older-after from to (a_message.Update epoch g u) h = of-sender from (λ j st. NoLater c st epoch) (later-after epoch) h
    older-after from to (a_message.Ack epoch g by key version) h = of-sender from (λ j st. NoLater c st epoch) (later-after epoch) h
    older-after from to other h = tt

    -- a message of the own epoch is of no later one
    own-epoch : (epoch : Epoch) → epoch ≡ step.state.config.epoch → NoLater c step.state epoch
    own-epoch epoch h = let q = ap (λ (x : Epoch). x.0) h in let l = kept.last step.state.config own-after in (omega (arith, q), omega (arith, q, l))

    -- each new one, of the state that the server has now
    own-says : (T : ServerId → ServerState) → T i ≡ step.state → (to : Actor) (m : Message) → Tells i step.state to m → Says T known c (Server i) to m
    own-says T e to (a_message.Update epoch g u) h = subst (λ (st : ServerState). NoLater c st epoch) (sym e) (own-epoch epoch h)
    own-says T e to (a_message.Ack epoch g by key version) h = subst (λ (st : ServerState). NoLater c st epoch) (sym e) (own-epoch epoch h)
    own-says T e to a_message.Gone h = subst (λ (st : ServerState). st.halted ≡ true) (sym e) h
    own-says T e to (a_message.Ready epoch g) h = subst (λ (st : ServerState). NoLater c st epoch × Installed st g) (sym e) (own-epoch epoch h.0, h.1)
    own-says T e to (a_message.Snap epoch g snapshot pending) h =
        subst (λ (st : ServerState). NoLater c st epoch × FromServer to (SendsSnapshot known st epoch g i)) (sym e) (
          own-epoch epoch h.0,
          from-map to (SendsSnapshot (λ (k : Config). k ≡ step.state.config) step.state epoch g i) (SendsSnapshot known step.state epoch g i)
              (λ j. sends-still (λ (k : Config). k ≡ step.state.config) known (λ k q. subst known (sym q) own-after) step.state epoch g i j) h.1,
        )
    own-says T e to (a_message.Install config) h = absurd h
    own-says T e to other h = tt

    -- so all is kept
    pub serving-kept : EpochsKept Real S' known c (step.posts ++ posts)
    serving-kept = record {
      newest = kept.newest;
      last = kept.last;
      one = kept.one;
      orderly = kept.orderly;
      grown = kept.grown;
      own = λ s. each (λ j st. known st.config) (λ x. own-after) s (kept.own s);
      home = λ g s. each (λ j st. Installed st g → IsIn j (order st.config g)) (λ x. home-after g) s (kept.home g s);
      listed = λ s r t. kept.listed s r (was-up s t);
      ready = λ k a g s t. each (λ j st. Installed st g) (still-installed g) s (kept.ready k a g s t);
      real = kept.real;
      says = λ p k. elim (in-append step.posts posts p k) [
        | inl j ↦ (let r = does.posts p j in subst (λ (a : Actor). Says S' known c a p.to p.message) (sym r.0) (own-says S' here p.to p.message r.1))
        | inr j ↦ older-after p.from p.to p.message (kept.says p j)
      ];
    }
