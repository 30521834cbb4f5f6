-- What is kept of epochs stays so where more is posted and where one more configuration is known, which follows on the newest.
use Rattle.hx_law_lemmas.proofs.Lemmas.Vocabulary.{Actor, ap, arith, Config, Coordinator, Epoch, false≢true, inl, inr, IsIn, List, lists_ready, Message, Post}
use Rattle.hx_law_lemmas.proofs.Lemmas.Vocabulary.{RegionId, Server, ServerId, ServerState, Session, subst, sym, true, ◌++◌, ◌+◌, ◌∙◌, ◌≡◌, ◌≤◌, ◌⊎◌}
use Rattle.hx_types.specs.declared.messages.Message.TheVariants as a_message
use Rattle.hx_law_lemmas.proofs.Lemmas.{in-append}
use Rattle.hx_law_epochs.specs.Epochs.{FollowsOn}
use Rattle.hx_law_epochs.proofs.Facts.{EpochsKept, FromServer, Installed, NoLater, Says, SendsSnapshot}
use Rattle.hx_law_epochs.proofs.Growing.{GrownOut, grown-out-next, grown-out-self, grown-out-trans, orderly-lists}
use Rattle.hx_law_epochs.proofs.Next.{IsOrderly}

-- what is known after the newest configuration was one and is another: what was known, and besides it at most the other
pub record Widens (known after : Config → Type 0) (c n : Config) : Type 0 where
  pub later : c.epoch.0 ≤ n.epoch.0
  pub still : (k : Config) → known k → after k
  pub newest : after n
  pub only : (k : Config) → after k → known k ⊎ (k ≡ n)

-- a configuration that may be issued after another: it follows on it, whom it leaves out has halted, and who is ready in it was or is installed
pub record MayIssue (S : ServerId → ServerState) (c n : Config) : Type 0 where
  pub follows : FollowsOn c n
  pub orderly : IsOrderly n
  pub departed : (s : ServerId) → IsIn s c.servers → IsIn s n.servers ⊎ ((S s).halted ≡ true)
  pub ready : (g : RegionId) (s : ServerId) → lists_ready n g s ≡ true → (lists_ready c g s ≡ true) ⊎ Installed (S s) g

-- what is said of a server's post follows from what was
pub from-map : (a : Actor) (P Q : ServerId → Type 0) → ((s : ServerId) → P s → Q s) → FromServer a P → FromServer a Q
from-map Coordinator P Q f h = absurd h
from-map (Server s) P Q f h = f s h
from-map (Session u) P Q f h = absurd h

-- by the configurations known before is by those known after
pub sends-still : (known after : Config → Type 0) → ((k : Config) → known k → after k) → (st : ServerState) (epoch : Epoch) (g : RegionId) (s to : ServerId)
    → SendsSnapshot known st epoch g s to → SendsSnapshot after st epoch g s to
sends-still known after f st epoch g s to h = record {
  config = h.config;
  known = f h.config h.known;
  epoch_is = h.epoch_is;
  sender = h.sender;
  not_lost = h.not_lost;
  installed = h.installed;
}

module _ (S : ServerId → ServerState) (known after : Config → Type 0) (c n : Config) (w : Widens known after c n) where
  -- no epoch is later
  later-still : (epoch : Epoch) (s : ServerId) → NoLater c (S s) epoch → NoLater n (S s) epoch
  later-still epoch s h = (h.0, (let a = h.1 in let b = w.later in omega (arith, a, b)))

  -- what an epoch and another part of a post say
  abbrev And : Config → Epoch → (ServerId → Type 0) → ServerId → Type 0
  And m epoch P s = NoLater m (S s) epoch × P s

  -- what a snapshot says of its sender
  abbrev Sends : (Config → Type 0) → Epoch → RegionId → Actor → ServerId → Type 0
  Sends k epoch g to s = FromServer to (SendsSnapshot k (S s) epoch g s)

  sends-on : (epoch : Epoch) (g : RegionId) (to : Actor) (s : ServerId) → Sends known epoch g to s → Sends after epoch g to s
  sends-on epoch g to s h = from-map to (SendsSnapshot known (S s) epoch g s) (SendsSnapshot after (S s) epoch g s)
      (λ j. sends-still known after w.still (S s) epoch g s j) h

  -- posts say no less
  pub says-still : (from to : Actor) (m : Message) → Says S known c from to m → Says S after n from to m
  says-still from to a_message.Gone h = h
  says-still from to (a_message.Install config) h = w.still config h
  says-still from to (a_message.Update epoch g u) h = from-map from (λ s. NoLater c (S s) epoch) (λ s. NoLater n (S s) epoch) (later-still epoch) h
  says-still from to (a_message.Ack epoch g by key version) h = from-map from (λ s. NoLater c (S s) epoch) (λ s. NoLater n (S s) epoch) (later-still epoch) h
  says-still from to (a_message.Ready epoch g) h =
      from-map from (And c epoch (λ s. Installed (S s) g)) (And n epoch (λ s. Installed (S s) g)) (λ s l. (later-still epoch s l.0, l.1)) h
  says-still from to (a_message.Snap epoch g snapshot pending) h =
      from-map from (And c epoch (Sends known epoch g to)) (And n epoch (Sends after epoch g to))
      (λ s l. (later-still epoch s l.0, sends-on epoch g to s l.1)) h
  says-still from to other h = tt

module _ (Real : ServerId → Type 0) (S : ServerId → ServerState) (known : Config → Type 0) (c : Config) (posts : List Post)
    (kept : EpochsKept Real S known c posts) where
  -- more is posted
  pub more-kept : (new : List Post) → ((p : Post) → IsIn p new → Says S known c p.from p.to p.message) → EpochsKept Real S known c (new ++ posts)
  more-kept new f = record {
    newest = kept.newest;
    last = kept.last;
    one = kept.one;
    orderly = kept.orderly;
    grown = kept.grown;
    own = kept.own;
    home = kept.home;
    listed = kept.listed;
    ready = kept.ready;
    real = kept.real;
    says = λ p i. elim (in-append new posts p i) [ inl j ↦ f p j | inr j ↦ kept.says p j ];
  }

  module _ (after : Config → Type 0) (n : Config) (w : Widens known after c n) where
    -- the newest configuration is the one that it was
    pub same-kept : n ≡ c → EpochsKept Real S after n posts
    same-kept e = record {
      newest = w.newest;
      last = λ k a. (let l = kept.last k (was k a) in let b = w.later in omega (arith, l, b));
      one = λ k m a b q. kept.one k m (was k a) (was m b) q;
      orderly = λ k a. kept.orderly k (was k a);
      grown = λ k m a b l. kept.grown k m (was k a) (was m b) l;
      own = λ s. w.still (S s).config (kept.own s);
      home = kept.home;
      listed = λ s r u. subst (λ (x : Config). IsIn s x.servers) (sym e) (kept.listed s r u);
      ready = λ k a. kept.ready k (was k a);
      real = λ k a. kept.real k (was k a);
      says = λ p i. says-still S known after c n w p.from p.to p.message (kept.says p i);
    }
      where
        was : (k : Config) → after k → known k
        was k a = elim (w.only k a) [ inl h ↦ h | inr q ↦ subst known (sym (q ∙ e)) kept.newest ]

    -- another is issued
    pub issued-kept : MayIssue S c n → EpochsKept Real S after n posts
    issued-kept i = record {
      newest = w.newest;
      last = λ k a. elim (w.only k a) [
        | inl h ↦ (let l = kept.last k h in let b = w.later in omega (arith, l, b))
        | inr q ↦ (let e = ap (λ (x : Config). x.epoch.0) q in omega (arith, e))
      ];
      one = λ k m a b. one k m (w.only k a) (w.only m b);
      orderly = λ k a. elim (w.only k a) [ inl h ↦ kept.orderly k h | inr q ↦ subst IsOrderly (sym q) i.orderly ];
      grown = λ k m a b. grown k m (w.only k a) (w.only m b);
      own = λ s. w.still (S s).config (kept.own s);
      home = kept.home;
      listed = λ s r u. elim (i.departed s (kept.listed s r u)) [ inl j ↦ j | inr h ↦ absurd (false≢true (sym u ∙ h)) ];
      ready = λ k a. elim (w.only k a) [
        | inl h ↦ kept.ready k h
        | inr q ↦ subst (λ (x : Config). (g : RegionId) (s : ServerId) → lists_ready x g s ≡ true → Installed (S s) g) (sym q) ready
      ];
      real = λ k a. elim (w.only k a) [
        | inl h ↦ kept.real k h
        | inr q ↦ subst (λ (x : Config). (s : ServerId) → IsIn s x.servers → Real s) (sym q) (λ s j. kept.real c kept.newest s (i.follows.servers s j))
      ];
      says = λ p j. says-still S known after c n w p.from p.to p.message (kept.says p j);
    }
      where
        -- it is later than all before
        past : (k : Config) → known k → k.epoch.0 + 1 ≤ n.epoch.0
        past k h = let l = kept.last k h in let f = i.follows.epoch in omega (arith, l, f)

        apart : (k m : Config) → known k → m ≡ n → k.epoch ≡ m.epoch → ⊥
        apart k m h q e =
            let l = past k h in let a = ap (λ (x : Config). x.epoch.0) q in let b = ap (λ (x : Epoch). x.0) e in
            absurd (omega (arith, l, a, b))

        one : (k m : Config) → known k ⊎ (k ≡ n) → known m ⊎ (m ≡ n) → k.epoch ≡ m.epoch → k ≡ m
        one k m (inl h) (inl j) e = kept.one k m h j e
        one k m (inr p) (inr q) e = p ∙ sym q
        one k m (inl h) (inr q) e = absurd (apart k m h q e)
        one k m (inr p) (inl h) e = absurd (apart m k h p (sym e))

        -- it has grown out of all before
        out : (k : Config) → known k → GrownOut k n
        out k h = grown-out-trans k c n (orderly-lists n i.orderly) (kept.grown k c h kept.newest (kept.last k h)) (grown-out-next c n i.follows)

        grown : (k m : Config) → known k ⊎ (k ≡ n) → known m ⊎ (m ≡ n) → k.epoch.0 ≤ m.epoch.0 → GrownOut k m
        grown k m (inl h) (inl j) l = kept.grown k m h j l
        grown k m (inl h) (inr q) l = subst (GrownOut k) (sym q) (out k h)
        grown k m (inr p) (inr q) l = subst (λ (x : Config). GrownOut x m) (q ∙ sym p) (grown-out-self m)
        grown k m (inr p) (inl h) l = absurd (let b = past m h in let a = ap (λ (x : Config). x.epoch.0) p in omega (arith, l, a, b))

        ready : (g : RegionId) (s : ServerId) → lists_ready n g s ≡ true → Installed (S s) g
        ready g s t = elim (i.ready g s t) [ inl u ↦ kept.ready c kept.newest g s u | inr h ↦ h ]
