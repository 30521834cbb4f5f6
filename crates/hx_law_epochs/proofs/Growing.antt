-- A configuration that has grown out of another: servers only leave, and lists grow at their end alone.
use Rattle.hx_law_lemmas.proofs.Lemmas.Vocabulary.{arith, Config, is_lost, IsBefore, IsIn, members_of, RegionId, ServerId, subst, true, ◌≡◌, ◌≤◌}
use Rattle.hx_law_lemmas.proofs.Lemmas.{before-in, in-listed, listed-in}
use Rattle.hx_law_epochs.specs.Epochs.{FollowsOn, order}
use Rattle.hx_law_epochs.proofs.Members.{server-member}
use Rattle.hx_law_epochs.proofs.Next.{IsOrderly}

-- who is listed is a server
abbrev pub ListsServers : Config → Type 0
ListsServers c = (g : RegionId) (s : ServerId) → IsIn s (order c g) → IsIn s c.servers

-- the later of two configurations of a run: what is lost stays lost, who stays a server stays
-- listed, in the same order, and whoever is listed since stands last
pub record GrownOut (c n : Config) : Type 0 where
  pub epoch : c.epoch.0 ≤ n.epoch.0
  pub servers : (s : ServerId) → IsIn s n.servers → IsIn s c.servers
  pub stays : (g : RegionId) (s : ServerId) → IsIn s n.servers → IsIn s (order c g) → IsIn s (order n g)
  pub same_order : (g : RegionId) (x y : ServerId) → IsIn y (order c g) → IsBefore x y (order n g) → IsBefore x y (order c g)
  pub keeps_order : (g : RegionId) (x y : ServerId) → IsIn x n.servers → IsIn y n.servers → IsBefore x y (order c g) → IsBefore x y (order n g)
  pub lost : (g : RegionId) → is_lost c g ≡ true → is_lost n g ≡ true

-- an orderly one does so
pub orderly-lists : (c : Config) → IsOrderly c → ListsServers c
orderly-lists c ok g s i = let m = server-member s (members_of c g) i in subst (λ (x : ServerId). IsIn x c.servers) m.2 (ok.members g m.0 m.1)

-- a configuration has grown out of itself
pub grown-out-self : (c : Config) → GrownOut c c
grown-out-self c = record {
  epoch = omega arith;
  servers = λ s i. i;
  stays = λ g s i j. j;
  same_order = λ g x y i b. b;
  keeps_order = λ g x y i j b. b;
  lost = λ g e. e;
}

-- and out of the one on which it follows
pub grown-out-next : (c n : Config) → FollowsOn c n → GrownOut c n
grown-out-next c n f = record {
  epoch = (let e = f.epoch in omega (arith, e));
  servers = f.servers;
  stays = λ g s i j. listed-in n g s (f.stays g s i (in-listed c g s j));
  same_order = λ g x y i b. f.same_order g x y (in-listed c g y i) b;
  keeps_order = f.keeps_order;
  lost = f.lost;
}

-- one after another
pub grown-out-trans : (c m n : Config) → ListsServers n → GrownOut c m → GrownOut m n → GrownOut c n
grown-out-trans c m n listed a b = record {
  epoch = (let x = a.epoch in let y = b.epoch in omega (arith, x, y));
  servers = λ s i. a.servers s (b.servers s i);
  stays = λ g s i j. b.stays g s i (a.stays g s (b.servers s i) j);
  same_order = λ g x y i p. a.same_order g x y i (b.same_order g x y (a.stays g y (b.servers y (listed g y (before-in x y (order n g) p).1)) i) p);
  keeps_order = λ g x y i j p. b.keeps_order g x y i j (a.keeps_order g x y (b.servers x i) (b.servers y j) p);
  lost = λ g e. b.lost g (a.lost g e);
}
