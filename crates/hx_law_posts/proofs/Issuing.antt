-- The configurations that are issued are of the space: a server is out, joins a region, or is ready in it; and what an issue answers and leaves is sound.
use Rattle.hx_law_lemmas.proofs.Lemmas.Vocabulary.{[], All, All-nil, AllDiffer, and_from, Answer, Answered, any_joining, ap, Bool, cond, cond_both, Config}
use Rattle.hx_law_lemmas.proofs.Lemmas.Vocabulary.{config_ready, config_with, config_without, eq-eqb, false, false≢true, filter, Fits, inl, inr, is_lost}
use Rattle.hx_law_lemmas.proofs.Lemmas.Vocabulary.{IsConfigOf, IsIn, IsListOf, IsServerOf, IsSessionOf, IsSoundAnswer, judged, length, length-map, List}
use Rattle.hx_law_lemmas.proofs.Lemmas.Vocabulary.{lists_ready, map, map-append, Member, members_of, members_without, None, not, Option, ready_if, refl}
use Rattle.hx_law_lemmas.proofs.Lemmas.Vocabulary.{RegionId, same_server, server_in, ServerId, slice_get, slice_set, Some, Space, stops_answered, stops_left}
use Rattle.hx_law_lemmas.proofs.Lemmas.Vocabulary.{stops_server, subst, suc, sym, Task, true, without_server, zero, ℕ, ◌&&◌, ◌++◌, ◌+◌, ◌∙◌, ◌∷◌, ◌≡◌, ◌≢◌, ◌≤◌}
use Rattle.hx_types.specs.declared.calls.Answer.TheVariants as an_answer
use Rattle.hx_law_lemmas.proofs.Lemmas.{each-append, each-one, all-in, all-of, differ-append, in-filter, in-map, in-slice_get, map-in}
use Rattle.hx_law_lemmas.proofs.Lemmas.{when_some_both, in-slice_set}
use Rattle.hx_law_posts.proofs.Bounds.{bounds}
use Rattle.hx_law_posts.proofs.Configs.{server_number}
use Rattle.hx_law_posts.proofs.SlotPosts.{any-of}

-- ---- a server is out

-- numbers of a filtered list differ
differ-filter : {A : Type 0} (f : A → ℕ) (test : A → Bool) (xs : List A) → AllDiffer (map f xs) → AllDiffer (map f (filter test xs))
differ-filter f test [] d = tt
differ-filter f test (x ∷ xs) d =
    cond_both (test x) (x ∷ filter test xs) (filter test xs) (λ l. AllDiffer (map f l))
    (
    λ t. (
      all-of (λ m. m ≢ f x) (map f (filter test xs)) (λ m i. (let a = in-map f (filter test xs) m i in
          all-in (λ k. k ≢ f x) (map f xs) m d.0 (subst (λ k. IsIn k (map f xs)) (sym a.2) (map-in f xs a.0 (in-filter test xs a.0 a.1).0)))),
      differ-filter f test xs d.1,
    )
    )
    (λ t. differ-filter f test xs d.1)

-- a list without a server
members_without-list : (space : Space) (s : ServerId) (ms : List Member) → IsListOf space ms → IsListOf space (members_without s ms)
members_without-list space s ms h = record {
  each = all-of (λ (m : Member). IsServerOf space m.server) (members_without s ms)
      (λ m i. all-in (λ (x : Member). IsServerOf space x.server) ms m h.each (in-filter (λ (x : Member). not (same_server x.server s)) ms m i).0);
  once = differ-filter server_number (λ (m : Member). not (same_server m.server s)) ms h.once;
}

-- the configuration without a server
pub config_without-sound : (space : Space) (config : Config) (s : ServerId) → IsConfigOf space config → IsConfigOf space (config_without config s)
config_without-sound space config s h = record {
  servers = all-of (IsServerOf space) (without_server s config.servers)
      (λ x i. all-in (IsServerOf space) config.servers x h.servers (in-filter (λ (y : ServerId). not (same_server y s)) config.servers x i).0);
  count = length-map config.regions (members_without s) ∙ h.count;
  each = all-of (IsListOf space) (config_without config s).regions (λ ms i. (let m = in-map (members_without s) config.regions ms i in
      subst (IsListOf space) (sym m.2) (members_without-list space s m.0 (all-in (IsListOf space) config.regions m.0 h.each m.1))));
}

-- ---- the list of one region is set

-- a list with an item set has as many items as before
count-slice_set : {A : Type 0} (xs : List A) (i : ℕ) (y : A) → length (slice_set xs i y) ≡ length xs
count-slice_set [] i y = refl
count-slice_set (a ∷ xs) zero y = refl
count-slice_set (a ∷ xs) (suc i) y = ap (λ k. suc k) (count-slice_set xs i y)

-- the members of a region are a list of the space
members-list : (space : Space) (config : Config) → IsConfigOf space config → (g : RegionId) → IsListOf space (members_of config g)
members-list space config h g =
    when_some_both (slice_get config.regions g.0) [] (λ (ms : List Member). ms) (IsListOf space)
    (λ e. record { each = All-nil _; once = tt })
    (λ ms e. all-in (IsListOf space) config.regions ms h.each (in-slice_get config.regions g.0 ms e))

-- the configuration of the next epoch with another list of a region
set-sound : (space : Space) (config : Config) → IsConfigOf space config → (g : RegionId) (ms : List Member) (next : Config)
    → next.servers ≡ config.servers → next.regions ≡ slice_set config.regions g.0 ms → IsListOf space ms → IsConfigOf space next
set-sound space config h g ms next servers regions list = record {
  servers = subst (All (IsServerOf space)) (sym servers) h.servers;
  count = ap length regions ∙ count-slice_set config.regions g.0 ms ∙ h.count;
  each = subst (All (IsListOf space)) (sym regions)
      (all-of (IsListOf space) (slice_set config.regions g.0 ms) (λ xs i. elim (in-slice_set config.regions g.0 ms xs i) [
        | inl e ↦ subst (IsListOf space) (sym e) list
        | inr j ↦ all-in (IsListOf space) config.regions xs h.each j
      ]));
}

-- ---- a server joins a region

-- the server may be added to the region: it is one of the configuration's, and not yet a member
pub record MayJoin (config : Config) (s : ServerId) (g : RegionId) : Type 0 where
  pub known : server_in s config.servers ≡ true
  pub not_ready : lists_ready config g s ≡ false
  pub none_joining : any_joining (members_of config g) ≡ false

-- a server that may join is no member
no-member : (config : Config) (s : ServerId) (g : RegionId) → MayJoin config s g → (m : Member) → IsIn m (members_of config g) → m.server.0 ≡ s.0 → ⊥
no-member config s g h m i e = by m.ready refl
  where
    by : (b : Bool) → m.ready ≡ b → ⊥
    by true r = false≢true (sym h.not_ready ∙ any-of (λ (x : Member). same_server x.server s && x.ready)
        (members_of config g) m i (and_from (same_server m.server s) m.ready (eq-eqb m.server.0 s.0 e) r))
    by false r = false≢true (sym h.none_joining ∙ any-of (λ (x : Member). not x.ready) (members_of config g) m i (ap not r))

-- the configuration with a server appended to a region
pub config_with-sound : (space : Space) (config : Config) → IsConfigOf space config → (s : ServerId) (g : RegionId)
    → IsServerOf space s → MayJoin config s g → IsConfigOf space (config_with config s g)
config_with-sound space config h s g exists may =
    set-sound space config h g (members_of config g ++ record { server = s; ready = false } ∷ [])
    (config_with config s g) refl refl longer
  where
    before : IsListOf space (members_of config g)
    before = members-list space config h g

    longer : IsListOf space (members_of config g ++ record { server = s; ready = false } ∷ [])
    longer = record {
      each = all-of (λ (m : Member). IsServerOf space m.server)
          (members_of config g ++ record { server = s; ready = false } ∷ [])
          (each-append (λ (x : Member). IsServerOf space x.server) (members_of config g) _
          (λ m i. all-in (λ (x : Member). IsServerOf space x.server) (members_of config g) m before.each i)
          (each-one (λ (x : Member). IsServerOf space x.server) (record { server = s; ready = false }) exists));
      once = subst AllDiffer (sym (map-append server_number (members_of config g) (record { server = s; ready = false } ∷ [])))
          (differ-append (map server_number (members_of config g)) (s.0 ∷ []) before.once (All-nil _, tt)
          (λ x y i j. elim j [
            | inl e ↦ (λ q. let a = in-map server_number (members_of config g) x i in no-member config s g may a.0 a.1 (sym a.2 ∙ sym q ∙ e))
            | inr k ↦ absurd k
          ]));
    }

-- ---- a server is ready in a region

-- being ready changes no server
ready-servers : (s : ServerId) (ms : List Member) → map server_number (map (ready_if s) ms) ≡ map server_number ms
ready-servers s [] = refl
ready-servers s (m ∷ ms) = ap (λ (l : List ℕ). m.server.0 ∷ l) (ready-servers s ms)

-- the configuration with a server ready in a region
pub config_ready-sound : (space : Space) (config : Config) → IsConfigOf space config → (s : ServerId) (g : RegionId)
    → IsConfigOf space (config_ready config s g)
config_ready-sound space config h s g = set-sound space config h g (map (ready_if s) (members_of config g)) (config_ready config s g) refl refl (record {
  each = all-of (λ (m : Member). IsServerOf space m.server) (map (ready_if s) (members_of config g))
      (λ x i. (let a = in-map (ready_if s) (members_of config g) x i in
      subst (λ (m : Member). IsServerOf space m.server) (sym a.2)
      (all-in (λ (m : Member). IsServerOf space m.server) (members_of config g) a.0 before.each a.1)));
  once = subst AllDiffer (sym (ready-servers s (members_of config g))) before.once;
})
  where
    before : IsListOf space (members_of config g)
    before = members-list space config h g

-- ---- what is answered and what is left

module _ (space : Space) (sessions n : ℕ) where
  -- a call of a session that exists, which fits
  pub record IsSoundTask (t : Task) : Type 0 where
    pub session : IsSessionOf sessions t.caller.session
    pub fits : Fits space t.op

  -- an answer to a session that exists
  pub record IsSoundAnswered (a : Answered) : Type 0 where
    pub session : IsSessionOf sessions a.caller.session
    pub answer : IsSoundAnswer (bounds space sessions n) a.answer

  -- why a server can't be added is a sound answer
  abbrev pub JudgedWell : Config → ServerId → RegionId → Option Answer → Type 0
  JudgedWell config s g None = MayJoin config s g
  JudgedWell config s g (Some a) = IsSoundAnswer (bounds space sessions n) a

  pub judged-sound : (config : Config) (s : ServerId) (g : RegionId) → config.epoch.0 ≤ n + 1 → JudgedWell config s g (judged config s g)
  judged-sound config s g e =
      by (server_in s config.servers) refl (is_lost config g) (lists_ready config g s) refl (any_joining (members_of config g)) refl
    where
      by : (a : Bool) → server_in s config.servers ≡ a → (b c : Bool) → lists_ready config g s ≡ c → (d : Bool) → any_joining (members_of config g) ≡ d
          → JudgedWell config s g (cond (not a) (Some (an_answer.Stopped config.epoch))
          (cond b (Some (an_answer.Lost config.epoch))
          (cond c (Some (an_answer.Member config.epoch)) (cond d (Some (an_answer.Joining config.epoch)) None))))
      by false p b c q d r = (tt, e)
      by true p true c q d r = (tt, e)
      by true p false true q d r = (tt, e)
      by true p false false q true r = (tt, e)
      by true p false false q false r = record { known = p; not_ready = q; none_joining = r }

  -- the Stops of a server, answered by the configuration without it
  pub stops-answered : (config : Config) (s : ServerId) → config.epoch.0 ≤ n + 1 → (todo : List Task) → ((t : Task) → IsIn t todo → IsSoundTask t)
      → (a : Answered) → IsIn a (stops_answered config s todo) → IsSoundAnswered a
  stops-answered config s e todo f a i =
      let m = in-map (λ (t : Task). record { caller = t.caller; answer = an_answer.Issued config.epoch }) (filter (stops_server s) todo) a i in
      subst IsSoundAnswered (sym m.2) (record { session = (f m.0 (in-filter (stops_server s) todo m.0 m.1).0).session; answer = (tt, e) })

  -- the Stops of other servers
  pub stops-left : (s : ServerId) (todo : List Task) → ((t : Task) → IsIn t todo → IsSoundTask t) → (t : Task) → IsIn t (stops_left s todo) → IsSoundTask t
  stops-left s todo f t i = f t (in-filter (λ (x : Task). not (stops_server s x)) todo t i).0
