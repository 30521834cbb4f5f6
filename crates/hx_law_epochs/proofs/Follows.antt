-- What the coordinator issues is orderly and follows on the configuration before.
use Rattle.hx_law_lemmas.proofs.Lemmas.Vocabulary.{[], and_from, and_parts, any_ready, ap, Bool, cases_Bool, cond_both, Config, Epoch, eq-eqb, false}
use Rattle.hx_law_lemmas.proofs.Lemmas.Vocabulary.{false≢true, filter, inl, inr, is_lost, IsBefore, IsIn, List, lists, lists_joining, lists_ready, map}
use Rattle.hx_law_lemmas.proofs.Lemmas.Vocabulary.{map-append, Member, members_of, not, or_cases, refl, RegionId, same_server, ServerId, subst, sym, true, ◌&&◌}
use Rattle.hx_law_lemmas.proofs.Lemmas.Vocabulary.{◌++◌, ◌+◌, ◌||◌, ◌∙◌, ◌∷◌, ◌≡◌, ◌⊎◌}
use Rattle.hx_law_lemmas.proofs.Lemmas.{any-in, in-append, in-filter, in-map, in_left, map-in, Differ, server-same, before-in, fewer-before, fewer-differ}
use Rattle.hx_law_lemmas.proofs.Lemmas.{in-listed, listed-in, member-server, servers_of}
use Rattle.hx_law_epochs.specs.Epochs.{FollowsOn, order}
use Rattle.hx_law_epochs.proofs.Members.{server-member}
use Rattle.hx_law_epochs.proofs.Next.{Grown, IsOrderly, MayJoin, any-of, filter-in, joiner}

-- ---- members by their tests

-- a listed server has a member
pub listed-member : (c : Config) (g : RegionId) (s : ServerId) → lists c g s ≡ true → (m : Member) × IsIn m (members_of c g) × (m.server ≡ s)
listed-member c g s t = server-member s (members_of c g) (listed-in c g s t)

pub member-listed : (c : Config) (g : RegionId) (s : ServerId) (m : Member) → IsIn m (members_of c g) → m.server ≡ s → lists c g s ≡ true
member-listed c g s m i e = in-listed c g s (subst (λ (x : ServerId). IsIn x (servers_of (members_of c g))) e (member-server (members_of c g) m i))

-- a ready one has a ready member
pub ready-member : (c : Config) (g : RegionId) (s : ServerId) → lists_ready c g s ≡ true → (m : Member)
    × IsIn m (members_of c g) × (m.server ≡ s) × (m.ready ≡ true)
ready-member c g s t =
    let r = any-in (λ (m : Member). same_server m.server s && m.ready) (members_of c g) t in
    let a = and_parts (same_server r.0.server s) r.0.ready r.2 in
    (r.0, r.1, server-same r.0.server s a.0, a.1)

pub member-ready : (c : Config) (g : RegionId) (s : ServerId) (m : Member) → IsIn m (members_of c g) → m.server ≡ s → m.ready ≡ true → lists_ready c g s ≡ true
member-ready c g s m i e r =
    any-of (λ (m : Member). same_server m.server s && m.ready) (members_of c g) m i
    (and_from (same_server m.server s) m.ready (eq-eqb m.server.0 s.0 (ap (λ (y : ServerId). y.0) e)) r)

pub member-joining : (c : Config) (g : RegionId) (s : ServerId) (m : Member) → IsIn m (members_of c g) → m.server ≡ s
    → m.ready ≡ false → lists_joining c g s ≡ true
member-joining c g s m i e r =
    any-of (λ (m : Member). same_server m.server s && not m.ready) (members_of c g) m i
    (and_from (same_server m.server s) (not m.ready) (eq-eqb m.server.0 s.0 (ap (λ (y : ServerId). y.0) e)) (ap not r))

-- a region with a ready member isn't lost
pub ready-not_lost : (c : Config) (g : RegionId) (m : Member) → IsIn m (members_of c g) → m.ready ≡ true → is_lost c g ≡ false
ready-not_lost c g m i r = ap not (any-of (λ (x : Member). x.ready) (members_of c g) m i r)

-- ---- lists with one more at the end

-- who stands before whom with one more at the end
before-more : {A : Type 0} (xs : List A) (z x y : A) → IsBefore x y (xs ++ z ∷ []) → IsBefore x y xs ⊎ (IsIn x xs × (y ≡ z))
before-more [] z x y (inl (e, i)) = absurd i
before-more [] z x y (inr i) = absurd i
before-more (a ∷ xs) z x y (inl (e, i)) = elim (in-append xs (z ∷ []) y i) [ inl j ↦ inl (inl (e, j)) | inr (inl q) ↦ inr (inl e, q) | inr (inr j) ↦ absurd j ]
before-more (a ∷ xs) z x y (inr b) = elim (before-more xs z x y b) [ inl c ↦ inl (inr c) | inr (i, e) ↦ inr (inr i, e) ]

more-before : {A : Type 0} (xs : List A) (z x y : A) → IsBefore x y xs → IsBefore x y (xs ++ z ∷ [])
more-before [] z x y b = absurd b
more-before (a ∷ xs) z x y (inl (e, i)) = inl (e, in_left xs (z ∷ []) y i)
more-before (a ∷ xs) z x y (inr b) = inr (more-before xs z x y b)

-- one more server, who isn't there
push-differ : (ms : List Member) (m : Member) → Differ ms → ((x : Member) → IsIn x ms → x.server ≡ m.server → ⊥) → Differ (ms ++ m ∷ [])
push-differ [] m d f = ((λ x i. absurd i), tt)
push-differ (y ∷ ms) m d f = (
  λ x i. elim (in-append ms (m ∷ []) x i) [
    | inl j ↦ d.0 x j
    | inr (inl e) ↦ (λ q. f y (inl refl) (sym q ∙ ap (λ (z : Member). z.server) e))
    | inr (inr j) ↦ absurd j
  ],
  push-differ ms m d.1 (λ x i. f x (inr i)),
)

-- ---- fewer members

module _ (test : Member → Bool) (after : Member → Member) (same : (m : Member) → (after m).server ≡ m.server) where
  -- the members that stay
  abbrev some : List Member → List Member
  some ms = map after (filter test ms)

  -- who stays stands in the same order
  stay-before : (ms : List Member) (x y : ServerId) → ((m : Member) → IsIn m ms → m.server ≡ x → test m ≡ true)
      → ((m : Member) → IsIn m ms → m.server ≡ y → test m ≡ true)
      → IsBefore x y (servers_of ms) → IsBefore x y (servers_of (some ms))
  stay-before [] x y f h b = absurd b
  stay-before (m ∷ rest) x y f h b =
      cond_both (test m) (m ∷ filter test rest) (filter test rest) (λ l. IsBefore x y (servers_of (map after l)))
      (λ t. elim b [
        | inl (e, i) ↦ inl (
          e ∙ sym (same m),
          (let z = server-member y rest i in
              subst (λ (w : ServerId). IsIn w (servers_of (some rest))) (same z.0 ∙ z.2)
              (member-server (some rest) (after z.0) (map-in after (filter test rest) z.0
              (filter-in test rest z.0 z.1 (h z.0 (inr z.1) z.2))))),
        )
        | inr c ↦ inr (stay-before rest x y (λ k i. f k (inr i)) (λ k i. h k (inr i)) c)
      ])
      (λ t. elim b [
        | inl (e, i) ↦ absurd (false≢true (sym t ∙ f m (inl refl) (sym e)))
        | inr c ↦ stay-before rest x y (λ k i. f k (inr i)) (λ k i. h k (inr i)) c
      ])

  -- members that stand one before the other stood so
  some-before : (ms : List Member) (x y : Member) → IsBefore x y (some ms) → (a b : Member) × IsBefore a b ms × (x ≡ after a) × (y ≡ after b)
  some-before [] x y = λ b. absurd b
  some-before (m ∷ rest) x y =
      cond_both (test m) (m ∷ filter test rest) (filter test rest)
      (λ l. IsBefore x y (map after l) → (a b : Member) × IsBefore a b (m ∷ rest) × (x ≡ after a) × (y ≡ after b))
      (λ t b. elim b [
        | inl (e, i) ↦ (let z = in-map after (filter test rest) y i in (m, z.0, inl (refl, (in-filter test rest z.0 z.1).0), e, z.2))
        | inr c ↦ (let r = some-before rest x y c in (r.0, r.1, inr r.2, r.3, r.4))
      ])
      (λ t c. let r = some-before rest x y c in (r.0, r.1, inr r.2, r.3, r.4))

-- a configuration comes next: it follows on another, is orderly, and who is ready in it was so or becomes so
pub record ComesNext (c n : Config) (turns : RegionId → ServerId → Bool) : Type 0 where
  pub follows : FollowsOn c n
  pub orderly : IsOrderly n
  pub ready : (g : RegionId) (s : ServerId) → lists_ready n g s ≡ true → (lists_ready c g s ≡ true) ⊎ (turns g s ≡ true)

-- ---- the next configuration, before a server joins: without the departed, and with those ready who became so

module _ (c w : Config) (ok : IsOrderly c) (out : ServerId → Bool) (turns : RegionId → ServerId → Bool)
    (present : (g : RegionId) (s : ServerId) → turns g s ≡ true → is_lost c g ≡ false)
    (epoch : w.epoch.0 ≡ c.epoch.0 + 1) (servers : w.servers ≡ filter (λ (y : ServerId). not (out y)) c.servers)
    (left : (g : RegionId) → members_of w g ≡ map (λ (m : Member). record {
      server = m.server;
      ready = m.ready || turns g m.server;
    }) (filter (λ (m : Member). not (out m.server)) (members_of c g))) where
  -- who hasn't departed
  abbrev keep : Member → Bool
  keep m = not (out m.server)

  -- a member, ready if it became so
  abbrev made : RegionId → Member → Member
  made g m = record { server = m.server; ready = m.ready || turns g m.server }

  -- who is a server now
  in-now : (s : ServerId) → IsIn s w.servers → IsIn s (filter (λ (y : ServerId). not (out y)) c.servers)
  in-now s i = subst (λ (l : List ServerId). IsIn s l) servers i

  -- a member that is left was one
  left-from : (g : RegionId) (m : Member) → IsIn m (members_of w g) → (x : Member) × IsIn x (members_of c g) × (keep x ≡ true) × (m ≡ made g x)
  left-from g m i =
      let a = in-map (made g) (filter keep (members_of c g)) m (subst (λ (l : List Member). IsIn m l) (left g) i) in
      let b = in-filter keep (members_of c g) a.0 a.1 in
      (a.0, b.0, b.1, a.2)

  -- and one whose server is among those left is left
  left-there : (g : RegionId) (x : Member) → IsIn x (members_of c g) → IsIn x.server w.servers → IsIn (made g x) (members_of w g)
  left-there g x i s =
      subst (λ (l : List Member). IsIn (made g x) l) (sym (left g))
      (map-in (made g) (filter keep (members_of c g)) x
      (filter-in keep (members_of c g) x i (in-filter (λ (y : ServerId). not (out y)) c.servers x.server
      (in-now x.server s)).1))

  -- who is ready now was, or joined
  ready-from : (g : RegionId) (x : Member) → (made g x).ready ≡ true → (x.ready ≡ true) ⊎ (turns g x.server ≡ true)
  ready-from g x t = or_cases x.ready (turns g x.server) t

  -- what is lost stays lost
  left-lost : (g : RegionId) → is_lost c g ≡ true → is_lost w g ≡ true
  left-lost g l = elim (cases_Bool (any_ready (members_of w g))) [
    | inr f ↦ ap not f
    | inl t ↦ absurd (false≢true (sym (found t) ∙ l))
  ]
    where
      found : any_ready (members_of w g) ≡ true → is_lost c g ≡ false
      found t =
          let a = any-in (λ (m : Member). m.ready) (members_of w g) t in
          let b = left-from g a.0 a.1 in
          elim (ready-from g b.0 (ap (λ (m : Member). m.ready) (sym b.3) ∙ a.2)) [
            | inl r ↦ ready-not_lost c g b.0 b.1 r
            | inr r ↦ present g b.0.server r
          ]

  -- the order of those left
  left-order : (g : RegionId) (x y : ServerId) → IsBefore x y (order w g) → IsBefore x y (order c g)
  left-order g x y b = fewer-before keep (made g) (λ m. refl) (members_of c g) x y (subst (λ (l : List Member). IsBefore x y (servers_of l)) (left g) b)

  order-left : (g : RegionId) (x y : ServerId) → IsIn x w.servers → IsIn y w.servers → IsBefore x y (order c g) → IsBefore x y (order w g)
  order-left g x y i j b =
      subst (λ (l : List Member). IsBefore x y (servers_of l)) (sym (left g))
      (stay-before keep (made g) (λ m. refl) (members_of c g) x y (λ m k e. kept m x e i) (λ m k e. kept m y e j) b)
    where
      kept : (m : Member) (x : ServerId) → m.server ≡ x → IsIn x w.servers → keep m ≡ true
      kept m x e i = ap (λ (y : ServerId). not (out y)) e ∙ (in-filter (λ (y : ServerId). not (out y)) c.servers x (in-now x i)).1

  -- it is orderly
  left-orderly : IsOrderly w
  left-orderly = record {
    members = λ g m i. (let b = left-from g m i in
        subst (λ (x : Member). IsIn x.server w.servers) (sym b.3)
        (subst (λ (l : List ServerId). IsIn b.0.server l) (sym servers)
        (filter-in (λ (y : ServerId). not (out y)) c.servers b.0.server (ok.members g b.0 b.1) b.2)));
    differ = λ g. subst Differ (sym (left g)) (fewer-differ keep (made g) (λ m. refl) (members_of c g) (ok.differ g));
    joins_last = λ g m x b. (let r = some-before keep (made g) (λ m. refl) (members_of c g) m x (subst (λ (l : List Member). IsBefore m x l) (left g) b) in
        ap (λ (y : Member). y.ready) r.3 ∙ ap (λ b. b || turns g r.0.server) (ok.joins_last g r.0 r.1 r.2));
  }

  -- ---- what grew from it

  module _ (n : Config) (grown : Grown w n) where
    -- who is a server of the next one was left
    server-left : (s : ServerId) → IsIn s n.servers → IsIn s w.servers
    server-left s i = subst (λ (l : List ServerId). IsIn s l) grown.servers i

    left-server : (s : ServerId) → IsIn s w.servers → IsIn s n.servers
    left-server s i = subst (λ (l : List ServerId). IsIn s l) (sym grown.servers) i

    -- a member of what was left is one
    grown-in : (g : RegionId) (m : Member) → IsIn m (members_of w g) → IsIn m (members_of n g)
    grown-in g m i = elim (grown.lists g) [
      | inl e ↦ subst (λ (l : List Member). IsIn m l) (sym e) i
      | inr (s, e, may) ↦ subst (λ (l : List Member). IsIn m l) (sym e) (in_left (members_of w g) (joiner s ∷ []) m i)
    ]

    -- and each member is one of those or joins
    grown-from : (g : RegionId) (m : Member) → IsIn m (members_of n g) → IsIn m (members_of w g)
        ⊎ ((m ≡ joiner m.server) × MayJoin w m.server g × (members_of n g ≡ members_of w g ++ joiner m.server ∷ []))
    grown-from g m i = elim (grown.lists g) [
      | inl e ↦ inl (subst (λ (l : List Member). IsIn m l) e i)
      | inr (s, e, may) ↦ elim (in-append (members_of w g) (joiner s ∷ []) m (subst (λ (l : List Member). IsIn m l) e i)) [
        | inl j ↦ inl j
        | inr (inl q) ↦ (let z : m.server ≡ s = ap (λ (x : Member). x.server) q in
            inr (
              q ∙ ap joiner (sym z),
              subst (λ (x : ServerId). MayJoin w x g) (sym z) may,
              e ∙ ap (λ (x : ServerId). members_of w g ++ joiner x ∷ []) (sym z),
            ))
        | inr (inr k) ↦ absurd k
      ]
    ]

    -- the servers in order, with one who joins
    more-servers : (ms : List Member) (s : ServerId) → servers_of (ms ++ joiner s ∷ []) ≡ servers_of ms ++ s ∷ []
    more-servers ms s = map-append (λ (m : Member). m.server) ms (joiner s ∷ [])

    grown-order : (g : RegionId) (x y : ServerId) → IsBefore x y (order n g) → IsBefore x y (order w g) ⊎ ((IsIn x (order w g)) × MayJoin w y g)
    grown-order g x y b = elim (grown.lists g) [
      | inl e ↦ inl (subst (λ (l : List Member). IsBefore x y (servers_of l)) e b)
      | inr (s, e, may) ↦ elim (before-more (order w g) s x y
          (subst (λ (l : List ServerId). IsBefore x y l) (ap servers_of e ∙ more-servers (members_of w g) s) b)) [
            | inl c ↦ inl c
            | inr (i, q) ↦ inr (i, subst (λ (z : ServerId). MayJoin w z g) (sym q) may)
          ]
    ]

    order-grown : (g : RegionId) (x y : ServerId) → IsBefore x y (order w g) → IsBefore x y (order n g)
    order-grown g x y b = elim (grown.lists g) [
      | inl e ↦ subst (λ (l : List Member). IsBefore x y (servers_of l)) (sym e) b
      | inr (s, e, may) ↦ subst (λ (l : List ServerId). IsBefore x y l)
          (sym (ap servers_of e ∙ more-servers (members_of w g) s)) (more-before (order w g) s x y b)
    ]

    -- who may join isn't among those left
    not-left : (g : RegionId) (s : ServerId) → MayJoin w s g → IsIn s (order w g) → ⊥
    not-left g s may i = let m = server-member s (members_of w g) i in may.no_member m.0 m.1 m.2

    -- nor was it a member before
    not-before : (g : RegionId) (s : ServerId) → MayJoin w s g → lists c g s ≡ true → ⊥
    not-before g s may t =
        let m = listed-member c g s t in
        may.no_member (made g m.0) (left-there g m.0 m.1 (subst (λ (x : ServerId). IsIn x w.servers) (sym m.2) may.known)) m.2

    -- what is lost stays lost
    grown-lost : (g : RegionId) → is_lost c g ≡ true → is_lost n g ≡ true
    grown-lost g l = elim (grown.lists g) [
      | inl e ↦ ap (λ (ms : List Member). not (any_ready ms)) e ∙ left-lost g l
      | inr (s, e, may) ↦ absurd (false≢true (sym may.not_lost ∙ left-lost g l))
    ]

    -- a member that was before is left
    was-left : (g : RegionId) (s : ServerId) → IsIn s n.servers → lists c g s ≡ true → (m : Member)
        × IsIn m (members_of c g) × (m.server ≡ s) × IsIn (made g m) (members_of n g)
    was-left g s i t =
        let m = listed-member c g s t in
        (m.0, m.1, m.2, grown-in g (made g m.0) (left-there g m.0 m.1 (subst (λ (x : ServerId). IsIn x w.servers) (sym m.2) (server-left s i))))

    -- it follows on the one before
    grown-follows : FollowsOn c n
    grown-follows = record {
      epoch = ap (λ (e : Epoch). e.0) grown.epoch ∙ epoch;
      servers = λ s i. (in-filter (λ (y : ServerId). not (out y)) c.servers s (in-now s (server-left s i))).0;
      stays = λ g s i t. (let m = was-left g s i t in member-listed n g s (made g m.0) m.3 m.2);
      same_order = λ g x y t b. elim (grown-order g x y b) [
        | inl c ↦ left-order g x y c
        | inr (i, may) ↦ absurd (not-before g y may t)
      ];
      keeps_order = λ g x y i j b. order-grown g x y (order-left g x y (server-left x i) (server-left y j) b);
      joins = λ g s t. (let m = listed-member n g s t in joined g s m.0 m.1 m.2 (grown-from g m.0 m.1));
      ready = λ g s i t. (let m = ready-member c g s t in
          member-ready n g s (made g m.0)
          (grown-in g (made g m.0) (left-there g m.0 m.1 (subst (λ (x : ServerId). IsIn x w.servers) (sym m.2) (server-left s i)))) m.2
          (ap (λ b. b || turns g m.0.server) m.3));
      lost = grown-lost;
    }
      where
        joined : (g : RegionId) (s : ServerId) (m : Member) → IsIn m (members_of n g) → m.server ≡ s
            → IsIn m (members_of w g) ⊎ ((m ≡ joiner m.server) × MayJoin w m.server g × (members_of n g ≡ members_of w g ++ joiner m.server ∷ []))
            → (lists c g s ≡ true) ⊎ (lists_joining n g s ≡ true) × (is_lost c g ≡ false) × ((x : ServerId) → IsBefore s x (order n g) → ⊥)
        joined g s m i e (inl j) = inl (let b = left-from g m j in member-listed c g s b.0 b.1 (sym (ap (λ (x : Member). x.server) b.3) ∙ e))
        joined g s m i e (inr (q, may, l)) = inr (
          member-joining n g s m i e (ap (λ (x : Member). x.ready) q),
          elim (cases_Bool (is_lost c g)) [ inl t ↦ absurd (false≢true (sym may.not_lost ∙ left-lost g t)) | inr t ↦ t ],
          λ x b. elim (grown-order g s x b) [
            | inl c ↦ not-left g m.server may (subst (λ (z : ServerId). IsIn z (order w g)) (sym e) (before-in s x (order w g) c).0)
            | inr (j, k) ↦ not-left g m.server may (subst (λ (z : ServerId). IsIn z (order w g)) (sym e) j)
          ],
        )

    -- and is orderly
    grown-orderly : IsOrderly n
    grown-orderly = record {
      members = λ g m i. elim (grown-from g m i) [
        | inl j ↦ left-server m.server (left-orderly.members g m j)
        | inr (q, may, l) ↦ left-server m.server may.known
      ];
      differ = λ g. elim (grown.lists g) [
        | inl e ↦ subst Differ (sym e) (left-orderly.differ g)
        | inr (s, e, may) ↦ subst Differ (sym e) (push-differ (members_of w g) (joiner s) (left-orderly.differ g) (λ x i q. may.no_member x i q))
      ];
      joins_last = λ g m x b. elim (grown.lists g) [
        | inl e ↦ left-orderly.joins_last g m x (subst (λ (l : List Member). IsBefore m x l) e b)
        | inr (s, e, may) ↦ elim (before-more (members_of w g) (joiner s) m x (subst (λ (l : List Member). IsBefore m x l) e b)) [
          | inl c ↦ left-orderly.joins_last g m x c
          | inr (i, q) ↦ may.all_ready m i
        ]
      ];
    }

    -- who is ready in it was ready, or is one of those that became so
    grown-ready : (g : RegionId) (s : ServerId) → lists_ready n g s ≡ true → (lists_ready c g s ≡ true) ⊎ (turns g s ≡ true)
    grown-ready g s t = let m = ready-member n g s t in by m.0 m.2 m.3 (grown-from g m.0 m.1)
      where
        by : (m : Member) → m.server ≡ s → m.ready ≡ true → IsIn m (members_of w g)
            ⊎ ((m ≡ joiner m.server) × MayJoin w m.server g × (members_of n g ≡ members_of w g ++ joiner m.server ∷ []))
            → (lists_ready c g s ≡ true) ⊎ (turns g s ≡ true)
        by m e r (inr (q, may, l)) = absurd (false≢true (sym (ap (λ (x : Member). x.ready) q) ∙ r))
        by m e r (inl i) =
            let b = left-from g m i in
            let z : b.0.server ≡ s = sym (ap (λ (x : Member). x.server) b.3) ∙ e in
            elim (ready-from g b.0 (ap (λ (x : Member). x.ready) (sym b.3) ∙ r)) [
              | inl u ↦ inl (member-ready c g s b.0 b.1 z u)
              | inr u ↦ inr (ap (turns g) (sym z) ∙ u)
            ]

    -- all of it
    pub grown-comes : ComesNext c n turns
    grown-comes = record { follows = grown-follows; orderly = grown-orderly; ready = grown-ready }
