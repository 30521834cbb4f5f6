-- Configurations of a space: the first one is such, and their members are servers of the space.
use Rattle.hx_law_lemmas.proofs.Lemmas.Vocabulary.{[], AllDiffer, ap, arith, below, Config, first_config, first_member, inl, inr, IsConfigOf, IsIn, IsListOf}
use Rattle.hx_law_lemmas.proofs.Lemmas.Vocabulary.{IsServerOf, IsSpace, length-map, List, map, map-append, Member, members_of, mod-lt, region_count, RegionId}
use Rattle.hx_law_lemmas.proofs.Lemmas.Vocabulary.{slice_get, Space, subst, suc, sym, zero, ℕ, ◌%◌, ◌+◌, ◌∙◌, ◌∷◌, ◌≡◌, ◌≤◌}
use Rattle.hx_law_lemmas.proofs.Lemmas.{length-below, mod-apart, all-in, all-of, differ-append, in-below, in-map, in-slice_get, when_some_both}

-- each member of a configuration of the space is a server of it
pub member-server : (space : Space) (config : Config) → IsConfigOf space config → (g : RegionId) (m : Member)
    → IsIn m (members_of config g) → IsServerOf space m.server
member-server space config of_space g m =
    when_some_both (slice_get config.regions g.0) [] (λ (members : List Member). members) (λ (l : List Member). IsIn m l → IsServerOf space m.server)
    (λ e i. absurd i)
    (λ (members : List Member) e i. all-in (λ (x : Member). IsServerOf space x.server) members m
    (all-in (IsListOf space) config.regions members of_space.each (in-slice_get config.regions g.0 members e)).each i)

-- the number of a member's server
abbrev pub server_number : Member → ℕ
server_number m = m.server.0

-- the first members of a region differ
firsts-differ : (space : Space) (g n : ℕ) → n ≤ space.servers → AllDiffer (map server_number (map (first_member space g) (below n)))
firsts-differ space g zero l = tt
firsts-differ space g (suc n) l =
    subst AllDiffer (sym (ap (map server_number) (map-append (first_member space g) (below n) (n ∷ []))
    ∙ map-append server_number (map (first_member space g) (below n)) (first_member space g n ∷ [])))
    (
    differ-append (map server_number (map (first_member space g) (below n))) (((g + n) % space.servers + 1) ∷ [])
    (firsts-differ space g n (omega (arith, l))) ((λ k d q. absurd (omega (arith, q))), tt)
    (
    λ x y i j. elim j [
      | inl e ↦ (λ q. let m = in-map server_number (map (first_member space g) (below n)) x i in
          let k = in-map (first_member space g) (below n) m.0 m.1 in
          let b = in-below n k.0 k.1 in
          let d : m.0.server.0 ≡ (g + k.0) % space.servers + 1 = ap server_number k.2 in
          let c : x ≡ m.0.server.0 = m.2 in
          let h : (g + k.0) % space.servers ≡ (g + n) % space.servers = omega (arith, e, q, c, d) in
          mod-apart space.servers (g + k.0) (g + n) (omega (arith, b)) (omega (arith, l)) h)
      | inr k ↦ absurd k
    ]
    )
    )

-- a first member is a server of the space
first-server : (space : Space) → IsSpace space → (g n : ℕ) → IsServerOf space (first_member space g n).server
first-server space valid g n = let l = mod-lt (g + n) valid.servers.0 in (omega arith, omega (arith, l))

-- the first configuration is of the space
pub first-of_space : (space : Space) → IsSpace space → IsConfigOf space (first_config space)
first-of_space space valid = record {
  servers = all-of (IsServerOf space) (first_config space).servers (λ s i. (let m = in-map (λ n. record { 0 = n + 1 }) (below space.servers) s i in
      let l = in-below space.servers m.0 m.1 in
      subst (IsServerOf space) (sym m.2) (omega arith, omega (arith, l))));
  count = length-map (below (region_count space)) (λ g. map (first_member space g) (below (space.tolerate + 1))) ∙ length-below (region_count space);
  each = all-of (IsListOf space) (first_config space).regions
      (λ members i. (let m = in-map (λ g. map (first_member space g) (below (space.tolerate + 1)))
      (below (region_count space)) members i in
      subst (IsListOf space) (sym m.2) (record {
        each = all-of (λ (x : Member). IsServerOf space x.server)
            (map (first_member space m.0) (below (space.tolerate + 1)))
            (λ x j. (let k = in-map (first_member space m.0) (below (space.tolerate + 1)) x j in
            subst (λ (y : Member). IsServerOf space y.server) (sym k.2) (first-server space valid m.0 k.0)));
        once = firsts-differ space m.0 (space.tolerate + 1) (let t = valid.tolerate.1 in omega (arith, t));
      })));
}
