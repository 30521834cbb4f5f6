-- The configurations that a run issues: each is of the space, and epochs and servers ascend.
use Rattle.hx_law_lemmas.proofs.Lemmas.Vocabulary.{[], All, ap, append-nil, arith, below, cond-true, Config, config_noted, coordinator_of, Entry, Epoch, eq-eqb}
use Rattle.hx_law_lemmas.proofs.Lemmas.Vocabulary.{first_config, flat_map, flat_map-append, inl, inr, is_lost, IsConfigOf, IsIn, IsRegionOf, IsRun, IsScript}
use Rattle.hx_law_lemmas.proofs.Lemmas.Vocabulary.{length, List, lost_regions, map, map-append, None, Note, refl, reverse, reverse-append, Script, Some, Space}
use Rattle.hx_law_lemmas.proofs.Lemmas.Vocabulary.{subst, sym, ℕ, ◌++◌, ◌+◌, ◌∙◌, ◌∷◌, ◌≡◌, ◌≤◌}
use Rattle.hx_types.specs.declared.traces.Note.TheVariants as a_note
use Rattle.hx_law_lemmas.proofs.Lemmas.{all-of, in-append, in-below, in-filter, in-map}
use Rattle.hx_law_posts.proofs.Lemmas.{first-of_space, epochs_stay_small}
use Rattle.hx_law_epochs.proofs.Lemmas.{Notes, epochs-run, keeps-entry}
use Rattle.hx_law_audit.proofs.RunServers.{RisesFrom, ServersRise, first_servers_rise, rises_more, servers_rise}

-- the configurations that notes say were issued
abbrev pub issued_by : Note → List Config
issued_by (a_note.Issued config) = config ∷ []
issued_by other = []

abbrev pub issued_in : List Entry → List Config
issued_in entries = flat_map (λ (x : Entry). flat_map issued_by x.notes) entries

-- that of epoch 1 and those issued, in their order
abbrev pub configs_of : Script → List Entry → List Config
configs_of script trace = first_config script.space ∷ issued_in (reverse trace)

-- one more entry
configs_more : (script : Script) (x : Entry) (older : List Entry) → configs_of script (x ∷ older) ≡ configs_of script older ++ flat_map issued_by x.notes
configs_more script x older =
    ap (λ l. first_config script.space ∷ l)
    (ap issued_in (reverse-append (x ∷ []) older)
    ∙ flat_map-append (λ (y : Entry). flat_map issued_by y.notes) (reverse older) (x ∷ [])
    ∙ ap (λ l. issued_in (reverse older) ++ l) (append-nil (flat_map issued_by x.notes)))

-- where no configuration is noted none is issued
none_issued : (notes : List Note) → ((epoch : Epoch) → config_noted epoch notes ≡ None) → flat_map issued_by notes ≡ []
none_issued [] h = refl
none_issued (a_note.Issued c ∷ rest) h = absurd (let z : Some c ≡ None =
    sym (cond-true _ (Some c) (config_noted c.epoch rest) (eq-eqb c.epoch.0 c.epoch.0 refl)) ∙ h c.epoch in cc)
none_issued (a_note.Began n ∷ rest) h = none_issued rest h
none_issued (a_note.Ended n v a ∷ rest) h = none_issued rest h
none_issued (a_note.Assigned u ∷ rest) h = none_issued rest h

-- a configuration of the space, whose epoch is at most the number of entries plus 1 and whose servers ascend
pub record IsGoodConfig (script : Script) (n : ℕ) (c : Config) : Type 0 where
  pub of_space : IsConfigOf script.space c
  pub epoch : c.epoch.0 ≤ n + 1
  pub rise : ServersRise c.servers

good_up : (script : Script) (m n : ℕ) → m ≤ n → (c : Config) → IsGoodConfig script m c → IsGoodConfig script n c
good_up script m n l c h = record { of_space = h.of_space; epoch = (let e = h.epoch in omega (arith, l, e)); rise = h.rise }

abbrev epoch_number : Config → ℕ
epoch_number c = c.epoch.0

-- what holds of the configurations of a run
pub record ConfigsHold (script : Script) (trace : List Entry) : Type 0 where
  pub each : (c : Config) → IsIn c (configs_of script trace) → IsGoodConfig script (length trace) c
  pub low : (c : Config) → IsIn c (configs_of script trace) → c.epoch.0 ≤ (coordinator_of script trace).config.epoch.0
  pub rise : RisesFrom None (map epoch_number (configs_of script trace))

newest_good : (script : Script) → IsScript script → (trace : List Entry) → IsRun script trace
    → IsGoodConfig script (length trace) (coordinator_of script trace).config
newest_good script valid trace run = let s = (epochs_stay_small script valid trace run).2 in
    record { of_space = s.0; epoch = s.1; rise = servers_rise script trace }

pub configs_hold : (script : Script) → IsScript script → (trace : List Entry) → IsRun script trace → ConfigsHold script trace
configs_hold script valid [] run = record {
  each = λ c i. elim i [
    | inl e ↦ subst (IsGoodConfig script 0) (sym e)
        (record {
          of_space = first-of_space script.space valid.space;
          epoch = omega arith;
          rise = first_servers_rise script.space;
        })
    | inr j ↦ absurd j
  ];
  low = λ c i. elim i [ inl e ↦ (let q = ap epoch_number e in omega (arith, q)) | inr j ↦ absurd j ];
  rise = tt;
}
configs_hold script valid (x ∷ older) run = by (configs_hold script valid older run.1)
    (keeps-entry script valid older (epochs-run script valid older run.1) x run.0).notes
  where
    now : Config
    now = (coordinator_of script (x ∷ older)).config

    by : ConfigsHold script older → Notes script valid older (epochs-run script valid older run.1) now x.notes → ConfigsHold script (x ∷ older)
    by h (inl k) =
        let same : configs_of script (x ∷ older) ≡ configs_of script older =
        configs_more script x older ∙ ap (λ l. configs_of script older ++ l) (none_issued x.notes k.1)
        ∙ append-nil (configs_of script older) in
        record {
          each = λ c i. good_up script (length older) (length (x ∷ older)) (omega arith) c (h.each c (subst (λ l. IsIn c l) same i));
          low = λ c i. (let l = h.low c (subst (λ l. IsIn c l) same i) in let e = ap epoch_number k.0 in omega (arith, l, e));
          rise = subst (λ l. RisesFrom None (map epoch_number l)) (sym same) h.rise;
        }
    by h (inr k) =
        let same : configs_of script (x ∷ older) ≡ configs_of script older ++ now ∷ [] =
        configs_more script x older ∙ ap (λ ns. configs_of script older ++ flat_map issued_by ns) k.notes in
        let next = k.follows.epoch in
        record {
          each = λ c i. elim (in-append (configs_of script older) (now ∷ []) c (subst (λ l. IsIn c l) same i)) [
            | inl j ↦ good_up script (length older) (length (x ∷ older)) (omega arith) c (h.each c j)
            | inr j ↦ elim j [ inl e ↦ subst (IsGoodConfig script (length (x ∷ older))) (sym e) (newest_good script valid (x ∷ older) run) | inr m ↦ absurd m ]
          ];
          low = λ c i. elim (in-append (configs_of script older) (now ∷ []) c (subst (λ l. IsIn c l) same i)) [
            | inl j ↦ (let l = h.low c j in omega (arith, l, next))
            | inr j ↦ elim j [ inl e ↦ (let q = ap epoch_number e in omega (arith, q)) | inr m ↦ absurd m ]
          ];
          rise =
              subst (λ l. RisesFrom None (map epoch_number l)) (sym same)
              (subst (RisesFrom None) (sym (map-append epoch_number (configs_of script older) (now ∷ [])))
              (rises_more None (map epoch_number (configs_of script older)) (epoch_number now) h.rise
              (λ n i. let m = in-map epoch_number (configs_of script older) n i in let l = h.low m.0 m.1 in let e = m.2 in omega (arith, l, next, e))
              (λ m e. absurd (cc))));
        }

-- the regions that are lost are of the space
pub lost_of_space : (space : Space) (c : Config) → IsConfigOf space c → All (IsRegionOf space) (lost_regions c)
lost_of_space space c h =
    all-of (IsRegionOf space) (lost_regions c)
    (λ g i. let f = in-filter (is_lost c) (map (λ n. record { 0 = n }) (below (length c.regions))) g i in
    let m = in-map (λ n. record { 0 = n }) (below (length c.regions)) g f.0 in
    let l = in-below (length c.regions) m.0 m.1 in
    let count = h.count in
    subst (IsRegionOf space) (sym m.2) (omega (arith, l, count)))
