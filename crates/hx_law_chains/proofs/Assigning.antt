-- A leader assigns the next update: the line is cut after its top, nothing that is held, may be
-- heard or was acknowledged is above that, and what its slot makes of the update is allowed.
use Rattle.std.proofs.Common.{◌≡◌, ℕ, ◌+◌, inl, inr, true, List, ◌∷◌, Some, refl, ap, arith}
use Rattle.hx_model.specs.Types.{Script, ServerId, Update}
use Rattle.hx_types.specs.Configs.{head_of}
use Rattle.hx_types.specs.Spaces.{IsSpace}
use Rattle.hx_model.specs.Lines.{upto}
use Rattle.hx_model.specs.Regions.{key_region}
use Rattle.hx_model.specs.Slots.{KeyState, follows, has_place, offered, top_of}
use Rattle.hx_model.specs.ServerSteps.{accepting}
use Rattle.hx_law_lemmas.proofs.Lemmas.{More, more_cut, passes-key, places-apart}
use Rattle.hx_law_epochs.proofs.Lemmas.{leader-first}
use Rattle.hx_law_chains.proofs.Ending.{ends-line}
use Rattle.hx_law_chains.proofs.Keys.{Below, below-lead, lined, still-head}
use Rattle.hx_law_chains.proofs.Moves.{AllAllowed, Own, accepting-allowed, kept_same, offered-allowed, own_rely}
use Rattle.hx_law_chains.proofs.Places.{key-first}
use Rattle.hx_law_chains.proofs.World.{Before, KeyOk, Law, Lawful, Ordered, World, around, context, lawful-made, lawful-numbered, lawful-upto}

module _ (script : Script) (valid : IsSpace script.space) (w : World) (o : Ordered w) (key : List ℕ) (ok : KeyOk script w key) (i : ServerId) (up : w.up i)
    (installed : w.installed (key_region script.space key) i)
    (t : KeyState) (held : w.holds key (key_region script.space key) i t) (only : (x : KeyState) → w.holds key (key_region script.space key) i x → x ≡ t)
    (head : head_of (w.own i) (key_region script.space key) ≡ Some i) where
  -- nothing is above the leader's top
  pub below : Below script w key (top_of t)
  below = below-lead script valid w o key ok i t up held (λ x h. (let e : top_of x ≡ top_of t = ap top_of (only x h) in omega (arith, e))) head

  -- what it relies on
  own : Own (w.line key) (key_region script.space key) (around script w key (key_region script.space key) i) t
  own = ok.own (key_region script.space key) i t held

  -- the next update, after the line up to its top
  module _ (u : Update) (law : Law script w.known key (upto (top_of t) (w.line key)) u) (version : u.version.0 ≡ top_of t + 1)
      (follow : follows (key_region script.space key) (top_of t) u ≡ true) where
    -- the line after
    abbrev pub cut : List Update
    cut = u ∷ upto (top_of t) (w.line key)

    -- its law
    pub cut-lawful : Lawful script w.known key cut
    cut-lawful = (law, lawful-upto script w.known key (top_of t) (w.line key) ok.lawful)

    -- it is the old one up to the top
    pub cut-more : More (top_of t) (w.line key) cut
    cut-more = more_cut (top_of t) (w.line key) u (lawful-numbered script w.known key (w.line key) ok.lawful) own.top_line version

    -- the slot relies on the same
    own-cut : Own cut (key_region script.space key) (around script w key (key_region script.space key) i) t
    own-cut = own_rely (key_region script.space key) (top_of t) (w.line key) cut (around script w key (key_region script.space key) i)
        (around script w key (key_region script.space key) i) t cut-more (omega arith)
        (λ x k. below.early (key_region script.space key) i x (ok.listed (key_region script.space key) i t held) k)
        (kept_same (around script w key (key_region script.space key) i)) own

    placed : has_place (key_region script.space key) u ≡ true
    placed = passes-key script.space key (upto (top_of t) (w.line key)) u law.made

    -- nobody stands before a leader
    alone : Before script w key (key_region script.space key) i u
    alone h x y k a = absurd (leader-first w.config u.places
        (places-apart script.space valid key cut (lawful-made script w.known key cut cut-lawful) u (inl refl)) (o.differ w.config o.newest)
        (key_region script.space key)
        (key-first script.space key (upto (top_of t) (w.line key)) u law.made) i
        (still-head (w.own i) w.config (o.grown (w.own i) w.config (o.own i) o.newest (o.last (w.own i) (o.own i))) (key_region script.space key) i
        (o.differ (w.own i) (o.own i) (key_region script.space key)) (o.differ w.config o.newest (key_region script.space key)) head
        (o.home (key_region script.space key) i installed) (ok.listed (key_region script.space key) i t held)) h x a)

    -- what the slot makes of it is allowed
    pub assign-own : AllAllowed cut (key_region script.space key) (around script w key (key_region script.space key) i) t
        (accepting (context script w (key_region script.space key) i) t (offered (key_region script.space key) t u))
    assign-own =
        accepting-allowed cut (key_region script.space key) (around script w key (key_region script.space key) i)
        (lined script w key cut cut-lawful (key_region script.space key))
        (context script w (key_region script.space key) i) t (offered (key_region script.space key) t u)
        (ends-line script valid w o key ok (key_region script.space key) i up (o.home (key_region script.space key) i installed) cut cut-lawful) own-cut
        (offered-allowed cut (key_region script.space key) (around script w key (key_region script.space key) i)
        (lined script w key cut cut-lawful (key_region script.space key))
        t u own-cut (inl refl) placed alone (inr follow))
