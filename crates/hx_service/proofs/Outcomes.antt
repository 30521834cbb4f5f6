-- What a call's outcome tells exactly.
use Rattle.std.proofs.Common.{◌≡◌, ℕ, ◌<◌, ◌⊎◌, inl, inr, [], Option, Some, None, Ok, Err, true, refl, sym, ap, ◌∙◌, subst, arith}
use Rattle.std.specs.Prelude.{IsSome, IsSomeAnd, Result, is_some}
use Rattle.std.proofs.lemmas.Bool.{true≢false}
use Rattle.std.proofs.lemmas.List.{append-nil}
use Rattle.hx_model.specs.Types.{Entry, Op, Script, Session, SessionId}
use Rattle.hx_types.specs.declared.limits.TheConstants.{MOST_CALLS}
use Rattle.hx_model.specs.Histories.{note_of_end}
use Rattle.hx_model.specs.Runs.{is_actor}
use Rattle.hx_model.specs.Schedule.{next_entry}
use Rattle.hx_law_growing.specs.Growing.{GrowsTo, calls_in, with_call_of}
use Rattle.hx_law_growing.proofs.Lemmas.{calls_grow}
use Rattle.hx_service.specs.declared.errors.ServiceError.{ServiceError}
use Rattle.hx_service.specs.declared.errors.ServiceError.TheVariants as an_error
use Rattle.hx_service.specs.declared.receipts.Receipt.{Receipt}
use Rattle.hx_service.specs.Receipts.{next_caller}
use Rattle.hx_service.specs.Services.{Calls, Grows, IsDrained, IsSubmitted, IsUnanswered, ServiceState, newest}
use Rattle.hx_service.proofs.Answered.{prefix-of}

-- what there is isn't missing
some-none : {A : Type 0} (o : Option A) → IsSome o → o ≡ None → ⊥
some-none o s e = true≢false (sym s ∙ ap (λ k. is_some k) e)

pub full-exact : (old : ServiceState) (u : SessionId) (op : Op) (new : ServiceState) (result : Result Receipt ServiceError) → Calls old u op new result
    → (result ≡ Err an_error.Full → calls_in old.script ≡ MOST_CALLS) × (calls_in old.script ≡ MOST_CALLS → result ≡ Err an_error.Full)
full-exact old u op new (Ok r) h = (λ e. absurd (cc), λ e. absurd (let l : calls_in old.script < MOST_CALLS = h.1 in omega (arith, l, e)))
full-exact old u op new (Err an_error.Memory) h = (λ e. absurd (cc), λ e. absurd (let l : calls_in old.script < MOST_CALLS = h.few in omega (arith, l, e)))
full-exact old u op new (Err an_error.Full) h = (λ e. h.most, λ e. refl)
full-exact old u op new (Err (an_error.Worn a)) h = (λ e. absurd (cc), λ e. absurd (let l : calls_in old.script < MOST_CALLS = h.1 in omega (arith, l, e)))
full-exact old u op new (Err (an_error.Unanswered n)) h =
    (λ e. absurd (cc), λ e. absurd (let l : calls_in old.script < MOST_CALLS = h.1 in omega (arith, l, e)))

module _ (old : ServiceState) (u : SessionId) (op : Op) (new : ServiceState) (actor : is_actor old.script (Session u) ≡ true) where
  -- a script isn't the one with a call more
  not-same : new ≡ old → IsSubmitted old u op new → ⊥
  not-same e s =
      let c = (calls_grow old.script u op actor).count in
      let q : calls_in old.script ≡ calls_in (with_call_of old.script u op) = ap (λ (w : ServiceState). calls_in w.script) (sym e) ∙ ap calls_in s in
      omega (arith, c, q)

  pub unanswered-exact : (result : Result Receipt ServiceError) → Calls old u op new result → (n : ℕ)
      → (result ≡ Err (an_error.Unanswered n) → IsUnanswered old u op new n) × (IsUnanswered old u op new n → result ≡ Err (an_error.Unanswered n))
  unanswered-exact (Ok r) h n =
      (λ e. absurd (cc), λ w. absurd (let q : Some _ ≡ None = sym h.0.receipt.ended ∙ ap (λ c. note_of_end c (newest new)) h.0.caller ∙ w.open_still in cc))
  unanswered-exact (Err an_error.Memory) h n = (
    λ e. absurd (cc),
    λ w. absurd (elim h.left [
      | inl same ↦ not-same same w.submitted
      | inr (s, inl waiting) ↦ some-none (next_entry new.script (newest new)) waiting w.quiet
      | inr (s, inr ended) ↦ some-none (note_of_end (next_caller old.script u) (newest new)) ended w.open_still
    ]),
  )
  unanswered-exact (Err an_error.Full) h n = (λ e. absurd (cc), λ w. absurd (not-same h.same w.submitted))
  unanswered-exact (Err (an_error.Worn a)) h n = (
    λ e. absurd (cc),
    λ w. absurd (let x = h.0.worn_out.next in let q = w.quiet in by (next_entry new.script (newest new)) x q),
  )
    where
      by : (o : Option Entry) → IsSomeAnd o (λ (x : Entry). x.actor ≡ a) → o ≡ None → ⊥
      by None x q = x
      by (Some y) x q = cc
  unanswered-exact (Err (an_error.Unanswered m)) h n = (
    λ e. let q : m ≡ n = cc in subst (IsUnanswered old u op new) q h.0,
    λ w. ap (λ (k : ℕ). Err (an_error.Unanswered k)) (h.0.number_is ∙ sym w.number_is),
  )

  -- the script has the call, or nothing changed
  pub script-after : (result : Result Receipt ServiceError) → Calls old u op new result → (new ≡ old) ⊎ IsSubmitted old u op new
  script-after (Ok r) h = inr h.0.submitted
  script-after (Err an_error.Memory) h = elim h.left [ inl e ↦ inl e | inr p ↦ inr p.0 ]
  script-after (Err an_error.Full) h = inl h.same
  script-after (Err (an_error.Worn a)) h = inr h.0.submitted
  script-after (Err (an_error.Unanswered n)) h = inr h.0.submitted

  stays : (script : Script) → GrowsTo script script
  stays script = record { space = refl; sessions = refl; calls = λ v. ([], append-nil _) }

  pub grows : (result : Result Receipt ServiceError) → Calls old u op new result → IsDrained new.script (newest old) (newest new) → Grows old new
  grows result h d = record {
    script = elim (script-after result h) [
      | inl e ↦ subst (GrowsTo old.script) (ap (λ (w : ServiceState). w.script) (sym e)) (stays old.script)
      | inr s ↦ subst (GrowsTo old.script) (sym s) (calls_grow old.script u op actor).grows
    ];
    trace = prefix-of new.script old.trace new.trace d;
  }

-- entries alone
pub settled : (old new : ServiceState) → new.script ≡ old.script → IsDrained old.script (newest old) (newest new) → Grows old new
settled old new e d = record {
  script = subst (GrowsTo old.script) (sym e) (record { space = refl; sessions = refl; calls = λ v. ([], append-nil _) });
  trace = prefix-of old.script old.trace new.trace d;
}
