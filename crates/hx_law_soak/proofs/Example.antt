-- A soak of one call, and what calls add up to in their order, by computing: so the premises of the law can be met, and the definitions say what they should.
use Rattle.std.specs.Fmt.{digits}
use Rattle.hx_law_lemmas.proofs.Lemmas.Vocabulary.{[], and_parts, ap, arith, Bool, call_of, Caller, codes, Deliver, Entry, false, false≢true, Halt, inl, Input}
use Rattle.hx_law_lemmas.proofs.Lemmas.Vocabulary.{inr, IsRun, IsSome, length, List, list_all, next_entry, None, not, note_of_end, Op, Option, refl, scheduled}
use Rattle.hx_law_lemmas.proofs.Lemmas.Vocabulary.{Some, subst, sym, Tick, true, ℕ, ◌∙◌, ◌∷◌, ◌≡◌}
use Rattle.hex.specs.Hex.{encode_with}
use Rattle.hx_print.specs.Printing.{named_text, quoted, value_text}
use Rattle.hx_report.specs.Reporting.{object_text}
use Rattle.hx_law_causes.proofs.Lemmas.{scheduled-run}
use Rattle.hx_soak.specs.Soaking.{script_drawn, soak}
use Rattle.hx_soak.proofs.Lemmas.{is_script}
use Rattle.hx_soak.specs.Summing.{IsSummary, count_line, counts_text, digest_line, object_line, objects_text, tally_text}
use Rattle.hx_law_soak.specs.Sequence.{tally_in_order}
use Rattle.hx_law_soak.specs.Soaks.{IsSoak, NoHalts}
use Rattle.hx_law_soak.proofs.Headline.{sums_up}
use Rattle.hx_law_soak.proofs.Turns.{caller_at, turn-of}

-- ---- calls taken in their order

-- a del of what isn't there
one_call :
    tally_text soak (tally_in_order 0 1)
    ≡ codes "soak 1\ncalls 1\ndone 0\nnotfound 1\ncmpfail 0\nfound 0\nsearches 0\nobjects 0\ndigest cbf29ce484222325\nend\n"
unfolding tally_text counts_text objects_text count_line digest_line object_line object_text named_text quoted value_text digits encode_with
one_call = refl

-- a del and two conditional puts of what isn't there, five puts, and a search; the hash was computed apart
nine_calls :
    tally_text soak (tally_in_order 7 9)
    ≡ codes "soak 1\ncalls 9\ndone 5\nnotfound 3\ncmpfail 0\nfound 0\nsearches 1\nobjects 5\ndigest 8ea8d4944d3b07ec\nend\n"
unfolding tally_text counts_text objects_text count_line digest_line object_line object_text named_text quoted value_text digits encode_with
nine_calls = refl

-- ---- a run

abbrev trace : List Entry
trace = scheduled (script_drawn 0 1) [] 5

its_length : length trace ≡ 5
unfolding digits
its_length = refl

-- nothing is left to be done
its_end : next_entry (script_drawn 0 1) trace ≡ None
unfolding digits
its_end = refl

its_run : IsRun (script_drawn 0 1) trace
its_run = scheduled-run (script_drawn 0 1) (is_script 0 1 (omega arith)) [] tt 5

abbrev halts : Input → Bool
halts Tick = false
halts Halt = true
halts (Deliver id from message) = false

none-halts : (t : List Entry) → list_all (λ (x : Entry). not (halts x.input)) t ≡ true → NoHalts t
none-halts [] e x i = absurd i
none-halts (y ∷ t) e x (inl q) = λ h. false≢true
    (sym (ap (λ (a : Input). not (halts a)) (ap (λ (z : Entry). z.input) (sym q) ∙ h))
    ∙ (and_parts (not (halts y.input)) (list_all (λ (x : Entry). not (halts x.input)) t) e).0)
none-halts (y ∷ t) e x (inr i) = none-halts t (and_parts (not (halts y.input)) (list_all (λ (x : Entry). not (halts x.input)) t) e).1 x i

no_halts : list_all (λ (x : Entry). not (halts x.input)) trace ≡ true
unfolding digits
no_halts = refl

its_end_noted : IsSome (note_of_end (record { session = record { 0 = 1 }; number = 1 }) trace)
unfolding digits
its_end_noted = refl

its_call_ended : (c : Caller) → IsSome (call_of (script_drawn 0 1) c) → IsSome (note_of_end c trace)
its_call_ended c h = by (call_of (script_drawn 0 1) c) refl h
  where
    by : (o : Option Op) → call_of (script_drawn 0 1) c ≡ o → IsSome o → IsSome (note_of_end c trace)
    by None e h = absurd (false≢true h)
    by (Some op) e h =
        let r = turn-of 0 1 c op e in
        let first : r.turn ≡ 0 = (let l = r.below in omega (arith, l)) in
        subst (λ (d : Caller). IsSome (note_of_end d trace)) (sym (r.caller ∙ ap caller_at first)) its_end_noted

its_soak : IsSoak 0 1 trace
its_soak = record { few = omega arith; run = its_run; no_halts = none-halts trace no_halts; ended = its_call_ended }

-- so its summary is that of its call
its_summary : (bytes : List ℕ) → IsSummary (script_drawn 0 1) trace bytes
    → bytes ≡ codes "soak 1\ncalls 1\ndone 0\nnotfound 1\ncmpfail 0\nfound 0\nsearches 0\nobjects 0\ndigest cbf29ce484222325\nend\n"
its_summary bytes s = sums_up 0 1 trace its_soak bytes s ∙ one_call
