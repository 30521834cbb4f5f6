-- A report between its first line and its last, and the blocks of several spaces one after another.
use Rattle.std.proofs.Common.{◌≡◌, ℕ, ◌+◌, ◌<◌, Bool, List, [], ◌∷◌, ◌++◌, length, map, reverse, get_or, take, refl}
use Rattle.std.proofs.Common.{sym, ap, ◌∙◌, arith, append_assoc, append-nil}
use Rattle.std.specs.Prelude.{codes}
use Rattle.std.proofs.lemmas.List.{flat_map_more, map_more, map-append, take_more}
use Rattle.std.proofs.lemmas.List.Elements.{All-nil, All-push}
use Rattle.hx_model.specs.Types.{Entry, Script, Totals}
use Rattle.hx_history.specs.declared.key_histories.KeyHistory.{KeyHistory}
use Rattle.hx_history.specs.Listed.{AreHistories}
use Rattle.hx_report.specs.BundleReporting.{AddsBlock, AddsBlocks, SpaceReport, block_text, space_report_text}
use Rattle.hx_report.specs.Reporting.{IsReport, head_text, report_text}

-- a report is its first line, the lines of its space, and its last
pub report_is_block : (script : Script) (trace : List Entry) (listed : List KeyHistory) (totals : List Totals) (with_trace : Bool)
    → report_text script trace listed totals with_trace ≡ codes "report 1\n" ++ block_text script trace listed totals with_trace ++ codes "end\n"
unfolding report_text head_text block_text
report_is_block script trace listed totals with_trace = simp append_assoc

pub report_is : (script : Script) (trace : List Entry) (totals : List Totals) (with_trace : Bool) (first block last : List ℕ)
    → first ≡ codes "report 1\n" → AddsBlock script trace totals with_trace first block → last ≡ block ++ codes "end\n" → IsReport script trace totals last with_trace
report_is script trace totals with_trace first block last is_first adds is_last = record {
  listed = adds.listed;
  histories = adds.histories;
  text =
      is_last
      ∙ ap (λ b. b ++ codes "end\n") (adds.text ∙ ap (λ f. f ++ block_text script trace adds.listed totals with_trace) is_first)
      ∙ sym (report_is_block script trace adds.listed totals with_trace);
}

front_more : {A : Type 0} (front xs : List A) (i : ℕ) (x : A) → front ≡ take i xs → i < length xs → x ≡ get_or xs i x → front ++ x ∷ [] ≡ take (i + 1) xs
front_more front xs i x so_far lt is = ap (λ ys. ys ++ x ∷ []) so_far ∙ sym (take_more xs i x lt ∙ ap (λ y. take i xs ++ y ∷ []) (sym is))

reversed_more : {A : Type 0} (front : List (List A)) (xs : List (List A)) (i : ℕ) (x : List A)
    → front ≡ map (λ t. reverse t) (take i xs) → i < length xs → x ≡ get_or xs i x
    → front ++ reverse x ∷ [] ≡ map (λ t. reverse t) (take (i + 1) xs)
reversed_more front xs i x so_far lt is =
    ap (λ ys. ys ++ reverse x ∷ []) so_far
    ∙ sym (map_more (λ t. reverse t) xs i x lt ∙ ap (λ y. map (λ t. reverse t) (take i xs) ++ reverse y ∷ []) (sym is))

-- and then the next one
pub blocks_more :
    (scripts : List Script) (traces : List (List Entry)) (totals : List (List Totals)) (with_trace : Bool)
    (out here more : List ℕ) (i : ℕ) (script : Script) (trace : List Entry) (counts : List Totals)
    → i < length scripts → length traces ≡ length scripts → length totals ≡ length scripts
    → script ≡ get_or scripts i script → trace ≡ get_or traces i trace → counts ≡ get_or totals i counts
    → AddsBlocks (take i scripts) (map (λ t. reverse t) (take i traces)) (take i totals) with_trace out here
    → AddsBlock script (reverse trace) counts with_trace here more
    → AddsBlocks (take (i + 1) scripts) (map (λ t. reverse t) (take (i + 1) traces)) (take (i + 1) totals) with_trace out more
blocks_more scripts traces totals with_trace out here more i script trace counts lt traced driven script_is trace_is counts_are so_far adds =
    let r : SpaceReport = record { script = script; trace = reverse trace; listed = adds.listed; totals = counts } in
    let front : List SpaceReport = so_far.spaces in
    record {
      spaces = front ++ r ∷ [];
      reported = record {
        scripts_are = map-append (λ (x : SpaceReport). x.script) front (r ∷ [])
            ∙ front_more (map (λ (x : SpaceReport). x.script) front) scripts i script so_far.reported.scripts_are lt script_is;
        traces_are = map-append (λ (x : SpaceReport). x.trace) front (r ∷ [])
            ∙ reversed_more (map (λ (x : SpaceReport). x.trace) front) traces i trace so_far.reported.traces_are
            (omega arith) trace_is;
        totals_are = map-append (λ (x : SpaceReport). x.totals) front (r ∷ [])
            ∙ front_more (map (λ (x : SpaceReport). x.totals) front) totals i counts so_far.reported.totals_are
            (omega arith) counts_are;
        histories = All-push (λ (x : SpaceReport). AreHistories x.script x.trace x.listed) front r so_far.reported.histories adds.histories;
      };
      text =
          adds.text
          ∙ ap (λ o. o ++ block_text script (reverse trace) adds.listed counts with_trace) so_far.text
          ∙ flat_map_more (space_report_text with_trace) out front r;
    }
