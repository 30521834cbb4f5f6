-- The text of each report is read.
use Rattle.std.proofs.Common.{◌≡◌, ℕ, ◌+◌, true, cond, List, [], ◌∷◌, ◌++◌}
use Rattle.std.proofs.Common.{None, Some, inl, inr, refl, sym, ap, subst, ◌∙◌, arith}
use Rattle.std.specs.Prelude.{◌⊎◌, codes}
use Rattle.std.specs.List.{All, flat_map}
use Rattle.std.proofs.lemmas.Bool.{eq-eqb}
use Rattle.std.proofs.lemmas.List.{append_assoc, append-nil}
use Rattle.std.proofs.lemmas.List.Elements.{All-head, All-tail}
use Rattle.hx_script.specs.Texts.{lines_of}
use Rattle.hx_report_lines.specs.declared.blocks.Block.{Block}
use Rattle.hx_report_lines.specs.declared.drafts.Draft.{Draft}
use Rattle.hx_report_lines.specs.declared.drafts.Section.TheVariants as sections
use Rattle.hx_report_lines.specs.declared.kinds.Kind.TheVariants as kinds
use Rattle.hx_report_lines.specs.Drafts.{closed, empty_draft, end_after, ends_whole, head_line, is_newline, next_after}
use Rattle.hx_report_lines.specs.Printed.{block_text, first_text, text_of}
use Rattle.hx_report_lines.specs.Readers.{on_some}
use Rattle.hx_report_lines.specs.Values.{HasBlocks, IsBlock, IsReportValue, ReportValue}
use Rattle.hx_report_lines.proofs.BlocksTaken.{block_goes, last_push, of_kind, settled_step}
use Rattle.hx_report_lines.proofs.Goes.{Goes, Stands, Steps, one_step, steps_lines, steps_then, taken}
use Rattle.hx_report_lines.proofs.Scans.{one_line_of}
use Rattle.hx_report_lines.proofs.SpacesTaken.{Starts, body, head_draft, starts_first}
use Rattle.hx_report_lines.proofs.TextsRead.{first_one, first_two}

-- behind a block the space of another one may come in version 2
starts_next : (d : Draft) (v : ℕ) (bs : List Block) (b : Block) → Stands d (body v bs b) → v ≡ 2 → Starts d v (bs ++ b ∷ [])
starts_next d v bs b stands two = record {
  first = λ name is.
      let line : List ℕ = codes "space " ++ name in
      of_kind d kinds.Space line stands.section refl ∙ ap (λ o. on_some o (next_after line)) stands.settles
      ∙ ap (λ t. cond t (head_line (closed (body v bs b)) line) None) (eq-eqb v 2 two)
      ∙ (starts_first v (bs ++ b ∷ [])).first name is;
}

-- blocks that are read lead to where one of them is the last
record Blocks (d : Draft) (v : ℕ) (text : List ℕ) : Type 0 where
  before : List Block
  last : Block
  goes : Goes d text (body v before last)

blocks_go : (d : Draft) (v : ℕ) (bs : List Block) (b : Block) (more : List Block) → Starts d v bs → IsBlock b
    → All IsBlock more → (v ≡ 2) ⊎ (more ≡ []) → Blocks d v (block_text b ++ flat_map block_text more)
blocks_go d v bs b [] starts is all two =
    record { before = bs; last = b; goes = subst (λ t. Goes d t (body v bs b)) (sym (append-nil (block_text b))) (block_goes d v bs b starts is) }
blocks_go d v bs b (c ∷ more) starts is all (inr none) = absurd cc
blocks_go d v bs b (c ∷ more) starts is all (inl two) =
    let g = block_goes d v bs b starts is in
    let h = blocks_go g.to v (bs ++ b ∷ []) c more (starts_next g.to v bs b g.stands two)
    (All-head IsBlock c more all) (All-tail IsBlock c more all) (inl two) in
    record {
      before = h.before;
      last = h.last;
      goes = record {
        to = h.goes.to;
        steps = steps_then d g.to h.goes.to (block_text b)
            (block_text c ++ flat_map block_text more) g.steps h.goes.steps;
        stands = h.goes.stands;
      };
    }

-- the last line
end_step : (d : Draft) (v : ℕ) (bs : List Block) (b : Block) → Stands d (body v bs b)
    → Steps d (codes "end\n") (record (closed (body v bs b)) { section = sections.Over })
end_step d v bs b stands =
    settled_step d (body v bs b) (record (closed (body v bs b)) { section = sections.Over }) kinds.End (codes "end")
    (end_after (codes "end")) stands (one_line_of (codes "end") refl) refl refl refl

-- the first line
version_step : (v : ℕ) → (v ≡ 1) ⊎ (v ≡ 2) → Steps empty_draft (first_text v) (head_draft v [] [])
version_step v (inl one) =
    subst (λ n. Steps empty_draft (first_text n) (head_draft n [] [])) (sym one)
    (subst (λ t. Steps empty_draft t (head_draft 1 [] [])) (sym first_one)
    (one_step empty_draft (head_draft 1 [] []) (codes "report 1") (one_line_of (codes "report 1") refl) refl))
version_step v (inr two) =
    subst (λ n. Steps empty_draft (first_text n) (head_draft n [] [])) (sym two)
    (subst (λ t. Steps empty_draft t (head_draft 2 [] [])) (sym first_two)
    (one_step empty_draft (head_draft 2 [] []) (codes "report 2") (one_line_of (codes "report 2") refl) refl))

version_is : (v : ℕ) (bs : List Block) → HasBlocks v bs → (v ≡ 1) ⊎ (v ≡ 2)
version_is v bs (inl h) = inl h.0
version_is v bs (inr h) = inr h.0

some_blocks : (v : ℕ) → HasBlocks v [] → ⊥
some_blocks v (inl h) = absurd (let q = h.1 in omega (arith, q))
some_blocks v (inr h) = absurd (let q = h.1 in omega (arith, q))

more_blocks : (v : ℕ) (b : Block) (more : List Block) → HasBlocks v (b ∷ more) → (v ≡ 2) ⊎ (more ≡ [])
more_blocks v b [] h = inr refl
more_blocks v b (c ∷ more) (inl h) = absurd (let q = h.1 in omega (arith, q))
more_blocks v b (c ∷ more) (inr h) = inl h.0

-- a draft that is over
record Over (text : List ℕ) : Type 0 where
  to : Draft
  steps : Steps empty_draft text to
  over : to.section ≡ sections.Over

over_of : (v : ℕ) (bs : List Block) → HasBlocks v bs → All IsBlock bs → Over (first_text v ++ flat_map block_text bs ++ codes "end\n")
over_of v [] has all = absurd (some_blocks v has)
over_of v (b ∷ more) has all =
    let start : Draft = head_draft v [] [] in
    let g = blocks_go start v [] b more (starts_first v []) (All-head IsBlock b more all) (All-tail IsBlock b more all) (more_blocks v b more has) in
    let e : Draft = record (closed (body v g.before g.last)) { section = sections.Over } in
    let text : List ℕ = flat_map block_text (b ∷ more) in
    record {
      to = e;
      steps = steps_then empty_draft g.goes.to e (first_text v ++ text) (codes "end\n")
          (steps_then empty_draft start g.goes.to (first_text v) text
          (version_step v (version_is v (b ∷ more) has)) g.goes.steps) (end_step g.goes.to v g.before g.last g.goes.stands);
      over = refl;
    }

text_is : (r : ReportValue) → text_of r ≡ first_text r.version ++ flat_map block_text r.blocks ++ codes "end\n"
unfolding text_of
text_is r = refl

-- all lines of a report are read, and then none may come
pub all_taken : (r : ReportValue) → IsReportValue r → (e : Draft) × (taken empty_draft (lines_of (text_of r)) ≡ Some e) × (e.section ≡ sections.Over)
all_taken r is =
    let o = over_of r.version r.blocks is.count is.blocks in
    (o.to, steps_lines empty_draft o.to (text_of r) (subst (λ t. Steps empty_draft t o.to) (sym (text_is r)) o.steps), o.over)

-- the last byte of a report's text is a newline
pub whole_text : (r : ReportValue) → ends_whole (text_of r) ≡ true
whole_text r =
    let front : List ℕ = first_text r.version ++ flat_map block_text r.blocks in
    ap ends_whole (text_is r ∙ sym (append_assoc front (codes "end") (10 ∷ []))) ∙ ap is_newline (last_push (front ++ codes "end") 10)
