use Rattle.std.proofs.Common.{◌++◌, ap, sym, ◌∙◌, append-nil, map, List}
use Rattle.std.specs.List.{list_all}
use Rattle.std.proofs.lemmas.Result.{IfOk-weaker, on_ok_weaker}
use Rattle.hx_model.specs.Types.{Note}
use Rattle.hx_model.specs.SessionSteps.{merged_parts, with_part}
use Rattle.hx_session.specs.declared.parts.SearchPart.{SearchPart}
use Rattle.hx_session.specs.Changes.{is_found, part_seen}
use Rattle.hx_session.proofs.Finding.{kept_makes, kept_notes, last_makes, last_notes}
use Rattle.hx_session.proofs.sessions.Session.keep_part.Goals as goal

pub returns-then-all_found-clause-change : goal.returns-then-all_found-clause-change
returns-then-all_found-clause-change c =
    IfOk-weaker c.end_call.result _ _
    (
    λ change e. last_makes c.self.inside c.args.self.now c.args.region c.args.rows.now c.self.view_is
    (ap (λ (ps : List SearchPart). list_all (is_found c.args.region) ps) (sym c.as_slice-parts.ensures)
    ∙ sym c.all_found.ensures ∙ c.if-all_found.true) change e
    )
    c.end_call.ensures.change

pub returns-then-all_found-clause-notes : goal.returns-then-all_found-clause-notes
returns-then-all_found-clause-notes c =
    on_ok_weaker c.end_call.result
    (
    λ e. last_notes c.self.inside c.args.self.now c.args.region c.args.rows.now c.self.view_is
    (ap (λ (ps : List SearchPart). list_all (is_found c.args.region) ps) (sym c.as_slice-parts.ensures) ∙ sym c.all_found.ensures ∙ c.if-all_found.true)
    c.in_ok-rows.rows c.args.notes.now c.end_call.new.notes
    (c.in_ok-rows.ensures ∙ ap (λ (ps : List SearchPart). merged_parts
    (map (with_part c.args.region c.args.rows.now) (map part_seen ps))) c.as_slice-parts.ensures) e
    )
    c.end_call.ensures.notes

pub returns-clause-change : goal.returns-clause-change
returns-clause-change c =
    kept_makes c.self.inside c.args.self.now c.args.region c.args.rows.now c.self.view_is
    (ap (λ (ps : List SearchPart). list_all (is_found c.args.region) ps) (sym c.as_slice-parts.ensures) ∙ sym c.all_found.ensures ∙ c.if-all_found.false)
    c.in_ok-rows-2.rows c.args.place c.change_part.result c.in_ok-rows-2.ensures c.self.invariant.in_order.ascend c.requires c.change_part.ensures

pub returns-clause-notes : goal.returns-clause-notes
returns-clause-notes c =
    sym
    (
    ap (λ (notes : List Note). c.args.notes.now ++ notes)
    (kept_notes c.self.inside c.args.self.now c.args.region c.args.rows.now c.self.view_is
    (ap (λ (ps : List SearchPart). list_all (is_found c.args.region) ps) (sym c.as_slice-parts.ensures) ∙ sym c.all_found.ensures ∙ c.if-all_found.false))
    ∙ append-nil c.args.notes.now
    )
