use Rattle.std.proofs.Common.{sym, subst, ◌∙◌, map, List, arith}
use Rattle.std.specs.List.{All}
use Rattle.hx_model.specs.Types.{Space}
use Rattle.hx_types.specs.Spaces.{Fits, IsAscending, IsConfigOf}
use Rattle.hx_law_posts.proofs.Lemmas.{first-of_space}
use Rattle.hx_session.specs.declared.parts.SearchPart.{SearchPart}
use Rattle.hx_session.specs.Changes.{part_seen}
use Rattle.hx_session.proofs.Kept.{regions_of}
use Rattle.hx_session.proofs.sessions.Session.start.Goals as goal

pub invariant_of-result : goal.invariant_of-result
invariant_of-result c = record {
  map_is = c.in-Ok.ensures.map ∙ sym c.in-Ok.ensures.space;
  of_space = record {
    config = subst (λ (x : Space). IsConfigOf x c.in-Ok.around.config) (sym c.in-Ok.ensures.space)
        (subst (IsConfigOf c.args.space.now) (sym c.in-Ok.ensures.config) (first-of_space c.args.space.now c.requires.space));
    calls = subst (λ (x : Space). All (Fits x) c.args.calls) (sym c.in-Ok.ensures.space) c.requires.calls;
  };
  in_order = record {
    within = omega arith;
    few = c.requires.few_calls;
    ascend = subst (λ (ps : List SearchPart). IsAscending (regions_of (map part_seen ps))) (sym c.new.ensures) tt;
  };
}
