-- The words that the proofs here cite most, by one import in place of one for each. Declares nothing.
pub use Rattle.std.proofs.Common.{[], ap, append_assoc, arith, Bool, cond, drop, eqb, Err, false, get_or, inl, inr, leb, length, List, lit<, map, min, negsuc}
pub use Rattle.std.proofs.Common.{None, not, Ok, Option, pos, refl, Result, Some, subst, suc, sym, take, true, zero, ℕ, ℤ, ◌*◌, ◌++◌, ◌+◌, ◌-◌, ◌<◌, ◌^◌, ◌∙◌}
pub use Rattle.std.proofs.Common.{◌∷◌, ◌≡◌, ◌≤◌}
pub use Rattle.std.proofs.lemmas.Bool.{eqb-true, le-leb, leb-true, lt-ltb, ne_eqb}
pub use Rattle.std.proofs.lemmas.Fmt.{decimal_digit, decimal_nonempty}
pub use Rattle.std.proofs.lemmas.List.{append-nil, drop_at, length-append, length-map, take_at}
pub use Rattle.std.proofs.lemmas.List.Concat.{flat_map-cons}
pub use Rattle.std.proofs.lemmas.List.Elements.{All-cons, All-head, All-map, All-nil, All-push, All-set, All-tail, All-weaker}
pub use Rattle.std.proofs.lemmas.List.Sums.{sum_by-cons}
pub use Rattle.std.proofs.lemmas.Option.{same_Some, slice_get-map, slice_get_within}
pub use Rattle.std.proofs.lemmas.Slice.Eq.{bytes_eq-Decides}
pub use Rattle.std.specs.Fmt.{decimal, signed_decimal}
pub use Rattle.std.specs.Int.{w64}
pub use Rattle.std.specs.List.{All, AllZip, flat_map, list_all, list_any, position_or_len}
pub use Rattle.std.specs.Option.{option_map}
pub use Rattle.std.specs.Prelude.{codes, FitsSigned, IfSome, int_le, IsSomeAnd, nat_le, nat_lt, slice_get, slice_range, slice_set, sum_by, ◌==◌, ◌||◌, ◌⊎◌}
pub use Rattle.std.specs.Str.{bytes_eq}
pub use Rattle.hx_types.specs.Fitting.{IsScript}
pub use Rattle.hx_types.specs.Spaces.{AllDiffer, ArePart, AssignsFit, EditsFit, Fits, IsKind, IsName, IsOfKind, IsSpace, NamesDiffer, TermsFit}
pub use Rattle.hx_types.specs.Subspaces.{kind_at, region_count, size_of, sizes_sum}
pub use Rattle.hx_types.specs.declared.calls.Op.{Op}
pub use Rattle.hx_types.specs.declared.calls.Op.TheVariants.{Add, Atomic, Cput, Del, Get, Put, Search, Stop}
pub use Rattle.hx_types.specs.declared.ids.Actor.{Actor}
pub use Rattle.hx_types.specs.declared.ids.Actor.TheVariants.{Coordinator, Server, Session}
pub use Rattle.hx_types.specs.declared.limits.TheConstants.{LONGEST_NAME, LONGEST_TEXT, MOST_ATTRIBUTES, MOST_AXES, MOST_CALLS, MOST_FAILURES, MOST_PARTS}
pub use Rattle.hx_types.specs.declared.limits.TheConstants.{MOST_REGIONS, MOST_SERVERS, MOST_SESSIONS, MOST_STEPS, MOST_SUBSPACES}
pub use Rattle.hx_types.specs.declared.messages.PostId.{PostId}
pub use Rattle.hx_types.specs.declared.spaces.Attribute.{Attribute}
pub use Rattle.hx_types.specs.declared.spaces.Axis.{Axis}
pub use Rattle.hx_types.specs.declared.spaces.Kind.{Kind}
pub use Rattle.hx_types.specs.declared.spaces.Space.{Space}
pub use Rattle.hx_types.specs.declared.traces.Script.{Script}
pub use Rattle.hx_types.specs.declared.traces.Step.{Step}
pub use Rattle.hx_types.specs.declared.traces.Step.TheVariants.{Deliver, Halt, Tick}
pub use Rattle.hx_types.specs.declared.values.Assign.{Assign}
pub use Rattle.hx_types.specs.declared.values.Edit.{Edit}
pub use Rattle.hx_types.specs.declared.values.EditKind.{EditKind}
pub use Rattle.hx_types.specs.declared.values.Term.{Term}
pub use Rattle.hx_types.specs.declared.values.Term.TheVariants.{Equal, Range}
pub use Rattle.hx_types.specs.declared.values.Value.{Value}
pub use Rattle.hx_bundle.specs.Bundles.{AreDealt, IsBundle, IsStepIn, times}
pub use Rattle.hx_bundle.specs.declared.bundles.Bundle.{Bundle}
pub use Rattle.hx_bundle.specs.declared.bundles.BundleStep.{BundleStep}
pub use Rattle.hx_bundle.specs.declared.limits.TheConstants.{MOST_SPACES}
pub use Rattle.hx_law_texts.specs.Again.{first_step_line, on_lines_from, on_printed_lines}
pub use Rattle.hx_law_texts.specs.Sayable.{BoundsAreSayable, CallIsSayable, EditsAreSayable, IsActorOf, IsPostName, IsSayable, IsSayableScript, IsUpTo}
pub use Rattle.hx_law_texts.specs.Sayable.{StepIsSayable, TermIsSayable, ValuesAreSayable}
pub use Rattle.hx_law_texts.specs.SayableBundles.{bundle_steps_from, first_bundle_step_line, IsSayableBundle, lines_of_space, on_printed_bundle_lines}
pub use Rattle.hx_law_texts.specs.SayableBundles.{PostIsSayable}
pub use Rattle.hx_lex.proofs.Lemmas.{and_left, and_right}
pub use Rattle.hx_lex.specs.Letters.{begins_with, is_digit, is_lower, is_word_part, IsWord}
pub use Rattle.hx_lex.specs.Lines.{tokens_of}
pub use Rattle.hx_lex.specs.Numbers.{token_piece}
pub use Rattle.hx_lex.specs.Spelling.{IsText}
pub use Rattle.hx_lex.specs.declared.errors.LexError.{LexError}
pub use Rattle.hx_lex.specs.declared.token.Piece.{Piece}
pub use Rattle.hx_lex.specs.declared.token.Token.{Token}
pub use Rattle.hx_lex.specs.declared.token.TokenKind.{TokenKind}
pub use Rattle.hx_print.specs.BundlePrinting.{op_word, own_lines}
pub use Rattle.hx_print.specs.Printing.{assigns_text, edits_text, kind_line, name_of, terms_text}
pub use Rattle.hx_script.proofs.Lemmas.{all_at, bundle_sound, if_some_at, ok_is, on_ok_ok, placed_all, push_to_last_is, some_here, text_sound}
pub use Rattle.hx_script.specs.Actors.{is_decimal}
pub use Rattle.hx_script.specs.Axes.{has_axis, no_axes_yet}
pub use Rattle.hx_script.specs.BundleGrammar.{bundle_line_of, bundle_line_of_toks, have_keys, in_last_space, in_space, is_space, named_draft, spaces_line}
pub use Rattle.hx_script.specs.BundleGrammar.{with_session}
pub use Rattle.hx_script.specs.BundleTexts.{bundle_of, empty_bundle_draft, script_so_far, version_of}
pub use Rattle.hx_script.specs.Calls.{call, step}
pub use Rattle.hx_script.specs.Edits.{edit_kind, has_edit, is_edit_of}
pub use Rattle.hx_script.specs.Grammar.{heading_line, line_of, line_of_toks, push_to_last, toks_from}
pub use Rattle.hx_script.specs.Keywords.{keyword_of}
pub use Rattle.hx_script.specs.LoneCalls.{op_of_line, op_of_toks}
pub use Rattle.hx_script.specs.Readers.{is_at, Reader, repeat}
pub use Rattle.hx_script.specs.Texts.{empty_draft, lines_of, script_of}
pub use Rattle.hx_script.specs.Toks.{meaning, Number, Sign, Text, Tok, tok_of, Word}
pub use Rattle.hx_script.specs.Values.{has_assign, has_term, is_dots, is_of, is_short}
pub use Rattle.hx_script.specs.Words.{declared_number, is_declared, known_number, may_name}
pub use Rattle.hx_script.specs.declared.axes.AxesDraft.{AxesDraft}
pub use Rattle.hx_script.specs.declared.bundle_draft.BundleDraft.{BundleDraft}
pub use Rattle.hx_script.specs.declared.bundle_draft.BundleSection.{BundleSection}
pub use Rattle.hx_script.specs.declared.draft.Draft.{Draft}
pub use Rattle.hx_script.specs.declared.draft.Section.{Section}
pub use Rattle.hx_script.specs.declared.errors.Reason.{Reason}
pub use Rattle.hx_script.specs.declared.errors.Reason.TheVariants.{Bounds, Limit, Order, Twice}
pub use Rattle.hx_script.specs.declared.errors.ScriptError.{ScriptError}
pub use Rattle.hx_script.specs.declared.keyword.CallWord.{CallWord}
pub use Rattle.hx_script.specs.declared.keyword.Heading.{Heading}
pub use Rattle.hx_script.specs.declared.keyword.Keyword.{Keyword}
pub use Rattle.hx_script.specs.declared.keyword.StepWord.{StepWord}
pub use Rattle.hx_script.specs.declared.line.Until.{Until}
