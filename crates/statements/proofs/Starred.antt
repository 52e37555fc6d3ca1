-- Paper 01's starred cases hold: one theorem for the whole table, by evaluation.
-- Assumes nothing.
use mathlib.Core.Path.{refl}
use mathlib.Core.Option.{bind}
use native.Mathlib.Decide.{ℕ_discrete}
use Rattle.slices.specs.Part.{part, blank, member}
use Rattle.slices.specs.Order.{order, equal}
use Rattle.slices.specs.Search.{first_at}
use Rattle.digits.specs.Decimal.{digits_by, decimal}
use Rattle.columns.specs.ByteSets.{fits}
use Rattle.columns.specs.Patterns.{codes, fits_all}
use Rattle.columns.specs.Rows.{stands, matches, first_of}
use Rattle.columns.specs.Stops.{run, longest}
use Rattle.columns.specs.Layout.{primary, continuation}
use Rattle.columns.specs.Kinds.{kind_of, layout_of, bad_byte}
use Rattle.digits.specs.Digits.{value}
use Rattle.columns.specs.Samples.{◌at◌is◌, approach, full, notes}
use Rattle.leg.specs.Terminator.{in_order, terminator_at, terminator_of, needs, needed, among, ends_at_fix, is_holding, name_of, terminator_number}
use Rattle.leg.specs.Stages.{odd_one, missing, companion_column, needed_of, needed_column}
use Rattle.leg.specs.Judge.{stage, judged_leg, judged}
use Rattle.fields.specs.Optional.{unless_blank}
use Rattle.fields.specs.Quantities.{altitude_said, distance_said, feet_of}
use Rattle.fields.specs.Leg.{leg_of}
use Rattle.parts.specs.Record.{size_column, alone, reading_of}
use Rattle.routes.specs.InTurn.{in_turn}
use Rattle.routes.specs.Sources.{leading, records, pieces, behind_records, record_at, record_within, in_use, sources_of, sources_for, sources_to, starts}
use Rattle.routes.specs.LegTable.{named, page, route_kinds}
use Rattle.routes.specs.Pairs.{only_first, follows_fix, old_pair, mark, readable, pair, of_kind, kind_number, kind_at, may_begin, may_end, first_leg, last_leg}
use Rattle.routes.specs.Stages.{awaits, continuation_column, continuation_stage, sequence_stage, order_stage, leg_stands, leg_stage, ending_stage}
use Rattle.routes.specs.Walk.{followed, ends_route, judged_next, primary_after, last, walk_from, finished, walked}
use Rattle.routes.specs.Files.{size_stage, tail_column, tail_stage, file_verdict}
use Rattle.routes.specs.Places.{place_of, Every}
use Rattle.routes.specs.Legal.{lines}
use Rattle.corrections.specs.Lines.{line_of, whole, reach, heading, change}
use Rattle.corrections.specs.Reading.{read_log, read}
use Rattle.history.specs.Apply.{route_of_op, touches?}
use Rattle.history.specs.Sets.{add, numbered, last_on, add_relied, closure_to}
use Rattle.history.specs.Bytes.{same?}
use Rattle.applying.specs.State.{with_source, without_record, count_before, not_before, has_place, is_record, put_at, left_out}
use Rattle.applying.specs.Apply.{lines_applied, line_applied, fails_at, touched, together, touched_judged, refused_route}
use Rattle.applying.specs.Correct.{corrected_by, fault_as}
use Rattle.applying.specs.Run.{leading_lines, by_correction, ran_by}
use Rattle.applying.specs.Procedures.{operation, operations}
use Rattle.selection.specs.Pick.{length_stage, opened, wanted_stage, wants, members_from, carried, taken_of, pick_of, line_in}
use Rattle.selection.specs.Failing.{line_feeds, line_at, failure_as, failure_of, settled}
use Rattle.selection.specs.Reasons.{first_relying, reason_of, reasons_by, reasons_of}
use Rattle.statements.specs.Starred.{Meets, starred, leg, departure, only, frozen, line, replaced, log, unended, doubled}

-- Every row is met. The definitions that the rows come down to are opened, so that they compute.
pub cases : Every Meets starred
unfolding starred full notes approach ◌at◌is◌ codes leg departure only frozen line replaced log unended doubled lines reading_of alone size_column leg_of unless_blank altitude_said distance_said feet_of is_holding value judged judged_leg stage companion_column odd_one needed_column needed_of missing blank member part terminator_of terminator_at in_order terminator_number name_of among ends_at_fix needed needs first_at equal order bad_byte run longest layout_of kind_of first_of matches stands fits_all fits primary continuation file_verdict size_stage tail_stage tail_column in_turn leading records pieces behind_records walked walk_from finished last judged_next primary_after continuation_stage continuation_column awaits order_stage sequence_stage leg_stage leg_stands ending_stage followed ends_route first_leg last_leg may_begin may_end kind_number kind_at of_kind route_kinds named pair readable mark page old_pair only_first follows_fix bind pick_of opened length_stage read_log read line_of whole reach heading change digits_by decimal wanted_stage carried taken_of wants members_from leading_lines by_correction ran_by corrected_by lines_applied line_applied touched together touched_judged fails_at refused_route fault_as line_feeds line_at failure_as failure_of settled first_relying reason_of reasons_by reasons_of line_in with_source without_record count_before not_before has_place is_record put_at left_out record_at record_within in_use sources_of sources_for sources_to starts place_of operation operations closure_to add_relied last_on numbered add touches? route_of_op same? ℕ_discrete
cases = (refl, (refl, (refl, (refl, (refl, (refl, (refl, (refl, (refl, (refl, (refl, (refl, (refl, (refl, (refl, (refl, (refl, (refl, (refl, (refl, (refl, (refl, (refl, (refl, (refl, (refl, (refl, (refl, (refl, (refl, (refl, ((refl, refl), (refl, tt)))))))))))))))))))))))))))))))))
