-- Worked vectors, by evaluation: numbers in digits, and lines.
-- Assumes nothing.
use mathlib.Core.Path.{◌≡◌, refl}
use mathlib.Core.Bool.{Bool, true, ◌&&◌}
use mathlib.Core.List.{List, [], ◌∷◌}
use Prim.Native.Nat.{ℕ}
use Prim.Native.String.{String}
use Rattle.slices.specs.Order.{order, equal}
use Rattle.digits.specs.Decimal.{digits_by, decimal}
use Rattle.columns.specs.Patterns.{codes}
use Rattle.refusals.specs.Table.{cut_short, too_many_records, buffer_too_short, refusal}
use Rattle.selection.specs.Pick.{refused_by, picked}
use Rattle.slices.specs.Part.{part}
use Rattle.answers.specs.Why.{reason_line, record_line, line_text, in_text}
use Rattle.answers.specs.Answers.{no_line, count_line, take_line, take_lines, pick_text, tabbed}

same : List ℕ → String → Bool
same bytes text = equal bytes (codes text)

digits : (same (decimal 0) "0"
    && same (decimal 9) "9"
    && same (decimal 10) "10"
    && same (decimal 100) "100"
    && same (decimal 63840) "63840"
    && same (decimal 18446744073709551615) "18446744073709551615")
    ≡ true
unfolding same equal order codes decimal digits_by
digits = refl

refusals : (same (no_line (cut_short 3 133)) "no\t1\t3\t133\n"
    && same (no_line too_many_records) "no\t2\t481\t0\n"
    && same (no_line buffer_too_short) "no\t14\t0\t0\n"
    && same (no_line (refusal 7 18446744073709551615 27)) "no\t7\t18446744073709551615\t27\n")
    ≡ true
unfolding same equal order codes no_line tabbed decimal digits_by
refusals = refl

-- "wanted 5 prints exactly this"
picks : (same (pick_text (picked (1 ∷ 3 ∷ 5 ∷ []) (0 ∷ 133 ∷ 266 ∷ []))) "pick\t3\t3\ntake\t1\ntake\t3\ntake\t5\n"
    && same (pick_text (picked [] [])) "pick\t0\t0\n"
    && same (pick_text (refused_by (refusal 12 1 0))) "no\t12\t1\t0\n"
    && same (count_line (codes "ok") 480 200) "ok\t480\t200\n")
    ≡ true
unfolding same equal order codes pick_text no_line count_line take_lines take_line tabbed decimal digits_by
picks = refl

-- a correction that is wanted, one that is taken for another by the route of a record, and what is said of refusals
whys : (same (reason_line 5 0 []) "take\t5\twanted\n"
    && same (reason_line 1 3 (codes "SEURP LPRDLPFI09   APAINE 010")) "take\t1\tfor\t3\tSEURP LPRDLPFI09   APAINE\n"
    && same (line_text 7) "line\t7\n"
    && same (in_text (codes "SEURP LPRDLPFI09   APAINE 010") (refusal 8 1 49)) "in\tSEURP LPRDLPFI09   APAINE\t8\t1\t49\n"
    && same (record_line (codes "S")) "record\tS\n"
    && same (record_line []) "")
    ≡ true
unfolding same equal order codes reason_line line_text in_text tabbed decimal digits_by part
whys = refl
