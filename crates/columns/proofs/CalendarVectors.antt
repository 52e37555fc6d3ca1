-- Worked vectors of the calendar, by evaluation.
-- Assumes nothing.
use mathlib.Core.Path.{◌≡◌, refl}
use mathlib.Core.Bool.{true, not}
use mathlib.Core.List.{[], ◌∷◌}
use Prim.Native.Nat.{◌+◌, ◌-◌, ◌*◌}
use Rattle.slices.proofs.EveryLaws.{every}
use Rattle.columns.specs.Calendar.{divides, leap, days_in, days_of, new_year, begins}

leap_years : every leap (1904 ∷ 1980 ∷ 2000 ∷ 2020 ∷ 2400 ∷ []) ≡ true
unfolding every leap divides
leap_years = refl

common_years : every (λ year. not (leap year)) (1900 ∷ 1998 ∷ 2021 ∷ 2100 ∷ 2200 ∷ 2300 ∷ []) ≡ true
unfolding every leap divides
common_years = refl

-- 97 of 400 years are leap years
days_of_400_years : days_of 400 ≡ 400 * 365 + 97
unfolding days_of days_in leap divides
days_of_400_years = refl

-- a fourteenth cycle begins on the last day of its year
last_days : every (λ year. begins (new_year (year + 1) - 1)) (1998 ∷ 2020 ∷ 2043 ∷ 2065 ∷ []) ≡ true
unfolding every begins new_year days_of days_in leap divides
last_days = refl

-- 2001 begins on 2 January 2020, and 2101 on 28 January 2021
first_days : every begins ((new_year 2020 + 1) ∷ (new_year 2021 + 27) ∷ []) ≡ true
unfolding every begins new_year days_of days_in leap divides
first_days = refl
