-- The calendar, and how many cycles a year has, beside the words of request 2026-01. Days are counted from 1 January 1900, which is day 0:
-- no year that two digits name is earlier.
-- Assumes nothing.
use Rattle.std.specs.Prelude.{ℕ, zero, suc, ◌+◌, ◌-◌, ◌%◌, Bool, cond, not, ◌&&◌, ◌||◌, eqb, ltb}

unfoldable pub divides : ℕ → ℕ → Bool
divides k n = eqb (n % k) 0

-- a year with a 29 February: every fourth, but of the full hundreds only every fourth
unfoldable pub leap : ℕ → Bool
leap year = divides 4 year && (not (divides 100 year) || divides 400 year)

unfoldable pub days_in : ℕ → ℕ
days_in year = cond (leap year) 366 365

-- the days of so many years from 1900 on
unfoldable pub days_of : ℕ → ℕ
days_of zero = 0
days_of (suc years) = days_of years + days_in (1900 + years)

-- 1 January of a year, as a day
unfoldable pub new_year : ℕ → ℕ
new_year year = days_of (year - 1900)

-- "28-day cycles", "cycle 9801 began on 1 January 1998": whether one begins on a day, which is a whole number of times 28 days before or
-- after that one
unfoldable pub begins : ℕ → Bool
begins day = eqb (day % 28) (new_year 1998 % 28)

-- how many cycles begin on the n days from a day on
unfoldable pub beginning : ℕ → ℕ → ℕ
beginning day zero = 0
beginning day (suc n) = cond (begins day) 1 0 + beginning (day + 1) n

-- "a cycle belongs to the year it begins in"
unfoldable pub cycles_in : ℕ → ℕ
cycles_in year = beginning (new_year year) (days_in year)

-- "Years 80 to 99 are 1980 to 1999, and 00 to 79 are 2000 to 2079"
unfoldable pub year_of : ℕ → ℕ
year_of digits = cond (ltb digits 80) (2000 + digits) (1900 + digits)
