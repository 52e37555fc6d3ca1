-- Paper 01's table of refusal numbers, row by row: for each case its number, its place and its column.
-- Assumes nothing.
use Rattle.std.specs.Prelude.{ℕ, Result, Ok, Err}
use Rattle.refusals.specs.declared.Refusal.{Refusal}

-- what judging says: nothing where it accepts, and otherwise the refusal
abbrev pub Verdict : Type 0
Verdict = Result Unit Refusal

abbrev pub Accepted : Verdict
Accepted = Ok tt

abbrev pub Refused : Refusal → Verdict
Refused r = Err r

abbrev pub refusal : ℕ → ℕ → ℕ → Refusal
refusal n p c = record { number = n; place = p; column = c }

-- record cut short, or byte 133 no line feed: the record; the first missing byte, or 133
abbrev pub cut_short : (place column : ℕ) → Refusal
cut_short place column = refusal 1 place column

-- more than 480 full records, or 480 and a tail: 481, 0
abbrev pub too_many_records : Refusal
too_many_records = refusal 2 481 0

-- field content: the record, and the bad byte where it is read, the field's first column where it is written
abbrev pub field_content : (place column : ℕ) → Refusal
field_content place column = refusal 3 place column

-- companion blank: the record, the first blank companion
abbrev pub companion_blank : (place column : ℕ) → Refusal
companion_blank place column = refusal 4 place column

-- needed field blank: the record, the lowest such column
abbrev pub needed_blank : (place column : ℕ) → Refusal
needed_blank place column = refusal 5 place column

-- continuation wrong or missing: the record; 39, or the first of 1-38 that differs
abbrev pub continuation_number : (place : ℕ) → Refusal
continuation_number place = refusal 6 place 39

abbrev pub continuation_head : (place column : ℕ) → Refusal
continuation_head place column = refusal 6 place column

-- route not later / sequence not risen: the record; 1 / 27
abbrev pub route_not_later : (place : ℕ) → Refusal
route_not_later place = refusal 7 place 1

abbrev pub sequence_not_risen : (place : ℕ) → Refusal
sequence_not_risen place = refusal 7 place 27

-- first leg or pair / last leg: the record; 48 / 49
abbrev pub leg_pair : (place : ℕ) → Refusal
leg_pair place = refusal 8 place 48

abbrev pub leg_ending : (place : ℕ) → Refusal
leg_ending place = refusal 8 place 49

-- log line: the line, the first byte from which it can't be completed
abbrev pub log_line : (place column : ℕ) → Refusal
log_line place column = refusal 9 place column

-- D finds no such record, A finds the place taken: the correction, 0
abbrev pub does_not_apply : (place : ℕ) → Refusal
does_not_apply place = refusal 10 place 0

-- a touched route refused after a correction: the correction, the number of the first route's refusal
abbrev pub route_refused : (place number : ℕ) → Refusal
route_refused place number = refusal 11 place number

-- wanted number 0 or past the last correction: the index from 1, 0
abbrev pub not_in_log : (place : ℕ) → Refusal
not_in_log place = refusal 12 place 0

-- log too long / correction 201 / A line past 480: 0 / the line / the line, column 0
abbrev pub log_too_long : Refusal
log_too_long = refusal 13 0 0

abbrev pub too_many_corrections : (place : ℕ) → Refusal
too_many_corrections place = refusal 13 place 0

abbrev pub no_room : (place : ℕ) → Refusal
no_room place = refusal 13 place 0

-- output buffer too short (63,840 for a file, 133 for a record): 0, 0
abbrev pub buffer_too_short : Refusal
buffer_too_short = refusal 14 0 0

-- what a verdict says: the number, the place and the column of its refusal, and nothing but 0 where it accepts
abbrev pub stated : Verdict → Refusal
stated (Ok _) = refusal 0 0 0
stated (Err r) = r
