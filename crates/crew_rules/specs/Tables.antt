-- Tables A and B of 14 CFR part 117, unaugmented operations, in minutes. A limit may be reached.
use Rattle.std.specs.Prelude.{ℕ, ◌-◌, min, nat_le, List, [], ◌∷◌, slice_index, if◌then◌else◌}

-- a row of a table: the minute of the day from which it is in force, and its limits
abbrev pub Row : Type 0
Row = ℕ × List ℕ

-- the limits in force at a minute of the day: those of the last row that begins no later
abbrev pub in_force : List ℕ → List Row → ℕ → List ℕ
in_force before [] clock = before
in_force before (row ∷ rows) clock = if nat_le row.0 clock then in_force row.1 rows clock else
    before

-- 117.11, Table A: the most flight time, by the time of report
abbrev pub rows_a : List Row
rows_a =
    (0, 480 ∷ [])  -- 0000 to 0459
    ∷ (300, 540 ∷ [])  -- 0500 to 1959
    ∷ (1_200, 480 ∷ [])  -- 2000 to 2359
    ∷ []

abbrev pub table_a : ℕ → ℕ
table_a report = slice_index (in_force [] rows_a report) 0

-- 117.13, Table B: the most flight duty period, by the scheduled time of start, for 1, 2, .., 6 and
-- 7 or more flight segments
abbrev pub rows_b : List Row
rows_b =
    (0, 540 ∷ 540 ∷ 540 ∷ 540 ∷ 540 ∷ 540 ∷ 540 ∷ [])  -- 0000 to 0359
    ∷ (240, 600 ∷ 600 ∷ 600 ∷ 600 ∷ 540 ∷ 540 ∷ 540 ∷ [])  -- 0400 to 0459
    ∷ (300, 720 ∷ 720 ∷ 720 ∷ 720 ∷ 690 ∷ 660 ∷ 630 ∷ [])  -- 0500 to 0559
    ∷ (360, 780 ∷ 780 ∷ 720 ∷ 720 ∷ 690 ∷ 660 ∷ 630 ∷ [])  -- 0600 to 0659
    ∷ (420, 840 ∷ 840 ∷ 780 ∷ 780 ∷ 750 ∷ 720 ∷ 690 ∷ [])  -- 0700 to 1159
    ∷ (720, 780 ∷ 780 ∷ 780 ∷ 780 ∷ 750 ∷ 720 ∷ 690 ∷ [])  -- 1200 to 1259
    ∷ (780, 720 ∷ 720 ∷ 720 ∷ 720 ∷ 690 ∷ 660 ∷ 630 ∷ [])  -- 1300 to 1659
    ∷ (1_020, 720 ∷ 720 ∷ 660 ∷ 660 ∷ 600 ∷ 540 ∷ 540 ∷ [])  -- 1700 to 2159
    ∷ (1_320, 660 ∷ 660 ∷ 600 ∷ 600 ∷ 540 ∷ 540 ∷ 540 ∷ [])  -- 2200 to 2259
    ∷ (1_380, 600 ∷ 600 ∷ 600 ∷ 540 ∷ 540 ∷ 540 ∷ 540 ∷ [])  -- 2300 to 2359
    ∷ []

abbrev pub limits_from : ℕ → List ℕ
limits_from start = in_force [] rows_b start

abbrev pub table_b : ℕ → ℕ → ℕ
table_b start segments = slice_index (limits_from start) (min segments 7 - 1)
