-- How many records of each type a list has, and may have.
use Rattle.std.specs.Prelude.{List, count_by, ℕ, ◌==◌, ◌≤◌}
use Rattle.tl_layout.specs.RecordText.{type_of}
use Rattle.tl_layout.specs.declared.record_type.Record.{Record}

-- how many of the records are of this type
abbrev pub count_of_type : ℕ → List Record → ℕ
count_of_type rtype records = count_by (λ r. type_of r == rtype) records

-- the most records of one type in a set
abbrev pub most_records : ℕ
most_records = 10000000

-- there are at most limit records of each type
abbrev pub IsWithinLimit : ℕ → List Record → Type 0
IsWithinLimit limit records = (rtype : ℕ) → count_of_type rtype records ≤ limit
