-- Lines in canonical spelling, except for their version.
use Rattle.std.specs.Prelude.{List, Ok, Result, codes, drop, take, ℕ, ◌++◌, ◌≡◌}
use Rattle.tl_layout.specs.declared.fault.FieldFault.{FieldFault}

-- the line with the version 2006 in its columns 2 to 5
abbrev pub with_version : List ℕ → List ℕ
with_version line = take 1 line ++ (codes "2006" ++ drop 5 line)

-- the line is read as the record, and with the version 2006 it is the record's canonical spelling
pub record IsSpeltLine {R : Type 0} (reading : List ℕ → Result R FieldFault) (spelling : R → List ℕ) (line : List ℕ) (r : R)
    : Type 0 where
  pub read : reading line ≡ Ok r
  pub spelt : spelling r ≡ with_version line
