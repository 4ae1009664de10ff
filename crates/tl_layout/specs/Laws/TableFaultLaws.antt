-- Reading a line by a column table fails exactly with the leftmost fault of the table.
use Rattle.std.proofs.Common.{Err, List, Ok, Result, [], ap, inl, inr, refl, subst, sym, ℕ, ◌++◌, ◌+◌, ◌∙◌, ◌∷◌, ◌≡◌}
use Rattle.std.specs.List.{AllByRecursion}
use Rattle.tl_layout.specs.ColumnTable.{Filler, Kind, Number, NumberOrNone, NumberPlaces, Opaque, Pair, PairOrNone, PointPlaces, Row, SpellsField, ValueOf}
use Rattle.tl_layout.specs.Laws.ValueLaws.{fails, fails_first, nothing_spelled, number_or_none_reported, number_reported, one_reported, point_or_none_reported, point_reported, value_found, value_only}
use Rattle.tl_layout.specs.Bytes.{columns}
use Rattle.tl_layout.specs.FieldFaults.{IsBadField, IsLeftmostFault, IsValueFault}
use Rattle.tl_layout.specs.FieldReading.{number_at, number_or_none_at, point_at, point_or_none_at}
use Rattle.tl_layout.specs.declared.fault.FieldFault.{FieldFault}
use Rattle.tl_layout.specs.TableReading.{Makes, rows_reading, value_reading}
use Rattle.tl_layout.specs.Laws.FieldLaws.{number_or_none_at_found, number_or_none_at_only, point_or_none_at_found, point_or_none_at_only, reads_on}
use Rattle.tl_layout.specs.FieldMeaning.{SpellsNumberPlace, SpellsPointPlace}
use Rattle.tl_layout.specs.Laws.PlaceFaultLaws.{places_fault_found, places_fault_only}

-- the faults of a number or none, and of a point or none, as separate fields or places
number_or_none_fault_found : (line : List ℕ) (first last : ℕ) (fault : FieldFault) → number_or_none_at first last line ≡ Err fault
    → IsBadField line first last NumberOrNone fault
number_or_none_fault_found line first last fault h =
    record { none_spelled = nothing_spelled line first last NumberOrNone fault h; reported = number_or_none_reported first last line fault h }

pair_or_none_fault_found : (line : List ℕ) (first last : ℕ) (fault : FieldFault) → point_or_none_at first line ≡ Err fault
    → IsBadField line first last PairOrNone fault
pair_or_none_fault_found line first last fault h =
    record { none_spelled = nothing_spelled line first last PairOrNone fault h; reported = point_or_none_reported line first fault h }

-- if reading fails, the field is at fault
pub value_fault_found : (line : List ℕ) (first last : ℕ) (kind : Kind) (fault : FieldFault) → value_reading line first last kind ≡ Err fault
    → IsValueFault line first last kind fault
value_fault_found line first last Number fault h =
    record { none_spelled = nothing_spelled line first last Number fault h; reported = number_reported first last line fault h }
value_fault_found line first last NumberOrNone fault h = number_or_none_fault_found line first last fault h
value_fault_found line first last Pair fault h =
    record { none_spelled = nothing_spelled line first last Pair fault h; reported = point_reported line first fault h }
value_fault_found line first last PairOrNone fault h = pair_or_none_fault_found line first last fault h
value_fault_found line first last NumberPlaces fault h =
    places_fault_found (λ column. number_or_none_at column (column + 7) line) (SpellsNumberPlace line)
    (λ column. IsBadField line column (column + 7) NumberOrNone) (λ column. number_or_none_at_found column (column + 7) line)
    (λ column. number_or_none_fault_found line column (column + 7)) 8 5 first fault h
value_fault_found line first last PointPlaces fault h =
    places_fault_found (λ column. point_or_none_at column line) (SpellsPointPlace line)
    (λ column. IsBadField line column (column + 18) PairOrNone) (λ column. point_or_none_at_found column line)
    (λ column. pair_or_none_fault_found line column (column + 18)) 19 10 first fault h
value_fault_found line first last Opaque fault h = absurd (cc)
value_fault_found line first last Filler fault h = absurd (cc)

-- if nothing is spelled, reading fails with the reported fault, provided that there is only one
fails_reported : {A : Type 0} (Spells : A → Type 0) (Reported : FieldFault → Type 0) (read : Result A FieldFault)
    → ((value : A) → read ≡ Ok value → Spells value) → ((fault : FieldFault) → read ≡ Err fault → Reported fault)
    → ((f g : FieldFault) → Reported f → Reported g → f ≡ g) → (fault : FieldFault) → ((value : A) → ¬ Spells value) → Reported fault → read ≡ Err fault
fails_reported {A} Spells Reported read found reported one fault none t = go read refl
  where
    go : (answer : Result A FieldFault) → read ≡ answer → read ≡ Err fault
    go (Ok value) e = absurd (none value (found value e))
    go (Err f) e = e ∙ ap (λ (f : FieldFault). Err f) (one f fault (reported f e) t)

number_or_none_fault_only : (line : List ℕ) (first last : ℕ) (fault : FieldFault) → IsBadField line first last NumberOrNone fault
    → number_or_none_at first last line ≡ Err fault
number_or_none_fault_only line first last fault h =
    fails_reported _ _ (number_or_none_at first last line) (value_found line first last NumberOrNone) (number_or_none_reported first last line)
    (λ f g a b. a ∙ sym b) fault h.none_spelled h.reported

pair_or_none_fault_only : (line : List ℕ) (first last : ℕ) (fault : FieldFault) → IsBadField line first last PairOrNone fault
    → point_or_none_at first line ≡ Err fault
pair_or_none_fault_only line first last fault h =
    fails_reported _ _ (point_or_none_at first line) (value_found line first last PairOrNone) (point_or_none_reported line first)
    (one_reported line first) fault h.none_spelled h.reported

-- if the field is at fault, reading fails with its fault
pub value_fault_only : (line : List ℕ) (first last : ℕ) (kind : Kind) (fault : FieldFault) → IsValueFault line first last kind fault
    → value_reading line first last kind ≡ Err fault
value_fault_only line first last Number fault h =
    fails_reported _ _ (number_at first last line) (value_found line first last Number) (number_reported first last line) (λ f g a b. a
    ∙ sym b) fault h.none_spelled h.reported
value_fault_only line first last NumberOrNone fault h = number_or_none_fault_only line first last fault h
value_fault_only line first last Pair fault h =
    fails_reported _ _ (point_at first line) (value_found line first last Pair) (point_reported line first)
    (one_reported line first) fault h.none_spelled h.reported
value_fault_only line first last PairOrNone fault h = pair_or_none_fault_only line first last fault h
value_fault_only line first last NumberPlaces fault h =
    places_fault_only (λ column. number_or_none_at column (column + 7) line) (SpellsNumberPlace line)
    (λ column. IsBadField line column (column + 7) NumberOrNone) (λ column. number_or_none_at_only column (column + 7) line)
    (λ column. number_or_none_fault_only line column (column + 7)) 8 5 first fault h
value_fault_only line first last PointPlaces fault h =
    places_fault_only (λ column. point_or_none_at column line) (SpellsPointPlace line)
    (λ column. IsBadField line column (column + 18) PairOrNone) (λ column. point_or_none_at_only column line)
    (λ column. pair_or_none_fault_only line column (column + 18)) 19 10 first fault h
value_fault_only line first last Opaque fault h = absurd (h.none_spelled (columns first last line) refl)
value_fault_only line first last Filler fault h = absurd (h.none_spelled tt tt)

-- if reading a line fails, it fails with the leftmost fault
pub leftmost_found : {R A : Type 0} (rows : List (Row R)) (make : Makes rows A) (line : List ℕ) (fault : FieldFault)
    → rows_reading rows make line ≡ Err fault → IsLeftmostFault rows line fault
leftmost_found [] make line fault h = absurd (cc)
leftmost_found {R} {A} (row ∷ rows) make line fault h =
    elim (fails (value_reading line row.first row.last row.kind) _ fault h) [
      | inl e ↦ record {
        before = [];
        row = row;
        after = rows;
        split = refl;
        well_formed = tt;
        at_fault =
            value_fault_found line row.first row.last row.kind fault e;
      }
      | inr r ↦ (
          let later = leftmost_found rows (make r.0) line fault r.2 in
          record {
            before = row ∷ later.before;
            row = later.row;
            after = later.after;
            split = ap (λ (l : List (Row R)). row ∷ l) later.split;
            well_formed = ((r.0, value_found line row.first row.last row.kind r.0 r.1), later.well_formed);
            at_fault = later.at_fault;
          }
          )
    ]

fails_at : {R A : Type 0} (before : List (Row R)) (row : Row R) (after : List (Row R)) (make : Makes (before ++ row ∷ after) A)
    (line : List ℕ) (fault : FieldFault) → AllByRecursion (λ (earlier : Row R). (value : ValueOf earlier.kind) × SpellsField line earlier value) before
    → IsValueFault line row.first row.last row.kind fault
    → rows_reading (before ++ row ∷ after) make line ≡ Err fault
fails_at [] row after make line fault w f =
    fails_first _ _ fault (value_fault_only line row.first row.last row.kind fault f)
fails_at (first ∷ before) row after make line fault w f =
    reads_on _ _ w.0.0 _ (value_only line first.first first.last first.kind w.0.0 w.0.1)
    (fails_at before row after (make w.0.0) line fault w.1 f)

-- reading a line fails with the leftmost fault
pub leftmost_only : {R A : Type 0} (rows : List (Row R)) (make : Makes rows A) (line : List ℕ) (fault : FieldFault)
    → IsLeftmostFault rows line fault → rows_reading rows make line ≡ Err fault
leftmost_only {R} {A} rows make line fault f =
    let P : List (Row R) → Type 0 = λ all. (make : Makes all A) → rows_reading all make line ≡ Err fault in
    subst P (sym f.split) (λ make. fails_at f.before f.row f.after make line fault f.well_formed f.at_fault) make
