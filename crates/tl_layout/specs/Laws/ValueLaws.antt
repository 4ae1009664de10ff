-- For each kind of field: its columns are read as the value that they spell, and if they spell none, as the reported fault.
use Rattle.std.proofs.Common.{Err, List, None, Ok, Option, Result, Some, ap, false, inl, inr, pos, refl, rules, subst, suc, sym, zero, ℕ, ◌+◌, ◌∙◌, ◌≡◌, ◌⊎◌}
use Rattle.tl_layout.specs.Laws.CoordinateLaws.{blank_found, blank_only, coordinate_found, coordinate_only}
use Rattle.tl_layout.specs.Coordinates.{Coordinates, most_latitude, most_longitude}
use Rattle.tl_layout.specs.FieldReading.{and_then, coordinates_of, demanded, number_at, number_or_none_at, point_at, point_or_none_at, possible_number}
use Rattle.tl_layout.specs.FieldMeaning.{SpellsNumberPlace, SpellsPointOrNone, SpellsPointPlace}
use Rattle.tl_layout.specs.FieldFaults.{HasMalformedLatitude, HasMalformedLongitude, IsMalformed, IsReportedOfPair, bad_number, bad_point}
use Rattle.tl_layout.specs.Laws.FieldLaws.{number_at_found, number_at_only, number_or_none_at_found, number_or_none_at_only, ok_value, point_at_found, point_at_only, point_or_none_at_found, point_or_none_at_only}
use Rattle.tl_layout.specs.Laws.PlaceLaws.{places_found, places_only}
use Rattle.tl_layout.specs.ColumnTable.{Filler, Kind, Number, NumberOrNone, NumberPlaces, Opaque, Pair, PairOrNone, PointPlaces, SpellsValue, ValueOf}
use Rattle.tl_layout.specs.declared.coordinate.Coordinate.TheVariants.{Blank, Malformed, Value}
use Rattle.tl_layout.specs.Bytes.{columns}
use Rattle.tl_layout.specs.CoordinateReading.{coordinate_of}
use Rattle.tl_layout.specs.NumberReading.{number_of}
use Rattle.tl_layout.specs.TableReading.{value_reading}
use Rattle.tl_layout.specs.declared.coordinate.Coordinate.{Coordinate}
use Rattle.tl_layout.specs.declared.fault.FieldFault.{FieldFault}

-- ---- reading

-- if a value is read, the columns spell it
pub value_found : (line : List ℕ) (first last : ℕ) (kind : Kind) (value : ValueOf kind) → value_reading line first last kind ≡ Ok value
    → SpellsValue line first last kind value
value_found line first last Number n h = number_at_found first last line n h
value_found line first last NumberOrNone n h = number_or_none_at_found first last line n h
value_found line first last Pair point h = point_at_found first line point h
value_found line first last PairOrNone point h = point_or_none_at_found first line point h
value_found line first last NumberPlaces numbers h =
    (places_found (λ column. number_or_none_at column (column + 7) line) (SpellsNumberPlace line)
    (λ column place. number_or_none_at_found column (column + 7) line place) 8 false 5 first numbers h).1
value_found line first last PointPlaces points h =
    (places_found (λ column. point_or_none_at column line) (SpellsPointPlace line)
    (λ column place. point_or_none_at_found column line place) 19 false 10 first points h).1
value_found line first last Opaque text h = ok_value _ text h
value_found line first last Filler _ h = tt

-- if the columns spell a value, that value is read
pub value_only : (line : List ℕ) (first last : ℕ) (kind : Kind) (value : ValueOf kind) → SpellsValue line first last kind value
    → value_reading line first last kind ≡ Ok value
value_only line first last Number n s = number_at_only first last line n s
value_only line first last NumberOrNone n s = number_or_none_at_only first last line n s
value_only line first last Pair point s = point_at_only first line point s
value_only line first last PairOrNone point s = point_or_none_at_only first line point s
value_only line first last NumberPlaces numbers s =
    places_only (λ column. number_or_none_at column (column + 7) line) (SpellsNumberPlace line)
    (λ column place. number_or_none_at_only column (column + 7) line place) 8 false 5 first numbers (λ e. (cc)) s
value_only line first last PointPlaces points s =
    places_only (λ column. point_or_none_at column line) (SpellsPointPlace line)
    (λ column place. point_or_none_at_only column line place) 19 false 10 first points (λ e. (cc)) s
value_only line first last Opaque text s = ap (λ (t : List ℕ). Ok t) s
value_only line first last Filler _ s = refl

-- ---- faults

-- if reading fails, it failed first, or succeeded first and failed later
pub fails : {A B : Type 0} (first : Result A FieldFault) (more : A → Result B FieldFault) (fault : FieldFault)
    → and_then first more ≡ Err fault → (first ≡ Err fault) ⊎ ((value : A) × (first ≡ Ok value) × (more value ≡ Err fault))
unfolding and_then
fails (Ok value) more fault h = inr (value, refl, h)
fails {A} (Err e) more fault h = let same : e ≡ fault = (cc) in inl (ap (λ (f : FieldFault). Err f) same)

-- a first failure stops the reading
pub fails_first : {A B : Type 0} (first : Result A FieldFault) (more : A → Result B FieldFault) (fault : FieldFault) → first ≡ Err fault
    → and_then first more ≡ Err fault
unfolding and_then
fails_first (Ok value) more fault h = absurd (cc)
fails_first (Err e) more fault h = let same : e ≡ fault = (cc) in ap (λ (f : FieldFault). Err f) same

-- a result isn't both a value and a fault
not_both : {A : Type 0} (read : Result A FieldFault) (value : A) (fault : FieldFault) → read ≡ Ok value → read ≡ Err fault → ⊥
not_both read value fault h e = let differ : Ok value ≡ Err fault = sym h ∙ e in (cc)

-- if reading fails, no value is spelled
pub nothing_spelled : (line : List ℕ) (first last : ℕ) (kind : Kind) (fault : FieldFault) → value_reading line first last kind ≡ Err fault
    → (value : ValueOf kind) → SpellsValue line first last kind value → ⊥
nothing_spelled line first last kind fault h value s = not_both _ value fault (value_only line first last kind value s) h

-- a value that is required fails as it is read, or there is none
demanded_fails : {A : Type 0} (first : Result (Option A) FieldFault) (missing fault : FieldFault)
    → and_then first (demanded missing) ≡ Err fault → (first ≡ Err fault) ⊎ ((first ≡ Ok None) × (fault ≡ missing))
unfolding and_then
demanded_fails (Ok None) missing fault h = inr (refl, (cc))
demanded_fails (Ok (Some x)) missing fault h = absurd (cc)
demanded_fails (Err f) missing fault h = let same : f ≡ fault = (cc) in inl (ap (λ (f : FieldFault). Err f) same)

possible_reported : (column : ℕ) (read : Option ℕ) (fault : FieldFault) → possible_number column read ≡ Err fault → fault ≡ bad_number column
possible_reported column None fault h = (cc)
possible_reported column (Some zero) fault h = absurd (cc)
possible_reported column (Some (suc n)) fault h = absurd (cc)

pub number_or_none_reported : (first last : ℕ) (line : List ℕ) (fault : FieldFault) → number_or_none_at first last line ≡ Err fault
    → fault ≡ bad_number first
unfolding number_or_none_at
number_or_none_reported first last line fault h = possible_reported first (number_of (columns first last line)) fault h

pub number_reported : (first last : ℕ) (line : List ℕ) (fault : FieldFault) → number_at first last line ≡ Err fault → fault ≡ bad_number first
unfolding number_at
number_reported first last line fault h =
    elim (demanded_fails (number_or_none_at first last line) (bad_number first) fault h) [
      | inl e ↦ number_or_none_reported first last line fault e
      | inr none ↦ none.1
    ]

-- ---- pairs

malformed_found : (limit : ℕ) (field : List ℕ) → coordinate_of limit field ≡ Malformed → IsMalformed limit field
malformed_found limit field h = record {
  not_blank = λ b. let differ : Blank ≡ Malformed = sym (blank_only limit field b) ∙ h in (cc);
  no_value = λ value v. let differ : Value value ≡ Malformed = sym (coordinate_only limit field value v) ∙ h in (cc);
}

blank_not_malformed : (limit : ℕ) (field : List ℕ) → coordinate_of limit field ≡ Blank → ¬ IsMalformed limit field
blank_not_malformed limit field h m = m.not_blank (blank_found limit field h)

value_not_malformed : (limit : ℕ) (field : List ℕ) (value : _) → coordinate_of limit field ≡ Value value → ¬ IsMalformed limit field
value_not_malformed limit field value h m = m.no_value value (coordinate_found limit field value h)

-- a field is malformed or not
malformed_or_not : (limit : ℕ) (field : List ℕ) → IsMalformed limit field ⊎ (¬ IsMalformed limit field)
malformed_or_not limit field = go (coordinate_of limit field) refl
  where
    go : (read : Coordinate) → coordinate_of limit field ≡ read → IsMalformed limit field ⊎ (¬ IsMalformed limit field)
    go Malformed e = inl (malformed_found limit field e)
    go Blank e = inr (blank_not_malformed limit field e)
    go (Value v) e = inr (value_not_malformed limit field v e)

long_reported : (line : List ℕ) (first : ℕ) → HasMalformedLongitude line first → IsReportedOfPair line first (bad_point first)
long_reported line first m = search rules

lat_reported : (line : List ℕ) (first : ℕ) → ¬ HasMalformedLongitude line first → HasMalformedLatitude line first
    → IsReportedOfPair line first (bad_point (first + 10))
lat_reported line first not_long m = search rules

both_reported : (line : List ℕ) (first : ℕ) → ¬ HasMalformedLongitude line first → ¬ HasMalformedLatitude line first
    → IsReportedOfPair line first (bad_point first)
both_reported line first not_long not_lat = search rules

-- two equal `Err` results have the same fault
pub err_value : {A : Type 0} (x y : FieldFault) → ◌≡◌ {A = Result A FieldFault} (Err x) (Err y) → x ≡ y
err_value x y h = (cc)

pair_reported : (line : List ℕ) (first : ℕ) (fault : FieldFault) (long lat : Coordinate)
    → coordinate_of most_longitude (columns first (first + 9) line) ≡ long
    → coordinate_of most_latitude (columns (first + 10) (first + 18) line) ≡ lat → coordinates_of first long lat ≡ Err fault
    → IsReportedOfPair line first fault
pair_reported line first fault Malformed lat x y h =
    subst (IsReportedOfPair line first) (err_value _ fault h) (long_reported line first (malformed_found _ _ x))
pair_reported line first fault Blank Malformed x y h =
    subst (IsReportedOfPair line first) (err_value _ fault h) (lat_reported line first (blank_not_malformed _ _ x) (malformed_found _ _ y))
pair_reported line first fault (Value v) Malformed x y h =
    subst (IsReportedOfPair line first) (err_value _ fault h) (lat_reported line first (value_not_malformed _ _ v x) (malformed_found _ _ y))
pair_reported line first fault Blank Blank x y h = absurd (cc)
pair_reported line first fault Blank (Value w) x y h =
    subst (IsReportedOfPair line first) (err_value _ fault h) (both_reported line first (blank_not_malformed _ _ x) (value_not_malformed _ _ w y))
pair_reported line first fault (Value v) Blank x y h =
    subst (IsReportedOfPair line first) (err_value _ fault h) (both_reported line first (value_not_malformed _ _ v x) (blank_not_malformed _ _ y))
pair_reported line first fault (Value v) (Value w) x y h = absurd (cc)

pub point_or_none_reported : (line : List ℕ) (first : ℕ) (fault : FieldFault) → point_or_none_at first line ≡ Err fault
    → IsReportedOfPair line first fault
unfolding point_or_none_at
point_or_none_reported line first fault h = pair_reported line first fault _ _ refl refl h

-- a pair that spells a point or none has no malformed half
halves_well_formed : (long lat : List ℕ) (point : Option Coordinates) → SpellsPointOrNone long lat point
    → (¬ IsMalformed most_longitude long) × (¬ IsMalformed most_latitude lat)
halves_well_formed long lat None (inl h) = ((λ m. m.not_blank h.0), (λ m. m.not_blank h.1))
halves_well_formed long lat None (inr h) = ((λ m. m.no_value (pos 0) h.0), (λ m. m.no_value (pos 0) h.1))
halves_well_formed long lat (Some point) h = ((λ m. m.no_value point.long h.long_spelled), (λ m. m.no_value point.lat h.lat_spelled))

pub point_reported : (line : List ℕ) (first : ℕ) (fault : FieldFault) → point_at first line ≡ Err fault → IsReportedOfPair line first fault
unfolding point_at
point_reported line first fault h =
    elim (demanded_fails (point_or_none_at first line) (bad_point first) fault h) [
      | inl e ↦ point_or_none_reported line first fault e
      | inr none ↦ (
          let well = halves_well_formed _ _ None (point_or_none_at_found first line None none.0) in
          subst (IsReportedOfPair line first) (sym none.1) (both_reported line first well.0 well.1)
          )
    ]

-- two faults with the same kind and the same column are the same
same_fault : (f g : FieldFault) → f.kind ≡ g.kind → f.column ≡ g.column → f ≡ g
same_fault f g k c = ap (λ (kind : _). record { kind = kind; column = f.column }) k
    ∙ ap (λ (column : ℕ). record { kind = g.kind; column = column }) c

-- a pair has only one reported fault
pub one_reported : (line : List ℕ) (first : ℕ) (f g : FieldFault) → IsReportedOfPair line first f → IsReportedOfPair line first g → f ≡ g
one_reported line first f g t u = same_fault f g (t.kind ∙ sym u.kind) (go (malformed_or_not _ _) (malformed_or_not _ _))
  where
    go : HasMalformedLongitude line first ⊎ (¬ HasMalformedLongitude line first)
        → HasMalformedLatitude line first ⊎ (¬ HasMalformedLatitude line first) → f.column ≡ g.column
    go (inl l) _ = t.longitude l ∙ sym (u.longitude l)
    go (inr not_long) (inl m) = t.latitude not_long m ∙ sym (u.latitude not_long m)
    go (inr not_long) (inr not_lat) = t.pair not_long not_lat ∙ sym (u.pair not_long not_lat)
