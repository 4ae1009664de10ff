-- The fields of a line are read as what they spell, the values that are read are in range, and the canonical texts spell their
-- values.
use Rattle.std.proofs.Common.{Bool, Err, IfSome, List, None, Ok, Option, Result, Some, ap, arith, cond, drop, false, inl, inr, length, lit<, nat_eq, negsuc, pos, refl, rules, subst, suc, sym, true, unsigned_abs, unwrap_or, zero, ℕ, ℤ, ◌+◌, ◌-◌, ◌<◌, ◌^◌, ◌∙◌, ◌≡◌, ◌≤◌}
use Rattle.std.proofs.lemmas.Bool.{eqb-false, eqb-true, ne_eqb}
use Rattle.std.proofs.Math.Nat.{one-le-pow}
use Rattle.std.proofs.lemmas.List.{length-drop, length-take-le}
use Rattle.tl_layout.specs.Coordinates.{Coordinates, IsOnMap, most_latitude, most_longitude}
use Rattle.tl_layout.specs.FieldTexts.{coordinate_text, lat_text, long_text, number_text}
use Rattle.tl_layout.specs.Laws.CoordinateLaws.{blank_found, blank_only, coordinate_found, coordinate_only, coordinate_text_is_text, coordinate_text_spells, coordinate_within}
use Rattle.tl_layout.specs.FieldReading.{and_then, coordinates_of, demanded, number_at, number_or_none_at, point_at, point_or_none, point_or_none_at, possible_number}
use Rattle.tl_layout.specs.FieldMeaning.{SpellsNumber, SpellsNumberOrNone, SpellsPoint, SpellsPointOrNone}
use Rattle.tl_layout.specs.declared.coordinate.Coordinate.TheVariants.{Blank, Malformed, Value}
use Rattle.tl_layout.specs.Bytes.{IsText, columns}
use Rattle.tl_layout.specs.CoordinateField.{IsCoordinateField}
use Rattle.tl_layout.specs.CoordinateReading.{coordinate_of}
use Rattle.tl_layout.specs.FieldFaults.{bad_number, bad_point}
use Rattle.tl_layout.specs.Laws.ByteLaws.{blanks_are_text}
use Rattle.tl_layout.specs.Laws.NumberLaws.{number_found, number_only}
use Rattle.tl_layout.specs.Laws.NumberTextLaws.{number_below, number_text_spells}
use Rattle.tl_layout.specs.NumberField.{is_blank}
use Rattle.tl_layout.specs.NumberReading.{number_of}
use Rattle.tl_layout.specs.Numbers.{IsNumber, IsNumberOrNone}
use Rattle.tl_layout.specs.declared.coordinate.Coordinate.{Coordinate}
use Rattle.tl_layout.specs.declared.fault.FieldFault.{FieldFault}
use Rattle.std.specs.List.{list_all}

-- the value that was read first, before reading continued
pub record Reads {A B : Type 0} (first : Result A FieldFault) (more : A → Result B FieldFault) (answer : B) : Type 0 where
  pub value : A
  pub was : first ≡ Ok value
  pub gave : more value ≡ Ok answer

pub reads : {A B : Type 0} (first : Result A FieldFault) (more : A → Result B FieldFault) (answer : B) → and_then first more ≡ Ok answer
    → Reads first more answer
unfolding and_then
reads (Ok x) more answer h = record { value = x; was = refl; gave = h }
reads (Err e) more answer h = (cc)

-- reading continues with the value that was read
pub reads_on : {A B : Type 0} (first : Result A FieldFault) (more : A → Result B FieldFault) (value : A) (answer : Result B FieldFault)
    → first ≡ Ok value → more value ≡ answer → and_then first more ≡ answer
unfolding and_then
reads_on first more value answer was gave = rw was gave

-- a value that is required was read
demanded_found : {A : Type 0} (first : Result (Option A) FieldFault) (fault : FieldFault) (x : A) → and_then first (demanded fault) ≡ Ok x
    → first ≡ Ok (Some x)
unfolding and_then
demanded_found (Ok None) fault x h = (cc)
demanded_found (Ok (Some y)) fault x h = let same : y ≡ x = (cc) in ap (λ z. Ok (Some z)) same
demanded_found (Err f) fault x h = (cc)

possible_found : (column : ℕ) (n : Option ℕ) (field : List ℕ) (read : Option ℕ) → number_of field ≡ read
    → possible_number column read ≡ Ok n → SpellsNumberOrNone field n
possible_found column n field None r h = (cc)
possible_found column n field (Some zero) r h =
    let same : None ≡ n = (cc) in
    let P : Option ℕ → Type 0 = SpellsNumberOrNone field in
    subst P same (number_found field zero r)
possible_found column n field (Some (suc m)) r h =
    let same : Some (suc m) ≡ n = (cc) in
    let P : Option ℕ → Type 0 = SpellsNumberOrNone field in
    subst P same (number_found field (suc m) r, omega arith)

pub number_or_none_at_found : (first last : ℕ) (line : List ℕ) (n : Option ℕ) → number_or_none_at first last line ≡ Ok n
    → SpellsNumberOrNone (columns first last line) n
unfolding number_or_none_at
number_or_none_at_found first last line n h = possible_found first n (columns first last line) (number_of (columns first last line)) refl h

possible_only : (column n : ℕ) → 0 < n → possible_number column (Some n) ≡ Ok (Some n)
possible_only column zero h = absurd (omega arith)
possible_only column (suc n) h = refl

pub number_or_none_at_only : (first last : ℕ) (line : List ℕ) (n : Option ℕ) → SpellsNumberOrNone (columns first last line) n
    → number_or_none_at first last line ≡ Ok n
unfolding number_or_none_at
number_or_none_at_only first last line None h = ap (possible_number first) (number_only (columns first last line) 0 h)
number_or_none_at_only first last line (Some n) h = ap (possible_number first) (number_only (columns first last line) n h.0)
    ∙ possible_only first n h.1

pub number_at_found : (first last : ℕ) (line : List ℕ) (n : ℕ) → number_at first last line ≡ Ok n → SpellsNumber (columns first last line) n
unfolding number_at
number_at_found first last line n h =
    number_or_none_at_found first last line (Some n) (demanded_found (number_or_none_at first last line) (bad_number first) n h)

pub number_at_only : (first last : ℕ) (line : List ℕ) (n : ℕ) → SpellsNumber (columns first last line) n → number_at first last line ≡ Ok n
unfolding number_at
number_at_only first last line n h = reads_on _ _ (Some n) _ (number_or_none_at_only first last line (Some n) h) refl

-- a number spelled in that many columns has at most that many digits
pub number_fits : (width n : ℕ) (field : List ℕ) → length field ≡ width → SpellsNumber field n → IsNumber width n
number_fits width n field l h = (h.1, let P : ℕ → Type 0 = λ w. n < 10 ^ w in subst P l (number_below field n h.0))

pub number_or_none_fits : (width : ℕ) (n : Option ℕ) (field : List ℕ) → length field ≡ width → SpellsNumberOrNone field n
    → IsNumberOrNone width n
number_or_none_fits width None field l h = tt
number_or_none_fits width (Some n) field l h = number_fits width n field l h

-- a field that holds the canonical text of a number spells it
pub number_again : (width n : ℕ) (field : List ℕ) → field ≡ number_text width n → IsNumber width n → SpellsNumber field n
number_again width n field e h = let P : List ℕ → Type 0 = λ f. SpellsNumber f n in subst P (sym e) (number_text_spells width n h.1, h.0)

pub number_or_none_again : (width : ℕ) (n : Option ℕ) (field : List ℕ) → field ≡ number_text width (unwrap_or n 0) → IsNumberOrNone width n
    → SpellsNumberOrNone field n
number_or_none_again width None field e h =
    let P : List ℕ → Type 0 = λ f. SpellsNumberOrNone f None in
    subst P (sym e) (number_text_spells width 0 (one-le-pow width 10 (lit< tt)))
number_or_none_again width (Some n) field e h = number_again width n field e h

-- if both magnitudes are 0, both values are
both_zero : (value : ℤ) → unsigned_abs value ≡ 0 → value ≡ pos 0
both_zero (pos n) h = ap pos h
both_zero (negsuc n) h = (cc)

point_found : (long_field lat_field : List ℕ) (long lat : ℤ) (point : Option Coordinates) (b : Bool)
    → nat_eq (unsigned_abs long + unsigned_abs lat) 0 ≡ b → IsCoordinateField most_longitude long_field long
    → IsCoordinateField most_latitude lat_field lat → cond b None (Some (record { long = long; lat = lat })) ≡ point
    → SpellsPointOrNone long_field lat_field point
point_found long_field lat_field long lat point true e x y h =
    let none : unsigned_abs long + unsigned_abs lat ≡ 0 = eqb-true _ 0 e in
    let P : Option Coordinates → Type 0 = SpellsPointOrNone long_field lat_field in
    let L : ℤ → Type 0 = IsCoordinateField most_longitude long_field in
    let M : ℤ → Type 0 = IsCoordinateField most_latitude lat_field in
    subst P h (inr (subst L (both_zero long (omega arith)) x, subst M (both_zero lat (omega arith)) y))
point_found long_field lat_field long lat point false e x y h =
    let some : unsigned_abs long + unsigned_abs lat ≡ 0 → ⊥ = eqb-false _ 0 e in
    let P : Option Coordinates → Type 0 = SpellsPointOrNone long_field lat_field in
    subst P h (record { long_spelled = x; lat_spelled = y; somewhere = omega arith })

-- two equal `Ok` results have the same value
pub ok_value : {A : Type 0} (x y : A) → ◌≡◌ {A = Result A FieldFault} (Ok x) (Ok y) → x ≡ y
ok_value x y h = (cc)

pair_found : (column : ℕ) (long_field lat_field : List ℕ) (point : Option Coordinates) (long lat : Coordinate)
    → coordinate_of most_longitude long_field ≡ long → coordinate_of most_latitude lat_field ≡ lat → coordinates_of column long lat ≡ Ok point
    → SpellsPointOrNone long_field lat_field point
unfolding point_or_none
pair_found column long_field lat_field point Malformed lat x y h = (cc)
pair_found column long_field lat_field point Blank Malformed x y h = (cc)
pair_found column long_field lat_field point (Value long) Malformed x y h = (cc)
pair_found column long_field lat_field point Blank Blank x y h =
    let P : Option Coordinates → Type 0 = SpellsPointOrNone long_field lat_field in
    subst P (ok_value None point h) (inl (blank_found most_longitude long_field x, blank_found most_latitude lat_field y))
pair_found column long_field lat_field point Blank (Value lat) x y h = (cc)
pair_found column long_field lat_field point (Value long) Blank x y h = (cc)
pair_found column long_field lat_field point (Value long) (Value lat) x y h =
    point_found long_field lat_field long lat point (nat_eq (unsigned_abs long + unsigned_abs lat) 0) refl
    (coordinate_found most_longitude long_field long x) (coordinate_found most_latitude lat_field lat y) (ok_value _ point h)

pub point_or_none_at_found : (column : ℕ) (line : List ℕ) (point : Option Coordinates) → point_or_none_at column line ≡ Ok point
    → SpellsPointOrNone (columns column (column + 9) line) (columns (column + 10) (column + 18) line) point
unfolding point_or_none_at
point_or_none_at_found column line point h = pair_found column _ _ point _ _ refl refl h

point_only : (long lat : ℤ) → 0 < unsigned_abs long + unsigned_abs lat → point_or_none long lat ≡ Some (record { long = long; lat = lat })
unfolding point_or_none
point_only long lat h = rw (ne_eqb (unsigned_abs long + unsigned_abs lat) 0 (λ e. omega arith)) refl

pair_only : (column : ℕ) (long_field lat_field : List ℕ) (point : Option Coordinates) → SpellsPointOrNone long_field lat_field point
    → coordinates_of column (coordinate_of most_longitude long_field) (coordinate_of most_latitude lat_field) ≡ Ok point
unfolding point_or_none
pair_only column long_field lat_field None (inl h) = rw (blank_only most_longitude long_field h.0, blank_only most_latitude lat_field h.1) refl
pair_only column long_field lat_field None (inr h) =
    rw (coordinate_only most_longitude long_field (pos 0) h.0, coordinate_only most_latitude lat_field (pos 0) h.1) refl
pair_only column long_field lat_field (Some point) h =
    rw (
      coordinate_only most_longitude long_field point.long h.long_spelled,
      coordinate_only most_latitude lat_field point.lat h.lat_spelled,
    )
    (ap Ok (point_only point.long point.lat h.somewhere))

pub point_or_none_at_only : (column : ℕ) (line : List ℕ) (point : Option Coordinates)
    → SpellsPointOrNone (columns column (column + 9) line) (columns (column + 10) (column + 18) line) point
    → point_or_none_at column line ≡ Ok point
unfolding point_or_none_at
point_or_none_at_only column line point h = pair_only column _ _ point h

pub point_at_found : (column : ℕ) (line : List ℕ) (point : Coordinates) → point_at column line ≡ Ok point
    → SpellsPoint (columns column (column + 9) line) (columns (column + 10) (column + 18) line) point
unfolding point_at
point_at_found column line point h =
    point_or_none_at_found column line (Some point) (demanded_found (point_or_none_at column line) (bad_point column) point h)

pub point_at_only : (column : ℕ) (line : List ℕ) (point : Coordinates)
    → SpellsPoint (columns column (column + 9) line) (columns (column + 10) (column + 18) line) point → point_at column line ≡ Ok point
unfolding point_at
point_at_only column line point h = reads_on _ _ (Some point) _ (point_or_none_at_only column line (Some point) h) refl

-- a spelled point is on the map
pub point_on_map : (long lat : List ℕ) (point : Coordinates) → SpellsPoint long lat point → IsOnMap point
point_on_map long lat point h = search (rules, coordinate_within)

-- fields that hold the canonical texts of a point spell it
pub point_again : (point : Coordinates) (long lat : List ℕ) → long ≡ coordinate_text 9 point.long → lat ≡ coordinate_text 8 point.lat
    → IsOnMap point → SpellsPoint long lat point
point_again point long lat e e' h =
    let P : List ℕ → Type 0 = λ f. IsCoordinateField most_longitude f point.long in
    let Q : List ℕ → Type 0 = λ f. IsCoordinateField most_latitude f point.lat in
    record {
      long_spelled = subst P (sym e) (coordinate_text_spells 9 most_longitude point.long (lit< tt) (lit< tt) h.long);
      lat_spelled = subst Q (sym e') (coordinate_text_spells 8 most_latitude point.lat (lit< tt) (lit< tt) h.lat);
      somewhere = h.somewhere;
    }

pub columns_len : (first last : ℕ) (line : List ℕ) → 1 ≤ first → first ≤ last → last ≤ length line
    → length (columns first last line) ≡ last + 1 - first
columns_len first last line f o l =
    let dropped = length-drop (first - 1) line in
    length-take-le (last - (first - 1)) (drop (first - 1) line) (omega arith) ∙ omega arith

-- a number that was read has at most as many digits as the field has columns
pub number_read_in_range : (first last : ℕ) (line : List ℕ) (n : ℕ) → number_of (columns first last line) ≡ Some n → 1 ≤ first
    → first ≤ last → last ≤ length line → 0 < n → IsNumber (last + 1 - first) n
number_read_in_range first last line n h f o l p =
    number_fits (last + 1 - first) n (columns first last line) (columns_len first last line f o l)
    (number_found (columns first last line) n h, p)

-- if a pair that may be none spells a point, the point is on the map
pub point_or_none_on_map : (long lat : List ℕ) (point : Option Coordinates) → SpellsPointOrNone long lat point → IfSome point IsOnMap
point_or_none_on_map long lat None h = tt
point_or_none_on_map long lat (Some point) h = point_on_map long lat point h

-- the canonical texts of a point or none fit their columns
pub long_text_is_text : (point : Option Coordinates) → IsText 10 (long_text point)
long_text_is_text None = blanks_are_text 10
long_text_is_text (Some point) = coordinate_text_is_text 9 point.long

pub lat_text_is_text : (point : Option Coordinates) → IsText 9 (lat_text point)
lat_text_is_text None = blanks_are_text 9
lat_text_is_text (Some point) = coordinate_text_is_text 8 point.lat

-- fields that hold those texts spell the point, or none
pub point_or_none_again : (point : Option Coordinates) (long lat : List ℕ) → long ≡ long_text point → lat ≡ lat_text point
    → IfSome point IsOnMap → SpellsPointOrNone long lat point
point_or_none_again None long lat e e' h = inl (ap (list_all is_blank) e, ap (list_all is_blank) e')
point_or_none_again (Some point) long lat e e' h = point_again point long lat e e' h
