-- By a column table: a line whose columns hold canonical texts is read as the record of their values, and is that record's
-- canonical spelling, except for the version.
use Rattle.canonical_lines.proofs.Common.{Coordinates, FieldsOf, IsLine, IsNumber, IsNumberOrNone, IsNumberOrNoneText, IsNumberText, IsOnMap, IsPlacesText, IsPointOrNoneText, IsPointText, IsSpeltLine, IsText, List, None, Option, RecordType, Some, [], ap, arith, byte_of, codes, columns, columns_of_text, drop, drop-drop, drop_all, eqb-true, is_blank, joined, joined-before, length, line_length, list_all, make_of, number_text, point_place_text, refl, replicate, rows_spelling, rows_texts, subst, suc, sym, table_of, take, take-append-drop, true, unwrap_or, value_texts, with_version, zero, ℕ, ◌++◌, ◌+◌, ◌-◌, ◌∙◌, ◌∷◌, ◌≡◌, ◌≤◌}
use Rattle.canonical_lines.proofs.NumberTexts.{only_blanks}
use Rattle.tl_layout.specs.ColumnTable.{Filler, FitsRows, FitsValue, Kind, Number, NumberOrNone, NumberPlaces, Opaque, Pair, PairOrNone, PointPlaces, Row, SpellsRows, SpellsValue, ValueOf, is_laid_out, width_of}
use Rattle.tl_layout.specs.FieldMeaning.{SpellsNumber, SpellsNumberOrNone, SpellsNumberPlace, SpellsPlaces, SpellsPoint, SpellsPointOrNone, SpellsPointPlace}
use Rattle.tl_layout.specs.Laws.TableLaws.{Values, first_row, joined-append, laid_out_within, made, ordered, table_reads_spelled, table_reads_spelling, table_spelled_is_read, table_spelling_is_line, values_of}
use Rattle.tl_layout.specs.FieldTexts.{number_place_text}
use Rattle.tl_layout.specs.Laws.TypeLaws.{is_table}
use Rattle.tl_layout.specs.RecordTypes.{fields_spelling, reading_of}

-- ---- what is known of a line

-- what a test finds of a field's columns; text is kept as it is and needs no test
abbrev pub IsTested : Kind → List ℕ → Type 0
IsTested Number = IsNumberText
IsTested NumberOrNone = IsNumberOrNoneText
IsTested Pair = IsPointText
IsTested PairOrNone = IsPointOrNoneText
IsTested NumberPlaces = IsPlacesText (IsNumber 8) number_place_text 5
IsTested PointPlaces = IsPlacesText IsOnMap point_place_text 10
IsTested Opaque = λ columns. Unit {0}
IsTested Filler = λ columns. list_all is_blank columns ≡ true

-- what a test finds of a field's columns, and something else
abbrev And : Kind → List ℕ → Type 0 → Type 0
And Opaque columns others = others
And kind columns others = IsTested kind columns × others

-- each field but texts was tested
abbrev pub AreTested : {R : Type 0} → List ℕ → List (Row R) → Type 0
AreTested line [] = Unit {0}
AreTested line (row ∷ rows) = And row.kind (columns row.first row.last line) (AreTested line rows)

-- the columns hold the canonical text of a value that fits them
record HasCanonical (line : List ℕ) (first last : ℕ) (kind : Kind) : Type 0 where
  pub value : ValueOf kind
  pub fits : FitsValue (last + 1 - first) kind value
  pub text : columns first last line ≡ joined [] (value_texts (last + 1 - first) kind value)

-- each field has its canonical text
abbrev AreCanonical : {R : Type 0} → List ℕ → List (Row R) → Type 0
AreCanonical line [] = Unit {0}
AreCanonical line (row ∷ rows) = HasCanonical line row.first row.last row.kind × AreCanonical line rows

-- ---- the values

-- the first field and the others
split : (kind : Kind) (columns : List ℕ) (others : Type 0) → And kind columns others → IsTested kind columns × others
split Opaque columns others h = (tt, h)
split kind columns others h = h

-- a tested field has its canonical text, and so has a text
canonical : (line : List ℕ) (first last : ℕ) (kind : Kind) → IsText (last + 1 - first) (columns first last line)
    → IsTested kind (columns first last line) → HasCanonical line first last kind
canonical line first last Number is t =
    let P : ℕ → Type 0 = λ w. IsNumber w t.number in
    record { value = t.number; fits = subst P is.len t.fits; text = t.text ∙ ap (λ (w : ℕ). number_text w t.number) is.len }
canonical line first last NumberOrNone is t =
    let P : ℕ → Type 0 = λ w. IsNumberOrNone w t.number in
    record {
      value = t.number;
      fits = subst P is.len t.fits;
      text = t.text ∙ ap (λ (w : ℕ). number_text w (unwrap_or t.number 0)) is.len;
    }
canonical line first last Pair is t = record { value = t.point; fits = t.on_map; text = t.text }
canonical line first last PairOrNone is t = record { value = t.point; fits = t.on_map; text = t.text }
canonical line first last NumberPlaces is t = record { value = t.items; fits = (t.few, t.fit); text = t.is }
canonical line first last PointPlaces is t = record { value = t.items; fits = (t.few, t.fit); text = t.is }
canonical line first last Opaque is t = record { value = columns first last line; fits = is; text = refl }
canonical line first last Filler is t = record {
  value = tt;
  fits = tt;
  text = only_blanks (columns first last line) t ∙ ap (λ (n : ℕ). replicate n 32) is.len;
}

-- if each field was tested, each has its canonical text
all_canonical : {R : Type 0} (len : ℕ) (line : List ℕ) → IsText len line → (rows : List (Row R)) (next : ℕ) → 1 ≤ next
    → is_laid_out next rows len ≡ true → AreTested line rows → AreCanonical line rows
all_canonical len line t [] next from h a = tt
all_canonical len line t (row ∷ rows) next from h a =
    let f = first_row next row rows len h in
    let e = f.first in
    let o = ordered row.first row.last row.kind f.suited in
    let l = laid_out_within rows (row.last + 1) len f.later in
    let text = columns_of_text len line t row.first row.last (width_of row) (omega arith) (omega arith) (omega arith) in
    let tested = split row.kind (columns row.first row.last line) (AreTested line rows) a in
    (canonical line row.first row.last row.kind text tested.0, all_canonical len line t rows (row.last + 1) (omega arith) f.later tested.1)

-- the values of the fields
abbrev values : {R : Type 0} (line : List ℕ) (rows : List (Row R)) → AreCanonical line rows → Values rows
values line [] h = tt
values line (row ∷ rows) h = (h.0.value, values line rows h.1)

-- the columns of each row hold the canonical text of the record's value in it, which fits
abbrev HoldsRows : {R : Type 0} → List ℕ → List (Row R) → R → Type 0
HoldsRows line [] r = Unit {0}
HoldsRows line (row ∷ rows) r =
    FitsValue (width_of row) row.kind (row.value r)
    × (columns row.first row.last line ≡ joined [] (value_texts (width_of row) row.kind (row.value r)))
    × HoldsRows line rows r

-- the fields of a record with these values have its canonical texts
holds : {R : Type 0} (line : List ℕ) (rows : List (Row R)) (h : AreCanonical line rows) (r : R) → values_of rows r ≡ values line rows h
    → HoldsRows line rows r
holds line [] h r e = tt
holds line (row ∷ rows) h r e =
    let same : row.value r ≡ h.0.value = ap (λ (p : Values (row ∷ rows)). p.0) e in
    let P : ValueOf row.kind → Type 0 = λ v. FitsValue (width_of row) row.kind v in
    let Q : ValueOf row.kind → Type 0 = λ v. columns row.first row.last line ≡ joined [] (value_texts (width_of row) row.kind v) in (
      subst P (sym same) h.0.fits,
      subst Q (sym same) h.0.text,
      holds line rows h.1 r (ap (λ (p : Values (row ∷ rows)). p.1) e),
    )

-- such a record fits its columns
fit : {R : Type 0} (line : List ℕ) (rows : List (Row R)) (r : R) → HoldsRows line rows r → FitsRows rows r
fit line [] r h = tt
fit line (row ∷ rows) r h = (h.0, fit line rows r h.2)

-- ---- the spelling

-- the columns from one on are some columns, and the columns after them
cut : (line : List ℕ) (first last : ℕ) → 1 ≤ first → first ≤ last → drop (first - 1) line ≡ columns first last line ++ drop last line
cut line first last from o =
    let span : (first - 1) + (last - (first - 1)) ≡ last = omega arith in
    sym (take-append-drop (last - (first - 1)) (drop (first - 1) line))
    ∙ ap (λ (l : List ℕ). columns first last line ++ l) (drop-drop (last - (first - 1)) (first - 1) line ∙ ap (λ (n : ℕ). drop n line) span)

-- the texts of the rows are the rest of the line
texts : {R : Type 0} (len : ℕ) (line : List ℕ) → length line ≡ len → (rows : List (Row R)) (next : ℕ) → 1 ≤ next
    → is_laid_out next rows len ≡ true → (r : R) → HoldsRows line rows r → joined [] (rows_texts rows r) ≡ drop (next - 1) line
texts len line l [] next from h r s = let e = eqb-true next (len + 1) h in sym (drop_all (next - 1) line (omega arith))
texts len line l (row ∷ rows) next from h r s =
    let f = first_row next row rows len h in
    let e = f.first in
    let o = ordered row.first row.last row.kind f.suited in
    let start : row.first - 1 ≡ next - 1 = omega arith in
    let back : row.last + 1 - 1 ≡ row.last = omega arith in
    let later = texts len line l rows (row.last + 1) (omega arith) f.later r s.2 ∙ ap (λ (n : ℕ). drop n line) back in
    joined-append (value_texts (width_of row) row.kind (row.value r)) (rows_texts rows r)
    ∙ ap (λ (t : List ℕ). t ++ joined [] (rows_texts rows r)) (sym s.1)
    ∙ ap (λ (t : List ℕ). columns row.first row.last line ++ t) later
    ∙ sym (cut line row.first row.last (omega arith) o)
    ∙ ap (λ (n : ℕ). drop n line) start

-- ---- the version isn't read

-- the two lines have the same columns from column 6 on
abbrev AreAlike : List ℕ → List ℕ → Type 0
AreAlike line other = (first last : ℕ) → 6 ≤ first → columns first last line ≡ columns first last other

-- a place for a point has the same content in both lines
point_place : (line other : List ℕ) → AreAlike line other → (column : ℕ) → 6 ≤ column → (place : Option Coordinates)
    → SpellsPointPlace line column place → SpellsPointPlace other column place
point_place line other a column from place s =
    let P : List ℕ → Type 0 = λ f. SpellsPointOrNone f (columns (column + 10) (column + 18) line) place in
    let Q : List ℕ → Type 0 = λ f. SpellsPointOrNone (columns column (column + 9) other) f place in
    subst Q (a (column + 10) (column + 18) (omega arith)) (subst P (a column (column + 9) from) s)

-- a place for a number has the same content in both lines
number_place : (line other : List ℕ) → AreAlike line other → (column : ℕ) → 6 ≤ column → (place : Option ℕ)
    → SpellsNumberPlace line column place → SpellsNumberPlace other column place
number_place line other a column from place s =
    let P : List ℕ → Type 0 = λ f. SpellsNumberOrNone f place in
    subst P (a column (column + 7) from) s

-- places have the same contents in both lines
places : {A : Type 0} (Spells Other : ℕ → Option A → Type 0)
    → ((column : ℕ) → 6 ≤ column → (place : Option A) → Spells column place → Other column place)
    → (width count column : ℕ) → 6 ≤ column → (xs : List A) → SpellsPlaces Spells width count column xs
    → SpellsPlaces Other width count column xs
places Spells Other same width zero column from [] s = tt
places Spells Other same width zero column from (x ∷ xs) s = s
places Spells Other same width (suc count) column from [] s =
    (same column from None s.0, places Spells Other same width count (column + width) (omega arith) [] s.1)
places Spells Other same width (suc count) column from (x ∷ xs) s =
    (same column from (Some x) s.0, places Spells Other same width count (column + width) (omega arith) xs s.1)

-- a field spells the same value in both lines
value_alike : (line other : List ℕ) → AreAlike line other → (first last : ℕ) (kind : Kind) → 6 ≤ first → (value : ValueOf kind)
    → SpellsValue line first last kind value → SpellsValue other first last kind value
value_alike line other a first last Number from n s =
    let P : List ℕ → Type 0 = λ f. SpellsNumber f n in subst P (a first last from) s
value_alike line other a first last NumberOrNone from n s =
    let P : List ℕ → Type 0 = λ f. SpellsNumberOrNone f n in subst P (a first last from) s
value_alike line other a first last Pair from point s =
    let P : List ℕ → Type 0 = λ f. SpellsPoint f (columns (first + 10) (first + 18) line) point in
    let Q : List ℕ → Type 0 = λ f. SpellsPoint (columns first (first + 9) other) f point in
    subst Q (a (first + 10) (first + 18) (omega arith)) (subst P (a first (first + 9) from) s)
value_alike line other a first last PairOrNone from point s = point_place line other a first from point s
value_alike line other a first last NumberPlaces from numbers s =
    places (SpellsNumberPlace line) (SpellsNumberPlace other) (number_place line other a) 8 5 first from numbers s
value_alike line other a first last PointPlaces from points s =
    places (SpellsPointPlace line) (SpellsPointPlace other) (point_place line other a) 19 10 first from points s
value_alike line other a first last Opaque from text s = sym (a first last from) ∙ s
value_alike line other a first last Filler from value s = tt

-- the fields spell the same record in both lines
rows_alike : {R : Type 0} (line other : List ℕ) → AreAlike line other → (rows : List (Row R)) (next len : ℕ) → 6 ≤ next
    → is_laid_out next rows len ≡ true → (r : R) → SpellsRows rows line r → SpellsRows rows other r
rows_alike line other a [] next len from h r s = tt
rows_alike line other a (row ∷ rows) next len from h r s =
    let f = first_row next row rows len h in
    let e = f.first in
    let o = ordered row.first row.last row.kind f.suited in (
      value_alike line other a row.first row.last row.kind (omega arith) (row.value r) s.0,
      rows_alike line other a rows (row.last + 1) len (omega arith) f.later r s.1,
    )

-- equal bytes from column 6 on are equal columns
alike : (line other : List ℕ) → drop 5 line ≡ drop 5 other → AreAlike line other
alike line other e first last from =
    let start : 5 + (first - 6) ≡ first - 1 = omega arith in
    let again : (text : List ℕ) → drop (first - 6) (drop 5 text) ≡ drop (first - 1) text =
    λ text. drop-drop (first - 6) 5 text ∙ ap (λ (n : ℕ). drop n text) start in
    ap (take (last - (first - 1))) (sym (again line) ∙ ap (drop (first - 6)) e ∙ again other)

-- ---- the law

-- a line with the version 2006 begins with its type and that version
begins_with : (rtype : ℕ) (line : List ℕ) → columns 1 1 line ≡ rtype ∷ [] → with_version line ≡ (rtype ∷ codes "2006") ++ drop 5 line
begins_with rtype line b = ap (λ (l : List ℕ). l ++ (codes "2006" ++ drop 5 line)) b

-- a full line of a type whose fields all passed their tests is the canonical spelling of a record, except for the version
pub tested_is_spelt : (t : RecordType) (line : List ℕ) → IsLine (byte_of t) (line_length t) line → AreTested line (table_of t)
    → (r : FieldsOf t) × IsSpeltLine (reading_of t) (fields_spelling t) line r
unfolding reading_of fields_spelling
tested_is_spelt t line l a =
    let rtype = byte_of t in
    let len = line_length t in
    let table = table_of t in
    let make = make_of t in
    let is = is_table t in
    let each = all_canonical len line l.text table 6 (omega arith) is.laid_out a in
    let r = made table make (values line table each) in
    let held = holds line table each r (is.gives (values line table each)) in
    let fits = fit line table r held in
    let spelling = rows_spelling rtype table r in
    let spelt : spelling ≡ (rtype ∷ codes "2006") ++ drop 5 line = joined-before (rtype ∷ codes "2006") (rows_texts table r)
    ∙ ap (λ (t : List ℕ). (rtype ∷ codes "2006") ++ t) (texts len line l.text.len table 6 (omega arith) is.laid_out r held) in
    let spells = (table_reads_spelled rtype len table make is spelling r (table_spelling_is_line rtype len table make is r fits)
    (table_reads_spelling rtype len table make is r fits)).1 in
    let other = rows_alike spelling line (alike spelling line (ap (drop 5) spelt)) table 6 len (omega arith) is.laid_out r spells in (
      r,
      record {
        read = table_spelled_is_read rtype len table make is line r l other;
        spelt = spelt ∙ sym (begins_with rtype line l.begins);
      },
    )
