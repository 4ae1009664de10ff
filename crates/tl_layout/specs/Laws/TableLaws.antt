-- The laws of a record type, derived from its column table.
use Rattle.std.proofs.Common.{IfSome, IsTrue, List, Ok, Option, Some, [], ap, append_assoc, arith, codes, length, nat_eq, refl, subst, suc, sym, true, unwrap_or, ℕ, ◌&&◌, ◌++◌, ◌+◌, ◌-◌, ◌∙◌, ◌∷◌, ◌≡◌, ◌≤◌}
use Rattle.std.proofs.lemmas.Bool.{and_parts, eqb-true, leb-true}
use Rattle.std.proofs.lemmas.List.Elements.{All-append, All-cons, All-nil}
use Rattle.std.proofs.lemmas.List.{length-append}
use Rattle.tl_layout.specs.FieldTexts.{lat_text, long_text, number_place_text, point_place_text, rows_spelling, rows_texts, value_texts}
use Rattle.tl_layout.specs.Laws.FieldLaws.{lat_text_is_text, long_text_is_text, number_again, number_fits, number_or_none_again, number_or_none_fits, ok_value, point_on_map, point_or_none_again, point_or_none_on_map, reads, reads_on}
use Rattle.tl_layout.specs.Laws.PlaceLaws.{columns_behind, number_place_again, number_place_fits, number_place_is_text, pair_of_texts, places_again, places_each, places_len, places_text_is_text, point_place_again, point_place_is_text, two_parts}
use Rattle.tl_layout.specs.ColumnTable.{Filler, FitsRows, FitsValue, Kind, Number, NumberOrNone, NumberPlaces, Opaque, Pair, PairOrNone, PointPlaces, Row, SpellsField, SpellsRows, SpellsValue, ValueOf, is_laid_out, is_suited, width_of}
use Rattle.tl_layout.specs.Bytes.{AreAllowed, IsLine, IsText, columns, is_allowed}
use Rattle.tl_layout.specs.Numbers.{IsNumber}
use Rattle.tl_layout.specs.Columns.{joined}
use Rattle.tl_layout.specs.CoordinateReading.{within}
use Rattle.tl_layout.specs.Coordinates.{Coordinates, IsOnMap}
use Rattle.tl_layout.specs.Laws.ByteLaws.{blanks_are_text, text_2006}
use Rattle.tl_layout.specs.FieldMeaning.{SpellsNumberPlace, SpellsPointPlace}
use Rattle.tl_layout.specs.Laws.ColumnLaws.{columns_of_text, joined-before}
use Rattle.tl_layout.specs.Laws.NumberTextLaws.{number_text_is_text}
use Rattle.tl_layout.specs.TableReading.{Makes, rows_reading, value_reading}
use Rattle.tl_layout.specs.Laws.ValueLaws.{value_found, value_only}

-- ---- the values of a record

-- a value for each row
abbrev pub Values : {R : Type 0} → List (Row R) → Type 0
Values [] = Unit {0}
Values (row ∷ rows) = ValueOf row.kind × Values rows

-- the record's values in the rows
abbrev pub values_of : {R : Type 0} → (rows : List (Row R)) → R → Values rows
values_of [] r = tt
values_of (row ∷ rows) r = (row.value r, values_of rows r)

-- what is made from the values
abbrev pub made : {R A : Type 0} → (rows : List (Row R)) → Makes rows A → Values rows → A
made [] make values = make
made (row ∷ rows) make values = made rows (make values.0) values.1

-- A record type's column table: the rows have no gaps and end with the line, the record made from values has these values, and
-- the record made from a record's values is that record.
pub record IsTable {R : Type 0} (rtype len : ℕ) (table : List (Row R)) (make : Makes table R) : Type 0 where
  pub allowed : is_allowed rtype ≡ true
  pub laid_out : is_laid_out 6 table len ≡ true
  pub gives : (values : Values table) → values_of table (made table make values) ≡ values
  pub remade : (r : R) → made table make (values_of table r) ≡ r

-- ---- reading

abbrev AreSpelled : {R : Type 0} → List ℕ → (rows : List (Row R)) → Values rows → Type 0
AreSpelled line [] values = Unit {0}
AreSpelled line (row ∷ rows) values = SpellsField line row values.0 × AreSpelled line rows values.1

record WasRead {R A : Type 0} (rows : List (Row R)) (make : Makes rows A) (line : List ℕ) (answer : A) : Type 0 where
  values : Values rows
  spelled : AreSpelled line rows values
  gave : made rows make values ≡ answer

rows_found : {R A : Type 0} (rows : List (Row R)) (make : Makes rows A) (line : List ℕ) (answer : A)
    → rows_reading rows make line ≡ Ok answer → WasRead rows make line answer
rows_found [] make line answer h = record { values = tt; spelled = tt; gave = ok_value make answer h }
rows_found (row ∷ rows) make line answer h =
    let first = reads (value_reading line row.first row.last row.kind) _ answer h in
    let later = rows_found rows (make first.value) line answer first.gave in
    record {
      values = (first.value, later.values);
      spelled =
          (value_found line row.first row.last row.kind first.value first.was, later.spelled);
      gave = later.gave;
    }

rows_only : {R A : Type 0} (rows : List (Row R)) (make : Makes rows A) (line : List ℕ) (values : Values rows) → AreSpelled line rows values
    → rows_reading rows make line ≡ Ok (made rows make values)
rows_only [] make line values s = refl
rows_only (row ∷ rows) make line values s =
    reads_on _ _ values.0 _ (value_only line row.first row.last row.kind values.0 s.0) (rows_only rows (make values.0) line values.1 s.1)

spelled_rows : {R : Type 0} (rows : List (Row R)) (line : List ℕ) (r : R) → AreSpelled line rows (values_of rows r) → SpellsRows rows line r
spelled_rows [] line r s = tt
spelled_rows (row ∷ rows) line r s = (s.0, spelled_rows rows line r s.1)

spelled_values : {R : Type 0} (rows : List (Row R)) (line : List ℕ) (r : R) → SpellsRows rows line r
    → AreSpelled line rows (values_of rows r)
spelled_values [] line r s = tt
spelled_values (row ∷ rows) line r s = (s.0, spelled_values rows line r s.1)

-- ---- the columns of rows

-- the first row, and the rows after it
pub record IsFirstRow {R : Type 0} (next : ℕ) (row : Row R) (rows : List (Row R)) (len : ℕ) : Type 0 where
  pub first : row.first ≡ next
  pub suited : is_suited row.first row.last row.kind ≡ true
  pub later : is_laid_out (row.last + 1) rows len ≡ true

-- a table is laid out as its first row and the rows after it are
pub first_row : {R : Type 0} (next : ℕ) (row : Row R) (rows : List (Row R)) (len : ℕ) → is_laid_out next (row ∷ rows) len ≡ true
    → IsFirstRow next row rows len
first_row next row rows len h =
    let parts = and_parts (nat_eq row.first next && is_suited row.first row.last row.kind) (is_laid_out (row.last + 1) rows len) h in
    let front = and_parts (nat_eq row.first next) (is_suited row.first row.last row.kind) parts.0 in
    record { first = eqb-true row.first next front.0; suited = front.1; later = parts.1 }

-- the first column is not after the last one
pub ordered : (first last : ℕ) (kind : Kind) → is_suited first last kind ≡ true → first ≤ last
ordered first last Pair h = let e = eqb-true last (first + 18) h in omega arith
ordered first last PairOrNone h = let e = eqb-true last (first + 18) h in omega arith
ordered first last NumberPlaces h = let e = eqb-true last (first + 39) h in omega arith
ordered first last PointPlaces h = let e = eqb-true last (first + 189) h in omega arith
ordered first last kind h = leb-true first last h

-- the next free column is in the line or directly after it
pub laid_out_within : {R : Type 0} (rows : List (Row R)) (next len : ℕ) → is_laid_out next rows len ≡ true → next ≤ len + 1
laid_out_within [] next len h = let e = eqb-true next (len + 1) h in omega arith
laid_out_within (row ∷ rows) next len h =
    let f = first_row next row rows len h in
    let e = f.first in
    let o = ordered row.first row.last row.kind f.suited in
    let l = laid_out_within rows (row.last + 1) len f.later in
    omega arith

-- ---- values that are read fit

value_fits : (len : ℕ) (line : List ℕ) → IsText len line → (first last : ℕ) (kind : Kind) → 1 ≤ first → last ≤ len
    → is_suited first last kind ≡ true → (value : ValueOf kind) → SpellsValue line first last kind value
    → FitsValue (last + 1 - first) kind value
value_fits len line t first last Number from within suited n s =
    let o = ordered first last Number suited in
    number_fits (last + 1 - first) n _ (columns_of_text len line t first last (last + 1 - first) from within (omega arith)).len s
value_fits len line t first last NumberOrNone from within suited n s =
    let o = ordered first last NumberOrNone suited in
    number_or_none_fits (last + 1 - first) n _ (columns_of_text len line t first last (last + 1 - first) from within (omega arith)).len s
value_fits len line t first last Pair from within suited point s =
    point_on_map (columns first (first + 9) line) (columns (first + 10) (first + 18) line) point s
value_fits len line t first last PairOrNone from within suited point s =
    point_or_none_on_map (columns first (first + 9) line) (columns (first + 10) (first + 18) line) point s
value_fits len line t first last NumberPlaces from within suited numbers s = (
  places_len (SpellsNumberPlace line) 8 5 first numbers s,
  places_each (SpellsNumberPlace line) 8 (IsNumber 8) (number_place_fits line) 5 first numbers s,
)
value_fits len line t first last PointPlaces from within suited points s = (
  places_len (SpellsPointPlace line) 19 10 first points s,
  places_each (SpellsPointPlace line) 19 IsOnMap (λ column point. point_on_map _ _ point) 10 first points s,
)
value_fits len line t first last Opaque from within suited text s =
    let o = ordered first last Opaque suited in
    subst (IsText (last + 1 - first)) s (columns_of_text len line t first last (last + 1 - first) from within (omega arith))
value_fits len line t first last Filler from within suited value s = tt

rows_fit : {R : Type 0} (len : ℕ) (line : List ℕ) → IsText len line → (rows : List (Row R)) (next : ℕ) → 1 ≤ next
    → is_laid_out next rows len ≡ true → (r : R) → SpellsRows rows line r → FitsRows rows r
rows_fit len line t [] next from h r s = tt
rows_fit len line t (row ∷ rows) next from h r s =
    let f = first_row next row rows len h in
    let e = f.first in
    let o = ordered row.first row.last row.kind f.suited in
    let l = laid_out_within rows (row.last + 1) len f.later in (
      value_fits len line t row.first row.last row.kind (omega arith) (omega arith) f.suited (row.value r) s.0,
      rows_fit len line t rows (row.last + 1) (omega arith) f.later r s.1,
    )

-- ---- the canonical texts

-- a longitude and a latitude, or blanks, side by side
pair_text : (point : Option Coordinates) → IsText 19 (long_text point ++ lat_text point)
pair_text point = pair_of_texts 10 9 _ _ (long_text_is_text point) (lat_text_is_text point)

-- a text fills columns that are as many
fills : (first last more : ℕ) (text : List ℕ) → nat_eq last (first + more) ≡ true → IsText (suc more) text → IsText (last + 1 - first) text
fills first last more text suited t =
    let e = eqb-true last (first + more) suited in
    let wide : suc more ≡ last + 1 - first = omega arith in
    subst (λ (w : ℕ). IsText w text) wide t

-- the canonical texts of a value fill its columns
value_text : (first last : ℕ) (kind : Kind) → is_suited first last kind ≡ true → (value : ValueOf kind)
    → FitsValue (last + 1 - first) kind value → IsText (last + 1 - first) (joined [] (value_texts (last + 1 - first) kind value))
value_text first last Number suited n f = number_text_is_text (last + 1 - first) n
value_text first last NumberOrNone suited n f = number_text_is_text (last + 1 - first) (unwrap_or n 0)
value_text first last Pair suited point f = fills first last 18 _ suited (pair_text (Some point))
value_text first last PairOrNone suited point f = fills first last 18 _ suited (pair_text point)
value_text first last NumberPlaces suited numbers f =
    fills first last 39 _ suited (places_text_is_text number_place_text 8 number_place_is_text 5 numbers f.0)
value_text first last PointPlaces suited points f =
    fills first last 189 _ suited (places_text_is_text point_place_text 19 point_place_is_text 10 points f.0)
value_text first last Opaque suited text f = f
value_text first last Filler suited value f = blanks_are_text (last + 1 - first)

-- columns that hold the canonical texts of a point or none spell it
pair_again : (before after : List ℕ) (first : ℕ) → first ≡ length before + 1 → (point : Option Coordinates) → IfSome point IsOnMap
    → SpellsValue (before ++ ((long_text point ++ lat_text point) ++ after)) first 0 PairOrNone point
pair_again before after first at point f =
    let line = before ++ ((long_text point ++ lat_text point) ++ after) in
    let parts = two_parts before (long_text point) (lat_text point) after (long_text_is_text point).len (lat_text_is_text point).len in
    subst (λ (c : ℕ). SpellsValue line c 0 PairOrNone point) (sym at) (point_or_none_again point _ _ parts.0 parts.1 f)

-- columns that hold the canonical texts of a value spell it
value_again : (before after : List ℕ) (first last : ℕ) (kind : Kind) → first ≡ length before + 1 → is_suited first last kind ≡ true
    → (value : ValueOf kind) → FitsValue (last + 1 - first) kind value
    → SpellsValue (before ++ (joined [] (value_texts (last + 1 - first) kind value) ++ after)) first last kind value
value_again before after first last Number at suited n f =
    let o = ordered first last Number suited in
    let l = (number_text_is_text (last + 1 - first) n).len in
    number_again (last + 1 - first) n _ (columns_behind before _ after first last at (omega arith)) f
value_again before after first last NumberOrNone at suited n f =
    let o = ordered first last NumberOrNone suited in
    let l = (number_text_is_text (last + 1 - first) (unwrap_or n 0)).len in
    number_or_none_again (last + 1 - first) n _ (columns_behind before _ after first last at (omega arith)) f
value_again before after first last Pair at suited point f = pair_again before after first at (Some point) f
value_again before after first last PairOrNone at suited point f = pair_again before after first at point f
value_again before after first last NumberPlaces at suited numbers f =
    places_again number_place_text 8 number_place_is_text SpellsNumberPlace (IsNumber 8) number_place_again before after
    5 first numbers _ at refl f.0 f.1
value_again before after first last PointPlaces at suited points f =
    places_again point_place_text 19 point_place_is_text SpellsPointPlace IsOnMap point_place_again before after
    10 first points _ at refl f.0 f.1
value_again before after first last Opaque at suited text f =
    let o = ordered first last Opaque suited in
    let l = f.len in
    columns_behind before text after first last at (omega arith)
value_again before after first last Filler at suited value f = tt

-- the texts of two lists, one list after the other
pub joined-append : (a b : List (List ℕ)) → joined [] (a ++ b) ≡ joined [] a ++ joined [] b
joined-append [] b = refl
joined-append (text ∷ a) b =
    joined-before text (a ++ b)
    ∙ (ap (λ (l : List ℕ). text ++ l) (joined-append a b)
    ∙ (sym (append_assoc text (joined [] a) (joined [] b)) ∙ ap (λ (l : List ℕ). l ++ joined [] b) (sym (joined-before text a))))

-- the texts of rows fill the columns to the end of the line
rows_text : {R : Type 0} (rows : List (Row R)) (next len : ℕ) → is_laid_out next rows len ≡ true → (r : R) → FitsRows rows r
    → (length (joined [] (rows_texts rows r)) + next ≡ len + 1) × AreAllowed (joined [] (rows_texts rows r))
unfolding AreAllowed
rows_text [] next len h r f = (let e = eqb-true next (len + 1) h in omega arith, All-nil (λ b. IsTrue (is_allowed b)))
rows_text (row ∷ rows) next len h r f =
    let l = first_row next row rows len h in
    let e = l.first in
    let o = ordered row.first row.last row.kind l.suited in
    let texts = value_texts (width_of row) row.kind (row.value r) in
    let text = value_text row.first row.last row.kind l.suited (row.value r) f.0 in
    let later = rows_text rows (row.last + 1) len l.later r f.1 in
    let split = joined-append texts (rows_texts rows r) in
    let long = text.len in
    let sum = ap length split ∙ length-append (joined [] texts) (joined [] (rows_texts rows r)) in
    let rest = later.0 in (
      omega arith,
      subst (λ (bytes : List ℕ). AreAllowed bytes) (sym split)
          (All-append (λ b. IsTrue (is_allowed b)) (joined [] texts) (joined [] (rows_texts rows r)) text.allowed later.1),
    )

-- a line that ends with the texts of rows spells them
rows_again : {R : Type 0} (rows : List (Row R)) (len : ℕ) (before line : List ℕ) → is_laid_out (length before + 1) rows len ≡ true → (r : R)
    → line ≡ before ++ joined [] (rows_texts rows r) → FitsRows rows r → SpellsRows rows line r
rows_again [] len before line h r e f = tt
rows_again (row ∷ rows) len before line h r e f =
    let l = first_row (length before + 1) row rows len h in
    let at = l.first in
    let o = ordered row.first row.last row.kind l.suited in
    let texts = value_texts (width_of row) row.kind (row.value r) in
    let text = value_text row.first row.last row.kind l.suited (row.value r) f.0 in
    let whole = e ∙ ap (λ (bytes : List ℕ). before ++ bytes) (joined-append texts (rows_texts rows r)) in
    let long = text.len in
    let sum = length-append before (joined [] texts) in
    let next : row.last + 1 ≡ length (before ++ joined [] texts) + 1 = omega arith in (
      subst (λ (bytes : List ℕ). SpellsField bytes row (row.value r)) (sym whole)
          (value_again before (joined [] (rows_texts rows r)) row.first row.last row.kind at l.suited (row.value r) f.0),
      rows_again rows len (before ++ joined [] texts) line (subst (λ (n : ℕ). is_laid_out n rows len ≡ true) next l.later) r (whole
          ∙ sym (append_assoc before (joined [] texts) (joined [] (rows_texts rows r)))) f.1,
    )

-- ---- the laws

spelling_is : {R : Type 0} (rtype : ℕ) (table : List (Row R)) (r : R)
    → rows_spelling rtype table r ≡ (rtype ∷ codes "2006") ++ joined [] (rows_texts table r)
spelling_is rtype table r = joined-before (rtype ∷ codes "2006") (rows_texts table r)

module _ {R : Type 0} (rtype len : ℕ) (table : List (Row R)) (make : Makes table R) (is : IsTable rtype len table make) where
  -- the canonical spelling is a full line
  pub table_spelling_is_line : (r : R) → FitsRows table r → IsLine rtype len (rows_spelling rtype table r)
  unfolding AreAllowed
  table_spelling_is_line r f =
      let later = rows_text table 6 len is.laid_out r f in
      let rest = later.0 in
      let head = All-cons (λ b. IsTrue (is_allowed b)) rtype (codes "2006") is.allowed text_2006.allowed in
      let line : IsLine rtype len ((rtype ∷ codes "2006") ++ joined [] (rows_texts table r)) = record {
        begins = refl;
        text = record {
          len = omega arith;
          allowed = All-append (λ b. IsTrue (is_allowed b)) (rtype ∷ codes "2006") (joined [] (rows_texts table r)) head later.1;
        };
      } in
      subst (IsLine rtype len) (sym (spelling_is rtype table r)) line

  -- if a record is read, the line spells it, and it fits
  pub table_reads_spelled : (line : List ℕ) (r : R) → IsLine rtype len line → rows_reading table make line ≡ Ok r
      → FitsRows table r × SpellsRows table line r
  table_reads_spelled line r l h =
      let read = rows_found table make line r h in
      let values = sym (is.gives read.values) ∙ ap (values_of table) read.gave in
      let spelled = spelled_rows table line r (subst (AreSpelled line table) values read.spelled) in
      (rows_fit len line l.text table 6 (omega arith) is.laid_out r spelled, spelled)

  -- if the line spells a record, that record is read
  pub table_spelled_is_read : (line : List ℕ) (r : R) → IsLine rtype len line → SpellsRows table line r → rows_reading table make line ≡ Ok r
  table_spelled_is_read line r l s =
      rows_only table make line (values_of table r) (spelled_values table line r s) ∙ ap (λ (x : R). Ok x) (is.remade r)

  -- reading the canonical spelling yields the record
  pub table_reads_spelling : (r : R) → FitsRows table r → rows_reading table make (rows_spelling rtype table r) ≡ Ok r
  table_reads_spelling r f =
      table_spelled_is_read (rows_spelling rtype table r) r (table_spelling_is_line r f)
      (rows_again table len (rtype ∷ codes "2006") (rows_spelling rtype table r) is.laid_out r (spelling_is rtype table r) f)
