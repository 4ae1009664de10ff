-- Records of one type are in the order of their columns: the first column that differs decides.
use Rattle.tl_number.proofs.Common.{AllByRecursion, Coordinates, Equal, FieldsOf, IsNumber, IsNumberOrNone, List, None, Ok, Option, Ordering, RecordType, Result, Some, Type1, [], ap, ap₂, arith, byte_of, cmp-append, codes, joined, joined-append, joined-before, lat_text, lat_text_is_text, layout_laws, length, length-append, length-number_text, lists_keys, long_text, long_text_is_text, map, nat_cmp, nat_keys, nat_list_cmp_total, number_order, number_place_is_text, number_text, ordering_then, places_text_is_text, point_place_is_text, point_place_text, pow-succ', reading_of, record_of, refl, slice_cmp, slice_get, spelling_cmp, spelling_of, spelling_of_record, suc, sym, table_of, then_same, tied_itself, unwrap_or, zero, ℕ, ◌++◌, ◌+◌, ◌<◌, ◌^◌, ◌∙◌, ◌∷◌, ◌≡◌}
use Rattle.tl_layout.specs.ColumnTable.{Filler, FitsRows, FitsValue, Kind, Number, NumberOrNone, NumberPlaces, Opaque, Pair, PairOrNone, PointPlaces, Row, ValueOf, width_of}
use Rattle.tl_layout.specs.FieldTexts.{number_place_text, places_text, rows_texts, value_texts}
use Rattle.tl_layout.specs.RecordText.{FitsRecord}
use Rattle.tl_layout.specs.RecordTypes.{FitsFields, fields_spelling}

-- ---- the order of two values of a column

-- the number in a place for numbers, or 0
abbrev pub place_number : List ℕ → ℕ → ℕ
place_number numbers place = unwrap_or (slice_get numbers place) 0

-- the order of the numbers in the first places, place by place
abbrev pub places_cmp : ℕ → (ℕ → ℕ) → (ℕ → ℕ) → Ordering
places_cmp zero f g = Equal
places_cmp (suc count) f g = ordering_then (nat_cmp (f 0) (g 0)) (places_cmp count (λ place. f (suc place)) (λ place. g (suc place)))

-- two pairs that compare alike in each place are in one order
pub places_alike : (count : ℕ) (f g h k : ℕ → ℕ) → ((place : ℕ) → nat_cmp (f place) (g place) ≡ nat_cmp (h place) (k place))
    → places_cmp count f g ≡ places_cmp count h k
places_alike zero f g h k alike = refl
places_alike (suc count) f g h k alike = ap₂ ordering_then (alike 0)
    (places_alike count (λ place. f (suc place)) (λ place. g (suc place)) (λ place. h (suc place)) (λ place. k (suc place)) (λ place. alike (suc place)))

-- the order of two values: as numbers, with 0 for none, and otherwise as texts
abbrev pub value_cmp : ℕ → (kind : Kind) → ValueOf kind → ValueOf kind → Ordering
value_cmp width Number a b = nat_cmp a b
value_cmp width NumberOrNone a b = nat_cmp (unwrap_or a 0) (unwrap_or b 0)
value_cmp width NumberPlaces a b = places_cmp 5 (place_number a) (place_number b)
value_cmp width kind a b = slice_cmp nat_cmp (joined [] (value_texts width kind a)) (joined [] (value_texts width kind b))

-- a number that fits, or 0 for none, has at most as many digits
few : (width : ℕ) (n : Option ℕ) → IsNumberOrNone width n → unwrap_or n 0 < 10 ^ width
few width (Some n) h = h.1
few width None h = some width
  where
    some : (w : ℕ) → 0 < 10 ^ w
    some zero = omega arith
    some (suc w) = rw (pow-succ' 10 w) (let rest = some w in omega (arith, rest))

-- numbers decide before the texts after them
first : (m n : ℕ) (us vs : List ℕ) (o : Ordering) → m < 10 ^ 8 → n < 10 ^ 8 → slice_cmp nat_cmp us vs ≡ o
    → slice_cmp nat_cmp (number_text 8 m ++ us) (number_text 8 n ++ vs) ≡ ordering_then (nat_cmp m n) o
first m n us vs o m_few n_few rest =
    cmp-append nat_cmp (number_text 8 m) (number_text 8 n) us vs (length-number_text 8 m ∙ sym (length-number_text 8 n))
    ∙ ap₂ ordering_then (number_order 8 m n m_few n_few) rest

-- places for numbers are in the order of their numbers
places_order : (count : ℕ) (ks ls : List ℕ) → AllByRecursion (IsNumber 8) ks → AllByRecursion (IsNumber 8) ls
    → slice_cmp nat_cmp (places_text number_place_text count ks) (places_text number_place_text count ls)
    ≡ places_cmp count (place_number ks) (place_number ls)
unfolding places_text
places_order zero ks ls f g = refl
places_order (suc count) [] [] f g = first 0 0 _ _ _ (omega arith) (omega arith) (places_order count [] [] tt tt)
places_order (suc count) [] (l ∷ ls) f g = first 0 l _ _ _ (omega arith) g.0.1 (places_order count [] ls tt g.1)
places_order (suc count) (k ∷ ks) [] f g = first k 0 _ _ _ f.0.1 (omega arith) (places_order count ks [] f.1 tt)
places_order (suc count) (k ∷ ks) (l ∷ ls) f g = first k l _ _ _ f.0.1 g.0.1 (places_order count ks ls f.1 g.1)

-- a longitude and a latitude fill 19 columns
pair_width : (point : Option Coordinates) → length (long_text point ++ lat_text point) ≡ 19
pair_width point = length-append (long_text point) (lat_text point)
    ∙ ap₂ (λ m n. m + n) (long_text_is_text point).len (lat_text_is_text point).len

-- the values of a column that fit have texts of one length
same_width : (width : ℕ) (kind : Kind) (a b : ValueOf kind) → FitsValue width kind a → FitsValue width kind b
    → length (joined [] (value_texts width kind a)) ≡ length (joined [] (value_texts width kind b))
same_width width Number a b f g = length-number_text width a ∙ sym (length-number_text width b)
same_width width NumberOrNone a b f g = length-number_text width (unwrap_or a 0) ∙ sym (length-number_text width (unwrap_or b 0))
same_width width Pair a b f g = pair_width (Some a) ∙ sym (pair_width (Some b))
same_width width PairOrNone a b f g = pair_width a ∙ sym (pair_width b)
same_width width NumberPlaces a b f g = (places_text_is_text number_place_text 8 number_place_is_text 5 a f.0).len
    ∙ sym (places_text_is_text number_place_text 8 number_place_is_text 5 b g.0).len
same_width width PointPlaces a b f g = (places_text_is_text point_place_text 19 point_place_is_text 10 a f.0).len
    ∙ sym (places_text_is_text point_place_text 19 point_place_is_text 10 b g.0).len
same_width width Opaque a b f g = f.len ∙ sym g.len
same_width width Filler a b f g = refl

-- their texts are in the order of the values
value_order : (width : ℕ) (kind : Kind) (a b : ValueOf kind) → FitsValue width kind a → FitsValue width kind b
    → slice_cmp nat_cmp (joined [] (value_texts width kind a)) (joined [] (value_texts width kind b)) ≡ value_cmp width kind a b
value_order width Number a b f g = number_order width a b f.1 g.1
value_order width NumberOrNone a b f g = number_order width (unwrap_or a 0) (unwrap_or b 0) (few width a f) (few width b g)
value_order width NumberPlaces a b f g = places_order 5 a b f.1 g.1
value_order width _ a b f g = refl

-- ---- the order of two records

-- the order of two records by their values in some rows
abbrev pub rows_cmp : {R : Type 0} → List (Row R) → R → R → Ordering
rows_cmp [] r s = Equal
rows_cmp (row ∷ rows) r s = ordering_then (value_cmp (width_of row) row.kind (row.value r) (row.value s)) (rows_cmp rows r s)

abbrev pub fields_cmp : (t : RecordType) → FieldsOf t → FieldsOf t → Ordering
fields_cmp t = rows_cmp (table_of t)

-- the texts of rows that fit are in this order
rows_order : {R : Type 0} (rows : List (Row R)) (r s : R) → FitsRows rows r → FitsRows rows s
    → slice_cmp nat_cmp (joined [] (rows_texts rows r)) (joined [] (rows_texts rows s)) ≡ rows_cmp rows r s
rows_order [] r s f g = refl
rows_order (row ∷ rows) r s f g =
    let one : List (List ℕ) = value_texts (width_of row) row.kind (row.value r) in
    let other : List (List ℕ) = value_texts (width_of row) row.kind (row.value s) in
    ap₂ (slice_cmp nat_cmp) (joined-append one (rows_texts rows r)) (joined-append other (rows_texts rows s))
    ∙ cmp-append nat_cmp (joined [] one) (joined [] other) (joined [] (rows_texts rows r)) (joined [] (rows_texts rows s))
    (same_width (width_of row) row.kind (row.value r) (row.value s) f.0 g.0)
    ∙ ap₂ ordering_then (value_order (width_of row) row.kind (row.value r) (row.value s) f.0 g.0) (rows_order rows r s f.1 g.1)

-- a record fits if its fields do
fields_fit : (t : RecordType) (r : FieldsOf t) → FitsRecord (record_of t r) → FitsFields t r
unfolding FitsRecord
fields_fit Type1 r f = f
fields_fit _ r f = f

-- Records of a type that fit are in the order of their columns,
pub columns_decide : (t : RecordType) (r s : FieldsOf t) → FitsRecord (record_of t r) → FitsRecord (record_of t s)
    → spelling_cmp (record_of t r) (record_of t s) ≡ fields_cmp t r s
unfolding FitsFields fields_spelling
columns_decide t r s f g =
    let head : List ℕ = byte_of t ∷ codes "2006" in
    let one : List ℕ = joined [] (rows_texts (table_of t) r) in
    let other : List ℕ = joined [] (rows_texts (table_of t) s) in
    ap₂ (slice_cmp nat_cmp) (spelling_of_record t r ∙ joined-before head (rows_texts (table_of t) r))
    (spelling_of_record t s ∙ joined-before head (rows_texts (table_of t) s))
    ∙ cmp-append nat_cmp head head one other refl
    ∙ ap (λ o. ordering_then o (slice_cmp nat_cmp one other)) (tied_itself nat_list_cmp_total head)
    ∙ rows_order (table_of t) r s (fields_fit t r f) (fields_fit t s g)

-- and so are lists of them.
pub lists_decide : (t : RecordType) (rs ss : List (FieldsOf t)) → AllByRecursion (λ r. FitsRecord (record_of t r)) rs
    → AllByRecursion (λ r. FitsRecord (record_of t r)) ss
    → slice_cmp spelling_cmp (map (record_of t) rs) (map (record_of t) ss) ≡ slice_cmp (fields_cmp t) rs ss
lists_decide t [] [] f g = refl
lists_decide t [] (s ∷ ss) f g = refl
lists_decide t (r ∷ rs) [] f g = refl
lists_decide t (r ∷ rs) (s ∷ ss) f g = ap₂ ordering_then (columns_decide t r s f.0 g.0) (lists_decide t rs ss f.1 g.1)

-- Those that tie are the same.
pub tied_fields : (t : RecordType) (r s : FieldsOf t) → FitsRecord (record_of t r) → FitsRecord (record_of t s) → fields_cmp t r s ≡ Equal
    → r ≡ s
tied_fields t r s f g tie = ok_value r s
    (sym ((layout_laws t).reads_spelling r (fields_fit t r f))
    ∙ ap (reading_of t) (sym (spelling_of_record t r)
    ∙ (lists_keys nat_keys).exact (spelling_of (record_of t r)) (spelling_of (record_of t s)) (columns_decide t r s f g ∙ tie)
    ∙ spelling_of_record t s)
    ∙ (layout_laws t).reads_spelling s (fields_fit t s g))
  where
    ok_value : {A E : Type 0} (x y : A) → ◌≡◌ {A = Result A E} (Ok x) (Ok y) → x ≡ y
    ok_value x y e = cc

-- Two pairs of records compare alike in the first rows, one by one, up to the first in which they differ, and then in all others.
abbrev pub AreColumnsAlike : {R : Type 0} → ℕ → List (Row R) → R → R → R → R → Type 0
AreColumnsAlike zero rows r s t u = rows_cmp rows r s ≡ rows_cmp rows t u
AreColumnsAlike (suc count) [] r s t u = Unit {0}
AreColumnsAlike (suc count) (row ∷ rows) r s t u =
    (value_cmp (width_of row) row.kind (row.value r) (row.value s) ≡ value_cmp (width_of row) row.kind (row.value t) (row.value u))
    × (value_cmp (width_of row) row.kind (row.value r) (row.value s) ≡ Equal → AreColumnsAlike count rows r s t u)

-- one more column in which they compare alike
pub next_column : {A B T : Type 0} → A → B → A × (T → B)
next_column here rest = (here, λ tie. rest)

-- So they are in one order.
pub columns_alike : {R : Type 0} (count : ℕ) (rows : List (Row R)) (r s t u : R) → AreColumnsAlike count rows r s t u
    → rows_cmp rows r s ≡ rows_cmp rows t u
columns_alike zero rows r s t u alike = alike
columns_alike (suc count) [] r s t u alike = refl
columns_alike (suc count) (row ∷ rows) r s t u alike =
    then_same (value_cmp (width_of row) row.kind (row.value r) (row.value s)) (rows_cmp rows r s) (rows_cmp rows t u)
    (λ tie. columns_alike count rows r s t u (alike.1 tie))
    ∙ ap (λ o. ordering_then o (rows_cmp rows t u)) alike.0
