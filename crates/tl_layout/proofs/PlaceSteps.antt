-- Reading places one after another: the items that were read, followed by the items of the remaining places.
use Rattle.tl_layout.proofs.Common.{Bool, Err, FieldFault, List, None, Ok, Option, Result, Some, ZEROS, [], and_parts, ap, append-nil, append_assoc, arith, columns, coordinates_of, drop, drop-drop, drop-take, eqb, eqb-true, false, gap, most_latitude, most_longitude, reads_on, refl, subst, suc, suc-mul, sym, take, take-take, true, ℕ, ◌*◌, ◌++◌, ◌+◌, ◌-◌, ◌∙◌, ◌∷◌, ◌≡◌, ◌≤◌}
use Rattle.tl_layout.specs.CoordinateReading.{coordinate_of, magnitude_of, signed_of}
use Rattle.tl_layout.specs.FieldReading.{and_then, places_reading, point_or_none, point_or_none_at}
use Rattle.tl_layout.specs.NumberReading.{number_after}
use lib.Pointwise.{pointwise}

-- the items so far, followed by those that are read
abbrev pub with_front : {A : Type 0} → List A → Result (List A) FieldFault → Result (List A) FieldFault
with_front front reading = and_then reading (λ xs. Ok (front ++ xs))

one_more : {A : Type 0} (front : List A) (x : A) (reading : Result (List A) FieldFault)
    → with_front front (and_then reading (λ xs. Ok (x ∷ xs))) ≡ with_front (front ++ x ∷ []) reading
unfolding and_then
one_more front x (Ok xs) = ap Ok (sym (append_assoc front (x ∷ []) xs))
one_more front x (Err e) = refl

module _ {A : Type 0} (reading : ℕ → Result (Option A) FieldFault) (width column : ℕ) (front : List A) (all : Result (List A) FieldFault) where
  -- the items so far, followed by the items of that many places from this column on, are all items
  abbrev IsRest : Bool → ℕ → Type 0
  IsRest unused n = with_front front (places_reading reading width unused n column) ≡ all

  pub after_none : (n next : ℕ) (unused : Bool) → IsRest unused (suc n) → reading column ≡ Ok None → next ≡ column + width
      → with_front front (places_reading reading width true n next) ≡ all
  unfolding places_reading
  after_none n next unused h e c = rw c (ap (with_front front) (sym (reads_on (reading column) _ None _ e refl)) ∙ h)

  pub after_some : (n next : ℕ) (x : A) (unused : Bool) → unused ≡ false → IsRest unused (suc n) → reading column ≡ Ok (Some x)
      → next ≡ column + width → with_front (front ++ x ∷ []) (places_reading reading width false n next) ≡ all
  unfolding places_reading
  after_some n next x unused u h e c =
      rw c (sym (one_more front x (places_reading reading width false n (column + width)))
      ∙ (ap (with_front front) (sym (reads_on (reading column) _ (Some x) _ e refl)) ∙ rw u at h))

  pub at_gap : (n : ℕ) (x : A) (unused : Bool) → unused ≡ true → IsRest unused (suc n) → reading column ≡ Ok (Some x)
      → all ≡ Err (gap column)
  unfolding places_reading and_then
  at_gap n x unused u h e = sym h ∙ rw (u, e) refl

  pub at_fault : (n : ℕ) (unused : Bool) (fault : FieldFault) → IsRest unused (suc n) → reading column ≡ Err fault → all ≡ Err fault
  unfolding places_reading and_then
  at_fault n unused fault h e = sym h ∙ rw e refl

  pub at_end : (unused : Bool) → IsRest unused 0 → all ≡ Ok front
  unfolding places_reading and_then
  at_end unused h = sym h ∙ ap Ok (append-nil front)

pub at_start : {A : Type 0} (reading : Result (List A) FieldFault) → with_front [] reading ≡ reading
unfolding and_then
at_start (Ok xs) = refl
at_start (Err e) = refl

-- the columns of the remaining places, after the first of them
pub next_column : (n column width all : ℕ) → column + suc n * width ≡ all → column + width + n * width ≡ all
next_column n column width all h = let one = suc-mul n width in omega arith

-- the columns of one place are within the columns of all places
pub column_within : (n column width count wide many : ℕ) → column + suc n * width ≡ 19 + count * width → width ≡ wide → count ≡ many
    → column + wide ≤ 19 + many * wide
column_within n column width count wide many h w c =
    let one = suc-mul n width in
    let P : ℕ → Type 0 = λ m. column + wide ≤ 19 + m * wide in
    let Q : ℕ → Type 0 = λ v. column + v ≤ 19 + count * v in
    subst P c (subst Q w (omega arith))

-- slices that compare equal have the same bytes
pub same_bytes : (xs ys : List ℕ) → pointwise eqb xs ys ≡ true → xs ≡ ys
same_bytes [] [] h = refl
same_bytes [] (y ∷ ys) h = (cc)
same_bytes (x ∷ xs) [] h = (cc)
same_bytes (x ∷ xs) (y ∷ ys) h =
    let parts = and_parts (eqb x y) (pointwise eqb xs ys) h in
    let first = eqb-true x y parts.0 in
    let rest = same_bytes xs ys parts.1 in
    λ i. first i ∷ rest i

-- a pair of zeros isn't a point
zeros_read : (long lat : List ℕ) → long ≡ take 10 ZEROS → lat ≡ drop 10 ZEROS → (column : ℕ)
    → coordinates_of column (coordinate_of most_longitude long) (coordinate_of most_latitude lat) ≡ Ok None
unfolding coordinate_of signed_of magnitude_of number_after point_or_none
zeros_read long lat e f column = rw (e, f) refl

-- a place that holds a pair of zeros has no point
pub zeros_are_none : (column : ℕ) (line : List ℕ) → 1 ≤ column → pointwise eqb (columns column (column + 18) line) ZEROS ≡ true
    → point_or_none_at column line ≡ Ok None
unfolding point_or_none_at
zeros_are_none column line one h =
    let rest = drop (column - 1) line in
    let nineteen : 19 ≡ column + 18 - (column - 1) = omega arith in
    let ten : column + 9 - (column - 1) ≡ 10 = omega arith in
    let nine : column + 18 - (column + 10 - 1) ≡ 9 = omega arith in
    let from : column + 10 - 1 ≡ column - 1 + 10 = omega arith in
    let all : take 19 rest ≡ ZEROS = ap (λ (n : ℕ). take n rest) nineteen ∙ same_bytes (columns column (column + 18) line) ZEROS h in
    let long : columns column (column + 9) line ≡ take 10 ZEROS =
    ap (λ (n : ℕ). take n rest) ten ∙ sym (take-take 10 19 rest (omega arith)) ∙ ap (take 10) all in
    let behind : drop (column + 10 - 1) line ≡ drop 10 rest = ap (λ (n : ℕ). drop n line) from ∙ sym (drop-drop 10 (column - 1) line) in
    let lat : columns (column + 10) (column + 18) line ≡ drop 10 ZEROS =
    ap (λ (n : ℕ). take n (drop (column + 10 - 1) line)) nine ∙ ap (take 9) behind ∙ sym (drop-take 10 9 rest) ∙ ap (drop 10) all in
    zeros_read _ _ long lat column
