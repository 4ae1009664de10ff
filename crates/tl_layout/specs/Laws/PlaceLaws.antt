-- Places are read as what they spell, and the canonical text is among the spellings.
use Rattle.std.proofs.Common.{Bool, Err, IfSome, IsTrue, List, None, Ok, Option, Result, Some, [], ap, append_assoc, arith, cond, drop, false, inr, length, lit<, lit≤, pos, refl, subst, suc, sym, take, true, unwrap_or, zero, ℕ, ◌*◌, ◌++◌, ◌+◌, ◌-◌, ◌∙◌, ◌∷◌, ◌≡◌, ◌≤◌}
use Rattle.std.proofs.lemmas.List.{drop_at, length-append, length-take, take_at}
use Rattle.std.proofs.Math.Nat.{pow-le-pow_right}
use Rattle.std.proofs.lemmas.List.Elements.{All-append, All-nil}
use Rattle.std.specs.List.{AllByRecursion}
use Rattle.tl_layout.specs.Laws.FieldLaws.{number_or_none_again, ok_value, point_again, reads, reads_on}
use Rattle.tl_layout.specs.Bytes.{AreAllowed, IsText, columns, is_allowed}
use Rattle.tl_layout.specs.Coordinates.{Coordinates, IsOnMap, most_latitude, most_longitude}
use Rattle.tl_layout.specs.FieldReading.{and_then, at_place, places_reading}
use Rattle.tl_layout.specs.Numbers.{IsNumber, IsNumberOrNone}
use Rattle.tl_layout.specs.FieldFaults.{gap}
use Rattle.tl_layout.specs.CoordinateField.{IsCoordinateField}
use Rattle.tl_layout.specs.FieldMeaning.{SpellsNumberPlace, SpellsPlaces, SpellsPointPlace}
use Rattle.tl_layout.specs.FieldTexts.{coordinate_text, number_place_text, places_text, point_place_text}
use Rattle.tl_layout.specs.Laws.CoordinateLaws.{coordinate_text_is_text, coordinate_text_spells}
use Rattle.tl_layout.specs.Laws.NumberTextLaws.{number_below, number_text_is_text}
use Rattle.tl_layout.specs.declared.fault.FieldFault.{FieldFault}

-- two texts side by side
pub pair_of_texts : (m n : ℕ) (a b : List ℕ) → IsText m a → IsText n b → IsText (m + n) (a ++ b)
unfolding AreAllowed
pair_of_texts m n a b s t =
    let l = s.len in
    let k = t.len in
    record { len = length-append a b ∙ omega arith; allowed = All-append (λ b. IsTrue (is_allowed b)) a b s.allowed t.allowed }

-- ---- reading

module _ {A : Type 0} (Spells : ℕ → Option A → Type 0) (width : ℕ) where
  -- what places that were read hold: nothing, if an unused place came before them
  abbrev Found : Bool → ℕ → ℕ → List A → Type 0
  Found after_unused count column xs = (after_unused ≡ true → xs ≡ []) × SpellsPlaces Spells width count column xs

  used_found : (count column : ℕ) (x : A) (xs : List A) (after_unused : Bool) (rest : Result (List A) FieldFault) → Spells column (Some x)
      → ((ys : List A) → rest ≡ Ok ys → Found false count (column + width) ys)
      → cond after_unused (Err (gap column)) (and_then rest (λ ys. Ok (x ∷ ys))) ≡ Ok xs → Found after_unused (suc count) column xs
  used_found count column x xs true rest s more h = (cc)
  used_found count column x xs false rest s more h =
      let r = reads rest (λ ys. Ok (x ∷ ys)) xs h in
      subst (Found false (suc count) column) (ok_value (x ∷ r.value) xs r.gave) ((λ e. (cc)), (s, (more r.value r.was).1))

  place_found : (count column : ℕ) (place : Option A) (xs : List A) (after_unused : Bool) (unused used : Result (List A) FieldFault)
      → Spells column place → ((ys : List A) → unused ≡ Ok ys → Found true count (column + width) ys)
      → ((ys : List A) → used ≡ Ok ys → Found false count (column + width) ys)
      → at_place place unused (λ x. cond after_unused (Err (gap column)) (and_then used (λ ys. Ok (x ∷ ys)))) ≡ Ok xs
      → Found after_unused (suc count) column xs
  place_found count column None xs after_unused unused used s none some h =
      let r = none xs h in
      let empty : xs ≡ [] = r.0 refl in (
        (λ _. empty),
        subst (SpellsPlaces Spells width (suc count) column) (sym empty) (s, subst (SpellsPlaces Spells width count (column + width)) empty r.1),
      )
  place_found count column (Some x) xs after_unused unused used s none some h = used_found count column x xs after_unused used s some h

  -- the places spell at most as many items as there are places
  pub places_len : (count column : ℕ) (xs : List A) → SpellsPlaces Spells width count column xs → length xs ≤ count
  places_len zero column [] s = omega arith
  places_len zero column (x ∷ xs) s = absurd s
  places_len (suc count) column [] s = omega arith
  places_len (suc count) column (x ∷ xs) s = let l = places_len count (column + width) xs s.1 in omega arith

  -- each item has any property that its place guarantees
  pub places_each : (P : A → Type 0) → ((column : ℕ) (x : A) → Spells column (Some x) → P x) → (count column : ℕ) (xs : List A)
      → SpellsPlaces Spells width count column xs → AllByRecursion P xs
  places_each P each zero column [] s = tt
  places_each P each zero column (x ∷ xs) s = absurd s
  places_each P each (suc count) column [] s = tt
  places_each P each (suc count) column (x ∷ xs) s = (each column x s.0, places_each P each count (column + width) xs s.1)

-- if a list is read, the places spell it
pub places_found : {A : Type 0} (reading : ℕ → Result (Option A) FieldFault) (Spells : ℕ → Option A → Type 0)
    → ((column : ℕ) (place : Option A) → reading column ≡ Ok place → Spells column place)
    → (width : ℕ) (after_unused : Bool) (count column : ℕ) (xs : List A) → places_reading reading width after_unused count column ≡ Ok xs
    → (after_unused ≡ true → xs ≡ []) × SpellsPlaces Spells width count column xs
unfolding places_reading
places_found reading Spells found width after_unused zero column xs h =
    let empty : [] ≡ xs = ok_value [] xs h in ((λ _. sym empty), subst (SpellsPlaces Spells width zero column) empty tt)
places_found reading Spells found width after_unused (suc count) column xs h =
    let r = reads (reading column) _ xs h in
    place_found Spells width count column r.value xs after_unused _ _ (found column r.value r.was)
    (places_found reading Spells found width true count (column + width))
    (places_found reading Spells found width false count (column + width)) r.gave

-- if the places spell a list, that list is read
pub places_only : {A : Type 0} (reading : ℕ → Result (Option A) FieldFault) (Spells : ℕ → Option A → Type 0)
    → ((column : ℕ) (place : Option A) → Spells column place → reading column ≡ Ok place)
    → (width : ℕ) (after_unused : Bool) (count column : ℕ) (xs : List A) → (after_unused ≡ true → xs ≡ [])
    → SpellsPlaces Spells width count column xs → places_reading reading width after_unused count column ≡ Ok xs
unfolding places_reading
places_only reading Spells only width after_unused zero column [] e s = refl
places_only reading Spells only width after_unused zero column (x ∷ xs) e s = absurd s
places_only reading Spells only width after_unused (suc count) column [] e s =
    reads_on (reading column) _ None _ (only column None s.0)
    (places_only reading Spells only width true count (column + width) [] (λ _. refl) s.1)
places_only reading Spells only width true (suc count) column (x ∷ xs) e s = let no : x ∷ xs ≡ [] = e refl in (cc)
places_only reading Spells only width false (suc count) column (x ∷ xs) e s =
    reads_on (reading column) _ (Some x) _ (only column (Some x) s.0)
    (reads_on _ _ xs _ (places_only reading Spells only width false count (column + width) xs (λ h. (cc)) s.1) refl)

-- ---- the canonical text

-- a place's text spells the place anywhere in a line
abbrev pub IsSpelledAnywhere : {A : Type 0} → (List ℕ → ℕ → Option A → Type 0) → (Option A → List ℕ) → (A → Type 0) → Type 0
IsSpelledAnywhere {A} Spells text Good = (before : List ℕ) (place : Option A) (after : List ℕ) → IfSome place Good
    → Spells (before ++ (text place ++ after)) (length before + 1) place

module _ {A : Type 0} (text : Option A → List ℕ) (width : ℕ) (fits : (place : Option A) → IsText width (text place)) where
  -- the texts of places are together a text of their total width
  pub places_text_is_text : (count : ℕ) (xs : List A) → length xs ≤ count → IsText (count * width) (places_text text count xs)
  unfolding places_text AreAllowed
  places_text_is_text zero xs l = record { len = omega arith; allowed = All-nil (λ b. IsTrue (is_allowed b)) }
  places_text_is_text (suc count) xs l = go xs (places_text_is_text count) l
    where
      wider : (place : Option A) (rest : List ℕ) → IsText (count * width) rest → IsText (suc count * width) (text place ++ rest)
      wider place rest t = let sum : width + count * width ≡ suc count * width = grind arith in
          subst (λ (w : ℕ). IsText w (text place ++ rest)) sum (pair_of_texts width (count * width) (text place) rest (fits place) t)

      go : (xs : List A) → ((ys : List A) → length ys ≤ count → IsText (count * width) (places_text text count ys)) → length xs ≤ suc count
          → IsText (suc count * width) (places_text text (suc count) xs)
      go [] fewer l = wider None _ (fewer [] (omega arith))
      go (x ∷ xs) fewer l = wider (Some x) _ (fewer xs (omega arith))

  module _ (Spells : List ℕ → ℕ → Option A → Type 0) (Good : A → Type 0) (again : IsSpelledAnywhere Spells text Good) where
    -- the text of a place spells it, and is followed by the texts of the next places
    record IsFirstPlace (before after : List ℕ) (column : ℕ) (place : Option A) (rest line : List ℕ) : Type 0 where
      spelled : Spells line column place
      next : column + width ≡ length (before ++ text place) + 1
      later : line ≡ (before ++ text place) ++ (rest ++ after)

    first_place : (before after : List ℕ) (column : ℕ) (place : Option A) (rest line : List ℕ) → column ≡ length before + 1
        → line ≡ before ++ ((text place ++ rest) ++ after) → IfSome place Good → IsFirstPlace before after column place rest line
    first_place before after column place rest line c e g =
        let whole = e ∙ ap (λ (t : List ℕ). before ++ t) (append_assoc (text place) rest after) in
        let len = length-append before (text place) in
        let wide = (fits place).len in
        record {
          spelled = rw (whole, c) (again before place (rest ++ after) g);
          next = omega arith;
          later = whole ∙ sym (append_assoc before (text place) (rest ++ after));
        }

    -- the canonical text of places spells them anywhere in a line
    pub places_again : (before after : List ℕ) (count column : ℕ) (xs : List A) (line : List ℕ) → column ≡ length before + 1
        → line ≡ before ++ (places_text text count xs ++ after) → length xs ≤ count → AllByRecursion Good xs
        → SpellsPlaces (Spells line) width count column xs
    unfolding places_text
    places_again before after zero column [] line c e l g = tt
    places_again before after zero column (x ∷ xs) line c e l g = absurd (omega arith)
    places_again before after (suc count) column [] line c e l g =
        let first = first_place before after column None (places_text text count []) line c e tt in (
          first.spelled,
          places_again (before ++ text None) after count (column + width) [] line first.next first.later (omega arith) tt,
        )
    places_again before after (suc count) column (x ∷ xs) line c e l g =
        let first = first_place before after column (Some x) (places_text text count xs) line c e g.0 in (
          first.spelled,
          places_again (before ++ text (Some x)) after count (column + width) xs line first.next first.later (omega arith) g.1,
        )

-- columns hold the text that follows as many bytes as there are columns before
pub columns_behind : (before text after : List ℕ) (first last : ℕ) → first ≡ length before + 1 → last ≡ length before + length text
    → columns first last (before ++ (text ++ after)) ≡ text
columns_behind before text after first last f l =
    let skip : first - 1 ≡ length before = omega arith in
    let span : last - length before ≡ length text = omega arith in
    rw (skip, span) (ap (take (length text)) (drop_at before (text ++ after) (length before) refl) ∙ take_at text after (length text) refl)

-- a longitude and a latitude side by side
pub two_parts : (before long lat after : List ℕ) → length long ≡ 10 → length lat ≡ 9
    → (columns (length before + 1) (length before + 1 + 9) (before ++ ((long ++ lat) ++ after)) ≡ long)
    × (columns (length before + 1 + 10) (length before + 1 + 18) (before ++ ((long ++ lat) ++ after)) ≡ lat)
two_parts before long lat after l m =
    let joined = length-append before long in
    let left = ap (λ (t : List ℕ). before ++ t) (append_assoc long lat after) in
    let right = sym (append_assoc before long (lat ++ after)) in (
      ap (columns (length before + 1) (length before + 1 + 9)) left
          ∙ columns_behind before long (lat ++ after) (length before + 1) (length before + 1 + 9) refl (omega arith),
      ap (columns (length before + 1 + 10) (length before + 1 + 18)) (left ∙ right)
          ∙ columns_behind (before ++ long) lat after (length before + 1 + 10) (length before + 1 + 18) (omega arith) (omega arith),
    )

number_good : (place : Option ℕ) → IfSome place (IsNumber 8) → IsNumberOrNone 8 place
number_good None g = tt
number_good (Some n) g = g

-- the text of a place for a point spells it
pub point_place_again : IsSpelledAnywhere SpellsPointPlace point_place_text IsOnMap
point_place_again before None after g =
    let long = coordinate_text 9 (pos 0) in
    let lat = coordinate_text 8 (pos 0) in
    let long_is = two_parts before long lat after (coordinate_text_is_text 9 (pos 0)).len (coordinate_text_is_text 8 (pos 0)).len in
    let P : List ℕ → Type 0 = λ f. IsCoordinateField most_longitude f (pos 0) in
    let Q : List ℕ → Type 0 = λ f. IsCoordinateField most_latitude f (pos 0) in
    inr (
      subst P (sym long_is.0) (coordinate_text_spells 9 most_longitude (pos 0) (lit< tt) (lit< tt) (lit≤ tt)),
      subst Q (sym long_is.1) (coordinate_text_spells 8 most_latitude (pos 0) (lit< tt) (lit< tt) (lit≤ tt)),
    )
point_place_again before (Some point) after g =
    let parts = two_parts before (coordinate_text 9 point.long) (coordinate_text 8 point.lat) after
    (coordinate_text_is_text 9 point.long).len (coordinate_text_is_text 8 point.lat).len in
    point_again point _ _ parts.0 parts.1 g

-- the text of a place for a number spells it
pub number_place_again : IsSpelledAnywhere SpellsNumberPlace number_place_text (IsNumber 8)
number_place_again before place after g =
    let text = number_text_is_text 8 (unwrap_or place 0) in
    number_or_none_again 8 place _ (columns_behind before (number_place_text place) after (length before + 1) (length before + 1 + 7) refl
    (let l = text.len in omega arith)) (number_good place g)

pub point_place_is_text : (place : Option Coordinates) → IsText 19 (point_place_text place)
point_place_is_text None = pair_of_texts 10 9 _ _ (coordinate_text_is_text 9 (pos 0)) (coordinate_text_is_text 8 (pos 0))
point_place_is_text (Some point) = pair_of_texts 10 9 _ _ (coordinate_text_is_text 9 point.long) (coordinate_text_is_text 8 point.lat)

pub number_place_is_text : (place : Option ℕ) → IsText 8 (number_place_text place)
number_place_is_text place = number_text_is_text 8 (unwrap_or place 0)

-- a number in eight columns has at most eight digits
pub number_place_fits : (line : List ℕ) (column n : ℕ) → SpellsNumberPlace line column (Some n) → IsNumber 8 n
number_place_fits line column n s =
    let below = number_below (columns column (column + 7) line) n s.0 in
    let len = length-take (column + 7 - (column - 1)) (drop (column - 1) line) in
    let short : length (columns column (column + 7) line) ≤ 8 = omega arith in
    let most = pow-le-pow_right {n = 10} (lit< tt) short in
    (s.1, omega arith)
