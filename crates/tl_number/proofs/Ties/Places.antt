-- The places that open places cover, and elements at some places of a list.
use Rattle.tl_number.proofs.Common.{AllByRecursion, AreReadAt, Bool, IsApart, IsKeyOrder, List, None, OpenPlace, Option, Ordering, Some, [], all_filter, among-get, among_known, and_cases, and_from, ap, arith, at_places, cond, contains, contains-filter, covers, false, filter, flat_map, inl, inr, is_open, le-leb, leb-false, length, lt-ltb, ltb-false, map, map-at_places, nat_le, nat_lt, option_map, or_left, or_parts, or_right, place_in, range_with_len, refl, same_Some, same_somes, slice_get, slice_get-map, sym, true, ℕ, ◌++◌, ◌+◌, ◌<◌, ◌∙◌, ◌∷◌, ◌≡◌, ◌≤◌, ◌⊎◌}
use Rattle.tl_number.proofs.Ties.Keys.{found_there}
use Rattle.arranged_county.proofs.Landmarks.LandmarkLinks.{listed}
use Rattle.arranged_county.proofs.Names.NameOrder.{filter_map_all}
use Rattle.canonical_form.specs.MovedChains.{IsApart as IsApartFrom}

-- a place that isn't open is apart from each open place
pub closed_apart : (place : ℕ) (places : List OpenPlace) → is_open places place ≡ false → AllByRecursion (IsApartFrom place) places
closed_apart place [] e = tt
closed_apart place (at ∷ places) e =
    let parts = or_parts (covers at place) (is_open places place) e in
    ((λ l. past (and_cases (nat_le at.place place) (nat_lt place (at.place + at.alike)) parts.0) l), closed_apart place places parts.1)
  where
    past : (nat_le at.place place ≡ false) ⊎ (nat_lt place (at.place + at.alike) ≡ false) → at.place ≤ place → at.place + at.alike ≤ place
    past (inl f) l = absurd (let less = leb-false at.place place f in omega (arith, l, less))
    past (inr f) l = ltb-false place (at.place + at.alike) f

-- a place that an open place covers is open
abbrev pub Covers : OpenPlace → ℕ → Type 0
Covers at place = (at.place ≤ place) × (place < at.place + at.alike)

pub covered_open : (place : ℕ) (at : OpenPlace) (places : List OpenPlace) → Covers at place → is_open (at ∷ places) place ≡ true
covered_open place at places h = or_left (covers at place) (is_open places place)
    (and_from (nat_le at.place place) (nat_lt place (at.place + at.alike)) (le-leb at.place place h.0) (lt-ltb place (at.place + at.alike) h.1))

pub later_open : (place : ℕ) (at : OpenPlace) (places : List OpenPlace) → is_open places place ≡ true → is_open (at ∷ places) place ≡ true
later_open place at places e = or_right (covers at place) (is_open places place) e

-- the places that each open place covers are open
pub covered_among : (places all : List OpenPlace) → ((place : ℕ) → is_open places place ≡ true → is_open all place ≡ true)
    → AllByRecursion (λ at. (place : ℕ) → Covers at place → is_open all place ≡ true) places
covered_among [] all h = tt
covered_among (at ∷ places) all h =
    ((λ place c. h place (covered_open place at places c)), covered_among places all (λ place e. h place (later_open place at places e)))

-- ---- elements of a list that pass a test, or whose places do

-- each element passes one test if its place passes the other
abbrev pub AreMarked : {X : Type 0} → (X → Bool) → (ℕ → Bool) → List X → Type 0
AreMarked {X} keep test xs = (place : ℕ) (x : X) → slice_get xs place ≡ Some x → keep x ≡ test place

-- then the elements that pass are read at the places that pass,
pub marked_read : {X : Type 0} (keep : X → Bool) (test : ℕ → Bool) (xs : List X) → AreMarked keep test xs
    → AreReadAt xs (filter test (range_with_len 0 (length xs))) (filter keep xs)
marked_read {X} keep test xs same = each (range_with_len 0 (length xs)) xs (listed xs)
  where
    go : (p : ℕ) (x : X) (ps : List ℕ) (ys : List X) (b : Bool) → slice_get xs p ≡ Some x → map (slice_get xs) ps ≡ map Some ys
        → map (slice_get xs) (cond b (p ∷ ps) ps) ≡ map Some (cond b (x ∷ ys) ys)
    go p x ps ys true here rest = λ i. here i ∷ rest i
    go p x ps ys false here rest = rest

    each : (ps : List ℕ) (ys : List X) → map (slice_get xs) ps ≡ map Some ys
        → map (slice_get xs) (filter test ps) ≡ map Some (filter keep ys)
    each [] [] e = refl
    each [] (y ∷ ys) e = cc
    each (p ∷ ps) [] e = cc
    each (p ∷ ps) (y ∷ ys) e =
        let here : slice_get xs p ≡ Some y = cc in
        let rest : map (slice_get xs) ps ≡ map Some ys = cc in
        go p y (filter test ps) (filter keep ys) (test p) here (each ps ys rest)
        ∙ ap (λ b. map Some (cond b (y ∷ filter keep ys) (filter keep ys))) (sym (same p y here))

pub filter_places : {X : Type 0} (keep : X → Bool) (test : ℕ → Bool) (xs : List X) → AreMarked keep test xs
    → filter keep xs ≡ at_places xs (filter test (range_with_len 0 (length xs)))
filter_places keep test xs same =
    sym (filter_map_all (slice_get xs) (filter test (range_with_len 0 (length xs))) (filter keep xs) (marked_read keep test xs same))

-- and so is what is read from each, if it's one item.
pub pieces_places : {X Y : Type 0} (f : X → List Y) (keep : X → Bool) (test : ℕ → Bool) (xs : List X)
    → AllByRecursion (λ x. (y : Y) × (f x ≡ y ∷ [])) xs → AreMarked keep test xs
    → flat_map f (filter keep xs) ≡ at_places (flat_map f xs) (filter test (range_with_len 0 (length xs)))
pieces_places {X} {Y} f keep test xs single same =
    let places = filter test (range_with_len 0 (length xs)) in
    let first : X → Option Y = λ x. slice_get (f x) 0 in
    same_somes (flat_map f (filter keep xs)) (at_places (flat_map f xs) places)
    (each (filter keep xs) (all_filter (λ x. (y : Y) × (f x ≡ y ∷ [])) keep xs single) ∙ ap (map first) (filter_places keep test xs same)
    ∙ map-at_places first xs places ∙ ap (λ read. at_places read places) (sym (each xs single)) ∙ sym (map-at_places Some (flat_map f xs) places))
  where
    each : (ys : List X) → AllByRecursion (λ x. (y : Y) × (f x ≡ y ∷ [])) ys → map Some (flat_map f ys) ≡ map (λ x. slice_get (f x) 0) ys
    each [] a = refl
    each (y ∷ ys) a = (λ i. map Some (a.0.1 i ++ flat_map f ys)) ∙ (λ i. slice_get (sym a.0.1 i) 0 ∷ each ys a.1 i)

-- A list whose elements pass as another's do is marked alike.
pub marked_alike : {X Y : Type 0} (keep : X → Bool) (other : Y → Bool) (test : ℕ → Bool) (xs : List X) (ys : List Y) → map keep xs ≡ map other ys
    → AreMarked other test ys → AreMarked keep test xs
marked_alike {Y = Y} keep other test xs ys e marked place x there = go (slice_get ys place) refl
    (sym (slice_get-map keep xs place ∙ ap (option_map keep) there) ∙ ap (λ bs. slice_get bs place) e ∙ slice_get-map other ys place)
  where
    go : (o : Option Y) → slice_get ys place ≡ o → Some (keep x) ≡ option_map other o → keep x ≡ test place
    go None f g = cc
    go (Some y) f g = same_Some (keep x) (other y) g ∙ marked place y f

-- Keys that occur once are among those at some places if their places are.
pub marked_keys : {K : Type 0} {cmp : K → K → Ordering} (o : IsKeyOrder cmp) (test : ℕ → Bool) (ks : List K) → IsApart cmp ks
    → AreMarked (λ k. contains cmp k (at_places ks (filter test (range_with_len 0 (length ks))))) test ks
marked_keys {cmp = cmp} o test ks apart place k there =
    ap (contains cmp k) (sym (filter_places (λ j. test (place_in cmp ks j)) test ks (λ q j e. ap test (found_there o ks apart q j e))))
    ∙ contains-filter o (λ j. test (place_in cmp ks j)) k ks (among_known o k ks (among-get ks place k there))
    ∙ ap test (found_there o ks apart place k there)
