-- Places are tested from the last one to the first.
use Rattle.canonical_lines.proofs.Common.{Bool, IsPlacesText, IsUsedText, List, None, Option, Some, [], ap, arith, drop, drop-drop, false, refl, slice_range, subst, suc, sym, take, take-append-drop, true, ℕ, ◌*◌, ◌++◌, ◌+◌, ◌-◌, ◌<◌, ◌∙◌, ◌∷◌, ◌≡◌, ◌≤◌}
use Rattle.tl_layout.specs.FieldTexts.{places_text}

-- the columns hold that many places, and one of them is used only if used is true
pub record ArePlaces {A : Type 0} (Fits : A → Type 0) (text : Option A → List ℕ) (count : ℕ) (used : Bool) (columns : List ℕ)
    : Type 0 where
  pub places : IsPlacesText Fits text count columns
  pub none : used ≡ false → places.items ≡ []

-- no places yet
pub no_places : {A : Type 0} (Fits : A → Type 0) (text : Option A → List ℕ) (used : Bool) (columns : List ℕ) → columns ≡ []
    → ArePlaces Fits text 0 used columns
unfolding places_text
no_places Fits text used columns e =
    record { places = record { items = []; few = omega arith; fit = tt; is = e }; none = λ _. refl }

-- an unused place before unused ones
unused_before : {A : Type 0} (Fits : A → Type 0) (text : Option A → List ℕ) (count : ℕ) (place rest columns : List ℕ)
    → columns ≡ place ++ rest → place ≡ text None → ArePlaces Fits text count false rest → ArePlaces Fits text (suc count) false columns
unfolding places_text
unused_before Fits text count place rest columns e p h =
    let empty = h.none refl in
    record {
      places = record {
        items = [];
        few = omega arith;
        fit = tt;
        is = e ∙ ap (λ (l : List ℕ). l ++ rest) p
            ∙ ap (λ (l : List ℕ). text None ++ l) (h.places.is ∙ ap (places_text text count) empty);
      };
      none = λ _. refl;
    }

-- a used place
used_before : {A : Type 0} (Fits : A → Type 0) (text : Option A → List ℕ) (count : ℕ) (used : Bool) (place rest columns : List ℕ)
    → columns ≡ place ++ rest → IsUsedText Fits text place → ArePlaces Fits text count used rest → ArePlaces Fits text (suc count) true columns
unfolding places_text
used_before Fits text count used place rest columns e p h =
    let few = h.places.few in
    record {
      places = record {
        items = p.item ∷ h.places.items;
        few = omega arith;
        fit = (p.fits, h.places.fit);
        is = e ∙ ap (λ (l : List ℕ). l ++ rest) p.is ∙ ap (λ (l : List ℕ). text (Some p.item) ++ l) h.places.is;
      };
      none = λ u. (cc);
    }

-- the width of one place more
one_more : (width place : ℕ) → width * (place + 1) ≡ width * place + width
one_more width place = grind arith

-- the columns from a place on are the place and the columns after it
place_and_rest : (width place : ℕ) (columns : List ℕ) → 0 < place
    → drop (width * (place - 1)) columns
    ≡ slice_range columns (width * (place - 1)) (width * (place - 1) + width) ++ drop (width * place) columns
place_and_rest width place columns some =
    let from = width * (place - 1) in
    let wide : width ≡ from + width - from = omega arith in
    let next : place ≡ place - 1 + 1 = omega arith in
    let behind : from + width ≡ width * place = sym (ap (λ (n : ℕ). width * n) next ∙ one_more width (place - 1)) in
    sym (take-append-drop width (drop from columns)) ∙ ap (λ (n : ℕ). take n (drop from columns) ++ drop width (drop from columns)) wide
    ∙ ap (λ (l : List ℕ). slice_range columns from (from + width) ++ l)
    (drop-drop width from columns ∙ ap (λ (n : ℕ). drop n columns) behind)

-- the next place to the left is used
pub used_at : {A : Type 0} (Fits : A → Type 0) (text : Option A → List ℕ) (width most place : ℕ) (used : Bool) (columns : List ℕ)
    → 0 < place → place ≤ most → IsUsedText Fits text (slice_range columns (width * (place - 1)) (width * (place - 1) + width))
    → ArePlaces Fits text (most - place) used (drop (width * place) columns)
    → ArePlaces Fits text (most - (place - 1)) true (drop (width * (place - 1)) columns)
used_at Fits text width most place used columns some few p h =
    let more : suc (most - place) ≡ most - (place - 1) = omega arith in
    subst (λ (n : ℕ). ArePlaces Fits text n true (drop (width * (place - 1)) columns)) more
    (used_before Fits text (most - place) used _ (drop (width * place) columns) _ (place_and_rest width place columns some) p h)

-- the next place to the left is unused, like all places after it
pub unused_at : {A : Type 0} (Fits : A → Type 0) (text : Option A → List ℕ) (width most place : ℕ) (used : Bool) (columns : List ℕ)
    → 0 < place → place ≤ most → used ≡ false
    → slice_range columns (width * (place - 1)) (width * (place - 1) + width) ≡ text None
    → ArePlaces Fits text (most - place) used (drop (width * place) columns)
    → ArePlaces Fits text (most - (place - 1)) used (drop (width * (place - 1)) columns)
unused_at Fits text width most place used columns some few e p h =
    let more : suc (most - place) ≡ most - (place - 1) = omega arith in
    let P : Bool → Type 0 = λ u. ArePlaces Fits text (most - place) u (drop (width * place) columns) in
    let Q : Bool → Type 0 = λ u. ArePlaces Fits text (most - (place - 1)) u (drop (width * (place - 1)) columns) in
    subst Q (sym e) (subst (λ (n : ℕ). ArePlaces Fits text n false (drop (width * (place - 1)) columns)) more
    (unused_before Fits text (most - place) _ (drop (width * place) columns) _ (place_and_rest width place columns some) p (subst P e h)))
