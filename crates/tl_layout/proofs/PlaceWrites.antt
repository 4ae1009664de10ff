-- Writing places one after another.
use Rattle.tl_layout.proofs.Common.{List, Option, [], ap, append-nil, append_assoc, drop, refl, slice_get, subst, suc, sym, zero, ℕ, ◌++◌, ◌∙◌, ◌∷◌, ◌≡◌}
use Rattle.tl_layout.specs.FieldTexts.{places_text}

-- the text of the places from one on is that place's text and the text of the places after it
pub one_place : {A : Type 0} (text : Option A → List ℕ) (n place : ℕ) (xs : List A)
    → places_text text (suc n) (drop place xs) ≡ text (slice_get xs place) ++ places_text text n (drop (suc place) xs)
unfolding places_text
one_place text n zero [] = refl
one_place text n zero (x ∷ xs) = refl
one_place text n (suc place) [] = refl
one_place text n (suc place) (x ∷ xs) = one_place text n place xs

-- a place was written after the places before it
pub place_written : {A : Type 0} (text : Option A → List ℕ) (n place next : ℕ) (xs : List A) (before after all : List ℕ)
    → before ++ places_text text (suc n) (drop place xs) ≡ all → after ≡ before ++ text (slice_get xs place) → next ≡ suc place
    → after ++ places_text text n (drop next xs) ≡ all
place_written text n place next xs before after all h w e =
    let P : ℕ → Type 0 = λ k. after ++ places_text text n (drop k xs) ≡ all in
    subst P (sym e) (ap (λ (l : List ℕ). l ++ places_text text n (drop (suc place) xs)) w
    ∙ (append_assoc before (text (slice_get xs place)) (places_text text n (drop (suc place) xs))
    ∙ (ap (λ (l : List ℕ). before ++ l) (sym (one_place text n place xs)) ∙ h)))

-- all places were written
pub all_written : {A : Type 0} (text : Option A → List ℕ) (xs : List A) (after all : List ℕ) → after ++ places_text text 0 xs ≡ all
    → after ≡ all
unfolding places_text
all_written text xs after all h = sym (append-nil after) ∙ h
