-- The choice with a number is reached by moving only the elements at open places, from the last place to the first.
use Rattle.canonical_form.proofs.Common.{Bool, List, OpenPlace, Ordering, [], and_parts, ap, append_assoc, arith, chosen, cond, drop, drop-append_seam, eqb-true, false, first_stood, length, length-append, map, moved, moved_at, not, not-true, open_places, refl, stood, suc, sym, take, take-append_seam, times, true, ℕ, ◌&&◌, ◌*◌, ◌++◌, ◌+◌, ◌==◌, ◌∙◌, ◌∷◌, ◌≡◌}
use Rattle.canonical_form.proofs.Choices.Choosing.{stood-digits}

-- the last place is moved first
pub moved-last : {X : Type 0} (turn : X → X) (places : List OpenPlace) (at : OpenPlace) (state : List X × ℕ)
    → moved turn (places ++ (at ∷ [])) state ≡ moved turn places (moved_at turn at state)
moved-last turn [] at state = refl
moved-last turn (first ∷ places) at state = ap (moved_at turn first) (moved-last turn places at state)

-- without a choice nothing moves and no digit is taken
settled : {X : Type 0} (turn : X → X) (x : X) (xs : List X) (n : ℕ) → stood turn 1 1 x (xs, n) ≡ (x ∷ xs, n)
settled turn x xs n =
    ap (λ m. stood turn 1 1 x (xs, m)) (let e : n ≡ (n * 1 + 0) * 1 + 0 = omega arith in e)
    ∙ stood-digits turn 1 1 x xs 0 0 n (omega arith) (omega arith)

-- the elements before a place stay
moved_at-front : {X : Type 0} (turn : X → X) (at : OpenPlace) (front : List X) (x : X) (later : List X × ℕ) → at.place ≡ length front
    → moved_at turn at (front ++ x ∷ later.0, later.1)
    ≡ (front ++ (stood turn at.alike (cond at.either_way 2 1) x later).0, (stood turn at.alike (cond at.either_way 2 1) x later).1)
moved_at-front {X} turn at front x later e =
    let rest : drop at.place (front ++ x ∷ later.0) ≡ x ∷ later.0 =
    ap (λ i. drop i (front ++ x ∷ later.0)) e ∙ drop-append_seam front (x ∷ later.0) in
    let before : take at.place (front ++ x ∷ later.0) ≡ front =
    ap (λ i. take i (front ++ x ∷ later.0)) e ∙ take-append_seam front (x ∷ later.0) in
    λ i. (
      before i ++ (first_stood turn at (rest i) later.1).0,
      (first_stood turn at (rest i) later.1).1,
    )

module _ {X K : Type 0} (cmp : K → K → Ordering) (either : K → Bool) (key : X → K) (turn : X → X) where
  from_place : (i : ℕ) (front xs : List X) (n : ℕ) → i ≡ length front
      → moved turn (open_places cmp either i (map key xs)) (front ++ xs, n)
      ≡ (front ++ (chosen cmp either key turn xs n).0, (chosen cmp either key turn xs n).1)
  from_place i front [] n e = refl
  from_place i front (x ∷ xs) n e =
      go ((suc (times cmp (key x) (map key xs)) == 1) && not (either (key x))) refl (ap (λ ys. (ys, n)) (append_assoc front (x ∷ []) xs))
      (ap (λ ys. (ys, (chosen cmp either key turn xs n).1)) (append_assoc front (x ∷ []) (chosen cmp either key turn xs n).0))
      (from_place (suc i) (front ++ x ∷ []) xs n (omega (arith, e, length-append front (x ∷ []))))
    where
      g : ℕ
      g = suc (times cmp (key x) (map key xs))

      at : OpenPlace
      at = record { place = i; alike = suc (times cmp (key x) (map key xs)); either_way = either (key x) }

      later : List X × ℕ
      later = chosen cmp either key turn xs n

      places : List OpenPlace
      places = open_places cmp either (suc i) (map key xs)

      go : (b : Bool) → ((g == 1) && not (either (key x))) ≡ b
          → ◌≡◌ {A = List X × ℕ} ((front ++ x ∷ []) ++ xs, n) (front ++ x ∷ xs, n)
          → ◌≡◌ {A = List X × ℕ} ((front ++ x ∷ []) ++ later.0, later.1) (front ++ x ∷ later.0, later.1)
          → moved turn places ((front ++ x ∷ []) ++ xs, n) ≡ ((front ++ x ∷ []) ++ later.0, later.1)
          → moved turn (cond b places (at ∷ places)) (front ++ x ∷ xs, n)
          ≡ (front ++ (stood turn g (cond (either (key x)) 2 1) x later).0, (stood turn g (cond (either (key x)) 2 1) x later).1)
      go true t start end ih =
          let both = and_parts (g == 1) (not (either (key x))) t in
          let one : g ≡ 1 = eqb-true g 1 both.0 in
          let one_way : either (key x) ≡ false = not-true (either (key x)) both.1 in
          let still : stood turn g (cond (either (key x)) 2 1) x later ≡ (x ∷ later.0, later.1) =
          (λ j. stood turn (one j) (cond (one_way j) 2 1) x later) ∙ settled turn x later.0 later.1 in
          ap (moved turn places) (sym start) ∙ ih ∙ end ∙ (λ j. (front ++ (sym still j).0, (sym still j).1))
      go false t start end ih =
          ap (λ s. moved_at turn at (moved turn places s)) (sym start) ∙ ap (moved_at turn at) (ih ∙ end)
          ∙ moved_at-front turn at front x later e

  -- So the choice with a number is reached.
  pub moved_is : (xs : List X) (n : ℕ) → moved turn (open_places cmp either 0 (map key xs)) (xs, n) ≡ chosen cmp either key turn xs n
  moved_is xs n = from_place 0 [] xs n refl
