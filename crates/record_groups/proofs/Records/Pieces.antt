-- Pieces of a list, read by place.
use Rattle.record_groups.proofs.Common.{List, Some, [], ap, arith, div_ceil_times, drop, drop-drop, in_pieces, length, length-drop, length-map, length-numbered_from, map, min, numbered_at, numbered_from, option_map, pieces, refl, slice_get, slice_get-map, suc, take, zero, ℕ, ◌%◌, ◌*◌, ◌+◌, ◌-◌, ◌/◌, ◌<◌, ◌∙◌, ◌∷◌, ◌≡◌, ◌≤◌}
use Rattle.std.proofs.lemmas.Nat.{mul-le}

module _ {X : Type 0} (n : ℕ) where
  -- as many pieces as needed, and not one more
  pub pieces_bounds : (most : ℕ) (xs : List X) → length xs ≤ most
      → (length xs ≤ length (pieces (suc n) most xs) * suc n) × (length (pieces (suc n) most xs) * suc n < length xs + suc n)
  pieces_bounds zero [] h = (omega arith, omega arith)
  pieces_bounds zero (x ∷ xs) h = absurd (omega (arith, h))
  pieces_bounds (suc most) [] h = (omega arith, omega arith)
  pieces_bounds (suc most) (x ∷ xs) h =
      let rest = pieces_bounds most (drop n xs) (let l : length (drop n xs) ≡ length xs - n = length-drop n xs in omega (arith, h)) in
      go (drop n xs) (length-drop n xs) rest
    where
      go : (ys : List X) → length ys ≡ length xs - n
          → (length ys ≤ length (pieces (suc n) most ys) * suc n) × (length (pieces (suc n) most ys) * suc n < length ys + suc n)
          → (suc (length xs) ≤ suc (length (pieces (suc n) most ys)) * suc n)
          × (suc (length (pieces (suc n) most ys)) * suc n < suc (length xs) + suc n)
      go [] e b = let none : length (pieces {X = X} (suc n) most []) ≡ 0 = nothing most in
          (omega (arith, e, b.0), (omega (arith, e, ap (λ c. c * suc n) none)))
        where
          nothing : (most : ℕ) → length (pieces {X = X} (suc n) most []) ≡ 0
          nothing zero = refl
          nothing (suc most) = refl
      go (y ∷ ys) e b = (omega (arith, e, b.0), omega (arith, e, b.1))

  -- the pieces are taken after dropping the earlier ones
  pub pieces_at : (most : ℕ) (xs : List X) (k : ℕ) → k < length (pieces (suc n) most xs)
      → slice_get (pieces (suc n) most xs) k ≡ Some (take (suc n) (drop (k * suc n) xs))
  pieces_at zero xs k h = absurd (omega (arith, h))
  pieces_at (suc most) [] k h = absurd (omega (arith, h))
  pieces_at (suc most) (x ∷ xs) zero h = ap (λ m. Some (take (suc n) (drop m (x ∷ xs)))) (let e : 0 ≡ 0 * suc n = omega arith in e)
  pieces_at (suc most) (x ∷ xs) (suc k) h = pieces_at most (drop n xs) k (omega (arith, h))
      ∙ ap (λ ys. Some (take (suc n) ys)) (drop-drop (k * suc n) (suc n) (x ∷ xs))
      ∙ ap (λ m. Some (take (suc n) (drop m (x ∷ xs)))) (let e : suc n + k * suc n ≡ suc k * suc n = omega arith in e)

  pub in_pieces_bounds : (xs : List X)
      → (length xs ≤ length (in_pieces (suc n) xs) * suc n) × (length (in_pieces (suc n) xs) * suc n < length xs + suc n)
  in_pieces_bounds xs = pieces_bounds (length xs) xs (omega arith)

-- numbered elements made into records
pub numbered_list_at : {X Y : Type 0} (make : ℕ × X → Y) (xs : List X) (k : ℕ) (x : X) → slice_get xs k ≡ Some x
    → slice_get (map make (numbered_from 1 xs)) k ≡ Some (make (k + 1, x))
numbered_list_at {X} {Y} make xs k x e = slice_get-map make (numbered_from 1 xs) k
    ∙ ap (option_map make) (numbered_at 1 xs k ∙ ap (option_map {U = ℕ × X} (λ y. (1 + k, y))) e)
    ∙ ap (λ j. Some (make (j, x))) (let f : 1 + k ≡ k + 1 = omega arith in f)

pub numbered_list_length : {X Y : Type 0} (make : ℕ × X → Y) (xs : List X) → length (map make (numbered_from 1 xs)) ≡ length xs
numbered_list_length make xs = length-map (numbered_from 1 xs) make ∙ length-numbered_from 1 xs

-- Only one count of pieces fits a length.
counts_equal : (n l a b : ℕ) → l ≤ a * suc n → a * suc n < l + suc n → l ≤ b * suc n → b * suc n < l + suc n → a ≡ b
counts_equal n l zero zero p q r s = refl
counts_equal n l zero (suc b) p q r s = absurd (omega (arith, p, s))
counts_equal n l (suc a) zero p q r s = absurd (omega (arith, r, q))
counts_equal n l (suc a) (suc b) p q r s =
    ap suc (counts_equal n (l - suc n) a b (omega (arith, p)) (lower a q) (omega (arith, r)) (lower b s))
  where
    lower : (c : ℕ) → suc c * suc n < l + suc n → c * suc n < (l - suc n) + suc n
    lower c h = omega (arith, h)

-- There are as many pieces as the length divided by their size, rounded up.
pub pieces_counted : {X : Type 0} (n : ℕ) (xs : List X) (count : ℕ) → count ≡ length xs
    → count / suc n + min 1 (count % suc n) ≡ length (in_pieces (suc n) xs)
pieces_counted n xs count e =
    let divided = div_ceil_times count (suc n) (omega arith) in
    let packed = in_pieces_bounds n xs in
    counts_equal n (length xs) (count / suc n + min 1 (count % suc n)) (length (in_pieces (suc n) xs))
    (omega (arith, e, divided.0)) (omega (arith, e, divided.1)) packed.0 packed.1

-- an existing piece begins within the list
pub piece_begins : {X : Type 0} (n : ℕ) (xs : List X) (k : ℕ) → k < length (in_pieces (suc n) xs) → k * suc n < length xs
piece_begins n xs k h =
    let more : suc k * suc n ≤ length (in_pieces (suc n) xs) * suc n =
    mul-le (suc k) (suc n) (length (in_pieces (suc n) xs)) (suc n) h (omega arith) in
    omega (arith, (in_pieces_bounds n xs).1, more)
