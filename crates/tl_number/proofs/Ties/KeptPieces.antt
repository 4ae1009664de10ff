-- Records made of pieces of chains at kept places: in a county they have the number of the place, and in its small county that of the place
-- among the kept ones.
use Rattle.tl_number.proofs.Common.{AllByRecursion, AllPairs, AllPairs-filter, Bool, List, None, Option, Ordering, Some, [], all_append, all_filter, all_map, all_weaker, ap, ap₂, arith, at_places, cons_option, filter, get_or-range_with_len, get_or_from_slice_get, grouped, length, length-range_with_len, map, map-append, map-map, nat_cmp, numbered_from, one_cmp, ordering_then, range_bounds, range_with_len, refl, same_Some, slice_cmp, slice_get, slice_get_within, some_at, subst, suc, sym, zero, ℕ, ◌++◌, ◌+◌, ◌<◌, ◌∙◌, ◌∷◌, ◌≡◌, ◌≤◌}

-- lists whose elements compare alike in pairs compare alike
pub lists_alike : {V W X : Type 0} (cmp : X → X → Ordering) (f h : V → X) (g k : W → X) (P : V → Type 0) (Q : W → Type 0)
    → ((v : V) (w : W) → P v → Q w → cmp (f v) (g w) ≡ cmp (h v) (k w))
    → (vs : List V) (ws : List W) → AllByRecursion P vs → AllByRecursion Q ws
    → slice_cmp cmp (map f vs) (map g ws) ≡ slice_cmp cmp (map h vs) (map k ws)
lists_alike cmp f h g k P Q alike [] [] p q = refl
lists_alike cmp f h g k P Q alike [] (w ∷ ws) p q = refl
lists_alike cmp f h g k P Q alike (v ∷ vs) [] p q = refl
lists_alike cmp f h g k P Q alike (v ∷ vs) (w ∷ ws) p q =
    ap₂ ordering_then (alike v w p.0 q.0) (lists_alike cmp f h g k P Q alike vs ws p.1 q.1)

-- Places that pass a test compare as their places among them do.
pub kept_order : (test : ℕ → Bool) (count i j p q : ℕ) → slice_get (filter test (range_with_len 0 count)) i ≡ Some p
    → slice_get (filter test (range_with_len 0 count)) j ≡ Some q → nat_cmp (suc p) (suc q) ≡ nat_cmp (suc i) (suc j)
kept_order test count i j p q e f = sym (one_cmp (suc i) (suc j) (suc p) (suc q) (record {
  less = λ l. later i j p q e f (omega (arith, l));
  same = λ s. ap suc (same_Some p q (sym e ∙ ap (slice_get kept) (let t : i ≡ j = omega (arith, s) in t) ∙ f));
  more = λ l. later j i q p f e (omega (arith, l));
}))
  where
    kept : List ℕ
    kept = filter test (range_with_len 0 count)

    pairs : AllPairs (λ x y. x < y) kept
    pairs = AllPairs-filter (λ x y. x < y) test (range_with_len 0 count) (λ m n d l within.
        (let below : n < count = omega (arith, within, length-range_with_len 0 count) in
        let first = get_or-range_with_len 0 count m d (omega (arith, l, below)) in
        let second = get_or-range_with_len 0 count n d below in
        omega (arith, l, first, second)))

    later : (m n x y : ℕ) → slice_get kept m ≡ Some x → slice_get kept n ≡ Some y → m < n → suc x < suc y
    later m n x y g h l = omega (
      arith,
      pairs m n 0 l (slice_get_within kept n y h),
      get_or_from_slice_get kept m x 0 g,
      get_or_from_slice_get kept n y 0 h,
    )

-- ---- pieces of chains at kept places: a chain itself, or one of its further names or address ranges

-- A piece of a chain at a kept place: the place, its place among the kept ones, the chain, and the piece with its number in the chain.
pub record Kept (C Y : Type 0) : Type 0 where
  pub place : ℕ
  pub rank : ℕ
  pub chain : C
  pub number : ℕ
  pub piece : Y

-- a chain is at the place
abbrev pub IsThere : {C : Type 0} → List C → ℕ → Type 0
IsThere {C} cs place = (c : C) × (slice_get cs place ≡ Some c)

-- each place below the length has a chain
pub all_are_there : {C : Type 0} (cs : List C) (test : ℕ → Bool) (count : ℕ) → count ≡ length cs
    → AllByRecursion (IsThere cs) (filter test (range_with_len 0 count))
all_are_there cs test count e = all_filter (IsThere cs) test (range_with_len 0 count)
    (all_weaker (λ q. (0 ≤ q) × (q < 0 + count)) (IsThere cs) (λ q h. some_at cs q (let l = h.1 in omega (arith, l, e))) (range_with_len 0 count) (range_bounds 0 count))

-- reading the chains at kept places
pub chain_at_rank : {C : Type 0} (cs : List C) (places : List ℕ) → AllByRecursion (IsThere cs) places → (rank place : ℕ)
    → slice_get places rank ≡ Some place → slice_get (at_places cs places) rank ≡ slice_get cs place
chain_at_rank cs [] all rank place e = cc
chain_at_rank cs (p ∷ ps) all zero place e =
    ap (λ o. slice_get (cons_option o (at_places cs ps)) 0) all.0.1 ∙ sym all.0.1 ∙ ap (slice_get cs) (same_Some p place e)
chain_at_rank cs (p ∷ ps) all (suc rank) place e =
    ap (λ o. slice_get (cons_option o (at_places cs ps)) (suc rank)) all.0.1 ∙ chain_at_rank cs ps all.1 rank place e

module _ {C Y : Type 0} (pieces : C → List Y) (cs : List C) where
  abbrev piece_at : ℕ → ℕ → C → ℕ × Y → Kept C Y
  piece_at place rank c e = record { place = place; rank = rank; chain = c; number = e.0; piece = e.1 }

  pieces_there : ℕ → ℕ → Option C → List (Kept C Y)
  pieces_there place rank None = []
  pieces_there place rank (Some c) = map (piece_at place rank c) (numbered_from 1 (pieces c))

  -- all pieces of the chains at some places, the first of which has this place among the kept ones
  pub kept_pieces : ℕ → List ℕ → List (Kept C Y)
  kept_pieces rank [] = []
  kept_pieces rank (place ∷ places) = pieces_there place rank (slice_get cs place) ++ kept_pieces (suc rank) places

  pieces_read : {X : Type 0} (g : Kept C Y → X) (place rank : ℕ) (c : C) → slice_get cs place ≡ Some c
      → map g (pieces_there place rank (slice_get cs place)) ≡ map (λ e. g (piece_at place rank c e)) (numbered_from 1 (pieces c))
  unfolding pieces_there
  pieces_read g place rank c e = ap (λ o. map g (pieces_there place rank o)) e ∙ map-map g (piece_at place rank c) (numbered_from 1 (pieces c))

  module _ {X : Type 0} (make : ℕ → ℕ → Y → X) where
    -- the record of a piece in the county, and in its small county
    abbrev pub at_place : Kept C Y → X
    at_place k = make (suc k.place) k.number k.piece

    abbrev pub at_rank : Kept C Y → X
    at_rank k = make (suc k.rank) k.number k.piece

    -- the records of a chain with a number
    abbrev pub made : ℕ → C → List X
    made number c = map (λ e. make number e.0 e.1) (numbered_from 1 (pieces c))

    -- The records at kept places are made of these pieces,
    pub place_groups : (F : ℕ → List X) → ((place : ℕ) (c : C) → slice_get cs place ≡ Some c → F place ≡ made (suc place) c)
        → (rank : ℕ) (places : List ℕ) → AllByRecursion (IsThere cs) places → grouped (map F places) ≡ map at_place (kept_pieces rank places)
    unfolding kept_pieces
    place_groups F is rank [] all = refl
    place_groups F is rank (place ∷ places) all =
        ap₂ (λ xs ys. xs ++ ys) (is place all.0.0 all.0.1 ∙ sym (pieces_read at_place place rank all.0.0 all.0.1)) (place_groups F is (suc rank) places all.1)
        ∙ sym (map-append at_place (pieces_there place rank (slice_get cs place)) (kept_pieces (suc rank) places))

    -- and so are the records of the chains there with new numbers.
    pub rank_groups : (rank : ℕ) (places : List ℕ) → AllByRecursion (IsThere cs) places
        → grouped (map (λ (e : ℕ × C). made e.0 e.1) (numbered_from (suc rank) (at_places cs places))) ≡ map at_rank (kept_pieces rank places)
    unfolding kept_pieces
    rank_groups rank [] all = refl
    rank_groups rank (place ∷ places) all =
        ap (λ o. grouped (map (λ (e : ℕ × C). made e.0 e.1) (numbered_from (suc rank) (cons_option o (at_places cs places))))) all.0.1
        ∙ ap₂ (λ xs ys. xs ++ ys) (sym (pieces_read at_rank place rank all.0.0 all.0.1)) (rank_groups (suc rank) places all.1)
        ∙ sym (map-append at_rank (pieces_there place rank (slice_get cs place)) (kept_pieces (suc rank) places))

  -- The place, the chain and the piece are found where it says.
  pub record IsKept (kept : List ℕ) (k : Kept C Y) : Type 0 where
    pub ranked : slice_get kept k.rank ≡ Some k.place
    pub chain_there : slice_get cs k.place ≡ Some k.chain
    pub index : ℕ
    pub counted : k.number ≡ suc index
    pub piece_there : slice_get (pieces k.chain) index ≡ Some k.piece

  -- an element is at the place that its number says
  all_numbered : (ys : List Y) (n : ℕ)
      → AllByRecursion (λ (e : ℕ × Y). (i : ℕ) × (e.0 ≡ n + i) × (slice_get ys i ≡ Some e.1)) (numbered_from n ys)
  all_numbered [] n = tt
  all_numbered (y ∷ ys) n = (
    (0, (let t : n ≡ n + 0 = omega arith in t), refl),
    all_weaker (λ (e : ℕ × Y). (i : ℕ) × (e.0 ≡ suc n + i) × (slice_get ys i ≡ Some e.1))
        (λ (e : ℕ × Y). (i : ℕ) × (e.0 ≡ n + i) × (slice_get (y ∷ ys) i ≡ Some e.1))
        (λ e h. (suc h.0, (let f = h.1 in omega (arith, f)), h.2)) (numbered_from (suc n) ys) (all_numbered ys (suc n)),
  )

  pub all_kept : (kept : List ℕ) (rank : ℕ) (places : List ℕ) → ((i : ℕ) → slice_get places i ≡ slice_get kept (rank + i))
      → AllByRecursion (IsThere cs) places → AllByRecursion (IsKept kept) (kept_pieces rank places)
  unfolding kept_pieces pieces_there
  all_kept kept rank [] h all = tt
  all_kept kept rank (place ∷ places) h all =
      all_append (IsKept kept) (pieces_there place rank (slice_get cs place)) (kept_pieces (suc rank) places)
      (subst (λ o. AllByRecursion (IsKept kept) (pieces_there place rank o)) (sym all.0.1)
      (all_map (IsKept kept) (piece_at place rank all.0.0) (numbered_from 1 (pieces all.0.0))
      (all_weaker (λ (e : ℕ × Y). (i : ℕ) × (e.0 ≡ 1 + i) × (slice_get (pieces all.0.0) i ≡ Some e.1)) (λ e. IsKept kept (piece_at place rank all.0.0 e))
      (λ e g. record {
        ranked = ap (slice_get kept) (let t : rank ≡ rank + 0 = omega arith in t) ∙ sym (h 0);
        chain_there = all.0.1;
        index = g.0;
        counted = (let f = g.1 in omega (arith, f));
        piece_there = g.2;
      })
      (numbered_from 1 (pieces all.0.0)) (all_numbered (pieces all.0.0) 1))))
      (all_kept kept (suc rank) places
      (λ i. h (suc i) ∙ ap (slice_get kept) (let t : rank + suc i ≡ suc rank + i = omega arith in t)) all.1)
