-- If no open place moves keys, all choices have the keys in one order.
use Rattle.tl_number.proofs.Common.{AreWithin, Bool, DirectedChain, IsKeyOrder, List, OpenPlace, Ordering, Some, [], among_any, ap, arith, cond, directed_chain, drop, false, false_from_ne_true, false≢true, first_seen, first_stood, flat_map, group_at, group_of, grouped, insert, keys_along, length, map, map-append, moved, option_to_list, or_parts, other_way, range_with_len, refl, slice_cmp, slice_get, suc, sym, take, true, turned_by, zero, ℕ, ◌%◌, ◌++◌, ◌+◌, ◌/◌, ◌<◌, ◌∙◌, ◌∷◌, ◌≡◌}
use Rattle.std.specs.List.{list_any}
use Rattle.std.specs.Prelude.{not, ◌||◌}
use Rattle.std.proofs.lemmas.List.{take-append-drop}
use Rattle.std.proofs.lemmas.Nat.{mod_below}
use Rattle.ordered_lists.proofs.ByKey.KeyOrders.{lists_exact}
use Rattle.ordered_lists.proofs.ByKey.Keys.{is_eq-true}
use Rattle.county_chart.specs.Choices.{ways_at}
use Rattle.canonical_form.proofs.Lists.ListPlaces.{get_dropped}
use Rattle.tl_number.specs.MovedKeys.{is_other, moves_keys}
use Rattle.tl_number.proofs.Ties.KeyKinds.{KeyKind, seen_in}
use Rattle.tl_number.proofs.Ties.ComparedChoices.{ComparedChoices}
use Rattle.tl_number.proofs.Ties.Ranks.{in_range}

not_false : (b : Bool) → not b ≡ false → b ≡ true
not_false true e = refl
not_false false e = absurd (false≢true (sym e))

module _ {X K : Type 0} {cmp : K → K → Ordering} (o : IsKeyOrder cmp) (turn : X → X) (keys_of : X → List K) where
  -- an element inserted behind others with its keys
  inserted_still : (i : ℕ) (x : X) (xs : List X) → ((q : ℕ) (y : X) → q < i → slice_get xs q ≡ Some y → keys_of y ≡ keys_of x)
      → map keys_of (insert xs i x) ≡ keys_of x ∷ map keys_of xs
  inserted_still zero x xs same = refl
  inserted_still (suc i) x [] same = refl
  inserted_still (suc i) x (y ∷ ys) same =
      let first : keys_of y ≡ keys_of x = same 0 y (omega arith) refl in
      (λ j. keys_of y ∷ inserted_still i x ys (λ q z l e. same (suc q) z (omega (arith, l)) e) j)
      ∙ (λ j. first j ∷ sym first j ∷ map keys_of ys)

  -- the first of elements, inserted among those after it
  stood_still : (at : OpenPlace) → 0 < at.alike → at.either_way ≡ false → (xs : List X) (n : ℕ)
      → ((q : ℕ) (x y : X) → q < at.alike → slice_get xs 0 ≡ Some x → slice_get xs q ≡ Some y → keys_of y ≡ keys_of x)
      → map keys_of (first_stood turn at xs n).0 ≡ map keys_of xs
  stood_still at some one_way [] n same = refl
  stood_still at some one_way (x ∷ xs) n same =
      let i : ℕ = n % at.alike in
      let low : i < at.alike = mod_below n at.alike some in
      ap (λ y. map keys_of (insert xs i y)) (unturned (n / at.alike))
      ∙ inserted_still i x xs (λ q y l e. same (suc q) x y (omega (arith, l, low)) refl e)
    where
      unturned : (m : ℕ) → turned_by turn (m % ways_at at) x ≡ x
      unturned m =
          let below : m % 1 < 1 = mod_below m 1 (omega arith) in
          let none : m % 1 ≡ 0 = omega (arith, below) in
          ap (λ b. turned_by turn (m % cond b 2 1) x) one_way ∙ ap (λ d. turned_by turn d x) none

  -- elements with the same keys as the one at an open place
  same_behind : (xs : List X) (place behind : ℕ) (x y : X) → is_other cmp (map keys_of xs) place behind ≡ false
      → slice_get xs place ≡ Some x → slice_get xs (place + behind) ≡ Some y → keys_of y ≡ keys_of x
  same_behind xs place behind x y same there other =
      let along : List (List K) = map keys_of xs in
      sym (group_of keys_of xs (place + behind) y other)
      ∙ sym (lists_exact cmp o.exact (group_at along place) (group_at along (place + behind))
      (is_eq-true (slice_cmp cmp (group_at along place) (group_at along (place + behind))) (not_false _ same)))
      ∙ group_of keys_of xs place x there

  -- places that move no keys
  pub moved_still : (places : List OpenPlace) (xs : List X) (n : ℕ) → AreWithin (length xs) places
      → list_any (moves_keys cmp (map keys_of xs)) places ≡ false → map keys_of (moved turn places (xs, n)).0 ≡ map keys_of xs
  moved_still [] xs n within none = refl
  moved_still (at ∷ places) xs n within none =
      let parts = or_parts (moves_keys cmp (map keys_of xs) at) (list_any (moves_keys cmp (map keys_of xs)) places) none in
      let own = or_parts at.either_way (list_any (is_other cmp (map keys_of xs) at.place) (range_with_len 0 at.alike)) parts.0 in
      let ys : List X = (moved turn places (xs, n)).0 in
      let later : map keys_of ys ≡ map keys_of xs = moved_still places xs n within.1 parts.1 in
      map-append keys_of (take at.place ys) (first_stood turn at (drop at.place ys) (moved turn places (xs, n)).1).0
      ∙ ap (λ ks. map keys_of (take at.place ys) ++ ks) (stood_still at within.0.some own.0 (drop at.place ys) (moved turn places (xs, n)).1
      (λ q x y l e f. same_behind ys at.place q x y (ap (λ ks. is_other cmp ks at.place q) later ∙ alike q l own.1)
      (ap (slice_get ys) (let s : at.place ≡ at.place + 0 = omega arith in s) ∙ sym (get_dropped at.place ys 0) ∙ e)
      (sym (get_dropped at.place ys q) ∙ f)))
      ∙ sym (map-append keys_of (take at.place ys) (drop at.place ys)) ∙ ap (map keys_of) (take-append-drop at.place ys)
      ∙ later
    where
      alike : (q : ℕ) → q < at.alike → list_any (is_other cmp (map keys_of xs) at.place) (range_with_len 0 at.alike) ≡ false
          → is_other cmp (map keys_of xs) at.place q ≡ false
      alike q l e = false_from_ne_true (is_other cmp (map keys_of xs) at.place q)
          (λ f. false≢true (sym e ∙ among_any (is_other cmp (map keys_of xs) at.place) q (range_with_len 0 at.alike) (in_range at.alike q l) f))

-- ---- steps of the loops that look for such places

or_none : (b : Bool) → (b || false) ≡ b
or_none true = refl
or_none false = refl

or_assoc : (a b c : Bool) → (a || (b || c)) ≡ ((a || b) || c)
or_assoc true b c = refl
or_assoc false b c = refl

any_next : (test : ℕ → Bool) (first count : ℕ)
    → list_any test (range_with_len first (suc count)) ≡ (list_any test (range_with_len first count) || test (first + count))
any_next test first zero = or_none (test first) ∙ (let t : first ≡ first + 0 = omega arith in ap test t)
any_next test first (suc count) =
    ap (λ b. test first || b) (any_next test (first + 1) count)
    ∙ or_assoc (test first) (list_any test (range_with_len (first + 1) count)) (test (first + 1 + count))
    ∙ (let t : first + 1 + count ≡ first + suc count = omega arith in
    ap (λ place. list_any test (range_with_len first (suc count)) || test place) t)

-- one more number is tested
pub tested_next : (known : Bool) (test : ℕ → Bool) (count : ℕ) (so_far here : Bool)
    → so_far ≡ (known || list_any test (range_with_len 0 count)) → here ≡ test count
    → (so_far || here) ≡ (known || list_any test (range_with_len 0 (count + 1)))
tested_next known test count so_far here is there =
    (λ i. is i || there i)
    ∙ sym (or_assoc known (list_any test (range_with_len 0 count)) (test count))
    ∙ ap (λ b. known || b) ((let t : count ≡ 0 + count = omega arith in ap (λ place. list_any test (range_with_len 0 count) || test place) t)
    ∙ sym (any_next test 0 count) ∙ (let t : suc count ≡ count + 1 = omega arith in ap (λ n. list_any test (range_with_len 0 n)) t))

-- one more element is tested, and then none is left
pub any_passed : {X : Type 0} (test : X → Bool) (x : X) (rest some : List X) (so_far here all : Bool) → some ≡ x ∷ rest → here ≡ test x
    → (so_far || list_any test some) ≡ all → ((so_far || here) || list_any test rest) ≡ all
any_passed test x rest some so_far here all is tested before =
    ap (λ b. (so_far || b) || list_any test rest) tested ∙ sym (or_assoc so_far (test x) (list_any test rest))
    ∙ ap (λ xs. so_far || list_any test xs) (sym is) ∙ before

pub any_done : {X : Type 0} (test : X → Bool) (rest : List X) (so_far all : Bool) → rest ≡ [] → (so_far || list_any test rest) ≡ all → so_far ≡ all
any_done test rest so_far all none before = sym (or_none so_far) ∙ ap (λ xs. so_far || list_any test xs) (sym none) ∙ before

-- So keys first appear in one order in all choices.
pub seen_still : {K : Type 0} {cmp : K → K → Ordering} (kind : KeyKind cmp) (c : ComparedChoices)
    → list_any (moves_keys cmp (keys_along kind.keys c.county c.still.by_shape)) c.still.places ≡ false
    → (n k : ℕ) → seen_in cmp kind.keys c n ≡ seen_in cmp kind.keys c k
seen_still {K} {cmp} kind c none n k = as_by_shape n ∙ sym (as_by_shape k)
  where
    keys_of : DirectedChain → List K
    keys_of directed = flat_map kind.keys (option_to_list (directed_chain c.county directed))

    as_by_shape : (i : ℕ) → seen_in cmp kind.keys c i ≡ first_seen cmp (grouped (keys_along kind.keys c.county c.still.by_shape))
    as_by_shape i = ap (λ along. first_seen cmp (grouped along)) (moved_still kind.order other_way keys_of c.still.places c.still.by_shape (c.digits i) c.inside none)
