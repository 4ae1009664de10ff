-- Chains in the order of their shapes, moved at their open places, are the choice with a number.
use Rattle.canonical_form.proofs.Common.{AgreeApart, AllByRecursion, AreInShapeOrder, ArePlacesInOrder, AreWithin, Bool, County, DirectedChain, HasChainsOf, IsCounty, IsKeyOrder, List, NamesEachOnce, OpenPlace, Ordering, [], alike_few, ap, arith, arranged_tlids, arrangement_of, chosen, cond, directed_shape, drop, drop-map, insert, is_either_way, length, length-map, map, map-append, moved, nat_keys, numbered_choice, open_place_at, open_places, other_way, points_along, points_cmp, points_keys, refl, rules, stood, subst, suc, sym, take, take-map, times, times-permutation, tlid_at, tlids, turned_by, turned_directed, zero, ℕ, ◌%◌, ◌++◌, ◌+◌, ◌/◌, ◌<◌, ◌∙◌, ◌∷◌, ◌≡◌, ◌≤◌}
use Rattle.canonical_form.proofs.Choices.AscendingArrangement.{arrangement_ascend, arrangement_there, shapes_of_order}
use Rattle.canonical_form.proofs.Choices.FixedPlaces.{insert_count, moved_apart, open_in_order}
use Rattle.canonical_form.proofs.Choices.TidyChoices.{numbered_is_choice, shapes_ascending, stated_here}
use Rattle.canonical_form.proofs.Choices.Choosing.{all_insert}
use Rattle.canonical_form.proofs.Choices.MovedChoice.{moved_is}
use Rattle.canonical_form.specs.MovedChains.{IsWithin}

-- a property of elements in either direction is a property of those chosen
chosen_all : {X K : Type 0} (cmp : K → K → Ordering) (either : K → Bool) (key : X → K) (turn : X → X) (P : X → Type 0)
    → ((x : X) → P x → P (turn x)) → (xs : List X) → AllByRecursion P xs → (n : ℕ)
    → AllByRecursion P (chosen cmp either key turn xs n).0
chosen_all cmp either key turn P kept [] a n = tt
chosen_all {X} cmp either key turn P kept (x ∷ xs) a n =
    all_insert P (turned_by turn _ x) _ (chosen cmp either key turn xs n).0 (either_kept _) (chosen_all cmp either key turn P kept xs a.1 n)
  where
    either_kept : (d : ℕ) → P (turned_by turn d x)
    either_kept zero = a.0
    either_kept (suc d) = kept x a.0

-- and there are equally many
chosen_count : {X K : Type 0} (cmp : K → K → Ordering) (either : K → Bool) (key : X → K) (turn : X → X) (xs : List X) (n : ℕ)
    → length (chosen cmp either key turn xs n).0 ≡ length xs
chosen_count cmp either key turn [] n = refl
chosen_count cmp either key turn (x ∷ xs) n =
    insert_count _ (chosen cmp either key turn xs n).0 _ ∙ ap suc (chosen_count cmp either key turn xs n)

-- images of elements, with the same keys and turned as the elements are
module _ {X Y K : Type 0} (cmp : K → K → Ordering) (either : K → Bool) (key : X → K) (turn : X → X) (key_stated : Y → K) (turn_stated : Y → Y)
    (state : X → Y) (turns : (x : X) → state (turn x) ≡ turn_stated (state x)) where
  turned_stated : (d : ℕ) (x : X) → state (turned_by turn d x) ≡ turned_by turn_stated d (state x)
  turned_stated zero x = refl
  turned_stated (suc d) x = turns x

  insert_stated : (xs : List X) (i : ℕ) (x : X) → map state (insert xs i x) ≡ insert (map state xs) i (state x)
  insert_stated xs i x =
      map-append state (take i xs) (x ∷ drop i xs) ∙ (λ j. sym (take-map state i xs) j ++ state x ∷ sym (drop-map state i xs) j)

  stood_stated : (g w : ℕ) (x : X) (later : List X × ℕ)
      → ◌≡◌ {A = List Y × ℕ} (map state (stood turn g w x later).0, (stood turn g w x later).1)
      (stood turn_stated g w (state x) (map state later.0, later.1))
  stood_stated g w x later =
      let put = insert_stated later.0 (later.1 % g) (turned_by turn (later.1 / g % w) x)
      ∙ ap (insert (map state later.0) (later.1 % g)) (turned_stated (later.1 / g % w) x) in
      λ j. (put j, later.1 / g / w)

  chosen_stated : (xs : List X) → map key xs ≡ map key_stated (map state xs) → (n : ℕ)
      → ◌≡◌ {A = List Y × ℕ} (map state (chosen cmp either key turn xs n).0, (chosen cmp either key turn xs n).1)
      (chosen cmp either key_stated turn_stated (map state xs) n)
  chosen_stated [] e n = refl
  chosen_stated (x ∷ xs) e n =
      let here : key x ≡ key_stated (state x) = cc in
      let rest : map key xs ≡ map key_stated (map state xs) = cc in
      stood_stated (suc (times cmp (key x) (map key xs))) (cond (either (key x)) 2 1) x (chosen cmp either key turn xs n)
      ∙ ap (stood turn_stated (suc (times cmp (key x) (map key xs))) (cond (either (key x)) 2 1) (state x)) (chosen_stated xs rest n)
      ∙ (λ j. stood turn_stated (suc (times cmp (here j) (rest j))) (cond (either (here j)) 2 1) (state x)
      (chosen cmp either key_stated turn_stated (map state xs) n))

-- an open place and the elements with its key are within the list
open_within : {K : Type 0} {cmp : K → K → Ordering} (o : IsKeyOrder cmp) (either : K → Bool) (count place : ℕ) (keys : List K)
    → place + length keys ≤ count → AreWithin count (open_places cmp either place keys)
open_within o either count place [] few = tt
open_within {K} {cmp} o either count place (k ∷ ks) few =
    let rest = open_within o either count (suc place) ks (omega (arith, few)) in
    let one : IsWithin count (open_place_at cmp either place k ks) = record { some = omega arith; there = omega (arith, alike_few o (k ∷ ks), few) } in
    search rules

module _ (county : County) (is : IsCounty county) (by_shape : List DirectedChain) (order : AreInShapeOrder county by_shape) (places : List OpenPlace)
    (there : places ≡ open_places points_cmp is_either_way 0 (map (points_along county) by_shape)) where
  pub places_within : AreWithin (length by_shape) places
  places_within = subst (AreWithin (length by_shape)) (sym there)
      (open_within points_keys is_either_way (length by_shape) 0 (map (points_along county) by_shape)
      (let same = length-map by_shape (points_along county) in omega (arith, same)))

  pub places_in_order : ArePlacesInOrder places
  places_in_order = subst ArePlacesInOrder (sym there) (open_in_order points_cmp is_either_way 0 (map (points_along county) by_shape))

  keys_same : map (points_along county) by_shape ≡ map (directed_shape county) (arrangement_of county by_shape)
  keys_same = shapes_of_order county by_shape order ∙ sym (shapes_ascending county is)
      ∙ ap (map (directed_shape county)) (sym (arrangement_ascend county by_shape order by_shape refl))

  module _ (arrangement : List DirectedChain) (n : ℕ) (stated : arrangement ≡ (moved other_way places (by_shape, n)).0) where
    as_chosen : arrangement ≡ (chosen points_cmp is_either_way (points_along county) other_way by_shape n).0
    as_chosen = stated ∙ ap (λ l. (moved other_way l (by_shape, n)).0) there
        ∙ ap (λ r. r.0) (moved_is points_cmp is_either_way (points_along county) other_way by_shape n)

    -- So the moved directed chains are the choice with the number,
    pub arrangement_of_number : arrangement_of county arrangement ≡ numbered_choice county n
    arrangement_of_number =
        ap (arrangement_of county) as_chosen
        ∙ ap (λ r. r.0) (chosen_stated points_cmp is_either_way (points_along county) other_way (directed_shape county) turned_directed
        (λ (directed : DirectedChain). (tlid_at county directed.place, directed.turned)) (λ directed. refl) by_shape keys_same n)
        ∙ ap (λ l. (chosen points_cmp is_either_way (directed_shape county) turned_directed l n).0) (arrangement_ascend county by_shape order by_shape refl)
        ∙ sym (stated_here county is n)

    pub arrangement_of_number_count : length arrangement ≡ length by_shape
    arrangement_of_number_count = ap length as_chosen
        ∙ chosen_count points_cmp is_either_way (points_along county) other_way by_shape n

    -- they stay, except for those moved at open places,
    pub arrangement_of_number_apart : AgreeApart places arrangement by_shape
    arrangement_of_number_apart = subst (λ moving. AgreeApart places moving by_shape) (sym stated) (moved_apart other_way places by_shape n places_within)

    -- each belongs to a chain of the county,
    pub arrangement_of_number_there : HasChainsOf county arrangement
    arrangement_of_number_there = subst (HasChainsOf county) (sym as_chosen)
        (chosen_all points_cmp is_either_way (points_along county) other_way (λ directed. directed.place < length county.chains) (λ directed l. l) by_shape
        (arrangement_there county by_shape order by_shape refl) n)

    -- and each chain occurs once.
    pub arrangement_of_number_once : NamesEachOnce county (arrangement_of county arrangement)
    arrangement_of_number_once = subst (NamesEachOnce county) (sym arrangement_of_number)
        (λ tlid. sym (times-permutation nat_keys tlid (arranged_tlids (numbered_choice county n)) (tlids county)
        (numbered_is_choice county is n).arranges))
