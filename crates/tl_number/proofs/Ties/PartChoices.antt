-- The choices of a part of a list, and of a county that has some of another county's chains.
use Rattle.tl_number.proofs.Common.{AllByRecursion, Bool, Chain, County, IsCounty, IsInOrder, IsKeyOrder, IsPermutation-map, IsTotalOrder, List, OpenPlace, Ordering, Some, [], all_everywhere, all_filter, all_take, all_weaker, and_parts, ap, arith, ascending, cases_Bool, choices, choices_of_shapes, chosen, comes_turned, cond, cond-false, cond-true, cond_both, count-map, differ_apart, directed_shape, entries_of, entry_shape, eqb-true, false, false≢true, filter, filter-agree_all, filter-filtered, filter-mapped, flat_map, from_permutation, in_order, in_order-in_order, in_order-is_permutation, in_order-map, in_order-unmap, inl, inr, insert, is_either_way, is_eq, is_gt, is_open, is_settled, length, map, map_agree_all, not, not-true, numbered_choice, on, on_total, open_place_at, open_places, order_antisymm, order_itself, points_cmp, points_keys, put_in_order, refl, running, running-same, same-true, same_or_not, shapes, shapes_ascending, slice_get, stated_here, stood, subst, suc, sym, take, take-take, times, times-yes, true, turned_by, turned_directed, upto, zero, ℕ, ⊤, ◌%◌, ◌&&◌, ◌*◌, ◌+◌, ◌/◌, ◌<◌, ◌==◌, ◌∙◌, ◌∷◌, ◌≡◌, ◌≤◌, ◌⊎◌}
use Rattle.tl_number.proofs.Ties.CountyParts.{all_pass}
use Rattle.tl_number.proofs.Ties.Places.{AreMarked, covered_open, later_open}

-- A list can be filtered before or after it's put in order.
module _ {X : Type 0} {by : X → X → Ordering} (o : IsTotalOrder by) (keep : X → Bool) where
  put_first : (x : X) (ys : List X) → AllByRecursion (λ y. is_gt (by x y) ≡ false) ys → put_in_order by x ys ≡ x ∷ ys
  put_first x [] a = refl
  put_first x (y ∷ ys) a = cond-false (is_gt (by x y)) (y ∷ put_in_order by x ys) (x ∷ y ∷ ys) a.0

  put_out : (x : X) (ys : List X) → keep x ≡ false → filter keep (put_in_order by x ys) ≡ filter keep ys
  put_out x [] e = cond-false (keep x) (x ∷ []) [] e
  put_out x (y ∷ ys) e = cond_both (is_gt (by x y)) (y ∷ put_in_order by x ys) (x ∷ y ∷ ys) (λ l. filter keep l ≡ filter keep (y ∷ ys))
      (λ f. ap (λ l. cond (keep y) (y ∷ l) l) (put_out x ys e)) (λ f. cond-false (keep x) (x ∷ filter keep (y ∷ ys)) (filter keep (y ∷ ys)) e)

  put_in : (x : X) (ys : List X) → keep x ≡ true → IsInOrder by ys → filter keep (put_in_order by x ys) ≡ put_in_order by x (filter keep ys)
  put_in x [] e h = cond-true (keep x) (x ∷ []) [] e
  put_in x (y ∷ ys) e h = cond_both (is_gt (by x y)) (y ∷ put_in_order by x ys) (x ∷ y ∷ ys) (λ l. filter keep l ≡ put_in_order by x (filter keep (y ∷ ys)))
      (λ f. ap (λ l. cond (keep y) (y ∷ l) l) (put_in x ys e h.1)
      ∙ cond_both (keep y) (y ∷ filter keep ys) (filter keep ys) (λ l. cond (keep y) (y ∷ put_in_order by x kept) (put_in_order by x kept) ≡ put_in_order by x l)
      (λ g. cond-true (keep y) (y ∷ put_in_order by x kept) (put_in_order by x kept) g
      ∙ sym (cond-true (is_gt (by x y)) (y ∷ put_in_order by x kept) (x ∷ y ∷ kept) f))
      (λ g. cond-false (keep y) (y ∷ put_in_order by x kept) (put_in_order by x kept) g))
      (λ f. cond-true (keep x) (x ∷ filter keep (y ∷ ys)) (filter keep (y ∷ ys)) e
      ∙ sym (put_first x (filter keep (y ∷ ys)) (all_filter (λ z. is_gt (by x z) ≡ false) keep (y ∷ ys)
      (f, all_weaker (λ z. is_gt (by y z) ≡ false) (λ z. is_gt (by x z) ≡ false) (λ z g. upto o x y z f g) ys h.0))))
    where
      kept : List X
      kept = filter keep ys

  pub filter_ordered : (xs : List X) → filter keep (in_order by xs) ≡ in_order by (filter keep xs)
  filter_ordered [] = refl
  filter_ordered (x ∷ xs) =
      cond_both (keep x) (x ∷ filter keep xs) (filter keep xs) (λ l. filter keep (put_in_order by x (in_order by xs)) ≡ in_order by l)
      (λ e. put_in x (in_order by xs) e (in_order-in_order o xs) ∙ ap (put_in_order by x) (filter_ordered xs))
      (λ e. put_out x (in_order by xs) e ∙ filter_ordered xs)

-- those that pass a narrower test pass both
pub filter_narrower : {X : Type 0} (wide narrow : X → Bool) (xs : List X) → AllByRecursion (λ x. narrow x ≡ true → wide x ≡ true) xs
    → filter narrow (filter wide xs) ≡ filter narrow xs
filter_narrower wide narrow xs all = filter-filtered wide narrow xs ∙ filter-agree_all (λ x. wide x && narrow x) narrow xs
    (all_weaker (λ x. narrow x ≡ true → wide x ≡ true) (λ x. (wide x && narrow x) ≡ narrow x) (λ x. both (wide x) (narrow x)) xs all)
  where
    both : (b c : Bool) → (c ≡ true → b ≡ true) → (b && c) ≡ c
    both true c h = refl
    both false true h = h refl
    both false false h = refl

-- keys that are the same for each element select the same
pub chosen_same : {X K : Type 0} (cmp : K → K → Ordering) (either : K → Bool) (key other : X → K) (turn : X → X) (xs : List X)
    → AllByRecursion (λ x. key x ≡ other x) xs → (n : ℕ) → chosen cmp either key turn xs n ≡ chosen cmp either other turn xs n
chosen_same cmp either key other turn [] a n = refl
chosen_same cmp either key other turn (x ∷ xs) a n =
    ap (stood turn (suc (times cmp (key x) (map key xs))) (cond (either (key x)) 2 1) x) (chosen_same cmp either key other turn xs a.1 n)
    ∙ (λ i. stood turn (suc (times cmp (a.0 i) (map_agree_all key other (λ y. key y ≡ other y) (λ y e. e) xs a.1 i))) (cond (either (a.0 i)) 2 1) x
    (chosen cmp either other turn xs n))

module _ {X K : Type 0} {cmp : K → K → Ordering} (o : IsKeyOrder cmp) (either : K → Bool) (key : X → K) (turn : X → X) (keep : X → Bool)
    (turned : (x : X) → keep (turn x) ≡ keep x) where
  -- how often an element's key occurs among later ones
  abbrev pub later_alike : X → List X → ℕ
  later_alike x xs = times cmp (key x) (map key xs)

  -- An element that isn't kept has a unique key that runs one way. Those behind which an element can move are kept, and they're all that
  -- have its key.
  pub record IsKeptOpen (x : X) (xs : List X) : Type 0 where
    pub settled : keep x ≡ false → (later_alike x xs ≡ 0) × (either (key x) ≡ false)
    pub first : AllByRecursion (λ b. b ≡ true) (take (later_alike x xs) (map keep xs))
    pub same : AllByRecursion (λ y. is_eq (cmp (key x) (key y)) ≡ true → keep y ≡ true) xs

  -- the same for each element and those after it
  abbrev pub KeepsOpen : List X → Type 0
  KeepsOpen [] = ⊤
  KeepsOpen (x ∷ xs) = IsKeptOpen x xs × KeepsOpen xs

  -- a key that none left out has occurs as often among those kept
  times_kept : (k : K) (ys : List X) → AllByRecursion (λ y. is_eq (cmp k (key y)) ≡ true → keep y ≡ true) ys
      → times cmp k (map key (filter keep ys)) ≡ times cmp k (map key ys)
  times_kept k ys same = count-map (λ j. is_eq (cmp k j)) key (filter keep ys)
      ∙ ap length (filter_narrower keep (λ y. is_eq (cmp k (key y))) ys same) ∙ sym (count-map (λ j. is_eq (cmp k j)) key ys)

  -- an element inserted behind some that are kept
  filter_insert : (i : ℕ) (x : X) (ys : List X) → keep x ≡ true → AllByRecursion (λ b. b ≡ true) (take i (map keep ys))
      → filter keep (insert ys i x) ≡ insert (filter keep ys) i x
  filter_insert zero x ys e a = cond-true (keep x) (x ∷ filter keep ys) (filter keep ys) e
  filter_insert (suc i) x [] e a = cond-true (keep x) (x ∷ []) [] e
  filter_insert (suc i) x (y ∷ ys) e a =
      cond-true (keep y) (y ∷ filter keep (insert ys i x)) (filter keep (insert ys i x)) a.0 ∙ ap (λ l. y ∷ l) (filter_insert i x ys e a.1)
      ∙ sym (ap (λ l. insert l (suc i) x) (cond-true (keep y) (y ∷ filter keep ys) (filter keep ys) a.0))

  flags_insert : (i : ℕ) (x : X) (ys : List X) → keep x ≡ true → AllByRecursion (λ b. b ≡ true) (take i (map keep ys))
      → map keep (insert ys i x) ≡ true ∷ map keep ys
  flags_insert zero x ys e a = ap (λ b. b ∷ map keep ys) e
  flags_insert (suc i) x [] e a = ap (λ b. b ∷ []) e
  flags_insert (suc i) x (y ∷ ys) e a = (λ j. keep y ∷ flags_insert i x ys e a.1 j) ∙ (λ j. a.0 j ∷ sym a.0 j ∷ map keep ys)

  turned_kept : (d : ℕ) (x : X) → keep (turned_by turn d x) ≡ keep x
  turned_kept zero x = refl
  turned_kept (suc d) x = turned x

  -- an element that no choice moves or turns stays first
  stood_settled : (t w : ℕ) (x : X) (later : List X × ℕ) → t ≡ 0 → w ≡ 1 → stood turn (suc t) w x later ≡ (x ∷ later.0, later.1)
  stood_settled t w x later none one =
      let first : later.1 % 1 ≡ 0 = omega arith in
      let way : later.1 / 1 % 1 ≡ 0 = omega arith in
      let rest : later.1 / 1 / 1 ≡ later.1 = omega arith in
      (λ j. stood turn (suc (none j)) (one j) x later) ∙ (λ j. (insert later.0 (first j) (turned_by turn (way j) x), rest j))

  -- Selecting from those kept selects the same as selecting from all, and places that are kept stay kept.
  pub record IsChosenPart (xs : List X) (n : ℕ) : Type 0 where
    pub flags : map keep (chosen cmp either key turn xs n).0 ≡ map keep xs
    pub part : ◌≡◌ {A = List X × ℕ} (chosen cmp either key turn (filter keep xs) n)
        (filter keep (chosen cmp either key turn xs n).0, (chosen cmp either key turn xs n).1)

  pub chosen_part : (xs : List X) → KeepsOpen xs → (n : ℕ) → IsChosenPart xs n
  chosen_part [] h n = record { flags = refl; part = refl }
  chosen_part (x ∷ xs) h n = go (keep x) refl (chosen_part xs h.1 n)
    where
      later : List X × ℕ
      later = chosen cmp either key turn xs n

      t : ℕ
      t = later_alike x xs

      w : ℕ
      w = cond (either (key x)) 2 1

      go : (b : Bool) → keep x ≡ b → IsChosenPart xs n → IsChosenPart (x ∷ xs) n
      go true e ih =
          let i : ℕ = later.1 % suc t in
          let moved : X = turned_by turn (later.1 / suc t % w) x in
          let few : i ≤ t = omega arith in
          let moved_kept : keep moved ≡ true = turned_kept (later.1 / suc t % w) x ∙ e in
          let ahead : AllByRecursion (λ b. b ≡ true) (take i (map keep later.0)) =
          subst (λ bs. AllByRecursion (λ b. b ≡ true) (take i bs)) (sym ih.flags)
          (subst (AllByRecursion (λ b. b ≡ true)) (take-take i t (map keep xs) few) (all_take (λ b. b ≡ true) i (take t (map keep xs)) h.0.first)) in
          record {
            flags = flags_insert i moved later.0 moved_kept ahead ∙ (λ j. sym e j ∷ ih.flags j);
            part = ap (λ l. chosen cmp either key turn l n) (cond-true (keep x) (x ∷ filter keep xs) (filter keep xs) e)
                ∙ (λ j. stood turn (suc (times_kept (key x) xs h.0.same j)) w x (ih.part j))
                ∙ (λ j. (sym (filter_insert i moved later.0 moved_kept ahead) j, later.1 / suc t / w));
          }
      go false e ih =
          let settled = h.0.settled e in
          let stays : ◌≡◌ {A = List X × ℕ} (stood turn (suc t) w x later) (x ∷ later.0, later.1) =
          stood_settled t w x later settled.0 (cond-false (either (key x)) 2 1 settled.1) in
          record {
            flags = ap (λ (r : List X × ℕ). map keep r.0) stays ∙ ap (λ l. keep x ∷ l) ih.flags;
            part = ap (λ l. chosen cmp either key turn l n) (cond-false (keep x) (x ∷ filter keep xs) (filter keep xs) e) ∙ ih.part
                ∙ (λ j. (sym (cond-false (keep x) (x ∷ filter keep later.0) (filter keep later.0) e) j, later.1))
                ∙ (λ j. (filter keep (sym stays j).0, (sym stays j).1));
          }

  -- and as many choices are left open
  pub running_part : (xs : List X) → KeepsOpen xs → running cmp either (map key (filter keep xs)) ≡ running cmp either (map key xs)
  running_part [] h = refl
  running_part (x ∷ xs) h = cond_both (keep x) (x ∷ filter keep xs) (filter keep xs)
      (λ l. running cmp either (map key l) ≡ running cmp either (map key (x ∷ xs)))
      (λ e i. suc (times_kept (key x) xs h.0.same i) * (cond (either (key x)) 2 1 * running_part xs h.1 i))
      (λ e. (let settled = h.0.settled e in
      let r : ℕ = running cmp either (map key xs) in
      let once : r ≡ 1 * (1 * r) = omega arith in
      running_part xs h.1 ∙ once ∙ (λ i. suc (sym settled.0 i) * (cond (sym settled.1 i) 2 1 * r))))

-- ---- a list that is in order and keeps its elements at open places keeps all that a choice moves or turns

module _ {X K : Type 0} {cmp : K → K → Ordering} (o : IsKeyOrder cmp) (either : K → Bool) (key : X → K) (turn : X → X) (keep : X → Bool)
    (turned : (x : X) → keep (turn x) ≡ keep x) where
  -- in order, the elements with the key of an earlier one come first
  same_kept : (k : K) (ys : List X) → IsInOrder (on key cmp) ys → AllByRecursion (λ y. is_gt (cmp k (key y)) ≡ false) ys
      → AllByRecursion (λ b. b ≡ true) (take (times cmp k (map key ys)) (map keep ys))
      → AllByRecursion (λ y. is_eq (cmp k (key y)) ≡ true → keep y ≡ true) ys
  same_kept k [] h a f = tt
  same_kept k (y ∷ ys) h a f = go (same_or_not o k (key y)) (same_kept k ys h.1 a.1)
    where
      go : (k ≡ key y) ⊎ (is_eq (cmp k (key y)) ≡ false)
          → (AllByRecursion (λ b. b ≡ true) (take (times cmp k (map key ys)) (map keep ys))
          → AllByRecursion (λ z. is_eq (cmp k (key z)) ≡ true → keep z ≡ true) ys)
          → AllByRecursion (λ z. is_eq (cmp k (key z)) ≡ true → keep z ≡ true) (y ∷ ys)
      go (inl same) ih =
          let first : AllByRecursion (λ b. b ≡ true) (keep y ∷ take (times cmp k (map key ys)) (map keep ys)) =
          subst (λ n. AllByRecursion (λ b. b ≡ true) (take n (map keep (y ∷ ys)))) (times-yes o k (key y) (map key ys) same) f in
          ((λ e. first.0), ih first.1)
      go (inr ne) ih = all_weaker (λ z. is_gt (cmp (key y) (key z)) ≡ false) (λ z. is_eq (cmp k (key z)) ≡ true → keep z ≡ true)
          (λ z g e. absurd (differ_apart o k (key y) ne (order_antisymm o k (key y) a.0
          (subst (λ j. is_gt (cmp (key y) j) ≡ false) (sym (same-true o k (key z) e)) g)))) (y ∷ ys) (order_itself o (key y), h.0)

  first_kept : (t : ℕ) (xs : List X) → ((i : ℕ) (x : X) → i < t → slice_get xs i ≡ Some x → keep x ≡ true)
      → AllByRecursion (λ b. b ≡ true) (take t (map keep xs))
  first_kept zero xs h = tt
  first_kept (suc t) [] h = tt
  first_kept (suc t) (x ∷ xs) h = (h 0 x (omega arith) refl, first_kept t xs (λ i y l e. h (suc i) y (omega (arith, l)) e))

  pub keeps_open : (kept : ℕ → Bool) (place : ℕ) (xs : List X) → IsInOrder (on key cmp) xs → AreMarked keep (λ i. kept (place + i)) xs
      → ((p : ℕ) → is_open (open_places cmp either place (map key xs)) p ≡ true → kept p ≡ true)
      → KeepsOpen o either key turn keep turned xs
  keeps_open kept place [] h marked opened = tt
  keeps_open kept place (x ∷ xs) h marked opened = (
    record { settled = settled; first = first; same = same_kept (key x) xs h.1 h.0 first },
    keeps_open kept (suc place) xs h.1
        (λ i y e. marked (suc i) y e ∙ ap kept (let t : place + suc i ≡ suc place + i = omega arith in t))
        (λ p e. opened p (cond_both (is_settled at) rest (at ∷ rest) (λ l. is_open l p ≡ true) (λ s. e) (λ s. later_open p at rest e))),
  )
    where
      t : ℕ
      t = times cmp (key x) (map key xs)

      at : OpenPlace
      at = open_place_at cmp either place (key x) (map key xs)

      rest : List OpenPlace
      rest = open_places cmp either (suc place) (map key xs)

      alone : is_settled at ≡ true → (t ≡ 0) × (either (key x) ≡ false)
      alone e = let parts = and_parts (suc t == 1) (not (either (key x))) e in
          let one : suc t ≡ 1 = eqb-true (suc t) 1 parts.0 in (omega (arith, one), not-true (either (key x)) parts.1)

      covered : is_settled at ≡ false → (i : ℕ) (y : X) → i < suc t → slice_get (x ∷ xs) i ≡ Some y → keep y ≡ true
      covered s i y l e = marked i y e ∙ opened (place + i) (ap (λ b. is_open (cond b rest (at ∷ rest)) (place + i)) s
          ∙ covered_open (place + i) at rest (omega arith, omega (arith, l)))

      settled : keep x ≡ false → (t ≡ 0) × (either (key x) ≡ false)
      settled e = go (cases_Bool (is_settled at))
        where
          go : (is_settled at ≡ true) ⊎ (is_settled at ≡ false) → (t ≡ 0) × (either (key x) ≡ false)
          go (inl s) = alone s
          go (inr s) = absurd (false≢true (sym e ∙ covered s 0 x (omega arith) refl))

      first : AllByRecursion (λ b. b ≡ true) (take t (map keep xs))
      first = first_kept t xs (λ i y l e. go i y l e (cases_Bool (is_settled at)))
        where
          go : (i : ℕ) (y : X) → i < t → slice_get xs i ≡ Some y → (is_settled at ≡ true) ⊎ (is_settled at ≡ false) → keep y ≡ true
          go i y l e (inl s) = absurd (omega (arith, l, (alone s).0))
          go i y l e (inr s) = covered s (suc i) y (omega (arith, l)) e

-- ---- if a county has some of another county's chains, with all at open places, its choices are parts of the other county's choices

-- the ascending arrangement of a county: its shapes are in order, and as many choices are left open
module _ (county : County) where
  abbrev ordered : List (ℕ × Chain)
  ordered = in_order (on entry_shape points_cmp) county.chains

  pub ascending_ordered : IsCounty county → IsInOrder (on (directed_shape county) points_cmp) (ascending county)
  ascending_ordered is = in_order-unmap points_cmp (directed_shape county) (ascending county)
      (subst (IsInOrder points_cmp) (sym (shapes_ascending county is))
      (in_order-map points_cmp entry_shape ordered (in_order-in_order (on_total entry_shape points_keys.total) county.chains)))

  ascending_choices : IsCounty county → running points_cmp is_either_way (map (directed_shape county) (ascending county)) ≡ choices county
  ascending_choices is = ap (running points_cmp is_either_way) (shapes_ascending county is)
      ∙ running-same points_keys is_either_way (map entry_shape ordered) (shapes county)
      (from_permutation (map entry_shape ordered) (shapes county)
      (IsPermutation-map entry_shape ordered county.chains (in_order-is_permutation (on entry_shape points_cmp) county.chains)))
      ∙ choices_of_shapes county

module _ (county small : County) (keep : ℕ → Bool) (chains_are : small.chains ≡ filter (λ entry. keep entry.0) county.chains) where
  -- whether a directed chain is kept
  abbrev pub keeps_directed : ℕ × Bool → Bool
  keeps_directed directed = keep directed.0

  ascending_part : ascending small ≡ filter keeps_directed (ascending county)
  ascending_part =
      let directed : ℕ × Chain → ℕ × Bool = λ entry. (entry.0, comes_turned entry.1) in
      ap (λ es. map directed (in_order (on entry_shape points_cmp) es)) chains_are
      ∙ ap (map directed) (sym (filter_ordered (on_total entry_shape points_keys.total) (λ (entry : ℕ × Chain). keep entry.0) county.chains))
      ∙ sym (filter-mapped keeps_directed directed (ordered county))

  -- the entries with a TLID that is kept are kept, so a chain has its shape
  pub entries_part : (tlid : ℕ) → keep tlid ≡ true → entries_of small.chains tlid ≡ entries_of county.chains tlid
  entries_part tlid e = ap (λ es. entries_of es tlid) chains_are
      ∙ filter_narrower (λ (entry : ℕ × Chain). keep entry.0) (λ entry. entry.0 == tlid) county.chains
      (all_everywhere (λ (entry : ℕ × Chain). (entry.0 == tlid) ≡ true → keep entry.0 ≡ true) (λ entry s. ap keep (eqb-true entry.0 tlid s) ∙ e) county.chains)

  shape_part : (directed : ℕ × Bool) → keeps_directed directed ≡ true → directed_shape small directed ≡ directed_shape county directed
  shape_part directed e = ap (flat_map entry_shape) (entries_part directed.0 e)

  -- If the chains at open places are kept,
  module _ (opened : KeepsOpen points_keys is_either_way (directed_shape county) turned_directed keeps_directed (λ d. refl) (ascending county)) where
    both_choices : (n : ℕ)
        → IsChosenPart points_keys is_either_way (directed_shape county) turned_directed keeps_directed (λ d. refl) (ascending county) n
    both_choices = chosen_part points_keys is_either_way (directed_shape county) turned_directed keeps_directed (λ d. refl)
        (ascending county) opened

    -- a choice of the small county is what is kept of the choice with its number,
    pub choice_part : IsCounty county → IsCounty small → (n : ℕ) → numbered_choice small n ≡ filter keeps_directed (numbered_choice county n)
    choice_part is is_small n =
        stated_here small is_small n
        ∙ ap (λ ds. (chosen points_cmp is_either_way (directed_shape small) turned_directed ds n).0) ascending_part
        ∙ ap (λ r. r.0) (chosen_same points_cmp is_either_way (directed_shape small) (directed_shape county) turned_directed
        (filter keeps_directed (ascending county)) (all_weaker (λ d. keeps_directed d ≡ true) (λ d. directed_shape small d ≡ directed_shape county d)
        shape_part (filter keeps_directed (ascending county)) (all_pass keeps_directed (ascending county))) n)
        ∙ ap (λ r. r.0) (both_choices n).part
        ∙ ap (filter keeps_directed) (sym (stated_here county is n))

    -- which is at the places where the ascending arrangement has kept chains,
    pub choice_flags : IsCounty county → (n : ℕ) → map keeps_directed (numbered_choice county n) ≡ map keeps_directed (ascending county)
    choice_flags is n = ap (map keeps_directed) (stated_here county is n) ∙ (both_choices n).flags

    -- and it has as many choices.
    pub choices_part : IsCounty county → IsCounty small → choices small ≡ choices county
    choices_part is is_small =
        sym (ascending_choices small is_small)
        ∙ ap (λ ds. running points_cmp is_either_way (map (directed_shape small) ds)) ascending_part
        ∙ ap (running points_cmp is_either_way) (map_agree_all (directed_shape small) (directed_shape county) (λ d. keeps_directed d ≡ true) shape_part
        (filter keeps_directed (ascending county)) (all_pass keeps_directed (ascending county)))
        ∙ running_part points_keys is_either_way (directed_shape county) turned_directed keeps_directed (λ d. refl) (ascending county) opened
        ∙ ascending_choices county is
