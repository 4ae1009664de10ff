-- Choices selected by numbers: each number selects a choice, and each choice has a number below the count of choices.
use Rattle.canonical_form.proofs.Common.{AllByRecursion, Bool, IsInOrder, IsKeyOrder, IsPermutation, IsPermutation-insert, IsPermutation-map, IsPermutation-sym, IsPermutation-trans, IsTotalOrder, Known, List, Ordering, [], all_append, all_drop, all_known, all_map, all_take, all_unmap, ap, arith, below_more, chosen, cond, count-in_order, div-mul-add, drop, false, in_order, in_order-equal, in_order-in_order, in_order-is_permutation, inl, inr, insert, is_eq, is_gt, known_all, length, map, map-map, mod-mul-add, mod_below, mul-add-lt, mul-le, nat_cmp, nat_keys, not_greater, on, order_antisymm, order_itself, refl, running, same_or_not, stood, subst, suc, sym, take, tied_itself, times, times-no, times-permutation, times-yes, true, turned_by, upto, zero, ℕ, ◌%◌, ◌*◌, ◌+◌, ◌/◌, ◌<◌, ◌∙◌, ◌∷◌, ◌≡◌, ◌≤◌, ◌⊎◌}

-- keys that occur equally often in two lists
pub permutation_of_times : {K : Type 0} {cmp : K → K → Ordering} (o : IsKeyOrder cmp) (xs ys : List K)
    → ((k : K) → times cmp k xs ≡ times cmp k ys) → IsPermutation xs ys
permutation_of_times {K} {cmp} o xs ys h =
    let same : in_order cmp xs ≡ in_order cmp ys =
    in_order-equal o (in_order cmp xs) (in_order cmp ys) (in_order-in_order o.total xs) (in_order-in_order o.total ys)
    (λ k. count-in_order (λ j. is_eq (cmp k j)) cmp xs ∙ h k ∙ sym (count-in_order (λ j. is_eq (cmp k j)) cmp ys)) in
    IsPermutation-trans xs (in_order cmp xs) ys (IsPermutation-sym (in_order cmp xs) xs (in_order-is_permutation cmp xs))
    (subst (λ zs. IsPermutation zs ys) (sym same) (in_order-is_permutation cmp ys))

times-more : {K : Type 0} {cmp : K → K → Ordering} (o : IsKeyOrder cmp) (k j : K) (xs ys : List K) → times cmp k xs ≡ times cmp k ys
    → times cmp k (j ∷ xs) ≡ times cmp k (j ∷ ys)
times-more o k j xs ys e = grind (arith, same_or_not o k j, times-yes o k j xs, times-yes o k j ys, times-no o k j xs, times-no o k j ys)

times-cancel : {K : Type 0} {cmp : K → K → Ordering} (o : IsKeyOrder cmp) (k j : K) (xs ys : List K)
    → times cmp k (j ∷ xs) ≡ times cmp k (j ∷ ys) → times cmp k xs ≡ times cmp k ys
times-cancel o k j xs ys e = grind (arith, same_or_not o k j, times-yes o k j xs, times-yes o k j ys, times-no o k j xs, times-no o k j ys)

-- an element inserted among others
pub all_insert : {X : Type 0} (P : X → Type 0) (x : X) (i : ℕ) (xs : List X) → P x → AllByRecursion P xs → AllByRecursion P (insert xs i x)
all_insert P x i xs p a = all_append P (take i xs) (x ∷ drop i xs) (all_take P i xs a) (p, all_drop P i xs a)

all_inserted : {X : Type 0} (P : X → Type 0) (x : X) (i : ℕ) (xs : List X) → AllByRecursion P (insert xs i x) → P x × AllByRecursion P xs
all_inserted P x zero xs a = (a.0, a.1)
all_inserted P x (suc i) [] a = (a.0, tt)
all_inserted P x (suc i) (y ∷ ys) a = let rest = all_inserted P x i ys a.1 in (rest.0, (a.0, rest.1))

in_order-inserted : {X : Type 0} (by : X → X → Ordering) (x : X) (i : ℕ) (xs : List X) → IsInOrder by (insert xs i x) → IsInOrder by xs
in_order-inserted by x zero xs h = h.1
in_order-inserted by x (suc i) [] h = tt
in_order-inserted by x (suc i) (y ∷ ys) h =
    ((all_inserted (λ z. is_gt (by y z) ≡ false) x i ys h.0).1, in_order-inserted by x i ys h.1)

-- the element with a number, taken out
taken_out : {X : Type 0} (name : X → ℕ) (n : ℕ) (xs : List X) → Known nat_cmp (map name xs) n
    → (i : ℕ) × (x : X) × (rest : List X) × (name x ≡ n) × (xs ≡ insert rest i x) × (i ≤ length rest)
taken_out name n [] k = absurd (omega (arith, k))
taken_out {X} name n (x ∷ xs) k = go (same_or_not nat_keys n (name x)) (taken_out name n xs)
  where
    go : (n ≡ name x) ⊎ (is_eq (nat_cmp n (name x)) ≡ false)
        → (Known nat_cmp (map name xs) n
        → (i : ℕ) × (y : X) × (rest : List X) × (name y ≡ n) × (xs ≡ insert rest i y) × (i ≤ length rest))
        → (i : ℕ) × (y : X) × (rest : List X) × (name y ≡ n) × (x ∷ xs ≡ insert rest i y) × (i ≤ length rest)
    go (inl e) ih = (0, x, xs, sym e, refl, omega arith)
    go (inr ne) ih =
        let found = ih (omega (arith, k, times-no nat_keys n (name x) (map name xs) ne)) in
        (suc found.0, found.1, x ∷ found.2, found.3, ap (λ ys. x ∷ ys) found.4, (let l : found.0 ≤ length found.2 = found.5 in omega arith))

-- a number's last two digits, and the rest of it
pub stood-digits : {X : Type 0} (turn : X → X) (g w : ℕ) (x : X) (later : List X) (i d q : ℕ) → i < g → d < w
    → stood turn g w x (later, (q * w + d) * g + i) ≡ (insert later i (turned_by turn d x), q)
stood-digits turn g w x later i d q below_g below_w =
    let last : ((q * w + d) * g + i) % g ≡ i = mod-mul-add (q * w + d) g i below_g in
    let left : ((q * w + d) * g + i) / g ≡ q * w + d = div-mul-add (q * w + d) g i below_g in
    let next : ((q * w + d) * g + i) / g % w ≡ d = ap (λ n. n % w) left ∙ mod-mul-add q w d below_w in
    let rest : ((q * w + d) * g + i) / g / w ≡ q = ap (λ n. n / w) left ∙ div-mul-add q w d below_w in
    λ j. (insert later (last j) (turned_by turn (next j) x), rest j)

-- there are one or two digits
pub some_digit : (b : Bool) → 0 < cond b 2 1
some_digit true = omega arith
some_digit false = omega arith

-- of the values of the numbers below a bound, one comes after none of the others
module _ {T : Type 0} {cmp : T → T → Ordering} (o : IsTotalOrder cmp) (f : ℕ → T) where
  abbrev IsLeastBelow : ℕ → ℕ → Type 0
  IsLeastBelow bound n = (m : ℕ) → m < bound → is_gt (cmp (f n) (f m)) ≡ false

  pub one_more : (bound n : ℕ) → IsLeastBelow bound n → is_gt (cmp (f n) (f bound)) ≡ false → IsLeastBelow (bound + 1) n
  one_more bound n = below_more (λ m. is_gt (cmp (f n) (f m)) ≡ false) bound

  itself : (n : ℕ) → is_gt (cmp (f n) (f n)) ≡ false
  itself n = ap is_gt (tied_itself o (f n))

  pub least_number : (count : ℕ) → 0 < count → (n : ℕ) × (n < count) × IsLeastBelow count n
  least_number zero some = absurd (omega (arith, some))
  least_number (suc zero) some = (0, omega arith, one_more 0 0 (λ m below. absurd (omega (arith, below))) (itself 0))
  least_number (suc (suc count)) some = go (least_number (suc count) (omega arith))
    where
      pick : (n : ℕ) → n < suc count → IsLeastBelow (suc count) n → (b : Bool) → is_gt (cmp (f n) (f (suc count))) ≡ b
          → (k : ℕ) × (k < suc (suc count)) × IsLeastBelow (suc (suc count)) k
      pick n below least false e = (n, omega (arith, below), λ m l. one_more (suc count) n least e m (omega (arith, l)))
      pick n below least true e =
          let turned : is_gt (cmp (f (suc count)) (f n)) ≡ false =
          not_greater (cmp (f n) (f (suc count))) (cmp (f (suc count)) (f n)) (o.antisymm (f n) (f (suc count))) e in (
            suc count,
            omega arith,
            (λ k under. one_more (suc count) (suc count) (λ m l. upto o (f (suc count)) (f n) (f m) turned (least m l)) (itself (suc count)) k
                (omega (arith, under))),
          )

      go : (n : ℕ) × (n < suc count) × IsLeastBelow (suc count) n → (k : ℕ) × (k < suc (suc count)) × IsLeastBelow (suc (suc count)) k
      go r = pick r.0 r.1 r.2 (is_gt (cmp (f r.0) (f (suc count)))) refl

-- Elements that each have a name, a key that depends on the name, and a turn that keeps the name.
module _ {X K : Type 0} {cmp : K → K → Ordering} (o : IsKeyOrder cmp) (either : K → Bool) (name : X → ℕ) (key : ℕ → K) (turn : X → X)
    (named : (x : X) → name (turn x) ≡ name x) where
  abbrev pub key_of : X → K
  key_of x = key (name x)

  abbrev pub stated : List X → ℕ → List X × ℕ
  stated xs n = chosen cmp either key_of turn xs n

  -- if names occur equally often, so do keys
  keys_stated : (xs ys : List X) → ((n : ℕ) → times nat_cmp n (map name xs) ≡ times nat_cmp n (map name ys)) → (k : K)
      → times cmp k (map key_of xs) ≡ times cmp k (map key_of ys)
  keys_stated xs ys h k =
      ap (times cmp k) (sym (map-map key name xs))
      ∙ sym (times-permutation o k (map key (map name xs)) (map key (map name ys))
      (IsPermutation-map key (map name xs) (map name ys) (permutation_of_times nat_keys (map name xs) (map name ys) h)))
      ∙ ap (times cmp k) (map-map key name ys)

  all_keys : (P : K → Type 0) (xs ys : List X) → ((n : ℕ) → times nat_cmp n (map name xs) ≡ times nat_cmp n (map name ys))
      → AllByRecursion (λ x. P (key_of x)) xs → AllByRecursion (λ y. P (key_of y)) ys
  all_keys P xs ys h a =
      all_unmap P key_of ys
      (all_known o P (map key_of ys)
      (λ k l. known_all o P (map key_of xs) (all_map P key_of xs a) k (omega (arith, l, keys_stated xs ys h k))))

  times-insert : (n i : ℕ) (x : X) (xs : List X) → times nat_cmp n (map name (insert xs i x)) ≡ times nat_cmp n (name x ∷ map name xs)
  times-insert n i x xs = times-permutation nat_keys n (name x ∷ map name xs) (map name (insert xs i x))
      (IsPermutation-map name (x ∷ xs) (insert xs i x) (IsPermutation-insert xs i x))

  -- an element whose key comes after none keeps the order if it moves behind at most as many elements as have its key
  insert-in_order : (x : X) (i : ℕ) (xs : List X) → AllByRecursion (λ y. is_gt (cmp (key_of x) (key_of y)) ≡ false) xs
      → IsInOrder (on key_of cmp) xs → i ≤ times cmp (key_of x) (map key_of xs) → IsInOrder (on key_of cmp) (insert xs i x)
  insert-in_order x zero xs a h few = (a, h)
  insert-in_order x (suc i) [] a h few = (tt, tt)
  insert-in_order x (suc i) (y ∷ ys) a h few = (
    all_insert (λ z. is_gt (cmp (key_of y) (key_of z)) ≡ false) x i ys (subst (λ k. is_gt (cmp (key_of y) k) ≡ false) (sym same)
        (order_itself o (key_of y))) h.0,
    insert-in_order x i ys a.1 h.1 (omega (arith, few, times-yes o (key_of x) (key_of y) (map key_of ys) same)),
  )
    where
      same : key_of x ≡ key_of y
      same = go (same_or_not o (key_of x) (key_of y))
        where
          go : (key_of x ≡ key_of y) ⊎ (is_eq (cmp (key_of x) (key_of y)) ≡ false) → key_of x ≡ key_of y
          go (inl e) = e
          go (inr ne) =
              let later : Known cmp (map key_of ys) (key_of x) =
              omega (arith, few, times-no o (key_of x) (key_of y) (map key_of ys) ne) in
              let back : is_gt (cmp (key_of y) (key_of x)) ≡ false =
              known_all o (λ k. is_gt (cmp (key_of y) k) ≡ false) (map key_of ys)
              (all_map (λ k. is_gt (cmp (key_of y) k) ≡ false) key_of ys h.0) (key_of x) later in
              order_antisymm o (key_of x) (key_of y) a.0 back

  -- and if the order is kept, it moves behind at most that many
  inserted-few : (x : X) (i : ℕ) (xs : List X) → i ≤ length xs → AllByRecursion (λ y. is_gt (cmp (key_of x) (key_of y)) ≡ false) xs
      → IsInOrder (on key_of cmp) (insert xs i x) → i ≤ times cmp (key_of x) (map key_of xs)
  inserted-few x zero xs within a h = omega arith
  inserted-few x (suc i) [] within a h = absurd (omega (arith, within))
  inserted-few x (suc i) (y ∷ ys) within a h =
      let back = (all_inserted (λ z. is_gt (cmp (key_of y) (key_of z)) ≡ false) x i ys h.0).0 in
      let same : key_of x ≡ key_of y = order_antisymm o (key_of x) (key_of y) a.0 back in
      omega (arith, times-yes o (key_of x) (key_of y) (map key_of ys) same, inserted-few x i ys (omega (arith, within)) a.1 h.1)

  -- permitted elements: an element may be turned only if its key can run either way
  module _ (L : X → Type 0) (turned : (x : X) → L x → either (key_of x) ≡ true → L (turn x))
      (one_way : (x y : X) → name y ≡ name x → L x → L y → (y ≡ x) ⊎ ((either (key_of x) ≡ true) × (y ≡ turn x))) where
    -- the elements of a list, each equally often, permitted and in order
    pub record IsChosen (xs ys : List X) : Type 0 where
      pub names : (n : ℕ) → times nat_cmp n (map name ys) ≡ times nat_cmp n (map name xs)
      pub lawful : AllByRecursion L ys
      pub ordered : IsInOrder (on key_of cmp) ys

    turned_lawful : (x : X) → L x → (b : Bool) → either (key_of x) ≡ b → (n : ℕ) → L (turned_by turn (n % cond b 2 1) x)
    turned_lawful x l true e n = go (n % 2)
      where
        go : (d : ℕ) → L (turned_by turn d x)
        go zero = l
        go (suc d) = turned x l e
    turned_lawful x l false e n =
        let none : n % 1 ≡ 0 = (let t = mod_below n 1 (omega arith) in omega (arith, t)) in
        subst (λ d. L (turned_by turn d x)) (sym none) l

    turned_named : (x : X) (d : ℕ) → name (turned_by turn d x) ≡ name x
    turned_named x zero = refl
    turned_named x (suc d) = named x

    put : (x : X) (xs : List X) → L x → AllByRecursion (λ y. is_gt (cmp (key_of x) (key_of y)) ≡ false) xs → (later : List X) (n : ℕ)
        → IsChosen xs later
        → IsChosen (x ∷ xs) (stood turn (suc (times cmp (key_of x) (map key_of xs))) (cond (either (key_of x)) 2 1) x (later, n)).0
    put x xs l a later n c =
        let g : ℕ = suc (times cmp (key_of x) (map key_of xs)) in
        let i : ℕ = n % g in
        let d : ℕ = n / g % cond (either (key_of x)) 2 1 in
        let t : X = turned_by turn d x in
        let same : name t ≡ name x = turned_named x d in
        let below : i < g = mod_below n g (omega arith) in
        let keys : times cmp (key_of x) (map key_of later) ≡ times cmp (key_of x) (map key_of xs) = keys_stated later xs c.names (key_of x) in
        record {
          names = λ m. times-insert m i t later
              ∙ ap (λ k. times nat_cmp m (k ∷ map name later)) same
              ∙ times-more nat_keys m (name x) (map name later) (map name xs) (c.names m);
          lawful = all_insert L t i later (turned_lawful x l (either (key_of x)) refl (n / g)) c.lawful;
          ordered = insert-in_order t i later
              (subst (λ m. AllByRecursion (λ y. is_gt (cmp (key m) (key_of y)) ≡ false) later) (sym same)
              (all_keys (λ k. is_gt (cmp (key_of x) k) ≡ false) xs later (λ m. sym (c.names m)) a))
              c.ordered
              (subst (λ m. i ≤ times cmp (key m) (map key_of later)) (sym same) (omega (arith, below, keys)));
        }

    -- Each number selects a choice.
    pub chosen_is_choice : (xs : List X) → AllByRecursion L xs → IsInOrder (on key_of cmp) xs → (n : ℕ) → IsChosen xs (stated xs n).0
    chosen_is_choice [] a h n = record { names = λ m. refl; lawful = tt; ordered = tt }
    chosen_is_choice (x ∷ xs) a h n = put x xs a.0 h.0 (stated xs n).0 (stated xs n).1 (chosen_is_choice xs a.1 h.1 n)

    -- the digit that turns an element this way
    digit_of : (x y : X) → (y ≡ x) ⊎ ((either (key_of x) ≡ true) × (y ≡ turn x))
        → (d : ℕ) × (d < cond (either (key_of x)) 2 1) × (turned_by turn d x ≡ y)
    digit_of x y (inl e) = (0, some_digit (either (key_of x)), sym e)
    digit_of x y (inr r) = (1, subst (λ b. 1 < cond b 2 1) (sym r.0) (omega arith), sym r.1)

    none_left : (ys : List X) → ((n : ℕ) → times nat_cmp n (map name ys) ≡ 0) → ys ≡ []
    none_left [] h = refl
    none_left (y ∷ ys) h = absurd (omega (arith, h (name y), times-yes nat_keys (name y) (name y) (map name ys) refl))

    -- Each choice has a number that leaves q over, below q + 1 times the number of choices.
    pub choice_left : (xs : List X) → AllByRecursion L xs → IsInOrder (on key_of cmp) xs → (ys : List X) → IsChosen xs ys → (q : ℕ)
        → (n : ℕ) × (n < (q + 1) * running cmp either (map key_of xs)) × (stated xs n ≡ (ys, q))
    choice_left [] a h ys c q = (q, omega arith, λ i. (sym (none_left ys c.names) i, q))
    choice_left (x ∷ xs) a h ys c q =
        let found = taken_out name (name x) ys
        (omega (arith, c.names (name x), times-yes nat_keys (name x) (name x) (map name xs) refl)) in
        rest found.0 found.1 found.2 found.3 found.4 found.5 (choice_left xs a.1 h.1)
      where
        g : ℕ
        g = suc (times cmp (key_of x) (map key_of xs))

        w : ℕ
        w = cond (either (key_of x)) 2 1

        count : ℕ
        count = running cmp either (map key_of xs)

        rest : (i : ℕ) (y : X) (later : List X) → name y ≡ name x → ys ≡ insert later i y → i ≤ length later
            → ((zs : List X) → IsChosen xs zs → (p : ℕ) → (n : ℕ) × (n < (p + 1) * count) × (stated xs n ≡ (zs, p)))
            → (n : ℕ) × (n < (q + 1) * (g * (w * count))) × (stated (x ∷ xs) n ≡ (ys, q))
        rest i y later same is within ih =
            let split = all_inserted L y i later (subst (AllByRecursion L) is c.lawful) in
            let ordered : IsInOrder (on key_of cmp) (insert later i y) = subst (IsInOrder (on key_of cmp)) is c.ordered in
            let names : (n : ℕ) → times nat_cmp n (map name later) ≡ times nat_cmp n (map name xs) =
            λ n. times-cancel nat_keys n (name x) (map name later) (map name xs)
            (ap (λ m. times nat_cmp n (m ∷ map name later)) (sym same) ∙ sym (times-insert n i y later)
            ∙ ap (λ zs. times nat_cmp n (map name zs)) (sym is) ∙ c.names n) in
            let above : AllByRecursion (λ z. is_gt (cmp (key_of x) (key_of z)) ≡ false) later =
            all_keys (λ k. is_gt (cmp (key_of x) k) ≡ false) xs later (λ n. sym (names n)) h.0 in
            let few : i ≤ times cmp (key_of y) (map key_of later) =
            inserted-few y i later within
            (subst (λ m. AllByRecursion (λ z. is_gt (cmp (key m) (key_of z)) ≡ false) later) (sym same) above) ordered in
            let few_here : i ≤ times cmp (key_of x) (map key_of later) =
            subst (λ m. i ≤ times cmp (key m) (map key_of later)) same few in
            let at : i < g = omega (arith, few_here, keys_stated later xs names (key_of x)) in
            let digit = digit_of x y (one_way x y same a.0 split.0) in
            let p : ℕ = (q * w + digit.0) * g + i in
            let found = ih later (record { names = names; lawful = split.1; ordered = in_order-inserted (on key_of cmp) y i later ordered }) p in
            let next : q * w + digit.0 < w * (q + 1) = mul-add-lt q w digit.0 (q + 1) (omega arith) digit.1 in (
              found.0,
              within_count found.0 p (g * (w * (q + 1))) ((q + 1) * (g * (w * count))) found.1
                  (mul-add-lt (q * w + digit.0) g i (w * (q + 1)) next at) (grouped g w (q + 1)),
              ap (stood turn g w x) found.2 ∙ stood-digits turn g w x later i digit.0 q at digit.1
                  ∙ (λ j. (insert later i (digit.2 j), q)) ∙ ap (λ zs. (zs, q)) (sym is),
            )
          where
            grouped : (g w r : ℕ) → (g * (w * r)) * count ≡ r * (g * (w * count))
            grouped g w r = grind arith

            within_count : (n p m r : ℕ) → n < (p + 1) * count → p < m → m * count ≡ r → n < r
            within_count n p m r below under e =
                let le : (p + 1) * count ≤ m * count = mul-le (p + 1) count m count (omega (arith, under)) (omega arith) in
                omega (arith, below, le, e)

    -- Each choice has a number below the number of choices.
    pub choice_has_number : (xs : List X) → AllByRecursion L xs → IsInOrder (on key_of cmp) xs → (ys : List X) → IsChosen xs ys
        → (n : ℕ) × (n < running cmp either (map key_of xs)) × ((stated xs n).0 ≡ ys)
    choice_has_number xs a h ys c =
        let found = choice_left xs a h ys c 0 in
        (found.0, (let l : found.0 < (0 + 1) * running cmp either (map key_of xs) = found.1 in omega (arith, l)), ap (λ r. r.0) found.2)

  -- Number 0 selects the list itself.
  pub first_stated : (xs : List X) → stated xs 0 ≡ (xs, 0)
  first_stated [] = refl
  first_stated (x ∷ xs) =
      let g : ℕ = suc (times cmp (key_of x) (map key_of xs)) in
      let w : ℕ = cond (either (key_of x)) 2 1 in
      ap (stood turn g w x) (first_stated xs)
      ∙ ap (λ n. stood turn g w x (xs, n)) (let e : 0 ≡ (0 * w + 0) * g + 0 = omega arith in e)
      ∙ stood-digits turn g w x xs 0 0 0 (omega arith) (some_digit (either (key_of x)))
