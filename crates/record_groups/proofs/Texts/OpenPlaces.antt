-- Records in groups by place, compared at some places alone.
use Rattle.record_groups.proofs.Common.{AllByRecursion, Bool, Equal, Greater, Less, List, Ordering, [], all_append, all_weaker, ap, ap₂, arith, cond, false, filter, grouped, length, length-append, ltb-false, ltb-true, map, nat_cmp, nat_cmp_is, nat_lt, ordering_then, range_with_len, refl, slice_cmp, subst, suc, sym, true, zero, ℕ, ◌++◌, ◌+◌, ◌<◌, ◌∙◌, ◌∷◌, ◌≡◌, ◌≢◌, ◌≤◌}
use Rattle.record_groups.proofs.Texts.PartOrder.{then_same}
use Rattle.record_groups.proofs.Texts.RecordTexts.{cmp-append}

-- the groups from a place on, joined, and those at some places alone
abbrev pub groups_from : {X : Type 0} → (ℕ → List X) → ℕ → ℕ → List X
groups_from F place zero = []
groups_from F place (suc count) = F place ++ groups_from F (suc place) count

abbrev pub those_from : {X : Type 0} → (ℕ → Bool) → (ℕ → List X) → ℕ → ℕ → List X
those_from is_in F place zero = []
those_from is_in F place (suc count) = cond (is_in place) (F place) [] ++ those_from is_in F (suc place) count

-- the latter are the groups at these places
pub those_groups : {X : Type 0} (is_in : ℕ → Bool) (F : ℕ → List X) (place count : ℕ)
    → grouped (map F (filter is_in (range_with_len place count))) ≡ those_from is_in F place count
those_groups is_in F place zero = refl
those_groups {X} is_in F place (suc count) =
    go (is_in place) (ap (λ q. grouped (map F (filter is_in (range_with_len q count)))) (let t : place + 1 ≡ suc place = omega arith in t)
    ∙ those_groups is_in F (suc place) count)
  where
    later : List ℕ
    later = filter is_in (range_with_len (place + 1) count)

    go : (b : Bool) → grouped (map F later) ≡ those_from is_in F (suc place) count
        → grouped (map F (cond b (place ∷ later) later)) ≡ cond b (F place) [] ++ those_from is_in F (suc place) count
    go true rest = ap (λ groups. F place ++ groups) rest
    go false rest = rest

-- Records in an order in which the key decides if it differs.
module _ {X : Type 0} (cmp : X → X → Ordering) (key : X → ℕ) (bound : ℕ)
    (by_key : (x y : X) → key x < bound → key y < bound → key x ≢ key y → cmp x y ≡ nat_cmp (key x) (key y)) where
  -- a greater key than this one, below the bound
  abbrev Later : ℕ → X → Type 0
  Later n x = (n < key x) × (key x < bound)

  greater_first : (xs : List X) (y : X) (ys : List X) → AllByRecursion (Later (key y)) xs → 0 < length xs
      → slice_cmp cmp xs (y ∷ ys) ≡ Greater
  greater_first [] y ys later some = absurd (omega (arith, some))
  greater_first (x ∷ xs) y ys later some =
      let more = later.0.0 in
      let within = later.0.1 in
      ap (λ o. ordering_then o (slice_cmp cmp xs ys))
      (by_key x y within (omega (arith, more, within)) (λ e. absurd (omega (arith, e, more))) ∙ sym (nat_cmp_is (key x) (key y) Greater more))

  less_first : (x : X) (xs ys : List X) → AllByRecursion (Later (key x)) ys → 0 < length ys → slice_cmp cmp (x ∷ xs) ys ≡ Less
  less_first x xs [] later some = absurd (omega (arith, some))
  less_first x xs (y ∷ ys) later some =
      let more = later.0.0 in
      let within = later.0.1 in
      ap (λ o. ordering_then o (slice_cmp cmp xs ys))
      (by_key x y (omega (arith, more, within)) within (λ e. absurd (omega (arith, e, more))) ∙ sym (nat_cmp_is (key x) (key y) Less more))

  -- groups that tie decide nothing
  tied_first : (g h xs ys : List X) → length g ≡ length h → slice_cmp cmp g h ≡ Equal → slice_cmp cmp (g ++ xs) (h ++ ys) ≡ slice_cmp cmp xs ys
  tied_first g h xs ys many tie = cmp-append cmp g h xs ys many ∙ ap (λ o. ordering_then o (slice_cmp cmp xs ys)) tie

  -- two groups with one key, before all later records and before some of them
  group_decides : (n : ℕ) (g h xs ys us vs : List X) → AllByRecursion (λ x. key x ≡ n) g → AllByRecursion (λ x. key x ≡ n) h
      → AllByRecursion (Later n) xs → AllByRecursion (Later n) ys → AllByRecursion (Later n) us → AllByRecursion (Later n) vs
      → length (g ++ xs) ≡ length (h ++ ys) → length (g ++ us) ≡ length (h ++ vs)
      → (slice_cmp cmp g h ≡ Equal → length xs ≡ length ys → length us ≡ length vs → slice_cmp cmp xs ys ≡ slice_cmp cmp us vs)
      → slice_cmp cmp (g ++ xs) (h ++ ys) ≡ slice_cmp cmp (g ++ us) (h ++ vs)
  group_decides n [] [] xs ys us vs in_g in_h in_xs in_ys in_us in_vs many some rest = rest refl many some
  group_decides n [] (y ∷ h) xs ys us vs in_g in_h in_xs in_ys in_us in_vs many some rest =
      greater_first xs y (h ++ ys) (now xs in_xs) (omega (arith, many)) ∙ sym (greater_first us y (h ++ vs) (now us in_us) (omega (arith, some)))
    where
      now : (zs : List X) → AllByRecursion (Later n) zs → AllByRecursion (Later (key y)) zs
      now = all_weaker (Later n) (Later (key y)) (λ z l. (let m = l.0 in let e = in_h.0 in omega (arith, m, e), l.1))
  group_decides n (x ∷ g) [] xs ys us vs in_g in_h in_xs in_ys in_us in_vs many some rest =
      less_first x (g ++ xs) ys (now ys in_ys) (omega (arith, many)) ∙ sym (less_first x (g ++ us) vs (now vs in_vs) (omega (arith, some)))
    where
      now : (zs : List X) → AllByRecursion (Later n) zs → AllByRecursion (Later (key x)) zs
      now = all_weaker (Later n) (Later (key x)) (λ z l. (let m = l.0 in let e = in_g.0 in omega (arith, m, e), l.1))
  group_decides n (x ∷ g) (y ∷ h) xs ys us vs in_g in_h in_xs in_ys in_us in_vs many some rest =
      then_same (cmp x y) _ _ (λ tie. group_decides n g h xs ys us vs in_g.1 in_h.1 in_xs in_ys in_us in_vs (omega (arith, many)) (omega (arith, some))
      (λ same. rest (ap₂ ordering_then tie same)))

  module _ (is_in : ℕ → Bool) where
    module _ (F : ℕ → List X) (keyed : (place : ℕ) → AllByRecursion (λ x. key x ≡ suc place) (F place)) where
      abbrev Within : ℕ → ℕ → X → Type 0
      Within n end x = (n < key x) × (key x ≤ end)

      here : (n place end : ℕ) → n ≤ place → place < end → AllByRecursion (Within n end) (F place)
      here n place end low high = all_weaker (λ x. key x ≡ suc place) (Within n end)
          (λ x e. (omega (arith, e, low), omega (arith, e, high))) (F place) (keyed place)

      either : (n place end : ℕ) → n ≤ place → place < end → (b : Bool) → AllByRecursion (Within n end) (cond b (F place) [])
      either n place end low high true = here n place end low high
      either n place end low high false = tt

      all_within : (n place count end : ℕ) → n ≤ place → place + count ≤ end
          → AllByRecursion (Within n end) (groups_from F place count) × AllByRecursion (Within n end) (those_from is_in F place count)
      all_within n place zero end low high = (tt, tt)
      all_within n place (suc count) end low high =
          let rest = all_within n (suc place) count end (omega (arith, low)) (omega (arith, high)) in (
            all_append (Within n end) (F place) (groups_from F (suc place) count) (here n place end low (omega (arith, high))) rest.0,
            all_append (Within n end) (cond (is_in place) (F place) []) (those_from is_in F (suc place) count)
                (either n place end low (omega (arith, high)) (is_in place)) rest.1,
          )

      pub all_later : (place count : ℕ) → suc place + count < bound
          → AllByRecursion (Later (suc place)) (groups_from F (suc place) count) × AllByRecursion (Later (suc place)) (those_from is_in F (suc place) count)
      all_later place count few =
          let all = all_within (suc place) (suc place) count (suc place + count) (omega arith) (omega arith) in
          let weaker = all_weaker (Within (suc place) (suc place + count)) (Later (suc place))
          (λ x w. (w.0, let l = w.1 in omega (arith, l, few))) in
          (weaker (groups_from F (suc place) count) all.0, weaker (those_from is_in F (suc place) count) all.1)

    -- Two lists of groups. At a place that is left out they tie if they tie at all earlier places that aren't.
    module _ (F E : ℕ → List X) (keyed : (place : ℕ) → AllByRecursion (λ x. key x ≡ suc place) (F place))
        (keyed_too : (place : ℕ) → AllByRecursion (λ x. key x ≡ suc place) (E place)) where
      abbrev Tie : ℕ → Type 0
      Tie place = slice_cmp cmp (F place) (E place) ≡ Equal

      abbrev pub TiedBefore : ℕ → Type 0
      TiedBefore place = (q : ℕ) → q < place → is_in q ≡ true → slice_cmp cmp (F q) (E q) ≡ Equal

      module _ (left_out : (place : ℕ) → is_in place ≡ false → TiedBefore place → slice_cmp cmp (F place) (E place) ≡ Equal)
          (lengths : (place : ℕ) → is_in place ≡ false → length (F place) ≡ length (E place)) where
        -- the other places have as many more records of the first list as of the second
        as_many_in : (place count : ℕ) → length (groups_from F place count) + length (those_from is_in E place count)
            ≡ length (groups_from E place count) + length (those_from is_in F place count)
        as_many_in place zero = refl
        as_many_in place (suc count) = go (is_in place) refl (as_many_in (suc place) count)
          where
            f : List X
            f = groups_from F (suc place) count

            e : List X
            e = groups_from E (suc place) count

            go : (b : Bool) → is_in place ≡ b
                → length f + length (those_from is_in E (suc place) count) ≡ length e + length (those_from is_in F (suc place) count)
                → length (F place ++ f) + length (cond b (E place) [] ++ those_from is_in E (suc place) count)
                ≡ length (E place ++ e) + length (cond b (F place) [] ++ those_from is_in F (suc place) count)
            go true h rest = omega (arith, rest, length-append {A = X})
            go false h rest = omega (arith, rest, length-append {A = X}, lengths place h)

        next : (place : ℕ) → TiedBefore place → Tie place → TiedBefore (suc place)
        next place before here q l e = at (nat_lt q place) refl
          where
            at : (b : Bool) → nat_lt q place ≡ b → Tie q
            at true f = before q (ltb-true q place f) e
            at false f = let past = ltb-false q place f in let same : place ≡ q = omega (arith, l, past) in subst Tie same here

        in_order : (place count : ℕ) → TiedBefore place → place + count < bound → length (groups_from F place count) ≡ length (groups_from E place count)
            → length (those_from is_in F place count) ≡ length (those_from is_in E place count)
            → slice_cmp cmp (groups_from F place count) (groups_from E place count)
            ≡ slice_cmp cmp (those_from is_in F place count) (those_from is_in E place count)
        in_order place zero before few many some = refl
        in_order place (suc count) before few many some =
            go (is_in place) refl some (λ tie. in_order (suc place) count (next place before tie) (omega (arith, few)))
          where
            f : List X
            f = groups_from F (suc place) count

            e : List X
            e = groups_from E (suc place) count

            go : (b : Bool) → is_in place ≡ b
                → length (cond b (F place) [] ++ those_from is_in F (suc place) count) ≡ length (cond b (E place) [] ++ those_from is_in E (suc place) count)
                → (Tie place → length f ≡ length e → length (those_from is_in F (suc place) count) ≡ length (those_from is_in E (suc place) count)
                → slice_cmp cmp f e ≡ slice_cmp cmp (those_from is_in F (suc place) count) (those_from is_in E (suc place) count))
                → slice_cmp cmp (F place ++ f) (E place ++ e)
                ≡ slice_cmp cmp (cond b (F place) [] ++ those_from is_in F (suc place) count) (cond b (E place) [] ++ those_from is_in E (suc place) count)
            go true h as_many rest =
                let later = all_later F keyed place count (omega (arith, few)) in
                let later_too = all_later E keyed_too place count (omega (arith, few)) in
                group_decides (suc place) (F place) (E place) f e (those_from is_in F (suc place) count) (those_from is_in E (suc place) count)
                (keyed place) (keyed_too place) later.0 later_too.0 later.1 later_too.1 many as_many rest
            go false h as_many rest =
                let one = length-append (F place) f in
                let two = length-append (E place) e in
                let same = lengths place h in
                let tie = left_out place h before in
                tied_first (F place) (E place) f e same tie ∙ rest tie (omega (arith, many, one, two, same)) as_many

        -- The first group that differs decides, and it isn't at a place that is left out.
        pub those_decide : (count : ℕ) → count < bound → length (groups_from F 0 count) ≡ length (groups_from E 0 count)
            → slice_cmp cmp (groups_from F 0 count) (groups_from E 0 count)
            ≡ slice_cmp cmp (those_from is_in F 0 count) (those_from is_in E 0 count)
        those_decide count few many = in_order 0 count (λ q l e. absurd (omega (arith, l))) (omega (arith, few)) many
            (let same = as_many_in 0 count in omega (arith, same, many))
