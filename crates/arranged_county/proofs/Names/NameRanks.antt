-- The first uses of two names along the chains decide as all their uses do.
use Rattle.arranged_county.proofs.Common.{AllByRecursion, Bool, Greater, IsTotalOrder, Known, Less, List, None, Some, Use, [], all_after, all_among, ap, ap₂, arith, cond, contains, false, false_from_ne_true, filter, first_seen_after, from_one, inl, inr, is_eq, known_after, known_within, length, length-append, length-map, less, ltb-true, map, nat_cmp, nat_cmp_total, nat_keys, ordering_reverse, ordering_then, place-append, place-new, place_behind, place_from, rank_of, refl, seen_stays, slice_cmp, subst, suc, sym, tied_itself, times, times-append, to_position, true, under_use, unknown_at_end, use_cmp, use_keys, uses_of_name, zero, ℕ, ◌++◌, ◌+◌, ◌<◌, ◌==◌, ◌∙◌, ◌∷◌, ◌≡◌, ◌≤◌, ◌⊎◌}
use Rattle.ordered_lists.proofs.Lists.Among.{Among}
use Rattle.ordered_lists.proofs.Lists.Members.{among-map}
use Rattle.ordered_lists.proofs.ByKey.Keys.{differ_apart, known-here, known-left, known-right, same_or_not, times-no}
use Rattle.std.proofs.lemmas.Bool.{eq-eqb, ne_eqb}
use Rattle.ordered_lists.proofs.ByKey.KeyOrders.{lists_keys}
use Rattle.std.proofs.Common.{nat_lt}
use Rattle.std.specs.List.{position_or_len}
use Rattle.county_chart.proofs.Lists.OfNumber.{times-of_number}
use Rattle.std.specs.List.Sorted.{IsStrictlySortedBy}

-- the number of a FEAT among those seen, or 0
abbrev rank : List ℕ → ℕ → ℕ
rank seen f = rank_of seen (Some f)

-- a FEAT that was seen has its place, counted from 1
pub ranked_there : (seen : List ℕ) (f : ℕ) → Known nat_cmp seen f → rank seen f ≡ place_from nat_keys 1 seen f
ranked_there seen f h = ap from_one (sym (to_position (λ k. is_eq (nat_cmp f k)) seen (known_within nat_keys seen f h)))
    ∙ (let t : position_or_len (λ k. is_eq (nat_cmp f k)) seen + 1 ≡ 1 + position_or_len (λ k. is_eq (nat_cmp f k)) seen = omega arith in t)

-- a FEAT that wasn't seen has no number
pub unranked : (seen : List ℕ) (f : ℕ) → times nat_cmp f seen ≡ 0 → rank seen f ≡ 0
unranked seen f h = ap (λ n. from_one (cond (nat_lt n (length seen)) (Some n) None)) (unknown_at_end nat_keys seen f h)
    ∙ ap (λ b. from_one (cond b (Some (length seen)) None))
    (false_from_ne_true (nat_lt (length seen) (length seen)) (λ e. let l = ltb-true (length seen) (length seen) e in omega (arith, l)))

-- a FEAT seen later has a greater number than all that were there
beyond : (seen more : List ℕ) (g : ℕ) → times nat_cmp g seen ≡ 0 → Known nat_cmp more g → 1 + length seen ≤ rank (seen ++ more) g
beyond seen more g h k =
    let end = unknown_at_end nat_keys seen g h in
    let behind = place_behind (λ j. is_eq (nat_cmp g j)) seen more (omega (arith, end)) in
    let there = ranked_there (seen ++ more) g (known-right nat_keys g seen more k) in
    omega (arith, behind, there)

-- a new FEAT is seen next, and others are seen after it or never
module _ (seen feats : List ℕ) (f g : ℕ) (new : times nat_cmp f seen ≡ 0) (unseen : times nat_cmp g seen ≡ 0)
    (apart : is_eq (nat_cmp g f) ≡ false) where
  abbrev final : List ℕ
  final = first_seen_after nat_cmp (seen ++ (f ∷ [])) feats

  abbrev more : List ℕ
  more = (seen_stays nat_keys (seen ++ (f ∷ [])) feats).0

  stays : final ≡ (seen ++ (f ∷ [])) ++ more
  stays = (seen_stays nat_keys (seen ++ (f ∷ [])) feats).1

  there : Known nat_cmp (seen ++ (f ∷ [])) f
  there = known-right nat_keys f seen (f ∷ []) (known-here nat_keys f [])

  first_rank : rank final f ≡ suc (length seen)
  first_rank = ap (λ ks. rank ks f) stays ∙ ranked_there ((seen ++ (f ∷ [])) ++ more) f (known-left nat_keys f (seen ++ (f ∷ [])) more there)
      ∙ place-append nat_keys 1 (seen ++ (f ∷ [])) more f there ∙ place-new nat_keys 1 seen f new
      ∙ (let t : 1 + length seen ≡ suc (length seen) = omega arith in t)

  still_unseen : times nat_cmp g (seen ++ (f ∷ [])) ≡ 0
  still_unseen = times-append nat_keys g seen (f ∷ []) ∙ ap₂ (λ a b. a + b) unseen (times-no nat_keys g f [] apart)

  longer : suc (length seen) < 1 + length (seen ++ (f ∷ []))
  longer = let l = length-append seen (f ∷ []) in omega (arith, l)

  never_ranked : times nat_cmp g feats ≡ 0 → rank final g ≡ 0
  never_ranked none = unranked final g (count (times nat_cmp g final) refl)
    where
      out : Known nat_cmp (seen ++ (f ∷ [])) g ⊎ Known nat_cmp feats g → ⊥
      out (inl k) = omega (arith, k, still_unseen)
      out (inr k) = omega (arith, k, none)

      count : (n : ℕ) → times nat_cmp g final ≡ n → times nat_cmp g final ≡ 0
      count zero e = e
      count (suc n) e = absurd (out (known_after nat_keys (seen ++ (f ∷ [])) feats g (omega (arith, e))))

  later_ranked : Known nat_cmp feats g → rank final f < rank final g
  later_ranked k =
      let known : Known nat_cmp final g = all_after nat_keys (seen ++ (f ∷ [])) feats g k in
      let split : times nat_cmp g final ≡ times nat_cmp g (seen ++ (f ∷ [])) + times nat_cmp g more =
      ap (times nat_cmp g) stays ∙ times-append nat_keys g (seen ++ (f ∷ [])) more in
      let b = beyond (seen ++ (f ∷ [])) more g still_unseen (omega (arith, known, split, still_unseen)) in
      let same : rank final g ≡ rank ((seen ++ (f ∷ [])) ++ more) g = ap (λ ks. rank ks g) stays in
      omega (arith, first_rank, longer, b, same)

pub greater : (m n : ℕ) → m < n → nat_cmp n m ≡ Greater
greater m n h = nat_cmp_total.antisymm n m ∙ ap ordering_reverse (less m n h)

uses_total : IsTotalOrder (slice_cmp use_cmp)
uses_total = (lists_keys use_keys).total

-- a FEAT has as many uses as chains name it
uses_counted : (us : List (Use × ℕ)) (g : ℕ) → length (uses_of_name us g) ≡ times nat_cmp g (map (λ (u : Use × ℕ). u.1) us)
uses_counted us g = length-map (filter (λ (u : Use × ℕ). u.1 == g) us) (λ (u : Use × ℕ). u.0)
    ∙ sym (times-of_number (λ (u : Use × ℕ). u.1) g us)

-- the uses of a FEAT if the first use is its own, and if it isn't
own_use : (u : Use × ℕ) (us : List (Use × ℕ)) (f : ℕ) → u.1 ≡ f → uses_of_name (u ∷ us) f ≡ u.0 ∷ uses_of_name us f
own_use u us f e = ap (λ b. map (λ (w : Use × ℕ). w.0) (cond b (u ∷ filter (λ w. w.1 == f) us) (filter (λ w. w.1 == f) us)))
    (eq-eqb u.1 f e)

other_use : (u : Use × ℕ) (us : List (Use × ℕ)) (f : ℕ) → (u.1 ≡ f → ⊥) → uses_of_name (u ∷ us) f ≡ uses_of_name us f
other_use u us f ne = ap (λ b. map (λ (w : Use × ℕ). w.0) (cond b (u ∷ filter (λ w. w.1 == f) us) (filter (λ w. w.1 == f) us)))
    (ne_eqb u.1 f ne)

-- the FEAT of the first use comes before any other
module _ (seen : List ℕ) (u : Use) (h : ℕ) (us : List (Use × ℕ)) (after : AllByRecursion (λ v. use_cmp u v ≡ Less) (map (λ
    (w : Use × ℕ). w.0) us))
    (g : ℕ) (new : times nat_cmp h seen ≡ 0) (unseen : times nat_cmp g seen ≡ 0) (apart : is_eq (nat_cmp g h) ≡ false) where
  abbrev feats : List ℕ
  feats = map (λ (w : Use × ℕ). w.1) us

  abbrev last : List ℕ
  last = first_seen_after nat_cmp (seen ++ (h ∷ [])) feats

  comes_first : (mine : List Use) → slice_cmp use_cmp (u ∷ mine) (uses_of_name us g) ≡ nat_cmp (rank last h) (rank last g)
  comes_first mine = go (uses_of_name us g) refl
    where
      go : (vs : List Use) → uses_of_name us g ≡ vs → slice_cmp use_cmp (u ∷ mine) (uses_of_name us g) ≡ nat_cmp (rank last h) (rank last g)
      go [] e =
          let none : times nat_cmp g feats ≡ 0 = sym (uses_counted us g) ∙ ap length e in
          let zero_rank = never_ranked seen feats h g new unseen apart none in
          let rank_h = first_rank seen feats h g new unseen apart in
          ap (slice_cmp use_cmp (u ∷ mine)) e ∙ sym (greater (rank last g) (rank last h) (omega (arith, zero_rank, rank_h)))
      go (v ∷ vs) e =
          let some : Known nat_cmp feats g = (let count = uses_counted us g in let len = ap length e in omega (arith, count, len)) in
          let there : Among (v, g) us = under_use us v g (subst (Among v) (sym e) (inl refl)) in
          let below : use_cmp u v ≡ Less =
          all_among (λ w. use_cmp u w ≡ Less) v (map (λ (w : Use × ℕ). w.0) us) after (among-map (λ (w : Use × ℕ). w.0) (v, g) us there) in
          ap (slice_cmp use_cmp (u ∷ mine)) e ∙ ap (λ o. ordering_then o (slice_cmp use_cmp mine vs)) below
          ∙ sym (less (rank last h) (rank last g) (later_ranked seen feats h g new unseen apart some))

-- The ranks of two FEATs compare as their uses do.
pub ranks_decide : (seen : List ℕ) (us : List (Use × ℕ)) → IsStrictlySortedBy use_cmp (map (λ (w : Use × ℕ). w.0) us) → (f g : ℕ)
    → times nat_cmp f seen ≡ 0 → times nat_cmp g seen ≡ 0
    → slice_cmp use_cmp (uses_of_name us f) (uses_of_name us g) ≡ nat_cmp
    (rank (first_seen_after nat_cmp seen (map (λ (w : Use × ℕ). w.1) us)) f)
    (rank (first_seen_after nat_cmp seen (map (λ (w : Use × ℕ). w.1) us)) g)
unfolding IsStrictlySortedBy
ranks_decide seen [] strict f g nf ng = ap₂ nat_cmp (sym (unranked seen f nf)) (sym (unranked seen g ng))
ranks_decide seen (u ∷ us) strict f g nf ng =
    go (same_or_not nat_keys f u.1) (same_or_not nat_keys g u.1) (ranks_decide seen us strict.1 f g nf ng)
    (λ a b. ranks_decide (seen ++ (u.1 ∷ [])) us strict.1 f g a b)
  where
    next : times nat_cmp u.1 seen ≡ 0 → first_seen_after nat_cmp seen (u.1 ∷ map (λ (w : Use × ℕ). w.1) us) ≡ first_seen_after nat_cmp
        (seen ++ (u.1 ∷ [])) (map (λ (w : Use × ℕ). w.1) us)
    next none = ap (λ b. cond b (first_seen_after nat_cmp seen (map (λ (w : Use × ℕ). w.1) us))
        (first_seen_after nat_cmp (seen ++ (u.1 ∷ [])) (map (λ (w : Use × ℕ). w.1) us))) (ap (nat_lt 0) none)

    ahead : (k j : ℕ) → k ≡ u.1 → is_eq (nat_cmp j u.1) ≡ false → times nat_cmp k seen ≡ 0 → times nat_cmp j seen ≡ 0
        → slice_cmp use_cmp (uses_of_name (u ∷ us) k) (uses_of_name (u ∷ us) j) ≡ nat_cmp
        (rank (first_seen_after nat_cmp seen (u.1 ∷ map (λ (w : Use × ℕ). w.1) us)) k)
        (rank (first_seen_after nat_cmp seen (u.1 ∷ map (λ (w : Use × ℕ). w.1) us)) j)
    ahead k j e ne nk nj =
        let none : times nat_cmp u.1 seen ≡ 0 = subst (λ n. times nat_cmp n seen ≡ 0) e nk in
        ap₂ (slice_cmp use_cmp) (own_use u us k (sym e)) (other_use u us j (λ s. differ_apart nat_keys j u.1 ne (sym s)))
        ∙ comes_first seen u.0 u.1 us strict.0 j none nj ne (uses_of_name us k)
        ∙ ap₂ (λ ks n. nat_cmp (rank ks n) (rank ks j)) (sym (next none)) (sym e)

    go : (f ≡ u.1) ⊎ (is_eq (nat_cmp f u.1) ≡ false) → (g ≡ u.1) ⊎ (is_eq (nat_cmp g u.1) ≡ false)
        → (slice_cmp use_cmp (uses_of_name us f) (uses_of_name us g) ≡ nat_cmp
        (rank (first_seen_after nat_cmp seen (map (λ (w : Use × ℕ). w.1) us)) f)
        (rank (first_seen_after nat_cmp seen (map (λ (w : Use × ℕ). w.1) us)) g))
        → (times nat_cmp f (seen ++ (u.1 ∷ [])) ≡ 0 → times nat_cmp g (seen ++ (u.1 ∷ [])) ≡ 0
        → slice_cmp use_cmp (uses_of_name us f) (uses_of_name us g) ≡ nat_cmp
        (rank (first_seen_after nat_cmp (seen ++ (u.1 ∷ [])) (map (λ (w : Use × ℕ). w.1) us)) f)
        (rank (first_seen_after nat_cmp (seen ++ (u.1 ∷ [])) (map (λ (w : Use × ℕ). w.1) us)) g))
        → slice_cmp use_cmp (uses_of_name (u ∷ us) f) (uses_of_name (u ∷ us) g) ≡ nat_cmp
        (rank (first_seen_after nat_cmp seen (u.1 ∷ map (λ (w : Use × ℕ). w.1) us)) f)
        (rank (first_seen_after nat_cmp seen (u.1 ∷ map (λ (w : Use × ℕ). w.1) us)) g)
    go (inl a) (inl b) ih jh =
        let same : f ≡ g = a ∙ sym b in
        subst (λ n. slice_cmp use_cmp (uses_of_name (u ∷ us) f) (uses_of_name (u ∷ us) n) ≡ nat_cmp
        (rank (first_seen_after nat_cmp seen (u.1 ∷ map (λ (w : Use × ℕ). w.1) us)) f)
        (rank (first_seen_after nat_cmp seen (u.1 ∷ map (λ (w : Use × ℕ). w.1) us)) n)) same
        (tied_itself uses_total (uses_of_name (u ∷ us) f)
        ∙ sym (tied_itself nat_cmp_total (rank (first_seen_after nat_cmp seen (u.1 ∷ map (λ (w : Use × ℕ). w.1) us)) f)))
    go (inl a) (inr b) ih jh = ahead f g a b nf ng
    go (inr a) (inl b) ih jh =
        uses_total.antisymm (uses_of_name (u ∷ us) f) (uses_of_name (u ∷ us) g) ∙ ap ordering_reverse (ahead g f b a ng nf)
        ∙ sym (nat_cmp_total.antisymm (rank (first_seen_after nat_cmp seen (u.1 ∷ map (λ (w : Use × ℕ). w.1) us)) f)
        (rank (first_seen_after nat_cmp seen (u.1 ∷ map (λ (w : Use × ℕ). w.1) us)) g))
    go (inr a) (inr b) ih jh =
        ap₂ (slice_cmp use_cmp) (other_use u us f (λ s. differ_apart nat_keys f u.1 a (sym s)))
        (other_use u us g (λ s. differ_apart nat_keys g u.1 b (sym s)))
        ∙ choose (contains nat_cmp u.1 seen) ih (jh (more f nf a) (more g ng b))
      where
        more : (k : ℕ) → times nat_cmp k seen ≡ 0 → is_eq (nat_cmp k u.1) ≡ false → times nat_cmp k (seen ++ (u.1 ∷ [])) ≡ 0
        more k n ne = times-append nat_keys k seen (u.1 ∷ []) ∙ ap₂ (λ x y. x + y) n (times-no nat_keys k u.1 [] ne)

        choose : (b : Bool) → (slice_cmp use_cmp (uses_of_name us f) (uses_of_name us g) ≡ nat_cmp
            (rank (first_seen_after nat_cmp seen (map (λ (w : Use × ℕ). w.1) us)) f)
            (rank (first_seen_after nat_cmp seen (map (λ (w : Use × ℕ). w.1) us)) g))
            → (slice_cmp use_cmp (uses_of_name us f) (uses_of_name us g) ≡ nat_cmp
            (rank (first_seen_after nat_cmp (seen ++ (u.1 ∷ [])) (map (λ (w : Use × ℕ). w.1) us)) f)
            (rank (first_seen_after nat_cmp (seen ++ (u.1 ∷ [])) (map (λ (w : Use × ℕ). w.1) us)) g))
            → slice_cmp use_cmp (uses_of_name us f) (uses_of_name us g) ≡ nat_cmp
            (rank (cond b (first_seen_after nat_cmp seen (map (λ (w : Use × ℕ). w.1) us))
            (first_seen_after nat_cmp (seen ++ (u.1 ∷ [])) (map (λ (w : Use × ℕ). w.1) us))) f)
            (rank (cond b (first_seen_after nat_cmp seen (map (λ (w : Use × ℕ). w.1) us))
            (first_seen_after nat_cmp (seen ++ (u.1 ∷ [])) (map (λ (w : Use × ℕ). w.1) us))) g)
        choose true p q = p
        choose false p q = q
