-- Uses of names: each occurs once in the list of all uses, and a name's uses are those under its FEAT.
use Rattle.canonical_form.proofs.Common.{AllByRecursion, Among, Chain, IsKeyOrder, Less, List, Use, [], all_among, all_uses, among-map, among-unmap, ap, arith, eq-eqb, filter, less, map, nat_cmp, nat_cmp_total, nat_keys, of_number-all, of_number-among, ordering_then, pair_keys, refl, subst, suc, sym, tied_itself, to_filter, use_cmp, uses_from, uses_of_name, ℕ, ◌++◌, ◌<◌, ◌==◌, ◌∙◌, ◌∷◌, ◌≡◌}
use Rattle.std.specs.List.Sorted.{IsStrictlySortedBy}

pub use_keys : IsKeyOrder use_cmp
use_keys = pair_keys nat_keys nat_keys

same_tlid : (t i j : ℕ) → i < j → use_cmp (t, i) (t, j) ≡ Less
same_tlid t i j lt = ap (λ o. ordering_then o (nat_cmp i j)) (tied_itself nat_cmp_total t) ∙ less i j lt

other_tlid : (t s i j : ℕ) → nat_cmp t s ≡ Less → use_cmp (t, i) (s, j) ≡ Less
other_tlid t s i j e = ap (λ o. ordering_then o (nat_cmp i j)) e

-- every use of chain t comes before these
abbrev AllAfter : ℕ → List Use → Type 0
AllAfter t us = AllByRecursion (λ u. (i : ℕ) → use_cmp (t, i) u ≡ Less) us

after_one : (t s i : ℕ) (feats : List ℕ) (rest : List (Use × ℕ)) → nat_cmp t s ≡ Less → AllAfter t (map (λ u. u.0) rest)
    → AllAfter t (map (λ u. u.0) (uses_from s i feats ++ rest))
after_one t s i [] rest e h = h
after_one t s i (f ∷ feats) rest e h = ((λ j. other_tlid t s j i e), after_one t s (suc i) feats rest e h)

after_all : (t : ℕ) (cs : List (ℕ × Chain)) → AllByRecursion (λ s. nat_cmp t s ≡ Less) (map (λ c. c.0) cs)
    → AllAfter t (map (λ u. u.0) (all_uses cs))
after_all t [] h = tt
after_all t (c ∷ cs) h = after_one t c.0 1 c.1.feats (all_uses cs) h.0 (after_all t cs h.1)

later : (t i j : ℕ) (feats : List ℕ) (rest : List (Use × ℕ)) → j < i → AllAfter t (map (λ u. u.0) rest)
    → AllByRecursion (λ u. use_cmp (t, j) u ≡ Less) (map (λ u. u.0) (uses_from t i feats ++ rest))
later t i j [] rest lt h = spread (map (λ u. u.0) rest) h
  where
    spread : (us : List Use) → AllAfter t us → AllByRecursion (λ u. use_cmp (t, j) u ≡ Less) us
    spread [] a = tt
    spread (u ∷ us) a = (a.0 j, spread us a.1)
later t i j (f ∷ feats) rest lt h = (same_tlid t j i lt, later t (suc i) j feats rest (omega arith) h)

chain_strict : (t i : ℕ) (feats : List ℕ) (rest : List (Use × ℕ)) → AllAfter t (map (λ u. u.0) rest)
    → IsStrictlySortedBy use_cmp (map (λ u. u.0) rest) → IsStrictlySortedBy use_cmp (map (λ u. u.0) (uses_from t i feats ++ rest))
unfolding IsStrictlySortedBy
chain_strict t i [] rest h s = s
chain_strict t i (f ∷ feats) rest h s = (later t (suc i) i feats rest (omega arith) h, chain_strict t (suc i) feats rest h s)

-- the uses ascend if the TLIDs do
pub all_uses-strict : (cs : List (ℕ × Chain)) → IsStrictlySortedBy nat_cmp (map (λ c. c.0) cs)
    → IsStrictlySortedBy use_cmp (map (λ u. u.0) (all_uses cs))
unfolding IsStrictlySortedBy
all_uses-strict [] h = tt
all_uses-strict (c ∷ cs) h = chain_strict c.0 1 c.1.feats (all_uses cs) (after_all c.0 cs h.0) (all_uses-strict cs h.1)

-- the uses with a FEAT
pub use_under : (us : List (Use × ℕ)) (u : Use) (f : ℕ) → Among (u, f) us → Among u (uses_of_name us f)
use_under us u f m = among-map (λ (w : Use × ℕ). w.0) (u, f) (filter (λ w. w.1 == f) us) (to_filter (λ w. w.1 == f) (u, f) us m (eq-eqb f f refl))

pub under_use : (us : List (Use × ℕ)) (u : Use) (f : ℕ) → Among u (uses_of_name us f) → Among (u, f) us
under_use us u f m =
    let w = among-unmap (λ (v : Use × ℕ). v.0) u (filter (λ v. v.1 == f) us) m in
    let named : w.0.1 ≡ f = all_among (λ v. v.1 ≡ f) w.0 (filter (λ v. v.1 == f) us) (of_number-all (λ (v : Use × ℕ). v.1) f us) w.1 in
    subst (λ v. Among v us) (λ i. (sym w.2 i, named i))
    (all_among (λ v. Among v us) w.0 (filter (λ v. v.1 == f) us) (of_number-among (λ (v : Use × ℕ). v.1) f us) w.1)
