-- Names, or landmarks, of two counties that are in the order of their keys. A key is a content with a part that depends on the number,
-- as the uses of a name. If a renaming keeps contents and parts, the entries are equal.
use Rattle.canonical_form.proofs.Common.{AllByRecursion, IsInOrder, IsKeyOrder, IsPermutation, IsPermutation-map, Known, List, Ordering, all_map, all_weaker, ap, in_order-map, in_order-permutation, keys_known, known_all, length, length-map, map, map-map, map_agree_all, nat_cmp, nat_keys, on, subst, sym, up_to, ℕ, ◌∙◌, ◌≡◌}
use Rattle.canonical_form.proofs.Lists.Counting.{entries_equal, map-equal_all}

abbrev pub key_with : {V P : Type 0} → (ℕ → P) → ℕ × V → V × P
key_with part entry = (entry.1, part entry.0)

module _ {V P : Type 0} {cmp : V × P → V × P → Ordering} (o : IsKeyOrder cmp) (f : ℕ → ℕ) (part new_part : ℕ → P)
    (olds news : List (ℕ × V)) (kept : (n : ℕ) → Known nat_cmp (map (λ (e : ℕ × V). e.0) olds) n → new_part (f n) ≡ part n)
    (renamed : IsPermutation (map (λ (e : ℕ × V). (f e.0, e.1)) olds) news) (ordered : IsInOrder (on (key_with part) cmp) olds)
    (new_ordered : IsInOrder (on (key_with new_part) cmp) news) (numbers : map (λ (e : ℕ × V). e.0) olds ≡ up_to (length olds))
    (new_numbers : map (λ (e : ℕ × V). e.0) news ≡ up_to (length news))
  where
    abbrev old_key : ℕ × V → V × P
    old_key = key_with part

    abbrev new_key : ℕ × V → V × P
    new_key = key_with new_part

    keys_same : map old_key olds ≡ map new_key news
    keys_same =
        let carried : map new_key (map (λ (e : ℕ × V). (f e.0, e.1)) olds) ≡ map old_key olds =
        map-map new_key (λ (e : ℕ × V). (f e.0, e.1)) olds
        ∙ map_agree_all (λ (e : ℕ × V). (e.1, new_part (f e.0))) old_key (λ e. Known nat_cmp (map (λ (d : ℕ × V). d.0) olds) e.0)
        (λ e k i. (e.1, kept e.0 k i)) olds (keys_known nat_keys olds) in
        in_order-permutation o (map old_key olds) (map new_key news) (in_order-map cmp old_key olds ordered)
        (in_order-map cmp new_key news new_ordered)
        (subst (λ ks. IsPermutation ks (map new_key news)) carried
        (IsPermutation-map new_key (map (λ (e : ℕ × V). (f e.0, e.1)) olds) news renamed))

    pub entries_same : olds ≡ news
    entries_same =
        let len : length olds ≡ length news = sym (length-map olds old_key) ∙ ap length keys_same ∙ length-map news new_key in
        entries_equal olds news (numbers ∙ ap up_to len ∙ sym new_numbers)
        (sym (map-map (λ (k : V × P). k.0) old_key olds) ∙ ap (map (λ (k : V × P). k.0)) keys_same
        ∙ map-map (λ (k : V × P). k.0) new_key news)

    -- so each number has the same part in both
    pub parts_same : (n : ℕ) → Known nat_cmp (map (λ (e : ℕ × V). e.0) olds) n → part n ≡ new_part n
    parts_same n k =
        let each : AllByRecursion (λ e. old_key e ≡ new_key e) olds =
        map-equal_all old_key new_key olds (keys_same ∙ ap (map new_key) (sym entries_same)) in
        known_all nat_keys (λ m. part m ≡ new_part m) (map (λ (e : ℕ × V). e.0) olds)
        (all_map (λ m. part m ≡ new_part m) (λ (e : ℕ × V). e.0) olds
        (all_weaker (λ e. old_key e ≡ new_key e) (λ e. part e.0 ≡ new_part e.0) (λ e same. ap (λ (k : V × P). k.1) same) olds each)) n k
