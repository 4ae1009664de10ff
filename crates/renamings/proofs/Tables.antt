-- Pairs of numbers by the values under their old numbers.
use Rattle.renamings.proofs.Common.{lefts, named_images, pair_on}
use Rattle.std.proofs.Common.{Bool, Equal, Greater, Less, List, None, Option, Ordering, Some, [], ap, arith, cond, false, filter, filter_map, is_eq, is_some, length, map, nat_lt, option_map, refl, suc, true, unwrap_or, ◌∙◌, ◌∷◌, ◌≡◌}
use Rattle.ordered_lists.proofs.ByKey.Keys.{IsKeyOrder}
use Rattle.ordered_lists.specs.Pairs.{composed, image, is_named}
use Rattle.std.specs.List.{cons_option}
use Rattle.std.proofs.lemmas.Bool.{lt-ltb}
use Rattle.std.specs.Ordering.{ordering_reverse}
use Rattle.ordered_lists.specs.Entries.{value_under}

is_eq-reverse : (a : Ordering) → is_eq (ordering_reverse a) ≡ is_eq a
is_eq-reverse Less = refl
is_eq-reverse Equal = refl
is_eq-reverse Greater = refl

module _ {K V : Type 0} (eq : K → K → Bool) (cmp : K → K → Ordering) (same : (x y : K) → eq x y ≡ is_eq (cmp x y)) where
  -- the first entry decides the value under its key
  pub put_before : (o : IsKeyOrder cmp) (e : K × V) (es : List (K × V)) (key : K)
      → cond (eq e.0 key) (Some e.1) (value_under cmp key es) ≡ value_under cmp key (e ∷ es)
  put_before o e es key =
      ap (λ b. cond b (Some e.1) (value_under cmp key es))
      (same e.0 key ∙ ap is_eq (o.total.antisymm e.0 key) ∙ is_eq-reverse (cmp key e.0))

module _ {K : Type 0} (cmp : K → K → Ordering) where
  -- the image is the value under the number, or the number if there is none
  pub image-under : (ps : List (K × K)) (x : K) → image cmp ps x ≡ unwrap_or (value_under cmp x ps) x
  image-under [] x = refl
  image-under (p ∷ ps) x = go (is_eq (cmp x p.0)) (image-under ps x)
    where
      go : (b : Bool) → image cmp ps x ≡ unwrap_or (value_under cmp x ps) x
          → cond b p.1 (image cmp ps x) ≡ unwrap_or (cond b (Some p.1) (value_under cmp x ps)) x
      go true ih = refl
      go false ih = ih

  -- a number is named exactly if there is a value under it
  pub named-under : (ps : List (K × K)) (x : K) → is_named cmp ps x ≡ is_some (value_under cmp x ps)
  named-under [] x = refl
  named-under (p ∷ ps) x = go (is_eq (cmp x p.0)) (named-under ps x)
    where
      go : (b : Bool) → is_named cmp ps x ≡ is_some (value_under cmp x ps)
          → nat_lt 0 (length (cond b (p.0 ∷ filter (λ y. is_eq (cmp x y)) (lefts ps)) (filter (λ y. is_eq (cmp x y)) (lefts ps)))) ≡ is_some
          (cond b (Some p.1) (value_under cmp x ps))
      go true ih = lt-ltb 0 (suc (length (filter (λ y. is_eq (cmp x y)) (lefts ps)))) (omega arith)
      go false ih = ih

  -- the pair of the old number and the image of the new one
  abbrev carried_on : List (K × K) → K × K → K × K
  carried_on qs p = (p.0, image cmp qs p.1)

  -- the pairs that are kept, with the first of them or without
  abbrev kept_pairs : List (K × K) → K × K → List (K × K) → Bool → List (K × K)
  kept_pairs qs p ps b = map (carried_on qs)
      (cond b (p ∷ filter (λ pair. is_named cmp qs pair.1) ps) (filter (λ pair. is_named cmp qs pair.1) ps))

  pub joined-pairs : (ps qs : List (K × K)) → composed cmp ps qs ≡ filter_map (pair_on cmp qs) ps
  joined-pairs [] qs = refl
  joined-pairs (p ∷ ps) qs = go (value_under cmp p.1 qs) refl (joined-pairs ps qs)
    where
      go : (o : Option K) → value_under cmp p.1 qs ≡ o → composed cmp ps qs ≡ filter_map (pair_on cmp qs) ps
          → composed cmp (p ∷ ps) qs ≡ cons_option (option_map (λ new. (p.0, new)) o) (filter_map (pair_on cmp qs) ps)
      go None e ih =
          let none : is_named cmp qs p.1 ≡ false = named-under qs p.1 ∙ ap is_some e in
          ap (kept_pairs qs p ps) none ∙ ih
      go (Some new) e ih =
          let named : is_named cmp qs p.1 ≡ true = named-under qs p.1 ∙ ap is_some e in
          let new_is : image cmp qs p.1 ≡ new = image-under qs p.1 ∙ ap (λ o. unwrap_or o p.1) e in
          ap (kept_pairs qs p ps) named ∙ (λ i. (p.0, new_is i) ∷ ih i)

  abbrev kept_keys : List (K × K) → K → List K → Bool → List K
  kept_keys ps k ks b = map (image cmp ps) (cond b (k ∷ filter (is_named cmp ps) ks) (filter (is_named cmp ps) ks))

  pub named_images-filtered : (ps : List (K × K)) (ks : List K)
      → map (image cmp ps) (filter (is_named cmp ps) ks) ≡ named_images cmp ps ks
  named_images-filtered ps [] = refl
  named_images-filtered ps (k ∷ ks) = go (value_under cmp k ps) refl (named_images-filtered ps ks)
    where
      go : (o : Option K) → value_under cmp k ps ≡ o → map (image cmp ps) (filter (is_named cmp ps) ks) ≡ named_images cmp ps ks
          → map (image cmp ps) (filter (is_named cmp ps) (k ∷ ks)) ≡ cons_option o (named_images cmp ps ks)
      go None e ih =
          let none : is_named cmp ps k ≡ false = named-under ps k ∙ ap is_some e in
          ap (kept_keys ps k ks) none ∙ ih
      go (Some new) e ih =
          let named : is_named cmp ps k ≡ true = named-under ps k ∙ ap is_some e in
          let new_is : image cmp ps k ≡ new = image-under ps k ∙ ap (λ o. unwrap_or o k) e in
          ap (kept_keys ps k ks) named ∙ (λ i. new_is i ∷ ih i)
