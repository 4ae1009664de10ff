-- If all faults are in a finite list, either there is none or exactly one is the first.
use Rattle.county_chart.proofs.Common.{AllByRecursion, Among, Bool, IsFirst, IsKeyOrder, List, [], all_among, ap, bytes_keys, false, false≢true, inl, inr, is_gt, lists_keys, place_cmp, refl, rules, sym, true, upto, ℕ, ◌∙◌, ◌∷◌, ◌≡◌, ◌⊎◌}
use Rattle.ordered_lists.proofs.ByKey.Keys.{order_antisymm, order_itself, order_total}

pub place_keys : IsKeyOrder place_cmp
place_keys = lists_keys bytes_keys

module _ {F : Type 0} (there : F → Bool) (place : F → List (List ℕ)) where
  -- f is present, and no fault in the list comes before it
  abbrev pub IsLeastOf : List F → F → Type 0
  IsLeastOf cs f = (there f ≡ true) × AllByRecursion (λ c. there c ≡ true → is_gt (place_cmp (place f) (place c)) ≡ false) cs

  vacuous : (f : F) (cs : List F) → AllByRecursion (λ c. there c ≡ false) cs
      → AllByRecursion (λ c. there c ≡ true → is_gt (place_cmp (place f) (place c)) ≡ false) cs
  vacuous f [] h = tt
  vacuous f (c ∷ cs) h = ((λ t. absurd (false≢true (sym h.0 ∙ t))), vacuous f cs h.1)

  lower : (f g : F) → is_gt (place_cmp (place f) (place g)) ≡ false → (cs : List F)
      → AllByRecursion (λ c. there c ≡ true → is_gt (place_cmp (place g) (place c)) ≡ false) cs
      → AllByRecursion (λ c. there c ≡ true → is_gt (place_cmp (place f) (place c)) ≡ false) cs
  lower f g e [] h = tt
  lower f g e (c ∷ cs) h = ((λ t. upto (place_keys.total) (place f) (place g) (place c) e (h.0 t)), lower f g e cs h.1)

  pub first_among : (cs : List F) → AllByRecursion (λ c. there c ≡ false) cs ⊎ ((f : F) × IsLeastOf cs f)
  first_among [] = inl tt
  first_among (c ∷ cs) = go (there c) refl (first_among cs)
    where
      pick : there c ≡ true → (f : F) → IsLeastOf cs f → (b : Bool) → is_gt (place_cmp (place c) (place f)) ≡ b
          → (g : F) × IsLeastOf (c ∷ cs) g
      pick t f h false e = (c, (t, ((λ u. order_itself place_keys (place c)), lower c f e cs h.1)))
      pick t f h true e = (f, (h.0, ((λ u. order_total place_keys (place c) (place f) e), h.1)))

      go : (b : Bool) → there c ≡ b → AllByRecursion (λ d. there d ≡ false) cs ⊎ ((f : F) × IsLeastOf cs f)
          → AllByRecursion (λ d. there d ≡ false) (c ∷ cs) ⊎ ((f : F) × IsLeastOf (c ∷ cs) f)
      go true t (inl none) = inr (c, (t, ((λ u. order_itself place_keys (place c)), vacuous c cs none)))
      go true t (inr p) = inr (pick t p.0 p.1 (is_gt (place_cmp (place c) (place p.0))) refl)
      go false t (inl none) = inl (t, none)
      go false t (inr p) = inr (p.0, (p.1.0, ((λ u. absurd (false≢true (sym t ∙ u))), p.1.1)))

  -- if each present fault is in the list
  pub first_or_none : (cs : List F) → ((f : F) → there f ≡ true → Among f cs)
      → ((f : F) → there f ≡ false) ⊎ ((f : F) × IsFirst there place f)
  first_or_none cs all = go (first_among cs)
    where
      none : AllByRecursion (λ c. there c ≡ false) cs → (f : F) (b : Bool) → there f ≡ b → there f ≡ false
      none h f true e = all_among (λ c. there c ≡ false) f cs h (all f e)
      none h f false e = e

      go : AllByRecursion (λ c. there c ≡ false) cs ⊎ ((f : F) × IsLeastOf cs f)
          → ((f : F) → there f ≡ false) ⊎ ((f : F) × IsFirst there place f)
      go (inl h) = inl (λ f. none h f (there f) refl)
      go (inr p) = search (rules, all_among)

  pub not_first : (f : F) → ((g : F) → there g ≡ false) → IsFirst there place f → ⊥
  not_first f none h = false≢true (sym (none f) ∙ h.there)

  pub one_first : (at : List (List ℕ) → F) → ((f : F) → at (place f) ≡ f) → (f g : F) → IsFirst there place f → IsFirst there place g
      → f ≡ g
  one_first at back f g h k = sym (back f) ∙ ap at (order_antisymm place_keys (place f) (place g) (h.least g k.there) (k.least f h.there))
      ∙ back g
