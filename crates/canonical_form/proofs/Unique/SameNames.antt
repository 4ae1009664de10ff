-- If a renaming carries one arranged county onto another, keeps each TLID and turns no chain, the names and the FEATs of chains are
-- equal: names are in the order of content and uses, and their uses determine the chains' lists.
use Rattle.canonical_form.proofs.Common.{AllByRecursion, AllContained, Among, Carries, Chain, County, IsApart, IsArranged, IsClosed, IsKeyOrder, IsStrictlySortedBy, IsTrue, Known, List, Renumbering, Use, [], all_append, all_left, all_right, all_themselves, all_uses, all_weaker, among-unmap, ap, apart_from_sorted, ap₂, contains, feats, filter, image, length, lists_keys, ltb-true, map, map-append, map-map, name_body_keys, name_key_cmp, nat_cmp, one_entry, pair_keys, refl, subst, suc, sym, times, use_cmp, uses_from, uses_of_name, ℕ, ◌++◌, ◌==◌, ◌∙◌, ◌∷◌, ◌≡◌}
use Rattle.canonical_form.proofs.Lists.Filtered.{filter-agree_all, filter-mapped, same_after}
use Rattle.canonical_form.proofs.Unique.SameNumbers.{KeepsChains, counted_injective, kept_entry}
use Rattle.canonical_form.proofs.Names.UsesOrder.{all_uses-strict, under_use, use_keys, use_under}
use Rattle.canonical_form.proofs.Lists.Counting.{up_to-strict}
use Rattle.canonical_form.proofs.Unique.SameKeys.{entries_same, parts_same}

pub name_key_keys : IsKeyOrder name_key_cmp
name_key_keys = pair_keys name_body_keys (lists_keys use_keys)

-- a use with its FEAT renamed
abbrev pub renamed_use : (ℕ → ℕ) → Use × ℕ → Use × ℕ
renamed_use f u = (u.0, f u.1)

uses_from-renamed : (f : ℕ → ℕ) (t i : ℕ) (fs : List ℕ) → uses_from t i (map f fs) ≡ map (renamed_use f) (uses_from t i fs)
uses_from-renamed f t i [] = refl
uses_from-renamed f t i (x ∷ fs) = ap (λ us. ((t, i), f x) ∷ us) (uses_from-renamed f t (suc i) fs)

pub all_uses-kept : (r : Renumbering) (cs : List (ℕ × Chain))
    → all_uses (map (kept_entry r) cs) ≡ map (renamed_use (image nat_cmp r.names)) (all_uses cs)
all_uses-kept r [] = refl
all_uses-kept r (c ∷ cs) = ap₂ (λ xs ys. xs ++ ys) (uses_from-renamed (image nat_cmp r.names) c.0 1 c.1.feats) (all_uses-kept r cs)
    ∙ sym (map-append (renamed_use (image nat_cmp r.names)) (uses_from c.0 1 c.1.feats) (all_uses cs))

-- a property of each FEAT of a chain is a property of each use, and conversely
uses_from-all : (P : ℕ → Type 0) (t i : ℕ) (fs : List ℕ) → AllByRecursion P fs → AllByRecursion (λ u. P u.1) (uses_from t i fs)
uses_from-all P t i [] a = tt
uses_from-all P t i (x ∷ fs) a = (a.0, uses_from-all P t (suc i) fs a.1)

from_uses : (P : ℕ → Type 0) (t i : ℕ) (fs : List ℕ) → AllByRecursion (λ u. P u.1) (uses_from t i fs) → AllByRecursion P fs
from_uses P t i [] a = tt
from_uses P t i (x ∷ fs) a = (a.0, from_uses P t (suc i) fs a.1)

pub all_uses-all : (P : ℕ → Type 0) (cs : List (ℕ × Chain)) → AllByRecursion (λ c. AllByRecursion P c.1.feats) cs
    → AllByRecursion (λ u. P u.1) (all_uses cs)
all_uses-all P [] a = tt
all_uses-all P (c ∷ cs) a =
    all_append (λ u. P u.1) (uses_from c.0 1 c.1.feats) (all_uses cs) (uses_from-all P c.0 1 c.1.feats a.0) (all_uses-all P cs a.1)

from_all_uses : (P : ℕ → Type 0) (cs : List (ℕ × Chain)) → AllByRecursion (λ u. P u.1) (all_uses cs)
    → AllByRecursion (λ c. AllByRecursion P c.1.feats) cs
from_all_uses P [] a = tt
from_all_uses P (c ∷ cs) a = (
  from_uses P c.0 1 c.1.feats (all_left (λ u. P u.1) (uses_from c.0 1 c.1.feats) (all_uses cs) a),
  from_all_uses P cs (all_right (λ u. P u.1) (uses_from c.0 1 c.1.feats) (all_uses cs) a),
)

-- if renaming keeps FEATs distinct, a renamed name has the same uses as before
pub uses_of-renamed : (f : ℕ → ℕ) (Dom : ℕ → Type 0) → ((n m : ℕ) → Dom n → Dom m → f n ≡ f m → n ≡ m) → (us : List (Use × ℕ))
    → AllByRecursion (λ u. Dom u.1) us → (y : ℕ) → Dom y → uses_of_name (map (renamed_use f) us) (f y) ≡ uses_of_name us y
uses_of-renamed f Dom inj us a y d =
    ap (map (λ (v : Use × ℕ). v.0)) (filter-mapped (λ (v : Use × ℕ). v.1 == f y) (renamed_use f) us)
    ∙ map-map (λ (v : Use × ℕ). v.0) (renamed_use f) (filter (λ (u : Use × ℕ). f u.1 == f y) us)
    ∙ ap (map (λ (u : Use × ℕ). u.0)) (filter-agree_all (λ (u : Use × ℕ). f u.1 == f y) (λ u. u.1 == y) us
    (all_weaker (λ (u : Use × ℕ). Dom u.1) (λ u. (f u.1 == f y) ≡ (u.1 == y)) (λ u known. same_after f Dom inj u.1 y known d) us a))

module _ (r : Renumbering) (a b : County) (h : Carries r a b) (ca : IsClosed a) (ta : IsArranged a) (tb : IsArranged b)
    (e : KeepsChains r a b) where
  f_name : ℕ → ℕ
  f_name = image nat_cmp r.names

  name_injective : (n m : ℕ) → Known nat_cmp (feats a) n → Known nat_cmp (feats a) m → f_name n ≡ f_name m → n ≡ m
  unfolding f_name
  name_injective = counted_injective r.names (feats a) (feats b) (length b.names) h.numbers.names.left h.numbers.names.right tb.feats

  uses_b : all_uses b.chains ≡ map (renamed_use f_name) (all_uses a.chains)
  unfolding f_name
  uses_b = ap all_uses e ∙ all_uses-kept r a.chains

  uses_known : AllByRecursion (λ u. Known nat_cmp (feats a) u.1) (all_uses a.chains)
  uses_known = all_uses-all (Known nat_cmp (feats a)) a.chains
      (all_weaker (λ c. AllContained (feats a) c.1.feats) (λ c. AllByRecursion (Known nat_cmp (feats a)) c.1.feats)
      (λ c g. all_weaker (λ n. IsTrue (contains nat_cmp n (feats a))) (Known nat_cmp (feats a))
      (λ n t. ltb-true 0 (times nat_cmp n (feats a)) t) c.1.feats g)
      a.chains ca.names)

  uses_kept : (y : ℕ) → Known nat_cmp (feats a) y → uses_of_name (all_uses b.chains) (f_name y) ≡ uses_of_name (all_uses a.chains) y
  uses_kept y d = ap (λ us. uses_of_name us (f_name y)) uses_b
      ∙ uses_of-renamed f_name (Known nat_cmp (feats a)) name_injective (all_uses a.chains) uses_known y d

  pub names_equal : a.names ≡ b.names
  unfolding f_name
  names_equal = entries_same name_key_keys f_name (uses_of_name (all_uses a.chains)) (uses_of_name (all_uses b.chains)) a.names b.names
      uses_kept h.names ta.names tb.names ta.feats tb.feats

  -- each FEAT therefore has the same uses in both
  same_uses : (y : ℕ) → Known nat_cmp (feats a) y → uses_of_name (all_uses a.chains) y ≡ uses_of_name (all_uses b.chains) y
  unfolding f_name
  same_uses = parts_same name_key_keys f_name (uses_of_name (all_uses a.chains)) (uses_of_name (all_uses b.chains)) a.names b.names
      uses_kept h.names ta.names tb.names ta.feats tb.feats

  uses_apart : IsApart use_cmp (map (λ u. u.0) (all_uses a.chains))
  uses_apart = apart_from_sorted use_keys (map (λ u. u.0) (all_uses a.chains))
      (all_uses-strict a.chains (subst (IsStrictlySortedBy nat_cmp) (sym ta.tlids) (up_to-strict (length a.chains))))

  use_fixed : (u : Use × ℕ) → Among u (all_uses a.chains) → Known nat_cmp (feats a) u.1 → f_name u.1 ≡ u.1
  use_fixed u m k =
      let there : Among u.0 (uses_of_name (all_uses b.chains) u.1) =
      subst (Among u.0) (same_uses u.1 k) (use_under (all_uses a.chains) u.0 u.1 m) in
      let entry : Among u (map (renamed_use f_name) (all_uses a.chains)) =
      subst (Among u) uses_b (under_use (all_uses b.chains) u.0 u.1 there) in
      let v = among-unmap (renamed_use f_name) u (all_uses a.chains) entry in
      let same : u ≡ v.0 = one_entry use_keys (all_uses a.chains) uses_apart u v.0 m v.1 (ap (λ (w : Use × ℕ). w.0) v.2) in
      ap (λ (w : Use × ℕ). f_name w.1) same ∙ ap (λ (w : Use × ℕ). w.1) (sym v.2)

  fixed_all : (us : List (Use × ℕ)) → AllByRecursion (λ u. Among u (all_uses a.chains)) us
      → AllByRecursion (λ u. Known nat_cmp (feats a) u.1) us → AllByRecursion (λ u. f_name u.1 ≡ u.1) us
  fixed_all [] m k = tt
  fixed_all (u ∷ us) m k = (use_fixed u m.0 k.0, fixed_all us m.1 k.1)

  -- each FEAT of a chain is its own new number
  pub feats_kept : AllByRecursion (λ c. AllByRecursion (λ y. image nat_cmp r.names y ≡ y) c.1.feats) a.chains
  unfolding f_name
  feats_kept = from_all_uses (λ y. image nat_cmp r.names y ≡ y) a.chains
      (fixed_all (all_uses a.chains) (all_themselves (all_uses a.chains)) uses_known)
