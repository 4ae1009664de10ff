-- Marks by number, and uses whose FEATs all have names.
use Rattle.tl_county.proofs.Common.{AllByRecursion, Bool, Fields4, IsLeastPassing, List, None, [], all_have_names, all_joined, all_map, and_parts, ap, contains, false, flat_map, is_unnamed, known_all, list_all, ltb-true, nat_cmp, not, refl, rules, sequence_cmp, times, true, uses_of, ℕ, ◌&&◌, ◌∷◌, ◌≡◌}
use Rattle.tl_county.proofs.Rules.RuleTests.{sequence_keys}

-- the FEAT of a use is one of the names
abbrev IsNamed : List ℕ → ℕ × ℕ → Type 0
IsNamed names pair = contains nat_cmp pair.1 names ≡ true

-- a property of the elements that pass a test, if all pass it
passed : {X : Type 0} (test : X → Bool) (P : X → Type 0) → ((x : X) → test x ≡ true → P x) → (xs : List X) → list_all test xs ≡ true
    → AllByRecursion P xs
passed test P from [] e = tt
passed test P from (x ∷ xs) e =
    let both = and_parts (test x) (list_all test xs) e in
    (from x both.0, passed test P from xs both.1)

-- if each FEAT that records name has a name, no use lacks one
pub none_unnamed : (names : List ℕ) (records : List Fields4) → all_have_names names records ≡ true
    → IsLeastPassing sequence_cmp (is_unnamed (flat_map uses_of records) names) None
none_unnamed names records h pair = go (contains sequence_cmp pair uses) refl
  where
    uses : List (ℕ × ℕ)
    uses = flat_map uses_of records

    each : AllByRecursion (IsNamed names) uses
    each = search (rules, all_joined, passed, all_map)

    go : (b : Bool) → contains sequence_cmp pair uses ≡ b → b && not (contains nat_cmp pair.1 names) ≡ false
    go false e = refl
    go true e = ap not (known_all sequence_keys (IsNamed names) uses each pair (ltb-true 0 (times sequence_cmp pair uses) e))
