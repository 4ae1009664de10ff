-- Records type after type are the records of a list in another order.
use Rattle.tl_county.proofs.Common.{ArePermuted, Eight, Five, Four, IsPermutation, IsPermutation-append, IsPermutation-append_right, IsPermutation-cons, IsPermutation-map, IsPermutation-middle, IsPermutation-refl, IsPermutation-sym, IsPermutation-trans, List, One, P, Record, Seven, Six, Two, Typed, [], by_type, map, of_type, record_of, take, type_after_type, types, ℕ, ◌++◌, ◌∷◌}
use Rattle.tl_layout.specs.declared.record_type.Record.TheVariants.{I}

-- these lists one after another, and then the rest
abbrev before_rest : List (List Record) → List Record → List Record
before_rest [] rest = rest
before_rest (xs ∷ lists) rest = xs ++ before_rest lists rest

-- an element may come after others
deeper : (r : Record) (lists : List (List Record)) (rest : List Record)
    → IsPermutation (r ∷ before_rest lists rest) (before_rest lists (r ∷ rest))
deeper r [] rest = IsPermutation-refl _
deeper r (xs ∷ lists) rest =
    IsPermutation-trans _ _ _ (IsPermutation-sym _ _ (IsPermutation-middle xs r (before_rest lists rest)))
    (IsPermutation-append_right xs (r ∷ before_rest lists rest) (before_rest lists (r ∷ rest)) (deeper r lists rest))

-- the records of the first types, a list for each of them
abbrev first_lists : ℕ → List Record → List (List Record)
first_lists count records = map (λ t. map (record_of t) (of_type t records)) (take count types)

add : (r : Record) (rs : List Record) → IsPermutation (r ∷ type_after_type (by_type rs)) (type_after_type (by_type (r ∷ rs)))
add (One r) rs = deeper (One r) (first_lists 0 rs) _
add (Two r) rs = deeper (Two r) (first_lists 1 rs) _
add (Four r) rs = deeper (Four r) (first_lists 2 rs) _
add (Five r) rs = deeper (Five r) (first_lists 3 rs) _
add (Six r) rs = deeper (Six r) (first_lists 4 rs) _
add (Seven r) rs = deeper (Seven r) (first_lists 5 rs) _
add (Eight r) rs = deeper (Eight r) (first_lists 6 rs) _
add (I r) rs = deeper (I r) (first_lists 7 rs) _
add (P r) rs = deeper (P r) (first_lists 8 rs) _

-- a list's records type after type are its records in another order
pub grouped : (records : List Record) → IsPermutation records (type_after_type (by_type records))
grouped [] = IsPermutation-refl []
grouped (r ∷ rs) = IsPermutation-trans _ _ _ (IsPermutation-cons r rs (type_after_type (by_type rs)) (grouped rs)) (add r rs)

-- if each table is permuted, so are the records
pub permuted-after : (t u : Typed) → ArePermuted t u → IsPermutation (type_after_type t) (type_after_type u)
permuted-after t u p =
    IsPermutation-append (map One t.of_type_1) (map One u.of_type_1) _ _ (IsPermutation-map One t.of_type_1 u.of_type_1 p.type_1)
    (IsPermutation-append (map Two t.of_type_2) (map Two u.of_type_2) _ _ (IsPermutation-map Two t.of_type_2 u.of_type_2 p.type_2)
    (IsPermutation-append (map Four t.of_type_4) (map Four u.of_type_4) _ _ (IsPermutation-map Four t.of_type_4 u.of_type_4 p.type_4)
    (IsPermutation-append (map Five t.of_type_5) (map Five u.of_type_5) _ _ (IsPermutation-map Five t.of_type_5 u.of_type_5 p.type_5)
    (IsPermutation-append (map Six t.of_type_6) (map Six u.of_type_6) _ _ (IsPermutation-map Six t.of_type_6 u.of_type_6 p.type_6)
    (IsPermutation-append (map Seven t.of_type_7) (map Seven u.of_type_7) _ _ (IsPermutation-map Seven t.of_type_7 u.of_type_7 p.type_7)
    (IsPermutation-append (map Eight t.of_type_8) (map Eight u.of_type_8) _ _ (IsPermutation-map Eight t.of_type_8 u.of_type_8 p.type_8)
    (IsPermutation-append (map I t.of_type_i) (map I u.of_type_i) _ _ (IsPermutation-map I t.of_type_i u.of_type_i p.type_i)
    (IsPermutation-map P t.of_type_p u.of_type_p p.type_p))))))))
