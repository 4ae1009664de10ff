-- Slices of bytes as the parts of a set.
use Rattle.tigercanon.proofs.Common.{Bor, IsFaultHowever, IsFirstFault, List, LoadFault, [], ap, append-nil, append_assoc, bytes_of_parts, drop, drop-cons, empty_fault, get_or, length, map-append, most_records, subst, suc, sym, take, take-append-drop, take_more, tiger, ℕ, ◌++◌, ◌+◌, ◌<◌, ◌∙◌, ◌∷◌, ◌≡◌}

-- the parts before one, that part, and those after it
pub parts_around : (slices : List (Bor (List ℕ))) (i : ℕ) (d : Bor (List ℕ)) → i < length slices
    → bytes_of_parts (take i slices) ++ (get_or slices i d).now ∷ bytes_of_parts (drop (suc i) slices) ≡ bytes_of_parts slices
parts_around slices i d within =
    sym (map-append (λ p. p.now) (take i slices) (get_or slices i d ∷ drop (suc i) slices))
    ∙ ap bytes_of_parts (ap (λ rest. take i slices ++ rest) (sym (drop-cons slices i d within)) ∙ take-append-drop i slices)

-- the parts up to the next one
pub parts_so_far : (slices : List (Bor (List ℕ))) (i : ℕ) (d : Bor (List ℕ)) → i < length slices
    → bytes_of_parts (take i slices) ++ (get_or slices i d).now ∷ [] ≡ bytes_of_parts (take (i + 1) slices)
parts_so_far slices i d within =
    sym (ap bytes_of_parts (take_more slices i d within) ∙ map-append (λ p. p.now) (take i slices) (get_or slices i d ∷ []))

-- a fault of every continuation of the open part and the set is the fault of the slices with the open part
pub fault_of_all : (slices : List (Bor (List ℕ))) (i : ℕ) (d : Bor (List ℕ)) (f : LoadFault) → i < length slices
    → IsFaultHowever most_records (bytes_of_parts (take i slices)) (get_or slices i d).now f → IsFirstFault (bytes_of_parts slices) f
fault_of_all slices i d f within however =
    let all : bytes_of_parts (take i slices) ++ ((get_or slices i d).now ++ []) ∷ bytes_of_parts (drop (suc i) slices)
    ≡ bytes_of_parts slices =
    ap (λ part. bytes_of_parts (take i slices) ++ part ∷ bytes_of_parts (drop (suc i) slices)) (append-nil (get_or slices i d).now)
    ∙ parts_around slices i d within in
    subst (λ ps. IsFirstFault ps f) all (however [] (bytes_of_parts (drop (suc i) slices)))

-- the same if that part is closed: the next ones continue it, or nothing does
pub fault_of_rest : (closed rest : List (List ℕ)) (f : LoadFault) → IsFaultHowever most_records closed [] f → IsFirstFault (closed ++ rest) f
fault_of_rest closed [] f however =
    subst (λ ps. IsFirstFault ps f) (sym (append-nil closed)) ((empty_fault tiger most_records closed f).0 (however [] []))
fault_of_rest closed (part ∷ rest) f however = however part rest

pub fault_of_closed : (slices : List (Bor (List ℕ))) (i : ℕ) (d : Bor (List ℕ)) (f : LoadFault) → i < length slices
    → IsFaultHowever most_records (bytes_of_parts (take i slices) ++ (get_or slices i d).now ∷ []) [] f
    → IsFirstFault (bytes_of_parts slices) f
fault_of_closed slices i d f within however =
    let closed = bytes_of_parts (take i slices) in
    subst (λ ps. IsFirstFault ps f) (append_assoc closed ((get_or slices i d).now ∷ []) (bytes_of_parts (drop (suc i) slices))
    ∙ parts_around slices i d within)
    (fault_of_rest (closed ++ (get_or slices i d).now ∷ []) (bytes_of_parts (drop (suc i) slices)) f however)
