-- Pieces of a file, and the whole file.
use Rattle.std.proofs.Common.{Bor, List, [], ap, append-nil, drop, get_or, length, map, subst, sym, take, ℕ, ◌++◌, ◌+◌, ◌<◌, ◌∙◌, ◌∷◌, ◌≡◌}
use Rattle.std.proofs.lemmas.List.Folds.{concat-append}
use Rattle.std.proofs.lemmas.List.{map-append, take-append-drop, take_more}
use Rattle.std.specs.List.{concat}
use Rattle.tl_load.specs.Choice.{tiger}
use Rattle.tl_load.specs.Loaded.{IsFaultHowever}
use Rattle.tl_load.specs.Outcome.{FaultAt}
use Rattle.tl_layout.specs.Limits.{most_records}
use Rattle.tl_load.specs.declared.fault.LoadFault.{LoadFault}

-- the bytes of the pieces
abbrev pub bytes_of : List (Bor (List ℕ)) → List (List ℕ)
bytes_of pieces = map (λ p. p.now) pieces

-- all pieces, joined
abbrev pub whole : List (Bor (List ℕ)) → List ℕ
whole pieces = concat (bytes_of pieces)

whole_of_two : (pieces more : List (Bor (List ℕ))) → whole pieces ++ whole more ≡ whole (pieces ++ more)
whole_of_two pieces more =
    sym (ap concat (map-append (λ p. p.now) pieces more) ∙ concat-append (bytes_of pieces) (bytes_of more))

-- with one more piece
pub whole_so_far : (pieces : List (Bor (List ℕ))) (i : ℕ) (d : Bor (List ℕ)) → i < length pieces
    → whole (take i pieces) ++ (get_or pieces i d).now ≡ whole (take (i + 1) pieces)
whole_so_far pieces i d within =
    ap (λ bytes. whole (take i pieces) ++ bytes) (sym (append-nil (get_or pieces i d).now))
    ∙ whole_of_two (take i pieces) (get_or pieces i d ∷ [])
    ∙ ap whole (sym (take_more pieces i d within))

-- the fault after some pieces is the fault of the whole file
pub fault_of_whole : (pieces : List (Bor (List ℕ))) (i : ℕ) (d : Bor (List ℕ)) (f : LoadFault) → i < length pieces
    → IsFaultHowever most_records [] (whole (take i pieces) ++ (get_or pieces i d).now) f → FaultAt tiger most_records (whole pieces ∷ []) f
fault_of_whole pieces i d f within however =
    let rest : List ℕ = whole (drop (i + 1) pieces) in
    let all : (whole (take i pieces) ++ (get_or pieces i d).now) ++ rest ≡ whole pieces =
    ap (λ bytes. bytes ++ rest) (whole_so_far pieces i d within)
    ∙ whole_of_two (take (i + 1) pieces) (drop (i + 1) pieces)
    ∙ ap whole (take-append-drop (i + 1) pieces) in
    subst (λ p. FaultAt tiger most_records (p ∷ []) f) all (however rest [])
