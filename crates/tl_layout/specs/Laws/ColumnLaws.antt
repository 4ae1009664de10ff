-- What the columns of a line hold if the line is made of texts with these widths.
use Rattle.std.proofs.Common.{IsTrue, List, [], ap, append_assoc, arith, drop, length, refl, subst, sym, take, ℕ, ◌++◌, ◌+◌, ◌-◌, ◌∙◌, ◌∷◌, ◌≡◌, ◌≤◌}
use Rattle.std.proofs.lemmas.List.Elements.{All-drop, All-take}
use Rattle.std.proofs.lemmas.List.{append-nil, length-drop, length-take-le}
use Rattle.tl_layout.specs.Bytes.{AreAllowed, IsText, columns, is_allowed}
use Rattle.tl_layout.specs.Columns.{joined}

-- text before the joined texts can be prepended afterwards
pub joined-before : (before : List ℕ) (texts : List (List ℕ)) → joined before texts ≡ before ++ joined [] texts
joined-before before [] = sym (append-nil before)
joined-before before (text ∷ texts) =
    joined-before (before ++ text) texts ∙ (append_assoc before text (joined [] texts)
    ∙ ap (λ (l : List ℕ). before ++ l) (sym (joined-before text texts)))

-- part of a text is text of the part's width
pub part_of_text : (len : ℕ) (text : List ℕ) → IsText len text → (at width : ℕ) → at + width ≤ len → IsText width (take width (drop at text))
unfolding AreAllowed
part_of_text len text t at width within =
    let text_len = t.len in
    let dropped = length-drop at text in
    record {
      len = length-take-le width (drop at text) (omega arith);
      allowed = All-take (λ b. IsTrue (is_allowed b)) width (drop at text) (All-drop (λ b. IsTrue (is_allowed b)) at text t.allowed);
    }

-- the columns of a text are text of their width
pub columns_of_text : (len : ℕ) (line : List ℕ) → IsText len line → (first last width : ℕ) → 1 ≤ first → last ≤ len
    → last + 1 ≡ first + width → IsText width (columns first last line)
columns_of_text len line t first last width f l w =
    let same : last - (first - 1) ≡ width = omega arith in
    subst (λ (width : ℕ). IsText width (columns first last line)) same
    (part_of_text len line t (first - 1) (last - (first - 1)) (omega arith))

-- columns of allowed bytes are text of their width
pub columns_of_width : (first last width : ℕ) (line : List ℕ) → AreAllowed line → 1 ≤ first → last ≤ length line → last + 1 ≡ first + width
    → IsText width (columns first last line)
columns_of_width first last width line a = columns_of_text (length line) line (record { len = refl; allowed = a }) first last width
