-- A key that was seen stays at its place.
use Rattle.arranged_county.proofs.Common.{IsKeyOrder, List, Ordering, Some, ap, arith, first_seen_after, is_eq, length, length-append, place_stays, position, seen_stays, sym, ℕ, ◌++◌, ◌∙◌, ◌≡◌, ◌≤◌}

module _ {K : Type 0} {cmp : K → K → Ordering} (o : IsKeyOrder cmp) where
  -- a key that was seen keeps its place, whatever is seen later
  pub seen_keeps : (k : K) (seen later : List K) (i : ℕ) → Some i ≡ position (λ other. is_eq (cmp k other)) seen
      → Some i ≡ position (λ other. is_eq (cmp k other)) (first_seen_after cmp seen later)
  seen_keeps k seen later i e =
      let more = seen_stays o seen later in
      place_stays (λ other. is_eq (cmp k other)) seen more.0 i e
      ∙ ap (position (λ other. is_eq (cmp k other))) (sym more.1)

  pub seen_fewer : (seen later : List K) → length seen ≤ length (first_seen_after cmp seen later)
  seen_fewer seen later =
      let more = seen_stays o seen later in
      let all : length (first_seen_after cmp seen later) ≡ length (seen ++ more.0) = ap length more.1 in
      let count = length-append seen more.0 in
      omega (arith, all, count)
