-- What is known of a result that a helper returns.
use Rattle.arranged_county.proofs.Common.{Err, IfOk, Ok, OnOk, Result, subst, sym, ◌≡◌}

-- what holds for a value once this is done, where the value is kept
pub of_done : {X E F : Type 0} (P : X → Type 0) (Q : Type 0) (done : Result (Unit {0}) F) (r : Result X E) {value : X} → (Q → P value)
    → IfOk r (λ kept. kept ≡ value) → OnOk r (done ≡ Ok tt) → OnOk done Q → IfOk r P
of_done P Q done (Ok x) known is ok holds = subst P (sym is) (known (subst (λ r. OnOk r Q) ok holds))
of_done P Q done (Err e) known is ok holds = tt
