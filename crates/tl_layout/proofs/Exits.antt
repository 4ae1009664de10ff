-- Exits by `?`.
use Rattle.tl_layout.proofs.Common.{IfErr, IsErrAnd, Result, err_from_is_err_and, ◌≡◌}

-- a property of the callee's error is a property of the returned error
pub exit_with : {T E : Type 0} (r : Result T E) (f : E) (P : E → Type 0) → IsErrAnd r (λ e. e ≡ f) → P f → IfErr r P
exit_with r f P is holds = let p = err_from_is_err_and r is in rw (p.1, p.2) holds
