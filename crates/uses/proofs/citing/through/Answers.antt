use Rattle.std.proofs.lemmas.Result.{IfOk-weaker}
use Rattle.uses.proofs.citing.through.Goals as goal

pub returns : goal.returns
returns c =
    IfOk-weaker c.then-2.result _ _ (λ r on a b d is_a is_b is_d there back.
    on a b d is_a is_b there (c.in_ok-inverse.ensures.carries_back d b is_d is_b back)) c.then-2.ensures.carries_on
