use Rattle.std.proofs.Common.{subst, sym}
use Rattle.tl_shape.specs.TurnLaws.{relation_of_turned, turned-turned, turned_from_relation}
use Rattle.tl_shape.specs.Chain.{Chain}
use Rattle.tl_shape.specs.Turned.{IsTurned, turned}
use Rattle.tl_shape.proofs.laws.each_chain_has_one_turned_chain.Goals as goal

pub returns-clause-back : goal.returns-clause-back
returns-clause-back c chain other t =
    let back = subst (IsTurned (turned chain)) (turned-turned chain) (relation_of_turned (turned chain)) in
    subst (λ (other : Chain). IsTurned other chain) (sym (turned_from_relation chain other t)) back
