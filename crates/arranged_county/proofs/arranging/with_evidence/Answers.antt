use Rattle.arranged_county.proofs.arranging.with_evidence.Goals as goal

pub invariant_of-result-clause-stands : goal.invariant_of-result-clause-stands
invariant_of-result-clause-stands g c = ∣ c.requires ∣₁
