use Rattle.tigercanon.proofs.Common.{Err, MatchResult, Ok, Result, WriteFault, [], arith, if◌then◌else◌, is_ok, refl, ℕ, ◌+◌, ◌≡◌}
use Rattle.tigercanon.proofs.CanonicalTexts.{only_of_set, text_of_set}
use Rattle.tigercanon.proofs.library.products.HashProductUnit.of.Goals as goal

-- a sink that counts no failure took the whole text
never_failed : (P : Type 0) (Q : WriteFault → Type 0) (r : Result ℕ WriteFault) → 0 ≡ (if is_ok r then 0 else 0 + 1)
    → MatchResult r (λ _. P) Q → P
never_failed P Q (Ok count) none h = h
never_failed P Q (Err f) none h = absurd (omega (arith, none))

pub returns : goal.returns
returns g c = λ parts set.
    record {
      text = _;
      canonical = text_of_set c.args._mask _ _ _ set _ refl;
      only = only_of_set c.args._mask _ _ _ set _ refl;
      bytes_are = c.finalize.ensures _ (never_failed _ _ c.write_to.result c.write_to.ensures.failures (c.write_to.ensures.bytes [] c.new.ensures));
    }
