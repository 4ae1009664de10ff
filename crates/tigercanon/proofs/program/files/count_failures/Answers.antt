use Rattle.tigercanon.proofs.Common.{IfOk-weaker, Opened, YieldsList-from_map_by, YieldsList-from_vec, map_from_collect, refl, rules, tests, ℕ}
use Rattle.tigercanon.proofs.FileSources.{below_most, counted_from}
use Rattle.tigercanon.proofs.program.files.count_failures.Goals as goal

pub returns-clause-counted : goal.returns-clause-counted
returns-clause-counted g c =
    IfOk-weaker c.collect.result _ _ (λ sources same. counted_from sources.items c.args.files.items same)
    (map_from_collect c.collect.result c.collect.ensures.ran
    (YieldsList-from_map_by _ {C = Opened _ × ℕ} (λ s. (s.inner, s.failures)) (λ f. (f, 0))
    (YieldsList-from_vec c.args.files.items (cc) (cc)) c.map.ensures.closure (λ x r q k. search (rules, tests))))

pub returns-clause-readable : goal.returns-clause-readable
returns-clause-readable g c =
    IfOk-weaker c.collect.result _ _ (λ sources counted. record { below = below_most (λ s. s.failures) sources.items sources.items refl counted.1 })
    (returns-clause-counted g c)
