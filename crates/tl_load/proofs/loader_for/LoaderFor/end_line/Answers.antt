use Rattle.tl_load.proofs.Common.{Err, Lifts, LoadFault, Ok, OnOk, Result, Takes, [], arith, err_from_is_err_and, longest_line, rules, seen, subst, ℕ, ◌*◌, ◌++◌, ◌+◌, ◌∷◌, ◌≡◌, ◌≤◌}
use Rattle.tl_load.proofs.LineLemmas.{without_return_length}
use Rattle.tl_load.proofs.Steps.{ends_line, fault_then, takes_then}
use Rattle.tl_load.proofs.Views.{empty_is}
use Rattle.tl_load.proofs.loader_for.LoaderFor.end_line.Goals as goal

-- a judged line has at most 230 bytes with its line ending, so that 230 for each of them is enough
line_used : {T : Type 0} (r : Result T LoadFault) (line bytes was now open_was : ℕ) → OnOk r (line ≤ longest_line) → OnOk r (now ≡ was + 1)
    → bytes ≤ line + 1 → open_was ≡ 0 → (open_now : ℕ) → OnOk r (230 * was + open_was + bytes + 1 ≤ 230 * now + open_now)
line_used (Ok x) line bytes was now open_was short one dropped none open_now = omega arith
line_used (Err f) line bytes was now open_was short one dropped none open_now = tt

pub returns-in-Ok-clause-takes : goal.returns-in-Ok-clause-takes
returns-in-Ok-clause-takes g c =
    subst (λ result. Lifts g.K.Collector.holds (Takes (c.args.bytes.now ++ 10 ∷ [])) c.args.self.now result c.judge_next.new.self)
    c.in-Ok.is (search (rules, empty_is, ends_line))

pub returns-in-Ok-clause-used : goal.returns-in-Ok-clause-used
returns-in-Ok-clause-used g c = search (rules, empty_is, without_return_length, line_used)

pub returns-in-Err-clause-takes : goal.returns-in-Err-clause-takes
returns-in-Err-clause-takes g c =
    subst (λ result. Lifts g.K.Collector.holds (Takes (c.args.bytes.now ++ 10 ∷ [])) c.args.self.now result c.judge_next.new.self)
    c.in-Err.is (search (rules, empty_is, ends_line))

pub returns-in_err-buffer_bytes-clause-takes : goal.returns-in_err-buffer_bytes-clause-takes
returns-in_err-buffer_bytes-clause-takes g c =
    let p = err_from_is_err_and c.from_residual.result c.from_residual.ensures.1 in
    rw (p.1, p.2) (λ records kept.
    let t = c.in_err-buffer_bytes.ensures.takes records kept in (
      records,
      tt,
      fault_then (Unit {0}) (Unit {0}) (seen c.args.self.now records) (seen c.buffer_bytes.new.self t.0)
          (seen c.buffer_bytes.new.self t.0) c.args.bytes.now (10 ∷ []) _ t.2,
    ))

pub returns-clause-takes : goal.returns-clause-takes
returns-clause-takes g c = λ records kept.
    let t = c.in_ok-buffer_bytes.ensures.takes records kept in
    let u = c.end_held_line.ensures.takes t.0 t.1 in (
      u.0,
      u.1,
      takes_then (seen c.args.self.now records) (seen c.buffer_bytes.new.self t.0) (seen c.end_held_line.new.self u.0) c.args.bytes.now
          (10 ∷ []) c.end_held_line.result t.2 u.2,
    )
