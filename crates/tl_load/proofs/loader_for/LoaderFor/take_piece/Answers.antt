use Rattle.tl_load.proofs.Common.{List, MatchOption, None, Option, Some, ap, drop, err_from_is_err_and, length-append, refl, rules, seen, sym, ℕ, ◌++◌, ◌∙◌, ◌∷◌, ◌≡◌}
use Rattle.tl_load.proofs.Steps.{leaves_after, leaves_all, leaves_fault, leaves_taken}
use Rattle.tl_load.proofs.Views.{rest_of}
use Rattle.tl_load.proofs.loader_for.LoaderFor.take_piece.Goals as goal

none_by : {A : Type 0} (P : Type 0) (Q : A → Type 0) (o : Option A) → ((x : A) → o ≡ Some x → ⊥) → MatchOption o P Q → P
none_by P Q None h m = m
none_by P Q (Some k) h m = absurd (h k refl)

pub loop-end-init : goal.loop-end-init
loop-end-init g c = search (rules, leaves_all)

pub returns-in_err-end_line-clause-takes : goal.returns-in_err-end_line-clause-takes
returns-in_err-end_line-clause-takes g c =
    let left = drop 1 (drop c.in-Some.end.place c.loop-end.rest.now) in
    let split : c.loop-end.rest.now ≡ c.split_at.result.0.now ++ 10 ∷ left = c.in-Some.ensures.cut
    ∙ ap (λ (l : List ℕ). l ++ 10 ∷ left) (sym c.split_at.ensures.front) in
    let p = err_from_is_err_and c.from_residual.result c.from_residual.ensures.1 in
    rw (p.1, p.2) (λ records kept.
    let b = c.loop-end.invariant.leaves records kept in
    let t = c.in_err-end_line.ensures.takes b.0 b.1 in (
      records,
      tt,
      leaves_fault (Unit {0}) (seen c.args.self.now records) (seen c.loop-end.self b.0)
          (seen c.end_line.new.self t.0) c.args.piece.now c.loop-end.rest.now c.split_at.result.0.now left _ b.2 split t.2,
    ))

pub loop-end-preserved : goal.loop-end-preserved
loop-end-preserved g c = search (rules, rest_of, length-append, leaves_after)

pub returns-clause-takes : goal.returns-clause-takes
returns-clause-takes g c = λ records kept.
    let b = c.loop-end.invariant.leaves records kept in
    let t = c.buffer_bytes.ensures.takes b.0 b.1 in (
      t.0,
      t.1,
      leaves_taken (seen c.args.self.now records) (seen c.loop-end.self b.0)
          (seen c.buffer_bytes.new.self t.0) c.args.piece.now c.loop-end.rest.now c.buffer_bytes.result b.2 t.2,
    )
