use Rattle.tl_load.specs.Outcome.{FaultAt}
use Rattle.tl_load.specs.Loaded.{IsOfLines, WasFed}
use Rattle.std.proofs.Common.{[], arith, subst, ◌∙◌, ◌∷◌}
use Rattle.tl_layout.proofs.Exits.{exit_with}
use Rattle.tl_load.specs.Choice.{tiger}
use Rattle.std.proofs.lemmas.List.{take_all}
use Rattle.tl_layout.specs.Limits.{most_records}
use Rattle.uses.proofs.WholeFile.{fault_of_whole, whole, whole_so_far}
use Rattle.uses.proofs.pieces.load_pieces.Goals as goal

pub loop-piece-preserved : goal.loop-piece-preserved
loop-piece-preserved c = record {
  fed = subst (WasFed most_records c.feed.new.self []) (whole_so_far _ _ _ c.loop-piece-test.true)
      (c.in_ok-feed.ensures.fed _ _ _ c.loop-piece.invariant.fed);
  fault = c.in_ok-feed.ensures.ok;
  parts = c.in_ok-feed.ensures.parts ∙ c.loop-piece.invariant.parts;
}

pub returns-in_err-feed-clause-fault : goal.returns-in_err-feed-clause-fault
returns-in_err-feed-clause-fault c =
    exit_with _ _ (λ f. IsOfLines f → FaultAt tiger most_records (whole c.args.pieces.now ∷ []) f) c.from_residual.ensures.1
    (λ lines. fault_of_whole _ _ _ _ c.loop-piece-test.true (c.in_err-feed.ensures.fault _ _ _ c.loop-piece.invariant.fed lines))

pub returns-in_err-end_part-clause-fault : goal.returns-in_err-end_part-clause-fault
returns-in_err-end_part-clause-fault c =
    let all = take_all c.loop-piece.piece-index c.args.pieces.now (omega (arith, c.loop-piece-test.false)) in
    exit_with _ _ (λ f. IsOfLines f → FaultAt tiger most_records (whole c.args.pieces.now ∷ []) f)
    c.from_residual-in_err-end_part.ensures.1
    (λ lines. subst (λ ps. FaultAt tiger most_records (whole ps ∷ []) c.in_err-end_part.field-0.0) all
    ((c.parts_may_be_cut_between_lines.ensures.fault _ _ _).0 (c.in_err-end_part.ensures.fault _ _ _ c.loop-piece.invariant.fed lines [] [])))

pub returns-clause-loaded : goal.returns-clause-loaded
returns-clause-loaded c =
    let all = take_all c.loop-piece.piece-index c.args.pieces.now (omega (arith, c.loop-piece-test.false)) in
    c.finish.ensures.loaded _ (whole c.args.pieces.now ∷ []) []
    (subst (λ ps. WasFed most_records c.end_part.new.self (whole ps ∷ []) []) all
    (c.in_ok-end_part.ensures.fed _ _ _ c.loop-piece.invariant.fed))

pub returns-clause-fault : goal.returns-clause-fault
returns-clause-fault c =
    let all = take_all c.loop-piece.piece-index c.args.pieces.now (omega (arith, c.loop-piece-test.false)) in
    c.finish.ensures.fault _ (whole c.args.pieces.now ∷ []) []
    (subst (λ ps. WasFed most_records c.end_part.new.self (whole ps ∷ []) []) all
    (c.in_ok-end_part.ensures.fed _ _ _ c.loop-piece.invariant.fed))
