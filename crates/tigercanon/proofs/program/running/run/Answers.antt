use Rattle.tigercanon.proofs.Common.{Different, Done, Ok, arith, rules, ◌∙◌}
use Rattle.tigercanon.proofs.GivenSets.{does_of, itself, why_of}
use Rattle.tigercanon.proofs.Leaving.{line_to_writer, printed_to_writer}
use Rattle.tigercanon.proofs.Refused.{refused, some}
use Rattle.tigercanon.proofs.program.running.run.Goals as goal

pub returns-clause-done : goal.returns-clause-done
returns-clause-done g c = λ zero.
    does_of _ _ _ _ (itself _) (itself _) c.args.mask c.args.job _ _
    (printed_to_writer g.W.Write.contents (λ s. s.failures) (λ s. s.writer.ghost_name) (λ s. s.writer.now) c.args.out.now _
    c.new-text.result c.run_files-status.new.out c.new-text.ensures.now
    (λ same. let name = c.give_back.ensures.same ∙ same ∙ c.new-text.ensures.same in let now = c.give_back.ensures.now in search rules))
    (Ok Done) (c.run_files-status.ensures.ran.done zero)

pub returns-clause-different : goal.returns-clause-different
returns-clause-different g c = λ one.
    does_of _ _ _ _ (itself _) (itself _) c.args.mask c.args.job _ _
    (printed_to_writer g.W.Write.contents (λ s. s.failures) (λ s. s.writer.ghost_name) (λ s. s.writer.now) c.args.out.now _
    c.new-text.result c.run_files-status.new.out c.new-text.ensures.now
    (λ same. let name = c.give_back.ensures.same ∙ same ∙ c.new-text.ensures.same in let now = c.give_back.ensures.now in search rules))
    (Ok Different) (c.run_files-status.ensures.ran.different one)

pub returns-clause-reported : goal.returns-clause-reported
returns-clause-reported g c = λ above.
    why_of _ _ _ _ (itself _) (itself _) c.args.mask c.args.job _ _
    (printed_to_writer g.W.Write.contents (λ s. s.failures) (λ s. s.writer.ghost_name) (λ s. s.writer.now) c.args.out.now _
    c.new-text.result c.run_files-status.new.out c.new-text.ensures.now
    (λ same. let name = c.give_back.ensures.same ∙ same ∙ c.new-text.ensures.same in let now = c.give_back.ensures.now in search rules))
    _ _
    (line_to_writer g.E.Write.contents (λ s. s.failures) (λ s. s.writer.ghost_name) (λ s. s.writer.now) c.args.err.now _
    c.new-lines.result c.run_files-status.new.err c.new-lines.ensures.now
    (λ same. let name = c.give_back-2.ensures.same ∙ same ∙ c.new-lines.ensures.same in let now = c.give_back-2.ensures.now in search rules))
    c.run_files-status.result (c.run_files-status.ensures.ran.stopped above)

pub returns-clause-missing_reported : goal.returns-clause-missing_reported
returns-clause-missing_reported g c = λ missing.
    line_to_writer g.E.Write.contents (λ s. s.failures) (λ s. s.writer.ghost_name) (λ s. s.writer.now) c.args.err.now _
    c.new-lines.result c.run_files-status.new.err c.new-lines.ensures.now
    (λ same. let name = c.give_back-2.ensures.same ∙ same ∙ c.new-lines.ensures.same in let now = c.give_back-2.ensures.now in search rules)
    _ (c.run_files-status.ensures.missing_reported missing)

pub returns-clause-refused : goal.returns-clause-refused
returns-clause-refused g c = λ three. refused _ _ _ _ _ _ _ (returns-clause-reported g c (omega (arith, three))) three

pub returns-clause-device : goal.returns-clause-device
returns-clause-device g c = λ four. some _ _ _ _ _ _ _ (returns-clause-reported g c (omega (arith, four)))
