use Rattle.tigercanon.proofs.Common.{refl}
use Rattle.tigercanon.proofs.Reported.{reported_no_device, reported_refused, reported_succeeds}
use Rattle.tigercanon.proofs.library.fingerprinting.fingerprint_masked.Goals as goal

pub returns-clause-refused : goal.returns-clause-refused
returns-clause-refused c = reported_refused _ c.make_of.result (c.make_of.ensures.refused _ refl)

pub returns-clause-no_device : goal.returns-clause-no_device
returns-clause-no_device c = reported_no_device _ c.make_of.result (c.make_of.ensures.refused _ refl)

pub returns-clause-succeeds : goal.returns-clause-succeeds
returns-clause-succeeds c = reported_succeeds _ c.make_of.result (c.make_of.ensures.refused _ refl)
