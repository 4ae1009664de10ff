-- A subcommand's walk over its words, one word at a time.
use Rattle.command_line.proofs.Common.{ErrorKind, Held, Kinds, List, None, Option, Row, Shape, Text, Walk, [], ap, ap₂, arg_by_index, false, finished, fold, idle, or_else, settled, step_fault, sym, to_positional, value, ℕ, ◌∙◌, ◌∷◌, ◌≡◌}
use Rattle.command_line.proofs.UsualWords.Words.{IsNoFlag, Read, read}
use Rattle.clap.specs.Faults.{check_fault, defaults_fault, settle_fault, turn_fault, walk_fault}
use Rattle.clap.specs.Walk.{walked}

-- the state of the walk before a word: what was found so far, the argument that is still pending, and the next argument's position
abbrev pub before_word : List Row → Option (Text × List Text) → ℕ → Walk
before_word rows pending position = record {
  held = record { rows = rows; pending = pending; skip = 0 };
  waiting = idle;
  position = position;
  is_trailing = false;
  stopped = None;
}

-- the end of the walk over these words, and the fault that is found in them, and after them
abbrev end_of : Shape → Walk → List Text → Walk
end_of s w words = fold (walked s.rules []) w words

abbrev late_fault : Shape → Held → Kinds
late_fault s h =
    or_else (settle_fault s.rules s.args_override_self h) (or_else (defaults_fault (settled s.rules h).rows s.rules)
    (check_fault s (finished s.rules h) false))

abbrev pub fault_from : Shape → Walk → List Text → Kinds
fault_from s w words = or_else (walk_fault s [] w words) (late_fault s (end_of s w words).held)

-- the remaining words are accepted, and parsed like this
pub record Reads (s : Shape) (w : Walk) (words : List Text) (wanted : Read) : Type 0 where
  pub taken : fault_from s w words ≡ []
  pub met : read (finished s.rules (end_of s w words).held) ≡ wanted

-- the walk takes a word
pub record Steps (s : Shape) (w : Walk) (word : Text) (after : Walk) : Type 0 where
  pub passes : turn_fault s [] w word ≡ []
  pub steps : walked s.rules [] w word ≡ after

pub fault_after : (s : Shape) (w after : Walk) (word : Text) (rest : List Text) → Steps s w word after → fault_from s w (word ∷ rest) ≡ fault_from s after rest
unfolding walk_fault
fault_after s w after word rest step =
    ap₂ (λ k v. or_else (or_else k (walk_fault s [] v rest)) (late_fault s (end_of s v rest).held)) step.passes step.steps

pub step_then : (s : Shape) (w after : Walk) (word : Text) (rest : List Text) (wanted : Read) → Steps s w word after → Reads s after rest wanted
    → Reads s w (word ∷ rest) wanted
step_then s w after word rest wanted step reads = record {
  taken = fault_after s w after word rest step ∙ reads.taken;
  met = ap (λ v. read (finished s.rules (end_of s v rest).held)) step.steps ∙ reads.met;
}

-- a word at which a fault is found isn't taken
pub refused : (s : Shape) (w : Walk) (word : Text) (rest : List Text) (kind : ErrorKind) → turn_fault s [] w word ≡ kind ∷ []
    → fault_from s w (word ∷ rest) ≡ [] → ⊥
unfolding walk_fault
refused s w word rest kind fault taken =
    let same : kind ∷ [] ≡ [] = sym (ap (λ k. or_else (or_else k (walk_fault s [] (walked s.rules [] w word) rest))
    (late_fault s (end_of s (walked s.rules [] w word) rest).held)) fault) ∙ taken in
    absurd cc

-- a word that isn't a flag goes to the argument at this position
pub plain_step : (s : Shape) (rows : List Row) (pending : Option (Text × List Text)) (position : ℕ) (word : Text) (after : Walk) → IsNoFlag word
    → step_fault s position (before_word rows pending position).held value ≡ []
    → to_positional s.rules (arg_by_index s.rules position) word (before_word rows pending position) (before_word rows pending position).held ≡ after
    → Steps s (before_word rows pending position) word after
unfolding walked
plain_step s rows pending position word after plain passes goes = record {
  passes = rw (plain.not_end, plain.not_long, plain.not_short) passes;
  steps = rw (plain.not_end, plain.not_long, plain.not_short) goes;
}
