-- The final contents of a lent writer.
use Rattle.tigercanon.proofs.Common.{Appends, Err, HoldsUnderName, Keeps, List, MatchResult, None, Ok, Option, ReportsLine, ReportsLineTo, Result, Some, Took, WriteFault, ap, if◌then◌else◌, inl, inr, is_ok, length, refl, subst, sym, take, take-length, to_sink, to_writer, ℕ, ◌++◌, ◌+◌, ◌∙◌, ◌∷◌, ◌≡◌}
use Rattle.tigercanon.proofs.GivenSets.{IsPrintedTo}

pub kept : (known : Option (List ℕ)) → Keeps known known
kept None = tt
kept (Some bytes) = refl

-- a sink that got a line has it, or it failed and has a beginning of it
pub line_reported : {E : Type 0} (failed : E → ℕ) (holds : E → List ℕ → Type 0) (old new : E) (line : List ℕ) (r : Result ℕ WriteFault)
    → failed new ≡ (if is_ok r then failed old else failed old + 1)
    → ((held : List ℕ) → holds old held
    → MatchResult r (λ _. holds new (held ++ line)) (λ f. holds new (held ++ take f.written line)))
    → ReportsLineTo failed holds old new line
line_reported failed holds old new line (Ok count) failures bytes = inl (failures, bytes)
line_reported failed holds old new line (Err f) failures bytes = inr (failures, f.written, bytes)

-- facts about the sink hold for the writer that was lent to it
module _ {W X : Type 0} (contents : W → Option (List ℕ)) (failed name : X → ℕ) (writer : X → W) (start final : W) (first last : X)
    (lent : writer first ≡ start) (ends : name last ≡ name first → writer last ≡ final) where
  -- it has the bytes that the sink took: it is known to be the writer that was lent, if its bytes are known
  got : (bytes : List ℕ) → Took (λ s. HoldsUnderName (name s) (contents (writer s))) first last bytes
      → Appends (contents start) (contents final) bytes
  got bytes took = subst (λ w. Appends (contents w) (contents final) bytes) lent (go (contents (writer first)) refl)
    where
      put : (xs more : List ℕ) → name first ∷ (xs ++ bytes) ≡ name last ∷ more → contents (writer last) ≡ Some more
          → Appends (Some xs) (contents final) bytes
      put xs more same is =
          let named : name last ≡ name first = cc in
          let grown : more ≡ xs ++ bytes = cc in
          let known : contents final ≡ Some more = ap contents (sym (ends named)) ∙ is in
          rw known grown

      go : (known : Option (List ℕ)) → contents (writer first) ≡ known → Appends known (contents final) bytes
      go None e = tt
      go (Some xs) e = let g = took (name first ∷ xs) (xs, refl, e) in put xs g.0 g.1 g.2

  pub printed_to_writer : IsPrintedTo (to_sink failed (λ s. HoldsUnderName (name s) (contents (writer s))) first last)
      (to_writer (contents start) (contents final))
  printed_to_writer = record {
    got = got;
    kept = λ same. subst (λ w. Keeps (contents start) (contents w)) (sym lent ∙ sym (ap writer same) ∙ ends (ap name same))
        (kept (contents start));
    failed = λ rose. tt;
  }

  pub line_to_writer : (line : List ℕ) → ReportsLineTo failed (λ s. HoldsUnderName (name s) (contents (writer s))) first last line
      → ReportsLine (contents start) (contents final) line
  line_to_writer line (inl h) =
      (length line, subst (Appends (contents start) (contents final)) (sym (take-length line)) (got line h.1))
  line_to_writer line (inr h) = (h.1, got (take h.1 line) h.2)
