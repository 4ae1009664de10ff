-- The literal bytes in spellings are allowed.
use Rattle.std.proofs.Common.{IsTrue, List, codes, refl, true, ℕ, ◌≡◌}
use Rattle.std.proofs.lemmas.List.Elements.{All-replicate}
use Rattle.std.proofs.lemmas.List.Sums.{AllPass-from_list_all}
use Rattle.std.proofs.lemmas.List.{length-replicate}
use Rattle.std.specs.List.{list_all}
use Rattle.tl_layout.specs.Bytes.{AreAllowed, IsText, blanks, is_allowed}

-- bytes that pass the test are allowed
pub allowed_from_test : (bytes : List ℕ) → list_all is_allowed bytes ≡ true → AreAllowed bytes
unfolding AreAllowed
allowed_from_test bytes h = AllPass-from_list_all is_allowed bytes h

pub text_2006 : IsText 4 (codes "2006")
text_2006 = record { len = refl; allowed = allowed_from_test (codes "2006") refl }

-- blanks are text of their width
pub blanks_are_text : (width : ℕ) → IsText width (blanks width)
unfolding AreAllowed
blanks_are_text width = record { len = length-replicate width 32; allowed = All-replicate (λ b. IsTrue (is_allowed b)) width 32 refl }
