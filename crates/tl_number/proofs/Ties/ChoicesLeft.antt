-- The remaining choices are in the same order in a part of the county, made for the places still open.
use Rattle.tl_number.proofs.Common.{AllByRecursion, County, Equal, List, OrderOfShapes, [], ap, choices_cmp, contains, false, is_gt, nat_cmp, numbered_arrangement, ones_cmp, other_way, subst, suc, sym, wanted_feats, zero, ℕ, ◌∙◌, ◌∷◌, ◌≡◌}
use Rattle.tl_number.proofs.Choices.LeastBelow.{contained_all}
use Rattle.tl_number.proofs.Choices.MovedParts.{moved-zero}
use Rattle.tl_number.proofs.Ties.NarrowedOrder.{same_ones, same_order}
use Rattle.tl_number.proofs.Ties.ComparedChoices.{ComparedChoices, OrderedCounty}
use Rattle.tl_number.specs.CountyParts.{narrowed}
use Rattle.tl_number.specs.LeastOnes.{HaveSameOnes, IsLeastAmong, IsLeastOf}
use Rattle.tl_number.specs.SmallCounty.{small_county}
use Rattle.tl_number.specs.StillOpen.{AreStillOpen, IsChoiceLeft, LeavesOpen}

-- one number for 0, and another one for all others
abbrev either : ℕ → ℕ → ℕ → ℕ
either n m zero = n
either n m (suc i) = m

module _ (c : OrderedCounty) (numbers : List ℕ) (still : OrderOfShapes) (leaves : LeavesOpen c.shapes.by_shape c.shapes.places numbers still)
    (are : AreStillOpen c.shapes.places still) where
  abbrev IsLeft : ℕ → Type 0
  IsLeft n = IsChoiceLeft c.shapes.by_shape c.shapes.places still n

  -- the choice that is the base arrangement
  abbrev pub base_choice : ComparedChoices
  base_choice = record {
    county = c.county;
    shapes = c.shapes;
    known = c.known;
    is = c.is;
    within = c.within;
    still = still;
    base = leaves.base;
    based = leaves.based;
    inside = are.within;
    opened = are.opened;
    number = λ i. leaves.base;
    digits = λ i. 0;
    stand = λ i. ap (λ r. r.0) (moved-zero other_way still.places still.by_shape are.within) ∙ leaves.based;
  }

  -- two remaining choices
  abbrev two : (n m : ℕ) → IsLeft n → IsLeft m → ComparedChoices
  two n m p q = record base_choice { number = either n m; digits = either p.0 q.0; stand = stands }
    where
      stands : (i : ℕ) → numbered_arrangement still (either p.0 q.0 i) ≡ numbered_arrangement c.shapes (either n m i)
      stands zero = sym p.2
      stands (suc i) = sym q.2

  -- the part of the county
  abbrev pub part : County
  part = small_county (narrowed (λ feat. contains nat_cmp feat (wanted_feats c.county still)) c.county) c.shapes still

  -- So choices with the same records of type 1 have the same ones there.
  pub same_ones_there : HaveSameOnes c.county numbers → HaveSameOnes part numbers
  same_ones_there = outer numbers leaves.choices
    where
      inner : (n : ℕ) → IsLeft n → (ms : List ℕ) → AllByRecursion IsLeft ms → AllByRecursion (λ m. ones_cmp c.county n m ≡ Equal) ms
          → AllByRecursion (λ m. ones_cmp part n m ≡ Equal) ms
      inner n p [] a s = tt
      inner n p (m ∷ ms) a s = (same_ones (two n m p a.0) 0 1 ∙ s.0, inner n p ms a.1 s.1)

      outer : (ns : List ℕ) → AllByRecursion IsLeft ns → AllByRecursion (λ n. AllByRecursion (λ m. ones_cmp c.county n m ≡ Equal) numbers) ns
          → AllByRecursion (λ n. AllByRecursion (λ m. ones_cmp part n m ≡ Equal) numbers) ns
      outer [] a s = tt
      outer (n ∷ ns) a s = (inner n a.0 numbers leaves.choices s.0, outer ns a.1 s.1)

  -- The least of them in the part is the least of them in the county.
  pub least_there : (n : ℕ) → IsLeastOf part numbers n → IsLeastAmong c.county numbers n
  least_there n least = each numbers leaves.choices least.least
    where
      own : IsLeft n
      own = contained_all IsLeft numbers leaves.choices n least.there

      each : (ms : List ℕ) → AllByRecursion IsLeft ms → AllByRecursion (λ m. is_gt (choices_cmp part n m) ≡ false) ms
          → AllByRecursion (λ m. is_gt (choices_cmp c.county n m) ≡ false) ms
      each [] a l = tt
      each (m ∷ ms) a l = (subst (λ o. is_gt o ≡ false) (same_order (two n m own a.0) 0 1) l.0, each ms a.1 l.1)
