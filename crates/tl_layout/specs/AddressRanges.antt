-- Address ranges and ZIP codes, 58 bytes.
use Rattle.std.specs.Prelude.{List, ℕ, ◌+◌, ◌∷◌}
use Rattle.tl_layout.specs.Bytes.{IsText, columns}
use Rattle.tl_layout.specs.Pairs.{FitsPair, pair_at, pair_of, pair_texts}
use Rattle.tl_layout.specs.declared.ranges.Ranges.{Ranges}

-- each field of the ranges has its width
pub record FitsRanges (ranges : Ranges) : Type 0 where
  pub fraddl : IsText 11 ranges.fraddl
  pub toaddl : IsText 11 ranges.toaddl
  pub fraddr : IsText 11 ranges.fraddr
  pub toaddr : IsText 11 ranges.toaddr
  pub friaddl : IsText 1 ranges.friaddl
  pub toiaddl : IsText 1 ranges.toiaddl
  pub friaddr : IsText 1 ranges.friaddr
  pub toiaddr : IsText 1 ranges.toiaddr
  pub zip : FitsPair 5 ranges.zip

-- the ranges made from these fields
abbrev pub ranges_of : (fraddl toaddl fraddr toaddr friaddl toiaddl friaddr toiaddr zipl zipr : List ℕ) → Ranges
ranges_of fraddl toaddl fraddr toaddr friaddl toiaddl friaddr toiaddr zipl zipr =
    record {
      fraddl = fraddl;
      toaddl = toaddl;
      fraddr = fraddr;
      toaddr = toaddr;
      friaddl = friaddl;
      toiaddl = toiaddl;
      friaddr = friaddr;
      toiaddr = toiaddr;
      zip = pair_of zipl zipr;
    }

-- the ranges that begin at this column of a line
abbrev pub ranges_at : ℕ → List ℕ → Ranges
ranges_at first line =
    record {
      fraddl = columns first (first + 10) line;
      toaddl = columns (first + 11) (first + 21) line;
      fraddr = columns (first + 22) (first + 32) line;
      toaddr = columns (first + 33) (first + 43) line;
      friaddl = columns (first + 44) (first + 44) line;
      toiaddl = columns (first + 45) (first + 45) line;
      friaddr = columns (first + 46) (first + 46) line;
      toiaddr = columns (first + 47) (first + 47) line;
      zip = pair_at 5 (first + 48) line;
    }

-- the texts of the ranges
abbrev pub ranges_texts : Ranges → List (List ℕ)
ranges_texts ranges =
    ranges.fraddl ∷ ranges.toaddl ∷ ranges.fraddr ∷ ranges.toaddr
    ∷ ranges.friaddl ∷ ranges.toiaddl ∷ ranges.friaddr ∷ ranges.toiaddr ∷ pair_texts 5 ranges.zip
