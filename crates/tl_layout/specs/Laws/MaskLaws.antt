-- Blanking twice under one mask is blanking once.
use Rattle.std.proofs.Common.{Bool, List, false, refl, true, ℕ, ◌≡◌}
use Rattle.tl_layout.specs.Bytes.{blanks_if}
use Rattle.tl_layout.specs.Masked.{masked_body_1, masked_body_7, masked_body_i}
use Rattle.tl_layout.specs.declared.mask.Mask.{Mask}
use Rattle.tl_layout.specs.declared.type1.fields.Body1Fields.{Body1Fields}
use Rattle.tl_layout.specs.declared.type7.Body7.{Body7}
use Rattle.tl_layout.specs.declared.type_i.BodyI.{BodyI}

-- a text that is blank or kept stays so
hidden_twice : (is_hidden : Bool) (width : ℕ) (text : List ℕ)
    → blanks_if is_hidden width (blanks_if is_hidden width text) ≡ blanks_if is_hidden width text
hidden_twice true width text = refl
hidden_twice false width text = refl

pub masked_twice_1 : (mask : Mask) (body : Body1Fields) → masked_body_1 mask (masked_body_1 mask body) ≡ masked_body_1 mask body
masked_twice_1 mask body = simp hidden_twice

pub masked_twice_7 : (mask : Mask) (body : Body7) → masked_body_7 mask (masked_body_7 mask body) ≡ masked_body_7 mask body
masked_twice_7 mask body = simp hidden_twice

pub masked_twice_i : (mask : Mask) (body : BodyI) → masked_body_i mask (masked_body_i mask body) ≡ masked_body_i mask body
masked_twice_i mask body = simp hidden_twice
