-- Counties under a mask.
pub mod MaskedCounties
pub mod MaskedProfile
pub mod MaskedViews
