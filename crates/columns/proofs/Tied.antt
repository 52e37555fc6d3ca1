-- Each table of the code, read back, is its layout: one computation each.
-- Assumes nothing.
use mathlib.Core.Path.{◌≡◌, refl}
use Rattle.columns.specs.Layout.{primary, continuation}
use Rattle.columns.specs.Table.{encode, decode}

pub tied : primary ≡ decode (encode primary)
unfolding primary encode decode
tied = refl

pub tied_continuation : continuation ≡ decode (encode continuation)
unfolding continuation encode decode
tied_continuation = refl
