-- The size of fragments.
use Rattle.std.specs.Prelude.{◌≤◌, length, List, All}
use Rattle.sal_carriage.specs.declared.fragment.Fragment.{Fragment}
use Rattle.sal_carriage.specs.Frames.{fragment_size}

-- 1 to 1,024 bytes
pub record Fits (f : Fragment) : Type 0 where
  pub least : 1 ≤ length f.payload
  pub most : length f.payload ≤ fragment_size

abbrev pub AllFit : List Fragment → Type 0
AllFit fs = All Fits fs
