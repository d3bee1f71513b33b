-- How a call answers a chain of tests, each of which names a refusal or none.
use Rattle.std.specs.Prelude.{◌≡◌, Some, None, Ok, Err, Option, Result}
use Rattle.common.specs.declared.refusal.Refusal.{Refusal}

-- the first refusal of two tests
abbrev pub or_else : Option Refusal → Option Refusal → Option Refusal
or_else (Some e) later = Some e
or_else None later = later

-- a test passes exactly where it names no refusal, and answers the one that it names
abbrev pub Tested : {A : Type 0} → Option Refusal → Result A Refusal → Type 0
Tested want (Ok x) = want ≡ None
Tested want (Err e) = want ≡ Some e
