use Rattle.std.proofs.Common.{◌≡◌, List, ℕ, Option, Some, None, sym, ◌∙◌}
use Rattle.pfc_base.specs.Cinfo.{IsSound}
use Rattle.pfc_store.proofs.tests.add_both.Goals as goal

nothing_is_sound : (image : List ℕ) (main : Option (List ℕ)) (file : List ℕ) → main ≡ None → IsSound image main file
nothing_is_sound image main file none = record { held = λ bytes c some is size. let e : None ≡ Some bytes = sym none ∙ some in cc }

pub open_store-requires-clause-sound : goal.open_store-requires-clause-sound
open_store-requires-clause-sound c κs _ _ file has image main is_image is_main = nothing_is_sound image main file (c.requires.bare main is_main)
