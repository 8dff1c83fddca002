-- What is at home in a depot stays sound.
use Rattle.std.proofs.Common.{ℕ, List, Bool}
use Rattle.std.specs.Prelude.{Option, IsTrue}
use Rattle.pfc_world.specs.Files.{Files}
use Rattle.pfc_world.specs.Depot.{FewerAtHome}
use Rattle.pfc_actor.specs.Backings.{IsSoundAtHome}

-- where each image at home was one before
pub sound-fewer : (told tells : Bool) (files : Files) (OldData NewData : List ℕ → List ℕ → Type 0) (OldMain NewMain : List ℕ → Option (List ℕ) → Type 0) →
    (IsTrue tells → FewerAtHome OldData OldMain NewData NewMain) → IsSoundAtHome told tells files OldData OldMain → IsSoundAtHome told tells files NewData NewMain
sound-fewer told tells files OldData NewData OldMain NewMain fewer sound = λ t d path file at image main is is_main.
    sound t d path file at image main ((fewer d path).0 image is) ((fewer d path).1 main is_main)
