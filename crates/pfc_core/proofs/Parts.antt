-- Parts of a block's bytes.
use Rattle.std.proofs.Common.{◌≡◌, ℕ, ◌+◌, ◌-◌, ◌≤◌, List, length, take, drop, sym, ap, ◌∙◌, subst, arith, Bool, Option, Some, None, length-drop}
use Rattle.std.specs.Option.{IsSomeAnd}
use Rattle.std.proofs.lemmas.List.{drop-drop, take-take, length-take-le}
use Rattle.pfc_base.proofs.Lists.{drop-take}
use Rattle.pfc_base.specs.Block.{slice_of}
use Rattle.pfc_world.specs.Files.{Files, file_at, Holds}
use Rattle.std.specs.Arc.{arc_value}
use Rattle.std.specs.declared.sync.Arc.{Arc}
use Rattle.pfc_world.specs.declared.origin.World.{Ghosts}
use Rattle.pfc_world.specs.declared.known.Block.{Block}
use Rattle.pfc_core.specs.Shelf.{IsBlock, HasBlock}

abbrev Lies : ℕ → List ℕ → List ℕ → Type 0
Lies at bytes file = (at + length bytes ≤ length file) × (bytes ≡ slice_of file at (length bytes))

part_of : (at from n : ℕ) (bytes file : List ℕ) → from + n ≤ length bytes → Lies at bytes file → Lies (at + from) (take n (drop from bytes)) file
part_of at from n bytes file low lies =
    let long : length (take n (drop from bytes)) ≡ n = length-take-le n (drop from bytes) (omega (arith, low, length-drop from bytes)) in
    let same : take n (drop from bytes) ≡ take n (drop (at + from) file) =
    ap (λ (b : List ℕ). take n (drop from b)) lies.1
    ∙ ap (take n) (drop-take from (length bytes) (drop at file))
    ∙ take-take n (length bytes - from) (drop from (drop at file)) (omega (arith, low))
    ∙ ap (take n) (drop-drop from at file) in
    (omega (arith, long, low, lies.0), same ∙ ap (λ (m : ℕ). take m (drop (at + from) file)) (sym long))

in_file : (o : Option (List ℕ)) (at from n : ℕ) (bytes : List ℕ) → from + n ≤ length bytes → IsSomeAnd o (Lies at bytes) → IsSomeAnd o (Lies (at + from) (take n (drop from bytes)))
in_file None at from n bytes low lies = lies
in_file (Some file) at from n bytes low lies = part_of at from n bytes file low lies

-- a part of the bytes from a place is the file's too
pub holds_part : (told : Bool) (files : Files) (path : List ℕ) (at from n : ℕ) (bytes : List ℕ) → from + n ≤ length bytes → Holds told files path at bytes → Holds told files path (at + from) (take n (drop from bytes))
holds_part told files path at from n bytes low holds is_told = in_file (file_at files path) at from n bytes low (holds is_told)

-- the block that stands there
pub block_there : {W : Type 0} {g : Ghosts W} {A : Type 0} (path : List ℕ) (size k i : ℕ) (o : Option (Arc (Block W g) A)) (a : Arc (Block W g) A) → o ≡ Some a → HasBlock path size k i o → IsBlock path size k i (arc_value a)
block_there path size k i o a is has = subst (λ (x : Option (Arc (Block _ _) _)). HasBlock path size k i x) is has

pub no_block : {W : Type 0} {g : Ghosts W} {A : Type 0} (path : List ℕ) (size k i : ℕ) (o : Option (Arc (Block W g) A)) → o ≡ None → HasBlock path size k i o → ⊥
no_block path size k i o is has = subst (λ (x : Option (Arc (Block _ _) _)). HasBlock path size k i x) is has
