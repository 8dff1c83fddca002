use Rattle.std.proofs.Common.{◌≡◌, ℕ, List, [], length, sym, ap, subst, arith, Option}
use Rattle.std.specs.Prelude.{Contains}
use Rattle.pfc_base.specs.Cinfo.{IsSound}
use Rattle.pfc_world.specs.Depot.{AllSound}
use Rattle.pfc_world.specs.Files.{Files}
use Rattle.pfc_memory.specs.Depot.{LeavesOne}
use Rattle.pfc_memory.specs.Rows.{row_files}
use Rattle.pfc_replay.proofs.outside.crashed.Goals as goal

-- one pair of images is left of those before
left_sound : (files : Files) (path : List ℕ) (OldData NewData : List ℕ → Type 0) (OldMain NewMain : Option (List ℕ) → Type 0) → LeavesOne OldData NewData → LeavesOne OldMain NewMain → AllSound files path OldData OldMain → AllSound files path NewData NewMain
left_sound files path OldData NewData OldMain NewMain «data» main sound = λ file at image shown is is_main.
    subst (λ (d : List ℕ). IsSound d shown file) (sym ((«data».one image).0 is)) (subst (λ (m : Option (List ℕ)). IsSound «data».left m file) (sym ((main.one shown).0 is_main)) (sound file at «data».left main.left «data».before main.before))

-- nothing is out
none_out : (path : List ℕ) (out : List (List ℕ)) → out ≡ [] → Contains out path → ⊥
none_out path out none held = let low = held.1 in let long = ap length none in omega (arith, low, long)

pub returns-clause-sound : goal.returns-clause-sound
returns-clause-sound c = λ path. (let left = c.in_ok-crash.ensures.home path (none_out path _ c.requires.home) in left_sound row_files path _ _ _ _ left.at_data left.at_main (c.requires.sound path))
