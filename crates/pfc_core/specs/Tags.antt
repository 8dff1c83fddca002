-- What a token's tag says.
use Rattle.std.specs.Prelude.{◌≡◌}
use Rattle.pfc_world.specs.declared.origin.World.{Ghosts}
use Rattle.pfc_core.specs.declared.tag.Tag.{Tag}
use Rattle.pfc_core.specs.Marks.{Kind, Mark}
use Rattle.pfc_core.specs.Out.{Home, mark_in}

abbrev pub home_in : {W : Type 0} {g : Ghosts W} → Tag W g → Home
home_in t = record { instance = t.instance; path = t.known.path; size = t.known.size; block_size = t.block_size }

abbrev pub mark_of : {W : Type 0} {g : Ghosts W} → Kind → Tag W g → Mark
mark_of kind t = mark_in kind (home_in t) t.held

-- the core of this number and file gave it out
abbrev pub IsAt : {W : Type 0} {g : Ghosts W} → Home → Tag W g → Type 0
IsAt h t = home_in t ≡ h
