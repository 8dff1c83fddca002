use Rattle.std.proofs.Common.{◌≡◌, drop}
use Rattle.pfc_world.specs.Files.{file_at}
use Rattle.pfc_memory.specs.Texts.{texts_of}
use Rattle.pfc_memory.proofs.host.find_text.Given as goal

abbrev pub invariant-loop-text : goal.invariant-loop-text
invariant-loop-text l = file_at (texts_of (drop l.text-index l.files)) l.name ≡ file_at (texts_of l.files) l.name
