-- The names of a path's files.
use Rattle.std.specs.Prelude.{◌≡◌, ◌++◌, ℕ, List, codes, string_bytes}
use Rattle.pfc_folder.specs.declared.data.DataFile.{DataFile}
use Rattle.pfc_folder.specs.declared.info.InfoFiles.{InfoFiles}

-- the main file and the temporary have the names that they had
pub record SameNames (old new : InfoFiles) : Type 0 where
  pub main : string_bytes new.main.name ≡ string_bytes old.main.name
  pub temp : string_bytes new.temp.name ≡ string_bytes old.temp.name

-- the files of a path below this folder
pub record HasNames (root path : List ℕ) (first : DataFile) (second : InfoFiles) : Type 0 where
  pub main_file : string_bytes second.main.name ≡ root ++ path ++ codes ".cinfo"
  pub temporary : string_bytes second.temp.name ≡ root ++ path ++ codes ".cinfo.tmp"
  pub data_file : string_bytes first.place.name ≡ root ++ path
