-- What a call shows: the texts of the files, in order, and what may stand in their place.
use Rattle.std.specs.Prelude.{◌≡◌, ◌⊎◌, ℕ, Bool, true, false, ◌||◌, List, [], ◌∷◌, ◌++◌, take, IsTrue, IsSomeAnd, All}
use Rattle.pfc_base.specs.Cinfo.{Cinfo, IsCinfo, cinfo_in}
use Rattle.pfc_world.specs.Counts.{Stayed}
use Rattle.pfc_world.specs.Files.{file_at}
use Rattle.pfc_world.specs.Texts.{Texts, Appends, AppendsFront}
use Rattle.pfc_print.specs.Words.{AreTaken, is_verbose, files_in}
use Rattle.pfc_print.specs.Text.{file_text, fault_text, usage_text}

-- what of a file is looked at: one byte more than the longest cinfo has
abbrev pub read_limit : ℕ
read_limit = 4194305

-- where the host tells its texts, these are the bytes that are looked at of the one of this name
abbrev pub AreRead : Bool → Texts → List ℕ → List ℕ → Type 0
AreRead told texts name bytes = IsTrue told → IsSomeAnd (file_at texts name) (λ all. bytes ≡ take read_limit all)

-- The text of one file, and whether its bytes are no cinfo.
pub record IsShown (told : Bool) (texts : Texts) (verbose : Bool) (name : List ℕ) (text : List ℕ) (damaged : Bool) : Type 0 where
  pub bytes : List ℕ
  pub read : AreRead told texts name bytes
  pub shown : text ≡ file_text verbose name bytes
  pub cinfo : damaged ≡ false → IsCinfo bytes (cinfo_in bytes)
  pub none : damaged ≡ true → (c : Cinfo) → ¬ IsCinfo bytes c

-- The texts of these files, one behind the other, and whether one of them is no cinfo.
abbrev pub AreShown : Bool → Texts → Bool → List (List ℕ) → List ℕ → Bool → Type 0
AreShown told texts verbose [] text damaged = (text ≡ []) × (damaged ≡ false)
AreShown told texts verbose (name ∷ names) text damaged =
    (first : List ℕ) × (one : Bool) × (rest : List ℕ) × (others : Bool) × IsShown told texts verbose name first one × AreShown told texts verbose names rest others
    × (text ≡ first ++ rest) × (damaged ≡ (one || others))

-- The text of the first of these files.
pub record IsFront (told : Bool) (texts : Texts) (verbose : Bool) (files : List (List ℕ)) (text : List ℕ) : Type 0 where
  pub first : List (List ℕ)
  pub others : List (List ℕ)
  pub parts : files ≡ first ++ others
  pub damaged : Bool
  pub shown : AreShown told texts verbose first text damaged

-- The text of the files before one that could not be read, and a line that says so.
pub record IsCut (told : Bool) (texts : Texts) (verbose : Bool) (files : List (List ℕ)) (text : List ℕ) : Type 0 where
  pub before : List (List ℕ)
  pub name : List ℕ
  pub others : List (List ℕ)
  pub parts : files ≡ before ++ name ∷ others
  pub damaged : Bool
  pub shown : List ℕ
  pub printed : AreShown told texts verbose before shown damaged
  pub cut : text ≡ shown ++ fault_text name

-- The text of the files before one of which nothing is written.
pub record IsPart (told : Bool) (texts : Texts) (verbose : Bool) (files : List (List ℕ)) (text : List ℕ) : Type 0 where
  pub before : List (List ℕ)
  pub name : List ℕ
  pub others : List (List ℕ)
  pub parts : files ≡ before ++ name ∷ others
  pub damaged : Bool
  pub shown : AreShown told texts verbose before text damaged

-- all that may be written of these files: the text of the first of them, and a line for one that could not be read
abbrev pub IsPrinted : Bool → Texts → Bool → List (List ℕ) → List ℕ → Type 0
IsPrinted told texts verbose files text = IsFront told texts verbose files text ⊎ IsCut told texts verbose files text

-- the words are taken, and this is the text of all files that they name
abbrev pub IsWhole : Bool → Texts → List (List ℕ) → Bool → List ℕ → Type 0
IsWhole told texts words damaged text = AreTaken words × AreShown told texts (is_verbose words) (files_in words) text damaged

abbrev pub IsFault : Bool → Texts → List (List ℕ) → List ℕ → Type 0
IsFault told texts words text = AreTaken words × IsCut told texts (is_verbose words) (files_in words) text

-- nothing, or the words are taken, and this is the text of the files before one that they name
abbrev pub IsStopped : Bool → Texts → List (List ℕ) → List ℕ → Type 0
IsStopped told texts words text = (text ≡ []) ⊎ (AreTaken words × IsPart told texts (is_verbose words) (files_in words) text)

abbrev pub IsUsage : List (List ℕ) → List ℕ → Type 0
IsUsage words text = (¬ AreTaken words) × (text ≡ usage_text)

-- all that a call may have meant to write
abbrev pub IsMeant : Bool → Texts → List (List ℕ) → List ℕ → Type 0
IsMeant told texts words text = IsUsage words text ⊎ (AreTaken words × IsPrinted told texts (is_verbose words) (files_in words) text)

-- a text of this kind came to the sink
abbrev pub Writes : (List ℕ → Type 0) → Bool → List ℕ → List ℕ → Type 0
Writes kind sink old new = (text : List ℕ) × kind text × Appends sink old new text

-- a front of a text of this kind came to the sink
abbrev pub WritesFront : (List ℕ → Type 0) → Bool → List ℕ → List ℕ → Type 0
WritesFront kind sink old new = (text : List ℕ) × kind text × AppendsFront sink old new text

-- each file that the words name is a cinfo
abbrev pub AreCinfos : Texts → List (List ℕ) → Type 0
AreCinfos texts names = All (λ name. IsSomeAnd (file_at texts name) (λ all. (c : Cinfo) × IsCinfo (take read_limit all) c)) names

-- the host tells cinfos of all names, the words are taken, and no count of the host or of the sink rose
pub record IsUnhindered (told : Bool) (texts : Texts) (words : List (List ℕ)) (host_before host_after sink_before sink_after : ℕ) : Type 0 where
  pub taken : AreTaken words
  pub tells : IsTrue told
  pub cinfos : AreCinfos texts (files_in words)
  pub host_stayed : Stayed host_before host_after
  pub sink_stayed : Stayed sink_before sink_after
