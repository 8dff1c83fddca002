-- What is printed of a file.
use Rattle.std.specs.Prelude.{ℕ, Bool, true, false, List, [], ◌∷◌, ◌++◌, codes, length, count_by, Option, Some, None}
use Rattle.std.specs.List.{flat_map}
use Rattle.pfc_base.specs.Cinfo.{Record, Cinfo, cinfo_in}
use Rattle.pfc_cinfo.specs.Cinfo.{claimed_bytes}
use Rattle.pfc_cinfo.specs.Damage.{first_damage}
use Rattle.pfc_cinfo.specs.declared.damage.Damage.{Damage}
use Rattle.pfc_cinfo.specs.declared.damage.Damage.TheVariants.{Short, Version, HeaderSum, Shape, BodySum}
use Rattle.pfc_log.specs.Runs.{runs_of, runs_text}
use Rattle.pfc_log.specs.Text.{numbers_text}

-- a line of a word and numbers
abbrev pub line_text : List ℕ → List ℕ → List ℕ
line_text word numbers = word ++ numbers_text numbers ++ codes "\n"

abbrev pub record_text : Record → List ℕ
record_text r = line_text (codes "record") (r.attach ∷ r.detach ∷ r.ios ∷ r.duration ∷ r.merged ∷ r.hit ∷ r.missed ∷ r.bypassed ∷ [])

-- the claimed blocks, where they are asked for
abbrev pub claims_text : Bool → List Bool → List ℕ
claims_text true claims = codes "runs " ++ runs_text (runs_of claims) ++ codes "\n"
claims_text false claims = []

abbrev pub head_text : List ℕ → Cinfo → List ℕ
head_text word c =
    codes "cinfo " ++ word ++ codes "\nversion 4\n" ++ line_text (codes "block") (c.block ∷ []) ++ line_text (codes "size") (c.size ∷ [])
    ++ line_text (codes "blocks") (length c.claims ∷ []) ++ line_text (codes "created") (c.head.created ∷ []) ++ line_text (codes "accesses") (c.head.accesses ∷ [])
    ++ line_text (codes "claimed") (count_by (λ claimed. claimed) c.claims ∷ []) ++ line_text (codes "bytes") (claimed_bytes c ∷ [])

unfoldable pub cinfo_text : Bool → List ℕ → Cinfo → List ℕ
cinfo_text verbose word c = head_text word c ++ claims_text verbose c.claims ++ flat_map record_text c.head.records

abbrev pub damage_word : Damage → List ℕ
damage_word Short = codes "short"
damage_word Version = codes "version"
damage_word HeaderSum = codes "headersum"
damage_word Shape = codes "shape"
damage_word BodySum = codes "bodysum"

abbrev pub damaged_text : List ℕ → Damage → List ℕ
damaged_text word damage = codes "damaged " ++ word ++ codes " " ++ damage_word damage ++ codes "\n"

abbrev pub judged_text : Option Damage → Bool → List ℕ → List ℕ → List ℕ
judged_text None verbose word bytes = cinfo_text verbose word (cinfo_in bytes)
judged_text (Some damage) verbose word bytes = damaged_text word damage

-- the text of a file with these bytes
abbrev pub file_text : Bool → List ℕ → List ℕ → List ℕ
file_text verbose word bytes = judged_text (first_damage bytes) verbose word bytes

abbrev pub fault_text : List ℕ → List ℕ
fault_text word = codes "fault " ++ word ++ codes "\n"

abbrev pub usage_text : List ℕ
usage_text = codes "usage: xrdpfc_print [-v] <cinfo>..\n"
