-- A configuration that has been read in part.
use Rattle.std.proofs.Common.{◌≡◌, ℕ, ◌+◌, ◌≤◌, ◌<◌, List, [], ◌++◌, length, Some, None, Err, refl, sym, ◌∙◌}
use Rattle.pfc_base.specs.Pieces.{pieces_of}
use Rattle.std.proofs.lemmas.Bool.{le-ltb, lt-ltb}
use Rattle.pfc_config.specs.Config.{first_bad, config_by, or_default, with_room, configured_lines, configured}
use Rattle.pfc_config.specs.declared.refusal.ConfigRefusal.{ConfigRefusal}
use Rattle.pfc_config.specs.declared.refusal.ConfigRefusal.TheVariants.{Bad}
use Rattle.pfc_config.specs.declared.refusal.Kind.TheVariants.{TooLong}
use Rattle.pfc_config.proofs.Settled.{config_by-set}
use Rattle.pfc_config.specs.Settings.{AreSetBy, set_by, ram_line}
use Rattle.pfc_config.specs.declared.settings.Settings.{Settings}

-- lines were taken, the next has this number, and this rest is left
pub record IsReading (capacity : ℕ) (bytes rest : List ℕ) (number : ℕ) (settings : Settings) : Type 0 where
  pub before : List (List ℕ)
  pub count : number ≡ length before + 1
  pub lines : before ++ pieces_of 10 rest ≡ pieces_of 10 bytes
  pub settled : AreSetBy capacity before settings
  pub bad : first_bad capacity before (pieces_of 10 rest) ≡ first_bad capacity [] (pieces_of 10 bytes)
  pub few : number + length rest ≤ length bytes + 1

pub configured-long : (bytes : List ℕ) (capacity : ℕ) → 1048576 < length bytes → configured bytes capacity ≡ Err (Bad 0 TooLong)
unfolding configured
configured-long bytes capacity h = rw (lt-ltb 1048576 (length bytes) h) refl

short : (bytes : List ℕ) (capacity : ℕ) → length bytes ≤ 1048576 → configured bytes capacity ≡ configured_lines capacity (pieces_of 10 bytes)
unfolding configured
short bytes capacity h = rw (le-ltb 1048576 (length bytes) h) refl

pub configured-bad : (bytes : List ℕ) (capacity : ℕ) (refusal : ConfigRefusal) → length bytes ≤ 1048576 →
    first_bad capacity [] (pieces_of 10 bytes) ≡ Some refusal → configured bytes capacity ≡ Err refusal
configured-bad bytes capacity refusal h bad = short bytes capacity h ∙ rw bad refl

pub configured-good : (bytes : List ℕ) (capacity : ℕ) (settings : Settings) → length bytes ≤ 1048576 →
    first_bad capacity [] (pieces_of 10 bytes) ≡ None → AreSetBy capacity (pieces_of 10 bytes) settings →
    configured bytes capacity ≡ with_room (ram_line settings) (config_by (or_default capacity (set_by settings)))
configured-good bytes capacity settings h good are =
    short bytes capacity h ∙ rw good (sym (config_by-set capacity (pieces_of 10 bytes) settings are))
