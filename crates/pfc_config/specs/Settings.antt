-- What has been set so far, against the lines that were read.
use Rattle.std.specs.Prelude.{◌≡◌, ℕ, true, List, [], ◌∷◌, Option, None, option_map}
use Rattle.pfc_config.specs.Directive.{has_default}
use Rattle.pfc_config.specs.Config.{set_in, number_in}
use Rattle.pfc_config.specs.declared.settings.Settings.{Settings}
use Rattle.pfc_config.specs.declared.directive.Directive.{Directive}
use Rattle.pfc_config.specs.declared.directive.Directive.TheVariants.{BlockSize, Ram, Prefetch, WriteQueue, Flush, DiskUsage, User, Spaces, Trace}

-- what a directive has been set to
abbrev pub set_by : Settings → Directive → Option (List ℕ)
set_by settings BlockSize = option_map (λ bytes. bytes ∷ []) settings.block_size
set_by settings Ram = option_map (λ ram. ram.0 ∷ []) settings.ram
set_by settings Prefetch = option_map (λ blocks. blocks ∷ []) settings.prefetch
set_by settings WriteQueue = option_map (λ queue. queue.0 ∷ queue.1 ∷ []) settings.write_queue
set_by settings Flush = option_map (λ blocks. blocks ∷ []) settings.flush
set_by settings DiskUsage = option_map (λ marks. marks.0 ∷ marks.1 ∷ []) settings.disk_usage
set_by settings User = None
set_by settings Spaces = None
set_by settings Trace = None

-- the line that set the memory
abbrev pub ram_line : Settings → Option ℕ
ram_line settings = option_map (λ ram. ram.1) settings.ram

-- these settings are what these lines set
pub record AreSetBy (capacity : ℕ) (lines : List (List ℕ)) (settings : Settings) : Type 0 where
  pub values : (directive : Directive) → has_default directive ≡ true → set_by settings directive ≡ set_in capacity directive lines
  pub line : ram_line settings ≡ number_in Ram lines
