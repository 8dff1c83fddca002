-- What links that are made for a plan, and given back, leave at their host.
use Rattle.std.specs.Prelude.{◌≡◌, ℕ, Bool, List, map, fold, IsTrue}
use Rattle.pfc_world.specs.Counts.{Rose}
use Rattle.pfc_world.specs.Texts.{SpentAt}
use Rattle.pfc_report.specs.Schedule.{Line, is_asked}
use Rattle.pfc_report.specs.Spent.{Rows}
use Rattle.pfc_replay.specs.declared.play.PlayRefusal.{PlayRefusal}
use Rattle.pfc_replay.specs.declared.play.PlayRefusal.TheVariants.{Link, Memory}

-- fresh links of these numbers
abbrev pub fresh_rows : List ℕ → Rows
fresh_rows numbers = map (λ n. (n, 0, 0)) numbers

-- what each number has spent after links with these rows came back
abbrev pub given_back : (ℕ → ℕ × ℕ) → Rows → ℕ → ℕ × ℕ
given_back spent rows = fold (λ old row. SpentAt old row.0 row.1 row.2) spent rows

-- why a link isn't made: it was wanted, and failed, which the host counted; want of memory is free
abbrev pub StopsAt : ℕ → Bool → ℕ → ℕ → PlayRefusal → Type 0
StopsAt number wanted before after (Link m) = (m ≡ number) × Rose before after × IsTrue wanted
StopsAt number wanted before after Memory = Unit {0}

-- why a plan isn't run: the link of a client that is asked something failed, which the host counted; want of memory is free
abbrev pub StopsBy : List Line → ℕ → ℕ → PlayRefusal → Type 0
StopsBy lines before after (Link number) = Rose before after × IsTrue (is_asked lines number)
StopsBy lines before after Memory = Unit {0}
