use Rattle.std.proofs.Common.{◌≡◌, ℕ, zero, suc, slice_index_or, replicate, refl, ap, ◌∙◌, rules}
use Rattle.pfc_folder.proofs.host.FolderHost.new.Goals as goal

abbrev none : ℕ × ℕ
none = (0, 0)

nothing : (k n : ℕ) → slice_index_or (replicate k none) n none ≡ none
nothing zero n = refl
nothing (suc k) zero = refl
nothing (suc k) (suc n) = nothing k n

pub returns-clause-spent : goal.returns-clause-spent
returns-clause-spent g c n = ap (λ items. slice_index_or items n none) (c.in_ok-spent.ensures.items_if_clones_equal (λ y h. search rules)) ∙ nothing 65 n
