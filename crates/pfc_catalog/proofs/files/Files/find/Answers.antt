use Rattle.std.proofs.Common.{◌≡◌, ◌∙◌, ap, sym, Some, ℕ, List}
use Rattle.std.proofs.lemmas.Map.Made.{lookup_key_passes}
use Rattle.std.specs.Cmp.Lexicographic.{same_text}
use Rattle.pfc_catalog.specs.Files.{same_path}
use Rattle.pfc_catalog.proofs.files.Files.find.Goals as goal

pub returns-in-Some-clause-place : goal.returns-in-Some-clause-place
returns-in-Some-clause-place c =
    let key : c.args.path.now ≡ c.in-Some.field-0-1.now = same_text _ _ (sym (lookup_key_passes (same_path c.args.path.now) c.self.inside.map.entries _ (sym c.in-Some.ensures.key))) in
    rw (← c.self.view_is) (c.in-Some.ensures.entry ∙ ap (λ (k : List ℕ). Some (k, c.in-Some.entry.now)) (sym key))
