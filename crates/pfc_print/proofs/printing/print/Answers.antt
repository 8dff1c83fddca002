use Rattle.std.proofs.Common.{List, ℕ, Option, [], map, string_bytes, codes, refl, sym, ap, subst, ◌∙◌}
use Rattle.std.specs.Prelude.{unwrap_or}
use Rattle.clap.specs.Words.{found_of}
use Rattle.clap.proofs.WalkLemmas.{raw_values-rows}
use Rattle.pfc_world.specs.Counts.{stayed-rose}
use Rattle.pfc_print.specs.Shown.{AreCinfos}
use Rattle.pfc_print.proofs.Fronts.{names_of}
use Rattle.pfc_print.proofs.Calls.{files-named, as-asked, whole-call, fault-call, stopped-call, stopped-first, front-call, nothing-call, not-damaged, only-two}
use Rattle.pfc_print.proofs.printing.print.Goals as goal

pub returns-in_default-clause-front : goal.returns-in_default-clause-front
returns-in_default-clause-front g c = nothing-call _ _ (map string_bytes c.args.words.now) _ _

pub returns-in-Err-Memory-clause-front : goal.returns-in-Err-Memory-clause-front
returns-in-Err-Memory-clause-front g c = nothing-call _ _ (map string_bytes c.args.words.now) _ _

pub returns-in_default-clause-memory : goal.returns-in_default-clause-memory
returns-in_default-clause-memory g c = λ is. stopped-first _ _ (map string_bytes c.args.words.now) _ _

pub returns-in-Err-Memory-clause-memory : goal.returns-in-Err-Memory-clause-memory
returns-in-Err-Memory-clause-memory g c = λ is. stopped-first _ _ (map string_bytes c.args.words.now) _ _

pub returns-clause-done : goal.returns-clause-done
returns-clause-done g c = λ is.
    let words = map string_bytes c.args.words.now in
    let files = files-named c.get_strs.result _ c.unwrap_or-files.result c.unwrap_or-files.ensures refl
    ∙ ap (λ (o : Option (List (List ℕ))). unwrap_or o []) (c.get_strs.ensures ∙ raw_values-rows (found_of c.in-Ok-read_words.found) (codes "cinfo")) in
    let a = as-asked words (names_of c.deref.result.now) _ c.is_verbose.result (names_of c.unwrap_or-files.result.now) (ap names_of c.deref.ensures.value ∙ c.in-Ok.ensures)
    c.in-Ok-read_words.ensures.taken c.in-Ok-read_words.ensures.found c.is_verbose.ensures files in
    whole-call _ _ words c.is_verbose.result (names_of c.unwrap_or-files.result.now) _ _ _ _ a.0 a.1 a.2 (c.print_files.ensures.done is)

pub returns-clause-damaged : goal.returns-clause-damaged
returns-clause-damaged g c = λ is.
    let words = map string_bytes c.args.words.now in
    let files = files-named c.get_strs.result _ c.unwrap_or-files.result c.unwrap_or-files.ensures refl
    ∙ ap (λ (o : Option (List (List ℕ))). unwrap_or o []) (c.get_strs.ensures ∙ raw_values-rows (found_of c.in-Ok-read_words.found) (codes "cinfo")) in
    let a = as-asked words (names_of c.deref.result.now) _ c.is_verbose.result (names_of c.unwrap_or-files.result.now) (ap names_of c.deref.ensures.value ∙ c.in-Ok.ensures)
    c.in-Ok-read_words.ensures.taken c.in-Ok-read_words.ensures.found c.is_verbose.ensures files in
    whole-call _ _ words c.is_verbose.result (names_of c.unwrap_or-files.result.now) _ _ _ _ a.0 a.1 a.2 (c.print_files.ensures.damaged is)

pub returns-clause-fault : goal.returns-clause-fault
returns-clause-fault g c = λ is.
    let words = map string_bytes c.args.words.now in
    let files = files-named c.get_strs.result _ c.unwrap_or-files.result c.unwrap_or-files.ensures refl
    ∙ ap (λ (o : Option (List (List ℕ))). unwrap_or o []) (c.get_strs.ensures ∙ raw_values-rows (found_of c.in-Ok-read_words.found) (codes "cinfo")) in
    let a = as-asked words (names_of c.deref.result.now) _ c.is_verbose.result (names_of c.unwrap_or-files.result.now) (ap names_of c.deref.ensures.value ∙ c.in-Ok.ensures)
    c.in-Ok-read_words.ensures.taken c.in-Ok-read_words.ensures.found c.is_verbose.ensures files in
    fault-call _ _ words c.is_verbose.result (names_of c.unwrap_or-files.result.now) _ _ _ a.0 a.1 a.2 (c.print_files.ensures.fault is)

pub returns-clause-memory : goal.returns-clause-memory
returns-clause-memory g c = λ is.
    let words = map string_bytes c.args.words.now in
    let files = files-named c.get_strs.result _ c.unwrap_or-files.result c.unwrap_or-files.ensures refl
    ∙ ap (λ (o : Option (List (List ℕ))). unwrap_or o []) (c.get_strs.ensures ∙ raw_values-rows (found_of c.in-Ok-read_words.found) (codes "cinfo")) in
    let a = as-asked words (names_of c.deref.result.now) _ c.is_verbose.result (names_of c.unwrap_or-files.result.now) (ap names_of c.deref.ensures.value ∙ c.in-Ok.ensures)
    c.in-Ok-read_words.ensures.taken c.in-Ok-read_words.ensures.found c.is_verbose.ensures files in
    stopped-call _ _ words c.is_verbose.result (names_of c.unwrap_or-files.result.now) _ _ _ a.0 a.1 a.2 (c.print_files.ensures.memory is)

pub returns-clause-front : goal.returns-clause-front
returns-clause-front g c =
    let words = map string_bytes c.args.words.now in
    let files = files-named c.get_strs.result _ c.unwrap_or-files.result c.unwrap_or-files.ensures refl
    ∙ ap (λ (o : Option (List (List ℕ))). unwrap_or o []) (c.get_strs.ensures ∙ raw_values-rows (found_of c.in-Ok-read_words.found) (codes "cinfo")) in
    let a = as-asked words (names_of c.deref.result.now) _ c.is_verbose.result (names_of c.unwrap_or-files.result.now) (ap names_of c.deref.ensures.value ∙ c.in-Ok.ensures)
    c.in-Ok-read_words.ensures.taken c.in-Ok-read_words.ensures.found c.is_verbose.ensures files in
    front-call _ _ words c.is_verbose.result (names_of c.unwrap_or-files.result.now) _ _ _ a.0 a.1 a.2 c.print_files.ensures.front

pub returns-clause-complete : goal.returns-clause-complete
returns-clause-complete g c = λ free.
    let words = map string_bytes c.args.words.now in
    let files = files-named c.get_strs.result _ c.unwrap_or-files.result c.unwrap_or-files.ensures refl
    ∙ ap (λ (o : Option (List (List ℕ))). unwrap_or o []) (c.get_strs.ensures ∙ raw_values-rows (found_of c.in-Ok-read_words.found) (codes "cinfo")) in
    let a = as-asked words (names_of c.deref.result.now) _ c.is_verbose.result (names_of c.unwrap_or-files.result.now) (ap names_of c.deref.ensures.value ∙ c.in-Ok.ensures)
    c.in-Ok-read_words.ensures.taken c.in-Ok-read_words.ensures.found c.is_verbose.ensures files in
    let cinfos = subst (λ (names : List (List ℕ)). AreCinfos (g.H.Sources.texts c.args.host.now) names) (sym a.2) free.cinfos in
    only-two c.print_files.result c.print_files.ensures.last.1 c.print_files.ensures.last.0
    (λ is. not-damaged _ _ c.is_verbose.result (names_of c.unwrap_or-files.result.now) _ _ _ free.tells cinfos (c.print_files.ensures.damaged is))
    (λ is. stayed-rose _ _ (c.print_files.ensures.host is) free.host_stayed)
    (λ is. stayed-rose _ _ (c.print_files.ensures.sink is) free.sink_stayed)
