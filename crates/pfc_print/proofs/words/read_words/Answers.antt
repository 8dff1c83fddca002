use Rattle.std.proofs.Common.{◌≡◌, true, map, refl, sym, ap, subst, inl, inr, ◌∙◌}
use Rattle.clap.specs.Words.{App, Kinds, IsAmong, is_simple, is_simple_and_free, fault_of, kind_of, matches_of}
use Rattle.clap.proofs.OnLiterals.{clap_on_literals}
use Rattle.pfc_print.specs.Words.{print_command}
use Rattle.pfc_print.proofs.words.read_words.Goals as goal

free : is_simple_and_free print_command ≡ true
unfolding print_command clap_on_literals
free = refl

simple : is_simple print_command ≡ true
unfolding print_command clap_on_literals
simple = refl

pub returns-in-Ok-try_get_matches_from-clause-taken : goal.returns-in-Ok-try_get_matches_from-clause-taken
returns-in-Ok-try_get_matches_from-clause-taken c =
    let made = c.in-Ok.ensures in
    sym (ap (λ (a : App). fault_of a (map (λ word. word.now) c.args.line.now)) made) ∙ c.in-Ok-try_get_matches_from.ensures.kinds (ap is_simple_and_free made ∙ free)

pub returns-in-Ok-try_get_matches_from-clause-found : goal.returns-in-Ok-try_get_matches_from-clause-found
returns-in-Ok-try_get_matches_from-clause-found c =
    let made = c.in-Ok.ensures in
    (c.in-Ok-try_get_matches_from.ensures.matches (ap is_simple made ∙ simple)).0 ∙ ap (λ (a : App). matches_of a (map (λ word. word.now) c.args.line.now)) made

pub returns : goal.returns
returns c =
    let made = c.in-Ok.ensures in
    let line = map (λ word. word.now) c.args.line.now in
    record {
      taken = tt;
      found = tt;
      refused = λ form none. elim (c.in-Err.ensures.kinds (ap is_simple_and_free made ∙ free)) [
        | inl memory ↦ c.in_default-kind.not-OutOfMemory (c.kind.ensures ∙ memory)
        | inr among ↦ subst (λ (kinds : Kinds). IsAmong (kind_of c.in-Err.e) kinds) (ap (λ (a : App). fault_of a line) made ∙ none) among
      ];
    }
