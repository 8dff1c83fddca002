use Rattle.std.proofs.Common.{◌<◌, ◌*◌, ◌-◌, length, get_or, false, sym, ap, ◌∙◌, inl, inr, arith}
use Rattle.pfc_cinfo.specs.Cinfo.{claimed_bytes}
use Rattle.pfc_cinfo.proofs.Claimed.{all-whole, last-shorter}
use Rattle.pfc_cinfo.proofs.cinfo.Cinfo.claimed_bytes.Goals as goal
use Rattle.pfc_cinfo.proofs.cinfo.Cinfo.claimed_bytes.Goals.{then-bound-eq0-via-then-bound-eq0, then-bound-eq0-via-else-bound-eq0+then-not-test}

pub returns-then-bound-eq0 : goal.returns-then-bound-eq0
returns-then-bound-eq0 c =
    let inside = c.self.inside in
    elim c.then-bound-eq0.branch [
      | then-bound-eq0-via-then-bound-eq0 w ↦
          all-whole inside.block inside.size c.from.result inside.claims c.self.invariant (c.from.ensures ∙ c.count.ensures) (inl (sym c.bound-bound.ensures ∙ w.if-bound-eq0.true))
          ∙ ap claimed_bytes c.self.view_is
      | then-bound-eq0-via-else-bound-eq0+then-not-test w ↦
          let bound = c.bound-bound.ensures in
          let last = ap (λ n. get_or inside.claims (n - 1) false) (sym bound) ∙ sym w.test.ensures ∙ w.if-not-test.true in
          all-whole inside.block inside.size c.from.result inside.claims c.self.invariant (c.from.ensures ∙ c.count.ensures) (inr last) ∙ ap claimed_bytes c.self.view_is
    ]

pub returns : goal.returns
returns c =
    let inside = c.self.inside in
    let bound = c.bound-bound.ensures in
    let some : 0 < length inside.claims = omega (arith, c.if-bound-eq0.false, bound) in
    let last = ap (λ n. get_or inside.claims (n - 1) false) (sym bound) ∙ sym c.test.ensures ∙ c.if-not-test.false in
    ap (λ n. c.from.result * inside.block - (n * inside.block - inside.size)) (c.from-2.ensures ∙ bound)
    ∙ last-shorter inside.block inside.size c.from.result inside.claims c.self.invariant (c.from.ensures ∙ c.count.ensures) some last ∙ ap claimed_bytes c.self.view_is
