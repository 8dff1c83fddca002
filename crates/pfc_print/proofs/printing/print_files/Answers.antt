use Rattle.std.proofs.Common.{◌≡◌, ◌+◌, ◌||◌, [], take, drop, get_or, refl, sym, ap, subst, ◌∙◌, arith}
use Rattle.pfc_world.specs.Texts.{Texts}
use Rattle.pfc_print.specs.Shown.{IsShown}
use Rattle.pfc_print.proofs.Fronts.{names_of, parts-at, parts-all, one-more, printed-so_far, printed-next, printed-fault, cut-there, part-there, shown-next, at_ok, count-grows}
use Rattle.pfc_print.proofs.printing.print_files.Goals as goal
use Rattle.pfc_print.proofs.printing.print_files.Goals.{then-damaged, else-damaged}

pub returns-in-Err-Fault-clause-fault : goal.returns-in-Err-Fault-clause-fault
returns-in-Err-Fault-clause-fault g c = λ is.
    let files = c.args.files.now in
    let i = c.loop-file.file-index in
    cut-there _ _ c.args.verbose (names_of files) (names_of (take i files)) (names_of (drop (i + 1) files)) _ c.loop-file.damaged _ _ _ _
    (parts-at files i (record { ref_ptr = (0, 0); now = [] }) c.loop-file-test.true) c.loop-file.invariant.written (c.write_fault.ensures.done is)

pub returns-in-Err-Fault-clause-front : goal.returns-in-Err-Fault-clause-front
returns-in-Err-Fault-clause-front g c =
    let files = c.args.files.now in
    let i = c.loop-file.file-index in
    printed-fault _ _ c.args.verbose (names_of files) (names_of (take i files)) (names_of (drop (i + 1) files)) _ c.loop-file.damaged _ _ _ _
    (parts-at files i (record { ref_ptr = (0, 0); now = [] }) c.loop-file-test.true) c.loop-file.invariant.written c.write_fault.ensures.front

pub returns-in-Err-Fault-clause-memory : goal.returns-in-Err-Fault-clause-memory
returns-in-Err-Fault-clause-memory g c = λ is.
    let files = c.args.files.now in
    let i = c.loop-file.file-index in
    part-there _ _ c.args.verbose (names_of files) (names_of (take i files)) (names_of (drop (i + 1) files)) _ c.loop-file.damaged _ _ _ _
    (parts-at files i (record { ref_ptr = (0, 0); now = [] }) c.loop-file-test.true) c.loop-file.invariant.written (c.write_fault.ensures.memory is)

pub returns-in-Err-Memory-clause-memory : goal.returns-in-Err-Memory-clause-memory
returns-in-Err-Memory-clause-memory g c = λ is.
    let files = c.args.files.now in
    let i = c.loop-file.file-index in
    part-there _ _ c.args.verbose (names_of files) (names_of (take i files)) (names_of (drop (i + 1) files)) _ c.loop-file.damaged _ _ _ _
    (parts-at files i (record { ref_ptr = (0, 0); now = [] }) c.loop-file-test.true) c.loop-file.invariant.written refl

pub returns-in-Err-Memory-clause-front : goal.returns-in-Err-Memory-clause-front
returns-in-Err-Memory-clause-front g c =
    let files = c.args.files.now in
    let i = c.loop-file.file-index in
    printed-so_far _ _ c.args.verbose (names_of files) (names_of (take i files)) _ c.loop-file.damaged _ _ _
    (parts-at files i (record { ref_ptr = (0, 0); now = [] }) c.loop-file-test.true) c.loop-file.invariant.written

pub returns-then-is_err-clause-front : goal.returns-then-is_err-clause-front
returns-then-is_err-clause-front g c =
    let files = c.args.files.now in
    let i = c.loop-file.file-index in
    let shown = subst (λ (texts : Texts). IsShown g.H.Sources.told texts c.args.verbose (get_or files i (record { ref_ptr = (0, 0); now = [] })).now c.in-Ok.shown.text.items c.in-Ok.shown.damaged) c.loop-file.invariant.texts c.in-Ok.ensures.shown in
    let front = rw c.deref.ensures.value at c.write_text.ensures.front in
    printed-next _ _ c.args.verbose (names_of files) (names_of (take i files)) (names_of (drop (i + 1) files)) _ c.in-Ok.shown.text.items c.loop-file.damaged c.in-Ok.shown.damaged _ _ _ _
    (parts-at files i (record { ref_ptr = (0, 0); now = [] }) c.loop-file-test.true) c.loop-file.invariant.written shown front

pub loop-file-preserved : goal.loop-file-preserved
loop-file-preserved g c =
    let files = c.args.files.now in
    let i = c.loop-file.file-index in
    let shown = subst (λ (texts : Texts). IsShown g.H.Sources.told texts c.args.verbose (get_or files i (record { ref_ptr = (0, 0); now = [] })).now c.in-Ok.shown.text.items c.in-Ok.shown.damaged) c.loop-file.invariant.texts c.in-Ok.ensures.shown in
    let line = rw c.deref.ensures.value at (at_ok c.write_text.result c.is_err.result _ c.is_err.ensures.value c.if-is_err.false c.write_text.ensures.ok) in
    let bad = c.in-Ok.shown.damaged in
    let flag : c.if-damaged.damaged ≡ (c.loop-file.damaged || bad) = elim c.if-damaged.branch [
      | then-damaged w ↦ w.damaged-is ∙ w.if-damaged.true ∙ sym (ap (λ b. b || bad) w.if-damaged.true)
      | else-damaged w ↦ w.damaged-is ∙ sym (ap (λ b. b || bad) w.if-damaged.false)
    ] in
    record {
      written = shown-next _ _ c.args.verbose (names_of (take i files)) (names_of (take (i + 1) files)) _ c.in-Ok.shown.text.items c.loop-file.damaged bad c.if-damaged.damaged _ _ _ _
          (one-more files i (record { ref_ptr = (0, 0); now = [] }) c.loop-file-test.true) flag c.loop-file.invariant.written shown line;
      texts = c.show.ensures.texts ∙ c.loop-file.invariant.texts;
      host_faults = omega (arith, c.loop-file.invariant.host_faults, c.in-Ok.ensures.cause);
      sink_faults = omega (arith, c.loop-file.invariant.sink_faults, count-grows _ _ c.write_text.result c.write_text.ensures.cause);
    }

pub returns-then-damaged-2-clause-front : goal.returns-then-damaged-2-clause-front
returns-then-damaged-2-clause-front g c =
    printed-so_far _ _ c.args.verbose (names_of c.args.files.now) _ [] c.loop-file.damaged _ _ _ (parts-all c.args.files.now c.loop-file.file-index c.loop-file-test.false) c.loop-file.invariant.written

pub returns-else-damaged-2-clause-front : goal.returns-else-damaged-2-clause-front
returns-else-damaged-2-clause-front g c =
    printed-so_far _ _ c.args.verbose (names_of c.args.files.now) _ [] c.loop-file.damaged _ _ _ (parts-all c.args.files.now c.loop-file.file-index c.loop-file-test.false) c.loop-file.invariant.written
