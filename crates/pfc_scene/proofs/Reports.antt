-- The report of a scene at its end.
use Rattle.std.proofs.Common.{◌≡◌, ℕ, zero, suc, ◌+◌, ◌<◌, List, [], ◌∷◌, ◌++◌, length, map, take, get_or, sum_by, refl, subst, sym, ap, ◌∙◌, arith, Bool, true, false, if◌then◌else◌, ◌==◌, ne_eqb, eq-eqb}
use Rattle.std.specs.Prelude.{All, filter, slice_get, Option, Some}
use Rattle.std.specs.List.{range_with_len}
use Rattle.std.proofs.lemmas.Bool.Decides.{nat_tests}
use Rattle.std.proofs.lemmas.List.{length-map}
use Rattle.std.proofs.lemmas.List.Sums.{sum_by-cons}
use Rattle.std.proofs.lemmas.List.Elements.{All-nil, All-cons, All-get_or}
use Rattle.std.proofs.lemmas.Simd.{map-map}
use Rattle.pfc_log.proofs.Places.{by_bool}
use Rattle.pfc_world.specs.Files.{Files, HasSize}
use Rattle.pfc_world.specs.Counts.{RoseBy}
use Rattle.pfc_client.specs.Told.{stats, lost}
use Rattle.pfc_client.specs.Permitted.{ArePermitted}
use Rattle.pfc_log.specs.declared.start.Start.{Start}
use Rattle.pfc_log.specs.declared.start.Start.TheVariants.{Stored}
use Rattle.pfc_log.specs.Charges.{charges, is_there}
use Rattle.pfc_log.specs.Lawful.{IsComplete, IsUnfrozen}
use Rattle.pfc_log.specs.Views.{Away, Place, bound, place, times, stored, claimed}
use Rattle.pfc_log.specs.declared.entry.DropCause.TheVariants as cause
use Rattle.pfc_log.specs.declared.entry.Entry.{Entry}
use Rattle.pfc_log.specs.declared.entry.Entry.TheVariants.{Dropped}
use Rattle.pfc_log.specs.Tallies.{Tally, tally, nothing, together}
use Rattle.pfc_core.specs.Marks.{Mark}
use Rattle.pfc_core.specs.View.{CoreView}
use Rattle.pfc_writer.specs.Writer.{Task}
use Rattle.pfc_log.specs.Waiting.{WasFull, is_waiting, is_worked, waiting}
use Rattle.pfc_report.specs.declared.report.Told.{Told}
use Rattle.pfc_report.specs.declared.report.Section.{Section}
use Rattle.pfc_report.specs.Schedule.{Line, asked, asked_clients, is_asked}
use Rattle.pfc_report.specs.Spent.{spent_by, nothing_spent}
use Rattle.pfc_report.specs.Caused.{over, tally_in, StartsFor, StartsRight, FitBlocks, AreItsCalls, IsServed, AreItsFailures, AreDroppedFull, IsAccounted}
use Rattle.pfc_actor.specs.Backings.{BackingView}
use Rattle.pfc_actor.specs.StageView.{Rest}
use Rattle.pfc_actor.specs.Stages.{shares, no_shares}
use Rattle.pfc_actor.specs.Steps.{IsTallied, IsWithin}
use Rattle.pfc_actor.specs.Clients.{ClientView, IsDone}
use Rattle.pfc_base.specs.Block.{count_of}
use Rattle.pfc_log.specs.Uncaching.{cause_of}
use Rattle.pfc_log.specs.Lawful.{IsCached}
use Rattle.pfc_scene.specs.Queues.{AreQueued, logs_of, progress}
use Rattle.pfc_scene.specs.Scenes.{IsCast, IsCore, AreUnique, who, total, all_charges}
use Rattle.pfc_scene.specs.Ends.{IsSection, AreSections, row_of, told_of, asked_by}
use Rattle.pfc_scene.proofs.Casts.{nobody, no_core}
use Rattle.pfc_scene.proofs.Weighing.{sum_rows}
use Rattle.pfc_scene.proofs.Fulls.{sum_map}
use Rattle.pfc_scene.proofs.Totals.{total_sum}

-- ---- sections are what the cores were

pub sections_long : (told : Bool) (files : Files) (logs : List Section) (cores : List CoreView) → AreSections told files logs cores → length logs ≡ length cores
sections_long told files [] [] s = refl
sections_long told files [] (c ∷ cores) s = absurd s
sections_long told files (x ∷ logs) [] s = absurd s
sections_long told files (x ∷ logs) (c ∷ cores) s = ap suc (sections_long told files logs cores s.1)

pub section_at : (told : Bool) (files : Files) (logs : List Section) (cores : List CoreView) (i : ℕ) (d : Section) (e : CoreView) → AreSections told files logs cores → i < length logs → IsSection told files (get_or logs i d) (get_or cores i e)
section_at told files [] cores i d e s l = absurd (omega (arith, l))
section_at told files (x ∷ logs) [] i d e s l = absurd s
section_at told files (x ∷ logs) (c ∷ cores) zero d e s l = s.0
section_at told files (x ∷ logs) (c ∷ cores) (suc i) d e s l = section_at told files logs cores i d e s.1 (omega (arith, l))

over_is : (told : Bool) (files : Files) (f : Tally → ℕ) (n : ℕ) (logs : List Section) (cores : List CoreView) → AreSections told files logs cores → over f n logs ≡ sum_by (λ c. f (tally n c.entries)) cores
over_is told files f n [] [] s = refl
over_is told files f n [] (c ∷ cores) s = absurd s
over_is told files f n (x ∷ logs) [] s = absurd s
over_is told files f n (x ∷ logs) (c ∷ cores) s =
    let rest = over_is told files f n logs cores s.1 in let same = ap (λ es. f (tally n es)) s.0.entries_are in
    omega (arith, sum_by-cons (λ (y : Section). f (tally_in n y)) x logs, sum_by-cons (λ (y : CoreView). f (tally n y.entries)) c cores, rest, same)

over_total : (told : Bool) (files : Files) (f : Tally → ℕ) → f nothing ≡ 0 → ((a b : Tally) → f (together a b) ≡ f a + f b) → (n : ℕ) (logs : List Section) (cores : List CoreView) → AreSections told files logs cores → over f n logs ≡ f (total n cores)
over_total told files f none adds n logs cores s = over_is told files f n logs cores s ∙ sym (total_sum f none adds n cores)

-- ---- starts and failed calls

starts_right : (told : Bool) (files : Files) (k : ℕ) (path : List ℕ) (first : Start) (c : CoreView) → path ≡ c.path → HasSize told files c.path c.size → first ≡ c.first → StartsFor (cause_of c.path (count_of c.size k)) (count_of c.size k) c.first →
    StartsRight told files k path first
starts_right told files k path first c same sized begins start = rw (same, begins) (record { size = c.size; right = sized; start = start })

charges_are : (told : Bool) (files : Files) (logs : List Section) (cores : List CoreView) → AreSections told files logs cores → sum_by (λ (x : Section). charges x.log.first x.log.entries) logs ≡ all_charges cores
charges_are told files [] [] s = refl
charges_are told files [] (c ∷ cores) s = absurd s
charges_are told files (x ∷ logs) [] s = absurd s
charges_are told files (x ∷ logs) (c ∷ cores) s =
    let rest = charges_are told files logs cores s.1 in
    let same : charges x.log.first x.log.entries ≡ charges c.first c.entries = rw (s.0.first_is, s.0.entries_are) refl in
    omega (arith, sum_by-cons (λ (y : Section). charges y.log.first y.log.entries) x logs, sum_by-cons (λ (y : CoreView). charges y.first y.entries) c cores, rest, same)

-- ---- blocks that were dropped since the queue was full

logs_are : (told : Bool) (files : Files) (logs : List Section) (cores : List CoreView) → AreSections told files logs cores → map (λ (x : Section). x.log.entries) logs ≡ logs_of cores
logs_are told files [] [] s = refl
logs_are told files [] (c ∷ cores) s = absurd s
logs_are told files (x ∷ logs) [] s = absurd s
logs_are told files (x ∷ logs) (c ∷ cores) s = ap (λ es. es ∷ map (λ (y : Section). y.log.entries) logs) s.0.entries_are ∙ ap (λ l. c.entries ∷ l) (logs_are told files logs cores s.1)

none_wait : (n : ℕ) (es : List Entry) → ((i : ℕ) → place i es ≡ Away) → waiting n es ≡ 0
none_wait zero es away = refl
none_wait (suc n) es away = let rest = none_wait n es away in let one = ap {B = ℕ} (λ (p : Place). if is_waiting p then 1 else 0) (away n) in omega (arith, rest, one)

-- no job is left
ended_progress : (k i : ℕ) (c : CoreView) → IsCore k i c → IsComplete c.first c.entries → progress c ≡ times is_worked c.entries
ended_progress k i c is complete = let jobs = is.jobs.waits (bound c.first) (omega arith) in let none = none_wait (bound c.first) c.entries complete.empty in omega (arith, jobs, none)

pub any_section : Section
any_section = record { path = []; log = record { first = Stored []; entries = []; room = 0 } }

worked_are : (told : Bool) (files : Files) (k : ℕ) (logs : List Section) (cores : List CoreView) → AreSections told files logs cores → ((i : ℕ) (d : CoreView) → i < length cores → IsCore k i (get_or cores i d)) →
    sum_by (λ (x : Section). times is_worked x.log.entries) logs ≡ sum_by progress cores
worked_are told files k logs cores s places =
    let long = sections_long told files logs cores s in
    let same = sum_rows progress (λ (c : CoreView). times is_worked c.entries) cores no_core (λ i li. let x = section_at told files logs cores i any_section no_core s (omega (arith, li, long)) in
    ended_progress k i (get_or cores i no_core) (places i no_core li) x.complete) in
    sym (sum_map (times is_worked) (λ (x : Section). x.log.entries) logs) ∙ ap (sum_by (times is_worked)) (logs_are told files logs cores s) ∙ sum_map (times is_worked) (λ (c : CoreView). c.entries) cores ∙ sym same

report_queued : (told : Bool) (files : Files) (k capacity : ℕ) (clients : List ClientView) (cores : List CoreView) (backings : List BackingView) (writers : List (Option Task)) (queue : List Mark) (logs : List Section) →
    AreQueued capacity clients cores backings writers queue → ((i : ℕ) (d : CoreView) → i < length cores → IsCore k i (get_or cores i d)) → AreSections told files logs cores → AreDroppedFull capacity logs
report_queued told files k capacity clients cores backings writers queue logs q places s x p i c d lx at =
    let long = sections_long told files logs cores s in
    let log = (section_at told files logs cores x d no_core s lx).entries_are in
    let was = q.drops x p i c no_core (omega (arith, lx, long)) (subst (λ es. slice_get es p ≡ Some (Dropped i (cause.Full c))) log at) in
    let all = worked_are told files k logs cores s places in let most = was.worked in record {
      capacity_is = was.capacity_is;
      worked = omega (arith, all, most);
      was = subst (λ es. WasFull c x i (take p es) (map (λ (y : Section). y.log.entries) logs)) (sym log)
          (subst (WasFull c x i (take p (get_or cores x no_core).entries)) (sym (logs_are told files logs cores s)) was.was);
    }

-- ---- rows

fewer : {i k : ℕ} → suc i ≡ suc k → i ≡ k
fewer {i} {k} e = omega (arith, e)

apart : {C : Type 0} {j : ℕ} → suc j ≡ 0 → C
apart {C} {j} e = absurd (omega (arith, e))

row_at : (clients : List ClientView) (j : ℕ) (d : ClientView) → ((i : ℕ) (d : ClientView) → i < length clients → (get_or clients i d).line.number ≡ (get_or clients i d).book.number) → AreUnique clients → j < length clients →
    spent_by (map row_of clients) (get_or clients j d).book.number ≡ ((get_or clients j d).line.calls, (get_or clients j d).line.faults)
row_at [] j d lines unique l = absurd (omega (arith, l))
row_at (a ∷ clients) zero d lines unique l =
    let same : (a.book.number == a.line.number) ≡ true = eq-eqb _ _ (sym (lines 0 a (omega arith))) in
    ap (λ (q : Bool). if q then (a.line.calls, a.line.faults) else spent_by (map row_of clients) a.book.number) same
row_at (a ∷ clients) (suc j) d lines unique l =
    let x = get_or clients j d in
    let far : (x.book.number == a.line.number) ≡ false = ne_eqb x.book.number a.line.number (λ e. apart (unique (suc j) 0 d l (omega arith) (e ∙ lines 0 d (omega arith)))) in
    ap (λ (q : Bool). if q then (a.line.calls, a.line.faults) else spent_by (map row_of clients) x.book.number) far
    ∙ row_at clients j d (λ i d l. lines (suc i) d (omega (arith, l))) (λ i k d m n e. fewer (unique (suc i) (suc k) d (omega (arith, m)) (omega (arith, n)) e)) (omega (arith, l))

-- no row has the number
no_row : (clients : List ClientView) (n : ℕ) → ((i : ℕ) (d : ClientView) → i < length clients → (n == (get_or clients i d).line.number) ≡ false) → spent_by (map row_of clients) n ≡ (0, 0)
no_row [] n none = refl
no_row (a ∷ clients) n none =
    ap (λ (q : Bool). if q then (a.line.calls, a.line.faults) else spent_by (map row_of clients) n) (none 0 a (omega arith)) ∙ no_row clients n (λ i d l. none (suc i) d (omega (arith, l)))

-- ---- what was asked

pub at_map : {X Y : Type 0} (f : X → Y) (xs : List X) (i : ℕ) (d : X) (e : Y) → i < length xs → get_or (map f xs) i e ≡ f (get_or xs i d)
at_map f [] i d e l = absurd (omega (arith, l))
at_map f (x ∷ xs) zero d e l = refl
at_map f (x ∷ xs) (suc i) d e l = at_map f xs i d e (omega (arith, l))

map_same : (ns : List ℕ) → map (λ (n : ℕ). n) ns ≡ ns
map_same [] = refl
map_same (n ∷ ns) = ap (λ l. n ∷ l) (map_same ns)

all_map : {X Y : Type 0} (P : Y → Type 0) (f : X → Y) (xs : List X) (d : X) → ((j : ℕ) → j < length xs → P (f (get_or xs j d))) → All P (map f xs)
all_map P f [] d h = All-nil P
all_map P f (x ∷ xs) d h = All-cons P (f x) (map f xs) (h 0 (omega arith)) (all_map P f xs d (λ j l. h (suc j) (omega (arith, l))))

filter_all : (p : ℕ → Bool) (xs : List ℕ) → All (λ n. p n ≡ true) (filter p xs)
filter_all p [] = All-nil (λ n. p n ≡ true)
filter_all p (x ∷ xs) = by_bool (p x)
    (λ t. subst (λ (b : Bool). All (λ n. p n ≡ true) (if b then x ∷ filter p xs else filter p xs)) (sym t) (All-cons (λ n. p n ≡ true) x (filter p xs) t (filter_all p xs)))
    (λ f. subst (λ (b : Bool). All (λ n. p n ≡ true) (if b then x ∷ filter p xs else filter p xs)) (sym f) (filter_all p xs))

-- what the lines ask a client is what its book has, and is something
pub record Agrees (lines : List Line) (a : ClientView) : Type 0 where
  pub same : asked a.book.number lines ≡ a.book.asked
  pub some : 0 < length (asked a.book.number lines)

asked_some : (lines : List Line) (n : ℕ) → is_asked lines n ≡ true → 0 < length (asked n lines)
asked_some lines n h = grind (arith, nat_tests, h)

agrees : (lines : List Line) (clients : List ClientView) (j : ℕ) (d : ClientView) → map who clients ≡ asked_by lines → j < length clients → Agrees lines (get_or clients j d)
unfolding asked_clients
agrees lines clients j d is lj =
    let ns = asked_clients lines in let a = get_or clients j d in
    let f : ℕ → ℕ × List (List ℕ) = λ n. (n, asked n lines) in
    let long : length clients ≡ length ns = sym (length-map clients who) ∙ ap length is ∙ length-map ns f in
    let low : j < length ns = omega (arith, lj, long) in
    let n = get_or ns j 0 in
    let at : who a ≡ (n, asked n lines) = sym (at_map who clients j d (0, []) lj) ∙ ap (λ l. get_or l j (0, [])) is ∙ at_map f ns j 0 (0, []) low in
    let number : a.book.number ≡ n = ap (λ (x : ℕ × List (List ℕ)). x.0) at in
    let test : is_asked lines n ≡ true = All-get_or (λ n. is_asked lines n ≡ true) ns j 0 low (filter_all (is_asked lines) (range_with_len 1 64)) in
    record {
      same = ap (λ m. asked m lines) number ∙ sym (ap (λ (x : ℕ × List (List ℕ)). x.1) at);
      some = subst (λ m. 0 < length (asked m lines)) (sym number) (asked_some lines n test);
    }

numbers_are : (lines : List Line) (clients : List ClientView) → map who clients ≡ asked_by lines → map (λ (t : Told). t.number) (map told_of clients) ≡ asked_clients lines
numbers_are lines clients is =
    map-map (λ (t : Told). t.number) told_of clients ∙ sym (map-map (λ (x : ℕ × List (List ℕ)). x.0) who clients) ∙ ap (map (λ (x : ℕ × List (List ℕ)). x.0)) is
    ∙ map-map (λ (x : ℕ × List (List ℕ)). x.0) (λ n. (n, asked n lines)) (asked_clients lines) ∙ map_same (asked_clients lines)

-- ---- the parts of one client

fit_all : (told : Bool) (files : Files) (k n : ℕ) (logs : List Section) (cores : List CoreView) → AreSections told files logs cores → ((i : ℕ) (d : CoreView) → i < length cores → IsWithin no_shares k (tally n (get_or cores i d).entries)) → All (λ (x : Section). FitBlocks k (tally_in n x)) logs
fit_all told files k n [] [] s within = All-nil (λ (x : Section). FitBlocks k (tally_in n x))
fit_all told files k n [] (c ∷ cores) s within = absurd s
fit_all told files k n (x ∷ logs) [] s within = absurd s
fit_all told files k n (x ∷ logs) (c ∷ cores) s within =
    let w = within 0 c (omega arith) in
    let here : FitBlocks k (tally n c.entries) = record { hit = let m = w.hit in omega (arith, m); missed = let m = w.missed in omega (arith, m); bypassed = let m = w.bypassed in omega (arith, m) } in
    All-cons (λ (y : Section). FitBlocks k (tally_in n y)) x logs (subst (λ es. FitBlocks k (tally n es)) (sym s.0.entries_are) here) (fit_all told files k n logs cores s.1 (λ i d l. within (suc i) d (omega (arith, l))))

pub record Ended (told : Bool) (files : Files) (lines : List Line) (logs : List Section) (cores : List CoreView) (a : ClientView) : Type 0 where
  pub done : IsDone told files a.book a.line a.stage
  pub agrees : Agrees lines a
  pub tallied : IsTallied a.book a.line Rest (total a.book.number cores)
  pub sections : AreSections told files logs cores

permitted_part : (told : Bool) (files : Files) (lines : List Line) (logs : List Section) (cores : List CoreView) (a : ClientView) → Ended told files lines logs cores a →
    ArePermitted told files (asked a.book.number lines) a.book.replies 0 a.line.faults
permitted_part told files lines logs cores a e = record {
  walk = rw e.agrees.same e.done.walk;
  faults = e.done.faults;
}

calls_part : (told : Bool) (files : Files) (lines : List Line) (logs : List Section) (cores : List CoreView) (a : ClientView) → Ended told files lines logs cores a →
    AreItsCalls a.book.number (asked a.book.number lines) a.book.replies logs 0 a.line.calls
calls_part told files lines logs cores a e =
    let n = a.book.number in
    let landed = over_total told files (λ t. t.landed) refl (λ x y. refl) n logs cores e.sections in let faults = over_total told files (λ t. t.faults) refl (λ x y. refl) n logs cores e.sections in
    let directs = over_total told files (λ t. t.directs) refl (λ x y. refl) n logs cores e.sections in let wants = over_total told files (λ t. t.wants) refl (λ x y. refl) n logs cores e.sections in
    let same = ap (λ ls. stats ls a.book.replies) e.agrees.same in
    record {
      least = λ low. let m = e.tallied.least low in omega (arith, m, landed, faults, directs, same);
      most = λ low. let m = e.tallied.most low in omega (arith, m, landed, faults, directs, wants, same);
    }

failed_part : (told : Bool) (files : Files) (lines : List Line) (logs : List Section) (cores : List CoreView) (a : ClientView) → Ended told files lines logs cores a →
    AreItsFailures a.book.number (asked a.book.number lines) a.book.replies logs 0 a.line.faults
failed_part told files lines logs cores a e =
    let n = a.book.number in
    let faults = over_total told files (λ t. t.faults) refl (λ x y. refl) n logs cores e.sections in let wants = over_total told files (λ t. t.wants) refl (λ x y. refl) n logs cores e.sections in
    let same = ap (λ ls. lost ls a.book.replies) e.agrees.same in
    record {
      faults = subst (λ m. RoseBy 0 m a.line.faults) (sym faults) e.tallied.faults;
      reads = let m = e.tallied.failed in omega (arith, m, faults, wants, same);
    }

served_part : (told : Bool) (files : Files) (k : ℕ) (lines : List Line) (logs : List Section) (cores : List CoreView) (a : ClientView) → Ended told files lines logs cores a →
    ((i : ℕ) (d : CoreView) → i < length cores → IsWithin no_shares k (tally a.book.number (get_or cores i d).entries)) → IsServed k a.book.number a.book.replies logs
served_part told files k lines logs cores a e within =
    let n = a.book.number in
    let served = over_total told files (λ t. t.served) refl (λ x y. refl) n logs cores e.sections in let opened = over_total told files (λ t. t.opened) refl (λ x y. refl) n logs cores e.sections in
    let hit = over_total told files (λ t. t.hit) refl (λ x y. refl) n logs cores e.sections in let missed = over_total told files (λ t. t.missed) refl (λ x y. refl) n logs cores e.sections in
    let bypassed = over_total told files (λ t. t.bypassed) refl (λ x y. refl) n logs cores e.sections in
    record {
      served = served ∙ e.tallied.served;
      bytes = let m = e.tallied.read in omega (arith, m, hit, missed, bypassed);
      opened = opened ∙ e.tallied.opened;
      blocks = fit_all told files k n logs cores e.sections within;
    }

-- ---- the whole

no_clients : (lines : List Line) (clients : List ClientView) (n : ℕ) → map who clients ≡ asked_by lines → asked n lines ≡ [] → (j : ℕ) (d : ClientView) → j < length clients → (n == (get_or clients j d).book.number) ≡ false
no_clients lines clients n is none j d lj =
    let a = agrees lines clients j d is lj in
    ne_eqb n (get_or clients j d).book.number (λ e. let empty = ap length (ap (λ m. asked m lines) (sym e) ∙ none) in let some = a.some in absurd (omega (arith, some, empty)))

section_all : (told : Bool) (files : Files) (P : Section → Type 0) (logs : List Section) (cores : List CoreView) → AreSections told files logs cores → ((i : ℕ) (d : Section) → i < length logs → i < length cores → IsSection told files (get_or logs i d) (get_or cores i no_core) → P (get_or logs i d)) → All P logs
section_all told files P logs cores s h i d l = let long = sections_long told files logs cores s in h i d l (omega (arith, l, long)) (section_at told files logs cores i d no_core s l)

pub caused : (told : Bool) (files : Files) (k capacity : ℕ) (rest : (Mark → ℕ) → ℕ) (lines : List Line) (clients : List ClientView) (cores : List CoreView) (backings : List BackingView) (writers : List (Option Task)) (queue : List Mark) (logs : List Section) (f g : ℕ) →
    IsCast k rest clients cores → AreQueued capacity clients cores backings writers queue → ((j : ℕ) (d : ClientView) → j < length clients → IsDone told files (get_or clients j d).book (get_or clients j d).line (get_or clients j d).stage) → map who clients ≡ asked_by lines → AreSections told files logs cores → RoseBy f (all_charges cores) g →
    IsAccounted told files k capacity lines nothing_spent (spent_by (map row_of clients)) f g (record { clients = map told_of clients; logs = logs })
caused told files k capacity rest lines clients cores backings writers queue logs f g s queued done is sections paid =
    let spent : (j : ℕ) → j < length clients → spent_by (map row_of clients) (get_or clients j nobody).book.number ≡ ((get_or clients j nobody).line.calls, (get_or clients j nobody).line.faults) =
    λ j l. row_at clients j nobody (λ i d m. (done i d m).number) s.numbers l in
    let ended : (j : ℕ) → j < length clients → Ended told files lines logs cores (get_or clients j nobody) = λ j l. record {
      done = done j nobody l;
      agrees = agrees lines clients j nobody is l;
      tallied = subst (λ st. IsTallied (get_or clients j nobody).book (get_or clients j nobody).line st (total (get_or clients j nobody).book.number cores)) (done j nobody l).stage_is (s.actors j nobody l).tallied;
      sections = sections;
    } in
    let long = sections_long told files logs cores sections in
    record {
      clients = record {
        numbers = numbers_are lines clients is;
        each = all_map (λ (t : Told). length t.replies ≡ length (asked t.number lines)) told_of clients nobody (λ j l. (done j nobody l).answered ∙ sym (ap length (agrees lines clients j nobody is l).same));
      };
      permitted = all_map (λ (t : Told). ArePermitted told files (asked t.number lines) t.replies (nothing_spent t.number).1 (spent_by (map row_of clients) t.number).1) told_of clients nobody
          (λ j l. subst (λ (x : ℕ × ℕ). ArePermitted told files (asked (get_or clients j nobody).book.number lines) (get_or clients j nobody).book.replies 0 x.1) (sym (spent j l)) (permitted_part told files lines logs cores (get_or clients j nobody) (ended j l)));
      complete = record {
        complete = section_all told files (λ x. IsComplete x.log.first x.log.entries) logs cores sections (λ i d l m x. rw (x.first_is, x.entries_are) x.complete);
        theres = section_all told files (λ x. times is_there x.log.entries ≡ 0) logs cores sections (λ i d l m x. ap (times is_there) x.entries_are ∙ (s.places i no_core m).theres);
        paths = λ i j d lt l ci cj e.
            let li : i < length cores = omega (arith, lt, l, long) in let lj : j < length cores = omega (arith, l, long) in
            let a = section_at told files logs cores i d no_core sections (omega (arith, lt, l)) in let b = section_at told files logs cores j d no_core sections l in
            let same = s.paths i j no_core li lj (subst IsCached a.first_is ci) (subst IsCached b.first_is cj) (sym a.path_is ∙ e ∙ b.path_is) in absurd (omega (arith, lt, same));
        starts = section_all told files (λ x. StartsRight told files k x.path x.log.first) logs cores sections
            (λ i d l m x. let c = s.places i no_core m in starts_right told files k (get_or logs i d).path (get_or logs i d).log.first (get_or cores i no_core) x.path_is x.sized x.first_is c.start);
      };
      calls = all_map (λ (t : Told). AreItsCalls t.number (asked t.number lines) t.replies logs (nothing_spent t.number).0 (spent_by (map row_of clients) t.number).0) told_of clients nobody
          (λ j l. subst (λ (x : ℕ × ℕ). AreItsCalls (get_or clients j nobody).book.number (asked (get_or clients j nobody).book.number lines) (get_or clients j nobody).book.replies logs 0 x.0) (sym (spent j l)) (calls_part told files lines logs cores (get_or clients j nobody) (ended j l)));
      served = all_map (λ (t : Told). IsServed k t.number t.replies logs) told_of clients nobody
          (λ j l. served_part told files k lines logs cores (get_or clients j nobody) (ended j l)
          (λ i d m. let w = (s.actors j nobody l).within i d m in let none = ap (shares i) (done j nobody l).stage_is in let c = s.places i d m in
          subst (λ (y : ℕ). IsWithin no_shares y (tally (get_or clients j nobody).book.number (get_or cores i d).entries)) c.block_size_is (subst (λ x. IsWithin x (get_or cores i d).block_size (tally (get_or clients j nobody).book.number (get_or cores i d).entries)) none w)));
      failed = all_map (λ (t : Told). AreItsFailures t.number (asked t.number lines) t.replies logs (nothing_spent t.number).1 (spent_by (map row_of clients) t.number).1) told_of clients nobody
          (λ j l. subst (λ (x : ℕ × ℕ). AreItsFailures (get_or clients j nobody).book.number (asked (get_or clients j nobody).book.number lines) (get_or clients j nobody).book.replies logs 0 x.1) (sym (spent j l)) (failed_part told files lines logs cores (get_or clients j nobody) (ended j l)));
      disk = subst (λ m. RoseBy f m g) (sym (charges_are told files logs cores sections)) paid;
      full = report_queued told files k capacity clients cores backings writers queue logs queued s.places sections;
      claimed = section_all told files (λ x. IsCached x.log.first → IsUnfrozen x.log.entries → (i : ℕ) → claimed x.log.first i x.log.entries ≡ stored x.log.first i x.log.entries) logs cores sections (λ i d l m x. rw (x.first_is, x.entries_are) x.settled);
      others = λ n none. record {
        spent = no_row clients n (λ i d l. subst (λ m. (n == m) ≡ false) (sym (done i d l).number) (no_clients lines clients n is none i d l));
        logged = section_all told files (λ x. tally_in n x ≡ nothing) logs cores sections (λ i d l m x. ap (tally n) x.entries_are ∙ s.strangers n (no_clients lines clients n is none) i no_core m);
      };
    }

-- a section more
pub sections_push : (told : Bool) (files : Files) (logs : List Section) (cores : List CoreView) (x : Section) (c : CoreView) → AreSections told files logs cores → IsSection told files x c → AreSections told files (logs ++ x ∷ []) (cores ++ c ∷ [])
sections_push told files [] [] x c s one = (one, tt)
sections_push told files [] (e ∷ cores) x c s one = absurd s
sections_push told files (y ∷ logs) [] x c s one = absurd s
sections_push told files (y ∷ logs) (e ∷ cores) x c s one = (s.0, sections_push told files logs cores x c s.1 one)
