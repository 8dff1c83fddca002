-- A report that is caused by what fresh links spent is caused by what their host says was spent.
use Rattle.std.proofs.Common.{◌≡◌, ℕ, ◌+◌, ◌<◌, ◌≤◌, List, refl, sym, arith, Bool, subst}
use Rattle.std.specs.Prelude.{IfOk, IsTrue, Option, Result, slice_index_or}
use Rattle.std.proofs.lemmas.List.Elements.{All-weaker}
use Rattle.pfc_world.specs.Files.{Files}
use Rattle.pfc_world.specs.Counts.{RoseBy, add_count, last_count}
use Rattle.pfc_client.specs.declared.reply.Reply.{Reply}
use Rattle.pfc_client.specs.Permitted.{ArePermitted}
use Rattle.pfc_report.specs.declared.report.Section.{Section}
use Rattle.pfc_report.specs.Schedule.{Line, asked}
use Rattle.pfc_report.specs.Report.{ReportView}
use Rattle.pfc_report.specs.Caused.{Disks, Spent, IsCausedReport, AreItsCalls, AreItsFailures, IsUnasked, known_calls, over}
use Rattle.pfc_report.specs.Restart.{AreContinued}
use Rattle.pfc_report.specs.Spent.{nothing_spent}
use Rattle.pfc_actor.specs.Backings.{FewerMains}
use Rattle.pfc_replay.proofs.Spending.{added}

rose_by-added : (before n count : ℕ) → RoseBy 0 n count → RoseBy before n (add_count before count)
rose_by-added before n count rose = grind (arith, rose)

rose_by-earlier : (a b c n : ℕ) → a ≤ b → RoseBy b n c → RoseBy a n c
rose_by-earlier a b c n low rose = grind (arith, low, rose)

permitted-added : (told : Bool) (files : Files) (lines : List (List ℕ)) (replies : List Reply) (before count : ℕ) →
    ArePermitted told files lines replies 0 count → ArePermitted told files lines replies before (add_count before count)
permitted-added told files lines replies before count fits = record { walk = fits.walk; faults = rose_by-added before _ count fits.faults }

calls-added : (n : ℕ) (lines : List (List ℕ)) (replies : List Reply) (logs : List Section) (before count : ℕ) →
    AreItsCalls n lines replies logs 0 count → AreItsCalls n lines replies logs before (add_count before count)
calls-added n lines replies logs before count fit = record {
  least = λ low. let from : count < last_count → 0 + known_calls n lines replies logs ≤ count = fit.least in omega (arith, from);
  most = λ low. let from : count < last_count → count ≤ 0 + known_calls n lines replies logs + over (λ t. t.wants) n logs = fit.most in omega (arith, from);
}

failures-added : (n : ℕ) (lines : List (List ℕ)) (replies : List Reply) (logs : List Section) (before count : ℕ) →
    AreItsFailures n lines replies logs 0 count → AreItsFailures n lines replies logs before (add_count before count)
failures-added n lines replies logs before count fit = record { faults = rose_by-added before _ count fit.faults; reads = fit.reads }

unasked-added : (n : ℕ) (logs : List Section) (before count : ℕ × ℕ) → IsUnasked n logs (0, 0) count → IsUnasked n logs before (added before count)
unasked-added n logs before count none = record { spent = rw none.spent (let a : add_count before.0 0 ≡ before.0 = omega arith in let b : add_count before.1 0 ≡ before.1 = omega arith in rw (a, b) refl); logged = none.logged }

pub caused-added : (told : Bool) (files : Files) (k capacity : ℕ) (lines : List Line) (before count : Spent) (disks disks' : Disks) (report : ReportView) →
    IsCausedReport told files k capacity lines nothing_spent count disks disks' report → IsCausedReport told files k capacity lines before (λ n. added (before n) (count n)) disks disks' report
caused-added told files k capacity lines before count disks disks' report caused = let all = caused.accounted in record {
  accounted = record {
    clients = all.clients;
    permitted = All-weaker _ _ (λ c. permitted-added told files (asked c.number lines) c.replies (before c.number).1 (count c.number).1) report.clients all.permitted;
    complete = all.complete;
    calls = All-weaker _ _ (λ c. calls-added c.number (asked c.number lines) c.replies report.logs (before c.number).0 (count c.number).0) report.clients all.calls;
    served = all.served;
    failed = All-weaker _ _ (λ c. failures-added c.number (asked c.number lines) c.replies report.logs (before c.number).1 (count c.number).1) report.clients all.failed;
    disk = all.disk;
    full = all.full;
    claimed = all.claimed;
    others = λ n none. unasked-added n report.logs (before n) (count n) (all.others n none);
  };
  continued = caused.continued;
}

-- what was spent is said number by number
pub caused-same : (told : Bool) (files : Files) (k capacity : ℕ) (lines : List Line) (before after now : Spent) (disks disks' : Disks) (report : ReportView) →
    ((n : ℕ) → now n ≡ after n) → IsCausedReport told files k capacity lines before after disks disks' report → IsCausedReport told files k capacity lines before now disks disks' report
caused-same told files k capacity lines before after now disks disks' report same caused =
    subst (λ (spent : Spent). IsCausedReport told files k capacity lines before spent disks disks' report) (sym (λ i n. same n i)) caused

-- what was spent before is said so too
pub caused-since : {X : Type 0} (told : Bool) (files : Files) (k capacity : ℕ) (lines : List Line) (before mid after : Spent) (disks disks' : Disks) (result : Result ReportView X) →
    ((n : ℕ) → mid n ≡ before n) → IfOk result (IsCausedReport told files k capacity lines mid after disks disks') → IfOk result (IsCausedReport told files k capacity lines before after disks disks')
caused-since told files k capacity lines before mid after disks disks' result same caused =
    subst (λ (spent : Spent). IfOk result (IsCausedReport told files k capacity lines spent after disks disks')) (λ i n. same n i) caused

-- a depot that had no more main files later was found so before
continued-earlier : (files : Files) (k : ℕ) (lines : List Line) (IsMain MidMain NewMain : List ℕ → Option (List ℕ) → Type 0) (logs : List Section) → FewerMains IsMain MidMain → AreContinued files k lines MidMain NewMain logs → AreContinued files k lines IsMain NewMain logs
continued-earlier files k lines IsMain MidMain NewMain logs fewer all = record {
  used = λ i d low cached some file is. let was = all.used i d low cached some file is in record { starts = λ found only. was.starts found (λ main home. only main (fewer (slice_index_or logs i d).path main home)); ends = was.ends };
  unused = λ path file found is uncached only ours. all.unused path file found is uncached (λ main home. only main (fewer path main home)) ours;
  unopened = λ path none main home. fewer path main (all.unopened path none main home);
}

-- failed calls that the depot counted after it was listed, it counted since before
pub caused-earlier : (told : Bool) (files : Files) (k capacity : ℕ) (lines : List Line) (before after : Spent) (disks mid disks' : Disks) (report : ReportView) → mid.tells ≡ disks.tells → disks.faults ≤ mid.faults → (IsTrue disks.tells → FewerMains disks.main mid.main) →
    IsCausedReport told files k capacity lines before after mid disks' report → IsCausedReport told files k capacity lines before after disks disks' report
caused-earlier told files k capacity lines before after disks mid disks' report same low fewer caused = let all = caused.accounted in record {
  accounted = record {
    clients = all.clients;
    permitted = all.permitted;
    complete = all.complete;
    calls = all.calls;
    served = all.served;
    failed = all.failed;
    disk = rose_by-earlier disks.faults mid.faults disks'.faults _ low all.disk;
    full = all.full;
    claimed = all.claimed;
    others = all.others;
  };
  continued = λ is_told tells. continued-earlier files k lines disks.main mid.main disks'.main report.logs (fewer tells) (caused.continued is_told (subst IsTrue (sym same) tells));
}
