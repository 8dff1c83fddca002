-- Whether a file is cached, by how its log starts.
use Rattle.std.proofs.Common.{◌≡◌, List, ap, inl, Some, None}
use Rattle.pfc_log.specs.declared.entry.Entry.{Entry}
use Rattle.pfc_log.specs.declared.entry.Uncached.{Uncached}
use Rattle.pfc_log.specs.declared.entry.Uncached.TheVariants as reason
use Rattle.pfc_log.specs.declared.start.Start.{Start}
use Rattle.pfc_log.specs.declared.start.Start.TheVariants as start
use Rattle.pfc_log.specs.Lawful.{IsCached, IsUncached}
use Rattle.pfc_core.specs.View.{why_of}

pub uncached_start : (first : Start) (why : Uncached) → why_of first ≡ Some why → first ≡ start.Uncached why
uncached_start (start.Stored set) why h = absurd cc
uncached_start (start.Uncached cause) why h = ap start.Uncached (some_is h)
  where
    some_is : {A : Type 0} {x y : A} → Some x ≡ Some y → x ≡ y
    some_is e = cc

pub cached_start : (first : Start) → why_of first ≡ None → IsCached first
cached_start (start.Stored set) h = tt
cached_start (start.Uncached cause) h = absurd cc

-- so its parts may be read from the origin
pub uncached_row : (first : Start) (es : List Entry) (why : Uncached) → first ≡ start.Uncached why → IsUncached first es why
uncached_row first es reason.Suffix h = h
uncached_row first es reason.Blocks h = h
uncached_row first es reason.Volume h = h
uncached_row first es reason.Shell h = h
uncached_row first es (reason.Strayed who) h = inl h
