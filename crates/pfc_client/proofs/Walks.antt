-- Walks over the replies of a client.
use Rattle.std.proofs.Common.{◌≡◌, ℕ, ◌+◌, List, [], ◌∷◌, ◌++◌, refl, subst, arith, Bool, false}
use Rattle.std.specs.Prelude.{count_by, Result, if◌then◌else◌}
use Rattle.std.proofs.lemmas.List.Sums.{sum_by-cons}
use Rattle.pfc_world.specs.Files.{Files}
use Rattle.pfc_world.specs.Counts.{RoseBy, Stayed}
use Rattle.pfc_client.specs.declared.request.Request.{Request}
use Rattle.pfc_client.specs.declared.request.RequestRefusal.{RequestRefusal}
use Rattle.pfc_client.specs.declared.reply.Reply.{Reply}
use Rattle.pfc_client.specs.declared.reply.Reply.TheVariants as r
use Rattle.pfc_client.specs.Requests.{request_of}
use Rattle.pfc_client.specs.Permitted.{Table, Plain, Permits, Walk, PlainWalk, ArePermitted, ArePlain, is_fetch, is_memory, nothing_open}

-- a walk goes on by a step
pub walk-more : (told : Bool) (files : Files) (old mid new : Table) (lines : List (List ℕ)) (replies : List Reply) (line : List ℕ) (reply : Reply) →
    Walk told files old lines replies mid → Permits told files mid (request_of line) reply new → Walk told files old (lines ++ line ∷ []) (replies ++ reply ∷ []) new
walk-more told files old mid new [] [] line reply w p = (new, subst (λ t. Permits told files t (request_of line) reply new) w p, refl)
walk-more told files old mid new [] (r ∷ replies) line reply w p = absurd w
walk-more told files old mid new (q ∷ lines) [] line reply w p = absurd w
walk-more told files old mid new (q ∷ lines) (r ∷ replies) line reply w p = (w.0, w.1, walk-more told files w.0 mid new lines replies line reply w.2 p)

-- what is permitted, and is neither a failed fetch nor want of memory, is plain
plain-step : (told : Bool) (files : Files) (old new : Table) (request : Result Request RequestRefusal) (reply : Reply) →
    Permits told files old request reply new → is_fetch reply ≡ false → is_memory reply ≡ false → Plain told files old request reply new
plain-step told files old new request r.Fetch p f m = cc
plain-step told files old new request r.Memory p f m = cc
plain-step told files old new request (r.Size size) p f m = p
plain-step told files old new request r.Closed p f m = p
plain-step told files old new request (r.Bytes bytes) p f m = p
plain-step told files old new request (r.Vector parts) p f m = p
plain-step told files old new request r.Request p f m = p
plain-step told files old new request r.Path p f m = p
plain-step told files old new request r.Descriptor p f m = p
plain-step told files old new request r.Range p f m = p
plain-step told files old new request r.NoFile p f m = p

first-and-rest : (p : Reply → Bool) (reply : Reply) (replies : List Reply) → count_by p (reply ∷ replies) ≡ (if p reply then 1 else 0) + count_by p replies
first-and-rest p reply replies = sum_by-cons (λ x. if p x then 1 else 0) reply replies

none-first : (p : Reply → Bool) (reply : Reply) (replies : List Reply) → count_by p (reply ∷ replies) ≡ 0 → p reply ≡ false
none-first p reply replies h = let e = first-and-rest p reply replies in grind (arith, h, e)

none-rest : (p : Reply → Bool) (reply : Reply) (replies : List Reply) → count_by p (reply ∷ replies) ≡ 0 → count_by p replies ≡ 0
none-rest p reply replies h = let e = first-and-rest p reply replies in omega (arith, h, e)

plain-walk : (told : Bool) (files : Files) (old new : Table) (lines : List (List ℕ)) (replies : List Reply) →
    Walk told files old lines replies new → count_by is_fetch replies ≡ 0 → count_by is_memory replies ≡ 0 → PlainWalk told files old lines replies new
plain-walk told files old new [] [] w f m = w
plain-walk told files old new [] (r ∷ replies) w f m = w
plain-walk told files old new (q ∷ lines) [] w f m = w
plain-walk told files old new (q ∷ lines) (r ∷ replies) w f m = (
  w.0,
  plain-step told files old w.0 (request_of q) r w.1 (none-first is_fetch r replies f) (none-first is_memory r replies m),
  plain-walk told files w.0 new lines replies w.2 (none-rest is_fetch r replies f) (none-rest is_memory r replies m),
)

rose-by-none : (before n after : ℕ) → RoseBy before n after → Stayed before after → n ≡ 0
rose-by-none before n after rose stayed = grind arith

pub plain_permitted : (told : Bool) (files : Files) (lines : List (List ℕ)) (replies : List Reply) (before after : ℕ) →
    ArePermitted told files lines replies before after → Stayed before after → count_by is_memory replies ≡ 0 → ArePlain told files lines replies
plain_permitted told files lines replies before after permitted stayed none =
    (permitted.walk.0, plain-walk told files nothing_open permitted.walk.0 lines replies permitted.walk.1 (rose-by-none before _ after permitted.faults stayed) none)
