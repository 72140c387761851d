-- An answer over any reader and writer is an ending, stated by their bytes.
use Rattle.std.proofs.Common.{◌≡◌, ℕ, List, Option, Result, Ok, Err, Some, None, ap, subst}
use Rattle.itch_frame.specs.Reading.{Reading}
use Rattle.itch_frame.specs.declared.tally.Failures.{Failures}
use Rattle.itch_market.specs.Content.{Content}
use Rattle.itch_soup.specs.declared.login.ServerConfig.{ServerConfig}
use Rattle.itch_soup.specs.declared.fault.SoupFault.{SoupFault}
use Rattle.itch_soup.specs.declared.serve.Served.{Served}
use Rattle.itch_soup.proofs.MappedServing.{serves_through}
use Rattle.itch_sessions.specs.Sessions.{Ending, Flushes, ServesFlushed, EndsOver, EndsAs}
use Rattle.itch_sessions.specs.Sides.{Side, sound, unread, side_of, reading_of}

abbrev bytes_of : Side → Option (List ℕ)
bytes_of s = s.bytes

abbrev failures_of : Side → Failures
failures_of s = s.failures

module _ {V : Type 0} (contents : V → Option (List ℕ)) (writes : V → Failures) where
  flushes_side : (result : Result Served SoupFault) (old new : V) (ending : Ending) → Flushes contents writes result old ending new
      → Flushes bytes_of failures_of result (side_of contents writes old) ending (side_of contents writes new)
  flushes_side (Ok served) old new (Some ending) flushed = flushed
  flushes_side (Ok served) old new None flushed = flushed
  flushes_side (Err fault) old new ending (is, same) = (is, ap (side_of contents writes) same)

module _ {R V : Type 0} (remaining : R → Option (List ℕ)) (reads : R → Failures) (contents : V → Option (List ℕ)) (writes : V → Failures) (m : Content) (next : ℕ) (config : ServerConfig) where
  served_side : (reader after : Reading R) (writer writer_after : V) (ending : Ending)
      → ServesFlushed remaining reads contents writes m next config reader writer ending after writer_after
      → ServesFlushed bytes_of failures_of bytes_of failures_of m next config
      (reading_of remaining reads reader) (side_of contents writes writer) ending (reading_of remaining reads after) (side_of contents writes writer_after)
  served_side reader after writer writer_after ending (result, mid, served, flushed) = (
    result,
    side_of contents writes mid,
    serves_through (side_of remaining reads) (side_of contents writes) bytes_of failures_of bytes_of failures_of m next config reader after writer mid result served,
    flushes_side contents writes result mid writer_after ending flushed,
  )

  pub ends_over : (reader after : Reading R) (writer writer_after : V) (ending : Ending)
      → ServesFlushed remaining reads contents writes m next config reader writer ending after writer_after
      → EndsOver m next config (reading_of remaining reads reader) (side_of contents writes writer) ending
  ends_over reader after writer writer_after ending served =
      (reading_of remaining reads after, side_of contents writes writer_after, served_side reader after writer writer_after ending served)

pub ends_as : (m : Content) (next : ℕ) (config : ServerConfig) (reader : Reading Side) (writer : Side) (ending : Ending) (sent written : Option (List ℕ))
    → reader ≡ unread sent → writer ≡ sound written → EndsOver m next config reader writer ending → EndsAs m next config sent written ending
ends_as m next config reader writer ending sent written unread_is sound_is ends =
    subst (λ (w : Side). EndsOver m next config (unread sent) w ending) sound_is
    (subst (λ (r : Reading Side). EndsOver m next config r writer ending) unread_is ends)
