-- Serving, with one map applied to the reader and one to the writer.
use Rattle.std.proofs.Common.{ℕ, List, Option, Result, Ok, Err, ap}
use Rattle.itch_frame.specs.declared.fault.FrameFault.TheVariants.{Read, Truncated, Write, TooLong}
use Rattle.itch_frame.specs.Reading.{Reading}
use Rattle.itch_frame.specs.declared.tally.Failures.{Failures}
use Rattle.itch_market.specs.Content.{Content}
use Rattle.itch_soup.specs.declared.login.ServerConfig.{ServerConfig}
use Rattle.itch_soup.specs.declared.packet.LoginRequest.{LoginRequest}
use Rattle.itch_soup.specs.declared.fault.SoupFault.{SoupFault}
use Rattle.itch_soup.specs.declared.fault.SoupFault.TheVariants.{Frame}
use Rattle.itch_soup.specs.declared.serve.Opening.TheVariants.{Login, Leave}
use Rattle.itch_soup.specs.declared.serve.Served.{Served}
use Rattle.itch_soup.specs.declared.serve.Served.TheVariants.{Accepted, Rejected, Left}
use Rattle.itch_soup.specs.Serving.{Wait, AnswersLogin, Replies, Serves}

module _ {V Y : Type 0} (g : V → Y) (contents : Y → Option (List ℕ)) (writes : Y → Failures) (m : Content) (next : ℕ) (config : ServerConfig) where
  answers_through : (login : LoginRequest) (old new : V) (result : Result Served SoupFault)
      → AnswersLogin (λ v. contents (g v)) (λ v. writes (g v)) m next config login old result new
      → AnswersLogin contents writes m next config login (g old) result (g new)
  answers_through login old new (Ok (Accepted from packets)) answers = answers
  answers_through login old new (Ok (Rejected code)) answers = answers
  answers_through login old new (Ok Left) answers = answers
  answers_through login old new (Err (Frame (Write sent error))) answers = answers
  answers_through login old new (Err (Frame (Read error))) answers = answers
  answers_through login old new (Err (Frame (Truncated held))) answers = answers
  answers_through login old new (Err (Frame TooLong)) answers = answers
  answers_through login old new (Err fault) answers = answers

  replies_through : (wait : Wait) (old new : V) (result : Result Served SoupFault)
      → Replies (λ v. contents (g v)) (λ v. writes (g v)) m next config wait old result new
      → Replies contents writes m next config wait (g old) result (g new)
  replies_through (Ok (Login login)) old new result answers = answers_through login old new result answers
  replies_through (Ok Leave) old new result (is, same) = (is, ap g same)
  replies_through (Err fault) old new result (is, same) = (is, ap g same)

-- a reader of blocks, mapped
abbrev pub read_through : {R X : Type 0} → (R → X) → Reading R → Reading X
read_through f r = record { reader = f r.reader; held = r.held; stage = r.stage }

module _ {R X V Y : Type 0} (f : R → X) (g : V → Y) (remaining : X → Option (List ℕ)) (reads : X → Failures) (contents : Y → Option (List ℕ)) (writes : Y → Failures) where
  pub serves_through : (m : Content) (next : ℕ) (config : ServerConfig) (reader after : Reading R) (writer writer_after : V) (result : Result Served SoupFault)
      → Serves (λ r. remaining (f r)) (λ r. reads (f r)) (λ v. contents (g v)) (λ v. writes (g v)) m next config reader writer result after writer_after
      → Serves remaining reads contents writes m next config (read_through f reader) (g writer) result (read_through f after) (g writer_after)
  serves_through m next config reader after writer writer_after result (wait, waits, counts, held, replies) =
      (wait, waits, counts, held, replies_through g contents writes m next config wait writer writer_after result replies)
