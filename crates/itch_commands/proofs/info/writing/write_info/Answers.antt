use Rattle.std.proofs.Common.{ℕ, List, ◌++◌, Ok, Err, subst, ap, ◌∙◌, true}
use Rattle.std.specs.Prelude.{slice_index}
use Rattle.std.proofs.lemmas.Result.{err_from_is_err_and}
use Rattle.itch_commands.specs.Infos.{events_text, head_text, middle_text, tail_text, types_text}
use Rattle.itch_commands.specs.Outputs.{WritesText}
use Rattle.itch_commands.specs.Tallies.{summary_by}
use Rattle.itch_commands.proofs.JoinedTexts.{text_then, text_fails}
use Rattle.itch_commands.proofs.info.writing.write_info.Goals as goal

pub returns-in_err-write_head : goal.returns-in_err-write_head
returns-in_err-write_head g c =
    let p = err_from_is_err_and c.from_residual.result c.from_residual.ensures.1 in
    let contents = g.W.CountedWrite.contents in
    let failures = g.W.CountedWrite.failures in
    let tally = c.args.tally.now in
    let form = c.args.form in
    let head : List ℕ = head_text form (summary_by tally.cursor tally.sink.market tally.sink.tally) in
    let types : List ℕ = types_text form (slice_index tally.sink.tally.counts.counts) true 0 256 in
    let middle : List ℕ = middle_text form in
    let events : List ℕ = events_text form true tally.sink.events.events.items in
    let tail : List ℕ = tail_text form in
    rw (p.1, p.2) (text_fails contents failures head (types ++ (middle ++ (events ++ tail))) c.args.out.now c.write_head.new.out c.in_err-write_head.field-0.0 (subst (λ text. WritesText contents failures text c.args.out.now (Err c.in_err-write_head.field-0.0) c.write_head.new.out) (ap (head_text form) c.summary.ensures) c.in_err-write_head.ensures))

pub returns-in_err-write_types : goal.returns-in_err-write_types
returns-in_err-write_types g c =
    let p = err_from_is_err_and c.from_residual-in_err-write_types.result c.from_residual-in_err-write_types.ensures.1 in
    let contents = g.W.CountedWrite.contents in
    let failures = g.W.CountedWrite.failures in
    let tally = c.args.tally.now in
    let form = c.args.form in
    let head : List ℕ = head_text form (summary_by tally.cursor tally.sink.market tally.sink.tally) in
    let types : List ℕ = types_text form (slice_index tally.sink.tally.counts.counts) true 0 256 in
    let middle : List ℕ = middle_text form in
    let events : List ℕ = events_text form true tally.sink.events.events.items in
    let tail : List ℕ = tail_text form in
    rw (p.1, p.2) (text_then contents failures head (types ++ (middle ++ (events ++ tail))) c.args.out.now c.write_head.new.out c.write_types.new.out (Err c.in_err-write_types.field-0.0)
    (subst (λ text. WritesText contents failures text c.args.out.now (Ok tt) c.write_head.new.out) (ap (head_text form) c.summary.ensures) c.in_ok-write_head.ensures)
    (text_fails contents failures types (middle ++ (events ++ tail)) c.write_head.new.out c.write_types.new.out c.in_err-write_types.field-0.0 c.in_err-write_types.ensures))

pub returns-in_err-write_text : goal.returns-in_err-write_text
returns-in_err-write_text g c =
    let p = err_from_is_err_and c.from_residual-in_err-write_text.result c.from_residual-in_err-write_text.ensures.1 in
    let contents = g.W.CountedWrite.contents in
    let failures = g.W.CountedWrite.failures in
    let tally = c.args.tally.now in
    let form = c.args.form in
    let head : List ℕ = head_text form (summary_by tally.cursor tally.sink.market tally.sink.tally) in
    let types : List ℕ = types_text form (slice_index tally.sink.tally.counts.counts) true 0 256 in
    let middle : List ℕ = middle_text form in
    let events : List ℕ = events_text form true tally.sink.events.events.items in
    let tail : List ℕ = tail_text form in
    rw (p.1, p.2) (text_then contents failures head (types ++ (middle ++ (events ++ tail))) c.args.out.now c.write_head.new.out c.write_text.new.out (Err c.in_err-write_text.field-0.0)
    (subst (λ text. WritesText contents failures text c.args.out.now (Ok tt) c.write_head.new.out) (ap (head_text form) c.summary.ensures) c.in_ok-write_head.ensures)
    (text_then contents failures types (middle ++ (events ++ tail)) c.write_head.new.out c.write_types.new.out c.write_text.new.out (Err c.in_err-write_text.field-0.0)
    c.in_ok-write_types.ensures
    (text_fails contents failures middle (events ++ tail) c.write_types.new.out c.write_text.new.out c.in_err-write_text.field-0.0 (subst (λ text. WritesText contents failures text c.write_types.new.out (Err c.in_err-write_text.field-0.0) c.write_text.new.out) c.middle_text.ensures.text c.in_err-write_text.ensures))))

pub returns-in_err-write_events : goal.returns-in_err-write_events
returns-in_err-write_events g c =
    let p = err_from_is_err_and c.from_residual-in_err-write_events.result c.from_residual-in_err-write_events.ensures.1 in
    let contents = g.W.CountedWrite.contents in
    let failures = g.W.CountedWrite.failures in
    let tally = c.args.tally.now in
    let form = c.args.form in
    let head : List ℕ = head_text form (summary_by tally.cursor tally.sink.market tally.sink.tally) in
    let types : List ℕ = types_text form (slice_index tally.sink.tally.counts.counts) true 0 256 in
    let middle : List ℕ = middle_text form in
    let events : List ℕ = events_text form true tally.sink.events.events.items in
    let tail : List ℕ = tail_text form in
    rw (p.1, p.2) (text_then contents failures head (types ++ (middle ++ (events ++ tail))) c.args.out.now c.write_head.new.out c.write_events.new.out (Err c.in_err-write_events.field-0.0)
    (subst (λ text. WritesText contents failures text c.args.out.now (Ok tt) c.write_head.new.out) (ap (head_text form) c.summary.ensures) c.in_ok-write_head.ensures)
    (text_then contents failures types (middle ++ (events ++ tail)) c.write_head.new.out c.write_types.new.out c.write_events.new.out (Err c.in_err-write_events.field-0.0)
    c.in_ok-write_types.ensures
    (text_then contents failures middle (events ++ tail) c.write_types.new.out c.write_text.new.out c.write_events.new.out (Err c.in_err-write_events.field-0.0)
    (subst (λ text. WritesText contents failures text c.write_types.new.out (Ok tt) c.write_text.new.out) c.middle_text.ensures.text c.in_ok-write_text.ensures)
    (text_fails contents failures events tail c.write_text.new.out c.write_events.new.out c.in_err-write_events.field-0.0 (subst (λ text. WritesText contents failures text c.write_text.new.out (Err c.in_err-write_events.field-0.0) c.write_events.new.out) (ap (events_text form true) c.as_slice.ensures.value) c.in_err-write_events.ensures)))))

pub returns : goal.returns
returns g c =
    let contents = g.W.CountedWrite.contents in
    let failures = g.W.CountedWrite.failures in
    let tally = c.args.tally.now in
    let form = c.args.form in
    let head : List ℕ = head_text form (summary_by tally.cursor tally.sink.market tally.sink.tally) in
    let types : List ℕ = types_text form (slice_index tally.sink.tally.counts.counts) true 0 256 in
    let middle : List ℕ = middle_text form in
    let events : List ℕ = events_text form true tally.sink.events.events.items in
    let tail : List ℕ = tail_text form in
    (text_then contents failures head (types ++ (middle ++ (events ++ tail))) c.args.out.now c.write_head.new.out c.write_text-2.new.out c.write_text-2.result
    (subst (λ text. WritesText contents failures text c.args.out.now (Ok tt) c.write_head.new.out) (ap (head_text form) c.summary.ensures) c.in_ok-write_head.ensures)
    (text_then contents failures types (middle ++ (events ++ tail)) c.write_head.new.out c.write_types.new.out c.write_text-2.new.out c.write_text-2.result
    c.in_ok-write_types.ensures
    (text_then contents failures middle (events ++ tail) c.write_types.new.out c.write_text.new.out c.write_text-2.new.out c.write_text-2.result
    (subst (λ text. WritesText contents failures text c.write_types.new.out (Ok tt) c.write_text.new.out) c.middle_text.ensures.text c.in_ok-write_text.ensures)
    (text_then contents failures events tail c.write_text.new.out c.write_events.new.out c.write_text-2.new.out c.write_text-2.result
    (subst (λ text. WritesText contents failures text c.write_text.new.out (Ok tt) c.write_events.new.out) (ap (events_text form true) c.as_slice.ensures.value) c.in_ok-write_events.ensures)
    (subst (λ text. WritesText contents failures text c.write_events.new.out c.write_text-2.result c.write_text-2.new.out) c.tail_text.ensures.text c.write_text-2.ensures)))))
