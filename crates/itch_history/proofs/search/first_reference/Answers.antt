use Rattle.std.proofs.Common.{sym, ap, subst, ◌∙◌}
use Rattle.itch_history.specs.Histories.{first_by}
use Rattle.itch_history.specs.Searches.{Searches, answer_of}
use Rattle.itch_history.specs.declared.finder.Finder.{Finder}
use Rattle.itch_history.proofs.Searches.{searches}
use Rattle.itch_history.proofs.search.first_reference.Goals as goal

pub returns : goal.returns
returns g c =
    let Finders = Finder g.row.B.Denot in
    let remaining = g.R.CountedRead.remaining in
    let failures = g.R.CountedRead.failures in
    let read = c.read_part-stop in
    let found = searches (λ (s : Finders). s.number) (λ (s : Finders). s.replacements.items) remaining failures c.args.limit c.args.reader.now read.new.reader read.new.count c.new-finder.result read.new.sink read.result
    c.new-finder.ensures.replacements read.ensures.reads read.ensures.few in
    let answered = c.answer.ensures ∙ ap (λ rs. answer_of (first_by rs) c.args.limit.after read.new.count read.result) c.deref.ensures.value in
    subst (λ n. Searches remaining failures n c.args.limit c.args.reader.now read.new.reader c.answer.result) c.new-finder.ensures.number
    (subst (λ r. Searches remaining failures c.new-finder.result.number c.args.limit c.args.reader.now read.new.reader r) (sym answered) found)
