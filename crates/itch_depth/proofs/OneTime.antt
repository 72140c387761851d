-- `book` with one time, and without.
use Rattle.std.proofs.Common.{◌↔◌, ℕ, Bool, List, Option, Result}
use Rattle.itch_frame.specs.Reading.{Reading}
use Rattle.itch_frame.specs.declared.tally.Failures.{Failures}
use Rattle.itch_day.specs.declared.limit.Limit.{Limit}
use Rattle.itch_market.specs.Wanted.{Wanted}
use Rattle.itch_commands.specs.Books.{books_of}
use Rattle.itch_commands.specs.Requests.{PerformsBook}
use Rattle.itch_commands.specs.declared.fault.ToolFault.{ToolFault}
use Rattle.itch_commands.specs.declared.form.BookForm.{BookForm}
use Rattle.itch_commands.specs.declared.kind.FileKind.TheVariants.{Day}
use Rattle.itch_commands.specs.declared.selection.Selection.{Selection}
use Rattle.itch_commands.specs.declared.selection.Selection.TheVariants.{All, Locates, Stocks}
use Rattle.itch_depth.specs.Series.{ListsPart}

-- with its own lines it is `book` of that part
pub one_part : {R W : Type 0} (remaining : R → Option (List ℕ)) (failed_reads : R → Failures) (contents : W → Option (List ℕ)) (failed_writes : W → Failures)
    (form : BookForm) (depth : Option ℕ) (selection : Selection) (set : Option Wanted) (limit : Limit) (first now : Reading R) (old new : W) (result : Result Bool ToolFault)
    → ListsPart remaining failed_reads contents failed_writes (books_of form depth) selection set limit first now old result new
    ↔ PerformsBook remaining failed_reads contents failed_writes form selection set depth (Day limit) first now old result new
one_part remaining failed_reads contents failed_writes form depth All set limit first now old new result = (λ one. one, λ one. one)
one_part remaining failed_reads contents failed_writes form depth (Locates list) set limit first now old new result = (λ one. one, λ one. one)
one_part remaining failed_reads contents failed_writes form depth (Stocks names) set limit first now old new result = (λ one. one, λ one. one)
