-- The input, the output and the result of each command, for a reader of bytes and for a reader of blocks alike.
use Rattle.std.specs.Prelude.{◌≡◌, ℕ, Bool, true, List, Option, None, is_none, Result}
use Rattle.itch_frame.specs.declared.tally.Failures.{Failures}
use Rattle.itch_market.specs.Content.{Content}
use Rattle.itch_market.specs.Wanted.{Wanted}
use Rattle.itch_commands.specs.declared.fault.Source.TheVariants.{Only, First, Second}
use Rattle.itch_commands.specs.declared.fault.ToolFault.{ToolFault}
use Rattle.itch_commands.specs.Books.{ReadsEntry, ReadsListed, books_of, lines_at, wanted_by}
use Rattle.itch_commands.specs.Canons.{ChecksSnap, canonical_line}
use Rattle.itch_commands.specs.Choices.{Chosen}
use Rattle.itch_commands.specs.Comparing.{ReadsBoth, PartsAt}
use Rattle.itch_commands.specs.Expectations.{Meets}
use Rattle.itch_commands.specs.FirstDifferences.{FindsFirst, first_line}
use Rattle.itch_commands.specs.Forms.{count_line_of, verdict_line}
use Rattle.itch_commands.specs.Joining.{Start, ReadsStart, ReadsFeed, HasRoom, joined, joined_market, joined_next}
use Rattle.itch_commands.specs.Outputs.{Outputs, directory_after, snapshot_in, stocks_snapshot, closed_bytes}
use Rattle.itch_commands.specs.Files.{ReadsFile}
use Rattle.itch_commands.specs.Showing.{IfFound, closed_lines, closed_found}
use Rattle.itch_commands.specs.Stocks.{ReadsStocks, has_one_of, only_stocks}
use Rattle.itch_commands.specs.Readings.{From, ReadsDay, ReadsSnap, Then}
use Rattle.itch_commands.specs.declared.expected.Expectations.{Expectations}
use Rattle.itch_commands.specs.declared.feed_part.FeedPart.{FeedPart}
use Rattle.itch_commands.specs.declared.form.BookForm.{BookForm}
use Rattle.itch_commands.specs.declared.form.BookForm.TheVariants.{Text}
use Rattle.itch_commands.specs.declared.form.ReportForm.{ReportForm}
use Rattle.itch_commands.specs.declared.form.ShowForm.{ShowForm}
use Rattle.itch_commands.specs.declared.kind.FileKind.{FileKind}
use Rattle.itch_day.specs.declared.limit.Limit.{Limit}

module _ {R W : Type 0} (remaining : R → Option (List ℕ)) (failed_reads : R → Failures) (contents : W → Option (List ℕ)) (failed_writes : W → Failures) where
  -- `check`: the number of messages in a day file, or in its part, which meets the expectations
  abbrev pub Checks : ReportForm → Limit → Expectations → From R (List (List ℕ)) → W → Result Bool ToolFault → W → Type 0
  Checks form limit expected from =
      Outputs contents failed_writes (from (λ old new. Meets expected (ReadsDay remaining failed_reads Only limit old new))) (count_line_of form) (λ _. true)

  -- `snap`: the snapshot after the messages of a day file, or of its part; restricted to a set, if there is one
  abbrev pub Snaps : Limit → Option Wanted → From R (List (List ℕ)) → W → Result Bool ToolFault → W → Type 0
  Snaps limit set from = Outputs contents failed_writes (from (ReadsDay remaining failed_reads Only limit)) (snapshot_in set) (λ _. true)

  -- `snap --stock`: the same restricted to the locates that have one of these stocks; the final directory must have each of them
  abbrev pub SnapsStocks : Limit → List (List ℕ) → From R (List (List ℕ)) → W → Result Bool ToolFault → W → Type 0
  SnapsStocks limit names from =
      Outputs contents failed_writes (from (λ old new. ReadsStocks directory_after names (ReadsDay remaining failed_reads Only limit old new))) (stocks_snapshot names) (λ _. true)

  -- `book`: the prices of a locate in the market after a file
  abbrev pub ListsBook : ℕ → FileKind → From R (Content × ℕ) → W → Result Bool ToolFault → W → Type 0
  ListsBook locate kind from =
      Outputs contents failed_writes (from (λ old new. ReadsEntry locate (ReadsFile remaining failed_reads Only kind old new)))
      (λ done. lines_at Text None done.0 locate) (λ _. true)

  -- `book`: the prices of the locates of a set, or of the whole directory, in the market after a file; for each side as many as requested
  abbrev pub ListsBooks : BookForm → Option Wanted → Option ℕ → FileKind → From R (Content × ℕ) → W → Result Bool ToolFault → W → Type 0
  ListsBooks form only depth kind from =
      Outputs contents failed_writes (from (λ old new. ReadsListed only (ReadsFile remaining failed_reads Only kind old new)))
      (λ done. books_of form depth (wanted_by only) done.0) (λ _. true)

  -- `book --stock`: the same for the locates that have one of these stocks; the directory must have each of them
  abbrev pub ListsStocks : BookForm → List (List ℕ) → Option ℕ → FileKind → From R (Content × ℕ) → W → Result Bool ToolFault → W → Type 0
  ListsStocks form names depth kind from =
      Outputs contents failed_writes (from (λ old new. ReadsStocks (λ (done : Content × ℕ). Content.securities done.0) names (ReadsFile remaining failed_reads Only kind old new)))
      (λ done. books_of form depth (has_one_of (Content.securities done.0) names) done.0) (λ _. true)

  -- `show` of a snapshot file: the chosen lines of its snapshot in canonical form; each of the stocks searched for must be found
  abbrev pub ShowsSnapshot : ShowForm → Chosen → From R (Content × ℕ) → W → Result Bool ToolFault → W → Type 0
  ShowsSnapshot form chosen from out result out' =
      IfFound (λ found. Outputs contents failed_writes (from (ReadsSnap remaining failed_reads Only)) (closed_lines form chosen) (closed_found chosen) out found out') result

  -- `canon`: a snapshot in canonical form
  abbrev pub WritesCanon : From R (Content × ℕ) → W → Result Bool ToolFault → W → Type 0
  WritesCanon from = Outputs contents failed_writes (from (ReadsSnap remaining failed_reads Only)) closed_bytes (λ _. true)

  -- `canon --check`: whether a snapshot file is in canonical form
  abbrev pub ChecksCanon : From R Bool → W → Result Bool ToolFault → W → Type 0
  ChecksCanon from = Outputs contents failed_writes (from (ChecksSnap remaining failed_reads)) canonical_line (λ canonical. canonical)

module _ {R S W : Type 0} (remaining : R → Option (List ℕ)) (failed_reads : R → Failures) (remaining_then : S → Option (List ℕ)) (failed_then : S → Failures)
    (contents : W → Option (List ℕ)) (failed_writes : W → Failures) where
  -- `compare`: the place where the markets after two files of a kind differ
  abbrev pub Compares : ReportForm → FileKind → From R (Option ℕ) → From S (Option ℕ) → W → Result Bool ToolFault → W → Type 0
  Compares form kind first second =
      Outputs contents failed_writes (first (λ a b. second (λ c d.
      PartsAt (ReadsBoth (ReadsFile remaining failed_reads First kind a b) (d ≡ c) (ReadsFile remaining_then failed_then Second kind c d))))) (verdict_line form) is_none

  -- `compare --first`: the number of messages of each after which the markets of two day files, or of the same part of both, first differ
  abbrev pub ComparesFirst : ReportForm → Limit → From R (Option ℕ) → From S (Option ℕ) → W → Result Bool ToolFault → W → Type 0
  ComparesFirst form limit first second =
      Outputs contents failed_writes (first (λ a b. second (λ c d. FindsFirst remaining failed_reads remaining_then failed_then limit a b c d))) (first_line form) is_none

  -- `join`: the snapshot after a snapshot and the requested part of the feed that continues it, with payloads read in this way
  abbrev pub Joins : (List ℕ → List ℕ) → FeedPart → From R (Start × List (List ℕ)) → From S (Start × List (List ℕ)) → W → Result Bool ToolFault → W → Type 0
  Joins read part snapshot feed =
      Outputs contents failed_writes (snapshot (λ a b. feed (λ c d.
      HasRoom part.before (Then (ReadsStart read remaining failed_reads a b) (d ≡ c) (ReadsFeed read remaining_then failed_then part c d))))) (λ both. closed_bytes (joined part.before both)) (λ _. true)

  -- `join --stock`: the same restricted to the locates that have one of these stocks; the final directory must have each of them
  abbrev pub JoinsStocks : (List ℕ → List ℕ) → FeedPart → List (List ℕ) → From R (Start × List (List ℕ)) → From S (Start × List (List ℕ)) → W → Result Bool ToolFault → W → Type 0
  JoinsStocks read part names snapshot feed =
      Outputs contents failed_writes (snapshot (λ a b. feed (λ c d.
      ReadsStocks (λ (both : Start × List (List ℕ)). Content.securities (joined_market part.before both.0 both.1)) names (HasRoom part.before (Then (ReadsStart read remaining failed_reads a b) (d ≡ c) (ReadsFeed read remaining_then failed_then part c d))))))
      (λ both. closed_bytes (only_stocks names (joined_market part.before both.0 both.1), joined_next part.before both.0 both.1)) (λ _. true)
