-- The lines that `show --orders` has written of a part of a day.
use Rattle.std.proofs.Common.{Bool, ◌≡◌, ℕ, ◌+◌, ◌-◌, ◌^◌, ◌≤◌, ◌<◌, List, [], ◌∷◌, ◌++◌, length, map, take, Option, Result, Ok, Err, None, Some, option_map, inl, inr, refl, sym, ap, subst, ◌∙◌, arith, length-append, if◌then◌else◌}
use Rattle.std.specs.List.{AllByRecursion}
use Rattle.std.specs.Io.KnownBytes.{Appends, Consumes}
use Rattle.std.specs.declared.io.Error.{Error}
use Rattle.std.proofs.KnownBytes.{Appends-nil}
use Rattle.itch_book.specs.declared.order.Order.{Order}
use Rattle.itch_codec.specs.Messages.{message_of}
use Rattle.itch_codec.specs.declared.message.Message.{Message}
use Rattle.itch_codec.specs.declared.message.Message.TheVariants as is
use Rattle.itch_frame.specs.Blocks.{blocks, IsFull}
use Rattle.itch_frame.specs.Reading.{Reading, bytes_left, passed}
use Rattle.itch_frame.specs.Counting.{failed}
use Rattle.itch_frame.specs.declared.reader.BlockStage.TheVariants.{Cut, Ended}
use Rattle.itch_frame.specs.declared.fault.FrameFault.{FrameFault}
use Rattle.itch_frame.specs.declared.fault.FrameFault.TheVariants.{Read, Truncated, Write, TooLong}
use Rattle.itch_frame.specs.declared.tally.Failures.{Failures}
use Rattle.itch_frame.proofs.BlockLemmas.{consumed_more, each-push}
use Rattle.itch_frame.proofs.Writes.{Appends-more}
use Rattle.itch_day.specs.Limits.{IsBefore, IsNotLate}
use Rattle.itch_day.specs.Parts.{Counts as CountsPart, IsNext, Leaves, ReadsPart, StopsAt, Takes}
use Rattle.itch_day.specs.Passing.{left_by}
use Rattle.itch_day.specs.Sinks.{TakesAll}
use Rattle.itch_day.specs.declared.limit.Limit.{Limit}
use Rattle.itch_day.specs.declared.stop.PartStop.{PartStop as Part}
use Rattle.itch_day.specs.declared.stop.PartStop.TheVariants as part
use Rattle.itch_day.proofs.PassedBlocks.{cut_not_going, is_not_going, never_next, passed_going, passed_off, passed_reader}
use Rattle.itch_day.proofs.Progress.{takes_both}
use Rattle.itch_join.proofs.Premises.{laid_empty}
use Rattle.itch_market.specs.Content.{Content, empty, laid}
use Rattle.itch_market.specs.DayMessages.{AreTaken}
use Rattle.itch_market.specs.DayParts.{TakesEarly}
use Rattle.itch_market.specs.Effects.{effect}
use Rattle.itch_market.specs.GoodMarkets.{IsGood}
use Rattle.itch_market.specs.Replays.{LeavesReaderFirst}
use Rattle.itch_market.specs.Runs.{after, run}
use Rattle.itch_market.specs.Takings.{RefusesMessage, TakesMessage, reason_of}
use Rattle.itch_market.specs.declared.refused.Refused.{Refused}
use Rattle.itch_market.specs.declared.refused.Refused.TheVariants as refused
use Rattle.itch_market.specs.declared.stop.Stop.{Stop}
use Rattle.itch_market.specs.declared.stop.Stop.TheVariants as stop
use Rattle.itch_market.proofs.AppliedMessages.{are_applied}
use Rattle.itch_market.proofs.DayParts.{takes_early}
use Rattle.itch_market.proofs.GoodMarkets.{empty_good}
use Rattle.itch_market.proofs.LaidMarkets.{get-laid}
use Rattle.itch_market.proofs.ReplayProgress.{taken_on}
use Rattle.itch_commands.specs.Choices.{Chosen, chosen_after, chosen_past, is_chosen}
use Rattle.itch_commands.specs.FirstDifferences.{IsRefusedAfter}
use Rattle.itch_commands.specs.ListedOrders.{LeavesMessage, ListsMessage, ListsFirst, ListsPart, answer_of}
use Rattle.itch_commands.specs.OrdersBehind.{behind, left_of, line_behind, line_in, line_past, lines_of_day, lines_over, order_behind, stock_at}
use Rattle.itch_commands.specs.Outputs.{Wrote}
use Rattle.itch_commands.specs.Readings.{ReadsDay, stopped}
use Rattle.itch_commands.specs.Showing.{ended_show}
use Rattle.itch_commands.specs.Lookup.{are_found}
use Rattle.itch_commands.specs.declared.fault.Source.TheVariants.{Only}
use Rattle.itch_commands.specs.declared.fault.ToolFault.{ToolFault}
use Rattle.itch_commands.specs.declared.fault.ToolFault.TheVariants as tool
use Rattle.itch_commands.specs.declared.form.OrderForm.{OrderForm}
use Rattle.itch_commands.specs.declared.show.orders.sink.Unlisted.{Unlisted}
use Rattle.itch_commands.specs.declared.show.orders.sink.Unlisted.TheVariants as unlisted
use Rattle.itch_commands.proofs.FirstDifferences.{stopped_count}
use Rattle.itch_commands.proofs.ReadParts.{all_by, refused_by, taken_by, whole_by}
use Rattle.itch_commands.proofs.ShownLines.{past_none, past_on}

-- the order behind a reference is the same in a market with its orders in snapshot order
order_laid : (m : Content) (reference : ℕ) (taken : Option ℕ) → IsGood m → order_behind (laid m) reference taken ≡ order_behind m reference taken
order_laid m reference taken good =
    ap (option_map (λ (x : Order). record { order = x; stock = stock_at m x.locate; left = left_of taken x.shares })) (get-laid m reference good)

-- and so is the order behind a message
pub behind-laid : (m : Content) (x : Message) → IsGood m → behind (laid m) x ≡ behind m x
behind-laid m (is.SystemEvent x) good = refl
behind-laid m (is.StockDirectory x) good = refl
behind-laid m (is.TradingAction x) good = refl
behind-laid m (is.RegSho x) good = refl
behind-laid m (is.Halt x) good = refl
behind-laid m (is.Position x) good = refl
behind-laid m (is.AddOrder x) good = refl
behind-laid m (is.AttributedAddOrder x) good = refl
behind-laid m (is.OrderExecuted x) good = order_laid m x.reference (Some x.shares) good
behind-laid m (is.OrderExecutedWithPrice x) good = order_laid m x.execution.reference (Some x.execution.shares) good
behind-laid m (is.OrderCancel x) good = order_laid m x.reference (Some x.shares) good
behind-laid m (is.OrderDelete x) good = order_laid m x.reference None good
behind-laid m (is.OrderReplace x) good = order_laid m x.original None good
behind-laid m (is.Trade x) good = refl
behind-laid m (is.CrossTrade x) good = refl
behind-laid m (is.BrokenTrade x) good = refl
behind-laid m (is.End next) good = refl
behind-laid m (is.Other payload) good = refl

-- so its line is the same
line_laid : (form : OrderForm) (chosen : Chosen) (m n : Content) (number : ℕ) (x : Message) → IsGood m → n ≡ laid m → line_in form chosen n number x ≡ line_in form chosen m number x
line_laid form chosen m n number x good same =
    ap (λ k. line_in form chosen k number x) same
    ∙ ap (λ order. line_behind form number x (if is_chosen chosen x then order else None)) (behind-laid m x good)

no_lines : (form : OrderForm) (chosen : Chosen) (m : Content) (number : ℕ) → lines_over form chosen m number [] ≡ []
unfolding lines_over
no_lines form chosen m number = refl

one_line : (form : OrderForm) (chosen : Chosen) (m : Content) (number : ℕ) (x : Message) (xs : List Message)
    → lines_over form chosen m number (x ∷ xs) ≡ line_in form chosen m number x ++ lines_over form (chosen_after chosen x) (effect m x) (number + 1) xs
unfolding lines_over
one_line form chosen m number x xs = refl

module _ {W T N M : Type 0} (contents : W → Option (List ℕ)) (failures : W → Failures) (at : T → W) (name : T → N) (choice_name : T → M) (form : T → OrderForm)
    (market : T → Content) (choice : T → Chosen) where
  -- the sink lends the same values
  abbrev pub SameNames : T → T → Type 0
  SameNames s t = (name t ≡ name s) × (choice_name t ≡ choice_name s)

  -- a market that writes to the values that it lends
  abbrev pub Listed : T → ℕ → List ℕ → T → Type 0
  Listed s number payload t =
      (name t ≡ name s) × (choice_name t ≡ choice_name s) × (form t ≡ form s)
      × ListsMessage contents failures (form s) number payload (market s) (choice s) (at s) (market t) (choice t) (at t)

  abbrev pub Left : T → ℕ → List ℕ → Unlisted → T → Type 0
  Left s number payload why t =
      (name t ≡ name s) × (choice_name t ≡ choice_name s)
      × LeavesMessage contents failures (form s) number payload (market s) (choice s) (at s) why (market t) (at t)

  -- the lines of these payloads were written; the first has this number
  record AreListed (s : T) (m : Content) (number : ℕ) (ps : List (List ℕ)) (t : T) : Type 0 where
    pub named : SameNames s t
    pub formed : form t ≡ form s
    pub chosen : choice t ≡ chosen_past (choice s) (map message_of ps)
    pub wrote : Wrote contents failures (lines_over (form s) (choice s) m number (map message_of ps)) (at s) (at t)
    pub left : market t ≡ laid (after m (map message_of ps))
    pub good : IsGood (after m (map message_of ps))

  are_listed : (s t : T) (m : Content) (count : ℕ) (ps : List (List ℕ)) → IsGood m → market s ≡ laid m → TakesAll Listed s count ps t → AreListed s m (count + 1) ps t
  are_listed s t m count [] good same takes = record {
    named = (ap name takes, ap choice_name takes);
    formed = ap form takes;
    chosen = ap choice takes ∙ past_none (choice s);
    wrote = subst (λ x. Wrote contents failures (lines_over (form s) (choice s) m (count + 1) []) (at s) (at x)) (sym takes)
        (subst (λ bytes. Wrote contents failures bytes (at s) (at s)) (sym (no_lines (form s) (choice s) m (count + 1))) (Appends-nil (contents (at s)), refl));
    left = ap market takes ∙ same;
    good = good;
  }
  are_listed s t m count (p ∷ ps) good same (mid, (named, chosen_named, formed, ((clean, fits, took), (bytes, uncounted), next)), rest) =
      let (none, left, still) = taken_on m (market s) (market mid) p good same clean fits took in
      let x = message_of p in
      let xs = map message_of ps in
      let later = are_listed mid t (effect m x) (count + 1) ps still left rest in
      let line = line_in (form s) (choice s) m (count + 1) x in
      let others : lines_over (form mid) (choice mid) (effect m x) (count + 1 + 1) xs ≡ lines_over (form s) (chosen_after (choice s) x) (effect m x) (count + 1 + 1) xs =
      ap (λ f. lines_over f (choice mid) (effect m x) (count + 1 + 1) xs) formed ∙ ap (λ c. lines_over (form s) c (effect m x) (count + 1 + 1) xs) next in
      record {
        named = (later.named.0 ∙ named, later.named.1 ∙ chosen_named);
        formed = later.formed ∙ formed;
        chosen = later.chosen ∙ ap (λ c. chosen_past c xs) next ∙ past_on (choice s) x xs;
        wrote = (
          subst (Appends (contents (at s)) (contents (at t))) (ap (λ ys. line ++ ys) others ∙ sym (one_line (form s) (choice s) m (count + 1) x xs))
              (Appends-more (contents (at s)) (contents (at mid)) (contents (at t)) line (lines_over (form mid) (choice mid) (effect m x) (count + 1 + 1) xs)
              (subst (Appends (contents (at s)) (contents (at mid))) (line_laid (form s) (choice s) m (market s) (count + 1) x good same) bytes) later.wrote.0),
          later.wrote.1 ∙ uncounted,
        );
        left = later.left;
        good = later.good;
      }

  -- the messages that it takes are those that its market takes
  market_all : (s t : T) (count : ℕ) (ps : List (List ℕ)) → TakesAll Listed s count ps t → TakesAll TakesMessage (market s) count ps (market t)
  market_all s t count [] same = ap market same
  market_all s t count (p ∷ ps) (mid, (named, chosen_named, formed, (took, written, next)), rest) = (market mid, took, market_all mid t (count + 1) ps rest)

  module _ {R : Type 0} (remaining : R → Option (List ℕ)) (failed_reads : R → Failures) (limit : Limit) (old new : Reading R) (count : ℕ) (s last t : T) (ps : List (List ℕ))
      (first : market s ≡ empty) (taken : Takes remaining Listed limit old new 0 count s last ps) (few : count ≤ 10 ^ 19 - 1) where
    listed : AreListed s empty 1 ps last
    listed = are_listed s last empty 0 ps empty_good (first ∙ sym laid_empty) taken.taken

    number : length ps ≡ count
    number = omega (arith, taken.counted)

    from_empty : TakesAll TakesMessage empty 0 ps (market last)
    from_empty = subst (λ m. TakesAll TakesMessage m 0 ps (market last)) first (market_all s last 0 ps taken.taken)

    -- the result then, and the state afterwards
    abbrev Returns : Reading R → Result Bool ToolFault → Type 0
    Returns left result = ListsPart contents failures remaining failed_reads limit (form s) (choice s) old left (at s) result (at t)

    -- whether all stocks were found
    abbrev found : Bool
    found = are_found (Chosen.stocks (choice t))

    abbrev Stays : Type 0
    Stays = (old.stage ≡ Ended → (length ps ≡ 0) × (new ≡ old)) × (old.stage ≡ Cut → (length ps ≡ 0) × (new ≡ old))

    abbrev Stops : Part Unlisted → Type 0
    Stops why = StopsAt remaining Left limit count new last why t

    -- for the market this was one reading
    abbrev Reads : Part Refused → Content → Type 0
    Reads why n = ReadsPart remaining failed_reads TakesMessage RefusesMessage limit old new 0 count empty why n

    abbrev reads_by : (why : Part Refused) (n : Content) → StopsAt remaining RefusesMessage limit count new (market last) why n → Leaves old (length ps) why new
        → CountsPart why (failed_reads old.reader) (failed_reads new.reader) → Reads why n
    reads_by why n stops leaves counts = record {
      payloads = ps;
      last = market last;
      taken = record { bytes = taken.bytes; full = taken.full; early = taken.early; wanted = taken.wanted; taken = from_empty; counted = taken.counted };
      stops = stops;
      leaves = leaves;
      counts = counts;
    }

    -- the lines of all messages taken are written
    wrote_to : at t ≡ at last → Wrote contents failures (lines_of_day (form s) (choice s) ps) (at s) (at t)
    wrote_to kept = subst (Wrote contents failures (lines_of_day (form s) (choice s) ps) (at s)) (sym kept) listed.wrote

    all : (left : Reading R) → t ≡ last → ReadsDay remaining failed_reads Only limit old left (Ok ps) → Returns left (Ok found)
    all left same reads = (
      ps,
      reads,
      wrote_to (ap at same),
      ap (λ x. are_found (Chosen.stocks (choice x))) same ∙ ap (λ c. are_found (Chosen.stocks c)) listed.chosen,
    )

    taken_of : (n : Content) (why : Part Refused) → Reads why n → (qs : List (List ℕ)) (to : Option (List ℕ)) (k : ℕ) → TakesEarly limit empty (bytes_left remaining old) to k qs n → AreTaken limit qs
    taken_of n why reads qs to k (takes, counted, within, early) =
        record { full = takes.full; taken = takes.none; few = omega (arith, counted, within); early = early }

    -- the day is refused there, after these lines
    until : (why : Part Refused) (n : Content) (because : Stop) (fault : ToolFault) (reads : Reads why n) → reads.payloads ≡ ps → reason_of why ≡ Some because → stopped because limit.after Only count ≡ Err fault
        → IsRefusedAfter remaining failed_reads Only limit old (left_by why new) fault ps
    until why n because fault reads these is returns = record {
      refused = refused_by remaining failed_reads Only limit old new count n few why reads because fault is returns;
      counted = stopped_count because limit.after Only count fault returns ∙ ap Some (sym number);
      taken = subst (AreTaken limit) these (taken_of n why reads reads.payloads (bytes_left remaining new) count (taken_by remaining failed_reads Only limit old new count n few why reads));
      front = (bytes_left remaining new, taken.bytes);
    }

    at_full : Stops part.Full → Leaves {F = Unlisted} old (length ps) part.Full new → failed_reads new.reader ≡ failed_reads old.reader → Returns new (Ok found)
    at_full (same, most) leaves counts =
        all new same (all_by remaining failed_reads Only limit old new count (market t) few part.Full (reads_by part.Full (market t) (ap market same, most) leaves counts) refl)

    at_late : Stops part.Late → Stays → failed_reads new.reader ≡ failed_reads old.reader → Returns (passed new) (Ok found)
    at_late (same, before, late) stays counts =
        all (passed new) same (all_by remaining failed_reads Only limit old new count (market t) few part.Late (reads_by part.Late (market t) (ap market same, before, late) stays counts) refl)

    at_end : (wanted : Option ℕ) → limit.after ≡ wanted → Stops part.End → Stays → failed_reads new.reader ≡ failed_reads old.reader → Returns (passed new) (ended_show wanted count found)
    at_end None whole (same, before, end) stays counts =
        all (passed new) same (whole_by remaining failed_reads Only limit old new count (market t) few (reads_by part.End (market t) (ap market same, before, end) stays counts) whole)
    at_end (Some most) part_of (same, before, end) stays counts = (
      ps,
      until part.End (market t) stop.End (tool.Short Only count) (reads_by part.End (market t) (ap market same, before, end) stays counts) refl refl
          (ap (λ wanted. stopped stop.End wanted Only count) part_of),
      wrote_to (ap at same),
    )

    at_frame : (why : FrameFault) → Stops (part.Frame why) → Stays → CountsPart {F = Unlisted} (part.Frame why) (failed_reads old.reader) (failed_reads new.reader)
        → Returns new (Err (tool.Stopped Only (record { count = count; stop = stop.Frame why })))
    at_frame (Truncated held) (same, before, cut, is_held, some) stays counts = (
      ps,
      until (part.Frame (Truncated held)) (market t) (stop.Frame (Truncated held)) (tool.Stopped Only (record { count = count; stop = stop.Frame (Truncated held) }))
          (reads_by (part.Frame (Truncated held)) (market t) (ap market same, before, cut, is_held, some) stays counts) refl refl refl,
      wrote_to (ap at same),
    )
    at_frame (Read error) (same, before, going) stays counts = (
      ps,
      until (part.Frame (Read error)) (market t) (stop.Frame (Read error)) (tool.Stopped Only (record { count = count; stop = stop.Frame (Read error) }))
          (reads_by (part.Frame (Read error)) (market t) (ap market same, before, going) stays counts) refl refl refl,
      wrote_to (ap at same),
    )
    at_frame (Write sent error) never stays counts = absurd never
    at_frame TooLong never stays counts = absurd never

    at_many : Stops part.TooMany → Stays → failed_reads new.reader ≡ failed_reads old.reader → Returns (passed new) (Err (tool.Stopped Only (record { count = count; stop = stop.TooManyMessages })))
    at_many (same, before, many) stays counts = (
      ps,
      until part.TooMany (market t) stop.TooManyMessages (tool.Stopped Only (record { count = count; stop = stop.TooManyMessages }))
          (reads_by part.TooMany (market t) (ap market same, before, many) stays counts) refl refl refl,
      wrote_to (ap at same),
    )

    module _ (p : List ℕ) (next : IsNext new p) (some : IsFull p) (few_before : count < 10 ^ 19 - 1) (early : IsNotLate limit p) (before : IsBefore limit count) (stays : Stays)
        (counts : failed_reads new.reader ≡ failed_reads old.reader) where
      -- the market refuses the next message
      at_refused : (why : Refused) (because : Stop) → reason_of (part.Refused why) ≡ Some because → stopped because limit.after Only count ≡ Err (tool.Stopped Only (record { count = count; stop = because }))
          → RefusesMessage (market last) (count + 1) p why (market t) → at t ≡ at last → Returns (passed new) (Err (tool.Stopped Only (record { count = count; stop = because })))
      at_refused why because is returns refuses kept = (
        ps,
        until (part.Refused why) (market t) because (tool.Stopped Only (record { count = count; stop = because }))
            (reads_by (part.Refused why) (market t) (before, (p, next, some, few_before, early, refuses)) stays counts) refl is returns,
        wrote_to kept,
      )

      -- its line is that of a market with its orders in any order
      line_is : line_in (form last) (choice last) (market last) (count + 1) (message_of p) ≡ line_past (form s) (choice s) ps p
      line_is =
          ap (λ f. line_in f (choice last) (market last) (count + 1) (message_of p)) listed.formed
          ∙ ap (λ c. line_in (form s) c (market last) (count + 1) (message_of p)) listed.chosen
          ∙ line_laid (form s) (chosen_past (choice s) (map message_of ps)) (run (map message_of ps)) (market last) (count + 1) (message_of p) listed.good listed.left
          ∙ ap (λ k. line_in (form s) (chosen_past (choice s) (map message_of ps)) (run (map message_of ps)) (k + 1) (message_of p)) (sym number)

      pushed : length (ps ++ p ∷ []) ≡ count + 1
      pushed = let one = length-append ps (p ∷ []) in omega (arith, one, number)

      -- or its line could not be written
      unwritten : (error : Error) → LeavesMessage contents failures (form last) (count + 1) p (market last) (choice last) (at last) (unlisted.Write error) (market t) (at t)
          → Returns (passed new) (Err (tool.Write error))
      unwritten error (took, (sent, within, bytes, unfailed)) =
          let all_taken : TakesAll TakesMessage empty 0 (ps ++ p ∷ []) (market t) =
          takes_both TakesMessage empty (market last) (market t) 0 count ps (p ∷ []) from_empty taken.counted (market t, took, refl) in
          let off : Consumes (bytes_left remaining old) (bytes_left remaining (passed new)) (blocks (ps ++ p ∷ [])) =
          consumed_more (bytes_left remaining old) (bytes_left remaining new) (bytes_left remaining (passed new)) ps p taken.bytes (passed_off new remaining p next) in
          let (takes, counted, within_all, all_early) = takes_early remaining limit old (passed new) (count + 1) empty (market t) (market t) (ps ++ p ∷ [])
          (are_applied empty empty (market t) 0 (ps ++ p ∷ []) empty_good (sym laid_empty) all_taken) off (each-push IsFull ps p taken.full some)
          (each-push (IsNotLate limit) ps p taken.early early) pushed (omega (arith, few_before)) refl in (
            ps,
            p,
            record { full = takes.full; taken = takes.none; few = omega (arith, counted, within_all); early = all_early },
            off,
            (
              sent,
              subst (λ line. sent < length line) line_is within,
              subst (λ line. Appends (contents (at s)) (contents (at t)) (lines_of_day (form s) (choice s) ps ++ take sent line)) line_is
                  (Appends-more (contents (at s)) (contents (at last)) (contents (at t)) (lines_of_day (form s) (choice s) ps) _ listed.wrote.0 bytes),
              unfailed ∙ ap (failed error) listed.wrote.1,
            ),
            ap failed_reads (passed_reader new) ∙ counts,
            (
              λ none. absurd (omega (arith, none)),
              λ more. (
                ap (λ (r : Reading R). r.held) (passed_going new next.1),
                ap (λ (r : Reading R). r.stage) (passed_going new next.1),
                never_next old new (length ps) Ended is_not_going next.1 stays.0,
                never_next old new (length ps) Cut cut_not_going next.1 stays.1,
              ),
            ),
          )

      at_left : (why : Unlisted) → Left last (count + 1) p why t → Returns (passed new) (answer_of limit.after count found (part.Refused why))
      at_left (unlisted.Refused (refused.Codec f)) (named, chosen_named, (refuses, kept)) = at_refused (refused.Codec f) (stop.Codec f) refl refl refuses kept
      at_left (unlisted.Refused (refused.Rule f)) (named, chosen_named, (refuses, kept)) = at_refused (refused.Rule f) (stop.Rule f) refl refl refuses kept
      at_left (unlisted.Write error) (named, chosen_named, unable) = unwritten error unable

    returns_so : (why : Part Unlisted) → Stops why → Leaves old (length ps) why new → CountsPart why (failed_reads old.reader) (failed_reads new.reader)
        → Returns (left_by why new) (answer_of limit.after count found why)
    returns_so part.Full stops leaves counts = at_full stops leaves counts
    returns_so part.Late stops stays counts = at_late stops stays counts
    returns_so part.End stops stays counts = at_end limit.after refl stops stays counts
    returns_so (part.Frame why) stops stays counts = at_frame why stops stays counts
    returns_so part.TooMany stops stays counts = at_many stops stays counts
    returns_so (part.Refused why) (before, (p, next, some, few_before, early, left)) stays counts = at_left p next some few_before early before stays counts why left

    still : t ≡ last → SameNames s t
    still same = (ap name same ∙ listed.named.0, ap choice_name same ∙ listed.named.1)

    named_so : (why : Part Unlisted) → Stops why → SameNames s t
    named_so part.Full (same, most) = still same
    named_so part.Late (same, before, next) = still same
    named_so part.End (same, before, next) = still same
    named_so (part.Frame (Truncated held)) (same, before, cut, is_held, some) = still same
    named_so (part.Frame (Read error)) (same, before, going) = still same
    named_so (part.Frame (Write sent error)) never = absurd never
    named_so (part.Frame TooLong) never = absurd never
    named_so part.TooMany (same, before, next) = still same
    named_so (part.Refused why) (before, (p, next, some, few_before, early, (named, chosen_named, unlisted))) =
        (named ∙ listed.named.0, chosen_named ∙ listed.named.1)

  -- the outcome of reading a part into such a market: its output, its result and its state
  pub listed_part : {R : Type 0} (remaining : R → Option (List ℕ)) (failed_reads : R → Failures) (limit : Limit) (old new : Reading R) (count : ℕ) (s t : T) (why : Part Unlisted) → market s ≡ empty
      → ReadsPart remaining failed_reads Listed Left limit old new 0 count s why t → count ≤ 10 ^ 19 - 1
      → SameNames s t
      × ListsPart contents failures remaining failed_reads limit (form s) (choice s) old (left_by why new) (at s) (answer_of limit.after count (are_found (Chosen.stocks (choice t))) why) (at t)
  listed_part remaining failed_reads limit old new count s t why first reads few = (
    named_so remaining failed_reads limit old new count s reads.last t reads.payloads first reads.taken few why reads.stops,
    returns_so remaining failed_reads limit old new count s reads.last t reads.payloads first reads.taken few why reads.stops reads.leaves reads.counts,
  )
