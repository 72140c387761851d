-- The blocks of the Stock Directory messages among some messages.
use Rattle.std.proofs.Common.{◌≡◌, ℕ, ◌+◌, Bool, List, [], ◌∷◌, ◌++◌, length, map, None, refl, sym, ap, subst, ◌∙◌, if◌then◌else◌}
use Rattle.std.specs.List.{AllByRecursion}
use Rattle.std.proofs.lemmas.List.{append-nil, append_assoc}
use Rattle.itch_book.proofs.Lists.{by_test}
use Rattle.itch_codec.specs.Layouts.{stock_directory}
use Rattle.itch_codec.specs.Messages.{IsLaid, Spells, fault, message_of}
use Rattle.itch_codec.specs.Values.{stock_directory_values}
use Rattle.itch_codec.specs.declared.message.Message.{Message}
use Rattle.itch_codec.specs.declared.message.Message.TheVariants as is
use Rattle.itch_codec.specs.declared.stocks.StockDirectory.{StockDirectory}
use Rattle.itch_codec.proofs.Spelling.{Spells-message_of}
use Rattle.itch_frame.specs.Blocks.{IsFull, IsPayload, block, blocks}
use Rattle.itch_day.specs.DayCursors.{cursor_after, cursor_past}
use Rattle.itch_day.specs.declared.cursor.DayCursor.{DayCursor}
use Rattle.itch_day.specs.Sinks.{TakesAll}
use Rattle.itch_commands.specs.Choices.{directory_of}
use Rattle.itch_commands.specs.Further.{AreListed}
use Rattle.itch_commands.specs.Showing.{IsClean}
use Rattle.itch_offsets.specs.Passes.{TakesEntry, entries, is_entry, kept_block}

-- the payload of a Stock Directory message has 39 bytes
pub entry_length : (payload : List ℕ) (entry : StockDirectory) → fault payload ≡ None → is.StockDirectory entry ≡ message_of payload → length payload ≡ 39
entry_length payload entry clean same =
    let laid : IsLaid stock_directory (stock_directory_values entry) payload = subst (λ (m : Message). Spells m payload) (sym same) (Spells-message_of payload clean) in
    laid.size

first_entry : (p : List ℕ) (ps : List (List ℕ)) → blocks (entries (p ∷ ps)) ≡ kept_block p ++ blocks (entries ps)
unfolding entries
first_entry p ps =
    let others : List (List ℕ) = entries ps in
    by_test (is_entry p)
    (λ entry. ap (λ b. blocks (if b then p ∷ others else others)) entry ∙ sym (ap (λ b. (if b then block p else []) ++ blocks others) entry))
    (λ other. ap (λ b. blocks (if b then p ∷ others else others)) other ∙ sym (ap (λ b. (if b then block p else []) ++ blocks others) other))

no_entries : blocks (entries []) ≡ []
unfolding entries
no_entries = refl

-- the blocks that are kept of messages that pass
pub kept_of_all : (old : List ℕ) (count : ℕ) (ps : List (List ℕ)) (new : List ℕ) → TakesAll TakesEntry old count ps new
    → AllByRecursion IsClean ps × (new ≡ old ++ blocks (entries ps))
kept_of_all old count [] new same = (tt, same ∙ sym (append-nil old) ∙ ap (λ b. old ++ b) (sym no_entries))
kept_of_all old count (p ∷ ps) new (mid, (clean, kept), rest) =
    let others = kept_of_all mid (count + 1) ps new rest in (
      (clean, others.0),
      others.1 ∙ ap (λ b. b ++ blocks (entries ps)) kept ∙ append_assoc old (kept_block p) (blocks (entries ps)) ∙ ap (λ b. old ++ b) (sym (first_entry p ps)),
    )

-- the messages of these payloads are the directory of the messages
pub entries_messages : (ps : List (List ℕ)) → map message_of (entries ps) ≡ directory_of (map message_of ps)
unfolding entries directory_of
entries_messages [] = refl
entries_messages (p ∷ ps) =
    let rest = entries_messages ps in
    by_test (is_entry p)
    (λ entry.
    ap (λ b. map message_of (if b then p ∷ entries ps else entries ps)) entry
    ∙ ap (λ l. message_of p ∷ l) rest
    ∙ sym (ap (λ b. if b then message_of p ∷ directory_of (map message_of ps) else directory_of (map message_of ps)) entry))
    (λ other.
    ap (λ b. map message_of (if b then p ∷ entries ps else entries ps)) other
    ∙ rest
    ∙ sym (ap (λ b. if b then message_of p ∷ directory_of (map message_of ps) else directory_of (map message_of ps)) other))

pub entries_append : (ps qs : List (List ℕ)) → entries (ps ++ qs) ≡ entries ps ++ entries qs
unfolding entries
entries_append [] qs = refl
entries_append (p ∷ ps) qs =
    let rest = entries_append ps qs in
    by_test (is_entry p)
    (λ entry.
    ap (λ b. if b then p ∷ entries (ps ++ qs) else entries (ps ++ qs)) entry
    ∙ ap (λ l. p ∷ l) rest
    ∙ sym (ap (λ b. (if b then p ∷ entries ps else entries ps) ++ entries qs) entry))
    (λ other.
    ap (λ b. if b then p ∷ entries (ps ++ qs) else entries (ps ++ qs)) other
    ∙ rest
    ∙ sym (ap (λ b. (if b then p ∷ entries ps else entries ps) ++ entries qs) other))

each_entry : (P Q : List ℕ → Type 0) → ((p : List ℕ) → P p → Q p) → (ps : List (List ℕ)) → AllByRecursion P ps → AllByRecursion Q (entries ps)
unfolding entries
each_entry P Q so [] all = tt
each_entry P Q so (p ∷ ps) all =
    let rest = each_entry P Q so ps all.1 in
    by_test (is_entry p)
    (λ entry. subst (λ (b : Bool). AllByRecursion Q (if b then p ∷ entries ps else entries ps)) (sym entry) (so p all.0, rest))
    (λ other. subst (λ (b : Bool). AllByRecursion Q (if b then p ∷ entries ps else entries ps)) (sym other) rest)

-- the blocks that are kept can be looked up in
pub are_listed : (ps : List (List ℕ)) → AllByRecursion IsFull ps → AllByRecursion IsClean ps → AreListed (entries ps) (blocks (entries ps))
are_listed ps full clean = record { whole = refl; each = each_entry IsFull IsPayload (λ p full. full.1) ps full; clean = each_entry IsClean IsClean (λ p clean. clean) ps clean }

-- the cursor after some messages and others
pub cursor_append : (cursor : DayCursor) (ps qs : List (List ℕ)) → cursor_after (cursor_after cursor ps) qs ≡ cursor_after cursor (ps ++ qs)
cursor_append cursor [] qs = refl
cursor_append cursor (p ∷ ps) qs = cursor_append (cursor_past cursor p) ps qs
